-- A last answer, and messages that end the connection.
use Rattle.std.proofs.Common.{◌≡◌, ℕ, ◌+◌, ◌*◌, ◌≤◌, arith, Bool, true, false, ◌==◌, ◌&&◌, not, if◌then◌else◌, List, [], ◌∷◌, ◌++◌, length, Option, Some, None, refl, ap, ◌∙◌, sym, subst}
use Rattle.std.proofs.lemmas.Bool.Decides.{nat_tests}
use Rattle.ldap_spec.specs.Messages.{Message}
use Rattle.ldap_spec.specs.Tags.{success, bind_response, extended_response}
use Rattle.ldap_spec.specs.Kinds.{fits, is_final, tag_of}
use Rattle.ldap_spec.specs.Responses.{has_code}
use Rattle.lload_names.specs.declared.names.OpName.{OpName}
use Rattle.lload_names.specs.declared.names.EndWhy.TheVariants.{OwnBind as OwnBindFailed, Bad as BadEnd}
use Rattle.lload_names.specs.declared.names.PartName.TheVariants.{Desk, Up as Connection}
use Rattle.lload_names.specs.declared.names.Letter.TheVariants.{Ended}
use Rattle.lload_names.specs.declared.names.What.TheVariants as what
use Rattle.lload_spec.specs.Settings.{Settings}
use Rattle.lload_spec.specs.Owed.{latency_between}
use Rattle.lload_spec.specs.Identifiers.{with_freed}
use Rattle.lload_spec.specs.BadMessages as bad
use Rattle.std.specs.Prelude.{find}
use Rattle.id_table.specs.declared.row.Row.{Row}
use Rattle.id_table.specs.Rows.{row_of, without}
use Rattle.id_table.specs.Table.{Table, IsTable, finished_at}
use Rattle.part_spec.specs.Marked.{Taken}
use Rattle.part_spec.specs.Inputs.{Act, act, nothing, also, reply, to, entries_of}
use Rattle.part_spec.specs.ConnectionState.{ConnectionState, is_under, is_under_own, message_facts, with_got}
use Rattle.part_spec.specs.ConnectionTurn.{ended, latency, goes_down, comes_up}
use Rattle.part_spec.specs.RegularTurn.{message, own_answer, answered, row_answer}
use Rattle.outbox.specs.declared.outbox.Outbox.{Outbox}
use Rattle.conn_core.specs.Conn.{Conn, state_of}
use Rattle.conn_core.specs.Did.{Did}
use Rattle.conn_core.specs.Kept.{up_row, open_rows, ArePlain, EachOnce}
use Rattle.conn_core.proofs.Rows.{without-length}
use Rattle.upstream_conn.specs.Part.{Knows, OwnIsGiven, state, up_wait, under_own}
use Rattle.conn_core.specs.Dropped.{is_dropped}
use Rattle.upstream_conn.specs.Told.{told_of, own_told}
use Rattle.upstream_conn.specs.declared.part.OwnWait.{OwnWait}
use Rattle.upstream_conn.specs.declared.part.UpstreamPart.{UpstreamPart}
use Rattle.upstream_conn.specs.declared.told.Told.TheVariants.{Last}
use Rattle.upstream_conn.specs.declared.told.OwnTold.TheVariants as told
use Rattle.upstream_conn.proofs.Sound.{once-without, plain-without, open-plain}
use Rattle.upstream_conn.proofs.Messages.{told-last, id-is, under-own-is, for-own-is, got-own}
use Rattle.upstream_conn.proofs.Meets.{message-good, message-bad, fit-good, some-answered, row-answers, got-last, got-none, stray-bad}
use Rattle.upstream_conn.proofs.Gots.{own_by, own-good}

pub row-id : (id : ℕ) (rows : List Row) (r : Row) → row_of id rows ≡ Some r → r.id ≡ id
row-id id rows r h = let e = id-is id rows r h in grind (arith, nat_tests, e)

-- the table without a row whose identifier is free
pub finished-is : (id : ℕ) (t : Table) (r : Row) → row_of id t.rows ≡ Some r → finished_at id t ≡ record t { rows = without id t.rows; ids = with_freed (r.id ∷ []) t.ids }
finished-is id t r h =
    ap (λ (o : Option Row). let u : Table = elim o [ None ↦ t | Some x ↦ record t { rows = without id t.rows; ids = with_freed (id ∷ []) t.ids } ] in u) h
    ∙ ap (λ n. record t { rows = without id t.rows; ids = with_freed (n ∷ []) t.ids }) (sym (row-id id t.rows r h))

pub finish-did : (s : Settings) (u : UpstreamPart) (o q : Outbox) (at id lat : ℕ) (rest : List ℕ) (r : Row) (op : OpName) (mark : Option Taken) → Knows s u → row_of id u.core.table.rows ≡ Some r → r.op ≡ op → lat ≡ latency_between r.sent at → told_of r.kind rest ≡ Last → under_own id u.own ≡ false → q.entries.items ≡ o.entries.items ++ entries_of (Connection u.core.number) at (what.Got id rest ∷ []) → q.letters.items ≡ o.letters.items ++ (reply op rest true None ++ to Desk (Ended op u.core.number (Some lat))) → Did s (state u) at mark (message (state u) at (record { id = id; rest = rest })) o q (state (record u { core = record u.core { moment = at; table = finished_at id u.core.table } }))
finish-did s u o q at id lat rest r op mark k found named late told other entries letters =
    let m : Message = record { id = id; rest = rest } in
    let t = told-last (fits r.kind rest) (is_final r.kind rest) told in
    let a : Act = act [] (reply r.op rest true None ++ ended (state u) r.op (latency at (up_row r))) in
    let is : message (state u) at m ≡ also (act (what.Got id rest ∷ []) []) a = message-good u.core u.own u.waiting at m k.steady.plain other a (fit-good u.core u.own u.waiting at m k.steady.plain other r found t.0) (some-answered u.core u.own u.waiting at m k.steady.plain other r found ∙ row-answers u.core u.own u.waiting at m k.steady.plain other r found true t.1) in
    subst (λ (x : Act). Did s (state u) at mark x o q (state (record u { core = record u.core { moment = at; table = finished_at id u.core.table } }))) (sym is) (record {
      entries = entries;
      letters =
          letters
          ∙ sym (ap (λ (n : OpName). o.letters.items ++ (reply n rest true None ++ to Desk (Ended n u.core.number (Some lat)))) named)
          ∙ ap (λ n. o.letters.items ++ (reply r.op rest true None ++ to Desk (Ended r.op u.core.number (Some n)))) late;
      behind =
          ap (λ (x : Table). state (record u { core = record u.core { moment = at; table = x } })) (finished-is id u.core.table r found)
          ∙ sym (ap (λ (x : ConnectionState). record x { moment = at }) (got-last u.core u.own u.waiting at m k.steady.plain other r found k.steady.sound.table.rises told));
    })

-- what is known, where a row went
pub row-gone : (s : Settings) (u : UpstreamPart) (w : Conn) (at id : ℕ) (t : Table) → w ≡ record u.core { moment = at; table = t } → IsTable w.table → t.rows ≡ without id u.core.table.rows → t.limit ≡ u.core.table.limit → (u.core.linked ≡ false → t.ids.next ≡ 1) → length (without id u.core.table.rows) + t.ids.next ≤ 2 * u.core.table.limit + 1 → Knows s u → Knows s (record u { core = w })
row-gone s u w at id t new table rows limit begun within k =
    let is_plain : ArePlain t.rows = subst ArePlain (sym rows) (plain-without id u.core.table.rows k.steady.plain) in
    let size : length (open_rows t.rows) ≡ length t.rows = ap (length {A = Row}) (open-plain t.rows is_plain) in
    let same : length t.rows ≡ length (without id u.core.table.rows) = ap (length {A = Row}) rows in
    subst (λ (x : Conn). Knows s (record u { core = x })) (sym new) (record {
      fits = record { agrees = record { limit = k.fits.agrees.limit ∙ sym limit; timeout = k.fits.agrees.timeout }; placed = k.fits.placed; request = k.fits.request };
      steady = record {
        kind = k.steady.kind;
        sound = record {
          table = subst (λ (x : Conn). IsTable x.table) new table;
          begun = begun;
          once = subst EachOnce (sym rows) (once-without id u.core.table.rows k.steady.sound.once);
          within = omega (arith, size, same, limit, within);
        };
        plain = is_plain;
        own = own_same u.own k.steady.own;
        fresh = k.steady.fresh;
        unlinked = k.steady.unlinked;
        idle = λ h. rows ∙ ap (without id) (k.steady.idle h);
      };
    })
  where
    own_same : (o : Option OwnWait) → OwnIsGiven u.core o → OwnIsGiven (record u.core { moment = at; table = t }) o
    own_same None h = h
    own_same (Some x) h = h

pub finish-knows : (s : Settings) (u : UpstreamPart) (w : Conn) (at id : ℕ) (r : Row) → row_of id u.core.table.rows ≡ Some r → w ≡ record u.core { moment = at; table = finished_at id u.core.table } → IsTable w.table → Knows s u → Knows s (record u { core = w })
finish-knows s u w at id r found new table k =
    let less = without-length id u.core.table.rows in
    let was : length (open_rows u.core.table.rows) ≡ length u.core.table.rows = ap (length {A = Row}) (open-plain u.core.table.rows k.steady.plain) in
    let within = k.steady.sound.within in
    row-gone s u w at id (record u.core.table { rows = without id u.core.table.rows; ids = with_freed (r.id ∷ []) u.core.table.ids })
    (new ∙ ap (λ (x : Table). record u.core { moment = at; table = x }) (finished-is id u.core.table r found)) table refl refl k.steady.sound.begun (omega (arith, less, was, within)) k

-- The own Bind, refused or answered by another message.

refused : (t h : Bool) → own_by t h ≡ told.Refused → (t ≡ true) × (h ≡ false)
refused false h e = absurd (let bad : told.Unfit ≡ told.Refused = e in cc)
refused true true e = absurd (let bad : told.Success ≡ told.Refused = e in cc)
refused true false e = (refl, refl)

unfit : (t h : Bool) → own_by t h ≡ told.Unfit → t ≡ false
unfit false h e = refl
unfit true true e = absurd (let bad : told.Success ≡ told.Unfit = e in cc)
unfit true false e = absurd (let bad : told.Refused ≡ told.Unfit = e in cc)

own-bad : (ign f y w : Bool) → ign ≡ false → f ≡ true → y ≡ true → (if ign then false else if f then y else w) ≡ true
own-bad false true y w h k v = v
own-bad true f y w h k v = absurd (let bad : true ≡ false = h in cc)
own-bad false false y w h k v = absurd (let bad : false ≡ true = k in cc)

own-id : (id : ℕ) (c : Conn) (o : Option OwnWait) → OwnIsGiven c o → under_own id o ≡ true → (id == 0) ≡ false
own-id id c None g h = absurd (let bad : false ≡ true = h in cc)
own-id id c (Some w) g h = grind (arith, nat_tests, g.0, h)

module _ (u : UpstreamPart) (at id : ℕ) (rest : List ℕ) (own : under_own id u.own ≡ true) where
  abbrev p : ConnectionState
  p = state u

  abbrev m : Message
  m = record { id = id; rest = rest }

  under : is_under_own p id ≡ true
  under = under-own-is id u.own u.core u.waiting ∙ own

  pub own-got : with_got at m p ≡ state_of u.core None None None u.waiting
  own-got = got-own u.core (up_wait u.own) u.waiting at m under

  pub refused-is : own_told rest ≡ told.Refused → message p at m ≡ also (act (what.Got id rest ∷ []) []) (goes_down p OwnBindFailed)
  refused-is h =
      let t = refused (tag_of rest == bind_response) (has_code success rest) h in
      let good : bad.is_bad (message_facts p) m ≡ false = own-good (bad.is_ignored m) (bad.is_for_own (message_facts p) m) (bad.is_bad_own m) (bad.is_bad_other (message_facts p) m) (for-own-is m u.own u.core u.waiting ∙ own) (ap not t.0) in
      ap (λ (b : Bool). let x : Act = elim b [ true ↦ goes_down p BadEnd | false ↦ answered p at m ] in also (act (what.Got id rest ∷ []) []) x) good
      ∙ ap (λ (b : Bool). let x : Act = elim b [ true ↦ own_answer p m | false ↦ elim (find (is_under id) p.rows) [ None ↦ nothing | Some r ↦ row_answer p at m r ] ] in also (act (what.Got id rest ∷ []) []) x) under
      ∙ ap (λ (b : Bool). let x : Act = elim b [ true ↦ comes_up p | false ↦ goes_down p OwnBindFailed ] in also (act (what.Got id rest ∷ []) []) x) t.1

  pub own-unfit-is : OwnIsGiven u.core u.own → own_told rest ≡ told.Unfit → message p at m ≡ also (act (what.Got id rest ∷ []) []) (goes_down p BadEnd)
  own-unfit-is given h =
      let t = unfit (tag_of rest == bind_response) (has_code success rest) h in
      let is : bad.is_bad (message_facts p) m ≡ true = own-bad (bad.is_ignored m) (bad.is_for_own (message_facts p) m) (bad.is_bad_own m) (bad.is_bad_other (message_facts p) m) (ap (λ b. b && tag_of rest == extended_response) (own-id id u.core u.own given own)) (for-own-is m u.own u.core u.waiting ∙ own) (ap not t) in
      ap (λ (b : Bool). let x : Act = elim b [ true ↦ goes_down p BadEnd | false ↦ answered p at m ] in also (act (what.Got id rest ∷ []) []) x) is

-- a message under nothing that waits, which isn't dropped
pub stray-is : (u : UpstreamPart) (at id : ℕ) (rest : List ℕ) → ArePlain u.core.table.rows → under_own id u.own ≡ false → row_of id u.core.table.rows ≡ None → is_dropped u.core.table.ids.next id rest ≡ false → (with_got at (record { id = id; rest = rest }) (state u) ≡ state u) × (message (state u) at (record { id = id; rest = rest }) ≡ also (act (what.Got id rest ∷ []) []) (goes_down (state u) BadEnd))
stray-is u at id rest plain other none kept =
    let m : Message = record { id = id; rest = rest } in (
      got-none u.core u.own u.waiting at m plain other none,
      message-bad u.core u.own u.waiting at m plain other (stray-bad u.core u.own u.waiting at m plain other none kept),
    )
