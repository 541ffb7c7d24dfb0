-- What a rule for a message makes.
use Rattle.std.proofs.Common.{◌≡◌, ℕ, arith, Bool, true, false, ◌==◌, List, [], ◌∷◌, ◌++◌, Option, Some, None, refl, ap, ◌∙◌, sym, subst}
use Rattle.std.proofs.lemmas.List.{append-nil}
use Rattle.ldap_spec.specs.Messages.{Message}
use Rattle.lload_names.specs.declared.names.PartName.TheVariants.{Up as Connection}
use Rattle.lload_names.specs.declared.names.OpName.{OpName}
use Rattle.lload_names.specs.declared.names.What.TheVariants as what
use Rattle.lload_spec.specs.Settings.{Settings}
use Rattle.id_table.specs.declared.row.Row.{Row}
use Rattle.id_table.specs.Rows.{row_of, id_of, changed, answered as answered_row}
use Rattle.id_table.specs.Table.{IsTable, touched_at}
use Rattle.part_spec.specs.Marked.{Taken}
use Rattle.part_spec.specs.Inputs.{Act, act, nothing, also, reply, entries_of}
use Rattle.part_spec.specs.ConnectionState.{ConnectionState, UpRow, is_under, is_under_own, message_facts}
use Rattle.part_spec.specs.ConnectionTurn.{comes_up, goes_down}
use Rattle.lload_spec.specs.BadMessages as bad
use Rattle.lload_names.specs.declared.names.PartName.TheVariants.{Desk}
use Rattle.lload_names.specs.declared.names.Letter.TheVariants.{IsUp}
use Rattle.lload_names.specs.declared.names.EndWhy.TheVariants.{OwnBind as OwnBindFailed, Bad as BadEnd}
use Rattle.ldap_spec.specs.Tags.{success, bind_response}
use Rattle.ldap_spec.specs.Kinds.{tag_of}
use Rattle.ldap_spec.specs.Responses.{has_code}
use Rattle.std.specs.Prelude.{find, length, IsSome, if◌then◌else◌, not}
use Rattle.std.specs.Option.{ForSome}
use Rattle.part_spec.specs.RegularTurn.{message, drops, abandons, own_answer, answered, row_answer}
use Rattle.outbox.specs.declared.outbox.Outbox.{Outbox}
use Rattle.conn_core.specs.Conn.{Conn}
use Rattle.conn_core.specs.Did.{Did}
use Rattle.conn_core.specs.Kept.{open_rows, ArePlain}
use Rattle.conn_core.proofs.Plain.{named-none}
use Rattle.conn_core.proofs.Rows.{changed-length}
use Rattle.upstream_conn.specs.Part.{Knows, OwnIsGiven, state, up_wait, under_own}
use Rattle.conn_core.specs.Dropped.{is_dropped}
use Rattle.upstream_conn.specs.Told.{told_of, own_told}
use Rattle.upstream_conn.specs.declared.part.UpstreamPart.{UpstreamPart}
use Rattle.upstream_conn.specs.declared.told.Told.TheVariants.{More}
use Rattle.upstream_conn.specs.declared.told.OwnTold.{OwnTold}
use Rattle.upstream_conn.specs.declared.told.OwnTold.TheVariants as told
use Rattle.upstream_conn.specs.declared.part.OwnWait.{OwnWait}
use Rattle.upstream_conn.proofs.Sound.{once-answered, plain-answered, open-plain}
use Rattle.upstream_conn.proofs.Messages.{told-more, for-own-is, under-own-is, got-own}
use Rattle.ldap_spec.specs.Kinds.{fits, is_final}
use Rattle.upstream_conn.proofs.Meets.{dropped-good, none-answered, message-good, got-none, fit-good, some-answered, row-answers, got-more}

pub ignore-did : (s : Settings) (u : UpstreamPart) (o q : Outbox) (at id : ℕ) (rest : List ℕ) (mark : Option Taken) → Knows s u → row_of id u.core.table.rows ≡ None → under_own id u.own ≡ false → is_dropped u.core.table.ids.next id rest ≡ true → q.entries.items ≡ o.entries.items ++ entries_of (Connection u.core.number) at (what.Got id rest ∷ []) → q.letters.items ≡ o.letters.items → Did s (state u) at mark (message (state u) at (record { id = id; rest = rest })) o q (state (record u { core = record u.core { moment = at } }))
ignore-did s u o q at id rest mark k none other drop entries letters =
    let m : Message = record { id = id; rest = rest } in
    let is : message (state u) at m ≡ also (act (what.Got id rest ∷ []) []) nothing = message-good u.core u.own u.waiting at m k.steady.plain other nothing (dropped-good u.core u.own u.waiting at m k.steady.plain other none drop) (none-answered u.core u.own u.waiting at m k.steady.plain other none) in
    subst (λ (a : Act). Did s (state u) at mark a o q (state (record u { core = record u.core { moment = at } }))) (sym is) (record {
      entries = entries;
      letters = letters ∙ sym (append-nil o.letters.items);
      behind = sym (ap (λ (x : ConnectionState). record x { moment = at }) (got-none u.core u.own u.waiting at m k.steady.plain other none));
    })

pub answer-did : (s : Settings) (u : UpstreamPart) (o q : Outbox) (at id : ℕ) (rest : List ℕ) (r : Row) (op : OpName) (mark : Option Taken) → Knows s u → row_of id u.core.table.rows ≡ Some r → r.op ≡ op → told_of r.kind rest ≡ More → under_own id u.own ≡ false → q.entries.items ≡ o.entries.items ++ entries_of (Connection u.core.number) at (what.Got id rest ∷ []) → q.letters.items ≡ o.letters.items ++ reply op rest false None → Did s (state u) at mark (message (state u) at (record { id = id; rest = rest })) o q (state (record u { core = record u.core { moment = at; table = touched_at id at u.core.table } }))
answer-did s u o q at id rest r op mark k found named told other entries letters =
    let m : Message = record { id = id; rest = rest } in
    let t = told-more (fits r.kind rest) (is_final r.kind rest) told in
    let a : Act = act [] (reply r.op rest false None) in
    let is : message (state u) at m ≡ also (act (what.Got id rest ∷ []) []) a = message-good u.core u.own u.waiting at m k.steady.plain other a (fit-good u.core u.own u.waiting at m k.steady.plain other r found t.0) (some-answered u.core u.own u.waiting at m k.steady.plain other r found ∙ row-answers u.core u.own u.waiting at m k.steady.plain other r found false t.1) in
    subst (λ (x : Act). Did s (state u) at mark x o q (state (record u { core = record u.core { moment = at; table = touched_at id at u.core.table } }))) (sym is) (record {
      entries = entries;
      letters = letters ∙ sym (ap (λ (n : OpName). o.letters.items ++ reply n rest false None) named);
      behind = sym (ap (λ (x : ConnectionState). record x { moment = at }) (got-more u.core u.own u.waiting at m k.steady.plain other r found k.steady.sound.table.rises told));
    })

-- a Drop of an operation that isn't live
pub idle-did : (s : Settings) (u : UpstreamPart) (o q : Outbox) (at : ℕ) (op : OpName) (mark : Option Taken) → id_of op u.core.table.rows ≡ None → q.entries.items ≡ o.entries.items ++ entries_of (Connection u.core.number) at (what.Idle op ∷ []) → q.letters.items ≡ o.letters.items → Did s (state u) at mark (drops s (state u) op) o q (state (record u { core = record u.core { moment = at } }))
idle-did s u o q at op mark none entries letters =
    let is : drops s (state u) op ≡ act (what.Idle op ∷ []) [] = ap (λ (x : Option UpRow). let a : Act = elim x [ None ↦ act (what.Idle op ∷ []) [] | Some r ↦ abandons s (state u) r ] in a) (named-none op u.core.table.rows none) in
    subst (λ (a : Act). Did s (state u) at mark a o q (state (record u { core = record u.core { moment = at } }))) (sym is) (record {
      entries = entries;
      letters = letters ∙ sym (append-nil o.letters.items);
      behind = refl;
    })

abbrev pub own_by : Bool → Bool → OwnTold
own_by t h = elim t [ false ↦ told.Unfit | true ↦ elim h [ true ↦ told.Success | false ↦ told.Refused ] ]

succeeded : (t h : Bool) → own_by t h ≡ told.Success → (t ≡ true) × (h ≡ true)
succeeded false h e = absurd (let bad : told.Unfit ≡ told.Success = e in cc)
succeeded true false e = absurd (let bad : told.Refused ≡ told.Success = e in cc)
succeeded true true e = (refl, refl)

pub own-good : (ign f y w : Bool) → f ≡ true → y ≡ false → (if ign then false else if f then y else w) ≡ false
own-good true f y w h k = refl
own-good false true y w h k = k
own-good false false y w h k = absurd (let bad : false ≡ true = h in cc)

-- the own Bind's success
pub success-did : (s : Settings) (u : UpstreamPart) (o q : Outbox) (at id : ℕ) (rest : List ℕ) (mark : Option Taken) → under_own id u.own ≡ true → own_told rest ≡ told.Success → q.entries.items ≡ o.entries.items ++ entries_of (Connection u.core.number) at (what.Got id rest ∷ what.Up ∷ []) → q.letters.items ≡ o.letters.items ++ record { to = Desk; letter = IsUp u.core.number } ∷ [] → Did s (state u) at mark (message (state u) at (record { id = id; rest = rest })) o q (state (record u { core = record u.core { moment = at; up = true }; own = None }))
success-did s u o q at id rest mark own h entries letters =
    let m : Message = record { id = id; rest = rest } in
    let p : ConnectionState = state u in
    let t = succeeded (tag_of rest == bind_response) (has_code success rest) h in
    let good : bad.is_bad (message_facts p) m ≡ false = own-good (bad.is_ignored m) (bad.is_for_own (message_facts p) m) (bad.is_bad_own m) (bad.is_bad_other (message_facts p) m) (for-own-is m u.own u.core u.waiting ∙ own) (ap not t.0) in
    let under : is_under_own p id ≡ true = under-own-is id u.own u.core u.waiting ∙ own in
    let ans : answered p at m ≡ comes_up p =
    ap (λ (b : Bool). let a : Act = elim b [ true ↦ own_answer p m | false ↦ elim (find (is_under m.id) p.rows) [ None ↦ nothing | Some r ↦ row_answer p at m r ] ] in a) under
    ∙ ap (λ (b : Bool). let a : Act = elim b [ true ↦ comes_up p | false ↦ goes_down p OwnBindFailed ] in a) t.1 in
    let is : message p at m ≡ also (act (what.Got id rest ∷ []) []) (comes_up p) =
    ap (λ (b : Bool). let x : Act = elim b [ true ↦ goes_down p BadEnd | false ↦ answered p at m ] in also (act (what.Got id rest ∷ []) []) x) good
    ∙ ap (λ (x : Act). also (act (what.Got id rest ∷ []) []) x) ans in
    subst (λ (a : Act). Did s p at mark a o q (state (record u { core = record u.core { moment = at; up = true }; own = None }))) (sym is) (record {
      entries = entries;
      letters = letters;
      behind = sym (ap (λ (x : ConnectionState). record x { moment = at; up = true }) (got-own u.core (up_wait u.own) u.waiting at m under));
    })

-- what is known, where an operation was answered
pub touched-knows : (s : Settings) (u : UpstreamPart) (w : Conn) (at id : ℕ) → w ≡ record u.core { moment = at; table = touched_at id at u.core.table } → IsTable w.table → Knows s u → Knows s (record u { core = w })
touched-knows s u w at id new table k =
    let rows : List Row = u.core.table.rows in
    let is_plain : ArePlain (changed (answered_row at) id rows) = plain-answered at id rows k.steady.plain in
    let size : length (open_rows (changed (answered_row at) id rows)) ≡ length (changed (answered_row at) id rows) = ap (length {A = Row}) (open-plain (changed (answered_row at) id rows) is_plain) in
    let was : length (open_rows rows) ≡ length rows = ap (length {A = Row}) (open-plain rows k.steady.plain) in
    let same = changed-length (answered_row at) id rows in
    let within = k.steady.sound.within in
    subst (λ (x : Conn). Knows s (record u { core = x })) (sym new) (record {
      fits = record { agrees = record { limit = k.fits.agrees.limit; timeout = k.fits.agrees.timeout }; placed = k.fits.placed; request = k.fits.request };
      steady = record {
        kind = k.steady.kind;
        sound = record {
          table = subst (λ (x : Conn). IsTable x.table) new table;
          begun = k.steady.sound.begun;
          once = once-answered at id rows k.steady.sound.once;
          within = omega (arith, size, was, same, within);
        };
        plain = is_plain;
        own = own_same u.own k.steady.own;
        fresh = k.steady.fresh;
        unlinked = k.steady.unlinked;
        idle = λ h. ap (changed (answered_row at) id) (k.steady.idle h);
      };
    })
  where
    own_same : (o : Option OwnWait) → OwnIsGiven u.core o → OwnIsGiven (record u.core { moment = at; table = touched_at id at u.core.table }) o
    own_same None h = h
    own_same (Some x) h = h

-- a row that is there
pub there : (o : Option Row) (P : Row → Type 0) → ForSome o P → IsSome o → (r : Row) × (o ≡ Some r) × P r
there None P f h = absurd (cc)
there (Some r) P f h = (r, refl, f r refl)
