-- A Forward that is sent.
use Rattle.std.proofs.Common.{◌≡◌, ℕ, ◌≤◌, Bool, true, false, ◌==◌, ◌||◌, if◌then◌else◌, List, [], ◌∷◌, ◌++◌, length, Option, Some, None, arith, refl, ap, ◌∙◌, sym, subst}
use Rattle.std.proofs.lemmas.Bool.Decides.{nat_tests}
use Rattle.lload_names.specs.declared.names.OpName.{OpName}
use Rattle.lload_names.specs.declared.names.OpKind.{OpKind}
use Rattle.lload_names.specs.declared.names.OpKind.TheVariants.{Bind}
use Rattle.lload_names.specs.declared.names.ConnKind.{ConnKind}
use Rattle.lload_names.specs.declared.names.ConnKind.TheVariants.{Regular, Bind as BindKind}
use Rattle.lload_names.specs.declared.names.PartName.{PartName}
use Rattle.lload_names.specs.declared.names.PartName.TheVariants.{Up as Connection}
use Rattle.lload_names.specs.declared.names.Letter.TheVariants.{Forward}
use Rattle.lload_names.specs.declared.names.What.TheVariants as what
use Rattle.lload_names.specs.Same.{same_kind, is_kind}
use Rattle.lload_spec.specs.Settings.{Settings}
use Rattle.lload_spec.specs.Identifiers.{id_for}
use Rattle.id_table.specs.declared.row.Row.{Row}
use Rattle.id_table.specs.Rows.{id_of, put, sent_row}
use Rattle.id_table.specs.Table.{IsTable, gave, passes_limit}
use Rattle.part_spec.specs.Marked.{Taken}
use Rattle.part_spec.specs.Inputs.{Act, act, entries_of, marked_by}
use Rattle.part_spec.specs.ConnectionState.{ConnectionState, UpRow, OwnWait as UpWait, is_stopped, step_connections}
use Rattle.part_spec.specs.ConnectionTurn.{giving, retires}
use Rattle.part_spec.specs.RegularTurn.{forwards}
use Rattle.outbox.specs.declared.outbox.Outbox.{Outbox}
use Rattle.conn_core.specs.Conn.{Conn, state_of, IsSound}
use Rattle.conn_core.specs.Kept.{open_rows, ArePlain}
use Rattle.conn_core.specs.Closing.{given_whats, retired_letters}
use Rattle.conn_core.specs.Did.{Did}
use Rattle.conn_core.proofs.Moments.{rises-length}
use Rattle.conn_core.proofs.Rows.{put-length, fresh, first-le}
use Rattle.conn_core.proofs.Plain.{rows-put}
use Rattle.conn_core.proofs.Giving.{giving-is, retires-is, passes-given}
use Rattle.upstream_conn.specs.Part.{Knows, OwnIsGiven, state, up_wait}
use Rattle.upstream_conn.specs.declared.part.OwnWait.{OwnWait}
use Rattle.upstream_conn.specs.declared.part.UpstreamPart.{UpstreamPart}
use Rattle.upstream_conn.proofs.Sound.{none-has, once-put, plain-put, open-plain}

-- a state in which these differ
pub three : (p : ConnectionState) (r t : Bool) (xs ys : List UpRow) (h k : Option OpName) → r ≡ t → xs ≡ ys → h ≡ k → record p { retired = r; rows = xs; holder = h } ≡ record p { retired = t; rows = ys; holder = k }
three p r t xs ys h k e f g = ap (λ b. record p { retired = b; rows = xs; holder = h }) e ∙ ap (λ l. record p { retired = t; rows = l; holder = h }) f ∙ ap (λ o. record p { retired = t; rows = ys; holder = o }) g

pub no-holder : (k : ConnKind) (h : OpName) → k ≡ Regular → None ≡ (if is_kind BindKind k then Some h else None)
no-holder k h e = sym (ap (λ (x : ConnKind). if is_kind BindKind x then Some h else None) e)

module _ (s : Settings) (c : Conn) (own : Option UpWait) (waiting : List ℕ) (at : ℕ) (sender : PartName) (op : OpName) (kind : OpKind) (ask : Bool) (rest : List ℕ) (holder : OpName) (regular : c.kind ≡ Regular) (sound : IsSound c) where
  abbrev p : ConnectionState
  p = state_of c own None None waiting

  abbrev mark : Option Taken
  mark = Some (record { sender = sender; letter = Forward op kind rest ask holder })

  abbrev the_id : ℕ
  the_id = id_for c.table.ids

  abbrev d : Conn
  d = record c { moment = at; table = gave op kind ask at c.table }

  sent-state : (b : Bool) → passes_limit d.table ≡ (if b then true else passes_limit c.table) → state_of d own None None waiting ≡ step_connections s p (marked_by mark (entries_of (Connection c.number) at (given_whats b (what.Sent the_id op rest))))
  sent-state true e = three (state_of (record c { moment = at; table = gave op kind ask at c.table }) own None None waiting) _ true _ _ _ _ e (sym (rows-put (sent_row (id_for c.table.ids) op kind ask at) c.table.rows (fresh c.table sound.table))) (no-holder c.kind holder regular)
  sent-state false e = three (state_of (record c { moment = at; table = gave op kind ask at c.table }) own None None waiting) _ (passes_limit c.table) _ _ _ _ e (sym (rows-put (sent_row (id_for c.table.ids) op kind ask at) c.table.rows (fresh c.table sound.table))) (no-holder c.kind holder regular)

-- what is appended, and the state behind it
pub sent-did : (s : Settings) (u : UpstreamPart) (w : Conn) (o q : Outbox) (at : ℕ) (sender : PartName) (op : OpName) (kind : OpKind) (ask : Bool) (rest : List ℕ) (holder : OpName) (id : ℕ) → Knows s u → passes_limit u.core.table ≡ false → u.core.down ≡ false → id ≡ id_for u.core.table.ids → w ≡ record u.core { moment = at; table = gave op kind ask at u.core.table } → q.entries.items ≡ o.entries.items ++ entries_of (Connection u.core.number) at (given_whats (id == u.core.table.limit) (what.Sent id op rest)) → q.letters.items ≡ o.letters.items ++ retired_letters u.core.number (id == u.core.table.limit) → Did s (state u) at (Some (record { sender = sender; letter = Forward op kind rest ask holder })) (forwards s (state u) op rest) o q (state_of w (up_wait u.own) None None u.waiting)
sent-did s u w o q at sender op kind ask rest holder id k going there is new entries letters =
    let p : ConnectionState = state u in
    let i : ℕ = id_for u.core.table.ids in
    let limit : ℕ = u.core.table.limit in
    let stays : is_stopped p ≡ false = ap (λ b. b || u.core.down) going ∙ there in
    let a : forwards s p op rest ≡ act (giving s i (what.Sent i op rest)) (retires s p i) = ap (λ (b : Bool). let x : Act = elim b [ true ↦ forwards s (record p { retired = true }) op rest | false ↦ act (giving s i (what.Sent i op rest)) (retires s p i) ] in x) stays in
    let whats : (forwards s p op rest).whats ≡ given_whats (i == limit) (what.Sent i op rest) = ap (λ (x : Act). x.whats) a ∙ giving-is s i limit (what.Sent i op rest) k.fits.agrees.limit in
    let told : (forwards s p op rest).letters ≡ retired_letters u.core.number (i == limit) = ap (λ (x : Act). x.letters) a ∙ retires-is s p i limit k.fits.agrees.limit in
    record {
      entries = entries ∙ ap (λ n. o.entries.items ++ entries_of (Connection u.core.number) at (given_whats (n == limit) (what.Sent n op rest))) is ∙ sym (ap (λ ws. o.entries.items ++ entries_of (Connection u.core.number) at ws) whats);
      letters = letters ∙ ap (λ n. o.letters.items ++ retired_letters u.core.number (n == limit)) is ∙ sym (ap (λ ls. o.letters.items ++ ls) told);
      behind =
          ap (λ (x : Conn). state_of x (up_wait u.own) None None u.waiting) new
          ∙ sent-state s u.core (up_wait u.own) u.waiting at sender op kind ask rest holder k.steady.kind k.steady.sound (i == limit) (passes-sent (i == limit) refl)
          ∙ sym (ap (λ ws. step_connections s p (marked_by (Some (record { sender = sender; letter = Forward op kind rest ask holder })) (entries_of (Connection u.core.number) at ws))) whats);
    }
  where
    passes-sent : (b : Bool) → (id_for u.core.table.ids == u.core.table.limit) ≡ b → passes_limit (gave op kind ask at u.core.table) ≡ (if b then true else passes_limit u.core.table)
    passes-sent b e = passes-given u.core.table.limit u.core.table.ids.next (id_for u.core.table.ids) (first-le u.core.table.ids k.steady.sound.table.ids) ∙ ap (λ (c : Bool). if c then true else passes_limit u.core.table) e

-- and what is known behind it
pub sent-knows : (s : Settings) (u : UpstreamPart) (w : Conn) (at : ℕ) (op : OpName) (kind : OpKind) (ask : Bool) → passes_limit u.core.table ≡ false → u.core.linked ≡ true → u.core.up ≡ true → same_kind Bind kind ≡ false → id_of op u.core.table.rows ≡ None → w ≡ record u.core { moment = at; table = gave op kind ask at u.core.table } → IsTable w.table → Knows s u → Knows s (record u { core = w })
sent-knows s u w at op kind ask going linked up plain none new table k =
    let r : Row = sent_row (id_for u.core.table.ids) op kind ask at in
    let rows : List Row = u.core.table.rows in
    let is_plain : ArePlain (put r rows) = plain-put r rows (record { kind = plain; kept = refl }) k.steady.plain in
    let few = rises-length 1 u.core.table.ids.next rows k.steady.sound.table.rises in
    let more = put-length r rows in
    let size : length (open_rows (put r rows)) ≡ length (put r rows) = ap (length {A = Row}) (open-plain (put r rows) is_plain) in
    let below : u.core.table.ids.next ≤ u.core.table.limit = grind (arith, nat_tests, going) in
    let first = first-le u.core.table.ids k.steady.sound.table.ids in
    subst (λ (x : Conn). Knows s (record u { core = x })) (sym new) (record {
      fits = record { agrees = record { limit = k.fits.agrees.limit; timeout = k.fits.agrees.timeout }; placed = k.fits.placed; request = k.fits.request };
      steady = record {
        kind = k.steady.kind;
        sound = record {
          table = subst (λ (x : Conn). IsTable x.table) new table;
          begun = λ h. absurd (let bad : true ≡ false = sym linked ∙ h in cc);
          once = once-put r rows (none-has op rows none) k.steady.sound.once;
          within = omega (arith, size, more, few, below, first);
        };
        plain = is_plain;
        own = own_same u.own k.steady.own;
        fresh = λ h. absurd (let bad : true ≡ false = sym linked ∙ h in cc);
        unlinked = λ h. absurd (let bad : true ≡ false = sym linked ∙ h in cc);
        idle = λ h. absurd (let bad : true ≡ false = sym up ∙ h in cc);
      };
    })
  where
    own_same : (o : Option OwnWait) → OwnIsGiven u.core o → OwnIsGiven (record u.core { moment = at; table = gave op kind ask at u.core.table }) o
    own_same None h = h
    own_same (Some x) h = h
