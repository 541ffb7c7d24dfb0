-- A Forward that is sent.
use Rattle.std.proofs.Common.{◌≡◌, ℕ, ◌≤◌, Bool, true, false, ◌==◌, ◌||◌, if◌then◌else◌, List, [], ◌∷◌, ◌++◌, length, Option, Some, None, arith, refl, ap, ◌∙◌, sym, subst}
use Rattle.std.proofs.lemmas.Bool.Decides.{nat_tests}
use Rattle.lload_names.specs.declared.names.OpName.{OpName}
use Rattle.lload_names.specs.declared.names.OpKind.{OpKind}
use Rattle.lload_names.specs.declared.names.OpKind.TheVariants.{Bind}
use Rattle.lload_names.specs.declared.names.ConnKind.{ConnKind}
use Rattle.lload_names.specs.declared.names.ConnKind.TheVariants.{Bind as BindKind}
use Rattle.lload_names.specs.declared.names.PartName.{PartName}
use Rattle.lload_names.specs.declared.names.PartName.TheVariants.{Up as Connection}
use Rattle.lload_names.specs.declared.names.Letter.TheVariants.{Forward}
use Rattle.lload_names.specs.declared.names.What.TheVariants as what
use Rattle.lload_names.specs.Same.{is_kind}
use Rattle.lload_spec.specs.Settings.{Settings}
use Rattle.lload_spec.specs.Identifiers.{id_for}
use Rattle.id_table.specs.declared.row.Row.{Row}
use Rattle.id_table.specs.Rows.{put, sent_row}
use Rattle.id_table.specs.Table.{IsTable, gave, passes_limit}
use Rattle.part_spec.specs.Marked.{Taken}
use Rattle.part_spec.specs.Inputs.{Act, act, entries_of, marked_by}
use Rattle.part_spec.specs.ConnectionState.{ConnectionState, UpRow, is_stopped, step_connections}
use Rattle.part_spec.specs.ConnectionTurn.{giving, retires}
use Rattle.part_spec.specs.BindTurn.{forwards, missed_letters}
use Rattle.outbox.specs.declared.outbox.Outbox.{Outbox}
use Rattle.conn_core.specs.Conn.{Conn, state_of, IsSound}
use Rattle.conn_core.specs.Kept.{open_rows}
use Rattle.conn_core.specs.Closing.{given_whats, retired_letters}
use Rattle.conn_core.specs.Did.{Did}
use Rattle.conn_core.proofs.Rows.{fresh, first-le}
use Rattle.conn_core.proofs.Plain.{rows-put}
use Rattle.bind_conn.specs.Part.{Knows, IsOneBind, state}
use Rattle.bind_conn.specs.declared.part.BindPart.{BindPart}
use Rattle.bind_conn.proofs.Known.{knows-from}
use Rattle.conn_core.proofs.Giving.{giving-is, retires-is, passes-given}

three : (p : ConnectionState) (r t : Bool) (xs ys : List UpRow) (h k : Option OpName) → r ≡ t → xs ≡ ys → h ≡ k → record p { retired = r; rows = xs; holder = h } ≡ record p { retired = t; rows = ys; holder = k }
three p r t xs ys h k e f g = ap (λ b. record p { retired = b; rows = xs; holder = h }) e ∙ ap (λ l. record p { retired = t; rows = l; holder = h }) f ∙ ap (λ o. record p { retired = t; rows = ys; holder = o }) g

held : (k : ConnKind) (h : OpName) → k ≡ BindKind → Some h ≡ (if is_kind BindKind k then Some h else None)
held k h e = sym (ap (λ (x : ConnKind). if is_kind BindKind x then Some h else None) e)

module _ (s : Settings) (c : Conn) (had lost : Option OpName) (at : ℕ) (sender : PartName) (op : OpName) (kind : OpKind) (ask : Bool) (rest : List ℕ) (holder : OpName) (bind : c.kind ≡ BindKind) (sound : IsSound c) where
  abbrev p : ConnectionState
  p = state_of c None had lost []

  abbrev mark : Option Taken
  mark = Some (record { sender = sender; letter = Forward op kind rest ask holder })

  abbrev d : Conn
  d = record c { moment = at; table = gave op kind ask at c.table }

  sent-state : (b : Bool) → passes_limit d.table ≡ (if b then true else passes_limit c.table) → state_of d None (Some holder) lost [] ≡ step_connections s p (marked_by mark (entries_of (Connection c.number) at (given_whats b (what.Sent (id_for c.table.ids) op rest))))
  sent-state true e = three (state_of (record c { moment = at; table = gave op kind ask at c.table }) None (Some holder) lost []) _ true _ _ _ _ e (sym (rows-put (sent_row (id_for c.table.ids) op kind ask at) c.table.rows (fresh c.table sound.table))) (held c.kind holder bind)
  sent-state false e = three (state_of (record c { moment = at; table = gave op kind ask at c.table }) None (Some holder) lost []) _ (passes_limit c.table) _ _ _ _ e (sym (rows-put (sent_row (id_for c.table.ids) op kind ask at) c.table.rows (fresh c.table sound.table))) (held c.kind holder bind)

-- what is appended, and the state behind it
pub sent-did : (s : Settings) (b : BindPart) (w : Conn) (o q : Outbox) (at : ℕ) (sender : PartName) (op : OpName) (kind : OpKind) (ask : Bool) (rest : List ℕ) (holder : OpName) (id : ℕ) → Knows s b → passes_limit b.core.table ≡ false → b.core.down ≡ false → id ≡ id_for b.core.table.ids → w ≡ record b.core { moment = at; table = gave op kind ask at b.core.table } → q.entries.items ≡ o.entries.items ++ entries_of (Connection b.core.number) at (given_whats (id == b.core.table.limit) (what.Sent id op rest)) → q.letters.items ≡ o.letters.items ++ retired_letters b.core.number (id == b.core.table.limit) → Did s (state b) at (Some (record { sender = sender; letter = Forward op kind rest ask holder })) (forwards s (state b) op rest holder) o q (state_of w None (Some holder) b.lost [])
sent-did s b w o q at sender op kind ask rest holder id k going there is new entries letters =
    let p : ConnectionState = state b in
    let i : ℕ = id_for b.core.table.ids in
    let limit : ℕ = b.core.table.limit in
    let stays : is_stopped p ≡ false = ap (λ x. x || b.core.down) going ∙ there in
    let a : forwards s p op rest holder ≡ act (giving s i (what.Sent i op rest)) (retires s p i) = ap (λ (x : Bool). let y : Act = elim x [ true ↦ act (what.Missed op ∷ []) (missed_letters p op holder) | false ↦ act (giving s i (what.Sent i op rest)) (retires s p i) ] in y) stays in
    let whats : (forwards s p op rest holder).whats ≡ given_whats (i == limit) (what.Sent i op rest) = ap (λ (x : Act). x.whats) a ∙ giving-is s i limit (what.Sent i op rest) k.agrees.limit in
    let told : (forwards s p op rest holder).letters ≡ retired_letters b.core.number (i == limit) = ap (λ (x : Act). x.letters) a ∙ retires-is s p i limit k.agrees.limit in
    record {
      entries = entries ∙ ap (λ n. o.entries.items ++ entries_of (Connection b.core.number) at (given_whats (n == limit) (what.Sent n op rest))) is ∙ sym (ap (λ ws. o.entries.items ++ entries_of (Connection b.core.number) at ws) whats);
      letters = letters ∙ ap (λ n. o.letters.items ++ retired_letters b.core.number (n == limit)) is ∙ sym (ap (λ ls. o.letters.items ++ ls) told);
      behind =
          ap (λ (x : Conn). state_of x None (Some holder) b.lost []) new
          ∙ sent-state s b.core b.holder b.lost at sender op kind ask rest holder k.steady.kind k.steady.sound (i == limit) (passes-given limit b.core.table.ids.next i (first-le b.core.table.ids k.steady.sound.table.ids))
          ∙ sym (ap (λ ws. step_connections s p (marked_by (Some (record { sender = sender; letter = Forward op kind rest ask holder })) (entries_of (Connection b.core.number) at ws))) whats);
    }

-- and what is known behind it
pub sent-knows : (s : Settings) (b : BindPart) (w : Conn) (at : ℕ) (op holder : OpName) (kind : OpKind) (ask : Bool) → passes_limit b.core.table ≡ false → b.core.linked ≡ true → kind ≡ Bind → b.core.table.rows ≡ [] → w ≡ record b.core { moment = at; table = gave op kind ask at b.core.table } → IsTable w.table → Knows s b → Knows s (record b { core = w; holder = Some holder })
sent-knows s b w at op holder kind ask going linked is_bind none new table k =
    let r : Row = sent_row (id_for b.core.table.ids) op kind ask at in
    let size : length (open_rows (put r b.core.table.rows)) ≡ 1 = ap (λ (l : List Row). length (open_rows (put r l))) none in
    let below : b.core.table.ids.next ≤ b.core.table.limit = grind (arith, nat_tests, going) in
    let first = first-le b.core.table.ids k.steady.sound.table.ids in
    let least = k.steady.sound.table.least in
    knows-from s b w at b.core.linked b.core.up b.core.down (gave op kind ask at b.core.table) (Some holder) b.lost new table refl (λ h. absurd (let bad : true ≡ false = sym linked ∙ h in cc)) (subst (λ (l : List Row). IsOneBind (put r l)) (sym none) (is_bind, refl)) (omega (arith, size, below, first, least)) k
