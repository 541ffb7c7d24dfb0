-- A live Bind that is due.
use Rattle.std.proofs.Common.{◌≡◌, ℕ, arith, Bool, true, false, ◌==◌, not, cond, if◌then◌else◌, List, [], ◌∷◌, ◌++◌, filter, map, length, Option, Some, None, refl, ap, ◌∙◌, sym, subst}
use Rattle.std.proofs.lemmas.Bool.Decides.{nat_tests}
use Rattle.std.proofs.lemmas.List.{append-nil}
use Rattle.std.specs.Prelude.{find}
use Rattle.lload_names.specs.declared.names.OpName.{OpName}
use Rattle.lload_names.specs.declared.names.OpKind.TheVariants.{Bind}
use Rattle.lload_names.specs.declared.names.EndWhy.TheVariants.{TimedOut}
use Rattle.lload_names.specs.declared.names.Refusal.TheVariants.{C5}
use Rattle.lload_names.specs.declared.names.PartName.TheVariants.{Up as Connection}
use Rattle.lload_names.specs.declared.names.What.TheVariants as what
use Rattle.lload_names.specs.Same.{same_op}
use Rattle.lload_spec.specs.Settings.{Settings}
use Rattle.lload_spec.specs.CausedUp.{is_past}
use Rattle.op_deadlines.specs.Due.{is_due as is_late}
use Rattle.id_table.specs.declared.row.Row.{Row}
use Rattle.id_table.specs.Rows.{row_of, first_id, without}
use Rattle.id_table.specs.Table.{IsTable, ended_at}
use Rattle.part_spec.specs.Inputs.{Act, act, also, nothing, failed, entries_of}
use Rattle.part_spec.specs.ConnectionState.{ConnectionState, UpRow, with_down}
use Rattle.part_spec.specs.ConnectionTurn.{goes_down, down_letters, is_due}
use Rattle.part_spec.specs.BindTurn.{ticks, expires}
use Rattle.outbox.specs.declared.outbox.Outbox.{Outbox}
use Rattle.conn_core.specs.Conn.{Conn}
use Rattle.conn_core.specs.Kept.{up_row, open_rows}
use Rattle.conn_core.specs.Did.{Did}
use Rattle.bind_conn.specs.Part.{Knows, IsOneBind, IsEarly, state}
use Rattle.bind_conn.specs.declared.part.BindPart.{BindPart}
use Rattle.bind_conn.proofs.Known.{knows-from}
use Rattle.bind_conn.proofs.Meets.{alone}
use Rattle.bind_conn.proofs.Settles.{without-is}

same-self : (op : OpName) → same_op op op ≡ true
same-self op = grind (arith, nat_tests)

-- the part without its live row
abbrev pub ended : ℕ → BindPart → BindPart
ended id b = record b { core = record b.core { table = ended_at id b.core.table } }

-- the live Bind expires
module _ (s : Settings) (b : BindPart) (at id : ℕ) (r : Row) (op : OpName) (k : Knows s b) (found : row_of id b.core.table.rows ≡ Some r) (named : r.op ≡ op) (late : is_late b.core.timeout at r.last ≡ true) where
  abbrev p : ConnectionState
  p = state b

  only : (b.core.table.rows ≡ r ∷ []) × (r.kind ≡ Bind) × ((r.id == id) ≡ true)
  only = alone id b.core.table.rows r k.steady.one found

  gone : filter (λ x. not (same_op r.op x.op)) (map up_row b.core.table.rows) ≡ []
  gone = ap (λ (l : List Row). filter (λ x. not (same_op r.op x.op)) (map up_row l)) only.0 ∙ ap (λ (t : Bool). cond (not t) (up_row r ∷ []) []) (same-self r.op)

  ticks-is : ticks s p at ≡ also (act (what.Expired op ∷ []) (failed op C5)) (goes_down (record p { rows = [] }) TimedOut)
  ticks-is =
      ap (λ (l : List Row). let a : Act = elim (find (is_due s at) (map up_row l)) [ None ↦ nothing | Some x ↦ expires p x ] in a) only.0
      ∙ ap (λ t. let a : Act = elim (if is_past t r.last at then Some (up_row r) else None) [ None ↦ nothing | Some x ↦ expires p x ] in a) k.agrees.timeout
      ∙ ap (λ (t : Bool). let a : Act = elim (if t then Some (up_row r) else None) [ None ↦ nothing | Some x ↦ expires p x ] in a) late
      ∙ ap (λ (l : List UpRow). also (act (what.Expired r.op ∷ []) (failed r.op C5)) (goes_down (record p { rows = l }) TimedOut)) gone
      ∙ ap (λ (n : OpName). also (act (what.Expired n ∷ []) (failed n C5)) (goes_down (record p { rows = [] }) TimedOut)) named

  ended-is : state (ended id b) ≡ record p { rows = [] }
  ended-is = ap (λ (l : List Row). record p { rows = map up_row l }) (without-is id b.core.table.rows r only.0 only.2)

  pub expire-did : (v : BindPart) (o q : Outbox) → q.entries.items ≡ o.entries.items ++ entries_of (Connection b.core.number) at (what.Expired op ∷ what.Down TimedOut ∷ []) → q.letters.items ≡ o.letters.items ++ (failed op C5 ++ down_letters (state (ended id b))) → state v ≡ record (with_down (state (ended id b))) { moment = at } → Did s p at None (ticks s p at) o q (state v)
  expire-did v o q entries letters behind =
      subst (λ (a : Act). Did s p at None a o q (state v)) (sym ticks-is) (record {
        entries = entries;
        letters = letters ∙ ap (λ (x : ConnectionState). o.letters.items ++ (failed op C5 ++ down_letters x)) ended-is;
        behind = behind ∙ ap (λ (x : ConnectionState). record (with_down x) { moment = at }) ended-is;
      })

-- what is known without the row
pub ended-knows : (s : Settings) (b : BindPart) (w : Conn) (id : ℕ) (r : Row) → row_of id b.core.table.rows ≡ Some r → w ≡ record b.core { table = ended_at id b.core.table } → IsTable w.table → Knows s b → Knows s (record b { core = w })
ended-knows s b w id r found new table k =
    let a = alone id b.core.table.rows r k.steady.one found in
    let is : without id b.core.table.rows ≡ [] = without-is id b.core.table.rows r a.0 a.2 in
    let size : length (open_rows (without id b.core.table.rows)) ≡ 0 = ap (λ (l : List Row). length (open_rows l)) is in
    let fits = k.steady.sound.table.fits in
    knows-from s b w b.core.moment b.core.linked b.core.up b.core.down (ended_at id b.core.table) b.holder b.lost new table refl k.steady.sound.begun (subst IsOneBind (sym is) tt) (omega (arith, size, fits)) k

-- none is due
none-due : (s : Settings) (t at : ℕ) (rows : List Row) → s.timeout ≡ t → IsOneBind rows → IsEarly t at rows → find (is_due s at) (map up_row rows) ≡ None
none-due s t at [] e one h = refl
none-due s t at (r ∷ rs) e one h =
    ap (λ (l : List Row). find (is_due s at) (up_row r ∷ map up_row l)) one.1
    ∙ ap (λ n. if is_past n r.last at then Some (up_row r) else None) e
    ∙ ap (λ (b : Bool). if b then Some (up_row r) else None) h

pub early-did : (s : Settings) (b : BindPart) (o q : Outbox) (at : ℕ) → Knows s b → IsEarly b.core.timeout at b.core.table.rows → q.entries.items ≡ o.entries.items → q.letters.items ≡ o.letters.items → Did s (state b) at None (ticks s (state b) at) o q (state b)
early-did s b o q at k early entries letters =
    let is : ticks s (state b) at ≡ nothing = ap (λ (x : Option UpRow). let a : Act = elim x [ None ↦ nothing | Some y ↦ expires (state b) y ] in a) (none-due s b.core.timeout at b.core.table.rows k.agrees.timeout k.steady.one early) in
    subst (λ (a : Act). Did s (state b) at None a o q (state b)) (sym is) (record {
      entries = entries ∙ sym (append-nil o.entries.items);
      letters = letters ∙ sym (append-nil o.letters.items);
      behind = refl;
    })

-- by the first row
pub no-first : (t at : ℕ) (rows : List Row) → first_id rows ≡ None → IsEarly t at rows
no-first t at [] h = tt
no-first t at (r ∷ rs) h = absurd (let bad : ◌≡◌ {A = Option ℕ} (Some r.id) None = h in cc)

pub first-late : (t at first : ℕ) (rows : List Row) (o : Option Row) → first_id rows ≡ Some first → row_of first rows ≡ o → (let x : Bool = elim o [ None ↦ false | Some r ↦ is_late t at r.last ] in x) ≡ false → IsEarly t at rows
first-late t at first [] o f e h = tt
first-late t at first (r ∷ rs) o f e h =
    let same : r.id ≡ first = cc in
    let here : (r.id == first) ≡ true = grind (arith, nat_tests, same) in
    let is : o ≡ Some r = sym e ∙ ap (λ (b : Bool). if b then Some r else row_of first rs) here in
    sym (ap (λ (x : Option Row). let y : Bool = elim x [ None ↦ false | Some z ↦ is_late t at z.last ] in y) is) ∙ h
