-- What a message meets, by the row that is there.
use Rattle.std.proofs.Common.{◌≡◌, ℕ, Bool, true, false, ◌==◌, ◌&&◌, ◌||◌, not, if◌then◌else◌, List, [], ◌∷◌, Option, Some, None, arith, refl, ap, ◌∙◌, sym, subst}
use Rattle.std.proofs.lemmas.Bool.Decides.{nat_tests}
use Rattle.std.specs.Prelude.{IsSome, is_some}
use Rattle.std.specs.Option.{ForSome}
use Rattle.lload_names.specs.declared.names.OpName.{OpName}
use Rattle.lload_spec.specs.Settings.{Settings}
use Rattle.id_table.specs.declared.row.Row.{Row}
use Rattle.id_table.specs.declared.row.Kept.{Kept}
use Rattle.id_table.specs.Rows.{row_of, first_id}
use Rattle.part_spec.specs.ConnectionState.{is_under, is_under_who}
use Rattle.conn_core.specs.Kept.{up_row, up_kept}
use Rattle.conn_core.proofs.Plain.{under-is, who-is}
use Rattle.bind_conn.specs.Part.{Knows, is_met}
use Rattle.bind_conn.specs.Met.{IsApart, Meets}
use Rattle.bind_conn.specs.declared.hears.Met.TheVariants.{Live}
use Rattle.bind_conn.specs.declared.part.BindPart.{BindPart}
use Rattle.bind_conn.proofs.Meets.{alone}
use Rattle.bind_conn.proofs.Gots.{there}
use Rattle.bind_conn.proofs.Whos.{no-under}

-- none is live
pub none-met : (id : ℕ) (rows : List Row) → first_id rows ≡ None → is_met id rows ≡ false
none-met id [] h = refl
none-met id (r ∷ rs) h = absurd (let bad : ◌≡◌ {A = Option ℕ} (Some r.id) None = h in cc)

-- the first one is there
pub first-there : (first : ℕ) (rows : List Row) → first_id rows ≡ Some first → IsSome (row_of first rows)
first-there first [] h = absurd (let bad : ◌≡◌ {A = Option ℕ} None (Some first) = h in cc)
first-there first (r ∷ rs) h =
    let same : r.id ≡ first = cc in
    let here : (r.id == first) ≡ true = grind (arith, nat_tests, same) in
    subst (λ (b : Bool). IsSome (if b then Some r else row_of first rs)) (sym here) refl

-- the live Bind is under the message's identifier
pub live-row : (first id : ℕ) (rows : List Row) (op : OpName) (ask : Bool) → IsSome (row_of first rows) → ForSome (row_of first rows) (λ r. Meets first id r (Live op ask)) → ForSome (row_of id rows) (λ r. (r.op ≡ op) × (r.kept ≡ None) × (r.ask_who ≡ ask)) × IsSome (row_of id rows)
live-row first id rows op ask live f =
    let t = there (row_of first rows) (λ r. Meets first id r (Live op ask)) f live in
    let same : first ≡ id = t.2.0 in (
      subst (λ n. ForSome (row_of n rows) (λ r. (r.op ≡ op) × (r.kept ≡ None) × (r.ask_who ≡ ask))) same (λ r e. let g = f r e in (g.1, g.2, g.3)),
      subst (λ n. IsSome (row_of n rows)) same live,
    )

nope : (a b : Bool) → a ≡ false → b ≡ false → ((a || b) || false) ≡ false
nope false false h e = refl
nope true b h e = absurd (let bad : true ≡ false = h in cc)
nope false true h e = absurd (let bad : true ≡ false = e in cc)

other-id : (a b id : ℕ) → (a == b) ≡ true → (b == id) ≡ false → (a == id) ≡ false
other-id a b id h e = grind (arith, nat_tests, h, e)

-- it is apart from all that waits
pub apart-met : (s : Settings) (b : BindPart) (first id : ℕ) (r : Row) → Knows s b → row_of first b.core.table.rows ≡ Some r → IsApart first id r.kept → is_met id b.core.table.rows ≡ false
apart-met s b first id r k found apart =
    let a = alone first b.core.table.rows r k.steady.one found in
    ap (is_met id) a.0 ∙ by a.2 r.kept refl apart
  where
    by : (r.id == first) ≡ true → (o : Option Kept) → r.kept ≡ o → IsApart first id o → ((is_under id (up_row r) || is_under_who id (up_row r)) || false) ≡ false
    by here None e h = nope (is_under id (up_row r)) (is_under_who id (up_row r)) (under-is id r e ∙ other-id r.id first id here h) (who-is id r e)
    by here (Some x) e h =
        nope (is_under id (up_row r)) (is_under_who id (up_row r))
        (ap (λ (y : Option Kept). r.id == id && not (is_some (up_kept y))) e ∙ no-under (r.id == id))
        (ap (λ (y : Option Kept). is_under_who id (record (up_row r) { kept = up_kept y })) e ∙ h)
