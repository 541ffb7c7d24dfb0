-- Messages that take the connection down.
use Rattle.std.proofs.Common.{◌≡◌, ℕ, ◌≤◌, arith, Bool, true, false, ◌==◌, ◌&&◌, ◌||◌, not, if◌then◌else◌, List, [], ◌∷◌, ◌++◌, Option, Some, None, refl, ap, ◌∙◌, sym, subst}
use Rattle.std.proofs.lemmas.Bool.Decides.{nat_tests}
use Rattle.std.specs.Prelude.{is_none}
use Rattle.ldap_spec.specs.Messages.{Message}
use Rattle.ldap_spec.specs.Tags.{extended_response}
use Rattle.ldap_spec.specs.Kinds.{is_final, is_intermediate, tag_of}
use Rattle.ldap_spec.specs.Responses.{result_code, tells_who}
use Rattle.lload_names.specs.declared.names.OpKind.TheVariants.{Bind}
use Rattle.lload_names.specs.declared.names.EndWhy.TheVariants.{Bad as BadEnd}
use Rattle.lload_names.specs.declared.names.PartName.TheVariants.{Up as Connection}
use Rattle.lload_names.specs.declared.names.What.TheVariants as what
use Rattle.lload_spec.specs.Settings.{Settings}
use Rattle.lload_spec.specs.BadMessages as bad
use Rattle.id_table.specs.declared.row.Row.{Row}
use Rattle.id_table.specs.declared.row.Kept.{Kept}
use Rattle.id_table.specs.Rows.{row_of, Rises, answered as answered_row}
use Rattle.part_spec.specs.Marked.{Taken}
use Rattle.part_spec.specs.Inputs.{Act, act, also, entries_of}
use Rattle.part_spec.specs.ConnectionState.{ConnectionState, with_down}
use Rattle.part_spec.specs.ConnectionTurn.{goes_down, down_letters}
use Rattle.part_spec.specs.BindTurn.{message, answered}
use Rattle.outbox.specs.declared.outbox.Outbox.{Outbox}
use Rattle.conn_core.specs.Kept.{up_row}
use Rattle.conn_core.specs.Did.{Did}
use Rattle.bind_conn.specs.Part.{Knows, Fells, is_met, state}
use Rattle.conn_core.specs.Dropped.{is_dropped}
use Rattle.bind_conn.specs.Told.{told_of, who_told}
use Rattle.bind_conn.specs.declared.part.BindPart.{BindPart}
use Rattle.bind_conn.specs.declared.told.Told.TheVariants.{Unfit}
use Rattle.bind_conn.specs.declared.told.WhoTold.TheVariants as who
use Rattle.bind_conn.proofs.Tells.{unfit-is, who-unfit-is}
use Rattle.bind_conn.proofs.Meets.{alone, got-stays, unfit-row, unfit-stays}
use Rattle.bind_conn.proofs.Gots.{row-bad}
use Rattle.bind_conn.proofs.Whos.{only, no-under, stays-row, go-is, bad-who}
use Rattle.bind_conn.proofs.Strays.{got-stray, bad-stray}

-- what is appended, and the state behind it
pub fall-did : (s : Settings) (b v : BindPart) (o q : Outbox) (at : ℕ) (m : Message) (mark : Option Taken) → Fells b at m → q.entries.items ≡ o.entries.items ++ entries_of (Connection b.core.number) at (what.Got m.id m.rest ∷ what.Down BadEnd ∷ []) → q.letters.items ≡ o.letters.items ++ down_letters (state b) → state v ≡ record (with_down (state b)) { moment = at } → Did s (state b) at mark (message s (state b) m) o q (state v)
fall-did s b v o q at m mark f entries letters behind =
    let p : ConnectionState = state b in
    let is : message s p m ≡ also (act (what.Got m.id m.rest ∷ []) []) (goes_down p BadEnd) = ap (λ (t : Bool). let x : Act = elim t [ true ↦ goes_down p BadEnd | false ↦ answered s p m ] in also (act (what.Got m.id m.rest ∷ []) []) x) f.fells in
    subst (λ (a : Act). Did s p at mark a o q (state v)) (sym is) (record {
      entries = entries;
      letters = letters;
      behind = behind ∙ sym (ap (λ (x : ConnectionState). record x { moment = at; down = true; rows = []; holder = None; lost = x.holder }) f.got);
    })

apart-is : (a : Bool) (n id : ℕ) → 1 ≤ n → (n == id) ≡ true → (id == 0 && a) ≡ false
apart-is true n id l h = grind (arith, nat_tests, l, h)
apart-is false n id l h = no-under (id == 0)

unfit-by : (ign f i n : Bool) → ign ≡ false → i ≡ false → (f && not n) ≡ false → (if ign then false else not (f || i || false) || true && f && n) ≡ true
unfit-by false false false n g h e = refl
unfit-by false true false true g h e = refl
unfit-by false true false false g h e = absurd (let bad : true ≡ false = e in cc)
unfit-by true f i n g h e = absurd (let bad : true ≡ false = g in cc)
unfit-by false f true n g h e = absurd (let bad : true ≡ false = h in cc)

first-above : (next : ℕ) (rows : List Row) (r : Row) → rows ≡ r ∷ [] → Rises 1 rows next → 1 ≤ r.id
first-above next rows r e h = by (subst (λ (l : List Row). Rises 1 l next) e h)
  where
    by : Rises 1 (r ∷ []) next → 1 ≤ r.id
    by k = k.0

-- one that can't answer the live Bind
pub misfit-fells : (s : Settings) (b : BindPart) (at : ℕ) (m : Message) (r : Row) → Knows s b → row_of m.id b.core.table.rows ≡ Some r → r.kept ≡ None → told_of r.ask_who m.rest ≡ Unfit → Fells b at m
misfit-fells s b at m r k found waits told =
    let a = alone m.id b.core.table.rows r k.steady.one found in
    let u = unfit-is r.ask_who (is_intermediate m.rest) (is_final Bind m.rest) (result_code m.rest) told in
    let x = unfit-row at m r a.1 waits a.2 told in
    record {
      rows = x.0 ∷ [];
      fells =
          row-bad s b.core b.holder b.lost m r a.0 at a.1 waits a.2
          ∙ unfit-by (bad.is_ignored m) (is_final Bind m.rest) (is_intermediate m.rest) (is_none (result_code m.rest)) (apart-is (tag_of m.rest == extended_response) r.id m.id (first-above b.core.table.ids.next b.core.table.rows r a.0 k.steady.sound.table.rises) a.2) u.0 u.1;
      got = got-stays b.core b.holder b.lost at m r a.0 x.0 x.1 (unfit-stays at m r a.1 waits a.2 told);
    }

who-by : (a p x : Bool) → p ≡ false → x ≡ false → (if a && x then false else not (p || x)) ≡ true
who-by a false false h e = ap (λ (t : Bool). if t then false else true) (no-under a)
who-by a true x h e = absurd (let bad : true ≡ false = h in cc)
who-by a false true h e = absurd (let bad : true ≡ false = e in cc)

-- one that can't answer its Who Am I
pub who-fells : (s : Settings) (b : BindPart) (o : Outbox) (at first : ℕ) (m : Message) (r : Row) (x : Kept) → Knows s b → row_of first b.core.table.rows ≡ Some r → r.kept ≡ Some x → (x.who == m.id) ≡ true → who_told m.rest ≡ who.Unfit → Fells b at m
who-fells s b o at first m r x k found keeps asked told =
    let u = who-unfit-is (is_intermediate m.rest) (tag_of m.rest == extended_response) (tells_who m.rest) told in
    record {
      rows = up_row (answered_row at r) ∷ [];
      fells = bad-who s b o o at m.id first m.rest r x None k found keeps asked ∙ who-by (m.id == 0) (is_intermediate m.rest) (tag_of m.rest == extended_response) u.0 u.1;
      got = got-stays b.core b.holder b.lost at m r (only s b o o at m.id first m.rest r x None k found keeps asked).0 (up_row (answered_row at r)) (stays-row s b o o at m.id first m.rest r x None k found keeps asked u.1) (go-is s b o o at m.id first m.rest r x None k found keeps asked ∙ u.1);
    }

-- one under nothing that waits, which isn't dropped
pub stray-fells : (s : Settings) (b : BindPart) (at : ℕ) (m : Message) → is_met m.id b.core.table.rows ≡ false → is_dropped b.core.table.ids.next m.id m.rest ≡ false → Fells b at m
stray-fells s b at m stray kept = record {
  rows = (state b).rows;
  fells = bad-stray s b.core b.holder b.lost at m stray ∙ ap not kept;
  got = got-stray s b.core b.holder b.lost at m stray;
}
