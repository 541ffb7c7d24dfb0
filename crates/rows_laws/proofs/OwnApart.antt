-- The own Bind that waits has an identifier of its own: no row has it, and it isn't free.
use Rattle.std.proofs.Common.{◌≡◌, ℕ, suc, Bool, true, false, ◌==◌, ◌&&◌, ◌||◌, not, List, [], ◌∷◌, refl, ap, ◌∙◌, sym, arith}
use Rattle.std.specs.Prelude.{Option, Some, None, filter, flat_map, max, nat_lt, if◌then◌else◌}
use Rattle.std.specs.List.{list_any, list_all}
use Rattle.std.proofs.lemmas.Bool.{ltb-true, lt-ltb}
use Rattle.std.proofs.lemmas.Bool.Decides.{nat_tests}
use Rattle.lload_names.specs.declared.names.Entry.{Entry}
use Rattle.lload_names.specs.declared.names.Letter.{Letter}
use Rattle.lload_names.specs.declared.names.Letter.TheVariants.{Forward}
use Rattle.lload_names.specs.declared.names.PartName.{PartName}
use Rattle.lload_names.specs.declared.names.What.{What}
use Rattle.lload_names.specs.declared.names.What.TheVariants as what
use Rattle.lload_spec.specs.Identifiers.{Ids, has_right_id, id_for, with_freed}
use Rattle.lload_spec.specs.Journal.{same_op}
use Rattle.lload_spec.specs.Settings.{Settings}
use Rattle.lload_spec.proofs.Growth.{left, right}
use Rattle.lload_laws.proofs.ListLaws.{all_imply}
use Rattle.part_laws.proofs.ListLaws.{any_filtered, eqb_sym, false_by, none_of_both, not_true, same_number}
use Rattle.part_spec.specs.ConnectionState.{ConnectionState, OwnWait, UpRow, behind_message, behind_own, connection_behind, freed_id, is_first_bind, is_under_own, rows_sent}
use Rattle.part_spec.specs.Marked.{Taken}
use Rattle.connection_laws.proofs.Apart.{RowsApart, freed_all, is_taken, not_taken, shrinks_message, shrinks_own, taken_filter, taken_put}

pub record OwnApart (rows : List UpRow) (ids : Ids) (own : OwnWait) : Type 0 where
  pub row : is_taken rows own.id ≡ false
  pub free : list_any (λ n. n == own.id) ids.free ≡ false
  pub below : nat_lt own.id ids.next ≡ true

pub below_apart : (m n : ℕ) → nat_lt m n ≡ true → (n == m) ≡ false
below_apart m n h = grind (arith, nat_tests, h)

-- none of these numbers, which are all others
none_of : (n : ℕ) (ns : List ℕ) → list_all (λ m. not (m == n)) ns ≡ true → list_any (λ m. m == n) ns ≡ false
none_of n [] h = refl
none_of n (m ∷ ns) h = ap (λ b. b || list_any (λ k. k == n) ns) (not_true (m == n) (left (not (m == n)) _ h)) ∙ none_of n ns (right (not (m == n)) _ h)

untaken : (n : ℕ) (rows : List UpRow) → is_taken rows n ≡ false → list_all (λ r. not (r.id == n)) rows ≡ true
untaken n [] h = refl
untaken n (r ∷ rows) h = by (r.id == n) h (untaken n rows)
  where
    by : (b : Bool) → (b || is_taken rows n) ≡ false → (is_taken rows n ≡ false → list_all (λ q. not (q.id == n)) rows ≡ true) → (not b && list_all (λ q. not (q.id == n)) rows) ≡ true
    by true k more = absurd (let bad : true ≡ false = k in cc)
    by false k more = more k

module _ (s : Settings) (place : List Entry) (p : ConnectionState) (apart : RowsApart place p) (part : PartName) (at : ℕ) where
  abbrev entry : What → Entry
  entry w = record { part = part; at = at; what = w }

  -- what is given next is no identifier that was given and isn't free
  next_apart : (n : ℕ) → nat_lt n p.ids.next ≡ true → list_any (λ m. m == n) p.ids.free ≡ false → (id_for p.ids == n) ≡ false
  next_apart n below free = by p.ids.free free
    where
      by : (ns : List ℕ) → list_any (λ m. m == n) ns ≡ false → ((elim ns [ [] ↦ p.ids.next | m ∷ ms ↦ m ]) == n) ≡ false
      by [] k = below_apart n p.ids.next below
      by (m ∷ ms) k = first (m == n) k
        where
          first : (b : Bool) → (b || list_any (λ i. i == n) ms) ≡ false → b ≡ false
          first true j = j
          first false j = refl

  below_more : (n m : ℕ) → nat_lt n p.ids.next ≡ true → nat_lt n (max p.ids.next (suc m)) ≡ true
  below_more n m h = lt-ltb n (max p.ids.next (suc m)) (let below = ltb-true n p.ids.next h in omega (arith, below))

  none_free : list_all (λ n. nat_lt n p.ids.next) p.ids.free ≡ true → list_any (λ n. n == p.ids.next) p.ids.free ≡ false
  none_free h = none_of p.ids.next p.ids.free (all_imply (λ n. nat_lt n p.ids.next) (λ n. not (n == p.ids.next)) p.ids.free (λ n k. ap not (eqb_sym n p.ids.next ∙ below_apart n p.ids.next k)) h)

  none_row : (rows : List UpRow) → list_all (λ r. nat_lt r.id p.ids.next) rows ≡ true → is_taken rows p.ids.next ≡ false
  none_row [] h = refl
  none_row (r ∷ rows) h = ap (λ b. b || is_taken rows p.ids.next) (eqb_sym r.id p.ids.next ∙ below_apart r.id p.ids.next (left (nat_lt r.id p.ids.next) _ h)) ∙ none_row rows (right (nat_lt r.id p.ids.next) _ h)

  -- the own Bind goes upstream
  first_own : (id : ℕ) (rest : List ℕ) → (id == p.ids.next) ≡ true → (w : OwnWait) → (if is_first_bind s p (entry (what.Own id rest)) then Some (record { id = id; at = at }) else p.own_bind) ≡ Some w → ((v : OwnWait) → p.own_bind ≡ Some v → OwnApart p.rows p.ids v) → (is_taken (flat_map (behind_own (record { id = id; rest = rest })) p.rows) w.id ≡ false) × (list_any (λ n. n == w.id) p.ids.free ≡ false) × (nat_lt w.id (max p.ids.next (suc id)) ≡ true)
  first_own id rest next w e h = by (is_first_bind s p (entry (what.Own id rest))) e
    where
      rows_not : (n : ℕ) → is_taken p.rows n ≡ false → is_taken (flat_map (behind_own (record { id = id; rest = rest })) p.rows) n ≡ false
      rows_not n k = not_taken (behind_own (record { id = id; rest = rest })) n p.rows (shrinks_own (record { id = id; rest = rest })) k

      by : (b : Bool) → (if b then Some (record { id = id; at = at }) else p.own_bind) ≡ Some w → (is_taken (flat_map (behind_own (record { id = id; rest = rest })) p.rows) w.id ≡ false) × (list_any (λ n. n == w.id) p.ids.free ≡ false) × (nat_lt w.id (max p.ids.next (suc id)) ≡ true)
      by true k =
          let same : record { id = id; at = at } ≡ w = cc in
          let here : w.id ≡ p.ids.next = ap (λ v. v.id) (sym same) ∙ same_number id p.ids.next next in
          (rows_not w.id (ap (is_taken p.rows) here ∙ none_row p.rows apart.below), ap (λ i. list_any (λ n. n == i) p.ids.free) here ∙ none_free apart.free_below, ap (λ i. nat_lt i (max p.ids.next (suc id))) (ap (λ v. v.id) (sym same)) ∙ lt-ltb id (max p.ids.next (suc id)) (omega arith))
      by false k = (rows_not w.id (h w k).row, (h w k).free, below_more w.id id (h w k).below)

  -- an entry behind it
  pub own_apart_step : (mark : Option Taken) (w : What) → has_right_id p.ids w ≡ true → ((v : OwnWait) → p.own_bind ≡ Some v → OwnApart p.rows p.ids v) → (v : OwnWait) → (connection_behind s (entry w) mark p w).own_bind ≡ Some v → OwnApart (connection_behind s (entry w) mark p w).rows (connection_behind s (entry w) mark p w).ids v
  own_apart_step None (what.Sent id op rest) next h v e = record { row = (h v e).row; free = false_by (list_any (λ n. n == v.id) (filter (λ n. not (n == id)) p.ids.free)) (λ k. sym (h v e).free ∙ any_filtered (λ n. n == v.id) (λ n. not (n == id)) p.ids.free k); below = below_more v.id id (h v e).below }
  own_apart_step (Some t) (what.Sent id op rest) next h v e = record { row = row t.letter; free = false_by (list_any (λ n. n == v.id) (filter (λ n. not (n == id)) p.ids.free)) (λ k. sym (h v e).free ∙ any_filtered (λ n. n == v.id) (λ n. not (n == id)) p.ids.free k); below = below_more v.id id (h v e).below }
    where
      row : (x : Letter) → is_taken (rows_sent at id p.rows x) v.id ≡ false
      row (Forward op kind rest ask holder) = taken_put v.id (record { id = id; op = op; kind = kind; ask_who = ask; sent = at; answered = at; kept = None }) p.rows (ap (λ i. i == v.id) (same_number id (id_for p.ids) next) ∙ next_apart v.id (h v e).below (h v e).free) (h v e).row
      row _ = (h v e).row
  own_apart_step mark (what.Own id rest) next h v e = let all = first_own id rest next v e h in record { row = all.0; free = all.1; below = all.2 }
  own_apart_step mark (what.Got id rest) next h v e = by (is_under_own p id) e
    where
      by : (b : Bool) → (if b then None else p.own_bind) ≡ Some v → OwnApart (if b then p.rows else flat_map (behind_message at (record { id = id; rest = rest })) p.rows) (if b then p.ids else with_freed (flat_map (freed_id at (record { id = id; rest = rest })) p.rows) p.ids) v
      by true k = absurd (let bad : None ≡ Some v = k in cc)
      by false k =
          record {
            row = not_taken (behind_message at (record { id = id; rest = rest })) v.id p.rows (shrinks_message at (record { id = id; rest = rest })) (h v k).row;
            free = none_of_both (λ n. n == v.id) p.ids.free (flat_map (freed_id at (record { id = id; rest = rest })) p.rows) (h v k).free (none_of v.id (flat_map (freed_id at (record { id = id; rest = rest })) p.rows) (freed_all (λ n. not (n == v.id)) at (record { id = id; rest = rest }) p.rows (untaken v.id p.rows (h v k).row)));
            below = (h v k).below;
          }
  own_apart_step mark (what.Expired op) next h v e = record { row = taken_filter (λ r. not (same_op op r.op)) v.id p.rows (h v e).row; free = (h v e).free; below = (h v e).below }
  own_apart_step mark (what.Down why) next h v e = record { row = refl; free = (h v e).free; below = (h v e).below }
  own_apart_step mark what.Linked next h v e = record { row = (h v e).row; free = (h v e).free; below = (h v e).below }
  own_apart_step mark w next h v e = record { row = (h v e).row; free = (h v e).free; below = (h v e).below }
