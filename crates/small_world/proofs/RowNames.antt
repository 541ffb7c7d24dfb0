-- What rows that rise say of the names of the Sent entries.
use Rattle.std.proofs.Common.{◌≡◌, ℕ, suc, ◌+◌, ◌≤◌, ◌<◌, Bool, true, false, ◌==◌, ◌&&◌, ◌||◌, not, List, [], ◌∷◌, refl, ap, ◌∙◌, sym, length, arith}
use Rattle.std.specs.Prelude.{Some, None, map, filter, cond, nat_le, nat_lt}
use Rattle.std.specs.List.{list_all, list_any}
use Rattle.std.proofs.lemmas.List.{length-map}
use Rattle.std.proofs.lemmas.List.Folds.{list_all-map}
use Rattle.std.proofs.lemmas.Bool.{eq-eqb, ne_eqb, eqb-true, ltb-true, leb-true, and_right, both_ways}
use Rattle.std.proofs.lemmas.Bool.Decides.{nat_tests}
use Rattle.lload_names.specs.declared.names.OpName.{OpName}
use Rattle.small_spec.specs.Journal.{same_op}
use Rattle.small_spec.specs.Entries.{Named}
use Rattle.small_spec.specs.Answers.{Sending}
use Rattle.small_spec.proofs.Growth.{left, right, both}
use Rattle.small_laws.proofs.ListLaws.{filter-map, any-map}
use Rattle.small_world.specs.declared.world.Forwarded.{Forwarded}
use Rattle.small_world.specs.Stands.{row_of, sent_name, numbered, are_rising, is_empty}

-- whether a name is of this operation
abbrev names : OpName → Named ℕ → Bool
names op n = same_op op n.op

-- a row's number isn't that of an operation at or below where the rows rise from
other_row : (op : OpName) (k : ℕ) → op.k < k → same_op op (record { client = 1; k = k }) ≡ false
other_row op k h = and_right (op.client == 1) (op.k == k) (ne_eqb op.k k (λ e. omega (arith, e)))

-- the range of a first row, and that of the others
row_above : (low most : ℕ) (f : Forwarded) (fs : List Forwarded) → are_rising low most (f ∷ fs) ≡ true → low < f.k
row_above low most f fs h = ltb-true low f.k (left (nat_lt low f.k) _ (left (nat_lt low f.k && nat_le f.k most) _ h))

row_within : (low most : ℕ) (f : Forwarded) (fs : List Forwarded) → are_rising low most (f ∷ fs) ≡ true → f.k ≤ most
row_within low most f fs h = leb-true f.k most (right (nat_lt low f.k) _ (left (nat_lt low f.k && nat_le f.k most) _ h))

others_rise : (low most : ℕ) (f : Forwarded) (fs : List Forwarded) → are_rising low most (f ∷ fs) ≡ true → are_rising f.k most fs ≡ true
others_rise low most f fs h = right (nat_lt low f.k && nat_le f.k most) _ h

none_below : (op : OpName) (n low most : ℕ) (rows : List Forwarded) → are_rising low most rows ≡ true → op.k ≤ low → filter (names op) (numbered n rows) ≡ []
none_below op n low most [] h k = refl
none_below op n low most (f ∷ fs) h k = let above = row_above low most f fs h in ap (λ b. cond b (record { op = record { client = 1; k = f.k }; value = n } ∷ filter (names op) (numbered (suc n) fs)) (filter (names op) (numbered (suc n) fs))) (other_row op f.k (omega arith)) ∙ none_below op (suc n) f.k most fs (others_rise low most f fs h) (omega arith)

-- rows that rise name an operation at most once
named_once : (op : OpName) (n low most : ℕ) (rows : List Forwarded) → are_rising low most rows ≡ true → nat_le (length (filter (names op) (numbered n rows))) 1 ≡ true
named_once op n low most [] h = refl
named_once op n low most (f ∷ fs) h = more (same_op op (record { client = 1; k = f.k })) refl (named_once op (suc n) f.k most fs (others_rise low most f fs h))
  where
    more : (b : Bool) → same_op op (record { client = 1; k = f.k }) ≡ b → nat_le (length (filter (names op) (numbered (suc n) fs))) 1 ≡ true → nat_le (length (cond b (record { op = record { client = 1; k = f.k }; value = n } ∷ filter (names op) (numbered (suc n) fs)) (filter (names op) (numbered (suc n) fs)))) 1 ≡ true
    more true e ih = let same : op.k ≡ f.k = eqb-true op.k f.k (right (op.client == 1) _ e) in ap (λ l. nat_le (length (record { op = record { client = 1; k = f.k }; value = n } ∷ l)) 1) (none_below op (suc n) f.k most fs (others_rise low most f fs h) (omega arith))
    more false e ih = ih

-- an operation that no name is of has no row
not_named : (op : OpName) (n : ℕ) (rows : List Forwarded) → op.client ≡ 1 → (length (filter (names op) (numbered n rows)) == 0) ≡ true → row_of op.k rows ≡ None
not_named op n [] own h = refl
not_named op n (f ∷ fs) own h = more (f.k == op.k) (same_op op (record { client = 1; k = f.k })) refl refl h (not_named op (suc n) fs own)
  where
    more : (b d : Bool) → (f.k == op.k) ≡ b → same_op op (record { client = 1; k = f.k }) ≡ d → (length (cond d (record { op = record { client = 1; k = f.k }; value = n } ∷ filter (names op) (numbered (suc n) fs)) (filter (names op) (numbered (suc n) fs))) == 0) ≡ true → ((length (filter (names op) (numbered (suc n) fs)) == 0) ≡ true → row_of op.k fs ≡ None) → cond b (Some f) (row_of op.k fs) ≡ None
    more b true e s g ih = let none = eqb-true (suc (length (filter (names op) (numbered (suc n) fs)))) 0 g in absurd (omega arith)
    more true false e s g ih = absurd (both_ways (same_op op (record { client = 1; k = f.k })) s (both (op.client == 1) _ (eq-eqb op.client 1 own) (eq-eqb op.k f.k (sym (eqb-true f.k op.k e)))))
    more false false e s g ih = ih g

-- the names that Sent entries of an operation have are among those of the rows
names_of : (op : OpName) (rows : List Forwarded) (S : List Sending) → map sent_name S ≡ numbered 1 rows → length (filter (λ s. same_op op s.op) S) ≡ length (filter (names op) (numbered 1 rows))
names_of op rows S e = sym (length-map (filter (λ s. same_op op s.op) S) sent_name) ∙ ap length (sym (filter-map (names op) sent_name S)) ∙ ap (λ l. length (filter (names op) l)) e

-- an operation is sent at most once
pub sent_at_most_once : (op : OpName) (most : ℕ) (rows : List Forwarded) (S : List Sending) → map sent_name S ≡ numbered 1 rows → are_rising 0 most rows ≡ true → nat_le (length (filter (λ s. same_op op s.op) S)) 1 ≡ true
sent_at_most_once op most rows S e h = ap (λ n. nat_le n 1) (names_of op rows S e) ∙ named_once op 1 0 most rows h

-- an operation of client 1 that wasn't sent has no row
pub unsent_has_no_row : (op : OpName) (rows : List Forwarded) (S : List Sending) → map sent_name S ≡ numbered 1 rows → op.client ≡ 1 → (length (filter (λ s. same_op op s.op) S) == 0) ≡ true → row_of op.k rows ≡ None
unsent_has_no_row op rows S e own h = not_named op 1 rows own (ap (λ n. n == 0) (sym (names_of op rows S e)) ∙ h)

-- what was sent is of client 1
numbered_of_one : (n : ℕ) (rows : List Forwarded) → list_all (λ m. m.op.client == 1) (numbered n rows) ≡ true
numbered_of_one n [] = refl
numbered_of_one n (f ∷ fs) = numbered_of_one (suc n) fs

pub sent_of_one : (rows : List Forwarded) (S : List Sending) → map sent_name S ≡ numbered 1 rows → list_all (λ s. s.op.client == 1) S ≡ true
sent_of_one rows S e = sym (list_all-map (λ m. m.op.client == 1) sent_name S) ∙ ap (list_all (λ m. m.op.client == 1)) e ∙ numbered_of_one 1 rows

-- without rows nothing was sent
no_names : (S : List Sending) → map sent_name S ≡ [] → S ≡ []
no_names [] e = refl
no_names (s ∷ S) e = cc

none_numbered : (rows : List Forwarded) → is_empty rows ≡ true → numbered 1 rows ≡ []
none_numbered [] h = refl
none_numbered (f ∷ fs) h = absurd (let bad : false ≡ true = h in cc)

pub none_sent_without : (b : Bool) (rows : List Forwarded) (S : List Sending) → map sent_name S ≡ numbered 1 rows → (b || is_empty rows) ≡ true → b ≡ false → S ≡ []
none_sent_without b rows S e h k = no_names S (e ∙ none_numbered rows (ap (λ c. c || is_empty rows) (sym k) ∙ h))

-- a row that passes a test, where some does: it is the row of its number, which is in range
pub record PassingRow (test : Forwarded → Bool) (low most : ℕ) (rows : List Forwarded) : Type 0 where
  pub row : Forwarded
  pub passes : test row ≡ true
  pub is_row : row_of row.k rows ≡ Some row
  pub above : low < row.k
  pub within : row.k ≤ most

pub passing_row : (test : Forwarded → Bool) (low most : ℕ) (rows : List Forwarded) → are_rising low most rows ≡ true → list_any test rows ≡ true → PassingRow test low most rows
passing_row test low most [] h k = absurd (let bad : false ≡ true = k in cc)
passing_row test low most (f ∷ fs) h k = more (test f) refl k (passing_row test f.k most fs (others_rise low most f fs h))
  where
    later : low < f.k → PassingRow test f.k most fs → PassingRow test low most (f ∷ fs)
    later here p = record { row = p.row; passes = p.passes; is_row = ap (λ b. cond b (Some f) (row_of p.row.k fs)) (ne_eqb f.k p.row.k (λ e. omega (arith, e, p.above))) ∙ p.is_row; above = omega (arith, p.above); within = p.within }

    more : (b : Bool) → test f ≡ b → (b || list_any test fs) ≡ true → (list_any test fs ≡ true → PassingRow test f.k most fs) → PassingRow test low most (f ∷ fs)
    more true e g ih = record { row = f; passes = e; is_row = ap (λ b. cond b (Some f) (row_of f.k fs)) (eq-eqb f.k f.k refl); above = row_above low most f fs h; within = row_within low most f fs h }
    more false e g ih = later (row_above low most f fs h) (ih g)

-- the numbers of the names
given_from : (n id : ℕ) (rows : List Forwarded) → list_any (λ m. m.value == id) (numbered n rows) ≡ (nat_le n id && nat_lt id (n + length rows))
given_from n id [] = grind (arith, nat_tests)
given_from n id (f ∷ fs) = ap (λ b. (n == id) || b) (given_from (suc n) id fs) ∙ grind (arith, nat_tests)

pub given_by_rows : (id : ℕ) (rows : List Forwarded) (S : List Sending) → map sent_name S ≡ numbered 1 rows → list_any (λ s. s.id == id) S ≡ (not (id == 0) && nat_le id (length rows))
given_by_rows id rows S e = sym (any-map (λ m. m.value == id) sent_name S) ∙ ap (list_any (λ m. m.value == id)) e ∙ given_from 1 id rows ∙ grind (arith, nat_tests)
