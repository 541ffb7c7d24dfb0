-- The operations of a list have different names, so that the one of a name is itself.
use Rattle.std.proofs.Common.{◌≡◌, ℕ, suc, ◌+◌, ◌≤◌, Bool, true, false, ◌==◌, ◌&&◌, not, List, [], ◌∷◌, ◌++◌, refl, ap, arith, ◌∙◌}
use Rattle.std.specs.Prelude.{Option, Some, None, find, cond, nat_lt}
use Rattle.std.specs.List.{list_all}
use Rattle.std.proofs.lemmas.Bool.{lt-ltb}
use Rattle.std.proofs.lemmas.Bool.Decides.{nat_tests}
use Rattle.ldap_spec.specs.Messages.{Message}
use Rattle.lload_names.specs.declared.names.Entry.{Entry}
use Rattle.lload_names.specs.declared.names.OpName.{OpName}
use Rattle.lload_spec.specs.Lists.{passes, implies}
use Rattle.lload_spec.specs.Journal.{same_op}
use Rattle.lload_spec.specs.Entries.{operation_message}
use Rattle.lload_spec.specs.Operations.{Operation, operation_made, operations_from, operations, made, is_live, is_live_at}
use Rattle.lload_spec.proofs.Growth.{left, right, both}
use Rattle.lload_laws.proofs.ListLaws.{all_imply, all_both}
use Rattle.part_laws.proofs.ListLaws.{same_op_refl, same_op_sym, not_true}

abbrev pub are_apart : List Operation → Bool
are_apart [] = true
are_apart (o ∷ os) = list_all (λ q. not (same_op o.name q.name)) os && are_apart os

-- numbers rise
above : (c j k : ℕ) (before L : List Entry) → j ≤ k → list_all (λ o. nat_lt j o.name.k) (operations_from c k before L) ≡ true
above c j k before [] low = refl
above c j k before (e ∷ L) low = more (operation_message e.what) (λ n h. above c j n (before ++ e ∷ []) L h)
  where
    more : (m : Option Message) → ((n : ℕ) → j ≤ n → list_all (λ o. nat_lt j o.name.k) (operations_from c n (before ++ e ∷ []) L) ≡ true) → list_all (λ o. nat_lt j o.name.k) (operation_made c (suc k) before e L m ++ operations_from c (k + made m) (before ++ e ∷ []) L) ≡ true
    more None ih = ih (k + 0) (omega arith)
    more (Some m) ih = both (nat_lt j (suc k)) _ (lt-ltb j (suc k) (omega arith)) (ih (k + 1) (omega arith))

other_above : (c n : ℕ) (op : OpName) → nat_lt n op.k ≡ true → not (c == op.client && n == op.k) ≡ true
other_above c n op h = by (c == op.client) (n == op.k) refl
  where
    by : (a b : Bool) → (n == op.k) ≡ b → not (a && b) ≡ true
    by false b e = refl
    by true false e = refl
    by true true e = absurd (grind (arith, nat_tests, h, e))

pub named_apart : (c k : ℕ) (before L : List Entry) → are_apart (operations_from c k before L) ≡ true
named_apart c k before [] = refl
named_apart c k before (e ∷ L) = more (operation_message e.what) (λ n. named_apart c n (before ++ e ∷ []) L)
  where
    more : (m : Option Message) → ((n : ℕ) → are_apart (operations_from c n (before ++ e ∷ []) L) ≡ true) → are_apart (operation_made c (suc k) before e L m ++ operations_from c (k + made m) (before ++ e ∷ []) L) ≡ true
    more None ih = ih (k + 0)
    more (Some m) ih = both (list_all (λ q. not (same_op (record { client = c; k = suc k }) q.name)) (operations_from c (k + 1) (before ++ e ∷ []) L)) _ (all_imply (λ o. nat_lt (suc k) o.name.k) (λ q. not (same_op (record { client = c; k = suc k }) q.name)) (operations_from c (k + 1) (before ++ e ∷ []) L) (λ q j. other_above c (suc k) q.name j) (above c (suc k) (k + 1) (before ++ e ∷ []) L (omega arith))) (ih (k + 1))

implies_same : (b : Bool) → implies b b ≡ true
implies_same true = refl
implies_same false = refl

-- one whose name is live is live
abbrev is_live_by : List Operation → Operation → Bool
is_live_by os o = implies (passes is_live (find (λ q. same_op o.name q.name) os)) (is_live o)

alone : (os : List Operation) → are_apart os ≡ true → list_all (is_live_by os) os ≡ true
alone [] h = refl
alone (o ∷ os) h = both (is_live_by (o ∷ os) o) _ first (rest (alone os (right (list_all (λ q. not (same_op o.name q.name)) os) _ h)))
  where
    first : is_live_by (o ∷ os) o ≡ true
    first = ap (λ b. implies (passes is_live (cond b (Some o) (find (λ q. same_op o.name q.name) os))) (is_live o)) (same_op_refl o.name) ∙ implies_same (is_live o)

    later : (q : Operation) → (not (same_op o.name q.name) && is_live_by os q) ≡ true → is_live_by (o ∷ os) q ≡ true
    later q j = ap (λ b. implies (passes is_live (cond b (Some o) (find (λ x. same_op q.name x.name) os))) (is_live q)) (same_op_sym q.name o.name ∙ not_true (same_op o.name q.name) (left (not (same_op o.name q.name)) _ j)) ∙ right (not (same_op o.name q.name)) _ j

    rest : list_all (is_live_by os) os ≡ true → list_all (is_live_by (o ∷ os)) os ≡ true
    rest k = all_imply (λ q. not (same_op o.name q.name) && is_live_by os q) (is_live_by (o ∷ os)) os later (all_both (λ q. not (same_op o.name q.name)) (is_live_by os) os (left (list_all (λ q. not (same_op o.name q.name)) os) _ h) k)

pub live_by_name : (c : ℕ) (place : List Entry) → list_all (λ o. implies (is_live_at c place o.name) (is_live o)) (operations c place) ≡ true
live_by_name c place = alone (operations c place) (named_apart c 0 [] place)
