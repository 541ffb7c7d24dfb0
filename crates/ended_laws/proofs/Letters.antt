-- What is so of each end of an operation among letters that are given.
use Rattle.std.proofs.Common.{◌≡◌, ℕ, Bool, true, false, ◌==◌, ◌&&◌, List, [], ◌∷◌, ◌++◌, refl, ap, sym, subst}
use Rattle.std.specs.Prelude.{Option, Some, None}
use Rattle.std.specs.List.{list_any}
use Rattle.lload_names.specs.Same.{same_latency, same_letter}
use Rattle.lload_names.specs.declared.names.Letter.{Letter}
use Rattle.lload_names.specs.declared.names.Letter.TheVariants.{Ended}
use Rattle.lload_names.specs.declared.names.OpName.{OpName}
use Rattle.lload_names.specs.declared.names.PartName.TheVariants.{Desk}
use Rattle.lload_names.specs.declared.names.Posted.{Posted}
use Rattle.lload_spec.specs.Journal.{same_op, same_part}
use Rattle.lload_spec.proofs.Growth.{left, right}
use Rattle.part_laws.proofs.ListLaws.{eqb_same, or_elim, same_number, same_op_eq}
use Rattle.part_spec.specs.Marked.{letters_to}
use Rattle.client_answer_laws.proofs.Each.{Each}

abbrev pub OfEnd : (OpName → Option ℕ → Type 0) → Letter → Type 0
OfEnd P (Ended op u latency) = P op latency
OfEnd P _ = Unit {0}

abbrev pub Ends : (OpName → Option ℕ → Type 0) → List Posted → Type 0
Ends P xs = Each (λ x. OfEnd P x.letter) xs

pub same_told : (a b : Option ℕ) → same_latency a b ≡ true → a ≡ b
same_told None None h = refl
same_told (Some a) (Some b) h = ap Some (same_number a b h)
same_told None (Some b) h = absurd (let bad : false ≡ true = h in cc)
same_told (Some a) None h = absurd (let bad : false ≡ true = h in cc)

pub told_same : (a : Option ℕ) → same_latency a a ≡ true
told_same None = refl
told_same (Some a) = same a
  where
    same : (n : ℕ) → (n == n) ≡ true
    same n = eqb_same n

-- so it is of an end that the desk is given
pub told_end : (P : OpName → Option ℕ → Type 0) (op : OpName) (u : ℕ) (latency : Option ℕ) (xs : List Posted) → Ends P xs → list_any (same_letter (Ended op u latency)) (letters_to Desk xs) ≡ true → P op latency
told_end P op u latency [] h k = absurd (let bad : false ≡ true = k in cc)
told_end P op u latency (x ∷ xs) h k = by (same_part Desk x.to) k (told_end P op u latency xs h.1)
  where
    letter : (y : Letter) → same_letter (Ended op u latency) y ≡ true → OfEnd P y → P op latency
    letter (Ended o v l) j i = subst (λ n. P n latency) (sym (same_op_eq op o (left (same_op op o) (u == v) (left (same_op op o && u == v) _ j)))) (subst (P o) (sym (same_told latency l (right (same_op op o && u == v) _ j))) i)
    letter _ j i = absurd (let bad : false ≡ true = j in cc)

    by : (b : Bool) → list_any (same_letter (Ended op u latency)) ((elim b [ true ↦ x.letter ∷ [] | false ↦ [] ]) ++ letters_to Desk xs) ≡ true → (list_any (same_letter (Ended op u latency)) (letters_to Desk xs) ≡ true → P op latency) → P op latency
    by true j more = or_elim (same_letter (Ended op u latency) x.letter) _ (λ i. letter x.letter i h.0) more j
    by false j more = more j
