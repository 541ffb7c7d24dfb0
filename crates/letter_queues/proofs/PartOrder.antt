-- Parts, and their order.
use Rattle.std.proofs.Common.{◌≡◌, ℕ, Bool, true, false, cond, ◌&&◌, ◌==◌, refl, ap, sym, ◌∙◌, arith}
use Rattle.std.proofs.lemmas.Bool.Decides.{nat_tests}
use Rattle.std.specs.Prelude.{nat_lt, ◌||◌}
use Rattle.std.specs.declared.cmp.Ordering.TheVariants.{Less, Equal, Greater}
use Rattle.std.specs.Ordering.{is_gt, nat_cmp, MatchOrdering}
use Rattle.std.specs.Cmp.{IsTotalOrder, strict}
use Rattle.lload_names.specs.declared.names.PartName.{PartName}
use Rattle.lload_names.specs.declared.names.PartName.TheVariants.{Desk, Client, Up}
use Rattle.lload_names.specs.Same.{same_part}
use Rattle.part_spec.specs.World.{is_below}
use Rattle.letter_queues.specs.Rows.{part_cmp, is_part}

number-refl : (n : ℕ) → (n == n) ≡ true
number-refl n = grind (arith, nat_tests)

pub part-refl : (p : PartName) → same_part p p ≡ true
part-refl Desk = refl
part-refl (Client n) = number-refl n
part-refl (Up n) = number-refl n

number-is : (n m : ℕ) → (n == m) ≡ true → n ≡ m
number-is n m h = grind (arith, nat_tests, h)

pub part-is : (p q : PartName) → same_part p q ≡ true → p ≡ q
part-is Desk Desk h = refl
part-is (Client n) (Client m) h = ap Client (number-is n m h)
part-is (Up n) (Up m) h = ap Up (number-is n m h)
part-is Desk (Client m) h = absurd (let bad : false ≡ true = h in cc)
part-is Desk (Up m) h = absurd (let bad : false ≡ true = h in cc)
part-is (Client n) Desk h = absurd (let bad : false ≡ true = h in cc)
part-is (Client n) (Up m) h = absurd (let bad : false ≡ true = h in cc)
part-is (Up n) Desk h = absurd (let bad : false ≡ true = h in cc)
part-is (Up n) (Client m) h = absurd (let bad : false ≡ true = h in cc)

-- the code's test is the definitions'
pub is-part : (p q : PartName) → is_part p q ≡ same_part p q
is-part Desk Desk = refl
is-part Desk (Client m) = refl
is-part Desk (Up m) = refl
is-part (Client n) Desk = refl
is-part (Client n) (Client m) = grind (arith, nat_tests)
is-part (Client n) (Up m) = refl
is-part (Up n) Desk = refl
is-part (Up n) (Client m) = refl
is-part (Up n) (Up m) = grind (arith, nat_tests)

number-gt : (n m : ℕ) → is_gt (nat_cmp n m) ≡ nat_lt m n
number-gt n m = grind (arith, nat_tests)

-- the code's order is the definitions'
pub gt-is : (p q : PartName) → is_gt (part_cmp p q) ≡ is_below q p
gt-is Desk Desk = refl
gt-is Desk (Client m) = refl
gt-is Desk (Up m) = refl
gt-is (Client n) Desk = refl
gt-is (Client n) (Client m) = number-gt n m
gt-is (Client n) (Up m) = refl
gt-is (Up n) Desk = refl
gt-is (Up n) (Client m) = refl
gt-is (Up n) (Up m) = number-gt n m

-- the order is one of kinds, and then of numbers
abbrev rank_of : PartName → ℕ
rank_of Desk = 0
rank_of (Client n) = 1
rank_of (Up n) = 2

abbrev number_of : PartName → ℕ
number_of Desk = 0
number_of (Client n) = n
number_of (Up n) = n

abbrev is_less : ℕ → ℕ → ℕ → ℕ → Bool
is_less a b n m = nat_lt a b || (a == b && nat_lt n m)

below-is : (p q : PartName) → is_below p q ≡ is_less (rank_of p) (rank_of q) (number_of p) (number_of q)
below-is Desk Desk = refl
below-is Desk (Client m) = refl
below-is Desk (Up m) = refl
below-is (Client n) Desk = refl
below-is (Client n) (Client m) = refl
below-is (Client n) (Up m) = refl
below-is (Up n) Desk = refl
below-is (Up n) (Client m) = refl
below-is (Up n) (Up m) = refl

less-chain : (a b c n m o : ℕ) → is_less a b n m ≡ true → is_less b c m o ≡ true → is_less a c n o ≡ true
less-chain a b c n m o h k = grind (arith, nat_tests, h, k)

less-split : (a b c n m o : ℕ) → is_less a c n o ≡ true → is_less b c m o ≡ false → is_less a b n m ≡ true
less-split a b c n m o h k = grind (arith, nat_tests, h, k)

pub below-chain : (p q r : PartName) → is_below p q ≡ true → is_below q r ≡ true → is_below p r ≡ true
below-chain p q r h k =
    below-is p r ∙ less-chain (rank_of p) (rank_of q) (rank_of r) (number_of p) (number_of q) (number_of r) (sym (below-is p q) ∙ h) (sym (below-is q r) ∙ k)

-- what is below one that isn't above another is below the other
pub below-split : (p q r : PartName) → is_below p r ≡ true → is_below q r ≡ false → is_below p q ≡ true
below-split p q r h k =
    below-is p q ∙ less-split (rank_of p) (rank_of q) (rank_of r) (number_of p) (number_of q) (number_of r) (sym (below-is p r) ∙ h) (sym (below-is q r) ∙ k)

less-itself : (a n : ℕ) → is_less a a n n ≡ false
less-itself a n = grind (arith, nat_tests)

pub not-below-itself : (p : PartName) → is_below p p ≡ false
not-below-itself p = below-is p p ∙ less-itself (rank_of p) (number_of p)

number-neither : (n m : ℕ) → nat_lt n m ≡ false → nat_lt m n ≡ false → (n == m) ≡ true
number-neither n m h k = grind (arith, nat_tests, h, k)

-- of two parts one is below the other, or they are one
pub neither-below : (p q : PartName) → is_below p q ≡ false → is_below q p ≡ false → same_part p q ≡ true
neither-below Desk Desk h k = refl
neither-below (Client n) (Client m) h k = number-neither n m h k
neither-below (Up n) (Up m) h k = number-neither n m h k
neither-below Desk (Client m) h k = absurd (let bad : true ≡ false = h in cc)
neither-below Desk (Up m) h k = absurd (let bad : true ≡ false = h in cc)
neither-below (Client n) Desk h k = absurd (let bad : true ≡ false = k in cc)
neither-below (Client n) (Up m) h k = absurd (let bad : true ≡ false = h in cc)
neither-below (Up n) Desk h k = absurd (let bad : true ≡ false = k in cc)
neither-below (Up n) (Client m) h k = absurd (let bad : true ≡ false = k in cc)

number-ranks : (C : ℕ → PartName) (n m : ℕ) → MatchOrdering (nat_cmp n m) (nat_lt n m ≡ true) (C n ≡ C m) (nat_lt m n ≡ true)
number-ranks C n m = by (nat_lt n m) (n == m) refl refl
  where
    by : (l e : Bool) → nat_lt n m ≡ l → (n == m) ≡ e → MatchOrdering (cond l Less (cond e Equal Greater)) (nat_lt n m ≡ true) (C n ≡ C m) (nat_lt m n ≡ true)
    by true e h k = h
    by false true h k = ap C (number-is n m k)
    by false false h k = grind (arith, nat_tests, h, k)

ranks : (p q : PartName) → MatchOrdering (part_cmp p q) (is_below p q ≡ true) (p ≡ q) (is_below q p ≡ true)
ranks Desk Desk = refl
ranks Desk (Client m) = refl
ranks Desk (Up m) = refl
ranks (Client n) Desk = refl
ranks (Client n) (Client m) = number-ranks Client n m
ranks (Client n) (Up m) = refl
ranks (Up n) Desk = refl
ranks (Up n) (Client m) = refl
ranks (Up n) (Up m) = number-ranks Up n m

irreflexive : (p : PartName) → is_below p p ≡ true → ⊥
irreflexive p h = absurd (let bad : false ≡ true = sym (not-below-itself p) ∙ h in cc)

pub part-total : IsTotalOrder part_cmp
part-total = strict (λ p q. is_below p q ≡ true) irreflexive below-chain part_cmp ranks
