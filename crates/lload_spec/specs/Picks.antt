-- How one of several is picked in turn, by weights or by latency: the backend of a tier (tier in lloadd.conf(5)), and
-- the place of a backend. What is picked from may be of any type, by its number, its weight and its mean latency.
use Rattle.std.specs.Prelude.{ℕ, zero, suc, ◌+◌, ◌-◌, ◌/◌, ◌%◌, Bool, true, false, ◌==◌, nat_lt, if◌then◌else◌, List, [], ◌∷◌, ◌++◌, length, drop, sum, Option, Some, None}
use Rattle.lload_names.specs.declared.plans.TierKind.{TierKind}
use Rattle.lload_names.specs.declared.plans.TierKind.TheVariants.{RoundRobin, Weighted, BestOf}
use Rattle.lload_spec.specs.Lists.{first}

-- so many numbers, rising by one from the first
abbrev pub rising : ℕ → ℕ → List ℕ
rising from zero = []
rising from (suc n) = from ∷ rising (suc from) n

module _ {A : Type 0} where
  -- the list from the successor of its first element that passes, or as it is where none does; these stood before it
  abbrev pub from_successor : (A → Bool) → List A → List A → List A
  from_successor test before [] = before
  from_successor test before (x ∷ xs) =
      elim (test x) [ true ↦ xs ++ (before ++ x ∷ []) | false ↦ from_successor test (before ++ x ∷ []) xs ]

  -- the order of a turn: from the successor of the one that was chosen last, or from the first
  abbrev pub in_turn : (A → ℕ) → Option ℕ → List A → List A
  in_turn number None xs = xs
  in_turn number (Some n) xs = from_successor (λ x. number x == n) [] xs

  -- the sum of the weights
  abbrev pub total_weight : (A → ℕ) → List A → ℕ
  total_weight weight [] = 0
  total_weight weight (x ∷ xs) = weight x + total_weight weight xs

  -- the list with the one first whose running sum of weights exceeds the draw; the others keep their order
  abbrev pub drawn_first : (A → ℕ) → ℕ → List A → List A → List A
  drawn_first weight x before [] = before
  drawn_first weight x before (y ∷ ys) =
      elim (nat_lt x (weight y)) [
        | true ↦ y ∷ (before ++ ys)
        | false ↦ drawn_first weight (x - weight y) (before ++ y ∷ []) ys
      ]

  -- the first, and this order of the others
  abbrev pub keep_first : (List A → List A) → List A → List A
  keep_first order [] = []
  keep_first order (x ∷ xs) = x ∷ order xs

  -- the order of at most so many draws from a random word: in each, w mod the sum of the weights left draws the next,
  -- and the word is divided by this sum; where it is 0 the rest follow in order
  abbrev pub draws : (A → ℕ) → ℕ → ℕ → List A → List A
  draws weight zero w xs = xs
  draws weight (suc k) w xs =
      let total = total_weight weight xs in
      elim (total == 0) [
        | true ↦ xs
        | false ↦ keep_first (draws weight k (w / total)) (drawn_first weight (w % total) [] xs)
      ]

  -- the weighted order, which a random word draws
  abbrev pub weighted : (A → ℕ) → ℕ → List A → List A
  weighted weight w xs = draws weight (length xs) w xs

  -- the order of a tier of a kind, by the number that was chosen last and a random word
  abbrev pub tier_order : TierKind → (A → ℕ) → (A → ℕ) → Option ℕ → ℕ → List A → List A
  tier_order RoundRobin number weight chosen w xs = in_turn number chosen xs
  tier_order Weighted number weight chosen w xs = weighted weight w xs
  tier_order BestOf number weight chosen w xs = weighted weight w xs

  -- of the first two the one with the lower mean latency, at a tie the first
  abbrev pub better_of_two : (A → ℕ) → List A → Option A
  better_of_two mean [] = None
  better_of_two mean (x ∷ []) = Some x
  better_of_two mean (x ∷ y ∷ ys) = Some (if nat_lt (mean y) (mean x) then y else x)

  -- the pick of a tier of a kind from those that are eligible, in its order: the first, or the better of the first two
  abbrev pub tier_pick : TierKind → (A → ℕ) → List A → Option A
  tier_pick RoundRobin mean xs = first xs
  tier_pick Weighted mean xs = first xs
  tier_pick BestOf mean xs = better_of_two mean xs

-- the last so many
abbrev pub last_of : ℕ → List ℕ → List ℕ
last_of n xs = drop (length xs - n) xs

-- the mean, rounded down, 0 where there are none
abbrev pub mean : List ℕ → ℕ
mean xs = if length xs == 0 then 0 else sum xs / length xs

-- how many latencies of a backend count
abbrev pub ring_size : ℕ
ring_size = 16

-- the mean of the last of some latencies that count
abbrev pub mean_of_last : List ℕ → ℕ
mean_of_last latencies = mean (last_of ring_size latencies)
