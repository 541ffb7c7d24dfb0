-- Entries of a list with what stands before and behind them. A place of a list is what stands before it.
use Rattle.std.specs.Prelude.{ℕ, Bool, true, false, ◌&&◌, ◌||◌, ◌==◌, List, [], ◌∷◌, ◌++◌, Option, Some, None}
use Rattle.std.specs.List.{list_any}
use Rattle.std.specs.Str.{bytes_eq}
pub use Rattle.lload_names.specs.Same.{agrees}

-- whether the test passes at each entry, with what stands before it and behind it, where this stands before them all
abbrev pub each_split_from : {A : Type 0} → (List A → A → List A → Bool) → List A → List A → Bool
each_split_from test before [] = true
each_split_from test before (x ∷ xs) = test before x xs && each_split_from test (before ++ x ∷ []) xs

-- whether the test passes at each split of the list into what stands before an entry, the entry, and what stands behind it
abbrev pub each_split : {A : Type 0} → (List A → A → List A → Bool) → List A → Bool
each_split test xs = each_split_from test [] xs

-- whether the test passes at some entry, with what stands before it and behind it, where this stands before them all
abbrev pub some_split_from : {A : Type 0} → (List A → A → List A → Bool) → List A → List A → Bool
some_split_from test before [] = false
some_split_from test before (x ∷ xs) = test before x xs || some_split_from test (before ++ x ∷ []) xs

-- whether the test passes at some split
abbrev pub some_split : {A : Type 0} → (List A → A → List A → Bool) → List A → Bool
some_split test xs = some_split_from test [] xs

-- whether the test passes at each entry, with what stands before it: a later entry changes nothing
abbrev pub each_entry : {A : Type 0} → (List A → A → Bool) → List A → Bool
each_entry test xs = each_split (λ before x behind. test before x) xs

-- whether the test passes at some entry, with what stands before it
abbrev pub some_entry : {A : Type 0} → (List A → A → Bool) → List A → Bool
some_entry test xs = some_split (λ before x behind. test before x) xs

-- the first element
abbrev pub first : {A : Type 0} → List A → Option A
first [] = None
first (x ∷ xs) = Some x

-- the last element
abbrev pub last : {A : Type 0} → List A → Option A
last [] = None
last (x ∷ []) = Some x
last (x ∷ y ∷ xs) = last (y ∷ xs)

-- whether the first element is there and passes
abbrev pub first_passes : {A : Type 0} → (A → Bool) → List A → Bool
first_passes test xs = elim (first xs) [ None ↦ false | Some x ↦ test x ]

-- a test of what may be there; nothing fails it
abbrev pub passes : {A : Type 0} → (A → Bool) → Option A → Bool
passes test o = elim o [ None ↦ false | Some x ↦ test x ]

-- whether the texts of the first list begin the second, in order
abbrev pub is_prefix : List (List ℕ) → List (List ℕ) → Bool
is_prefix [] ys = true
is_prefix (x ∷ xs) [] = false
is_prefix (x ∷ xs) (y ∷ ys) = bytes_eq x y && is_prefix xs ys

-- if the first holds, the second does
abbrev pub implies : Bool → Bool → Bool
implies true b = b
implies false b = true

-- whether no number stands twice in the list
abbrev pub are_distinct : List ℕ → Bool
are_distinct [] = true
are_distinct (n ∷ ns) = elim (list_any (λ m. m == n) ns) [ true ↦ false | false ↦ are_distinct ns ]
