-- Lists, element by element.
use Rattle.std.specs.Prelude.{List, [], ◌∷◌}

-- two lists, letter by letter
abbrev pub Pairs : {A B : Type 0} → (A → B → Type 0) → List A → List B → Type 0
Pairs R [] [] = Unit {0}
Pairs R [] (y ∷ ys) = ⊥
Pairs R (x ∷ xs) [] = ⊥
Pairs R (x ∷ xs) (y ∷ ys) = R x y × Pairs R xs ys

-- the first of these is this one's
abbrev pub FirstIs : {A B : Type 0} → (A → B → Type 0) → A → List B → Type 0
FirstIs R x [] = ⊥
FirstIs R x (y ∷ ys) = R x y

-- it holds of each
abbrev pub Each : {A : Type 0} → (A → Type 0) → List A → Type 0
Each P [] = Unit {0}
Each P (x ∷ xs) = P x × Each P xs

-- it holds of each two, of which the first one stands before the other
abbrev pub EachTwo : {A : Type 0} → (A → A → Type 0) → List A → Type 0
EachTwo R [] = Unit {0}
EachTwo R (x ∷ xs) = Each (R x) xs × EachTwo R xs
