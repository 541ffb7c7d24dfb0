-- The first and the last of lists that are made of others.
use Rattle.std.proofs.Common.{◌≡◌, List, [], ◌∷◌, ◌++◌, Option, Some, None, refl}
use Rattle.std.proofs.lemmas.List.{append-nil}
use Rattle.std.specs.Option.{option_or, option_to_list}
use Rattle.lload_spec.specs.Lists.{first, last}

module _ {A : Type 0} where
  pub first-append : (xs ys : List A) → first (xs ++ ys) ≡ option_or (first xs) (first ys)
  first-append [] ys = refl
  first-append (x ∷ xs) ys = refl

  pub last-push : (xs : List A) (x : A) → last (xs ++ x ∷ []) ≡ Some x
  last-push [] x = refl
  last-push (y ∷ []) x = refl
  last-push (y ∷ z ∷ xs) x = last-push (z ∷ xs) x

  pub last-more : (xs : List A) (o : Option A) → last (xs ++ option_to_list o) ≡ option_or o (last xs)
  last-more xs None = rw append-nil refl
  last-more xs (Some x) = last-push xs x
