-- Lists, letter by letter.
use Rattle.std.proofs.Common.{List, [], ◌∷◌, ◌++◌}
use Rattle.stands_laws.specs.Lists.{Pairs}

pub pairs_append : {A B : Type 0} (R : A → B → Type 0) (xs : List A) (ys : List B) (zs : List A) (ws : List B) → Pairs R xs ys → Pairs R zs ws → Pairs R (xs ++ zs) (ys ++ ws)
pairs_append R [] [] zs ws h k = k
pairs_append R [] (y ∷ ys) zs ws h k = absurd h
pairs_append R (x ∷ xs) [] zs ws h k = absurd h
pairs_append R (x ∷ xs) (y ∷ ys) zs ws h k = (h.0, pairs_append R xs ys zs ws h.1 k)

pub pairs_one : {A B : Type 0} (R : A → B → Type 0) (x : A) (y : B) → R x y → Pairs R (x ∷ []) (y ∷ [])
pairs_one R x y h = (h, tt)
