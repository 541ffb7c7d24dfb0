-- Two lists that show the same are asked the same.
use Rattle.std.proofs.Common.{◌≡◌, ℕ, suc, Bool, true, false, ◌||◌, cond, List, [], ◌∷◌, ◌++◌, filter, find, length, map, Option, Some, None, refl, ap, sym, ◌∙◌}
use Rattle.std.specs.List.{list_any, flat_map}
use Rattle.std.specs.Option.{option_map}

module _ {A C : Type 0} (f : A → C) where
  any-map : (t : C → Bool) (xs : List A) → list_any (λ x. t (f x)) xs ≡ list_any t (map f xs)
  any-map t [] = refl
  any-map t (x ∷ xs) = ap (λ b. t (f x) || b) (any-map t xs)

  find-map : (t : C → Bool) (xs : List A) → option_map f (find (λ x. t (f x)) xs) ≡ find t (map f xs)
  find-map t [] = refl
  find-map t (x ∷ xs) = by (t (f x)) (find-map t xs)
    where
      by : (b : Bool) → option_map f (find (λ x. t (f x)) xs) ≡ find t (map f xs) → option_map f (cond b (Some x) (find (λ x. t (f x)) xs)) ≡ cond b (Some (f x)) (find t (map f xs))
      by true ih = refl
      by false ih = ih

  filter-map : (t : C → Bool) (xs : List A) → map f (filter (λ x. t (f x)) xs) ≡ filter t (map f xs)
  filter-map t [] = refl
  filter-map t (x ∷ xs) = by (t (f x)) (filter-map t xs)
    where
      by : (b : Bool) → map f (filter (λ x. t (f x)) xs) ≡ filter t (map f xs) → map f (cond b (x ∷ filter (λ x. t (f x)) xs) (filter (λ x. t (f x)) xs)) ≡ cond b (f x ∷ filter t (map f xs)) (filter t (map f xs))
      by true ih = ap (λ l. f x ∷ l) ih
      by false ih = ih

  length-map : (xs : List A) → length (map f xs) ≡ length xs
  length-map [] = refl
  length-map (x ∷ xs) = ap suc (length-map xs)

module _ {A B C : Type 0} (f : A → C) (g : B → C) (t : C → Bool) (xs : List A) (ys : List B) (e : map f xs ≡ map g ys) where
  pub any-through : list_any (λ x. t (f x)) xs ≡ list_any (λ y. t (g y)) ys
  any-through = any-map f t xs ∙ ap (list_any t) e ∙ sym (any-map g t ys)

  pub find-through : option_map f (find (λ x. t (f x)) xs) ≡ option_map g (find (λ y. t (g y)) ys)
  find-through = find-map f t xs ∙ ap (find t) e ∙ sym (find-map g t ys)

  pub filter-through : map f (filter (λ x. t (f x)) xs) ≡ map g (filter (λ y. t (g y)) ys)
  filter-through = filter-map f t xs ∙ ap (filter t) e ∙ sym (filter-map g t ys)

  pub count-through : length (filter (λ x. t (f x)) xs) ≡ length (filter (λ y. t (g y)) ys)
  count-through = sym (length-map f (filter (λ x. t (f x)) xs)) ∙ ap (length {A = C}) filter-through ∙ length-map g (filter (λ y. t (g y)) ys)
