-- Lists of which each element passes one test, and some pass another.
use Rattle.std.proofs.Common.{◌≡◌, Bool, true, false, ◌&&◌, not, List, [], ◌∷◌, ◌++◌, refl, ap, ◌∙◌, sym, subst, append_assoc}
use Rattle.std.specs.Prelude.{Some, filter, find, flat_map, map}
use Rattle.std.specs.List.{list_any, list_all}
use Rattle.std.proofs.lemmas.List.{append-nil}
use Rattle.lload_names.specs.declared.names.Entry.{Entry}
use Rattle.lload_spec.specs.Entries.{operation_message}
use Rattle.lload_spec.specs.Operations.{Operation, operations, operation_made}
use Rattle.lload_spec.proofs.Growth.{left, right, both}
use Rattle.lload_laws.specs.ClientGrowth.{later_operation}
use Rattle.lload_laws.proofs.ClientGrowth.{operations_grow}
use Rattle.lload_laws.proofs.ListLaws.{any-filter, any-map, any-ext, found}
use Rattle.part_laws.proofs.ListLaws.{any_before, none_of_both, or_elim, or_left, or_right}
use Rattle.forward_laws.proofs.Outs.{none_of}
use Rattle.std.proofs.Common.{ℕ, suc, length}

-- some that passes, where each is known to be so
pub any_among : {A : Type 0} (u t q : A → Bool) (xs : List A) → ((x : A) → u x ≡ true → t x ≡ true → q x ≡ true) → list_all u xs ≡ true → list_any t xs ≡ true → list_any q xs ≡ true
any_among u t q [] f a h = h
any_among u t q (x ∷ xs) f a h =
    or_elim (t x) (list_any t xs) (λ k. or_left (q x) _ (f x (left (u x) _ a) k))
    (λ k. or_right (q x) _ (any_among u t q xs f (right (u x) _ a) k)) h

-- it stays among those that are kept
pub any_kept : {A : Type 0} (u t q : A → Bool) (xs : List A) → ((x : A) → u x ≡ true → t x ≡ true → q x ≡ true) → list_all u xs ≡ true → list_any t xs ≡ true → list_any t (filter q xs) ≡ true
any_kept u t q xs f a h = any-filter t q xs ∙ any_among u t (λ x. q x && t x) xs (λ x i j. both (q x) _ (f x i j) j) a h

-- what passes and is found is some that passes
pub any_found : {A : Type 0} (t q : A → Bool) (xs : List A) (y : A) → find t xs ≡ Some y → q y ≡ true → list_any q xs ≡ true
any_found t q xs y e h = by (list_any q xs) refl
  where
    by : (b : Bool) → list_any q xs ≡ b → b ≡ true
    by true k = refl
    by false k = absurd (let bad : false ≡ true = ap not (sym h) ∙ found (λ x. not (q x)) t xs y e (none_of q xs k) in cc)

-- none of the lists of all elements
pub none_flat : {A B : Type 0} (t : B → Bool) (f : A → List B) (xs : List A) → ((x : A) → list_any t (f x) ≡ false) → list_any t (flat_map f xs) ≡ false
none_flat t f [] h = refl
none_flat t f (x ∷ xs) h = none_of_both t (f x) (flat_map f xs) (h x) (none_flat t f xs h)

-- some operation of a longer list, by its request and what stands before it
pub any_later : (t : Operation → Bool) (c : ℕ) (L M : List Entry) → ((e : Entry) (o : Operation) → t (later_operation e o) ≡ t o) → list_any t (operations c L) ≡ true → list_any t (operations c (L ++ M)) ≡ true
any_later t c L [] f h = subst (λ l. list_any t (operations c l) ≡ true) (sym (append-nil L)) h
any_later t c L (e ∷ M) f h = subst (λ l. list_any t (operations c l) ≡ true) (append_assoc L (e ∷ []) M) (any_later t c (L ++ e ∷ []) M f next)
  where
    next : list_any t (operations c (L ++ e ∷ [])) ≡ true
    next =
        ap (list_any t) (operations_grow c L e)
        ∙ any_before t (map (later_operation e) (operations c L)) (operation_made c (suc (length (operations c L))) L e [] (operation_message e.what))
        (any-map t (later_operation e) (operations c L) ∙ any-ext (λ o. t (later_operation e o)) t (operations c L) (f e) ∙ h)
