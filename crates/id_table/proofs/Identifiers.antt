-- The free identifiers, where one is given and where one is freed.
use Rattle.std.proofs.Common.{◌≡◌, ℕ, suc, max, Bool, true, false, ◌==◌, ◌||◌, not, cond, List, [], ◌∷◌, ◌++◌, Option, Some, None, arith, refl, ap, subst, ◌∙◌, sym}
use Rattle.std.proofs.lemmas.Bool.Decides.{nat_tests}
use Rattle.std.proofs.lemmas.Bool.{eq-eqb}
use Rattle.std.proofs.lemmas.List.Folds.{list_any-append}
use Rattle.std.specs.Prelude.{filter, is_some}
use Rattle.std.specs.Option.{option_to_list}
use Rattle.std.specs.List.{AllByRecursion}
use Rattle.lload_spec.specs.Identifiers.{Ids, id_for, with_sent_id}
use Rattle.id_table.specs.Given.{has_id, EachOnce, WasGiven, AreIds}

pub all-imply : {A : Type 0} (P Q : A → Type 0) (xs : List A) → ((x : A) → P x → Q x) → AllByRecursion P xs → AllByRecursion Q xs
all-imply P Q [] f h = tt
all-imply P Q (x ∷ xs) f h = (f x h.0, all-imply P Q xs f h.1)

pub all-push : {A : Type 0} (P : A → Type 0) (xs : List A) (x : A) → AllByRecursion P xs → P x → AllByRecursion P (xs ++ x ∷ [])
all-push P [] x h p = (p, tt)
all-push P (y ∷ ys) x h p = (h.0, all-push P ys x h.1 p)

other : (a b : Bool) → (a || b) ≡ false → (a ≡ false) × (b ≡ false)
other false false h = (refl, refl)
other true b h = absurd (let bad : true ≡ false = h in cc)
other false true h = absurd (let bad : true ≡ false = h in cc)

neither : (a b : Bool) → a ≡ false → b ≡ false → (a || b) ≡ false
neither false b h k = k
neither true b h k = absurd (let bad : true ≡ false = h in cc)

once-push : (ids : List ℕ) (id : ℕ) → EachOnce ids → has_id id ids ≡ false → EachOnce (ids ++ id ∷ [])
once-push [] id o h = (refl, tt)
once-push (x ∷ xs) id o h =
    let apart = other (x == id) (has_id id xs) h in
    (list_any-append (λ y. y == x) xs (id ∷ []) ∙ neither (has_id x xs) ((id == x) || false) o.0 (grind (arith, nat_tests, apart.0)), once-push xs id o.1 apart.1)

pub freed-ids : (next : ℕ) (free more : List ℕ) (id : ℕ) → AreIds (record { next = next; free = free }) → WasGiven next id → has_id id free ≡ false → more ≡ free ++ id ∷ [] → AreIds (record { next = next; free = more })
freed-ids next free more id a g h e = subst (λ (l : List ℕ). AreIds (record { next = next; free = l })) (sym e) (record { begins = a.begins; given = all-push (WasGiven next) free id a.given g; once = once-push free id a.once h })

others-stay : (id : ℕ) (ids : List ℕ) → has_id id ids ≡ false → filter (λ n. not (n == id)) ids ≡ ids
others-stay id [] h = refl
others-stay id (x ∷ xs) h = let apart = other (x == id) (has_id id xs) h in ap (λ b. cond (not b) (x ∷ filter (λ n. not (n == id)) xs) (filter (λ n. not (n == id)) xs)) apart.0 ∙ ap (λ l. x ∷ l) (others-stay id xs apart.1)

abbrev ids_with : ℕ → List ℕ → Ids
ids_with next free = record { next = next; free = free }

first-used : (next id : ℕ) (ids : List ℕ) → AreIds (ids_with next (id ∷ ids)) → ids_with next ids ≡ with_sent_id id (ids_with next (id ∷ ids))
first-used next id ids a =
    let stays : next ≡ max next (suc id) = omega (arith, a.given.0.1) in
    let rest : ids ≡ filter (λ n. not (n == id)) (id ∷ ids) = sym (others-stay id ids a.once.0) ∙ ap (λ b. cond (not b) (id ∷ filter (λ n. not (n == id)) ids) (filter (λ n. not (n == id)) ids)) (sym (eq-eqb id id refl)) in
    λ i. record { next = stays i; free = rest i }

-- what is left of the free identifiers, where the first one was taken
pub first-taken : (next : ℕ) (free rest : List ℕ) (o : Option ℕ) → AreIds (ids_with next free) → free ≡ option_to_list o ++ rest → is_some o ≡ true → ids_with next rest ≡ with_sent_id (id_for (ids_with next free)) (ids_with next free)
first-taken next free rest None a e h = absurd (let bad : false ≡ true = h in cc)
first-taken next free rest (Some id) a e h = subst (λ (l : List ℕ). AreIds (ids_with next l) → ids_with next rest ≡ with_sent_id (id_for (ids_with next l)) (ids_with next l)) (sym e) (first-used next id rest) a
