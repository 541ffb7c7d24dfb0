-- Lists of connections after one came or went, and how many of them pass tests.
use Rattle.std.proofs.Common.{◌≡◌, ◌≢◌, ℕ, ◌+◌, ◌≤◌, Bool, true, false, ◌==◌, ◌&&◌, List, [], ◌∷◌, ◌++◌, length, filter, arith, refl, sym, ap, ◌∙◌}
use Rattle.std.proofs.lemmas.Bool.{eqb-true}
use Rattle.std.proofs.lemmas.Bool.Decides.{nat_tests}
use Rattle.part_spec.specs.DeskState.{without_connection}
use Rattle.ready_set.specs.Keys.{is_in}
use Rattle.desk_tables.specs.Pending.{one}

-- how often a number is among these
abbrev pub count_of : ℕ → List ℕ → ℕ
count_of n ns = length (filter (λ m. m == n) ns)

pub in-push-same : (u : ℕ) (vs : List ℕ) → is_in u (vs ++ u ∷ []) ≡ true
in-push-same u [] = grind (arith, nat_tests)
in-push-same u (v ∷ vs) = grind (arith, nat_tests, in-push-same u vs)

pub in-push-other : (u m : ℕ) (vs : List ℕ) → m ≢ u → is_in m (vs ++ u ∷ []) ≡ is_in m vs
in-push-other u m [] ne = grind (arith, nat_tests)
in-push-other u m (v ∷ vs) ne = grind (arith, nat_tests, in-push-other u m vs ne)

pub in-without-same : (u : ℕ) (vs : List ℕ) → is_in u (without_connection u vs) ≡ false
in-without-same u [] = refl
in-without-same u (v ∷ vs) = grind (arith, nat_tests, in-without-same u vs)

pub in-without-other : (u m : ℕ) (vs : List ℕ) → m ≢ u → is_in m (without_connection u vs) ≡ is_in m vs
in-without-other u m [] ne = refl
in-without-other u m (v ∷ vs) ne = grind (arith, nat_tests, in-without-other u m vs ne)

pub without-none : (u : ℕ) (vs : List ℕ) → is_in u vs ≡ false → without_connection u vs ≡ vs
without-none u [] e = refl
without-none u (v ∷ vs) e = grind (arith, nat_tests, e, without-none u vs)

pub in-count : (u : ℕ) (vs : List ℕ) → is_in u vs ≡ true → 1 ≤ count_of u vs
in-count u [] e = absurd (let bad : false ≡ true = e in cc)
in-count u (v ∷ vs) e = grind (arith, nat_tests, e, in-count u vs)

pub out-count : (u : ℕ) (vs : List ℕ) → is_in u vs ≡ false → count_of u vs ≡ 0
out-count u [] e = refl
out-count u (v ∷ vs) e = grind (arith, nat_tests, e, out-count u vs)

pub once-without : (m u : ℕ) (vs : List ℕ) → count_of m (without_connection u vs) ≤ count_of m vs
once-without m u [] = omega arith
once-without m u (v ∷ vs) = grind (arith, once-without m u vs)

pub once-push : (m u : ℕ) (vs : List ℕ) → count_of m (vs ++ u ∷ []) ≡ count_of m vs + one (u == m)
once-push m u [] = grind arith
once-push m u (v ∷ vs) = grind (arith, once-push m u vs)

not-in : (u : ℕ) (vs : List ℕ) → count_of u vs ≤ 0 → is_in u vs ≡ false
not-in u [] l = refl
not-in u (v ∷ vs) l = grind (arith, nat_tests, l, not-in u vs)

without-same : (u v : ℕ) (vs : List ℕ) → (v == u) ≡ true → without_connection u (v ∷ vs) ≡ without_connection u vs
without-same u v vs e = grind (arith, e)

without-other : (u v : ℕ) (vs : List ℕ) → (v == u) ≡ false → without_connection u (v ∷ vs) ≡ v ∷ without_connection u vs
without-other u v vs e = grind (arith, e)

count-head : (u v : ℕ) (vs : List ℕ) → count_of u (v ∷ vs) ≡ count_of u vs + one (v == u)
count-head u v vs = grind arith

-- how many pass two tests
pass-head : (p q : ℕ → Bool) (v : ℕ) (vs : List ℕ) → length (filter p (filter q (v ∷ vs))) ≡ length (filter p (filter q vs)) + one (q v && p v)
pass-head p q v vs = grind arith

in-rest : (u v : ℕ) (vs : List ℕ) → (v == u) ≡ false → is_in u (v ∷ vs) ≡ true → is_in u vs ≡ true
in-rest u v vs e h = grind (arith, e, h)

-- without one that stands once
pub count-gone : (p q : ℕ → Bool) (u : ℕ) (vs : List ℕ) → count_of u vs ≤ 1 → is_in u vs ≡ true → length (filter p (filter q (without_connection u vs))) + one (q u && p u) ≡ length (filter p (filter q vs))
count-gone p q u [] l e = absurd (let bad : false ≡ true = e in cc)
count-gone p q u (v ∷ vs) l e = by (v == u) refl (count-gone p q u vs)
  where
    by : (b : Bool) → (v == u) ≡ b → (count_of u vs ≤ 1 → is_in u vs ≡ true → length (filter p (filter q (without_connection u vs))) + one (q u && p u) ≡ length (filter p (filter q vs))) → length (filter p (filter q (without_connection u (v ∷ vs)))) + one (q u && p u) ≡ length (filter p (filter q (v ∷ vs)))
    by true t ih =
        let is : v ≡ u = eqb-true v u t in
        let rest : count_of u vs ≤ 0 = omega (arith, l, count-head u v vs, ap one t) in
        ap (λ ws. length (filter p (filter q ws)) + one (q u && p u)) (without-same u v vs t ∙ without-none u vs (not-in u vs rest))
        ∙ ap (λ x. length (filter p (filter q vs)) + one (q x && p x)) (sym is) ∙ sym (pass-head p q v vs)
    by false t ih =
        let less : count_of u vs ≤ 1 = omega (arith, l, count-head u v vs, ap one t) in
        let ws = without_connection u vs in
        let head : length (filter p (filter q (without_connection u (v ∷ vs)))) ≡ length (filter p (filter q ws)) + one (q v && p v) = ap (λ ws. length (filter p (filter q ws))) (without-other u v vs t) ∙ pass-head p q v ws in
        omega (arith, head, ih less (in-rest u v vs t e), pass-head p q v vs)

-- and with one more
pub count-came : (p q : ℕ → Bool) (u : ℕ) (vs : List ℕ) → length (filter p (filter q (vs ++ u ∷ []))) ≡ length (filter p (filter q vs)) + one (q u && p u)
count-came p q u [] = grind arith
count-came p q u (v ∷ vs) = grind (arith, count-came p q u vs)
