-- Connections of earlier plans belong to no backend of the plan in force.
use Rattle.std.proofs.Common.{◌≡◌, ℕ, zero, suc, ◌+◌, ◌-◌, ◌≤◌, Bool, true, false, ◌==◌, nat_lt, List, [], ◌∷◌, ◌++◌, length, map, take, drop, slice_get, Option, Some, None, refl, sym, ap, subst, ◌∙◌, arith}
use Rattle.std.proofs.lemmas.Bool.Decides.{nat_tests}
use Rattle.std.proofs.lemmas.List.{length-map}
use Rattle.lload_names.specs.declared.plans.BackendPlan.{BackendPlan}
use Rattle.lload_names.specs.declared.plans.TierPlan.{TierPlan}
use Rattle.lload_names.specs.declared.plans.Place.{Place}
use Rattle.lload_names.specs.declared.plans.Planned.{Planned}
use Rattle.lload_names.specs.Plans.{backends_of, place_of, raised_backend, raised, numbered_through, plan_for, place_by, backend_count, NumberedFrom, ArePlans}
use Rattle.lload_spec.specs.Settings.{Settings, place_at, is_of_backend, plan_in_force}
use Rattle.lload_reload.specs.Bases.{AreNotBelow}
use Rattle.lload_reload.proofs.Found.{not_below_at, plan_at}
use Rattle.lload_reload.proofs.Raised.{raised_place, place_of_raised, backend_within}
use Rattle.desk_rules.proofs.Changes.{number-at}
use Rattle.desk_rules.proofs.NewTables.{numbered-front, numbered-behind}
use Rattle.desk_rules.proofs.Placing.{passed-over, not-below-through, plan-is}

-- The numbers of a raised plan.

numbered-more : (n m : ℕ) (bs : List BackendPlan) → NumberedFrom m bs → NumberedFrom (n + m) (map (raised_backend n) bs)
numbered-more n m [] h = tt
numbered-more n m (b ∷ bs) h =
    let next : n + suc m ≡ suc (n + m) = omega arith in
    (omega (arith, h.0), subst (λ (z : ℕ). NumberedFrom z (map (raised_backend n) bs)) next (numbered-more n (suc m) bs h.1))

numbered-both : (n : ℕ) (xs ys : List BackendPlan) → NumberedFrom n xs → NumberedFrom (n + length xs) ys → NumberedFrom n (xs ++ ys)
numbered-both n [] ys h k = let none : n + 0 ≡ n = omega arith in subst (λ (z : ℕ). NumberedFrom z ys) none k
numbered-both n (x ∷ xs) ys h k =
    let next : n + length (x ∷ xs) ≡ suc n + length xs = omega arith in
    (h.0, numbered-both (suc n) xs ys h.1 (subst (λ (z : ℕ). NumberedFrom z ys) next k))

pub numbered-raised : (n m : ℕ) (ts : List TierPlan) → NumberedFrom m (backends_of ts) → NumberedFrom (n + m) (backends_of (map (raised n) ts))
numbered-raised n m [] h = tt
numbered-raised n m (t ∷ ts) h =
    let sum : n + (m + length t.backends) ≡ n + m + length (map (raised_backend n) t.backends) = omega (arith, length-map t.backends (raised_backend n)) in
    numbered-both (n + m) (map (raised_backend n) t.backends) (backends_of (map (raised n) ts)) (numbered-more n m t.backends (numbered-front m t.backends (backends_of ts) h))
    (subst (λ (z : ℕ). NumberedFrom z (backends_of (map (raised n) ts))) sum (numbered-raised n (m + length t.backends) ts (numbered-behind m t.backends (backends_of ts) h)))

-- the backends of the plan in force are numbered behind those of the plans before it
pub numbered-in-force : (s : Settings) (k : ℕ) (p : Planned) → ArePlans s.plans → slice_get s.plans k ≡ Some p → NumberedFrom (suc (backend_count (take k s.plans))) (backends_of (plan_in_force s (suc k)).plan)
numbered-in-force s k p a e =
    let n = backend_count (take k s.plans) in
    let first : n + 1 ≡ suc n = omega arith in
    subst (λ (q : Planned). NumberedFrom (suc n) (backends_of q.plan)) (sym (plan-is s k p e))
    (subst (λ (z : ℕ). NumberedFrom z (backends_of (map (raised n) p.plan))) first (numbered-raised n 1 p.plan (plan_at k s.plans p a e).in_order))

-- The place of a connection of an earlier plan is that of a backend of the earlier plans.

raised-within : (m most : ℕ) (o : Option Place) (q : Place) → ((p : Place) → o ≡ Some p → p.backend ≤ most) → raised_place m o ≡ Some q → q.backend ≤ m + most
raised-within m most None q h e = absurd (cc)
raised-within m most (Some p) q h e =
    let same : m + p.backend ≡ q.backend = cc in
    omega (arith, same, h p refl)

backend-below : (n m k : ℕ) (ps : List Planned) (found : Option Planned) → ((i : ℕ) (p : Planned) → slice_get ps i ≡ Some p → NumberedFrom 1 (backends_of p.plan)) → AreNotBelow n (drop k ps) → ((q : Place) → place_by found n ≡ Some q → q.backend ≤ m) → (q : Place) → place_by (plan_for found (numbered_through m ps) n) n ≡ Some q → q.backend ≤ m + backend_count (take k ps)
backend-below n m k [] found are h before q e = omega (arith, before q e)
backend-below n m zero (p ∷ ps) found are h before q e =
    let same = passed-over n (numbered_through m (p ∷ ps)) found (not-below-through m n zero (p ∷ ps) h) in
    omega (arith, before q (sym (ap (λ o. place_by o n) same) ∙ e))
backend-below n m (suc k) (p ∷ ps) found are h before q e =
    let rest = backend-below n (m + length (backends_of p.plan)) k ps (elim (nat_lt p.base n) [ true ↦ Some (record p { plan = map (raised m) p.plan }) | false ↦ found ]) (λ i. are (suc i)) h (by (nat_lt p.base n)) q e in
    omega (arith, rest)
  where
    by : (t : Bool) (q : Place) → place_by (elim t [ true ↦ Some (record p { plan = map (raised m) p.plan }) | false ↦ found ]) n ≡ Some q → q.backend ≤ m + length (backends_of p.plan)
    by false q e = omega (arith, before q e)
    by true q e = raised-within m (length (backends_of p.plan)) (place_of p.plan (n - p.base)) q (λ x g. backend_within p.plan (n - p.base) x (are 0 p refl) g) (sym (place_of_raised m p.plan (n - p.base)) ∙ e)

-- a connection that isn't above the base of the plan in force belongs to no backend of it
pub not-of-plan : (s : Settings) (k n j : ℕ) (p : Planned) (b : BackendPlan) → ArePlans s.plans → slice_get s.plans k ≡ Some p → n ≤ p.base → slice_get (backends_of (plan_in_force s (suc k)).plan) j ≡ Some b → is_of_backend s b.number n ≡ false
not-of-plan s k n j p b a e l g = by (place_at s n) refl
  where
    number : b.number ≡ suc (backend_count (take k s.plans)) + j
    number = number-at (suc (backend_count (take k s.plans))) j (backends_of (plan_in_force s (suc k)).plan) b (numbered-in-force s k p a e) g

    by : (o : Option Place) → place_at s n ≡ o → is_of_backend s b.number n ≡ false
    by None h = ap (λ o. elim o [ None ↦ false | Some q ↦ q.backend == b.number ]) h
    by (Some q) h =
        let small : q.backend ≤ 0 + backend_count (take k s.plans) = backend-below n 0 k s.plans None (λ i p e. (plan_at i s.plans p a e).in_order) (not_below_at n k s.plans p a e l) (λ q e. absurd (cc)) q h in
        let apart : (q.backend == b.number) ≡ false = grind (arith, nat_tests, small, number) in
        ap (λ o. elim o [ None ↦ false | Some q ↦ q.backend == b.number ]) h ∙ apart
