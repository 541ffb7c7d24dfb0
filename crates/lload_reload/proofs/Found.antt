-- The plan that a connection belongs to, by the end of those whose base is below its number.
use Rattle.std.proofs.Common.{◌≡◌, ℕ, zero, suc, ◌+◌, ◌-◌, ◌<◌, ◌≤◌, Bool, true, false, nat_lt, List, [], ◌∷◌, ◌++◌, length, map, take, drop, get_or, slice_get, subst, Option, Some, None, refl, sym, ◌∙◌, ap, arith}
use Rattle.std.proofs.lemmas.Bool.{le-ltb, lt-ltb}
use Rattle.std.proofs.lemmas.Option.{slice_get_read}
use Rattle.lload_names.specs.declared.plans.Planned.{Planned}
use Rattle.lload_names.specs.declared.plans.Place.{Place}
use Rattle.lload_names.specs.Plans.{backends_of, backend_count, greatest_number, raised, numbered_through, plan_for, place_by, place_of, place_among, IsPlan, ArePlans, ArePlansAbove}
use Rattle.lload_reload.specs.Bases.{last_base_from, counts_before, AreKept, AreNotBelow, IsEndBelow}
use Rattle.lload_reload.proofs.Raised.{raised_place, place_of_raised, backend_within}

-- what a search by halves keeps: the last base below the number is among these
pub record IsNarrowed (n : ℕ) (plans : List Planned) (low high : ℕ) : Type 0 where
  pub ordered : low ≤ high
  pub within : high ≤ length plans
  pub below : (j : ℕ) (p : Planned) → suc j ≡ low → slice_get plans j ≡ Some p → p.base < n
  pub not_below : AreNotBelow n (drop high plans)

-- the choice of a plan by a test
abbrev chosen : Bool → Planned → Option Planned → Option Planned
chosen b p found = elim b [ true ↦ Some p | false ↦ found ]

taken : (b : Bool) (p : Planned) (found : Option Planned) → b ≡ true → chosen b p found ≡ Some p
taken true p found h = refl
taken false p found h = absurd (cc)

passed : (b : Bool) (p : Planned) (found : Option Planned) → b ≡ false → chosen b p found ≡ found
passed true p found h = absurd (cc)
passed false p found h = refl

-- plans whose bases aren't below the number are passed over
stays : (m n : ℕ) (ps : List Planned) (found : Option Planned) → AreNotBelow n ps → plan_for found (numbered_through m ps) n ≡ found
stays m n [] found h = refl
stays m n (p ∷ ps) found h =
    let q = record p { plan = map (raised m) p.plan } in
    ap (λ f. plan_for f (numbered_through (m + length (backends_of p.plan)) ps) n) (passed (nat_lt p.base n) q found (le-ltb p.base n h.0))
    ∙ stays (m + length (backends_of p.plan)) n ps found h.1

found_at : (m n i : ℕ) (ps : List Planned) (p : Planned) (found : Option Planned) → slice_get ps i ≡ Some p → p.base < n → AreNotBelow n (drop (suc i) ps) → plan_for found (numbered_through m ps) n ≡ Some (record p { plan = map (raised (m + backend_count (take i ps))) p.plan })
found_at m n i [] p found e l h = absurd (cc)
found_at m n zero (q ∷ qs) p found e l h =
    let same : q ≡ p = cc in
    let base : q.base < n = omega (arith, l, ap (λ (z : Planned). z.base) same) in
    let r = record q { plan = map (raised m) q.plan } in
    let zero_more : m ≡ m + 0 = omega arith in
    ap (λ f. plan_for f (numbered_through (m + length (backends_of q.plan)) qs) n) (taken (nat_lt q.base n) r found (lt-ltb q.base n base))
    ∙ stays (m + length (backends_of q.plan)) n qs (Some r) h
    ∙ (λ i. Some (record (same i) { plan = map (raised (zero_more i)) (same i).plan }))
found_at m n (suc i) (q ∷ qs) p found e l h =
    let r = record q { plan = map (raised m) q.plan } in
    let sum : m + length (backends_of q.plan) + backend_count (take i qs) ≡ m + (length (backends_of q.plan) + backend_count (take i qs)) = omega arith in
    found_at (m + length (backends_of q.plan)) n i qs p (chosen (nat_lt q.base n) r found) e l h
    ∙ ap (λ (z : ℕ). Some (record p { plan = map (raised z) p.plan })) sum

-- the place by the plan at an index
pub by_plan : (n i : ℕ) (ps : List Planned) (p : Planned) → slice_get ps i ≡ Some p → p.base < n → AreNotBelow n (drop (suc i) ps) → place_among ps n ≡ raised_place (backend_count (take i ps)) (place_of p.plan (n - p.base))
by_plan n i ps p e l h =
    let none : 0 + backend_count (take i ps) ≡ backend_count (take i ps) = omega arith in
    ap (λ o. place_by o n) (found_at 0 n i ps p None e l h)
    ∙ ap (λ (z : ℕ). place_of (map (raised z) p.plan) (n - p.base)) none
    ∙ place_of_raised (backend_count (take i ps)) p.plan (n - p.base)

-- no plan is for the number
pub by_none : (n : ℕ) (ps : List Planned) → AreNotBelow n ps → place_among ps n ≡ None
by_none n ps h = ap (λ o. place_by o n) (stays 0 n ps None h)

-- from a plan on, no base is below that plan's
not_below_from : (n base : ℕ) (ps : List Planned) → ArePlansAbove base ps → n ≤ base → AreNotBelow n ps
not_below_from n base [] a h = tt
not_below_from n base (p ∷ ps) a h = (omega (arith, h, a.1), not_below_from n p.base ps a.2 (omega (arith, h, a.1)))

not_below_above : (n base i : ℕ) (ps : List Planned) (p : Planned) → ArePlansAbove base ps → slice_get ps i ≡ Some p → n ≤ p.base → AreNotBelow n (drop i ps)
not_below_above n base i [] p a e h = absurd (cc)
not_below_above n base zero (q ∷ qs) p a e h =
    let same : q ≡ p = cc in
    let first : n ≤ q.base = omega (arith, h, ap (λ (z : Planned). z.base) same) in
    (first, not_below_from n q.base qs a.2 first)
not_below_above n base (suc i) (q ∷ qs) p a e h = not_below_above n q.base i qs p a.2 e h

above : (ps : List Planned) → ArePlans ps → ArePlansAbove 0 ps
above [] a = tt
above (p ∷ ps) a = a.1

pub not_below_at : (n i : ℕ) (ps : List Planned) (p : Planned) → ArePlans ps → slice_get ps i ≡ Some p → n ≤ p.base → AreNotBelow n (drop i ps)
not_below_at n i ps p a e h = not_below_above n 0 i ps p (above ps a) e h

plan_above : (base i : ℕ) (ps : List Planned) (p : Planned) → ArePlansAbove base ps → slice_get ps i ≡ Some p → IsPlan p.plan
plan_above base i [] p a e = absurd (cc)
plan_above base zero (q ∷ qs) p a e =
    let same : q ≡ p = cc in
    subst (λ (z : Planned). IsPlan z.plan) same a.0
plan_above base (suc i) (q ∷ qs) p a e = plan_above q.base i qs p a.2 e

pub plan_at : (i : ℕ) (ps : List Planned) (p : Planned) → ArePlans ps → slice_get ps i ≡ Some p → IsPlan p.plan
plan_at i ps p a e = plan_above 0 i ps p (above ps a) e

-- the count of backends before a plan
pub count_at : (m i : ℕ) (ps : List Planned) (b : ℕ) → slice_get (counts_before m ps) i ≡ Some b → b ≡ m + backend_count (take i ps)
count_at m i [] b e = absurd (cc)
count_at m zero (q ∷ qs) b e = let same : m ≡ b = cc in omega (arith, same)
count_at m (suc i) (q ∷ qs) b e = let more = count_at (m + length (backends_of q.plan)) i qs b e in omega (arith, more)

pub count_within : (i : ℕ) (ps : List Planned) (p : Planned) → slice_get ps i ≡ Some p → backend_count (take i ps) + length (backends_of p.plan) ≤ backend_count ps
count_within i [] p e = absurd (cc)
count_within zero (q ∷ qs) p e =
    let same : q ≡ p = cc in
    omega (arith, ap (λ (z : Planned). length (backends_of z.plan)) same)
count_within (suc i) (q ∷ qs) p e = let more = count_within i qs p e in omega (arith, more)

-- one plan more

pub counts_more : (m : ℕ) (ps : List Planned) (p : Planned) → counts_before m (ps ++ p ∷ []) ≡ counts_before m ps ++ (m + backend_count ps) ∷ []
counts_more m [] p = let none : m ≡ m + 0 = omega arith in ap (λ (z : ℕ). z ∷ []) none
counts_more m (q ∷ qs) p =
    let sum : m + length (backends_of q.plan) + backend_count qs ≡ m + (length (backends_of q.plan) + backend_count qs) = omega arith in
    ap (λ l. m ∷ l) (counts_more (m + length (backends_of q.plan)) qs p ∙ ap (λ (z : ℕ). counts_before (m + length (backends_of q.plan)) qs ++ z ∷ []) sum)

pub count_more : (ps : List Planned) (p : Planned) → backend_count (ps ++ p ∷ []) ≡ backend_count ps + length (backends_of p.plan)
count_more [] p = omega arith
count_more (q ∷ qs) p = let more = count_more qs p in omega (arith, more)

plans_above-more : (base : ℕ) (ps : List Planned) (p : Planned) → ArePlansAbove base ps → IsPlan p.plan → last_base_from base ps ≤ p.base → ArePlansAbove base (ps ++ p ∷ [])
plans_above-more base [] p a is h = (is, h, tt)
plans_above-more base (q ∷ qs) p a is h = (a.0, a.1, plans_above-more q.base qs p a.2 is h)

pub plans_more : (q : Planned) (qs : List Planned) (p : Planned) → ArePlans (q ∷ qs) → IsPlan p.plan → last_base_from 0 (q ∷ qs) ≤ p.base → ArePlans ((q ∷ qs) ++ p ∷ [])
plans_more q qs p a is h = (a.0, plans_above-more 0 (q ∷ qs) p a.1 is h)

length-counts : (m : ℕ) (ps : List Planned) → length (counts_before m ps) ≡ length ps
length-counts m [] = refl
length-counts m (p ∷ ps) = ap suc (length-counts (m + length (backends_of p.plan)) ps)

-- there are as many counts as plans
pub as_many : (ps : List Planned) (before : List ℕ) (count : ℕ) → AreKept ps before count → length before ≡ length ps
as_many ps before count k = ap length k.counts ∙ length-counts 0 ps

pub kept_more : (ps : List Planned) (before : List ℕ) (count : ℕ) (p : Planned) → AreKept ps before count → IsPlan p.plan → last_base_from 0 ps ≤ p.base → count + length (backends_of p.plan) ≤ greatest_number → AreKept (ps ++ p ∷ []) (before ++ count ∷ []) (count + length (backends_of p.plan))
kept_more [] before count p k is h few = let none = k.begun in absurd (omega arith)
kept_more (q ∷ qs) before count p k is h few =
    let more = count_more (q ∷ qs) p in
    let all = k.all in
    let last : count ≡ 0 + backend_count (q ∷ qs) = omega (arith, all) in
    record {
      begun = omega arith;
      plans_of_a_run = plans_more q qs p k.plans_of_a_run is h;
      counts = (λ i. k.counts i ++ last i ∷ []) ∙ sym (counts_more 0 (q ∷ qs) p);
      all = omega (arith, more, all);
      few = omega (arith, more, all, few);
    }

-- the place by what is kept
pub placed : (n last end count : ℕ) (now s ps : List Planned) (before : List ℕ) (p : Planned) (b : ℕ) (o : Option Place) → now ≡ ps → s ≡ ps → AreKept ps before count → IsEndBelow n s end → 1 ≤ end → last ≡ end - 1 → slice_get ps last ≡ Some p → b ≡ get_or before last b → o ≡ place_of p.plan (n - p.base) → place_among now n ≡ raised_place b o
placed n last end count now s ps before p b o v e k h l m f g r =
    let next : end ≡ suc last = omega (arith, l, m) in
    let at = subst (λ z. IsEndBelow n z (suc last)) e (subst (λ (z : ℕ). IsEndBelow n s z) next h) in
    let few : last < length before = omega (arith, at.within, as_many ps before count k) in
    let read = slice_get_read before (length before) last b refl few g in
    let same : b ≡ backend_count (take last ps) = omega (arith, count_at 0 last ps b (ap (λ l. slice_get l last) (sym k.counts) ∙ read)) in
    ap (λ z. place_among z n) v
    ∙ by_plan n last ps p f (at.below last p refl f) at.not_below
    ∙ (λ i. raised_place (sym same i) (sym r i))

pub raised_within : (conn last count : ℕ) (ps : List Planned) (before : List ℕ) (p : Planned) (b : ℕ) (q : Place) → AreKept ps before count → last < length before → slice_get ps last ≡ Some p → b ≡ get_or before last b → place_of p.plan conn ≡ Some q → b + q.backend ≤ greatest_number
raised_within conn last count ps before p b q k few e f g =
    let read = slice_get_read before (length before) last b refl few f in
    let same = count_at 0 last ps b (ap (λ l. slice_get l last) (sym k.counts) ∙ read) in
    let within = count_within last ps p e in
    let plan = plan_at last ps p k.plans_of_a_run e in
    let backend = backend_within p.plan conn q plan.in_order g in
    let all = k.few in
    omega (arith, same, within, backend, all)
