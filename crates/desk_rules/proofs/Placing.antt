-- The place of a connection is one of a backend in force.
use Rattle.std.proofs.Common.{◌≡◌, ℕ, zero, suc, ◌+◌, ◌-◌, ◌%◌, ◌/◌, ◌<◌, ◌⊎◌, inl, inr, ⊎_elim, Bool, true, false, nat_lt, List, [], ◌∷◌, ◌++◌, length, map, take, drop, replicate, slice_get, Option, Some, None, refl, sym, ap, subst, ◌∙◌, arith}
use Rattle.std.proofs.lemmas.Bool.{le-ltb, lt-ltb}
use Rattle.std.proofs.lemmas.Bool.Decides.{nat_tests}
use Rattle.lload_names.specs.declared.names.ConnKind.{ConnKind}
use Rattle.lload_names.specs.declared.names.ConnKind.TheVariants.{Regular, Bind}
use Rattle.lload_names.specs.declared.plans.BackendPlan.{BackendPlan}
use Rattle.lload_names.specs.declared.plans.TierPlan.{TierPlan}
use Rattle.lload_names.specs.declared.plans.Place.{Place}
use Rattle.lload_names.specs.declared.plans.Planned.{Planned}
use Rattle.lload_names.specs.Plans.{backends_of, rooms_of_backend, rooms_of, rooms, place_count, places_from, places_for, numbered, place_of, raised, numbered_through, plan_for, place_by, backend_count}
use Rattle.lload_spec.specs.Settings.{Settings, place_at, numbered_plan, plan_in_force}
use Rattle.lload_reload.specs.Bases.{AreNotBelow}
use Rattle.ready_set.specs.Keys.{is_in}
use Rattle.desk_rules.specs.Places.{IsPlaced, IsOfPlan}
use Rattle.desk_rules.proofs.Lanes.{Room, room_for, is_for, places-head}

-- Which indices are those of a backend's places.

-- whether there is a place that is for a backend and kind
abbrev some_for : ℕ → ConnKind → Option Room → Bool
some_for b k None = false
some_for b k (Some r) = is_for b k r

in-first : (i j : ℕ) (is : List ℕ) → i ≡ j → is_in j (i ∷ is) ≡ true
in-first i j is e = grind (arith, nat_tests, e)

in-rest : (i j : ℕ) (is : List ℕ) → i < j → is_in j (i ∷ is) ≡ is_in j is
in-rest i j is l = grind (arith, nat_tests, l)

in-front : (i j : ℕ) (is : List ℕ) → j < i → is_in j (i ∷ is) ≡ is_in j is
in-front i j is l = grind (arith, nat_tests, l)

below : (b : ℕ) (k : ConnKind) (i j : ℕ) (rs : List Room) → j < i → is_in j (places_from b k i rs) ≡ false
below b k i j [] l = refl
below b k i j (r ∷ rs) l = by (is_for b k r) refl (below b k (suc i) j rs (omega (arith, l)))
  where
    by : (t : Bool) → is_for b k r ≡ t → is_in j (places_from b k (suc i) rs) ≡ false → is_in j (places_from b k i (r ∷ rs)) ≡ false
    by true e h = ap (is_in j) (places-head b k i r rs true e) ∙ in-front i j (places_from b k (suc i) rs) l ∙ h
    by false e h = ap (is_in j) (places-head b k i r rs false e) ∙ h

in-places : (b : ℕ) (k : ConnKind) (i j : ℕ) (rs : List Room) → is_in (i + j) (places_from b k i rs) ≡ some_for b k (slice_get rs j)
in-places b k i j [] = refl
in-places b k i zero (r ∷ rs) = by (is_for b k r) refl
  where
    by : (t : Bool) → is_for b k r ≡ t → is_in (i + 0) (places_from b k i (r ∷ rs)) ≡ is_for b k r
    by true e = ap (is_in (i + 0)) (places-head b k i r rs true e) ∙ in-first i (i + 0) (places_from b k (suc i) rs) (omega arith) ∙ sym e
    by false e = ap (is_in (i + 0)) (places-head b k i r rs false e) ∙ below b k (suc i) (i + 0) rs (omega arith) ∙ sym e
in-places b k i (suc j) (r ∷ rs) = by (is_for b k r) refl (in-places b k (suc i) j rs)
  where
    at : i + suc j ≡ suc i + j
    at = omega arith

    by : (t : Bool) → is_for b k r ≡ t → is_in (suc i + j) (places_from b k (suc i) rs) ≡ some_for b k (slice_get rs j) → is_in (i + suc j) (places_from b k i (r ∷ rs)) ≡ some_for b k (slice_get rs j)
    by true e h = ap (is_in (i + suc j)) (places-head b k i r rs true e) ∙ in-rest i (i + suc j) (places_from b k (suc i) rs) (omega arith) ∙ ap (λ n. is_in n (places_from b k (suc i) rs)) at ∙ h
    by false e h = ap (is_in (i + suc j)) (places-head b k i r rs false e) ∙ ap (λ n. is_in n (places_from b k (suc i) rs)) at ∙ h

-- Each place is that of a backend.

get-both : {A : Type 0} (xs ys : List A) (i : ℕ) (x : A) → slice_get (xs ++ ys) i ≡ Some x → (slice_get xs i ≡ Some x) ⊎ ((j : ℕ) × (slice_get ys j ≡ Some x))
get-both [] ys i x e = inr (i, e)
get-both (z ∷ xs) ys zero x e = inl e
get-both (z ∷ xs) ys (suc i) x e = get-both xs ys i x e

get-same : {A : Type 0} (n i : ℕ) (x y : A) → slice_get (replicate n x) i ≡ Some y → x ≡ y
get-same zero i x y e = absurd (cc)
get-same (suc n) zero x y e = cc
get-same (suc n) (suc i) x y e = get-same n i x y e

of-backend : (b : BackendPlan) (i : ℕ) (r : Room) → slice_get (rooms_of_backend b) i ≡ Some r → b.number ≡ r.backend
of-backend b i r e =
    ⊎_elim
    (λ h. ap (λ (x : Room). x.backend) (get-same b.numconns i (room_for b.number Regular) r h))
    (λ h. ap (λ (x : Room). x.backend) (get-same b.bindconns h.0 (room_for b.number Bind) r h.1))
    (get-both (replicate b.numconns (room_for b.number Regular)) (replicate b.bindconns (room_for b.number Bind)) i r e)

backend-at : (bs : List BackendPlan) (i : ℕ) (r : Room) → slice_get (rooms_of bs) i ≡ Some r → (j : ℕ) × (b : BackendPlan) × (slice_get bs j ≡ Some b) × (b.number ≡ r.backend)
backend-at [] i r e = absurd (cc)
backend-at (b ∷ bs) i r e =
    ⊎_elim
    (λ h. (0, b, refl, of-backend b i r h))
    (λ h. let g = backend-at bs h.0 r h.1 in (suc g.0, g.1, g.2, g.3))
    (get-both (rooms_of_backend b) (rooms_of bs) i r e)

-- the place of a connection by a plan is one of a backend of this plan
pub placed-by : (ts : List TierPlan) (n : ℕ) (place : Place) → place_of ts n ≡ Some place → IsPlaced ts place
placed-by ts zero place e = absurd (cc)
placed-by ts (suc m) place e = by (slice_get (rooms ts) (m % place_count ts)) refl
  where
    by : (o : Option Room) → slice_get (rooms ts) (m % place_count ts) ≡ o → IsPlaced ts place
    by None h = absurd (let none : ◌≡◌ {A = Option Place} None (Some place) = sym (ap (numbered m (place_count ts)) h) ∙ e in cc)
    by (Some r) h =
        let i = m % place_count ts in
        let found : Place = record { place = i + 1; backend = r.backend; kind = r.kind; generation = m / place_count ts } in
        let is : Some found ≡ Some place = sym (ap (numbered m (place_count ts)) h) ∙ e in
        let same : found ≡ place = cc in
        let index : i + 1 - 1 ≡ 0 + i = omega arith in
        let at = backend-at (backends_of ts) i r h in
        subst (λ (p : Place). IsPlaced ts p) same (record {
          placed = λ b k. ap (λ j. is_in j (places_for ts b k)) index ∙ in-places b k 0 i (rooms ts) ∙ ap (some_for b k) h;
          index = at.0;
          backend = at.1;
          at = at.2;
          number = at.3;
        })

-- Connections of the plan in force.

pub passed-over : (n : ℕ) (ps : List Planned) (found : Option Planned) → AreNotBelow n ps → plan_for found ps n ≡ found
passed-over n [] found h = refl
passed-over n (p ∷ ps) found h = ap (λ (t : Bool). plan_for (elim t [ true ↦ Some p | false ↦ found ]) ps n) (le-ltb p.base n h.0) ∙ passed-over n ps found h.1

-- the last plan whose base is below a connection's number
last-below : (n k : ℕ) (ps : List Planned) (found : Option Planned) → k < length ps → (numbered_plan ps (suc k)).base < n → AreNotBelow n (drop (suc k) ps) → plan_for found ps n ≡ Some (numbered_plan ps (suc k))
last-below n k [] found l b h = absurd (omega (arith, l))
last-below n zero (p ∷ ps) found l b h = ap (λ (t : Bool). plan_for (elim t [ true ↦ Some p | false ↦ found ]) ps n) (lt-ltb p.base n b) ∙ passed-over n ps (Some p) h
last-below n (suc k) (p ∷ ps) found l b h = last-below n k ps (elim (nat_lt p.base n) [ true ↦ Some p | false ↦ found ]) (omega (arith, l)) b h

length-through : (m : ℕ) (ps : List Planned) → length (numbered_through m ps) ≡ length ps
length-through m [] = refl
length-through m (p ∷ ps) = ap suc (length-through (m + length (backends_of p.plan)) ps)

pub not-below-through : (m n k : ℕ) (ps : List Planned) → AreNotBelow n (drop k ps) → AreNotBelow n (drop k (numbered_through m ps))
not-below-through m n k [] h = h
not-below-through m n zero (p ∷ ps) h = (h.0, not-below-through (m + length (backends_of p.plan)) n zero ps h.1)
not-below-through m n (suc k) (p ∷ ps) h = not-below-through (m + length (backends_of p.plan)) n k ps h

-- the place of a connection of the plan in force
pub by-plan : (s : Settings) (k n : ℕ) → IsOfPlan s k n → place_at s n ≡ place_of (plan_in_force s k).plan (n - (plan_in_force s k).base)
by-plan s zero n h = absurd (omega (arith, h.begun))
by-plan s (suc k) n h =
    let ps = numbered_through 0 s.plans in
    ap (λ o. place_by o n) (last-below n k ps None (omega (arith, length-through 0 s.plans, h.some)) h.above (not-below-through 0 n (suc k) s.plans h.no_later))

numbered-at : (m k : ℕ) (ps : List Planned) (p : Planned) → slice_get ps k ≡ Some p → numbered_plan (numbered_through m ps) (suc k) ≡ record p { plan = map (raised (m + backend_count (take k ps))) p.plan }
numbered-at m k [] p e = absurd (cc)
numbered-at m zero (q ∷ ps) p e =
    let same : q ≡ p = cc in
    let none : m ≡ m + 0 = omega arith in
    λ i. record (same i) { plan = map (raised (none i)) (same i).plan }
numbered-at m (suc k) (q ∷ ps) p e =
    let sum : m + length (backends_of q.plan) + backend_count (take k ps) ≡ m + backend_count (take (suc k) (q ∷ ps)) = omega arith in
    numbered-at (m + length (backends_of q.plan)) k ps p e ∙ ap (λ (z : ℕ). record p { plan = map (raised z) p.plan }) sum

-- the plan in force is a plan of the run, with its backends numbered behind those of the plans before it
pub plan-is : (s : Settings) (k : ℕ) (p : Planned) → slice_get s.plans k ≡ Some p → plan_in_force s (suc k) ≡ record p { plan = map (raised (backend_count (take k s.plans))) p.plan }
plan-is s k p e =
    let none : 0 + backend_count (take k s.plans) ≡ backend_count (take k s.plans) = omega arith in
    numbered-at 0 k s.plans p e ∙ ap (λ (z : ℕ). record p { plan = map (raised z) p.plan }) none
