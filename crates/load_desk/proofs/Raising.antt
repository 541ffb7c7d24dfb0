-- A plan with its backends numbered behind others.
use Rattle.std.proofs.Common.{◌≡◌, ℕ, zero, suc, ◌+◌, ◌≤◌, ◌<◌, List, [], ◌∷◌, ◌++◌, length, map, take, slice_get, Some, refl, ap, ◌∙◌, arith, length-append}
use Rattle.std.proofs.lemmas.List.{length-map}
use Rattle.std.specs.Option.{ForSome}
use Rattle.lload_names.specs.declared.plans.BackendPlan.{BackendPlan}
use Rattle.lload_names.specs.declared.plans.TierPlan.{TierPlan}
use Rattle.lload_names.specs.Plans.{backends_of, rooms_of, rooms_of_backend, place_count, raised, raised_backend, greatest_number, NumberedFrom, IsPlan}
use Rattle.lload_names.proofs.Places.{rooms_of-append, length-rooms_of_backend}
use Rattle.desk_choice.proofs.Flat.{tier-backend}

-- it has as many backends and places
rooms-raised : (n : ℕ) (bs : List BackendPlan) → length (rooms_of (map (raised_backend n) bs)) ≡ length (rooms_of bs)
rooms-raised n [] = refl
rooms-raised n (b ∷ bs) = omega (arith, length-append (rooms_of_backend (raised_backend n b)) (rooms_of (map (raised_backend n) bs)), length-append (rooms_of_backend b) (rooms_of bs), length-rooms_of_backend (raised_backend n b), length-rooms_of_backend b, rooms-raised n bs)

split : (xs ys : List BackendPlan) → length (rooms_of (xs ++ ys)) ≡ length (rooms_of xs) + length (rooms_of ys)
split xs ys = ap length (rooms_of-append xs ys) ∙ length-append (rooms_of xs) (rooms_of ys)

places-raised : (n : ℕ) (ts : List TierPlan) → place_count (map (raised n) ts) ≡ place_count ts
places-raised n [] = refl
places-raised n (t ∷ ts) = omega (arith, split (map (raised_backend n) t.backends) (backends_of (map (raised n) ts)), split t.backends (backends_of ts), rooms-raised n t.backends, places-raised n ts)

count-raised : (n : ℕ) (ts : List TierPlan) → length (backends_of (map (raised n) ts)) ≡ length (backends_of ts)
count-raised n [] = refl
count-raised n (t ∷ ts) = omega (arith, length-append (map (raised_backend n) t.backends) (backends_of (map (raised n) ts)), length-append t.backends (backends_of ts), length-map t.backends (raised_backend n), count-raised n ts)

pub few-raised : (n : ℕ) (ts us : List TierPlan) → us ≡ map (raised n) ts → IsPlan ts → length (backends_of us) ≤ 64
few-raised n ts us e h = omega (arith, ap (λ vs. length (backends_of vs)) e, count-raised n ts, h.few_backends)

pub few-places : (n : ℕ) (ts us : List TierPlan) → us ≡ map (raised n) ts → IsPlan ts → place_count us ≤ 512
few-places n ts us e h = omega (arith, ap place_count e, places-raised n ts, h.few_places)

-- the numbers of a tier's backends stay within 32 bits
number-within : (n : ℕ) (bs : List BackendPlan) (j : ℕ) (b : BackendPlan) → NumberedFrom n bs → slice_get bs j ≡ Some b → b.number + 1 ≤ n + length bs
number-within n [] j b h e = absurd (cc)
number-within n (x ∷ bs) zero b h e = let same : x ≡ b = cc in let is : b.number ≡ x.number = ap (λ (y : BackendPlan). y.number) (let back : b ≡ x = cc in back) in omega (arith, is, h.0)
number-within n (x ∷ bs) (suc j) b h e = omega (arith, number-within (suc n) bs j b h.1 e)

pub tier-fits : (before : ℕ) (ts : List TierPlan) (i : ℕ) (t : TierPlan) → IsPlan ts → before + length (backends_of ts) ≤ greatest_number → slice_get ts i ≡ Some t → (j : ℕ) → ForSome (slice_get t.backends j) (λ b. before + b.number ≤ greatest_number)
tier-fits before ts i t h l e j = λ b g. omega (arith, l, number-within 1 (backends_of ts) (length (backends_of (take i ts)) + j) b h.in_order (tier-backend ts i j t b e g))
