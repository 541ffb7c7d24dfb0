-- A plan whose backends' numbers are raised has the same places, for backends with these numbers.
use Rattle.std.proofs.Common.{◌≡◌, ℕ, zero, suc, ◌+◌, ◌%◌, ◌≤◌, List, [], ◌∷◌, ◌++◌, length, map, replicate, slice_get, Option, Some, None, refl, sym, ◌∙◌, ap, arith}
use Rattle.std.proofs.lemmas.List.{map-append, length-map}
use Rattle.lload_names.specs.Plans.{backends_of, rooms_of_backend, rooms_of, rooms, place_count, numbered, place_of, raised_backend, raised, NumberedFrom}
use Rattle.lload_names.specs.declared.names.ConnKind.TheVariants.{Regular, Bind}
use Rattle.lload_names.specs.declared.plans.BackendPlan.{BackendPlan}
use Rattle.lload_names.specs.declared.plans.TierPlan.{TierPlan}
use Rattle.lload_names.specs.declared.plans.Place.{Place}

-- what a place is for, by its use alone
abbrev kind_of_items : (X : Type 0) → List X → Type 0
kind_of_items X xs = X

abbrev Room : Type 0
Room = kind_of_items _ (rooms [])

raised_room : ℕ → Room → Room
raised_room n r = record r { backend = n + r.backend }

abbrev pub raised_place : ℕ → Option Place → Option Place
raised_place n None = None
raised_place n (Some p) = Some (record p { backend = n + p.backend })

raised_rooms_many : (n k : ℕ) (r : Room) → replicate k (raised_room n r) ≡ map (raised_room n) (replicate k r)
raised_rooms_many n zero r = refl
raised_rooms_many n (suc k) r = ap (λ (l : List Room). raised_room n r ∷ l) (raised_rooms_many n k r)

rooms_of_raised_backend : (n : ℕ) (b : BackendPlan) → rooms_of_backend (raised_backend n b) ≡ map (raised_room n) (rooms_of_backend b)
unfolding raised_room
rooms_of_raised_backend n b =
    (λ i. raised_rooms_many n b.numconns (record { backend = b.number; kind = Regular }) i ++ raised_rooms_many n b.bindconns (record { backend = b.number; kind = Bind }) i)
    ∙ sym (map-append (raised_room n) (replicate b.numconns (record { backend = b.number; kind = Regular })) (replicate b.bindconns (record { backend = b.number; kind = Bind })))

rooms_of_raised : (n : ℕ) (bs : List BackendPlan) → rooms_of (map (raised_backend n) bs) ≡ map (raised_room n) (rooms_of bs)
rooms_of_raised n [] = refl
rooms_of_raised n (b ∷ bs) =
    (λ i. rooms_of_raised_backend n b i ++ rooms_of_raised n bs i) ∙ sym (map-append (raised_room n) (rooms_of_backend b) (rooms_of bs))

backends_of_raised : (n : ℕ) (ts : List TierPlan) → backends_of (map (raised n) ts) ≡ map (raised_backend n) (backends_of ts)
backends_of_raised n [] = refl
backends_of_raised n (t ∷ ts) =
    ap (λ l. map (raised_backend n) t.backends ++ l) (backends_of_raised n ts) ∙ sym (map-append (raised_backend n) t.backends (backends_of ts))

rooms_raised : (n : ℕ) (plan : List TierPlan) → rooms (map (raised n) plan) ≡ map (raised_room n) (rooms plan)
rooms_raised n plan = ap rooms_of (backends_of_raised n plan) ∙ rooms_of_raised n (backends_of plan)

abbrev raised_some : ℕ → Option Room → Option Room
raised_some n None = None
raised_some n (Some r) = Some (raised_room n r)

get_raised : (n : ℕ) (rs : List Room) (i : ℕ) → slice_get (map (raised_room n) rs) i ≡ raised_some n (slice_get rs i)
get_raised n [] i = refl
get_raised n (r ∷ rs) zero = refl
get_raised n (r ∷ rs) (suc i) = get_raised n rs i

numbered_raised : (n m count : ℕ) (o : Option Room) → numbered m count (raised_some n o) ≡ raised_place n (numbered m count o)
unfolding raised_room
numbered_raised n m count None = refl
numbered_raised n m count (Some r) = refl

-- the place in a raised plan is the place, with its backend's number raised
pub place_of_raised : (n : ℕ) (plan : List TierPlan) (conn : ℕ) → place_of (map (raised n) plan) conn ≡ raised_place n (place_of plan conn)
place_of_raised n plan zero = refl
place_of_raised n plan (suc m) =
    let same = rooms_raised n plan in
    let count : place_count (map (raised n) plan) ≡ place_count plan = ap length same ∙ length-map (rooms plan) (raised_room n) in
    (λ i. numbered m (count i) (slice_get (same i) (m % count i)))
    ∙ ap (numbered m (place_count plan)) (get_raised n (rooms plan) (m % place_count plan))
    ∙ numbered_raised n m (place_count plan) (slice_get (rooms plan) (m % place_count plan))

-- no number of a backend is above this
AreAtMost : ℕ → List Room → Type 0
AreAtMost m [] = Unit {0}
AreAtMost m (r ∷ rs) = (r.backend ≤ m) × AreAtMost m rs

at_most_both : (m : ℕ) (xs ys : List Room) → AreAtMost m xs → AreAtMost m ys → AreAtMost m (xs ++ ys)
unfolding AreAtMost
at_most_both m [] ys a b = b
at_most_both m (x ∷ xs) ys a b = (a.0, at_most_both m xs ys a.1 b)

at_most_many : (m k : ℕ) (r : Room) → r.backend ≤ m → AreAtMost m (replicate k r)
unfolding AreAtMost
at_most_many m zero r h = tt
at_most_many m (suc k) r h = (h, at_most_many m k r h)

at_most_rooms : (m k : ℕ) (bs : List BackendPlan) → NumberedFrom k bs → k + length bs ≤ suc m → AreAtMost m (rooms_of bs)
unfolding AreAtMost
at_most_rooms m k [] h l = tt
at_most_rooms m k (b ∷ bs) h l =
    let here : b.number ≤ m = omega (arith, h.0, l) in
    at_most_both m (rooms_of_backend b) (rooms_of bs)
    (at_most_both m (replicate b.numconns (record { backend = b.number; kind = Regular })) (replicate b.bindconns (record { backend = b.number; kind = Bind }))
    (at_most_many m b.numconns (record { backend = b.number; kind = Regular }) here) (at_most_many m b.bindconns (record { backend = b.number; kind = Bind }) here))
    (at_most_rooms m (suc k) bs h.1 (omega (arith, l)))

at_most_at : (m : ℕ) (rs : List Room) (i : ℕ) → AreAtMost m rs → (o : Option Room) → o ≡ slice_get rs i → (n count : ℕ) (p : Place) → numbered n count o ≡ Some p → p.backend ≤ m
unfolding AreAtMost
at_most_at m rs i a None e n count p h = absurd (cc)
at_most_at m [] i a (Some r) e n count p h = absurd (cc)
at_most_at m (x ∷ xs) zero a (Some r) e n count p h =
    let same : p.backend ≡ x.backend = cc in
    omega (arith, a.0, same)
at_most_at m (x ∷ xs) (suc i) a (Some r) e n count p h = at_most_at m xs i a.1 (Some r) e n count p h

-- the backend of a place is one of the plan's
pub backend_within : (plan : List TierPlan) (conn : ℕ) (p : Place) → NumberedFrom 1 (backends_of plan) → place_of plan conn ≡ Some p → p.backend ≤ length (backends_of plan)
backend_within plan zero p h e = absurd (cc)
backend_within plan (suc m) p h e =
    at_most_at (length (backends_of plan)) (rooms plan) (m % place_count plan) (at_most_rooms (length (backends_of plan)) 1 (backends_of plan) h (omega arith))
    (slice_get (rooms plan) (m % place_count plan)) refl m (place_count plan) p e
