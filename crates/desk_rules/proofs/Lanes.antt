-- The places of a backend for a kind stand together.
use Rattle.std.proofs.Common.{◌≡◌, ◌≢◌, ℕ, zero, suc, ◌+◌, ◌<◌, Bool, true, false, ◌==◌, ◌&&◌, List, [], ◌∷◌, ◌++◌, length, take, replicate, slice_get, Some, refl, ap, subst, sym, ◌∙◌, append_assoc, arith, length-append}
use Rattle.std.proofs.lemmas.Bool.Decides.{nat_tests}
use Rattle.std.proofs.lemmas.List.{append-nil, length-replicate}
use Rattle.lload_names.specs.declared.names.ConnKind.{ConnKind}
use Rattle.lload_names.specs.declared.names.ConnKind.TheVariants.{Regular, Bind}
use Rattle.lload_names.specs.declared.plans.BackendPlan.{BackendPlan}
use Rattle.lload_names.specs.Same.{is_kind}
use Rattle.lload_names.specs.Plans.{rooms_of_backend, rooms_of, rooms, places_from, NumberedFrom}
use Rattle.lload_spec.specs.Picks.{rising}
use Rattle.desk_rules.proofs.Changes.{number-at}
use Rattle.desk_rules.proofs.Losses.{kind-itself}

-- what a place is for, by its use alone
abbrev kind_of_items : (X : Type 0) → List X → Type 0
kind_of_items X xs = X

abbrev pub Room : Type 0
Room = kind_of_items _ (rooms [])

abbrev pub room_for : ℕ → ConnKind → Room
room_for b k = record { backend = b; kind = k }

-- whether a place is for a backend and kind
abbrev pub is_for : ℕ → ConnKind → Room → Bool
is_for b k r = r.backend == b && is_kind k r.kind

pub places-head : (b : ℕ) (k : ConnKind) (i : ℕ) (r : Room) (rs : List Room) (t : Bool) → is_for b k r ≡ t → places_from b k i (r ∷ rs) ≡ (elim t [ true ↦ i ∷ [] | false ↦ [] ]) ++ places_from b k (suc i) rs
places-head b k i r rs t e = ap (λ t. (elim t [ true ↦ i ∷ [] | false ↦ [] ]) ++ places_from b k (suc i) rs) e

places-append : (b : ℕ) (k : ConnKind) (i : ℕ) (xs ys : List Room) → places_from b k i (xs ++ ys) ≡ places_from b k i xs ++ places_from b k (i + length xs) ys
places-append b k i [] ys = let none : i ≡ i + 0 = omega arith in ap (λ n. places_from b k n ys) none
places-append b k i (x ∷ xs) ys =
    let here : List ℕ = elim (is_for b k x) [ true ↦ i ∷ [] | false ↦ [] ] in
    let next : suc i + length xs ≡ i + length (x ∷ xs) = omega arith in
    ap (λ is. here ++ is) (places-append b k (suc i) xs ys ∙ ap (λ n. places_from b k (suc i) xs ++ places_from b k n ys) next)
    ∙ sym (append_assoc here (places_from b k (suc i) xs) (places_from b k (i + length (x ∷ xs)) ys))

-- all of these places are for the backend and kind, or none is
places-all : (b : ℕ) (k : ConnKind) (i n : ℕ) → places_from b k i (replicate n (room_for b k)) ≡ rising i n
places-all b k i zero = refl
places-all b k i (suc n) =
    places-head b k i (room_for b k) (replicate n (room_for b k)) true (grind (arith, nat_tests, kind-itself k))
    ∙ ap (λ is. i ∷ is) (places-all b k (suc i) n)

places-none : (b : ℕ) (k : ConnKind) (i n : ℕ) (r : Room) → is_for b k r ≡ false → places_from b k i (replicate n r) ≡ []
places-none b k i zero r e = refl
places-none b k i (suc n) r e = places-head b k i r (replicate n r) false e ∙ places-none b k (suc i) n r e

-- the places of a backend for a kind, where its first place has this index
abbrev pub span_of : ConnKind → ℕ → BackendPlan → List ℕ
span_of Regular from b = rising from b.numconns
span_of Bind from b = rising (from + b.numconns) b.bindconns

own : (k : ConnKind) (i : ℕ) (b : BackendPlan) → places_from b.number k i (rooms_of_backend b) ≡ span_of k i b
own Regular i b =
    let other : is_for b.number Regular (room_for b.number Bind) ≡ false = grind (arith, nat_tests) in
    let xs = replicate b.numconns (room_for b.number Regular) in
    places-append b.number Regular i xs (replicate b.bindconns (room_for b.number Bind))
    ∙ (λ j. places-all b.number Regular i b.numconns j ++ places-none b.number Regular (i + length xs) b.bindconns (room_for b.number Bind) other j)
    ∙ append-nil (rising i b.numconns)
own Bind i b =
    let other : is_for b.number Bind (room_for b.number Regular) ≡ false = grind (arith, nat_tests) in
    let xs = replicate b.numconns (room_for b.number Regular) in
    places-append b.number Bind i xs (replicate b.bindconns (room_for b.number Bind))
    ∙ (λ j. places-none b.number Bind i b.numconns (room_for b.number Regular) other j ++ places-all b.number Bind (i + length xs) b.bindconns j)
    ∙ ap (λ n. rising (i + n) b.bindconns) (length-replicate b.numconns (room_for b.number Regular))

others : (n : ℕ) (k : ConnKind) (i : ℕ) (b : BackendPlan) → b.number ≢ n → places_from n k i (rooms_of_backend b) ≡ []
others n k i b ne =
    let regular : is_for n k (room_for b.number Regular) ≡ false = grind (arith, nat_tests, ne) in
    let bind : is_for n k (room_for b.number Bind) ≡ false = grind (arith, nat_tests, ne) in
    let xs = replicate b.numconns (room_for b.number Regular) in
    places-append n k i xs (replicate b.bindconns (room_for b.number Bind))
    ∙ (λ j. places-none n k i b.numconns (room_for b.number Regular) regular j ++ places-none n k (i + length xs) b.bindconns (room_for b.number Bind) bind j)

-- no later backend has a place of an earlier one
later : (n m : ℕ) (k : ConnKind) (i : ℕ) (bs : List BackendPlan) → NumberedFrom m bs → n < m → places_from n k i (rooms_of bs) ≡ []
later n m k i [] h l = refl
later n m k i (b ∷ bs) h l =
    let apart : b.number ≢ n = λ e. absurd (omega (arith, e, l, h.0)) in
    places-append n k i (rooms_of_backend b) (rooms_of bs)
    ∙ (λ j. others n k i b apart j ++ later n (suc m) k (i + length (rooms_of_backend b)) bs h.1 (omega (arith, l)) j)

-- the places of one of these backends
pub places-of : (m : ℕ) (k : ConnKind) (i j : ℕ) (bs : List BackendPlan) (b : BackendPlan) → NumberedFrom m bs → slice_get bs j ≡ Some b → places_from b.number k i (rooms_of bs) ≡ span_of k (i + length (rooms_of (take j bs))) b
places-of m k i j [] b h e = absurd (cc)
places-of m k i zero (c ∷ bs) b h e =
    let same : c ≡ b = cc in
    let at : i ≡ i + 0 = omega arith in
    let here =
    places-append c.number k i (rooms_of_backend c) (rooms_of bs)
    ∙ (λ q. own k i c q ++ later c.number (suc m) k (i + length (rooms_of_backend c)) bs h.1 (omega (arith, h.0)) q)
    ∙ append-nil (span_of k i c)
    ∙ ap (λ n. span_of k n c) at in
    subst (λ (x : BackendPlan). places_from x.number k i (rooms_of (c ∷ bs)) ≡ span_of k (i + 0) x) same here
places-of m k i (suc j) (c ∷ bs) b h e =
    let number = number-at (suc m) j bs b h.1 e in
    let apart : c.number ≢ b.number = λ e. absurd (omega (arith, e, number, h.0)) in
    let at : i + length (rooms_of_backend c) + length (rooms_of (take j bs)) ≡ i + length (rooms_of (take (suc j) (c ∷ bs))) = omega (arith, length-append (rooms_of_backend c) (rooms_of (take j bs))) in
    places-append b.number k i (rooms_of_backend c) (rooms_of bs)
    ∙ ap (λ is. is ++ places_from b.number k (i + length (rooms_of_backend c)) (rooms_of bs)) (others b.number k i c apart)
    ∙ places-of (suc m) k (i + length (rooms_of_backend c)) j bs b h.1 e
    ∙ ap (λ n. span_of k n b) at
