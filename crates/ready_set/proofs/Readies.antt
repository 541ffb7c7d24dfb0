-- The first place with a connection, by keys.
use Rattle.std.proofs.Common.{◌≡◌, ◌≢◌, ℕ, zero, suc, ◌+◌, ◌-◌, ◌<◌, ◌≤◌, Bool, true, false, ◌==◌, ◌&&◌, max, fold, List, [], ◌∷◌, filter, arith, ⊎_elim, refl, ap, sym, ◌∙◌, Some, None}
use Rattle.std.proofs.lemmas.Bool.{cases_eq, cases_lt, or_right, and_parts, and_from, false_from_ne_true}
use Rattle.std.proofs.lemmas.Bool.Decides.{nat_tests}
use Rattle.lload_spec.specs.Settings.{Settings, place_index}
use Rattle.lload_spec.specs.Choice.{greatest, first_at}
use Rattle.lload_spec.specs.Picks.{rising}
use Rattle.std.specs.BTreeSet.{contains}
use Rattle.std.specs.BTreeMap.{is_at}
use Rattle.std.specs.Option.{IfSome}
use Rattle.std.specs.Ordering.{is_gt}
use Rattle.std.specs.List.{slice_get}
use Rattle.ready_set.specs.Keys.{key_cmp, key_of, most_conn, is_in}
use Rattle.ready_set.specs.Readies.{has, Indexes}
use Rattle.ready_set.specs.declared.ready.Ready.{Ready}
use Rattle.ready_set.proofs.Members.{in-filter, in-head, in-tail, filter-none}

fold-max : (a n : ℕ) (xs : List ℕ) → a ≤ n → ((m : ℕ) → is_in m xs ≡ true → m ≤ n) → (is_in n xs ≡ false → a ≡ n) → fold max a xs ≡ n
fold-max a n [] le all at = at refl
fold-max a n (x ∷ xs) le all at =
    fold-max (max a x) n xs (omega (arith, le, all x (in-head x xs))) (λ m h. all m (in-tail m x xs h))
    (λ none. ⊎_elim (λ (is : x ≡ n). omega (arith, le, is)) (λ (ne : x ≢ n). omega (arith, at (grind (arith, nat_tests, none, ne)), all x (in-head x xs))) (cases_eq x n))

greatest-is : (n : ℕ) (xs : List ℕ) → is_in n xs ≡ true → ((m : ℕ) → is_in m xs ≡ true → m ≤ n) → greatest xs ≡ Some n
greatest-is n [] e all = absurd (let bad : false ≡ true = e in cc)
greatest-is n (x ∷ xs) e all = ap Some (fold-max x n xs (all x (in-head x xs)) (λ m h. all m (in-tail m x xs h)) (λ none. grind (arith, nat_tests, e, none)))

at-none : (s : Settings) (among : List ℕ) (i : ℕ) (is : List ℕ) → filter (λ n. place_index s n == i) among ≡ [] → first_at s among (i ∷ is) ≡ first_at s among is
at-none s among i is e = ap (λ xs. elim (greatest xs) [ Some n ↦ Some n | None ↦ first_at s among is ]) e

at-some : (s : Settings) (among : List ℕ) (i n : ℕ) (is : List ℕ) → greatest (filter (λ n. place_index s n == i) among) ≡ Some n → first_at s among (i ∷ is) ≡ Some n
at-some s among i n is e = ap (λ o. elim o [ Some n ↦ Some n | None ↦ first_at s among is ]) e

pub first-none : (s : Settings) (among : List ℕ) (from k : ℕ) → ((i n : ℕ) → from ≤ i → i < from + k → is_in n among ≡ true → (place_index s n == i) ≡ false) → first_at s among (rising from k) ≡ None
first-none s among from zero none = refl
first-none s among from (suc k) none =
    at-none s among from (rising (suc from) k) (filter-none (λ n. place_index s n == from) among (λ n e. none from n (omega arith) (omega arith) e))
    ∙ first-none s among (suc from) k (λ i n l u e. none i n (omega (arith, l)) (omega (arith, u)) e)

pub first-some : (s : Settings) (among : List ℕ) (from k place n : ℕ) → from ≤ place → place < from + k → is_in n among ≡ true → (place_index s n == place) ≡ true → ((j m : ℕ) → from ≤ j → is_in m among ≡ true → (place_index s m == j) ≡ true → (place ≤ j) × (j ≡ place → m ≤ n)) → first_at s among (rising from k) ≡ Some n
first-some s among from zero place n l u e at least = absurd (omega (arith, l, u))
first-some s among from (suc k) place n l u e at least =
    ⊎_elim
    (λ (is : from ≡ place). at-some s among from n (rising (suc from) k) (greatest-is n (filter (λ n. place_index s n == from) among)
    (in-filter (λ n. place_index s n == from) n among ∙ and_from _ _ (rw is at) e)
    (λ m h. let both = and_parts _ _ (sym (in-filter (λ n. place_index s n == from) m among) ∙ h) in (least from m (omega arith) both.1 both.0).1 is)))
    (λ (ne : from ≢ place). at-none s among from (rising (suc from) k) (filter-none (λ n. place_index s n == from) among (λ m h. false_from_ne_true (place_index s m == from) (λ t. ne (omega (arith, l, (least from m (omega arith) h t).0)))))
    ∙ first-some s among (suc from) k place n (omega (arith, l, ne)) (omega (arith, u)) e at (λ j m b. least j m (omega (arith, b))))
    (cases_eq from place)

pub in-range : (from i x : ℕ) → from ≤ i → is_gt (key_cmp (from, 0) (i, x)) ≡ false
in-range from i x l = grind (arith, nat_tests, l)

pub place-le : (a b j x : ℕ) → is_gt (key_cmp (a, b) (j, x)) ≡ false → a ≤ j
place-le a b j x e = grind (arith, nat_tests, e)

pub rest-le : (a b x : ℕ) → is_gt (key_cmp (a, b) (a, x)) ≡ false → b ≤ x
rest-le a b x e = grind (arith, nat_tests, e)

pub least-key : (r t : List (ℕ × ℕ)) (k q : ℕ × ℕ) → r ≡ k ∷ t → IfSome (slice_get r 0) (λ k. is_gt (key_cmp k q) ≡ false) → is_gt (key_cmp k q) ≡ false
least-key r t k q e h = rw e at h

pub in-first : (r t : List (ℕ × ℕ)) (k : ℕ × ℕ) (P : ℕ × ℕ → Type 0) → r ≡ k ∷ t → IfSome (slice_get r 0) P → P k
in-first r t k P e h = rw e at h

-- the keys of two places or connections differ
pub key-apart : (place conn i n : ℕ) → conn ≤ most_conn → n ≤ most_conn → (i == place && n == conn) ≡ false → is_at (key_cmp (key_of place conn)) (key_of i n) ≡ false
key-apart place conn i n l k e =
    let far : (place == i && most_conn - conn == most_conn - n) ≡ false = grind (arith, nat_tests, e, l, k) in
    grind (arith, nat_tests, far)

no-index : (s : Settings) (among : List ℕ) (r : Ready) (from to i n : ℕ) → Indexes s among from to r → from ≤ i → i < to → is_in n among ≡ true → has r i n ≡ false → (place_index s n == i) ≡ false
no-index s among r from to i n k l u e isnt = let h : (is_in n among && (place_index s n == i)) ≡ false = sym (k.here i n l u (k.small n e)) ∙ isnt in grind (arith, e, h)

an-index : (s : Settings) (among : List ℕ) (r : Ready) (from to i n : ℕ) → Indexes s among from to r → from ≤ i → i < to → is_in n among ≡ true → (place_index s n == i) ≡ true → has r i n ≡ true
an-index s among r from to i n k l u e t = k.here i n l u (k.small n e) ∙ and_from _ _ e t

pub missing : (s : Settings) (among : List ℕ) (r : Ready) (from to : ℕ) → Indexes s among from to r → ((i x : ℕ) → from ≤ i → i < to → contains key_cmp r.keys (i, x) ≡ false) → first_at s among (rising from (to - from)) ≡ None
missing s among r from to k none = first-none s among from (to - from) (λ i n l u e. no-index s among r from to i n k l (omega (arith, l, u)) e (none i (most_conn - n) l (omega (arith, l, u))))

-- the least of those before an index is least of all
least-at : (s : Settings) (among : List ℕ) (r : Ready) (from to place conn : ℕ) → Indexes s among from to r → place < to → conn ≤ most_conn → ((j x : ℕ) → from ≤ j → contains key_cmp r.keys (j, x) ≡ true → place ≤ j) → ((x : ℕ) → contains key_cmp r.keys (place, x) ≡ true → most_conn - conn ≤ x) → (j m : ℕ) → from ≤ j → is_in m among ≡ true → (place_index s m == j) ≡ true → (place ≤ j) × (j ≡ place → m ≤ conn)
least-at s among r from to place conn k u small first great j m lj e t = (
  ⊎_elim (λ (ne : j < to). first j (most_conn - m) lj (an-index s among r from to j m k lj ne e t)) (λ (le : to ≤ j). omega (arith, u, le)) (cases_lt j to),
  λ is. let far : most_conn - conn ≤ most_conn - m = great (most_conn - m) (an-index s among r from to place m k (omega (arith, lj, is)) u e (rw (sym is) t)) in omega (arith, far, small, k.small m e),
)

pub found : (s : Settings) (among : List ℕ) (r : Ready) (from to place conn : ℕ) → Indexes s among from to r → has r place conn ≡ true → from ≤ place → place < to → conn ≤ most_conn → ((j x : ℕ) → from ≤ j → contains key_cmp r.keys (j, x) ≡ true → place ≤ j) → ((x : ℕ) → contains key_cmp r.keys (place, x) ≡ true → most_conn - conn ≤ x) → first_at s among (rising from (to - from)) ≡ Some conn
found s among r from to place conn k is l u small first great =
    let both = and_parts _ _ (sym (k.here place conn l u small) ∙ is) in
    first-some s among from (to - from) place conn l (omega (arith, l, u)) both.0 both.1
    (least-at s among r from to place conn k u small first great)

-- the same between other indices that lie within
pub narrowed : (s : Settings) (among : List ℕ) (r : Ready) (from to f t : ℕ) → from ≤ f → t ≤ to → Indexes s among from to r → Indexes s among f t r
narrowed s among r from to f t l u k = record { small = k.small; here = λ i n a b. k.here i n (omega (arith, a, l)) (omega (arith, b, u)) }
