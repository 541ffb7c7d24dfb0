-- The operations by identifier and by number, where one comes, goes or is sent.
use Rattle.std.proofs.Common.{◌≡◌, ◌≢◌, ◌≤◌, ◌<◌, ◌+◌, ℕ, suc, Bool, true, false, not, ◌==◌, ◌&&◌, ◌||◌, if◌then◌else◌, cond, List, [], ◌∷◌, ◌++◌, length, find, filter, map, Option, Some, None, Bor, arith, refl, ap, ◌∙◌, sym, ⊎_elim}
use Rattle.std.proofs.lemmas.Bool.Decides.{nat_tests}
use Rattle.std.proofs.lemmas.Bool.{cases_eq}
use Rattle.std.specs.Prelude.{nat_lt, is_none}
use Rattle.std.specs.BTreeMap.{BTreeMap, get, is_at}
use Rattle.std.specs.Ordering.{nat_cmp}
use Rattle.client_rows.specs.Index.{Indexes}
use Rattle.std.specs.List.{list_any}
use Rattle.std.specs.Option.{option_to_list, option_copied, IfSome}
use Rattle.client_rows.specs.Rows.{Counted, has_number, has_id, is_bind, lets_wait, sent, sent_on, went_to, numbers_under, without, Rises, one}
use Rattle.client_rows.specs.declared.row.Row.{Row}
use Rattle.client_rows.specs.declared.row.Way.{Way}
use Rattle.client_rows.specs.declared.row.Way.TheVariants.{Waits, Went}

-- counts

pub any-count : (p : Row → Bool) (rs : List Row) → list_any p rs ≡ nat_lt 0 (length (filter p rs))
any-count p [] = grind (arith, nat_tests)
any-count p (r ∷ rs) = grind (arith, nat_tests, any-count p rs)

pub count-length : (p : Row → Bool) (rs : List Row) → length (filter p rs) ≤ length rs
count-length p [] = omega arith
count-length p (r ∷ rs) = grind (arith, count-length p rs)

pub count-end : (p : Row → Bool) (r : Row) (rs : List Row) → length (filter p (rs ++ r ∷ [])) ≡ length (filter p rs) + one (p r)
count-end p r [] = grind arith
count-end p r (x ∷ rs) = grind (arith, count-end p r rs)

-- an operation behind a number

pub none-without : (k low : ℕ) (rs : List Row) (next : ℕ) → k < low → Rises low rs next → without k rs ≡ rs
none-without k low [] next l h = refl
none-without k low (r ∷ rs) next l h =
    let other : has_number k r ≡ false = grind (arith, nat_tests, l, h.0) in
    rw other (ap (λ l. r ∷ l) (none-without k (r.k + 1) rs next (omega (arith, l, h.0)) h.1))

pub none-sent : (k u low : ℕ) (rs : List Row) (next : ℕ) → k < low → Rises low rs next → map (sent k u) rs ≡ rs
none-sent k u low [] next l h = refl
none-sent k u low (r ∷ rs) next l h =
    let other : (r.k == k) ≡ false = grind (arith, nat_tests, l, h.0) in
    rw other (ap (λ l. r ∷ l) (none-sent k u (r.k + 1) rs next (omega (arith, l, h.0)) h.1))

pub count-without : (p : Row → Bool) (k low : ℕ) (rs : List Row) (next : ℕ) (r : Row) → Rises low rs next → find (has_number k) rs ≡ Some r → length (filter p (without k rs)) + one (p r) ≡ length (filter p rs)
count-without p k low [] next r h f = absurd (let bad : ◌≡◌ {A = Option Row} None (Some r) = f in cc)
count-without p k low (x ∷ rs) next r h f = by (has_number k x) refl f (count-without p k (x.k + 1) rs next r h.1)
  where
    by : (b : Bool) → has_number k x ≡ b → cond b (Some x) (find (has_number k) rs) ≡ Some r → (find (has_number k) rs ≡ Some r → length (filter p (without k rs)) + one (p r) ≡ length (filter p rs)) → length (filter p (cond (not b) (x ∷ without k rs) (without k rs))) + one (p r) ≡ length (filter p (x ∷ rs))
    by true t e ih =
        let is : x.k ≡ k = grind (arith, nat_tests, t) in
        let same : x ≡ r = cc in
        rw (← same, none-without k (x.k + 1) rs next (omega (arith, is)) h.1) (grind arith)
    by false t e ih = grind (arith, ih e)

-- where the test doesn't pass for the one that ends
pub same-without : (p : Row → Bool) (k low : ℕ) (rs : List Row) (next : ℕ) (r : Row) → Rises low rs next → find (has_number k) rs ≡ Some r → p r ≡ false → filter p (without k rs) ≡ filter p rs
same-without p k low [] next r h f o = absurd (let bad : ◌≡◌ {A = Option Row} None (Some r) = f in cc)
same-without p k low (x ∷ rs) next r h f o = by (has_number k x) refl f (λ e. same-without p k (x.k + 1) rs next r h.1 e o)
  where
    keep : (b : Bool) (xs ys : List Row) → xs ≡ ys → cond b (x ∷ xs) xs ≡ cond b (x ∷ ys) ys
    keep b xs ys e = ap (λ l. cond b (x ∷ l) l) e

    by : (b : Bool) → has_number k x ≡ b → cond b (Some x) (find (has_number k) rs) ≡ Some r → (find (has_number k) rs ≡ Some r → filter p (without k rs) ≡ filter p rs) → filter p (cond (not b) (x ∷ without k rs) (without k rs)) ≡ cond (p x) (x ∷ filter p rs) (filter p rs)
    by true t e ih =
        let is : x.k ≡ k = grind (arith, nat_tests, t) in
        let same : x ≡ r = cc in
        rw (none-without k (x.k + 1) rs next (omega (arith, is)) h.1, ap p same, o) refl
    by false t e ih = keep (p x) _ _ (ih e)

pub without-miss : (k : ℕ) (rs : List Row) → find (has_number k) rs ≡ None → without k rs ≡ rs
without-miss k [] f = refl
without-miss k (x ∷ rs) f = by (has_number k x) f (without-miss k rs)
  where
    by : (b : Bool) → cond b (Some x) (find (has_number k) rs) ≡ None → (find (has_number k) rs ≡ None → without k rs ≡ rs) → cond (not b) (x ∷ without k rs) (without k rs) ≡ x ∷ rs
    by true e ih = absurd (let bad : ◌≡◌ {A = Option Row} (Some x) None = e in cc)
    by false e ih = ap (λ l. x ∷ l) (ih e)

pub sent-miss : (k u : ℕ) (rs : List Row) → find (has_number k) rs ≡ None → map (sent k u) rs ≡ rs
sent-miss k u [] f = refl
sent-miss k u (x ∷ rs) f = by (x.k == k) f (sent-miss k u rs)
  where
    by : (b : Bool) → cond b (Some x) (find (has_number k) rs) ≡ None → (find (has_number k) rs ≡ None → map (sent k u) rs ≡ rs) → (if b then record x { way = sent_on u x.way } else x) ∷ map (sent k u) rs ≡ x ∷ rs
    by true e ih = absurd (let bad : ◌≡◌ {A = Option Row} (Some x) None = e in cc)
    by false e ih = ap (λ l. x ∷ l) (ih e)

-- one that is sent waits no longer, but for a Bind
sent-row : (u : ℕ) (x : Row) (n : ℕ) (rs : List Row) → length (filter lets_wait rs) ≡ n → length (filter lets_wait (record x { way = sent_on u x.way } ∷ rs)) + one (lets_wait x && not (is_bind x)) ≡ length (filter lets_wait (x ∷ rs))
sent-row u x n rs e = by (is_bind x) x.restricts x.way
  where
    by : (b c : Bool) (w : Way) → length (cond (b || c && is_none (went_to (sent_on u w))) (record x { way = sent_on u x.way } ∷ filter lets_wait rs) (filter lets_wait rs)) + one ((b || c && is_none (went_to w)) && not b) ≡ length (cond (b || c && is_none (went_to w)) (x ∷ filter lets_wait rs) (filter lets_wait rs))
    by true c w = grind arith
    by false true (Waits rest) = grind arith
    by false true (Went v) = grind arith
    by false false w = grind arith

pub count-sent : (k u low : ℕ) (rs : List Row) (next : ℕ) (r : Row) → Rises low rs next → find (has_number k) rs ≡ Some r → length (filter lets_wait (map (sent k u) rs)) + one (lets_wait r && not (is_bind r)) ≡ length (filter lets_wait rs)
count-sent k u low [] next r h f = absurd (let bad : ◌≡◌ {A = Option Row} None (Some r) = f in cc)
count-sent k u low (x ∷ rs) next r h f = by (x.k == k) refl f (count-sent k u (x.k + 1) rs next r h.1)
  where
    by : (b : Bool) → (x.k == k) ≡ b → cond b (Some x) (find (has_number k) rs) ≡ Some r → (find (has_number k) rs ≡ Some r → length (filter lets_wait (map (sent k u) rs)) + one (lets_wait r && not (is_bind r)) ≡ length (filter lets_wait rs)) → length (filter lets_wait ((if b then record x { way = sent_on u x.way } else x) ∷ map (sent k u) rs)) + one (lets_wait r && not (is_bind r)) ≡ length (filter lets_wait (x ∷ rs))
    by true t e ih =
        let is : x.k ≡ k = grind (arith, nat_tests, t) in
        let same : x ≡ r = cc in
        rw (← same, none-sent k u (x.k + 1) rs next (omega (arith, is)) h.1) (sent-row u x (length (filter lets_wait rs)) rs refl)
    by false t e ih = let i = ih e in keep (lets_wait x) i
      where
        keep : (w : Bool) → length (filter lets_wait (map (sent k u) rs)) + one (lets_wait r && not (is_bind r)) ≡ length (filter lets_wait rs) → length (cond w (x ∷ filter lets_wait (map (sent k u) rs)) (filter lets_wait (map (sent k u) rs))) + one (lets_wait r && not (is_bind r)) ≡ length (cond w (x ∷ filter lets_wait rs) (filter lets_wait rs))
        keep true i = grind (arith, i)
        keep false i = i

pub number-sent : (k u id : ℕ) (rs : List Row) → numbers_under id (map (sent k u) rs) ≡ numbers_under id rs
number-sent k u id [] = refl
number-sent k u id (x ∷ rs) = by (x.k == k) (number-sent k u id rs)
  where
    keep : (b : Bool) (y : Row) → y.k ≡ x.k → numbers_under id (map (sent k u) rs) ≡ numbers_under id rs → map (λ r. r.k) (cond b (y ∷ filter (has_id id) (map (sent k u) rs)) (filter (has_id id) (map (sent k u) rs))) ≡ map (λ r. r.k) (cond b (x ∷ filter (has_id id) rs) (filter (has_id id) rs))
    keep true y e ih = rw (e) (ap (λ l. x.k ∷ l) ih)
    keep false y e ih = ih

    by : (b : Bool) → numbers_under id (map (sent k u) rs) ≡ numbers_under id rs → numbers_under id ((if b then record x { way = sent_on u x.way } else x) ∷ map (sent k u) rs) ≡ numbers_under id (x ∷ rs)
    by true ih = keep (has_id id x) (record x { way = sent_on u x.way }) refl ih
    by false ih = keep (has_id id x) x refl ih

-- the index

pub no-numbers : (xs : List Row) → map (λ r. r.k) xs ≡ [] → xs ≡ []
no-numbers [] e = refl
no-numbers (x ∷ xs) e = absurd (let bad : ◌≡◌ {A = List ℕ} (x.k ∷ map (λ r. r.k) xs) [] = e in cc)

least : (p : Row → Bool) (k low : ℕ) (ks : List ℕ) (rs : List Row) (next : ℕ) → Rises low rs next → map (λ r. r.k) (filter p rs) ≡ k ∷ ks → low ≤ k
least p k low ks [] next h e = absurd (let bad : ◌≡◌ {A = List ℕ} [] (k ∷ ks) = e in cc)
least p k low ks (x ∷ rs) next h e = by (p x) e (least p k (x.k + 1) ks rs next h.1)
  where
    by : (b : Bool) → map (λ r. r.k) (cond b (x ∷ filter p rs) (filter p rs)) ≡ k ∷ ks → (map (λ r. r.k) (filter p rs) ≡ k ∷ ks → x.k + 1 ≤ k) → low ≤ k
    by true f ih = let same : x.k ≡ k = cc in omega (arith, h.0, same)
    by false f ih = let l = ih f in omega (arith, h.0, l)

-- the one operation that passes is that of its number
pub one-found : (p : Row → Bool) (k low : ℕ) (rs : List Row) (next : ℕ) → Rises low rs next → map (λ r. r.k) (filter p rs) ≡ k ∷ [] → filter p rs ≡ option_to_list (find (has_number k) rs)
one-found p k low [] next h e = absurd (let bad : ◌≡◌ {A = List ℕ} [] (k ∷ []) = e in cc)
one-found p k low (x ∷ rs) next h e = by (p x) e (one-found p k (x.k + 1) rs next h.1)
  where
    by : (b : Bool) → map (λ r. r.k) (cond b (x ∷ filter p rs) (filter p rs)) ≡ k ∷ [] → (map (λ r. r.k) (filter p rs) ≡ k ∷ [] → filter p rs ≡ option_to_list (find (has_number k) rs)) → cond b (x ∷ filter p rs) (filter p rs) ≡ option_to_list (cond (has_number k x) (Some x) (find (has_number k) rs))
    by true f ih =
        let same : x.k ≡ k = cc in
        let rest : map (λ r. r.k) (filter p rs) ≡ [] = cc in
        let here : has_number k x ≡ true = grind (arith, nat_tests, same) in
        rw (here, no-numbers (filter p rs) rest) refl
    by false f ih =
        let l = least p k (x.k + 1) [] rs next h.1 f in
        let other : has_number k x ≡ false = grind (arith, nat_tests, l) in
        rw other (ih f)

append-nil : (xs : List ℕ) → xs ++ [] ≡ xs
append-nil [] = refl
append-nil (x ∷ xs) = ap (λ l. x ∷ l) (append-nil xs)

map-length : (ys : List Row) → length (map (λ r. r.k) ys) ≡ length ys
map-length [] = refl
map-length (y ∷ ys) = ap suc (map-length ys)

at-id : (id q : ℕ) → is_at (nat_cmp id) q ≡ (id == q)
at-id id q = grind (arith, nat_tests)

numbers-end : (id : ℕ) (r : Row) (rs : List Row) → numbers_under id (rs ++ r ∷ []) ≡ numbers_under id rs ++ (if has_id id r then r.k ∷ [] else [])
numbers-end id r [] = grind arith
numbers-end id r (x ∷ rs) = grind (arith, numbers-end id r rs)

pub index-end : (r : Row) (rs : List Row) (m n : BTreeMap ℕ ℕ) → Indexes m rs → filter (has_id r.id) rs ≡ [] → ((q : ℕ) → get nat_cmp n q ≡ cond (is_at (nat_cmp r.id) q) (Some r.k) (get nat_cmp m q)) → Indexes n (rs ++ r ∷ [])
index-end r rs m n i free up id = by (r.id == id) refl
  where
    by : (b : Bool) → (r.id == id) ≡ b → numbers_under id (rs ++ r ∷ []) ≡ option_to_list (get nat_cmp n id)
    by true t =
        let is : r.id ≡ id = grind (arith, nat_tests, t) in
        let none : numbers_under id rs ≡ [] = ap (λ j. map (λ r. r.k) (filter (has_id j) rs)) (sym is) ∙ ap (map (λ r. r.k)) free in
        rw (numbers-end id r rs, up id, at-id r.id id, t, none) refl
    by false t = rw (numbers-end id r rs, up id, at-id r.id id, t) (append-nil (numbers_under id rs) ∙ i id)

pub index-undone : (id : ℕ) (k : ℕ) (rs : List Row) (m n o : BTreeMap ℕ ℕ) → Indexes m rs → filter (has_id id) rs ≡ [] → ((q : ℕ) → get nat_cmp n q ≡ cond (is_at (nat_cmp id) q) (Some k) (get nat_cmp m q)) → ((q : ℕ) → get nat_cmp o q ≡ cond (is_at (nat_cmp id) q) None (get nat_cmp n q)) → Indexes o rs
index-undone id k rs m n o i free up down q = by (id == q) refl
  where
    by : (b : Bool) → (id == q) ≡ b → numbers_under q rs ≡ option_to_list (get nat_cmp o q)
    by true t =
        let is : id ≡ q = grind (arith, nat_tests, t) in
        let none : numbers_under q rs ≡ [] = ap (λ j. map (λ r. r.k) (filter (has_id j) rs)) (sym is) ∙ ap (map (λ r. r.k)) free in
        rw (down q, at-id id q, t, none) refl
    by false t = rw (down q, up q, at-id id q, t) (i q)

short : (o : Option ℕ) (xs ys : List Row) → map (λ r. r.k) ys ≡ option_to_list o → length xs + 1 ≡ length ys → xs ≡ []
short None xs ys e l = let none = no-numbers ys e in absurd (omega (arith, l, ap (length {A = Row}) none))
short (Some k) [] ys e l = refl
short (Some k) (x ∷ xs) ys e l = absurd (let one : length (map (λ r. r.k) ys) ≡ 1 = ap (length {A = ℕ}) e in omega (arith, l, one, map-length ys))

pub index-without : (k low : ℕ) (rs : List Row) (next : ℕ) (r : Row) (m n : BTreeMap ℕ ℕ) → Rises low rs next → find (has_number k) rs ≡ Some r → Indexes m rs → ((q : ℕ) → get nat_cmp n q ≡ cond (is_at (nat_cmp r.id) q) None (get nat_cmp m q)) → Indexes n (without k rs)
index-without k low rs next r m n h f i down id = by (r.id == id) refl
  where
    by : (b : Bool) → (r.id == id) ≡ b → numbers_under id (without k rs) ≡ option_to_list (get nat_cmp n id)
    by true t =
        let count = count-without (has_id id) k low rs next r h f in
        let less : length (filter (has_id id) (without k rs)) + 1 ≡ length (filter (has_id id) rs) = rw (t) at count in
        rw (down id, at-id r.id id, t, short _ _ _ (i id) less) refl
    by false t = rw (down id, at-id r.id id, t, same-without (has_id id) k low rs next r h f t) (i id)

some-passes : (p q : Row → Bool) (rs : List Row) (r : Row) → find q rs ≡ Some r → p r ≡ true → 1 ≤ length (filter p rs)
some-passes p q [] r f t = absurd (let bad : ◌≡◌ {A = Option Row} None (Some r) = f in cc)
some-passes p q (x ∷ rs) r f t = by (q x) f (λ e. some-passes p q rs r e t)
  where
    more : (b : Bool) (xs : List Row) → length xs ≤ length (cond b (x ∷ xs) xs)
    more true xs = omega arith
    more false xs = omega arith

    by : (b : Bool) → cond b (Some x) (find q rs) ≡ Some r → (find q rs ≡ Some r → 1 ≤ length (filter p rs)) → 1 ≤ length (cond (p x) (x ∷ filter p rs) (filter p rs))
    by true e ih =
        let same : x ≡ r = cc in
        rw (ap p same, t) (omega arith)
    by false e ih = omega (arith, ih e, more (p x) (filter p rs))

none-left : (xs : List Row) → length xs ≤ 0 → xs ≡ []
none-left [] h = refl
none-left (x ∷ xs) h = absurd (omega (arith, h))

-- the one that is found is the only one that passes
pub only-passes : (p q : Row → Bool) (rs : List Row) (r : Row) → find q rs ≡ Some r → p r ≡ true → length (filter p rs) ≤ 1 → filter p rs ≡ r ∷ []
only-passes p q [] r f t l = absurd (let bad : ◌≡◌ {A = Option Row} None (Some r) = f in cc)
only-passes p q (x ∷ rs) r f t l = by (q x) (p x) refl f l (λ e. only-passes p q rs r e t) (λ e. some-passes p q rs r e t)
  where
    by : (b c : Bool) → p x ≡ c → cond b (Some x) (find q rs) ≡ Some r → length (cond c (x ∷ filter p rs) (filter p rs)) ≤ 1 → (find q rs ≡ Some r → length (filter p rs) ≤ 1 → filter p rs ≡ r ∷ []) → (find q rs ≡ Some r → 1 ≤ length (filter p rs)) → cond c (x ∷ filter p rs) (filter p rs) ≡ r ∷ []
    by true true u e n ih some =
        let same : x ≡ r = cc in
        rw (same, none-left (filter p rs) (omega (arith, n))) refl
    by true false u e n ih some = absurd (let same : x ≡ r = cc in let bad : false ≡ true = sym u ∙ ap p same ∙ t in cc)
    by false true u e n ih some = absurd (let s = some e in omega (arith, n, s))
    by false false u e n ih some = ih e n

pub at-most-one : (id : ℕ) (rs : List Row) (o : Option ℕ) → numbers_under id rs ≡ option_to_list o → length (filter (has_id id) rs) ≤ 1
at-most-one id rs None e = let n = ap (length {A = ℕ}) e in omega (arith, n, map-length (filter (has_id id) rs))
at-most-one id rs (Some k) e = let n = ap (length {A = ℕ}) e in omega (arith, n, map-length (filter (has_id id) rs))

pub alone-under : (k : ℕ) (m : BTreeMap ℕ ℕ) (rs : List Row) (r : Row) → Indexes m rs → find (has_number k) rs ≡ Some r → filter (has_id r.id) rs ≡ r ∷ []
alone-under k m rs r i f = only-passes (has_id r.id) (has_number k) rs r f (grind (arith, nat_tests)) (at-most-one r.id rs _ (i r.id))

pub alone-by : (k : ℕ) (m : BTreeMap ℕ ℕ) (rs : List Row) (o : Option (Bor Row)) → Indexes m rs → option_copied o ≡ find (has_number k) rs → IfSome o (λ row. filter (has_id row.now.id) rs ≡ row.now ∷ [])
alone-by k m rs None i e = tt
alone-by k m rs (Some r) i e = alone-under k m rs r.now i (sym e)
