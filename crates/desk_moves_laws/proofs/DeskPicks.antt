-- What the desk answers is a viable connection of the kind that is wanted, of its backend, and under its limit.
use Rattle.std.proofs.Common.{◌≡◌, ℕ, ◌<◌, Bool, true, false, ◌==◌, ◌&&◌, if◌then◌else◌, List, [], ◌∷◌, ◌++◌, Option, Some, None, refl, subst, inl, inr, arith}
use Rattle.std.specs.Prelude.{filter, fold, max, nat_lt}
use Rattle.std.specs.List.{list_any}
use Rattle.std.proofs.lemmas.Bool.{and_parts, or_cases, or_left, or_right, eqb-true, cases_lt, ltb-true}
use Rattle.lload_names.specs.declared.names.Answer.{Answer}
use Rattle.lload_names.specs.declared.names.Answer.TheVariants.{Go, Busy, Unavailable}
use Rattle.lload_names.specs.declared.names.Bound.{Bound}
use Rattle.lload_names.specs.declared.names.Bound.TheVariants.{Free, Backend as ToBackend, Conn as ToConnection}
use Rattle.lload_names.specs.declared.names.ConnKind.{ConnKind}
use Rattle.lload_names.specs.declared.names.ConnKind.TheVariants.{Regular, Bind}
use Rattle.lload_names.specs.declared.plans.BackendPlan.{BackendPlan}
use Rattle.lload_names.specs.declared.plans.TierPlan.{TierPlan}
use Rattle.lload_names.specs.declared.plans.Place.{Place}
use Rattle.lload_names.specs.declared.plans.TierKind.{TierKind}
use Rattle.lload_names.specs.declared.plans.TierKind.TheVariants.{RoundRobin, Weighted, BestOf}
use Rattle.lload_names.specs.Plans.{backends_of}
use Rattle.lload_spec.specs.Choice.{DeskFacts, answer_for, backends_numbered, candidates, connection_for, eligible, first_at, greatest, has_room, is_eligible, is_viable, is_within_limit, mean_of, or_busy, order, pending_on, pick, pick_of_backend, pick_of_connection, pick_of_tiers, place_order, viable_of}
use Rattle.lload_spec.specs.Lists.{first}
use Rattle.lload_spec.specs.Picks.{tier_pick}
use Rattle.lload_spec.specs.Settings.{Settings, is_kind, is_of_kind, is_of_backend, backend_of, place_at, place_index}
use Rattle.stands_laws.specs.Lists.{Each}
use Rattle.stands_laws.proofs.Tests.{same_self}

each_more : {A : Type 0} (P Q : A → Type 0) (xs : List A) → ((x : A) → P x → Q x) → Each P xs → Each Q xs
each_more P Q [] f h = tt
each_more P Q (x ∷ xs) f h = (f x h.0, each_more P Q xs f h.1)

each_append : {A : Type 0} (P : A → Type 0) (xs ys : List A) → Each P xs → Each P ys → Each P (xs ++ ys)
each_append P [] ys h k = k
each_append P (x ∷ xs) ys h k = (h.0, each_append P xs ys h.1 k)

each_filter : {A : Type 0} (P : A → Type 0) (t : A → Bool) (xs : List A) → Each P xs → Each (λ x. P x × (t x ≡ true)) (filter t xs)
each_filter P t [] h = tt
each_filter P t (x ∷ xs) h = one (t x) refl (each_filter P t xs h.1)
  where
    one : (b : Bool) → t x ≡ b → Each (λ x. P x × (t x ≡ true)) (filter t xs) → Each (λ x. P x × (t x ≡ true)) (if b then x ∷ filter t xs else filter t xs)
    one true e r = ((h.0, e), r)
    one false e r = r

in_more : (n x : ℕ) (xs : List ℕ) → list_any (λ m. m == n) xs ≡ true → list_any (λ m. m == n) (x ∷ xs) ≡ true
in_more n x xs h = or_right (x == n) (list_any (λ m. m == n) xs) h

each_in : (xs : List ℕ) → Each (λ n. list_any (λ m. m == n) xs ≡ true) xs
each_in [] = tt
each_in (x ∷ xs) = (or_left (x == x) (list_any (λ m. m == x) xs) (same_self x), each_more (λ n. list_any (λ m. m == n) xs ≡ true) (λ n. list_any (λ m. m == n) (x ∷ xs) ≡ true) xs (λ n h. in_more n x xs h) (each_in xs))

-- an eligible connection
pub record Eligible (s : Settings) (f : DeskFacts) (wanted : ConnKind) (b n : ℕ) : Type 0 where
  pub viable : list_any (λ m. m == n) f.viable ≡ true
  pub kind : is_of_kind s wanted n ≡ true
  pub backend : is_of_backend s b n ≡ true
  pub alone : wanted ≡ Bind → pending_on f n ≡ 0

abbrev pub Sound : Settings → DeskFacts → ConnKind → Answer → Type 0
Sound s f kind (Go n b) = Eligible s f kind b n
Sound s f kind Busy = Unit {0}
Sound s f kind Unavailable = Unit {0}

alone_by : (s : Settings) (f : DeskFacts) (b : BackendPlan) (kind : ConnKind) (n : ℕ) → has_room s f b kind n ≡ true → kind ≡ Bind → pending_on f n ≡ 0
alone_by s f b Regular n h e = absurd (cc)
alone_by s f b Bind n h e = let q = and_parts (is_within_limit 1 (pending_on f n)) _ h in let l : pending_on f n < 1 = ltb-true (pending_on f n) 1 q.0 in omega arith

each_eligible : (s : Settings) (f : DeskFacts) (kind : ConnKind) (b : BackendPlan) → Each (Eligible s f kind b.number) (eligible s f kind b)
each_eligible s f kind b = each_more _ (Eligible s f kind b.number) (eligible s f kind b) (λ n h. let q = and_parts (is_of_backend s b.number n) (has_room s f b kind n) h.1 in record { viable = h.0.0; kind = h.0.1; backend = q.0; alone = alone_by s f b kind n q.1 })
    (each_filter _ (λ n. is_of_backend s b.number n && has_room s f b kind n) (viable_of s f kind) (each_filter _ (is_of_kind s kind) f.viable (each_in f.viable)))

either_of : (P : ℕ → Type 0) (a b : ℕ) → P a → P b → P (max a b)
either_of P a b h k = elim (cases_lt a b) [ inl m ↦ subst P (let e : b ≡ max a b = omega arith in e) k | inr m ↦ subst P (let e : a ≡ max a b = omega arith in e) h ]

abbrev pub OfSome : {A : Type 0} → (A → Type 0) → Option A → Type 0
OfSome P None = Unit {0}
OfSome P (Some x) = P x

greatest_of : (P : ℕ → Type 0) (ns : List ℕ) → Each P ns → OfSome P (greatest ns)
greatest_of P [] h = tt
greatest_of P (n ∷ ns) h = go n ns h.0 h.1
  where
    go : (n : ℕ) (ns : List ℕ) → P n → Each P ns → P (fold max n ns)
    go n [] h k = h
    go n (m ∷ ns) h k = go (max n m) ns (either_of P n m h k.0) k.1

place_first : (P : ℕ → Type 0) (s : Settings) (among places : List ℕ) → Each P among → OfSome P (first_at s among places)
place_first P s among [] h = tt
place_first P s among (i ∷ is) h = go (greatest (filter (λ n. place_index s n == i) among)) (greatest_of P (filter (λ n. place_index s n == i) among) (each_more _ P _ (λ n q. q.0) (each_filter P (λ n. place_index s n == i) among h))) (place_first P s among is h)
  where
    go : (o : Option ℕ) → OfSome P o → OfSome P (first_at s among is) → OfSome P (elim o [ Some n ↦ Some n | None ↦ first_at s among is ])
    go None f r = r
    go (Some n) f r = f

candidates_sound : (s : Settings) (f : DeskFacts) (kind : ConnKind) (bs : List BackendPlan) → Each (Sound s f kind) (candidates s f kind bs)
candidates_sound s f kind [] = tt
candidates_sound s f kind (b ∷ bs) = each_append (Sound s f kind) _ (candidates s f kind bs) (go (connection_for s f kind b) (place_first (Eligible s f kind b.number) s (eligible s f kind b) (place_order f b.number kind) (each_eligible s f kind b))) (candidates_sound s f kind bs)
  where
    go : (o : Option ℕ) → OfSome (Eligible s f kind b.number) o → Each (Sound s f kind) (elim o [ None ↦ [] | Some n ↦ Go n b.number ∷ [] ])
    go None h = tt
    go (Some n) h = (h, tt)

first_sound : (P : Answer → Type 0) (xs : List Answer) → Each P xs → OfSome P (first xs)
first_sound P [] h = tt
first_sound P (x ∷ xs) h = h.0

pick_sound : (P : Answer → Type 0) (kind : TierKind) (mean : Answer → ℕ) (xs : List Answer) → Each P xs → OfSome P (tier_pick kind mean xs)
pick_sound P RoundRobin mean xs h = first_sound P xs h
pick_sound P Weighted mean xs h = first_sound P xs h
pick_sound P BestOf mean [] h = tt
pick_sound P BestOf mean (x ∷ []) h = h.0
pick_sound P BestOf mean (x ∷ y ∷ xs) h = go (nat_lt (mean y) (mean x))
  where
    go : (t : Bool) → P (if t then y else x)
    go true = h.1.0
    go false = h.0

or_busy_sound : (s : Settings) (f : DeskFacts) (kind : ConnKind) (o : Option Answer) → OfSome (Sound s f kind) o → Sound s f kind (or_busy o)
or_busy_sound s f kind None h = tt
or_busy_sound s f kind (Some a) h = h

tiers_sound : (s : Settings) (f : DeskFacts) (kind : ConnKind) (w : ℕ) (ts : List TierPlan) → Sound s f kind (pick_of_tiers s f kind w ts)
tiers_sound s f kind w [] = tt
tiers_sound s f kind w (t ∷ ts) = go (list_any (λ b. is_viable s f kind b.number) t.backends) (tiers_sound s f kind w ts)
  where
    go : (q : Bool) → Sound s f kind (pick_of_tiers s f kind w ts) → Sound s f kind (elim q [ true ↦ pick s f t kind w | false ↦ pick_of_tiers s f kind w ts ])
    go true r = or_busy_sound s f kind (tier_pick t.kind (mean_of f) (candidates s f kind (order f t w))) (pick_sound (Sound s f kind) t.kind (mean_of f) (candidates s f kind (order f t w)) (candidates_sound s f kind (order f t w)))
    go false r = r

backend_sound : (s : Settings) (f : DeskFacts) (kind : ConnKind) (number : ℕ) → Sound s f kind (pick_of_backend s f kind number)
backend_sound s f kind number = go (is_viable s f kind number)
  where
    go : (q : Bool) → Sound s f kind (elim q [ true ↦ or_busy (first (candidates s f kind (backends_numbered f number))) | false ↦ Unavailable ])
    go true = or_busy_sound s f kind (first (candidates s f kind (backends_numbered f number))) (first_sound (Sound s f kind) _ (candidates_sound s f kind (backends_numbered f number)))
    go false = tt

-- a connection with a place is of its own backend
own_backend : (s : Settings) (kind : ConnKind) (n : ℕ) → is_of_kind s kind n ≡ true → is_of_backend s (backend_of s n) n ≡ true
own_backend s kind n h = go (place_at s n) h
  where
    test : Option Place → Option Place → Bool
    test o r = elim o [ None ↦ false | Some q ↦ q.backend == (elim r [ None ↦ 0 | Some z ↦ z.backend ]) ]

    go : (o : Option Place) → (elim o [ None ↦ false | Some q ↦ is_kind kind q.kind ]) ≡ true → test o o ≡ true
    go None e = e
    go (Some q) e = same_self q.backend

any_of : {A : Type 0} (t : A → Bool) (P : A → Type 0) (C : Type 0) (xs : List A) → Each P xs → ((x : A) → P x → t x ≡ true → C) → list_any t xs ≡ true → C
any_of t P C [] h f e = absurd (cc)
any_of t P C (x ∷ xs) h f e = elim (or_cases (t x) (list_any t xs) e) [ inl q ↦ f x h.0 q | inr q ↦ any_of t P C xs h.1 f q ]

any_some : {A : Type 0} (t : A → Bool) (C : Type 0) (xs : List A) → ((x : A) → t x ≡ true → C) → list_any t xs ≡ true → C
any_some t C [] f e = absurd (cc)
any_some t C (x ∷ xs) f e = elim (or_cases (t x) (list_any t xs) e) [ inl q ↦ f x q | inr q ↦ any_some t C xs f q ]

connection_sound : (s : Settings) (f : DeskFacts) (kind : ConnKind) (n : ℕ) → Sound s f kind (pick_of_connection s f kind n)
connection_sound s f kind n = go (list_any (λ m. m == n) (viable_of s f kind)) (is_eligible s f kind n) refl
  where
    found : is_eligible s f kind n ≡ true → Eligible s f kind (backend_of s n) n
    found e = any_some (λ b. list_any (λ m. m == n) (eligible s f kind b)) (Eligible s f kind (backend_of s n) n) (backends_of f.tiers)
        (λ b q. any_of (λ m. m == n) (Eligible s f kind b.number) (Eligible s f kind (backend_of s n) n) (eligible s f kind b) (each_eligible s f kind b) (λ m h i. let g : Eligible s f kind b.number n = subst (λ z. Eligible s f kind b.number z) (eqb-true m n i) h in record { viable = g.viable; kind = g.kind; backend = own_backend s kind n g.kind; alone = g.alone }) q) e

    go : (q r : Bool) → is_eligible s f kind n ≡ r → Sound s f kind (elim q [ false ↦ Unavailable | true ↦ elim r [ true ↦ Go n (backend_of s n) | false ↦ Busy ] ])
    go true true e = found e
    go true false e = tt
    go false r e = tt

pub answer_sound : (s : Settings) (f : DeskFacts) (kind : ConnKind) (w : ℕ) (bound : Bound) → Sound s f kind (answer_for s f kind w bound)
answer_sound s f kind w Free = tiers_sound s f kind w f.tiers
answer_sound s f kind w (ToBackend number) = backend_sound s f kind number
answer_sound s f kind w (ToConnection n) = connection_sound s f kind n
