-- The choice of a tier is the pick of its backends.
use Rattle.std.proofs.Common.{◌≡◌, ℕ, suc, ◌+◌, ◌-◌, Bool, true, false, nat_lt, List, [], ◌∷◌, ◌++◌, map, filter, get_or, slice_get, is_some, if◌then◌else◌, Option, Some, None, refl, sym, ap, ◌∙◌, arith}
use Rattle.std.proofs.lemmas.List.Elements.{All-filter, filter_passes}
use Rattle.std.specs.Prelude.{cond}
use Rattle.std.specs.List.{All}
use Rattle.std.specs.Option.{option_map}
use Rattle.lload_names.specs.declared.names.ConnKind.{ConnKind}
use Rattle.lload_names.specs.declared.names.Answer.{Answer}
use Rattle.lload_names.specs.declared.names.Answer.TheVariants.{Go, Busy}
use Rattle.lload_names.specs.declared.plans.BackendPlan.{BackendPlan}
use Rattle.lload_names.specs.declared.plans.TierKind.{TierKind}
use Rattle.lload_names.specs.declared.plans.TierKind.TheVariants.{RoundRobin, Weighted, BestOf}
use Rattle.lload_names.specs.declared.plans.TierPlan.{TierPlan}
use Rattle.lload_spec.specs.Lists.{first}
use Rattle.lload_spec.specs.Picks.{tier_order, tier_pick, mean_of_last}
use Rattle.lload_spec.specs.Settings.{Settings}
use Rattle.lload_spec.specs.Choice.{DeskFacts, connection_for, candidates, mean_of, or_busy, order, pick}
use Rattle.tier_select.specs.Flags.{is_set}
use Rattle.tier_select.specs.Calls.{Standing, last_picked, latencies_at, choice}
use Rattle.tier_select.proofs.Standings.{choice_standing}
use Rattle.desk_tables.specs.Choices.{TierTells, AreEligible, IsPick}
use Rattle.desk_tables.proofs.Orders.{place_of, ordered, IsAt, order-at}

module _ {A B : Type 0} where
  if-map : (g : A → B) (t : Bool) (x y : A) → ◌≡◌ {A = Option B} (Some (if t then g y else g x)) (option_map g (Some (if t then y else x)))
  if-map g true x y = refl
  if-map g false x y = refl

  pick-map : (wanted : TierKind) (mean : B → ℕ) (g : A → B) (xs : List A) → tier_pick wanted mean (map g xs) ≡ option_map g (tier_pick wanted (λ x. mean (g x)) xs)
  pick-map RoundRobin mean g [] = refl
  pick-map RoundRobin mean g (x ∷ xs) = refl
  pick-map Weighted mean g [] = refl
  pick-map Weighted mean g (x ∷ xs) = refl
  pick-map BestOf mean g [] = refl
  pick-map BestOf mean g (x ∷ []) = refl
  pick-map BestOf mean g (x ∷ y ∷ xs) = if-map g (nat_lt (mean (g y)) (mean (g x))) x y

module _ {A : Type 0} where
  pick-means : (wanted : TierKind) (f g : A → ℕ) (xs : List A) → All (λ x. f x ≡ g x) xs → tier_pick wanted f xs ≡ tier_pick wanted g xs
  pick-means RoundRobin f g xs h = refl
  pick-means Weighted f g xs h = refl
  pick-means BestOf f g [] h = refl
  pick-means BestOf f g (x ∷ []) h = refl
  pick-means BestOf f g (x ∷ y ∷ xs) h =
      let here : f x ≡ g x = h 0 x (omega arith) in
      let next : f y ≡ g y = h 1 y (omega arith) in
      (λ i. Some (if nat_lt (next i) (here i) then y else x))

  if-of : (P : A → Type 0) (t : Bool) (x y z : A) → P x → P y → ◌≡◌ {A = Option A} (Some (if t then y else x)) (Some z) → P z
  if-of P true x y z h k e = let same : y ≡ z = cc in rw (sym same) k
  if-of P false x y z h k e = let same : x ≡ z = cc in rw (sym same) h

  first-of : (P : A → Type 0) (xs : List A) (z : A) → All P xs → first xs ≡ Some z → P z
  first-of P [] z h e = absurd (cc)
  first-of P (x ∷ xs) z h e = let same : x ≡ z = cc in rw (sym same) (h 0 x (omega arith))

  pick-of : (P : A → Type 0) (wanted : TierKind) (mean : A → ℕ) (xs : List A) (z : A) → All P xs → tier_pick wanted mean xs ≡ Some z → P z
  pick-of P RoundRobin mean xs z h e = first-of P xs z h e
  pick-of P Weighted mean xs z h e = first-of P xs z h e
  pick-of P BestOf mean [] z h e = absurd (cc)
  pick-of P BestOf mean (x ∷ []) z h e = let same : x ≡ z = cc in rw (sym same) (h 0 x (omega arith))
  pick-of P BestOf mean (x ∷ y ∷ xs) z h e = if-of P (nat_lt (mean y) (mean x)) x y z (h 0 x (omega arith)) (h 1 y (omega arith)) e

-- the answer with the connection that stands for a backend
abbrev go : Settings → DeskFacts → ConnKind → BackendPlan → Answer
go s f wanted b = elim (connection_for s f wanted b) [ None ↦ Busy | Some n ↦ Go n b.number ]

abbrev has : Settings → DeskFacts → ConnKind → BackendPlan → Bool
has s f wanted b = is_some (connection_for s f wanted b)

go-some : (s : Settings) (f : DeskFacts) (wanted : ConnKind) (b : BackendPlan) (o : Option ℕ) → connection_for s f wanted b ≡ o → go s f wanted b ≡ elim o [ None ↦ Busy | Some n ↦ Go n b.number ]
go-some s f wanted b o e = ap (λ o. elim o [ None ↦ Busy | Some n ↦ Go n b.number ]) e

candidates-step : (s : Settings) (f : DeskFacts) (wanted : ConnKind) (b : BackendPlan) (bs : List BackendPlan) (xs : List Answer) → xs ≡ map (go s f wanted) bs → (o : Option ℕ) → connection_for s f wanted b ≡ o → (elim o [ None ↦ [] | Some n ↦ Go n b.number ∷ [] ]) ++ xs ≡ map (go s f wanted) (cond (is_some o) (b ∷ bs) bs)
candidates-step s f wanted b bs xs h None e = h
candidates-step s f wanted b bs xs h (Some n) e = λ i. sym (go-some s f wanted b (Some n) e) i ∷ h i

candidates-are : (s : Settings) (f : DeskFacts) (wanted : ConnKind) (bs : List BackendPlan) → candidates s f wanted bs ≡ map (go s f wanted) (filter (has s f wanted) bs)
candidates-are s f wanted [] = refl
candidates-are s f wanted (b ∷ bs) = candidates-step s f wanted b (filter (has s f wanted) bs) (candidates s f wanted bs) (candidates-are s f wanted bs) (connection_for s f wanted b) refl

pub one-candidate : (s : Settings) (f : DeskFacts) (wanted : ConnKind) (b : BackendPlan) (o : Option ℕ) → or_busy (first ((elim o [ None ↦ [] | Some n ↦ Go n b.number ∷ [] ]) ++ [])) ≡ elim o [ None ↦ Busy | Some n ↦ Go n b.number ]
one-candidate s f wanted b None = refl
one-candidate s f wanted b (Some n) = refl

mean-some : (s : Settings) (f : DeskFacts) (wanted : ConnKind) (b : BackendPlan) (o : Option ℕ) → connection_for s f wanted b ≡ o → is_some o ≡ true → mean_of f (go s f wanted b) ≡ f.mean b.number
mean-some s f wanted b None e h = absurd (let bad : false ≡ true = h in cc)
mean-some s f wanted b (Some n) e h = ap (mean_of f) (go-some s f wanted b (Some n) e)

-- the places that are set, in an order, are those of the backends that have a connection
set-places : (first : ℕ) (flags : List Bool) (p : BackendPlan → Bool) (bs os : List BackendPlan) → ((i : ℕ) (b : BackendPlan) → slice_get bs i ≡ Some b → is_set flags i ≡ p b) → All (IsAt first bs) os → filter (is_set flags) (map (place_of first) os) ≡ map (place_of first) (filter p os)
set-places first flags p bs [] set h = refl
set-places first flags p bs (b ∷ os) set h =
    let at : IsAt first bs b = h 0 b (omega arith) in
    let here : is_set flags (b.number - first) ≡ p b = set (b.number - first) b at.at in
    let rest = set-places first flags p bs os set (λ k d l. h (suc k) d (omega (arith, l))) in
    ap (λ t. cond t ((b.number - first) ∷ filter (is_set flags) (map (place_of first) os)) (filter (is_set flags) (map (place_of first) os))) here
    ∙ ap (λ is. cond (p b) ((b.number - first) ∷ is) is) rest
    ∙ cond-map (p b)
  where
    cond-map : (t : Bool) → cond t ((b.number - first) ∷ map (place_of first) (filter p os)) (map (place_of first) (filter p os)) ≡ map (place_of first) (cond t (b ∷ filter p os) (filter p os))
    cond-map true = refl
    cond-map false = refl

same-some : (b c : BackendPlan) (o : Option BackendPlan) → o ≡ Some c → o ≡ Some b → c ≡ b
same-some b c o e h = let both : Some c ≡ Some b = sym e ∙ h in cc

concluded : (s : Settings) (f : DeskFacts) (wanted : ConnKind) (t : TierPlan) (w first : ℕ) (x : Option BackendPlan) (o : Option ℕ) → o ≡ option_map (place_of first) x → ((b : BackendPlan) → x ≡ Some b → IsAt first t.backends b) → pick s f t wanted w ≡ or_busy (option_map (go s f wanted) x) → IsPick s f wanted t w o
concluded s f wanted t w first None None e at is = is
concluded s f wanted t w first None (Some i) e at is = absurd (cc)
concluded s f wanted t w first (Some c) None e at is = absurd (cc)
concluded s f wanted t w first (Some c) (Some i) e at is = λ b h.
    let place : i ≡ c.number - first = cc in
    let same : c ≡ b = same-some b c (slice_get t.backends i) (ap (slice_get t.backends) place ∙ (at c refl).at) h in
    is ∙ ap (go s f wanted) same ∙ sym (one-candidate s f wanted b (connection_for s f wanted b))

pub picks : (s : Settings) (f : DeskFacts) (wanted : ConnKind) (t : TierPlan) (x : Standing) (flags : List Bool) (w : ℕ) → TierTells f t x → AreEligible s f wanted t flags → IsPick s f wanted t w (choice x flags w)
picks s f wanted t x flags w tells set =
    let os = order f t w in
    let xs = filter (has s f wanted) os in
    let heard = λ (i : ℕ). mean_of_last (latencies_at i tells.calls) in
    let mean = λ (b : BackendPlan). f.mean b.number in
    let num = place_of tells.first in
    let at : All (IsAt tells.first t.backends) os = order-at t.kind tells.first w (f.last_backend t) t.backends tells.numbered in
    let at-xs : All (IsAt tells.first t.backends) xs = All-filter (has s f wanted) (IsAt tells.first t.backends) os at in
    let last = ap (λ last. map num (tier_order t.kind (λ b. b.number) (λ b. b.weight) last w t.backends)) (sym tells.last_is) in
    let in_order = ordered t.kind tells.first w (last_picked tells.calls) t.backends tells.numbered ∙ last in
    let means : All (λ b. heard (num b) ≡ mean b) xs = λ i d l.
    let b = get_or xs i d in
    let is : IsAt tells.first t.backends b = at-xs i d l in
    let back : tells.first + (b.number - tells.first) ≡ b.number = omega (arith, is.above) in
    sym (tells.means_are (b.number - tells.first) is.below) ∙ ap f.mean back in
    let told : All (λ b. mean_of f (go s f wanted b) ≡ mean b) xs = λ i d l. mean-some s f wanted (get_or xs i d) (connection_for s f wanted (get_or xs i d)) refl (filter_passes (has s f wanted) os i d l) in
    let chosen : choice x flags w ≡ option_map num (tier_pick t.kind mean xs) =
    ap (λ x. choice x flags w) tells.stands ∙ choice_standing t tells.calls flags w
    ∙ ap (λ is. tier_pick t.kind heard (filter (is_set flags) is)) in_order
    ∙ ap (tier_pick t.kind heard) (set-places tells.first flags (has s f wanted) t.backends os set at)
    ∙ pick-map t.kind heard num xs
    ∙ ap (option_map num) (pick-means t.kind (λ b. heard (num b)) mean xs means) in
    let picked : pick s f t wanted w ≡ or_busy (option_map (go s f wanted) (tier_pick t.kind mean xs)) =
    ap (λ as'. or_busy (tier_pick t.kind (mean_of f) as')) (candidates-are s f wanted os)
    ∙ ap or_busy (pick-map t.kind (mean_of f) (go s f wanted) xs)
    ∙ ap (λ o. or_busy (option_map (go s f wanted) o)) (pick-means t.kind (λ b. mean_of f (go s f wanted b)) mean xs told) in
    concluded s f wanted t w tells.first (tier_pick t.kind mean xs) (choice x flags w) chosen (λ b e. pick-of (IsAt tells.first t.backends) t.kind mean xs b at-xs e) picked
