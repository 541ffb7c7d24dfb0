-- The tiers of the plan in force, and their backends among all.
use Rattle.std.proofs.Common.{◌≡◌, ℕ, zero, suc, ◌+◌, ◌<◌, ◌≤◌, Bool, true, false, ◌==◌, ◌||◌, nat_lt, List, [], ◌∷◌, ◌++◌, length, filter, map, drop, slice_get, is_some, Option, Some, None, refl, sym, ap, ◌∙◌, arith}
use Rattle.std.proofs.lemmas.List.{length-map}
use Rattle.std.specs.List.{list_any}
use Rattle.std.specs.Option.{option_map}
use Rattle.lload_names.specs.declared.names.ConnKind.{ConnKind}
use Rattle.lload_names.specs.declared.names.Answer.{Answer}
use Rattle.lload_names.specs.declared.names.Answer.TheVariants.{Go, Busy, Unavailable}
use Rattle.lload_names.specs.declared.plans.TierPlan.{TierPlan}
use Rattle.lload_names.specs.declared.plans.BackendPlan.{BackendPlan}
use Rattle.lload_names.specs.Plans.{backends_of}
use Rattle.lload_spec.specs.Lists.{first}
use Rattle.lload_spec.specs.Settings.{Settings, is_of_backend}
use Rattle.lload_spec.specs.Choice.{DeskFacts, connection_for, candidates, or_busy, viable_of, is_viable, is_viable_tier, pick, pick_of_tiers}
use Rattle.tier_select.specs.Flags.{is_set}
use Rattle.tier_select.specs.Calls.{Standing}
use Rattle.desk_tables.specs.Lanes.{lane_of, has_viable}
use Rattle.desk_tables.specs.Turns.{Turn}
use Rattle.desk_tables.specs.Choices.{TierTells, IsPick}
use Rattle.desk_tables.specs.declared.servers.Server.{Server}
use Rattle.desk_tables.proofs.Picking.{one-candidate}
use Rattle.desk_choice.specs.Places.{some_viable, viable_at}
use Rattle.desk_choice.specs.Tells.{ServerTells, RoundTells, RoundIs, Tells, IsTier}
use Rattle.desk_choice.specs.declared.tables.Tables.{Tables}
use Rattle.desk_choice.proofs.Flat.{get-map, any-count, drop-at, tier-backend}
use Rattle.desk_choice.proofs.Eligible.{server-knows, server-plan}

-- the answer for a backend alone
pub go-is : (s : Settings) (f : DeskFacts) (kd : ConnKind) (b : BackendPlan) (o : Option ℕ) → o ≡ connection_for s f kd b → (elim o [ None ↦ Busy | Some n ↦ Go n b.number ]) ≡ or_busy (first (candidates s f kd (b ∷ [])))
go-is s f kd b o e = ap (λ o. elim o [ None ↦ Busy | Some n ↦ Go n b.number ]) e ∙ sym (one-candidate s f kd b (connection_for s f kd b))

pub round-knows : (s : Settings) (f : DeskFacts) (d : Tables) (i : ℕ) (t : TierPlan) (x : Turn) → Tells s f d → IsTier f d i t x → RoundTells f i t x
round-knows s f d i t x k h = rw (h.plan, h.turn) at (k.rounds i)

-- the tables have as many backends of a tier as it has
pub as-many : (s : Settings) (f : DeskFacts) (d : Tables) (i : ℕ) (t : TierPlan) (x : Turn) → Tells s f d → IsTier f d i t x → length x.tier.weights ≡ length t.backends
as-many s f d i t x k h =
    let r = round-knows s f d i t x k h in
    ap (λ (y : Standing). length y.weights) r.tells.stands ∙ length-map t.backends (λ b. b.weight)

some-backend : (bs : List BackendPlan) (j : ℕ) → j < length bs → (b : BackendPlan) × (slice_get bs j ≡ Some b)
some-backend [] j l = absurd (omega arith)
some-backend (b ∷ bs) zero l = (b, refl)
some-backend (b ∷ bs) (suc j) l = some-backend bs j (omega (arith, l))

-- the backend at a place of a tier stands among all
pub at-place : (s : Settings) (f : DeskFacts) (d : Tables) (i : ℕ) (t : TierPlan) (x : Turn) (j : ℕ) (b : BackendPlan) → Tells s f d → IsTier f d i t x → slice_get t.backends j ≡ Some b → slice_get (backends_of f.tiers) (x.first + j) ≡ Some b
at-place s f d i t x j b k h e = ap (λ m. slice_get (backends_of f.tiers) (m + j)) (round-knows s f d i t x k h).first_is ∙ tier-backend f.tiers i j t b h.plan e

same-plan : (o : Option Server) (q : Option BackendPlan) (v : Server) (b : BackendPlan) → o ≡ Some v → option_map (λ v. v.plan) o ≡ q → q ≡ Some b → v.plan ≡ b
same-plan o q v b e h g = let both : Some v.plan ≡ Some b = ap (option_map (λ v. v.plan)) (sym e) ∙ h ∙ g in cc

no-server : (o : Option Server) (b : BackendPlan) → o ≡ None → option_map (λ v. v.plan) o ≡ Some b → true ≡ false
no-server o b e h = let both : ◌≡◌ {A = Option BackendPlan} None (Some b) = ap (option_map (λ v. v.plan)) (sym e) ∙ h in cc

-- what the tables have there is this backend
pub plan-at : (s : Settings) (f : DeskFacts) (d : Tables) (i : ℕ) (t : TierPlan) (x : Turn) (j : ℕ) (v : Server) (b : BackendPlan) → Tells s f d → IsTier f d i t x → slice_get d.servers.items (x.first + j) ≡ Some v → slice_get t.backends j ≡ Some b → v.plan ≡ b
plan-at s f d i t x j v b k h e g = same-plan (slice_get d.servers.items (x.first + j)) (slice_get (backends_of f.tiers) (x.first + j)) v b e (sym (get-map (λ v. v.plan) d.servers.items (x.first + j)) ∙ ap (λ bs. slice_get bs (x.first + j)) k.backends_are) (at-place s f d i t x j b k h g)

pub none-at : (s : Settings) (f : DeskFacts) (d : Tables) (i : ℕ) (t : TierPlan) (x : Turn) (j : ℕ) (b : BackendPlan) → Tells s f d → IsTier f d i t x → slice_get d.servers.items (x.first + j) ≡ None → slice_get t.backends j ≡ Some b → true ≡ false
none-at s f d i t x j b k h e g = no-server (slice_get d.servers.items (x.first + j)) b e (sym (get-map (λ v. v.plan) d.servers.items (x.first + j)) ∙ ap (λ bs. slice_get bs (x.first + j)) k.backends_are ∙ at-place s f d i t x j b k h g)

-- a backend is viable where its count says so
pub viable-count : (s : Settings) (f : DeskFacts) (d : Tables) (kd : ConnKind) (j : ℕ) (v : Server) → Tells s f d → slice_get d.servers.items j ≡ Some v → is_viable s f kd v.plan.number ≡ has_viable kd v
viable-count s f d kd j v k e = any-count (is_of_backend s v.plan.number) (viable_of s f kd) ∙ ap (nat_lt 0) ((server-knows s f d j v k e).lanes kd).viable_is

viable-here : (s : Settings) (f : DeskFacts) (d : Tables) (i : ℕ) (t : TierPlan) (x : Turn) (kd : ConnKind) (j : ℕ) (b : BackendPlan) → Tells s f d → IsTier f d i t x → slice_get t.backends j ≡ Some b → (o : Option Server) → slice_get d.servers.items (x.first + j) ≡ o → is_viable s f kd b.number ≡ some_viable kd o
viable-here s f d i t x kd j b k h g None e = absurd (let bad = none-at s f d i t x j b k h e g in cc)
viable-here s f d i t x kd j b k h g (Some v) e = ap (λ (c : BackendPlan). is_viable s f kd c.number) (sym (plan-at s f d i t x j v b k h e g)) ∙ viable-count s f d kd (x.first + j) v k e

pub viable-next : (s : Settings) (f : DeskFacts) (d : Tables) (i : ℕ) (t : TierPlan) (x : Turn) (kd : ConnKind) (j : ℕ) → Tells s f d → IsTier f d i t x → j < length x.tier.weights → list_any (λ b. is_viable s f kd b.number) (drop j t.backends) ≡ (viable_at d.servers.items (x.first + j) kd || list_any (λ b. is_viable s f kd b.number) (drop (j + 1) t.backends))
viable-next s f d i t x kd j k h l =
    let g = some-backend t.backends j (omega (arith, l, as-many s f d i t x k h)) in
    ap (list_any (λ b. is_viable s f kd b.number)) (drop-at t.backends j g.0 g.1)
    ∙ ap (λ q. q || list_any (λ b. is_viable s f kd b.number) (drop (j + 1) t.backends)) (viable-here s f d i t x kd j g.0 k h g.1 (slice_get d.servers.items (x.first + j)) refl)

drop-end : {A : Type 0} (xs : List A) (i : ℕ) → length xs ≤ i → drop i xs ≡ []
drop-end [] zero l = refl
drop-end [] (suc i) l = refl
drop-end (x ∷ xs) zero l = absurd (omega arith)
drop-end (x ∷ xs) (suc i) l = drop-end xs i (omega (arith, l))

pub viable-end : (s : Settings) (f : DeskFacts) (d : Tables) (i : ℕ) (t : TierPlan) (x : Turn) (kd : ConnKind) (j : ℕ) → Tells s f d → IsTier f d i t x → length x.tier.weights ≤ j → list_any (λ b. is_viable s f kd b.number) (drop j t.backends) ≡ false
viable-end s f d i t x kd j k h l = ap (list_any (λ b. is_viable s f kd b.number)) (drop-end t.backends j (omega (arith, l, as-many s f d i t x k h)))

-- one is found, one is passed, and none is left
pub viable-found : (s : Settings) (f : DeskFacts) (d : Tables) (i : ℕ) (t : TierPlan) (x : Turn) (kd : ConnKind) (j : ℕ) → Tells s f d → IsTier f d i t x → j < length x.tier.weights → list_any (λ b. is_viable s f kd b.number) (drop j t.backends) ≡ is_viable_tier s f kd t → true ≡ viable_at d.servers.items (x.first + j) kd → true ≡ is_viable_tier s f kd t
viable-found s f d i t x kd j k h l e v = ap (λ v. v || list_any (λ b. is_viable s f kd b.number) (drop (j + 1) t.backends)) v ∙ sym (viable-next s f d i t x kd j k h l) ∙ e

pub viable-passed : (s : Settings) (f : DeskFacts) (d : Tables) (i : ℕ) (t : TierPlan) (x : Turn) (kd : ConnKind) (j : ℕ) → Tells s f d → IsTier f d i t x → j < length x.tier.weights → list_any (λ b. is_viable s f kd b.number) (drop j t.backends) ≡ is_viable_tier s f kd t → false ≡ viable_at d.servers.items (x.first + j) kd → list_any (λ b. is_viable s f kd b.number) (drop (j + 1) t.backends) ≡ is_viable_tier s f kd t
viable-passed s f d i t x kd j k h l e v = ap (λ v. v || list_any (λ b. is_viable s f kd b.number) (drop (j + 1) t.backends)) v ∙ sym (viable-next s f d i t x kd j k h l) ∙ e

pub viable-none : (s : Settings) (f : DeskFacts) (d : Tables) (i : ℕ) (t : TierPlan) (x : Turn) (kd : ConnKind) (j : ℕ) → Tells s f d → IsTier f d i t x → length x.tier.weights ≤ j → list_any (λ b. is_viable s f kd b.number) (drop j t.backends) ≡ is_viable_tier s f kd t → false ≡ is_viable_tier s f kd t
viable-none s f d i t x kd j k h l e = sym (viable-end s f d i t x kd j k h l) ∙ e

get-within : (bs : List BackendPlan) (j : ℕ) (b : BackendPlan) → slice_get bs j ≡ Some b → j < length bs
get-within [] j b e = absurd (cc)
get-within (c ∷ bs) zero b e = omega arith
get-within (c ∷ bs) (suc j) b e = omega (arith, get-within bs j b e)

-- a place that has a backend is one of the first 64, and one that the tables have
pub place-within : (s : Settings) (f : DeskFacts) (d : Tables) (i : ℕ) (t : TierPlan) (x : Turn) (j : ℕ) (b : BackendPlan) → Tells s f d → IsTier f d i t x → slice_get t.backends j ≡ Some b → (j < length x.tier.weights) × (j < 64)
place-within s f d i t x j b k h e =
    let l = get-within t.backends j b e in
    (omega (arith, l, as-many s f d i t x k h), omega (arith, l, (round-knows s f d i t x k h).few))

-- the pick where a place was chosen
pub picked-at : (s : Settings) (f : DeskFacts) (d : Tables) (i : ℕ) (t : TierPlan) (x : Turn) (kd : ConnKind) (w j : ℕ) (v : Server) (a : Answer) → Tells s f d → IsTier f d i t x → j < length x.tier.weights → IsPick s f kd t w (Some j) → slice_get d.servers.items (x.first + j) ≡ Some v → a ≡ or_busy (first (candidates s f kd (v.plan ∷ []))) → a ≡ pick s f t kd w
picked-at s f d i t x kd w j v a k h l is e g =
    let b = some-backend t.backends j (omega (arith, l, as-many s f d i t x k h)) in
    g ∙ ap (λ c. or_busy (first (candidates s f kd (c ∷ [])))) (plan-at s f d i t x j v b.0 k h e b.1) ∙ sym (is b.0 b.1)

pub picked-nowhere : (s : Settings) (f : DeskFacts) (d : Tables) (i : ℕ) (t : TierPlan) (x : Turn) (j : ℕ) → Tells s f d → IsTier f d i t x → j < length x.tier.weights → slice_get d.servers.items (x.first + j) ≡ None → true ≡ false
picked-nowhere s f d i t x j k h l e =
    let b = some-backend t.backends j (omega (arith, l, as-many s f d i t x k h)) in
    none-at s f d i t x j b.0 k h e b.1

tier-of : (f : DeskFacts) (i : ℕ) (q : Option TierPlan) (o : Option Turn) (x : Turn) → o ≡ Some x → RoundIs f i q o → (t : TierPlan) × (q ≡ Some t)
tier-of f i None o x e h = absurd (let bad : RoundIs f i None (Some x) = rw e at h in let no : true ≡ false = bad in cc)
tier-of f i (Some t) o x e h = (t, refl)

-- what the tables have is a tier of the plan
pub a-tier : (s : Settings) (f : DeskFacts) (d : Tables) (i : ℕ) (x : Turn) → Tells s f d → slice_get d.rounds.items i ≡ Some x → (t : TierPlan) × IsTier f d i t x
a-tier s f d i x k e =
    let g = tier-of f i (slice_get f.tiers i) (slice_get d.rounds.items i) x e (k.rounds i) in
    (g.0, record { plan = g.1; turn = e })

pub tiers-next : (s : Settings) (f : DeskFacts) (d : Tables) (i : ℕ) (t : TierPlan) (x : Turn) (kd : ConnKind) (w : ℕ) (v : Bool) → IsTier f d i t x → v ≡ is_viable_tier s f kd t → pick_of_tiers s f kd w (drop i f.tiers) ≡ (elim v [ true ↦ pick s f t kd w | false ↦ pick_of_tiers s f kd w (drop (i + 1) f.tiers) ])
tiers-next s f d i t x kd w v h e =
    ap (pick_of_tiers s f kd w) (drop-at f.tiers i t h.plan)
    ∙ ap (λ b. elim b [ true ↦ pick s f t kd w | false ↦ pick_of_tiers s f kd w (drop (i + 1) f.tiers) ]) (sym e)

drop-none : {A : Type 0} (xs : List A) (i : ℕ) → slice_get xs i ≡ None → drop i xs ≡ []
drop-none [] zero e = refl
drop-none [] (suc i) e = refl
drop-none (x ∷ xs) zero e = absurd (cc)
drop-none (x ∷ xs) (suc i) e = drop-none xs i e

no-tier : (f : DeskFacts) (i : ℕ) (q : Option TierPlan) (o : Option Turn) → o ≡ None → RoundIs f i q o → q ≡ None
no-tier f i None o e h = refl
no-tier f i (Some t) o e h = absurd (let bad : RoundIs f i (Some t) None = rw e at h in let no : true ≡ false = bad in cc)

pub tiers-end : (s : Settings) (f : DeskFacts) (d : Tables) (i : ℕ) (kd : ConnKind) (w : ℕ) → Tells s f d → slice_get d.rounds.items i ≡ None → pick_of_tiers s f kd w (drop i f.tiers) ≡ Unavailable
tiers-end s f d i kd w k e = ap (pick_of_tiers s f kd w) (drop-none f.tiers i (no-tier f i (slice_get f.tiers i) (slice_get d.rounds.items i) e (k.rounds i)))
