-- The tables where a backend is picked in its tier.
use Rattle.std.proofs.Common.{◌≡◌, ◌≢◌, ℕ, zero, suc, ◌+◌, ◌≤◌, ◌<◌, Bool, true, false, ◌==◌, List, [], ◌∷◌, ◌++◌, length, map, take, slice_get, Option, Some, None, ⊎_elim, nat_le, refl, sym, ap, subst, ◌∙◌, arith, length-append}
use Rattle.std.proofs.lemmas.Bool.{cases_eq, leb-true}
use Rattle.std.proofs.lemmas.Bool.Decides.{nat_tests}
use Rattle.std.proofs.lemmas.List.{append-nil}
use Rattle.std.proofs.lemmas.List.Elements.{filter_map-append}
use Rattle.std.specs.List.{list_any, filter_map}
use Rattle.std.specs.Option.{option_map}
use Rattle.lload_names.specs.declared.plans.BackendPlan.{BackendPlan}
use Rattle.lload_names.specs.declared.plans.TierPlan.{TierPlan}
use Rattle.lload_names.specs.Plans.{backends_of}
use Rattle.lload_spec.specs.Lists.{last}
use Rattle.lload_spec.specs.Order.{has_backend}
use Rattle.lload_spec.specs.Picks.{mean_of_last}
use Rattle.lload_spec.specs.Settings.{Settings, backend_of}
use Rattle.lload_spec.specs.Choice.{DeskFacts}
use Rattle.tier_select.specs.Calls.{Call, Heard, Picked, picked_place, told_latency, last_picked, latencies_at}
use Rattle.desk_tables.specs.Rows.{row_of}
use Rattle.desk_tables.specs.Turns.{Turn}
use Rattle.desk_tables.specs.declared.conns.Conn.{Conn}
use Rattle.desk_tables.specs.declared.servers.Server.{Server}
use Rattle.desk_choice.specs.Tells.{RowIs, RowTells, ServerIs, RoundTells, RoundIs, Tells, IsTier}
use Rattle.desk_choice.specs.declared.tables.Tables.{Tables}
use Rattle.desk_choice.proofs.Flat.{tier-backend}
use Rattle.desk_choice.proofs.One.{known}
use Rattle.desk_choice.proofs.Tiers.{round-knows, as-many}
use Rattle.desk_rules.specs.Turning.{IsPick, IsPicked}
use Rattle.desk_rules.proofs.Changes.{number-at}
use Rattle.desk_rules.proofs.Arrivals.{any-at, turn-of}

-- the facts with other backends that were picked last
abbrev pub picked_by : DeskFacts → (TierPlan → Option ℕ) → DeskFacts
picked_by f last = record f { last_backend = last }

row-picked : (s : Settings) (f : DeskFacts) (last : TierPlan → Option ℕ) (n : ℕ) (o : Option Conn) → RowIs s f n o → RowIs s (picked_by f last) n o
row-picked s f last n None h = record { viable_is = h.viable_is; pending_is = h.pending_is }
row-picked s f last n (Some r) h = record { place = h.place; viable_is = h.viable_is; pending_is = h.pending_is; in_plan = h.in_plan }

server-picked : (s : Settings) (f : DeskFacts) (last : TierPlan → Option ℕ) (o : Option Server) → ServerIs s f o → ServerIs s (picked_by f last) o
server-picked s f last None h = h
server-picked s f last (Some v) h = record {
  pending_is = h.pending_is;
  lanes = λ k. let l = h.lanes k in record { forward = l.forward; places = l.places; viable_is = l.viable_is; last_is = l.last_is; within = l.within };
}

-- a tier of which none was picked
round-stays : (f : DeskFacts) (last : TierPlan → Option ℕ) (i : ℕ) (q : Option TierPlan) (o : Option Turn) → ((t : TierPlan) → q ≡ Some t → last t ≡ f.last_backend t) → RoundIs f i q o → RoundIs (picked_by f last) i q o
round-stays f last i (Some t) (Some x) same h =
    let k = h.tells in
    record { tells = record { calls = k.calls; stands = k.stands; first = k.first; numbered = k.numbered; last_is = same t refl ∙ k.last_is; means_are = k.means_are }; first_is = h.first_is; few = h.few }
round-stays f last i None None same h = h
round-stays f last i (Some t) None same h = h
round-stays f last i None (Some x) same h = h

last-one : (xs : List ℕ) (n : ℕ) → last (xs ++ n ∷ []) ≡ Some n
last-one [] n = refl
last-one (x ∷ []) n = refl
last-one (x ∷ y ∷ xs) n = last-one (y ∷ xs) n

-- behind one pick more
last-pick : (calls : List Call) (place : ℕ) → last_picked (calls ++ Picked place ∷ []) ≡ Some place
last-pick calls place = ap (last {A = ℕ}) (filter_map-append picked_place calls (Picked place ∷ [])) ∙ last-one (filter_map picked_place calls) place

pub heard-pick : (i : ℕ) (calls : List Call) (place : ℕ) → latencies_at i (calls ++ Picked place ∷ []) ≡ latencies_at i calls
heard-pick i calls place = filter_map-append (told_latency i) calls (Picked place ∷ []) ∙ append-nil (latencies_at i calls)

-- behind one latency more
pub last-same : (calls : List Call) (place latency : ℕ) → last_picked (calls ++ Heard place latency ∷ []) ≡ last_picked calls
last-same calls place latency = ap (last {A = ℕ}) (filter_map-append picked_place calls (Heard place latency ∷ []) ∙ append-nil (filter_map picked_place calls))

-- the backends of two tiers stand apart
take-apart : (ts : List TierPlan) (i j : ℕ) (t : TierPlan) → slice_get ts i ≡ Some t → i < j → length (backends_of (take i ts)) + length t.backends ≤ length (backends_of (take j ts))
take-apart [] i j t e l = absurd (cc)
take-apart (u ∷ ts) i zero t e l = absurd (omega (arith, l))
take-apart (u ∷ ts) zero (suc j) t e l =
    let same : u ≡ t = cc in
    let size : length u.backends ≡ length t.backends = ap (λ (x : TierPlan). length x.backends) same in
    omega (arith, length-append u.backends (backends_of (take j ts)), size)
take-apart (u ∷ ts) (suc i) (suc j) t e l =
    let rest = take-apart ts i j t e (omega (arith, l)) in
    omega (arith, rest, length-append u.backends (backends_of (take i ts)), length-append u.backends (backends_of (take j ts)))

pub get-within : (bs : List BackendPlan) (j : ℕ) (b : BackendPlan) → slice_get bs j ≡ Some b → j < length bs
get-within [] j b e = absurd (cc)
get-within (c ∷ bs) zero b e = omega arith
get-within (c ∷ bs) (suc j) b e = omega (arith, get-within bs j b e)

pub two-apart : (ts : List TierPlan) (i j p q : ℕ) (t u : TierPlan) (b c : BackendPlan) → slice_get ts i ≡ Some t → slice_get ts j ≡ Some u → slice_get t.backends p ≡ Some b → slice_get u.backends q ≡ Some c → length (backends_of (take i ts)) + p ≡ length (backends_of (take j ts)) + q → i ≡ j
two-apart ts i j p q t u b c e h x y same = by (nat_le i j) refl (nat_le j i) refl
  where
    by : (a : Bool) → nat_le i j ≡ a → (d : Bool) → nat_le j i ≡ d → i ≡ j
    by true l true m = omega (arith, leb-true i j l, leb-true j i m)
    by false l d m = absurd (let below : j < i = grind (arith, nat_tests, l) in omega (arith, take-apart ts j i u h below, get-within u.backends q c y, same))
    by true l false m = absurd (let below : i < j = grind (arith, nat_tests, m) in omega (arith, take-apart ts i j t e below, get-within t.backends p b x, same))

-- a backend that a tier has stands in it
stands-in : (bs : List BackendPlan) (number : ℕ) → list_any (λ b. b.number == number) bs ≡ true → (j : ℕ) × (b : BackendPlan) × (slice_get bs j ≡ Some b) × (b.number ≡ number)
stands-in [] number e = absurd (let bad : false ≡ true = e in cc)
stands-in (b ∷ bs) number e = by (b.number == number) refl (stands-in bs number)
  where
    by : (t : Bool) → (b.number == number) ≡ t → (list_any (λ b. b.number == number) bs ≡ true → (j : ℕ) × (c : BackendPlan) × (slice_get bs j ≡ Some c) × (c.number ≡ number)) → (j : ℕ) × (c : BackendPlan) × (slice_get (b ∷ bs) j ≡ Some c) × (c.number ≡ number)
    by true t rest = (0, b, refl, grind (arith, nat_tests, t))
    by false t rest = let h = rest (grind (arith, t, e)) in (suc h.0, h.1, h.2, h.3)

module _ (s : Settings) (f : DeskFacts) (u : ℕ) (last-now : TierPlan → Option ℕ) (r : Conn) (d : Tables) (k : Tells s f d) (was : row_of d.conns u ≡ Some r) (pick : IsPick s u f last-now) where
  abbrev g : DeskFacts
  g = picked_by f last-now

  row : RowTells s f u r
  row = known s f u (row_of d.conns u) r was (k.rows u)

  abbrev i : ℕ
  i = r.spot.tier

  own-backend : backend_of s u ≡ row.in_plan.backend.number
  own-backend = ap (λ o. elim o [ None ↦ 0 | Some p ↦ p.backend ]) row.place ∙ sym row.in_plan.number

  now : (t : TierPlan) (j : ℕ) (b : Bool) → slice_get f.tiers j ≡ Some t → has_backend t (backend_of s u) ≡ b → last-now t ≡ (elim b [ true ↦ Some (backend_of s u) | false ↦ f.last_backend t ])
  now t j b e h = pick j t e ∙ ap (λ b. elim b [ true ↦ Some (backend_of s u) | false ↦ f.last_backend t ]) h

  has-it : has_backend row.in_plan.tier (backend_of s u) ≡ true
  has-it = any-at (λ b. b.number == backend_of s u) row.in_plan.tier.backends r.spot.place row.in_plan.backend row.in_plan.in_tier (grind (arith, nat_tests, own-backend))

  -- no other tier has the backend
  not-it : (j : ℕ) (t : TierPlan) → slice_get f.tiers j ≡ Some t → j ≢ i → (b : Bool) → has_backend t (backend_of s u) ≡ b → b ≡ false
  not-it j t e ne false h = refl
  not-it j t e ne true h =
      let at = stands-in t.backends (backend_of s u) h in
      let there = number-at k.first (length (backends_of (take j f.tiers)) + at.0) (backends_of f.tiers) at.1 k.numbered (tier-backend f.tiers j at.0 t at.1 e at.2) in
      let here = number-at k.first (length (backends_of (take i f.tiers)) + r.spot.place) (backends_of f.tiers) row.in_plan.backend k.numbered (tier-backend f.tiers i r.spot.place row.in_plan.tier row.in_plan.backend row.in_plan.tier_at row.in_plan.in_tier) in
      absurd (ne (two-apart f.tiers j i at.0 r.spot.place t row.in_plan.tier at.1 row.in_plan.backend e row.in_plan.tier_at at.2 row.in_plan.in_tier (omega (arith, there, here, at.3, own-backend))))

  pub turn : (x : Turn) × (slice_get d.rounds.items i ≡ Some x)
  turn = turn-of f i row.in_plan.tier (slice_get f.tiers i) (slice_get d.rounds.items i) row.in_plan.tier_at (k.rounds i)

  is-tier : IsTier f d i row.in_plan.tier turn.0
  is-tier = record { plan = row.in_plan.tier_at; turn = turn.1 }

  pub place-within : r.spot.place < length turn.0.tier.weights
  place-within = omega (arith, get-within row.in_plan.tier.backends r.spot.place row.in_plan.backend row.in_plan.in_tier, as-many s f d i row.in_plan.tier turn.0 k is-tier)

  picked-round : (o : Option Turn) → IsPicked r.spot.place turn.0 o → RoundIs g i (Some row.in_plan.tier) o
  picked-round o h =
      let t = row.in_plan.tier in
      let x = turn.0 in
      let knows = round-knows s f d i t x k is-tier in
      let tells = knows.tells in
      let number = number-at tells.first r.spot.place t.backends row.in_plan.backend tells.numbered row.in_plan.in_tier in
      let after : RoundTells g i t h.0 = record {
        tells = record {
          calls = tells.calls ++ Picked r.spot.place ∷ [];
          stands = h.3 t tells.calls tells.stands;
          first = tells.first;
          numbered = tells.numbered;
          last_is = now t i true row.in_plan.tier_at has-it ∙ ap Some (own-backend ∙ number) ∙ ap (option_map (λ n. tells.first + n)) (sym (last-pick tells.calls r.spot.place));
          means_are = λ n l. tells.means_are n l ∙ ap mean_of_last (sym (heard-pick n tells.calls r.spot.place));
        };
        first_is = h.2 ∙ knows.first_is;
        few = knows.few;
      } in
      subst (λ (o : Option Turn). RoundIs g i (Some t) o) (sym h.1) after

  pub picked-tells : (e : Tables) → IsPicked r.spot.place turn.0 (slice_get e.rounds.items i) → ((j : ℕ) → j ≢ i → slice_get e.rounds.items j ≡ slice_get d.rounds.items j) → e.conns ≡ d.conns → e.ready ≡ d.ready → e.servers ≡ d.servers → Tells s g e
  picked-tells e here others conns ready servers = record {
    backends_are = ap (λ x. map (λ v. v.plan) x.items) servers ∙ k.backends_are;
    first = k.first;
    numbered = k.numbered;
    rounds = λ j. ⊎_elim
        (λ (is : j ≡ i). subst (λ (n : ℕ). RoundIs g n (slice_get f.tiers n) (slice_get e.rounds.items n)) (sym is) (subst (λ (q : Option TierPlan). RoundIs g i q (slice_get e.rounds.items i)) (sym row.in_plan.tier_at) (picked-round (slice_get e.rounds.items i) here)))
        (λ (ne : j ≢ i). subst (λ (o : Option Turn). RoundIs g j (slice_get f.tiers j) o) (sym (others j ne)) (round-stays f last-now j (slice_get f.tiers j) (slice_get d.rounds.items j) (λ t e. now t j false e (not-it j t e ne (has_backend t (backend_of s u)) refl)) (k.rounds j)))
        (cases_eq j i);
    servers = λ j. rw servers (server-picked s f last-now (slice_get d.servers.items j) (k.servers j));
    rows = λ n. rw conns (row-picked s f last-now n (row_of d.conns n) (k.rows n));
    once = k.once;
    small = k.small;
    ready = λ j n l. rw (ready, conns) (k.ready j n l);
  }
