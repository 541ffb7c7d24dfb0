-- The tables where a latency of a backend is heard.
use Rattle.std.proofs.Common.{◌≡◌, ◌≢◌, ℕ, zero, suc, ◌+◌, ◌≤◌, ◌<◌, Bool, true, false, ◌==◌, List, [], ◌∷◌, ◌++◌, length, map, take, slice_get, slice_index_or, Option, Some, None, ⊎_elim, refl, sym, ap, subst, ◌∙◌, arith}
use Rattle.std.proofs.lemmas.Bool.{cases_eq}
use Rattle.std.proofs.lemmas.Bool.Decides.{nat_tests}
use Rattle.std.proofs.lemmas.List.{append-nil, length-map}
use Rattle.std.proofs.lemmas.List.Elements.{filter_map-append}
use Rattle.std.specs.Option.{option_map}
use Rattle.lload_names.specs.declared.plans.BackendPlan.{BackendPlan}
use Rattle.lload_names.specs.declared.plans.TierPlan.{TierPlan}
use Rattle.lload_names.specs.Plans.{backends_of}
use Rattle.lload_spec.specs.Picks.{rising, last_of, mean}
use Rattle.lload_spec.specs.Settings.{Settings, is_of_backend}
use Rattle.lload_spec.specs.Choice.{DeskFacts, pending_on}
use Rattle.tier_select.specs.Calls.{Call, Heard, Standing, standing, weights_of, told_latency, last_picked, latencies_at}
use Rattle.tier_select.proofs.Standings.{last_of-push}
use Rattle.desk_tables.specs.Rows.{row_of}
use Rattle.desk_tables.specs.Turns.{Turn}
use Rattle.desk_tables.specs.declared.conns.Conn.{Conn}
use Rattle.desk_tables.specs.declared.servers.Server.{Server}
use Rattle.desk_choice.specs.Tells.{RowIs, RowTells, NoRowTells, ServerIs, RoundTells, RoundIs, is_current, Tells, IsTier}
use Rattle.desk_choice.specs.declared.tables.Tables.{Tables}
use Rattle.desk_choice.proofs.Flat.{tier-backend}
use Rattle.desk_choice.proofs.One.{known}
use Rattle.desk_choice.proofs.Tiers.{round-knows, as-many}
use Rattle.desk_rules.specs.Latencies.{with_means, AreRings, IsTold, IsHeard}
use Rattle.desk_rules.proofs.Changes.{number-at}
use Rattle.desk_rules.proofs.Arrivals.{get-some, turn-of}
use Rattle.desk_rules.proofs.Releases.{none-of-any}
use Rattle.desk_rules.proofs.Picking.{get-within, two-apart, last-same}

-- what is kept of a place
or-map : (F : ℕ → List ℕ) (a n k : ℕ) → k < n → slice_index_or (map F (rising a n)) k [] ≡ F (a + k)
or-map F a zero k h = absurd (omega (arith, h))
or-map F a (suc n) zero h = let at : a ≡ a + 0 = omega arith in ap F at
or-map F a (suc n) (suc k) h =
    let next : suc a + k ≡ a + suc k = omega arith in
    or-map F (suc a) n k (omega (arith, h)) ∙ ap F next

pub kept-of : (t : TierPlan) (calls : List Call) (x : Standing) (j : ℕ) → x ≡ standing t calls → j < length t.backends → slice_index_or x.latencies j [] ≡ last_of 16 (latencies_at j calls)
kept-of t calls x j e l =
    let at : 0 + j ≡ j = omega arith in
    let size = length-map t.backends (λ b. b.weight) in
    ap (λ (y : Standing). slice_index_or y.latencies j []) e ∙ or-map (λ i. last_of 16 (latencies_at i calls)) 0 (length (weights_of t)) j (omega (arith, l, size)) ∙ ap (λ i. last_of 16 (latencies_at i calls)) at

heard-here : (calls : List Call) (i latency : ℕ) → latencies_at i (calls ++ Heard i latency ∷ []) ≡ latencies_at i calls ++ latency ∷ []
heard-here calls i latency = let here : (i == i) ≡ true = grind (arith, nat_tests) in rw (filter_map-append (told_latency i) calls (Heard i latency ∷ []), here) refl

heard-elsewhere : (calls : List Call) (i p latency : ℕ) → i ≢ p → latencies_at i (calls ++ Heard p latency ∷ []) ≡ latencies_at i calls
heard-elsewhere calls i p latency h = let other : (p == i) ≡ false = grind (arith, nat_tests, h) in rw (filter_map-append (told_latency i) calls (Heard p latency ∷ []), other, append-nil) refl

module _ (s : Settings) (f : DeskFacts) (u latency : ℕ) (before after : ℕ → List ℕ) (told : IsTold s u latency before after) where
  abbrev e' : DeskFacts
  e' = with_means f before

  abbrev g : DeskFacts
  g = with_means f after

  -- of another backend
  same : (b : ℕ) → is_of_backend s b u ≡ false → after b ≡ before b
  same b e = told b ∙ ap (λ t. elim t [ true ↦ last_of 16 (before b ++ latency ∷ []) | false ↦ before b ]) e

  -- of its own
  more : (b : ℕ) → is_of_backend s b u ≡ true → after b ≡ last_of 16 (before b ++ latency ∷ [])
  more b e = told b ∙ ap (λ t. elim t [ true ↦ last_of 16 (before b ++ latency ∷ []) | false ↦ before b ]) e

  pub row-heard : (n : ℕ) (o : Option Conn) → RowIs s e' n o → RowIs s g n o
  row-heard n None h = record { viable_is = h.viable_is; pending_is = h.pending_is }
  row-heard n (Some r) h = record { place = h.place; viable_is = h.viable_is; pending_is = h.pending_is; in_plan = h.in_plan }

  pub server-heard : (o : Option Server) → ServerIs s e' o → ServerIs s g o
  server-heard None h = h
  server-heard (Some v) h = record {
    pending_is = h.pending_is;
    lanes = λ k. let l = h.lanes k in record { forward = l.forward; places = l.places; viable_is = l.viable_is; last_is = l.last_is; within = l.within };
  }

  -- a tier that doesn't have the backend
  round-heard : (i : ℕ) (q : Option TierPlan) (o : Option Turn) → ((t : TierPlan) (j : ℕ) (b : BackendPlan) → q ≡ Some t → slice_get t.backends j ≡ Some b → is_of_backend s b.number u ≡ false) → RoundIs e' i q o → RoundIs g i q o
  round-heard i (Some t) (Some x) apart h =
      let k = h.tells in
      let means = λ (n : ℕ) (l : n < length t.backends).
      let b = get-some t.backends n l in
      let number = number-at k.first n t.backends b.0 k.numbered b.1 in
      ap mean (ap after (sym number) ∙ same b.0.number (apart t n b.0 refl b.1) ∙ ap before number) ∙ k.means_are n l in
      record { tells = record { calls = k.calls; stands = k.stands; first = k.first; numbered = k.numbered; last_is = k.last_is; means_are = means }; first_is = h.first_is; few = h.few }
  round-heard i None None apart h = h
  round-heard i (Some t) None apart h = h
  round-heard i None (Some x) apart h = h

  module _ (d : Tables) (k : Tells s e' d) (pending : 1 ≤ pending_on f u) (rings : AreRings f.tiers before d.rounds.items) where
    -- where there is no row, the backend isn't in force
    apart-none : row_of d.conns u ≡ None → (i j : ℕ) (t : TierPlan) (b : BackendPlan) → slice_get f.tiers i ≡ Some t → slice_get t.backends j ≡ Some b → is_of_backend s b.number u ≡ false
    apart-none was i j t b e h = none-of-any (λ b. is_of_backend s b.number u) (backends_of f.tiers) (length (backends_of (take i f.tiers)) + j) b (by (is_current s f u) refl) (tier-backend f.tiers i j t b e h)
      where
        none : NoRowTells s e' u
        none = rw was at (k.rows u)

        by : (b : Bool) → is_current s f u ≡ b → b ≡ false
        by false e = refl
        by true e = absurd (omega (arith, none.pending_is e, pending))

    pub none-tells : row_of d.conns u ≡ None → Tells s g d
    none-tells was = record { backends_are = k.backends_are; first = k.first; numbered = k.numbered; rounds = λ i. round-heard i (slice_get f.tiers i) (slice_get d.rounds.items i) (λ t j b e h. apart-none was i j t b e h) (k.rounds i); servers = λ j. server-heard (slice_get d.servers.items j) (k.servers j); rows = λ n. row-heard n (row_of d.conns n) (k.rows n); once = k.once; small = k.small; ready = k.ready }

    pub none-rings : row_of d.conns u ≡ None → AreRings f.tiers after d.rounds.items
    none-rings was i j t x b e h a = rings i j t x b e h a ∙ sym (same b.number (apart-none was i j t b e a))

    module _ (r : Conn) (was : row_of d.conns u ≡ Some r) where
      row : RowTells s e' u r
      row = known s e' u (row_of d.conns u) r was (k.rows u)

      abbrev i : ℕ
      i = r.spot.tier

      of-backend : (b : ℕ) → is_of_backend s b u ≡ (row.in_plan.backend.number == b)
      of-backend b = ap (λ o. elim o [ None ↦ false | Some p ↦ p.backend == b ]) row.place ∙ ap (λ n. n == b) (sym row.in_plan.number)

      -- one backend has the number
      alone : (j p : ℕ) (t : TierPlan) (b : BackendPlan) → slice_get f.tiers j ≡ Some t → slice_get t.backends p ≡ Some b → b.number ≡ row.in_plan.backend.number → length (backends_of (take j f.tiers)) + p ≡ length (backends_of (take i f.tiers)) + r.spot.place
      alone j p t b e h n =
          let there = number-at k.first (length (backends_of (take j f.tiers)) + p) (backends_of f.tiers) b k.numbered (tier-backend f.tiers j p t b e h) in
          let here = number-at k.first (length (backends_of (take i f.tiers)) + r.spot.place) (backends_of f.tiers) row.in_plan.backend k.numbered (tier-backend f.tiers i r.spot.place row.in_plan.tier row.in_plan.backend row.in_plan.tier_at row.in_plan.in_tier) in
          omega (arith, there, here, n)

      apart-tier : (j p : ℕ) (t : TierPlan) (b : BackendPlan) → slice_get f.tiers j ≡ Some t → slice_get t.backends p ≡ Some b → j ≢ i → is_of_backend s b.number u ≡ false
      apart-tier j p t b e h ne = of-backend b.number ∙ by (row.in_plan.backend.number == b.number) refl
        where
          by : (c : Bool) → (row.in_plan.backend.number == b.number) ≡ c → c ≡ false
          by false t' = refl
          by true t' = absurd (ne (two-apart f.tiers j i p r.spot.place t row.in_plan.tier b row.in_plan.backend e row.in_plan.tier_at h row.in_plan.in_tier (alone j p t b e h (grind (arith, nat_tests, t')))))

      pub turn : (x : Turn) × (slice_get d.rounds.items i ≡ Some x)
      turn = turn-of e' i row.in_plan.tier (slice_get f.tiers i) (slice_get d.rounds.items i) row.in_plan.tier_at (k.rounds i)

      is-tier : IsTier e' d i row.in_plan.tier turn.0
      is-tier = record { plan = row.in_plan.tier_at; turn = turn.1 }

      knows : RoundTells e' i row.in_plan.tier turn.0
      knows = round-knows s e' d i row.in_plan.tier turn.0 k is-tier

      pub place-within : r.spot.place < length turn.0.tier.weights
      place-within = omega (arith, get-within row.in_plan.tier.backends r.spot.place row.in_plan.backend row.in_plan.in_tier, as-many s e' d i row.in_plan.tier turn.0 k is-tier)

      abbrev calls : List Call
      calls = knows.tells.calls

      -- what is kept of each place of its tier
      kept-now : (y : Turn) → y.tier ≡ standing row.in_plan.tier (calls ++ Heard r.spot.place latency ∷ []) → (j : ℕ) (b : BackendPlan) → slice_get row.in_plan.tier.backends j ≡ Some b → last_of 16 (latencies_at j (calls ++ Heard r.spot.place latency ∷ [])) ≡ after b.number
      kept-now y e j b h =
          let t = row.in_plan.tier in
          let p = r.spot.place in
          let l = get-within t.backends j b h in
          let old : last_of 16 (latencies_at j calls) ≡ before b.number = sym (kept-of t calls turn.0.tier j knows.tells.stands l) ∙ rings i j t turn.0 b row.in_plan.tier_at turn.1 h in
          ⊎_elim
          (λ (is : j ≡ p).
          let own : Some b ≡ Some row.in_plan.backend = sym h ∙ ap (slice_get t.backends) is ∙ row.in_plan.in_tier in
          let mine : b ≡ row.in_plan.backend = cc in
          let number : b.number ≡ row.in_plan.backend.number = ap (λ (x : BackendPlan). x.number) mine in
          let test : is_of_backend s b.number u ≡ true = of-backend b.number ∙ grind (arith, nat_tests, number) in
          ap (λ q. last_of 16 (latencies_at j (calls ++ Heard q latency ∷ []))) (sym is)
          ∙ ap (last_of 16) (heard-here calls j latency)
          ∙ sym (last_of-push 16 (latencies_at j calls) latency)
          ∙ ap (λ ls. last_of 16 (ls ++ latency ∷ [])) old
          ∙ sym (more b.number test))
          (λ (ne : j ≢ p).
          let other : is_of_backend s b.number u ≡ false = of-backend b.number ∙ not-own j b h ne (row.in_plan.backend.number == b.number) refl in
          ap (last_of 16) (heard-elsewhere calls j p latency ne) ∙ old ∙ sym (same b.number other))
          (cases_eq j p)
        where
          not-own : (j : ℕ) (b : BackendPlan) → slice_get row.in_plan.tier.backends j ≡ Some b → j ≢ r.spot.place → (c : Bool) → (row.in_plan.backend.number == b.number) ≡ c → c ≡ false
          not-own j b h ne false t = refl
          not-own j b h ne true t = absurd (ne (let same = alone i j row.in_plan.tier b row.in_plan.tier_at h (grind (arith, nat_tests, t)) in omega (arith, same)))

      heard-round : (o : Option Turn) → IsHeard r.spot.place latency turn.0 o → RoundIs g i (Some row.in_plan.tier) o
      heard-round o h =
          let t = row.in_plan.tier in
          let stands = h.3 t calls knows.tells.stands in
          let first = knows.tells.first in
          let means = λ (n : ℕ) (l : n < length t.backends).
          let b = get-some t.backends n l in
          let number = number-at first n t.backends b.0 knows.tells.numbered b.1 in
          ap mean (ap after (sym number) ∙ sym (kept-now h.0 stands n b.0 b.1)) in
          let picks : last_picked (calls ++ Heard r.spot.place latency ∷ []) ≡ last_picked calls = last-same calls r.spot.place latency in
          let now : RoundTells g i t h.0 = record {
            tells = record { calls = calls ++ Heard r.spot.place latency ∷ []; stands = stands; first = first; numbered = knows.tells.numbered; last_is = knows.tells.last_is ∙ ap (option_map (λ n. first + n)) (sym picks); means_are = means };
            first_is = h.2 ∙ knows.first_is;
            few = knows.few;
          } in
          subst (λ (o : Option Turn). RoundIs g i (Some t) o) (sym h.1) now

      pub heard-tells : (e : Tables) → IsHeard r.spot.place latency turn.0 (slice_get e.rounds.items i) → ((j : ℕ) → j ≢ i → slice_get e.rounds.items j ≡ slice_get d.rounds.items j) → e.conns ≡ d.conns → e.ready ≡ d.ready → e.servers ≡ d.servers → Tells s g e
      heard-tells e here others conns ready servers = record {
        backends_are = ap (λ x. map (λ v. v.plan) x.items) servers ∙ k.backends_are;
        first = k.first;
        numbered = k.numbered;
        rounds = λ j. ⊎_elim
            (λ (is : j ≡ i). subst (λ (n : ℕ). RoundIs g n (slice_get f.tiers n) (slice_get e.rounds.items n)) (sym is) (subst (λ (q : Option TierPlan). RoundIs g i q (slice_get e.rounds.items i)) (sym row.in_plan.tier_at) (heard-round (slice_get e.rounds.items i) here)))
            (λ (ne : j ≢ i). subst (λ (o : Option Turn). RoundIs g j (slice_get f.tiers j) o) (sym (others j ne)) (round-heard j (slice_get f.tiers j) (slice_get d.rounds.items j) (λ t p b e h. apart-tier j p t b e h ne) (k.rounds j)))
            (cases_eq j i);
        servers = λ j. rw servers (server-heard (slice_get d.servers.items j) (k.servers j));
        rows = λ n. rw conns (row-heard n (row_of d.conns n) (k.rows n));
        once = k.once;
        small = k.small;
        ready = λ j n l. rw (ready, conns) (k.ready j n l);
      }

      pub heard-rings : (turns : List Turn) → IsHeard r.spot.place latency turn.0 (slice_get turns i) → ((j : ℕ) → j ≢ i → slice_get turns j ≡ slice_get d.rounds.items j) → AreRings f.tiers after turns
      heard-rings turns here others j p t x b e h a =
          ⊎_elim
          (λ (is : j ≡ i).
          let tiers : Some t ≡ Some row.in_plan.tier = sym e ∙ ap (slice_get f.tiers) is ∙ row.in_plan.tier_at in
          let tier : t ≡ row.in_plan.tier = cc in
          let now : Some x ≡ Some here.0 = sym h ∙ ap (slice_get turns) is ∙ here.1 in
          let turned : x ≡ here.0 = cc in
          let stands = here.3 row.in_plan.tier calls knows.tells.stands in
          let at : slice_get row.in_plan.tier.backends p ≡ Some b = ap (λ (t : TierPlan). slice_get t.backends p) (sym tier) ∙ a in
          ap (λ (y : Turn). slice_index_or y.tier.latencies p []) turned
          ∙ kept-of row.in_plan.tier (calls ++ Heard r.spot.place latency ∷ []) here.0.tier p stands (get-within row.in_plan.tier.backends p b at)
          ∙ kept-now here.0 stands p b at)
          (λ (ne : j ≢ i). rings j p t x b e (sym (others j ne) ∙ h) a ∙ sym (same b.number (apart-tier j p t b e a ne)))
          (cases_eq j i)
