-- The tables where the desk has just taken a plan.
use Rattle.std.proofs.Common.{◌≡◌, ℕ, zero, suc, ◌+◌, ◌-◌, ◌≤◌, ◌<◌, Bool, true, false, ◌==◌, List, [], ◌∷◌, ◌++◌, length, filter, map, take, drop, get_or, slice_get, Option, Some, None, refl, sym, ap, subst, ◌∙◌, append_assoc, arith, length-append}
use Rattle.std.proofs.lemmas.Bool.{eqb-true}
use Rattle.std.proofs.lemmas.List.{at_drop_more}
use Rattle.std.proofs.lemmas.Option.{slice_get_within}
use Rattle.std.specs.List.{list_any}
use Rattle.lload_names.specs.declared.names.ConnKind.{ConnKind}
use Rattle.lload_names.specs.declared.names.ConnKind.TheVariants.{Regular, Bind}
use Rattle.lload_names.specs.declared.plans.BackendPlan.{BackendPlan}
use Rattle.lload_names.specs.declared.plans.TierPlan.{TierPlan}
use Rattle.lload_names.specs.Plans.{backends_of, rooms_of_backend, rooms_of, rooms, place_count, places_for, NumberedFrom, IsTier}
use Rattle.lload_names.proofs.Places.{rooms_of-append, length-rooms_of_backend}
use Rattle.lload_spec.specs.Picks.{rising}
use Rattle.lload_spec.specs.Settings.{Settings, is_of_backend, is_of_kind}
use Rattle.lload_spec.specs.Choice.{DeskFacts, pending_on}
use Rattle.ready_set.specs.Keys.{is_in}
use Rattle.ready_set.specs.Readies.{has}
use Rattle.tier_select.specs.Calls.{standing}
use Rattle.desk_tables.specs.Rows.{row_of}
use Rattle.desk_tables.specs.Lanes.{lane_of}
use Rattle.desk_tables.specs.Turns.{Turn}
use Rattle.desk_tables.specs.declared.servers.Server.{Server}
use Rattle.desk_choice.specs.Tells.{NoRowTells, LaneTells, ServerTells, ServerIs, RoundTells, RoundIs, is_current, ready_at, Tells}
use Rattle.desk_choice.specs.declared.tables.Tables.{Tables}
use Rattle.desk_rules.specs.Fresh.{IsFresh, new_lane, new_server, new_servers, new_turns}
use Rattle.desk_rules.specs.Latencies.{AreRings}
use Rattle.desk_rules.proofs.Lists.{count_of}
use Rattle.desk_rules.proofs.Hearing.{kept-of}
use Rattle.desk_rules.proofs.Lanes.{span_of, places-of}

-- A tier is within the limits where all tiers together are.

pub rooms-both : (t : TierPlan) (ts : List TierPlan) → length (rooms (t ∷ ts)) ≡ length (rooms_of t.backends) + length (rooms ts)
rooms-both t ts = ap length (rooms_of-append t.backends (backends_of ts)) ∙ length-append (rooms_of t.backends) (rooms ts)

tier-within : (ts : List TierPlan) (i : ℕ) (t : TierPlan) → slice_get ts i ≡ Some t → (length t.backends ≤ length (backends_of ts)) × (length (rooms_of t.backends) ≤ place_count ts)
tier-within [] i t e = absurd (cc)
tier-within (u ∷ ts) zero t e =
    let same : u ≡ t = cc in
    (omega (arith, length-append u.backends (backends_of ts), ap (λ (x : TierPlan). length x.backends) same), omega (arith, rooms-both u ts, ap (λ (x : TierPlan). length (rooms_of x.backends)) same))
tier-within (u ∷ ts) (suc i) t e =
    let rest = tier-within ts i t e in
    (omega (arith, length-append u.backends (backends_of ts), rest.0), omega (arith, rooms-both u ts, rest.1))

pub is-tier : (ts : List TierPlan) (i : ℕ) (t : TierPlan) → slice_get ts i ≡ Some t → length (backends_of ts) ≤ 64 → place_count ts ≤ 512 → IsTier t
is-tier ts i t e few places =
    let within = tier-within ts i t e in
    record { few_backends = omega (arith, within.0, few); few_places = omega (arith, within.1, places) }

-- New tiers by their indices.

turn-at : (m i : ℕ) (ts : List TierPlan) (t : TierPlan) → slice_get ts i ≡ Some t → slice_get (new_turns m ts) i ≡ Some (record { tier = standing t []; first = m + length (backends_of (take i ts)) })
turn-at m i [] t e = absurd (cc)
turn-at m zero (u ∷ ts) t e =
    let same : u ≡ t = cc in
    let none : m ≡ m + 0 = omega arith in
    λ j. Some (record { tier = standing (same j) []; first = none j })
turn-at m (suc i) (u ∷ ts) t e =
    let sum : m + length u.backends + length (backends_of (take i ts)) ≡ m + length (backends_of (take (suc i) (u ∷ ts))) = omega (arith, length-append u.backends (backends_of (take i ts))) in
    turn-at (m + length u.backends) i ts t e ∙ ap (λ (n : ℕ). Some (record { tier = standing t []; first = n })) sum

turn-none : (m i : ℕ) (ts : List TierPlan) → slice_get ts i ≡ None → slice_get (new_turns m ts) i ≡ None
turn-none m i [] e = refl
turn-none m zero (u ∷ ts) e = absurd (cc)
turn-none m (suc i) (u ∷ ts) e = turn-none (m + length u.backends) i ts e

pub numbered-front : (n : ℕ) (xs ys : List BackendPlan) → NumberedFrom n (xs ++ ys) → NumberedFrom n xs
numbered-front n [] ys h = tt
numbered-front n (x ∷ xs) ys h = (h.0, numbered-front (suc n) xs ys h.1)

pub numbered-behind : (n : ℕ) (xs ys : List BackendPlan) → NumberedFrom n (xs ++ ys) → NumberedFrom (n + length xs) ys
numbered-behind n [] ys h = let none : n ≡ n + 0 = omega arith in subst (λ (m : ℕ). NumberedFrom m ys) none h
numbered-behind n (x ∷ xs) ys h = let next : suc n + length xs ≡ n + length (x ∷ xs) = omega arith in subst (λ (m : ℕ). NumberedFrom m ys) next (numbered-behind (suc n) xs ys h.1)

numbered-tier : (n i : ℕ) (ts : List TierPlan) (t : TierPlan) → slice_get ts i ≡ Some t → NumberedFrom n (backends_of ts) → NumberedFrom (n + length (backends_of (take i ts))) t.backends
numbered-tier n i [] t e h = absurd (cc)
numbered-tier n zero (u ∷ ts) t e h =
    let same : u ≡ t = cc in
    let none : n ≡ n + 0 = omega arith in
    subst (λ (m : ℕ). NumberedFrom m t.backends) none (subst (λ (x : TierPlan). NumberedFrom n x.backends) same (numbered-front n u.backends (backends_of ts) h))
numbered-tier n (suc i) (u ∷ ts) t e h =
    let sum : n + length u.backends + length (backends_of (take i ts)) ≡ n + length (backends_of (take (suc i) (u ∷ ts))) = omega (arith, length-append u.backends (backends_of (take i ts))) in
    subst (λ (m : ℕ). NumberedFrom m t.backends) sum (numbered-tier (n + length u.backends) i ts t e (numbered-behind n u.backends (backends_of ts) h))

-- New backends by their indices.

plans-are : (m : ℕ) (bs : List BackendPlan) → map (λ v. v.plan) (new_servers m bs) ≡ bs
plans-are m [] = refl
plans-are m (b ∷ bs) = ap (λ cs. b ∷ cs) (plans-are (m + (b.numconns + b.bindconns)) bs)

server-at : (m j : ℕ) (bs : List BackendPlan) (b : BackendPlan) → slice_get bs j ≡ Some b → slice_get (new_servers m bs) j ≡ Some (new_server (m + length (rooms_of (take j bs))) b)
server-at m j [] b e = absurd (cc)
server-at m zero (c ∷ bs) b e =
    let same : c ≡ b = cc in
    let none : m ≡ m + 0 = omega arith in
    λ i. Some (new_server (none i) (same i))
server-at m (suc j) (c ∷ bs) b e =
    let sum : m + (c.numconns + c.bindconns) + length (rooms_of (take j bs)) ≡ m + length (rooms_of (take (suc j) (c ∷ bs))) = omega (arith, length-append (rooms_of_backend c) (rooms_of (take j bs)), length-rooms_of_backend c) in
    server-at (m + (c.numconns + c.bindconns)) j bs b e ∙ ap (λ n. Some (new_server n b)) sum

server-none : (m j : ℕ) (bs : List BackendPlan) → slice_get bs j ≡ None → slice_get (new_servers m bs) j ≡ None
server-none m j [] e = refl
server-none m zero (c ∷ bs) e = absurd (cc)
server-none m (suc j) (c ∷ bs) e = server-none (m + (c.numconns + c.bindconns)) j bs e

-- of one list of backends behind another, the places begin behind those of the first
servers-append : (m : ℕ) (bs cs : List BackendPlan) → new_servers m (bs ++ cs) ≡ new_servers m bs ++ new_servers (m + length (rooms_of bs)) cs
servers-append m [] cs = let none : m ≡ m + 0 = omega arith in ap (λ n. new_servers n cs) none
servers-append m (b ∷ bs) cs =
    let sum : m + (b.numconns + b.bindconns) + length (rooms_of bs) ≡ m + length (rooms_of (b ∷ bs)) = omega (arith, length-append (rooms_of_backend b) (rooms_of bs), length-rooms_of_backend b) in
    ap (λ vs. new_server m b ∷ vs) (servers-append (m + (b.numconns + b.bindconns)) bs cs ∙ ap (λ n. new_servers (m + (b.numconns + b.bindconns)) bs ++ new_servers n cs) sum)

-- the backends of one tier more
pub servers-next : (ts : List TierPlan) (i : ℕ) (t : TierPlan) (vs ws all : List Server) (from next : ℕ) → i < length ts → t ≡ get_or ts i t → ws ≡ vs ++ new_servers from t.backends → next ≡ from + length (rooms_of t.backends) → vs ++ new_servers from (backends_of (drop i ts)) ≡ all → ws ++ new_servers next (backends_of (drop (i + 1) ts)) ≡ all
servers-next ts i t vs ws all from next l e more behind is =
    let rest = backends_of (drop (i + 1) ts) in
    let left : backends_of (drop i ts) ≡ t.backends ++ rest = subst (λ (u : TierPlan). backends_of (drop i ts) ≡ u.backends ++ rest) (sym e) (at_drop_more backends_of ts i t l) in
    (λ j. more j ++ new_servers (behind j) rest)
    ∙ append_assoc vs (new_servers from t.backends) (new_servers (from + length (rooms_of t.backends)) rest)
    ∙ ap (λ us. vs ++ us) (sym (servers-append from t.backends rest) ∙ ap (new_servers from) (sym left))
    ∙ is

-- Counts.

some-passes : (test : BackendPlan → Bool) (bs : List BackendPlan) → list_any test bs ≡ true → (j : ℕ) × (b : BackendPlan) × (slice_get bs j ≡ Some b) × (test b ≡ true)
some-passes test [] e = absurd (let bad : false ≡ true = e in cc)
some-passes test (b ∷ bs) e = by (test b) refl (some-passes test bs)
  where
    by : (t : Bool) → test b ≡ t → (list_any test bs ≡ true → (j : ℕ) × (c : BackendPlan) × (slice_get bs j ≡ Some c) × (test c ≡ true)) → (j : ℕ) × (c : BackendPlan) × (slice_get (b ∷ bs) j ≡ Some c) × (test c ≡ true)
    by true h rest = (0, b, refl, h)
    by false h rest = let g = rest (grind (arith, e, h)) in (suc g.0, g.1, g.2, g.3)

count-passes : (test : ℕ → Bool) (n : ℕ) (ns : List ℕ) → test n ≡ true → count_of n ns ≤ length (filter test ns)
count-passes test n [] e = omega arith
count-passes test n (m ∷ ns) e = by (m == n) refl (count-passes test n ns e)
  where
    by : (t : Bool) → (m == n) ≡ t → count_of n ns ≤ length (filter test ns) → count_of n (m ∷ ns) ≤ length (filter test (m ∷ ns))
    by true h ih = let passes : test m ≡ true = ap test (eqb-true m n h) ∙ e in grind (arith, h, passes, ih)
    by false h ih = grind (arith, h, ih)

module _ (s : Settings) (f : DeskFacts) (h : IsFresh s f) where
  turn : length (backends_of f.tiers) ≤ 64 → (i : ℕ) (q : Option TierPlan) → slice_get f.tiers i ≡ q → RoundIs f i q (slice_get (new_turns 0 f.tiers) i)
  turn few i None e = subst (λ (o : Option Turn). RoundIs f i None o) (sym (turn-none 0 i f.tiers e)) tt
  turn few i (Some t) e =
      let n = length (backends_of (take i f.tiers)) in
      let knows : RoundTells f i t (record { tier = standing t []; first = 0 + n }) = record {
        tells = record { calls = []; stands = refl; first = h.first + n; numbered = numbered-tier h.first i f.tiers t e h.numbered; last_is = h.last_backend t; means_are = λ j l. h.mean (h.first + n + j) };
        first_is = omega arith;
        few = omega (arith, (tier-within f.tiers i t e).0, few);
      } in
      subst (λ (o : Option Turn). RoundIs f i (Some t) o) (sym (turn-at 0 i f.tiers t e)) knows

  lane : (number : ℕ) (k : ConnKind) (from n : ℕ) → places_for f.tiers number k ≡ rising from n → LaneTells s f number k (new_lane from n)
  lane number k from n e = record {
    forward = omega arith;
    places = e ∙ ap (rising from) (let same : n ≡ from + n - from = omega arith in same);
    viable_is = ap (λ vs. length (filter (is_of_backend s number) (filter (is_of_kind s k) vs))) h.viable;
    last_is = h.last_place number k;
    within = λ i e. absurd (cc);
  }

  lanes : (b : BackendPlan) (from : ℕ) → ((k : ConnKind) → places_for f.tiers b.number k ≡ span_of k from b) → (k : ConnKind) → LaneTells s f b.number k (lane_of k (new_server from b))
  lanes b from places Regular = lane b.number Regular from b.numconns (places Regular)
  lanes b from places Bind = lane b.number Bind (from + b.numconns) b.bindconns (places Bind)

  server : (j : ℕ) (b : BackendPlan) → slice_get (backends_of f.tiers) j ≡ Some b → ServerTells s f (new_server (0 + length (rooms_of (take j (backends_of f.tiers)))) b)
  server j b e = record {
    pending_is = h.quiet j b e;
    lanes = lanes b (0 + length (rooms_of (take j (backends_of f.tiers)))) (λ k. places-of h.first k 0 j (backends_of f.tiers) b h.numbered e);
  }

  server-is : (j : ℕ) (q : Option BackendPlan) → slice_get (backends_of f.tiers) j ≡ q → ServerIs s f (slice_get (new_servers 0 (backends_of f.tiers)) j)
  server-is j None e = subst (λ (o : Option Server). ServerIs s f o) (sym (server-none 0 j (backends_of f.tiers) e)) tt
  server-is j (Some b) e = subst (λ (o : Option Server). ServerIs s f o) (sym (server-at 0 j (backends_of f.tiers) b e)) (server j b e)

  nothing-pending : (n : ℕ) → is_current s f n ≡ true → pending_on f n ≡ 0
  nothing-pending n e =
      let b = some-passes (λ b. is_of_backend s b.number n) (backends_of f.tiers) e in
      omega (arith, count-passes (is_of_backend s b.1.number) n f.pending b.3, h.quiet b.0 b.1 b.2)

  no-row : (n : ℕ) → NoRowTells s f n
  no-row n = record { viable_is = ap (is_in n) h.viable; pending_is = nothing-pending n }

  pub fresh-tells : (d : Tables) → length (backends_of f.tiers) ≤ 64 → d.rounds.items ≡ new_turns 0 f.tiers → d.servers.items ≡ new_servers 0 (backends_of f.tiers) → ((n : ℕ) → row_of d.conns n ≡ None) → ((i n : ℕ) → has d.ready i n ≡ false) → Tells s f d
  fresh-tells d few rounds servers rows ready = record {
    backends_are = ap (map (λ v. v.plan)) servers ∙ plans-are 0 (backends_of f.tiers);
    first = h.first;
    numbered = h.numbered;
    rounds = λ i. subst (λ (xs : List Turn). RoundIs f i (slice_get f.tiers i) (slice_get xs i)) (sym rounds) (turn few i (slice_get f.tiers i) refl);
    servers = λ j. subst (λ (vs : List Server). ServerIs s f (slice_get vs j)) (sym servers) (server-is j (slice_get (backends_of f.tiers) j) refl);
    rows = λ n. rw (rows n) (no-row n);
    once = λ n. let none : count_of n f.viable ≡ 0 = ap (count_of n) h.viable in omega (arith, none);
    small = λ n e. absurd (let bad : false ≡ true = sym (ap (is_in n) h.viable) ∙ e in cc);
    ready = λ i n l. ready i n ∙ ap (λ o. ready_at o i) (sym (rows n));
  }

-- no latency was told
pub fresh-rings : (ts : List TierPlan) (xs : List Turn) → xs ≡ new_turns 0 ts → AreRings ts (λ b. []) xs
fresh-rings ts xs is i j t x b e h a =
    let both : Some (record { tier = standing t []; first = 0 + length (backends_of (take i ts)) }) ≡ Some x = sym (turn-at 0 i ts t e) ∙ ap (λ (ys : List Turn). slice_get ys i) (sym is) ∙ h in
    let same : record { tier = standing t []; first = 0 + length (backends_of (take i ts)) } ≡ x = cc in
    kept-of t [] x.tier j (ap (λ (y : Turn). y.tier) (sym same)) (slice_get_within t.backends j b a)
