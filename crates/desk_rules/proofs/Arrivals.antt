-- The tables where a connection is up.
use Rattle.std.proofs.Common.{◌≡◌, ◌≢◌, ℕ, zero, suc, ◌+◌, ◌-◌, ◌≤◌, ◌<◌, Bool, true, false, ◌==◌, ◌&&◌, ◌||◌, List, [], ◌∷◌, ◌++◌, length, filter, map, take, slice_get, slice_set, Option, Some, None, ⊎_elim, ◌⊎◌, inl, inr, nat_le, refl, sym, ap, subst, ◌∙◌, arith, length-append}
use Rattle.std.proofs.lemmas.Bool.{cases_eq, leb-true}
use Rattle.std.proofs.lemmas.Bool.Decides.{nat_tests}
use Rattle.std.proofs.lemmas.List.{length-map}
use Rattle.std.specs.List.{list_any}
use Rattle.std.specs.Option.{option_map}
use Rattle.lload_names.specs.declared.names.ConnKind.{ConnKind}
use Rattle.lload_names.specs.declared.plans.BackendPlan.{BackendPlan}
use Rattle.lload_names.specs.declared.plans.TierPlan.{TierPlan}
use Rattle.lload_names.specs.declared.plans.Place.{Place}
use Rattle.lload_names.specs.Same.{is_kind}
use Rattle.lload_names.specs.Plans.{backends_of}
use Rattle.lload_spec.specs.Settings.{Settings, place_at, is_of_backend, is_of_kind}
use Rattle.lload_spec.specs.Choice.{DeskFacts, viable_of, pending_on, most_on}
use Rattle.ready_set.specs.Keys.{most_conn, is_in}
use Rattle.ready_set.specs.Readies.{has}
use Rattle.desk_tables.specs.Pending.{one}
use Rattle.desk_tables.specs.Rows.{row_of, index_of, is_ready}
use Rattle.desk_tables.specs.Lanes.{lane_of, with_lane}
use Rattle.desk_tables.specs.Turns.{Turn}
use Rattle.desk_tables.specs.declared.conns.Conn.{Conn}
use Rattle.desk_tables.specs.declared.conns.Spot.{Spot}
use Rattle.desk_tables.specs.declared.servers.Lane.{Lane}
use Rattle.desk_tables.specs.declared.servers.Server.{Server}
use Rattle.desk_choice.specs.Tells.{InPlan, RowIs, RowTells, LaneTells, ServerTells, RoundIs, is_current, ready_at, Tells, IsTier}
use Rattle.desk_choice.specs.declared.tables.Tables.{Tables}
use Rattle.desk_choice.proofs.Flat.{get-map}
use Rattle.desk_choice.proofs.Eligible.{server-knows, server-plan}
use Rattle.desk_choice.proofs.Tiers.{round-knows, as-many, at-place, a-tier}
use Rattle.desk_rules.specs.Places.{IsPlaced, IsSpot, IsElsewhere}
use Rattle.desk_rules.specs.Rows.{pending_of}
use Rattle.desk_rules.proofs.Lists.{count_of, in-push-same, in-push-other, out-count, once-push, count-came}
use Rattle.desk_rules.proofs.Changes.{now_with, changed, ready-behind, server-stays, number-at}
use Rattle.desk_rules.proofs.Losses.{lane-behind, lane-plan, kind-itself}
use Rattle.desk_rules.proofs.Releases.{other-one, own-one, own-index}

pub get-some : {A : Type 0} (xs : List A) (j : ℕ) → j < length xs → (x : A) × (slice_get xs j ≡ Some x)
get-some [] j l = absurd (omega arith)
get-some (x ∷ xs) zero l = (x, refl)
get-some (x ∷ xs) (suc j) l = get-some xs j (omega (arith, l))

pub any-at : (test : BackendPlan → Bool) (bs : List BackendPlan) (j : ℕ) (b : BackendPlan) → slice_get bs j ≡ Some b → test b ≡ true → list_any test bs ≡ true
any-at test [] j b g e = absurd (cc)
any-at test (x ∷ bs) zero b g e = let same : x ≡ b = cc in let here : test x ≡ true = ap test same ∙ e in grind (arith, here)
any-at test (x ∷ bs) (suc j) b g e = grind (arith, any-at test bs j b g e)

-- the backends that the tables have are those in force
pub server-of : (s : Settings) (f : DeskFacts) (d : Tables) (j : ℕ) (b : BackendPlan) → Tells s f d → slice_get (backends_of f.tiers) j ≡ Some b → (v : Server) × (slice_get d.servers.items j ≡ Some v) × (v.plan ≡ b)
server-of s f d j b k g = by (slice_get d.servers.items j) refl
  where
    plans : option_map (λ v. v.plan) (slice_get d.servers.items j) ≡ Some b
    plans = sym (get-map (λ v. v.plan) d.servers.items j) ∙ ap (λ bs. slice_get bs j) k.backends_are ∙ g

    by : (o : Option Server) → slice_get d.servers.items j ≡ o → (v : Server) × (slice_get d.servers.items j ≡ Some v) × (v.plan ≡ b)
    by None e = absurd (let both : ◌≡◌ {A = Option BackendPlan} None (Some b) = ap (option_map (λ v. v.plan)) (sym e) ∙ plans in cc)
    by (Some v) e = (v, e, (let both : Some v.plan ≡ Some b = ap (option_map (λ v. v.plan)) (sym e) ∙ plans in cc))

-- there is a backend with each number in force
pub not-numbered : (s : Settings) (f : DeskFacts) (d : Tables) (place : Place) → Tells s f d → IsPlaced f.tiers place → ((j : ℕ) (v : Server) → slice_get d.servers.items j ≡ Some v → v.plan.number ≢ place.backend) → ⊥
not-numbered s f d place k pl none =
    let v = server-of s f d pl.index pl.backend k pl.at in
    none pl.index v.0 v.1 (ap (λ (b : BackendPlan). b.number) v.2 ∙ pl.number)

-- each of them is one of some tier
tier-at : (ts : List TierPlan) (j : ℕ) → j < length (backends_of ts) → (i : ℕ) × (t : TierPlan) × (slice_get ts i ≡ Some t) × (length (backends_of (take i ts)) ≤ j) × (j < length (backends_of (take i ts)) + length t.backends)
tier-at [] j l = absurd (omega arith)
tier-at (t ∷ ts) j l = ⊎_elim (λ (here : j < length t.backends). (0, t, refl, omega arith, omega (arith, here))) (λ (behind : length t.backends ≤ j). further behind (tier-at ts (j - length t.backends) (omega (arith, l, behind, length-append t.backends (backends_of ts))))) (below-or j (length t.backends))
  where
    below-or : (a b : ℕ) → (a < b) ⊎ (b ≤ a)
    below-or a b = by (nat_le b a) refl
      where
        by : (t : Bool) → nat_le b a ≡ t → (a < b) ⊎ (b ≤ a)
        by true e = inr (leb-true b a e)
        by false e = inl (grind (arith, nat_tests, e))

    further : length t.backends ≤ j → (i : ℕ) × (u : TierPlan) × (slice_get ts i ≡ Some u) × (length (backends_of (take i ts)) ≤ j - length t.backends) × (j - length t.backends < length (backends_of (take i ts)) + length u.backends) → (i : ℕ) × (u : TierPlan) × (slice_get (t ∷ ts) i ≡ Some u) × (length (backends_of (take i (t ∷ ts))) ≤ j) × (j < length (backends_of (take i (t ∷ ts))) + length u.backends)
    further le h =
        let more = length-append t.backends (backends_of (take h.0 ts)) in
        (suc h.0, h.1, h.2, omega (arith, more, h.3, le), omega (arith, more, h.4, le))

pub turn-of : (f : DeskFacts) (i : ℕ) (t : TierPlan) (q : Option TierPlan) (o : Option Turn) → q ≡ Some t → RoundIs f i q o → (x : Turn) × (o ≡ Some x)
turn-of f i t q None e h = absurd (let bad : true ≡ false = subst (λ (q : Option TierPlan). RoundIs f i q None) e h in cc)
turn-of f i t q (Some x) e h = (x, refl)

pub not-elsewhere : (s : Settings) (f : DeskFacts) (d : Tables) (j : ℕ) → Tells s f d → j < length d.servers.items → ((i : ℕ) (x : Turn) → slice_get d.rounds.items i ≡ Some x → IsElsewhere j x) → ⊥
not-elsewhere s f d j k l none =
    let size : length d.servers.items ≡ length (backends_of f.tiers) = sym (length-map d.servers.items (λ v. v.plan)) ∙ ap (length {A = BackendPlan}) k.backends_are in
    let g = tier-at f.tiers j (omega (arith, l, size)) in
    let x = turn-of f g.0 g.1 (slice_get f.tiers g.0) (slice_get d.rounds.items g.0) g.2 (k.rounds g.0) in
    let h : IsTier f d g.0 g.1 x.0 = record { plan = g.2; turn = x.1 } in
    let r = round-knows s f d g.0 g.1 x.0 k h in
    let many = as-many s f d g.0 g.1 x.0 k h in
    let behind = none g.0 x.0 x.1 (omega (arith, many, r.few)) (omega (arith, r.first_is, g.3)) in
    omega (arith, behind, many, r.first_is, g.4)

pub not-missing : (d : Tables) (j : ℕ) → j < length d.servers.items → slice_get d.servers.items j ≡ None → ⊥
not-missing d j l e = let v = get-some d.servers.items j l in let bad : ◌≡◌ {A = Option Server} None (Some v.0) = sym e ∙ v.1 in absurd (cc)

-- where a connection isn't viable, it is ready nowhere
pub not-ready : (s : Settings) (f : DeskFacts) (u : ℕ) (d : Tables) → Tells s f d → is_in u f.viable ≡ false → (j : ℕ) → ready_at (row_of d.conns u) j ≡ false
not-ready s f u d k idle j = by (row_of d.conns u) (k.rows u)
  where
    by : (o : Option Conn) → RowIs s f u o → ready_at o j ≡ false
    by None h = refl
    by (Some r) h = let v : r.viable ≡ false = sym h.viable_is ∙ idle in grind (arith, v)

-- the row of a connection that is up
abbrev pub row-with : Place → Spot → ℕ → ℕ → Conn
row-with place spot most pending = record { place = place; spot = spot; most = most; viable = true; pending = pending }

module _ (s : Settings) (f : DeskFacts) (u : ℕ) (place : Place) (spot : Spot) (j : ℕ) (v : Server) (d : Tables) (k : Tells s f d) (small : u ≤ most_conn) (is : place_at s u ≡ Some place) (pl : IsPlaced f.tiers place) (idle : is_in u f.viable ≡ false) (at : slice_get d.servers.items j ≡ Some v) (number : v.plan.number ≡ place.backend) (sp : IsSpot d.rounds.items j spot) where
  abbrev more : List ℕ
  more = f.viable ++ u ∷ []

  abbrev g : DeskFacts
  g = now_with f more f.pending

  abbrev row : Conn
  row = row-with place spot (most_on v.plan place.kind) (pending_of (row_of d.conns u))

  counts : (b : ℕ) (kd : ConnKind) → (is_of_kind s kd u && is_of_backend s b u) ≡ (is_kind kd place.kind && place.backend == b)
  counts b kd = ap (λ o. (elim o [ None ↦ false | Some p ↦ is_kind kd p.kind ]) && (elim o [ None ↦ false | Some p ↦ p.backend == b ])) is

  viable-more : (b : ℕ) (kd : ConnKind) → length (filter (is_of_backend s b) (viable_of s g kd)) ≡ length (filter (is_of_backend s b) (viable_of s f kd)) + one (is_kind kd place.kind && place.backend == b)
  viable-more b kd = count-came (is_of_backend s b) (is_of_kind s kd) u f.viable ∙ ap (λ t. length (filter (is_of_backend s b) (viable_of s f kd)) + one t) (counts b kd)

  elsewhere : (b : ℕ) (kd : ConnKind) → (is_kind kd place.kind && place.backend == b) ≡ false → length (filter (is_of_backend s b) (viable_of s g kd)) ≡ length (filter (is_of_backend s b) (viable_of s f kd))
  elsewhere b kd e = omega (arith, viable-more b kd, ap one e)

  -- the backend with its number is the one at the spot
  alone : (i : ℕ) (b : BackendPlan) → slice_get (backends_of f.tiers) i ≡ Some b → b.number ≡ place.backend → v.plan ≡ b
  alone i b e n =
      let mine = server-plan s f d j v k at in
      let same : j ≡ i = omega (arith, number-at k.first j (backends_of f.tiers) v.plan k.numbered mine, number-at k.first i (backends_of f.tiers) b k.numbered e, n, number) in
      let both : Some v.plan ≡ Some b = sym mine ∙ ap (slice_get (backends_of f.tiers)) same ∙ e in cc

  in-plan : InPlan f.tiers row
  in-plan =
      let t = a-tier s f d spot.tier sp.turn k sp.at in
      let knows = round-knows s f d spot.tier t.0 sp.turn k t.1 in
      let b = get-some t.0.backends spot.place (omega (arith, sp.within, as-many s f d spot.tier t.0 sp.turn k t.1)) in
      let there : slice_get (backends_of f.tiers) j ≡ Some b.0 = ap (slice_get (backends_of f.tiers)) (sym sp.among) ∙ at-place s f d spot.tier t.0 sp.turn spot.place b.0 k t.1 b.1 in
      let same : v.plan ≡ b.0 = (let both : Some v.plan ≡ Some b.0 = sym (server-plan s f d j v k at) ∙ there in cc) in
      record {
        backend = v.plan;
        at = ap (slice_get (backends_of f.tiers)) sp.server ∙ server-plan s f d j v k at;
        number = number;
        most = λ i b e n. ap (λ p. most_on p place.kind) (alone i b e n);
        placed = pl.placed;
        tier = t.0;
        tier_at = t.1.plan;
        in_tier = b.1 ∙ ap Some (sym same);
        among = omega (arith, sp.server, sp.among, knows.first_is);
      }

  pending-is : pending_on f u ≡ pending_of (row_of d.conns u)
  pending-is = by (row_of d.conns u) (k.rows u)
    where
      current : is_current s f u ≡ true
      current = any-at (λ b. is_of_backend s b.number u) (backends_of f.tiers) pl.index pl.backend pl.at (ap (λ o. elim o [ None ↦ false | Some p ↦ p.backend == pl.backend.number ]) is ∙ grind (arith, nat_tests, pl.number))

      by : (o : Option Conn) → RowIs s f u o → pending_on f u ≡ pending_of o
      by None h = h.pending_is current
      by (Some r) h = h.pending_is

  new-row : RowTells s g u row
  new-row = record { place = is; viable_is = in-push-same u f.viable; pending_is = pending-is; in_plan = in-plan }

  abbrev lane : Lane
  lane = lane_of place.kind v

  abbrev after : Server
  after = with_lane place.kind (record lane { viable = lane.viable + 1 }) v

  server : ServerTells s g after
  server =
      let t = server-knows s f d j v k at in
      let same = lane-plan place.kind (record lane { viable = lane.viable + 1 }) v in
      let own = t.lanes place.kind in
      let here : (is_kind place.kind place.kind && place.backend == v.plan.number) ≡ true = grind (arith, nat_tests, kind-itself place.kind, number) in
      let mine : LaneTells s g v.plan.number place.kind (record lane { viable = lane.viable + 1 }) = record {
        forward = own.forward;
        places = own.places;
        viable_is = omega (arith, viable-more v.plan.number place.kind, ap one here, own.viable_is);
        last_is = own.last_is;
        within = own.within;
      } in
      let theirs : (kd : ConnKind) → is_kind kd place.kind ≡ false → LaneTells s g v.plan.number kd (lane_of kd v) = λ kd e.
      let l = t.lanes kd in record {
        forward = l.forward;
        places = l.places;
        viable_is = elsewhere v.plan.number kd (grind (arith, e)) ∙ l.viable_is;
        last_is = l.last_is;
        within = l.within;
      } in
      record {
        pending_is = rw same.0 (t.pending_is ∙ sym same.1);
        lanes = λ kd. rw same.0 (lane-behind s g v.plan.number place.kind kd _ v mine (theirs kd));
      }

  still-small : (n : ℕ) → is_in n more ≡ true → n ≤ most_conn
  still-small n h = ⊎_elim
      (λ (e : n ≡ u). omega (arith, e, small))
      (λ (ne : n ≢ u). k.small n (sym (in-push-other u n f.viable ne) ∙ h))
      (cases_eq n u)

  still-once : (n : ℕ) → count_of n more ≤ 1
  still-once n = ⊎_elim
      (λ (e : n ≡ u). rw e (omega (arith, once-push u u f.viable, out-count u f.viable idle, own-one u)))
      (λ (ne : n ≢ u). omega (arith, once-push n u f.viable, k.once n, other-one u n ne))
      (cases_eq n u)

  new-elsewhere : (i : ℕ) → i ≢ index_of row → ready_at (Some row) i ≡ false
  new-elsewhere i ne = let apart : (index_of row == i) ≡ false = grind (arith, nat_tests) in ap (λ t. is_ready row && t) apart ∙ and-false (is_ready row)
    where
      and-false : (a : Bool) → (a && false) ≡ false
      and-false a = grind arith

  new-here : (has_it : Bool) → has_it ≡ false → (has_it || is_ready row) ≡ ready_at (Some row) (index_of row)
  new-here has_it e = ap (λ t. t || is_ready row) e ∙ by (is_ready row) ∙ ap (λ t. is_ready row && t) (sym (own-index (index_of row)))
    where
      by : (a : Bool) → (false || a) ≡ (a && true)
      by a = grind arith

  pub up-tells : (e : Tables) → row_of e.conns u ≡ Some row → ((n : ℕ) → n ≢ u → row_of e.conns n ≡ row_of d.conns n) → has e.ready (index_of row) u ≡ (has d.ready (index_of row) u || is_ready row) → ((i n : ℕ) → n ≤ most_conn → (i == index_of row && n == u) ≡ false → has e.ready i n ≡ has d.ready i n) → e.rounds.items ≡ d.rounds.items → e.servers.items ≡ slice_set d.servers.items j after → Tells s g e
  up-tells e now others shown apart rounds servers =
      let unready = not-ready s f u d k idle in
      let none : has d.ready (index_of row) u ≡ false = k.ready (index_of row) u small ∙ unready (index_of row) in
      changed s f more f.pending u j v after d e k (record {
        other_viable = λ n ne. in-push-other u n f.viable ne;
        other_pending = λ n ne. refl;
        once = still-once;
        small = still-small;
        row = rw now new-row;
        other_rows = others;
        ready = ready-behind d e u (index_of row) k.ready others apart (shown ∙ new-here (has d.ready (index_of row) u) none ∙ ap (λ o. ready_at o (index_of row)) (sym now)) (λ i ne. unready i ∙ sym (ap (λ o. ready_at o i) now ∙ new-elsewhere i ne));
        rounds = rounds;
        before = at;
        behind = servers;
        plan = (lane-plan place.kind (record lane { viable = lane.viable + 1 }) v).0;
        server = server;
        other_servers = λ x ne t. server-stays s f more f.pending x refl (λ kd. elsewhere x.plan.number kd (other-number x.plan.number kd ne)) t;
      })
    where
      other-number : (b : ℕ) (kd : ConnKind) → b ≢ v.plan.number → (is_kind kd place.kind && place.backend == b) ≡ false
      other-number b kd ne = grind (arith, nat_tests, number)

-- nothing changed that is told
pub same-tables : (s : Settings) (f : DeskFacts) (u i : ℕ) (d e : Tables) → Tells s f d → u ≤ most_conn → is_in u f.viable ≡ false → ((n : ℕ) → row_of e.conns n ≡ row_of d.conns n) → ((j n : ℕ) → n ≤ most_conn → (j == i && n == u) ≡ false → has e.ready j n ≡ has d.ready j n) → (has d.ready i u ≡ false → has e.ready i u ≡ false) → e.rounds.items ≡ d.rounds.items → e.servers.items ≡ d.servers.items → Tells s f e
same-tables s f u i d e k small idle rows apart undone rounds servers = record {
  backends_are = ap (map (λ v. v.plan)) servers ∙ k.backends_are;
  first = k.first;
  numbered = k.numbered;
  rounds = λ j. rw rounds (k.rounds j);
  servers = λ j. rw servers (k.servers j);
  rows = λ n. rw (rows n) (k.rows n);
  once = k.once;
  small = k.small;
  ready = ready-behind d e u i k.ready (λ n ne. rows n) apart (undone (k.ready i u small ∙ not-ready s f u d k idle i) ∙ sym (ap (λ o. ready_at o i) (rows u) ∙ not-ready s f u d k idle i)) (λ j ne. ap (λ o. ready_at o j) (sym (rows u)));
}
