-- The tables where a connection isn't viable any more.
use Rattle.std.proofs.Common.{◌≡◌, ◌≢◌, ℕ, ◌+◌, ◌-◌, ◌≤◌, Bool, true, false, ◌==◌, ◌&&◌, not, if◌then◌else◌, List, length, filter, slice_get, slice_set, Option, Some, None, ⊎_elim, refl, sym, ap, subst, ◌∙◌, arith}
use Rattle.std.proofs.lemmas.Bool.{cases_eq}
use Rattle.std.proofs.lemmas.Bool.Decides.{nat_tests}
use Rattle.std.specs.Option.{option_map, IsSome}
use Rattle.lload_names.specs.declared.names.ConnKind.{ConnKind}
use Rattle.lload_names.specs.declared.names.ConnKind.TheVariants.{Regular, Bind}
use Rattle.lload_names.specs.declared.plans.TierPlan.{TierPlan}
use Rattle.lload_names.specs.declared.plans.BackendPlan.{BackendPlan}
use Rattle.lload_names.specs.Same.{is_kind}
use Rattle.lload_spec.specs.Settings.{Settings, is_of_backend, is_of_kind}
use Rattle.lload_spec.specs.Choice.{DeskFacts, viable_of}
use Rattle.part_spec.specs.DeskState.{without_connection}
use Rattle.ready_set.specs.Keys.{most_conn, is_in}
use Rattle.ready_set.specs.Readies.{has}
use Rattle.desk_tables.specs.Pending.{one}
use Rattle.desk_tables.specs.Rows.{row_of, index_of, kept}
use Rattle.desk_tables.specs.Lanes.{lane_of, with_lane}
use Rattle.desk_tables.specs.declared.conns.Conn.{Conn}
use Rattle.desk_tables.specs.declared.servers.Lane.{Lane}
use Rattle.desk_tables.specs.declared.servers.Server.{Server}
use Rattle.desk_choice.specs.Tells.{InPlan, RowIs, RowTells, LaneTells, ServerTells, ready_at, Tells}
use Rattle.desk_choice.specs.declared.tables.Tables.{Tables}
use Rattle.desk_choice.proofs.Flat.{get-map}
use Rattle.desk_choice.proofs.Eligible.{server-knows, server-plan}
use Rattle.desk_choice.proofs.One.{known}
use Rattle.desk_rules.proofs.Lists.{in-without-same, in-without-other, without-none, once-without, count-gone}
use Rattle.desk_rules.proofs.Changes.{now_with, changed, ready-behind, server-stays}

-- where a row stands in the plan says nothing of what is viable or pending
pub plan-stays : (ts : List TierPlan) (r : Conn) (v : Bool) (m : ℕ) → InPlan ts r → InPlan ts (record r { viable = v; pending = m })
plan-stays ts r v m h = record { backend = h.backend; at = h.at; number = h.number; most = h.most; placed = h.placed; tier = h.tier; tier_at = h.tier_at; in_tier = h.in_tier; among = h.among }

-- one lane of a backend changes
pub lane-behind : (s : Settings) (g : DeskFacts) (b : ℕ) (kd k : ConnKind) (l : Lane) (v : Server) → LaneTells s g b kd l → (is_kind k kd ≡ false → LaneTells s g b k (lane_of k v)) → LaneTells s g b k (lane_of k (with_lane kd l v))
lane-behind s g b Regular Regular l v h o = h
lane-behind s g b Regular Bind l v h o = o refl
lane-behind s g b Bind Regular l v h o = o refl
lane-behind s g b Bind Bind l v h o = h

pub lane-plan : (kd : ConnKind) (l : Lane) (v : Server) → ((with_lane kd l v).plan ≡ v.plan) × ((with_lane kd l v).pending ≡ v.pending)
lane-plan Regular l v = (refl, refl)
lane-plan Bind l v = (refl, refl)

pub kind-itself : (k : ConnKind) → is_kind k k ≡ true
kind-itself Regular = refl
kind-itself Bind = refl

-- whether a connection counts at a backend and kind, by its row
pub counts-at : (s : Settings) (f : DeskFacts) (u b : ℕ) (k : ConnKind) (r : Conn) → RowTells s f u r → (is_of_kind s k u && is_of_backend s b u) ≡ (is_kind k r.place.kind && r.place.backend == b)
counts-at s f u b k r h = ap (λ o. (elim o [ None ↦ false | Some p ↦ is_kind k p.kind ]) && (elim o [ None ↦ false | Some p ↦ p.backend == b ])) h.place

-- a row that isn't viable is never ready
never-ready : (r : Conn) (j : ℕ) → r.viable ≡ false → ready_at (kept r) j ≡ false
never-ready r j e = by (r.pending == 0 && not r.viable)
  where
    by : (b : Bool) → ready_at (if b then None else Some r) j ≡ false
    by true = refl
    by false = grind (arith, e)

-- a row's backend is the one at its spot
pub row-number : (s : Settings) (f : DeskFacts) (u : ℕ) (r : Conn) (v : Server) (d : Tables) → Tells s f d → row_of d.conns u ≡ Some r → slice_get d.servers.items r.spot.server ≡ Some v → r.place.backend ≡ v.plan.number
row-number s f u r v d k was at =
    let plan = (known s f u (row_of d.conns u) r was (k.rows u)).in_plan in
    let both : Some v.plan ≡ Some plan.backend = sym (server-plan s f d r.spot.server v k at) ∙ plan.at in
    let same : v.plan ≡ plan.backend = cc in
    sym (ap (λ (b : BackendPlan). b.number) same ∙ plan.number)

module _ (s : Settings) (f : DeskFacts) (u : ℕ) (r : Conn) (v : Server) (d : Tables) (k : Tells s f d) (was : row_of d.conns u ≡ Some r) (up : r.viable ≡ true) (at : slice_get d.servers.items r.spot.server ≡ Some v) where
  abbrev left : List ℕ
  left = without_connection u f.viable

  abbrev g : DeskFacts
  g = now_with f left f.pending

  row : RowTells s f u r
  row = known s f u (row_of d.conns u) r was (k.rows u)

  in-viable : is_in u f.viable ≡ true
  in-viable = row.viable_is ∙ up

  -- how many are viable at a backend and kind
  viable-less : (b : ℕ) (kd : ConnKind) → length (filter (is_of_backend s b) (viable_of s g kd)) + one (is_kind kd r.place.kind && r.place.backend == b) ≡ length (filter (is_of_backend s b) (viable_of s f kd))
  viable-less b kd = ap (λ t. length (filter (is_of_backend s b) (viable_of s g kd)) + one t) (sym (counts-at s f u b kd r row)) ∙ count-gone (is_of_backend s b) (is_of_kind s kd) u f.viable (k.once u) in-viable

  number : r.place.backend ≡ v.plan.number
  number = row-number s f u r v d k was at

  abbrev lane : Lane
  lane = lane_of r.place.kind v

  abbrev seen : Server
  seen = with_lane r.place.kind (record lane { viable = lane.viable - 1 }) v

  here : (kd : ConnKind) → is_kind kd r.place.kind ≡ true → length (filter (is_of_backend s v.plan.number) (viable_of s g kd)) + 1 ≡ length (filter (is_of_backend s v.plan.number) (viable_of s f kd))
  here kd e =
      let own : true ≡ (is_kind kd r.place.kind && r.place.backend == v.plan.number) = grind (arith, nat_tests, e, number) in
      ap (λ t. length (filter (is_of_backend s v.plan.number) (viable_of s g kd)) + one t) own ∙ viable-less v.plan.number kd

  elsewhere : (b : ℕ) (kd : ConnKind) → (is_kind kd r.place.kind && r.place.backend == b) ≡ false → length (filter (is_of_backend s b) (viable_of s g kd)) ≡ length (filter (is_of_backend s b) (viable_of s f kd))
  elsewhere b kd e = omega (arith, viable-less b kd, ap one e)

  server : ServerTells s g seen
  server =
      let t = server-knows s f d r.spot.server v k at in
      let same = lane-plan r.place.kind (record lane { viable = lane.viable - 1 }) v in
      let own = t.lanes r.place.kind in
      let mine : LaneTells s g v.plan.number r.place.kind (record lane { viable = lane.viable - 1 }) = record {
        forward = own.forward;
        places = own.places;
        viable_is = omega (arith, here r.place.kind (kind-itself r.place.kind), own.viable_is);
        last_is = own.last_is;
        within = own.within;
      } in
      let theirs : (kd : ConnKind) → is_kind kd r.place.kind ≡ false → LaneTells s g v.plan.number kd (lane_of kd v) = λ kd e.
      let l = t.lanes kd in record {
        forward = l.forward;
        places = l.places;
        viable_is = elsewhere v.plan.number kd (grind (arith, e)) ∙ l.viable_is;
        last_is = l.last_is;
        within = l.within;
      } in
      record {
        pending_is = rw same.0 (t.pending_is ∙ sym same.1);
        lanes = λ kd. rw same.0 (lane-behind s g v.plan.number r.place.kind kd _ v mine (theirs kd));
      }

  kept-row : (b : Bool) → (r.pending == 0) ≡ b → RowIs s g u (if b && true then None else Some (record r { viable = false }))
  kept-row true e = record { viable_is = in-without-same u f.viable; pending_is = λ c. row.pending_is ∙ grind (arith, nat_tests, e) }
  kept-row false e = record { place = row.place; viable_is = in-without-same u f.viable; pending_is = row.pending_is; in_plan = plan-stays f.tiers r false r.pending row.in_plan }

  still-small : (n : ℕ) → is_in n left ≡ true → n ≤ most_conn
  still-small n h = ⊎_elim
      (λ (is : n ≡ u). absurd (let bad : false ≡ true = sym (in-without-same u f.viable) ∙ subst (λ (x : ℕ). is_in x left ≡ true) is h in cc))
      (λ (ne : n ≢ u). k.small n (sym (in-without-other u n f.viable ne) ∙ h))
      (cases_eq n u)

  not-there : (j : ℕ) → j ≢ index_of r → ready_at (row_of d.conns u) j ≡ false
  not-there j ne = rw was (grind (arith, nat_tests, ne))

  pub lost-tells : (e : Tables) → row_of e.conns u ≡ kept (record r { viable = false }) → ((n : ℕ) → n ≢ u → row_of e.conns n ≡ row_of d.conns n) → has e.ready (index_of r) u ≡ false → ((j n : ℕ) → n ≤ most_conn → (j == index_of r && n == u) ≡ false → has e.ready j n ≡ has d.ready j n) → e.rounds.items ≡ d.rounds.items → e.servers.items ≡ slice_set d.servers.items r.spot.server seen → Tells s g e
  lost-tells e is others gone apart rounds servers =
      let unready = λ (j : ℕ). ap (λ o. ready_at o j) is ∙ never-ready (record r { viable = false }) j refl in
      changed s f left f.pending u r.spot.server v seen d e k (record {
        other_viable = λ n ne. in-without-other u n f.viable ne;
        other_pending = λ n ne. refl;
        once = λ n. omega (arith, once-without n u f.viable, k.once n);
        small = still-small;
        row = rw is (kept-row (r.pending == 0) refl);
        other_rows = others;
        ready = ready-behind d e u (index_of r) k.ready others apart (gone ∙ sym (unready (index_of r))) (λ j ne. not-there j ne ∙ sym (unready j));
        rounds = rounds;
        before = at;
        behind = servers;
        plan = (lane-plan r.place.kind (record lane { viable = lane.viable - 1 }) v).0;
        server = server;
        other_servers = λ x ne t. server-stays s f left f.pending x refl (λ kd. elsewhere x.plan.number kd (other-number x.plan.number kd ne)) t;
      })
    where
      other-number : (b : ℕ) (kd : ConnKind) → b ≢ v.plan.number → (is_kind kd r.place.kind && r.place.backend == b) ≡ false
      other-number b kd ne = grind (arith, nat_tests, number)

-- nothing changes where the connection isn't viable
pub lost-none : (s : Settings) (f : DeskFacts) (u : ℕ) (d : Tables) → is_in u f.viable ≡ false → Tells s f d → Tells s (record f { viable = without_connection u f.viable }) d
lost-none s f u d e k = rw (without-none u f.viable e) k

-- where there is no row, or it isn't viable
pub no-row : (s : Settings) (f : DeskFacts) (u : ℕ) (d : Tables) → Tells s f d → row_of d.conns u ≡ None → is_in u f.viable ≡ false
no-row s f u d k e = (let none : RowIs s f u None = rw e at (k.rows u) in none).viable_is

pub idle-row : (s : Settings) (f : DeskFacts) (u : ℕ) (d : Tables) (r : Conn) → Tells s f d → row_of d.conns u ≡ Some r → r.viable ≡ false → is_in u f.viable ≡ false
idle-row s f u d r k e v = (known s f u (row_of d.conns u) r e (k.rows u)).viable_is ∙ v

-- a row's backend is there
pub has-server : (s : Settings) (f : DeskFacts) (u : ℕ) (d : Tables) (r : Conn) → Tells s f d → row_of d.conns u ≡ Some r → slice_get d.servers.items r.spot.server ≡ None → true ≡ false
has-server s f u d r k e g =
    let h = (known s f u (row_of d.conns u) r e (k.rows u)).in_plan in
    let both : ◌≡◌ {A = Option BackendPlan} None (Some h.backend) = ap (option_map (λ v. v.plan)) (sym g) ∙ sym (get-map (λ v. v.plan) d.servers.items r.spot.server) ∙ ap (λ bs. slice_get bs r.spot.server) k.backends_are ∙ h.at in cc

pub is-some : {A : Type 0} (o : Option A) (x : A) → o ≡ Some x → IsSome o
is-some o x e = rw e refl
