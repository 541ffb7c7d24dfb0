-- The tables where the turn of a backend's places goes on.
use Rattle.std.proofs.Common.{◌≡◌, ◌≢◌, ℕ, zero, suc, ◌+◌, ◌-◌, ◌≤◌, ◌<◌, Bool, true, false, ◌==◌, ◌&&◌, map, slice_get, slice_set, unwrap_or, Option, Some, None, ⊎_elim, refl, sym, ap, subst, ◌∙◌, arith}
use Rattle.std.proofs.lemmas.Bool.{cases_eq}
use Rattle.std.proofs.lemmas.Bool.Decides.{nat_tests}
use Rattle.lload_names.specs.declared.names.ConnKind.{ConnKind}
use Rattle.lload_names.specs.declared.names.ConnKind.TheVariants.{Regular, Bind}
use Rattle.lload_names.specs.declared.plans.BackendPlan.{BackendPlan}
use Rattle.lload_names.specs.declared.plans.TierPlan.{TierPlan}
use Rattle.lload_names.specs.Same.{is_kind}
use Rattle.lload_spec.specs.Picks.{rising}
use Rattle.lload_spec.specs.Settings.{Settings, place_index, is_of_backend, is_of_kind}
use Rattle.lload_spec.specs.Choice.{DeskFacts}
use Rattle.ready_set.specs.Keys.{is_in}
use Rattle.desk_tables.specs.Rows.{row_of, index_of}
use Rattle.desk_tables.specs.Lanes.{lane_of, with_lane}
use Rattle.desk_tables.specs.Turns.{Turn}
use Rattle.desk_tables.specs.declared.conns.Conn.{Conn}
use Rattle.desk_tables.specs.declared.servers.Lane.{Lane}
use Rattle.desk_tables.specs.declared.servers.Server.{Server}
use Rattle.desk_choice.specs.Tells.{RowIs, RowTells, LaneTells, ServerTells, RoundIs, Tells}
use Rattle.desk_choice.specs.declared.tables.Tables.{Tables}
use Rattle.desk_choice.proofs.Eligible.{server-knows}
use Rattle.desk_choice.proofs.One.{known}
use Rattle.desk_rules.specs.Turning.{IsTurn}
use Rattle.desk_rules.proofs.Changes.{servers-behind, set-map}
use Rattle.desk_rules.proofs.Losses.{row-number, kind-itself}

-- the facts with other places that were chosen last
abbrev pub turned_to : DeskFacts → (ℕ → ConnKind → Option ℕ) → DeskFacts
turned_to f last = record f { last_place = last }

row-turned : (s : Settings) (f : DeskFacts) (last : ℕ → ConnKind → Option ℕ) (n : ℕ) (o : Option Conn) → RowIs s f n o → RowIs s (turned_to f last) n o
row-turned s f last n None h = record { viable_is = h.viable_is; pending_is = h.pending_is }
row-turned s f last n (Some r) h = record { place = h.place; viable_is = h.viable_is; pending_is = h.pending_is; in_plan = h.in_plan }

round-turned : (f : DeskFacts) (last : ℕ → ConnKind → Option ℕ) (i : ℕ) (q : Option TierPlan) (o : Option Turn) → RoundIs f i q o → RoundIs (turned_to f last) i q o
round-turned f last i (Some t) (Some x) h =
    let k = h.tells in
    record { tells = record { calls = k.calls; stands = k.stands; first = k.first; numbered = k.numbered; last_is = k.last_is; means_are = k.means_are }; first_is = h.first_is; few = h.few }
round-turned f last i None None h = h
round-turned f last i (Some t) None h = h
round-turned f last i None (Some x) h = h

server-turned : (s : Settings) (f : DeskFacts) (last : ℕ → ConnKind → Option ℕ) (v : Server) → ((k : ConnKind) → last v.plan.number k ≡ f.last_place v.plan.number k) → ServerTells s f v → ServerTells s (turned_to f last) v
server-turned s f last v same h = record {
  pending_is = h.pending_is;
  lanes = λ k. let l = h.lanes k in record { forward = l.forward; places = l.places; viable_is = l.viable_is; last_is = same k ∙ l.last_is; within = l.within };
}

abbrev chosen-by : ConnKind → Lane → ℕ → Server → Server
chosen-by kd l m v = record (with_lane kd l v) { pending = m }

lane-chosen : (s : Settings) (g : DeskFacts) (b : ℕ) (kd k : ConnKind) (l : Lane) (m : ℕ) (v : Server) → LaneTells s g b kd l → (is_kind k kd ≡ false → LaneTells s g b k (lane_of k v)) → LaneTells s g b k (lane_of k (chosen-by kd l m v))
lane-chosen s g b Regular Regular l m v h o = h
lane-chosen s g b Regular Bind l m v h o = o refl
lane-chosen s g b Bind Regular l m v h o = o refl
lane-chosen s g b Bind Bind l m v h o = h

chosen-plan : (kd : ConnKind) (l : Lane) (m : ℕ) (v : Server) → (chosen-by kd l m v).plan ≡ v.plan
chosen-plan Regular l m v = refl
chosen-plan Bind l m v = refl

within-rising : (from n i : ℕ) → is_in i (rising from n) ≡ true → (from ≤ i) × (i < from + n)
within-rising from zero i e = absurd (let bad : false ≡ true = e in cc)
within-rising from (suc n) i e = ⊎_elim
    (λ (is : i ≡ from). (omega (arith, is), omega (arith, is)))
    (λ (ne : i ≢ from). let rest = within-rising (suc from) n i (behind ne) in (omega (arith, rest.0), omega (arith, rest.1)))
    (cases_eq i from)
  where
    behind : i ≢ from → is_in i (rising (suc from) n) ≡ true
    behind ne = let apart : (from == i) ≡ false = grind (arith, nat_tests, ne) in grind (arith, apart, e)

module _ (s : Settings) (f : DeskFacts) (u : ℕ) (last : ℕ → ConnKind → Option ℕ) (r : Conn) (v : Server) (d : Tables) (k : Tells s f d) (was : row_of d.conns u ≡ Some r) (at : slice_get d.servers.items r.spot.server ≡ Some v) (turn : IsTurn s u f.last_place last) where
  abbrev g : DeskFacts
  g = turned_to f last

  row : RowTells s f u r
  row = known s f u (row_of d.conns u) r was (k.rows u)

  number : r.place.backend ≡ v.plan.number
  number = row-number s f u r v d k was at

  counts : (b : ℕ) (kd : ConnKind) → (is_of_kind s kd u && is_of_backend s b u) ≡ (is_kind kd r.place.kind && r.place.backend == b)
  counts b kd = ap (λ o. (elim o [ None ↦ false | Some p ↦ is_kind kd p.kind ]) && (elim o [ None ↦ false | Some p ↦ p.backend == b ])) row.place

  index : place_index s u ≡ index_of r
  index = ap (λ o. elim o [ None ↦ 0 | Some p ↦ p.place - 1 ]) row.place

  turned : (b : ℕ) (kd : ConnKind) (t : Bool) → (is_kind kd r.place.kind && r.place.backend == b) ≡ t → last b kd ≡ (elim t [ true ↦ Some (index_of r) | false ↦ f.last_place b kd ])
  turned b kd t e = turn b kd ∙ ap (λ t. elim t [ true ↦ Some (place_index s u) | false ↦ f.last_place b kd ]) (counts b kd ∙ e) ∙ ap (λ i. elim t [ true ↦ Some i | false ↦ f.last_place b kd ]) index

  abbrev lane : Lane
  lane = record (lane_of r.place.kind v) { last = Some (index_of r) }

  abbrev after : Server
  after = chosen-by r.place.kind lane v.pending v

  mine : LaneTells s g v.plan.number r.place.kind lane
  mine =
      let own = (server-knows s f d r.spot.server v k at).lanes r.place.kind in
      let here : (is_kind r.place.kind r.place.kind && r.place.backend == v.plan.number) ≡ true = grind (arith, nat_tests, kind-itself r.place.kind, number) in
      let there : is_in (index_of r) (rising (lane_of r.place.kind v).from ((lane_of r.place.kind v).to - (lane_of r.place.kind v).from)) ≡ true = ap (is_in (index_of r)) (sym own.places) ∙ row.in_plan.placed v.plan.number r.place.kind ∙ grind (arith, nat_tests, kind-itself r.place.kind, number) in
      let w = within-rising (lane_of r.place.kind v).from ((lane_of r.place.kind v).to - (lane_of r.place.kind v).from) (index_of r) there in
      record {
        forward = own.forward;
        places = own.places;
        viable_is = own.viable_is;
        last_is = turned v.plan.number r.place.kind true here;
        within = λ i e. let is : index_of r ≡ i = ap (λ o. unwrap_or o i) e in (omega (arith, w.0, is), omega (arith, w.1, is, own.forward));
      }

  theirs : (kd : ConnKind) → is_kind kd r.place.kind ≡ false → LaneTells s g v.plan.number kd (lane_of kd v)
  theirs kd e =
      let l = (server-knows s f d r.spot.server v k at).lanes kd in
      let apart : (is_kind kd r.place.kind && r.place.backend == v.plan.number) ≡ false = grind (arith, e) in
      record { forward = l.forward; places = l.places; viable_is = l.viable_is; last_is = turned v.plan.number kd false apart ∙ l.last_is; within = l.within }

  server : ServerTells s g after
  server =
      let plan = chosen-plan r.place.kind lane v.pending v in
      record {
        pending_is = rw plan (server-knows s f d r.spot.server v k at).pending_is;
        lanes = λ kd. subst (λ (p : BackendPlan). LaneTells s g p.number kd (lane_of kd after)) (sym plan) (lane-chosen s g v.plan.number r.place.kind kd lane v.pending v mine (theirs kd));
      }

  pub turned-tells : (e : Tables) → e.conns ≡ d.conns → e.ready ≡ d.ready → e.rounds.items ≡ d.rounds.items → e.servers.items ≡ slice_set d.servers.items r.spot.server after → Tells s g e
  turned-tells e conns ready rounds servers = record {
    backends_are = ap (map (λ v. v.plan)) servers ∙ set-map (λ v. v.plan) d.servers.items r.spot.server v after at (chosen-plan r.place.kind lane v.pending v) ∙ k.backends_are;
    first = k.first;
    numbered = k.numbered;
    rounds = λ i. rw rounds (round-turned f last i (slice_get f.tiers i) (slice_get d.rounds.items i) (k.rounds i));
    servers = λ j. rw servers (servers-behind s f g d r.spot.server v after k at server (λ x ne t. server-turned s f last x (λ kd. turned x.plan.number kd false (other x.plan.number kd ne)) t) j);
    rows = λ n. rw conns (row-turned s f last n (row_of d.conns n) (k.rows n));
    once = k.once;
    small = k.small;
    ready = λ i n l. rw (ready, conns) (k.ready i n l);
  }
    where
      other : (b : ℕ) (kd : ConnKind) → b ≢ v.plan.number → (is_kind kd r.place.kind && r.place.backend == b) ≡ false
      other b kd ne = grind (arith, nat_tests, number)
