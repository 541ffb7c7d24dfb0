-- The connection that stands for a backend.
use Rattle.std.proofs.Common.{◌≡◌, ℕ, suc, ◌+◌, ◌-◌, ◌<◌, ◌≤◌, Bool, true, false, ◌==◌, ◌&&◌, List, [], ◌∷◌, filter, slice_get, map, Option, Some, None, refl, sym, ap, ◌∙◌, arith}
use Rattle.std.proofs.lemmas.Bool.Decides.{nat_tests}
use Rattle.std.proofs.lemmas.Bool.{and_parts}
use Rattle.std.specs.Option.{option_map, ForSome}
use Rattle.lload_names.specs.declared.names.ConnKind.{ConnKind}
use Rattle.lload_names.specs.declared.names.ConnKind.TheVariants.{Regular, Bind}
use Rattle.lload_names.specs.declared.plans.BackendPlan.{BackendPlan}
use Rattle.lload_names.specs.Same.{is_kind}
use Rattle.lload_names.specs.Plans.{backends_of, places_for}
use Rattle.lload_spec.specs.Picks.{in_turn, rising}
use Rattle.lload_spec.specs.Settings.{Settings, place_at, place_index, is_of_kind, is_of_backend}
use Rattle.lload_spec.specs.Choice.{DeskFacts, viable_of, pending_on, pending_at, is_within_limit, most_on, has_room, eligible, place_order, first_at, connection_for, greatest}
use Rattle.ready_set.specs.Keys.{most_conn, is_in}
use Rattle.ready_set.specs.Readies.{has, Indexes}
use Rattle.ready_set.proofs.Members.{in-filter, filter-none}
use Rattle.desk_tables.specs.Rows.{row_of, index_of, is_ready}
use Rattle.desk_tables.specs.Lanes.{lane_of}
use Rattle.desk_tables.specs.declared.conns.Conn.{Conn}
use Rattle.desk_tables.specs.declared.servers.Lane.{Lane}
use Rattle.desk_tables.specs.declared.servers.Server.{Server}
use Rattle.desk_choice.specs.Tells.{InPlan, RowTells, RowIs, LaneTells, ServerTells, ServerIs, ready_at, Tells}
use Rattle.desk_choice.specs.declared.tables.Tables.{Tables}
use Rattle.desk_choice.proofs.Flat.{get-map, in-rising}

pub same-kind : (a b : ConnKind) → is_kind a b ≡ true → a ≡ b
same-kind Regular Regular e = refl
same-kind Regular Bind e = absurd (let bad : false ≡ true = e in cc)
same-kind Bind Regular e = absurd (let bad : false ≡ true = e in cc)
same-kind Bind Bind e = refl

pub server-knows : (s : Settings) (f : DeskFacts) (d : Tables) (j : ℕ) (v : Server) → Tells s f d → slice_get d.servers.items j ≡ Some v → ServerTells s f v
server-knows s f d j v k e = rw e at (k.servers j)

pub server-plan : (s : Settings) (f : DeskFacts) (d : Tables) (j : ℕ) (v : Server) → Tells s f d → slice_get d.servers.items j ≡ Some v → slice_get (backends_of f.tiers) j ≡ Some v.plan
server-plan s f d j v k e = ap (λ bs. slice_get bs j) (sym k.backends_are) ∙ get-map (λ v. v.plan) d.servers.items j ∙ ap (option_map (λ v. v.plan)) e

-- whether a connection is eligible, by the tests one after the other
pub in-eligible : (s : Settings) (f : DeskFacts) (kd : ConnKind) (b : BackendPlan) (n : ℕ) → is_in n (eligible s f kd b) ≡ ((is_of_backend s b.number n && has_room s f b kd n) && (is_of_kind s kd n && is_in n f.viable))
in-eligible s f kd b n =
    in-filter (λ n. is_of_backend s b.number n && has_room s f b kd n) n (viable_of s f kd)
    ∙ ap (λ t. (is_of_backend s b.number n && has_room s f b kd n) && t) (in-filter (is_of_kind s kd) n f.viable)

-- a row tells whether its connection is eligible
pub row-eligible : (s : Settings) (f : DeskFacts) (kd : ConnKind) (b : BackendPlan) (n : ℕ) (r : Conn) → RowTells s f n r → is_within_limit b.max_pending (pending_at s f b.number) ≡ true → is_in n (eligible s f kd b) ≡ ((r.place.backend == b.number && is_within_limit (most_on b kd) r.pending) && (is_kind kd r.place.kind && r.viable))
row-eligible s f kd b n r h room =
    in-eligible s f kd b n
    ∙ ap (λ o. ((elim o [ None ↦ false | Some p ↦ p.backend == b.number ]) && has_room s f b kd n) && ((elim o [ None ↦ false | Some p ↦ is_kind kd p.kind ]) && is_in n f.viable)) h.place
    ∙ ap (λ m. (r.place.backend == b.number && (is_within_limit (most_on b kd) m && is_within_limit b.max_pending (pending_at s f b.number))) && (is_kind kd r.place.kind && is_in n f.viable)) h.pending_is
    ∙ ap (λ t. (r.place.backend == b.number && (is_within_limit (most_on b kd) r.pending && t)) && (is_kind kd r.place.kind && is_in n f.viable)) room
    ∙ ap (λ t. (r.place.backend == b.number && (is_within_limit (most_on b kd) r.pending && true)) && (is_kind kd r.place.kind && t)) h.viable_is
    ∙ ap (λ t. (r.place.backend == b.number && t) && (is_kind kd r.place.kind && r.viable)) (and-true (is_within_limit (most_on b kd) r.pending))
  where
    and-true : (t : Bool) → (t && true) ≡ t
    and-true t = grind arith

-- at the places of a backend and kind the connections that are ready are those that are eligible
lane-row : (s : Settings) (f : DeskFacts) (kd : ConnKind) (j : ℕ) (b : BackendPlan) (i n : ℕ) (r : Conn) → RowTells s f n r → slice_get (backends_of f.tiers) j ≡ Some b → is_in i (places_for f.tiers b.number kd) ≡ true → is_within_limit b.max_pending (pending_at s f b.number) ≡ true → (v : Bool) → r.viable ≡ v → ((v && is_within_limit r.most r.pending) && (index_of r == i)) ≡ (((r.place.backend == b.number && is_within_limit (most_on b kd) r.pending) && (is_kind kd r.place.kind && v)) && (index_of r == i))
lane-row s f kd j b i n r h at placed room false e = grind arith
lane-row s f kd j b i n r h at placed room true e = at-index (index_of r == i) refl
  where
    here : InPlan f.tiers r
    here = h.in_plan

    both : (index_of r == i) ≡ true → (r.place.backend == b.number && is_kind kd r.place.kind) ≡ true
    both t = sym (here.placed b.number kd) ∙ ap (λ x. is_in x (places_for f.tiers b.number kd)) (let same : index_of r ≡ i = grind (arith, nat_tests, t) in same) ∙ placed

    most-is : r.place.backend ≡ b.number → kd ≡ r.place.kind → is_within_limit (most_on b kd) r.pending ≡ is_within_limit r.most r.pending
    most-is e k = ap (λ x. is_within_limit (most_on b x) r.pending) k ∙ ap (λ x. is_within_limit x r.pending) (sym (here.most j b at (sym e)))

    at-index : (t : Bool) → (index_of r == i) ≡ t → ((true && is_within_limit r.most r.pending) && t) ≡ (((r.place.backend == b.number && is_within_limit (most_on b kd) r.pending) && (is_kind kd r.place.kind && true)) && t)
    at-index false t = grind arith
    at-index true t =
        let parts = and_parts (r.place.backend == b.number) (is_kind kd r.place.kind) (both t) in
        let number : r.place.backend ≡ b.number = grind (arith, nat_tests, parts.0) in
        grind (arith, parts.0, parts.1, most-is number (same-kind kd r.place.kind parts.1))

lane-here : (s : Settings) (f : DeskFacts) (kd : ConnKind) (j : ℕ) (b : BackendPlan) (i n : ℕ) (o : Option Conn) → RowIs s f n o → slice_get (backends_of f.tiers) j ≡ Some b → is_in i (places_for f.tiers b.number kd) ≡ true → is_within_limit b.max_pending (pending_at s f b.number) ≡ true → ready_at o i ≡ (is_in n (eligible s f kd b) && (place_index s n == i))
lane-here s f kd j b i n None h at placed room =
    let none : is_in n (eligible s f kd b) ≡ false = in-eligible s f kd b n ∙ ap (λ t. (is_of_backend s b.number n && has_room s f b kd n) && (is_of_kind s kd n && t)) h.viable_is ∙ never (is_of_backend s b.number n && has_room s f b kd n) (is_of_kind s kd n) in
    sym (ap (λ t. t && (place_index s n == i)) none)
  where
    never : (a b : Bool) → (a && (b && false)) ≡ false
    never a b = grind arith
lane-here s f kd j b i n (Some r) h at placed room =
    lane-row s f kd j b i n r h at placed room r.viable refl
    ∙ ap (λ t. t && (index_of r == i)) (sym (row-eligible s f kd b n r h room))
    ∙ ap (λ o. is_in n (eligible s f kd b) && ((elim o [ None ↦ 0 | Some p ↦ p.place - 1 ]) == i)) (sym h.place)

lane-indexes : (s : Settings) (f : DeskFacts) (d : Tables) (kd : ConnKind) (j : ℕ) (v : Server) → Tells s f d → slice_get d.servers.items j ≡ Some v → LaneTells s f v.plan.number kd (lane_of kd v) → is_within_limit v.plan.max_pending (pending_at s f v.plan.number) ≡ true → Indexes s (eligible s f kd v.plan) (lane_of kd v).from (lane_of kd v).to d.ready
lane-indexes s f d kd j v k e l room = record {
  small = λ n h. k.small n (viable-in n h);
  here = λ i n a b m. k.ready i n m ∙ lane-here s f kd j v.plan i n (row_of d.conns n) (k.rows n) (server-plan s f d j v k e) (ap (is_in i) l.places ∙ in-rising (lane_of kd v).from ((lane_of kd v).to - (lane_of kd v).from) i a (omega (arith, a, b))) room;
}
  where
    viable-in : (n : ℕ) → is_in n (eligible s f kd v.plan) ≡ true → is_in n f.viable ≡ true
    viable-in n h = (and_parts (is_of_kind s kd n) (is_in n f.viable) (and_parts (is_of_backend s v.plan.number n && has_room s f v.plan kd n) (is_of_kind s kd n && is_in n f.viable) (sym (in-eligible s f kd v.plan n) ∙ h)).1).1

first-nowhere : (s : Settings) (is : List ℕ) → first_at s [] is ≡ None
first-nowhere s [] = refl
first-nowhere s (i ∷ is) = first-nowhere s is

-- a backend that is full has none
pub full : (s : Settings) (f : DeskFacts) (d : Tables) (kd : ConnKind) (j : ℕ) (v : Server) → Tells s f d → slice_get d.servers.items j ≡ Some v → is_within_limit v.plan.max_pending v.pending ≡ false → connection_for s f kd v.plan ≡ None
full s f d kd j v k e shut =
    let t = server-knows s f d j v k e in
    let closed : is_within_limit v.plan.max_pending (pending_at s f v.plan.number) ≡ false = ap (is_within_limit v.plan.max_pending) t.pending_is ∙ shut in
    let none : eligible s f kd v.plan ≡ [] = filter-none (λ n. is_of_backend s v.plan.number n && has_room s f v.plan kd n) (viable_of s f kd) (λ n _. shut-out (is_of_backend s v.plan.number n) (is_within_limit (most_on v.plan kd) (pending_on f n)) _ closed) in
    ap (λ ns. first_at s ns (place_order f v.plan.number kd)) none ∙ first-nowhere s (place_order f v.plan.number kd)
  where
    shut-out : (a b c : Bool) → c ≡ false → (a && (b && c)) ≡ false
    shut-out a b c e = grind (arith, e)

-- where it isn't full, the first of its places in turn gives it
pub next-is : (s : Settings) (f : DeskFacts) (d : Tables) (kd : ConnKind) (j : ℕ) (v : Server) (lane : Lane) (o : Option ℕ) → Tells s f d → slice_get d.servers.items j ≡ Some v → lane ≡ lane_of kd v → is_within_limit v.plan.max_pending v.pending ≡ true → ((among : List ℕ) → lane.from ≤ lane.to → ForSome lane.last (λ place. (lane.from ≤ place) × (place < lane.to)) → Indexes s among lane.from lane.to d.ready → o ≡ first_at s among (in_turn (λ i. i) lane.last (rising lane.from (lane.to - lane.from)))) → o ≡ connection_for s f kd v.plan
next-is s f d kd j v lane o k e is room next =
    let t = server-knows s f d j v k e in
    let l : LaneTells s f v.plan.number kd lane = rw is (t.lanes kd) in
    let opened : is_within_limit v.plan.max_pending (pending_at s f v.plan.number) ≡ true = ap (is_within_limit v.plan.max_pending) t.pending_is ∙ room in
    next (eligible s f kd v.plan) l.forward l.within (rw is (lane-indexes s f d kd j v k e (t.lanes kd) opened))
    ∙ ap (λ is. first_at s (eligible s f kd v.plan) (in_turn (λ i. i) lane.last is)) (sym l.places)
    ∙ ap (λ last. first_at s (eligible s f kd v.plan) (in_turn (λ i. i) last (places_for f.tiers v.plan.number kd))) (sym l.last_is)
