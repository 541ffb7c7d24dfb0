-- The tables where one operation less is pending on a connection.
use Rattle.std.proofs.Common.{◌≡◌, ◌≢◌, ℕ, zero, suc, ◌+◌, ◌-◌, ◌≤◌, Bool, true, false, ◌==◌, ◌&&◌, ◌||◌, not, if◌then◌else◌, List, [], ◌∷◌, slice_get, slice_set, Option, Some, None, ⊎_elim, refl, sym, ap, ◌∙◌, arith}
use Rattle.std.proofs.lemmas.Bool.{cases_eq}
use Rattle.std.proofs.lemmas.Bool.Decides.{nat_tests}
use Rattle.std.specs.List.{list_any}
use Rattle.lload_names.specs.declared.names.ConnKind.{ConnKind}
use Rattle.lload_names.specs.declared.names.ConnKind.TheVariants.{Regular, Bind}
use Rattle.lload_names.specs.declared.plans.BackendPlan.{BackendPlan}
use Rattle.lload_names.specs.Plans.{backends_of}
use Rattle.lload_spec.specs.Settings.{Settings, is_of_backend}
use Rattle.lload_spec.specs.Choice.{DeskFacts, pending_on, is_within_limit}
use Rattle.ready_set.specs.Keys.{most_conn}
use Rattle.ready_set.specs.Readies.{has}
use Rattle.ready_set.specs.declared.ready.Ready.{Ready}
use Rattle.desk_tables.specs.Pending.{one}
use Rattle.desk_tables.specs.Rows.{row_of, index_of, kept, is_ready}
use Rattle.desk_tables.specs.Lanes.{lane_of}
use Rattle.desk_tables.specs.declared.conns.Conn.{Conn}
use Rattle.desk_tables.specs.declared.servers.Lane.{Lane}
use Rattle.desk_tables.specs.declared.servers.Server.{Server}
use Rattle.desk_choice.specs.Tells.{RowIs, RowTells, NoRowTells, LaneTells, ServerTells, ServerIs, is_current, ready_at, Tells}
use Rattle.desk_choice.specs.declared.tables.Tables.{Tables}
use Rattle.desk_choice.proofs.Eligible.{server-knows, server-plan}
use Rattle.desk_choice.proofs.One.{known}
use Rattle.desk_rules.specs.Counts.{IsLess}
use Rattle.desk_rules.proofs.Changes.{now_with, changed, ready-behind, row-stays, round-stays, server-stays}
use Rattle.desk_rules.proofs.Losses.{plan-stays, row-number}

pub other-one : (u n : ℕ) → n ≢ u → one (u == n) ≡ 0
other-one u n ne = grind (arith, nat_tests)

pub own-one : (u : ℕ) → one (u == u) ≡ 1
own-one u = grind (arith, nat_tests)

pub own-index : (i : ℕ) → (i == i) ≡ true
own-index i = grind (arith, nat_tests)

-- what a kept row says of its place
pub kept-ready : (r : Conn) → ready_at (kept r) (index_of r) ≡ is_ready r
kept-ready r = by (r.pending == 0) r.viable refl
  where
    by : (a b : Bool) → r.viable ≡ b → ready_at (if a && not b then None else Some r) (index_of r) ≡ is_ready r
    by true false e = grind (arith, e)
    by true true e = ap (λ t. is_ready r && t) (own-index (index_of r)) ∙ grind arith
    by false b e = ap (λ t. is_ready r && t) (own-index (index_of r)) ∙ grind arith

pub kept-elsewhere : (r : Conn) (j : ℕ) → j ≢ index_of r → ready_at (kept r) j ≡ false
kept-elsewhere r j ne = by (r.pending == 0 && not r.viable)
  where
    apart : (index_of r == j) ≡ false
    apart = grind (arith, nat_tests)

    by : (b : Bool) → ready_at (if b then None else Some r) j ≡ false
    by true = refl
    by false = ap (λ t. is_ready r && t) apart ∙ grind arith

within-less : (limit m : ℕ) → is_within_limit limit m ≡ true → is_within_limit limit (m - 1) ≡ true
within-less limit m e = grind (arith, nat_tests, e)

abbrev pub less-of : Conn → Conn
less-of r = record r { pending = r.pending - 1 }

ready-less : (r : Conn) → is_ready r ≡ true → is_ready (less-of r) ≡ true
ready-less r e =
    let v : r.viable ≡ true = grind (arith, e) in
    let w : is_within_limit r.most r.pending ≡ true = grind (arith, e) in
    grind (arith, v, within-less r.most r.pending w)

shown-is : (a b c : Bool) → (a ≡ true → b ≡ true) → ((a && true) || (b && not a)) ≡ b
shown-is true b c h = grind (arith, h refl)
shown-is false b c h = grind arith

pub none-of-any : (test : BackendPlan → Bool) (bs : List BackendPlan) (j : ℕ) (b : BackendPlan) → list_any test bs ≡ false → slice_get bs j ≡ Some b → test b ≡ false
none-of-any test [] j b e g = absurd (cc)
none-of-any test (x ∷ bs) zero b e g = let same : x ≡ b = cc in rw (sym same) (grind (arith, e))
none-of-any test (x ∷ bs) (suc j) b e g = none-of-any test bs j b (grind (arith, e)) g

-- another table of what is ready that says the same
pub same-ready : (s : Settings) (f : DeskFacts) (d : Tables) (ready : Ready) → ((i n : ℕ) → has ready i n ≡ has d.ready i n) → Tells s f d → Tells s f (record d { ready = ready })
same-ready s f d ready same k = record { backends_are = k.backends_are; first = k.first; numbered = k.numbered; rounds = k.rounds; servers = k.servers; rows = k.rows; once = k.once; small = k.small; ready = λ i n l. same i n ∙ k.ready i n l }

-- a lane stays
lane-same : (s : Settings) (f : DeskFacts) (ps : List ℕ) (b : ℕ) (kd : ConnKind) (l : Lane) → LaneTells s f b kd l → LaneTells s (now_with f f.viable ps) b kd l
lane-same s f ps b kd l h = record { forward = h.forward; places = h.places; viable_is = h.viable_is; last_is = h.last_is; within = h.within }

pub lane-stays : (s : Settings) (f : DeskFacts) (ps : List ℕ) (b : ℕ) (kd : ConnKind) (v : Server) (m : ℕ) → LaneTells s f b kd (lane_of kd v) → LaneTells s (now_with f f.viable ps) b kd (lane_of kd (record v { pending = m }))
lane-stays s f ps b Regular v m h = lane-same s f ps b Regular v.regular h
lane-stays s f ps b Bind v m h = lane-same s f ps b Bind v.bind h

-- where there is no row
pub released-none : (s : Settings) (f : DeskFacts) (u : ℕ) (ps : List ℕ) (d : Tables) → Tells s f d → row_of d.conns u ≡ None → IsLess u ps f.pending → Tells s (now_with f f.viable ps) d
released-none s f u ps d k was less = record {
  backends_are = k.backends_are;
  first = k.first;
  numbered = k.numbered;
  rounds = λ i. round-stays f f.viable ps i _ _ (k.rounds i);
  servers = λ j. stays j (slice_get d.servers.items j) refl (k.servers j);
  rows = λ n. ⊎_elim (λ (is : n ≡ u). rw is (rw was gone)) (λ (ne : n ≢ u). row-stays s f f.viable ps n (row_of d.conns n) refl (omega (arith, less (λ m. m == n), other-one u n ne)) (k.rows n)) (cases_eq n u);
  once = k.once;
  small = k.small;
  ready = k.ready;
}
  where
    row : NoRowTells s f u
    row = rw was at (k.rows u)

    pending : pending_on (now_with f f.viable ps) u + 1 ≡ pending_on f u
    pending = omega (arith, less (λ m. m == u), own-one u)

    not-current : (b : Bool) → is_current s f u ≡ b → b ≡ false
    not-current false e = refl
    not-current true e = absurd (omega (arith, row.pending_is e, pending))

    gone : NoRowTells s (now_with f f.viable ps) u
    gone = record { viable_is = row.viable_is; pending_is = λ c. absurd (let bad : false ≡ true = sym (not-current (is_current s f u) refl) ∙ c in cc) }

    stays : (j : ℕ) (o : Option Server) → slice_get d.servers.items j ≡ o → ServerIs s f o → ServerIs s (now_with f f.viable ps) o
    stays j None e h = h
    stays j (Some v) e h =
        let apart : is_of_backend s v.plan.number u ≡ false = none-of-any (λ b. is_of_backend s b.number u) (backends_of f.tiers) j v.plan (not-current (is_current s f u) refl) (server-plan s f d j v k e) in
        server-stays s f f.viable ps v (omega (arith, less (is_of_backend s v.plan.number), ap one apart)) (λ kd. refl) h

module _ (s : Settings) (f : DeskFacts) (u : ℕ) (ps : List ℕ) (r : Conn) (v : Server) (d : Tables) (k : Tells s f d) (small : u ≤ most_conn) (was : row_of d.conns u ≡ Some r) (at : slice_get d.servers.items r.spot.server ≡ Some v) (less : IsLess u ps f.pending) where
  abbrev g : DeskFacts
  g = now_with f f.viable ps

  row : RowTells s f u r
  row = known s f u (row_of d.conns u) r was (k.rows u)

  number : r.place.backend ≡ v.plan.number
  number = row-number s f u r v d k was at

  pending : pending_on g u + 1 ≡ r.pending
  pending = omega (arith, less (λ m. m == u), own-one u, row.pending_is)

  of-backend : (b : ℕ) → is_of_backend s b u ≡ (r.place.backend == b)
  of-backend b = ap (λ o. elim o [ None ↦ false | Some p ↦ p.backend == b ]) row.place

  abbrev after : Server
  after = record v { pending = v.pending - 1 }

  server : ServerTells s g after
  server =
      let t = server-knows s f d r.spot.server v k at in
      let own : is_of_backend s v.plan.number u ≡ true = of-backend v.plan.number ∙ grind (arith, nat_tests, number) in
      record {
        pending_is = omega (arith, less (is_of_backend s v.plan.number), ap one own, t.pending_is);
        lanes = λ kd. lane-stays s f ps v.plan.number kd v (v.pending - 1) (t.lanes kd);
      }

  kept-row : (b : Bool) → ((r.pending - 1) == 0 && not r.viable) ≡ b → RowIs s g u (if b then None else Some (less-of r))
  kept-row true e =
      let zero : r.pending - 1 ≡ 0 = grind (arith, nat_tests, e) in
      let idle : r.viable ≡ false = grind (arith, e) in
      record { viable_is = row.viable_is ∙ idle; pending_is = λ c. omega (arith, pending, zero) }
  kept-row false e = record { place = row.place; viable_is = row.viable_is; pending_is = omega (arith, pending); in_plan = plan-stays f.tiers r r.viable (r.pending - 1) row.in_plan }

  was-ready : has d.ready (index_of r) u ≡ (is_ready r && true)
  was-ready = k.ready (index_of r) u small ∙ ap (λ o. ready_at o (index_of r)) was ∙ ap (λ t. is_ready r && t) (own-index (index_of r))

  not-there : (j : ℕ) → j ≢ index_of r → ready_at (row_of d.conns u) j ≡ false
  not-there j ne = rw was (grind (arith, nat_tests, ne))

  pub released-tells : (e : Tables) → row_of e.conns u ≡ kept (less-of r) → ((n : ℕ) → n ≢ u → row_of e.conns n ≡ row_of d.conns n) → has e.ready (index_of r) u ≡ (has d.ready (index_of r) u || (is_ready (less-of r) && not (is_ready r))) → ((j n : ℕ) → n ≤ most_conn → (j == index_of r && n == u) ≡ false → has e.ready j n ≡ has d.ready j n) → e.rounds.items ≡ d.rounds.items → e.servers.items ≡ slice_set d.servers.items r.spot.server after → Tells s g e
  released-tells e is others shown apart rounds servers =
      let here = shown ∙ ap (λ t. t || (is_ready (less-of r) && not (is_ready r))) was-ready ∙ shown-is (is_ready r) (is_ready (less-of r)) true (ready-less r) ∙ sym (kept-ready (less-of r)) ∙ ap (λ o. ready_at o (index_of r)) (sym is) in
      changed s f f.viable ps u r.spot.server v after d e k (record {
        other_viable = λ n ne. refl;
        other_pending = λ n ne. omega (arith, less (λ m. m == n), other-one u n ne);
        once = k.once;
        small = k.small;
        row = rw is (kept-row ((r.pending - 1) == 0 && not r.viable) refl);
        other_rows = others;
        ready = ready-behind d e u (index_of r) k.ready others apart here (λ j ne. not-there j ne ∙ sym (ap (λ o. ready_at o j) is ∙ kept-elsewhere (less-of r) j ne));
        rounds = rounds;
        before = at;
        behind = servers;
        plan = refl;
        server = server;
        other_servers = λ x ne t. server-stays s f f.viable ps x (omega (arith, less (is_of_backend s x.plan.number), other-backend x.plan.number ne)) (λ kd. refl) t;
      })
    where
      other-backend : (b : ℕ) → b ≢ v.plan.number → one (is_of_backend s b u) ≡ 0
      other-backend b ne = ap one (of-backend b) ∙ grind (arith, nat_tests, number)
