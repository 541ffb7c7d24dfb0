-- The tables where one operation more is pending on a connection.
use Rattle.std.proofs.Common.{◌≡◌, ◌≢◌, ℕ, ◌+◌, ◌≤◌, Bool, true, false, ◌==◌, ◌&&◌, List, slice_get, slice_set, Some, None, refl, sym, ap, ◌∙◌, arith}
use Rattle.std.proofs.lemmas.Bool.Decides.{nat_tests}
use Rattle.lload_spec.specs.Settings.{Settings, is_of_backend}
use Rattle.lload_spec.specs.Choice.{DeskFacts, is_within_limit}
use Rattle.ready_set.specs.Keys.{most_conn, is_in}
use Rattle.ready_set.specs.Readies.{has}
use Rattle.desk_tables.specs.Pending.{one}
use Rattle.desk_tables.specs.Rows.{row_of, index_of, kept, is_ready}
use Rattle.desk_tables.specs.declared.conns.Conn.{Conn}
use Rattle.desk_tables.specs.declared.servers.Server.{Server}
use Rattle.desk_choice.specs.Tells.{RowTells, ServerTells, ready_at, Tells}
use Rattle.desk_choice.specs.declared.tables.Tables.{Tables}
use Rattle.desk_choice.proofs.Eligible.{server-knows}
use Rattle.desk_choice.proofs.One.{known}
use Rattle.desk_rules.specs.Counts.{IsLess}
use Rattle.desk_rules.proofs.Changes.{now_with, changed, ready-behind, server-stays}
use Rattle.desk_rules.proofs.Losses.{plan-stays, row-number, no-row}
use Rattle.desk_rules.proofs.Releases.{other-one, own-one, own-index, kept-ready, kept-elsewhere, lane-stays}

abbrev pub more-of : Conn → Conn
more-of r = record r { pending = r.pending + 1 }

within-more : (limit m : ℕ) → is_within_limit limit (m + 1) ≡ true → is_within_limit limit m ≡ true
within-more limit m e = grind (arith, nat_tests, e)

ready-more : (r : Conn) → is_ready (more-of r) ≡ true → is_ready r ≡ true
ready-more r e =
    let v : r.viable ≡ true = grind (arith, e) in
    let w : is_within_limit r.most (r.pending + 1) ≡ true = grind (arith, e) in
    grind (arith, v, within-more r.most r.pending w)

hidden-is : (a b : Bool) → (b ≡ true → a ≡ true) → ((a && true) && b) ≡ b
hidden-is a true h = grind (arith, h refl)
hidden-is a false h = grind arith

-- a viable connection has a row
pub viable-has-row : (s : Settings) (f : DeskFacts) (u : ℕ) (d : Tables) → Tells s f d → row_of d.conns u ≡ None → is_in u f.viable ≡ true → true ≡ false
viable-has-row s f u d k e v = sym v ∙ no-row s f u d k e

module _ (s : Settings) (f : DeskFacts) (u : ℕ) (ps : List ℕ) (r : Conn) (v : Server) (d : Tables) (k : Tells s f d) (small : u ≤ most_conn) (was : row_of d.conns u ≡ Some r) (at : slice_get d.servers.items r.spot.server ≡ Some v) (more : IsLess u f.pending ps) where
  abbrev g : DeskFacts
  g = now_with f f.viable ps

  row : RowTells s f u r
  row = known s f u (row_of d.conns u) r was (k.rows u)

  number : r.place.backend ≡ v.plan.number
  number = row-number s f u r v d k was at

  of-backend : (b : ℕ) → is_of_backend s b u ≡ (r.place.backend == b)
  of-backend b = ap (λ o. elim o [ None ↦ false | Some p ↦ p.backend == b ]) row.place

  abbrev after : Server
  after = record v { pending = v.pending + 1 }

  server : ServerTells s g after
  server =
      let t = server-knows s f d r.spot.server v k at in
      let own : is_of_backend s v.plan.number u ≡ true = of-backend v.plan.number ∙ grind (arith, nat_tests, number) in
      record {
        pending_is = omega (arith, more (is_of_backend s v.plan.number), ap one own, t.pending_is);
        lanes = λ kd. lane-stays s f ps v.plan.number kd v (v.pending + 1) (t.lanes kd);
      }

  kept-more : kept (more-of r) ≡ Some (more-of r)
  kept-more = let some : ((r.pending + 1) == 0) ≡ false = grind (arith, nat_tests) in rw some refl

  was-ready : has d.ready (index_of r) u ≡ (is_ready r && true)
  was-ready = k.ready (index_of r) u small ∙ ap (λ o. ready_at o (index_of r)) was ∙ ap (λ t. is_ready r && t) (own-index (index_of r))

  not-there : (j : ℕ) → j ≢ index_of r → ready_at (row_of d.conns u) j ≡ false
  not-there j ne = rw was (grind (arith, nat_tests, ne))

  new-row : RowTells s g u (more-of r)
  new-row = record {
    place = row.place;
    viable_is = row.viable_is;
    pending_is = omega (arith, more (λ m. m == u), own-one u, row.pending_is);
    in_plan = plan-stays f.tiers r r.viable (r.pending + 1) row.in_plan;
  }

  pub taken-tells : (e : Tables) → row_of e.conns u ≡ kept (more-of r) → ((n : ℕ) → n ≢ u → row_of e.conns n ≡ row_of d.conns n) → has e.ready (index_of r) u ≡ (has d.ready (index_of r) u && is_ready (more-of r)) → ((j n : ℕ) → n ≤ most_conn → (j == index_of r && n == u) ≡ false → has e.ready j n ≡ has d.ready j n) → e.rounds.items ≡ d.rounds.items → e.servers.items ≡ slice_set d.servers.items r.spot.server after → Tells s g e
  taken-tells e is others hidden apart rounds servers =
      let here = hidden ∙ ap (λ t. t && is_ready (more-of r)) was-ready ∙ hidden-is (is_ready r) (is_ready (more-of r)) (ready-more r) ∙ sym (kept-ready (more-of r)) ∙ ap (λ o. ready_at o (index_of r)) (sym is) in
      changed s f f.viable ps u r.spot.server v after d e k (record {
        other_viable = λ n ne. refl;
        other_pending = λ n ne. omega (arith, more (λ m. m == n), other-one u n ne);
        once = k.once;
        small = k.small;
        row = rw (is ∙ kept-more) new-row;
        other_rows = others;
        ready = ready-behind d e u (index_of r) k.ready others apart here (λ j ne. not-there j ne ∙ sym (ap (λ o. ready_at o j) is ∙ kept-elsewhere (more-of r) j ne));
        rounds = rounds;
        before = at;
        behind = servers;
        plan = refl;
        server = server;
        other_servers = λ x ne t. server-stays s f f.viable ps x (omega (arith, more (is_of_backend s x.plan.number), other-backend x.plan.number ne)) (λ kd. refl) t;
      })
    where
      other-backend : (b : ℕ) → b ≢ v.plan.number → one (is_of_backend s b u) ≡ 0
      other-backend b ne = ap one (of-backend b) ∙ grind (arith, nat_tests, number)
