-- The tables where an operation ended with its latency.
use Rattle.std.proofs.Common.{◌≡◌, ◌≢◌, ℕ, ◌≤◌, ◌==◌, List, slice_get, Option, Some, None, refl, ap, sym, arith}
use Rattle.lload_spec.specs.Settings.{Settings}
use Rattle.lload_spec.specs.Choice.{DeskFacts, pending_on}
use Rattle.desk_tables.specs.Rows.{row_of}
use Rattle.desk_tables.specs.Turns.{Turn}
use Rattle.desk_tables.specs.declared.conns.Conn.{Conn}
use Rattle.desk_choice.specs.Tells.{Tells}
use Rattle.desk_choice.specs.declared.tables.Tables.{Tables}
use Rattle.desk_rules.specs.Counts.{IsLess}
use Rattle.desk_rules.specs.Latencies.{with_means, AreRings, IsTold, IsHeard}
use Rattle.desk_rules.proofs.Changes.{now_with, round-stays}
use Rattle.desk_rules.proofs.Releases.{own-one}
use Rattle.desk_rules.proofs.Hearing.{row-heard, server-heard, none-tells, none-rings, heard-tells, heard-rings, turn}

module _ (s : Settings) (f : DeskFacts) (u latency : ℕ) (less : List ℕ) (before after : ℕ → List ℕ) (told : IsTold s u latency before after) (fewer : IsLess u less f.pending) where
  abbrev g : DeskFacts
  g = now_with f f.viable less

  pub some-pending : 1 ≤ pending_on f u
  some-pending = omega (arith, fewer (λ m. m == u), own-one u)

  -- tiers that heard it, and all else with an operation less
  joined : (d e x : Tables) → Tells s (with_means f after) d → Tells s (with_means g before) e → x.rounds.items ≡ d.rounds.items → x.servers ≡ e.servers → x.conns ≡ e.conns → x.ready ≡ e.ready → Tells s (with_means g after) x
  joined d e x k l rounds servers conns ready = record {
    backends_are = rw servers l.backends_are;
    first = l.first;
    numbered = l.numbered;
    rounds = λ i. rw rounds (round-stays (with_means f after) f.viable less i _ _ (k.rounds i));
    servers = λ j. rw servers (server-heard s g u latency before after told (slice_get e.servers.items j) (l.servers j));
    rows = λ n. rw conns (row-heard s g u latency before after told n (row_of e.conns n) (l.rows n));
    once = l.once;
    small = l.small;
    ready = λ j n q. rw (ready, conns) (l.ready j n q);
  }

  module _ (d e : Tables) (k : Tells s (with_means f before) d) (rings : AreRings f.tiers before d.rounds.items) (l : Tells s (with_means g before) e) (stay : e.rounds ≡ d.rounds) where
    -- without a row
    pub ended-none : row_of d.conns u ≡ None → Tells s (with_means g after) e
    ended-none was = joined d e e (none-tells s f u latency before after told d k some-pending rings was) l (ap (λ x. x.items) stay) refl refl refl

    pub rings-none : row_of d.conns u ≡ None → AreRings f.tiers after e.rounds.items
    rings-none was = rw stay (none-rings s f u latency before after told d k some-pending rings was)

    -- with one
    module _ (r : Conn) (was : row_of d.conns u ≡ Some r) where
      abbrev x : (x : Turn) × (slice_get d.rounds.items r.spot.tier ≡ Some x)
      x = turn s f u latency before after told d k some-pending rings r was

      pub ended-tells : (y : Tables) → IsHeard r.spot.place latency x.0 (slice_get y.rounds.items r.spot.tier) → ((j : ℕ) → j ≢ r.spot.tier → slice_get y.rounds.items j ≡ slice_get d.rounds.items j) → y.servers ≡ e.servers → y.conns ≡ e.conns → y.ready ≡ e.ready → Tells s (with_means g after) y
      ended-tells y here others servers conns ready =
          let z : Tables = record d { rounds = y.rounds } in
          joined z e y (heard-tells s f u latency before after told d k some-pending rings r was z here others refl refl refl) l refl servers conns ready

      pub ended-rings : (turns : List Turn) → IsHeard r.spot.place latency x.0 (slice_get turns r.spot.tier) → ((j : ℕ) → j ≢ r.spot.tier → slice_get turns j ≡ slice_get d.rounds.items j) → AreRings f.tiers after turns
      ended-rings turns here others = heard-rings s f u latency before after told d k some-pending rings r was turns here others
