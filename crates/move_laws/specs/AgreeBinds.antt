-- What is said beside this of Binds, of bind connections and of their holders.
use Rattle.std.specs.Prelude.{◌≡◌, ℕ, ◌+◌, ◌≤◌, Bool, true, false, ◌==◌, ◌&&◌, ◌||◌, not, List, Option, Some, None}
use Rattle.move_laws.specs.World.{Op, Kinds, World, Client, Conn, ToConn, ToClient, at, is, holds, vacant}
use Rattle.move_laws.specs.Agree.{AskingAt, RoutedAt, FittingAt, PendedAt, FlaggedAt}
use Rattle.move_laws.specs.AgreePauses.{BegunAt, PausingAt}
use Rattle.move_laws.specs.Counts.{num, drops, forwards, firsts, sends, unders, leaves, finals, LeavesLast}

-- A Bind that was `given` a connection and isn't `closed`, or is `live`, is the client's last one: `ongoing` where
-- it is the last and is live or its client is gone, `now` where it is the last and is live.
pub record Last (given closed live ongoing now : ℕ) : Type 0 where
  pub going : given ≤ closed + ongoing
  pub alive : live ≤ now

abbrev pub LastOf : ℕ → ℕ → Client → Type 0
LastOf k u x =
    Last (num (at (x.given k) u)) (num (x.closed k u)) (num (x.live k))
    (num ((k == x.current) && (x.busy || x.gone))) (num ((k == x.current) && x.busy))

abbrev pub LastAt : World → ℕ → ℕ → ℕ → Type 0
LastAt w c k u = LastOf k u (w.clients c)

-- the Forwards that wait for a bind connection are of the last Bind
abbrev pub OneSent : World → ℕ → ℕ → Type 0
OneSent w c u = sends (w.to_conn c u) ≡ forwards (w.clients c).current (w.to_conn c u)

abbrev pub client_is : Option Op → ℕ → Bool
client_is None c = false
client_is (Some o) c = c == o.client

-- the holder that a connection had when it went down: it has none since, and was freed
pub record Lost (v : Conn) : Type 0 where
  pub down : num (not (vacant v.lost)) ≤ num v.down
  pub alone : num (not (vacant v.lost)) + num (not (vacant v.holder)) ≤ 1
  pub freed : (c h : ℕ) → num (is v.lost c h) ≤ num (v.freed c h)

-- a live Bind stands on a bind connection as the one, and its client has the holder
pub record Stands (row now holder : ℕ) : Type 0 where
  pub one : row ≡ now
  pub under : now ≤ holder

abbrev pub StandsOf : ℕ → ℕ → Conn → Type 0
StandsOf c k v = Stands (num (v.rows c k)) (num (is v.now c k)) (num (client_is v.holder c))

-- A holder: `asked` for, `given` the connection; its own `forwards` that wait and `taken`; `firsts` and `unders` that
-- wait; `held` or `freed` at the connection; `hold` at the client; `leaves` that wait, `left`; whether the connection lost
-- it when it went down; `finals` of the last Bind that wait.
pub record Holding (asked given forwards taken firsts unders held freed hold leaves left lost finals : ℕ)
    : Type 0 where
  pub first : asked ≡ 1 → firsts ≡ forwards
  pub stood : asked ≡ 1 → held + freed ≡ taken
  pub pinned : asked ≡ 0 → firsts + held + freed + unders ≡ 0
  pub sound : given ≡ 0 → unders ≡ 0
  pub kept : 1 ≤ hold + unders → 1 ≤ held + firsts + lost + finals
  pub once : leaves + left + hold ≤ given
  pub wanted : leaves + left ≤ asked

abbrev pub HoldingOf : ℕ → ℕ → ℕ → Client → Conn → List ToConn → List ToClient → Type 0
HoldingOf c h u x v q r =
    Holding (num (x.asked h)) (num (at (x.given h) u)) (forwards h q) (num (v.taken c h)) (firsts h q) (unders h q)
    (num (is v.holder c h)) (num (v.freed c h)) (num (holds x.hold u h)) (leaves h q) (num (v.left c h))
    (num (is v.lost c h)) (finals x.current r)

pub record HoldingAt (w : World) (c h u : ℕ) : Type 0 where
  pub holding : HoldingOf c h u (w.clients c) (w.conns u) (w.to_conn c u) (w.to_client c u)
  pub leaves_last : LeavesLast h (w.to_conn c u)

-- whom the desk knows as pending on a bind connection
abbrev pub UserAt : World → ℕ → ℕ → ℕ → Type 0
UserAt w c k u = num (w.desk.pending c k u) ≤ num (is (w.desk.user u) c k)

-- no Bind is dropped, and no regular connection is left: by `op`, whether it is a Bind, and `bind`, whether the connection
-- serves Binds
pub record Suited (op bind drops leaves : ℕ) : Type 0 where
  pub no_drop : op ≡ 1 → drops ≡ 0
  pub no_leave : bind ≡ 0 → leaves ≡ 0

abbrev pub SuitedOf : Kinds → ℕ → ℕ → ℕ → List ToConn → Type 0
SuitedOf kinds c k u q = Suited (num (kinds.bind_op c k)) (num (kinds.bind_conn u)) (drops k q) (leaves k q)

-- all of it, of every operation and connection
pub record Holds (kinds : Kinds) (w : World) : Type 0 where
  pub asking : (c k : ℕ) → AskingAt w c k
  pub routed : (c k u : ℕ) → RoutedAt w c k u
  pub fitting : (c k u : ℕ) → FittingAt kinds w c k u
  pub pended : (c k u : ℕ) → PendedAt kinds w c k u
  pub flagged : (u : ℕ) → FlaggedAt w u
  pub suited : (c k u : ℕ) → SuitedOf kinds c k u (w.to_conn c u)
  pub last : (c k u : ℕ) → kinds.bind_op c k ≡ true → LastAt w c k u
  pub one_sent : (c u : ℕ) → kinds.bind_conn u ≡ true → OneSent w c u
  pub stands : (c k u : ℕ) → kinds.bind_conn u ≡ true → StandsOf c k (w.conns u)
  pub holding : (c h u : ℕ) → kinds.bind_conn u ≡ true → HoldingAt w c h u
  pub user : (c k u : ℕ) → kinds.bind_conn u ≡ true → UserAt w c k u
  pub lost : (u : ℕ) → Lost (w.conns u)
  pub begun : (c k u : ℕ) → BegunAt w c k u
  pub pausing : (c u : ℕ) → PausingAt kinds w c u
