-- When the first letter of a queue is fit in its receiver's state.
use Rattle.std.specs.Prelude.{◌≡◌, ℕ, ◌+◌, ◌==◌, true, false, not, if◌then◌else◌, List, [], ◌∷◌}
use Rattle.move_laws.specs.World.{Kinds, World, Client, Conn, Desk, ToDesk, Ask, Returned, ToChooser, Choice, ToConn, Forward, Drop, Leave, Signal, ToClient, Reply, Failed, Report, Ended, IsUp, IsRetired, IsDown, Move, at, some_at, is}
use Rattle.move_laws.specs.Moves.{moves, empty}
use Rattle.move_laws.specs.Counts.{num}

-- a choice: it was asked for, none came yet, and its connection is of the kind
abbrev pub FitChoice : Kinds → ℕ → Client → List ToChooser → Type 0
FitChoice kinds c x [] = Unit {0}
FitChoice kinds c x (Choice k a ∷ ls) =
    (x.asked k ≡ true) × (x.chosen k ≡ false) × ((u : ℕ) → at a u ≡ true → kinds.bind_conn u ≡ kinds.bind_op c k)

-- an answer: the operation was forwarded to the sender, and no last answer was taken
abbrev pub FitAnswer : ℕ → Client → List ToClient → Type 0
FitAnswer u x [] = Unit {0}
FitAnswer u x (Reply k last stay ∷ ls) = (at (x.given k) u ≡ true) × (x.closed k u ≡ false)
FitAnswer u x (Failed k ∷ ls) = (at (x.given k) u ≡ true) × (x.closed k u ≡ false)

-- a bind connection may take a Bind of client c under holder h: none is live, and there is no other holder
pub record Free (v : Conn) (c h : ℕ) : Type 0 where
  pub idle : (a j : ℕ) → v.rows a j ≡ false
  pub mine : (a j : ℕ) → is v.holder a j ≡ true → (a ≡ c) × (j ≡ h)

-- its holder is the operation itself, or holds the connection, or held it when it went down
abbrev pub Held : Conn → ℕ → ℕ → ℕ → Type 0
Held v c k h = num (h == k) + num (is v.holder c h) + num (is v.lost c h) ≡ 1

-- an order: a Forward is the first of its operation, a Drop or a Leave comes behind it and once,
-- and pauses and their ends alternate
abbrev pub FitOrder : Kinds → ℕ → ℕ → Conn → List ToConn → Type 0
FitOrder kinds c u v [] = Unit {0}
FitOrder kinds c u v (Forward k h ∷ ls) =
    (v.taken c k ≡ false) × (kinds.bind_conn u ≡ kinds.bind_op c k)
    × (kinds.bind_conn u ≡ true → Free v c h × Held v c k h)
FitOrder kinds c u v (Drop k ∷ ls) = (v.taken c k ≡ true) × (v.dropped c k ≡ false) × (kinds.bind_conn u ≡ false)
FitOrder kinds c u v (Leave h ∷ ls) = (v.taken c h ≡ true) × (v.left c h ≡ false) × (kinds.bind_conn u ≡ true)
FitOrder kinds c u v (Signal b ∷ ls) = (v.paused c ≡ not b) × (kinds.bind_conn u ≡ false)

-- a connection to which an order goes has come up
abbrev pub Begins : Conn → List ToConn → Type 0
Begins v [] = Unit {0}
Begins v (l ∷ ls) = v.up ≡ true

-- at the desk: an Ask is the first of its operation, and what is returned is pending
abbrev pub FitAsk : ℕ → Desk → List ToDesk → Type 0
FitAsk c d [] = Unit {0}
FitAsk c d (Ask k ∷ ls) = d.took c k ≡ false
FitAsk c d (Returned k u ∷ ls) = d.pending c k u ≡ true

-- what ended is pending, and each state comes at most once, in order
abbrev pub FitReport : ℕ → Desk → List Report → Type 0
FitReport u d [] = Unit {0}
FitReport u d (Ended c k ∷ ls) = d.pending c k u ≡ true
FitReport u d (IsUp ∷ ls) = (d.up u ≡ false) × (d.retired u ≡ false) × (d.down u ≡ false)
FitReport u d (IsRetired ∷ ls) = (d.retired u ≡ false) × (d.down u ≡ false)
FitReport u d (IsDown ∷ ls) = d.down u ≡ false

-- every letter at the front of a queue is fit
pub record AllFit (kinds : Kinds) (w : World) : Type 0 where
  pub choice : (c : ℕ) → FitChoice kinds c (w.clients c) (w.choices c)
  pub answer : (c u : ℕ) → FitAnswer u (w.clients c) (w.to_client c u)
  pub order : (c u : ℕ) → FitOrder kinds c u (w.conns u) (w.to_conn c u)
  pub begins : (c u : ℕ) → Begins (w.conns u) (w.to_conn c u)
  pub asking : (c : ℕ) → FitAsk c w.desk (w.to_desk c)
  pub report : (u : ℕ) → FitReport u w.desk (w.reports u)

-- nothing waits
pub record Still (w : World) : Type 0 where
  pub to_desk : (c : ℕ) → w.to_desk c ≡ []
  pub choices : (c : ℕ) → w.choices c ≡ []
  pub to_conn : (c u : ℕ) → w.to_conn c u ≡ []
  pub to_client : (c u : ℕ) → w.to_client c u ≡ []
  pub reports : (u : ℕ) → w.reports u ≡ []

-- where nothing waits, a live operation stands at one connection, pending is what stands there, and a connection pauses
-- for the clients that pause it
pub record Settled (kinds : Kinds) (w : World) : Type 0 where
  pub somewhere : (c k : ℕ) → (w.clients c).live k ≡ true → some_at ((w.clients c).given k) ≡ true
  pub there : (c k u : ℕ) → (w.clients c).live k ≡ true → at ((w.clients c).given k) u ≡ true
      → (w.conns u).rows c k ≡ true
  pub nowhere : (c k u : ℕ) → at ((w.clients c).given k) u ≡ false → (w.conns u).rows c k ≡ false
  pub pending : (c k u : ℕ)
      → w.desk.pending c k u ≡ (if kinds.bind_conn u then is (w.conns u).holder c k else (w.conns u).rows c k)
  pub pausing : (c u : ℕ) → (w.conns u).paused c ≡ (w.clients c).paused u

-- the law: after every list of moves
abbrev pub Law : Type 0
Law =
    (kinds : Kinds) (ms : List Move) → AllFit kinds (moves kinds empty ms)
    × (Still (moves kinds empty ms) → Settled kinds (moves kinds empty ms))
