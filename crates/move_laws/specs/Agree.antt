-- What the rows and letters of one operation say of each other, in numbers.
use Rattle.std.specs.Prelude.{◌≡◌, ℕ, ◌+◌, ◌≤◌, Bool, true, false, not, List}
use Rattle.move_laws.specs.World.{Kinds, World, Client, Conn, Desk, ToDesk, ToChooser, ToConn, ToClient, Report, at, some_at, is, holds}
use Rattle.move_laws.specs.Counts.{num, asks, returns, choices, gos, forwards, firsts, drops, lasts, mores, endeds, ups, retireds, downs, FlagsOrdered, DropsLast, LastsLast}

-- The way to a connection: `asked` and `sent` of the client's row (`sent`: it has a connection), `asks` and `choices`
-- that wait, `took` at the desk, `chosen` and `live` at the client.
pub record Asking (k next asked asks took choices chosen sent live : ℕ) : Type 0 where
  pub one : asked ≡ asks + took
  pub told : took ≡ choices + chosen
  pub fresh : next ≤ k → asked + sent + live ≡ 0
  pub late : sent + asked ≤ 1 + chosen
  pub goes : live + chosen ≤ 1 + sent
  pub alive : live ≤ asked + sent

abbrev pub AskingOf : ℕ → Client → ℕ → ℕ → ℕ → Type 0
AskingOf k x asks took choices =
    Asking k x.next (num (x.asked k)) asks took choices (num (x.chosen k)) (num (some_at (x.given k))) (num (x.live k))

abbrev pub AskingAt : World → ℕ → ℕ → Type 0
AskingAt w c k = AskingOf k (w.clients c) (asks k (w.to_desk c)) (num (w.desk.took c k)) (choices k (w.choices c))

-- At one connection: `given` it by the client, `forwards` that wait, `taken`; its `row`, whether it was `answered`;
-- `lasts` and `mores` that wait, `closed` and `live` at the client; `drops` that wait, `dropped`.
pub record Routed (given forwards taken row answered lasts closed mores live drops dropped : ℕ) : Type 0 where
  pub sent : given ≡ forwards + taken
  pub one : row + answered ≤ taken
  pub told : lasts + closed ≡ answered
  pub over : closed ≡ 1 → mores ≡ 0
  pub after : taken ≡ 0 → mores ≡ 0
  pub ended : live + closed ≤ 1
  pub once : drops + dropped ≤ given
  pub left : live + drops + dropped ≤ 1
  pub has : taken ≤ row + answered + dropped

abbrev pub RoutedOf : ℕ → ℕ → ℕ → Client → Conn → List ToConn → List ToClient → Type 0
RoutedOf c k u x v q r =
    Routed (num (at (x.given k) u)) (forwards k q) (num (v.taken c k)) (num (v.rows c k)) (num (v.answered c k))
    (lasts k r) (num (x.closed k u)) (mores k r) (num (x.live k)) (drops k q) (num (v.dropped c k))

pub record RoutedAt (w : World) (c k u : ℕ) : Type 0 where
  pub routed : RoutedOf c k u (w.clients c) (w.conns u) (w.to_conn c u) (w.to_client c u)
  pub drops_last : DropsLast k (w.to_conn c u)
  pub lasts_last : LastsLast k (w.to_client c u)

abbrev pub same : Bool → Bool → Bool
same true b = b
same false b = not b

-- The kinds fit: `gos` that wait, `given` the connection, `hold` of it by this operation, `asked`.
pub record Fitting (alike bind gos given hold asked : ℕ) : Type 0 where
  pub kind : alike ≡ 0 → gos + given ≡ 0
  pub bound : bind ≡ 0 → hold ≡ 0
  pub own : hold ≤ given
  pub wanted : hold ≤ asked

abbrev pub FittingOf : Kinds → ℕ → ℕ → ℕ → Client → List ToChooser → Type 0
FittingOf kinds c k u x qc =
    Fitting (num (same (kinds.bind_conn u) (kinds.bind_op c k))) (num (kinds.bind_conn u)) (gos k u qc)
    (num (at (x.given k) u)) (num (holds x.hold u k)) (num (x.asked k))

abbrev pub FittingAt : Kinds → World → ℕ → ℕ → ℕ → Type 0
FittingAt kinds w c k u = FittingOf kinds c k u (w.clients c) (w.choices c)

-- At the desk: `pending` on the connection, `gos` and `returns` that wait, what `stands` there or is on its way there,
-- `ends` that wait, `took` its Ask.
pub record Pended (pending gos returns stands ends took : ℕ) : Type 0 where
  pub sum : pending ≡ gos + returns + stands + ends
  pub asked : pending ≤ took

abbrev pub PendedOf : ℕ → ℕ → ℕ → Desk → List ToDesk → List ToChooser → List Report → ℕ → Type 0
PendedOf c k u d qd qc rs stands =
    Pended (num (d.pending c k u)) (gos k u qc) (returns k u qd) stands (endeds c k rs) (num (d.took c k))

-- on a regular connection the operation stands there, on a bind connection its holder
abbrev pub stands_at : Bool → ℕ → ℕ → Conn → List ToConn → ℕ
stands_at false c k v q = forwards k q + num (v.rows c k)
stands_at true c k v q = firsts k q + num (is v.holder c k)

abbrev pub PendedAt : Kinds → World → ℕ → ℕ → ℕ → Type 0
PendedAt kinds w c k u =
    PendedOf c k u w.desk (w.to_desk c) (w.choices c) (w.reports u)
    (stands_at (kinds.bind_conn u) c k (w.conns u) (w.to_conn c u))

-- What a connection told of its state, by what it is, what waits, and what the desk heard.
pub record Flagged (up retired down ups retireds downs heard_up heard_retired heard_down : ℕ) : Type 0 where
  pub come : up ≡ ups + heard_up
  pub tired : retired ≡ retireds + heard_retired
  pub broken : down ≡ downs + heard_down
  pub up_first : 1 ≤ heard_retired + heard_down → ups ≡ 0
  pub down_last : 1 ≤ heard_down → retireds ≡ 0

abbrev pub FlaggedOf : ℕ → Conn → Desk → List Report → Type 0
FlaggedOf u v d rs =
    Flagged (num v.up) (num v.retired) (num v.down) (ups rs) (retireds rs) (downs rs) (num (d.up u))
    (num (d.retired u)) (num (d.down u))

pub record FlaggedAt (w : World) (u : ℕ) : Type 0 where
  pub flagged : FlaggedOf u (w.conns u) w.desk (w.reports u)
  pub flags_ordered : FlagsOrdered (w.reports u)
