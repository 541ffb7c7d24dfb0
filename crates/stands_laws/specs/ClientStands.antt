-- What a client's state, with what is expected, says of the machine's client.
use Rattle.std.specs.Prelude.{◌≡◌, ℕ, zero, suc, ◌<◌, Bool, true, false, ◌==◌, ◌&&◌, not, if◌then◌else◌, List, [], ◌∷◌, ◌++◌, find, Option, Some, None, is_some}
use Rattle.std.specs.List.{list_any}
use Rattle.ldap_spec.specs.Kinds.{kind_of}
use Rattle.lload_names.specs.declared.names.ConnKind.TheVariants.{Bind as BindKind}
use Rattle.lload_names.specs.declared.names.PartName.TheVariants.{Up as Connection}
use Rattle.lload_spec.specs.Settings.{Settings, is_kind}
use Rattle.lload_spec.specs.Binding.{kind_wanted}
use Rattle.lload_spec.specs.Journal.{same_op, same_part}
use Rattle.lload_spec.specs.Pauses.{Pausing}
use Rattle.part_spec.specs.ClientState.{ClientRow, Held, AskedFor}
use Rattle.part_spec.specs.ConnectionState.{kind_at}
use Rattle.part_spec.specs.Fit.{ClientLedger, Expected}
use Rattle.move_laws.specs.World.{Kinds, Client, Hold, at, held, conn_of}
use Rattle.stands_laws.specs.Lists.{EachTwo}
use Rattle.stands_laws.specs.Books.{Book, name, is_bind_op}

-- whether a connection serves Binds
abbrev pub serves : Settings → ℕ → Bool
serves s u = is_kind BindKind (kind_at s u)

-- the machine's kinds, by the book and the plans
abbrev pub kinds_of : Settings → Book → Kinds
kinds_of s b = record { bind_op = is_bind_op b; bind_conn = serves s }

-- the elements of the numbers below n that are live, by rising number
abbrev pub live_upto : {A : Type 0} → (ℕ → Bool) → (ℕ → A) → ℕ → List A
live_upto live f zero = []
live_upto live f (suc n) = live_upto live f n ++ (if live n then f n ∷ [] else [])

abbrev pub row_of : Book → ℕ → Client → ℕ → ClientRow
row_of b c x k = record { k = k; request = b.request c k; action = b.action c k; connection = x.given k }

abbrev pub hold_of : ℕ → Option Hold → Option Held
hold_of c None = None
hold_of c (Some h) = Some (record { connection = h.conn; holder = name c h.holder })

-- an operation that the desk was asked for, and one that is expected from a connection
abbrev pub asked_for : Book → ℕ → ℕ → AskedFor
asked_for b c k = record { op = name c k; kind = kind_wanted (b.request c k) }

abbrev pub expected_at : Book → ℕ → ℕ → ℕ → Expected
expected_at b c k u = record { op = name c k; request = b.request c k; connection = u }

pub record ClientStands (s : Settings) (b : Book) (c : ℕ) (l : ClientLedger) (x : Client) : Type 0 where
  pub number : l.state.number ≡ c
  -- operations count from 1: an Arrive stands for number 0
  pub next : x.next ≡ (if l.state.arrived then suc l.state.count else 0)
  pub gone : x.gone ≡ l.state.gone
  pub rows : l.state.rows ≡ live_upto x.live (row_of b c x) x.next
  pub hold : l.state.hold ≡ hold_of c x.hold
  -- between two Binds of an exchange, and only then, it holds a connection
  pub exchange : x.gone ≡ false → x.busy ≡ false → l.state.in_exchange ≡ held x.hold
  pub left : x.gone ≡ true → x.hold ≡ None
  pub dead : x.gone ≡ true → (k : ℕ) → x.live k ≡ false
  pub quiet : x.busy ≡ true → l.state.in_exchange ≡ false
  -- while a Bind is live its client holds the connection that it went to
  pub bound : (k : ℕ) → x.live k ≡ true → is_bind_op b c k ≡ true → conn_of x.hold ≡ x.given k
  pub busy : x.busy ≡ (x.live x.current && is_bind_op b c x.current)
  pub one : (k : ℕ) → x.live k ≡ true → is_bind_op b c k ≡ true → k ≡ x.current
  pub below : (k : ℕ) → x.live k ≡ true → k < x.next
  pub ids : (j k : ℕ) → x.live j ≡ true → x.live k ≡ true → (b.request c j).id ≡ (b.request c k).id → j ≡ k
  pub kinds : (k : ℕ) → x.live k ≡ true → is_some (kind_of (b.request c k).rest) ≡ true
  pub asked : (k : ℕ) → find (λ a. same_op (name c k) a.op) l.state.asked ≡ (if x.asked k && not (x.chosen k) then Some
      (asked_for b c k) else None)
  pub expected : (k u : ℕ) → find
      (λ y. same_op (name c k) y.op && same_part (Connection u) (Connection y.connection)) l.expected ≡
      (if at (x.given k) u && not (x.closed k u) then Some (expected_at b c k u) else None)

-- the connections that a client pauses are regular, and each once
pub record ClientPauses (s : Settings) (q : Pausing) (x : Client) : Type 0 where
  pub paused : (u : ℕ) → list_any (λ n. n == u) q.paused ≡ x.paused u
  pub plain : (u : ℕ) → x.paused u ≡ true → serves s u ≡ false
  pub once : EachTwo (λ u v. u < v) q.paused
  pub stalled : q.stalled ≡ false → q.paused ≡ []

pub record ClientIs (s : Settings) (b : Book) (c : ℕ) (l : ClientLedger) (x : Client) : Type 0 where
  pub stands : ClientStands s b c l x
  -- an operation that was asked for goes on in no exchange
  pub heads : (k : ℕ) → x.asked k ≡ true → b.pinned c k ≡ false
  pub pauses : ClientPauses s l.state.pausing x
  -- one that isn't there yet made no operation
  pub waits : l.state.arrived ≡ false → l.state.count ≡ 0
