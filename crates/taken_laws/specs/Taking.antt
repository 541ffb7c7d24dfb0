-- Which letters a part may take, by its state: what its step asks of a letter.
use Rattle.std.specs.Prelude.{◌≡◌, ◌≤◌, ◌==◌, ℕ, Bool, true, false, [], filter, length, None, is_some, ⊤}
use Rattle.std.specs.List.{list_any}
use Rattle.ldap_spec.specs.Kinds.{same_kind}
use Rattle.lload_names.specs.declared.names.Letter.{Letter}
use Rattle.lload_names.specs.declared.names.Letter.TheVariants.{Ask, Choice, Returned, Forward, Ended, IsUp}
use Rattle.lload_names.specs.declared.names.OpKind.{OpKind}
use Rattle.lload_names.specs.declared.names.OpKind.TheVariants.{Bind}
use Rattle.lload_names.specs.declared.names.OpName.{OpName}
use Rattle.lload_spec.specs.Entries.{Named}
use Rattle.lload_spec.specs.Journal.{same_op}
use Rattle.lload_spec.specs.Settings.{Settings, place_at}
use Rattle.part_spec.specs.ClientState.{ClientState}
use Rattle.part_spec.specs.ConnectionState.{ConnectionState, row_named}
use Rattle.part_spec.specs.DeskState.{DeskState}
use Rattle.part_spec.specs.Fit.{is_pending}
use Rattle.due_laws.specs.Laws.{IsDue}

-- A regular connection.

-- a Forward may be taken: the connection is up, and the operation is no Bind and isn't live
pub record MayForward (p : ConnectionState) (op : OpName) (kind : OpKind) : Type 0 where
  pub up : p.up ≡ true
  pub plain : same_kind Bind kind ≡ false
  pub unknown : row_named p op ≡ None

abbrev pub RegularMayTake : ConnectionState → Letter → Type 0
RegularMayTake p (Forward op kind rest ask_who holder) = MayForward p op kind
RegularMayTake p _ = ⊤

-- A bind connection.

-- a Forward may be taken: the connection is up, the operation is a Bind, and none is live
pub record MayForwardBind (p : ConnectionState) (kind : OpKind) : Type 0 where
  pub up : p.up ≡ true
  pub bind : kind ≡ Bind
  pub vacant : p.rows ≡ []

abbrev pub BindMayTake : ConnectionState → Letter → Type 0
BindMayTake p (Forward op kind rest ask_who holder) = MayForwardBind p kind
BindMayTake p _ = ⊤

-- The desk.

-- whether a pending operation is this one, and a connection that one
abbrev pub is_named : OpName → Named ℕ → Bool
is_named op x = same_op op x.op

abbrev pub is_number : ℕ → ℕ → Bool
is_number u n = n == u

-- an Ask may be taken: the operation isn't pending
pub record MayAsk (p : DeskState) (op : OpName) : Type 0 where
  pub unknown : list_any (is_named op) p.pending ≡ false

-- the end of an operation on a connection, or that it was returned, may be taken: it is pending there, and nowhere else
pub record MayEnd (p : DeskState) (op : OpName) (u : ℕ) : Type 0 where
  pub pending : is_pending p op u ≡ true
  pub once : length (filter (is_named op) p.pending) ≡ 1

-- that a connection is up may be taken: it isn't viable yet, and has a place
pub record MayRise (s : Settings) (p : DeskState) (u : ℕ) : Type 0 where
  pub unknown : list_any (is_number u) p.viable ≡ false
  pub placed : is_some (place_at s u) ≡ true

abbrev pub DeskMayTake : Settings → DeskState → Letter → Type 0
DeskMayTake s p (Ask op want) = MayAsk p op
DeskMayTake s p (Returned op u) = MayEnd p op u
DeskMayTake s p (Ended op u latency) = MayEnd p op u
DeskMayTake s p (IsUp u) = MayRise s p u
DeskMayTake s p _ = ⊤

-- what stands at the desk beside this: an operation is pending at most once, and a connection viable at most once
pub record HoldsOnce (p : DeskState) : Type 0 where
  pub pending : (op : OpName) → length (filter (is_named op) p.pending) ≤ 1
  pub viable : (u : ℕ) → length (filter (is_number u) p.viable) ≤ 1

-- A client.

-- a choice may be taken where it is due
abbrev pub ClientMayTake : ClientState → Letter → Type 0
ClientMayTake p (Choice op answer) = IsDue p op
ClientMayTake p _ = ⊤
