-- What a regular connection's state, with the letters that it took, says of the machine's connection; and what both kinds
-- say.
use Rattle.std.specs.Prelude.{◌≡◌, ℕ, ◌<◌, Bool, true, false, ◌==◌, List, [], Some, None, is_some}
use Rattle.std.specs.List.{list_any}
use Rattle.ldap_spec.specs.Kinds.{kind_of}
use Rattle.lload_names.specs.declared.names.OpName.{OpName}
use Rattle.lload_names.specs.declared.names.PartName.TheVariants.{Client}
use Rattle.lload_spec.specs.Journal.{same_op}
use Rattle.lload_spec.specs.OneEach.{begins_with_bind}
use Rattle.lload_spec.specs.Settings.{Settings, place_at}
use Rattle.part_spec.specs.ConnectionState.{ConnectionState, UpRow, kind_at, is_bind_row}
use Rattle.part_spec.specs.ConnectionTurn.{is_drained}
use Rattle.part_spec.specs.Fit.{ConnectionLedger, is_forward_of, is_drop_of, is_pause, is_resume, is_taken_last}
use Rattle.part_spec.specs.Marked.{Taken}
use Rattle.move_laws.specs.World.{Conn}
use Rattle.stands_laws.specs.Lists.{Each, EachTwo}
use Rattle.stands_laws.specs.Books.{Book, name}

-- Both kinds.
pub record LinkStands (s : Settings) (u : ℕ) (p : ConnectionState) (v : Conn) : Type 0 where
  pub number : p.number ≡ u
  pub kind : p.kind ≡ kind_at s u
  pub up : p.up ≡ v.up
  pub retired : p.retired ≡ v.retired
  pub down : p.down ≡ v.down
  pub placed : p.linked ≡ true → is_some (place_at s u) ≡ true
  pub fresh : p.linked ≡ false → (p.up ≡ false) × ((p.retired ≡ false) × (p.down ≡ false))
  -- the identifier at which it retires was given, and is given once
  pub limit : p.retired ≡ true → s.id_limit < p.ids.next
  pub first : 0 < p.ids.next
  -- the own Bind, where there is one, was given the first identifier
  pub began : begins_with_bind s u ≡ true → p.linked ≡ true → 1 < p.ids.next

abbrev pub ForwardsTaken : List Taken → Conn → Type 0
ForwardsTaken taken v = (c k : ℕ) → list_any (λ t. is_forward_of (name c k) t.letter) taken ≡ v.taken c k

-- Regular connections: the letters that one took.
pub record RegularTaken (taken : List Taken) (v : Conn) : Type 0 where
  pub forwards : ForwardsTaken taken v
  pub drops : (c k : ℕ) → v.taken c k ≡ true → v.dropped c k ≡ false
      → is_taken_last (is_forward_of (name c k)) (is_drop_of (name c k)) (Client c) taken ≡ true
  pub pauses : (c : ℕ) → is_taken_last is_pause is_resume (Client c) taken ≡ v.paused c

-- whether a row is of this operation
abbrev pub is_row_of : OpName → UpRow → Bool
is_row_of op r = same_op op r.op

-- a live operation, by the book
pub record RowIs (b : Book) (next : ℕ) (r : UpRow) : Type 0 where
  pub kind : kind_of (b.request r.op.client r.op.k).rest ≡ Some r.kind
  pub plain : is_bind_row r ≡ false
  pub kept : r.kept ≡ None
  pub above : 0 < r.id
  pub below : r.id < next

-- two rows are of two operations, under two identifiers
pub record AreApart (r q : UpRow) : Type 0 where
  pub ops : same_op r.op q.op ≡ false
  pub ids : (r.id == q.id) ≡ false

-- a free identifier is no row's
pub record IsFree (next : ℕ) (rows : List UpRow) (n : ℕ) : Type 0 where
  pub above : 0 < n
  pub below : n < next
  pub unused : list_any (λ r. r.id == n) rows ≡ false

-- the rows of one that isn't down
pub record RegularRows (b : Book) (p : ConnectionState) (v : Conn) : Type 0 where
  pub ops : (c k : ℕ) → list_any (is_row_of (name c k)) p.rows ≡ v.rows c k
  pub each : Each (RowIs b p.ids.next) p.rows
  pub apart : EachTwo AreApart p.rows
  pub free : Each (IsFree p.ids.next p.rows) p.ids.free
  -- no own Bind waits before the connection is linked; while one waits, it isn't up, and before this nothing was forwarded
  -- to it
  pub begun : p.linked ≡ false → p.own_bind ≡ None
  pub waits : is_some p.own_bind ≡ true → p.up ≡ false
  pub unused : p.up ≡ false → p.rows ≡ []

-- one that is down has none
pub record RegularDown (p : ConnectionState) (v : Conn) : Type 0 where
  pub rows : p.rows ≡ []
  pub ops : (c k : ℕ) → v.rows c k ≡ false

pub record RegularStands (s : Settings) (b : Book) (u : ℕ) (l : ConnectionLedger) (v : Conn) : Type 0 where
  pub link : LinkStands s u l.state v
  pub taken : RegularTaken l.taken v
  pub holder : l.state.holder ≡ None
  pub nobody : v.holder ≡ None
  pub now : v.now ≡ None
  pub stands : l.state.down ≡ false → RegularRows b l.state v
  pub fallen : l.state.down ≡ true → RegularDown l.state v

-- the same between turns: a retired connection with nothing to do is down
pub record RegularIs (s : Settings) (b : Book) (u : ℕ) (l : ConnectionLedger) (v : Conn) : Type 0 where
  pub stands : RegularStands s b u l v
  pub undrained : is_drained l.state ≡ false
