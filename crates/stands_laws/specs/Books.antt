-- The book of a run: what a client's list makes of each operation, collected over all moves, so that it can be known
-- from the beginning.
use Rattle.std.specs.Prelude.{◌≡◌, ℕ, suc, Bool, false, ◌==◌, ◌&&◌, not, if◌then◌else◌, List, [], ◌∷◌, Option, Some, None}
use Rattle.ldap_spec.specs.Messages.{Message}
use Rattle.lload_names.specs.declared.inputs.Event.TheVariants as event
use Rattle.lload_names.specs.declared.inputs.Input.{Input}
use Rattle.lload_names.specs.declared.inputs.Input.TheVariants as input
use Rattle.lload_names.specs.declared.names.OpKind.TheVariants.{Bind}
use Rattle.lload_names.specs.declared.names.OpName.{OpName}
use Rattle.lload_names.specs.declared.names.PartName.{PartName}
use Rattle.lload_names.specs.declared.names.PartName.TheVariants.{Client}
use Rattle.lload_spec.specs.Settings.{Settings, Action, Reject}
use Rattle.lload_spec.specs.Entries.{makes_operation}
use Rattle.lload_spec.specs.Operations.{is_request_of}
use Rattle.part_spec.specs.ClientState.{ClientState, new_row, is_present, is_holding, is_pinned}
use Rattle.part_spec.specs.Merge.{Move, Happens, PartMove, moved}
use Rattle.part_spec.specs.World.{World, client_in}

-- the request of each operation as it goes upstream under the client's identifier, its action, and whether it is a Bind
-- that goes on in an exchange
pub record Book : Type 0 where
  pub request : ℕ → ℕ → Message
  pub action : ℕ → ℕ → Action
  pub pinned : ℕ → ℕ → Bool

abbrev pub name : ℕ → ℕ → OpName
name c k = record { client = c; k = k }

abbrev pub is_bind_op : Book → ℕ → ℕ → Bool
is_bind_op b c k = is_request_of Bind (b.request c k)

-- an operation that a move makes
pub record Made : Type 0 where
  pub client : ℕ
  pub k : ℕ
  pub request : Message
  pub action : Action
  pub pinned : Bool

abbrev pub made_by : Settings → ℕ → ClientState → Message → Made
made_by s c p m =
    record {
      client = c;
      k = suc p.count;
      request = (new_row s p m).request;
      action = (new_row s p m).action;
      pinned = is_pinned s p m;
    }

abbrev pub made_where : Bool → Made → Option Made
made_where t o = if t then Some o else None

-- an input of a client
abbrev pub made_from : Settings → ℕ → ClientState → Input → Option Made
made_from s c p (input.Message now id rest) =
    made_where (is_present p && not (is_holding s p) && makes_operation (record { id = id; rest = rest }))
    (made_by s c p (record { id = id; rest = rest }))
made_from s c p _ = None

abbrev pub made_at : Settings → World → PartName → Move → Option Made
made_at s w (Client c) (Happens (event.Message now id rest)) =
    made_from s c (client_in w c) (input.Message now id rest)
made_at s w _ _ = None

abbrev pub with_made : Option Made → Book → Book
with_made None b = b
with_made (Some o) b =
    record {
      request = λ c k. if (c == o.client) && (k == o.k) then o.request else b.request c k;
      action = λ c k. if (c == o.client) && (k == o.k) then o.action else b.action c k;
      pinned = λ c k. if (c == o.client) && (k == o.k) then o.pinned else b.pinned c k;
    }

abbrev pub blank : Book
blank = record { request = λ _ _. record { id = 0; rest = [] }; action = λ _ _. Reject; pinned = λ _ _. false }

abbrev pub book_of : Settings → World → List PartMove → Book
book_of s w [] = blank
book_of s w (m ∷ ms) = with_made (made_at s w m.part m.move) (book_of s (moved s m.part m.move w) ms)

-- a book has an operation
pub record HasMade (b : Book) (o : Made) : Type 0 where
  pub request : b.request o.client o.k ≡ o.request
  pub action : b.action o.client o.k ≡ o.action
  pub pinned : b.pinned o.client o.k ≡ o.pinned

abbrev pub Has : Book → Option Made → Type 0
Has b None = Unit {0}
Has b (Some o) = HasMade b o

-- it has those that these moves make
abbrev pub Keeps : Settings → Book → World → List PartMove → Type 0
Keeps s b w [] = Unit {0}
Keeps s b w (m ∷ ms) = Has b (made_at s w m.part m.move) × Keeps s b (moved s m.part m.move w) ms
