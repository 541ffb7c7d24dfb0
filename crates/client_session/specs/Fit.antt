-- Which letters may come to a client's part.
use Rattle.std.specs.Prelude.{◌≡◌, ℕ, Bool, true, List, Option, Some, None, ⊤}
use Rattle.std.specs.List.{list_any}
use Rattle.lload_names.specs.declared.names.OpName.{OpName}
use Rattle.lload_names.specs.declared.names.Letter.{Letter}
use Rattle.lload_names.specs.declared.names.Letter.TheVariants.{Choice}
use Rattle.lload_names.specs.declared.inputs.Input.{Input}
use Rattle.lload_names.specs.declared.inputs.Input.TheVariants.{LetterFrom}
use Rattle.lload_names.specs.Same.{same_op}
use Rattle.part_spec.specs.ClientState.{ClientState, ClientRow, AskedFor, row_named}

-- whether the desk was asked for an operation and didn't choose yet
abbrev pub is_asked : OpName → List AskedFor → Bool
is_asked op asked = list_any (λ a. same_op op a.op) asked

-- the connection that an operation, where it is live, was forwarded to
abbrev pub connection_of : Option ClientRow → Option ℕ
connection_of None = None
connection_of (Some r) = r.connection

-- a choice is of an operation that the desk was asked for and that wasn't forwarded before
pub record IsDue (p : ClientState) (op : OpName) : Type 0 where
  pub asked : is_asked op p.asked ≡ true
  pub waits : connection_of (row_named p op) ≡ None

-- a choice is due; each other letter may come
abbrev pub IsFitLetter : ClientState → Letter → Type 0
IsFitLetter p (Choice op answer) = IsDue p op
IsFitLetter p _ = ⊤

abbrev pub IsFit : ClientState → Input → Type 0
IsFit p (LetterFrom now word sender letter) = IsFitLetter p letter
IsFit p _ = ⊤
