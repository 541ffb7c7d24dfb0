-- A choice that comes to a client is due: the desk was asked for its operation, and that one wasn't forwarded yet.
use Rattle.std.specs.Prelude.{◌≡◌, ℕ, Bool, true, List, Option, Some, None}
use Rattle.std.specs.List.{list_any}
use Rattle.lload_names.specs.declared.names.Answer.{Answer}
use Rattle.lload_names.specs.declared.names.Letter.TheVariants.{Choice}
use Rattle.lload_names.specs.declared.names.OpName.{OpName}
use Rattle.lload_names.specs.declared.names.PartName.{PartName}
use Rattle.lload_names.specs.declared.names.PartName.TheVariants.{Client}
use Rattle.lload_spec.specs.Journal.{same_op}
use Rattle.lload_spec.specs.Settings.{Settings}
use Rattle.part_spec.specs.ClientState.{ClientState, client_of, row_named}
use Rattle.part_spec.specs.Fit.{is_fit}
use Rattle.part_spec.specs.Marked.{Marked}

-- whether the desk was asked for an operation and didn't choose yet
abbrev pub is_asked : ClientState → OpName → Bool
is_asked p op = list_any (λ a. same_op op a.op) p.asked

-- the connection that an operation was forwarded to, where it is live
abbrev pub forwarded_to : ClientState → OpName → Option ℕ
forwarded_to p op = elim (row_named p op) [ None ↦ None | Some r ↦ r.connection ]

-- a choice of an operation is due
pub record IsDue (p : ClientState) (op : OpName) : Type 0 where
  pub asked : is_asked p op ≡ true
  pub waits : forwarded_to p op ≡ None

-- by each list, fit or not, an operation that the desk was asked for wasn't forwarded yet
abbrev pub AskedWait : Type 0
AskedWait =
    (s : Settings) (c : ℕ) (list : List Marked) (op : OpName) → is_asked (client_of s c list) op ≡ true
    → forwarded_to (client_of s c list) op ≡ None

-- so a choice that is fit for a client behind its list is due there
abbrev pub FitChoicesAreDue : Type 0
FitChoicesAreDue =
    (s : Settings) (c : ℕ) (list : List Marked) (sender : PartName) (op : OpName) (answer : Answer)
    → is_fit s (Client c) list sender (Choice op answer) ≡ true → IsDue (client_of s c list) op
