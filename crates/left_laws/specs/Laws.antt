-- Clients that left their exchange: each gave a Leave of it, and holds nothing where this was taken.
use Rattle.std.specs.Prelude.{◌≡◌, ℕ, true, false, List, Some, IsTrue}
use Rattle.std.specs.List.{list_any}
use Rattle.lload_names.specs.declared.names.OpKind.TheVariants.{Bind}
use Rattle.lload_names.specs.declared.names.OpName.{OpName}
use Rattle.lload_names.specs.declared.names.PartName.{PartName}
use Rattle.lload_names.specs.declared.names.PartName.TheVariants.{Client, Up as Connection}
use Rattle.lload_spec.specs.Fifo.{is_chosen_for}
use Rattle.lload_spec.specs.Journal.{Family}
use Rattle.lload_spec.specs.Lists.{some_entry}
use Rattle.lload_spec.specs.Operations.{Operation, is_of, operation}
use Rattle.lload_spec.specs.Owed.{is_held_by, leaves_exchange}
use Rattle.lload_spec.specs.Settings.{Settings}
use Rattle.lload_spec.specs.Settled.{each_leave_told}
use Rattle.part_spec.specs.Fit.{is_leave_of}
use Rattle.part_spec.specs.Gives.{gives}
use Rattle.part_spec.specs.Marked.{Marked, letters_to, taken_from}
use Rattle.carried_laws.specs.Laws.{Played}
use Rattle.settled_laws.specs.Laws.{Rested}

-- an operation whose Leave a connection took holds it no more
abbrev pub LeftHoldNothing : Type 0
LeftHoldNothing =
    (s : Settings) (F : Family) (marked : PartName → List Marked) → Played s F marked → (u : ℕ) (op : OpName)
    → list_any (is_leave_of op) (taken_from (Client op.client) (marked (Connection u))) ≡ true
    → is_held_by s F u (F.connection u) op ≡ false

-- a client that left its exchange gave a Leave of it to the connection that was chosen for it
abbrev pub LeftGiveLeaves : Type 0
LeftGiveLeaves =
    (s : Settings) (F : Family) (marked : PartName → List Marked) → Played s F marked
    → (o : Operation) → operation F o.name ≡ Some o → IsTrue (is_of Bind o)
    → IsTrue (some_entry (leaves_exchange o) (F.client o.name.client)) → (u : ℕ) → IsTrue (is_chosen_for F o u)
    → IsTrue
    (list_any (is_leave_of o.name)
    (letters_to (Connection u) (gives s (Client o.name.client) (marked (Client o.name.client)))))

-- so where what each part took of another is all that this one gave it, no client that left its exchange holds a
-- connection
abbrev pub LeavesAreTold : Type 0
LeavesAreTold =
    (s : Settings) (F : Family) (marked : PartName → List Marked) → Played s F marked → Rested s F marked
    → IsTrue (each_leave_told s F)
