-- Who a client is.
use Rattle.std.specs.Prelude.{◌≡◌, ℕ, true, List, ◌∷◌, ◌++◌, Some, is_some}
use Rattle.lload_names.specs.declared.names.OpName.{OpName}
use Rattle.lload_names.specs.declared.names.PartName.{PartName}
use Rattle.lload_names.specs.declared.names.PartName.TheVariants.{Client}
use Rattle.lload_spec.specs.Caused.{check_of as check_by_family}
use Rattle.lload_spec.specs.Entries.{in_message}
use Rattle.lload_spec.specs.FirstCheck.{client_facts}
use Rattle.lload_spec.specs.Journal.{Family}
use Rattle.lload_spec.specs.Operations.{Operation, operation}
use Rattle.lload_spec.specs.Settings.{Settings}
use Rattle.part_spec.specs.ClientState.{client_of, facts_of}
use Rattle.part_spec.specs.Marked.{Marked, entries}
use Rattle.part_spec.specs.Share.{check_of as check_by_list}
use Rattle.carried_laws.specs.Laws.{Played}

-- where a message came, the client's state says to the first check what the family says: which operations are live, who
-- the client is, and whether its exchange goes on
abbrev pub ClientsAreKnown : Type 0
ClientsAreKnown =
    (s : Settings) (F : Family) (marked : PartName → List Marked) → Played s F marked
    → (c : ℕ) (before : List Marked) (m : Marked) (behind : List Marked)
    → marked (Client c) ≡ before ++ m ∷ behind → is_some (in_message m.entry.what) ≡ true
    → facts_of (client_of s c before) ≡ client_facts s F c (entries before)

-- so the first check of an operation is the same by its client's state and by the family
abbrev pub ChecksAreKnown : Type 0
ChecksAreKnown =
    (s : Settings) (F : Family) (marked : PartName → List Marked) → Played s F marked
    → (op : OpName) (o : Operation) → operation F op ≡ Some o
    → check_by_list s (marked (Client o.name.client)) o ≡ check_by_family s F o
