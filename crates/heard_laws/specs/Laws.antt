-- What the desk has heard where nothing waits.
use Rattle.std.specs.Prelude.{◌≡◌, ℕ, Bool, true, false, ◌&&◌, List, IsTrue}
use Rattle.std.specs.List.{list_any}
use Rattle.lload_names.specs.declared.names.ConnKind.TheVariants.{Bind as BindKind, Regular}
use Rattle.lload_names.specs.declared.names.Letter.{Letter}
use Rattle.lload_names.specs.declared.names.Letter.TheVariants.{Forward}
use Rattle.lload_names.specs.declared.names.OpName.{OpName}
use Rattle.lload_names.specs.declared.names.PartName.{PartName}
use Rattle.lload_names.specs.declared.names.PartName.TheVariants.{Up as Connection}
use Rattle.lload_spec.specs.Answers.{sendings}
use Rattle.lload_spec.specs.Journal.{Family, same_op}
use Rattle.lload_spec.specs.Lists.{passes}
use Rattle.lload_spec.specs.Over.{from_sent, is_over_at}
use Rattle.lload_spec.specs.Settings.{Settings, is_of_kind}
use Rattle.lload_spec.specs.Settled.{each_end_heard, is_end_heard, is_retired_in_use}
use Rattle.part_spec.specs.Marked.{Marked}
use Rattle.carried_laws.specs.Laws.{Played}
use Rattle.settled_laws.specs.Laws.{Rested}

-- where what each part took of another is all that this one gave it, the desk heard the end of each operation that is over
-- at a regular connection
abbrev pub RegularEndsAreHeard : Type 0
RegularEndsAreHeard =
    (s : Settings) (F : Family) (marked : PartName → List Marked) → Played s F marked → Rested s F marked
    → (u : ℕ) → is_of_kind s Regular u ≡ true → (op : OpName)
    → IsTrue (is_over_at s F op u (from_sent op (sendings u (F.connection u)))) → IsTrue (is_end_heard F op)

-- whether a letter is the Forward of this operation, which is its own holder
abbrev pub is_first_forward : OpName → Letter → Bool
is_first_forward op (Forward o _ rest ask_who holder) = same_op op o && same_op op holder
is_first_forward op _ = false

-- whether a list took it
abbrev pub took_first : OpName → List Marked → Bool
took_first op list = list_any (λ m. passes (λ t. is_first_forward op t.letter) m.mark) list

-- and it heard the end of each operation that was to begin an exchange at a bind connection, and is over there
abbrev pub HolderEndsAreHeard : Type 0
HolderEndsAreHeard =
    (s : Settings) (F : Family) (marked : PartName → List Marked) → Played s F marked → Rested s F marked
    → (u : ℕ) → is_of_kind s BindKind u ≡ true → (op : OpName) → IsTrue (took_first op (marked (Connection u)))
    → IsTrue (is_over_at s F op u (from_sent op (sendings u (F.connection u)))) → IsTrue (is_end_heard F op)

-- so it heard the end of each operation that it chose a connection for, and that is over there
abbrev pub EachEndIsHeard : Type 0
EachEndIsHeard =
    (s : Settings) (F : Family) (marked : PartName → List Marked) → Played s F marked → Rested s F marked
    → IsTrue (each_end_heard s F)

-- a bind connection that retired and isn't down has a Bind open, or somebody holds it
abbrev pub BindsRetireInUse : Type 0
BindsRetireInUse =
    (s : Settings) (F : Family) (marked : PartName → List Marked) → Played s F marked
    → (u : ℕ) → is_of_kind s BindKind u ≡ true → IsTrue (is_retired_in_use s F u)
