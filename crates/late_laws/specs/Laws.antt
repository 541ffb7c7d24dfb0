-- What an operation's letters tell: of a success that was kept back, and of letters that come too late.
use Rattle.std.specs.Prelude.{List, IsTrue}
use Rattle.std.specs.List.{list_all}
use Rattle.lload_names.specs.declared.names.PartName.{PartName}
use Rattle.lload_spec.specs.Journal.{Family}
use Rattle.lload_spec.specs.Lists.{each_entry}
use Rattle.lload_spec.specs.Settings.{Settings}
use Rattle.lload_spec.specs.Strict.{each_success_known, is_late_own}
use Rattle.part_spec.specs.Marked.{Marked}
use Rattle.joined_laws.specs.Joined.{Joined}
use Rattle.carried_laws.specs.Laws.{Played}

-- each success that was kept back goes out only with a readable identity, and no other Bind or request is refused for
-- want of one
abbrev pub SuccessesAreKnown : Type 0
SuccessesAreKnown =
    (s : Settings) (F : Family) (marked : PartName → List Marked) → Played s F marked
    → IsTrue (each_success_known s F)

-- each letter that comes too late is of an operation of the client's own
abbrev pub LatesAreOwn : Type 0
LatesAreOwn =
    (s : Settings) (F : Family) (marked : PartName → List Marked) → Joined s F marked
    → IsTrue (list_all (λ c. each_entry (is_late_own c) (F.client c)) F.clients)
