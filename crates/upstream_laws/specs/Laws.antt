-- What the promises say of upstream connections, by what their states say.
use Rattle.std.specs.Prelude.{◌≡◌, ℕ, Bool, true, ◌||◌, List, IsTrue}
use Rattle.std.specs.List.{list_all}
use Rattle.lload_names.specs.declared.names.ConnKind.TheVariants.{Regular}
use Rattle.lload_names.specs.declared.names.EndWhy.TheVariants.{Unfinished}
use Rattle.lload_names.specs.declared.names.Entry.{Entry}
use Rattle.lload_names.specs.declared.names.PartName.{PartName}
use Rattle.lload_spec.specs.CausedUp.{each_bad_told, each_expired_due, has_down_cause, is_down_caused}
use Rattle.lload_spec.specs.Entries.{down_why, same_why}
use Rattle.lload_spec.specs.Identifiers.{each_id_right}
use Rattle.lload_spec.specs.Journal.{Family}
use Rattle.lload_spec.specs.Settings.{Settings, is_of_kind}
use Rattle.lload_spec.specs.Lists.{each_entry, where_there}
use Rattle.lload_spec.specs.Strict.{each_connection_placed}
use Rattle.part_spec.specs.Marked.{Marked}
use Rattle.carried_laws.specs.Laws.{Played}

-- each identifier is the right one: that which was freed first, else the next
abbrev pub IdentifiersAreRight : Type 0
IdentifiersAreRight =
    (s : Settings) (F : Family) (marked : PartName → List Marked) → Played s F marked → IsTrue (each_id_right s F)

-- each bad message that a connection takes has the end of the connection directly behind it
abbrev pub BadMessagesAreTold : Type 0
BadMessagesAreTold =
    (s : Settings) (F : Family) (marked : PartName → List Marked) → Played s F marked → IsTrue (each_bad_told s F)

-- each operation that expires is due
abbrev pub ExpiriesAreDue : Type 0
ExpiriesAreDue =
    (s : Settings) (F : Family) (marked : PartName → List Marked) → Played s F marked → IsTrue (each_expired_due s F)

-- each end of a regular connection has its cause
abbrev pub RegularEndsAreCaused : Type 0
RegularEndsAreCaused =
    (s : Settings) (F : Family) (marked : PartName → List Marked) → Played s F marked
    → (u : ℕ) → is_of_kind s Regular u ≡ true → IsTrue (each_entry (is_down_caused s F u) (F.connection u))

-- each connection that has entries has a place
abbrev pub ConnectionsArePlaced : Type 0
ConnectionsArePlaced =
    (s : Settings) (F : Family) (marked : PartName → List Marked) → Played s F marked
    → IsTrue (each_connection_placed s F)

-- whether an end has its cause, where it isn't for an exchange that its client left
abbrev pub is_end_caused : Settings → Family → ℕ → List Entry → Entry → Bool
is_end_caused s F u place e =
    where_there (λ why. same_why why Unfinished || has_down_cause s F u place e.at why) (down_why e.what)

-- whether each end of a connection has its cause, but for an exchange that its client left
abbrev pub each_end_caused : Settings → Family → Bool
each_end_caused s F = list_all (λ u. each_entry (is_end_caused s F u) (F.connection u)) F.connections

abbrev pub EndsAreCaused : Type 0
EndsAreCaused =
    (s : Settings) (F : Family) (marked : PartName → List Marked) → Played s F marked → IsTrue (each_end_caused s F)
