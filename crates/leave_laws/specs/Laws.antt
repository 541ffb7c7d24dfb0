-- What follows where clients end what they began: ends of connections, Drops, own messages, and Drops that come to nothing.
use Rattle.std.specs.Prelude.{◌≡◌, ℕ, Bool, true, ◌&&◌, not, List, IsTrue}
use Rattle.std.specs.List.{list_any}
use Rattle.lload_names.specs.declared.names.ConnKind.TheVariants.{Bind as BindKind, Regular}
use Rattle.lload_names.specs.declared.names.Entry.{Entry}
use Rattle.lload_names.specs.declared.names.OpKind.TheVariants.{Bind}
use Rattle.lload_names.specs.declared.names.OpName.{OpName}
use Rattle.lload_names.specs.declared.names.PartName.{PartName}
use Rattle.lload_names.specs.declared.names.PartName.TheVariants.{Up as Connection}
use Rattle.lload_spec.specs.CausedUp.{each_down_caused, is_left_by}
use Rattle.lload_spec.specs.Entries.{idle_op}
use Rattle.lload_spec.specs.Fifo.{is_chosen_for}
use Rattle.lload_spec.specs.Journal.{Family, same_op}
use Rattle.lload_spec.specs.Lists.{each_entry, passes, where_there}
use Rattle.lload_spec.specs.OneEach.{each_own_reasoned}
use Rattle.lload_spec.specs.Operations.{Operation, is_ended_by_client, is_of, operation}
use Rattle.lload_spec.specs.Owed.{is_idle_owed, is_open_at, was_forwarded}
use Rattle.lload_spec.specs.Settings.{Settings, is_of_kind}
use Rattle.part_spec.specs.Marked.{Marked}
use Rattle.part_spec.specs.Share.{drops, has_letter}
use Rattle.carried_laws.specs.Laws.{Played}

-- each end of a connection has its cause, also one for an exchange that its client left
abbrev pub AllEndsAreCaused : Type 0
AllEndsAreCaused =
    (s : Settings) (F : Family) (marked : PartName → List Marked) → Played s F marked → IsTrue (each_down_caused s F)

-- each Drop that a connection took is of an operation that its client ended
abbrev pub DropsAreOfEnded : Type 0
DropsAreOfEnded =
    (s : Settings) (F : Family) (marked : PartName → List Marked) → Played s F marked → (u : ℕ) (op : OpName)
    → list_any (has_letter (drops op)) (marked (Connection u)) ≡ true
    → IsTrue (passes is_ended_by_client (operation F op))

-- each own message has its reason, and stands where it is due
abbrev pub OwnMessagesAreReasoned : Type 0
OwnMessagesAreReasoned =
    (s : Settings) (F : Family) (marked : PartName → List Marked) → Played s F marked → IsTrue (each_own_reasoned s F)

-- whether an operation other than a Bind was forwarded before this place, is Idle there for the first time, was ended by
-- its client, and isn't open
abbrev pub has_nothing_to_end : Settings → Family → ℕ → List Entry → Operation → Bool
has_nothing_to_end s F u place o =
    was_forwarded o.name place && not (list_any (λ e. passes (same_op o.name) (idle_op e.what)) place)
    && not (is_of Bind o) && is_ended_by_client o && not (is_open_at s F u place o.name)

-- whether an Idle is of such an operation
abbrev pub is_idle_for_nothing : Settings → Family → ℕ → List Entry → Entry → Bool
is_idle_for_nothing s F u place e =
    where_there (λ op. passes (has_nothing_to_end s F u place) (operation F op)) (idle_op e.what)

-- each Idle of a regular connection is of one
abbrev pub RegularIdlesHaveNothingToEnd : Type 0
RegularIdlesHaveNothingToEnd =
    (s : Settings) (F : Family) (marked : PartName → List Marked) → Played s F marked
    → (u : ℕ) → is_of_kind s Regular u ≡ true → IsTrue (each_entry (is_idle_for_nothing s F u) (F.connection u))

-- and so each is owed
abbrev pub RegularIdlesAreOwed : Type 0
RegularIdlesAreOwed =
    (s : Settings) (F : Family) (marked : PartName → List Marked) → Played s F marked
    → (u : ℕ) → is_of_kind s Regular u ≡ true → IsTrue (each_entry (is_idle_owed s F u) (F.connection u))

-- whether a Bind was forwarded before this place, and the connection was chosen for it, which its client left
abbrev pub is_left_bind : Family → ℕ → List Entry → Operation → Bool
is_left_bind F u place o =
    was_forwarded o.name place && is_of Bind o && is_chosen_for F o u && is_left_by F u o.name.client

-- whether an Idle is of such a Bind
abbrev pub is_idle_of_left : Family → ℕ → List Entry → Entry → Bool
is_idle_of_left F u place e = where_there (λ op. passes (is_left_bind F u place) (operation F op)) (idle_op e.what)

-- each Idle of a bind connection is of one
abbrev pub BindIdlesAreOfLeft : Type 0
BindIdlesAreOfLeft =
    (s : Settings) (F : Family) (marked : PartName → List Marked) → Played s F marked
    → (u : ℕ) → is_of_kind s BindKind u ≡ true → IsTrue (each_entry (is_idle_of_left F u) (F.connection u))
