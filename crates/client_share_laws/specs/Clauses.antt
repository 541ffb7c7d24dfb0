-- Clauses of a client's share that are proved of each list of its turns.
use Rattle.std.specs.Prelude.{ℕ, ◌&&◌, List, IsTrue}
use Rattle.lload_spec.specs.Lists.{each_entry, each_split}
use Rattle.lload_spec.specs.Settings.{Settings}
use Rattle.lload_spec.specs.Entries.{is_of_client}
use Rattle.lload_spec.specs.Strict.{lives_as_client, is_notice_placed}
use Rattle.part_spec.specs.Marked.{entries}
use Rattle.part_spec.specs.Share.{each_busy_told, each_unavailable_told, each_gone_caused, each_out_owned}
use Rattle.part_laws.specs.Turns.{Event}
use Rattle.client_laws.specs.Turns.{client_list}

-- each Busy for a live operation is told directly behind it
abbrev pub ClientBusy : Type 0
ClientBusy = (s : Settings) (c : ℕ) (xs : List Event) → IsTrue (each_busy_told c (client_list s c xs))

-- each Unavailable for a live operation is told directly behind it
abbrev pub ClientUnavailable : Type 0
ClientUnavailable = (s : Settings) (c : ℕ) (xs : List Event) → IsTrue (each_unavailable_told c (client_list s c xs))

-- each Gone has its cause
abbrev pub ClientGone : Type 0
ClientGone = (s : Settings) (c : ℕ) (xs : List Event) → IsTrue (each_gone_caused s c (client_list s c xs))

-- each Out is of an operation, or is the notice with Gone behind it, and none stands behind Gone
abbrev pub ClientOutsOwned : Type 0
ClientOutsOwned = (s : Settings) (c : ℕ) (xs : List Event) → IsTrue (each_out_owned c (client_list s c xs))

-- the list has a client's entries alone, begins with Arrived, which stands nowhere else, and has choices and late letters
-- alone behind Gone: of the list's life, what needs no fit letter
abbrev pub ClientInOrder : Type 0
ClientInOrder =
    (s : Settings) (c : ℕ) (xs : List Event)
    → IsTrue (each_entry (λ place e. is_of_client e.what && lives_as_client place e) (entries (client_list s c xs)))

-- the notice stands only directly before an end that it is sent for: also of the list's life
abbrev pub ClientNotices : Type 0
ClientNotices =
    (s : Settings) (c : ℕ) (xs : List Event)
    → IsTrue (each_split (λ place e behind. is_notice_placed e behind) (entries (client_list s c xs)))
