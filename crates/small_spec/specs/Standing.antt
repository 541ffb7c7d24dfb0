-- Which lines of a script stand where they are (this project's own). A line whose form isn't built yet doesn't stand:
-- for now there are client 1, which sends Deletes, and connection 1, which answers them, each message fed whole and by
-- itself.
use Rattle.std.specs.Prelude.{ℕ, suc, Bool, true, false, ◌==◌, ◌&&◌, ◌||◌, not, List, [], ◌∷◌, length, filter}
use Rattle.std.specs.List.{list_any}
use Rattle.ldap_spec.specs.Elements.{first_tagged}
use Rattle.ldap_spec.specs.Messages.{Message, message_of, message_within}
use Rattle.lload_names.specs.declared.names.Entry.{Entry}
use Rattle.lload_names.specs.declared.names.PartName.TheVariants.{Client, Up as Connection}
use Rattle.lload_names.specs.declared.command.Command.{Command}
use Rattle.lload_names.specs.declared.command.Command.TheVariants.{ClientArrives, ClientBytes, UpReady, UpBytes, Settle}
use Rattle.small_spec.specs.Lists.{passes}
use Rattle.small_spec.specs.Settings.{Settings}
use Rattle.small_spec.specs.Journal.{of_part}
use Rattle.small_spec.specs.Entries.{is_arrived, is_linked, sent_message}
use Rattle.small_spec.specs.Operations.{live_operations}
use Rattle.small_spec.specs.History.{Line, commands, journal}

-- how many clients have arrived
abbrev pub arrivals : List Entry → ℕ
arrivals J = length (filter (λ e. is_arrived e.what) J)

-- whether a client has arrived, and whether a connection was linked
abbrev pub has_arrived : ℕ → List Entry → Bool
has_arrived c J = list_any (λ e. is_arrived e.what) (of_part (Client c) J)

abbrev pub was_linked : ℕ → List Entry → Bool
was_linked u J = list_any (λ e. is_linked e.what) (of_part (Connection u) J)

-- whether the bytes are one whole element with this tag
abbrev pub is_one_element : ℕ → List ℕ → Bool
is_one_element tag bytes = passes (λ e. length e.behind == 0) (first_tagged tag bytes)

-- whether a live operation of a client has this identifier
abbrev pub is_in_use : ℕ → ℕ → List Entry → Bool
is_in_use c id J = list_any (λ o. o.request.id == id) (live_operations c (of_part (Client c) J))

-- whether this identifier was given to an operation on a connection
abbrev pub is_given : ℕ → ℕ → List Entry → Bool
is_given u id J = list_any (λ e. passes (λ s. s.value.id == id) (sent_message e.what)) (of_part (Connection u) J)

-- whether a command feeds a client a message with this identifier
abbrev pub feeds_id : ℕ → ℕ → Command → Bool
feeds_id c id (ClientBytes n bytes) = n == c && passes (λ m. m.id == id) (message_of bytes)
feeds_id c id _ = false

-- whether the answer is no, and the test of a command passes, or else the answer stays; behind a settle it is no
abbrev pub fed_after : Bool → ℕ → ℕ → Command → Bool
fed_after before c id Settle = false
fed_after before c id command = before || feeds_id c id command

-- whether these commands fed a client a message with this identifier since the last settle, where this is so before them
abbrev pub was_fed_from : Bool → ℕ → ℕ → List Command → Bool
was_fed_from before c id [] = before
was_fed_from before c id (command ∷ cs) = was_fed_from (fed_after before c id command) c id cs

-- whether a client was fed a message with this identifier since the last settle
abbrev pub was_fed : ℕ → ℕ → List Command → Bool
was_fed c id cs = was_fed_from false c id cs

-- whether a request may be fed to client 1: a Delete with an identifier other than 0 that isn't in use
abbrev pub is_new_delete : List Line → Message → Bool
is_new_delete before m = not (m.id == 0) && is_one_element 0x4A m.rest && not (is_in_use 1 m.id (journal before)) && not (was_fed 1 m.id (commands before))

-- whether an answer may be fed to connection 1: that of a Delete, with an identifier that was given
abbrev pub is_delete_answer : List Line → Message → Bool
is_delete_answer before m = is_one_element 0x6B m.rest && is_given 1 m.id (journal before)

-- whether a command stands behind these lines; bytes stand where all of them spell a message, in any form of its
-- lengths and of its identifier, within the limit of the part that they are fed to
abbrev pub stands : Settings → List Line → Command → Bool
stands s before (ClientArrives n) = n == 1 && n == suc (arrivals (journal before))
stands s before (ClientBytes n bytes) = n == 1 && has_arrived n (journal before) && passes (is_new_delete before) (message_within s.max_incoming_client bytes)
stands s before (UpReady n) = n == 1 && not (was_linked n (journal before))
stands s before (UpBytes n bytes) = n == 1 && was_linked n (journal before) && passes (is_delete_answer before) (message_within s.max_incoming_upstream bytes)
stands s before Settle = true
stands s before _ = false
