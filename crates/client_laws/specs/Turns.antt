-- Lists that a client's turns make, and what is proved of them.
use Rattle.std.specs.Prelude.{◌≡◌, ℕ, true, false, List, map, IsTrue}
use Rattle.lload_names.specs.declared.inputs.Effects.{Effects}
use Rattle.lload_names.specs.declared.names.PartName.TheVariants.{Client}
use Rattle.lload_spec.specs.Settings.{Settings}
use Rattle.lload_spec.specs.Entries.{is_link_reason}
use Rattle.lload_spec.specs.Operations.{live_operations}
use Rattle.lload_spec.specs.FirstCheck.{live_request}
use Rattle.lload_spec.specs.Pauses.{pausing_at}
use Rattle.part_spec.specs.Marked.{Marked, entries}
use Rattle.part_spec.specs.ClientState.{ClientState, empty_client, step_client, client_of, facts_of}
use Rattle.part_spec.specs.ClientTurn.{client_turn, client_sever}
use Rattle.part_spec.specs.Gives.{gives}
use Rattle.part_spec.specs.Marks.{has_right_marks}
use Rattle.part_spec.specs.Share.{each_check_followed, each_ended_once, each_late_caused, each_stall_caused, moments_never_fall}
use Rattle.part_laws.specs.Turns.{Event, Comes, Severed, list_from, letters_given, no_effects}

-- a turn of a client; a link ends for a reason that a link has
abbrev pub client_event : Settings → ClientState → Event → Effects
client_event s p (Comes input) = client_turn s p input
client_event s p (Severed now why) =
    elim (is_link_reason why) [ true ↦ client_sever p now why | false ↦ no_effects ]

-- a client's list by its turns
abbrev pub client_list : Settings → ℕ → List Event → List Marked
client_list s c xs = list_from (step_client s) (client_event s) (empty_client c) xs

-- a client's state has a row exactly for each operation that is live at the end of its list, in order
abbrev pub ClientRows : Type 0
ClientRows =
    (s : Settings) (c : ℕ) (xs : List Event)
    → map (λ r. r.k) (client_of s c (client_list s c xs)).rows
    ≡ map (λ o. o.name.k) (live_operations c (entries (client_list s c xs)))

-- and what the checks ask of the live operations is what its list says of them
abbrev pub ClientLiveFacts : Type 0
ClientLiveFacts =
    (s : Settings) (c : ℕ) (xs : List Event)
    → (facts_of (client_of s c (client_list s c xs))).live
    ≡ map (λ o. live_request o.request) (live_operations c (entries (client_list s c xs)))

-- a client's state says whether it is stalled, of each list
abbrev pub ClientStalls : Type 0
ClientStalls =
    (s : Settings) (c : ℕ) (list : List Marked)
    → (client_of s c list).pausing.stalled ≡ (pausing_at c (entries list)).stalled

-- no Out of an operation stands behind its end, in each list of a client's turns
abbrev pub ClientEndsOnce : Type 0
ClientEndsOnce = (s : Settings) (c : ℕ) (xs : List Event) → IsTrue (each_ended_once c (client_list s c xs))

-- the letters that a client's list stands for are those that its turns gave
abbrev pub ClientGives : Type 0
ClientGives =
    (s : Settings) (c : ℕ) (xs : List Event)
    → gives s (Client c) (client_list s c xs) ≡ letters_given (step_client s) (client_event s) (empty_client c) xs

-- each entry of a client's list has the right mark
abbrev pub ClientMarks : Type 0
ClientMarks = (s : Settings) (c : ℕ) (xs : List Event) → IsTrue (has_right_marks s (Client c) (client_list s c xs))

-- the moments of a client's list never fall
abbrev pub ClientMoments : Type 0
ClientMoments = (s : Settings) (c : ℕ) (xs : List Event) → IsTrue (moments_never_fall (client_list s c xs))

-- a client stalls and flows in turn, while it is there
abbrev pub ClientStallsInTurn : Type 0
ClientStallsInTurn = (s : Settings) (c : ℕ) (xs : List Event) → IsTrue (each_stall_caused c (client_list s c xs))

-- each late letter is of an operation that isn't live
abbrev pub ClientLate : Type 0
ClientLate = (s : Settings) (c : ℕ) (xs : List Event) → IsTrue (each_late_caused c (client_list s c xs))

-- each In of a client's list has directly behind it what its first check wants
abbrev pub ClientChecks : Type 0
ClientChecks = (s : Settings) (c : ℕ) (xs : List Event) → IsTrue (each_check_followed s c (client_list s c xs))
