-- The clauses of each part's share, one by one, and lists that one of them alone refuses.
use Rattle.std.specs.Prelude.{ℕ, Bool, true, false, ◌==◌, ◌&&◌, not, List, [], ◌∷◌, ◌++◌, filter, length, None, Some}
use Rattle.ldap_spec.specs.Bodies.{refusal}
use Rattle.lload_names.specs.declared.names.Answer.TheVariants.{Go, Unavailable}
use Rattle.lload_names.specs.declared.names.Letter.TheVariants.{Choice, Failed, Pause, Reply, IsUp as TellUp}
use Rattle.lload_names.specs.declared.names.OpKind.TheVariants as kind
use Rattle.lload_names.specs.declared.names.PartName.TheVariants.{Desk, Client, Up as Connection}
use Rattle.lload_names.specs.declared.names.Refusal.TheVariants.{C9}
use Rattle.lload_names.specs.declared.names.What.TheVariants.{Arrived, In, Chosen, Out, Stalled, Linked, Up, Own, Sent, Got, Paused, Heard}
use Rattle.lload_spec.specs.Settings.{Settings}
use Rattle.part_spec.specs.Marked.{Marked}
use Rattle.part_spec.specs.Marks.{has_right_marks}
use Rattle.part_spec.specs.Share as share
use Rattle.spec_examples.specs.Entries.{client, up, desk, moment, op}
use Rattle.spec_examples.specs.Octets.{bind_done, bind_refused, delete_body, delete_done, own_bind_body, sasl_first, search_body, search_done, search_entry, who_am_i_body}
use Rattle.part_examples.specs.WrongLists.{bind_choice, client_choice, connection_sent, takes, unmarked}

-- the clauses of a client's share behind that of its marks, and all; the same of a connection's share
abbrev pub client_clauses_but_marks : Settings → ℕ → List Marked → List Bool
client_clauses_but_marks s c list =
    share.each_answered c list ∷ share.each_ended_once c list ∷ share.each_out_owned c list
    ∷ share.each_refusal_caused s c list ∷ share.each_check_followed s c list ∷ share.each_busy_told c list
    ∷ share.each_unavailable_told c list ∷ share.each_gone_caused s c list ∷ share.each_late_caused c list
    ∷ share.each_stall_caused c list ∷ share.moments_never_fall list ∷ share.lives_as_a_client s c list
    ∷ share.each_success_known s c list ∷ []

abbrev pub client_clauses : Settings → ℕ → List Marked → List Bool
client_clauses s c list = has_right_marks s (Client c) list ∷ client_clauses_but_marks s c list

abbrev pub connection_clauses_but_marks : Settings → ℕ → List Marked → List Bool
connection_clauses_but_marks s u list =
    share.each_id_right s u list ∷ share.each_passed s u list ∷ share.each_sent_once s u list
    ∷ share.each_own_reasoned s u list ∷ share.each_up_due s u list ∷ share.each_retirement_due s list
    ∷ share.each_own_bind_end_due s u list ∷ share.each_expired_due s u list ∷ share.each_missed_caused list
    ∷ share.each_idle_caused s u list ∷ share.each_bad_told s u list ∷ share.each_down_caused s u list
    ∷ share.moments_never_fall list ∷ share.lives_as_a_connection list ∷ []

abbrev pub connection_clauses : Settings → ℕ → List Marked → List Bool
connection_clauses s u list = has_right_marks s (Connection u) list ∷ connection_clauses_but_marks s u list

-- the clauses of the desk's share
abbrev pub desk_clauses : Settings → List Marked → List Bool
desk_clauses s list =
    has_right_marks s Desk list ∷ share.each_choice_right s list ∷ share.moments_never_fall list
    ∷ share.lives_as_a_desk list ∷ []

-- whether this clause refuses a list, and of these clauses it alone
abbrev pub refuses_alone : (List Marked → Bool) → (List Marked → List Bool) → List Marked → Bool
refuses_alone clause all list = not (clause list) && length (filter not (all list)) == 1

-- a choice is taken that marks no letter
abbrev pub choice_unmarked : List Marked
choice_unmarked =
    unmarked (client 1 Arrived) ∷ unmarked (client 1 (In 5 delete_body)) ∷ unmarked (client 1 (Chosen (op 1 1) (Go 1 1)))
    ∷ []

-- a Delete is refused for want of an identity, which it doesn't need
abbrev pub unknown_needlessly : List Marked
unknown_needlessly =
    client_choice ++ takes (Connection 1) (Failed (op 1 1) C9) (client 1 (Out 5 (refusal kind.Delete C9))) ∷ []

-- that no connection is available isn't told
abbrev pub unavailable_untold : List Marked
unavailable_untold =
    unmarked (client 1 Arrived) ∷ unmarked (client 1 (In 5 delete_body))
    ∷ takes Desk (Choice (op 1 1) Unavailable) (client 1 (Chosen (op 1 1) Unavailable)) ∷ []

-- a client stalls that is stalled
abbrev pub stalled_again : List Marked
stalled_again = unmarked (client 1 Arrived) ∷ unmarked (client 1 Stalled) ∷ unmarked (client 1 Stalled) ∷ []

-- the moment falls, at a client, at a connection and at the desk
abbrev pub client_moment_falls : List Marked
client_moment_falls = unmarked (moment 7 (client 1 Arrived)) ∷ unmarked (client 1 (In 5 delete_body)) ∷ []

abbrev pub connection_moment_falls : List Marked
connection_moment_falls = unmarked (moment 7 (up 1 Linked)) ∷ unmarked (up 1 Up) ∷ []

abbrev pub desk_moment_falls : List Marked
desk_moment_falls =
    takes (Connection 1) (TellUp 1) (moment 7 (desk (Heard (TellUp 1))))
    ∷ takes (Connection 2) (TellUp 2) (desk (Heard (TellUp 2))) ∷ []

-- a client arrives twice
abbrev pub arrived_twice : List Marked
arrived_twice = unmarked (client 1 Arrived) ∷ unmarked (client 1 Arrived) ∷ []

-- a success that was kept back goes out without a readable identity
abbrev pub success_unknown : List Marked
success_unknown =
    bind_choice
    ++ takes (Connection 2) (Reply (op 1 1) bind_done true (Some sasl_first)) (client 1 (Out 1 bind_done)) ∷ []

-- a Sent marks no letter
abbrev pub sent_unmarked : List Marked
sent_unmarked = unmarked (up 1 Linked) ∷ unmarked (up 1 Up) ∷ unmarked (up 1 (Sent 1 (op 1 1) delete_body)) ∷ []

-- a message is taken while the connection pauses; a client pauses it twice
abbrev pub got_while_paused : List Marked
got_while_paused =
    connection_sent ++ takes (Client 1) (Pause 1) (up 1 (Paused 1)) ∷ unmarked (up 1 (Got 1 delete_done)) ∷ []

abbrev pub paused_twice : List Marked
paused_twice =
    connection_sent ++ takes (Client 1) (Pause 1) (up 1 (Paused 1)) ∷ takes (Client 1) (Pause 1) (up 1 (Paused 1)) ∷ []

-- a Who Am I is sent for no Bind
abbrev pub asked_for_nobody : List Marked
asked_for_nobody = connection_sent ++ unmarked (up 1 (Own 2 who_am_i_body)) ∷ []

-- the own Bind is refused, and the connection stays
abbrev pub refused_and_linked : List Marked
refused_and_linked =
    unmarked (up 1 Linked) ∷ unmarked (up 1 (Own 1 own_bind_body)) ∷ unmarked (up 1 (Got 1 bind_refused)) ∷ []

-- a connection is linked twice
abbrev pub linked_twice : List Marked
linked_twice = unmarked (up 1 Linked) ∷ unmarked (up 1 Up) ∷ unmarked (up 1 Linked) ∷ unmarked (up 1 Up) ∷ []

-- the desk hears what no letter told
abbrev pub heard_unmarked : List Marked
heard_unmarked = unmarked (desk (Heard (TellUp 1))) ∷ []

-- an entry of a Search goes out behind its last answer
abbrev pub entry_behind_last : List Marked
entry_behind_last =
    unmarked (client 1 Arrived) ∷ unmarked (client 1 (In 7 search_body))
    ∷ takes Desk (Choice (op 1 1) (Go 1 1)) (client 1 (Chosen (op 1 1) (Go 1 1)))
    ∷ takes (Connection 1) (Reply (op 1 1) search_done true None) (client 1 (Out 7 search_done))
    ∷ takes (Connection 1) (Reply (op 1 1) search_entry false None) (client 1 (Out 7 search_entry)) ∷ []
