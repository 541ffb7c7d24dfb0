-- What happens in the runs.
use Rattle.std.specs.Prelude.{ℕ, List, [], ◌∷◌, ◌++◌}
use Rattle.lload_names.specs.declared.inputs.Input.TheVariants.{Arrive, LinkUp, Message, Tick, Stall, Flow, Reload}
use Rattle.lload_names.specs.declared.names.PartName.TheVariants.{Desk, Client, Up as Connection}
use Rattle.lload_spec.specs.Settings.{numbered_plan}
use Rattle.spec_examples.specs.Configurations.{reloading}
use Rattle.spec_examples.specs.Octets.{abandon_of_5, abandon_of_7, bind_done, bind_refused, bind_x, cancel_of_7, delete_body, delete_done, modify_body, modify_done, restricted_delete, sasl_first, sasl_in_progress, search_body, search_done, search_entry, unbind_body, who_refused}
use Rattle.turn_examples.specs.Runs.{Move, Comes, Takes, Loses, Settles}

-- a connection is linked, and a client comes
abbrev pub linked : ℕ → List Move
linked u = Comes (Connection u) (LinkUp 0) ∷ Settles ∷ []

abbrev pub arrives : ℕ → List Move
arrives c = Comes (Client c) (Arrive 0) ∷ []

-- a client's message comes, and an upstream's
abbrev pub from_client : ℕ → ℕ → List ℕ → List Move
from_client c id rest = Comes (Client c) (Message 0 id rest) ∷ []

abbrev pub from_upstream : ℕ → ℕ → List ℕ → List Move
from_upstream u id rest = Comes (Connection u) (Message 0 id rest) ∷ []

-- the same, and all is taken
abbrev pub client_sends : ℕ → ℕ → List ℕ → List Move
client_sends c id rest = from_client c id rest ++ Settles ∷ []

abbrev pub upstream_sends : ℕ → ℕ → List ℕ → List Move
upstream_sends u id rest = from_upstream u id rest ++ Settles ∷ []

-- connection 1 is linked, or connections 1 and 2, and client 1 comes
abbrev pub beginning : List Move
beginning = linked 1 ++ arrives 1

abbrev pub two_ready : List Move
two_ready = linked 1 ++ (linked 2 ++ arrives 1)

-- the own Bind of a connection is refused
abbrev pub own_bind_refused : List Move
own_bind_refused = linked 1 ++ upstream_sends 1 1 bind_refused

-- a Delete, and its answer
abbrev pub delete_sent : List Move
delete_sent = beginning ++ client_sends 1 5 delete_body

abbrev pub delete_answered : List Move
delete_answered = delete_sent ++ upstream_sends 1 1 delete_done

-- two Deletes behind it
abbrev pub two_deletes_behind : List Move
two_deletes_behind = delete_answered ++ (client_sends 1 6 delete_body ++ client_sends 1 7 delete_body)

-- two Deletes, and their answers
abbrev pub two_deletes : List Move
two_deletes = delete_sent ++ client_sends 1 6 delete_body

abbrev pub two_answered : List Move
two_answered = two_deletes ++ (upstream_sends 1 1 delete_done ++ upstream_sends 1 2 delete_done)

-- a Delete that is due
abbrev pub delete_due : List Move
delete_due = delete_sent ++ Comes (Connection 1) (Tick 30000) ∷ Settles ∷ []

-- a Delete that is abandoned before its choice comes
abbrev pub choice_late : List Move
choice_late =
    beginning
    ++ (from_client 1 5 delete_body ++ (Takes Desk (Client 1) ∷ (from_client 1 6 abandon_of_5 ++ Settles ∷ [])))

-- a Delete whose connection is lost before it is sent; one that is restricted; one under identifier 0
abbrev pub forward_late : List Move
forward_late =
    beginning
    ++ (from_client 1 5 delete_body
    ++ Takes Desk (Client 1) ∷ Takes (Client 1) Desk ∷ Loses (Connection 1) ∷ Settles ∷ [])

abbrev pub delete_restricted : List Move
delete_restricted = beginning ++ client_sends 1 5 restricted_delete

abbrev pub zero_identifier : List Move
zero_identifier = beginning ++ client_sends 1 0 delete_body

-- a Delete for which no connection is there; one behind the loss of its connection; an Unbind
abbrev pub delete_alone : List Move
delete_alone = arrives 1 ++ client_sends 1 5 delete_body

abbrev pub delete_behind_loss : List Move
delete_behind_loss = beginning ++ Loses (Connection 1) ∷ Settles ∷ client_sends 1 5 delete_body

abbrev pub unbinds : List Move
unbinds = beginning ++ client_sends 1 5 unbind_body

-- a Search; it is abandoned; its answer comes behind its Abandon, or the loss of its connection does
abbrev pub search_sent : List Move
search_sent = beginning ++ client_sends 1 7 search_body

abbrev pub search_abandoned : List Move
search_abandoned = search_sent ++ client_sends 1 8 abandon_of_7

abbrev pub answer_late : List Move
answer_late = search_sent ++ (from_upstream 1 1 search_done ++ client_sends 1 8 abandon_of_7)

abbrev pub loss_late : List Move
loss_late = search_sent ++ Loses (Connection 1) ∷ client_sends 1 8 abandon_of_7

-- a Search with an entry and its end; a Search that is canceled
abbrev pub search_answered : List Move
search_answered = search_sent ++ (upstream_sends 1 1 search_entry ++ upstream_sends 1 1 search_done)

abbrev pub search_canceled : List Move
search_canceled = search_sent ++ client_sends 1 8 cancel_of_7

-- an answer to nothing comes while a Search is live; a Bind does
abbrev pub stray_answer : List Move
stray_answer = search_sent ++ upstream_sends 1 9 delete_done

abbrev pub bind_behind_search : List Move
bind_behind_search = two_ready ++ (client_sends 1 7 search_body ++ client_sends 1 8 bind_x)

-- its client doesn't read; an entry comes then; or the client leaves
abbrev pub stalled : List Move
stalled = search_sent ++ Comes (Client 1) (Stall 0) ∷ Settles ∷ []

abbrev pub entry_while_stalled : List Move
entry_while_stalled = stalled ++ upstream_sends 1 1 search_entry

abbrev pub stalled_and_gone : List Move
stalled_and_gone = stalled ++ client_sends 1 8 unbind_body

-- a client stalls twice
abbrev pub stalls_again : List Move
stalls_again = beginning ++ Comes (Client 1) (Stall 0) ∷ Comes (Client 1) (Stall 0) ∷ []

-- it reads again; or a Search comes while it doesn't read
abbrev pub reads_again : List Move
reads_again = stalled ++ Comes (Client 1) (Flow 0) ∷ Settles ∷ []

abbrev pub search_while_stalled : List Move
search_while_stalled = beginning ++ Comes (Client 1) (Stall 0) ∷ client_sends 1 7 search_body

-- a client with two Searches, each of which may go to its own connection
abbrev pub two_searches : List Move
two_searches = two_ready ++ (client_sends 1 1 search_body ++ client_sends 1 2 search_body)

-- a Modify and its answer, and a Search behind it
abbrev pub search_behind_write : List Move
search_behind_write =
    two_ready ++ (client_sends 1 1 modify_body ++ (upstream_sends 1 1 modify_done ++ client_sends 1 2 search_body))

-- two Deletes, of which the second finds a busy tier
abbrev pub busy : List Move
busy = two_ready ++ (client_sends 1 4 delete_body ++ client_sends 1 5 delete_body)

-- a Delete comes while a Bind is live
abbrev pub delete_behind_bind : List Move
delete_behind_bind = two_ready ++ (client_sends 1 1 bind_x ++ client_sends 1 2 delete_body)

-- a Bind that succeeds, one that doesn't, and a Delete
abbrev pub bound_twice : List Move
bound_twice =
    two_ready
    ++ (client_sends 1 1 bind_x ++ (upstream_sends 2 1 bind_done
    ++ (client_sends 1 2 bind_x ++ (upstream_sends 2 1 bind_refused ++ client_sends 1 3 delete_body))))

-- a Bind by SASL that succeeds at once
abbrev pub sasl_succeeds : List Move
sasl_succeeds = two_ready ++ (client_sends 1 1 sasl_first ++ upstream_sends 2 1 bind_done)

-- its identity isn't told
abbrev pub identity_untold : List Move
identity_untold = sasl_succeeds ++ upstream_sends 2 2 who_refused

-- a Bind that is answered, and one that is due
abbrev pub bind_answered : List Move
bind_answered = two_ready ++ (client_sends 1 1 bind_x ++ upstream_sends 2 1 bind_done)

abbrev pub bind_due : List Move
bind_due = two_ready ++ (client_sends 1 1 bind_x ++ Comes (Connection 2) (Tick 30000) ∷ Settles ∷ [])

-- a SASL exchange that goes on; its client leaves; or another client sends a Bind
abbrev pub in_exchange : List Move
in_exchange = two_ready ++ (client_sends 1 1 sasl_first ++ upstream_sends 2 1 sasl_in_progress)

abbrev pub gone_within_exchange : List Move
gone_within_exchange = in_exchange ++ client_sends 1 2 unbind_body

abbrev pub next_in_exchange : List Move
next_in_exchange = in_exchange ++ client_sends 1 2 sasl_first

abbrev pub bind_within_exchange : List Move
bind_within_exchange = in_exchange ++ (arrives 2 ++ client_sends 2 1 sasl_first)

-- another plan comes, with this base
abbrev pub reloads : ℕ → List Move
reloads base = Comes Desk (Reload 0 (numbered_plan reloading.plans 2).plan base) ∷ []

-- another plan, of which a connection is linked, and a Delete
abbrev pub delete_behind_reload : List Move
delete_behind_reload = beginning ++ (reloads 1 ++ (linked 2 ++ client_sends 1 5 delete_body))

-- another plan with another base
abbrev pub other_base : List Move
other_base = beginning ++ reloads 0
