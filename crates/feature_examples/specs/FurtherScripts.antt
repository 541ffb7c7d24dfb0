-- More scripts of identifiers that are used again, of clients that don't read, of Cancels, and of another plan.
use Rattle.std.specs.Prelude.{List, [], ◌∷◌, ◌++◌}
use Rattle.lload_names.specs.declared.names.PartName.TheVariants.{Desk, Client}
use Rattle.lload_names.specs.declared.command.Command.{Command}
use Rattle.lload_names.specs.declared.command.Command.TheVariants.{ClientArrives, ClientStalls, ClientFlows, UpReady, UpLost, Tick, StepTick, Reload, Settle, ClientBytes, Step, StepFrom}
use Rattle.spec_examples.specs.Octets.{bind_done, bind_refused, bind_x, cancel_done, cancel_of_7, delete_body, delete_done, restricted_delete, sasl_first, sasl_in_progress, sasl_second, search_body, search_canceled, search_entry, who_am_i_body, who_is_ann}
use Rattle.part_examples.specs.Scripts.{client_sends, upstream_sends, beginning, two_ready, spelled}

-- a late answer under a freed identifier that no operation has is dropped
abbrev pub late_to_freed_script : List Command
late_to_freed_script =
    beginning ++ (client_sends 1 5 delete_body ++ (upstream_sends 1 1 delete_done
    ++ (upstream_sends 1 1 delete_done ++ (client_sends 1 6 delete_body ++ upstream_sends 1 1 delete_done))))

-- each Bind of an exchange, and each later Bind, gets the freed identifier; that of a Who Am I is not used again
abbrev pub binds_again_script : List Command
binds_again_script =
    two_ready ++ (client_sends 1 1 sasl_first ++ (upstream_sends 2 1 sasl_in_progress
    ++ (client_sends 1 2 sasl_second ++ (upstream_sends 2 1 bind_done ++ (upstream_sends 2 2 who_is_ann
    ++ (client_sends 1 3 sasl_first ++ (upstream_sends 2 1 bind_done ++ upstream_sends 2 3 who_is_ann)))))))

-- two clients use one bind connection in turn
abbrev pub bound_in_turn_script : List Command
bound_in_turn_script =
    two_ready ++ ((ClientArrives 2 ∷ []) ++ (client_sends 1 1 bind_x ++ (upstream_sends 2 1 bind_done
    ++ (client_sends 2 1 bind_x ++ (upstream_sends 2 1 bind_refused ++ (client_sends 1 2 bind_x
    ++ upstream_sends 2 1 bind_done))))))

-- two clients pause one connection, which is read again when both flow
abbrev pub two_stalled_script : List Command
two_stalled_script =
    beginning ++ ((ClientArrives 2 ∷ []) ++ (client_sends 1 7 search_body ++ (client_sends 2 7 search_body
    ++ ((ClientStalls 1 ∷ Settle ∷ ClientStalls 2 ∷ Settle ∷ []) ++ (upstream_sends 1 1 search_entry
    ++ (ClientFlows 1 ∷ Settle ∷ ClientFlows 2 ∷ Settle ∷ []))))))

-- a client stalls and flows before it learns that its connection is lost; the connection is told so behind its end
abbrev pub paused_behind_loss_script : List Command
paused_behind_loss_script =
    beginning ++ (client_sends 1 7 search_body ++ (UpLost 1 ∷ ClientStalls 1 ∷ ClientFlows 1 ∷ Settle ∷ []))

-- a paused connection is lost with two operations; when its client flows, it is told so behind its end
abbrev pub lost_while_paused_script : List Command
lost_while_paused_script =
    beginning ++ (client_sends 1 7 search_body ++ (client_sends 1 8 delete_body
    ++ (ClientStalls 1 ∷ Settle ∷ UpLost 1 ∷ Settle ∷ ClientFlows 1 ∷ Settle ∷ [])))

-- a Delete expires on a connection that is paused for its client
abbrev pub expired_while_paused_script : List Command
expired_while_paused_script =
    beginning ++ (client_sends 1 5 delete_body
    ++ (ClientStalls 1 ∷ Settle ∷ Tick 30000 ∷ StepTick 1 ∷ Settle ∷ ClientFlows 1 ∷ Settle ∷ []))

-- a Cancel names the identifier of a Bind that was answered
abbrev pub bind_answered_named_script : List Command
bind_answered_named_script =
    two_ready ++ (client_sends 1 7 bind_x ++ (upstream_sends 2 1 bind_done ++ client_sends 1 8 cancel_of_7))

-- an upstream answers an extended request with the octets of a Cancel's success; its identifier is free then
abbrev pub success_of_upstream_script : List Command
success_of_upstream_script =
    beginning ++ (client_sends 1 5 who_am_i_body ++ (upstream_sends 1 1 cancel_done
    ++ client_sends 1 6 delete_body))

-- an upstream answers a Search that it is canceled; its identifier is free then
abbrev pub canceled_by_upstream_script : List Command
canceled_by_upstream_script =
    beginning ++ (client_sends 1 7 search_body ++ (upstream_sends 1 1 search_canceled
    ++ client_sends 1 6 delete_body))

-- a client whose write bound it to a backend of the plan before finds no connection
abbrev pub written_before_script : List Command
written_before_script =
    beginning ++ (client_sends 1 5 delete_body ++ (upstream_sends 1 1 delete_done
    ++ ((Reload ∷ UpReady 2 ∷ Settle ∷ []) ++ client_sends 1 6 delete_body)))

-- so does a client that a request bound to a connection of the plan before, though that connection is up
abbrev pub restricted_before_script : List Command
restricted_before_script =
    beginning ++ (client_sends 1 5 restricted_delete ++ (upstream_sends 1 1 delete_done
    ++ ((Reload ∷ UpReady 2 ∷ Settle ∷ []) ++ client_sends 1 6 delete_body)))

-- the order of backends begins anew behind another plan
abbrev pub picked_anew_script : List Command
picked_anew_script =
    two_ready ++ (client_sends 1 5 delete_body ++ ((Reload ∷ UpReady 3 ∷ Settle ∷ UpReady 4 ∷ Settle ∷ [])
    ++ (client_sends 1 6 delete_body ++ client_sends 1 7 delete_body)))

-- the desk chooses a bind connection behind the end of an exchange there, before it hears that the connection is lost
abbrev pub chosen_behind_loss_script : List Command
chosen_behind_loss_script =
    two_ready ++ ((ClientArrives 2 ∷ []) ++ (client_sends 1 1 sasl_first ++ (upstream_sends 2 1 sasl_in_progress
    ++ (UpLost 2 ∷ Step Desk ∷ ClientBytes 2 (spelled 1 sasl_first) ∷ Step (Client 2) ∷ StepFrom Desk (Client 2)
    ∷ Settle ∷ []))))
