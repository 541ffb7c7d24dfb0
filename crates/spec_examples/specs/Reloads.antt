-- Worked journals of another plan while the proxy runs.
use Rattle.std.specs.Prelude.{List, [], ◌∷◌, Some, None}
use Rattle.lload_names.specs.declared.names.Entry.{Entry}
use Rattle.lload_names.specs.declared.names.What.TheVariants.{Arrived, In, Chosen, Out, Linked, Up as IsUp, Sent, Own, Got, Asked, Chose, Heard, Replanned}
use Rattle.lload_names.specs.declared.names.Answer.TheVariants.{Go, Unavailable}
use Rattle.lload_names.specs.declared.names.Letter.TheVariants.{Ended, IsUp as HeardUp}
use Rattle.spec_examples.specs.Entries.{client, up, desk, op, regular, bind, bound_to_backend, bound_to_connection}
use Rattle.spec_examples.specs.Octets.{bind_done, delete_body, delete_done, delete_unavailable, sasl_first, sasl_in_progress, sasl_second, who_am_i_body, who_is_ann, restricted_delete}

-- a Delete goes on at a connection of the plan before, and one behind it goes to the new plan
abbrev pub taken_while_running : List Entry
taken_while_running =
    up 1 Linked
    ∷ up 1 IsUp
    ∷ desk (Heard (HeardUp 1))
    ∷ client 1 Arrived
    ∷ client 1 (In 5 delete_body)
    ∷ desk (Asked (op 1 1) regular)
    ∷ desk (Chose (op 1 1) (Go 1 1) 0)
    ∷ client 1 (Chosen (op 1 1) (Go 1 1))
    ∷ up 1 (Sent 1 (op 1 1) delete_body)
    ∷ desk (Replanned 2 1)
    ∷ up 2 Linked
    ∷ up 2 IsUp
    ∷ desk (Heard (HeardUp 2))
    ∷ client 1 (In 6 delete_body)
    ∷ desk (Asked (op 1 2) regular)
    ∷ desk (Chose (op 1 2) (Go 2 2) 0)
    ∷ client 1 (Chosen (op 1 2) (Go 2 2))
    ∷ up 2 (Sent 1 (op 1 2) delete_body)
    ∷ up 1 (Got 1 delete_done)
    ∷ desk (Heard (Ended (op 1 1) 1 (Some 0)))
    ∷ client 1 (Out 5 delete_done)
    ∷ []

-- a SASL exchange goes on at its connection, which belongs to the plan before
abbrev pub exchange_goes_on : List Entry
exchange_goes_on =
    up 1 Linked
    ∷ up 1 IsUp
    ∷ desk (Heard (HeardUp 1))
    ∷ up 2 Linked
    ∷ up 2 IsUp
    ∷ desk (Heard (HeardUp 2))
    ∷ client 1 Arrived
    ∷ client 1 (In 1 sasl_first)
    ∷ desk (Asked (op 1 1) bind)
    ∷ desk (Chose (op 1 1) (Go 2 1) 0)
    ∷ client 1 (Chosen (op 1 1) (Go 2 1))
    ∷ up 2 (Sent 1 (op 1 1) sasl_first)
    ∷ up 2 (Got 1 sasl_in_progress)
    ∷ client 1 (Out 1 sasl_in_progress)
    ∷ desk (Replanned 2 2)
    ∷ client 1 (In 2 sasl_second)
    ∷ up 2 (Sent 1 (op 1 2) sasl_second)
    ∷ up 2 (Got 1 bind_done)
    ∷ up 2 (Own 2 who_am_i_body)
    ∷ up 2 (Got 2 who_is_ann)
    ∷ desk (Heard (Ended (op 1 1) 2 None))
    ∷ client 1 (Out 2 bind_done)
    ∷ []

-- no connection of the new plan is ready, though one of the plan before is up
abbrev pub not_ready_yet : List Entry
not_ready_yet =
    up 1 Linked
    ∷ up 1 IsUp
    ∷ desk (Heard (HeardUp 1))
    ∷ client 1 Arrived
    ∷ desk (Replanned 2 1)
    ∷ client 1 (In 5 delete_body)
    ∷ desk (Asked (op 1 1) regular)
    ∷ desk (Chose (op 1 1) Unavailable 0)
    ∷ client 1 (Chosen (op 1 1) Unavailable)
    ∷ client 1 (Out 5 delete_unavailable)
    ∷ []

-- a client whose write bound it to a backend of the plan before finds no connection
abbrev pub written_before : List Entry
written_before =
    up 1 Linked
    ∷ up 1 IsUp
    ∷ desk (Heard (HeardUp 1))
    ∷ client 1 Arrived
    ∷ client 1 (In 5 delete_body)
    ∷ desk (Asked (op 1 1) regular)
    ∷ desk (Chose (op 1 1) (Go 1 1) 0)
    ∷ client 1 (Chosen (op 1 1) (Go 1 1))
    ∷ up 1 (Sent 1 (op 1 1) delete_body)
    ∷ up 1 (Got 1 delete_done)
    ∷ desk (Heard (Ended (op 1 1) 1 (Some 0)))
    ∷ client 1 (Out 5 delete_done)
    ∷ desk (Replanned 2 1)
    ∷ up 2 Linked
    ∷ up 2 IsUp
    ∷ desk (Heard (HeardUp 2))
    ∷ client 1 (In 6 delete_body)
    ∷ desk (Asked (op 1 2) (bound_to_backend 1))
    ∷ desk (Chose (op 1 2) Unavailable 0)
    ∷ client 1 (Chosen (op 1 2) Unavailable)
    ∷ client 1 (Out 6 delete_unavailable)
    ∷ []

-- so does a client that a request bound to a connection of the plan before, though that connection is up
abbrev pub restricted_before : List Entry
restricted_before =
    up 1 Linked
    ∷ up 1 IsUp
    ∷ desk (Heard (HeardUp 1))
    ∷ client 1 Arrived
    ∷ client 1 (In 5 restricted_delete)
    ∷ desk (Asked (op 1 1) regular)
    ∷ desk (Chose (op 1 1) (Go 1 1) 0)
    ∷ client 1 (Chosen (op 1 1) (Go 1 1))
    ∷ up 1 (Sent 1 (op 1 1) restricted_delete)
    ∷ up 1 (Got 1 delete_done)
    ∷ desk (Heard (Ended (op 1 1) 1 (Some 0)))
    ∷ client 1 (Out 5 delete_done)
    ∷ desk (Replanned 2 1)
    ∷ up 2 Linked
    ∷ up 2 IsUp
    ∷ desk (Heard (HeardUp 2))
    ∷ client 1 (In 6 delete_body)
    ∷ desk (Asked (op 1 2) (bound_to_connection 1))
    ∷ desk (Chose (op 1 2) Unavailable 0)
    ∷ client 1 (Chosen (op 1 2) Unavailable)
    ∷ client 1 (Out 6 delete_unavailable)
    ∷ []

-- the order of backends begins anew behind another plan
abbrev pub picked_anew : List Entry
picked_anew =
    up 1 Linked
    ∷ up 1 IsUp
    ∷ desk (Heard (HeardUp 1))
    ∷ up 2 Linked
    ∷ up 2 IsUp
    ∷ desk (Heard (HeardUp 2))
    ∷ client 1 Arrived
    ∷ client 1 (In 5 delete_body)
    ∷ desk (Asked (op 1 1) regular)
    ∷ desk (Chose (op 1 1) (Go 1 1) 0)
    ∷ client 1 (Chosen (op 1 1) (Go 1 1))
    ∷ up 1 (Sent 1 (op 1 1) delete_body)
    ∷ desk (Replanned 2 2)
    ∷ up 3 Linked
    ∷ up 3 IsUp
    ∷ desk (Heard (HeardUp 3))
    ∷ up 4 Linked
    ∷ up 4 IsUp
    ∷ desk (Heard (HeardUp 4))
    ∷ client 1 (In 6 delete_body)
    ∷ desk (Asked (op 1 2) regular)
    ∷ desk (Chose (op 1 2) (Go 3 3) 0)
    ∷ client 1 (Chosen (op 1 2) (Go 3 3))
    ∷ up 3 (Sent 1 (op 1 2) delete_body)
    ∷ client 1 (In 7 delete_body)
    ∷ desk (Asked (op 1 3) regular)
    ∷ desk (Chose (op 1 3) (Go 4 4) 0)
    ∷ client 1 (Chosen (op 1 3) (Go 4 4))
    ∷ up 4 (Sent 1 (op 1 3) delete_body)
    ∷ []
