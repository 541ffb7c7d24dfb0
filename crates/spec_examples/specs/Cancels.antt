-- Worked journals of Cancels (RFC 3909).
use Rattle.std.specs.Prelude.{Bool, List, [], ◌∷◌, Some, None}
use Rattle.ldap_spec.specs.Bodies.{cancel_answer}
use Rattle.lload_names.specs.declared.names.CancelAnswer.TheVariants.{C13}
use Rattle.lload_names.specs.declared.names.OpKind.TheVariants.{Bind}
use Rattle.lload_spec.specs.Journal.{family}
use Rattle.lload_spec.specs.Lists.{passes}
use Rattle.lload_spec.specs.Operations.{is_ended_by_client, operation}
use Rattle.lload_names.specs.declared.names.Entry.{Entry}
use Rattle.lload_names.specs.declared.names.What.TheVariants.{Arrived, In, Chosen, Out, Linked, Up as IsUp, Sent, Own, Got, Asked, Chose, Heard}
use Rattle.lload_names.specs.declared.names.Answer.TheVariants.{Go}
use Rattle.lload_names.specs.declared.names.Letter.TheVariants.{Ended, IsUp as HeardUp, Returned}
use Rattle.spec_examples.specs.Entries.{client, up, desk, op, regular, bind}
use Rattle.spec_examples.specs.Octets.{abandon_of_1, cancel_body, cancel_not_read, cancel_of_7, cancel_of_8, cancel_of_9, cannot_cancel, delete_body, delete_canceled, no_such_operation, sasl_first, search_body, search_canceled, search_done, search_entry, start_tls_done, unreadable_cancel, bind_x, bind_done, who_am_i_body, cancel_done}

-- a Search is canceled behind an entry; what its upstream sends then is dropped
abbrev pub search_ended : List Entry
search_ended =
    up 1 Linked
    ∷ up 1 IsUp
    ∷ desk (Heard (HeardUp 1))
    ∷ client 1 Arrived
    ∷ client 1 (In 7 search_body)
    ∷ desk (Asked (op 1 1) regular)
    ∷ desk (Chose (op 1 1) (Go 1 1) 0)
    ∷ client 1 (Chosen (op 1 1) (Go 1 1))
    ∷ up 1 (Sent 1 (op 1 1) search_body)
    ∷ up 1 (Got 1 search_entry)
    ∷ client 1 (Out 7 search_entry)
    ∷ client 1 (In 8 cancel_of_7)
    ∷ client 1 (Out 7 search_canceled)
    ∷ client 1 (Out 8 start_tls_done)
    ∷ up 1 (Own 2 abandon_of_1)
    ∷ desk (Heard (Ended (op 1 1) 1 None))
    ∷ up 1 (Got 1 search_entry)
    ∷ up 1 (Got 1 search_done)
    ∷ []

-- a Cancel names no live operation, and the Search goes on
abbrev pub none_named : List Entry
none_named =
    up 1 Linked
    ∷ up 1 IsUp
    ∷ desk (Heard (HeardUp 1))
    ∷ client 1 Arrived
    ∷ client 1 (In 7 search_body)
    ∷ desk (Asked (op 1 1) regular)
    ∷ desk (Chose (op 1 1) (Go 1 1) 0)
    ∷ client 1 (Chosen (op 1 1) (Go 1 1))
    ∷ up 1 (Sent 1 (op 1 1) search_body)
    ∷ client 1 (In 8 cancel_of_9)
    ∷ client 1 (Out 8 no_such_operation)
    ∷ up 1 (Got 1 search_entry)
    ∷ client 1 (Out 7 search_entry)
    ∷ up 1 (Got 1 search_done)
    ∷ desk (Heard (Ended (op 1 1) 1 (Some 0)))
    ∷ client 1 (Out 7 search_done)
    ∷ []

-- a Cancel names itself
abbrev pub itself_named : List Entry
itself_named =
    up 1 Linked
    ∷ up 1 IsUp
    ∷ desk (Heard (HeardUp 1))
    ∷ client 1 Arrived
    ∷ client 1 (In 8 cancel_of_8)
    ∷ client 1 (Out 8 cannot_cancel)
    ∷ []

-- a Cancel's value can't be read
abbrev pub value_unread : List Entry
value_unread =
    up 1 Linked
    ∷ up 1 IsUp
    ∷ desk (Heard (HeardUp 1))
    ∷ client 1 Arrived
    ∷ client 1 (In 8 unreadable_cancel)
    ∷ client 1 (Out 8 cancel_not_read)
    ∷ []

-- a Delete is canceled before its choice comes, which is returned
abbrev pub choice_behind_cancel : List Entry
choice_behind_cancel =
    up 1 Linked
    ∷ up 1 IsUp
    ∷ desk (Heard (HeardUp 1))
    ∷ client 1 Arrived
    ∷ client 1 (In 5 delete_body)
    ∷ client 1 (In 8 cancel_body)
    ∷ client 1 (Out 5 delete_canceled)
    ∷ client 1 (Out 8 start_tls_done)
    ∷ desk (Asked (op 1 1) regular)
    ∷ desk (Chose (op 1 1) (Go 1 1) 0)
    ∷ client 1 (Chosen (op 1 1) (Go 1 1))
    ∷ desk (Heard (Returned (op 1 1) 1))
    ∷ []

-- a Cancel names the identifier of a Bind that was answered
abbrev pub bind_answered_named : List Entry
bind_answered_named =
    up 1 Linked
    ∷ up 1 IsUp
    ∷ desk (Heard (HeardUp 1))
    ∷ up 2 Linked
    ∷ up 2 IsUp
    ∷ desk (Heard (HeardUp 2))
    ∷ client 1 Arrived
    ∷ client 1 (In 7 bind_x)
    ∷ desk (Asked (op 1 1) bind)
    ∷ desk (Chose (op 1 1) (Go 2 1) 0)
    ∷ client 1 (Chosen (op 1 1) (Go 2 1))
    ∷ up 2 (Sent 1 (op 1 1) bind_x)
    ∷ up 2 (Got 1 bind_done)
    ∷ desk (Heard (Ended (op 1 1) 2 None))
    ∷ client 1 (Out 7 bind_done)
    ∷ client 1 (In 8 cancel_of_7)
    ∷ client 1 (Out 8 no_such_operation)
    ∷ []

-- an upstream answers an extended request with the octets of a Cancel's success; its identifier is free then
abbrev pub success_of_upstream : List Entry
success_of_upstream =
    up 1 Linked
    ∷ up 1 IsUp
    ∷ desk (Heard (HeardUp 1))
    ∷ client 1 Arrived
    ∷ client 1 (In 5 who_am_i_body)
    ∷ desk (Asked (op 1 1) regular)
    ∷ desk (Chose (op 1 1) (Go 1 1) 0)
    ∷ client 1 (Chosen (op 1 1) (Go 1 1))
    ∷ up 1 (Sent 1 (op 1 1) who_am_i_body)
    ∷ up 1 (Got 1 cancel_done)
    ∷ desk (Heard (Ended (op 1 1) 1 (Some 0)))
    ∷ client 1 (Out 5 cancel_done)
    ∷ client 1 (In 6 delete_body)
    ∷ desk (Asked (op 1 2) regular)
    ∷ desk (Chose (op 1 2) (Go 1 1) 0)
    ∷ client 1 (Chosen (op 1 2) (Go 1 1))
    ∷ up 1 (Sent 1 (op 1 2) delete_body)
    ∷ []

-- an upstream answers a Search that it is canceled; its identifier is free then
abbrev pub canceled_by_upstream : List Entry
canceled_by_upstream =
    up 1 Linked
    ∷ up 1 IsUp
    ∷ desk (Heard (HeardUp 1))
    ∷ client 1 Arrived
    ∷ client 1 (In 7 search_body)
    ∷ desk (Asked (op 1 1) regular)
    ∷ desk (Chose (op 1 1) (Go 1 1) 0)
    ∷ client 1 (Chosen (op 1 1) (Go 1 1))
    ∷ up 1 (Sent 1 (op 1 1) search_body)
    ∷ up 1 (Got 1 search_canceled)
    ∷ desk (Heard (Ended (op 1 1) 1 (Some 0)))
    ∷ client 1 (Out 7 search_canceled)
    ∷ client 1 (In 6 delete_body)
    ∷ desk (Asked (op 1 2) regular)
    ∷ desk (Chose (op 1 2) (Go 1 1) 0)
    ∷ client 1 (Chosen (op 1 2) (Go 1 1))
    ∷ up 1 (Sent 1 (op 1 2) delete_body)
    ∷ []

-- lists that no part makes: a Bind is told that it is canceled, directly behind the In of a Cancel that names it, or not
abbrev pub bind_in_progress_canceled : List Entry
bind_in_progress_canceled =
    client 1 Arrived
    ∷ client 1 (In 7 sasl_first)
    ∷ client 1 (In 8 cancel_of_7)
    ∷ client 1 (Out 7 (cancel_answer Bind C13))
    ∷ []

abbrev pub bind_told_canceled : List Entry
bind_told_canceled =
    client 1 Arrived
    ∷ client 1 (In 7 sasl_first)
    ∷ client 1 (Out 7 (cancel_answer Bind C13))
    ∷ []

-- whether the first operation of client 1 was ended by its client
abbrev pub is_ended_in : List Entry → Bool
is_ended_in list = passes is_ended_by_client (operation (family list) (op 1 1))
