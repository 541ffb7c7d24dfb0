-- Worked journals of identifiers that are used again, once their operations were answered to the end.
use Rattle.std.specs.Prelude.{ℕ, Bool, List, [], ◌∷◌, Option, Some, None}
use Rattle.std.specs.List.{list_any}
use Rattle.std.specs.Option.{option_and_then}
use Rattle.lload_names.specs.declared.names.Entry.{Entry}
use Rattle.lload_names.specs.declared.names.What.TheVariants.{Arrived, In, Chosen, Out, Linked, Up as IsUp, Sent, Own, Got, Asked, Chose, Heard}
use Rattle.lload_names.specs.declared.names.Answer.TheVariants.{Go}
use Rattle.lload_names.specs.declared.names.Letter.TheVariants.{Ended, IsUp as HeardUp}
use Rattle.lload_names.specs.declared.names.OpName.{OpName}
use Rattle.lload_spec.specs.Journal.{family}
use Rattle.lload_spec.specs.Operations.{operation}
use Rattle.lload_spec.specs.Answers.{closing, is_open, of_operation, sendings_of}
use Rattle.lload_spec.specs.Plain.{plain}
use Rattle.spec_examples.specs.Configurations.{proxying}
use Rattle.spec_examples.specs.Entries.{client, up, desk, op, regular, bind}
use Rattle.spec_examples.specs.Octets.{abandon_of_1, abandon_of_7, bind_done, delete_body, delete_done, sasl_first, sasl_in_progress, search_body, search_done, who_am_i_body, who_is_ann, bind_x, bind_refused, sasl_second}

-- a Delete is sent under the identifier that the answer to the one before freed
abbrev pub freed_identifier : List Entry
freed_identifier =
    up 1 Linked
    ∷ up 1 IsUp
    ∷ desk (Heard (HeardUp 1))
    ∷ client 1 Arrived
    ∷ client 1 (In 5 delete_body)
    ∷ desk (Asked (op 1 1) regular)
    ∷ desk (Chose (op 1 1) (Go 1 1) 0)
    ∷ client 1 (Chosen (op 1 1) (Go 1 1))
    ∷ up 1 (Sent 1 (op 1 1) delete_body)
    ∷ up 1 (Got 1 delete_done)
    ∷ desk (Heard (Ended (op 1 1) 1 (Some 0)))
    ∷ client 1 (Out 5 delete_done)
    ∷ client 1 (In 6 delete_body)
    ∷ desk (Asked (op 1 2) regular)
    ∷ desk (Chose (op 1 2) (Go 1 1) 0)
    ∷ client 1 (Chosen (op 1 2) (Go 1 1))
    ∷ up 1 (Sent 1 (op 1 2) delete_body)
    ∷ []

-- of two that were freed, the one that was freed first is used first
abbrev pub freed_first : List Entry
freed_first =
    up 1 Linked
    ∷ up 1 IsUp
    ∷ desk (Heard (HeardUp 1))
    ∷ client 1 Arrived
    ∷ client 1 (In 5 delete_body)
    ∷ desk (Asked (op 1 1) regular)
    ∷ desk (Chose (op 1 1) (Go 1 1) 0)
    ∷ client 1 (Chosen (op 1 1) (Go 1 1))
    ∷ up 1 (Sent 1 (op 1 1) delete_body)
    ∷ client 1 (In 6 delete_body)
    ∷ desk (Asked (op 1 2) regular)
    ∷ desk (Chose (op 1 2) (Go 1 1) 0)
    ∷ client 1 (Chosen (op 1 2) (Go 1 1))
    ∷ up 1 (Sent 2 (op 1 2) delete_body)
    ∷ up 1 (Got 2 delete_done)
    ∷ desk (Heard (Ended (op 1 2) 1 (Some 0)))
    ∷ client 1 (Out 6 delete_done)
    ∷ up 1 (Got 1 delete_done)
    ∷ desk (Heard (Ended (op 1 1) 1 (Some 0)))
    ∷ client 1 (Out 5 delete_done)
    ∷ client 1 (In 7 search_body)
    ∷ desk (Asked (op 1 3) regular)
    ∷ desk (Chose (op 1 3) (Go 1 1) 0)
    ∷ client 1 (Chosen (op 1 3) (Go 1 1))
    ∷ up 1 (Sent 2 (op 1 3) search_body)
    ∷ client 1 (In 8 delete_body)
    ∷ desk (Asked (op 1 4) regular)
    ∷ desk (Chose (op 1 4) (Go 1 1) 0)
    ∷ client 1 (Chosen (op 1 4) (Go 1 1))
    ∷ up 1 (Sent 1 (op 1 4) delete_body)
    ∷ []

-- the identifier of a Search that was abandoned is not used again, and its late answer is dropped
abbrev pub abandoned_not_freed : List Entry
abandoned_not_freed =
    up 1 Linked
    ∷ up 1 IsUp
    ∷ desk (Heard (HeardUp 1))
    ∷ client 1 Arrived
    ∷ client 1 (In 7 search_body)
    ∷ desk (Asked (op 1 1) regular)
    ∷ desk (Chose (op 1 1) (Go 1 1) 0)
    ∷ client 1 (Chosen (op 1 1) (Go 1 1))
    ∷ up 1 (Sent 1 (op 1 1) search_body)
    ∷ client 1 (In 8 abandon_of_7)
    ∷ up 1 (Own 2 abandon_of_1)
    ∷ desk (Heard (Ended (op 1 1) 1 None))
    ∷ client 1 (In 9 delete_body)
    ∷ desk (Asked (op 1 2) regular)
    ∷ desk (Chose (op 1 2) (Go 1 1) 0)
    ∷ client 1 (Chosen (op 1 2) (Go 1 1))
    ∷ up 1 (Sent 3 (op 1 2) delete_body)
    ∷ up 1 (Got 1 search_done)
    ∷ up 1 (Got 3 delete_done)
    ∷ desk (Heard (Ended (op 1 2) 1 (Some 0)))
    ∷ client 1 (Out 9 delete_done)
    ∷ client 1 (In 10 delete_body)
    ∷ desk (Asked (op 1 3) regular)
    ∷ desk (Chose (op 1 3) (Go 1 1) 0)
    ∷ client 1 (Chosen (op 1 3) (Go 1 1))
    ∷ up 1 (Sent 3 (op 1 3) delete_body)
    ∷ []

-- a late answer under a freed identifier that no operation has is dropped
abbrev pub late_to_freed : List Entry
late_to_freed =
    up 1 Linked
    ∷ up 1 IsUp
    ∷ desk (Heard (HeardUp 1))
    ∷ client 1 Arrived
    ∷ client 1 (In 5 delete_body)
    ∷ desk (Asked (op 1 1) regular)
    ∷ desk (Chose (op 1 1) (Go 1 1) 0)
    ∷ client 1 (Chosen (op 1 1) (Go 1 1))
    ∷ up 1 (Sent 1 (op 1 1) delete_body)
    ∷ up 1 (Got 1 delete_done)
    ∷ desk (Heard (Ended (op 1 1) 1 (Some 0)))
    ∷ client 1 (Out 5 delete_done)
    ∷ up 1 (Got 1 delete_done)
    ∷ client 1 (In 6 delete_body)
    ∷ desk (Asked (op 1 2) regular)
    ∷ desk (Chose (op 1 2) (Go 1 1) 0)
    ∷ client 1 (Chosen (op 1 2) (Go 1 1))
    ∷ up 1 (Sent 1 (op 1 2) delete_body)
    ∷ up 1 (Got 1 delete_done)
    ∷ desk (Heard (Ended (op 1 2) 1 (Some 0)))
    ∷ client 1 (Out 6 delete_done)
    ∷ []

-- each Bind of an exchange, and each later Bind, gets the freed identifier; that of a Who Am I is not used again
abbrev pub binds_again : List Entry
binds_again =
    up 1 Linked
    ∷ up 1 IsUp
    ∷ desk (Heard (HeardUp 1))
    ∷ up 2 Linked
    ∷ up 2 IsUp
    ∷ desk (Heard (HeardUp 2))
    ∷ client 1 Arrived
    ∷ client 1 (In 1 sasl_first)
    ∷ desk (Asked (op 1 1) bind)
    ∷ desk (Chose (op 1 1) (Go 2 1) 0)
    ∷ client 1 (Chosen (op 1 1) (Go 2 1))
    ∷ up 2 (Sent 1 (op 1 1) sasl_first)
    ∷ up 2 (Got 1 sasl_in_progress)
    ∷ client 1 (Out 1 sasl_in_progress)
    ∷ client 1 (In 2 sasl_second)
    ∷ up 2 (Sent 1 (op 1 2) sasl_second)
    ∷ up 2 (Got 1 bind_done)
    ∷ up 2 (Own 2 who_am_i_body)
    ∷ up 2 (Got 2 who_is_ann)
    ∷ desk (Heard (Ended (op 1 1) 2 None))
    ∷ client 1 (Out 2 bind_done)
    ∷ client 1 (In 3 sasl_first)
    ∷ desk (Asked (op 1 3) bind)
    ∷ desk (Chose (op 1 3) (Go 2 1) 0)
    ∷ client 1 (Chosen (op 1 3) (Go 2 1))
    ∷ up 2 (Sent 1 (op 1 3) sasl_first)
    ∷ up 2 (Got 1 bind_done)
    ∷ up 2 (Own 3 who_am_i_body)
    ∷ up 2 (Got 3 who_is_ann)
    ∷ desk (Heard (Ended (op 1 3) 2 None))
    ∷ client 1 (Out 3 bind_done)
    ∷ []

-- two clients use one bind connection in turn
abbrev pub bound_in_turn : List Entry
bound_in_turn =
    up 1 Linked
    ∷ up 1 IsUp
    ∷ desk (Heard (HeardUp 1))
    ∷ up 2 Linked
    ∷ up 2 IsUp
    ∷ desk (Heard (HeardUp 2))
    ∷ client 1 Arrived
    ∷ client 2 Arrived
    ∷ client 1 (In 1 bind_x)
    ∷ desk (Asked (op 1 1) bind)
    ∷ desk (Chose (op 1 1) (Go 2 1) 0)
    ∷ client 1 (Chosen (op 1 1) (Go 2 1))
    ∷ up 2 (Sent 1 (op 1 1) bind_x)
    ∷ up 2 (Got 1 bind_done)
    ∷ desk (Heard (Ended (op 1 1) 2 None))
    ∷ client 1 (Out 1 bind_done)
    ∷ client 2 (In 1 bind_x)
    ∷ desk (Asked (op 2 1) bind)
    ∷ desk (Chose (op 2 1) (Go 2 1) 0)
    ∷ client 2 (Chosen (op 2 1) (Go 2 1))
    ∷ up 2 (Sent 1 (op 2 1) bind_x)
    ∷ up 2 (Got 1 bind_refused)
    ∷ desk (Heard (Ended (op 2 1) 2 None))
    ∷ client 2 (Out 1 bind_refused)
    ∷ client 1 (In 2 bind_x)
    ∷ desk (Asked (op 1 2) bind)
    ∷ desk (Chose (op 1 2) (Go 2 1) 0)
    ∷ client 1 (Chosen (op 1 2) (Go 2 1))
    ∷ up 2 (Sent 1 (op 1 2) bind_x)
    ∷ up 2 (Got 1 bind_done)
    ∷ desk (Heard (Ended (op 1 2) 2 None))
    ∷ client 1 (Out 2 bind_done)
    ∷ []

-- a list that no part makes: a Bind's identifier is given again before the answer to its Who Am I comes
abbrev pub given_too_early : List Entry
given_too_early =
    client 1 Arrived
    ∷ client 1 (In 1 sasl_first)
    ∷ client 2 Arrived
    ∷ client 2 (In 1 sasl_first)
    ∷ up 2 Linked
    ∷ up 2 IsUp
    ∷ up 2 (Sent 1 (op 1 1) sasl_first)
    ∷ up 2 (Got 1 bind_done)
    ∷ up 2 (Own 2 who_am_i_body)
    ∷ up 2 (Sent 1 (op 2 1) sasl_first)
    ∷ up 2 (Got 2 who_is_ann)
    ∷ up 2 (Got 1 sasl_in_progress)
    ∷ []

-- what settled each of the two Binds in it
abbrev pub settled_by : OpName → Option (List ℕ)
settled_by name =
    option_and_then (closing proxying (family given_too_early)) (operation (family given_too_early) name)

-- a list that no part makes: an identifier is given again while its operation is open, and is then abandoned
abbrev pub given_while_open : List Entry
given_while_open =
    client 1 Arrived
    ∷ client 1 (In 5 delete_body)
    ∷ client 1 (In 6 delete_body)
    ∷ up 1 Linked
    ∷ up 1 IsUp
    ∷ up 1 (Sent 1 (op 1 1) delete_body)
    ∷ up 1 (Sent 1 (op 1 2) delete_body)
    ∷ up 1 (Own 2 abandon_of_1)
    ∷ []

-- whether an operation is open behind this list
abbrev pub is_open_behind : List Entry → OpName → Bool
is_open_behind list name =
    list_any (of_operation (family list) (is_open plain)) (sendings_of (family list) name)
