-- Worked journals of Binds and identities, as lists of entries.
use Rattle.std.specs.Prelude.{List, [], ◌∷◌, None}
use Rattle.lload_names.specs.declared.names.Entry.{Entry}
use Rattle.lload_names.specs.declared.names.What.TheVariants.{Arrived, In, Chosen, Out, Linked, Up as IsUp, Sent, Own, Got, Asked, Chose, Heard, Missed, Down}
use Rattle.lload_names.specs.declared.names.Answer.TheVariants.{Go, Busy}
use Rattle.lload_names.specs.declared.names.Letter.TheVariants.{Ended, IsUp as HeardUp, IsDown as HeardDown}
use Rattle.lload_names.specs.declared.names.EndWhy.TheVariants.{Lost}
use Rattle.spec_examples.specs.Entries.{client, up, desk, op, regular, bind}
use Rattle.spec_examples.specs.Octets.{delete_body, search_body, search_entry, abandon_of_1, sasl_first, sasl_in_progress, sasl_second, bind_done, who_am_i_body, who_is_ann, delete_for_ann, delete_in_exchange, bind_busy, delete_for_nobody, search_for_nobody, delete_for_x, bind_x, bind_x_unproved, bind_refused, own_bind_body, abandon_of_2, bind_lost}

-- a Delete of a client that sent no Bind
abbrev pub anonymous_delete : List Entry
anonymous_delete =
    up 1 Linked
    ∷ up 1 IsUp
    ∷ desk (Heard (HeardUp 1))
    ∷ up 2 Linked
    ∷ up 2 IsUp
    ∷ desk (Heard (HeardUp 2))
    ∷ client 1 Arrived
    ∷ client 1 (In 5 delete_body)
    ∷ desk (Asked (op 1 1) regular)
    ∷ desk (Chose (op 1 1) (Go 1 1) 0)
    ∷ client 1 (Chosen (op 1 1) (Go 1 1))
    ∷ up 1 (Sent 1 (op 1 1) delete_for_nobody)
    ∷ []

-- a SASL exchange in two steps, Who Am I, and a Delete with the identity that it gave
abbrev pub sasl_exchange : List Entry
sasl_exchange =
    up 1 Linked
    ∷ up 1 IsUp
    ∷ desk (Heard (HeardUp 1))
    ∷ up 2 Linked
    ∷ up 2 IsUp
    ∷ desk (Heard (HeardUp 2))
    ∷ client 1 Arrived
    ∷ client 1 (In 1 sasl_first)
    ∷ desk (Asked (op 1 1) bind)
    ∷ desk (Chose (op 1 1) (Go 2 1) 0)
    ∷ client 1 (Chosen (op 1 1) (Go 2 1))
    ∷ up 2 (Sent 1 (op 1 1) sasl_first)
    ∷ up 2 (Got 1 sasl_in_progress)
    ∷ client 1 (Out 1 sasl_in_progress)
    ∷ client 1 (In 2 sasl_second)
    ∷ up 2 (Sent 1 (op 1 2) sasl_second)
    ∷ up 2 (Got 1 bind_done)
    ∷ up 2 (Own 2 who_am_i_body)
    ∷ up 2 (Got 2 who_is_ann)
    ∷ desk (Heard (Ended (op 1 1) 2 None))
    ∷ client 1 (Out 2 bind_done)
    ∷ client 1 (In 3 delete_body)
    ∷ desk (Asked (op 1 3) regular)
    ∷ desk (Chose (op 1 3) (Go 1 1) 0)
    ∷ client 1 (Chosen (op 1 3) (Go 1 1))
    ∷ up 1 (Sent 1 (op 1 3) delete_for_ann)
    ∷ []

-- a Delete between the steps of an exchange, and a Bind of another client
abbrev pub within_exchange : List Entry
within_exchange =
    up 1 Linked
    ∷ up 1 IsUp
    ∷ desk (Heard (HeardUp 1))
    ∷ up 2 Linked
    ∷ up 2 IsUp
    ∷ desk (Heard (HeardUp 2))
    ∷ client 1 Arrived
    ∷ client 2 Arrived
    ∷ client 1 (In 1 sasl_first)
    ∷ desk (Asked (op 1 1) bind)
    ∷ desk (Chose (op 1 1) (Go 2 1) 0)
    ∷ client 1 (Chosen (op 1 1) (Go 2 1))
    ∷ up 2 (Sent 1 (op 1 1) sasl_first)
    ∷ up 2 (Got 1 sasl_in_progress)
    ∷ client 1 (Out 1 sasl_in_progress)
    ∷ client 1 (In 3 delete_body)
    ∷ client 1 (Out 3 delete_in_exchange)
    ∷ client 2 (In 1 sasl_first)
    ∷ desk (Asked (op 2 1) bind)
    ∷ desk (Chose (op 2 1) Busy 0)
    ∷ client 2 (Chosen (op 2 1) Busy)
    ∷ client 2 (Out 1 bind_busy)
    ∷ []

-- a simple Bind without a password, and a Delete, which is anonymous
abbrev pub unproved_bind : List Entry
unproved_bind =
    up 1 Linked
    ∷ up 1 IsUp
    ∷ desk (Heard (HeardUp 1))
    ∷ up 2 Linked
    ∷ up 2 IsUp
    ∷ desk (Heard (HeardUp 2))
    ∷ client 1 Arrived
    ∷ client 1 (In 1 bind_x_unproved)
    ∷ desk (Asked (op 1 1) bind)
    ∷ desk (Chose (op 1 1) (Go 2 1) 0)
    ∷ client 1 (Chosen (op 1 1) (Go 2 1))
    ∷ up 2 (Sent 1 (op 1 1) bind_x_unproved)
    ∷ up 2 (Got 1 bind_done)
    ∷ desk (Heard (Ended (op 1 1) 2 None))
    ∷ client 1 (Out 1 bind_done)
    ∷ client 1 (In 2 delete_body)
    ∷ desk (Asked (op 1 2) regular)
    ∷ desk (Chose (op 1 2) (Go 1 1) 0)
    ∷ client 1 (Chosen (op 1 2) (Go 1 1))
    ∷ up 1 (Sent 1 (op 1 2) delete_for_nobody)
    ∷ []

-- a Bind ends two Searches, and a Delete waits for it
abbrev pub bind_ends_searches : List Entry
bind_ends_searches =
    up 1 Linked
    ∷ up 1 IsUp
    ∷ desk (Heard (HeardUp 1))
    ∷ up 2 Linked
    ∷ up 2 IsUp
    ∷ desk (Heard (HeardUp 2))
    ∷ client 1 Arrived
    ∷ client 1 (In 1 search_body)
    ∷ desk (Asked (op 1 1) regular)
    ∷ desk (Chose (op 1 1) (Go 1 1) 0)
    ∷ client 1 (Chosen (op 1 1) (Go 1 1))
    ∷ up 1 (Sent 1 (op 1 1) search_for_nobody)
    ∷ client 1 (In 2 search_body)
    ∷ desk (Asked (op 1 2) regular)
    ∷ desk (Chose (op 1 2) (Go 1 1) 0)
    ∷ client 1 (Chosen (op 1 2) (Go 1 1))
    ∷ up 1 (Sent 2 (op 1 2) search_for_nobody)
    ∷ client 1 (In 3 bind_x)
    ∷ desk (Asked (op 1 3) bind)
    ∷ desk (Chose (op 1 3) (Go 2 1) 0)
    ∷ client 1 (Chosen (op 1 3) (Go 2 1))
    ∷ up 1 (Own 3 abandon_of_1)
    ∷ desk (Heard (Ended (op 1 1) 1 None))
    ∷ up 1 (Own 4 abandon_of_2)
    ∷ desk (Heard (Ended (op 1 2) 1 None))
    ∷ up 2 (Sent 1 (op 1 3) bind_x)
    ∷ up 1 (Got 1 search_entry)
    ∷ up 2 (Got 1 bind_done)
    ∷ desk (Heard (Ended (op 1 3) 2 None))
    ∷ client 1 (Out 3 bind_done)
    ∷ client 1 (In 4 delete_body)
    ∷ desk (Asked (op 1 4) regular)
    ∷ desk (Chose (op 1 4) (Go 1 1) 0)
    ∷ client 1 (Chosen (op 1 4) (Go 1 1))
    ∷ up 1 (Sent 5 (op 1 4) delete_for_x)
    ∷ []

-- a Bind that succeeds, one that is refused, and a Delete, which is anonymous
abbrev pub later_bind_refused : List Entry
later_bind_refused =
    up 1 Linked
    ∷ up 1 IsUp
    ∷ desk (Heard (HeardUp 1))
    ∷ up 2 Linked
    ∷ up 2 IsUp
    ∷ desk (Heard (HeardUp 2))
    ∷ client 1 Arrived
    ∷ client 1 (In 1 bind_x)
    ∷ desk (Asked (op 1 1) bind)
    ∷ desk (Chose (op 1 1) (Go 2 1) 0)
    ∷ client 1 (Chosen (op 1 1) (Go 2 1))
    ∷ up 2 (Sent 1 (op 1 1) bind_x)
    ∷ up 2 (Got 1 bind_done)
    ∷ desk (Heard (Ended (op 1 1) 2 None))
    ∷ client 1 (Out 1 bind_done)
    ∷ client 1 (In 2 bind_x)
    ∷ desk (Asked (op 1 2) bind)
    ∷ desk (Chose (op 1 2) (Go 2 1) 0)
    ∷ client 1 (Chosen (op 1 2) (Go 2 1))
    ∷ up 2 (Sent 1 (op 1 2) bind_x)
    ∷ up 2 (Got 1 bind_refused)
    ∷ desk (Heard (Ended (op 1 2) 2 None))
    ∷ client 1 (Out 2 bind_refused)
    ∷ client 1 (In 3 delete_body)
    ∷ desk (Asked (op 1 3) regular)
    ∷ desk (Chose (op 1 3) (Go 1 1) 0)
    ∷ client 1 (Chosen (op 1 3) (Go 1 1))
    ∷ up 1 (Sent 1 (op 1 3) delete_for_nobody)
    ∷ []

-- a client that binds as the proxy itself, and may say for whom it sends its Delete
abbrev pub privileged_client : List Entry
privileged_client =
    up 1 Linked
    ∷ up 1 (Own 1 own_bind_body)
    ∷ up 2 Linked
    ∷ up 2 IsUp
    ∷ desk (Heard (HeardUp 2))
    ∷ client 1 Arrived
    ∷ up 1 (Got 1 bind_done)
    ∷ up 1 IsUp
    ∷ desk (Heard (HeardUp 1))
    ∷ client 1 (In 1 own_bind_body)
    ∷ desk (Asked (op 1 1) bind)
    ∷ desk (Chose (op 1 1) (Go 2 1) 0)
    ∷ client 1 (Chosen (op 1 1) (Go 2 1))
    ∷ up 2 (Sent 1 (op 1 1) own_bind_body)
    ∷ up 2 (Got 1 bind_done)
    ∷ desk (Heard (Ended (op 1 1) 2 None))
    ∷ client 1 (Out 1 bind_done)
    ∷ client 1 (In 2 delete_for_ann)
    ∷ desk (Asked (op 1 2) regular)
    ∷ desk (Chose (op 1 2) (Go 1 1) 0)
    ∷ client 1 (Chosen (op 1 2) (Go 1 1))
    ∷ up 1 (Sent 2 (op 1 2) delete_for_ann)
    ∷ []

-- the desk chooses a bind connection behind the end of an exchange there, before it hears that the connection is lost
abbrev pub chosen_behind_loss : List Entry
chosen_behind_loss =
    up 1 Linked
    ∷ up 1 IsUp
    ∷ desk (Heard (HeardUp 1))
    ∷ up 2 Linked
    ∷ up 2 IsUp
    ∷ desk (Heard (HeardUp 2))
    ∷ client 1 Arrived
    ∷ client 2 Arrived
    ∷ client 1 (In 1 sasl_first)
    ∷ desk (Asked (op 1 1) bind)
    ∷ desk (Chose (op 1 1) (Go 2 1) 0)
    ∷ client 1 (Chosen (op 1 1) (Go 2 1))
    ∷ up 2 (Sent 1 (op 1 1) sasl_first)
    ∷ up 2 (Got 1 sasl_in_progress)
    ∷ client 1 (Out 1 sasl_in_progress)
    ∷ up 2 (Down Lost)
    ∷ desk (Heard (Ended (op 1 1) 2 None))
    ∷ client 2 (In 1 sasl_first)
    ∷ desk (Asked (op 2 1) bind)
    ∷ desk (Chose (op 2 1) (Go 2 1) 0)
    ∷ desk (Heard (HeardDown 2))
    ∷ client 2 (Chosen (op 2 1) (Go 2 1))
    ∷ up 2 (Missed (op 2 1))
    ∷ desk (Heard (Ended (op 2 1) 2 None))
    ∷ client 2 (Out 1 bind_lost)
    ∷ []
