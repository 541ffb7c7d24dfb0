-- Worked journals of clients that don't read.
use Rattle.std.specs.Prelude.{List, [], ◌∷◌, Some, None}
use Rattle.lload_names.specs.declared.names.Entry.{Entry}
use Rattle.lload_names.specs.declared.names.What.TheVariants.{Arrived, In, Chosen, Out, Gone, Linked, Up as IsUp, Sent, Own, Got, Asked, Chose, Heard, Stalled, Flowing, Paused, Resumed, Down, Expired}
use Rattle.lload_names.specs.declared.names.Answer.TheVariants.{Go}
use Rattle.lload_names.specs.declared.names.EndWhy.TheVariants.{Lost}
use Rattle.lload_names.specs.declared.names.Letter.TheVariants.{Ended, IsUp as HeardUp, IsDown as HeardDown}
use Rattle.spec_examples.specs.Entries.{client, up, desk, op, regular, moment}
use Rattle.spec_examples.specs.Octets.{abandon_of_1, delete_body, delete_done, search_body, search_entry, search_lost, delete_lost, delete_timed_out}

-- a connection is paused while its client is stalled, and read again then
abbrev pub stalled_and_flowing : List Entry
stalled_and_flowing =
    up 1 Linked
    ∷ up 1 IsUp
    ∷ desk (Heard (HeardUp 1))
    ∷ client 1 Arrived
    ∷ client 1 (In 7 search_body)
    ∷ desk (Asked (op 1 1) regular)
    ∷ desk (Chose (op 1 1) (Go 1 1) 0)
    ∷ client 1 (Chosen (op 1 1) (Go 1 1))
    ∷ up 1 (Sent 1 (op 1 1) search_body)
    ∷ client 1 Stalled
    ∷ up 1 (Paused 1)
    ∷ client 1 Flowing
    ∷ up 1 (Resumed 1)
    ∷ up 1 (Got 1 search_entry)
    ∷ client 1 (Out 7 search_entry)
    ∷ []

-- a client that is stalled leaves: the Search is abandoned, and the connection is read again
abbrev pub stalled_and_gone : List Entry
stalled_and_gone =
    up 1 Linked
    ∷ up 1 IsUp
    ∷ desk (Heard (HeardUp 1))
    ∷ client 1 Arrived
    ∷ client 1 (In 7 search_body)
    ∷ desk (Asked (op 1 1) regular)
    ∷ desk (Chose (op 1 1) (Go 1 1) 0)
    ∷ client 1 (Chosen (op 1 1) (Go 1 1))
    ∷ up 1 (Sent 1 (op 1 1) search_body)
    ∷ client 1 Stalled
    ∷ up 1 (Paused 1)
    ∷ client 1 (Gone Lost)
    ∷ up 1 (Own 2 abandon_of_1)
    ∷ desk (Heard (Ended (op 1 1) 1 None))
    ∷ up 1 (Resumed 1)
    ∷ up 1 (Got 1 search_entry)
    ∷ []

-- a Delete that is forwarded by a stalled client pauses its connection
abbrev pub forwarded_while_stalled : List Entry
forwarded_while_stalled =
    up 1 Linked
    ∷ up 1 IsUp
    ∷ desk (Heard (HeardUp 1))
    ∷ client 1 Arrived
    ∷ client 1 Stalled
    ∷ client 1 (In 5 delete_body)
    ∷ desk (Asked (op 1 1) regular)
    ∷ desk (Chose (op 1 1) (Go 1 1) 0)
    ∷ client 1 (Chosen (op 1 1) (Go 1 1))
    ∷ up 1 (Sent 1 (op 1 1) delete_body)
    ∷ up 1 (Paused 1)
    ∷ client 1 Flowing
    ∷ up 1 (Resumed 1)
    ∷ up 1 (Got 1 delete_done)
    ∷ desk (Heard (Ended (op 1 1) 1 (Some 0)))
    ∷ client 1 (Out 5 delete_done)
    ∷ []

-- two clients pause one connection, which is read again when both flow
abbrev pub two_stalled : List Entry
two_stalled =
    up 1 Linked
    ∷ up 1 IsUp
    ∷ desk (Heard (HeardUp 1))
    ∷ client 1 Arrived
    ∷ client 2 Arrived
    ∷ client 1 (In 7 search_body)
    ∷ desk (Asked (op 1 1) regular)
    ∷ desk (Chose (op 1 1) (Go 1 1) 0)
    ∷ client 1 (Chosen (op 1 1) (Go 1 1))
    ∷ up 1 (Sent 1 (op 1 1) search_body)
    ∷ client 2 (In 7 search_body)
    ∷ desk (Asked (op 2 1) regular)
    ∷ desk (Chose (op 2 1) (Go 1 1) 0)
    ∷ client 2 (Chosen (op 2 1) (Go 1 1))
    ∷ up 1 (Sent 2 (op 2 1) search_body)
    ∷ client 1 Stalled
    ∷ up 1 (Paused 1)
    ∷ client 2 Stalled
    ∷ up 1 (Paused 2)
    ∷ client 1 Flowing
    ∷ up 1 (Resumed 1)
    ∷ client 2 Flowing
    ∷ up 1 (Resumed 2)
    ∷ up 1 (Got 1 search_entry)
    ∷ client 1 (Out 7 search_entry)
    ∷ []

-- a client stalls and flows before it learns that its connection is lost; the connection is told so behind its end
abbrev pub paused_behind_loss : List Entry
paused_behind_loss =
    up 1 Linked
    ∷ up 1 IsUp
    ∷ desk (Heard (HeardUp 1))
    ∷ client 1 Arrived
    ∷ client 1 (In 7 search_body)
    ∷ desk (Asked (op 1 1) regular)
    ∷ desk (Chose (op 1 1) (Go 1 1) 0)
    ∷ client 1 (Chosen (op 1 1) (Go 1 1))
    ∷ up 1 (Sent 1 (op 1 1) search_body)
    ∷ up 1 (Down Lost)
    ∷ client 1 Stalled
    ∷ client 1 Flowing
    ∷ desk (Heard (Ended (op 1 1) 1 None))
    ∷ desk (Heard (HeardDown 1))
    ∷ client 1 (Out 7 search_lost)
    ∷ up 1 (Paused 1)
    ∷ up 1 (Resumed 1)
    ∷ []

-- a paused connection is lost with two operations; when its client flows, it is told so behind its end
abbrev pub lost_while_paused : List Entry
lost_while_paused =
    up 1 Linked
    ∷ up 1 IsUp
    ∷ desk (Heard (HeardUp 1))
    ∷ client 1 Arrived
    ∷ client 1 (In 7 search_body)
    ∷ desk (Asked (op 1 1) regular)
    ∷ desk (Chose (op 1 1) (Go 1 1) 0)
    ∷ client 1 (Chosen (op 1 1) (Go 1 1))
    ∷ up 1 (Sent 1 (op 1 1) search_body)
    ∷ client 1 (In 8 delete_body)
    ∷ desk (Asked (op 1 2) regular)
    ∷ desk (Chose (op 1 2) (Go 1 1) 0)
    ∷ client 1 (Chosen (op 1 2) (Go 1 1))
    ∷ up 1 (Sent 2 (op 1 2) delete_body)
    ∷ client 1 Stalled
    ∷ up 1 (Paused 1)
    ∷ up 1 (Down Lost)
    ∷ desk (Heard (Ended (op 1 1) 1 None))
    ∷ desk (Heard (Ended (op 1 2) 1 None))
    ∷ desk (Heard (HeardDown 1))
    ∷ client 1 (Out 7 search_lost)
    ∷ client 1 (Out 8 delete_lost)
    ∷ client 1 Flowing
    ∷ up 1 (Resumed 1)
    ∷ []

-- a Delete expires on a connection that is paused for its client
abbrev pub expired_while_paused : List Entry
expired_while_paused =
    up 1 Linked
    ∷ up 1 IsUp
    ∷ desk (Heard (HeardUp 1))
    ∷ client 1 Arrived
    ∷ client 1 (In 5 delete_body)
    ∷ desk (Asked (op 1 1) regular)
    ∷ desk (Chose (op 1 1) (Go 1 1) 0)
    ∷ client 1 (Chosen (op 1 1) (Go 1 1))
    ∷ up 1 (Sent 1 (op 1 1) delete_body)
    ∷ client 1 Stalled
    ∷ up 1 (Paused 1)
    ∷ moment 30000 (up 1 (Expired (op 1 1)))
    ∷ moment 30000 (up 1 (Own 2 abandon_of_1))
    ∷ moment 30000 (desk (Heard (Ended (op 1 1) 1 None)))
    ∷ moment 30000 (client 1 (Out 5 delete_timed_out))
    ∷ moment 30000 (client 1 Flowing)
    ∷ moment 30000 (up 1 (Resumed 1))
    ∷ []
