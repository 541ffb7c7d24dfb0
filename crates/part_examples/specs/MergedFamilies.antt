-- What the merge of a family should be, by the rule of stamps: one more than the part's last, or than that of the letter
-- that is taken, where this is greater.
use Rattle.std.specs.Prelude.{ℕ, List, [], ◌∷◌, map, Some}
use Rattle.lload_names.specs.declared.names.Entry.{Entry}
use Rattle.lload_names.specs.declared.names.PartName.{PartName}
use Rattle.lload_names.specs.declared.names.PartName.TheVariants.{Desk, Client, Up as Connection}
use Rattle.lload_names.specs.declared.names.Answer.TheVariants.{Go}
use Rattle.lload_names.specs.declared.names.Letter.TheVariants.{Ended, IsUp as HeardUp}
use Rattle.lload_names.specs.declared.names.What.TheVariants.{Arrived, Asked, Chose, Chosen, Got, Heard, In, Linked, Out, Replanned, Sent, Up as IsUp}
use Rattle.lload_names.specs.declared.inputs.Event.{Event}
use Rattle.lload_names.specs.declared.inputs.Event.TheVariants.{Arrive, LinkUp, Message, Letter, Reload}
use Rattle.part_spec.specs.Merge.{Happens, PartMove}
use Rattle.part_spec.specs.World.{PartTurn}
use Rattle.part_examples.specs.Lines.{next_plan}
use Rattle.spec_examples.specs.Entries.{client, up, desk, op, regular}
use Rattle.spec_examples.specs.Octets.{delete_body, delete_done}

-- the parts of the families
abbrev pub parts_1 : List PartName
parts_1 = Desk ∷ Client 1 ∷ Connection 1 ∷ []

abbrev pub parts_2 : List PartName
parts_2 = Desk ∷ Client 1 ∷ Client 2 ∷ Connection 1 ∷ []

abbrev pub parts_anew : List PartName
parts_anew = Desk ∷ Client 1 ∷ Connection 1 ∷ Connection 2 ∷ []

-- the stamps of turns, in their order
abbrev pub stamps_in : List PartTurn → List ℕ
stamps_in ts = map (λ t. t.turn.stamp) ts

-- one Delete there and back: the client comes and the connection is linked, with 1; the desk hears of this, and the
-- client asks, with 2; and so on
abbrev pub delete_stamps : List ℕ
delete_stamps = 1 ∷ 1 ∷ 2 ∷ 2 ∷ 3 ∷ 4 ∷ 5 ∷ 6 ∷ 7 ∷ 7 ∷ []

abbrev pub delete_merged : List Entry
delete_merged =
    client 1 Arrived
    ∷ up 1 Linked
    ∷ up 1 IsUp
    ∷ desk (Heard (HeardUp 1))
    ∷ client 1 (In 5 delete_body)
    ∷ desk (Asked (op 1 1) regular)
    ∷ desk (Chose (op 1 1) (Go 1 1) 0)
    ∷ client 1 (Chosen (op 1 1) (Go 1 1))
    ∷ up 1 (Sent 1 (op 1 1) delete_body)
    ∷ up 1 (Got 1 delete_done)
    ∷ desk (Heard (Ended (op 1 1) 1 (Some 0)))
    ∷ client 1 (Out 5 delete_done)
    ∷ []

-- the moves in this order
abbrev pub made : PartName → Event → PartMove
made p event = record { part = p; move = Happens event }

abbrev pub delete_moves : List PartMove
delete_moves =
    made (Client 1) (Arrive 0)
    ∷ made (Connection 1) (LinkUp 0)
    ∷ made Desk (Letter 0 0 (Connection 1))
    ∷ made (Client 1) (Message 0 5 delete_body)
    ∷ made Desk (Letter 0 0 (Client 1))
    ∷ made (Client 1) (Letter 0 0 Desk)
    ∷ made (Connection 1) (Letter 0 0 (Client 1))
    ∷ made (Connection 1) (Message 0 1 delete_done)
    ∷ made Desk (Letter 0 0 (Connection 1))
    ∷ made (Client 1) (Letter 0 0 (Connection 1))
    ∷ []

-- two clients with one identifier: both ask before the first is answered
abbrev pub clients_stamps : List ℕ
clients_stamps =
    1
    ∷ 1
    ∷ 1
    ∷ 2
    ∷ 2
    ∷ 2
    ∷ 3
    ∷ 4
    ∷ 4
    ∷ 5
    ∷ 5
    ∷ 6
    ∷ 7
    ∷ 8
    ∷ 8
    ∷ 8
    ∷ 9
    ∷ 9
    ∷ []

abbrev pub clients_merged : List Entry
clients_merged =
    client 1 Arrived
    ∷ client 2 Arrived
    ∷ up 1 Linked
    ∷ up 1 IsUp
    ∷ desk (Heard (HeardUp 1))
    ∷ client 1 (In 5 delete_body)
    ∷ client 2 (In 5 delete_body)
    ∷ desk (Asked (op 1 1) regular)
    ∷ desk (Chose (op 1 1) (Go 1 1) 0)
    ∷ desk (Asked (op 2 1) regular)
    ∷ desk (Chose (op 2 1) (Go 1 1) 0)
    ∷ client 1 (Chosen (op 1 1) (Go 1 1))
    ∷ client 2 (Chosen (op 2 1) (Go 1 1))
    ∷ up 1 (Sent 1 (op 1 1) delete_body)
    ∷ up 1 (Sent 2 (op 2 1) delete_body)
    ∷ up 1 (Got 2 delete_done)
    ∷ desk (Heard (Ended (op 2 1) 1 (Some 0)))
    ∷ client 2 (Out 5 delete_done)
    ∷ up 1 (Got 1 delete_done)
    ∷ desk (Heard (Ended (op 1 1) 1 (Some 0)))
    ∷ client 1 (Out 5 delete_done)
    ∷ []

abbrev pub clients_moves : List PartMove
clients_moves =
    made (Client 1) (Arrive 0)
    ∷ made (Client 2) (Arrive 0)
    ∷ made (Connection 1) (LinkUp 0)
    ∷ made Desk (Letter 0 0 (Connection 1))
    ∷ made (Client 1) (Message 0 5 delete_body)
    ∷ made (Client 2) (Message 0 5 delete_body)
    ∷ made Desk (Letter 0 0 (Client 1))
    ∷ made Desk (Letter 0 0 (Client 2))
    ∷ made (Client 1) (Letter 0 0 Desk)
    ∷ made (Client 2) (Letter 0 0 Desk)
    ∷ made (Connection 1) (Letter 0 0 (Client 1))
    ∷ made (Connection 1) (Letter 0 0 (Client 2))
    ∷ made (Connection 1) (Message 0 2 delete_done)
    ∷ made Desk (Letter 0 0 (Connection 1))
    ∷ made (Client 2) (Letter 0 0 (Connection 1))
    ∷ made (Connection 1) (Message 0 1 delete_done)
    ∷ made Desk (Letter 0 0 (Connection 1))
    ∷ made (Client 1) (Letter 0 0 (Connection 1))
    ∷ []

-- another plan comes while a Delete runs: a connection of it begins behind the desk's last stamp
abbrev pub anew_stamps : List ℕ
anew_stamps =
    1
    ∷ 1
    ∷ 2
    ∷ 2
    ∷ 3
    ∷ 4
    ∷ 4
    ∷ 5
    ∷ 5
    ∷ 5
    ∷ 6
    ∷ 6
    ∷ 7
    ∷ 8
    ∷ 8
    ∷ 9
    ∷ 9
    ∷ []

abbrev pub anew_merged : List Entry
anew_merged =
    client 1 Arrived
    ∷ up 1 Linked
    ∷ up 1 IsUp
    ∷ desk (Heard (HeardUp 1))
    ∷ client 1 (In 5 delete_body)
    ∷ desk (Asked (op 1 1) regular)
    ∷ desk (Chose (op 1 1) (Go 1 1) 0)
    ∷ desk (Replanned 2 1)
    ∷ client 1 (Chosen (op 1 1) (Go 1 1))
    ∷ client 1 (In 6 delete_body)
    ∷ up 1 (Sent 1 (op 1 1) delete_body)
    ∷ up 2 Linked
    ∷ up 2 IsUp
    ∷ desk (Heard (HeardUp 2))
    ∷ up 1 (Got 1 delete_done)
    ∷ desk (Asked (op 1 2) regular)
    ∷ desk (Chose (op 1 2) (Go 2 2) 0)
    ∷ desk (Heard (Ended (op 1 1) 1 (Some 0)))
    ∷ client 1 (Chosen (op 1 2) (Go 2 2))
    ∷ client 1 (Out 5 delete_done)
    ∷ up 2 (Sent 1 (op 1 2) delete_body)
    ∷ []

abbrev pub anew_moves : List PartMove
anew_moves =
    made (Client 1) (Arrive 0)
    ∷ made (Connection 1) (LinkUp 0)
    ∷ made Desk (Letter 0 0 (Connection 1))
    ∷ made (Client 1) (Message 0 5 delete_body)
    ∷ made Desk (Letter 0 0 (Client 1))
    ∷ made Desk (Reload 0 next_plan 1)
    ∷ made (Client 1) (Letter 0 0 Desk)
    ∷ made (Client 1) (Message 0 6 delete_body)
    ∷ made (Connection 1) (Letter 0 0 (Client 1))
    ∷ made (Connection 2) (LinkUp 0)
    ∷ made Desk (Letter 0 0 (Connection 2))
    ∷ made (Connection 1) (Message 0 1 delete_done)
    ∷ made Desk (Letter 0 0 (Client 1))
    ∷ made Desk (Letter 0 0 (Connection 1))
    ∷ made (Client 1) (Letter 0 0 Desk)
    ∷ made (Client 1) (Letter 0 0 (Connection 1))
    ∷ made (Connection 2) (Letter 0 0 (Client 1))
    ∷ []
