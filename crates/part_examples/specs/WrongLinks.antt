-- Lists of several parts that are not linked: a letter is taken that no part gave, or another than was given, or at a
-- turn whose stamp isn't above that of its letter.
use Rattle.std.specs.Prelude.{ℕ, ◌==◌, if◌then◌else◌, List, [], ◌∷◌, take}
use Rattle.lload_names.specs.declared.names.Answer.TheVariants.{Go, Unavailable}
use Rattle.lload_names.specs.declared.names.Letter.TheVariants.{Ask, Choice, IsUp as TellUp}
use Rattle.lload_names.specs.declared.names.PartName.{PartName}
use Rattle.lload_names.specs.declared.names.PartName.TheVariants.{Desk, Client, Up as Connection}
use Rattle.lload_names.specs.declared.names.What.TheVariants.{Arrived, In, Chosen, Linked, Up, Asked, Chose}
use Rattle.part_spec.specs.Marked.{Marked}
use Rattle.part_spec.specs.Stamps.{Turn}
use Rattle.lload_names.specs.declared.names.Posted.{Posted}
use Rattle.spec_examples.specs.Entries.{client, up, desk, op, regular}
use Rattle.spec_examples.specs.Octets.{delete_body}
use Rattle.part_examples.specs.WorkedLetters.{posted}
use Rattle.part_examples.specs.WrongLists.{choice, client_choice, desk_choice, forward, takes, unmarked}

-- a connection that is up
abbrev pub connection_up : List Marked
connection_up = unmarked (up 1 Linked) ∷ unmarked (up 1 Up) ∷ []

-- the lists of a family of the desk, client 1 and connection 1, which is up
abbrev pub of_three : List Marked → List Marked → PartName → List Marked
of_three desk_list client_list Desk = desk_list
of_three desk_list client_list (Client c) = if c == 1 then client_list else []
of_three desk_list client_list (Connection u) = if u == 1 then connection_up else []

-- client 1 takes the choice that the desk made; one that it didn't make yet; another one
abbrev pub choice_taken : PartName → List Marked
choice_taken = of_three desk_choice client_choice

abbrev pub choice_never_given : PartName → List Marked
choice_never_given = of_three (take 1 desk_choice) client_choice

abbrev pub other_choice : List Marked
other_choice =
    unmarked (client 1 Arrived) ∷ unmarked (client 1 (In 5 delete_body))
    ∷ takes Desk (Choice (op 1 1) Unavailable) (client 1 (Chosen (op 1 1) Unavailable)) ∷ []

abbrev pub other_choice_taken : PartName → List Marked
other_choice_taken = of_three desk_choice other_choice

-- a turn
abbrev pub turn : ℕ → List Marked → List Posted → Turn
turn stamp list letters = record { stamp = stamp; entries = list; letters = letters }

-- the turns of these parts, where client 1 takes its choice at a turn with this stamp; the desk gave it at stamp 3
abbrev pub taken_at : ℕ → PartName → List Turn
taken_at stamp Desk =
    turn 2 (take 1 desk_choice) []
    ∷ turn 3 (takes (Client 1) (Ask (op 1 1) regular) (desk (Asked (op 1 1) regular))
    ∷ unmarked (desk (Chose (op 1 1) (Go 1 1) 0)) ∷ []) (posted (Client 1) choice ∷ [])
    ∷ []
taken_at stamp (Client c) =
    if c == 1 then
    turn 1 (unmarked (client 1 Arrived) ∷ []) []
    ∷ turn 2 (unmarked (client 1 (In 5 delete_body)) ∷ []) (posted Desk (Ask (op 1 1) regular) ∷ [])
    ∷ turn stamp (takes Desk choice (client 1 (Chosen (op 1 1) (Go 1 1))) ∷ []) (posted (Connection 1) forward ∷ [])
    ∷ []
    else []
taken_at stamp (Connection u) = if u == 1 then turn 1 connection_up (posted Desk (TellUp 1) ∷ []) ∷ [] else []
