-- What a connection's list gains from one entry more at its end.
use Rattle.std.specs.Prelude.{◌≡◌, ℕ, ◌+◌, if◌then◌else◌, List, [], ◌∷◌, ◌++◌, map, is_some}
use Rattle.std.specs.Option.{option_to_list}
use Rattle.std.specs.List.{list_any}
use Rattle.ldap_spec.specs.Messages.{Message}
use Rattle.lload_names.specs.declared.names.Entry.{Entry}
use Rattle.small_spec.specs.Entries.{Named, sent_message, given_id}
use Rattle.small_spec.specs.Operations.{is_final_for}
use Rattle.small_spec.specs.Answers.{Sending, sendings, sending_made, answer_of, answers_under}
use Rattle.small_spec.specs.Identifiers.{given_count}

-- a Sent with one entry more behind it
abbrev pub later_sending : Entry → Sending → Sending
later_sending e s = record s { behind = s.behind ++ e ∷ [] }

-- the Sent that an entry with this operation and message is at the end of a connection's list
abbrev pub new_sending : ℕ → List Entry → Entry → Named Message → Sending
new_sending u L e s = record { connection = u; op = s.op; id = s.value.id; at = e.at; rest = s.value.rest; before = L; behind = [] }

-- each Sent stays, with the entry behind it, and then comes the entry where it is one
abbrev pub SendingsGrow : Type 0
SendingsGrow = (u : ℕ) (L : List Entry) (e : Entry) → sendings u (L ++ e ∷ []) ≡ map (later_sending e) (sendings u L) ++ sending_made u L e [] (sent_message e.what)

-- the entry is the last answer where it is one and no final answer came before
abbrev pub AnswersGrow : Type 0
AnswersGrow = (request : Message) (id : ℕ) (L : List Entry) (e : Entry) → answers_under request id (L ++ e ∷ []) ≡ answers_under request id L ++ (if list_any (is_final_for request) (answers_under request id L) then [] else option_to_list (answer_of request id e))

-- the entry counts where it gives an identifier
abbrev pub GivenCountGrows : Type 0
GivenCountGrows = (L : List Entry) (e : Entry) → given_count (L ++ e ∷ []) ≡ given_count L + (if is_some (given_id e.what) then 1 else 0)
