-- The letters that the lists of worked journals give: of each part those that it gave, each with its receiver.
use Rattle.std.specs.Prelude.{true, false, List, [], ◌∷◌, Some, None}
use Rattle.lload_names.specs.declared.names.Letter.{Letter}
use Rattle.lload_names.specs.declared.names.PartName.{PartName}
use Rattle.lload_names.specs.declared.names.Posted.{Posted}
use Rattle.lload_names.specs.declared.names.Answer.TheVariants.{Go, Unavailable}
use Rattle.lload_names.specs.declared.names.Letter.TheVariants.{Ask, Choice, Returned, Forward, Reply, Failed, Drop, Leave, Ended, IsUp as HeardUp, IsRetired as HeardRetired, IsDown as HeardDown}
use Rattle.lload_names.specs.declared.names.OpKind.TheVariants as kind
use Rattle.lload_names.specs.declared.names.PartName.TheVariants.{Desk, Client, Up as Connection}
use Rattle.lload_names.specs.declared.names.Refusal.TheVariants.{C4, C5, C9}
use Rattle.spec_examples.specs.Entries.{op, regular, bind, bound_to_connection}
use Rattle.spec_examples.specs.Octets.{delete_body, delete_done, search_body, search_entry, sasl_first, sasl_in_progress, sasl_second, bind_done, delete_for_ann, ann, search_for_nobody, delete_for_x, restricted_delete, bind_x}

-- a letter to a part
abbrev pub posted : PartName → Letter → Posted
posted to letter = record { to = to; letter = letter }

abbrev pub delete_answered_of_desk : List Posted
delete_answered_of_desk =
    posted (Client 1) (Choice (op 1 1) (Go 1 1))
    ∷ []

abbrev pub delete_answered_of_client_1 : List Posted
delete_answered_of_client_1 =
    posted Desk (Ask (op 1 1) regular)
    ∷ posted (Connection 1) (Forward (op 1 1) kind.Delete delete_body false (op 1 1))
    ∷ []

abbrev pub delete_answered_of_connection_1 : List Posted
delete_answered_of_connection_1 =
    posted Desk (HeardUp 1)
    ∷ posted (Client 1) (Reply (op 1 1) delete_done true None)
    ∷ posted Desk (Ended (op 1 1) 1 (Some 0))
    ∷ []

abbrev pub search_abandoned_of_desk : List Posted
search_abandoned_of_desk =
    posted (Client 1) (Choice (op 1 1) (Go 1 1))
    ∷ []

abbrev pub search_abandoned_of_client_1 : List Posted
search_abandoned_of_client_1 =
    posted Desk (Ask (op 1 1) regular)
    ∷ posted (Connection 1) (Forward (op 1 1) kind.Search search_body false (op 1 1))
    ∷ posted (Connection 1) (Drop (op 1 1))
    ∷ []

abbrev pub search_abandoned_of_connection_1 : List Posted
search_abandoned_of_connection_1 =
    posted Desk (HeardUp 1)
    ∷ posted (Client 1) (Reply (op 1 1) search_entry false None)
    ∷ posted (Client 1) (Reply (op 1 1) search_entry false None)
    ∷ posted Desk (Ended (op 1 1) 1 None)
    ∷ []

abbrev pub sasl_exchange_of_desk : List Posted
sasl_exchange_of_desk =
    posted (Client 1) (Choice (op 1 1) (Go 2 1))
    ∷ posted (Client 1) (Choice (op 1 3) (Go 1 1))
    ∷ []

abbrev pub sasl_exchange_of_client_1 : List Posted
sasl_exchange_of_client_1 =
    posted Desk (Ask (op 1 1) bind)
    ∷ posted (Connection 2) (Forward (op 1 1) kind.Bind sasl_first true (op 1 1))
    ∷ posted (Connection 2) (Forward (op 1 2) kind.Bind sasl_second true (op 1 1))
    ∷ posted Desk (Ask (op 1 3) regular)
    ∷ posted (Connection 1) (Forward (op 1 3) kind.Delete delete_for_ann false (op 1 3))
    ∷ []

abbrev pub sasl_exchange_of_connection_1 : List Posted
sasl_exchange_of_connection_1 =
    posted Desk (HeardUp 1)
    ∷ []

abbrev pub sasl_exchange_of_connection_2 : List Posted
sasl_exchange_of_connection_2 =
    posted Desk (HeardUp 2)
    ∷ posted (Client 1) (Reply (op 1 1) sasl_in_progress true None)
    ∷ posted (Client 1) (Reply (op 1 2) bind_done true (Some ann))
    ∷ posted Desk (Ended (op 1 1) 2 None)
    ∷ []

abbrev pub connection_lost_of_desk : List Posted
connection_lost_of_desk =
    posted (Client 1) (Choice (op 1 1) (Go 1 1))
    ∷ []

abbrev pub connection_lost_of_client_1 : List Posted
connection_lost_of_client_1 =
    posted Desk (Ask (op 1 1) regular)
    ∷ posted (Connection 1) (Forward (op 1 1) kind.Search search_body false (op 1 1))
    ∷ []

abbrev pub connection_lost_of_connection_1 : List Posted
connection_lost_of_connection_1 =
    posted Desk (HeardUp 1)
    ∷ posted (Client 1) (Reply (op 1 1) search_entry false None)
    ∷ posted (Client 1) (Failed (op 1 1) C4)
    ∷ posted Desk (Ended (op 1 1) 1 None)
    ∷ posted Desk (HeardDown 1)
    ∷ []

abbrev pub choice_too_late_of_desk : List Posted
choice_too_late_of_desk =
    posted (Client 1) (Choice (op 1 1) (Go 1 1))
    ∷ []

abbrev pub choice_too_late_of_client_1 : List Posted
choice_too_late_of_client_1 =
    posted Desk (Ask (op 1 1) regular)
    ∷ posted Desk (Returned (op 1 1) 1)
    ∷ []

abbrev pub choice_too_late_of_connection_1 : List Posted
choice_too_late_of_connection_1 =
    posted Desk (HeardUp 1)
    ∷ []

abbrev pub forward_missed_of_desk : List Posted
forward_missed_of_desk =
    posted (Client 1) (Choice (op 1 1) (Go 1 1))
    ∷ []

abbrev pub forward_missed_of_client_1 : List Posted
forward_missed_of_client_1 =
    posted Desk (Ask (op 1 1) regular)
    ∷ posted (Connection 1) (Forward (op 1 1) kind.Delete delete_body false (op 1 1))
    ∷ []

abbrev pub forward_missed_of_connection_1 : List Posted
forward_missed_of_connection_1 =
    posted Desk (HeardUp 1)
    ∷ posted Desk (HeardDown 1)
    ∷ posted (Client 1) (Failed (op 1 1) C4)
    ∷ posted Desk (Ended (op 1 1) 1 None)
    ∷ []

abbrev pub answer_too_late_of_desk : List Posted
answer_too_late_of_desk =
    posted (Client 1) (Choice (op 1 1) (Go 1 1))
    ∷ []

abbrev pub answer_too_late_of_client_1 : List Posted
answer_too_late_of_client_1 =
    posted Desk (Ask (op 1 1) regular)
    ∷ posted (Connection 1) (Forward (op 1 1) kind.Delete delete_body false (op 1 1))
    ∷ posted (Connection 1) (Drop (op 1 1))
    ∷ []

abbrev pub answer_too_late_of_connection_1 : List Posted
answer_too_late_of_connection_1 =
    posted Desk (HeardUp 1)
    ∷ posted (Client 1) (Reply (op 1 1) delete_done true None)
    ∷ posted Desk (Ended (op 1 1) 1 (Some 0))
    ∷ []

abbrev pub bind_ends_searches_of_desk : List Posted
bind_ends_searches_of_desk =
    posted (Client 1) (Choice (op 1 1) (Go 1 1))
    ∷ posted (Client 1) (Choice (op 1 2) (Go 1 1))
    ∷ posted (Client 1) (Choice (op 1 3) (Go 2 1))
    ∷ posted (Client 1) (Choice (op 1 4) (Go 1 1))
    ∷ []

abbrev pub bind_ends_searches_of_client_1 : List Posted
bind_ends_searches_of_client_1 =
    posted Desk (Ask (op 1 1) regular)
    ∷ posted (Connection 1) (Forward (op 1 1) kind.Search search_for_nobody false (op 1 1))
    ∷ posted Desk (Ask (op 1 2) regular)
    ∷ posted (Connection 1) (Forward (op 1 2) kind.Search search_for_nobody false (op 1 2))
    ∷ posted (Connection 1) (Drop (op 1 1))
    ∷ posted (Connection 1) (Drop (op 1 2))
    ∷ posted Desk (Ask (op 1 3) bind)
    ∷ posted (Connection 2) (Forward (op 1 3) kind.Bind bind_x false (op 1 3))
    ∷ posted Desk (Ask (op 1 4) regular)
    ∷ posted (Connection 1) (Forward (op 1 4) kind.Delete delete_for_x false (op 1 4))
    ∷ []

abbrev pub bind_ends_searches_of_connection_1 : List Posted
bind_ends_searches_of_connection_1 =
    posted Desk (HeardUp 1)
    ∷ posted Desk (Ended (op 1 1) 1 None)
    ∷ posted Desk (Ended (op 1 2) 1 None)
    ∷ []

abbrev pub bind_ends_searches_of_connection_2 : List Posted
bind_ends_searches_of_connection_2 =
    posted Desk (HeardUp 2)
    ∷ posted (Client 1) (Reply (op 1 3) bind_done true None)
    ∷ posted Desk (Ended (op 1 3) 2 None)
    ∷ []

abbrev pub identity_not_known_of_desk : List Posted
identity_not_known_of_desk =
    posted (Client 1) (Choice (op 1 1) (Go 2 1))
    ∷ []

abbrev pub identity_not_known_of_client_1 : List Posted
identity_not_known_of_client_1 =
    posted Desk (Ask (op 1 1) bind)
    ∷ posted (Connection 2) (Forward (op 1 1) kind.Bind sasl_first true (op 1 1))
    ∷ []

abbrev pub identity_not_known_of_connection_1 : List Posted
identity_not_known_of_connection_1 =
    posted Desk (HeardUp 1)
    ∷ []

abbrev pub identity_not_known_of_connection_2 : List Posted
identity_not_known_of_connection_2 =
    posted Desk (HeardUp 2)
    ∷ posted (Client 1) (Failed (op 1 1) C9)
    ∷ posted Desk (Ended (op 1 1) 2 None)
    ∷ []

abbrev pub unbind_within_exchange_of_desk : List Posted
unbind_within_exchange_of_desk =
    posted (Client 1) (Choice (op 1 1) (Go 2 1))
    ∷ []

abbrev pub unbind_within_exchange_of_client_1 : List Posted
unbind_within_exchange_of_client_1 =
    posted Desk (Ask (op 1 1) bind)
    ∷ posted (Connection 2) (Forward (op 1 1) kind.Bind sasl_first true (op 1 1))
    ∷ posted (Connection 2) (Leave (op 1 1))
    ∷ []

abbrev pub unbind_within_exchange_of_connection_1 : List Posted
unbind_within_exchange_of_connection_1 =
    posted Desk (HeardUp 1)
    ∷ []

abbrev pub unbind_within_exchange_of_connection_2 : List Posted
unbind_within_exchange_of_connection_2 =
    posted Desk (HeardUp 2)
    ∷ posted (Client 1) (Reply (op 1 1) sasl_in_progress true None)
    ∷ posted Desk (Ended (op 1 1) 2 None)
    ∷ posted Desk (HeardDown 2)
    ∷ []

abbrev pub identifier_limit_of_desk : List Posted
identifier_limit_of_desk =
    posted (Client 1) (Choice (op 1 1) (Go 1 1))
    ∷ posted (Client 1) (Choice (op 1 2) (Go 1 1))
    ∷ posted (Client 1) (Choice (op 1 3) Unavailable)
    ∷ posted (Client 1) (Choice (op 1 4) (Go 3 1))
    ∷ []

abbrev pub identifier_limit_of_client_1 : List Posted
identifier_limit_of_client_1 =
    posted Desk (Ask (op 1 1) regular)
    ∷ posted (Connection 1) (Forward (op 1 1) kind.Delete delete_body false (op 1 1))
    ∷ posted Desk (Ask (op 1 2) regular)
    ∷ posted (Connection 1) (Forward (op 1 2) kind.Delete delete_body false (op 1 2))
    ∷ posted Desk (Ask (op 1 3) regular)
    ∷ posted Desk (Ask (op 1 4) regular)
    ∷ posted (Connection 3) (Forward (op 1 4) kind.Delete delete_body false (op 1 4))
    ∷ []

abbrev pub identifier_limit_of_connection_1 : List Posted
identifier_limit_of_connection_1 =
    posted Desk (HeardUp 1)
    ∷ posted Desk (HeardRetired 1)
    ∷ posted (Client 1) (Reply (op 1 1) delete_done true None)
    ∷ posted Desk (Ended (op 1 1) 1 (Some 0))
    ∷ posted (Client 1) (Reply (op 1 2) delete_done true None)
    ∷ posted Desk (Ended (op 1 2) 1 (Some 0))
    ∷ posted Desk (HeardDown 1)
    ∷ []

abbrev pub identifier_limit_of_connection_2 : List Posted
identifier_limit_of_connection_2 =
    posted Desk (HeardUp 2)
    ∷ []

abbrev pub identifier_limit_of_connection_3 : List Posted
identifier_limit_of_connection_3 =
    posted Desk (HeardUp 3)
    ∷ []

abbrev pub operation_timed_out_of_desk : List Posted
operation_timed_out_of_desk =
    posted (Client 1) (Choice (op 1 1) (Go 1 1))
    ∷ []

abbrev pub operation_timed_out_of_client_1 : List Posted
operation_timed_out_of_client_1 =
    posted Desk (Ask (op 1 1) regular)
    ∷ posted (Connection 1) (Forward (op 1 1) kind.Delete delete_body false (op 1 1))
    ∷ []

abbrev pub operation_timed_out_of_connection_1 : List Posted
operation_timed_out_of_connection_1 =
    posted Desk (HeardUp 1)
    ∷ posted (Client 1) (Failed (op 1 1) C5)
    ∷ posted Desk (Ended (op 1 1) 1 None)
    ∷ []

abbrev pub bind_timed_out_of_desk : List Posted
bind_timed_out_of_desk =
    posted (Client 1) (Choice (op 1 1) (Go 2 1))
    ∷ []

abbrev pub bind_timed_out_of_client_1 : List Posted
bind_timed_out_of_client_1 =
    posted Desk (Ask (op 1 1) bind)
    ∷ posted (Connection 2) (Forward (op 1 1) kind.Bind bind_x false (op 1 1))
    ∷ []

abbrev pub bind_timed_out_of_connection_1 : List Posted
bind_timed_out_of_connection_1 =
    posted Desk (HeardUp 1)
    ∷ []

abbrev pub bind_timed_out_of_connection_2 : List Posted
bind_timed_out_of_connection_2 =
    posted Desk (HeardUp 2)
    ∷ posted (Client 1) (Failed (op 1 1) C5)
    ∷ posted Desk (Ended (op 1 1) 2 None)
    ∷ posted Desk (HeardDown 2)
    ∷ []

abbrev pub restricted_to_connection_of_desk : List Posted
restricted_to_connection_of_desk =
    posted (Client 1) (Choice (op 1 1) (Go 1 1))
    ∷ posted (Client 1) (Choice (op 1 2) Unavailable)
    ∷ posted (Client 1) (Choice (op 1 3) (Go 3 1))
    ∷ posted (Client 1) (Choice (op 1 4) (Go 2 1))
    ∷ []

abbrev pub restricted_to_connection_of_client_1 : List Posted
restricted_to_connection_of_client_1 =
    posted Desk (Ask (op 1 1) regular)
    ∷ posted (Connection 1) (Forward (op 1 1) kind.Delete restricted_delete false (op 1 1))
    ∷ posted Desk (Ask (op 1 2) (bound_to_connection 1))
    ∷ posted Desk (Ask (op 1 3) bind)
    ∷ posted (Connection 3) (Forward (op 1 3) kind.Bind bind_x false (op 1 3))
    ∷ posted Desk (Ask (op 1 4) regular)
    ∷ posted (Connection 2) (Forward (op 1 4) kind.Delete delete_body false (op 1 4))
    ∷ []

abbrev pub restricted_to_connection_of_connection_1 : List Posted
restricted_to_connection_of_connection_1 =
    posted Desk (HeardUp 1)
    ∷ posted (Client 1) (Reply (op 1 1) delete_done true None)
    ∷ posted Desk (Ended (op 1 1) 1 (Some 0))
    ∷ posted Desk (HeardDown 1)
    ∷ []

abbrev pub restricted_to_connection_of_connection_2 : List Posted
restricted_to_connection_of_connection_2 =
    posted Desk (HeardUp 2)
    ∷ []

abbrev pub restricted_to_connection_of_connection_3 : List Posted
restricted_to_connection_of_connection_3 =
    posted Desk (HeardUp 3)
    ∷ posted (Client 1) (Reply (op 1 3) bind_done true None)
    ∷ posted Desk (Ended (op 1 3) 3 None)
    ∷ []

-- of a connection that is lost within an exchange, and then misses the Bind that goes on
abbrev pub lost_exchange_of_connection_2 : List Posted
lost_exchange_of_connection_2 =
    posted Desk (HeardUp 2)
    ∷ posted (Client 1) (Reply (op 1 1) sasl_in_progress true None)
    ∷ posted Desk (Ended (op 1 1) 2 None)
    ∷ posted Desk (HeardDown 2)
    ∷ posted (Client 1) (Failed (op 1 2) C4)
    ∷ []
