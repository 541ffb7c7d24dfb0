-- What an upstream answered to an operation, the answer that settles it, and whether it is open at a connection.
use Rattle.std.specs.Prelude.{ℕ, Bool, true, false, ◌==◌, ◌&&◌, ◌||◌, not, if◌then◌else◌, List, [], ◌∷◌, ◌++◌, filter, Option, Some, None, is_none}
use Rattle.std.specs.List.{list_any}
use Rattle.std.specs.Option.{option_and_then, option_map, option_or}
use Rattle.std.specs.Str.{bytes_eq}
use Rattle.ldap_spec.specs.Tags.{extended_response, success, bind_in_progress}
use Rattle.ldap_spec.specs.Messages.{Message}
use Rattle.ldap_spec.specs.Kinds.{kind_of, fits, tag_of}
use Rattle.ldap_spec.specs.Requests.{request}
use Rattle.ldap_spec.specs.Responses.{result_code, has_code}
use Rattle.ldap_spec.specs.Bodies.{who_am_i, abandon}
use Rattle.lload_names.specs.declared.names.Entry.{Entry}
use Rattle.lload_names.specs.declared.names.OpName.{OpName}
use Rattle.lload_names.specs.declared.names.OpKind.TheVariants.{Bind}
use Rattle.lload_spec.specs.Lists.{passes, first}
use Rattle.lload_spec.specs.Settings.{Settings}
use Rattle.lload_spec.specs.Entries.{Named, sent_message, got_message, own_message, given_id, is_own, is_expired, is_down}
use Rattle.lload_spec.specs.Journal.{same_op, Family}
use Rattle.lload_spec.specs.Operations.{Operation, operation, is_of, is_request_of, is_simple_bind, is_final_for}

-- a Sent of an operation: the connection, its identifier there, when, and what stands before and behind it in the
-- connection's list
pub record Sending : Type 0 where
  pub connection : ℕ
  pub op : OpName
  pub id : ℕ
  pub at : ℕ
  pub rest : List ℕ
  pub before : List Entry
  pub behind : List Entry

-- whether an entry gives this identifier
abbrev pub gives_id : ℕ → Entry → Bool
gives_id id e = passes (λ given. given == id) (given_id e.what)

-- these entries up to the next one that gives this identifier
abbrev pub reign_of : ℕ → List Entry → List Entry
reign_of id [] = []
reign_of id (e ∷ es) = elim (gives_id id e) [ true ↦ [] | false ↦ e ∷ reign_of id es ]

-- the Sent that an entry is, if it is one
abbrev pub sending_made : ℕ → List Entry → Entry → List Entry → Option (Named Message) → List Sending
sending_made u before e behind None = []
sending_made u before e behind (Some s) =
    record {
      connection = u;
      op = s.op;
      id = s.value.id;
      at = e.at;
      rest = s.value.rest;
      before = before;
      behind = behind;
    } ∷ []

-- the reign of a Sent over its identifier: what stands behind it and before the next Sent or own message with that
abbrev pub reign : Sending → List Entry
reign sent = reign_of sent.id sent.behind

-- whether it reigns to the end of the list
abbrev pub is_reigning : Sending → Bool
is_reigning sent = not (list_any (gives_id sent.id) sent.behind)

-- whether an entry is a Sent with this identifier
abbrev pub is_sent_under : ℕ → Entry → Bool
is_sent_under id e = passes (λ s. s.value.id == id) (sent_message e.what)

-- these entries up to the next Sent with this identifier
abbrev pub until_sent : ℕ → List Entry → List Entry
until_sent id [] = []
until_sent id (e ∷ es) = elim (is_sent_under id e) [ true ↦ [] | false ↦ e ∷ until_sent id es ]

-- whether a Sent is the last with its identifier
abbrev pub is_last_sent : Sending → Bool
is_last_sent sent = not (list_any (is_sent_under sent.id) sent.behind)

-- the Sent entries among these, behind those before
abbrev pub sendings_from : ℕ → List Entry → List Entry → List Sending
sendings_from u before [] = []
sendings_from u before (e ∷ es) =
    sending_made u before e es (sent_message e.what) ++ sendings_from u (before ++ e ∷ []) es

-- the Sent entries of a connection's list
abbrev pub sendings : ℕ → List Entry → List Sending
sendings u list = sendings_from u [] list

-- a test of an operation's Sent, which fails where there is no such operation
abbrev pub of_operation : Family → (Operation → Sending → Bool) → Sending → Bool
of_operation F test sent = passes (λ o. test o sent) (operation F sent.op)

-- whether one of these Sent entries is of this operation and passes a test of both
abbrev pub is_some_sent_of : Family → (Operation → Sending → Bool) → OpName → List Sending → Bool
is_some_sent_of F test op sents = list_any (λ sent. same_op op sent.op && of_operation F test sent) sents

-- the Sent entries of these connections
abbrev pub sendings_at : Family → List ℕ → List Sending
sendings_at F [] = []
sendings_at F (u ∷ us) = sendings u (F.connection u) ++ sendings_at F us

-- all Sent entries
abbrev pub all_sendings : Family → List Sending
all_sendings F = sendings_at F F.connections

-- the Sent entries of an operation, over all connections
abbrev pub sendings_of : Family → OpName → List Sending
sendings_of F op = filter (λ s. same_op op s.op) (all_sendings F)

-- the rest that an entry got under this identifier, where its kind fits the request
abbrev pub answer_of : Message → ℕ → Entry → Option (List ℕ)
answer_of request id e =
    elim (got_message e.what) [
      | None ↦ None
      | Some m ↦ if m.id == id && passes (λ kind. fits kind m.rest) (kind_of request.rest) then Some m.rest else None
    ]

-- an answer, if there is one, and then the later ones where it isn't final
abbrev pub with_later : Message → Option (List ℕ) → List (List ℕ) → List (List ℕ)
with_later request None later = later
with_later request (Some r) later = r ∷ (if is_final_for request r then [] else later)

-- the answers to a request under this identifier, up to and with the first final one
abbrev pub answers_under : Message → ℕ → List Entry → List (List ℕ)
answers_under request id [] = []
answers_under request id (e ∷ es) = with_later request (answer_of request id e) (answers_under request id es)

-- what the upstream answered to the operation (RFC 4511, 4.1.9 and 4.5 to 4.12)
abbrev pub answers : Operation → Sending → List (List ℕ)
answers o s = answers_under o.request s.id (reign s)

-- the answers to the operation at the first of its Sent entries, none where there is none
abbrev pub answers_to : Family → Operation → List (List ℕ)
answers_to F o = elim (first (sendings_of F o.name)) [ None ↦ [] | Some s ↦ answers o s ]

-- a final answer, and all that stands behind it in the connection's list
pub record Final : Type 0 where
  pub rest : List ℕ
  pub behind : List Entry

-- the final answer to a request among these entries, which reigns over this identifier until one of them gives it
abbrev pub final_under : Message → ℕ → List Entry → Option Final
final_under request id [] = None
final_under request id (e ∷ es) =
    if gives_id id e then None
    else if passes (is_final_for request) (answer_of request id e) then
    option_map (λ r. record { rest = r; behind = es }) (answer_of request id e)
    else final_under request id es

-- the final answer to the operation
abbrev pub final_answer : Operation → Sending → Option Final
final_answer o s = final_under o.request s.id s.behind

-- whether the identity behind a Bind's success is asked for, so that the success is kept back: it is of another method
-- than simple, with proxied authorization on (RFC 4532; this project's own)
abbrev pub wants_identity : Settings → Message → Bool
wants_identity s m = s.proxies_authorization && is_request_of Bind m && not (passes is_simple_bind (request m.rest))

abbrev pub asks_who : Settings → Operation → Bool
asks_who s o = wants_identity s o.request

-- whether a final answer to a Bind is kept back: a success, where its identity is asked for
abbrev pub is_kept_back : Bool → List ℕ → Bool
is_kept_back asks rest = asks && has_code success rest

-- whether the final answer to a Bind is saslBindInProgress
abbrev pub is_left_in_progress : Operation → Sending → Bool
is_left_in_progress o s = passes (λ f. has_code bind_in_progress f.rest) (final_answer o s)

-- the rest of a message, where it is an extended response under this identifier
abbrev pub extended_rest : ℕ → Message → Option (List ℕ)
extended_rest id m = if m.id == id && tag_of m.rest == extended_response then Some m.rest else None

-- the first extended response under this identifier
abbrev pub extended_under : ℕ → List Entry → Option (List ℕ)
extended_under id [] = None
extended_under id (e ∷ es) = option_or (option_and_then (extended_rest id) (got_message e.what)) (extended_under id es)

-- the identifier of the Who Am I that these entries begin with
abbrev pub who_id : List Entry → Option ℕ
who_id [] = None
who_id (e ∷ es) =
    elim (own_message e.what) [ None ↦ None | Some m ↦ if bytes_eq m.rest who_am_i then Some m.id else None ]

-- the answer to the Who Am I that these entries begin with
abbrev pub who_answer : List Entry → Option (List ℕ)
who_answer es = elim (who_id es) [ None ↦ None | Some id ↦ extended_under id es ]

-- the answer that settles the operation behind its final answer: that answer, for a Bind one with a readable code, and
-- for a success that is kept back the answer to Who Am I
abbrev pub closing_by : Settings → Operation → Final → Option (List ℕ)
closing_by s o f =
    if is_of Bind o && is_none (result_code f.rest) then None
    else if is_kept_back (asks_who s o) f.rest then who_answer f.behind
    else Some f.rest

-- the answer that settles the operation at a connection
abbrev pub closing_at : Settings → Operation → Sending → Option (List ℕ)
closing_at s o sent = elim (final_answer o sent) [ None ↦ None | Some f ↦ closing_by s o f ]

-- the answer that settles the operation
abbrev pub closing : Settings → Family → Operation → Option (List ℕ)
closing s F o = elim (first (sendings_of F o.name)) [ None ↦ None | Some sent ↦ closing_at s o sent ]

-- whether an Abandon named this Sent, which isn't a Bind's, before the next Sent with its identifier
abbrev pub is_abandoned_at : Operation → Sending → Bool
is_abandoned_at o sent = not (is_of Bind o) && list_any (is_own (abandon sent.id)) (until_sent sent.id sent.behind)

-- whether the operation is open at the end of the connection's list that the Sent was taken from: not settled, expired,
-- abandoned or lost there
abbrev pub is_open : Settings → Operation → Sending → Bool
is_open s o sent =
    is_none (closing_at s o sent) && not (list_any (λ e. is_expired o.name e || is_down e) sent.behind)
    && not (is_abandoned_at o sent)
