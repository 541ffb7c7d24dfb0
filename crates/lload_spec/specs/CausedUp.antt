-- Every change of state of an upstream connection has its cause.
use Rattle.std.specs.Prelude.{ℕ, ◌+◌, ◌*◌, Bool, true, false, ◌==◌, ◌&&◌, ◌||◌, not, nat_le, if◌then◌else◌, List, [], ◌∷◌, flat_map, Option, Some, None, is_some, is_none}
use Rattle.std.specs.List.{list_any, list_all}
use Rattle.ldap_spec.specs.Tags.{bind_response, success, bind_version}
use Rattle.ldap_spec.specs.Messages.{Message}
use Rattle.ldap_spec.specs.Kinds.{kind_of, tag_of}
use Rattle.ldap_spec.specs.Requests.{Request, BindRequest, request}
use Rattle.ldap_spec.specs.Responses.{has_code}
use Rattle.lload_names.specs.declared.names.Entry.{Entry}
use Rattle.lload_names.specs.declared.names.OpName.{OpName}
use Rattle.lload_names.specs.declared.names.OpKind.TheVariants.{Bind}
use Rattle.lload_names.specs.declared.names.ConnKind.TheVariants.{Bind as BindKind}
use Rattle.lload_names.specs.declared.names.EndWhy.{EndWhy}
use Rattle.lload_names.specs.declared.names.EndWhy.TheVariants.{Bad, OwnBind, TimedOut, Unfinished, Drained}
use Rattle.lload_spec.specs.Lists.{passes, last, first_passes, each_split, each_entry, implies, agrees, where_there}
use Rattle.lload_spec.specs.Settings.{Settings, is_of_kind, place_at, second}
use Rattle.lload_spec.specs.Journal.{Family}
use Rattle.lload_spec.specs.Entries.{got_message, sent_message, expired_op, missed_op, down_why, given_id, is_gone, is_down, is_down_by, is_link_reason, is_linked, is_up, is_retired}
use Rattle.lload_spec.specs.Operations.{Operation, operation, operations, is_of, is_final_for}
use Rattle.lload_spec.specs.Answers.{Sending, is_some_sent_of, asks_who, is_kept_back, sendings, of_operation, gives_id, answer_of, final_answer, closing_at, is_left_in_progress, who_id, is_open}
use Rattle.lload_spec.specs.Fifo.{is_pinned_to}
use Rattle.lload_spec.specs.Pauses.{holds_at}
use Rattle.lload_spec.specs.BadMessages.{OpenRequest, MessageFacts, is_bad}
use Rattle.lload_spec.specs.OneEach.{begins_with_bind, is_own_bind}

-- the moment of the last of these entries that is a message under this identifier, or this moment
abbrev pub last_under : ℕ → ℕ → List Entry → ℕ
last_under at id [] = at
last_under at id (e ∷ es) = last_under (if passes (λ m. m.id == id) (got_message e.what) then e.at else at) id es

-- the same under the identifier of a Who Am I, if there is one
abbrev pub last_of_who : ℕ → Option ℕ → List Entry → ℕ
last_of_who at None es = at
last_of_who at (Some id) es = last_under at id es

-- the moment of the last answer among these entries, until one of them gives the identifier, or under that of the
-- operation's Who Am I; or this moment
abbrev pub last_answer : Operation → ℕ → ℕ → List Entry → ℕ
last_answer o id at [] = at
last_answer o id at (e ∷ es) =
    if gives_id id e then at
    else if is_none (answer_of o.request id e) then last_answer o id at es
    else if passes (is_final_for o.request) (answer_of o.request id e) then last_of_who e.at (who_id es) es
    else last_answer o id e.at es

-- whether so many seconds have passed between two moments, where 0 seconds never pass
abbrev pub is_past : ℕ → ℕ → ℕ → Bool
is_past seconds since at = not (seconds == 0) && nat_le (since + second * seconds) at

-- whether the operation is due at this moment: the timeout has passed since its Sent and its last answer (bindconf
-- timeout in lloadd.conf(5))
abbrev pub is_due : Settings → ℕ → Operation → Sending → Bool
is_due s at o sent = is_past s.timeout (last_answer o sent.id sent.at sent.behind) at

-- whether a Sent of this operation at the place is due
abbrev pub is_due_at : Settings → Family → ℕ → List Entry → OpName → ℕ → Bool
is_due_at s F u place op at =
    is_some_sent_of F (is_due s at) op (sendings u place)

-- each Expired is of an operation that is due
abbrev pub is_expired_caused : Settings → Family → ℕ → List Entry → Entry → Bool
is_expired_caused s F u place e = where_there (λ op. is_due_at s F u place op e.at) (expired_op e.what)

-- whether a connection takes no further operations: it is retired or down
abbrev pub is_stopped : List Entry → Bool
is_stopped place = list_any (λ e. is_retired e.what || is_down e) place

-- each Missed stands behind Retired or Down, and no Sent does
abbrev pub is_missed_caused : List Entry → Entry → Bool
is_missed_caused place e =
    implies (is_some (missed_op e.what)) (is_stopped place)
    && implies (is_some (sent_message e.what)) (not (is_stopped place))

-- whether the entries pass the test directly behind exactly the entries that are due
abbrev pub exactly_behind : (List Entry → Entry → Bool) → (Entry → Bool) → List Entry → Bool
exactly_behind is_due passed list =
    not (first_passes passed list)
    && each_split (λ place e behind. agrees (is_due place e) (first_passes passed behind)) list

-- the identifier of the own Bind, where these entries begin with it behind Linked
abbrev pub own_bind_id : Settings → ℕ → List Entry → Option ℕ
own_bind_id s u [] = None
own_bind_id s u (e ∷ []) = None
own_bind_id s u (e ∷ f ∷ es) =
    if begins_with_bind s u && is_linked e.what && is_own_bind s f then given_id f.what else None

-- whether a message has come under this identifier
abbrev pub has_got : ℕ → List Entry → Bool
has_got id place = list_any (λ e. passes (λ m. m.id == id) (got_message e.what)) place

-- whether the own Bind waits for its answer
abbrev pub own_bind_waits : Settings → ℕ → List Entry → Bool
own_bind_waits s u place = passes (λ id. not (has_got id place)) (own_bind_id s u place)

-- whether a message is under the own Bind's identifier
abbrev pub is_under_own_bind : Settings → ℕ → List Entry → Message → Bool
is_under_own_bind s u place m = passes (λ id. m.id == id) (own_bind_id s u place)

-- whether an entry is the first answer to the own Bind, and a Bind response that passes the test
abbrev pub is_own_bind_answer : (List ℕ → Bool) → Settings → ℕ → List Entry → Entry → Bool
is_own_bind_answer test s u place e =
    own_bind_waits s u place
    && passes (λ m. is_under_own_bind s u place m && tag_of m.rest == bind_response && test m.rest) (got_message e.what)

-- whether a connection is up directly behind this entry: Linked where it has no own Bind, else the own Bind's success
abbrev pub is_up_due : Settings → ℕ → List Entry → Entry → Bool
is_up_due s u place e =
    is_linked e.what && is_some (place_at s u) && not (begins_with_bind s u)
    || is_own_bind_answer (has_code success) s u place e

-- whether a connection retires directly behind this entry: it gives the limit
abbrev pub is_retirement_due : Settings → List Entry → Entry → Bool
is_retirement_due s place e = passes (λ id. id == s.id_limit) (given_id e.what)

-- whether a connection goes down for its own Bind directly behind this entry
abbrev pub is_refused_own_bind : Settings → ℕ → List Entry → Entry → Bool
is_refused_own_bind s u place e = is_own_bind_answer (λ r. not (has_code success r)) s u place e

-- an open operation as a message finds it
abbrev pub open_request : Settings → Operation → Sending → OpenRequest
open_request s o sent =
    record {
      id = sent.id;
      kind = kind_of o.request.rest;
      kept = passes (λ f. is_kept_back (asks_who s o) f.rest) (final_answer o sent);
      who = elim (final_answer o sent) [ None ↦ None | Some f ↦ who_id f.behind ];
    }

-- the operations that are open at a place, by their Sent entries
abbrev pub open_requests : Settings → Family → ℕ → List Entry → List OpenRequest
open_requests s F u place =
    flat_map
    (λ sent.
    elim (operation F sent.op) [
      | None ↦ []
      | Some o ↦ elim (is_open s o sent) [ true ↦ open_request s o sent ∷ [] | false ↦ [] ]
    ])
    (sendings u place)

-- what a message meets at a place of a connection's list
abbrev pub message_facts : Settings → Family → ℕ → List Entry → MessageFacts
message_facts s F u place =
    record {
      own = elim (own_bind_waits s u place) [ true ↦ own_bind_id s u place | false ↦ None ];
      requests = open_requests s F u place;
      given = λ id. list_any (gives_id id) place;
    }

-- whether a connection takes messages at a place: it is linked and not down, and doesn't hold
abbrev pub takes_messages : Settings → ℕ → List Entry → Bool
takes_messages s u place =
    list_any (λ e. is_linked e.what) place && not (list_any is_down place) && not (holds_at s u place)

-- each bad message that comes while the connection takes messages has Down for a bad message directly behind it
abbrev pub is_bad_told : Settings → Family → ℕ → List Entry → Entry → List Entry → Bool
is_bad_told s F u place e behind =
    implies (takes_messages s u place && passes (is_bad (message_facts s F u place)) (got_message e.what))
    (first_passes (is_down_by Bad) behind)

-- whether the Bind of a Sent still holds its bind connection: it isn't settled, or its final answer is
-- saslBindInProgress, and no Forward was missed and no Down came since
abbrev pub is_holding : Settings → Operation → Sending → Bool
is_holding s o sent =
    not (list_any (λ e. is_some (missed_op e.what) || is_down e) sent.behind)
    && (is_none (closing_at s o sent) || is_left_in_progress o sent)

-- the client that holds a bind connection at a place of its list
abbrev pub holder : Settings → Family → ℕ → List Entry → Option ℕ
holder s F u place =
    elim (last (sendings u place)) [
      | None ↦ None
      | Some sent ↦ if is_of_kind s BindKind u && of_operation F (is_holding s) sent then Some sent.op.client else None
    ]

-- whether a request is a Bind of another version than 3
abbrev pub has_other_version : Request → Bool
has_other_version (BindRequest version name method) = not (version == bind_version)
has_other_version _ = false

-- whether a client left this connection: it is gone, or sent a Bind of another version than 3 while an exchange was in
-- progress there
abbrev pub is_left_by : Family → ℕ → ℕ → Bool
is_left_by F u c =
    list_any is_gone (F.client c)
    || list_any (λ o. passes has_other_version (request o.request.rest) && is_pinned_to F o u)
    (operations c (F.client c))

-- whether the holder's client left the connection
abbrev pub is_unfinished : Settings → Family → ℕ → List Entry → Bool
is_unfinished s F u place = passes (is_left_by F u) (holder s F u place)

-- whether a connection is drained: retired, with no operation open and no holder
abbrev pub is_drained : Settings → Family → ℕ → List Entry → Bool
is_drained s F u place =
    list_any (λ e. is_retired e.what) place && not (list_any (of_operation F (is_open s)) (sendings u place))
    && is_none (holder s F u place)

-- whether a Sent at this connection is of this operation, and of a Bind
abbrev pub is_bind_sent : Family → ℕ → List Entry → OpName → Bool
is_bind_sent F u place op =
    is_some_sent_of F (λ o q. is_of Bind o) op (sendings u place)

-- whether the last entry is Expired of a Bind of this connection
abbrev pub is_bind_expired : Family → ℕ → List Entry → Bool
is_bind_expired F u place = passes (λ e. passes (is_bind_sent F u place) (expired_op e.what)) (last place)

-- an Expired of a Bind has the end of the connection directly behind it
abbrev pub is_bind_expiry_told : Family → ℕ → List Entry → Entry → List Entry → Bool
is_bind_expiry_told F u place e behind =
    implies (passes (is_bind_sent F u place) (expired_op e.what)) (first_passes (is_down_by TimedOut) behind)

-- the moment of the own Bind
abbrev pub own_bind_at : List Entry → ℕ
own_bind_at [] = 0
own_bind_at (e ∷ []) = 0
own_bind_at (e ∷ f ∷ es) = f.at

-- whether the own Bind is due at this moment
abbrev pub is_own_bind_due : Settings → ℕ → List Entry → ℕ → Bool
is_own_bind_due s u place at = own_bind_waits s u place && is_past s.timeout (own_bind_at place) at

-- the cause of a connection's end; the ends for the own Bind, and for a bad message as far as one is told, are said
-- where they are due
abbrev pub has_down_cause : Settings → Family → ℕ → List Entry → ℕ → EndWhy → Bool
has_down_cause s F u place at TimedOut = is_bind_expired F u place || is_own_bind_due s u place at
has_down_cause s F u place at Unfinished = is_unfinished s F u place
has_down_cause s F u place at Drained = is_drained s F u place
has_down_cause s F u place at OwnBind = true
has_down_cause s F u place at why = is_link_reason why

-- each Down has its cause
abbrev pub is_down_caused : Settings → Family → ℕ → List Entry → Entry → Bool
is_down_caused s F u place e = where_there (λ why. has_down_cause s F u place e.at why) (down_why e.what)

-- each connection is up exactly where it is due
abbrev pub each_up_due : Settings → Family → Bool
each_up_due s F = list_all (λ u. exactly_behind (is_up_due s u) (λ e. is_up e.what) (F.connection u)) F.connections

-- each connection retires exactly where it is due
abbrev pub each_retirement_due : Settings → Family → Bool
each_retirement_due s F =
    list_all (λ u. exactly_behind (is_retirement_due s) (λ e. is_retired e.what) (F.connection u)) F.connections

-- each connection goes down for its own Bind exactly where it is due
abbrev pub each_own_bind_end_due : Settings → Family → Bool
each_own_bind_end_due s F =
    list_all (λ u. exactly_behind (is_refused_own_bind s u) (is_down_by OwnBind) (F.connection u)) F.connections

-- each Expired is due
abbrev pub each_expired_due : Settings → Family → Bool
each_expired_due s F = list_all (λ u. each_entry (is_expired_caused s F u) (F.connection u)) F.connections

-- each Missed stands behind Retired or Down, and no Sent does
abbrev pub each_missed_caused : Family → Bool
each_missed_caused F = list_all (λ u. each_entry is_missed_caused (F.connection u)) F.connections

-- each bad message takes its connection down
abbrev pub each_bad_told : Settings → Family → Bool
each_bad_told s F = list_all (λ u. each_split (is_bad_told s F u) (F.connection u)) F.connections

-- each Expired of a Bind has the end of its connection directly behind it
abbrev pub each_bind_expiry_told : Family → Bool
each_bind_expiry_told F = list_all (λ u. each_split (is_bind_expiry_told F u) (F.connection u)) F.connections

-- each Down has its cause
abbrev pub each_down_caused : Settings → Family → Bool
each_down_caused s F = list_all (λ u. each_entry (is_down_caused s F u) (F.connection u)) F.connections
