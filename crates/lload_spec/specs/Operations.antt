-- The operations of a client's list, what the client got for each, and how each ended.
use Rattle.std.specs.Prelude.{ℕ, suc, ◌+◌, Bool, true, false, ◌==◌, ◌&&◌, not, if◌then◌else◌, List, [], ◌∷◌, ◌++◌, filter, find, Option, Some, None, is_none}
use Rattle.std.specs.List.{list_any}
use Rattle.ldap_spec.specs.Messages.{Message}
use Rattle.ldap_spec.specs.Kinds.{kind_of, is_final, same_kind}
use Rattle.ldap_spec.specs.Requests.{Request, AbandonRequest, BindRequest, Method, Simple, request, is_cancel, cancel_id}
use Rattle.ldap_spec.specs.Bodies.{cancel_answer}
use Rattle.std.specs.Str.{bytes_eq}
use Rattle.lload_names.specs.declared.names.Entry.{Entry}
use Rattle.lload_names.specs.declared.names.OpName.{OpName}
use Rattle.lload_names.specs.declared.names.Answer.{Answer}
use Rattle.lload_names.specs.declared.names.Answer.TheVariants.{Go, Busy, Unavailable}
use Rattle.lload_names.specs.declared.names.CancelAnswer.TheVariants.{C13}
use Rattle.lload_names.specs.declared.names.OpKind.{OpKind}
use Rattle.lload_names.specs.declared.names.OpKind.TheVariants.{Bind}
use Rattle.lload_spec.specs.Lists.{passes, last, last_passes}
use Rattle.lload_spec.specs.Entries.{Named, operation_message, in_message, out_message, chosen, is_gone}
use Rattle.lload_spec.specs.Journal.{same_op, Family}

-- an operation: its name, its request with the moment at which it came in, and what stands before and behind this
-- In in its client's list
pub record Operation : Type 0 where
  pub name : OpName
  pub at : ℕ
  pub request : Message
  pub before : List Entry
  pub behind : List Entry

-- the number of operations that an entry makes: one or none
abbrev pub made : Option Message → ℕ
made None = 0
made (Some m) = 1

-- the operation of this number that an entry makes, if it makes one
abbrev pub operation_made : ℕ → ℕ → List Entry → Entry → List Entry → Option Message → List Operation
operation_made c k before e behind None = []
operation_made c k before e behind (Some m) =
    record { name = record { client = c; k = k }; at = e.at; request = m; before = before; behind = behind } ∷ []

-- the operations that these entries make, behind k operations and these entries
abbrev pub operations_from : ℕ → ℕ → List Entry → List Entry → List Operation
operations_from c k before [] = []
operations_from c k before (e ∷ es) =
    operation_made c (suc k) before e es (operation_message e.what)
    ++ operations_from c (k + made (operation_message e.what)) (before ++ e ∷ []) es

-- the operations of a client's list: its k-th is the k-th In that makes one
abbrev pub operations : ℕ → List Entry → List Operation
operations c list = operations_from c 0 [] list

-- the operation of a client's list that has this name; those of other clients aren't there
abbrev pub operation_in : ℕ → List Entry → OpName → Option Operation
operation_in c list op = find (λ o. same_op op o.name) (operations c list)

-- the operation of this name
abbrev pub operation : Family → OpName → Option Operation
operation F op = operation_in op.client (F.client op.client) op

-- the operations of these clients
abbrev pub operations_of : Family → List ℕ → List Operation
operations_of F [] = []
operations_of F (c ∷ cs) = operations c (F.client c) ++ operations_of F cs

-- all operations
abbrev pub all_operations : Family → List Operation
all_operations F = operations_of F F.clients

-- whether a request is of this kind
abbrev pub is_request_of : OpKind → Message → Bool
is_request_of kind request = passes (same_kind kind) (kind_of request.rest)

-- whether an operation is of this kind
abbrev pub is_of : OpKind → Operation → Bool
is_of kind o = is_request_of kind o.request

-- whether a rest is the final answer to one of a request (RFC 4511, 4.1.9)
abbrev pub is_final_to : List ℕ → List ℕ → Bool
is_final_to request rest = passes (λ kind. is_final kind rest) (kind_of request)

-- the same, to a request with its identifier
abbrev pub is_final_for : Message → List ℕ → Bool
is_final_for request rest = is_final_to request.rest rest

-- an entry that begins another operation with this identifier
abbrev pub takes_id : ℕ → Entry → Bool
takes_id id e = passes (λ m. m.id == id) (operation_message e.what)

-- whether an entry is an Out for the operation with this request, where these entries stand between its In and the
-- entry: an Out with its identifier, before the next operation with that identifier
abbrev pub is_out_for : Message → List Entry → Entry → Bool
is_out_for request since e =
    passes (λ m. m.id == request.id) (out_message e.what) && not (list_any (takes_id request.id) since)

-- the rest of an Out with this identifier, if the entry is one
abbrev pub out_rest : ℕ → Option Message → List (List ℕ)
out_rest id None = []
out_rest id (Some m) = if m.id == id then m.rest ∷ [] else []

-- the Out messages with this identifier, up to the next operation with it
abbrev pub outs_under : ℕ → List Entry → List (List ℕ)
outs_under id [] = []
outs_under id (e ∷ es) =
    elim (takes_id id e) [ true ↦ [] | false ↦ out_rest id (out_message e.what) ++ outs_under id es ]

-- what the client got for the operation
abbrev pub outs : Operation → List (List ℕ)
outs o = outs_under o.request.id o.behind

-- how an operation ended: by its final answer, by a Cancel, by an Abandon, by a Bind, or with its client
pub data Manner : Type 0 where
  Answered : Manner
  Cancelled : Manner
  Abandoned : Manner
  Rebound : Manner
  ClientGone : Manner

-- whether a request abandons this identifier
abbrev pub abandons_id : ℕ → Option Request → Bool
abandons_id id (Some (AbandonRequest named)) = named == id
abandons_id id _ = false

-- whether an entry is an In of an Abandon, with an identifier other than 0, that names this request, which isn't a
-- Bind (RFC 4511, 4.11)
abbrev pub is_abandon_of : Message → Entry → Bool
is_abandon_of opened e =
    passes (λ m. not (m.id == 0) && abandons_id opened.id (request m.rest) && not (is_request_of Bind opened))
    (in_message e.what)

-- an In of a Bind, which ends what stands before it (RFC 4511, 4.2.1)
abbrev pub is_bind_in : Entry → Bool
is_bind_in e = passes (λ m. passes (same_kind Bind) (kind_of m.rest)) (operation_message e.what)

-- whether an entry is the In of a Cancel that names the identifier of this request (RFC 3909)
abbrev pub is_cancel_naming : Message → Entry → Bool
is_cancel_naming opened e =
    passes (λ m. is_cancel m.rest && passes (λ id. id == opened.id) (cancel_id m.rest)) (in_message e.what)

-- whether it may end the request, which isn't a Bind nor the Cancel itself
abbrev pub is_cancel_of : Message → Entry → Bool
is_cancel_of opened e =
    is_cancel_naming opened e && passes (λ m. not (m.id == opened.id)) (in_message e.what)
    && not (is_request_of Bind opened)

-- whether a rest tells a request that it was canceled
abbrev pub tells_canceled : Message → List ℕ → Bool
tells_canceled opened rest = passes (λ kind. bytes_eq rest (cancel_answer kind C13)) (kind_of opened.rest)

-- whether an entry is an Out that is final for the operation with this request
abbrev pub is_final_out : Message → List Entry → Entry → Bool
is_final_out opened since e =
    is_out_for opened since e && passes (λ m. is_final_for opened m.rest) (out_message e.what)

-- whether an entry tells it that it is canceled, directly behind the In of a Cancel that names it
abbrev pub is_cancellation : Message → List Entry → Entry → Bool
is_cancellation opened since e =
    passes (λ m. tells_canceled opened m.rest) (out_message e.what) && last_passes (is_cancel_naming opened) since

-- how an entry ends the operation with this request, if it does, behind its In and these entries
abbrev pub manner_of : Message → List Entry → Entry → Option Manner
manner_of opened since e =
    if is_final_out opened since e && is_cancellation opened since e then Some Cancelled
    else if is_final_out opened since e then Some Answered
    else if is_abandon_of opened e then Some Abandoned
    else if is_bind_in e then Some Rebound
    else if is_gone e then Some ClientGone
    else None

-- the end of an operation: how, when, and what stands behind it
pub record Ending : Type 0 where
  pub manner : Manner
  pub at : ℕ
  pub behind : List Entry

-- an end by this entry, if it is one, else a later one
abbrev pub ending_or : Option Manner → Entry → List Entry → Option Ending → Option Ending
ending_or None e behind later = later
ending_or (Some manner) e behind later = Some (record { manner = manner; at = e.at; behind = behind })

-- the first of these entries that ends the operation with this request, behind its In and those before
abbrev pub ending_from : Message → List Entry → List Entry → Option Ending
ending_from opened since [] = None
ending_from opened since (e ∷ es) = ending_or (manner_of opened since e) e es (ending_from opened (since ++ e ∷ []) es)

-- the end of the operation in the list that it was taken from
abbrev pub ending : Operation → Option Ending
ending o = ending_from o.request [] o.behind

-- whether the operation is live at the end of the list that it was taken from
abbrev pub is_live : Operation → Bool
is_live o = is_none (ending o)

-- whether the operation is live at a place of its client's list
abbrev pub is_live_at : ℕ → List Entry → OpName → Bool
is_live_at c place op = passes is_live (operation_in c place op)

-- the live operations at a place of a client's list
abbrev pub live_operations : ℕ → List Entry → List Operation
live_operations c place = filter is_live (operations c place)

-- whether an end is by the client: each but a final answer of the upstream, or a refusal
abbrev pub is_by_client : Ending → Bool
is_by_client e =
    elim e.manner [ Answered ↦ false | Cancelled ↦ true | Abandoned ↦ true | Rebound ↦ true | ClientGone ↦ true ]

-- whether an end is by a Cancel
abbrev pub is_by_cancel : Ending → Bool
is_by_cancel e =
    elim e.manner [ Answered ↦ false | Cancelled ↦ true | Abandoned ↦ false | Rebound ↦ false | ClientGone ↦ false ]

-- whether the operation was ended by its client
abbrev pub is_ended_by_client : Operation → Bool
is_ended_by_client o = passes is_by_client (ending o)

-- the last Bind in a client's list
abbrev pub last_bind : ℕ → List Entry → Option Operation
last_bind c list = last (filter (is_of Bind) (operations c list))

-- whether the client got a final answer for the operation that passes the test
abbrev pub got_final : (List ℕ → Bool) → Operation → Bool
got_final test o = list_any (λ r. is_final_for o.request r && test r) (outs o)

-- the password of a method that is simple
abbrev pub is_simple_method : Method → Bool
is_simple_method (Simple password) = true
is_simple_method _ = false

-- whether a request is a Bind by the simple method
abbrev pub is_simple_bind : Request → Bool
is_simple_bind (BindRequest version name method) = is_simple_method method
is_simple_bind _ = false

-- the connection that an answer gives for this operation
abbrev pub go_for : OpName → Option (Named Answer) → Option ℕ
go_for op (Some c) =
    elim c.value [ Go u b ↦ if same_op op c.op then Some u else None | Busy ↦ None | Unavailable ↦ None ]
go_for op None = None

-- the connection that these entries choose for the operation before its end, behind its In and those before
abbrev pub chosen_from : Operation → List Entry → List Entry → Option ℕ
chosen_from o since [] = None
chosen_from o since (e ∷ es) =
    elim (go_for o.name (chosen e.what)) [
      | None ↦ chosen_from o (since ++ e ∷ []) es
      | Some u ↦ if is_none (ending_from o.request [] since) then Some u else None
    ]

-- the connection that was chosen for the operation while it was live, up to the place that it was taken from
abbrev pub chosen_connection : Operation → Option ℕ
chosen_connection o = chosen_from o [] o.behind
