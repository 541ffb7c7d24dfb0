-- What an upstream answered to an operation.
use Rattle.std.specs.Prelude.{ℕ, ◌==◌, ◌&&◌, if◌then◌else◌, List, [], ◌∷◌, ◌++◌, filter, Option, Some, None}
use Rattle.ldap_spec.specs.Messages.{Message}
use Rattle.ldap_spec.specs.Kinds.{kind_of, fits}
use Rattle.lload_names.specs.declared.names.Entry.{Entry}
use Rattle.lload_names.specs.declared.names.OpName.{OpName}
use Rattle.small_spec.specs.Lists.{passes}
use Rattle.small_spec.specs.Entries.{Named, sent_message, got_message}
use Rattle.small_spec.specs.Journal.{same_op, Family}
use Rattle.small_spec.specs.Operations.{Operation, is_final_for}

-- a Sent of an operation: the connection, its number among the connection's identifiers, when, and what stands before and behind it in the connection's list
pub record Sending : Type 0 where
  pub connection : ℕ
  pub op : OpName
  pub id : ℕ
  pub at : ℕ
  pub rest : List ℕ
  pub before : List Entry
  pub behind : List Entry

-- the Sent that an entry is, if it is one
abbrev pub sending_made : ℕ → List Entry → Entry → List Entry → Option (Named Message) → List Sending
sending_made u before e behind None = []
sending_made u before e behind (Some s) = record { connection = u; op = s.op; id = s.value.id; at = e.at; rest = s.value.rest; before = before; behind = behind } ∷ []

-- the Sent entries among these, behind those before
abbrev pub sendings_from : ℕ → List Entry → List Entry → List Sending
sendings_from u before [] = []
sendings_from u before (e ∷ es) = sending_made u before e es (sent_message e.what) ++ sendings_from u (before ++ e ∷ []) es

-- the Sent entries of a connection's list
abbrev pub sendings : ℕ → List Entry → List Sending
sendings u list = sendings_from u [] list

-- the Sent entries of these connections
abbrev pub sendings_at : Family → List ℕ → List Sending
sendings_at F [] = []
sendings_at F (u ∷ us) = sendings u (F.connection u) ++ sendings_at F us

-- all Sent entries
abbrev pub all_sendings : Family → List Sending
all_sendings F = sendings_at F F.connections

-- the Sent entries of an operation, over all connections
abbrev pub sendings_of : Family → OpName → List Sending
sendings_of F op = filter (λ s. same_op op s.op) (all_sendings F)

-- the rest that an entry got under this identifier, where its kind fits the request
abbrev pub answer_of : Message → ℕ → Entry → Option (List ℕ)
answer_of request id e = elim (got_message e.what) [ None ↦ None | Some m ↦ if m.id == id && passes (λ kind. fits kind m.rest) (kind_of request.rest) then Some m.rest else None ]

-- an answer, if there is one, and then the later ones where it isn't final
abbrev pub with_later : Message → Option (List ℕ) → List (List ℕ) → List (List ℕ)
with_later request None later = later
with_later request (Some r) later = r ∷ (if is_final_for request r then [] else later)

-- the answers to a request under this identifier, up to and with the first final one
abbrev pub answers_under : Message → ℕ → List Entry → List (List ℕ)
answers_under request id [] = []
answers_under request id (e ∷ es) = with_later request (answer_of request id e) (answers_under request id es)

-- what the upstream answered to the operation (RFC 4511, 4.1.9 and 4.5 to 4.12)
abbrev pub answers : Operation → Sending → List (List ℕ)
answers o s = answers_under o.request s.id s.behind
