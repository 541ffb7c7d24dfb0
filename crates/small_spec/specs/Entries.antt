-- What single entries say.
use Rattle.std.specs.Prelude.{ℕ, Bool, true, false, ◌==◌, ◌&&◌, not, List, Option, Some, None}
use Rattle.std.specs.Str.{bytes_eq}
use Rattle.ldap_spec.specs.Messages.{Message}
use Rattle.ldap_spec.specs.Kinds.{is_unbind, is_abandon}
use Rattle.ldap_spec.specs.Bodies.{protocol_error_notice}
use Rattle.lload_names.specs.declared.names.Entry.{Entry}
use Rattle.lload_names.specs.declared.names.OpName.{OpName}
use Rattle.lload_names.specs.declared.names.Answer.{Answer}
use Rattle.lload_names.specs.declared.names.Answer.TheVariants.{Go}
use Rattle.lload_names.specs.declared.names.Want.{Want}
use Rattle.lload_names.specs.declared.names.Letter.{Letter}
use Rattle.lload_names.specs.declared.names.EndWhy.{EndWhy}
use Rattle.lload_names.specs.declared.names.What.{What}
use Rattle.lload_names.specs.declared.names.What.TheVariants.{Arrived, In, Chosen, Out, Gone, Linked, Up, Sent, Own, Got, Asked, Chose, Heard}
use Rattle.small_spec.specs.Journal.{same_op}
use Rattle.small_spec.specs.Lists.{passes}

-- an operation with what was asked or answered for it
pub record Named (A : Type 0) : Type 0 where
  pub op : OpName
  pub value : A

-- the message that an entry says came from the client
abbrev pub in_message : What → Option Message
in_message (In id rest) = Some (record { id = id; rest = rest })
in_message _ = None

-- the message that an entry says went to the client
abbrev pub out_message : What → Option Message
out_message (Out id rest) = Some (record { id = id; rest = rest })
out_message _ = None

-- the message that an entry says came from the upstream
abbrev pub got_message : What → Option Message
got_message (Got id rest) = Some (record { id = id; rest = rest })
got_message _ = None

-- the message of the proxy's own that an entry says went to the upstream
abbrev pub own_message : What → Option Message
own_message (Own id rest) = Some (record { id = id; rest = rest })
own_message _ = None

-- the operation that an entry says was forwarded, with the message that went to the upstream
abbrev pub sent_message : What → Option (Named Message)
sent_message (Sent id op rest) = Some (record { op = op; value = record { id = id; rest = rest } })
sent_message _ = None

-- the identifier that an entry gives on an upstream connection
abbrev pub given_id : What → Option ℕ
given_id (Sent id op rest) = Some id
given_id (Own id rest) = Some id
given_id _ = None

-- the choice that an entry of a client marks
abbrev pub chosen : What → Option (Named Answer)
chosen (Chosen op answer) = Some (record { op = op; value = answer })
chosen _ = None

-- what an entry says the desk was asked
abbrev pub asked : What → Option (Named Want)
asked (Asked op want) = Some (record { op = op; value = want })
asked _ = None

-- what an entry says the desk answered
abbrev pub chose : What → Option (Named Answer)
chose (Chose op answer word) = Some (record { op = op; value = answer })
chose _ = None

-- the letter that an entry says the desk heard
abbrev pub heard : What → Option Letter
heard (Heard letter) = Some letter
heard _ = None

-- why a client's part ended
abbrev pub gone_why : What → Option EndWhy
gone_why (Gone why) = Some why
gone_why _ = None

-- entries without anything beside
abbrev pub is_arrived : What → Bool
is_arrived Arrived = true
is_arrived _ = false

abbrev pub is_linked : What → Bool
is_linked Linked = true
is_linked _ = false

abbrev pub is_up : What → Bool
is_up Up = true
is_up _ = false

-- whether a client's part ended, or ended so
abbrev pub is_gone : Entry → Bool
is_gone e = passes (λ _. true) (gone_why e.what)

-- whether a message is the one of this identifier and rest
abbrev pub is_this : ℕ → List ℕ → Message → Bool
is_this id rest m = m.id == id && bytes_eq m.rest rest

-- an Out of this identifier and rest
abbrev pub is_out : ℕ → List ℕ → Entry → Bool
is_out id rest e = passes (is_this id rest) (out_message e.what)

-- an Out of the protocol error notice
abbrev pub is_notice : Entry → Bool
is_notice e = is_out 0 protocol_error_notice e

-- an Own of this rest
abbrev pub is_own : List ℕ → Entry → Bool
is_own rest e = passes (λ m. bytes_eq m.rest rest) (own_message e.what)

-- whether an answer sends an operation to this connection
abbrev pub goes_to : ℕ → Answer → Bool
goes_to u (Go conn backend) = conn == u
goes_to u _ = false

-- an entry by which the client learns the choice of this connection for this operation
abbrev pub is_choice_of : OpName → ℕ → Entry → Bool
is_choice_of op u e = passes (λ c. same_op op c.op && goes_to u c.value) (chosen e.what)

-- whether a message makes an operation: its identifier isn't 0, and it isn't an Unbind or an Abandon
abbrev pub makes_operation : Message → Bool
makes_operation m = not (m.id == 0) && not (is_unbind m.rest) && not (is_abandon m.rest)

-- the message of an entry that makes an operation
abbrev pub made_by : Message → Option Message
made_by m = elim (makes_operation m) [ true ↦ Some m | false ↦ None ]

abbrev pub operation_message : What → Option Message
operation_message (In id rest) = made_by (record { id = id; rest = rest })
operation_message _ = None
