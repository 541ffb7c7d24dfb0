-- The turns of a client's part: what each input gives, a rule each. A client begins with Arrive; behind its end only
-- choices, answers and refusals have rules, and while it holds no message has one.
use Rattle.std.specs.Prelude.{ℕ, true, false, ◌&&◌, not, max, List, [], ◌∷◌, ◌++◌, find, flat_map, Option, Some, None}
use Rattle.ldap_spec.specs.Messages.{Message}
use Rattle.ldap_spec.specs.Kinds.{kind_of}
use Rattle.ldap_spec.specs.Bodies.{refusal, cancel_answer, protocol_error_notice}
use Rattle.lload_names.specs.declared.names.OpName.{OpName}
use Rattle.lload_names.specs.declared.names.OpKind.{OpKind}
use Rattle.lload_names.specs.declared.names.OpKind.TheVariants.{Bind}
use Rattle.lload_names.specs.declared.names.CancelAnswer.{CancelAnswer}
use Rattle.lload_names.specs.declared.names.CancelAnswer.TheVariants.{S1, C13}
use Rattle.lload_names.specs.declared.names.Answer.{Answer}
use Rattle.lload_names.specs.declared.names.Answer.TheVariants.{Go, Busy, Unavailable}
use Rattle.lload_names.specs.declared.names.EndWhy.{EndWhy}
use Rattle.lload_names.specs.declared.names.EndWhy.TheVariants.{Left, Bad, TooBig}
use Rattle.lload_names.specs.declared.names.Refusal.{Refusal}
use Rattle.lload_names.specs.declared.names.Refusal.TheVariants.{C1, C3}
use Rattle.lload_names.specs.declared.names.PartName.TheVariants.{Desk, Client, Up as Connection}
use Rattle.lload_names.specs.declared.names.Posted.{Posted}
use Rattle.lload_names.specs.declared.names.Letter.{Letter}
use Rattle.lload_names.specs.declared.names.Letter.TheVariants.{Ask, Choice, Returned, Forward, Reply, Failed, Drop, Leave}
use Rattle.lload_names.specs.declared.names.What.{What}
use Rattle.lload_names.specs.declared.names.What.TheVariants as what
use Rattle.lload_spec.specs.Lists.{rising_once}
use Rattle.lload_spec.specs.Settings.{Settings}
use Rattle.lload_spec.specs.Operations.{is_request_of}
use Rattle.lload_spec.specs.Answers.{wants_identity}
use Rattle.lload_spec.specs.FirstCheck.{Check, Ends, Unbinds, Abandons, Refuses, Answers, Cancels, GoesOn, live_request, may_be_canceled}
use Rattle.lload_spec.specs.Pauses.{pause_letters, resume_letters, pause_behind}
use Rattle.lload_names.specs.declared.inputs.Input.{Input}
use Rattle.lload_names.specs.declared.inputs.Input.TheVariants.{Arrive, Message as MessageIn, LetterFrom, LinkGone, Stall, Flow}
use Rattle.lload_names.specs.declared.inputs.Effects.{Effects}
pub use Rattle.part_spec.specs.Inputs.{where_so}
use Rattle.part_spec.specs.Inputs.{Act, act, nothing, effects_of, moment_for, to}
use Rattle.part_spec.specs.ClientState.{ClientState, ClientRow, is_present, is_holding, is_bind_row, name_of, row_named, want_for, check_at, is_pinned, regular_connections, new_row, abandons}

-- the Drop of a live operation other than a Bind that was forwarded
abbrev pub drop_of : ClientState → ClientRow → List Posted
drop_of p r =
    elim (is_bind_row r) [
      | true ↦ []
      | false ↦ elim r.connection [ None ↦ [] | Some u ↦ to (Connection u) (Drop (name_of p r)) ]
    ]

-- the Drops of all of them, by rising number
abbrev pub drops : ClientState → List Posted
drops p = flat_map (drop_of p) p.rows

-- the Leave of the bind connection that the client holds
abbrev pub leave : ClientState → List Posted
leave p = elim p.hold [ None ↦ [] | Some h ↦ to (Connection h.connection) (Leave h.holder) ]

-- the letters at the end of all that it does: of its operations and its exchange
abbrev pub endings : ClientState → List Posted
endings p = drops p ++ leave p

-- the letters of a client that doesn't read: each regular connection that a live operation was forwarded to is paused,
-- by rising number
abbrev pub stall_letters : ClientState → List Posted
stall_letters p = pause_letters p.number (rising_once (regular_connections p))

-- each connection that it pauses is read again, by rising number
abbrev pub resumes : ClientState → List Posted
resumes p = resume_letters p.number p.pausing.paused

-- the letters of a client's end: each connection that it pauses is also read again
abbrev pub closing : ClientState → List Posted
closing p = endings p ++ resumes p

-- the Forward of an operation to a connection, for a holder
abbrev pub forward : Settings → ClientState → ClientRow → OpName → ℕ → List Posted
forward s p r holder u =
    elim (kind_of r.request.rest) [
      | None ↦ []
      | Some kind ↦ to (Connection u) (Forward (name_of p r) kind r.request.rest (wants_identity s r.request) holder)
    ]

-- what happens at a refusal of a request
abbrev pub refused : Message → Refusal → List What
refused m which = elim (kind_of m.rest) [ None ↦ [] | Some kind ↦ what.Out m.id (refusal kind which) ∷ [] ]

-- the protocol error notice, and the end for this reason
abbrev pub noticed : EndWhy → List What
noticed why = what.Out 0 protocol_error_notice ∷ what.Gone why ∷ []

-- the letter that asks the desk for a connection
abbrev pub asks : Settings → ClientState → ℕ → Message → List Posted
asks s p at m = to Desk (Ask (name_of p (new_row s p m)) (want_for s p at m))

-- the Forward of a Bind that goes on in an exchange
abbrev pub goes_on : Settings → ClientState → Message → List Posted
goes_on s p m = elim p.hold [ None ↦ [] | Some h ↦ forward s p (new_row s p m) h.holder h.connection ]

-- the letters of a Bind: it ends all other operations, and goes on in its exchange, or the desk is asked
abbrev pub binds : Settings → ClientState → ℕ → Message → List Posted
binds s p at m = drops p ++ elim (is_pinned s p m) [ true ↦ goes_on s p m | false ↦ asks s p at m ]

-- the letters at a refusal: a Bind, which is refused for its version, ends all other operations and the exchange
abbrev pub refusal_letters : ClientState → Message → List Posted
refusal_letters p m = elim (is_request_of Bind m) [ true ↦ endings p | false ↦ [] ]

-- what happens at an answer to a Cancel, or to the operation that it names
abbrev pub canceled : ℕ → Option OpKind → CancelAnswer → List What
canceled id None which = []
canceled id (Some kind) which = what.Out id (cancel_answer kind which) ∷ []

-- the Drop of the live operation that a Cancel ends
abbrev pub canceled_drop : ClientState → ℕ → List Posted
canceled_drop p id =
    elim (find (λ r. may_be_canceled id (live_request r.request)) p.rows) [ None ↦ [] | Some r ↦ drop_of p r ]

-- what happens directly behind the In of a message, by the first check that holds of it
abbrev pub whats_by : Message → Check → List What
whats_by m (Ends why) = noticed why
whats_by m Unbinds = what.Gone Left ∷ []
whats_by m (Abandons id) = []
whats_by m (Refuses which) = refused m which
whats_by m (Answers which) = canceled m.id (kind_of m.rest) which
whats_by m (Cancels id its_kind) = canceled id (Some its_kind) C13 ++ canceled m.id (kind_of m.rest) S1
whats_by m GoesOn = []

-- the Drop of the live operation that an Abandon names
abbrev pub abandoned_drop : ClientState → Message → List Posted
abandoned_drop p m = elim (find (abandons m) p.rows) [ None ↦ [] | Some r ↦ drop_of p r ]

-- the letters of a message, by the first check that holds of it
abbrev pub letters_by : Settings → ClientState → ℕ → Message → Check → List Posted
letters_by s p at m (Ends why) = closing p
letters_by s p at m Unbinds = closing p
letters_by s p at m (Abandons id) = abandoned_drop p m
letters_by s p at m (Refuses which) = refusal_letters p m
letters_by s p at m (Answers which) = []
letters_by s p at m (Cancels id its_kind) = canceled_drop p id
letters_by s p at m GoesOn = elim (is_request_of Bind m) [ true ↦ binds s p at m | false ↦ asks s p at m ]

-- what a message gives, by the first check that holds of it
abbrev pub by_check : Settings → ClientState → ℕ → Message → Check → Act
by_check s p at m found = act (what.In m.id m.rest ∷ whats_by m found) (letters_by s p at m found)

-- a message, while the client's part doesn't hold
abbrev pub message : Settings → ClientState → ℕ → Message → Act
message s p at m =
    elim (is_present p && not (is_holding s p)) [ false ↦ nothing | true ↦ by_check s p at m (check_at s p m) ]

-- the Pause behind a Forward to a regular connection, where the client is stalled
abbrev pub pause_at : ClientState → ClientRow → ℕ → List Posted
pause_at p r u = elim (is_bind_row r) [ true ↦ [] | false ↦ pause_behind p.number p.pausing u ]

-- what happens directly behind a choice: a live operation that gets no connection is refused
abbrev pub whats_for : Option ClientRow → Answer → List What
whats_for (Some r) Busy = refused r.request C1
whats_for (Some r) Unavailable = refused r.request C3
whats_for _ _ = []

-- the letters of a choice: a live operation goes to the connection, else this is returned
abbrev pub letters_for : Settings → ClientState → OpName → Option ClientRow → Answer → List Posted
letters_for s p op (Some r) (Go u b) = forward s p r op u ++ pause_at p r u
letters_for s p op None (Go u b) = to Desk (Returned op u)
letters_for s p op _ _ = []

-- a choice
abbrev pub choice : Settings → ClientState → OpName → Answer → Act
choice s p op answer =
    act (what.Chosen op answer ∷ whats_for (row_named p op) answer) (letters_for s p op (row_named p op) answer)

-- an answer, and a refusal: it goes out where the operation is live
abbrev pub answer : ClientState → OpName → List ℕ → Act
answer p op rest =
    elim (row_named p op) [ None ↦ act (what.Late op ∷ []) [] | Some r ↦ act (what.Out r.request.id rest ∷ []) [] ]

abbrev pub failure : ClientState → OpName → Refusal → Act
failure p op which =
    elim (row_named p op) [ None ↦ act (what.Late op ∷ []) [] | Some r ↦ act (refused r.request which) [] ]

-- a letter
abbrev pub letter : Settings → ClientState → Letter → Act
letter s p (Choice op a) = choice s p op a
letter s p (Reply op rest is_last who) = answer p op rest
letter s p (Failed op which) = failure p op which
letter s p _ = nothing

-- bytes that are no message, or one that is too big
abbrev pub link_gone : ClientState → EndWhy → Act
link_gone p Bad = act (noticed Bad) (closing p)
link_gone p TooBig = act (noticed TooBig) (closing p)
link_gone p _ = nothing

-- the client doesn't read
abbrev pub stalls : ClientState → Act
stalls p = act (what.Stalled ∷ []) (stall_letters p)

-- it reads again: so does each connection that it paused
abbrev pub flows : ClientState → Act
flows p = act (what.Flowing ∷ []) (resumes p)

-- what an input gives at a moment
abbrev pub client_act : Settings → ClientState → ℕ → Input → Act
client_act s p at (Arrive now) = where_so (not p.arrived) (act (what.Arrived ∷ []) [])
client_act s p at (MessageIn now id rest) = message s p at (record { id = id; rest = rest })
client_act s p at (LetterFrom now word sender l) = where_so p.arrived (letter s p l)
client_act s p at (LinkGone now why) = where_so (is_present p) (link_gone p why)
client_act s p at (Stall now) = where_so (is_present p && not p.pausing.stalled) (stalls p)
client_act s p at (Flow now) = where_so (is_present p && p.pausing.stalled) (flows p)
client_act s p at _ = nothing

-- what an input gives
abbrev pub client_turn : Settings → ClientState → Input → Effects
client_turn s p input =
    effects_of (Client p.number) (moment_for p.moment input) (client_act s p (moment_for p.moment input) input)

-- what the end of the link gives, for a reason that a link has
abbrev pub client_sever : ClientState → ℕ → EndWhy → Effects
client_sever p now why =
    effects_of (Client p.number) (max p.moment now) (where_so (is_present p) (act (what.Gone why ∷ []) (closing p)))
