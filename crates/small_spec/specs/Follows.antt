-- What the lines of a script do: a history follows its script where each line stands and made the entries of its form
-- (this project's own).
use Rattle.std.specs.Prelude.{◌≡◌, ℕ, suc, Bool, true, false, ◌==◌, ◌&&◌, not, if◌then◌else◌, List, [], ◌∷◌, ◌++◌, length, Option, Some, IsTrue}
use Rattle.std.specs.List.{list_any}
use Rattle.ldap_spec.specs.Messages.{Message}
use Rattle.ldap_spec.specs.Kinds.{kind_of}
use Rattle.ldap_spec.specs.Bodies.{refusal}
use Rattle.ldap_spec.specs.Framing.{IsStream}
use Rattle.ldap_spec.specs.Streams.{Reading, Whole, Short, Bad, TooBig, read}
use Rattle.lload_names.specs.declared.names.Entry.{Entry}
use Rattle.lload_names.specs.declared.names.OpName.{OpName}
use Rattle.lload_names.specs.declared.names.OpKind.{OpKind}
use Rattle.lload_names.specs.declared.names.Want.{Want}
use Rattle.lload_names.specs.declared.names.Answer.{Answer}
use Rattle.lload_names.specs.declared.names.Answer.TheVariants.{Go, Busy, Unavailable}
use Rattle.lload_names.specs.declared.names.Refusal.TheVariants.{C1, C3}
use Rattle.lload_names.specs.declared.names.Letter.{Letter}
use Rattle.lload_names.specs.declared.names.Letter.TheVariants.{Ended, IsUp}
use Rattle.lload_names.specs.declared.names.PartName.TheVariants.{Desk, Client, Up as Connection}
use Rattle.lload_names.specs.declared.names.What.TheVariants.{Arrived, In, Chosen, Out, Linked, Up, Sent, Got, Asked, Chose, Heard}
use Rattle.lload_names.specs.declared.command.Command.{Command}
use Rattle.lload_names.specs.declared.command.Command.TheVariants.{ClientArrives, ClientBytes, UpReady, UpBytes, Settle}
use Rattle.small_spec.specs.Lists.{passes}
use Rattle.small_spec.specs.Settings.{Settings}
use Rattle.small_spec.specs.Journal.{of_part, same_op}
use Rattle.small_spec.specs.Entries.{is_up, heard, sent_message}
use Rattle.small_spec.specs.Operations.{operations}
use Rattle.small_spec.specs.History.{Line, commands, journal, joined, Each, fed, moment, word, in_messages, got_messages}
use Rattle.small_spec.specs.Standing.{stands}

-- the messages that were taken are a prefix of those in the stream of the bytes that were fed
abbrev pub HasRead : ℕ → List ℕ → List Message → Type 0
HasRead limit bytes taken = (more : List Message) × (tail : List ℕ) × IsStream limit bytes (taken ++ more) tail

-- whether a reading says that more bytes are needed
abbrev pub is_short : Reading → Bool
is_short (Short needed) = true
is_short (Whole m behind) = false
is_short (Bad place) = false
is_short (TooBig size) = false

-- they are all of them, and what is left begins no message yet
abbrev pub HasReadAll : ℕ → List ℕ → List Message → Type 0
HasReadAll limit bytes taken = (tail : List ℕ) × IsStream limit bytes taken tail × IsTrue (is_short (read limit tail))

-- each part took a prefix of its messages, with the limit of its side
pub record EachHasRead (s : Settings) (cs : List Command) (J : List Entry) : Type 0 where
  pub clients : (n : ℕ) → HasRead s.max_incoming_client (fed (Client n) cs) (in_messages (of_part (Client n) J))
  pub connections : (n : ℕ) → HasRead s.max_incoming_upstream (fed (Connection n) cs) (got_messages (of_part (Connection n) J))

-- each part took all of its messages
pub record EachHasReadAll (s : Settings) (cs : List Command) (J : List Entry) : Type 0 where
  pub clients : (n : ℕ) → HasReadAll s.max_incoming_client (fed (Client n) cs) (in_messages (of_part (Client n) J))
  pub connections : (n : ℕ) → HasReadAll s.max_incoming_upstream (fed (Connection n) cs) (got_messages (of_part (Connection n) J))

-- whether a letter says that this connection is up
abbrev pub says_up : ℕ → Letter → Bool
says_up u (IsUp conn) = conn == u
says_up u _ = false

-- whether the desk has yet to hear that a connection is up
abbrev pub is_news : ℕ → List Entry → Bool
is_news u J = list_any (λ e. is_up e.what) (of_part (Connection u) J) && not (list_any (λ e. passes (says_up u) (heard e.what)) (of_part Desk J))

-- the refusal that tells the client of an answer without a connection
abbrev pub refused_for : OpKind → Answer → List ℕ
refused_for kind Busy = refusal kind C1
refused_for kind _ = refusal kind C3

-- what follows the choice: the request goes to the chosen connection unchanged, or it is refused
abbrev pub FollowsChoice : ℕ → OpName → Message → Answer → Entry → Type 0
FollowsChoice now op request (Go conn backend) last = (id : ℕ) × (last ≡ record { part = Connection conn; at = now; what = Sent id op request.rest })
FollowsChoice now op request Busy last = (kind : OpKind) × (kind_of request.rest ≡ Some kind) × (last ≡ record { part = Client op.client; at = now; what = Out request.id (refused_for kind Busy) })
FollowsChoice now op request Unavailable last = (kind : OpKind) × (kind_of request.rest ≡ Some kind) × (last ≡ record { part = Client op.client; at = now; what = Out request.id (refused_for kind Unavailable) })

-- a client's next operation at a place of the journal
abbrev pub next_operation : ℕ → List Entry → OpName
next_operation c J = record { client = c; k = suc (length (operations c (of_part (Client c) J))) }

-- a request and all that follows from it, letter by letter: it comes in, the desk is asked and chooses, the client
-- learns the choice, and what follows the choice
pub record IsRequestRound (now word : ℕ) (place round : List Entry) : Type 0 where
  pub client : ℕ
  pub request : Message
  pub want : Want
  pub answer : Answer
  pub last : Entry
  pub entries : round ≡ record { part = Client client; at = now; what = In request.id request.rest } ∷ record { part = Desk; at = now; what = Asked (next_operation client place) want } ∷ record { part = Desk; at = now; what = Chose (next_operation client place) answer word } ∷ record { part = Client client; at = now; what = Chosen (next_operation client place) answer } ∷ last ∷ []
  pub follows : FollowsChoice now (next_operation client place) request answer last

-- whether an operation was sent on a connection under this identifier
abbrev pub is_sent_as : ℕ → ℕ → OpName → List Entry → Bool
is_sent_as u id op J = list_any (λ e. passes (λ s. same_op op s.op && s.value.id == id) (sent_message e.what)) (of_part (Connection u) J)

-- what follows an answer that the upstream gave: nothing, where the operation has ended; else the desk hears that the
-- operation sent under the identifier ended, and its client gets the answer
abbrev pub FollowsAnswer : ℕ → ℕ → Message → List Entry → List Entry → Type 0
FollowsAnswer now u answer place [] = Unit {0}
FollowsAnswer now u answer place (told ∷ out ∷ []) = (op : OpName) × (latency : Option ℕ) × (id : ℕ) × IsTrue (is_sent_as u answer.id op place) × (told ≡ record { part = Desk; at = now; what = Heard (Ended op u latency) }) × (out ≡ record { part = Client op.client; at = now; what = Out id answer.rest })
FollowsAnswer now u answer place _ = ⊥

-- an answer and all that follows from it
pub record IsAnswerRound (now : ℕ) (place round : List Entry) : Type 0 where
  pub connection : ℕ
  pub answer : Message
  pub behind : List Entry
  pub entries : round ≡ record { part = Connection connection; at = now; what = Got answer.id answer.rest } ∷ behind
  pub follows : FollowsAnswer now connection answer place behind

-- what a settle made behind this journal: the desk heard that connection 1 is up, where this was news; then each
-- request that was fed, and then each answer, with all that follows from it, in the order in which they came
pub record IsSettling (now word : ℕ) (place piece : List Entry) : Type 0 where
  pub news : List Entry
  pub requests : List (List Entry)
  pub answers : List (List Entry)
  pub entries : piece ≡ news ++ (joined requests ++ joined answers)
  pub heard_news : news ≡ (if is_news 1 place then record { part = Desk; at = now; what = Heard (IsUp 1) } ∷ [] else [])
  pub each_request : Each (λ before round. IsRequestRound now word (place ++ (news ++ joined before)) round) requests
  pub each_answer : Each (λ before round. IsAnswerRound now (place ++ (news ++ (joined requests ++ joined before))) round) answers

-- what a command made behind these lines
abbrev pub Makes : Settings → List Line → Command → List Entry → Type 0
Makes s before (ClientArrives n) piece = piece ≡ record { part = Client n; at = moment (commands before); what = Arrived } ∷ []
Makes s before (ClientBytes n bytes) piece = piece ≡ []
Makes s before (UpReady n) piece = piece ≡ record { part = Connection n; at = moment (commands before); what = Linked } ∷ record { part = Connection n; at = moment (commands before); what = Up } ∷ []
Makes s before (UpBytes n bytes) piece = piece ≡ []
Makes s before Settle piece = IsSettling (moment (commands before)) (word (commands before)) (journal before) piece × EachHasReadAll s (commands before) (journal before ++ piece)
Makes s before _ piece = ⊥

-- a line that stands where it is, made what its command makes, and left each part with a prefix of its messages taken
pub record Obeys (s : Settings) (before : List Line) (line : Line) : Type 0 where
  pub stood : IsTrue (stands s before line.command)
  pub made : Makes s before line.command line.piece
  pub read : EachHasRead s (commands before ++ line.command ∷ []) (journal before ++ line.piece)

-- the history follows its script: each line obeys where it stands
abbrev pub Follows : Settings → List Line → Type 0
Follows s history = Each (Obeys s) history
