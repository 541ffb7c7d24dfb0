-- What is promised of one operation, for the reader who trusts no test: said with equations of lists, over what came in,
-- what went up, what was answered there and what the client got.
use Rattle.std.specs.Prelude.{◌≡◌, ◌⊎◌, ℕ, ◌≤◌, true, not, List, [], ◌∷◌, ◌++◌, length, Some, None}
use Rattle.std.specs.List.{list_all}
use Rattle.ldap_spec.specs.Kinds.{kind_of}
use Rattle.ldap_spec.specs.Bodies.{refusal, cancel_answer}
use Rattle.lload_names.specs.declared.names.Entry.{Entry}
use Rattle.lload_names.specs.declared.names.OpKind.{OpKind}
use Rattle.lload_names.specs.declared.names.OpName.{OpName}
use Rattle.lload_names.specs.declared.names.Refusal.{Refusal}
use Rattle.lload_names.specs.declared.names.CancelAnswer.{CancelAnswer}
use Rattle.lload_names.specs.declared.names.What.{What}
use Rattle.lload_names.specs.declared.names.What.TheVariants as what
use Rattle.lload_spec.specs.Settings.{Settings}
use Rattle.lload_spec.specs.Journal.{Family, IsWhole}
use Rattle.lload_spec.specs.Operations.{Operation, operation, is_final_to, is_out_for, outs, ending_from}
use Rattle.lload_spec.specs.Answers.{Sending, all_sendings, sendings_of, answers}
use Rattle.lload_spec.specs.Fifo.{is_refused_with}
use Rattle.lload_spec.specs.Identity.{carried}
use Rattle.lload_spec.specs.Caused.{has_cause}
use Rattle.lload_spec.specs.Good.{Good}

-- an element stands in a list
pub record StandsIn {A : Type 0} (x : A) (xs : List A) : Type 0 where
  pub before : List A
  pub behind : List A
  pub split : xs ≡ before ++ x ∷ behind

-- a list begins with another
pub record BeginsWith (whole beginning : List (List ℕ)) : Type 0 where
  pub rest : List (List ℕ)
  pub joined : whole ≡ beginning ++ rest

-- a rest is the refusal of a request, by one of the named refusals
pub record IsRefusal (request rest : List ℕ) : Type 0 where
  pub kind : OpKind
  pub which : Refusal
  pub of_kind : kind_of request ≡ Some kind
  pub text : rest ≡ refusal kind which

-- or an answer to a Cancel, or to what it canceled
pub record IsCancelAnswer (request rest : List ℕ) : Type 0 where
  pub kind : OpKind
  pub which : CancelAnswer
  pub of_kind : kind_of request ≡ Some kind
  pub text : rest ≡ cancel_answer kind which

-- what a client got begins with answers, none of them final, and ends with one answer of the proxy's own
pub record EndsWithOwn (request : List ℕ) (answers got : List (List ℕ)) : Type 0 where
  pub passed_on : List (List ℕ)
  pub own : List ℕ
  pub both : got ≡ passed_on ++ own ∷ []
  pub in_order : BeginsWith answers passed_on
  pub not_final : list_all (λ r. not (is_final_to request r)) passed_on ≡ true
  pub named : IsRefusal request own ⊎ IsCancelAnswer request own

-- what a client may get for a request to which these are the answers: a beginning of them, in order, each once and octet
-- for octet; or such a beginning and one answer of the proxy's own
abbrev pub GotOf : List ℕ → List (List ℕ) → List (List ℕ) → Type 0
GotOf request answers got = BeginsWith answers got ⊎ EndsWithOwn request answers got

-- these rests stand in entries, in order: each in one that says so of it, behind those before
abbrev pub InOrder : (List ℕ → What → Type 0) → List (List ℕ) → List Entry → Type 0
InOrder Says [] es = Unit {0}
InOrder Says (r ∷ rs) [] = ⊥
InOrder Says (r ∷ rs) (e ∷ es) = (Says r e.what × InOrder Says rs es) ⊎ InOrder Says (r ∷ rs) es

-- an operation's request came in at this place of its client's list
pub record CameIn (list : List Entry) (o : Operation) : Type 0 where
  pub entry : Entry
  pub says : entry.what ≡ what.In o.request.id o.request.rest
  pub split : list ≡ o.before ++ entry ∷ o.behind

-- it went up at this place of a connection's list
pub record WentUp (list : List Entry) (sent : Sending) : Type 0 where
  pub entry : Entry
  pub says : entry.what ≡ what.Sent sent.id sent.op sent.rest
  pub split : list ≡ sent.before ++ entry ∷ sent.behind

-- what was answered to it there, and what its client got for it
pub record Answered (F : Family) (o : Operation) (sent : Sending) : Type 0 where
  pub went_up : WentUp (F.connection sent.connection) sent
  -- the answers came from the upstream under the identifier that it went up with, behind that, in order
  pub came_back : InOrder (λ rest w. w ≡ what.Got sent.id rest) (answers o sent) sent.behind
  pub got : GotOf o.request.rest (answers o sent) (outs o)

-- what is promised of one operation
pub record Headline (s : Settings) (F : Family) (op : OpName) (o : Operation) : Type 0 where
  -- its request came in
  pub came_in : CameIn (F.client op.client) o
  -- what its client got stands in the client's list, under the identifier of the request, behind that, in order
  pub got : InOrder (λ rest w. w ≡ what.Out o.request.id rest) (outs o) o.behind
  -- it is Sent at most once, over all connections
  pub sent_once : length (sendings_of F op) ≤ 1
  -- where it was Sent, its client got what may come of the answers there
  pub answered : (sent : Sending) → StandsIn sent (all_sendings F) → sent.op ≡ op → Answered F o sent
  -- where it wasn't, it got nothing, or one answer of the proxy's own
  pub unanswered : sendings_of F op ≡ [] → GotOf o.request.rest [] (outs o)
  -- what was Sent carries the identity of its own client, by the client's last Bind
  pub carries : (sent : Sending) → StandsIn sent (all_sendings F) → sent.op ≡ op → sent.rest ≡ carried s F o
  -- nothing goes to the client for it behind its end
  pub ended : (since : List Entry) (e : Entry) (later : List Entry) → o.behind ≡ since ++ e ∷ later
      → is_out_for o.request since e ≡ true → ending_from o.request [] since ≡ None
  -- and each refusal that it got has its cause
  pub caused : (which : Refusal) → is_refused_with F which o ≡ true → has_cause s F o which ≡ true

-- where a family is whole and keeps the six promises, the headline holds of each operation of each client
abbrev pub HeadlineLaw : Type 0
HeadlineLaw =
    (s : Settings) (F : Family) (op : OpName) (o : Operation) → IsWhole F → Good s F → operation F op ≡ Some o
    → Headline s F op o
