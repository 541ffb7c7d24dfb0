-- What a letter of the parts is, by the letter of the machine that stands for it: the machine's tells which letter it is,
-- and the book what is in it.
use Rattle.std.specs.Prelude.{◌≡◌, ℕ, Bool, true, false, ◌==◌, not, List, Option, Some}
use Rattle.ldap_spec.specs.Kinds.{kind_of}
use Rattle.ldap_spec.specs.Responses.{has_code}
use Rattle.lload_names.specs.declared.names.Answer.{Answer}
use Rattle.lload_names.specs.declared.names.Letter.{Letter}
use Rattle.lload_names.specs.declared.names.Letter.TheVariants as real
use Rattle.lload_names.specs.declared.names.OpKind.{OpKind}
use Rattle.lload_names.specs.declared.names.Refusal.{Refusal}
use Rattle.lload_names.specs.declared.names.Want.{Want}
use Rattle.lload_spec.specs.Answers.{wants_identity}
use Rattle.lload_spec.specs.Binding.{kind_wanted}
use Rattle.lload_spec.specs.Settings.{Settings}
use Rattle.part_spec.specs.Fit.{answers, going_to, is_choice_for, is_known, is_loss}
use Rattle.move_laws.specs.World.{ToDesk, Ask, Returned, ToChooser, Choice, ToConn, Forward, Drop, Leave, Signal, ToClient, Reply, Failed, Report, Ended, IsUp, IsRetired, IsDown}
use Rattle.stands_laws.specs.Books.{Book, name, is_bind_op}

-- A client's letter to the desk.
pub record IsAsk (b : Book) (c k : ℕ) (l : Letter) : Type 0 where
  pub want : Want
  pub is : l ≡ real.Ask (name c k) want
  pub kind : want.kind ≡ kind_wanted (b.request c k)

abbrev pub AskIs : Book → ℕ → Letter → ToDesk → Type 0
AskIs b c l (Ask k) = IsAsk b c k l
AskIs b c l (Returned k u) = l ≡ real.Returned (name c k) u

-- The desk's letter to a client.
pub record IsChoice (s : Settings) (b : Book) (c k : ℕ) (a : Option ℕ) (l : Letter) : Type 0 where
  pub answer : Answer
  pub is : l ≡ real.Choice (name c k) answer
  pub going : going_to answer ≡ a
  pub right : is_choice_for s (kind_wanted (b.request c k)) answer ≡ true

abbrev pub ChoiceIs : Settings → Book → ℕ → Letter → ToChooser → Type 0
ChoiceIs s b c l (Choice k a) = IsChoice s b c k a l

-- A client's letter to a connection: a Forward is under another operation where it goes on in an exchange.
pub record IsForward (s : Settings) (b : Book) (c k h : ℕ) (l : Letter) : Type 0 where
  pub kind : OpKind
  pub is : l ≡ real.Forward (name c k) kind (b.request c k).rest (wants_identity s (b.request c k)) (name c h)
  pub known : kind_of (b.request c k).rest ≡ Some kind
  pub pinned : b.pinned c k ≡ not (h == k)

abbrev pub signal_of : ℕ → Bool → Letter
signal_of c true = real.Pause c
signal_of c false = real.Resume c

abbrev pub OrderIs : Settings → Book → ℕ → Letter → ToConn → Type 0
OrderIs s b c l (Forward k h) = IsForward s b c k h l
OrderIs s b c l (Drop k) = l ≡ real.Drop (name c k)
OrderIs s b c l (Leave h) = l ≡ real.Leave (name c h)
OrderIs s b c l (Signal pause) = l ≡ signal_of c pause

-- A connection's letter to a client; whether the holder stays isn't in the letter, but in its content.
pub record IsReply (s : Settings) (b : Book) (c k : ℕ) (last stay : Bool) (l : Letter) : Type 0 where
  pub rest : List ℕ
  pub who : Option (List ℕ)
  pub is : l ≡ real.Reply (name c k) rest last who
  pub answers : answers (b.request c k) rest last ≡ true
  pub known : is_known s (b.request c k) rest who ≡ true
  pub stays : is_bind_op b c k ≡ true → last ≡ true → has_code 14 rest ≡ stay

pub record IsFailed (s : Settings) (b : Book) (c k : ℕ) (l : Letter) : Type 0 where
  pub which : Refusal
  pub is : l ≡ real.Failed (name c k) which
  pub loss : is_loss s (b.request c k) which ≡ true

abbrev pub AnswerIs : Settings → Book → ℕ → Letter → ToClient → Type 0
AnswerIs s b c l (Reply k last stay) = IsReply s b c k last stay l
AnswerIs s b c l (Failed k) = IsFailed s b c k l

-- A connection's letter to the desk.
pub record IsEnded (u c k : ℕ) (l : Letter) : Type 0 where
  pub latency : Option ℕ
  pub is : l ≡ real.Ended (name c k) u latency

abbrev pub ReportIs : ℕ → Letter → Report → Type 0
ReportIs u l (Ended c k) = IsEnded u c k l
ReportIs u l IsUp = l ≡ real.IsUp u
ReportIs u l IsRetired = l ≡ real.IsRetired u
ReportIs u l IsDown = l ≡ real.IsDown u
