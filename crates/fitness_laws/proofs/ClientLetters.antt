-- The letters to a client are fit.
use Rattle.std.proofs.Common.{◌≡◌, ℕ, true, false, ◌&&◌, not, if◌then◌else◌, List, [], ◌∷◌, Some, None, ap, ◌∙◌}
use Rattle.lload_names.specs.declared.names.Letter.{Letter}
use Rattle.lload_names.specs.declared.names.PartName.TheVariants.{Desk, Up as Connection}
use Rattle.lload_spec.specs.Lists.{passes}
use Rattle.lload_spec.specs.Settings.{Settings}
use Rattle.part_spec.specs.ClientState.{AskedFor}
use Rattle.part_spec.specs.Fit.{ClientLedger, Expected, answers, fits_client, is_choice_for, is_known, is_loss}
use Rattle.move_laws.specs.World.{Client, ToChooser, ToClient, at}
use Rattle.move_laws.specs.World as machine
use Rattle.move_laws.specs.Fit.{FitAnswer, FitChoice}
use Rattle.stands_laws.specs.Lists.{FirstIs}
use Rattle.stands_laws.specs.Books.{Book}
use Rattle.stands_laws.specs.Letters.{AnswerIs, ChoiceIs}
use Rattle.stands_laws.specs.ClientStands.{ClientStands, asked_for, expected_at, kinds_of}

pub choice_fits : (s : Settings) (b : Book) (c : ℕ) (l : ClientLedger) (x : Client) (letter : Letter) (q : List ToChooser) → ClientStands s b c l x → FirstIs (ChoiceIs s b c) letter q → FitChoice (kinds_of s b) c x q → fits_client s l Desk letter ≡ true
choice_fits s b c l x letter [] h i f = absurd i
choice_fits s b c l x letter (machine.Choice k a ∷ ls) h i f =
    ap (fits_client s l Desk) i.is
    ∙ (ap (passes (λ (z : AskedFor). is_choice_for s z.kind i.answer)) (h.asked k ∙ (λ j. if f.0 j && not (f.1 j) then Some (asked_for b c k) else None)) ∙ i.right)

expected_here : (s : Settings) (b : Book) (c k u : ℕ) (x : Client) → at (x.given k) u ≡ true → x.closed k u ≡ false → (if at (x.given k) u && not (x.closed k u) then Some (expected_at b c k u) else None) ≡ Some (expected_at b c k u)
expected_here s b c k u x g e = λ i. if g i && not (e i) then Some (expected_at b c k u) else None

pub answer_fits : (s : Settings) (b : Book) (c u : ℕ) (l : ClientLedger) (x : Client) (letter : Letter) (q : List ToClient) → ClientStands s b c l x → FirstIs (AnswerIs s b c) letter q → FitAnswer u x q → fits_client s l (Connection u) letter ≡ true
answer_fits s b c u l x letter [] h i f = absurd i
answer_fits s b c u l x letter (machine.Reply k last stay ∷ ls) h i f =
    ap (fits_client s l (Connection u)) i.is
    ∙ (ap (passes (λ (z : Expected). answers z.request i.rest last && is_known s z.request i.rest i.who)) (h.expected k u ∙ expected_here s b c k u x f.0 f.1) ∙ (λ j. i.answers j && i.known j))
answer_fits s b c u l x letter (machine.Failed k ∷ ls) h i f =
    ap (fits_client s l (Connection u)) i.is
    ∙ (ap (passes (λ (z : Expected). is_loss s z.request i.which)) (h.expected k u ∙ expected_here s b c k u x f.0 f.1) ∙ i.loss)
