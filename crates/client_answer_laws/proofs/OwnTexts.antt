-- Different answers of the proxy's own differ, whatever kind of request they are to: by their diagnostic messages.
use Rattle.std.proofs.Common.{◌≡◌, ℕ, List, ◌∷◌, refl, ap, ◌∙◌, sym}
use Rattle.std.specs.Prelude.{Option, Some, None, find, drop}
use Rattle.std.specs.Str.{bytes_eq}
use Rattle.ldap_spec.specs.Bodies.{refusal, refusal_text, cancel_answer, cancel_text}
use Rattle.lload_names.specs.declared.names.OpKind.{OpKind}
use Rattle.lload_names.specs.declared.names.Refusal.{Refusal}
use Rattle.lload_names.specs.declared.names.Refusal.TheVariants.{C1, C2, C3, C4, C5, C6, C7, C8, C9, C10, C11}
use Rattle.lload_names.specs.declared.names.CancelAnswer.{CancelAnswer}
use Rattle.lload_names.specs.declared.names.CancelAnswer.TheVariants.{S1, C13, C14, C15, C16}
use Rattle.lload_spec.specs.Fifo.{refusals, cancel_answers}

-- the diagnostic message of an answer: behind its tag and length, the code, and an empty matched name
abbrev message : List ℕ → List ℕ
message answer = drop 9 answer

-- the refusal with this diagnostic message, and the answer to a Cancel
abbrev refusal_read : List ℕ → Option Refusal
refusal_read answer = find (λ w. bytes_eq (message answer) (refusal_text w)) refusals

abbrev cancel_read : List ℕ → Option CancelAnswer
cancel_read answer = find (λ w. bytes_eq (message answer) (cancel_text w)) (C13 ∷ cancel_answers)

reads_refusal : (kind : OpKind) (which : Refusal) → refusal_read (refusal kind which) ≡ Some which
reads_refusal kind C1 = refl
reads_refusal kind C2 = refl
reads_refusal kind C3 = refl
reads_refusal kind C4 = refl
reads_refusal kind C5 = refl
reads_refusal kind C6 = refl
reads_refusal kind C7 = refl
reads_refusal kind C8 = refl
reads_refusal kind C9 = refl
reads_refusal kind C10 = refl
reads_refusal kind C11 = refl

reads_cancel : (kind : OpKind) (which : CancelAnswer) → cancel_read (cancel_answer kind which) ≡ Some which
reads_cancel kind S1 = refl
reads_cancel kind C13 = refl
reads_cancel kind C14 = refl
reads_cancel kind C15 = refl
reads_cancel kind C16 = refl

reads_none : (kind : OpKind) (which : CancelAnswer) → refusal_read (cancel_answer kind which) ≡ None
reads_none kind S1 = refl
reads_none kind C13 = refl
reads_none kind C14 = refl
reads_none kind C15 = refl
reads_none kind C16 = refl

pub one_refusal : (a b : OpKind) (v w : Refusal) → refusal a v ≡ refusal b w → v ≡ w
one_refusal a b v w e = let same : Some v ≡ Some w = sym (reads_refusal a v) ∙ ap refusal_read e ∙ reads_refusal b w in cc

pub one_cancel : (a b : OpKind) (v w : CancelAnswer) → cancel_answer a v ≡ cancel_answer b w → v ≡ w
one_cancel a b v w e = let same : Some v ≡ Some w = sym (reads_cancel a v) ∙ ap cancel_read e ∙ reads_cancel b w in cc

pub apart : {C : Type 0} (a b : OpKind) (v : Refusal) (w : CancelAnswer) → refusal a v ≡ cancel_answer b w → C
apart a b v w e = absurd (let bad : Some v ≡ None = sym (reads_refusal a v) ∙ ap refusal_read e ∙ reads_none b w in cc)
