-- What holds of each Out holds of all that is told behind a choice, a refusal or the answer to a Cancel.
use Rattle.std.proofs.Common.{◌≡◌, ℕ, Bool, true, List, [], ◌∷◌, refl}
use Rattle.std.specs.Prelude.{Option, Some, None}
use Rattle.std.specs.List.{list_all}
use Rattle.ldap_spec.specs.Messages.{Message}
use Rattle.ldap_spec.specs.Kinds.{kind_of}
use Rattle.ldap_spec.specs.Bodies.{refusal, cancel_answer}
use Rattle.lload_names.specs.declared.names.OpKind.{OpKind}
use Rattle.lload_names.specs.declared.names.Answer.{Answer}
use Rattle.lload_names.specs.declared.names.Answer.TheVariants.{Go, Busy, Unavailable}
use Rattle.lload_names.specs.declared.names.CancelAnswer.{CancelAnswer}
use Rattle.lload_names.specs.declared.names.Refusal.{Refusal}
use Rattle.lload_names.specs.declared.names.Refusal.TheVariants.{C1, C3}
use Rattle.lload_names.specs.declared.names.What.{What}
use Rattle.lload_names.specs.declared.names.What.TheVariants as what
use Rattle.part_spec.specs.ClientState.{ClientRow}
use Rattle.part_spec.specs.ClientTurn.{refused, canceled, whats_for}
use Rattle.lload_spec.proofs.Growth.{both}

module _ (q : What → Bool) (out : (id : ℕ) (rest : List ℕ) → q (what.Out id rest) ≡ true) where
  pub refused_all : (m : Message) (which : Refusal) → list_all q (refused m which) ≡ true
  refused_all m which = by (kind_of m.rest)
    where
      outs_of : Option OpKind → List What
      outs_of o = elim o [ None ↦ [] | Some kind ↦ what.Out m.id (refusal kind which) ∷ [] ]

      by : (o : Option OpKind) → list_all q (outs_of o) ≡ true
      by None = refl
      by (Some kind) = both (q (what.Out m.id (refusal kind which))) true (out m.id (refusal kind which)) refl

  pub canceled_all : (id : ℕ) (o : Option OpKind) (which : CancelAnswer) → list_all q (canceled id o which) ≡ true
  canceled_all id None which = refl
  canceled_all id (Some kind) which = both (q (what.Out id (cancel_answer kind which))) true (out id (cancel_answer kind which)) refl

  pub choice_all : (o : Option ClientRow) (a : Answer) → list_all q (whats_for o a) ≡ true
  choice_all (Some r) Busy = refused_all r.request C1
  choice_all (Some r) Unavailable = refused_all r.request C3
  choice_all (Some r) (Go u b) = refl
  choice_all None (Go u b) = refl
  choice_all None Busy = refl
  choice_all None Unavailable = refl
