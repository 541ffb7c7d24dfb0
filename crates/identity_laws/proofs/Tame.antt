-- The proxy's own answers tell no Bind a success.
use Rattle.std.proofs.Common.{◌≡◌, ℕ, Bool, true, false, ◌&&◌, not, List, [], ◌∷◌, refl, ap}
use Rattle.std.specs.Prelude.{Option, Some, None}
use Rattle.std.specs.List.{list_all}
use Rattle.ldap_spec.specs.Bodies.{cancel_answer, refusal}
use Rattle.ldap_spec.specs.Kinds.{is_final, kind_of, same_kind}
use Rattle.ldap_spec.specs.Messages.{Message}
use Rattle.ldap_spec.specs.Responses.{has_code}
use Rattle.lload_names.specs.declared.names.Answer.{Answer}
use Rattle.lload_names.specs.declared.names.Answer.TheVariants.{Go, Busy, Unavailable}
use Rattle.lload_names.specs.declared.names.CancelAnswer.{CancelAnswer}
use Rattle.lload_names.specs.declared.names.OpKind.{OpKind}
use Rattle.lload_names.specs.declared.names.OpKind.TheVariants.{Bind, Search, Modify, Add, Delete, ModifyDn, Compare, Extended}
use Rattle.lload_names.specs.declared.names.Refusal.{Refusal}
use Rattle.lload_names.specs.declared.names.Refusal.TheVariants.{C1, C2, C3, C4, C5, C6, C7, C8, C9, C10, C11}
use Rattle.lload_names.specs.declared.names.What.{What}
use Rattle.lload_names.specs.declared.names.What.TheVariants as what
use Rattle.lload_spec.specs.Entries.{out_message}
use Rattle.part_spec.specs.ClientState.{ClientRow}
use Rattle.part_spec.specs.ClientTurn.{canceled, refused, whats_for}

-- whether an answer is no success of a Bind
abbrev pub is_tame_answer : List ℕ → Bool
is_tame_answer rest = not (is_final Bind rest && has_code 0 rest)

-- and so an entry, where it is an Out
abbrev pub is_tame : What → Bool
is_tame w = elim (out_message w) [ None ↦ true | Some m ↦ is_tame_answer m.rest ]

refused_bind : (which : Refusal) → is_tame_answer (refusal Bind which) ≡ true
refused_bind C1 = refl
refused_bind C2 = refl
refused_bind C3 = refl
refused_bind C4 = refl
refused_bind C5 = refl
refused_bind C6 = refl
refused_bind C7 = refl
refused_bind C8 = refl
refused_bind C9 = refl
refused_bind C10 = refl
refused_bind C11 = refl

pub refusal_tame : (kind : OpKind) (which : Refusal) → is_tame_answer (refusal kind which) ≡ true
refusal_tame Bind which = refused_bind which
refusal_tame Search which = refl
refusal_tame Modify which = refl
refusal_tame Add which = refl
refusal_tame Delete which = refl
refusal_tame ModifyDn which = refl
refusal_tame Compare which = refl
refusal_tame Extended which = refl

pub cancel_tame : (kind : OpKind) (which : CancelAnswer) → same_kind Bind kind ≡ false → is_tame_answer (cancel_answer kind which) ≡ true
cancel_tame Bind which h = absurd (let bad : true ≡ false = h in cc)
cancel_tame Search which h = refl
cancel_tame Modify which h = refl
cancel_tame Add which h = refl
cancel_tame Delete which h = refl
cancel_tame ModifyDn which h = refl
cancel_tame Compare which h = refl
cancel_tame Extended which h = refl

pub refused_tame : (m : Message) (which : Refusal) → list_all is_tame (refused m which) ≡ true
refused_tame m which = by (kind_of m.rest)
  where
    outs_of : Option OpKind → List What
    outs_of o = elim o [ None ↦ [] | Some kind ↦ what.Out m.id (refusal kind which) ∷ [] ]

    by : (o : Option OpKind) → list_all is_tame (outs_of o) ≡ true
    by None = refl
    by (Some kind) = ap (λ b. b && true) (refusal_tame kind which)

pub canceled_tame : (id : ℕ) (o : Option OpKind) (which : CancelAnswer) → ((kind : OpKind) → o ≡ Some kind → same_kind Bind kind ≡ false) → list_all is_tame (canceled id o which) ≡ true
canceled_tame id None which h = refl
canceled_tame id (Some kind) which h = ap (λ b. b && true) (cancel_tame kind which (h kind refl))

pub choice_tame : (o : Option ClientRow) (a : Answer) → list_all is_tame (whats_for o a) ≡ true
choice_tame (Some r) Busy = refused_tame r.request C1
choice_tame (Some r) Unavailable = refused_tame r.request C3
choice_tame (Some r) (Go u b) = refl
choice_tame None (Go u b) = refl
choice_tame None Busy = refl
choice_tame None Unavailable = refl
