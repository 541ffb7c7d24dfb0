-- What a check that answers a request knows of it.
use Rattle.std.proofs.Common.{◌≡◌, ℕ, Bool, true, false, not, ◌==◌, ◌&&◌, if◌then◌else◌, List, [], ◌∷◌, find, Option, Some, None, arith, refl, ap, sym, ◌∙◌}
use Rattle.std.proofs.lemmas.Bool.Decides.{nat_tests}
use Rattle.std.specs.Prelude.{is_none, is_some}
use Rattle.std.specs.Str.{bytes_eq}
use Rattle.ldap_spec.specs.Bodies.{cancel_answer, refusal}
use Rattle.ldap_spec.specs.Controls.{controls, start_tls, cancel_name}
use Rattle.ldap_spec.specs.Kinds.{kind_of, kind_of_tag, tag_of, is_final, response_tag}
use Rattle.ldap_spec.specs.Messages.{Message}
use Rattle.ldap_spec.specs.Requests.{Request, BindRequest, UnbindRequest, AbandonRequest, ExtendedRequest, PlainRequest, request, cancel_id}
use Rattle.ldap_spec.specs.Tags.{bind_version}
use Rattle.lload_names.specs.declared.names.CancelAnswer.{CancelAnswer}
use Rattle.lload_names.specs.declared.names.EndWhy.TheVariants.{ZeroId, IdInUse, Unreadable}
use Rattle.lload_names.specs.declared.names.OpKind.{OpKind}
use Rattle.lload_names.specs.declared.names.OpKind.TheVariants.{Bind, Extended}
use Rattle.lload_names.specs.Same.{same_kind}
use Rattle.lload_names.specs.declared.names.What.{What}
use Rattle.lload_names.specs.declared.names.What.TheVariants as what
use Rattle.lload_spec.specs.Lists.{passes}
use Rattle.part_spec.specs.ClientTurn.{canceled, refused, refusal_letters, endings}
use Rattle.lload_names.specs.declared.names.Refusal.{Refusal}
use Rattle.lload_names.specs.declared.names.Refusal.TheVariants.{C2, C6, C7, C8, C10, C11}
use Rattle.lload_spec.specs.Binding.{action, is_action}
use Rattle.lload_spec.specs.Entries.{makes_operation}
use Rattle.lload_spec.specs.FirstCheck.{Check, Ends, Unbinds, Abandons, Refuses, Answers, Cancels, GoesOn, is_in_use, is_proxied_already, is_full, check_cancel, check_named, check_request}
use Rattle.lload_spec.specs.Settings.{Settings, Reject}
use Rattle.part_spec.specs.ClientState.{ClientState, facts_of, check_at}
use Rattle.client_laws.proofs.ClientCancels.{is_ext, ext_tag}

abbrev is_answer : Check → Bool
is_answer (Answers which) = true
is_answer _ = false

-- a Cancel alone is answered
pub answered-extended : (s : Settings) (p : ClientState) (m : Message) (which : CancelAnswer) → check_at s p m ≡ Answers which → kind_of m.rest ≡ Some Extended
answered-extended s p m which e = by (m.id == 0) (makes_operation m && is_in_use (facts_of p) m.id) (request m.rest) refl (ap is_answer e)
  where
    of_tag : is_ext (request m.rest) ≡ true → kind_of m.rest ≡ Some Extended
    of_tag x = let t : tag_of m.rest ≡ 0x77 = let h = ext_tag m.rest x in grind (arith, nat_tests, h) in ap kind_of_tag t

    version : {C : Type 0} (b : Bool) → is_answer (if b then GoesOn else Refuses C11) ≡ true → C
    version true k = absurd (let bad : false ≡ true = k in cc)
    version false k = absurd (let bad : false ≡ true = k in cc)

    plain : {C : Type 0} (a b x y z : Bool) → is_answer (if a then Ends Unreadable else if b then Refuses C7 else if x then Refuses C8 else if y then Refuses C6 else if z then Refuses C2 else GoesOn) ≡ true → C
    plain true b x y z k = absurd (let bad : false ≡ true = k in cc)
    plain false true x y z k = absurd (let bad : false ≡ true = k in cc)
    plain false false true y z k = absurd (let bad : false ≡ true = k in cc)
    plain false false false true z k = absurd (let bad : false ≡ true = k in cc)
    plain false false false false true k = absurd (let bad : false ≡ true = k in cc)
    plain false false false false false k = absurd (let bad : false ≡ true = k in cc)

    by : (z b : Bool) (o : Option Request) → request m.rest ≡ o → is_answer (if z then Ends ZeroId else if b then Ends IdInUse else check_request s (facts_of p) m o) ≡ true → kind_of m.rest ≡ Some Extended
    by true b o r k = absurd (let bad : false ≡ true = k in cc)
    by false true o r k = absurd (let bad : false ≡ true = k in cc)
    by false false None r k = absurd (let bad : false ≡ true = k in cc)
    by false false (Some UnbindRequest) r k = absurd (let bad : false ≡ true = k in cc)
    by false false (Some (AbandonRequest i)) r k = absurd (let bad : false ≡ true = k in cc)
    by false false (Some (BindRequest v name method)) r k = version (v == bind_version) k
    by false false (Some (ExtendedRequest name)) r k = of_tag (ap is_ext r)
    by false false (Some (PlainRequest kind)) r k = plain (is_none (controls m.rest)) p.in_exchange (is_proxied_already s (facts_of p) m.rest) (is_action Reject (action s m.rest)) (is_full s (facts_of p)) k

same-tag : (t : ℕ) → (t == t) ≡ true
same-tag t = grind (arith, nat_tests)

-- what the proxy answers itself is final
pub cancel-final : (kind : OpKind) (which : CancelAnswer) → is_final kind (cancel_answer kind which) ≡ true
cancel-final kind which = same-tag (response_tag kind)

pub refusal-final : (kind : OpKind) (which : Refusal) → is_final kind (refusal kind which) ≡ true
refusal-final kind which = same-tag (response_tag kind)

-- what happens at an answer, by the kind of its request
pub answered-whats : (m : Message) (kind : OpKind) (which : CancelAnswer) (rest : List ℕ) → kind_of m.rest ≡ Some kind → rest ≡ cancel_answer kind which → ◌≡◌ {A = List What} (what.In m.id m.rest ∷ what.Out m.id rest ∷ []) (what.In m.id m.rest ∷ canceled m.id (kind_of m.rest) which)
answered-whats m kind which rest its is = ap (λ r. what.In m.id m.rest ∷ what.Out m.id r ∷ []) is ∙ ap (λ o. what.In m.id m.rest ∷ canceled m.id o which) (sym its)

pub refused-whats : (m : Message) (kind : OpKind) (which : Refusal) (rest : List ℕ) → kind_of m.rest ≡ Some kind → rest ≡ refusal kind which → ◌≡◌ {A = List What} (what.In m.id m.rest ∷ what.Out m.id rest ∷ []) (what.In m.id m.rest ∷ refused m which)
refused-whats m kind which rest its is = ap (λ r. what.In m.id m.rest ∷ what.Out m.id r ∷ []) is ∙ ap (λ o. what.In m.id m.rest ∷ elim o [ None ↦ [] | Some k ↦ what.Out m.id (refusal k which) ∷ [] ]) (sym its)

pub bind-letters : (p : ClientState) (m : Message) (kind : OpKind) (b : Bool) → kind_of m.rest ≡ Some kind → same_kind Bind kind ≡ b → elim b [ true ↦ endings p | false ↦ [] ] ≡ refusal_letters p m
bind-letters p m kind b its is = sym (ap (λ o. elim (passes (same_kind Bind) o) [ true ↦ endings p | false ↦ [] ]) its ∙ ap (λ x. elim x [ true ↦ endings p | false ↦ [] ]) is)

pub is-bind : (kind : OpKind) → same_kind Bind kind ≡ true → kind ≡ Bind
is-bind Bind e = refl
is-bind _ e = absurd (let bad : false ≡ true = e in cc)

pub no-kind : {C : Type 0} (rest : List ℕ) → kind_of rest ≡ None → is_some (kind_of rest) ≡ true → C
no-kind rest e k = absurd (let bad : false ≡ true = sym (ap is_some e) ∙ k in cc)
