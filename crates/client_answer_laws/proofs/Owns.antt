-- What is known of the answers of the proxy's own: they are such, final, and tell no success to a Bind.
use Rattle.std.proofs.Common.{◌≡◌, ℕ, Bool, true, false, ◌==◌, ◌&&◌, ◌||◌, not, List, [], ◌∷◌, ◌++◌, refl, ap, ◌∙◌, sym}
use Rattle.std.specs.Prelude.{Option, Some, None, is_none, map, if◌then◌else◌}
use Rattle.std.specs.List.{list_any}
use Rattle.std.specs.Str.{bytes_eq}
use Rattle.ldap_spec.specs.Messages.{Message}
use Rattle.ldap_spec.specs.Tags.{success}
use Rattle.ldap_spec.specs.Kinds.{kind_of, is_final, same_kind, response_tag}
use Rattle.ldap_spec.specs.Responses.{has_code}
use Rattle.ldap_spec.specs.Bodies.{refusal, cancel_answer}
use Rattle.ldap_spec.specs.Controls.{controls, cancel_name, start_tls}
use Rattle.ldap_spec.specs.Requests.{Request, BindRequest, UnbindRequest, AbandonRequest, ExtendedRequest, PlainRequest, request, is_cancel, cancel_id, names_cancel}
use Rattle.lload_names.specs.declared.names.OpKind.{OpKind}
use Rattle.lload_names.specs.declared.names.OpKind.TheVariants.{Bind, Search, Modify, Add, Delete, ModifyDn, Compare, Extended}
use Rattle.lload_names.specs.declared.names.EndWhy.TheVariants.{ZeroId, IdInUse, Unreadable}
use Rattle.lload_names.specs.declared.names.Refusal.{Refusal}
use Rattle.lload_names.specs.declared.names.Refusal.TheVariants.{C1, C2, C3, C4, C5, C6, C7, C8, C9, C10, C11}
use Rattle.lload_names.specs.declared.names.CancelAnswer.{CancelAnswer}
use Rattle.lload_names.specs.declared.names.CancelAnswer.TheVariants.{S1, C13, C14, C15, C16}
use Rattle.lload_spec.specs.Lists.{passes}
use Rattle.lload_spec.specs.Settings.{Settings, Reject}
use Rattle.lload_spec.specs.Entries.{makes_operation}
use Rattle.lload_spec.specs.Binding.{action, is_action}
use Rattle.lload_spec.specs.FirstCheck.{Check, Ends, Refuses, Answers, Cancels, GoesOn, ClientFacts, check, check_request, check_cancel, check_restrictions, is_in_use, is_proxied_already, is_full}
use Rattle.lload_spec.specs.Operations.{is_request_of, is_final_to, is_simple_bind}
use Rattle.lload_spec.specs.Answers.{wants_identity}
use Rattle.lload_spec.specs.Fifo.{is_own_answer, own_answers_of, refusals, cancel_answers}
use Rattle.lload_laws.proofs.ListLaws.{any-map, bytes_same}
use Rattle.client_laws.proofs.ClientCancels.{is_ext, ext_tag}
use Rattle.client_laws.proofs.ClientEnds.{ext_no_bind}
use Rattle.part_laws.proofs.ListLaws.{or_left, any_before, any_behind, eqb_same}

-- what is known of an answer to a request
pub record IsOwn (s : Settings) (m : Message) (rest : List ℕ) : Type 0 where
  pub own : is_own_answer m.rest rest ≡ true
  pub final : is_final_to m.rest rest ≡ true
  pub unknown : (wants_identity s m && has_code success rest) ≡ false

-- that it is canceled, where it may be told so, and what a Cancel alone gets
abbrev if_canceled : OpKind → List (List ℕ)
if_canceled kind = elim (same_kind Bind kind) [ true ↦ [] | false ↦ cancel_answer kind C13 ∷ [] ]

abbrev if_cancel : OpKind → List ℕ → List (List ℕ)
if_cancel kind rest = elim (is_cancel rest) [ true ↦ map (cancel_answer kind) cancel_answers | false ↦ [] ]

here : (a : List ℕ) (b : Bool) → (bytes_eq a a || b) ≡ true
here a b = or_left (bytes_eq a a) b (bytes_same a)

-- an element is among those of a list that has it
at_place : {A : Type 0} (f : A → List ℕ) (x : A) (before after : List A) → list_any (λ w. bytes_eq (f x) (f w)) (before ++ x ∷ after) ≡ true
at_place f x before after = any_behind (λ w. bytes_eq (f x) (f w)) before (x ∷ after) (here (f x) (list_any (λ w. bytes_eq (f x) (f w)) after))

among : (kind : OpKind) (which : Refusal) → list_any (λ w. bytes_eq (refusal kind which) (refusal kind w)) refusals ≡ true
among kind C1 = at_place (refusal kind) C1 ([]) (C2 ∷ C3 ∷ C4 ∷ C5 ∷ C6 ∷ C7 ∷ C8 ∷ C9 ∷ C10 ∷ C11 ∷ [])
among kind C2 = at_place (refusal kind) C2 (C1 ∷ []) (C3 ∷ C4 ∷ C5 ∷ C6 ∷ C7 ∷ C8 ∷ C9 ∷ C10 ∷ C11 ∷ [])
among kind C3 = at_place (refusal kind) C3 (C1 ∷ C2 ∷ []) (C4 ∷ C5 ∷ C6 ∷ C7 ∷ C8 ∷ C9 ∷ C10 ∷ C11 ∷ [])
among kind C4 = at_place (refusal kind) C4 (C1 ∷ C2 ∷ C3 ∷ []) (C5 ∷ C6 ∷ C7 ∷ C8 ∷ C9 ∷ C10 ∷ C11 ∷ [])
among kind C5 = at_place (refusal kind) C5 (C1 ∷ C2 ∷ C3 ∷ C4 ∷ []) (C6 ∷ C7 ∷ C8 ∷ C9 ∷ C10 ∷ C11 ∷ [])
among kind C6 = at_place (refusal kind) C6 (C1 ∷ C2 ∷ C3 ∷ C4 ∷ C5 ∷ []) (C7 ∷ C8 ∷ C9 ∷ C10 ∷ C11 ∷ [])
among kind C7 = at_place (refusal kind) C7 (C1 ∷ C2 ∷ C3 ∷ C4 ∷ C5 ∷ C6 ∷ []) (C8 ∷ C9 ∷ C10 ∷ C11 ∷ [])
among kind C8 = at_place (refusal kind) C8 (C1 ∷ C2 ∷ C3 ∷ C4 ∷ C5 ∷ C6 ∷ C7 ∷ []) (C9 ∷ C10 ∷ C11 ∷ [])
among kind C9 = at_place (refusal kind) C9 (C1 ∷ C2 ∷ C3 ∷ C4 ∷ C5 ∷ C6 ∷ C7 ∷ C8 ∷ []) (C10 ∷ C11 ∷ [])
among kind C10 = at_place (refusal kind) C10 (C1 ∷ C2 ∷ C3 ∷ C4 ∷ C5 ∷ C6 ∷ C7 ∷ C8 ∷ C9 ∷ []) (C11 ∷ [])
among kind C11 = at_place (refusal kind) C11 (C1 ∷ C2 ∷ C3 ∷ C4 ∷ C5 ∷ C6 ∷ C7 ∷ C8 ∷ C9 ∷ C10 ∷ []) ([])

-- a request that isn't a Bind wants no identity
none_wanted : (s : Settings) (m : Message) (b : Bool) → is_request_of Bind m ≡ false → (wants_identity s m && b) ≡ false
none_wanted s m b h = ap (λ x. s.proxies_authorization && x && not (passes is_simple_bind (request m.rest)) && b) h ∙ none s.proxies_authorization (not (passes is_simple_bind (request m.rest))) b
  where
    none : (x y z : Bool) → (x && false && y && z) ≡ false
    none true y z = refl
    none false y z = refl

-- a refusal of a Bind is no success
refused_bind : (which : Refusal) → has_code success (refusal Bind which) ≡ false
refused_bind C1 = refl
refused_bind C2 = refl
refused_bind C3 = refl
refused_bind C4 = refl
refused_bind C5 = refl
refused_bind C6 = refl
refused_bind C7 = refl
refused_bind C8 = refl
refused_bind C9 = refl
refused_bind C10 = refl
refused_bind C11 = refl

and_false : (b : Bool) → (b && false) ≡ false
and_false true = refl
and_false false = refl

pub refusal_own : (s : Settings) (m : Message) (kind : OpKind) (which : Refusal) → kind_of m.rest ≡ Some kind → IsOwn s m (refusal kind which)
refusal_own s m kind which k =
    record {
      own = ap (λ o. list_any (bytes_eq (refusal kind which)) (elim o [ None ↦ [] | Some x ↦ own_answers_of x m.rest ])) k ∙ any_before (bytes_eq (refusal kind which)) (map (refusal kind) refusals) (if_canceled kind ++ if_cancel kind m.rest) (any-map (bytes_eq (refusal kind which)) (refusal kind) refusals ∙ among kind which);
      final = ap (passes (λ x. is_final x (refusal kind which))) k ∙ eqb_same (response_tag kind);
      unknown = by kind k;
    }
  where
    by : (x : OpKind) → kind_of m.rest ≡ Some x → (wants_identity s m && has_code success (refusal x which)) ≡ false
    by Bind e = ap (λ b. wants_identity s m && b) (refused_bind which) ∙ and_false (wants_identity s m)
    by Search e = none_wanted s m _ (ap (passes (same_kind Bind)) e)
    by Modify e = none_wanted s m _ (ap (passes (same_kind Bind)) e)
    by Add e = none_wanted s m _ (ap (passes (same_kind Bind)) e)
    by Delete e = none_wanted s m _ (ap (passes (same_kind Bind)) e)
    by ModifyDn e = none_wanted s m _ (ap (passes (same_kind Bind)) e)
    by Compare e = none_wanted s m _ (ap (passes (same_kind Bind)) e)
    by Extended e = none_wanted s m _ (ap (passes (same_kind Bind)) e)

-- an answer to a request that isn't a Bind, where it is among those
answer_own : (s : Settings) (m : Message) (kind : OpKind) (which : CancelAnswer) → kind_of m.rest ≡ Some kind → same_kind Bind kind ≡ false → list_any (bytes_eq (cancel_answer kind which)) (own_answers_of kind m.rest) ≡ true → IsOwn s m (cancel_answer kind which)
answer_own s m kind which k n h =
    record {
      own = ap (λ o. list_any (bytes_eq (cancel_answer kind which)) (elim o [ None ↦ [] | Some x ↦ own_answers_of x m.rest ])) k ∙ h;
      final = ap (passes (λ x. is_final x (cancel_answer kind which))) k ∙ eqb_same (response_tag kind);
      unknown = none_wanted s m _ (ap (passes (same_kind Bind)) k ∙ n);
    }

-- that it is canceled
pub canceled_own : (s : Settings) (m : Message) (kind : OpKind) → kind_of m.rest ≡ Some kind → same_kind Bind kind ≡ false → IsOwn s m (cancel_answer kind C13)
canceled_own s m kind k n = answer_own s m kind C13 k n (any_behind (bytes_eq (cancel_answer kind C13)) (map (refusal kind) refusals) (if_canceled kind ++ if_cancel kind m.rest) (any_before (bytes_eq (cancel_answer kind C13)) (if_canceled kind) (if_cancel kind m.rest) (ap (λ b. list_any (bytes_eq (cancel_answer kind C13)) (elim b [ true ↦ [] | false ↦ cancel_answer kind C13 ∷ [] ])) n ∙ here (cancel_answer kind C13) false)))

-- what a Cancel alone gets
pub cancel_own : (s : Settings) (m : Message) (kind : OpKind) (which : CancelAnswer) → kind_of m.rest ≡ Some kind → same_kind Bind kind ≡ false → is_cancel m.rest ≡ true → list_any (λ w. bytes_eq (cancel_answer kind which) (cancel_answer kind w)) cancel_answers ≡ true → IsOwn s m (cancel_answer kind which)
cancel_own s m kind which k n c h = answer_own s m kind which k n (any_behind (bytes_eq (cancel_answer kind which)) (map (refusal kind) refusals) (if_canceled kind ++ if_cancel kind m.rest) (any_behind (bytes_eq (cancel_answer kind which)) (if_canceled kind) (if_cancel kind m.rest) (ap (λ b. list_any (bytes_eq (cancel_answer kind which)) (elim b [ true ↦ map (cancel_answer kind) cancel_answers | false ↦ [] ])) c ∙ any-map (bytes_eq (cancel_answer kind which)) (cancel_answer kind) cancel_answers ∙ h)))

pub cancel_among : (kind : OpKind) → (list_any (λ w. bytes_eq (cancel_answer kind S1) (cancel_answer kind w)) cancel_answers ≡ true) × ((list_any (λ w. bytes_eq (cancel_answer kind C14) (cancel_answer kind w)) cancel_answers ≡ true) × ((list_any (λ w. bytes_eq (cancel_answer kind C15) (cancel_answer kind w)) cancel_answers ≡ true) × (list_any (λ w. bytes_eq (cancel_answer kind C16) (cancel_answer kind w)) cancel_answers ≡ true)))
cancel_among kind = (at_place (cancel_answer kind) S1 [] (C14 ∷ C15 ∷ C16 ∷ []), (at_place (cancel_answer kind) C14 (S1 ∷ []) (C15 ∷ C16 ∷ []), (at_place (cancel_answer kind) C15 (S1 ∷ C14 ∷ []) (C16 ∷ []), at_place (cancel_answer kind) C16 (S1 ∷ C14 ∷ C15 ∷ []) [])))

-- A check that answers a Cancel, or ends what it names, is of a Cancel.
abbrev pub is_of_cancel : Check → Bool
is_of_cancel (Answers which) = true
is_of_cancel (Cancels id kind) = true
is_of_cancel _ = false

pub of_cancel : (s : Settings) (f : ClientFacts) (m : Message) → is_of_cancel (check s f m) ≡ true → is_cancel m.rest ≡ true
of_cancel s f m h = by (m.id == 0) (makes_operation m && is_in_use f m.id) (request m.rest) refl h
  where
    restricted : (a b c : Bool) → is_of_cancel (if a then Refuses C8 else if b then Refuses C6 else if c then Refuses C2 else GoesOn) ≡ false
    restricted true b c = refl
    restricted false true c = refl
    restricted false false true = refl
    restricted false false false = refl

    version_is : (b : Bool) → is_of_cancel (if b then GoesOn else Refuses C11) ≡ false
    version_is true = refl
    version_is false = refl

    named : (a b c d : Bool) → is_of_cancel (if a then Ends Unreadable else if b then Refuses C7 else if c then Refuses C10 else if d then check_cancel f m.id (cancel_id m.rest) else check_restrictions s f m.rest) ≡ true → d ≡ true
    named true b c d k = absurd (let bad : false ≡ true = k in cc)
    named false true c d k = absurd (let bad : false ≡ true = k in cc)
    named false false true d k = absurd (let bad : false ≡ true = k in cc)
    named false false false true k = refl
    named false false false false k = sym (restricted (is_proxied_already s f m.rest) (is_action Reject (action s m.rest)) (is_full s f)) ∙ k

    by : (z b : Bool) (o : Option Request) → request m.rest ≡ o → is_of_cancel (if z then Ends ZeroId else if b then Ends IdInUse else check_request s f m o) ≡ true → is_cancel m.rest ≡ true
    by true b o e k = absurd (let bad : false ≡ true = k in cc)
    by false true o e k = absurd (let bad : false ≡ true = k in cc)
    by false false None e k = absurd (let bad : false ≡ true = k in cc)
    by false false (Some UnbindRequest) e k = absurd (let bad : false ≡ true = k in cc)
    by false false (Some (AbandonRequest i)) e k = absurd (let bad : false ≡ true = k in cc)
    by false false (Some (BindRequest version name method)) e k = absurd (let bad : false ≡ true = sym (version_is (version == 3)) ∙ k in cc)
    by false false (Some (ExtendedRequest name)) e k = ap names_cancel e ∙ named (is_none (controls m.rest)) f.in_exchange (bytes_eq name start_tls) (bytes_eq name cancel_name) k
    by false false (Some (PlainRequest kind)) e k = absurd (let bad : false ≡ true = named (is_none (controls m.rest)) f.in_exchange (bytes_eq [] start_tls) (bytes_eq [] cancel_name) k in cc)

-- a Cancel is an Extended request, and no Bind
pub cancel_no_bind : (m : Message) → is_cancel m.rest ≡ true → is_request_of Bind m ≡ false
cancel_no_bind m h = ext_no_bind m (ext_tag m.rest (by (request m.rest) h))
  where
    by : (o : Option Request) → names_cancel o ≡ true → is_ext o ≡ true
    by (Some (ExtendedRequest name)) k = refl
    by _ k = absurd (let bad : false ≡ true = k in cc)
