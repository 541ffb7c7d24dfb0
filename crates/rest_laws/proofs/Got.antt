-- What a client got for an operation that was sent nowhere and ended with an answer: one answer of the proxy's own.
use Rattle.std.proofs.Common.{◌≡◌, ℕ, Bool, true, false, ◌==◌, ◌&&◌, not, if◌then◌else◌, List, [], ◌∷◌, ◌++◌, refl, ap, ◌∙◌, sym, subst}
use Rattle.std.specs.Prelude.{Option, Some, None}
use Rattle.std.specs.List.{list_any}
use Rattle.std.specs.Str.{bytes_eq}
use Rattle.std.proofs.lemmas.Slice.Eq.{bytes_eq-Decides}
use Rattle.ldap_spec.specs.Messages.{Message}
use Rattle.lload_names.specs.declared.names.Entry.{Entry}
use Rattle.lload_names.specs.declared.names.What.{What}
use Rattle.lload_names.specs.declared.names.What.TheVariants as what
use Rattle.lload_spec.specs.Answers.{answers, answers_to, sendings_of}
use Rattle.lload_spec.specs.Entries.{is_gone, operation_message, out_message}
use Rattle.lload_spec.specs.Fifo.{allowed, end_with_own, is_told_own, own_answers}
use Rattle.lload_spec.specs.Journal.{Family}
use Rattle.lload_spec.specs.Lists.{first, passes}
use Rattle.lload_spec.specs.Operations.{Abandoned, Answered, Cancelled, ClientGone, Ending, Manner, Operation, Rebound, ending, ending_from, ending_or, is_abandon_of, is_bind_in, is_cancellation, is_final_out, manner_of, out_rest, outs, outs_under, takes_id}
use Rattle.lload_spec.proofs.Growth.{both, left, right}
use Rattle.lload_laws.proofs.ListLaws.{any_imply, bytes_same}
use Rattle.part_laws.proofs.ListLaws.{any_before, any_behind, or_left}

-- whether something is there
abbrev pub is_some_of : {A : Type 0} → List A → Bool
is_some_of [] = false
is_some_of (x ∷ xs) = true

-- an entry that answers an operation for good is an Out that is final for it
answers_final : (f g a b d : Bool) → (if f && g then Some Cancelled else if f then Some Answered else if a then Some Abandoned else if b then Some Rebound else if d then Some ClientGone else None) ≡ Some Answered → f ≡ true
answers_final true g a b d e = refl
answers_final false g true b d e = absurd (let bad : Some Abandoned ≡ Some Answered = e in cc)
answers_final false g false true d e = absurd (let bad : Some Rebound ≡ Some Answered = e in cc)
answers_final false g false false true e = absurd (let bad : Some ClientGone ≡ Some Answered = e in cc)
answers_final false g false false false e = absurd (let bad : None ≡ Some Answered = e in cc)

pub final_out : (opened : Message) (since : List Entry) (e : Entry) → manner_of opened since e ≡ Some Answered → is_final_out opened since e ≡ true
final_out opened since e h = answers_final (is_final_out opened since e) (is_cancellation opened since e) (is_abandon_of opened e) (is_bind_in e) (is_gone e) h

-- an Out under an identifier comes first of those under it
out_comes : (id : ℕ) (w : What) (more : List (List ℕ)) → passes (λ m. m.id == id) (out_message w) ≡ true → is_some_of (elim (passes (λ m. m.id == id) (operation_message w)) [ true ↦ [] | false ↦ out_rest id (out_message w) ++ more ]) ≡ true
out_comes id (what.Out i rest) more h = ap (λ b. is_some_of ((if b then rest ∷ [] else []) ++ more)) h
out_comes id _ more h = absurd (let bad : false ≡ true = h in cc)

some_behind : (xs ys : List (List ℕ)) → is_some_of ys ≡ true → is_some_of (xs ++ ys) ≡ true
some_behind [] ys h = h
some_behind (x ∷ xs) ys h = refl

-- behind an operation that took its identifier no end is an answer
pub none_answers : (opened : Message) (since es : List Entry) (x : Ending) → list_any (takes_id opened.id) since ≡ true → ending_from opened since es ≡ Some x → x.manner ≡ Answered → ⊥
none_answers opened since [] x t e a = let bad : None ≡ Some x = e in absurd (cc)
none_answers opened since (y ∷ es) x t e a = by (manner_of opened since y) refl e (λ k. none_answers opened (since ++ y ∷ []) es x (any_before (takes_id opened.id) since (y ∷ []) t) k a)
  where
    by : (o : Option Manner) → manner_of opened since y ≡ o → ending_or o y es (ending_from opened (since ++ y ∷ []) es) ≡ Some x → (ending_from opened (since ++ y ∷ []) es ≡ Some x → ⊥) → ⊥
    by None m k ih = ih k
    by (Some n) m k ih =
        let same : n ≡ x.manner = ap manner_in k in
        let out : is_final_out opened since y ≡ true = final_out opened since y (m ∙ ap Some (same ∙ a)) in
        let fresh : not (list_any (takes_id opened.id) since) ≡ true = right (passes (λ z. z.id == opened.id) (out_message y.what)) _ (left (passes (λ z. z.id == opened.id) (out_message y.what) && not (list_any (takes_id opened.id) since)) _ out) in
        let bad : false ≡ true = sym (ap not t) ∙ fresh in absurd (cc)
      where
        manner_in : Option Ending → Manner
        manner_in None = Answered
        manner_in (Some z) = z.manner

-- where an answer ends an operation, its client got something for it
answer_got : (opened : Message) (since es : List Entry) (x : Ending) → ending_from opened since es ≡ Some x → x.manner ≡ Answered → is_some_of (outs_under opened.id es) ≡ true
answer_got opened since [] x e a = absurd (let bad : None ≡ Some x = e in cc)
answer_got opened since (y ∷ es) x e a = by (manner_of opened since y) refl e (λ k. answer_got opened (since ++ y ∷ []) es x k a)
  where
    later : (t : Bool) → takes_id opened.id y ≡ t → ending_from opened (since ++ y ∷ []) es ≡ Some x → is_some_of (outs_under opened.id es) ≡ true → is_some_of (elim t [ true ↦ [] | false ↦ out_rest opened.id (out_message y.what) ++ outs_under opened.id es ]) ≡ true
    later true t k ih = absurd (none_answers opened (since ++ y ∷ []) es x (any_behind (takes_id opened.id) since (y ∷ []) (or_left (takes_id opened.id y) false t)) k a)
    later false t k ih = some_behind (out_rest opened.id (out_message y.what)) (outs_under opened.id es) ih

    by : (o : Option Manner) → manner_of opened since y ≡ o → ending_or o y es (ending_from opened (since ++ y ∷ []) es) ≡ Some x → (ending_from opened (since ++ y ∷ []) es ≡ Some x → is_some_of (outs_under opened.id es) ≡ true) → is_some_of (outs_under opened.id (y ∷ es)) ≡ true
    by None m k ih = later (takes_id opened.id y) refl k (ih k)
    by (Some n) m k ih =
        let same : n ≡ x.manner = ap manner_in k in
        let out : is_final_out opened since y ≡ true = final_out opened since y (m ∙ ap Some (same ∙ a)) in
        out_comes opened.id y.what (outs_under opened.id es) (left (passes (λ z. z.id == opened.id) (out_message y.what)) _ (left (passes (λ z. z.id == opened.id) (out_message y.what) && not (list_any (takes_id opened.id) since)) _ out))
      where
        manner_in : Option Ending → Manner
        manner_in None = Answered
        manner_in (Some z) = z.manner

pub answered_got : (o : Operation) (x : Ending) → ending o ≡ Some x → x.manner ≡ Answered → is_some_of (outs o) ≡ true
answered_got o x e a = answer_got o.request [] o.behind x e a

-- what is there where something is allowed by no answers
pub own_alone : (F : Family) (o : Operation) → sendings_of F o.name ≡ [] → is_some_of (outs o) ≡ true → allowed o.request.rest [] (outs o) ≡ true → is_told_own F o ≡ true
own_alone F o none some may = subst (λ as'. list_any (end_with_own as' (outs o)) (own_answers o.request.rest) ≡ true) (sym unsent) (by (outs o) some may)
  where
    unsent : answers_to F o ≡ []
    unsent = ap (λ qs. elim (first qs) [ None ↦ [] | Some sent ↦ answers o sent ]) none

    same : (r own : List ℕ) → bytes_eq r own ≡ true → (bytes_eq own r && true) ≡ true
    same r own h = both (bytes_eq own r) true (ap (λ x. bytes_eq own x) ((bytes_eq-Decides r own).0 h) ∙ bytes_same own) refl

    by : (rs : List (List ℕ)) → is_some_of rs ≡ true → allowed o.request.rest [] rs ≡ true → list_any (end_with_own [] rs) (own_answers o.request.rest) ≡ true
    by [] h k = absurd (let bad : false ≡ true = h in cc)
    by (r ∷ []) h k = any_imply (bytes_eq r) (end_with_own [] (r ∷ [])) (own_answers o.request.rest) (same r) k
    by (r ∷ q ∷ rs) h k = absurd (let bad : false ≡ true = k in cc)
