-- An operation that an answer ended: its client got a final one; and it was told nothing of a Cancel.
use Rattle.std.proofs.Common.{◌≡◌, ℕ, Bool, true, false, ◌==◌, if◌then◌else◌, List, [], ◌∷◌, ◌++◌, append_assoc, refl, ap, ◌∙◌, sym}
use Rattle.std.specs.Prelude.{Option, Some, None, is_none}
use Rattle.std.specs.List.{list_any}
use Rattle.std.proofs.lemmas.List.{append-nil}
use Rattle.ldap_spec.specs.Messages.{Message}
use Rattle.lload_names.specs.declared.names.Entry.{Entry}
use Rattle.lload_names.specs.declared.names.What.{What}
use Rattle.lload_names.specs.declared.names.What.TheVariants as what
use Rattle.lload_spec.specs.Entries.{operation_message, out_message}
use Rattle.lload_spec.specs.Lists.{passes}
use Rattle.lload_spec.specs.Operations.{Answered, Ending, Manner, Operation, ending, ending_from, ending_or, is_final_for, is_final_out, is_out_for, manner_of, out_rest, outs, outs_under, takes_id}
use Rattle.lload_spec.proofs.Growth.{left, right}
use Rattle.part_laws.proofs.ListLaws.{any_behind, or_left}
use Rattle.rest_laws.proofs.Got.{final_out, none_answers}

-- a final Out is among those under its identifier
final_comes : (opened : Message) (w : What) (more : List (List ℕ)) → passes (λ m. m.id == opened.id) (out_message w) ≡ true → passes (λ m. is_final_for opened m.rest) (out_message w) ≡ true → list_any (is_final_for opened) (elim (passes (λ m. m.id == opened.id) (operation_message w)) [ true ↦ [] | false ↦ out_rest opened.id (out_message w) ++ more ]) ≡ true
final_comes opened (what.Out i rest) more h k = ap (λ b. list_any (is_final_for opened) ((if b then rest ∷ [] else []) ++ more)) h ∙ or_left (is_final_for opened rest) _ k
final_comes opened _ more h k = absurd (let bad : false ≡ true = h in cc)

-- where an answer ends an operation, its client got a final one
answer_got : (opened : Message) (since es : List Entry) (x : Ending) → ending_from opened since es ≡ Some x → x.manner ≡ Answered → list_any (is_final_for opened) (outs_under opened.id es) ≡ true
answer_got opened since [] x e a = absurd (let bad : None ≡ Some x = e in cc)
answer_got opened since (y ∷ es) x e a = by (manner_of opened since y) refl e (λ k. answer_got opened (since ++ y ∷ []) es x k a)
  where
    later : (t : Bool) → takes_id opened.id y ≡ t → ending_from opened (since ++ y ∷ []) es ≡ Some x → list_any (is_final_for opened) (outs_under opened.id es) ≡ true → list_any (is_final_for opened) (elim t [ true ↦ [] | false ↦ out_rest opened.id (out_message y.what) ++ outs_under opened.id es ]) ≡ true
    later true t k ih = absurd (none_answers opened (since ++ y ∷ []) es x (any_behind (takes_id opened.id) since (y ∷ []) (or_left (takes_id opened.id y) false t)) k a)
    later false t k ih = any_behind (is_final_for opened) (out_rest opened.id (out_message y.what)) (outs_under opened.id es) ih

    by : (o : Option Manner) → manner_of opened since y ≡ o → ending_or o y es (ending_from opened (since ++ y ∷ []) es) ≡ Some x → (ending_from opened (since ++ y ∷ []) es ≡ Some x → list_any (is_final_for opened) (outs_under opened.id es) ≡ true) → list_any (is_final_for opened) (outs_under opened.id (y ∷ es)) ≡ true
    by None m k ih = later (takes_id opened.id y) refl k (ih k)
    by (Some n) m k ih =
        let out : is_final_out opened since y ≡ true = final_out opened since y (m ∙ ap Some (ap (λ (z : Option Ending). elim z [ None ↦ Answered | Some v ↦ v.manner ]) k ∙ a)) in
        final_comes opened y.what (outs_under opened.id es) (left (passes (λ z. z.id == opened.id) (out_message y.what)) _ (left (is_out_for opened since y) _ out)) (right (is_out_for opened since y) _ out)

pub answered_final : (o : Operation) (x : Ending) → ending o ≡ Some x → x.manner ≡ Answered → list_any (is_final_for o.request) (outs o) ≡ true
answered_final o x e a = answer_got o.request [] o.behind x e a

-- the end of a list of which a beginning ends nothing
pub ending_past : (opened : Message) (since L M : List Entry) → is_none (ending_from opened since L) ≡ true → ending_from opened since (L ++ M) ≡ ending_from opened (since ++ L) M
ending_past opened since [] M h = ap (λ l. ending_from opened l M) (sym (append-nil since))
ending_past opened since (y ∷ L) M h = by (manner_of opened since y) h (ending_past opened (since ++ y ∷ []) L M)
  where
    by : (o : Option Manner) → is_none (ending_or o y L (ending_from opened (since ++ y ∷ []) L)) ≡ true → (is_none (ending_from opened (since ++ y ∷ []) L) ≡ true → ending_from opened (since ++ y ∷ []) (L ++ M) ≡ ending_from opened ((since ++ y ∷ []) ++ L) M) → ending_or o y (L ++ M) (ending_from opened (since ++ y ∷ []) (L ++ M)) ≡ ending_from opened (since ++ y ∷ L) M
    by None k ih = ih k ∙ ap (λ l. ending_from opened l M) (append_assoc since (y ∷ []) L)
    by (Some n) k ih = absurd (let bad : false ≡ true = k in cc)
