-- No answer of the proxy's own has the code saslBindInProgress (RFC 4511, appendix A): computed for each.
use Rattle.std.proofs.Common.{◌≡◌, Bool, true, false, not, [], ◌∷◌, refl}
use Rattle.std.specs.List.{list_all}
use Rattle.ldap_spec.specs.Bodies.{refusal, cancel_answer, protocol_error_notice}
use Rattle.ldap_spec.specs.Responses.{has_code}
use Rattle.ldap_spec.specs.Tags.{bind_in_progress}
use Rattle.lload_names.specs.declared.names.OpKind.{OpKind}
use Rattle.lload_names.specs.declared.names.OpKind.TheVariants.{Bind, Search, Modify, Add, Delete, ModifyDn, Compare, Extended}
use Rattle.lload_names.specs.declared.names.CancelAnswer.{CancelAnswer}
use Rattle.lload_names.specs.declared.names.CancelAnswer.TheVariants.{S1, C13, C14, C15, C16}
use Rattle.lload_names.specs.declared.names.Refusal.{Refusal}
use Rattle.lload_names.specs.declared.names.Refusal.TheVariants.{C1, C2, C3, C4, C5, C6, C7, C8, C9, C10, C11}
use Rattle.lload_spec.specs.Fifo.{refusals}
use Rattle.lload_spec.proofs.Growth.{left, right}
use Rattle.part_laws.proofs.ListLaws.{not_true}

-- what holds of each kind, of each refusal and of each answer to a Cancel
of_kind : (q : OpKind → Bool) → list_all q (Bind ∷ Search ∷ Modify ∷ Add ∷ Delete ∷ ModifyDn ∷ Compare ∷ Extended ∷ []) ≡ true → (x : OpKind) → q x ≡ true
of_kind q h Bind = left (q Bind) _ h
of_kind q h Search = left (q Search) _ (right (q Bind) _ h)
of_kind q h Modify = left (q Modify) _ (right (q Search) _ (right (q Bind) _ h))
of_kind q h Add = left (q Add) _ (right (q Modify) _ (right (q Search) _ (right (q Bind) _ h)))
of_kind q h Delete = left (q Delete) _ (right (q Add) _ (right (q Modify) _ (right (q Search) _ (right (q Bind) _ h))))
of_kind q h ModifyDn = left (q ModifyDn) _ (right (q Delete) _ (right (q Add) _ (right (q Modify) _ (right (q Search) _ (right (q Bind) _ h)))))
of_kind q h Compare = left (q Compare) _ (right (q ModifyDn) _ (right (q Delete) _ (right (q Add) _ (right (q Modify) _ (right (q Search) _ (right (q Bind) _ h))))))
of_kind q h Extended = left (q Extended) _ (right (q Compare) _ (right (q ModifyDn) _ (right (q Delete) _ (right (q Add) _ (right (q Modify) _ (right (q Search) _ (right (q Bind) _ h)))))))

of_refusal : (q : Refusal → Bool) → list_all q (C1 ∷ C2 ∷ C3 ∷ C4 ∷ C5 ∷ C6 ∷ C7 ∷ C8 ∷ C9 ∷ C10 ∷ C11 ∷ []) ≡ true → (x : Refusal) → q x ≡ true
of_refusal q h C1 = left (q C1) _ h
of_refusal q h C2 = left (q C2) _ (right (q C1) _ h)
of_refusal q h C3 = left (q C3) _ (right (q C2) _ (right (q C1) _ h))
of_refusal q h C4 = left (q C4) _ (right (q C3) _ (right (q C2) _ (right (q C1) _ h)))
of_refusal q h C5 = left (q C5) _ (right (q C4) _ (right (q C3) _ (right (q C2) _ (right (q C1) _ h))))
of_refusal q h C6 = left (q C6) _ (right (q C5) _ (right (q C4) _ (right (q C3) _ (right (q C2) _ (right (q C1) _ h)))))
of_refusal q h C7 = left (q C7) _ (right (q C6) _ (right (q C5) _ (right (q C4) _ (right (q C3) _ (right (q C2) _ (right (q C1) _ h))))))
of_refusal q h C8 = left (q C8) _ (right (q C7) _ (right (q C6) _ (right (q C5) _ (right (q C4) _ (right (q C3) _ (right (q C2) _ (right (q C1) _ h)))))))
of_refusal q h C9 = left (q C9) _ (right (q C8) _ (right (q C7) _ (right (q C6) _ (right (q C5) _ (right (q C4) _ (right (q C3) _ (right (q C2) _ (right (q C1) _ h))))))))
of_refusal q h C10 = left (q C10) _ (right (q C9) _ (right (q C8) _ (right (q C7) _ (right (q C6) _ (right (q C5) _ (right (q C4) _ (right (q C3) _ (right (q C2) _ (right (q C1) _ h)))))))))
of_refusal q h C11 = left (q C11) _ (right (q C10) _ (right (q C9) _ (right (q C8) _ (right (q C7) _ (right (q C6) _ (right (q C5) _ (right (q C4) _ (right (q C3) _ (right (q C2) _ (right (q C1) _ h))))))))))

of_cancel : (q : CancelAnswer → Bool) → list_all q (S1 ∷ C13 ∷ C14 ∷ C15 ∷ C16 ∷ []) ≡ true → (x : CancelAnswer) → q x ≡ true
of_cancel q h S1 = left (q S1) _ h
of_cancel q h C13 = left (q C13) _ (right (q S1) _ h)
of_cancel q h C14 = left (q C14) _ (right (q C13) _ (right (q S1) _ h))
of_cancel q h C15 = left (q C15) _ (right (q C14) _ (right (q C13) _ (right (q S1) _ h)))
of_cancel q h C16 = left (q C16) _ (right (q C15) _ (right (q C14) _ (right (q C13) _ (right (q S1) _ h))))

pub notice_ends : has_code bind_in_progress protocol_error_notice ≡ false
notice_ends = refl

pub refusal_ends : (kind : OpKind) (which : Refusal) → has_code bind_in_progress (refusal kind which) ≡ false
refusal_ends kind which = not_true (has_code bind_in_progress (refusal kind which)) (of_refusal (λ w. not (has_code bind_in_progress (refusal kind w))) (of_kind (λ k. list_all (λ w. not (has_code bind_in_progress (refusal k w))) refusals) refl kind) which)

pub canceled_ends : (kind : OpKind) (which : CancelAnswer) → has_code bind_in_progress (cancel_answer kind which) ≡ false
canceled_ends kind which = not_true (has_code bind_in_progress (cancel_answer kind which)) (of_cancel (λ w. not (has_code bind_in_progress (cancel_answer kind w))) (of_kind (λ k. list_all (λ w. not (has_code bind_in_progress (cancel_answer k w))) (S1 ∷ C13 ∷ C14 ∷ C15 ∷ C16 ∷ [])) refl kind) which)
