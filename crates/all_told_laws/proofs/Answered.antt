-- Where an answer ended an operation that was sent, its client got all answers, or a refusal for a loss.
use Rattle.std.proofs.Common.{◌≡◌, ◌⊎◌, inl, inr, ℕ, Bool, true, false, ◌&&◌, ◌||◌, not, List, [], ◌∷◌, refl, ap, ◌∙◌}
use Rattle.std.specs.Prelude.{Some, is_some}
use Rattle.std.specs.List.{list_any}
use Rattle.std.specs.Str.{bytes_eq}
use Rattle.ldap_spec.specs.Kinds.{kind_of}
use Rattle.lload_names.specs.declared.names.Answer.{Answer}
use Rattle.lload_names.specs.declared.names.Answer.TheVariants.{Busy, Unavailable}
use Rattle.lload_names.specs.declared.names.CancelAnswer.{CancelAnswer}
use Rattle.lload_names.specs.declared.names.CancelAnswer.TheVariants.{C13, C14, C15, C16, S1}
use Rattle.lload_names.specs.declared.names.PartName.{PartName}
use Rattle.lload_names.specs.declared.names.Refusal.{Refusal}
use Rattle.lload_names.specs.declared.names.Refusal.TheVariants.{C1, C10, C11, C2, C3, C4, C5, C6, C7, C8, C9}
use Rattle.lload_spec.specs.Answers.{Sending, answers, answers_to, final_answer, reign}
use Rattle.lload_spec.specs.Caused.{answers_with, check_of, has_cancel_cause, has_cause, is_canceled_with, is_checked_so, is_live_choice, is_refusal_of, is_refused_by_choice, refuses_with}
use Rattle.lload_spec.specs.Entries.{chosen, goes_to}
use Rattle.lload_spec.specs.Fifo.{allowed, end_with_own, is_prefix_and_own, is_refused_with, own_answers}
use Rattle.lload_spec.specs.FirstCheck.{Check, GoesOn, lets_go_on}
use Rattle.lload_spec.specs.Journal.{Family, same_answer, same_op}
use Rattle.lload_spec.specs.Lists.{first_passes, is_prefix, last_passes, passes}
use Rattle.lload_spec.specs.Operations.{Answered, Ending, Operation, ending, is_ended_by_client, is_final_for, operation, outs}
use Rattle.lload_spec.specs.Settings.{Settings, is_of_kind}
use Rattle.lload_spec.specs.Settled.{is_refused_by, is_told_all, is_told_answers}
use Rattle.lload_spec.specs.Strict.{is_sent_rightly}
use Rattle.lload_spec.specs.Binding.{kind_wanted}
use Rattle.lload_spec.proofs.Growth.{both, left, right}
use Rattle.lload_laws.proofs.ListLaws.{any_imply}
use Rattle.part_laws.proofs.ListLaws.{or_left, or_right}
use Rattle.part_spec.specs.Marked.{Marked}
use Rattle.joined_laws.specs.Joined.{OfSeveralLists}
use Rattle.carried_laws.specs.Laws.{Played}
use Rattle.identity_laws.specs.Laws.{ChecksAreKnown, ClientsAreKnown}
use Rattle.window_laws.specs.Laws.{OfAsks}
use Rattle.told_laws.specs.Laws.{tells_of_upstream}
use Rattle.told_laws.proofs.Refusals.{answer_by_family, refusal_by_family, refusal_by_list}
use Rattle.all_told_laws.proofs.Canceled.{canceled_so}
use Rattle.all_told_laws.proofs.Chosen.{any_of_split, busy_bare, not_refused, unavailable_bare}
use Rattle.all_told_laws.proofs.Ended.{answered_final}
use Rattle.all_told_laws.proofs.Lasts.{IsCancel, IsRefusal, all_told, final_there, last_among, own_there, which_own}

-- a request that goes on is neither refused by its first check nor answered by it
goes_unrefused : (which : Refusal) (k : Check) → lets_go_on k ≡ true → refuses_with which k ≡ true → false ≡ true
goes_unrefused which GoesOn h j = j
goes_unrefused which _ h j = h

goes_unanswered : (which : CancelAnswer) (k : Check) → lets_go_on k ≡ true → answers_with which k ≡ true → false ≡ true
goes_unanswered S1 GoesOn h j = j
goes_unanswered C13 GoesOn h j = j
goes_unanswered C14 GoesOn h j = j
goes_unanswered C15 GoesOn h j = j
goes_unanswered C16 GoesOn h j = j
goes_unanswered which _ h j = h

module _ (are_known : ClientsAreKnown) (checks : ChecksAreKnown) (s : Settings) (F : Family) (marked : PartName → List Marked) (h : Played s F marked) (several : OfSeveralLists s F) (asks : OfAsks s F) (o : Operation) (there : operation F o.name ≡ Some o) (z : Sending) (rightly : is_sent_rightly s F o z ≡ true) (x : Ending) (ended : ending o ≡ Some x) (answered : x.manner ≡ Answered) where
  abbrev losses : List Refusal
  losses = C4 ∷ C5 ∷ C9 ∷ []

  goes_on : lets_go_on (check_of s F o) ≡ true
  goes_on = left (lets_go_on (check_of s F o)) _ (left (lets_go_on (check_of s F o) && is_of_kind s (kind_wanted o.request) z.connection) _ rightly)

  -- no choice refused it
  unrefused : (a : Answer) (which : Refusal) → ((v : ℕ) (b : Answer) → goes_to v b ≡ true → same_answer a b ≡ true → false ≡ true) → is_refused_by_choice F a which o ≡ true → false ≡ true
  unrefused a which bare k =
      not_refused s F marked h several asks o there z.connection a bare (right (lets_go_on (check_of s F o) && is_of_kind s (kind_wanted o.request) z.connection) _ rightly)
      (any_of_split (λ place e behind. is_live_choice a o place e && first_passes (is_refusal_of which o.request.id (kind_of o.request.rest)) behind) (λ e. passes (λ y. same_op o.name y.op && same_answer a y.value) (chosen e.what)) (λ b e r i. left (passes (λ y. same_op o.name y.op && same_answer a y.value) (chosen e.what)) _ (left (is_live_choice a o b e) _ i)) [] (F.client o.name.client) k)

  unchecked : (which : Refusal) → is_checked_so (check_of s F o) (refuses_with which) o ≡ true → false ≡ true
  unchecked which k = goes_unrefused which (check_of s F o) goes_on (right _ (refuses_with which (check_of s F o)) k)

  cause : (which : Refusal) → tells_of_upstream which ≡ false → is_refused_with F which o ≡ true → has_cause s F o which ≡ true
  cause which n k = refusal_by_family are_known checks s F marked h o there which n (refusal_by_list are_known checks s F marked h o there which k)

  none : {C : Type 0} → false ≡ true → C
  none h = absurd (let bad : false ≡ true = h in cc)

  -- so a refusal is for a loss
  refused : (which : Refusal) → is_refused_with F which o ≡ true → is_refused_by F (C4 ∷ C5 ∷ C9 ∷ []) o ≡ true
  refused C4 k = or_left (is_refused_with F C4 o) _ k
  refused C5 k = or_right (is_refused_with F C4 o) _ (or_left (is_refused_with F C5 o) _ k)
  refused C9 k = or_right (is_refused_with F C4 o) _ (or_right (is_refused_with F C5 o) _ (or_left (is_refused_with F C9 o) _ k))
  refused C1 k = none (unrefused Busy C1 (busy_bare s F marked h several asks o there) (cause C1 refl k))
  refused C3 k = none (unrefused Unavailable C3 (unavailable_bare s F marked h several asks o there) (cause C3 refl k))
  refused C2 k = none (unchecked C2 (cause C2 refl k))
  refused C6 k = none (unchecked C6 (cause C6 refl k))
  refused C7 k = none (unchecked C7 (cause C7 refl k))
  refused C8 k = none (unchecked C8 (cause C8 refl k))
  refused C10 k = none (unchecked C10 (cause C10 refl k))
  refused C11 k = none (unchecked C11 (cause C11 refl k))

  -- and no answer to a Cancel ended it
  canceled : (which : CancelAnswer) → is_canceled_with F which o ≡ true → is_ended_by_client o ≡ true
  canceled which k = by which (answer_by_family are_known checks s F marked h o there which k)
    where
      unanswered : (w : CancelAnswer) → is_checked_so (check_of s F o) (answers_with w) o ≡ true → is_ended_by_client o ≡ true
      unanswered w j = none (goes_unanswered w (check_of s F o) goes_on (right _ (answers_with w (check_of s F o)) j))

      by : (w : CancelAnswer) → has_cancel_cause s F o w ≡ true → is_ended_by_client o ≡ true
      by C13 j = canceled_so s F o there x ended answered j
      by S1 j = unanswered S1 j
      by C14 j = unanswered C14 j
      by C15 j = unanswered C15 j
      by C16 j = unanswered C16 j

  abbrev ends : List ℕ → Bool
  ends own = end_with_own (answers_to F o) (outs o) own

  got_final : list_any (is_final_for o.request) (outs o) ≡ true
  got_final = answered_final o x ended answered

  pub told_so : answers_to F o ≡ answers o z → allowed o.request.rest (answers o z) (outs o) ≡ true → is_told_all s F o z ≡ true
  told_so same may = by (is_prefix (outs o) (answers o z)) refl may
    where
      all : is_prefix (outs o) (answers o z) ≡ true → is_told_answers s o z ≡ true
      all p =
          both (is_prefix (outs o) (answers o z) && is_prefix (answers o z) (outs o)) _
          (both (is_prefix (outs o) (answers o z)) _ p (all_told o.request z.id (reign z) (outs o) p got_final))
          (or_left (is_some (final_answer o z)) _ (final_there o.request z.id z.behind (last_among o.request (outs o) (answers o z) p got_final)))

      own : is_prefix (outs o) (answers o z) ≡ false → is_prefix_and_own o.request.rest (answers o z) (outs o) ≡ true → list_any ends (own_answers o.request.rest) ≡ true
      own n k = any_imply (λ r. last_passes (bytes_eq r) (outs o)) ends (own_answers o.request.rest) (λ r j. both (last_passes (bytes_eq r) (outs o)) _ j (ap (λ l. not (is_prefix (outs o) l)) same ∙ ap not n)) (own_there o.request.rest (answers o z) (outs o) k)

      of : IsRefusal ends o.request.rest ⊎ IsCancel ends o.request.rest → is_told_all s F o z ≡ true
      of (inl r) = or_left (is_ended_by_client o || is_told_answers s o z || is_refused_by F losses o) _ (or_right (is_ended_by_client o || is_told_answers s o z) _ (refused r.0 r.1))
      of (inr r) = or_left (is_ended_by_client o || is_told_answers s o z || is_refused_by F losses o) _ (or_left (is_ended_by_client o || is_told_answers s o z) _ (or_left (is_ended_by_client o) _ (canceled r.0 r.1)))

      by : (b : Bool) → is_prefix (outs o) (answers o z) ≡ b → (b || is_prefix_and_own o.request.rest (answers o z) (outs o)) ≡ true → is_told_all s F o z ≡ true
      by true p k = or_left (is_ended_by_client o || is_told_answers s o z || is_refused_by F losses o) _ (or_left (is_ended_by_client o || is_told_answers s o z) _ (or_right (is_ended_by_client o) _ (all p)))
      by false p k = of (which_own ends o.request.rest (own p k))
