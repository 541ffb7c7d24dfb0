-- Each answer of the proxy's own that rests on a choice or a first check has its cause, by the family.
use Rattle.std.proofs.Common.{◌≡◌, ℕ, Bool, true, false, ◌==◌, ◌&&◌, not, List, [], ◌∷◌, ◌++◌, append_assoc, length, refl, ap, ◌∙◌, sym, subst}
use Rattle.std.specs.Prelude.{Option, Some, None, is_some, take}
use Rattle.std.specs.List.{list_all}
use Rattle.std.proofs.lemmas.List.{map-append}
use Rattle.std.proofs.lemmas.List.Folds.{list_all-append}
use Rattle.ldap_spec.specs.Kinds.{kind_of}
use Rattle.ldap_spec.specs.Messages.{Message}
use Rattle.lload_names.specs.declared.names.Answer.{Answer}
use Rattle.lload_names.specs.declared.names.Answer.TheVariants.{Busy, Unavailable}
use Rattle.lload_names.specs.declared.names.CancelAnswer.{CancelAnswer}
use Rattle.lload_names.specs.declared.names.CancelAnswer.TheVariants.{C13, C14, C15, C16, S1}
use Rattle.lload_names.specs.declared.names.Entry.{Entry}
use Rattle.lload_names.specs.declared.names.PartName.{PartName}
use Rattle.lload_names.specs.declared.names.PartName.TheVariants.{Client}
use Rattle.lload_names.specs.declared.names.Refusal.{Refusal}
use Rattle.lload_names.specs.declared.names.Refusal.TheVariants.{C1, C10, C11, C2, C3, C4, C5, C6, C7, C8, C9}
use Rattle.lload_spec.specs.Answers.{asks_who}
use Rattle.lload_spec.specs.Caused.{answers_with, cancels_id, check_of, has_cancel_cause, has_cause, is_canceled_by, is_canceled_with, is_cancel_answer_of, is_checked_so, is_live_choice, is_refusal_of, is_refused_by_choice, refuses_with}
use Rattle.lload_spec.specs.Entries.{in_message}
use Rattle.lload_spec.specs.Fifo.{cancel_answers, is_refused_with, refusals}
use Rattle.lload_spec.specs.FirstCheck.{check, first_check}
use Rattle.lload_spec.specs.Journal.{Family, family, of_part, same_op}
use Rattle.lload_spec.specs.Lists.{first_passes, implies, some_split_from}
use Rattle.lload_spec.specs.Operations.{Operation, is_live_at, operation, operation_in, operations, operations_of}
use Rattle.lload_spec.specs.Settings.{Settings}
use Rattle.lload_spec.specs.Strict.{is_unknown_rightly}
use Rattle.lload_spec.proofs.Growth.{left, right, both}
use Rattle.lload_laws.specs.ClientGrowth.{is_named_within}
use Rattle.lload_laws.proofs.ListLaws.{all_always, found, implied, implies_by}
use Rattle.part_laws.proofs.ListLaws.{not_true, or_elim, or_left, or_right, same_number}
use Rattle.part_spec.specs.ClientState.{check_at, client_of}
use Rattle.part_spec.specs.Marked.{Marked, entries}
use Rattle.part_spec.specs.Share.{ClientShare, check_in, check_of as check_by_list, has_cancel_cause as has_cancel_by_list, has_cause as has_cause_by_list, has_causes as have_causes_by_list, is_canceled_with as is_canceled_by_list, is_refused_with as is_refused_by_list}
use Rattle.client_answer_laws.proofs.Each.{Each, each_both}
use Rattle.client_answer_laws.proofs.Waits.{named_each}
use Rattle.forward_laws.proofs.Ops.{own_found}
use Rattle.carried_laws.specs.Laws.{Played}
use Rattle.identity_laws.specs.Laws.{ChecksAreKnown, ClientsAreKnown}
use Rattle.identity_laws.proofs.Checks.{take_before}
use Rattle.told_laws.specs.Laws.{OwnAnswersAreCaused, has_own_causes, tells_of_upstream}
use Rattle.told_laws.proofs.Begin.{canceled_taken, refused_taken}

-- what is so of each refusal, and of each answer to a Cancel
pub of_refusals : (t : Refusal → Bool) → list_all t refusals ≡ true → (which : Refusal) → t which ≡ true
of_refusals t h C1 = left (t C1) _ h
of_refusals t h C2 = left (t C2) _ (right (t C1) _ h)
of_refusals t h C3 = left (t C3) _ (right (t C2) _ (right (t C1) _ h))
of_refusals t h C4 = left (t C4) _ (right (t C3) _ (right (t C2) _ (right (t C1) _ h)))
of_refusals t h C5 = left (t C5) _ (right (t C4) _ (right (t C3) _ (right (t C2) _ (right (t C1) _ h))))
of_refusals t h C6 = left (t C6) _ (right (t C5) _ (right (t C4) _ (right (t C3) _ (right (t C2) _ (right (t C1) _ h)))))
of_refusals t h C7 = left (t C7) _ (right (t C6) _ (right (t C5) _ (right (t C4) _ (right (t C3) _ (right (t C2) _ (right (t C1) _ h))))))
of_refusals t h C8 = left (t C8) _ (right (t C7) _ (right (t C6) _ (right (t C5) _ (right (t C4) _ (right (t C3) _ (right (t C2) _ (right (t C1) _ h)))))))
of_refusals t h C9 = left (t C9) _ (right (t C8) _ (right (t C7) _ (right (t C6) _ (right (t C5) _ (right (t C4) _ (right (t C3) _ (right (t C2) _ (right (t C1) _ h))))))))
of_refusals t h C10 = left (t C10) _ (right (t C9) _ (right (t C8) _ (right (t C7) _ (right (t C6) _ (right (t C5) _ (right (t C4) _ (right (t C3) _ (right (t C2) _ (right (t C1) _ h)))))))))
of_refusals t h C11 = left (t C11) _ (right (t C10) _ (right (t C9) _ (right (t C8) _ (right (t C7) _ (right (t C6) _ (right (t C5) _ (right (t C4) _ (right (t C3) _ (right (t C2) _ (right (t C1) _ h))))))))))

pub of_answers : (t : CancelAnswer → Bool) → list_all t (C13 ∷ cancel_answers) ≡ true → (which : CancelAnswer) → t which ≡ true
of_answers t h C13 = left (t C13) _ h
of_answers t h S1 = left (t S1) _ (right (t C13) _ h)
of_answers t h C14 = left (t C14) _ (right (t S1) _ (right (t C13) _ h))
of_answers t h C15 = left (t C15) _ (right (t C14) _ (right (t S1) _ (right (t C13) _ h)))
of_answers t h C16 = left (t C16) _ (right (t C15) _ (right (t C14) _ (right (t S1) _ (right (t C13) _ h))))

module _ (are_known : ClientsAreKnown) (checks : ChecksAreKnown) (s : Settings) (F : Family) (marked : PartName → List Marked) (h : Played s F marked) (o : Operation) (there : operation F o.name ≡ Some o) where
  abbrev c : ℕ
  c = o.name.client

  abbrev list : List Marked
  list = marked (Client o.name.client)

  share : ClientShare s c list
  share = h.joined.shared.shares (Client c)

  causes : have_causes_by_list s list o ≡ true
  causes = found (have_causes_by_list s list) (λ q. same_op o.name q.name) (operations c (F.client c)) o there (subst (λ l. list_all (have_causes_by_list s list) (operations c l) ≡ true) (h.joined.shared.same_entries (Client c)) share.refusals)

  -- by the letters that were taken
  pub refusal_by_list : (which : Refusal) → is_refused_with F which o ≡ true → has_cause_by_list s list o which ≡ true
  refusal_by_list which k = implied (is_refused_by_list list which o) (has_cause_by_list s list o which) (of_refusals (λ w. implies (is_refused_by_list list w o) (has_cause_by_list s list o w)) (left (list_all (λ w. implies (is_refused_by_list list w o) (has_cause_by_list s list o w)) refusals) _ causes) which) (refused_taken s F marked h.whole h.joined o there which k)

  cancel_by_list : (which : CancelAnswer) → is_canceled_with F which o ≡ true → has_cancel_by_list s list o which ≡ true
  cancel_by_list which k = implied (is_canceled_by_list list which o) (has_cancel_by_list s list o which) (of_answers (λ w. implies (is_canceled_by_list list w o) (has_cancel_by_list s list o w)) (right (list_all (λ w. implies (is_refused_by_list list w o) (has_cause_by_list s list o w)) refusals) _ causes) which) (canceled_taken s F marked h.whole h.joined o there which k)

  -- a choice
  chosen_so : (answer : Answer) (which : Refusal) → is_refused_by_choice (family (entries list)) answer which o ≡ true → is_refused_by_choice F answer which o ≡ true
  chosen_so answer which k = subst (λ l. some_split_from (λ place (e : Entry) behind. is_live_choice answer o place e && first_passes (is_refusal_of which o.request.id (kind_of o.request.rest)) behind) [] l ≡ true) (ap (of_part (Client c)) (h.joined.shared.same_entries (Client c)) ∙ h.joined.shared.own_entries (Client c)) k

  -- the check at its In
  same_check : check_by_list s list o ≡ check_of s F o
  same_check = checks s F marked h o.name o there

  -- a refusal that is no connection's
  pub refusal_by_family : (which : Refusal) → tells_of_upstream which ≡ false → has_cause_by_list s list o which ≡ true → has_cause s F o which ≡ true
  refusal_by_family C1 n k = chosen_so Busy C1 k
  refusal_by_family C3 n k = chosen_so Unavailable C3 k
  refusal_by_family C4 n k = absurd (let bad : true ≡ false = n in cc)
  refusal_by_family C5 n k = absurd (let bad : true ≡ false = n in cc)
  refusal_by_family C9 n k = absurd (let bad : true ≡ false = n in cc)
  refusal_by_family C2 n k = ap (λ x. is_checked_so x (refuses_with C2) o) (sym same_check) ∙ k
  refusal_by_family C6 n k = ap (λ x. is_checked_so x (refuses_with C6) o) (sym same_check) ∙ k
  refusal_by_family C7 n k = ap (λ x. is_checked_so x (refuses_with C7) o) (sym same_check) ∙ k
  refusal_by_family C8 n k = ap (λ x. is_checked_so x (refuses_with C8) o) (sym same_check) ∙ k
  refusal_by_family C10 n k = ap (λ x. is_checked_so x (refuses_with C10) o) (sym same_check) ∙ k
  refusal_by_family C11 n k = ap (λ x. is_checked_so x (refuses_with C11) o) (sym same_check) ∙ k

  -- a Cancel that ended it
  check_there : (before : List Marked) (m : Marked) (ms : List Marked) → list ≡ before ++ m ∷ ms → is_some (in_message m.entry.what) ≡ true → (x : Message) → check_in s c list (entries before) x ≡ first_check s F c (entries before) x
  check_there before m ms e k x = ap (λ l. check_at s (client_of s c (take (length (entries before)) l)) x) e ∙ ap (λ l. check_at s (client_of s c l) x) (take_before before (m ∷ ms)) ∙ ap (λ f. check s f x) (are_known s F marked h c before m ms e k)

  canceled_from : (before ms : List Marked) → list ≡ before ++ ms → some_split_from (is_canceled_by (check_in s c list) o) (entries before) (entries ms) ≡ true → some_split_from (is_canceled_by (first_check s F c) o) (entries before) (entries ms) ≡ true
  canceled_from before [] e k = absurd (let bad : false ≡ true = k in cc)
  canceled_from before (m ∷ ms) e k =
      or_elim (is_canceled_by (check_in s c list) o (entries before) m.entry (entries ms)) (some_split_from (is_canceled_by (check_in s c list) o) (entries before ++ m.entry ∷ []) (entries ms))
      (λ j. or_left (is_canceled_by (first_check s F c) o (entries before) m.entry (entries ms)) _ (here (in_message m.entry.what) refl j))
      (λ j. or_right (is_canceled_by (first_check s F c) o (entries before) m.entry (entries ms)) _ (subst (λ l. some_split_from (is_canceled_by (first_check s F c) o) l (entries ms) ≡ true) grown (canceled_from (before ++ m ∷ []) ms (e ∙ sym (append_assoc before (m ∷ []) ms)) (subst (λ l. some_split_from (is_canceled_by (check_in s c list) o) l (entries ms) ≡ true) (sym grown) j)))) k
    where
      grown : entries (before ++ m ∷ []) ≡ entries before ++ m.entry ∷ []
      grown = map-append (λ (x : Marked). x.entry) before (m ∷ [])

      here : (q : Option Message) → in_message m.entry.what ≡ q → (elim q [ None ↦ false | Some x ↦ elim (is_live_at o.name.client (entries before) o.name && first_passes (is_cancel_answer_of C13 o.request.id (kind_of o.request.rest)) (entries ms)) [ true ↦ cancels_id o.request.id (check_in s c list (entries before) x) | false ↦ false ] ]) ≡ true → (elim q [ None ↦ false | Some x ↦ elim (is_live_at o.name.client (entries before) o.name && first_passes (is_cancel_answer_of C13 o.request.id (kind_of o.request.rest)) (entries ms)) [ true ↦ cancels_id o.request.id (first_check s F c (entries before) x) | false ↦ false ] ]) ≡ true
      here None z j = j
      here (Some x) z j = ap (λ f. elim (is_live_at o.name.client (entries before) o.name && first_passes (is_cancel_answer_of C13 o.request.id (kind_of o.request.rest)) (entries ms)) [ true ↦ cancels_id o.request.id f | false ↦ false ]) (sym (check_there before m ms e (ap is_some z) x)) ∙ j

  canceled_so : some_split_from (is_canceled_by (check_in s c list) o) [] (entries list) ≡ true → some_split_from (is_canceled_by (first_check s F c) o) [] (F.client c) ≡ true
  canceled_so k = subst (λ l. some_split_from (is_canceled_by (first_check s F c) o) [] l ≡ true) (h.joined.shared.same_entries (Client c)) (canceled_from [] list refl k)

  -- an answer to a Cancel
  pub answer_by_family : (which : CancelAnswer) → is_canceled_with F which o ≡ true → has_cancel_cause s F o which ≡ true
  answer_by_family which k = by which (cancel_by_list which k)
    where
      by : (w : CancelAnswer) → has_cancel_by_list s list o w ≡ true → has_cancel_cause s F o w ≡ true
      by C13 j = canceled_so j
      by S1 j = ap (λ x. is_checked_so x (answers_with S1) o) (sym same_check) ∙ j
      by C14 j = ap (λ x. is_checked_so x (answers_with C14) o) (sym same_check) ∙ j
      by C15 j = ap (λ x. is_checked_so x (answers_with C15) o) (sym same_check) ∙ j
      by C16 j = ap (λ x. is_checked_so x (answers_with C16) o) (sym same_check) ∙ j

  -- only an operation whose identity is asked for is refused for want of one
  pub unknown_asked : is_refused_with F C9 o ≡ true → asks_who s o ≡ true
  unknown_asked k = right _ (asks_who s o) (refusal_by_list C9 k)

-- what is so of each operation of a family, where it is known to be the one of its name
pub each_operation : (F : Family) (t : Operation → Bool) → ((o : Operation) → operation F o.name ≡ Some o → t o ≡ true) → (cs : List ℕ) → list_all t (operations_of F cs) ≡ true
each_operation F t f [] = refl
each_operation F t f (d ∷ cs) = list_all-append t (operations d (F.client d)) (operations_of F cs) ∙ both (list_all t (operations d (F.client d))) _ (all_of (operations d (F.client d)) (each_both (λ o. operation_in d (F.client d) o.name ≡ Some o) (λ o. is_named_within d (length (operations d (F.client d))) o ≡ true) (operations d (F.client d)) (own_found d (F.client d)) (named_each d (F.client d)))) (each_operation F t f cs)
  where
    all_of : (os : List Operation) → Each (λ o. (operation_in d (F.client d) o.name ≡ Some o) × (is_named_within d (length (operations d (F.client d))) o ≡ true)) os → list_all t os ≡ true
    all_of [] k = refl
    all_of (o ∷ os) k =
        let own : d ≡ o.name.client = sym (same_number o.name.client d (left (o.name.client == d) _ (left (o.name.client == d && _) _ k.0.1))) in
        both (t o) _ (f o (subst (λ n. operation_in n (F.client n) o.name ≡ Some o) own k.0.0)) (all_of os k.1)

pub own_caused : ClientsAreKnown → ChecksAreKnown → OwnAnswersAreCaused
own_caused are_known checks s F marked h =
    record {
      caused = each_operation F (has_own_causes s F) (λ o there. both (list_all (λ which. implies (not (tells_of_upstream which) && is_refused_with F which o) (has_cause s F o which)) refusals) _ (all_always (λ which. implies (not (tells_of_upstream which) && is_refused_with F which o) (has_cause s F o which)) refusals (λ which. implies_by (not (tells_of_upstream which) && is_refused_with F which o) _ (λ k. refusal_by_family are_known checks s F marked h o there which (not_true (tells_of_upstream which) (left (not (tells_of_upstream which)) _ k)) (refusal_by_list are_known checks s F marked h o there which (right (not (tells_of_upstream which)) _ k))))) (all_always (λ which. implies (is_canceled_with F which o) (has_cancel_cause s F o which)) (C13 ∷ cancel_answers) (λ which. implies_by (is_canceled_with F which o) _ (λ k. answer_by_family are_known checks s F marked h o there which k)))) F.clients;
      asked = each_operation F (is_unknown_rightly s F) (λ o there. implies_by (is_refused_with F C9 o) _ (λ k. unknown_asked are_known checks s F marked h o there k)) F.clients;
    }
