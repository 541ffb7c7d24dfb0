-- An operation that the proxy answered of its own, for the desk's choice or its first check, was forwarded nowhere.
use Rattle.std.proofs.Common.{◌≡◌, ℕ, Bool, true, false, ◌==◌, ◌&&◌, ◌||◌, not, List, [], ◌∷◌, ◌++◌, length, refl, ap, ◌∙◌, sym, subst}
use Rattle.std.specs.Prelude.{Option, Some, None, if◌then◌else◌, is_some}
use Rattle.std.specs.List.{list_all, list_any}
use Rattle.std.proofs.lemmas.List.Folds.{list_all-map}
use Rattle.ldap_spec.specs.Kinds.{kind_of}
use Rattle.lload_names.specs.declared.names.Answer.{Answer}
use Rattle.lload_names.specs.declared.names.Answer.TheVariants.{Busy, Go, Unavailable}
use Rattle.lload_names.specs.declared.names.CancelAnswer.{CancelAnswer}
use Rattle.lload_names.specs.declared.names.CancelAnswer.TheVariants.{C13, C14, C15, C16, S1}
use Rattle.lload_names.specs.declared.names.Entry.{Entry}
use Rattle.lload_names.specs.declared.names.OpName.{OpName}
use Rattle.lload_names.specs.declared.names.PartName.{PartName}
use Rattle.lload_names.specs.declared.names.PartName.TheVariants.{Client}
use Rattle.lload_names.specs.declared.names.Refusal.{Refusal}
use Rattle.lload_names.specs.declared.names.Refusal.TheVariants.{C1, C10, C11, C2, C3, C4, C5, C6, C7, C8, C9}
use Rattle.lload_spec.specs.Answers.{Sending, all_sendings, of_operation}
use Rattle.lload_spec.specs.Caused.{answers_with, check_of, is_checked_so, is_followed_up, is_live_choice, is_refusal_of, is_refused_by_choice, refuses_with}
use Rattle.lload_spec.specs.Entries.{Named, chosen, goes_to, is_choice_of, is_missed, is_of_client, is_sent, missed_op}
use Rattle.lload_spec.specs.Fifo.{is_chosen_for, is_pinned_to, is_sent_at}
use Rattle.lload_spec.specs.FirstCheck.{Check, GoesOn, Refuses, lets_go_on}
use Rattle.lload_spec.specs.Journal.{Family, family, of_part, same_answer, same_op}
use Rattle.lload_spec.specs.Lists.{each_split_from, first_passes, passes, some_split_from, where_there}
use Rattle.lload_spec.specs.Operations.{Operation, is_live_at, operation, operation_in, outs}
use Rattle.lload_spec.specs.Settings.{Settings, is_of_kind}
use Rattle.lload_spec.specs.Binding.{kind_wanted}
use Rattle.lload_spec.specs.Strict.{has_place_in_client, is_choice_for, is_chosen_once, is_in_unheld, is_missed_rightly, is_notice_placed, is_pinned, is_rightly_at, is_sent_rightly, is_to_ask, lives_as_client}
use Rattle.lload_spec.proofs.Growth.{left, right, both}
use Rattle.lload_laws.proofs.ListLaws.{any-filter, passes_imply}
use Rattle.part_laws.proofs.ListLaws.{any_before, any_behind, not_true, or_elim, or_left, or_right, same_number, same_op_eq}
use Rattle.part_spec.specs.Marked.{Marked, entries}
use Rattle.part_spec.specs.Share.{ClientShare, check_of as check_by_list, has_cancel_cause, has_cause}
use Rattle.joined_laws.proofs.Walks.{begun}
use Rattle.forward_laws.proofs.Sendings.{sent_at}
use Rattle.carried_laws.specs.Laws.{Played}
use Rattle.identity_laws.specs.Laws.{ChecksAreKnown, ClientsAreKnown}
use Rattle.sent_laws.specs.Laws.{GoesRightly, OfPlaces}
use Rattle.sent_laws.proofs.Forwarded.{all_choices_due, is_choice_due}
use Rattle.told_laws.specs.Laws.{tells_of_upstream}
use Rattle.told_laws.proofs.Sources.{is_forwarded}

-- Lists.

any_or : {A C : Type 0} (a d : A → Bool) (xs : List A) → (list_any a xs ≡ true → C) → (list_any d xs ≡ true → C) → list_any (λ x. a x || d x) xs ≡ true → C
any_or a d [] f g h = f h
any_or a d (x ∷ xs) f g h =
    or_elim (a x || d x) (list_any (λ y. a y || d y) xs)
    (λ k. or_elim (a x) (d x) (λ j. f (or_left (a x) _ j)) (λ j. g (or_left (d x) _ j)) k)
    (λ k. any_or a d xs (λ j. f (or_right (a x) _ j)) (λ j. g (or_right (d x) _ j)) k) h

-- what is so of some, where something else is so of each
pub some_each : {A C : Type 0} (a d : A → Bool) (xs : List A) → ((x : A) → a x ≡ true → d x ≡ true → C) → list_any a xs ≡ true → list_all d xs ≡ true → C
some_each a d [] f h k = absurd (let bad : false ≡ true = h in cc)
some_each a d (x ∷ xs) f h k = or_elim (a x) (list_any a xs) (λ j. f x j (left (d x) _ k)) (λ j. some_each a d xs f j (right (d x) _ k)) h

some_any : {A : Type 0} (t : List A → A → List A → Bool) (a : A → Bool) (before xs : List A) → ((b : List A) (x : A) (d : List A) → t b x d ≡ true → a x ≡ true) → some_split_from t before xs ≡ true → list_any a xs ≡ true
some_any t a before [] f h = h
some_any t a before (x ∷ xs) f h = or_elim (t before x xs) (some_split_from t (before ++ x ∷ []) xs) (λ j. or_left (a x) _ (f before x xs j)) (λ j. or_right (a x) _ (some_any t a (before ++ x ∷ []) xs f j)) h

-- An operation is chosen a connection for once.
module _ (c : ℕ) (op : OpName) where
  abbrev Once : List Entry → List Entry → Type 0
  Once before L = each_split_from (λ b e r. is_chosen_once c b e) before L ≡ true

  not_again : (before : List Entry) (e : Entry) → list_any (is_choice_for op) before ≡ true → is_chosen_once c before e ≡ true → is_choice_for op e ≡ true → false ≡ true
  not_again before e h once k = by (chosen e.what) once k
    where
      by : (o : Option (Named Answer)) → where_there (λ x. x.op.client == c && is_some (operation_in c before x.op) && not (list_any (is_choice_for x.op) before)) o ≡ true → passes (λ x. same_op op x.op) o ≡ true → false ≡ true
      by None i j = j
      by (Some x) i j = sym (ap not (subst (λ n. list_any (is_choice_for n) before ≡ true) (same_op_eq op x.op j) h)) ∙ right (x.op.client == c && is_some (operation_in c before x.op)) _ i

  none_behind : (a : Entry → Bool) → ((e : Entry) → a e ≡ true → is_choice_for op e ≡ true) → (before L : List Entry) → list_any (is_choice_for op) before ≡ true → Once before L → list_any a L ≡ true → false ≡ true
  none_behind a f before [] h once k = k
  none_behind a f before (e ∷ L) h once k =
      or_elim (a e) (list_any a L)
      (λ j. not_again before e h (left (is_chosen_once c before e) _ once) (f e j))
      (λ j. none_behind a f (before ++ e ∷ []) L (any_before (is_choice_for op) before (e ∷ []) h) (right (is_chosen_once c before e) _ once) j) k

  -- so not in two ways
  chosen_twice : (a d : Entry → Bool) → ((e : Entry) → a e ≡ true → is_choice_for op e ≡ true) → ((e : Entry) → d e ≡ true → is_choice_for op e ≡ true) → ((e : Entry) → a e ≡ true → d e ≡ true → false ≡ true) → (before L : List Entry) → Once before L → list_any a L ≡ true → list_any d L ≡ true → false ≡ true
  chosen_twice a d f g apart before [] once h k = h
  chosen_twice a d f g apart before (e ∷ L) once h k =
      or_elim (a e) (list_any a L)
      (λ i. or_elim (d e) (list_any d L) (apart e i) (λ j. none_behind d g (before ++ e ∷ []) L (here (f e i)) later j) k)
      (λ i. or_elim (d e) (list_any d L) (λ j. none_behind a f (before ++ e ∷ []) L (here (g e j)) later i) (λ j. chosen_twice a d f g apart (before ++ e ∷ []) L later i j) k) h
    where
      later : Once (before ++ e ∷ []) L
      later = right (is_chosen_once c before e) _ once

      here : is_choice_for op e ≡ true → list_any (is_choice_for op) (before ++ e ∷ []) ≡ true
      here j = any_behind (is_choice_for op) before (e ∷ []) (or_left (is_choice_for op e) false j)

-- A check that refuses a request, or answers a Cancel, doesn't let it go on.

refused_ends : (which : Refusal) (k : Check) → refuses_with which k ≡ true → lets_go_on k ≡ false
refused_ends which (Refuses other) h = refl
refused_ends which _ h = absurd (let bad : false ≡ true = h in cc)

answered_ends : (which : CancelAnswer) (k : Check) → answers_with which k ≡ true → lets_go_on k ≡ false
answered_ends which GoesOn h = absurd (none which h)
  where
    none : (w : CancelAnswer) → answers_with w GoesOn ≡ true → ⊥
    none S1 j = let bad : false ≡ true = j in cc
    none C13 j = let bad : false ≡ true = j in cc
    none C14 j = let bad : false ≡ true = j in cc
    none C15 j = let bad : false ≡ true = j in cc
    none C16 j = let bad : false ≡ true = j in cc
answered_ends which _ h = refl

-- whether an answer tells that an operation was canceled
abbrev pub is_canceling : CancelAnswer → Bool
is_canceling C13 = true
is_canceling _ = false

module _ (are_known : ClientsAreKnown) (checks : ChecksAreKnown) (goes : GoesRightly) (s : Settings) (F : Family) (marked : PartName → List Marked) (h : Played s F marked) (o : Operation) (there : operation F o.name ≡ Some o) (u : ℕ) (came : list_any (is_forwarded o.name) (F.connection u) ≡ true) where
  abbrev c : ℕ
  c = o.name.client

  abbrev list : List Marked
  list = marked (Client o.name.client)

  share : ClientShare s c list
  share = h.joined.shared.shares (Client c)

  same : entries list ≡ F.client c
  same = h.joined.shared.same_entries (Client c)

  places : OfPlaces s F
  places = goes s F marked h

  -- it stands where it may
  missed_right : (L : List Entry) → list_any (is_missed o.name) L ≡ true → list_all (is_missed_rightly s F u) L ≡ true → is_rightly_at s F u o ≡ true
  missed_right L = some_each (is_missed o.name) (is_missed_rightly s F u) L (λ e. by (missed_op e.what))
    where
      by : (q : Option OpName) → passes (same_op o.name) q ≡ true → where_there (λ op. passes (is_rightly_at s F u) (operation F op)) q ≡ true → is_rightly_at s F u o ≡ true
      by None i j = absurd (let bad : false ≡ true = i in cc)
      by (Some q) i j = sym (ap (passes (is_rightly_at s F u)) (ap (operation F) (sym (same_op_eq o.name q i)) ∙ there)) ∙ j

  sent_right : is_sent_at F u o ≡ true → is_rightly_at s F u o ≡ true
  sent_right k =
      some_each (λ x. same_op o.name x.op && x.connection == u) (of_operation F (is_sent_rightly s F)) (all_sendings F)
      (λ x i j. subst (λ v. is_rightly_at s F v o ≡ true) (same_number x.connection u (right (same_op o.name x.op) _ i)) (sym (ap (passes (λ q. is_sent_rightly s F q x)) (ap (operation F) (sym (same_op_eq o.name x.op (left (same_op o.name x.op) _ i))) ∙ there)) ∙ j))
      (sym (any-filter (λ (x : Sending). x.connection == u) (λ x. same_op o.name x.op) (all_sendings F)) ∙ k) places.sent

  rightly : is_rightly_at s F u o ≡ true
  rightly =
      any_or (is_sent o.name) (is_missed o.name) (F.connection u)
      (λ k. sent_right (sent_at F u o h.whole k))
      (λ k. missed_right (F.connection u) k (places.missed u)) came

  goes_on : lets_go_on (check_of s F o) ≡ true
  goes_on = left (lets_go_on (check_of s F o)) _ (left (lets_go_on (check_of s F o) && is_of_kind s (kind_wanted o.request) u) _ rightly)

  -- so its first check didn't refuse it
  unchecked : (test : Check → Bool) → ((k : Check) → test k ≡ true → lets_go_on k ≡ false) → is_checked_so (check_by_list s list o) test o ≡ true → false ≡ true
  unchecked test f k = sym (f (check_by_list s list o) (right (length (outs o) == 1 && is_followed_up o.request o.behind (check_by_list s list o)) _ k)) ∙ ap lets_go_on (checks s F marked h o.name o there) ∙ goes_on

  -- A choice that names no connection.
  once : Once c o.name [] (F.client c)
  once = subst (Once c o.name []) same (each_once [] (entries list) share.life)
    where
      each_once : (before L : List Entry) → each_split_from (λ place e behind. is_of_client e.what && has_place_in_client s c place e behind) before L ≡ true → Once c o.name before L
      each_once before [] k = refl
      each_once before (e ∷ L) k =
          both (is_chosen_once c before e) _
          (right (lives_as_client before e) _ (left (lives_as_client before e && is_chosen_once c before e) (is_in_unheld s c before e) (left (lives_as_client before e && is_chosen_once c before e && is_in_unheld s c before e) (is_notice_placed e L) (right (is_of_client e.what) _ (left (is_of_client e.what && has_place_in_client s c before e L) _ k)))))
          (each_once (before ++ e ∷ []) L (right (is_of_client e.what && has_place_in_client s c before e L) _ k))

  due : list_all (is_choice_due s F c (F.client c)) (F.client c) ≡ true
  due =
      subst (λ l. list_all (is_choice_due s F c l) l ≡ true) same
      (list_all-map (is_choice_due s F c (entries list)) (λ (m : Marked). m.entry) list
      ∙ all_choices_due s F c list (are_known s F marked h c) (begun s c list share) (h.joined.fit (Client c)))

  -- what is chosen isn't pinned
  unpinned : list_any (is_choice_for o.name) (F.client c) ≡ true → is_pinned s F o ≡ false
  unpinned k = some_each (is_choice_for o.name) (is_choice_due s F c (F.client c)) (F.client c) (λ e. by (chosen e.what)) k due
    where
      by : (q : Option (Named Answer)) → passes (λ x. same_op o.name x.op) q ≡ true → where_there (λ x. passes (is_to_ask s F) (operation_in c (F.client c) x.op)) q ≡ true → is_pinned s F o ≡ false
      by None i j = absurd (let bad : false ≡ true = i in cc)
      by (Some x) i j = not_true (is_pinned s F o) (right (lets_go_on (check_of s F o)) _ (sym (ap (passes (is_to_ask s F)) (ap (operation_in c (F.client c)) (sym (same_op_eq o.name x.op i)) ∙ there)) ∙ j))

  -- whether an entry marks this answer for the operation
  abbrev is_so : Answer → Entry → Bool
  is_so answer e = passes (λ x. same_op o.name x.op && same_answer answer x.value) (chosen e.what)

  of_choice : (t : Answer → Bool) (e : Entry) → passes (λ x. same_op o.name x.op && t x.value) (chosen e.what) ≡ true → is_choice_for o.name e ≡ true
  of_choice t e k = passes_imply (λ x. same_op o.name x.op && t x.value) (λ x. same_op o.name x.op) (chosen e.what) (λ x j. left (same_op o.name x.op) _ j) k

  unrefused : (answer : Answer) (which : Refusal) → ((a : Answer) → same_answer answer a ≡ true → goes_to u a ≡ false) → is_refused_by_choice (family (entries list)) answer which o ≡ true → false ≡ true
  unrefused answer which f k =
      chosen_twice c o.name (is_so answer) (is_choice_of o.name u) (of_choice (same_answer answer)) (of_choice (goes_to u)) (λ e. apart (chosen e.what)) [] (F.client c) once told
      (some_any (λ place e behind. is_choice_of o.name u e && is_live_at c place o.name) (is_choice_of o.name u) [] (F.client c) (λ b e d j. left (is_choice_of o.name u e) _ j) goes_there)
    where
      apart : (q : Option (Named Answer)) → passes (λ x. same_op o.name x.op && same_answer answer x.value) q ≡ true → passes (λ x. same_op o.name x.op && goes_to u x.value) q ≡ true → false ≡ true
      apart None i j = j
      apart (Some x) i j = sym (f x.value (right (same_op o.name x.op) _ i)) ∙ right (same_op o.name x.op) _ j

      told : list_any (is_so answer) (F.client c) ≡ true
      told =
          some_any (λ place (e : Entry) behind. is_live_choice answer o place e && first_passes (is_refusal_of which o.request.id (kind_of o.request.rest)) behind) (is_so answer) [] (F.client c) (λ b e d j. left (is_so answer e) _ (left (is_live_choice answer o b e) _ j))
          (subst (λ l. some_split_from (λ place (e : Entry) behind. is_live_choice answer o place e && first_passes (is_refusal_of which o.request.id (kind_of o.request.rest)) behind) [] l ≡ true) (ap (of_part (Client c)) same ∙ h.joined.shared.own_entries (Client c)) k)

      goes_there : is_chosen_for F o u ≡ true
      goes_there = sym (ap (λ b. if b then is_pinned_to F o u else is_chosen_for F o u) (unpinned (some_any_choice (F.client c) told))) ∙ right (lets_go_on (check_of s F o) && is_of_kind s (kind_wanted o.request) u) _ rightly
        where
          some_any_choice : (L : List Entry) → list_any (is_so answer) L ≡ true → list_any (is_choice_for o.name) L ≡ true
          some_any_choice [] j = j
          some_any_choice (e ∷ L) j = or_elim (is_so answer e) (list_any (is_so answer) L) (λ i. or_left (is_choice_for o.name e) _ (of_choice (same_answer answer) e i)) (λ i. or_right (is_choice_for o.name e) _ (some_any_choice L i)) j

  busy_stays : (a : Answer) → same_answer Busy a ≡ true → goes_to u a ≡ false
  busy_stays (Go v b) k = absurd (let bad : false ≡ true = k in cc)
  busy_stays Busy k = refl
  busy_stays Unavailable k = refl

  unavailable_stays : (a : Answer) → same_answer Unavailable a ≡ true → goes_to u a ≡ false
  unavailable_stays (Go v b) k = absurd (let bad : false ≡ true = k in cc)
  unavailable_stays Busy k = refl
  unavailable_stays Unavailable k = refl

  -- no refusal of it is but for what came of it at its connection
  pub unrefused_own : (which : Refusal) → tells_of_upstream which ≡ false → has_cause s list o which ≡ true → false ≡ true
  unrefused_own C1 n k = unrefused Busy C1 busy_stays k
  unrefused_own C3 n k = unrefused Unavailable C3 unavailable_stays k
  unrefused_own C4 n k = sym n
  unrefused_own C5 n k = sym n
  unrefused_own C9 n k = sym n
  unrefused_own C2 n k = unchecked (refuses_with C2) (refused_ends C2) k
  unrefused_own C6 n k = unchecked (refuses_with C6) (refused_ends C6) k
  unrefused_own C7 n k = unchecked (refuses_with C7) (refused_ends C7) k
  unrefused_own C8 n k = unchecked (refuses_with C8) (refused_ends C8) k
  unrefused_own C10 n k = unchecked (refuses_with C10) (refused_ends C10) k
  unrefused_own C11 n k = unchecked (refuses_with C11) (refused_ends C11) k

  -- and no answer to a Cancel but that it was canceled
  pub unanswered_own : (which : CancelAnswer) → is_canceling which ≡ false → has_cancel_cause s list o which ≡ true → false ≡ true
  unanswered_own C13 n k = sym n
  unanswered_own S1 n k = unchecked (answers_with S1) (answered_ends S1) k
  unanswered_own C14 n k = unchecked (answers_with C14) (answered_ends C14) k
  unanswered_own C15 n k = unchecked (answers_with C15) (answered_ends C15) k
  unanswered_own C16 n k = unchecked (answers_with C16) (answered_ends C16) k
