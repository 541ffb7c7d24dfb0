-- The cause of an answer of the proxy's own: it stays in a longer list, and so each such answer that an operation got has
-- its cause.
use Rattle.std.proofs.Common.{◌≡◌, ℕ, ◌+◌, ◌≤◌, ◌⊎◌, inl, inr, Bool, true, false, ◌==◌, ◌&&◌, List, [], ◌∷◌, ◌++◌, length, refl, ap, arith, ◌∙◌, sym}
use Rattle.std.specs.Prelude.{Option, Some, None}
use Rattle.std.specs.List.{list_any}
use Rattle.std.specs.Str.{bytes_eq}
use Rattle.std.proofs.lemmas.List.{map-append, length-append, length-map, take-append-le}
use Rattle.std.proofs.lemmas.List.Elements.{filter-append}
use Rattle.std.proofs.lemmas.Slice.Eq.{bytes_eq-Decides}
use Rattle.ldap_spec.specs.Messages.{Message}
use Rattle.ldap_spec.specs.Kinds.{kind_of}
use Rattle.ldap_spec.specs.Bodies.{refusal, cancel_answer}
use Rattle.lload_names.specs.declared.names.Entry.{Entry}
use Rattle.lload_names.specs.declared.names.OpKind.{OpKind}
use Rattle.lload_names.specs.declared.names.Answer.{Answer}
use Rattle.lload_names.specs.declared.names.Answer.TheVariants.{Busy, Unavailable}
use Rattle.lload_names.specs.declared.names.Refusal.{Refusal}
use Rattle.lload_names.specs.declared.names.Refusal.TheVariants.{C1, C2, C3, C4, C5, C6, C7, C8, C9, C10, C11}
use Rattle.lload_names.specs.declared.names.CancelAnswer.{CancelAnswer}
use Rattle.lload_names.specs.declared.names.CancelAnswer.TheVariants.{S1, C13, C14, C15, C16}
use Rattle.lload_names.specs.declared.names.PartName.TheVariants.{Client}
use Rattle.lload_spec.specs.Lists.{passes, first_passes, last_passes, some_split_from, is_prefix, implies}
use Rattle.lload_spec.specs.Settings.{Settings}
use Rattle.lload_spec.specs.Journal.{of_part, same_part, family}
use Rattle.lload_spec.specs.Entries.{in_message}
use Rattle.lload_spec.specs.Operations.{Operation, outs, is_live, is_live_at}
use Rattle.lload_spec.specs.Answers.{asks_who}
use Rattle.lload_spec.specs.Fifo.{refusals, cancel_answers, is_own_answer, end_with_own}
use Rattle.lload_spec.specs.FirstCheck.{Check}
use Rattle.lload_spec.specs.Caused.{is_refusal_of, is_cancel_answer_of, is_followed_up, refuses_with, answers_with, is_checked_so, is_live_choice, is_refused_by_choice, cancels_id, is_canceled_by}
use Rattle.part_spec.specs.Marked.{Marked, entries}
use Rattle.part_spec.specs.ClientState.{client_of, check_at}
use Rattle.part_spec.specs.Share.{replies, has_letter, is_failure, check_behind, check_of, has_cause, has_cancel_cause, has_causes, is_refused_with, is_canceled_with}
use Rattle.lload_spec.proofs.Growth.{left, right, both}
use Rattle.lload_laws.specs.ClientGrowth.{later_operation}
use Rattle.lload_laws.proofs.ListLaws.{all_always, implies_by}
use Rattle.part_laws.proofs.ListLaws.{or_elim, or_left, or_right, any_before, first_stays, last_push, not_both, not_true}
use Rattle.client_laws.proofs.ClientChecks.{followed_stays}
use Rattle.client_answer_laws.proofs.OwnTexts.{one_refusal, one_cancel, apart}

-- an answer of the proxy's own to an operation: a refusal with its cause, or an answer to a Cancel with its cause
pub record RefusedSo (s : Settings) (ms : List Marked) (o : Operation) (rest : List ℕ) : Type 0 where
  pub kind : OpKind
  pub which : Refusal
  pub is_it : rest ≡ refusal kind which
  pub cause : has_cause s ms o which ≡ true

pub record CanceledSo (s : Settings) (ms : List Marked) (o : Operation) (rest : List ℕ) : Type 0 where
  pub kind : OpKind
  pub which : CancelAnswer
  pub is_it : rest ≡ cancel_answer kind which
  pub cause : has_cancel_cause s ms o which ≡ true

abbrev pub Caused : Settings → List Marked → Operation → List ℕ → Type 0
Caused s ms o rest = RefusedSo s ms o rest ⊎ CanceledSo s ms o rest

-- an operation that is over, of which the last that its client got is an answer of the proxy's own
pub record EndsOwn (s : Settings) (ms : List Marked) (o : Operation) : Type 0 where
  pub before : List (List ℕ)
  pub rest : List ℕ
  pub outs_are : outs o ≡ before ++ rest ∷ []
  pub over : is_live o ≡ false
  pub caused : Caused s ms o rest

-- what a client got for an operation is a beginning of the answers, or ends with an answer of the proxy's own
abbrev pub EndsSo : Settings → List Marked → Operation → Type 0
EndsSo s ms o = (is_prefix (outs o) (replies ms o.name) ≡ true) ⊎ EndsOwn s ms o

-- what passes at a split still does with more behind
split_more : {A : Type 0} (f g : List A → A → List A → Bool) (ys : List A) (n : ℕ) → ((b : List A) (x : A) (r : List A) → length b ≤ n → f b x r ≡ true → g b x (r ++ ys) ≡ true) → (b xs : List A) → length b + length xs ≤ n → some_split_from f b xs ≡ true → some_split_from g b (xs ++ ys) ≡ true
split_more f g ys n h b [] l k = absurd (let bad : false ≡ true = k in cc)
split_more f g ys n h b (x ∷ xs) l k = or_elim (f b x xs) (some_split_from f (b ++ x ∷ []) xs) (λ j. or_left (g b x (xs ++ ys)) _ (h b x xs (omega (arith, l)) j)) (λ j. or_right (g b x (xs ++ ys)) _ (split_more f g ys n h (b ++ x ∷ []) xs (let one : length (b ++ x ∷ []) ≡ length b + 1 = length-append b (x ∷ []) in omega (arith, l, one)) j)) k

pub entries_count : (ms : List Marked) → length (entries ms) ≡ length ms
entries_count ms = length-map ms (λ x. x.entry)

-- The cause stays with an entry more.
module _ (s : Settings) (ms : List Marked) (m : Marked) (o : Operation) (within : length o.before ≤ length ms) where
  check_same : (n : ℕ) (x : Message) → n ≤ length ms → check_behind s o.name.client (ms ++ m ∷ []) n x ≡ check_behind s o.name.client ms n x
  check_same n x l = ap (λ b. check_at s (client_of s o.name.client b) x) (take-append-le n ms (m ∷ []) l)

  -- the check at its In
  checked_more : (test : Check → Bool) → outs (later_operation m.entry o) ≡ outs o → is_checked_so (check_of s ms o) test o ≡ true → is_checked_so (check_of s (ms ++ m ∷ []) (later_operation m.entry o)) test (later_operation m.entry o) ≡ true
  checked_more test e h =
      let found : Check = check_of s ms o in
      let first : (length (outs o) == 1 && is_followed_up o.request o.behind found) ≡ true = left (length (outs o) == 1 && is_followed_up o.request o.behind found) _ h in
      ap (λ k. is_checked_so k test (later_operation m.entry o)) (check_same (length o.before) o.request within) ∙ both (length (outs (later_operation m.entry o)) == 1 && is_followed_up o.request (o.behind ++ m.entry ∷ []) found) _ (both (length (outs (later_operation m.entry o)) == 1) _ (ap (λ l. length l == 1) e ∙ left (length (outs o) == 1) _ first) (followed_stays o.request found o.behind (m.entry ∷ []) (right (length (outs o) == 1) _ first))) (right (length (outs o) == 1 && is_followed_up o.request o.behind found) _ h)

  -- a choice
  chosen_more : (answer : Answer) (which : Refusal) → is_refused_by_choice (family (entries ms)) answer which o ≡ true → is_refused_by_choice (family (entries (ms ++ m ∷ []))) answer which (later_operation m.entry o) ≡ true
  chosen_more answer which h =
      let mine : List Entry → List Entry = of_part (Client o.name.client) in
      let test : List Entry → Entry → List Entry → Bool = λ place e behind. is_live_choice answer o place e && first_passes (is_refusal_of which o.request.id (kind_of o.request.rest)) behind in
      ap (λ l. some_split_from test [] (mine l)) (map-append (λ x. x.entry) ms (m ∷ [])) ∙ ap (some_split_from test []) (filter-append (λ e. same_part (Client o.name.client) e.part) (entries ms) (m.entry ∷ [])) ∙ split_more test test (mine (m.entry ∷ [])) (length (mine (entries ms))) (λ b x r l k. both (is_live_choice answer o b x) _ (left (is_live_choice answer o b x) _ k) (first_stays (is_refusal_of which o.request.id (kind_of o.request.rest)) r (mine (m.entry ∷ [])) (right (is_live_choice answer o b x) _ k))) [] (mine (entries ms)) (omega arith) h

  -- a Cancel
  canceled_more : some_split_from (is_canceled_by (λ place x. check_behind s o.name.client ms (length place) x) o) [] (entries ms) ≡ true → some_split_from (is_canceled_by (λ place x. check_behind s o.name.client (ms ++ m ∷ []) (length place) x) (later_operation m.entry o)) [] (entries (ms ++ m ∷ [])) ≡ true
  canceled_more h = ap (some_split_from (is_canceled_by (λ place x. check_behind s o.name.client (ms ++ m ∷ []) (length place) x) (later_operation m.entry o)) []) (map-append (λ x. x.entry) ms (m ∷ [])) ∙ split_more (is_canceled_by (λ place x. check_behind s o.name.client ms (length place) x) o) (is_canceled_by (λ place x. check_behind s o.name.client (ms ++ m ∷ []) (length place) x) (later_operation m.entry o)) (m.entry ∷ []) (length ms) stays [] (entries ms) (let count : length (entries ms) ≡ length ms = entries_count ms in omega (arith, count)) h
    where
      told : List Entry → Bool
      told r = first_passes (is_cancel_answer_of C13 o.request.id (kind_of o.request.rest)) r

      stays : (b : List Entry) (x : Entry) (r : List Entry) → length b ≤ length ms → is_canceled_by (λ place y. check_behind s o.name.client ms (length place) y) o b x r ≡ true → is_canceled_by (λ place y. check_behind s o.name.client (ms ++ m ∷ []) (length place) y) (later_operation m.entry o) b x (r ++ m.entry ∷ []) ≡ true
      stays b x r l k = by (in_message x.what) k
        where
          by_test : (q : Message) (d : Bool) → (is_live_at o.name.client b o.name && told r) ≡ d → elim d [ true ↦ cancels_id o.request.id (check_behind s o.name.client ms (length b) q) | false ↦ false ] ≡ true → elim (is_live_at o.name.client b o.name && told (r ++ m.entry ∷ [])) [ true ↦ cancels_id o.request.id (check_behind s o.name.client (ms ++ m ∷ []) (length b) q) | false ↦ false ] ≡ true
          by_test q true e j = ap (λ d. elim d [ true ↦ cancels_id o.request.id (check_behind s o.name.client (ms ++ m ∷ []) (length b) q) | false ↦ false ]) (both (is_live_at o.name.client b o.name) _ (left (is_live_at o.name.client b o.name) _ e) (first_stays (is_cancel_answer_of C13 o.request.id (kind_of o.request.rest)) r (m.entry ∷ []) (right (is_live_at o.name.client b o.name) _ e))) ∙ ap (cancels_id o.request.id) (check_same (length b) q l) ∙ j
          by_test q false e j = absurd (let bad : false ≡ true = j in cc)

          by : (y : Option Message) → elim y [ None ↦ false | Some q ↦ elim (is_live_at o.name.client b o.name && told r) [ true ↦ cancels_id o.request.id (check_behind s o.name.client ms (length b) q) | false ↦ false ] ] ≡ true → elim y [ None ↦ false | Some q ↦ elim (is_live_at o.name.client b o.name && told (r ++ m.entry ∷ [])) [ true ↦ cancels_id o.request.id (check_behind s o.name.client (ms ++ m ∷ []) (length b) q) | false ↦ false ] ] ≡ true
          by None j = absurd (let bad : false ≡ true = j in cc)
          by (Some q) j = by_test q (is_live_at o.name.client b o.name && told r) refl j

  -- a letter
  failure_more : (which : Refusal) → list_any (has_letter (is_failure o.name which)) ms ≡ true → list_any (has_letter (is_failure o.name which)) (ms ++ m ∷ []) ≡ true
  failure_more which h = any_before (has_letter (is_failure o.name which)) ms (m ∷ []) h

  cause_more : (which : Refusal) → outs (later_operation m.entry o) ≡ outs o → has_cause s ms o which ≡ true → has_cause s (ms ++ m ∷ []) (later_operation m.entry o) which ≡ true
  cause_more C1 e h = chosen_more Busy C1 h
  cause_more C2 e h = checked_more (refuses_with C2) e h
  cause_more C3 e h = chosen_more Unavailable C3 h
  cause_more C4 e h = failure_more C4 h
  cause_more C5 e h = failure_more C5 h
  cause_more C6 e h = checked_more (refuses_with C6) e h
  cause_more C7 e h = checked_more (refuses_with C7) e h
  cause_more C8 e h = checked_more (refuses_with C8) e h
  cause_more C9 e h = both (list_any (has_letter (is_failure o.name C9)) (ms ++ m ∷ [])) (asks_who s o) (failure_more C9 (left (list_any (has_letter (is_failure o.name C9)) ms) _ h)) (right (list_any (has_letter (is_failure o.name C9)) ms) _ h)
  cause_more C10 e h = checked_more (refuses_with C10) e h
  cause_more C11 e h = checked_more (refuses_with C11) e h

  cancel_cause_more : (which : CancelAnswer) → outs (later_operation m.entry o) ≡ outs o → has_cancel_cause s ms o which ≡ true → has_cancel_cause s (ms ++ m ∷ []) (later_operation m.entry o) which ≡ true
  cancel_cause_more S1 e h = checked_more (answers_with S1) e h
  cancel_cause_more C13 e h = canceled_more h
  cancel_cause_more C14 e h = checked_more (answers_with C14) e h
  cancel_cause_more C15 e h = checked_more (answers_with C15) e h
  cancel_cause_more C16 e h = checked_more (answers_with C16) e h

  pub caused_more : (rest : List ℕ) → outs (later_operation m.entry o) ≡ outs o → Caused s ms o rest → Caused s (ms ++ m ∷ []) (later_operation m.entry o) rest
  caused_more rest e (inl h) = inl (record { kind = h.kind; which = h.which; is_it = h.is_it; cause = cause_more h.which e h.cause })
  caused_more rest e (inr h) = inr (record { kind = h.kind; which = h.which; is_it = h.is_it; cause = cancel_cause_more h.which e h.cause })

-- Each answer of the proxy's own that an operation got has its cause.
module _ (s : Settings) (ms : List Marked) (o : Operation) where
  last_is : (h : EndsOwn s ms o) (own : List ℕ) → last_passes (bytes_eq own) (outs o) ≡ true → own ≡ h.rest
  last_is h own k = (bytes_eq-Decides own h.rest).0 (sym (ap (passes (bytes_eq own)) (last_push h.before h.rest)) ∙ sym (ap (last_passes (bytes_eq own)) h.outs_are) ∙ k)

  -- what it ends with, where that isn't a beginning of the answers
  ends_own : EndsSo s ms o → (own : List ℕ) → end_with_own (replies ms o.name) (outs o) own ≡ true → (h : EndsOwn s ms o) × (own ≡ h.rest)
  ends_own (inl p) own k = not_both (is_prefix (outs o) (replies ms o.name)) p (not_true (is_prefix (outs o) (replies ms o.name)) (right (last_passes (bytes_eq own) (outs o)) _ k))
  ends_own (inr h) own k = (h, last_is h own (left (last_passes (bytes_eq own) (outs o)) _ k))

  refused : (kind : OpKind) (which : Refusal) (rest : List ℕ) → refusal kind which ≡ rest → Caused s ms o rest → has_cause s ms o which ≡ true
  refused kind which rest e (inl h) = ap (has_cause s ms o) (one_refusal kind h.kind which h.which (e ∙ h.is_it)) ∙ h.cause
  refused kind which rest e (inr h) = apart kind h.kind which h.which (e ∙ h.is_it)

  canceled : (kind : OpKind) (which : CancelAnswer) (rest : List ℕ) → cancel_answer kind which ≡ rest → Caused s ms o rest → has_cancel_cause s ms o which ≡ true
  canceled kind which rest e (inl h) = apart h.kind kind h.which which (sym (e ∙ h.is_it))
  canceled kind which rest e (inr h) = ap (has_cancel_cause s ms o) (one_cancel kind h.kind which h.which (e ∙ h.is_it)) ∙ h.cause

  refused_so : EndsSo s ms o → (which : Refusal) (k : Option OpKind) → passes (λ kind. end_with_own (replies ms o.name) (outs o) (refusal kind which)) k ≡ true → has_cause s ms o which ≡ true
  refused_so h which None k = absurd (let bad : false ≡ true = k in cc)
  refused_so h which (Some kind) k = let own : (q : EndsOwn s ms o) × (refusal kind which ≡ q.rest) = ends_own h (refusal kind which) k in refused kind which own.0.rest own.1 own.0.caused

  canceled_so : EndsSo s ms o → (which : CancelAnswer) (k : Option OpKind) → passes (λ kind. is_own_answer o.request.rest (cancel_answer kind which) && end_with_own (replies ms o.name) (outs o) (cancel_answer kind which)) k ≡ true → has_cancel_cause s ms o which ≡ true
  canceled_so h which None k = absurd (let bad : false ≡ true = k in cc)
  canceled_so h which (Some kind) k = let own : (q : EndsOwn s ms o) × (cancel_answer kind which ≡ q.rest) = ends_own h (cancel_answer kind which) (right (is_own_answer o.request.rest (cancel_answer kind which)) _ k) in canceled kind which own.0.rest own.1 own.0.caused

  pub causes_hold : EndsSo s ms o → has_causes s ms o ≡ true
  causes_hold h = both _ _ (all_always (λ which. implies (is_refused_with ms which o) (has_cause s ms o which)) refusals (λ which. implies_by (is_refused_with ms which o) _ (refused_so h which (kind_of o.request.rest)))) (all_always (λ which. implies (is_canceled_with ms which o) (has_cancel_cause s ms o which)) (C13 ∷ cancel_answers) (λ which. implies_by (is_canceled_with ms which o) _ (canceled_so h which (kind_of o.request.rest))))
