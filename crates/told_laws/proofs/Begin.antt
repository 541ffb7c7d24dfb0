-- What a client took of answers to an operation is a beginning of what its one upstream answered; so an answer of the proxy's
-- own, by those answers, is one by the letters that were taken.
use Rattle.std.proofs.Common.{◌≡◌, ℕ, true, false, ◌==◌, ◌&&◌, not, List, [], ◌∷◌, ◌++◌, append_assoc, length, refl, ap, ◌∙◌, sym, subst}
use Rattle.std.specs.Prelude.{Option, Some, None}
use Rattle.std.specs.List.{list_all, list_any}
use Rattle.std.specs.Str.{bytes_eq}
use Rattle.std.proofs.lemmas.List.Folds.{list_all-map}
use Rattle.ldap_spec.specs.Kinds.{kind_of}
use Rattle.ldap_spec.specs.Bodies.{cancel_answer, refusal}
use Rattle.ldap_spec.specs.Messages.{Message}
use Rattle.lload_names.specs.declared.names.CancelAnswer.{CancelAnswer}
use Rattle.lload_names.specs.declared.names.Entry.{Entry}
use Rattle.lload_names.specs.declared.names.Letter.{Letter}
use Rattle.lload_names.specs.declared.names.Letter.TheVariants.{Forward}
use Rattle.lload_names.specs.declared.names.OpKind.{OpKind}
use Rattle.lload_names.specs.declared.names.PartName.{PartName}
use Rattle.lload_names.specs.declared.names.PartName.TheVariants.{Client, Up as Connection}
use Rattle.lload_names.specs.declared.names.Refusal.{Refusal}
use Rattle.lload_spec.specs.Answers.{Sending, all_sendings, answers, answers_to, sending_made, sendings, sendings_at, sendings_from, sendings_of}
use Rattle.lload_spec.specs.Caused.{is_canceled_with}
use Rattle.lload_spec.specs.Entries.{Named, is_sent, sent_message}
use Rattle.lload_spec.specs.Fifo.{end_with_own, is_own_answer, is_refused_with}
use Rattle.lload_spec.specs.Journal.{Family, IsWhole, same_op, same_part}
use Rattle.lload_spec.specs.Lists.{first, is_prefix, last_passes}
use Rattle.lload_spec.specs.Operations.{Operation, operation, outs}
use Rattle.lload_spec.specs.Settings.{Settings}
use Rattle.lload_spec.proofs.Growth.{left, right, both, prefix_grows}
use Rattle.lload_laws.proofs.ListLaws.{any_imply, passes_imply}
use Rattle.part_laws.proofs.ListLaws.{false_by, not_true, same_number}
use Rattle.part_spec.specs.ConnectionState.{empty_connection}
use Rattle.part_spec.specs.Fit.{is_forward_of}
use Rattle.part_spec.specs.Gives.{gives}
use Rattle.part_spec.specs.Marked.{Marked, Taken, letters_to}
use Rattle.part_spec.specs.Share.{ConnectionShare, is_canceled_with as is_canceled_by_list, is_refused_with as is_refused_by_list, replies}
use Rattle.joined_laws.specs.Joined.{Joined}
use Rattle.joined_laws.proofs.Taken.{is_mark_from}
use Rattle.client_answer_laws.proofs.Each.{Each, each_append, each_filter, each_imply}
use Rattle.fifo_laws.proofs.Quiet.{gives_quiet}
use Rattle.fifo_laws.proofs.Sents.{none_sent}
use Rattle.forward_laws.proofs.Causes.{Cause, is_forward_as}
use Rattle.forward_laws.proofs.Chosen.{taken_cause}
use Rattle.answer_laws.proofs.Places.{nothing_at, rights_of}
use Rattle.answer_laws.proofs.Rests.{quiet_told, rests, rests_both, told}
use Rattle.answer_laws.proofs.Sents.{SentTold, SentsTold, walk_sent}
use Rattle.answer_laws.proofs.Told.{Begins}
use Rattle.told_laws.proofs.Letters.{letters_for, replies_are, rests_for}
use Rattle.told_laws.proofs.Sources.{at_home, home, letters_begin}

-- each Sent entry of a list is at its connection
at_own : (u : ℕ) (before es : List Entry) → Each (λ x. x.connection ≡ u) (sendings_from u before es)
at_own u before [] = tt
at_own u before (e ∷ es) = each_append (λ x. x.connection ≡ u) (sending_made u before e es (sent_message e.what)) (sendings_from u (before ++ e ∷ []) es) (one (sent_message e.what)) (at_own u (before ++ e ∷ []) es)
  where
    one : (o : Option (Named Message)) → Each (λ x. x.connection ≡ u) (sending_made u before e es o)
    one None = tt
    one (Some n) = (refl, tt)

each_at : (P : Sending → Type 0) (F : Family) → ((u : ℕ) → Each P (sendings u (F.connection u))) → (us : List ℕ) → Each P (sendings_at F us)
each_at P F f [] = tt
each_at P F f (u ∷ us) = each_append P (sendings u (F.connection u)) (sendings_at F us) (f u) (each_at P F f us)

module _ (s : Settings) (F : Family) (marked : PartName → List Marked) (whole : IsWhole F) (h : Joined s F marked) where
  connection : (u : ℕ) → ConnectionShare s u (marked (Connection u))
  connection u = h.shared.shares (Connection u)

  module _ (o : Operation) (there : operation F o.name ≡ Some o) where
    abbrev list : List Marked
    list = marked (Client o.name.client)

    abbrev given : List Letter
    given = letters_to (Client o.name.client) (gives s (Connection (home s F marked h o.name)) (marked (Connection (home s F marked h o.name))))

    -- what was taken is a beginning of what its home tells
    taken_begins : Begins (told o.name (gives s (Connection (home s F marked h o.name)) (marked (Connection (home s F marked h o.name))))) (replies list o.name)
    taken_begins =
        let begun = letters_begin s F marked h o.name in
        (rests o.name begun.0, sym (rests_for o.name given) ∙ ap (rests o.name) begun.1 ∙ rests_both o.name (letters_for o.name list) begun.0 ∙ ap (λ l. l ++ rests o.name begun.0) (sym (replies_are o.name list)))

    abbrev BeginsAt : Sending → Type 0
    BeginsAt sent = same_op o.name sent.op ≡ true → Begins (answers o sent) (replies list o.name)

    sents_told : (u : ℕ) → SentsTold s u o.name (sendings u (F.connection u)) (empty_connection s u) (marked (Connection u))
    sents_told u = subst (λ l. SentsTold s u o.name (sendings u l) (empty_connection s u) (marked (Connection u))) (h.shared.same_entries (Connection u)) (walk_sent s u o.name [] (empty_connection s u) (marked (Connection u)) (nothing_at s u) (rights_of s u (marked (Connection u)) (connection u) (h.fit (Connection u))) refl)

    -- of a Sent of the operation
    one_begins : (u : ℕ) (sent : Sending) → SentTold s u o.name sent (empty_connection s u) (marked (Connection u)) → Begins (answers o sent) (replies list o.name)
    one_begins u sent f =
        let cause : Cause o.name.client o.name u f.kind (F.client o.name.client) list = taken_cause s F marked h o.name u f.kind f.forward in
        let same : cause.operation ≡ o = (let x : Some cause.operation ≡ Some o = sym cause.found ∙ there in cc) in
        let at : home s F marked h o.name ≡ u = same_number (home s F marked h o.name) u (at_home s F marked h o.name u (any_forward f.kind (marked (Connection u)) f.forward)) in
        let x : Begins (answers o sent) (told o.name (gives s (Connection u) (marked (Connection u)))) = f.begins o.request (ap (λ (q : Operation). kind_of q.request.rest) (sym same) ∙ cause.kind_is) in
        let y : Begins (told o.name (gives s (Connection u) (marked (Connection u)))) (replies list o.name) = subst (λ v. Begins (told o.name (gives s (Connection v) (marked (Connection v)))) (replies list o.name)) at taken_begins in
        (y.0 ++ x.0, x.1 ∙ ap (λ l. l ++ x.0) y.1 ∙ append_assoc (replies list o.name) y.0 x.0)
      where
        any_forward : (kind : OpKind) (ms : List Marked) → list_any (λ m. is_mark_from (Client o.name.client) (is_forward_as o.name kind) m.mark) ms ≡ true → list_any (λ m. is_mark_from (Client o.name.client) (is_forward_of o.name) m.mark) ms ≡ true
        any_forward kind ms k = any_imply (λ m. is_mark_from (Client o.name.client) (is_forward_as o.name kind) m.mark) (λ m. is_mark_from (Client o.name.client) (is_forward_of o.name) m.mark) ms (λ m j. by m.mark j) k
          where
            letter : (x : Letter) → is_forward_as o.name kind x ≡ true → is_forward_of o.name x ≡ true
            letter (Forward q sort rest ask holder) j = left (same_op o.name q) _ j
            letter _ j = absurd (let bad : false ≡ true = j in cc)

            by : (mark : Option Taken) → is_mark_from (Client o.name.client) (is_forward_as o.name kind) mark ≡ true → is_mark_from (Client o.name.client) (is_forward_of o.name) mark ≡ true
            by None j = j
            by (Some t) j = both (same_part (Client o.name.client) t.sender) _ (left (same_part (Client o.name.client) t.sender) _ j) (letter t.letter (right (same_part (Client o.name.client) t.sender) _ j))

    each_begins : Each BeginsAt (all_sendings F)
    each_begins = each_at BeginsAt F (λ u. each_imply (λ sent. same_op o.name sent.op ≡ true → SentTold s u o.name sent (empty_connection s u) (marked (Connection u))) BeginsAt (sendings u (F.connection u)) (λ sent f k. one_begins u sent (f k)) (sents_told u)) F.connections

    -- what was taken is a beginning of the answers
    pub answers_begin : Begins (answers_to F o) (replies list o.name)
    answers_begin = by (sendings_of F o.name) refl (each_filter BeginsAt (λ sent. Begins (answers o sent) (replies list o.name)) (λ x. same_op o.name x.op) (all_sendings F) (λ x k f. f k) each_begins)
      where
        by : (xs : List Sending) → sendings_of F o.name ≡ xs → Each (λ sent. Begins (answers o sent) (replies list o.name)) xs → Begins (elim (first xs) [ None ↦ [] | Some x ↦ answers o x ]) (replies list o.name)
        by (x ∷ xs) e f = f.0
        by [] e f =
            let u : ℕ = home s F marked h o.name in
            let none : list_all (λ (x : Entry). not (is_sent o.name x)) (F.connection u) ≡ true = none_sent o.name F u whole (ap (λ l. length l == 0) e) in
            let marks : list_all (λ (m : Marked). not (is_sent o.name m.entry)) (marked (Connection u)) ≡ true = sym (list_all-map (λ (x : Entry). not (is_sent o.name x)) (λ (m : Marked). m.entry) (marked (Connection u))) ∙ subst (λ l. list_all (λ (x : Entry). not (is_sent o.name x)) l ≡ true) (sym (h.shared.same_entries (Connection u))) none in
            let quiet : told o.name (gives s (Connection u) (marked (Connection u))) ≡ [] = quiet_told o.name (gives s (Connection u) (marked (Connection u))) (gives_quiet o.name s (empty_connection s u) (marked (Connection u)) marks (connection u).marks refl) in
            nothing (replies list o.name) taken_begins.0 (sym quiet ∙ taken_begins.1)
          where
            nothing : (a b : List (List ℕ)) → [] ≡ a ++ b → Begins [] a
            nothing [] b k = ([], refl)
            nothing (x ∷ a) b k = absurd (let bad : [] ≡ x ∷ (a ++ b) = k in cc)

    own_taken : (own : List ℕ) → end_with_own (answers_to F o) (outs o) own ≡ true → end_with_own (replies list o.name) (outs o) own ≡ true
    own_taken own k = both (last_passes (bytes_eq own) (outs o)) _ (left (last_passes (bytes_eq own) (outs o)) _ k) (ap not (false_by (is_prefix (outs o) (replies list o.name)) (λ j. sym (not_true (is_prefix (outs o) (answers_to F o)) (right (last_passes (bytes_eq own) (outs o)) _ k)) ∙ subst (λ l. is_prefix (outs o) l ≡ true) (sym answers_begin.1) (prefix_grows (outs o) (replies list o.name) answers_begin.0 j))))

    -- a refusal by the answers is one by what was taken
    pub refused_taken : (which : Refusal) → is_refused_with F which o ≡ true → is_refused_by_list list which o ≡ true
    refused_taken which k = passes_imply (λ kind. end_with_own (answers_to F o) (outs o) (refusal kind which)) (λ kind. end_with_own (replies list o.name) (outs o) (refusal kind which)) (kind_of o.request.rest) (λ kind j. own_taken (refusal kind which) j) k

    pub canceled_taken : (which : CancelAnswer) → is_canceled_with F which o ≡ true → is_canceled_by_list list which o ≡ true
    canceled_taken which k = passes_imply (λ kind. is_own_answer o.request.rest (cancel_answer kind which) && end_with_own (answers_to F o) (outs o) (cancel_answer kind which)) (λ kind. is_own_answer o.request.rest (cancel_answer kind which) && end_with_own (replies list o.name) (outs o) (cancel_answer kind which)) (kind_of o.request.rest) (λ kind j. both (is_own_answer o.request.rest (cancel_answer kind which)) _ (left (is_own_answer o.request.rest (cancel_answer kind which)) _ j) (own_taken (cancel_answer kind which) (right (is_own_answer o.request.rest (cancel_answer kind which)) _ j))) k
