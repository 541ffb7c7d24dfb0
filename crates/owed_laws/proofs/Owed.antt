-- Where a letter came too late for an operation, such letters and what its client got, but for the answer to a Cancel, are no more
-- than its one connection gave: by how the operation ended.
use Rattle.std.proofs.Common.{◌≡◌, inl, inr, ℕ, zero, suc, ◌+◌, ◌≤◌, Bool, true, false, ◌==◌, ◌&&◌, ◌||◌, not, List, [], ◌∷◌, ◌++◌, length, arith, refl, ap, ◌∙◌, sym, subst}
use Rattle.std.specs.Prelude.{Option, Some, None, filter, if◌then◌else◌, nat_le}
use Rattle.std.specs.List.{list_all, list_any}
use Rattle.std.specs.Str.{bytes_eq}
use Rattle.std.proofs.lemmas.Bool.{le-leb}
use Rattle.std.proofs.lemmas.List.{length-append}
use Rattle.lload_names.specs.declared.names.CancelAnswer.{CancelAnswer}
use Rattle.lload_names.specs.declared.names.CancelAnswer.TheVariants.{C13}
use Rattle.lload_names.specs.declared.names.Letter.{Letter}
use Rattle.lload_names.specs.declared.names.Letter.TheVariants.{Failed, Reply}
use Rattle.lload_names.specs.declared.names.OpName.{OpName}
use Rattle.lload_names.specs.declared.names.PartName.{PartName}
use Rattle.lload_names.specs.declared.names.PartName.TheVariants.{Client, Up as Connection}
use Rattle.lload_names.specs.declared.names.Refusal.{Refusal}
use Rattle.lload_names.specs.declared.names.Refusal.TheVariants.{C4, C5, C9}
use Rattle.lload_spec.specs.Caused.{is_late_caused}
use Rattle.lload_spec.specs.Fifo.{allowed, is_prefix_and_own}
use Rattle.lload_spec.specs.Journal.{Family, same_op}
use Rattle.lload_spec.specs.Lists.{each_split_from, is_prefix, passes}
use Rattle.lload_spec.specs.Operations.{Operation, is_final_to, is_live, operation, operation_in, outs}
use Rattle.lload_spec.specs.Owed.{count_late, count_of, count_told, is_canceled, is_late_of, was_forwarded}
use Rattle.lload_spec.specs.Settings.{Settings}
use Rattle.lload_spec.specs.Strict.{is_late_own}
use Rattle.lload_spec.proofs.Growth.{left, right}
use Rattle.lload_laws.proofs.ListLaws.{filter-ext, implied}
use Rattle.part_laws.proofs.ListLaws.{or_elim, or_left, or_right, same_number, splits_both}
use Rattle.part_spec.specs.ClientState.{empty_client}
use Rattle.part_spec.specs.Fit.{are_fit_from, empty_client_ledger, fits_client, step_client_ledger}
use Rattle.part_spec.specs.Gives.{gives}
use Rattle.part_spec.specs.Marked.{Marked, Taken, entries, letters_to}
use Rattle.part_spec.specs.Share.{ClientShare, answer_told, has_cancel_cause, has_cause, has_letter, is_failure, replies, reply_rest}
use Rattle.client_laws.specs.Turns.{client_list}
use Rattle.client_laws.proofs.ClientClauses.{nothing_kept}
use Rattle.client_answer_laws.proofs.Causes.{CanceledSo, Caused, EndsSo, RefusedSo}
use Rattle.client_answer_laws.proofs.OwnTexts.{apart, one_refusal}
use Rattle.client_answer_laws.proofs.ToldKept.{told_begins}
use Rattle.joined_laws.proofs.Taken.{is_mark_from}
use Rattle.joined_laws.proofs.Walks.{Begun, begun}
use Rattle.carried_laws.specs.Laws.{Played}
use Rattle.identity_laws.specs.Laws.{ChecksAreKnown, ClientsAreKnown}
use Rattle.sent_laws.specs.Laws.{GoesRightly}
use Rattle.told_laws.specs.Laws.{tells_of_upstream}
use Rattle.told_laws.proofs.Letters.{is_from, is_mark_of, letter_for, letters_for, of_operation}
use Rattle.told_laws.proofs.Sources.{from_home, given_there, home, letters_begin}
use Rattle.late_laws.specs.Laws.{LatesAreOwn}
use Rattle.given_laws.specs.Laws.{count_given, is_letter_for}
use Rattle.given_laws.proofs.Counts.{same_letters}
use Rattle.owed_laws.specs.Laws.{LatesAreTaken}
use Rattle.owed_laws.proofs.Canceled.{canceled_from}
use Rattle.owed_laws.proofs.Counts.{all_in_time, both_taken, in_time, late, taken}
use Rattle.owed_laws.proofs.Ended.{Ended, Kept, is_late_so, kept_from}
use Rattle.owed_laws.proofs.Unsent.{is_canceling, some_each, unanswered_own, unrefused_own}

-- What a client may get.

prefix_few : (rs as' : List (List ℕ)) → is_prefix rs as' ≡ true → length rs ≤ length as'
prefix_few [] as' h = omega arith
prefix_few (r ∷ rs) [] h = absurd (let bad : false ≡ true = h in cc)
prefix_few (r ∷ rs) (a ∷ as') h = let ih : length rs ≤ length as' = prefix_few rs as' (right (bytes_eq r a) _ h) in omega (arith, ih)

own_few : (request : List ℕ) (rs as' : List (List ℕ)) → is_prefix_and_own request as' rs ≡ true → length rs ≤ length as' + 1
own_few request [] as' h = omega arith
own_few request (r ∷ []) as' h = omega arith
own_few request (r ∷ q ∷ rs) [] h = absurd (let bad : false ≡ true = h in cc)
own_few request (r ∷ q ∷ rs) (a ∷ as') h = let ih : length (q ∷ rs) ≤ length as' + 1 = own_few request (q ∷ rs) as' (right (bytes_eq r a && not (is_final_to request a)) _ h) in omega (arith, ih)

allowed_few : (request : List ℕ) (as' rs : List (List ℕ)) → allowed request as' rs ≡ true → length rs ≤ length as' + 1
allowed_few request as' rs h = or_elim (is_prefix rs as') (is_prefix_and_own request as' rs) (λ k. let few : length rs ≤ length as' = prefix_few rs as' k in omega (arith, few)) (own_few request rs as') h

-- The answers among the letters for an operation.
module _ (n : OpName) where
  answer_few : (mark : Option Taken) → length (reply_rest n mark) ≤ length (letter_for n mark)
  answer_few None = omega arith
  answer_few (Some t) = by t.letter
    where
      on : (b : Bool) (rest : List ℕ) (x : Letter) → length (if b then rest ∷ [] else []) ≤ length (if b then x ∷ [] else [])
      on true rest x = omega arith
      on false rest x = omega arith

      nothing : (b : Bool) (x : Letter) → 0 ≤ length (if b then x ∷ [] else [])
      nothing b x = omega arith

      by : (x : Letter) → length (answer_told n x) ≤ length (if of_operation n x then x ∷ [] else [])
      by (Reply o rest is_last who) = on (same_op n o) rest (Reply o rest is_last who)
      by (Failed o which) = nothing (same_op n o) (Failed o which)
      by _ = omega arith

  answers_few : (ms : List Marked) → length (replies ms n) ≤ length (letters_for n ms)
  answers_few [] = omega arith
  answers_few (m ∷ ms) =
      let one : length (reply_rest n m.mark) ≤ length (letter_for n m.mark) = answer_few m.mark in
      let more : length (replies ms n) ≤ length (letters_for n ms) = answers_few ms in
      let a : length (reply_rest n m.mark ++ replies ms n) ≡ length (reply_rest n m.mark) + length (replies ms n) = length-append (reply_rest n m.mark) (replies ms n) in
      let d : length (letter_for n m.mark ++ letters_for n ms) ≡ length (letter_for n m.mark) + length (letters_for n ms) = length-append (letter_for n m.mark) (letters_for n ms) in
      omega (arith, one, more, a, d)

  -- a refusal is none of them
  refusal_few : (which : Refusal) (mark : Option Taken) → passes (λ t. is_failure n which t.letter) mark ≡ true → length (reply_rest n mark) + 1 ≤ length (letter_for n mark)
  refusal_few which None h = absurd (let bad : false ≡ true = h in cc)
  refusal_few which (Some t) h = by t.letter h
    where
      on : (b : Bool) (x : Letter) → b ≡ true → 1 ≤ length (if b then x ∷ [] else [])
      on true x e = omega arith
      on false x e = absurd (let bad : false ≡ true = e in cc)

      by : (x : Letter) → is_failure n which x ≡ true → length (answer_told n x) + 1 ≤ length (if of_operation n x then x ∷ [] else [])
      by (Failed o other) k = on (same_op n o) (Failed o other) (left (same_op n o) _ k)
      by _ k = absurd (let bad : false ≡ true = k in cc)

  refused_few : (which : Refusal) (ms : List Marked) → list_any (has_letter (is_failure n which)) ms ≡ true → length (replies ms n) + 1 ≤ length (letters_for n ms)
  refused_few which [] h = absurd (let bad : false ≡ true = h in cc)
  refused_few which (m ∷ ms) h =
      let a : length (reply_rest n m.mark ++ replies ms n) ≡ length (reply_rest n m.mark) + length (replies ms n) = length-append (reply_rest n m.mark) (replies ms n) in
      let d : length (letter_for n m.mark ++ letters_for n ms) ≡ length (letter_for n m.mark) + length (letters_for n ms) = length-append (letter_for n m.mark) (letters_for n ms) in
      or_elim (has_letter (is_failure n which) m) (list_any (has_letter (is_failure n which)) ms)
      (λ k. let one : length (reply_rest n m.mark) + 1 ≤ length (letter_for n m.mark) = refusal_few which m.mark k in let more : length (replies ms n) ≤ length (letters_for n ms) = answers_few ms in omega (arith, one, more, a, d))
      (λ k. let one : length (reply_rest n m.mark) ≤ length (letter_for n m.mark) = answer_few m.mark in let more : length (replies ms n) + 1 ≤ length (letters_for n ms) = refused_few which ms k in omega (arith, one, more, a, d)) h

  -- where some letter was taken, its mark is from the one connection
  some_from : (u : ℕ) (ms : List Marked) → list_all (λ m. is_from u n m.mark) ms ≡ true → 1 ≤ length (letters_for n ms) → list_any (λ m. is_mark_from (Connection u) (of_operation n) m.mark) ms ≡ true
  some_from u [] h k = absurd (omega (arith, k))
  some_from u (m ∷ ms) h k = by (is_mark_of n m.mark) refl (some_from u ms (right (is_from u n m.mark) _ h))
    where
      none : (mark : Option Taken) → is_mark_of n mark ≡ false → letter_for n mark ≡ []
      none None e = refl
      none (Some t) e = ap (λ b. if b then t.letter ∷ [] else []) e

      by : (b : Bool) → is_mark_of n m.mark ≡ b → (1 ≤ length (letters_for n ms) → list_any (λ x. is_mark_from (Connection u) (of_operation n) x.mark) ms ≡ true) → (is_mark_from (Connection u) (of_operation n) m.mark || list_any (λ x. is_mark_from (Connection u) (of_operation n) x.mark) ms) ≡ true
      by true e ih = or_left (is_mark_from (Connection u) (of_operation n) m.mark) _ (implied (is_mark_of n m.mark) _ (left (is_from u n m.mark) _ h) e)
      by false e ih =
          let less : length (letter_for n m.mark ++ letters_for n ms) ≡ length (letters_for n ms) = ap (λ l. length (l ++ letters_for n ms)) (none m.mark e) in
          or_right (is_mark_from (Connection u) (of_operation n) m.mark) _ (ih (omega (arith, k, less)))

module _ (own : LatesAreOwn) (are_known : ClientsAreKnown) (checks : ChecksAreKnown) (goes : GoesRightly) (s : Settings) (F : Family) (marked : PartName → List Marked) (h : Played s F marked) (o : Operation) (there : operation F o.name ≡ Some o) where
  abbrev c : ℕ
  c = o.name.client

  abbrev list : List Marked
  list = marked (Client o.name.client)

  abbrev at : ℕ
  at = home s F marked h.joined o.name

  share : ClientShare s c list
  share = h.joined.shared.shares (Client c)

  begun_all : Begun s c [] (empty_client c) list
  begun_all = begun s c list share

  abbrev AreSo : List Marked → Type 0
  AreSo l = each_split_from (λ b e r. is_late_so s o.name.client o.name.k b e) [] (entries l) ≡ true

  abbrev is_own : ℕ → Bool
  is_own d = each_split_from (λ b e r. is_late_own d b e) [] (F.client d)

  lates_own : is_own c ≡ true
  lates_own = by (list_any (λ d. d == c) F.clients) refl
    where
      by : (b : Bool) → list_any (λ d. d == c) F.clients ≡ b → is_own c ≡ true
      by true k = some_each (λ d. d == c) is_own F.clients (λ d i j. subst (λ v. is_own v ≡ true) (same_number d c i) j) k (own s F marked h.joined)
      by false k = ap (each_split_from (λ b e r. is_late_own c b e) []) (h.whole.clients_named c k)

  late_so : AreSo list
  late_so = splits_both (λ b e r. is_late_own c b e) (λ b e r. is_late_caused c b e) [] (entries list) (ap (each_split_from (λ b e r. is_late_own c b e) []) (h.joined.shared.same_entries (Client c)) ∙ lates_own) share.late

  kept : Kept s c o.name.k list
  kept =
      let same : client_list s c (h.clients c).events ≡ list = (h.clients c).same in
      subst (Kept s c o.name.k) same
      (kept_from s c o.name.k (h.clients c).events [] (empty_client_ledger c) (nothing_kept s c) (told_begins s c)
      (subst (Begun s c [] (empty_client c)) (sym same) begun_all)
      (subst AreSo (sym same) late_so)
      (subst (λ l. are_fit_from (fits_client s) (step_client_ledger s) (empty_client_ledger c) l ≡ true) (sym same) (h.joined.fit (Client c)))
      (record { early = λ d. refl; ended = λ q z d. absurd (let bad : None ≡ Some q = z in cc) }))

  stands : operation_in c (entries list) o.name ≡ Some o
  stands = ap (λ l. operation_in c l o.name) (h.joined.shared.same_entries (Client c)) ∙ there

  lates : late s c o.name.k list ≡ count_late F o
  lates = ap (λ l. length (filter (is_late_of o.name) l)) (h.joined.shared.same_entries (Client c))

  both_of : late s c o.name.k list + in_time s c o.name.k list ≤ taken s c o.name.k list
  both_of = both_taken s c o.name.k [] (empty_client c) list begun_all

  -- what the client took for it is among what its one connection gave
  taken_given : taken s c o.name.k list ≤ count_given s marked o.name at
  taken_given =
      let begins = letters_begin s F marked h.joined o.name in
      let given : List Letter = letters_to (Client c) (gives s (Connection at) (marked (Connection at))) in
      let all : length (filter (is_letter_for o.name) given) ≡ length (letters_for o.name list) + length begins.0 = ap length (filter-ext (is_letter_for o.name) (of_operation o.name) given (same_letters o.name) ∙ begins.1) ∙ length-append (letters_for o.name list) begins.0 in
      omega (arith, all)

  -- where one came too late
  module _ (some : (count_late F o == 0) ≡ false) where
    some_late : 1 ≤ count_late F o
    some_late = by (count_late F o) refl
      where
        by : (d : ℕ) → count_late F o ≡ d → 1 ≤ d
        by zero e = absurd (let bad : true ≡ false = sym (ap (λ x. x == 0) e) ∙ some in cc)
        by (suc d) e = omega arith

    came : was_forwarded o.name (F.connection at) ≡ true
    came =
        let few : late s c o.name.k list + in_time s c o.name.k list ≤ taken s c o.name.k list = both_of in
        let same : late s c o.name.k list ≡ count_late F o = lates in
        let one : 1 ≤ count_late F o = some_late in
        given_there s F marked h.joined o.name at c (some_from o.name at list (from_home s F marked h.joined o.name c) (omega (arith, few, same, one)))

    -- what the client got is what came in time, but for the answer to a Cancel
    abbrev AreFew : Type 0
    AreFew = length (outs o) ≤ in_time s o.name.client o.name.k (marked (Client o.name.client)) + count_of (is_canceled o)

    module _ (e : Ended s c o.name.k list o) where
      timely : length (letters_for e.was.name e.at) ≤ in_time s c o.name.k list
      timely =
          let all : taken s c o.name.k e.at ≡ in_time s c o.name.k e.at = all_in_time s c o.name.k e.at e.none in
          let same : length (letters_for e.was.name e.at) ≡ taken s c o.name.k e.at = ap (λ x. length (letters_for x e.at)) e.named in
          let more : in_time s c o.name.k e.at ≤ in_time s c o.name.k list = e.more in
          omega (arith, all, same, more)

      got : length (outs o) ≡ length (outs e.was)
      got = ap length e.same

      -- by a beginning of the answers
      of_answers : is_prefix (outs e.was) (replies e.at e.was.name) ≡ true → AreFew
      of_answers p =
          let few : length (outs e.was) ≤ length (replies e.at e.was.name) = prefix_few (outs e.was) (replies e.at e.was.name) p in
          let fewer : length (replies e.at e.was.name) ≤ length (letters_for e.was.name e.at) = answers_few e.was.name e.at in
          let all : length (letters_for e.was.name e.at) ≤ in_time s c o.name.k list = timely in
          let same : length (outs o) ≡ length (outs e.was) = got in
          omega (arith, few, fewer, all, same)

      more_than : length (outs e.was) ≤ length (replies e.at e.was.name) + 1
      more_than = allowed_few e.was.request.rest (replies e.at e.was.name) (outs e.was) e.says.answered

      -- by a refusal of its connection
      failed : (which : Refusal) → tells_of_upstream which ≡ true → has_cause s e.at e.was which ≡ true → list_any (has_letter (is_failure e.was.name which)) e.at ≡ true
      failed C4 t k = k
      failed C5 t k = k
      failed C9 t k = left (list_any (has_letter (is_failure e.was.name C9)) e.at) _ k
      failed _ t k = absurd (let bad : false ≡ true = t in cc)

      of_failure : (which : Refusal) → tells_of_upstream which ≡ true → has_cause s e.at e.was which ≡ true → AreFew
      of_failure which t k =
          let few : length (outs e.was) ≤ length (replies e.at e.was.name) + 1 = more_than in
          let fewer : length (replies e.at e.was.name) + 1 ≤ length (letters_for e.was.name e.at) = refused_few e.was.name which e.at (failed which t k) in
          let all : length (letters_for e.was.name e.at) ≤ in_time s c o.name.k list = timely in
          let same : length (outs o) ≡ length (outs e.was) = got in
          omega (arith, few, fewer, all, same)

      -- by a Cancel
      of_cancel : is_canceled o ≡ true → AreFew
      of_cancel k =
          let few : length (outs e.was) ≤ length (replies e.at e.was.name) + 1 = more_than in
          let fewer : length (replies e.at e.was.name) ≤ length (letters_for e.was.name e.at) = answers_few e.was.name e.at in
          let all : length (letters_for e.was.name e.at) ≤ in_time s c o.name.k list = timely in
          let same : length (outs o) ≡ length (outs e.was) = got in
          let one : count_of (is_canceled o) ≡ 1 = ap count_of k in
          omega (arith, few, fewer, all, same, one)

      -- by the proxy's own: then nothing was forwarded
      never : false ≡ true → AreFew
      never k = absurd (let bad : false ≡ true = k in cc)

      of_refusal : (rest : List ℕ) (r : RefusedSo s e.at e.was rest) → Caused s list o rest → AreFew
      of_refusal rest r (inl q) = by (tells_of_upstream r.which) refl
        where
          same : q.which ≡ r.which
          same = one_refusal q.kind r.kind q.which r.which (sym q.is_it ∙ r.is_it)

          by : (b : Bool) → tells_of_upstream r.which ≡ b → AreFew
          by true t = of_failure r.which t r.cause
          by false t = never (unrefused_own are_known checks goes s F marked h o there at came r.which t (subst (λ w. has_cause s list o w ≡ true) same q.cause))
      of_refusal rest r (inr q) = apart r.kind q.kind r.which q.which (sym r.is_it ∙ q.is_it)

      of_answer : (rest : List ℕ) (r : CanceledSo s e.at e.was rest) → Caused s list o rest → AreFew
      of_answer rest r (inl q) = apart q.kind r.kind q.which r.which (sym q.is_it ∙ r.is_it)
      of_answer rest r (inr q) = by q.which (is_canceling q.which) refl q.cause
        where
          ended_by : has_cancel_cause s list o C13 ≡ true → is_canceled o ≡ true
          ended_by k = sym (ap (passes is_canceled) stands) ∙ canceled_from s list o [] (empty_client c) list begun_all k stands

          by : (w : CancelAnswer) (b : Bool) → is_canceling w ≡ b → has_cancel_cause s list o w ≡ true → AreFew
          by C13 b t k = of_cancel (ended_by k)
          by w false t k = never (unanswered_own are_known checks goes s F marked h o there at came w t k)
          by w true t k = absurd (let bad : false ≡ true = t in cc)

      few_by : EndsSo s e.at e.was → AreFew
      few_by (inl p) = of_answers p
      few_by (inr q) = on q.caused
        where
          on : Caused s e.at e.was q.rest → AreFew
          on (inl r) = of_refusal q.rest r (e.stays q.rest (inl r))
          on (inr r) = of_answer q.rest r (e.stays q.rest (inr r))

    got_few : AreFew
    got_few = by (is_live o) refl
      where
        by : (b : Bool) → is_live o ≡ b → AreFew
        by true d = absurd (let none : late s c o.name.k list ≡ 0 = kept.early (ap (passes (λ x. not (is_live x))) stands ∙ ap not d) in let same : late s c o.name.k list ≡ count_late F o = lates in let one : 1 ≤ count_late F o = some_late in omega (arith, none, same, one))
        by false d = let e : Ended s c o.name.k list o = kept.ended o stands d in few_by e e.says.ends

    few_owed : nat_le (count_late F o + count_told o) (count_given s marked o.name at) ≡ true
    few_owed =
        let got : length (outs o) ≤ in_time s c o.name.k list + count_of (is_canceled o) = got_few in
        let few : late s c o.name.k list + in_time s c o.name.k list ≤ taken s c o.name.k list = both_of in
        let given : taken s c o.name.k list ≤ count_given s marked o.name at = taken_given in
        let same : late s c o.name.k list ≡ count_late F o = lates in
        le-leb (count_late F o + count_told o) (count_given s marked o.name at) (omega (arith, got, few, given, same))

  owed : (count_late F o == 0 || nat_le (count_late F o + count_told o) (count_given s marked o.name at)) ≡ true
  owed = by (count_late F o == 0) refl
    where
      by : (b : Bool) → (count_late F o == 0) ≡ b → (count_late F o == 0 || nat_le (count_late F o + count_told o) (count_given s marked o.name at)) ≡ true
      by true e = or_left (count_late F o == 0) _ e
      by false e = or_right (count_late F o == 0) _ (few_owed e)

  forwarded : (count_late F o == 0 || was_forwarded o.name (F.connection at)) ≡ true
  forwarded = by (count_late F o == 0) refl
    where
      by : (b : Bool) → (count_late F o == 0) ≡ b → (count_late F o == 0 || was_forwarded o.name (F.connection at)) ≡ true
      by true e = or_left (count_late F o == 0) _ e
      by false e = or_right (count_late F o == 0) _ (came e)

pub lates_taken : LatesAreOwn → ClientsAreKnown → ChecksAreKnown → GoesRightly → LatesAreTaken
lates_taken own are_known checks goes s F marked h o there =
    record {
      source = home s F marked h.joined o.name;
      few = owed own are_known checks goes s F marked h o there;
      forwarded = forwarded own are_known checks goes s F marked h o there;
    }
