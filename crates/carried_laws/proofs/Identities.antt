-- Each success that a client took of a Bind whose identity is asked for tells the identity that the family says.
use Rattle.std.proofs.Common.{◌≡◌, ℕ, Bool, true, false, ◌==◌, ◌&&◌, ◌||◌, not, List, [], ◌∷◌, ◌++◌, length, arith, refl, ap, ◌∙◌, sym, subst}
use Rattle.std.specs.Prelude.{Option, Some, None, cond, find, nat_le}
use Rattle.std.specs.List.{list_any, list_all}
use Rattle.std.proofs.lemmas.Bool.Decides.{nat_tests}
use Rattle.std.proofs.lemmas.List.Folds.{list_all-append}
use Rattle.ldap_spec.specs.Responses.{has_code, who_value}
use Rattle.ldap_spec.specs.Tags.{success}
use Rattle.lload_names.specs.Same.{same_who}
use Rattle.lload_names.specs.declared.names.ConnKind.TheVariants.{Regular, Bind as BindKind}
use Rattle.lload_names.specs.declared.names.Entry.{Entry}
use Rattle.lload_names.specs.declared.names.Letter.{Letter}
use Rattle.lload_names.specs.declared.names.Letter.TheVariants.{Reply}
use Rattle.lload_names.specs.declared.names.OpName.{OpName}
use Rattle.lload_names.specs.declared.names.PartName.{PartName}
use Rattle.lload_names.specs.declared.names.PartName.TheVariants.{Desk, Client, Up as Connection}
use Rattle.lload_names.specs.declared.names.Posted.{Posted}
use Rattle.lload_spec.specs.Answers.{Sending, sendings, sendings_at, all_sendings, sendings_of, asks_who, closing, closing_at}
use Rattle.lload_spec.specs.Entries.{is_of_connection}
use Rattle.lload_spec.specs.Fifo.{is_sent_once}
use Rattle.lload_spec.specs.Identity.{who_by}
use Rattle.lload_spec.specs.Journal.{Family, IsWhole, same_op, same_part}
use Rattle.lload_spec.specs.Lists.{each_split_from, first, implies, passes, where_there}
use Rattle.lload_spec.specs.Operations.{Operation, operation, operation_in, operations, operations_of, is_final_for}
use Rattle.lload_spec.specs.Settings.{Settings, is_of_kind}
use Rattle.lload_spec.specs.Strict.{lives_as_connection}
use Rattle.lload_spec.proofs.Growth.{left, right, both}
use Rattle.lload_laws.proofs.ListLaws.{any-filter, any_imply, found, found_passes}
use Rattle.part_laws.proofs.ListLaws.{any_before, any_behind, eqb_same, false_by, implies_stays, or_elim, same_number, same_op_eq}
use Rattle.part_spec.specs.Fit.{ClientLedger, Expected, empty_client_ledger, empty_connection_ledger, step_client_ledger, step_connection_ledger, fits_client, fits_connection, are_fit_from, is_unfit, answers, is_known}
use Rattle.part_spec.specs.Gives.{gives}
use Rattle.part_spec.specs.Marked.{Marked, Taken, entries, letters_to}
use Rattle.part_spec.specs.Share.{ConnectionShare}
use Rattle.bind_laws.specs.Turns.{are_told_rightly}
use Rattle.connection_laws.specs.Turns.{connection_list}
use Rattle.fifo_laws.specs.Laws.{FifoSentOnce}
use Rattle.joined_laws.proofs.Choices.{split_right}
use Rattle.joined_laws.proofs.Taken.{is_mark_from, was_given, is_fit_there}
use Rattle.client_answer_laws.proofs.Known.{or_false_left, or_false_right}
use Rattle.carried_laws.specs.Laws.{IsMade, Played, are_forwards_right, is_identity_right, are_identities_right, is_reply_right, is_settled_so, tells_rightly}
use Rattle.carried_laws.proofs.BindReplies.{are_replies_right}
use Rattle.carried_laws.proofs.BindWalk.{bind_replies_right}
use Rattle.carried_laws.proofs.RegularReplies.{regular_from, told_from}
use Rattle.carried_laws.proofs.Taken.{forwards_right}

-- Lists.

-- of one at most, the one that passes is the first
record FirstIs {A : Type 0} (t : A → Bool) (xs : List A) : Type 0 where
  one : A
  is : first xs ≡ Some one
  passed : t one ≡ true

first_is : {A : Type 0} (t : A → Bool) (xs : List A) → nat_le (length xs) 1 ≡ true → list_any t xs ≡ true → FirstIs t xs
first_is t [] h k = absurd (let bad : false ≡ true = k in cc)
first_is t (x ∷ []) h k = record { one = x; is = refl; passed = or_elim (t x) false (λ j. j) (λ j. absurd (let bad : false ≡ true = j in cc)) k }
first_is t (x ∷ y ∷ xs) h k = absurd (grind (arith, nat_tests, h))

module _ (F : Family) (whole : IsWhole F) where
  -- the operations of a client are among all
  among_all : (t : Operation → Bool) (c : ℕ) (cs : List ℕ) → list_any (λ n. n == c) cs ≡ true → list_all t (operations_of F cs) ≡ true → list_all t (operations c (F.client c)) ≡ true
  among_all t c [] h k = absurd (let bad : false ≡ true = h in cc)
  among_all t c (n ∷ cs) h k =
      let parts : (list_all t (operations n (F.client n)) && list_all t (operations_of F cs)) ≡ true = sym (list_all-append t (operations n (F.client n)) (operations_of F cs)) ∙ k in
      or_elim (n == c) (list_any (λ m. m == c) cs) (λ j. subst (λ v. list_all t (operations v (F.client v)) ≡ true) (same_number n c j) (left (list_all t (operations n (F.client n))) _ parts)) (λ j. among_all t c cs j (right (list_all t (operations n (F.client n))) _ parts)) h

  -- what is so of all operations is so of the one of a name
  pub named_so : (t : Operation → Bool) (op : OpName) (o : Operation) → list_all t (operations_of F F.clients) ≡ true → operation F op ≡ Some o → t o ≡ true
  named_so t op o h e = by (list_any (λ n. n == op.client) F.clients) refl
    where
      by : (b : Bool) → list_any (λ n. n == op.client) F.clients ≡ b → t o ≡ true
      by true k = found t (λ x. same_op op x.name) (operations op.client (F.client op.client)) o e (among_all t op.client F.clients k h)
      by false k = absurd (let bad : None ≡ Some o = sym (ap (λ l. operation_in op.client l op) (whole.clients_named op.client k)) ∙ e in cc)

  -- the Sents of a connection are among all
  sents_among : (t : Sending → Bool) (u : ℕ) (us : List ℕ) → list_any (λ n. n == u) us ≡ true → list_any t (sendings u (F.connection u)) ≡ true → list_any t (sendings_at F us) ≡ true
  sents_among t u [] h k = absurd (let bad : false ≡ true = h in cc)
  sents_among t u (n ∷ us) h k = or_elim (n == u) (list_any (λ m. m == u) us) (λ j. any_before t (sendings n (F.connection n)) (sendings_at F us) (subst (λ v. list_any t (sendings v (F.connection v)) ≡ true) (sym (same_number n u j)) k)) (λ j. any_behind t (sendings n (F.connection n)) (sendings_at F us) (sents_among t u us j k)) h

  all_sents : (t : Sending → Bool) (u : ℕ) → list_any t (sendings u (F.connection u)) ≡ true → list_any t (all_sendings F) ≡ true
  all_sents t u h = by (list_any (λ n. n == u) F.connections) refl
    where
      by : (b : Bool) → list_any (λ n. n == u) F.connections ≡ b → list_any t (all_sendings F) ≡ true
      by true k = sents_among t u F.connections k h
      by false k = absurd (let bad : false ≡ true = sym (ap (λ l. list_any t (sendings u l)) (whole.connections_named u k)) ∙ h in cc)

module _ (s : Settings) (F : Family) (marked : PartName → List Marked) (once : FifoSentOnce) (h : Played s F marked) where
  -- what settles an operation by a Sent of a connection settles it by the family
  closed_so : (u : ℕ) (op : OpName) (rest : List ℕ) (who : Option (List ℕ)) (o : Operation) → operation F op ≡ Some o → list_any (is_settled_so s op who o) (sendings u (F.connection u)) ≡ true → same_who who (who_by (closing s F o)) ≡ true
  closed_so u op rest who o e k =
      let name : op ≡ o.name = same_op_eq op o.name (found_passes (λ x. same_op op x.name) (operations op.client (F.client op.client)) o e) in
      let few : nat_le (length (sendings_of F o.name)) 1 ≡ true = named_so F h.whole (is_sent_once F) op o (once s F marked h.whole h.joined) e in
      let any : list_any (λ x. same_op op x.op && is_settled_so s op who o x) (all_sendings F) ≡ true = all_sents F h.whole (λ x. same_op op x.op && is_settled_so s op who o x) u (any_imply (is_settled_so s op who o) (λ x. same_op op x.op && is_settled_so s op who o x) (sendings u (F.connection u)) (λ x j. both (same_op op x.op) _ (left (same_op op x.op) _ j) j) k) in
      let there : list_any (is_settled_so s op who o) (sendings_of F o.name) ≡ true = ap (λ n. list_any (is_settled_so s op who o) (sendings_of F n)) (sym name) ∙ any-filter (is_settled_so s op who o) (λ x. same_op op x.op) (all_sendings F) ∙ any in
      let one : FirstIs (is_settled_so s op who o) (sendings_of F o.name) = first_is (is_settled_so s op who o) (sendings_of F o.name) few there in
      ap (λ q. same_who who (who_by (elim q [ None ↦ None | Some sent ↦ closing_at s o sent ]))) one.is ∙ tells (closing_at s o one.one) (right (same_op op one.one.op) _ one.passed)
    where
      tells : (q : Option (List ℕ)) → passes (λ a. same_who who (who_value a)) q ≡ true → same_who who (who_by q) ≡ true
      tells None j = absurd (let bad : false ≡ true = j in cc)
      tells (Some a) j = j

  identity_so : (u : ℕ) (x : Letter) → is_reply_right s F (sendings u (F.connection u)) x ≡ true → is_identity_right s F x ≡ true
  identity_so u (Reply op rest is_last who) k = by (operation F op) refl k
    where
      by : (o : Option Operation) → operation F op ≡ o → passes (tells_rightly s op rest who (sendings u (F.connection u))) o ≡ true → passes (λ q. implies (asks_who s q && (is_final_for q.request rest && has_code success rest)) (same_who who (who_by (closing s F q)))) o ≡ true
      by None e j = absurd (let bad : false ≡ true = j in cc)
      by (Some o) e j = implies_stays (asks_who s o && (is_final_for o.request rest && has_code success rest)) (list_any (is_settled_so s op who o) (sendings u (F.connection u))) _ (closed_so u op rest who o e) j
  identity_so u _ k = refl

  -- What connections give.

  connection : (u : ℕ) → ConnectionShare s u (marked (Connection u))
  connection u = h.joined.shared.shares (Connection u)

  made_of : (u : ℕ) → IsMade (connection_list s u) (marked (Connection u))
  made_of u = h.connections u

  replies_right : (u : ℕ) → are_replies_right s F (sendings u (F.connection u)) (gives s (Connection u) (marked (Connection u))) ≡ true
  replies_right u = by (is_of_kind s BindKind u) refl
    where
      told : are_forwards_right s F (marked (Connection u)) ≡ true
      told = forwards_right s F marked h.joined (Connection u)

      same : entries (marked (Connection u)) ≡ F.connection u
      same = h.joined.shared.same_entries (Connection u)

      by : (b : Bool) → is_of_kind s BindKind u ≡ b → are_replies_right s F (sendings u (F.connection u)) (gives s (Connection u) (marked (Connection u))) ≡ true
      by true e =
          let xs = (made_of u).events in
          let list : connection_list s u xs ≡ marked (Connection u) = (made_of u).same in
          let fit : are_fit_from (fits_connection s) (step_connection_ledger s) (empty_connection_ledger s u) (marked (Connection u)) ≡ true = h.joined.fit (Connection u) in
          let rightly : are_told_rightly s F (marked (Connection u)) ≡ true = told_from s F (empty_connection_ledger s u) (marked (Connection u)) (ap (λ b. cond b BindKind Regular) e) told fit in
          let life : each_split_from (λ place (x : Entry) behind. lives_as_connection place x) [] (entries (marked (Connection u))) ≡ true = split_right (λ place (x : Entry) behind. is_of_connection x.what) (λ place (x : Entry) behind. lives_as_connection place x) [] (entries (marked (Connection u))) (connection u).life in
          subst (λ l. are_replies_right s F (sendings u l) (gives s (Connection u) (marked (Connection u))) ≡ true) same
          (subst (λ l. are_replies_right s F (sendings u (entries l)) (gives s (Connection u) l) ≡ true) list
          (bind_replies_right s F u e xs
          (subst (λ l. are_told_rightly s F l ≡ true) (sym list) rightly)
          (subst (λ l. are_fit_from (fits_connection s) (step_connection_ledger s) (empty_connection_ledger s u) l ≡ true) (sym list) fit)
          (subst (λ l. each_split_from (λ place (x : Entry) behind. lives_as_connection place x) [] (entries l) ≡ true) (sym list) life)))
      by false e = regular_from s F (sendings u (F.connection u)) (empty_connection_ledger s u) (marked (Connection u)) (ap (λ b. cond b BindKind Regular) e) refl told (h.joined.fit (Connection u))

  -- What a client took.

  abbrev is_wrong : Letter → Bool
  is_wrong x = not (is_identity_right s F x)

  none_given : (u : ℕ) (q : PartName) (xs : List Posted) → are_replies_right s F (sendings u (F.connection u)) xs ≡ true → list_any is_wrong (letters_to q xs) ≡ false
  none_given u q [] k = refl
  none_given u q (x ∷ xs) k = by (same_part q x.to) (none_given u q xs (right (is_reply_right s F (sendings u (F.connection u)) x.letter) _ k))
    where
      by : (b : Bool) → list_any is_wrong (letters_to q xs) ≡ false → list_any is_wrong ((elim b [ true ↦ x.letter ∷ [] | false ↦ [] ]) ++ letters_to q xs) ≡ false
      by true ih = ap (λ b. not b || list_any is_wrong (letters_to q xs)) (identity_so u x.letter (left (is_reply_right s F (sendings u (F.connection u)) x.letter) _ k)) ∙ ih
      by false ih = ih

  none_taken : (u c : ℕ) → list_any (λ m. is_mark_from (Connection u) is_wrong m.mark) (marked (Client c)) ≡ false
  none_taken u c = false_by (list_any (λ m. is_mark_from (Connection u) is_wrong m.mark) (marked (Client c))) (λ k. sym (none_given u (Client c) (gives s (Connection u) (marked (Connection u))) (replies_right u)) ∙ was_given s F marked h.joined.linked (Connection u) (Client c) is_wrong k)

  -- an answer comes from a connection
  one_right : (l : ClientLedger) (t : Taken) → ((u : ℕ) → (same_part (Connection u) t.sender && is_wrong t.letter) ≡ false) → fits_client s l t.sender t.letter ≡ true → is_identity_right s F t.letter ≡ true
  one_right l t none fit = by t.sender t.letter none fit
    where
      never : (b : Bool) → (b && false) ≡ false
      never true = refl
      never false = refl

      nowhere : (op : OpName) (f : Expected → Bool) (xs : List Expected) → passes f (find (λ x. same_op op x.op && false) xs) ≡ true → false ≡ true
      nowhere op f [] k = k
      nowhere op f (x ∷ xs) k = nowhere op f xs (sym (ap (λ b. passes f (cond b (Some x) (find (λ y. same_op op y.op && false) xs))) (never (same_op op x.op))) ∙ k)

      by : (sender : PartName) (x : Letter) → ((u : ℕ) → (same_part (Connection u) sender && is_wrong x) ≡ false) → fits_client s l sender x ≡ true → is_identity_right s F x ≡ true
      by (Connection u) x n f = right_by (is_identity_right s F x) (sym (ap (λ b. b && is_wrong x) (eqb_same u)) ∙ n u)
        where
          right_by : (b : Bool) → (true && not b) ≡ false → b ≡ true
          right_by true k = refl
          right_by false k = absurd (let bad : true ≡ false = k in cc)
      by Desk (Reply op rest is_last who) n f = absurd (let bad : false ≡ true = nowhere op (λ x. answers x.request rest is_last && is_known s x.request rest who) l.expected f in cc)
      by (Client c) (Reply op rest is_last who) n f = absurd (let bad : false ≡ true = nowhere op (λ x. answers x.request rest is_last && is_known s x.request rest who) l.expected f in cc)
      by Desk _ n f = refl
      by (Client c) _ n f = refl

  abbrev NoneIn : List Marked → Type 0
  NoneIn ms = (u : ℕ) → list_any (λ m. is_mark_from (Connection u) is_wrong m.mark) ms ≡ false

  marks_right : (l : ClientLedger) (ms : List Marked) → NoneIn ms → are_fit_from (fits_client s) (step_client_ledger s) l ms ≡ true → are_identities_right s F ms ≡ true
  marks_right l [] n f = refl
  marks_right l (m ∷ ms) n f =
      both (where_there (λ t. is_identity_right s F t.letter) m.mark) _ (by m.mark refl (λ u. or_false_left (is_mark_from (Connection u) is_wrong m.mark) _ (n u)))
      (marks_right (step_client_ledger s l m) ms (λ u. or_false_right (is_mark_from (Connection u) is_wrong m.mark) _ (n u)) (right (not (is_unfit (fits_client s) l m.mark)) _ f))
    where
      by : (o : Option Taken) → m.mark ≡ o → ((u : ℕ) → is_mark_from (Connection u) is_wrong o ≡ false) → where_there (λ t. is_identity_right s F t.letter) o ≡ true
      by None e k = refl
      by (Some t) e k = one_right l t k (is_fit_there (fits_client s) l t (are_fit_from (fits_client s) (step_client_ledger s) (step_client_ledger s l m) ms) (ap (λ q. not (is_unfit (fits_client s) l q) && are_fit_from (fits_client s) (step_client_ledger s) (step_client_ledger s l m) ms) (sym e) ∙ f))

  pub client_right : (c : ℕ) → are_identities_right s F (marked (Client c)) ≡ true
  client_right c = marks_right (empty_client_ledger c) (marked (Client c)) (λ u. none_taken u c) (h.joined.fit (Client c))
