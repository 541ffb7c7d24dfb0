-- The cause of each answer of the proxy's own, where it is told: the choice or the letter directly before it, or the check
-- of the message directly before it.
use Rattle.std.proofs.Common.{◌≡◌, ℕ, inl, inr, Bool, true, false, ◌==◌, ◌&&◌, List, [], ◌∷◌, ◌++◌, length, refl, ap, ◌∙◌, sym, subst, append_assoc}
use Rattle.std.specs.Prelude.{Option, Some, None, find, is_some, if◌then◌else◌}
use Rattle.std.specs.List.{list_any, list_all}
use Rattle.std.proofs.lemmas.List.{append-nil, map-append}
use Rattle.std.proofs.lemmas.List.Folds.{list_all-append}
use Rattle.std.proofs.Math.Seq.{take-append_seam}
use Rattle.ldap_spec.specs.Messages.{Message}
use Rattle.ldap_spec.specs.Kinds.{kind_of}
use Rattle.ldap_spec.specs.Bodies.{refusal, cancel_answer}
use Rattle.lload_names.specs.Same.{refusal_number}
use Rattle.lload_names.specs.declared.names.Entry.{Entry}
use Rattle.lload_names.specs.declared.names.OpName.{OpName}
use Rattle.lload_names.specs.declared.names.OpKind.{OpKind}
use Rattle.lload_names.specs.declared.names.Answer.{Answer}
use Rattle.lload_names.specs.declared.names.Refusal.{Refusal}
use Rattle.lload_names.specs.declared.names.Refusal.TheVariants.{C4, C5, C9}
use Rattle.lload_names.specs.declared.names.CancelAnswer.{CancelAnswer}
use Rattle.lload_names.specs.declared.names.CancelAnswer.TheVariants.{S1, C13, C14, C15, C16}
use Rattle.lload_names.specs.declared.names.PartName.{PartName}
use Rattle.lload_names.specs.declared.names.PartName.TheVariants.{Client}
use Rattle.lload_names.specs.declared.names.Letter.TheVariants.{Failed}
use Rattle.lload_names.specs.declared.names.What.TheVariants as what
use Rattle.lload_spec.specs.Lists.{passes, first_passes, some_split_from}
use Rattle.lload_spec.specs.Settings.{Settings}
use Rattle.lload_spec.specs.Journal.{family, of_part, same_op, same_part, same_answer}
use Rattle.lload_spec.specs.Operations.{Operation, operations, operation_in, outs_under, is_live, is_live_at}
use Rattle.lload_spec.specs.Answers.{asks_who}
use Rattle.lload_spec.specs.FirstCheck.{Check, Refuses, Answers, Cancels}
use Rattle.lload_spec.specs.Caused.{is_refusal_of, is_cancel_answer_of, is_followed_up, refuses_with, answers_with, is_checked_so, is_live_choice, is_refused_by_choice, cancels_id, is_canceled_by}
use Rattle.part_spec.specs.Marked.{Marked, Taken, entries}
use Rattle.part_spec.specs.ClientState.{ClientState, ClientRow, empty_client, step_client, client_of, facts_of, check_at}
use Rattle.part_spec.specs.Fit.{is_loss, ledger_behind as behind}
use Rattle.part_spec.specs.Share.{has_letter, is_failure, check_behind, check_of, has_cause}
use Rattle.lload_spec.proofs.Growth.{both}
use Rattle.lload_laws.specs.ClientGrowth.{later_operation}
use Rattle.lload_laws.proofs.ListLaws.{bytes_same, found_passes}
use Rattle.part_laws.proofs.ListLaws.{or_left, or_right, any_behind, eqb_same, eq_eqb, same_op_eq, same_op_refl, not_both}
use Rattle.client_laws.proofs.Matches.{ClientLives}
use Rattle.client_laws.proofs.ClientOuts.{EndsOnce}
use Rattle.client_laws.proofs.ClientTurns.{steps_are}
use Rattle.client_laws.proofs.ClientLives.{entry_of}
use Rattle.client_share_laws.proofs.ClientCases.{taken}
use Rattle.client_share_laws.proofs.ClientOwns.{own_list, own_entries}
use Rattle.client_answer_laws.proofs.Each.{Each, each_found}
use Rattle.client_answer_laws.proofs.Waits.{RowKnown}
use Rattle.client_answer_laws.proofs.Known.{within_there}
use Rattle.client_answer_laws.proofs.Only.{OneOrOther, TheOne, each_one_or_other}
use Rattle.client_answer_laws.proofs.Causes.{Caused, entries_count}
use Rattle.client_answer_laws.proofs.CheckCauses.{is_own_check, own_check, refused_by_check, answered_by_check}

-- what passes at one split
split_there : {A : Type 0} (test : List A → A → List A → Bool) (before place : List A) (x : A) (xs : List A) → test (before ++ place) x xs ≡ true → some_split_from test before (place ++ x ∷ xs) ≡ true
split_there test before [] x xs h = or_left (test before x xs) _ (ap (λ b. test b x xs) (sym (append-nil before)) ∙ h)
split_there test before (y ∷ place) x xs h = or_right (test before y (place ++ x ∷ xs)) _ (split_there test (before ++ y ∷ []) place x xs (ap (λ b. test b x xs) (append_assoc before (y ∷ []) place) ∙ h))

-- The operation of a row is live.
pub row_lives : (s : Settings) (c : ℕ) (place : List Entry) (p : ClientState) → ClientLives c place p → EndsOnce c place → Each (RowKnown s c place) p.rows → (t : ClientRow → Bool) (r : ClientRow) → find t p.rows ≡ Some r → is_live_at c place (record { client = c; k = r.k }) ≡ true
row_lives s c place p lives once known t r e = by (operation_in c place name) refl (within_there c place name (both (c == c && _) _ (both (c == c) _ (eqb_same c) row.positive) row.within))
  where
    name : OpName
    name = record { client = c; k = r.k }

    row : RowKnown s c place r
    row = each_found (RowKnown s c place) t p.rows r e known

    by : (o : Option Operation) → operation_in c place name ≡ o → is_some o ≡ true → passes is_live o ≡ true
    by None f k = absurd (let bad : false ≡ true = k in cc)
    by (Some o) f k = of_both (each_found (OneOrOther c r) (λ q. same_op name q.name) (operations c place) o f (each_one_or_other c place p lives once t r e))
      where
        of_both : OneOrOther c r o → is_live o ≡ true
        of_both (inl one) = one.live
        of_both (inr other) = not_both (same_op name o.name) (found_passes (λ q. same_op name q.name) (operations c place) o f) other.unnamed

-- an operation that the message makes, with these entries behind it
pub record IsNew (c : ℕ) (m : Message) (place behind : List Entry) (o : Operation) : Type 0 where
  pub client : c ≡ o.name.client
  pub request : m ≡ o.request
  pub before : place ≡ o.before
  pub since : behind ≡ o.behind

answers_same : (which : CancelAnswer) → answers_with which (Answers which) ≡ true
answers_same S1 = refl
answers_same C13 = refl
answers_same C14 = refl
answers_same C15 = refl
answers_same C16 = refl

module _ (s : Settings) (c : ℕ) (ms : List Marked) (p : ClientState) (state : p ≡ behind (step_client s) (empty_client c) ms) where
  -- the check behind these entries
  check_there : (tail : List Marked) (m : Message) → check_behind s c (ms ++ tail) (length (entries ms)) m ≡ check_at s p m
  check_there tail m = ap (λ n. check_behind s c (ms ++ tail) n m) (entries_count ms) ∙ ap (λ l. check_at s (client_of s c l) m) (take-append_seam ms tail) ∙ ap (λ q. check_at s q m) (steps_are s (empty_client c) ms ∙ sym state)

  -- a new operation that got what its check wants, and nothing else
  checked_new : (test : Check → Bool) (m : Message) (since : List Entry) (e : Entry) (tail : List Marked) (o : Operation) → IsNew c m (entries ms) since o → (length (outs_under m.id (since ++ e ∷ [])) == 1) ≡ true → is_followed_up m (since ++ e ∷ []) (check_at s p m) ≡ true → test (check_at s p m) ≡ true → is_checked_so (check_of s (ms ++ tail) (later_operation e o)) test (later_operation e o) ≡ true
  checked_new test m since e tail o new one follows k = subst (λ x. So x o.request o.before o.behind) new.client (subst (λ (x : Message). So c x o.before o.behind) new.request (subst (λ x. So c m x o.behind) new.before (subst (So c m (entries ms)) new.since first)))
    where
      found : ℕ → Message → List Entry → Check
      found client x place = check_behind s client (ms ++ tail) (length place) x

      So : ℕ → Message → List Entry → List Entry → Type 0
      So client x place behind = (length (outs_under x.id (behind ++ e ∷ [])) == 1 && is_followed_up x (behind ++ e ∷ []) (found client x place) && test (found client x place)) ≡ true

      first : So c m (entries ms) since
      first = both (length (outs_under m.id (since ++ e ∷ [])) == 1 && is_followed_up m (since ++ e ∷ []) (found c m (entries ms))) _ (both (length (outs_under m.id (since ++ e ∷ [])) == 1) _ one (ap (is_followed_up m (since ++ e ∷ [])) (check_there tail m) ∙ follows)) (ap test (check_there tail m) ∙ k)

  own_by : (m : Message) (k : Check) → check_at s p m ≡ k → is_own_check k ≡ true
  own_by m k e = sym (ap is_own_check e) ∙ own_check s (facts_of p) m

  one_out : (m : Message) (rest : List ℕ) → (length ((if m.id == m.id then rest ∷ [] else []) ++ []) == 1) ≡ true
  one_out m rest = ap (λ b. length ((if b then rest ∷ [] else []) ++ []) == 1) (eqb_same m.id)

  -- a message that its check refuses
  pub refused_new : (u at : ℕ) (m : Message) (kind : OpKind) (which : Refusal) (tail : List Marked) (o : Operation) → kind_of m.rest ≡ Some kind → check_at s p m ≡ Refuses which → IsNew c m (entries ms) [] o → Caused s (ms ++ tail) (later_operation (entry_of (Client u) at (what.Out m.id (refusal kind which))) o) (refusal kind which)
  refused_new u at m kind which tail o k e new =
      let out : Entry = entry_of (Client u) at (what.Out m.id (refusal kind which)) in
      inl (record {
        kind = kind;
        which = which;
        is_it = refl;
        cause = refused_by_check s (ms ++ tail) (later_operation out o) which (own_by m (Refuses which) e) (checked_new (refuses_with which) m [] out tail o new (one_out m (refusal kind which)) (ap (is_followed_up m (out ∷ [])) e ∙ ap (λ x. is_refusal_of which m.id x out) k ∙ both (m.id == m.id) _ (eqb_same m.id) (bytes_same (refusal kind which))) (ap (refuses_with which) e ∙ eqb_same (refusal_number which)));
      })

  -- a Cancel that its check answers
  pub answered_new : (u at : ℕ) (m : Message) (kind : OpKind) (which : CancelAnswer) (tail : List Marked) (o : Operation) → kind_of m.rest ≡ Some kind → check_at s p m ≡ Answers which → IsNew c m (entries ms) [] o → Caused s (ms ++ tail) (later_operation (entry_of (Client u) at (what.Out m.id (cancel_answer kind which))) o) (cancel_answer kind which)
  answered_new u at m kind which tail o k e new =
      let out : Entry = entry_of (Client u) at (what.Out m.id (cancel_answer kind which)) in
      inr (record {
        kind = kind;
        which = which;
        is_it = refl;
        cause = answered_by_check s (ms ++ tail) (later_operation out o) which (own_by m (Answers which) e) (checked_new (answers_with which) m [] out tail o new (one_out m (cancel_answer kind which)) (ap (is_followed_up m (out ∷ [])) e ∙ ap (λ x. is_cancel_answer_of which m.id x out) k ∙ both (m.id == m.id) _ (eqb_same m.id) (bytes_same (cancel_answer kind which))) (ap (answers_with which) e ∙ answers_same which));
      })

  -- the success of a Cancel behind the end of the operation that it names
  pub succeeds_new : (u at id : ℕ) (m : Message) (sort kind : OpKind) (tail : List Marked) (o : Operation) → kind_of m.rest ≡ Some sort → check_at s p m ≡ Cancels id kind → (id == m.id) ≡ false → IsNew c m (entries ms) (entry_of (Client u) at (what.Out id (cancel_answer kind C13)) ∷ []) o → Caused s (ms ++ tail) (later_operation (entry_of (Client u) at (what.Out m.id (cancel_answer sort S1))) o) (cancel_answer sort S1)
  succeeds_new u at id m sort kind tail o k e other new =
      let told : Entry = entry_of (Client u) at (what.Out id (cancel_answer kind C13)) in
      let out : Entry = entry_of (Client u) at (what.Out m.id (cancel_answer sort S1)) in
      let none : (length ((if id == m.id then cancel_answer kind C13 ∷ [] else []) ++ ((if m.id == m.id then cancel_answer sort S1 ∷ [] else []) ++ [])) == 1) ≡ true = ap (λ b. length ((if b then cancel_answer kind C13 ∷ [] else []) ++ ((if m.id == m.id then cancel_answer sort S1 ∷ [] else []) ++ [])) == 1) other ∙ one_out m (cancel_answer sort S1) in
      inr (record {
        kind = sort;
        which = S1;
        is_it = refl;
        cause = checked_new (answers_with S1) m (told ∷ []) out tail o new none (ap (is_followed_up m (told ∷ out ∷ [])) e ∙ both (is_cancel_answer_of C13 id (Some kind) told) _ (both (id == id) _ (eqb_same id) (bytes_same (cancel_answer kind C13))) (ap (λ x. is_cancel_answer_of S1 m.id x out) k ∙ both (m.id == m.id) _ (eqb_same m.id) (bytes_same (cancel_answer sort S1)))) (ap (answers_with S1) e);
      })

  -- A row's operation.
  module _ (u at : ℕ) (r : ClientRow) (o : Operation) (one : TheOne c r o) (live : is_live_at c (entries ms) (record { client = c; k = r.k }) ≡ true) (kind : OpKind) (kind_is : kind_of r.request.rest ≡ Some kind) where
    name_is : record { client = c; k = r.k } ≡ o.name
    name_is = same_op_eq (record { client = c; k = r.k }) o.name one.named

    client_is : o.name.client ≡ c
    client_is = sym (ap (λ (n : OpName). n.client) name_is)

    still_live : is_live_at o.name.client (entries ms) o.name ≡ true
    still_live = subst (λ (n : OpName). is_live_at n.client (entries ms) n ≡ true) name_is live

    kind_of_it : kind_of o.request.rest ≡ Some kind
    kind_of_it = sym one.match.kind ∙ kind_is

    -- that it is canceled by a message
    pub canceled_cause : (m : Message) (mark : Option Taken) (id : ℕ) (out : Option Taken) → r.request.id ≡ id → check_at s p m ≡ Cancels id kind → Caused s (ms ++ record { entry = entry_of (Client u) at (what.In m.id m.rest); mark = mark } ∷ record { entry = entry_of (Client u) at (what.Out r.request.id (cancel_answer kind C13)); mark = out } ∷ []) (later_operation (entry_of (Client u) at (what.Out r.request.id (cancel_answer kind C13))) o) (cancel_answer kind C13)
    canceled_cause m mark id out same e =
        inr (record { kind = kind; which = C13; is_it = refl; cause = ap (some_split_from test []) (map-append (λ x. x.entry) ms tail) ∙ split_there test [] (entries ms) came (told ∷ []) passes_there })
      where
        came : Entry
        came = entry_of (Client u) at (what.In m.id m.rest)

        told : Entry
        told = entry_of (Client u) at (what.Out r.request.id (cancel_answer kind C13))

        tail : List Marked
        tail = record { entry = came; mark = mark } ∷ record { entry = told; mark = out } ∷ []

        test : List Entry → Entry → List Entry → Bool
        test = is_canceled_by (λ place x. check_behind s o.name.client (ms ++ tail) (length place) x) (later_operation told o)

        answer : is_cancel_answer_of C13 o.request.id (kind_of o.request.rest) told ≡ true
        answer = ap (λ x. is_cancel_answer_of C13 o.request.id x told) kind_of_it ∙ both (r.request.id == o.request.id) _ (eq_eqb r.request.id o.request.id one.match.id) (bytes_same (cancel_answer kind C13))

        passes_there : test (entries ms) came (told ∷ []) ≡ true
        passes_there = ap (λ b. elim b [ true ↦ cancels_id o.request.id (check_behind s o.name.client (ms ++ tail) (length (entries ms)) m) | false ↦ false ]) (both (is_live_at o.name.client (entries ms) o.name) _ still_live answer) ∙ ap (λ n. cancels_id o.request.id (check_behind s n (ms ++ tail) (length (entries ms)) m)) client_is ∙ ap (cancels_id o.request.id) (check_there tail m ∙ e) ∙ eq_eqb id o.request.id (sym same ∙ one.match.id)

    -- that a choice refuses it
    pub chosen_cause : list_all (λ e. same_part (Client c) e.part) (entries ms) ≡ true → u ≡ c → (a : Answer) (which : Refusal) (mark out : Option Taken) → same_answer a a ≡ true → is_refused_by_choice (family (entries (ms ++ record { entry = entry_of (Client u) at (what.Chosen (record { client = c; k = r.k }) a); mark = mark } ∷ record { entry = entry_of (Client u) at (what.Out r.request.id (refusal kind which)); mark = out } ∷ []))) a which (later_operation (entry_of (Client u) at (what.Out r.request.id (refusal kind which))) o) ≡ true
    chosen_cause own number a which mark out same = ap (λ l. some_split_from test [] (of_part (Client o.name.client) l)) (map-append (λ x. x.entry) ms tail) ∙ ap (λ n. some_split_from test [] (of_part (Client n) (entries ms ++ learned ∷ told ∷ []))) client_is ∙ ap (some_split_from test []) (own_list c (entries ms ++ learned ∷ told ∷ []) (list_all-append (λ e. same_part (Client c) e.part) (entries ms) (learned ∷ told ∷ []) ∙ both (list_all (λ e. same_part (Client c) e.part) (entries ms)) _ own (own_entries c u at (what.Chosen (record { client = c; k = r.k }) a ∷ what.Out r.request.id (refusal kind which) ∷ []) (eq_eqb c u (sym number))))) ∙ split_there test [] (entries ms) learned (told ∷ []) passes_there
      where
        learned : Entry
        learned = entry_of (Client u) at (what.Chosen (record { client = c; k = r.k }) a)

        told : Entry
        told = entry_of (Client u) at (what.Out r.request.id (refusal kind which))

        tail : List Marked
        tail = record { entry = learned; mark = mark } ∷ record { entry = told; mark = out } ∷ []

        test : List Entry → Entry → List Entry → Bool
        test place e behind = is_live_choice a o place e && first_passes (is_refusal_of which o.request.id (kind_of o.request.rest)) behind

        named : same_op o.name (record { client = c; k = r.k }) ≡ true
        named = ap (same_op o.name) name_is ∙ same_op_refl o.name

        passes_there : test (entries ms) learned (told ∷ []) ≡ true
        passes_there = both (is_live_choice a o (entries ms) learned) _ (both (same_op o.name (record { client = c; k = r.k }) && same_answer a a) _ (both (same_op o.name (record { client = c; k = r.k })) _ named same) still_live) (ap (λ x. is_refusal_of which o.request.id x told) kind_of_it ∙ both (r.request.id == o.request.id) _ (eq_eqb r.request.id o.request.id one.match.id) (bytes_same (refusal kind which)))

-- A letter that refuses an operation, as it may.
pub failed_cause : (s : Settings) (ms : List Marked) (e : Entry) (sender : PartName) (op : OpName) (which : Refusal) (o : Operation) → same_op o.name op ≡ true → is_loss s o.request which ≡ true → has_cause s (ms ++ record { entry = e; mark = taken sender (Failed op which) } ∷ []) (later_operation e o) which ≡ true
failed_cause s ms e sender op which o same h = by which h
  where
    told : Refusal → Marked
    told x = record { entry = e; mark = taken sender (Failed op x) }

    letter : (x : Refusal) → list_any (has_letter (is_failure o.name x)) (ms ++ told x ∷ []) ≡ true
    letter x = any_behind (has_letter (is_failure o.name x)) ms (told x ∷ []) (or_left (has_letter (is_failure o.name x) (told x)) false (both (same_op o.name op) _ same (eqb_same (refusal_number x))))

    by : (x : Refusal) → is_loss s o.request x ≡ true → has_cause s (ms ++ told x ∷ []) (later_operation e o) x ≡ true
    by C4 k = letter C4
    by C5 k = letter C5
    by C9 k = both (list_any (has_letter (is_failure o.name C9)) (ms ++ told C9 ∷ [])) (asks_who s o) (letter C9) k
    by _ k = absurd (let bad : false ≡ true = k in cc)
