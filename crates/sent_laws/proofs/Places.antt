-- Each request that was sent, or missed, stands where it may.
use Rattle.std.proofs.Common.{◌≡◌, ℕ, Bool, true, false, ◌==◌, ◌&&◌, ◌||◌, not, List, [], ◌∷◌, ◌++◌, refl, ap, ◌∙◌, sym, subst}
use Rattle.std.specs.Prelude.{Option, Some, None, if◌then◌else◌}
use Rattle.std.specs.List.{list_any, list_all}
use Rattle.lload_names.specs.declared.names.Answer.{Answer}
use Rattle.lload_names.specs.declared.names.Entry.{Entry}
use Rattle.lload_names.specs.declared.names.Letter.{Letter}
use Rattle.lload_names.specs.declared.names.Letter.TheVariants.{Forward}
use Rattle.lload_names.specs.declared.names.OpKind.{OpKind}
use Rattle.lload_names.specs.declared.names.OpKind.TheVariants.{Bind}
use Rattle.lload_names.specs.declared.names.OpName.{OpName}
use Rattle.lload_names.specs.declared.names.PartName.{PartName}
use Rattle.lload_names.specs.declared.names.PartName.TheVariants.{Client, Up as Connection}
use Rattle.lload_names.specs.declared.names.What.{What}
use Rattle.lload_names.specs.declared.names.What.TheVariants as what
use Rattle.lload_spec.specs.Answers.{Sending, sendings}
use Rattle.lload_spec.specs.Binding.{kind_wanted}
use Rattle.lload_spec.specs.Caused.{check_of}
use Rattle.lload_spec.specs.Entries.{Named, chosen, goes_to, is_choice_of, is_missed, missed_op}
use Rattle.lload_spec.specs.Fifo.{is_chosen_for, is_in_progress, is_pinned_to, is_sent_at}
use Rattle.lload_spec.specs.FirstCheck.{lets_go_on}
use Rattle.lload_spec.specs.Journal.{Family, same_op, same_part}
use Rattle.lload_spec.specs.Lists.{passes, some_split_from, where_there}
use Rattle.lload_spec.specs.Operations.{Operation, is_live_at, is_of, last_bind, operation, operation_in, operations}
use Rattle.lload_spec.specs.Settings.{Settings, is_of_kind}
use Rattle.lload_spec.specs.Strict.{is_missed_rightly, is_pinned, is_rightly_at, is_sent_rightly, is_to_ask}
use Rattle.lload_spec.proofs.Growth.{left, right, both}
use Rattle.lload_laws.proofs.ListLaws.{any-map, found_passes, passes_imply}
use Rattle.part_laws.proofs.ListLaws.{eq_eqb, not_true, or_elim, or_left, or_right, same_number, same_op_eq, same_op_refl}
use Rattle.part_spec.specs.ConnectionState.{step_connection}
use Rattle.part_spec.specs.Fit.{ConnectionLedger, are_fit_from, empty_connection_ledger, fits_connection, is_forward_of, is_unfit, step_connection_ledger}
use Rattle.part_spec.specs.Gives.{gives}
use Rattle.part_spec.specs.Marked.{Marked, Taken, entries}
use Rattle.part_spec.specs.Marks.{each_from, has_connection_mark, marks_connection}
use Rattle.part_spec.specs.Share.{ClientShare, ConnectionShare}
use Rattle.joined_laws.proofs.Choices.{all_entries}
use Rattle.joined_laws.proofs.Taken.{is_fit_there, is_mark_from, was_given}
use Rattle.joined_laws.proofs.Walks.{begun}
use Rattle.forward_laws.proofs.Causes.{is_forward_as}
use Rattle.forward_laws.proofs.Chosen.{chosen_so, of_some_kind, sent_forward, taken_cause}
use Rattle.forward_laws.proofs.Sendings.{all_sent, each_sending, given_to}
use Rattle.carried_laws.specs.Laws.{Played}
use Rattle.identity_laws.specs.Laws.{ClientsAreKnown}
use Rattle.sent_laws.specs.Laws.{GoesRightly, OfPlaces}
use Rattle.sent_laws.proofs.Forwarded.{all_choices_due, all_forwards_go, goes_rightly, is_choice_due}

-- A Forward that was missed was taken of its client.
module _ (op : OpName) (s : Settings) where
  missed_mark : (l : ConnectionLedger) (e : Entry) (mark : Option Taken) (rest : Bool) → is_missed op e ≡ true → has_connection_mark l.state (record { entry = e; mark = mark }) ≡ true → (not (is_unfit (fits_connection s) l mark) && rest) ≡ true → is_mark_from (Client op.client) (is_forward_of op) mark ≡ true
  missed_mark l e mark rest h k f = by e.what mark h k f
    where
      client_of_op : (o q : OpName) (sender : PartName) → same_op op o ≡ true → same_op o q ≡ true → same_part sender (Client q.client) ≡ true → (same_part (Client op.client) sender && same_op op q) ≡ true
      client_of_op o q (Client n) i j z =
          let first : op ≡ o = same_op_eq op o i in
          both (op.client == n) _ (eq_eqb op.client n (ap (λ x. x.client) first ∙ same_number o.client q.client (left (o.client == q.client) _ j) ∙ sym (same_number n q.client z))) (ap (λ x. same_op x q) first ∙ j)
      client_of_op o q _ i j z = absurd (let bad : false ≡ true = z in cc)

      sender_first : (a b c d g i : Bool) → (a && b && c && d && g && i) ≡ true → a ≡ true
      sender_first a b c d g i j = left a b (left (a && b) c (left (a && b && c) d (left (a && b && c && d) g (left (a && b && c && d && g) i j))))

      of_letter : (o : OpName) (sender : PartName) (x : Letter) → same_op op o ≡ true → marks_connection l.state (what.Missed o) x ≡ true → fits_connection s l sender x ≡ true → (same_part (Client op.client) sender && is_forward_of op x) ≡ true
      of_letter o sender (Forward q sort r ask holder) i j z = client_of_op o q sender i (left (same_op o q) _ j) (sender_first (same_part sender (Client q.client)) _ _ _ _ _ z)
      of_letter o sender _ i j z = absurd (let bad : false ≡ true = j in cc)

      by : (w : What) (x : Option Taken) → passes (same_op op) (missed_op w) ≡ true → has_connection_mark l.state (record { entry = record e { what = w }; mark = x }) ≡ true → (not (is_unfit (fits_connection s) l x) && rest) ≡ true → is_mark_from (Client op.client) (is_forward_of op) x ≡ true
      by (what.Missed o) None i j z = absurd (let bad : false ≡ true = j in cc)
      by (what.Missed o) (Some t) i j z = of_letter o t.sender t.letter i j (is_fit_there (fits_connection s) l t rest z)
      by _ x i j z = absurd (let bad : false ≡ true = i in cc)

  missed_taken : (l : ConnectionLedger) (ms : List Marked) → each_from (step_connection s) has_connection_mark l.state ms ≡ true → are_fit_from (fits_connection s) (step_connection_ledger s) l ms ≡ true → list_any (λ m. is_missed op m.entry) ms ≡ true → list_any (λ m. is_mark_from (Client op.client) (is_forward_of op) m.mark) ms ≡ true
  missed_taken l [] k f h = absurd (let bad : false ≡ true = h in cc)
  missed_taken l (m ∷ ms) k f h =
      or_elim (is_missed op m.entry) (list_any (λ x. is_missed op x.entry) ms)
      (λ j. or_left (is_mark_from (Client op.client) (is_forward_of op) m.mark) _ (missed_mark l m.entry m.mark _ j (left (has_connection_mark l.state m) _ k) f))
      (λ j. or_right (is_mark_from (Client op.client) (is_forward_of op) m.mark) _ (missed_taken (step_connection_ledger s l m) ms (right (has_connection_mark l.state m) _ k) (right (not (is_unfit (fits_connection s) l m.mark)) _ f) j)) h

-- A choice in a list of which each is due.
some_due : (s : Settings) (F : Family) (c u : ℕ) (op : OpName) (place before L : List Entry) → some_split_from (λ b e d. is_choice_of op u e && is_live_at op.client b op) before L ≡ true → list_all (is_choice_due s F c place) L ≡ true → passes (is_to_ask s F) (operation_in c place op) ≡ true
some_due s F c u op place before [] h k = absurd (let bad : false ≡ true = h in cc)
some_due s F c u op place before (e ∷ L) h k =
    or_elim (is_choice_of op u e && is_live_at op.client before op) (some_split_from (λ b x d. is_choice_of op u x && is_live_at op.client b op) (before ++ e ∷ []) L)
    (λ j. by (chosen e.what) (left (is_choice_of op u e) _ j) (left (is_choice_due s F c place e) _ k))
    (λ j. some_due s F c u op place (before ++ e ∷ []) L j (right (is_choice_due s F c place e) _ k)) h
  where
    by : (o : Option (Named Answer)) → passes (λ x. same_op op x.op && goes_to u x.value) o ≡ true → where_there (λ x. passes (is_to_ask s F) (operation_in c place x.op)) o ≡ true → passes (is_to_ask s F) (operation_in c place op) ≡ true
    by None i j = absurd (let bad : false ≡ true = i in cc)
    by (Some x) i j = ap (λ n. passes (is_to_ask s F) (operation_in c place n)) (same_op_eq op x.op (left (same_op op x.op) _ i)) ∙ j

module _ (are_known : ClientsAreKnown) (s : Settings) (F : Family) (marked : PartName → List Marked) (h : Played s F marked) where
  client : (c : ℕ) → ClientShare s c (marked (Client c))
  client c = h.joined.shared.shares (Client c)

  connection : (u : ℕ) → ConnectionShare s u (marked (Connection u))
  connection u = h.joined.shared.shares (Connection u)

  abbrev IsForwarded : OpName → OpKind → ℕ → Type 0
  IsForwarded op kind u = list_any (λ m. is_mark_from (Client op.client) (is_forward_as op kind) m.mark) (marked (Connection u)) ≡ true

  -- a Forward that was taken goes rightly
  taken_goes : (op : OpName) (kind : OpKind) (u : ℕ) → IsForwarded op kind u → passes (goes_rightly s F op.client u) (operation F op) ≡ true
  taken_goes op kind u k =
      subst (λ l. passes (goes_rightly s F op.client u) (operation_in op.client l op) ≡ true) (h.joined.shared.same_entries (Client op.client))
      (all_forwards_go s F op.client (marked (Client op.client)) (are_known s F marked h op.client) (begun s op.client (marked (Client op.client)) (client op.client)) (h.joined.fit (Client op.client)) op kind u
      (given_to (Connection u) (is_forward_as op kind) (gives s (Client op.client) (marked (Client op.client))) (was_given s F marked h.joined.linked (Client op.client) (Connection u) (is_forward_as op kind) k)))

  choices_are_due : (c : ℕ) → list_all (is_choice_due s F c (F.client c)) (F.client c) ≡ true
  choices_are_due c =
      subst (λ l. list_all (is_choice_due s F c l) l ≡ true) (h.joined.shared.same_entries (Client c))
      (all_entries (is_choice_due s F c (entries (marked (Client c)))) (marked (Client c)) (all_choices_due s F c (marked (Client c)) (are_known s F marked h c) (begun s c (marked (Client c)) (client c)) (h.joined.fit (Client c))))

  -- so it stands where it may
  rightly : (op : OpName) (kind : OpKind) (u : ℕ) → IsForwarded op kind u → passes (is_rightly_at s F u) (operation F op) ≡ true
  rightly op kind u k = by (operation F op) refl (taken_goes op kind u k) (chosen_so s F marked h.joined h.whole op u kind (taken_cause s F marked h.joined op u kind k))
    where
      by : (x : Option Operation) → operation F op ≡ x → passes (goes_rightly s F op.client u) x ≡ true → passes (λ o. is_chosen_for F o u || is_pinned_to F o u) x ≡ true → passes (is_rightly_at s F u) x ≡ true
      by None e goes way = absurd (let bad : false ≡ true = goes in cc)
      by (Some o) e goes way = both (lets_go_on (check_of s F o) && is_of_kind s (kind_wanted o.request) u) _ goes (decided (is_pinned s F o) refl)
        where
          named : op ≡ o.name
          named = same_op_eq op o.name (found_passes (λ x. same_op op x.name) (operations op.client (F.client op.client)) o e)

          own : operation F o.name ≡ Some o
          own = ap (operation F) (sym named) ∙ e

          -- what was chosen isn't pinned
          chosen_free : is_chosen_for F o u ≡ true → is_pinned s F o ≡ false
          chosen_free j = not_true (is_pinned s F o) (right (lets_go_on (check_of s F o)) _ (sym (ap (passes (is_to_ask s F)) own) ∙ some_due s F o.name.client u o.name (F.client o.name.client) [] (F.client o.name.client) j (choices_are_due o.name.client)))

          pinned_so : is_pinned_to F o u ≡ true → is_pinned s F o ≡ true
          pinned_so j = both (is_of Bind o && passes is_in_progress (last_bind o.name.client o.before)) _ (both (is_of Bind o) _ (left (is_of Bind o) _ j) (passes_imply (λ b. is_in_progress b && is_sent_at F u b) is_in_progress (last_bind o.name.client o.before) (λ b i. left (is_in_progress b) _ i) (right (is_of Bind o) _ j))) (left (lets_go_on (check_of s F o)) _ goes)

          decided : (b : Bool) → is_pinned s F o ≡ b → (if b then is_pinned_to F o u else is_chosen_for F o u) ≡ true
          decided true i = or_elim (is_chosen_for F o u) (is_pinned_to F o u) (λ j. absurd (let bad : true ≡ false = sym i ∙ chosen_free j in cc)) (λ j. j) way
          decided false i = or_elim (is_chosen_for F o u) (is_pinned_to F o u) (λ j. j) (λ j. absurd (let bad : false ≡ true = sym i ∙ pinned_so j in cc)) way

  forwarded_rightly : (op : OpName) (u : ℕ) → list_any (λ m. is_mark_from (Client op.client) (is_forward_of op) m.mark) (marked (Connection u)) ≡ true → passes (is_rightly_at s F u) (operation F op) ≡ true
  forwarded_rightly op u k = let x = of_some_kind (Client op.client) op (marked (Connection u)) k in rightly op x.0 u x.1

  sent_at_one : (u : ℕ) → list_all (λ (sent : Sending). passes (λ o. is_sent_rightly s F o sent) (operation F sent.op)) (sendings u (F.connection u)) ≡ true
  sent_at_one u = each_sending u (λ (sent : Sending). passes (λ o. is_sent_rightly s F o sent) (operation F sent.op)) [] (F.connection u) (λ sent e k. subst (λ v. passes (is_rightly_at s F v) (operation F sent.op) ≡ true) (sym e) (forwarded_rightly sent.op u (sent_forward s F marked h.joined sent.op u k)))

  missed_forward : (op : OpName) (u : ℕ) → list_any (is_missed op) (F.connection u) ≡ true → list_any (λ m. is_mark_from (Client op.client) (is_forward_of op) m.mark) (marked (Connection u)) ≡ true
  missed_forward op u k = missed_taken op s (empty_connection_ledger s u) (marked (Connection u)) (connection u).marks (h.joined.fit (Connection u)) (sym (any-map (is_missed op) (λ (m : Marked). m.entry) (marked (Connection u))) ∙ subst (λ l. list_any (is_missed op) l ≡ true) (sym (h.joined.shared.same_entries (Connection u))) k)

  missed_so : (u : ℕ) (L : List Entry) → ((op : OpName) → list_any (is_missed op) L ≡ true → list_any (is_missed op) (F.connection u) ≡ true) → list_all (is_missed_rightly s F u) L ≡ true
  missed_so u [] within = refl
  missed_so u (e ∷ L) within = both (is_missed_rightly s F u e) _ (by (missed_op e.what) refl) (missed_so u L (λ op k. within op (or_right (is_missed op e) _ k)))
    where
      by : (o : Option OpName) → missed_op e.what ≡ o → where_there (λ op. passes (is_rightly_at s F u) (operation F op)) o ≡ true
      by None k = refl
      by (Some op) k = forwarded_rightly op u (missed_forward op u (within op (or_left (is_missed op e) _ (ap (passes (same_op op)) k ∙ same_op_refl op))))

  pub places_right : OfPlaces s F
  places_right = record { sent = all_sent F (λ (sent : Sending). passes (λ o. is_sent_rightly s F o sent) (operation F sent.op)) F.connections sent_at_one; missed = λ u. missed_so u (F.connection u) (λ op k. k) }

pub goes_rightly_so : ClientsAreKnown → GoesRightly
goes_rightly_so are_known s F marked h = places_right are_known s F marked h
