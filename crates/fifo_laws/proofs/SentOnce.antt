-- An operation is sent once: each Sent is the mark of its Forward, its client gives that to one connection at most, and a
-- connection sends no operation twice.
use Rattle.std.proofs.Common.{◌≡◌, ℕ, Bool, true, false, ◌==◌, ◌&&◌, ◌||◌, not, List, [], ◌∷◌, ◌++◌, length, refl, ap, ◌∙◌, sym, subst}
use Rattle.std.specs.Prelude.{Option, Some, None, cond, filter, nat_le}
use Rattle.std.specs.List.{list_any, list_all}
use Rattle.std.specs.Str.{bytes_eq}
use Rattle.std.proofs.lemmas.List.{append-nil, map-append}
use Rattle.std.proofs.lemmas.List.Elements.{filter-append}
use Rattle.std.proofs.lemmas.List.Folds.{list_all-append}
use Rattle.ldap_spec.specs.Messages.{Message}
use Rattle.lload_names.specs.declared.names.Entry.{Entry}
use Rattle.lload_names.specs.declared.names.Letter.{Letter}
use Rattle.lload_names.specs.declared.names.Letter.TheVariants.{Forward}
use Rattle.lload_names.specs.declared.names.OpName.{OpName}
use Rattle.lload_names.specs.declared.names.PartName.{PartName}
use Rattle.lload_names.specs.declared.names.PartName.TheVariants.{Client, Up as Connection}
use Rattle.lload_names.specs.declared.names.Posted.{Posted}
use Rattle.lload_names.specs.declared.names.What.{What}
use Rattle.lload_names.specs.declared.names.What.TheVariants as what
use Rattle.lload_spec.specs.Answers.{Sending, sending_made, sendings_from, sendings, sendings_at}
use Rattle.lload_spec.specs.Entries.{Named, sent_message, is_sent}
use Rattle.lload_spec.specs.Fifo.{is_sent_once}
use Rattle.lload_spec.specs.Journal.{Family, same_op, same_part}
use Rattle.lload_spec.specs.Lists.{passes, implies, are_distinct}
use Rattle.lload_spec.specs.Operations.{all_operations}
use Rattle.lload_spec.specs.Settings.{Settings}
use Rattle.lload_spec.proofs.Growth.{left, right, both}
use Rattle.lload_laws.proofs.ListLaws.{all_always, implied, any-map}
use Rattle.part_laws.proofs.ListLaws.{any_before, any_behind, eqb_sym, eq_eqb, false_by, or_elim, or_left, or_right, same_number, same_op_eq}
use Rattle.part_spec.specs.ConnectionState.{ConnectionState, empty_connection, step_connection, is_stopped, is_bind}
use Rattle.part_spec.specs.Fit.{ConnectionLedger, empty_connection_ledger, step_connection_ledger, fits_connection, is_forward_of, are_fit_from, is_unfit, is_of_its_kind, is_free_for, is_held_for}
use Rattle.part_spec.specs.Gives.{gives}
use Rattle.part_spec.specs.Marked.{Marked, Taken, entries, letters_to}
use Rattle.part_spec.specs.Marks.{each_from, has_connection_mark, marks_connection, must_mark_connection}
use Rattle.part_spec.specs.Share.{ClientShare, ConnectionShare, each_place, is_sent_once as is_sent_first, is_free_by, has_letter}
use Rattle.joined_laws.specs.Joined.{Joined}
use Rattle.joined_laws.proofs.Taken.{is_mark_from, was_given, is_fit_there}
use Rattle.joined_laws.proofs.Walks.{begun}
use Rattle.fifo_laws.specs.Laws.{FifoSentOnce}
use Rattle.fifo_laws.proofs.Givings.{goes_only, gives_to_one}

pub of_client : (sender : PartName) (n : ℕ) → same_part sender (Client n) ≡ true → same_part (Client n) sender ≡ true
of_client (Client m) n h = eqb_sym n m ∙ h
of_client _ n h = absurd (let bad : false ≡ true = h in cc)

one_number : (w u : ℕ) (p : PartName) → same_part (Connection w) p ≡ true → same_part (Connection u) p ≡ true → (w == u) ≡ true
one_number w u (Connection v) h k = eq_eqb w u (same_number w v h ∙ sym (same_number u v k))
one_number w u _ h k = absurd (let bad : false ≡ true = h in cc)

pub first_of : (a b c d e f : Bool) → (a && b && c && d && e && f) ≡ true → a ≡ true
first_of a b c d e f h = left a b (left (a && b) c (left (a && b && c) d (left (a && b && c && d) e (left (a && b && c && d && e) f h))))

module _ (op : OpName) where
  abbrev pub is_own : Sending → Bool
  is_own sent = same_op op sent.op

  -- The Forward of a Sent was taken from the operation's client.
  sent_mark : (s : Settings) (l : ConnectionLedger) (w : What) (mark : Option Taken) (rest : Bool) → passes (λ x. same_op op x.op) (sent_message w) ≡ true → (elim mark [ None ↦ not (must_mark_connection l.state w) | Some t ↦ marks_connection l.state w t.letter ]) ≡ true → (not (is_unfit (fits_connection s) l mark) && rest) ≡ true → is_mark_from (Client op.client) (is_forward_of op) mark ≡ true
  sent_mark s l (what.Sent id o body) None rest h k f = absurd (let bad : false ≡ true = k in cc)
  sent_mark s l (what.Sent id o body) (Some t) rest h k f = by t.sender t.letter k (is_fit_there (fits_connection s) l t rest f)
    where
      by : (sender : PartName) (x : Letter) → marks_connection l.state (what.Sent id o body) x ≡ true → fits_connection s l sender x ≡ true → (same_part (Client op.client) sender && is_forward_of op x) ≡ true
      by sender (Forward q sort r ask holder) i j =
          let same : same_op op q ≡ true = ap (λ z. same_op z q) (same_op_eq op o h) ∙ left (same_op o q) (bytes_eq body r) (left (same_op o q && bytes_eq body r) (not (is_stopped l.state)) i) in
          both (same_part (Client op.client) sender) _
          (of_client sender op.client (ap (λ z. same_part sender (Client z.client)) (same_op_eq op q same)
          ∙ first_of (same_part sender (Client q.client)) (same_part sender (Client holder.client)) (not (list_any (λ t. is_forward_of q t.letter) l.taken)) l.state.up (is_of_its_kind s l.state sort r ask) (not (is_bind l.state) || is_free_for l.state holder && is_held_for l.state q holder) j)) same
      by sender _ i j = absurd (let bad : false ≡ true = i in cc)
  sent_mark s l _ mark rest h k f = absurd (let bad : false ≡ true = h in cc)

  pub sent_taken : (s : Settings) (l : ConnectionLedger) (ms : List Marked) → each_from (step_connection s) has_connection_mark l.state ms ≡ true → are_fit_from (fits_connection s) (step_connection_ledger s) l ms ≡ true → list_any (λ m. is_sent op m.entry) ms ≡ true → list_any (λ m. is_mark_from (Client op.client) (is_forward_of op) m.mark) ms ≡ true
  sent_taken s l [] k f h = absurd (let bad : false ≡ true = h in cc)
  sent_taken s l (m ∷ ms) k f h =
      or_elim (is_sent op m.entry) (list_any (λ x. is_sent op x.entry) ms)
      (λ j. or_left (is_mark_from (Client op.client) (is_forward_of op) m.mark) _ (sent_mark s l m.entry.what m.mark _ j (left (has_connection_mark l.state m) _ k) f))
      (λ j. or_right (is_mark_from (Client op.client) (is_forward_of op) m.mark) _ (sent_taken s (step_connection_ledger s l m) ms (right (has_connection_mark l.state m) _ k) (right (not (is_unfit (fits_connection s) l m.mark)) _ f) j)) h

  only_there : (w u : ℕ) (xs : List Posted) → goes_only op w xs ≡ true → list_any (is_forward_of op) (letters_to (Connection u) xs) ≡ true → (w == u) ≡ true
  only_there w u [] h k = absurd (let bad : false ≡ true = k in cc)
  only_there w u (x ∷ xs) h k = by (same_part (Connection u) x.to) refl k (only_there w u xs (right (implies (is_forward_of op x.letter) (same_part (Connection w) x.to)) _ h))
    where
      by : (b : Bool) → same_part (Connection u) x.to ≡ b → list_any (is_forward_of op) ((elim b [ true ↦ x.letter ∷ [] | false ↦ [] ]) ++ letters_to (Connection u) xs) ≡ true → (list_any (is_forward_of op) (letters_to (Connection u) xs) ≡ true → (w == u) ≡ true) → (w == u) ≡ true
      by true e j ih = or_elim (is_forward_of op x.letter) (list_any (is_forward_of op) (letters_to (Connection u) xs)) (λ i. one_number w u x.to (implied (is_forward_of op x.letter) (same_part (Connection w) x.to) (left (implies (is_forward_of op x.letter) (same_part (Connection w) x.to)) _ h) i) e) ih j
      by false e j ih = ih j

  -- The Sents of a list.

  pub others_here : (u : ℕ) (before es : List Entry) → list_any (is_sent op) es ≡ false → list_all (λ sent. not (is_own sent)) (sendings_from u before es) ≡ true
  others_here u before [] h = refl
  others_here u before (e ∷ es) h = by (sent_message e.what) h (others_here u (before ++ e ∷ []) es)
    where
      other : (n : Named Message) (b : Bool) → same_op op n.op ≡ b → (b || list_any (is_sent op) es) ≡ false → (list_any (is_sent op) es ≡ false → list_all (λ sent. not (is_own sent)) (sendings_from u (before ++ e ∷ []) es) ≡ true) → (not (same_op op n.op) && list_all (λ sent. not (is_own sent)) (sendings_from u (before ++ e ∷ []) es)) ≡ true
      other n true z k ih = absurd (let bad : true ≡ false = k in cc)
      other n false z k ih = both (not (same_op op n.op)) _ (ap not z) (ih k)

      by : (o : Option (Named Message)) → (passes (λ x. same_op op x.op) o || list_any (is_sent op) es) ≡ false → (list_any (is_sent op) es ≡ false → list_all (λ sent. not (is_own sent)) (sendings_from u (before ++ e ∷ []) es) ≡ true) → list_all (λ sent. not (is_own sent)) (sending_made u before e es o ++ sendings_from u (before ++ e ∷ []) es) ≡ true
      by None k ih = ih k
      by (Some n) k ih = other n (same_op op n.op) refl k ih

  none_own : (xs : List Sending) → list_all (λ sent. not (is_own sent)) xs ≡ true → filter is_own xs ≡ []
  none_own [] h = refl
  none_own (x ∷ xs) h = by (is_own x) (left (not (is_own x)) _ h) (none_own xs (right (not (is_own x)) _ h))
    where
      by : (b : Bool) → not b ≡ true → filter is_own xs ≡ [] → cond b (x ∷ filter is_own xs) (filter is_own xs) ≡ []
      by true k e = absurd (let bad : false ≡ true = k in cc)
      by false k e = e

  abbrev AreFew : List Sending → Type 0
  AreFew xs = nat_le (length (filter is_own xs)) 1 ≡ true

  few_first : (xs ys : List Sending) → AreFew xs → list_all (λ sent. not (is_own sent)) ys ≡ true → AreFew (xs ++ ys)
  few_first xs ys h k = ap (λ l. nat_le (length l) 1) (filter-append is_own xs ys ∙ ap (λ l. filter is_own xs ++ l) (none_own ys k) ∙ append-nil (filter is_own xs)) ∙ h

  few_last : (xs ys : List Sending) → list_all (λ sent. not (is_own sent)) xs ≡ true → AreFew ys → AreFew (xs ++ ys)
  few_last xs ys h k = ap (λ l. nat_le (length l) 1) (filter-append is_own xs ys ∙ ap (λ l. l ++ filter is_own ys) (none_own xs h)) ∙ k

  module _ (s : Settings) (u : ℕ) where
    abbrev FirstsFrom : ConnectionState → List Marked → List Marked → Type 0
    FirstsFrom p b ms = each_place (step_connection s) (λ q before m behind. is_sent_first q (entries before) m) p b ms ≡ true

    -- no further one is sent, where one was
    none_again : (p : ConnectionState) (b ms : List Marked) → FirstsFrom p b ms → list_any (is_sent op) (entries b) ≡ true → list_any (is_sent op) (entries ms) ≡ false
    none_again p b [] f h = refl
    none_again p b (m ∷ ms) f h = by (sent_message m.entry.what) (left (is_sent_first p (entries b) m) _ f) (none_again (step_connection s p m) (b ++ m ∷ []) ms (right (is_sent_first p (entries b) m) _ f) (subst (λ l. list_any (is_sent op) l ≡ true) (sym (map-append (λ (x : Marked). x.entry) b (m ∷ []))) (any_before (is_sent op) (entries b) (m.entry ∷ []) h)))
      where
        by : (o : Option (Named Message)) → (elim o [ None ↦ true | Some x ↦ not (list_any (λ e. passes (λ y. same_op x.op y.op) (sent_message e.what)) (entries b)) && implies (is_bind p) (has_letter (is_free_by p) m) ]) ≡ true → list_any (is_sent op) (entries ms) ≡ false → (passes (λ x. same_op op x.op) o || list_any (is_sent op) (entries ms)) ≡ false
        by None k ih = ih
        by (Some n) k ih = ap (λ c. c || list_any (is_sent op) (entries ms)) (false_by (same_op op n.op) (λ j. let was : list_any (is_sent n.op) (entries b) ≡ true = subst (λ z. list_any (is_sent z) (entries b) ≡ true) (same_op_eq op n.op j) h in sym (ap not was) ∙ left (not (list_any (is_sent n.op) (entries b))) _ k)) ∙ ih

    few_here : (p : ConnectionState) (before : List Entry) (b ms : List Marked) → FirstsFrom p b ms → AreFew (sendings_from u before (entries ms))
    few_here p before b [] f = refl
    few_here p before b (m ∷ ms) f = by (sent_message m.entry.what) refl (few_here (step_connection s p m) (before ++ m.entry ∷ []) (b ++ m ∷ []) ms rest)
      where
        rest : FirstsFrom (step_connection s p m) (b ++ m ∷ []) ms
        rest = right (is_sent_first p (entries b) m) (each_place (step_connection s) (λ q before m behind. is_sent_first q (entries before) m) (step_connection s p m) (b ++ m ∷ []) ms) f

        none : (n : Named Message) → sent_message m.entry.what ≡ Some n → same_op op n.op ≡ true → list_all (λ sent. not (is_own sent)) (sendings_from u (before ++ m.entry ∷ []) (entries ms)) ≡ true
        none n z k =
            let here : is_sent op m.entry ≡ true = ap (passes (λ x. same_op op x.op)) z ∙ k in
            others_here u (before ++ m.entry ∷ []) (entries ms) (none_again (step_connection s p m) (b ++ m ∷ []) ms rest
            (subst (λ l. list_any (is_sent op) l ≡ true) (sym (map-append (λ (x : Marked). x.entry) b (m ∷ []))) (any_behind (is_sent op) (entries b) (m.entry ∷ []) (or_left (is_sent op m.entry) false here))))

        one : (x : Sending) (t : Bool) → is_own x ≡ t → (t ≡ true → list_all (λ sent. not (is_own sent)) (sendings_from u (before ++ m.entry ∷ []) (entries ms)) ≡ true) → AreFew (sendings_from u (before ++ m.entry ∷ []) (entries ms)) → AreFew (x ∷ sendings_from u (before ++ m.entry ∷ []) (entries ms))
        one x true e g ih = few_first (x ∷ []) (sendings_from u (before ++ m.entry ∷ []) (entries ms)) (ap (λ c. nat_le (length (cond c (x ∷ []) [])) 1) e) (g refl)
        one x false e g ih = few_last (x ∷ []) (sendings_from u (before ++ m.entry ∷ []) (entries ms)) (both (not (is_own x)) true (ap not e) refl) ih

        by : (o : Option (Named Message)) → sent_message m.entry.what ≡ o → AreFew (sendings_from u (before ++ m.entry ∷ []) (entries ms)) → AreFew (sending_made u before m.entry (entries ms) o ++ sendings_from u (before ++ m.entry ∷ []) (entries ms))
        by None z ih = ih
        by (Some n) z ih = one (record { connection = u; op = n.op; id = n.value.id; at = m.entry.at; rest = n.value.rest; before = before; behind = entries ms }) (same_op op n.op) refl (λ k. none n z k) ih

module _ (s : Settings) (F : Family) (marked : PartName → List Marked) (h : Joined s F marked) (op : OpName) where
  client : ClientShare s op.client (marked (Client op.client))
  client = h.shared.shares (Client op.client)

  connection : (u : ℕ) → ConnectionShare s u (marked (Connection u))
  connection u = h.shared.shares (Connection u)

  pub there : (u : ℕ) × (goes_only op u (gives s (Client op.client) (marked (Client op.client))) ≡ true)
  there = gives_to_one s op op.client (marked (Client op.client)) (begun s op.client (marked (Client op.client)) client) (h.fit (Client op.client))

  pub sent_there : (u : ℕ) → list_any (is_sent op) (F.connection u) ≡ true → (there.0 == u) ≡ true
  sent_there u k =
      only_there op there.0 u (gives s (Client op.client) (marked (Client op.client))) there.1
      (was_given s F marked h.linked (Client op.client) (Connection u) (is_forward_of op)
      (sent_taken op s (empty_connection_ledger s u) (marked (Connection u)) (connection u).marks (h.fit (Connection u))
      (sym (any-map (is_sent op) (λ (m : Marked). m.entry) (marked (Connection u))) ∙ subst (λ l. list_any (is_sent op) l ≡ true) (sym (h.shared.same_entries (Connection u))) k)))

  others : (u : ℕ) → (there.0 == u) ≡ false → list_all (λ sent. not (is_own op sent)) (sendings u (F.connection u)) ≡ true
  others u e = others_here op u [] (F.connection u) (false_by (list_any (is_sent op) (F.connection u)) (λ k. sym e ∙ sent_there u k))

  few : (u : ℕ) → AreFew op (sendings u (F.connection u))
  few u = subst (λ l. AreFew op (sendings u l)) (h.shared.same_entries (Connection u)) (few_here op s u (empty_connection s u) [] [] (marked (Connection u)) (connection u).sent_once)

  others_at : (us : List ℕ) → list_any (λ n. n == there.0) us ≡ false → list_all (λ sent. not (is_own op sent)) (sendings_at F us) ≡ true
  others_at [] e = refl
  others_at (u ∷ us) e = by (u == there.0) refl e (others_at us)
    where
      by : (b : Bool) → (u == there.0) ≡ b → (b || list_any (λ n. n == there.0) us) ≡ false → (list_any (λ n. n == there.0) us ≡ false → list_all (λ sent. not (is_own op sent)) (sendings_at F us) ≡ true) → list_all (λ sent. not (is_own op sent)) (sendings u (F.connection u) ++ sendings_at F us) ≡ true
      by true z k ih = absurd (let bad : true ≡ false = k in cc)
      by false z k ih = list_all-append (λ sent. not (is_own op sent)) (sendings u (F.connection u)) (sendings_at F us) ∙ both (list_all (λ sent. not (is_own op sent)) (sendings u (F.connection u))) _ (others u (eqb_sym there.0 u ∙ z)) (ih k)

  few_at : (us : List ℕ) → are_distinct us ≡ true → AreFew op (sendings_at F us)
  few_at [] d = refl
  few_at (u ∷ us) d = by (list_any (λ m. m == u) us) refl d (few_at us) (there.0 == u) refl
    where
      by : (b : Bool) → list_any (λ m. m == u) us ≡ b → (elim b [ true ↦ false | false ↦ are_distinct us ]) ≡ true → (are_distinct us ≡ true → AreFew op (sendings_at F us)) → (t : Bool) → (there.0 == u) ≡ t → AreFew op (sendings u (F.connection u) ++ sendings_at F us)
      by true e k ih t z = absurd (let bad : false ≡ true = k in cc)
      by false e k ih true z = few_first op (sendings u (F.connection u)) (sendings_at F us) (few u) (others_at us (ap (λ w. list_any (λ m. m == w) us) (same_number there.0 u z) ∙ e))
      by false e k ih false z = few_last op (sendings u (F.connection u)) (sendings_at F us) (others u z) (ih k)

pub sent_once : FifoSentOnce
sent_once s F marked whole h = all_always (is_sent_once F) (all_operations F) (λ o. few_at s F marked h o.name F.connections whole.connections_once)
