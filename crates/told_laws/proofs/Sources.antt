-- Each letter for an operation comes from the one connection to which its client gave it.
use Rattle.std.proofs.Common.{◌≡◌, ℕ, Bool, true, false, ◌==◌, ◌&&◌, ◌||◌, not, List, [], ◌∷◌, ◌++◌, refl, ap, ◌∙◌, sym, subst}
use Rattle.std.specs.Prelude.{Option, Some, None, cond, filter, find}
use Rattle.std.specs.List.{list_all, list_any}
use Rattle.std.proofs.lemmas.List.Elements.{filter-append}
use Rattle.std.proofs.lemmas.List.Folds.{list_all-append}
use Rattle.lload_names.specs.declared.names.Entry.{Entry}
use Rattle.lload_names.specs.declared.names.Letter.{Letter}
use Rattle.lload_names.specs.declared.names.Letter.TheVariants.{Failed, Forward, Reply}
use Rattle.lload_names.specs.declared.names.OpName.{OpName}
use Rattle.lload_names.specs.declared.names.PartName.{PartName}
use Rattle.lload_names.specs.declared.names.PartName.TheVariants.{Client, Desk, Up as Connection}
use Rattle.lload_names.specs.declared.names.Posted.{Posted}
use Rattle.lload_names.specs.declared.names.What.{What}
use Rattle.lload_names.specs.declared.names.What.TheVariants as what
use Rattle.lload_spec.specs.Entries.{is_missed, is_sent, missed_op}
use Rattle.lload_spec.specs.Journal.{Family, same_op, same_part}
use Rattle.lload_spec.specs.Lists.{implies, passes}
use Rattle.lload_spec.specs.Settings.{Settings}
use Rattle.lload_spec.proofs.Growth.{left, right, both}
use Rattle.lload_laws.proofs.ListLaws.{any-map, found, found_passes, implied, implies_by}
use Rattle.part_laws.proofs.ListLaws.{eq_eqb, eqb_same, not_true, or_elim, or_left, or_right, same_number, same_op_eq}
use Rattle.part_spec.specs.ConnectionState.{ConnectionState, UpRow, empty_connection, is_bind, is_stopped, row_named, step_connection}
use Rattle.part_spec.specs.ConnectionTurn.{is_due}
use Rattle.part_spec.specs.Fit.{ClientLedger, ConnectionLedger, Expected, answers, are_fit_from, empty_client_ledger, empty_connection_ledger, fits_client, fits_connection, is_forward_of, is_free_for, is_held_for, is_known, is_loss, is_of_its_kind, is_unfit, step_client_ledger, step_connection_ledger}
use Rattle.part_spec.specs.Gives.{connection_gives, connection_letters, gives}
use Rattle.part_spec.specs.Marked.{Marked, Taken, entries, letters_to, taken_from}
use Rattle.part_spec.specs.Marks.{each_from, has_connection_mark, marks_connection, must_mark_connection}
use Rattle.part_spec.specs.Share.{ConnectionShare, each_place, is_expired_due, is_expiry_told}
use Rattle.joined_laws.specs.Joined.{Joined}
use Rattle.joined_laws.proofs.Choices.{all_in}
use Rattle.joined_laws.proofs.Taken.{is_fit_there, is_mark_from, was_given}
use Rattle.fifo_laws.proofs.Givings.{goes_only}
use Rattle.fifo_laws.proofs.Quiet.{is_other, rows_stay}
use Rattle.fifo_laws.proofs.SentOnce.{first_of, of_client, there}
use Rattle.forward_laws.proofs.Chosen.{sent_forward}
use Rattle.forward_laws.proofs.Outs.{none_of}
use Rattle.forward_laws.proofs.Sendings.{given_to}
use Rattle.answer_laws.proofs.Told.{marked_so}
use Rattle.told_laws.proofs.Given.{letters_pass}
use Rattle.told_laws.proofs.Letters.{is_from, is_mark_of, letters_are, letters_for, of_operation}

-- whether an entry is a Sent of the operation, or says that it was missed
abbrev pub is_forwarded : OpName → Entry → Bool
is_forwarded op e = is_sent op e || is_missed op e

abbrev is_silent : OpName → Letter → Bool
is_silent op x = not (of_operation op x)

-- A connection gives no letter for an operation that wasn't forwarded to it.
module _ (op : OpName) (s : Settings) where
  pub entry_silent : (p : ConnectionState) (m : Marked) (ms : List Marked) → list_all (is_other op) p.rows ≡ true → not (is_missed op m.entry) ≡ true → is_expired_due s p m ms ≡ true → list_all (λ (x : Posted). is_silent op x.letter) (connection_letters s p m.entry.at m.mark m.entry.what) ≡ true
  entry_silent p m ms h n due =
      letters_pass (is_silent op) s p m.entry.at m.mark m.entry.what (record {
        ended = λ o u late. refl;
        up = λ u. refl;
        retired = λ u. refl;
        down = λ u. refl;
        replied = λ id rest e fine r f back is_last. found (is_other op) _ p.rows r f h;
        told = λ id rest e fine sort r f g i t. found (is_other op) _ p.rows r g h;
        unknown = λ id rest e fine sort r f g i t. found (is_other op) _ p.rows r g h;
        expired = expired;
        missed = λ o e. sym (ap (λ w. not (passes (same_op op) (missed_op w))) e) ∙ n;
        lost = λ why e. h;
      })
    where
      expired : (o : OpName) → m.entry.what ≡ what.Expired o → not (same_op op o) ≡ true
      expired o e = by (row_named p o) refl (subst (λ w. is_expired_due s p (record { entry = record { part = m.entry.part; at = m.entry.at; what = w }; mark = m.mark }) ms ≡ true) e due)
        where
          by : (q : Option UpRow) → row_named p o ≡ q → passes (λ r. is_due s m.entry.at r && is_expiry_told (entries ms) r) q ≡ true → not (same_op op o) ≡ true
          by None f k = absurd (let bad : false ≡ true = k in cc)
          by (Some r) f k = ap (λ x. not (same_op op x)) (same_op_eq o r.op (found_passes (λ x. same_op o x.op) p.rows r f)) ∙ found (is_other op) (λ x. same_op o x.op) p.rows r f h

  pub list_silent : (u : ℕ) (p : ConnectionState) (b ms : List Marked) → list_all (λ m. not (is_forwarded op m.entry)) ms ≡ true → each_from (step_connection s) has_connection_mark p ms ≡ true → each_place (step_connection s) (λ q c m d. is_expired_due s q m d) p b ms ≡ true → list_all (is_other op) p.rows ≡ true → list_all (λ (x : Posted). is_silent op x.letter) (connection_gives s p ms) ≡ true
  list_silent u p b [] n k due h = refl
  list_silent u p b (m ∷ ms) n k due h =
      list_all-append (λ (x : Posted). is_silent op x.letter) (connection_letters s p m.entry.at m.mark m.entry.what) (connection_gives s (step_connection s p m) ms)
      ∙ both (list_all (λ (x : Posted). is_silent op x.letter) (connection_letters s p m.entry.at m.mark m.entry.what)) _
      (entry_silent p m ms h (neither (is_sent op m.entry) (is_missed op m.entry) (left (not (is_forwarded op m.entry)) _ n)).1 (left (is_expired_due s p m ms) _ due))
      (list_silent u (step_connection s p m) (b ++ m ∷ []) ms (right (not (is_forwarded op m.entry)) _ n) (right (has_connection_mark p m) _ k) (right (is_expired_due s p m ms) _ due)
      (rows_stay op s m.entry m.mark p m.entry.what (neither (is_sent op m.entry) (is_missed op m.entry) (left (not (is_forwarded op m.entry)) _ n)).0 (marked_so s u op p m (left (has_connection_mark p m) _ k)) h))
    where
      neither : (a d : Bool) → not (a || d) ≡ true → (not a ≡ true) × (not d ≡ true)
      neither true d i = absurd (let bad : false ≡ true = i in cc)
      neither false d i = (refl, i)

  -- so none that a part gets of it
  none_to : (q : PartName) (xs : List Posted) → list_all (λ (x : Posted). is_silent op x.letter) xs ≡ true → list_any (of_operation op) (letters_to q xs) ≡ false
  none_to q [] h = refl
  none_to q (x ∷ xs) h = by (same_part q x.to) (not_true (of_operation op x.letter) (left (is_silent op x.letter) _ h)) (none_to q xs (right (is_silent op x.letter) _ h))
    where
      by : (b : Bool) → of_operation op x.letter ≡ false → list_any (of_operation op) (letters_to q xs) ≡ false → list_any (of_operation op) ((elim b [ true ↦ x.letter ∷ [] | false ↦ [] ]) ++ letters_to q xs) ≡ false
      by true e k = ap (λ a. a || list_any (of_operation op) (letters_to q xs)) e ∙ k
      by false e k = k

  -- The Forward of what was missed was taken of the operation's client.
  missed_mark : (l : ConnectionLedger) (w : What) (mark : Option Taken) (rest : Bool) → passes (same_op op) (missed_op w) ≡ true → (elim mark [ None ↦ not (must_mark_connection l.state w) | Some t ↦ marks_connection l.state w t.letter ]) ≡ true → (not (is_unfit (fits_connection s) l mark) && rest) ≡ true → is_mark_from (Client op.client) (is_forward_of op) mark ≡ true
  missed_mark l (what.Missed o) None rest h k f = absurd (let bad : false ≡ true = k in cc)
  missed_mark l (what.Missed o) (Some t) rest h k f = by t.sender t.letter k (is_fit_there (fits_connection s) l t rest f)
    where
      by : (sender : PartName) (x : Letter) → marks_connection l.state (what.Missed o) x ≡ true → fits_connection s l sender x ≡ true → (same_part (Client op.client) sender && is_forward_of op x) ≡ true
      by sender (Forward q sort r ask holder) i j =
          let same : same_op op q ≡ true = ap (λ z. same_op z q) (same_op_eq op o h) ∙ left (same_op o q) (is_stopped l.state) i in
          both (same_part (Client op.client) sender) _
          (of_client sender op.client (ap (λ z. same_part sender (Client z.client)) (same_op_eq op q same)
          ∙ first_of (same_part sender (Client q.client)) (same_part sender (Client holder.client)) (not (list_any (λ x. is_forward_of q x.letter) l.taken)) l.state.up (is_of_its_kind s l.state sort r ask) (not (is_bind l.state) || is_free_for l.state holder && is_held_for l.state q holder) j)) same
      by sender _ i j = absurd (let bad : false ≡ true = i in cc)
  missed_mark l _ mark rest h k f = absurd (let bad : false ≡ true = h in cc)

  missed_taken : (l : ConnectionLedger) (ms : List Marked) → each_from (step_connection s) has_connection_mark l.state ms ≡ true → are_fit_from (fits_connection s) (step_connection_ledger s) l ms ≡ true → list_any (λ m. is_missed op m.entry) ms ≡ true → list_any (λ m. is_mark_from (Client op.client) (is_forward_of op) m.mark) ms ≡ true
  missed_taken l [] k f h = absurd (let bad : false ≡ true = h in cc)
  missed_taken l (m ∷ ms) k f h =
      or_elim (is_missed op m.entry) (list_any (λ x. is_missed op x.entry) ms)
      (λ j. or_left (is_mark_from (Client op.client) (is_forward_of op) m.mark) _ (missed_mark l m.entry.what m.mark _ j (left (has_connection_mark l.state m) _ k) f))
      (λ j. or_right (is_mark_from (Client op.client) (is_forward_of op) m.mark) _ (missed_taken (step_connection_ledger s l m) ms (right (has_connection_mark l.state m) _ k) (right (not (is_unfit (fits_connection s) l m.mark)) _ f) j)) h

-- a Forward that goes to one connection only
only_there : (op : OpName) (w u : ℕ) (xs : List Posted) → goes_only op w xs ≡ true → list_any (λ x. same_part (Connection u) x.to && is_forward_of op x.letter) xs ≡ true → (w == u) ≡ true
only_there op w u [] h k = absurd (let bad : false ≡ true = k in cc)
only_there op w u (x ∷ xs) h k =
    or_elim (same_part (Connection u) x.to && is_forward_of op x.letter) (list_any (λ y. same_part (Connection u) y.to && is_forward_of op y.letter) xs)
    (λ j. one x.to (implied (is_forward_of op x.letter) (same_part (Connection w) x.to) (left (implies (is_forward_of op x.letter) (same_part (Connection w) x.to)) _ h) (right (same_part (Connection u) x.to) _ j)) (left (same_part (Connection u) x.to) _ j))
    (λ j. only_there op w u xs (right (implies (is_forward_of op x.letter) (same_part (Connection w) x.to)) _ h) j) k
  where
    one : (p : PartName) → same_part (Connection w) p ≡ true → same_part (Connection u) p ≡ true → (w == u) ≡ true
    one (Connection v) i j = eq_eqb w u (same_number w v i ∙ sym (same_number u v j))
    one _ i j = absurd (let bad : false ≡ true = i in cc)

pub any_or : {A : Type 0} (a d : A → Bool) (xs : List A) → list_any (λ x. a x || d x) xs ≡ true → (list_any a xs || list_any d xs) ≡ true
any_or a d [] h = h
any_or a d (x ∷ xs) h =
    or_elim (a x || d x) (list_any (λ y. a y || d y) xs)
    (λ k. or_elim (a x) (d x) (λ j. or_left (a x || list_any a xs) _ (or_left (a x) _ j)) (λ j. or_right (a x || list_any a xs) _ (or_left (d x) _ j)) k)
    (λ k. or_elim (list_any a xs) (list_any d xs) (λ j. or_left (a x || list_any a xs) _ (or_right (a x) _ j)) (λ j. or_right (a x || list_any a xs) _ (or_right (d x) _ j)) (any_or a d xs k)) h

-- what a client takes for an operation comes from a connection
nowhere : (op : OpName) (t : Expected → Bool) (xs : List Expected) → passes t (find (λ x. same_op op x.op && false) xs) ≡ true → false ≡ true
nowhere op t [] k = k
nowhere op t (x ∷ xs) k = nowhere op t xs (sym (ap (λ b. passes t (cond b (Some x) (find (λ y. same_op op y.op && false) xs))) (never (same_op op x.op))) ∙ k)
  where
    never : (b : Bool) → (b && false) ≡ false
    never true = refl
    never false = refl

abbrev is_connection : PartName → Bool
is_connection (Connection v) = true
is_connection _ = false

module _ (s : Settings) (op : OpName) where
  abbrev is_sent_by_some : Option Taken → Bool
  is_sent_by_some mark = implies (is_mark_of op mark) (passes (λ t. is_connection t.sender) mark)

  one_sender : (l : ClientLedger) (mark : Option Taken) (rest : Bool) → (not (is_unfit (fits_client s) l mark) && rest) ≡ true → is_sent_by_some mark ≡ true
  one_sender l None rest f = refl
  one_sender l (Some t) rest f = by t.sender t.letter (is_fit_there (fits_client s) l t rest f)
    where
      of_any : (b : Bool) → implies b true ≡ true
      of_any true = refl
      of_any false = refl

      by : (sender : PartName) (x : Letter) → fits_client s l sender x ≡ true → implies (of_operation op x) (is_connection sender) ≡ true
      by (Connection u) x j = of_any (of_operation op x)
      by Desk (Reply o r is_last who) j = absurd (let bad : false ≡ true = nowhere o (λ x. answers x.request r is_last && is_known s x.request r who) l.expected j in cc)
      by (Client c) (Reply o r is_last who) j = absurd (let bad : false ≡ true = nowhere o (λ x. answers x.request r is_last && is_known s x.request r who) l.expected j in cc)
      by Desk (Failed o which) j = absurd (let bad : false ≡ true = nowhere o (λ x. is_loss s x.request which) l.expected j in cc)
      by (Client c) (Failed o which) j = absurd (let bad : false ≡ true = nowhere o (λ x. is_loss s x.request which) l.expected j in cc)
      by Desk _ j = refl
      by (Client c) _ j = refl

  senders : (l : ClientLedger) (ms : List Marked) → are_fit_from (fits_client s) (step_client_ledger s) l ms ≡ true → list_all (λ m. is_sent_by_some m.mark) ms ≡ true
  senders l [] f = refl
  senders l (m ∷ ms) f = both (is_sent_by_some m.mark) _ (one_sender l m.mark _ f) (senders (step_client_ledger s l m) ms (right (not (is_unfit (fits_client s) l m.mark)) _ f))

module _ (s : Settings) (F : Family) (marked : PartName → List Marked) (h : Joined s F marked) (op : OpName) where
  connection : (u : ℕ) → ConnectionShare s u (marked (Connection u))
  connection u = h.shared.shares (Connection u)

  -- the connection to which the operation's client gave it
  abbrev pub home : ℕ
  home = (there s F marked h op).0

  abbrev pub IsForwardedTo : ℕ → Type 0
  IsForwardedTo u = list_any (λ m. is_mark_from (Client op.client) (is_forward_of op) m.mark) (marked (Connection u)) ≡ true

  -- what was forwarded is at home
  pub at_home : (u : ℕ) → IsForwardedTo u → (home == u) ≡ true
  at_home u k = only_there op home u (gives s (Client op.client) (marked (Client op.client))) (there s F marked h op).1 (given_to (Connection u) (is_forward_of op) (gives s (Client op.client) (marked (Client op.client))) (was_given s F marked h.linked (Client op.client) (Connection u) (is_forward_of op) k))

  pub missed_forward : (u : ℕ) → list_any (is_missed op) (F.connection u) ≡ true → IsForwardedTo u
  missed_forward u k = missed_taken op s (empty_connection_ledger s u) (marked (Connection u)) (connection u).marks (h.fit (Connection u)) (sym (any-map (is_missed op) (λ (m : Marked). m.entry) (marked (Connection u))) ∙ subst (λ l. list_any (is_missed op) l ≡ true) (sym (h.shared.same_entries (Connection u))) k)

  pub forwarded_there : (u : ℕ) → list_any (is_forwarded op) (F.connection u) ≡ true → IsForwardedTo u
  forwarded_there u k = or_elim (list_any (is_sent op) (F.connection u)) (list_any (is_missed op) (F.connection u)) (sent_forward s F marked h op u) (missed_forward u) (any_or (is_sent op) (is_missed op) (F.connection u) k)

  -- a connection that gives a letter for it took it
  pub given_there : (u c : ℕ) → list_any (λ m. is_mark_from (Connection u) (of_operation op) m.mark) (marked (Client c)) ≡ true → list_any (is_forwarded op) (F.connection u) ≡ true
  given_there u c k = subst (λ l. list_any (is_forwarded op) l ≡ true) (h.shared.same_entries (Connection u)) (any-map (is_forwarded op) (λ (m : Marked). m.entry) (marked (Connection u)) ∙ by (list_any (λ m. is_forwarded op m.entry) (marked (Connection u))) refl)
    where
      by : (d : Bool) → list_any (λ m. is_forwarded op m.entry) (marked (Connection u)) ≡ d → d ≡ true
      by true e = refl
      by false e = sym (none_to op s (Client c) (gives s (Connection u) (marked (Connection u))) (list_silent op s u (empty_connection s u) [] (marked (Connection u)) (none_of (λ m. is_forwarded op m.entry) (marked (Connection u)) e) (connection u).marks (connection u).expired refl)) ∙ was_given s F marked h.linked (Connection u) (Client c) (of_operation op) k

  -- so each letter for it is from its home
  pub from_home : (c : ℕ) → list_all (λ m. is_from home op m.mark) (marked (Client c)) ≡ true
  from_home c = all_in (λ m. is_sent_by_some s op m.mark) (λ m. is_from home op m.mark) (marked (Client c)) (λ m j at. by m.mark j (λ v i. at (λ x. is_mark_from (Connection v) (of_operation op) x.mark) i)) (senders s op (empty_client_ledger c) (marked (Client c)) (h.fit (Client c)))
    where
      by : (mark : Option Taken) → is_sent_by_some s op mark ≡ true → ((v : ℕ) → is_mark_from (Connection v) (of_operation op) mark ≡ true → list_any (λ x. is_mark_from (Connection v) (of_operation op) x.mark) (marked (Client c)) ≡ true) → is_from home op mark ≡ true
      by None j at = refl
      by (Some t) j at = implies_by (of_operation op t.letter) _ (λ i. on t.sender i (implied (of_operation op t.letter) _ j i) at)
        where
          on : (sender : PartName) → of_operation op t.letter ≡ true → is_connection sender ≡ true → ((v : ℕ) → (same_part (Connection v) sender && of_operation op t.letter) ≡ true → list_any (λ x. is_mark_from (Connection v) (of_operation op) x.mark) (marked (Client c)) ≡ true) → (same_part (Connection home) sender && of_operation op t.letter) ≡ true
          on (Connection v) i e f = both (home == v) _ (at_home v (forwarded_there v (given_there v c (f v (both (v == v) _ (eqb_same v) i))))) i
          on Desk i e f = absurd (let bad : false ≡ true = e in cc)
          on (Client d) i e f = absurd (let bad : false ≡ true = e in cc)

  -- they are a beginning of those that its home gives
  pub letters_begin : (waiting : List Letter) × (filter (of_operation op) (letters_to (Client op.client) (gives s (Connection home) (marked (Connection home)))) ≡ letters_for op (marked (Client op.client)) ++ waiting)
  letters_begin =
      let begun = h.linked.in_order (Connection home) (Client op.client) in
      (filter (of_operation op) begun.0, ap (filter (of_operation op)) begun.1 ∙ filter-append (of_operation op) (taken_from (Connection home) (marked (Client op.client))) begun.0 ∙ ap (λ l. l ++ filter (of_operation op) begun.0) (sym (letters_are op home (marked (Client op.client)) (from_home op.client))))
