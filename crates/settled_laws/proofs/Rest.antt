-- Where nothing waits, the desk heard each state of each connection, and each choice that was returned.
use Rattle.std.proofs.Common.{◌≡◌, ℕ, Bool, true, false, ◌&&◌, not, List, [], ◌∷◌, ◌++◌, refl, ap, ◌∙◌, sym, subst}
use Rattle.std.specs.Prelude.{◌==◌, Option, Some, None, flat_map, length}
use Rattle.std.specs.List.{list_any}
use Rattle.lload_names.specs.Same.{same_letter}
use Rattle.lload_names.specs.declared.names.Answer.{Answer}
use Rattle.lload_names.specs.declared.names.Answer.TheVariants.{Go, Busy, Unavailable}
use Rattle.lload_names.specs.declared.names.Entry.{Entry}
use Rattle.lload_names.specs.declared.names.Letter.{Letter}
use Rattle.lload_names.specs.declared.names.Letter.TheVariants.{Returned, IsUp, IsRetired, IsDown}
use Rattle.lload_names.specs.declared.names.OpName.{OpName}
use Rattle.lload_names.specs.declared.names.PartName.{PartName}
use Rattle.lload_names.specs.declared.names.PartName.TheVariants.{Desk, Client, Up as Connection}
use Rattle.lload_names.specs.declared.names.What.{What}
use Rattle.lload_names.specs.declared.names.What.TheVariants as what
use Rattle.lload_spec.specs.Lists.{implies, where_there, each_split_from}
use Rattle.lload_spec.specs.Settings.{Settings}
use Rattle.lload_spec.specs.Entries.{chosen, is_up, is_retired, is_down, is_news}
use Rattle.lload_spec.specs.Journal.{Family, same_op}
use Rattle.lload_spec.specs.News.{is_heard, tells_down, tells_retired, tells_returned, tells_up}
use Rattle.lload_spec.specs.Operations.{Operation, is_live_at, live_operations, operations}
use Rattle.lload_spec.specs.Settled.{is_chosen_settled, is_go, is_state_heard}
use Rattle.lload_spec.proofs.Growth.{left, right, both}
use Rattle.lload_laws.proofs.ListLaws.{all_always, any-map, found_passes, implies_by}
use Rattle.part_laws.proofs.ListLaws.{any_before, any_behind, eq_eqb, or_left, same_number, same_op_eq, same_op_refl}
use Rattle.part_spec.specs.ClientState.{ClientState, ClientRow, empty_client, row_named, step_client}
use Rattle.part_spec.specs.ClientTurn.{letters_for}
use Rattle.part_spec.specs.ConnectionState.{ConnectionState, empty_connection, step_connection}
use Rattle.part_spec.specs.ConnectionTurn.{holder_ended, loss}
use Rattle.part_spec.specs.Gives.{client_letters, connection_letters, gives, gives_from}
use Rattle.part_spec.specs.Inputs.{to}
use Rattle.part_spec.specs.Marked.{Marked, Taken, entries, letters_to}
use Rattle.part_spec.specs.Share.{ClientShare}
use Rattle.client_laws.proofs.Matches.{ClientLives, Match}
use Rattle.connection_laws.proofs.ConnectionSays.{number_step}
use Rattle.joined_laws.proofs.Begun.{is_begun, is_live_named, live_named, of_row, own_client}
use Rattle.joined_laws.proofs.Taken.{letters_to_both}
use Rattle.joined_laws.proofs.Walks.{Begins, Begun, begun}
use Rattle.settled_laws.specs.Laws.{RestLaw, Rested, are_states_heard}
use Rattle.settled_laws.proofs.Heard.{IsOfNews, gives_at, taken_heard}

-- What tells a state of a connection, and that an operation was returned, is news.

pub up_news : (u : ℕ) → IsOfNews (tells_up u)
up_news u = record { same = λ x y. same y x; news = news }
  where
    same : (y x : Letter) → same_letter x y ≡ true → tells_up u y ≡ true → tells_up u x ≡ true
    same (IsUp v) (IsUp w) h k = eq_eqb w u (same_number w v h ∙ same_number v u k)
    same (IsUp v) _ h k = absurd (let bad : false ≡ true = h in cc)
    same _ x h k = absurd (let bad : false ≡ true = k in cc)

    news : (y : Letter) → tells_up u y ≡ true → is_news y ≡ true
    news (IsUp v) k = refl
    news _ k = absurd (let bad : false ≡ true = k in cc)

pub retired_news : (u : ℕ) → IsOfNews (tells_retired u)
retired_news u = record { same = λ x y. same y x; news = news }
  where
    same : (y x : Letter) → same_letter x y ≡ true → tells_retired u y ≡ true → tells_retired u x ≡ true
    same (IsRetired v) (IsRetired w) h k = eq_eqb w u (same_number w v h ∙ same_number v u k)
    same (IsRetired v) _ h k = absurd (let bad : false ≡ true = h in cc)
    same _ x h k = absurd (let bad : false ≡ true = k in cc)

    news : (y : Letter) → tells_retired u y ≡ true → is_news y ≡ true
    news (IsRetired v) k = refl
    news _ k = absurd (let bad : false ≡ true = k in cc)

pub down_news : (u : ℕ) → IsOfNews (tells_down u)
down_news u = record { same = λ x y. same y x; news = news }
  where
    same : (y x : Letter) → same_letter x y ≡ true → tells_down u y ≡ true → tells_down u x ≡ true
    same (IsDown v) (IsDown w) h k = eq_eqb w u (same_number w v h ∙ same_number v u k)
    same (IsDown v) _ h k = absurd (let bad : false ≡ true = h in cc)
    same _ x h k = absurd (let bad : false ≡ true = k in cc)

    news : (y : Letter) → tells_down u y ≡ true → is_news y ≡ true
    news (IsDown v) k = refl
    news _ k = absurd (let bad : false ≡ true = k in cc)

returned_news : (op : OpName) → IsOfNews (tells_returned op)
returned_news op = record { same = λ x y. same y x; news = news }
  where
    same : (y x : Letter) → same_letter x y ≡ true → tells_returned op y ≡ true → tells_returned op x ≡ true
    same (Returned o u) (Returned q v) h k = subst (λ z. same_op op z ≡ true) (sym (same_op_eq q o (left (same_op q o) _ h))) k
    same (Returned o u) _ h k = absurd (let bad : false ≡ true = h in cc)
    same _ x h k = absurd (let bad : false ≡ true = k in cc)

    news : (y : Letter) → tells_returned op y ≡ true → is_news y ≡ true
    news (Returned o u) k = refl
    news _ k = absurd (let bad : false ≡ true = k in cc)

-- What a connection gives where it comes up, retires and goes down.

module _ (s : Settings) (p : ConnectionState) (at : ℕ) (mark : Option Taken) (u : ℕ) (own : p.number ≡ u) where
  abbrev Gives : (Letter → Bool) → What → Type 0
  Gives test w = list_any test (letters_to Desk (connection_letters s p at mark w)) ≡ true

  up_gives : (w : What) → is_up w ≡ true → Gives (tells_up u) w
  up_gives what.Up h = or_left (p.number == u) false (eq_eqb p.number u own)
  up_gives _ h = absurd (let bad : false ≡ true = h in cc)

  retired_gives : (w : What) → is_retired w ≡ true → Gives (tells_retired u) w
  retired_gives what.Retired h = or_left (p.number == u) false (eq_eqb p.number u own)
  retired_gives _ h = absurd (let bad : false ≡ true = h in cc)

  down_gives : (e : Entry) (w : What) → e.what ≡ w → is_down (record e { what = w }) ≡ true → Gives (tells_down u) w
  down_gives e (what.Down why) k h =
      subst (λ l. list_any (tells_down u) l ≡ true) (sym (letters_to_both Desk (flat_map (loss p) p.rows) (holder_ended p ++ to Desk (IsDown p.number))))
      (any_behind (tells_down u) (letters_to Desk (flat_map (loss p) p.rows)) (letters_to Desk (holder_ended p ++ to Desk (IsDown p.number)))
      (subst (λ l. list_any (tells_down u) l ≡ true) (sym (letters_to_both Desk (holder_ended p) (to Desk (IsDown p.number))))
      (any_behind (tells_down u) (letters_to Desk (holder_ended p)) (IsDown p.number ∷ []) (or_left (p.number == u) false (eq_eqb p.number u own)))))
  down_gives e _ k h = absurd (let bad : false ≡ true = h in cc)

-- A row is of a live operation of its name.

row_live : (c : ℕ) (place : List Entry) (p : ClientState) (op : OpName) (r : ClientRow) → ClientLives c place p → p.number ≡ c → row_named p op ≡ Some r → is_live_at c place op ≡ true
row_live c place p op r lives number e =
    let one : (o : Operation) × (Match r o × (is_live_named c place o ≡ true)) = of_row (λ x. p.number == op.client && x.k == op.k) (is_live_named c place) p.rows (live_operations c place) r lives.rows (live_named c place) e in
    let names : (p.number == op.client && r.k == op.k) ≡ true = found_passes (λ x. p.number == op.client && x.k == op.k) p.rows r e in
    let client : one.0.name.client ≡ c = own_client c (length (operations c place)) one.0 (left _ (is_live_at c place one.0.name) one.1.1) in
    let named : same_op one.0.name op ≡ true = both (one.0.name.client == op.client) _ (ap (λ n. n == op.client) (client ∙ sym number) ∙ left (p.number == op.client) _ names) (ap (λ n. n == op.k) (sym one.1.0.k) ∙ right (p.number == op.client) _ names) in
    subst (λ n. is_live_at c place n ≡ true) (same_op_eq one.0.name op named) (right _ (is_live_at c place one.0.name) one.1.1)

module _ (s : Settings) (F : Family) (marked : PartName → List Marked) (h : Rested s F marked) where
  -- what a part's list gives the desk was heard
  heard_so : (p : PartName) (test : Letter → Bool) → IsOfNews test → list_any test (letters_to Desk (gives s p (marked p))) ≡ true → is_heard test F.desk ≡ true
  heard_so p test n k =
      subst (λ es. is_heard test es ≡ true) (h.joined.linked.same_entries Desk)
      (taken_heard p test n (marked Desk) (h.joined.linked.marks Desk) (subst (λ l. list_any test l ≡ true) (sym (h.all_taken p Desk)) k))

  -- Connections.

  module _ (u : ℕ) where
    told : (test : Letter → Bool) (is_it : Entry → Bool) → IsOfNews test → ((p : ConnectionState) (m : Marked) → p.number ≡ u → is_it m.entry ≡ true → list_any test (letters_to Desk (connection_letters s p m.entry.at m.mark m.entry.what)) ≡ true) → implies (list_any is_it (F.connection u)) (is_heard test F.desk) ≡ true
    told test is_it n says =
        implies_by (list_any is_it (F.connection u)) (is_heard test F.desk)
        (λ k. heard_so (Connection u) test n
        (gives_at (step_connection s) (λ q m. connection_letters s q m.entry.at m.mark m.entry.what) (λ q. q.number ≡ u) Desk test (λ m. is_it m.entry) (λ q m e. number_step s m.entry m.mark q m.entry.what ∙ e) says (empty_connection s u) (marked (Connection u)) refl
        (sym (any-map is_it (λ (m : Marked). m.entry) (marked (Connection u))) ∙ subst (λ es. list_any is_it es ≡ true) (sym (h.joined.linked.same_entries (Connection u))) k)))

    states : are_states_heard F u ≡ true
    states =
        both (is_state_heard F u (λ e. is_up e.what) tells_up && is_state_heard F u (λ e. is_retired e.what) tells_retired) _
        (both (is_state_heard F u (λ e. is_up e.what) tells_up) _
        (told (tells_up u) (λ e. is_up e.what) (up_news u) (λ p m own k. up_gives s p m.entry.at m.mark u own m.entry.what k))
        (told (tells_retired u) (λ e. is_retired e.what) (retired_news u) (λ p m own k. retired_gives s p m.entry.at m.mark u own m.entry.what k)))
        (told (tells_down u) is_down (down_news u) (λ p m own k. down_gives s p m.entry.at m.mark u own m.entry m.entry.what refl k))

  -- Clients.

  module _ (c : ℕ) where
    abbrev given : ClientState → List Marked → List Letter
    given p ms = letters_to Desk (gives_from (step_client s) (λ q m. client_letters s q m.entry.at m.entry.what) p ms)

    -- a choice of a connection for an operation that isn't live is returned
    returned : (place : List Entry) (p : ClientState) (m : Marked) (w : What) → (is_begun w ≡ true → Begins c place p m) → ((op : OpName) → list_any (tells_returned op) (letters_to Desk (client_letters s p m.entry.at w)) ≡ true → is_heard (tells_returned op) F.desk ≡ true) → where_there (λ x. implies (is_go x.value && not (is_live_at c place x.op)) (is_heard (tells_returned x.op) F.desk)) (chosen w) ≡ true
    returned place p m (what.Chosen op answer) begins told_so =
        implies_by (is_go answer && not (is_live_at c place op)) (is_heard (tells_returned op) F.desk)
        (λ k. told_so op (by answer (row_named p op) refl (left (is_go answer) _ k) (right (is_go answer) _ k)))
      where
        by : (a : Answer) (o : Option ClientRow) → row_named p op ≡ o → is_go a ≡ true → not (is_live_at c place op) ≡ true → list_any (tells_returned op) (letters_to Desk (letters_for s p op o a)) ≡ true
        by (Go u b) None e i j = or_left (same_op op op) false (same_op_refl op)
        by (Go u b) (Some r) e i j = absurd (let bad : false ≡ true = ap not (sym (row_live c place p op r (begins refl).lives (begins refl).says.number e)) ∙ j in cc)
        by Busy o e i j = absurd (let bad : false ≡ true = i in cc)
        by Unavailable o e i j = absurd (let bad : false ≡ true = i in cc)
    returned place p m _ begins told_so = refl

    walk : (place : List Entry) (p : ClientState) (ms : List Marked) → Begun s c place p ms → ((op : OpName) → list_any (tells_returned op) (given p ms) ≡ true → is_heard (tells_returned op) F.desk ≡ true) → each_split_from (λ b e r. is_chosen_settled F c b e) place (entries ms) ≡ true
    walk place p [] begins told_so = refl
    walk place p (m ∷ ms) begins told_so =
        both (is_chosen_settled F c place m.entry) _
        (returned place p m m.entry.what begins.0 (λ op k. told_so op (more op (any_before (tells_returned op) (letters_to Desk (client_letters s p m.entry.at m.entry.what)) (given (step_client s p m) ms) k))))
        (walk (place ++ m.entry ∷ []) (step_client s p m) ms begins.1 (λ op k. told_so op (more op (any_behind (tells_returned op) (letters_to Desk (client_letters s p m.entry.at m.entry.what)) (given (step_client s p m) ms) k))))
      where
        more : (op : OpName) → list_any (tells_returned op) (letters_to Desk (client_letters s p m.entry.at m.entry.what) ++ given (step_client s p m) ms) ≡ true → list_any (tells_returned op) (given p (m ∷ ms)) ≡ true
        more op k = subst (λ l. list_any (tells_returned op) l ≡ true) (sym (letters_to_both Desk (client_letters s p m.entry.at m.entry.what) (gives_from (step_client s) (λ q x. client_letters s q x.entry.at x.entry.what) (step_client s p m) ms))) k

    returns : each_split_from (λ b e r. is_chosen_settled F c b e) [] (F.client c) ≡ true
    returns = subst (λ es. each_split_from (λ b e r. is_chosen_settled F c b e) [] es ≡ true) (h.joined.linked.same_entries (Client c)) (walk [] (empty_client c) (marked (Client c)) (begun s c (marked (Client c)) share) (λ op k. heard_so (Client c) (tells_returned op) (returned_news op) k))
      where
        share : ClientShare s c (marked (Client c))
        share = h.joined.shared.shares (Client c)

pub at_rest : RestLaw
at_rest s F marked h =
    record {
      states = all_always (are_states_heard F) F.connections (λ u. states s F marked h u);
      returns = all_always (λ c. each_split_from (λ b e r. is_chosen_settled F c b e) [] (F.client c)) F.clients (λ c. returns s F marked h c);
    }
