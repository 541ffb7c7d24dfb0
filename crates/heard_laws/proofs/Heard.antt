-- Where nothing waits, the desk heard the end of each operation that is over at a regular connection.
use Rattle.std.proofs.Common.{◌≡◌, ◌⊎◌, inl, inr, ℕ, true, false, ◌==◌, ◌&&◌, not, List, [], ◌∷◌, ◌++◌, refl, ap, ◌∙◌, sym, subst, append_assoc}
use Rattle.std.specs.Prelude.{if◌then◌else◌}
use Rattle.std.specs.List.{list_any}
use Rattle.std.proofs.lemmas.List.{append-nil}
use Rattle.lload_names.specs.Same.{same_letter}
use Rattle.lload_names.specs.declared.names.ConnKind.TheVariants.{Regular}
use Rattle.lload_names.specs.declared.names.Entry.{Entry}
use Rattle.lload_names.specs.declared.names.Letter.{Letter}
use Rattle.lload_names.specs.declared.names.Letter.TheVariants.{Ended}
use Rattle.lload_names.specs.declared.names.OpName.{OpName}
use Rattle.lload_names.specs.declared.names.PartName.TheVariants.{Desk, Up as Connection}
use Rattle.lload_spec.specs.Answers.{is_open, of_operation, sendings}
use Rattle.lload_spec.specs.Entries.{is_missed, is_news}
use Rattle.lload_spec.specs.Journal.{Family, same_op}
use Rattle.lload_spec.specs.News.{is_heard, tells_ended}
use Rattle.lload_spec.specs.Over.{from_sent, is_held_since, is_over_at}
use Rattle.lload_spec.specs.Settings.{Settings, is_of_kind}
use Rattle.lload_spec.proofs.Growth.{left, right}
use Rattle.part_laws.proofs.ListLaws.{any_before, any_behind, same_op_eq}
use Rattle.part_spec.specs.ConnectionState.{step_connection}
use Rattle.part_spec.specs.Fit.{ConnectionLedger, empty_connection_ledger, step_connection_ledger}
use Rattle.part_spec.specs.Gives.{connection_gives, connection_letters, gives}
use Rattle.part_spec.specs.Laws.{FitIsWhole}
use Rattle.part_spec.specs.Marked.{Marked, entries, letters_to}
use Rattle.part_spec.specs.Marks.{each_from, has_connection_mark}
use Rattle.connection_laws.proofs.Permits.{push_entry}
use Rattle.joined_laws.proofs.Taken.{letters_to_both}
use Rattle.carried_laws.specs.Laws.{ForwardsAreRight}
use Rattle.rows_laws.proofs.Known.{AtEach, Known}
use Rattle.rows_laws.proofs.Live.{Live, open_here}
use Rattle.rows_laws.proofs.Regular.{known_at_each}
use Rattle.rows_laws.proofs.Somewhere.{OneIn}
use Rattle.settled_laws.proofs.Heard.{IsOfNews, taken_heard}
use Rattle.upstream_laws.proofs.Places.{regular_alone}
use Rattle.open_laws.proofs.Alone.{Once, one_of}
use Rattle.open_laws.proofs.Among.{Such, among_one, among_passing, of_each}
use Rattle.ended_laws.proofs.Latencies.{once, share}
use Rattle.ended_laws.proofs.RegularTold.{first_from, unsent_from}
use Rattle.heard_laws.specs.Laws.{RegularEndsAreHeard}
use Rattle.heard_laws.proofs.Gone.{is_row_of}
use Rattle.heard_laws.proofs.Pending.{Pending, pending_step}

-- that an operation ended is news
pub ended_news : (op : OpName) → IsOfNews (tells_ended op)
ended_news op = record { same = λ x y. same y x; news = news }
  where
    same : (y x : Letter) → same_letter x y ≡ true → tells_ended op y ≡ true → tells_ended op x ≡ true
    same (Ended o u told) (Ended q v t) h k = subst (λ z. same_op op z ≡ true) (sym (same_op_eq q o (left (same_op q o) (v == u) (left (same_op q o && v == u) _ h)))) k
    same (Ended o u told) _ h k = absurd (let bad : false ≡ true = h in cc)
    same _ x h k = absurd (let bad : false ≡ true = k in cc)

    news : (y : Letter) → tells_ended op y ≡ true → is_news y ≡ true
    news (Ended o u told) k = refl
    news _ k = absurd (let bad : false ≡ true = k in cc)

module _ (s : Settings) (F : Family) (u : ℕ) (kind : is_of_kind s Regular u ≡ true) (op : OpName) where
  abbrev IsOver : List Entry → Type 0
  IsOver place = is_over_at s F op u (from_sent op (sendings u place)) ≡ true

  -- what isn't over by the state isn't by the list
  not_over : (before : List Marked) (l : ConnectionLedger) → Known s F u before l → entries before ≡ F.connection u → Once u (entries before) → Pending op (entries before) l.state.rows → IsOver (entries before) → false ≡ true
  not_over before l h same alone (inl p) over = sym (ap (is_over_at s F op u) (unsent_from u (entries before) op p.0) ∙ ap (list_any (is_missed op)) (sym same) ∙ p.1) ∙ over
  not_over before l h same alone (inr there) over =
      let row : Such (λ r. is_row_of op r ≡ true) l.state.rows = among_passing (is_row_of op) l.state.rows there in
      let sent : Such (λ x. Live s F row.it x) (sendings u (entries before)) = among_one (λ x. Live s F row.it x) (sendings u (entries before)) (of_each (λ r. OneIn (λ x. Live s F r x) (sendings u (entries before))) l.state.rows row.it h.lives.of_rows row.among) in
      let its : same_op op sent.it.op ≡ true = ap (same_op op) sent.so.op ∙ row.so in
      let first = first_from op sent.it (sendings u (entries before)) (one_of u (entries before) op sent.it alone sent.among its) sent.among its in
      sym (ap (is_over_at s F op u) first.1 ∙ ap (λ b. not (if b then is_held_since s F (sent.it ∷ first.0) else of_operation F (is_open s) sent.it)) (regular_alone s u kind) ∙ ap not (open_here s F row.it sent.it sent.so)) ∙ over

  over_gives : (ms before : List Marked) (l : ConnectionLedger) → AtEach s (Known s F u) before l ms → each_from (step_connection s) has_connection_mark l.state ms ≡ true → entries before ++ entries ms ≡ F.connection u → Once u (entries before ++ entries ms) → Pending op (entries before) l.state.rows → IsOver (entries before ++ entries ms) → list_any (tells_ended op) (letters_to Desk (connection_gives s l.state ms)) ≡ true
  over_gives [] before l h marks same alone pending over =
      let end : entries before ++ [] ≡ entries before = append-nil (entries before) in
      absurd (let bad : false ≡ true = not_over before l h (sym end ∙ same) (subst (Once u) end alone) pending (subst IsOver end over) in cc)
  over_gives (m ∷ ms) before l h marks same alone pending over = ap (list_any (tells_ended op)) (letters_to_both Desk (connection_letters s l.state m.entry.at m.mark m.entry.what) (connection_gives s (step_connection s l.state m) ms)) ∙ by (pending_step s F u op before l h.0 m.entry.part m.entry.at m.mark m.entry.what (left (has_connection_mark l.state m) _ marks) pending) (λ k. over_gives ms (before ++ m ∷ []) (step_connection_ledger s l m) h.1 (right (has_connection_mark l.state m) _ marks) (pushed ∙ same) (subst (Once u) (sym pushed) alone) (subst (λ place. Pending op place (step_connection s l.state m).rows) (sym (push_entry before m)) k) (subst IsOver (sym pushed) over))
    where
      pushed : entries (before ++ m ∷ []) ++ entries ms ≡ entries before ++ m.entry ∷ entries ms
      pushed = ap (λ place. place ++ entries ms) (push_entry before m) ∙ append_assoc (entries before) (m.entry ∷ []) (entries ms)

      by : (list_any (tells_ended op) (letters_to Desk (connection_letters s l.state m.entry.at m.mark m.entry.what)) ≡ true) ⊎ Pending op (entries before ++ m.entry ∷ []) (step_connection s l.state m).rows → (Pending op (entries before ++ m.entry ∷ []) (step_connection s l.state m).rows → list_any (tells_ended op) (letters_to Desk (connection_gives s (step_connection s l.state m) ms)) ≡ true) → list_any (tells_ended op) (letters_to Desk (connection_letters s l.state m.entry.at m.mark m.entry.what) ++ letters_to Desk (connection_gives s (step_connection s l.state m) ms)) ≡ true
      by (inl g) more = any_before (tells_ended op) (letters_to Desk (connection_letters s l.state m.entry.at m.mark m.entry.what)) (letters_to Desk (connection_gives s (step_connection s l.state m) ms)) g
      by (inr k) more = any_behind (tells_ended op) (letters_to Desk (connection_letters s l.state m.entry.at m.mark m.entry.what)) (letters_to Desk (connection_gives s (step_connection s l.state m) ms)) (more k)

pub regular_ends_heard : ForwardsAreRight → FitIsWhole → RegularEndsAreHeard
regular_ends_heard rightly whole s F marked h rest u kind op over =
    let same : entries (marked (Connection u)) ≡ F.connection u = h.joined.shared.same_entries (Connection u) in
    let given : list_any (tells_ended op) (letters_to Desk (gives s (Connection u) (marked (Connection u)))) ≡ true = over_gives s F u kind op (marked (Connection u)) [] (empty_connection_ledger s u) (known_at_each rightly whole s F marked h u kind) (share s F marked h u).marks same (subst (Once u) (sym same) (once s F marked h u)) (inl (refl, refl)) (subst (λ es. is_over_at s F op u (from_sent op (sendings u es)) ≡ true) (sym same) over) in
    subst (λ es. is_heard (tells_ended op) es ≡ true) (rest.joined.linked.same_entries Desk) (taken_heard (Connection u) (tells_ended op) (ended_news op) (marked Desk) (rest.joined.linked.marks Desk) (subst (λ l. list_any (tells_ended op) l ≡ true) (sym (rest.all_taken (Connection u) Desk)) given))
