-- The rows of a regular connection are its open Sents, in lists that turns made.
use Rattle.std.proofs.Common.{◌≡◌, ℕ, Bool, true, false, ◌==◌, ◌&&◌, List, [], ◌∷◌, ◌++◌, refl, ap, ◌∙◌, sym, subst}
use Rattle.std.specs.List.{list_any, list_all}
use Rattle.ldap_spec.specs.Kinds.{kind_of, same_kind}
use Rattle.lload_names.specs.declared.names.ConnKind.TheVariants.{Regular}
use Rattle.lload_names.specs.declared.names.Entry.{Entry}
use Rattle.lload_names.specs.declared.names.PartName.{PartName}
use Rattle.lload_names.specs.declared.names.PartName.TheVariants.{Up as Connection}
use Rattle.lload_spec.specs.Answers.{Sending, asks_who, is_open, of_operation, sendings}
use Rattle.lload_spec.specs.CausedUp.{last_answer}
use Rattle.lload_spec.specs.Journal.{Family, same_op}
use Rattle.lload_spec.specs.Lists.{agrees, implies, passes}
use Rattle.lload_spec.specs.Settings.{Settings, is_of_kind}
use Rattle.lload_spec.proofs.Growth.{both}
use Rattle.lload_laws.proofs.ListLaws.{implies_by}
use Rattle.part_laws.proofs.ListLaws.{eq_eqb, same_op_refl}
use Rattle.part_spec.specs.ConnectionState.{UpRow, empty_connection, step_connection}
use Rattle.part_spec.specs.Fit.{ConnectionLedger, empty_connection_ledger, fit_beginning, step_connection_ledger, ledger_behind as behind}
use Rattle.part_spec.specs.Laws.{FitIsWhole}
use Rattle.part_spec.specs.Marked.{Marked, entries}
use Rattle.part_spec.specs.Share.{each_place}
use Rattle.connection_laws.specs.Turns.{connection_list}
use Rattle.connection_laws.proofs.Permits.{state_through}
use Rattle.connection_laws.proofs.Through.{steps_are}
use Rattle.client_answer_laws.proofs.Each.{Each}
use Rattle.carried_laws.specs.Laws.{ForwardsAreRight, Played, are_forwards_right}
use Rattle.carried_laws.proofs.Forwards.{same_kind_same}
use Rattle.rows_laws.specs.Laws.{RegularRowsAreOpen, are_open_sents, is_row_of, says_of}
use Rattle.rows_laws.proofs.Known.{AtEach, Known, at_end, regular_known}
use Rattle.rows_laws.proofs.Live.{Live, live_open}
use Rattle.rows_laws.proofs.Lives.{Lives, is_open_in}
use Rattle.rows_laws.proofs.Somewhere.{OneIn, one_passes}

-- what is known at each place of a regular connection's list
pub known_at_each : ForwardsAreRight → FitIsWhole → (s : Settings) (F : Family) (marked : PartName → List Marked) → Played s F marked → (u : ℕ) → is_of_kind s Regular u ≡ true → AtEach s (Known s F u) [] (empty_connection_ledger s u) (marked (Connection u))
known_at_each rightly whole s F marked h u kind =
    let same : fit_beginning s (Connection u) (connection_list s u (h.connections u).events) ≡ marked (Connection u) = ap (fit_beginning s (Connection u)) (h.connections u).same ∙ whole s (Connection u) (marked (Connection u)) (h.joined.fit (Connection u)) in
    subst (AtEach s (Known s F u) [] (empty_connection_ledger s u)) same (regular_known s F u kind (h.connections u).events (subst (λ l. are_forwards_right s F l ≡ true) (sym same) (rightly s F marked h.joined (Connection u))))

agrees_by : (a b : Bool) → b ≡ a → agrees a b ≡ true
agrees_by true b e = ap (agrees true) e
agrees_by false b e = ap (agrees false) e

row_of : (s : Settings) (F : Family) (r : UpRow) (x : Sending) → Live s F r x → is_row_of s F r x ≡ true
row_of s F r x l = both (same_op r.op x.op && x.id == r.id && x.at == r.sent) _ (both (same_op r.op x.op && x.id == r.id) _ (both (same_op r.op x.op) _ (ap (same_op r.op) l.op ∙ same_op_refl r.op) (eq_eqb x.id r.id l.id)) (eq_eqb x.at r.sent l.sent)) (ap (passes (λ o. says_of s r o x)) l.found ∙ both (passes (same_kind r.kind) (kind_of l.o.request.rest) && agrees r.ask_who (asks_who s l.o) && last_answer l.o x.id x.at x.behind == r.answered) _ (both (passes (same_kind r.kind) (kind_of l.o.request.rest) && agrees r.ask_who (asks_who s l.o)) _ (both (passes (same_kind r.kind) (kind_of l.o.request.rest)) _ (ap (passes (same_kind r.kind)) l.kind ∙ same_kind_same r.kind) (agrees_by r.ask_who (asks_who s l.o) l.asks)) (eq_eqb (last_answer l.o x.id x.at x.behind) r.answered l.answered)) (live_open s F r x l))

lives_so : (s : Settings) (F : Family) (u : ℕ) (place : List Entry) (rows : List UpRow) → Lives s F rows (sendings u place) → are_open_sents s F u place rows ≡ true
lives_so s F u place rows h = both (list_all (λ r. list_any (is_row_of s F r) (sendings u place)) rows) _ (by_rows rows h.of_rows) (by_sents (sendings u place) h.of_sents)
  where
    by_rows : (rs : List UpRow) → Each (λ r. OneIn (λ x. Live s F r x) (sendings u place)) rs → list_all (λ r. list_any (is_row_of s F r) (sendings u place)) rs ≡ true
    by_rows [] e = refl
    by_rows (r ∷ rs) e = both (list_any (is_row_of s F r) (sendings u place)) _ (one_passes (λ x. Live s F r x) (is_row_of s F r) (sendings u place) (λ x l. row_of s F r x l) e.0) (by_rows rs e.1)

    by_sents : (xs : List Sending) → Each (λ x. is_open_in s F x ≡ true → OneIn (λ r. Live s F r x) rows) xs → list_all (λ x. implies (of_operation F (is_open s) x) (list_any (λ r. is_row_of s F r x) rows)) xs ≡ true
    by_sents [] e = refl
    by_sents (x ∷ xs) e = both (implies (of_operation F (is_open s) x) (list_any (λ r. is_row_of s F r x) rows)) _ (implies_by (of_operation F (is_open s) x) (list_any (λ r. is_row_of s F r x) rows) (λ k. one_passes (λ r. Live s F r x) (λ r. is_row_of s F r x) rows (λ r l. row_of s F r x l) (e.0 k))) (by_sents xs e.1)

each_so : (s : Settings) (F : Family) (u : ℕ) (ms before : List Marked) (l : ConnectionLedger) → AtEach s (Known s F u) before l ms → each_place (step_connection s) (λ p b m behind. are_open_sents s F u (entries b) p.rows) l.state before ms ≡ true
each_so s F u [] before l h = refl
each_so s F u (m ∷ ms) before l h = both (are_open_sents s F u (entries before) l.state.rows) _ (lives_so s F u (entries before) l.state.rows h.0.lives) (each_so s F u ms (before ++ m ∷ []) (step_connection_ledger s l m) h.1)

pub rows_are_open : ForwardsAreRight → FitIsWhole → RegularRowsAreOpen
rows_are_open rightly whole s F marked h u kind =
    let all : AtEach s (Known s F u) [] (empty_connection_ledger s u) (marked (Connection u)) = known_at_each rightly whole s F marked h u kind in
    let last : Known s F u (marked (Connection u)) (behind (step_connection_ledger s) (empty_connection_ledger s u) (marked (Connection u))) = at_end s (Known s F u) [] (empty_connection_ledger s u) (marked (Connection u)) all in
    record {
      before_each = each_so s F u (marked (Connection u)) [] (empty_connection_ledger s u) all;
      behind_all = subst (λ p. are_open_sents s F u (entries (marked (Connection u))) p.rows ≡ true) (state_through s (marked (Connection u)) (empty_connection_ledger s u) ∙ sym (steps_are s (empty_connection s u) (marked (Connection u)))) (lives_so s F u (entries (marked (Connection u))) (behind (step_connection_ledger s) (empty_connection_ledger s u) (marked (Connection u))).state.rows last.lives);
    }
