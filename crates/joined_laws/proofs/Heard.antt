-- Each state of a connection that the desk heard is in the connection's list: the letter is the desk's mark, and the
-- connection gives it where it is up, retires or ends.
use Rattle.std.proofs.Common.{◌≡◌, ℕ, Bool, true, false, ◌==◌, ◌&&◌, not, List, [], ◌∷◌, ◌++◌, refl, ◌∙◌, sym, subst}
use Rattle.std.specs.Prelude.{Option, Some, None}
use Rattle.std.specs.List.{list_all, list_any}
use Rattle.lload_names.specs.Same.{same_letter}
use Rattle.lload_names.specs.declared.names.Entry.{Entry}
use Rattle.lload_names.specs.declared.names.Letter.{Letter}
use Rattle.lload_names.specs.declared.names.Letter.TheVariants.{IsUp, IsRetired, IsDown}
use Rattle.lload_names.specs.declared.names.PartName.{PartName}
use Rattle.lload_names.specs.declared.names.PartName.TheVariants.{Desk, Up as Connection}
use Rattle.lload_names.specs.declared.names.What.{What}
use Rattle.lload_names.specs.declared.names.What.TheVariants as what
use Rattle.lload_spec.specs.Lists.{where_there, implies, each_split_from, each_entry}
use Rattle.lload_spec.specs.Settings.{Settings}
use Rattle.lload_spec.specs.Journal.{Family, same_part}
use Rattle.lload_spec.specs.Entries.{heard, is_news, is_up, is_retired, is_down}
use Rattle.lload_spec.specs.Strict.{is_told}
use Rattle.lload_spec.proofs.Growth.{left, right, both}
use Rattle.lload_laws.proofs.ListLaws.{any-map}
use Rattle.part_laws.proofs.ListLaws.{eq_eqb, not_both, same_number}
use Rattle.part_spec.specs.ConnectionState.{ConnectionState, empty_connection, step_connection}
use Rattle.part_spec.specs.Fit.{DeskLedger, fits_desk, step_desk_ledger, empty_desk_ledger, are_fit_from, is_unfit, is_of_sender}
use Rattle.part_spec.specs.Gives.{connection_letters}
use Rattle.part_spec.specs.Linked.{Linked}
use Rattle.part_spec.specs.Marked.{Marked, Taken, letters_to}
use Rattle.part_spec.specs.Marks.{has_desk_mark, must_mark_desk, marks_desk}
use Rattle.joined_laws.specs.Joined.{tells_state, is_state_told}
use Rattle.joined_laws.proofs.Choices.{all_in, all_entries}
use Rattle.joined_laws.proofs.States.{got_quiet, owns_quiet, expired_quiet, missed_quiet, down_quiet}
use Rattle.joined_laws.proofs.Taken.{is_mark_from, was_given, given_at, is_fit_there}

-- What a connection gives the desk.
module _ (s : Settings) (p : ConnectionState) (at : ℕ) (mark : Option Taken) where
  up_gave : (u : ℕ) (w : What) → list_any (same_letter (IsUp u)) (letters_to Desk (connection_letters s p at mark w)) ≡ true → is_up w ≡ true
  up_gave u (what.Got id rest) h = not_both _ h (got_quiet (same_letter (IsUp u)) (λ op v l. refl) s p at (record { id = id; rest = rest }))
  up_gave u (what.Own id rest) h = not_both _ h (owns_quiet (same_letter (IsUp u)) (λ op v l. refl) p rest p.rows)
  up_gave u (what.Expired op) h = not_both _ h (expired_quiet (same_letter (IsUp u)) (λ op v l. refl) p op)
  up_gave u (what.Missed op) h = not_both _ h (missed_quiet (same_letter (IsUp u)) (λ op v l. refl) p op mark)
  up_gave u (what.Down why) h = not_both _ h (down_quiet (same_letter (IsUp u)) (λ op v l. refl) p refl)
  up_gave u what.Up h = refl
  up_gave u _ h = absurd (let bad : false ≡ true = h in cc)

  retired_gave : (u : ℕ) (w : What) → list_any (same_letter (IsRetired u)) (letters_to Desk (connection_letters s p at mark w)) ≡ true → is_retired w ≡ true
  retired_gave u (what.Got id rest) h = not_both _ h (got_quiet (same_letter (IsRetired u)) (λ op v l. refl) s p at (record { id = id; rest = rest }))
  retired_gave u (what.Own id rest) h = not_both _ h (owns_quiet (same_letter (IsRetired u)) (λ op v l. refl) p rest p.rows)
  retired_gave u (what.Expired op) h = not_both _ h (expired_quiet (same_letter (IsRetired u)) (λ op v l. refl) p op)
  retired_gave u (what.Missed op) h = not_both _ h (missed_quiet (same_letter (IsRetired u)) (λ op v l. refl) p op mark)
  retired_gave u (what.Down why) h = not_both _ h (down_quiet (same_letter (IsRetired u)) (λ op v l. refl) p refl)
  retired_gave u what.Retired h = refl
  retired_gave u _ h = absurd (let bad : false ≡ true = h in cc)

  down_gave : (u : ℕ) (e : Entry) (w : What) → e.what ≡ w → list_any (same_letter (IsDown u)) (letters_to Desk (connection_letters s p at mark w)) ≡ true → is_down (record e { what = w }) ≡ true
  down_gave u e (what.Got id rest) k h = not_both _ h (got_quiet (same_letter (IsDown u)) (λ op v l. refl) s p at (record { id = id; rest = rest }))
  down_gave u e (what.Own id rest) k h = not_both _ h (owns_quiet (same_letter (IsDown u)) (λ op v l. refl) p rest p.rows)
  down_gave u e (what.Expired op) k h = not_both _ h (expired_quiet (same_letter (IsDown u)) (λ op v l. refl) p op)
  down_gave u e (what.Missed op) k h = not_both _ h (missed_quiet (same_letter (IsDown u)) (λ op v l. refl) p op mark)
  down_gave u e (what.Down why) k h = refl
  down_gave u e _ k h = absurd (let bad : false ≡ true = h in cc)

-- The marks of the desk.

abbrev by_state : Letter → Option Taken → Bool
by_state (IsUp u) mark = is_mark_from (Connection u) (same_letter (IsUp u)) mark
by_state (IsRetired u) mark = is_mark_from (Connection u) (same_letter (IsRetired u)) mark
by_state (IsDown u) mark = is_mark_from (Connection u) (same_letter (IsDown u)) mark
by_state _ mark = true

sender_is : (sender : PartName) (u v : ℕ) → (u == v) ≡ true → same_part sender (Connection v) ≡ true → same_part (Connection u) sender ≡ true
sender_is (Connection n) u v h k = eq_eqb u n (same_number u v h ∙ sym (same_number n v k))
sender_is _ u v h k = absurd (let bad : false ≡ true = k in cc)

module _ (s : Settings) where
  of_sender : (sender : PartName) (u v : ℕ) (rest : Bool) → (u == v) ≡ true → (is_of_sender s sender v && rest) ≡ true → (same_part (Connection u) sender && (u == v)) ≡ true
  of_sender sender u v rest h k = both (same_part (Connection u) sender) (u == v) (sender_is sender u v h (left (same_part sender (Connection v)) _ (left (is_of_sender s sender v) rest k))) h

  news_marked : (l : DeskLedger) (x : Letter) (t : Taken) → (is_news t.letter && same_letter x t.letter) ≡ true → fits_desk s l t.sender t.letter ≡ true → by_state x (Some t) ≡ true
  news_marked l x t h k = by x t.sender t.letter h k
    where
      by : (x : Letter) (sender : PartName) (y : Letter) → (is_news y && same_letter x y) ≡ true → fits_desk s l sender y ≡ true → by_state x (Some (record { sender = sender; letter = y })) ≡ true
      by (IsUp u) sender (IsUp v) h k = of_sender sender u v _ h k
      by (IsRetired u) sender (IsRetired v) h k = of_sender sender u v _ h k
      by (IsDown u) sender (IsDown v) h k = of_sender sender u v _ h k
      by (IsUp u) sender _ h k = absurd (let bad : false ≡ true = h in cc)
      by (IsRetired u) sender _ h k = absurd (let bad : false ≡ true = h in cc)
      by (IsDown u) sender _ h k = absurd (let bad : false ≡ true = h in cc)
      by _ sender y h k = refl

  heard_marked : (l : DeskLedger) (w : What) (mark : Option Taken) (rest : Bool) → (elim mark [ None ↦ not (must_mark_desk w) | Some t ↦ marks_desk w t.letter ]) ≡ true → (not (is_unfit (fits_desk s) l mark) && rest) ≡ true → where_there (λ x. by_state x mark) (heard w) ≡ true
  heard_marked l (what.Heard x) None rest h k = absurd (let bad : false ≡ true = h in cc)
  heard_marked l (what.Heard x) (Some t) rest h k = news_marked l x t h (is_fit_there (fits_desk s) l t rest k)
  heard_marked l _ mark rest h k = refl

  all_marked : (l : DeskLedger) (ms : List Marked) → list_all has_desk_mark ms ≡ true → are_fit_from (fits_desk s) (step_desk_ledger s) l ms ≡ true → list_all (λ m. where_there (λ x. by_state x m.mark) (heard m.entry.what)) ms ≡ true
  all_marked l [] h k = refl
  all_marked l (m ∷ ms) h k = both (where_there (λ x. by_state x m.mark) (heard m.entry.what)) _ (heard_marked l m.entry.what m.mark _ (left (has_desk_mark m) _ h) k) (all_marked (step_desk_ledger s l m) ms (right (has_desk_mark m) _ h) (right (not (is_unfit (fits_desk s) l m.mark)) _ k))

-- What stands in the connections' lists.
abbrev is_there_so : Family → Letter → Bool
is_there_so F (IsUp u) = list_any (λ e. is_up e.what) (F.connection u)
is_there_so F (IsRetired u) = list_any (λ e. is_retired e.what) (F.connection u)
is_there_so F (IsDown u) = list_any is_down (F.connection u)
is_there_so F _ = true

module _ (s : Settings) (F : Family) (marked : PartName → List Marked) (linked : Linked s F marked) where
  given_so : (u : ℕ) (x : Letter) (sort : Entry → Bool) → ((p : ConnectionState) (m : Marked) → list_any (same_letter x) (letters_to Desk (connection_letters s p m.entry.at m.mark m.entry.what)) ≡ true → sort m.entry ≡ true) → list_any (λ m. is_mark_from (Connection u) (same_letter x) m.mark) (marked Desk) ≡ true → list_any sort (F.connection u) ≡ true
  given_so u x sort says h =
      subst (λ es. list_any sort es ≡ true) (linked.same_entries (Connection u))
      (any-map sort (λ (n : Marked). n.entry) (marked (Connection u))
      ∙ given_at (step_connection s) (λ q n. connection_letters s q n.entry.at n.mark n.entry.what) Desk (same_letter x) (λ n. sort n.entry) says (empty_connection s u) (marked (Connection u))
      (was_given s F marked linked (Connection u) Desk (same_letter x) h))

  there : (m : Marked) (x : Letter) → by_state x m.mark ≡ true → ((u : Marked → Bool) → u m ≡ true → list_any u (marked Desk) ≡ true) → is_there_so F x ≡ true
  there m (IsUp u) h at = given_so u (IsUp u) (λ e. is_up e.what) (λ p n k. up_gave s p n.entry.at n.mark u n.entry.what k) (at (λ n. is_mark_from (Connection u) (same_letter (IsUp u)) n.mark) h)
  there m (IsRetired u) h at = given_so u (IsRetired u) (λ e. is_retired e.what) (λ p n k. retired_gave s p n.entry.at n.mark u n.entry.what k) (at (λ n. is_mark_from (Connection u) (same_letter (IsRetired u)) n.mark) h)
  there m (IsDown u) h at = given_so u (IsDown u) is_down (λ p n k. down_gave s p n.entry.at n.mark u n.entry n.entry.what refl k) (at (λ n. is_mark_from (Connection u) (same_letter (IsDown u)) n.mark) h)
  there m _ h at = refl

  all_there : list_all (λ m. where_there (λ x. by_state x m.mark) (heard m.entry.what)) (marked Desk) ≡ true → list_all (λ (e : Entry). where_there (is_there_so F) (heard e.what)) F.desk ≡ true
  all_there h = subst (λ es. list_all (λ (e : Entry). where_there (is_there_so F) (heard e.what)) es ≡ true) (linked.same_entries Desk) (all_entries (λ e. where_there (is_there_so F) (heard e.what)) (marked Desk) (all_in (λ m. where_there (λ x. by_state x m.mark) (heard m.entry.what)) (λ m. where_there (is_there_so F) (heard m.entry.what)) (marked Desk) (λ m k at. by m (heard m.entry.what) k at) h))
    where
      by : (m : Marked) (o : Option Letter) → where_there (λ x. by_state x m.mark) o ≡ true → ((u : Marked → Bool) → u m ≡ true → list_any u (marked Desk) ≡ true) → where_there (is_there_so F) o ≡ true
      by m None k at = refl
      by m (Some x) k at = there m x k at

  told_of : (place : List Entry) (o : Option Letter) → where_there (is_there_so F) o ≡ true → where_there (λ x. implies (tells_state x) (is_told s F place x)) o ≡ true
  told_of place None h = refl
  told_of place (Some (IsUp u)) h = h
  told_of place (Some (IsRetired u)) h = h
  told_of place (Some (IsDown u)) h = h
  told_of place (Some _) h = refl

  each_told : (before es : List Entry) → list_all (λ (e : Entry). where_there (is_there_so F) (heard e.what)) es ≡ true → each_split_from (λ place e behind. is_state_told s F place e) before es ≡ true
  each_told before [] h = refl
  each_told before (e ∷ es) h = both (is_state_told s F before e) _ (told_of before (heard e.what) (left (where_there (is_there_so F) (heard e.what)) _ h)) (each_told (before ++ e ∷ []) es (right (where_there (is_there_so F) (heard e.what)) _ h))

  pub states_told : list_all has_desk_mark (marked Desk) ≡ true → are_fit_from (fits_desk s) (step_desk_ledger s) empty_desk_ledger (marked Desk) ≡ true → each_entry (is_state_told s F) F.desk ≡ true
  states_told h k = each_told [] F.desk (all_there (all_marked s empty_desk_ledger (marked Desk) h k))
