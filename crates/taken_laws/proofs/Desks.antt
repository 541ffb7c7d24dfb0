-- What is pending at the desk was asked for, and what is viable was told to be up, each by a letter that it took: so each
-- is there once, and a letter that is fit is of what isn't there, or of what is.
use Rattle.std.proofs.Common.{◌≡◌, ◌⊎◌, ℕ, suc, ◌≤◌, Bool, true, false, ◌==◌, ◌&&◌, ◌||◌, not, List, [], ◌∷◌, ◌++◌, length, refl, arith, append_assoc, sym, subst, inl, inr}
use Rattle.std.specs.Prelude.{Some, None, filter, is_some, max}
use Rattle.std.specs.List.{list_any}
use Rattle.std.proofs.lemmas.List.{append-nil}
use Rattle.lload_names.specs.declared.inputs.Input.{Input}
use Rattle.lload_names.specs.declared.inputs.Input.TheVariants.{LetterFrom, Reload}
use Rattle.lload_names.specs.declared.names.Answer.{Answer}
use Rattle.lload_names.specs.declared.names.Answer.TheVariants.{Go, Busy, Unavailable}
use Rattle.lload_names.specs.declared.names.Letter.{Letter}
use Rattle.lload_names.specs.declared.names.Letter.TheVariants.{Ask, Returned, Ended, IsUp, IsRetired, IsDown}
use Rattle.lload_names.specs.declared.names.OpName.{OpName}
use Rattle.lload_names.specs.declared.names.PartName.{PartName}
use Rattle.lload_names.specs.declared.names.PartName.TheVariants.{Desk, Client, Up as Connection}
use Rattle.lload_names.specs.declared.names.Want.{Want}
use Rattle.lload_names.specs.declared.names.What.TheVariants as what
use Rattle.lload_spec.specs.Entries.{Named}
use Rattle.lload_spec.specs.Journal.{same_op, same_part}
use Rattle.lload_spec.specs.News.{tells_stopped, tells_up}
use Rattle.lload_spec.specs.Settings.{Settings, place_at}
use Rattle.lload_spec.proofs.Growth.{left, right}
use Rattle.lload_laws.proofs.ListLaws.{any_imply}
use Rattle.part_spec.specs.DeskState.{DeskState, desk_of, step_desks, with_choice, without_connection, without_op}
use Rattle.part_spec.specs.DeskTurn.{answer_to, desk_turn, is_taken}
use Rattle.part_spec.specs.Fit.{DeskLedger, are_fit_from, desk_ledger, empty_desk_ledger, fits_desk, is_all_fit, is_ask_of, is_none_taken, is_of_sender, is_pending, is_unfit, ledger_behind, step_desk_ledger}
use Rattle.part_spec.specs.Inputs.{act, effects_of, letter_of, marked_by, nothing}
use Rattle.part_spec.specs.Marked.{Marked, Taken}
use Rattle.part_spec.specs.Merge.{AreTurns, AreTurnsFrom, Intake, IsEmptyTurn, IsTurnOf, Severed, Takes, letter_in, turn_behind}
use Rattle.part_spec.specs.Stamps.{Turn, list_of_turns}
use Rattle.part_laws.proofs.FitGiving.{fit_behind}
use Rattle.part_laws.proofs.ListLaws.{any_before, any_behind, any_filtered, any_split, false_by, not_both, not_true, or_left, same_number, same_op_eq}
use Rattle.fitness_laws.proofs.Ledgers.{ledger_more}
use Rattle.taken_laws.specs.Laws.{FitForDesk, DeskHoldsOnce}
use Rattle.taken_laws.specs.Taking.{DeskMayTake, MayEnd, HoldsOnce, is_named, is_number}
use Rattle.taken_laws.proofs.Lists.{once_filtered, once_push, one_passes}

-- whether an Ask of an operation was taken, and that a connection is up
abbrev was_asked : List Taken → OpName → Bool
was_asked taken op = list_any (λ t. is_ask_of op t.letter) taken

abbrev was_up : List Taken → ℕ → Bool
was_up taken u = list_any (λ t. tells_up u t.letter) taken

-- What is pending, and what is viable, with the letters that were taken.
record Pends (pending : List (Named ℕ)) (taken : List Taken) : Type 0 where
  asked : (op : OpName) → list_any (is_named op) pending ≡ true → was_asked taken op ≡ true
  once : (op : OpName) → length (filter (is_named op) pending) ≤ 1

record Views (viable : List ℕ) (taken : List Taken) : Type 0 where
  told : (u : ℕ) → list_any (is_number u) viable ≡ true → was_up taken u ≡ true
  once : (u : ℕ) → length (filter (is_number u) viable) ≤ 1

pends_more : (pending : List (Named ℕ)) (taken : List Taken) (t : Taken) → Pends pending taken → Pends pending (taken ++ t ∷ [])
pends_more pending taken t h = record { asked = λ op k. any_before (λ x. is_ask_of op x.letter) taken (t ∷ []) (h.asked op k); once = h.once }

views_more : (viable : List ℕ) (taken : List Taken) (t : Taken) → Views viable taken → Views viable (taken ++ t ∷ [])
views_more viable taken t h = record { told = λ u k. any_before (λ x. tells_up u x.letter) taken (t ∷ []) (h.told u k); once = h.once }

pends_less : (q : Named ℕ → Bool) (pending : List (Named ℕ)) (taken : List Taken) → Pends pending taken → Pends (filter q pending) taken
pends_less q pending taken h = record { asked = λ op k. h.asked op (any_filtered (is_named op) q pending k); once = λ op. once_filtered (is_named op) q pending (h.once op) }

views_less : (q : ℕ → Bool) (viable : List ℕ) (taken : List Taken) → Views viable taken → Views (filter q viable) taken
views_less q viable taken h = record { told = λ u k. h.told u (any_filtered (is_number u) q viable k); once = λ u. once_filtered (is_number u) q viable (h.once u) }

-- of what none was taken, none is there
not_pending : (pending : List (Named ℕ)) (taken : List Taken) → Pends pending taken → (op : OpName) → is_none_taken (is_ask_of op) taken ≡ true → list_any (is_named op) pending ≡ false
not_pending pending taken h op none = false_by (list_any (is_named op) pending) (λ k. not_both (was_asked taken op) (h.asked op k) (not_true (was_asked taken op) none))

abbrev comes_late : ℕ → Letter → Bool
comes_late u x = tells_up u x || tells_stopped u x

not_viable : (viable : List ℕ) (taken : List Taken) → Views viable taken → (u : ℕ) → is_none_taken (comes_late u) taken ≡ true → list_any (is_number u) viable ≡ false
not_viable viable taken h u none =
    false_by (list_any (is_number u) viable)
    (λ k. not_both (list_any (λ t. comes_late u t.letter) taken)
    (any_imply (λ t. tells_up u t.letter) (λ t. comes_late u t.letter) taken (λ t j. or_left (tells_up u t.letter) (tells_stopped u t.letter) j) (h.told u k))
    (not_true (list_any (λ t. comes_late u t.letter) taken) none))

-- an operation more, which is asked for now
pends_push : (pending : List (Named ℕ)) (taken : List Taken) (sender : PartName) (op : OpName) (want : Want) (u : ℕ) → is_none_taken (is_ask_of op) taken ≡ true → Pends pending taken → Pends (pending ++ record { op = op; value = u } ∷ []) (taken ++ record { sender = sender; letter = Ask op want } ∷ [])
pends_push pending taken sender op want u none h =
    record {
      asked = λ o k. any_split (is_named o) pending (record { op = op; value = u } ∷ []) (λ j. any_before (λ x. is_ask_of o x.letter) taken _ (h.asked o j)) (λ j. any_behind (λ x. is_ask_of o x.letter) taken (record { sender = sender; letter = Ask op want } ∷ []) j) k;
      once = λ o. once_push (is_named o) pending (record { op = op; value = u }) (λ k. subst (λ x. list_any (is_named x) pending ≡ false) (sym (same_op_eq o op k)) (not_pending pending taken h op none)) (h.once o);
    }

-- a connection more, which is told to be up now
views_push : (viable : List ℕ) (taken : List Taken) (sender : PartName) (u : ℕ) → is_none_taken (comes_late u) taken ≡ true → Views viable taken → Views (viable ++ u ∷ []) (taken ++ record { sender = sender; letter = IsUp u } ∷ [])
views_push viable taken sender u none h =
    record {
      told = λ n k. any_split (is_number n) viable (u ∷ []) (λ j. any_before (λ x. tells_up n x.letter) taken _ (h.told n j)) (λ j. any_behind (λ x. tells_up n x.letter) taken (record { sender = sender; letter = IsUp u } ∷ []) j) k;
      once = λ n. once_push (is_number n) viable u (λ k. subst (λ x. list_any (is_number x) viable ≡ false) (same_number u n k) (not_viable viable taken h u none)) (h.once n);
    }

-- A turn.
record Holds (l : DeskLedger) : Type 0 where
  pends : Pends l.state.pending l.taken
  views : Views l.state.viable l.taken

-- a choice among what is pending; nothing else is
record Chosen (p q : DeskState) (taken : List Taken) : Type 0 where
  pends : Pends q.pending taken
  viable : q.viable ≡ p.viable

module _ (s : Settings) (l : DeskLedger) (h : Holds l) (sender : PartName) where
  abbrev with_letter : Letter → List Taken
  with_letter x = l.taken ++ record { sender = sender; letter = x } ∷ []

  chosen : (op : OpName) (want : Want) (p : DeskState) (a : Answer) → p.pending ≡ l.state.pending → is_none_taken (is_ask_of op) l.taken ≡ true → Chosen p (with_choice s op a p) (with_letter (Ask op want))
  chosen op want p (Go u b) e none = record { pends = subst (λ x. Pends (x ++ record { op = op; value = u } ∷ []) (with_letter (Ask op want))) (sym e) (pends_push l.state.pending l.taken sender op want u none h.pends); viable = refl }
  chosen op want p Busy e none = record { pends = subst (λ x. Pends x (with_letter (Ask op want))) (sym e) (pends_more l.state.pending l.taken _ h.pends); viable = refl }
  chosen op want p Unavailable e none = record { pends = subst (λ x. Pends x (with_letter (Ask op want))) (sym e) (pends_more l.state.pending l.taken _ h.pends); viable = refl }

-- a letter that isn't unfit is fit
is_fit_by : (b : Bool) → not (not b) ≡ true → b ≡ true
is_fit_by true h = refl
is_fit_by false h = absurd (let bad : false ≡ true = h in cc)

-- the ledger behind a turn
abbrev turned : Settings → DeskLedger → Input → DeskLedger
turned s l i = ledger_behind (step_desk_ledger s) l (marked_by (letter_of i) (desk_turn s l.state i).entries)

abbrev FitTurn : Settings → DeskLedger → Input → Type 0
FitTurn s l i = are_fit_from (fits_desk s) (step_desk_ledger s) l (marked_by (letter_of i) (desk_turn s l.state i).entries) ≡ true

asks : (s : Settings) (l : DeskLedger) → Holds l → (now word : ℕ) (sender : PartName) (op : OpName) (want : Want) → FitTurn s l (LetterFrom now word sender (Ask op want)) → Holds (turned s l (LetterFrom now word sender (Ask op want)))
asks s l h now word sender op want fit =
    let fits : fits_desk s l sender (Ask op want) ≡ true = is_fit_by (fits_desk s l sender (Ask op want)) (left (not (not (fits_desk s l sender (Ask op want)))) _ fit) in
    let none : is_none_taken (is_ask_of op) l.taken ≡ true = right (same_part sender (Client op.client)) _ fits in
    let p : DeskState = record l.state { moment = max l.state.moment now; asked = Some (record { op = op; value = want }) } in
    let c : Chosen p (with_choice s op (answer_to s l.state word want) p) (l.taken ++ record { sender = sender; letter = Ask op want } ∷ []) = chosen s l h sender op want p (answer_to s l.state word want) refl none in
    record { pends = c.pends; views = subst (λ v. Views v (l.taken ++ record { sender = sender; letter = Ask op want } ∷ [])) (sym c.viable) (views_more l.state.viable l.taken _ h.views) }

rises : (s : Settings) (l : DeskLedger) → Holds l → (now word : ℕ) (sender : PartName) (u : ℕ) → FitTurn s l (LetterFrom now word sender (IsUp u)) → Holds (turned s l (LetterFrom now word sender (IsUp u)))
rises s l h now word sender u fit =
    let fits : fits_desk s l sender (IsUp u) ≡ true = is_fit_by (fits_desk s l sender (IsUp u)) (left (not (not (fits_desk s l sender (IsUp u)))) _ fit) in
    let none : is_none_taken (comes_late u) l.taken ≡ true = right (is_of_sender s sender u) _ fits in
    record { pends = pends_more l.state.pending l.taken _ h.pends; views = views_push l.state.viable l.taken sender u none h.views }

stops : (l : DeskLedger) → Holds l → (t : Taken) (u : ℕ) → Holds (record { state = record l.state { viable = without_connection u l.state.viable }; taken = l.taken ++ t ∷ [] })
stops l h t u = record { pends = pends_more l.state.pending l.taken t h.pends; views = views_less (λ n. not (n == u)) l.state.viable (l.taken ++ t ∷ []) (views_more l.state.viable l.taken t h.views) }

over : (l : DeskLedger) → Holds l → (t : Taken) (op : OpName) → Holds (record { state = record l.state { pending = without_op op l.state.pending }; taken = l.taken ++ t ∷ [] })
over l h t op = record { pends = pends_less (λ x. not (same_op op x.op)) l.state.pending (l.taken ++ t ∷ []) (pends_more l.state.pending l.taken t h.pends); views = views_more l.state.viable l.taken t h.views }

-- each turn keeps it
turn_holds : (s : Settings) (l : DeskLedger) → Holds l → (i : Input) → FitTurn s l i → Holds (turned s l i)
turn_holds s l h (LetterFrom now word sender (Ask op want)) fit = asks s l h now word sender op want fit
turn_holds s l h (LetterFrom now word sender (IsUp u)) fit = rises s l h now word sender u fit
turn_holds s l h (LetterFrom now word sender (IsRetired u)) fit = let g = stops l h (record { sender = sender; letter = IsRetired u }) u in record { pends = g.pends; views = g.views }
turn_holds s l h (LetterFrom now word sender (IsDown u)) fit = let g = stops l h (record { sender = sender; letter = IsDown u }) u in record { pends = g.pends; views = g.views }
turn_holds s l h (LetterFrom now word sender (Returned op u)) fit = let g = over l h (record { sender = sender; letter = Returned op u }) op in record { pends = g.pends; views = g.views }
turn_holds s l h (LetterFrom now word sender (Ended op u latency)) fit = let g = over l h (record { sender = sender; letter = Ended op u latency }) op in record { pends = g.pends; views = g.views }
turn_holds s l h (Reload now plan base) fit = by (is_taken s l.state plan base)
  where
    by : (b : Bool) → Holds (ledger_behind (step_desk_ledger s) l (marked_by None (effects_of Desk (max l.state.moment now) (elim b [ true ↦ act (what.Replanned (suc l.state.plan) base ∷ []) [] | false ↦ nothing ])).entries))
    by true = record { pends = h.pends; views = h.views }
    by false = h
turn_holds s l h _ fit = h

-- The ledger behind a list has the desk's state.
desk_state : (s : Settings) (l : DeskLedger) (ms : List Marked) → (ledger_behind (step_desk_ledger s) l ms).state ≡ step_desks s l.state ms
desk_state s l [] = refl
desk_state s l (m ∷ ms) = desk_state s (step_desk_ledger s l m) ms

same_state : (s : Settings) (list : List Marked) → (desk_ledger s list).state ≡ desk_of s list
same_state s list = desk_state s empty_desk_ledger list

-- The turns of a list.

-- where each letter of a longer list was fit, so was each of its beginning
fit_before : (s : Settings) (l : DeskLedger) (L M : List Marked) → are_fit_from (fits_desk s) (step_desk_ledger s) l (L ++ M) ≡ true → are_fit_from (fits_desk s) (step_desk_ledger s) l L ≡ true
fit_before s l [] M h = refl
fit_before s l (m ∷ L) M h = by (not (is_unfit (fits_desk s) l m.mark)) h (fit_before s (step_desk_ledger s l m) L M)
  where
    by : (b : Bool) → (b && are_fit_from (fits_desk s) (step_desk_ledger s) (step_desk_ledger s l m) (L ++ M)) ≡ true → (are_fit_from (fits_desk s) (step_desk_ledger s) (step_desk_ledger s l m) (L ++ M) ≡ true → are_fit_from (fits_desk s) (step_desk_ledger s) (step_desk_ledger s l m) L ≡ true) → (b && are_fit_from (fits_desk s) (step_desk_ledger s) (step_desk_ledger s l m) L) ≡ true
    by true k more = more k
    by false k more = k

module _ (s : Settings) (before : List Marked) where
  abbrev there : DeskLedger
  there = desk_ledger s before

  abbrev MoreHolds : List Marked → Type 0
  MoreHolds es = are_fit_from (fits_desk s) (step_desk_ledger s) there es ≡ true → Holds (ledger_behind (step_desk_ledger s) there es)

  intake_holds : Holds there → (x : Intake) → MoreHolds (marked_by (letter_in x) (turn_behind s Desk before x).entries)
  intake_holds h (Takes i) = subst (λ (q : DeskState). MoreHolds (marked_by (letter_of i) (desk_turn s q i).entries)) (same_state s before) (turn_holds s there h i)
  intake_holds h (Severed now why) = λ fit. h

  entries_hold : Holds there → (t : Turn) → IsEmptyTurn t ⊎ IsTurnOf s Desk before t → MoreHolds t.entries
  entries_hold h t (inl k) = subst MoreHolds (sym k.no_entries) (λ fit. h)
  entries_hold h t (inr k) = subst MoreHolds (sym k.entries) (intake_holds h k.intake)

holds_behind : (s : Settings) (before : List Marked) (ts : List Turn) → AreTurnsFrom s Desk before ts → Holds (desk_ledger s before) → are_fit_from (fits_desk s) (step_desk_ledger s) (desk_ledger s before) (list_of_turns ts) ≡ true → Holds (desk_ledger s (before ++ list_of_turns ts))
holds_behind s before [] are h fit = subst (λ l. Holds (desk_ledger s l)) (sym (append-nil before)) h
holds_behind s before (t ∷ ts) are h fit =
    let more : desk_ledger s (before ++ t.entries) ≡ ledger_behind (step_desk_ledger s) (desk_ledger s before) t.entries = ledger_more (step_desk_ledger s) empty_desk_ledger before t.entries in
    let next : Holds (desk_ledger s (before ++ t.entries)) = subst Holds (sym more) (entries_hold s before h t are.0 (fit_before s (desk_ledger s before) t.entries (list_of_turns ts) fit)) in
    let rest : are_fit_from (fits_desk s) (step_desk_ledger s) (desk_ledger s (before ++ t.entries)) (list_of_turns ts) ≡ true = subst (λ l. are_fit_from (fits_desk s) (step_desk_ledger s) l (list_of_turns ts) ≡ true) (sym more) (fit_behind (fits_desk s) (step_desk_ledger s) (desk_ledger s before) t.entries (list_of_turns ts) fit) in
    subst (λ l. Holds (desk_ledger s l)) (append_assoc before t.entries (list_of_turns ts)) (holds_behind s (before ++ t.entries) ts are.1 next rest)

no_letters : Holds empty_desk_ledger
no_letters = record { pends = record { asked = λ op k. k; once = λ op. omega arith }; views = record { told = λ u k. k; once = λ u. omega arith } }

holds_of : (s : Settings) (turns : List Turn) → AreTurns s Desk turns → is_all_fit s Desk (list_of_turns turns) ≡ true → Holds (desk_ledger s (list_of_turns turns))
holds_of s turns are fit = holds_behind s [] turns are no_letters fit

-- The laws.
pub desk_holds_once : DeskHoldsOnce
desk_holds_once s turns are fit =
    let h : Holds (desk_ledger s (list_of_turns turns)) = holds_of s turns are fit in
    subst HoldsOnce (same_state s (list_of_turns turns)) (record { pending = h.pends.once; viable = h.views.once })

-- an operation that is pending on a connection is pending, and so once
ends_there : (l : DeskLedger) → Holds l → (op : OpName) (u : ℕ) → is_pending l.state op u ≡ true → MayEnd l.state op u
ends_there l h op u pending =
    let there : list_any (is_named op) l.state.pending ≡ true = any_imply (λ x. same_op op x.op && x.value == u) (is_named op) l.state.pending (λ x k. left (same_op op x.op) (x.value == u) k) pending in
    record { pending = pending; once = one_passes (is_named op) l.state.pending there (h.pends.once op) }

-- a letter of a connection's state is of one with a place
placed_there : (s : Settings) (sender : PartName) (u : ℕ) (b : Bool) → (is_of_sender s sender u && b) ≡ true → is_some (place_at s u) ≡ true
placed_there s sender u b h = right (same_part sender (Connection u)) (is_some (place_at s u)) (left (is_of_sender s sender u) b h)

desk_there : (s : Settings) (l : DeskLedger) → Holds l → (sender : PartName) (letter : Letter) → fits_desk s l sender letter ≡ true → DeskMayTake s l.state letter
desk_there s l h sender (Ask op want) fit = record { unknown = not_pending l.state.pending l.taken h.pends op (right (same_part sender (Client op.client)) _ fit) }
desk_there s l h sender (Returned op u) fit = ends_there l h op u (right (same_part sender (Client op.client)) _ fit)
desk_there s l h sender (Ended op u latency) fit = ends_there l h op u (right (same_part sender (Connection u)) _ fit)
desk_there s l h sender (IsUp u) fit = record { unknown = not_viable l.state.viable l.taken h.views u (right (is_of_sender s sender u) _ fit); placed = placed_there s sender u _ fit }
desk_there s l h sender _ fit = tt

pub fit_for_desk : FitForDesk
fit_for_desk s turns sender letter are all fit = subst (λ (p : DeskState). DeskMayTake s p letter) (same_state s (list_of_turns turns)) (desk_there s (desk_ledger s (list_of_turns turns)) (holds_of s turns are all) sender letter fit)
