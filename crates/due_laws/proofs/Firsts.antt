-- The letter that waits first in a run is fit: where it is taken, it is one of the letters of its receiver's list.
use Rattle.std.proofs.Common.{◌≡◌, ℕ, Bool, true, false, not, List, [], ◌∷◌, ◌++◌, refl, ap, ◌∙◌, sym, subst}
use Rattle.std.specs.Prelude.{Option, Some, None, cond, filter, find, map}
use Rattle.lload_names.specs.declared.inputs.Effects.{Effects}
use Rattle.lload_names.specs.declared.inputs.Event.TheVariants as event
use Rattle.lload_names.specs.declared.inputs.Input.{Input}
use Rattle.lload_names.specs.declared.inputs.Input.TheVariants.{LetterFrom}
use Rattle.lload_names.specs.declared.names.Entry.{Entry}
use Rattle.lload_names.specs.declared.names.Answer.{Answer}
use Rattle.lload_names.specs.declared.names.Letter.{Letter}
use Rattle.lload_names.specs.declared.names.Letter.TheVariants.{Choice}
use Rattle.lload_names.specs.declared.names.OpName.{OpName}
use Rattle.lload_names.specs.declared.names.PartName.{PartName}
use Rattle.lload_names.specs.declared.names.PartName.TheVariants.{Desk, Client, Up as Connection}
use Rattle.lload_spec.specs.Journal.{same_part}
use Rattle.lload_spec.specs.Settings.{Settings}
use Rattle.lload_spec.proofs.Growth.{left, right}
use Rattle.part_spec.specs.ClientState.{ClientState}
use Rattle.part_spec.specs.Fit.{are_fit_from, empty_client_ledger, empty_connection_ledger, empty_desk_ledger, fits_client, fits_connection, fits_desk, is_all_fit, is_fit, is_unfit, ledger_behind, step_client_ledger, step_connection_ledger, step_desk_ledger}
use Rattle.part_spec.specs.Inputs.{marked_by}
use Rattle.part_spec.specs.Marked.{Marked, Taken}
use Rattle.part_spec.specs.Merge.{Happens, PartMove, behind_moves, moved, world_of}
use Rattle.part_spec.specs.World.{Flight, World, client_in, empty_world, is_between, list_in, takes, turn_of}
use Rattle.link_laws.specs.Laws.{StatesLaw}
use Rattle.link_laws.specs.Moves.{effects_in, has_entry, marks_move, marks_moves}
use Rattle.link_laws.proofs.Entries.{effects_own}
use Rattle.link_laws.proofs.Kept.{intake_of, letter_out, same_turn}
use Rattle.stands_laws.proofs.Tests.{same_self}
use Rattle.fitness_laws.specs.Fitness.{FitnessLaw, MarksLaw}
use Rattle.fitness_laws.proofs.Turned.{Turned, letter_turned}
use Rattle.due_laws.specs.Laws.{FitChoicesAreDue, IsDue}
use Rattle.due_laws.specs.Runs.{FirstChoicesAreDue, FirstsAreFit, TakenChoicesAreDue}

-- a flight whose letter is this one is the first of these that passes
record IsFirst (test : Flight → Bool) (fs : List Flight) (letter : Letter) : Type 0 where
  flight : Flight
  found : find test fs ≡ Some flight
  same : flight.posted.letter ≡ letter

first_of : (test : Flight → Bool) (fs : List Flight) (letter : Letter) (letters : List Letter) → map (λ (f : Flight). f.posted.letter) (filter test fs) ≡ letter ∷ letters → IsFirst test fs letter
first_of test [] letter letters h = absurd (let bad : [] ≡ letter ∷ letters = h in cc)
first_of test (f ∷ fs) letter letters h = by (test f) refl h (first_of test fs letter letters)
  where
    by : (b : Bool) → test f ≡ b → map (λ (x : Flight). x.posted.letter) (cond b (f ∷ filter test fs) (filter test fs)) ≡ letter ∷ letters → (map (λ (x : Flight). x.posted.letter) (filter test fs) ≡ letter ∷ letters → IsFirst test fs letter) → IsFirst test (f ∷ fs) letter
    by true e k more = record { flight = f; found = ap (λ b. cond b (Some f) (find test fs)) e; same = cc }
    by false e k more = let rest : IsFirst test fs letter = more k in record { flight = rest.flight; found = ap (λ b. cond b (Some f) (find test fs)) e ∙ rest.found; same = rest.same }

-- a letter of a list that is fit was fit behind what stands before it
fit_there : {A : Type 0} (fits : A → PartName → Letter → Bool) (step : A → Marked → A) (l : A) (ms : List Marked) (e : Entry) (t : Taken) (rest : List Marked) → are_fit_from fits step l (ms ++ record { entry = e; mark = Some t } ∷ rest) ≡ true → fits (ledger_behind step l ms) t.sender t.letter ≡ true
fit_there fits step l [] e t rest h = by (fits l t.sender t.letter) (left (not (is_unfit fits l (Some t))) _ h)
  where
    by : (b : Bool) → not (not b) ≡ true → b ≡ true
    by true k = refl
    by false k = absurd (let bad : false ≡ true = k in cc)
fit_there fits step l (m ∷ ms) e t rest h = fit_there fits step (step l m) ms e t rest (right (not (is_unfit fits l m.mark)) _ h)

fit_behind : (s : Settings) (p : PartName) (list : List Marked) (e : Entry) (t : Taken) (rest : List Marked) → is_all_fit s p (list ++ record { entry = e; mark = Some t } ∷ rest) ≡ true → is_fit s p list t.sender t.letter ≡ true
fit_behind s Desk list = fit_there (fits_desk s) (step_desk_ledger s) empty_desk_ledger list
fit_behind s (Client c) list = fit_there (fits_client s) (step_client_ledger s) (empty_client_ledger c) list
fit_behind s (Connection u) list = fit_there (fits_connection s) (step_connection_ledger s) (empty_connection_ledger s u) list

-- one move more
moves_more : (s : Settings) (w : World) (ms : List PartMove) (m : PartMove) → behind_moves s w (ms ++ m ∷ []) ≡ moved s m.part m.move (behind_moves s w ms)
moves_more s w [] m = refl
moves_more s w (n ∷ ms) m = moves_more s (moved s n.part n.move w) ms m

part_itself : (p : PartName) → same_part p p ≡ true
part_itself Desk = refl
part_itself (Client c) = same_self c
part_itself (Connection u) = same_self u

-- each letter of moves and one more has a mark, so that of the last has
mark_there : (s : Settings) (w : World) (ms : List PartMove) (m : PartMove) → marks_moves s w (ms ++ m ∷ []) ≡ true → marks_move s (behind_moves s w ms) m.part m.move ≡ true
mark_there s w [] m h = left (marks_move s w m.part m.move) true h
mark_there s w (n ∷ ms) m h = mark_there s (moved s n.part n.move w) ms m (right (marks_move s w n.part n.move) _ h)

module _ (fitness : FitnessLaw) (marks : MarksLaw) (s : Settings) (ms : List PartMove) (sender p : PartName) where
  abbrev here : World
  here = world_of s ms

  -- the move that takes the first letter
  abbrev taking : PartMove
  taking = record { part = p; move = Happens (event.Letter 0 0 sender) }

  module _ (f : Flight) (found : find (is_between sender p) (world_of s ms).letters ≡ Some f) where
    abbrev mark : Option Taken
    mark = Some (record { sender = sender; letter = f.posted.letter })

    abbrev input : Input
    input = LetterFrom 0 0 sender f.posted.letter

    abbrev turn : Effects
    turn = effects_in s (letter_out sender p here) p (intake_of 0 0 sender f)

    next : world_of s (ms ++ taking ∷ []) ≡ takes s p input (letter_out sender p here)
    next = moves_more s empty_world ms taking ∙ ap choose found
      where
        choose : Option Flight → World
        choose o = elim o [ None ↦ here | Some x ↦ takes s p (LetterFrom 0 0 sender x.posted.letter) (letter_out sender p here) ]

    turned : Turned here (takes s p input (letter_out sender p here)) p input mark turn
    turned = letter_turned s here p 0 0 sender f turn (effects_own s (letter_out sender p here) p (intake_of 0 0 sender f)) found

    -- the list behind it
    list_next : list_in (world_of s (ms ++ taking ∷ [])) p ≡ list_in here p ++ marked_by mark turn.entries
    list_next = ap (λ w. list_in w p) next ∙ turned.lists p ∙ ap (λ b. list_in here p ++ cond b (marked_by mark turn.entries) []) (part_itself p)

    all_fit : is_all_fit s p (list_in here p ++ marked_by mark turn.entries) ≡ true
    all_fit = ap (is_all_fit s p) (sym list_next) ∙ (fitness s (ms ++ taking ∷ [])).taken p

    -- the turn has an entry
    has_one : has_entry turn ≡ true
    has_one = ap has_entry (same_turn s here sender p (intake_of 0 0 sender f)) ∙ ap rule (sym found) ∙ mark_there s empty_world ms taking (marks s (ms ++ taking ∷ []))
      where
        rule : Option Flight → Bool
        rule o = elim o [ None ↦ true | Some x ↦ has_entry (turn_of s here p (LetterFrom 0 0 sender x.posted.letter)) ]

    -- the letter that is taken is fit
    pub taken_fit : is_fit s p (list_in (world_of s ms) p) sender f.posted.letter ≡ true
    taken_fit = by turn.entries has_one all_fit
      where
        by : (es : List Entry) → (elim es [ [] ↦ false | x ∷ xs ↦ true ]) ≡ true → is_all_fit s p (list_in here p ++ marked_by mark es) ≡ true → is_fit s p (list_in here p) sender f.posted.letter ≡ true
        by [] k h = absurd (let bad : false ≡ true = k in cc)
        by (e ∷ es) k h = fit_behind s p (list_in here p) e (record { sender = sender; letter = f.posted.letter }) (map (λ x. record { entry = x; mark = None }) es) h

pub firsts_are_fit : FitnessLaw → MarksLaw → FirstsAreFit
firsts_are_fit fitness marks s ms sender receiver letter letters e =
    let first : IsFirst (is_between sender receiver) (world_of s ms).letters letter = first_of (is_between sender receiver) (world_of s ms).letters letter letters e in
    ap (is_fit s receiver (list_in (world_of s ms) receiver) sender) (sym first.same) ∙ taken_fit fitness marks s ms sender receiver first.flight first.found

-- a choice that is fit for a client is due by its state
module _ (states : StatesLaw) (due : FitChoicesAreDue) where
  due_there : (s : Settings) (ms : List PartMove) (c : ℕ) (sender : PartName) (op : OpName) (answer : Answer) → is_fit s (Client c) (list_in (world_of s ms) (Client c)) sender (Choice op answer) ≡ true → IsDue (client_in (world_of s ms) c) op
  due_there s ms c sender op answer fit = subst (λ (p : ClientState). IsDue p op) (sym ((states s ms).clients c)) (due s c (list_in (world_of s ms) (Client c)) sender op answer fit)

  pub first_choices_are_due : FitnessLaw → MarksLaw → FirstChoicesAreDue
  first_choices_are_due fitness marks s ms c sender op answer letters e = due_there s ms c sender op answer (firsts_are_fit fitness marks s ms sender (Client c) (Choice op answer) letters e)

  pub taken_choices_are_due : FitnessLaw → MarksLaw → TakenChoicesAreDue
  taken_choices_are_due fitness marks s ms c sender f op answer found same = due_there s ms c sender op answer (ap (is_fit s (Client c) (list_in (world_of s ms) (Client c)) sender) (sym same) ∙ taken_fit fitness marks s ms sender (Client c) f found)
