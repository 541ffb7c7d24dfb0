-- Events that make a part's list in a world, and give its letters: so what is proved of the lists that a part's turns make
-- holds of the part's list in each world.
use Rattle.std.proofs.Common.{◌≡◌, Bool, true, false, List, [], ◌∷◌, ◌++◌, refl, ap, ◌∙◌, sym, append_assoc}
use Rattle.std.specs.Prelude.{cond}
use Rattle.std.proofs.lemmas.List.{append-nil}
use Rattle.lload_names.specs.declared.inputs.Effects.{Effects}
use Rattle.lload_names.specs.declared.names.PartName.{PartName}
use Rattle.lload_spec.specs.Settings.{Settings}
use Rattle.lload_spec.specs.Journal.{same_part}
use Rattle.part_spec.specs.Fit.{ledger_behind}
use Rattle.part_spec.specs.Inputs.{marked_by}
use Rattle.part_spec.specs.Marked.{Marked}
use Rattle.part_spec.specs.Merge.{Intake, Takes, Severed, PartMove, letter_in, world_of}
use Rattle.part_spec.specs.World.{World, empty_world, behind, list_in, given_in}
use Rattle.part_laws.specs.Turns.{Event, Comes, Severed as EndOfLink, made, list_from, letters_given}
use Rattle.link_laws.specs.Moves.{effects_in, ends_rightly, end_rightly}
use Rattle.link_laws.specs.Laws.{StatesAreOfLists}
use Rattle.link_laws.proofs.Entries.{same_part_is, effects_own, list_behind}
use Rattle.link_laws.proofs.Kept.{letter_out, right_moves}
use Rattle.link_laws.proofs.Links.{given_more}
use Rattle.link_laws.proofs.States.{without_letter, keep_states, no_states}

-- the event of an intake
abbrev pub event_of : Intake → Event
event_of (Takes input) = Comes input
event_of (Severed now why) = EndOfLink now why

-- One more event.

module _ {S : Type 0} (step : S → Marked → S) (turn : S → Event → Effects) where
  behind_more : (p : S) (L M : List Marked) → ledger_behind step p (L ++ M) ≡ ledger_behind step (ledger_behind step p L) M
  behind_more p [] M = refl
  behind_more p (m ∷ L) M = behind_more (step p m) L M

  list_push : (p : S) (xs : List Event) (x : Event) → list_from step turn p (xs ++ x ∷ []) ≡ list_from step turn p xs ++ made turn (ledger_behind step p (list_from step turn p xs)) x
  list_push p [] x = append-nil (made turn p x)
  list_push p (y ∷ ys) x =
      let q : S = ledger_behind step p (made turn p y) in
      ap (λ l. made turn p y ++ l) (list_push q ys x)
      ∙ sym (append_assoc (made turn p y) (list_from step turn q ys) (made turn (ledger_behind step q (list_from step turn q ys)) x))
      ∙ ap (λ r. (made turn p y ++ list_from step turn q ys) ++ made turn r x) (sym (behind_more p (made turn p y) (list_from step turn q ys)))

  letters_push : (p : S) (xs : List Event) (x : Event) → letters_given step turn p (xs ++ x ∷ []) ≡ letters_given step turn p xs ++ (turn (ledger_behind step p (list_from step turn p xs)) x).letters
  letters_push p [] x = append-nil (turn p x).letters
  letters_push p (y ∷ ys) x =
      let q : S = ledger_behind step p (made turn p y) in
      ap (λ l. (turn p y).letters ++ l) (letters_push q ys x)
      ∙ sym (append_assoc (turn p y).letters (letters_given step turn q ys) (turn (ledger_behind step q (list_from step turn q ys)) x).letters)
      ∙ ap (λ r. ((turn p y).letters ++ letters_given step turn q ys) ++ (turn r x).letters) (sym (behind_more p (made turn p y) (list_from step turn q ys)))

  -- the marks of a turn are those of its intake
  same_mark : (p : S) (x : Intake) → made turn p (event_of x) ≡ marked_by (letter_in x) (turn p (event_of x)).entries
  same_mark p (Takes i) = refl
  same_mark p (Severed now why) = refl

-- A part, with the fold and the turns of its kind, from its first state, and its state in a world.
module _ {S : Type 0} (s : Settings) (n : PartName) (step : S → Marked → S) (turn : S → Event → Effects) (start : S) (state_in : World → S)
    (state_is : (w : World) → StatesAreOfLists s w → ledger_behind step start (list_in w n) ≡ state_in w)
    (same_effects : (w : World) (x : Intake) → ends_rightly x ≡ true → turn (state_in w) (event_of x) ≡ effects_in s w n x) where
  -- events that make the part's list in a world, and give its letters
  pub record Played (w : World) : Type 0 where
    pub states : StatesAreOfLists s w
    pub events : List Event
    pub lists : list_from step turn start events ≡ list_in w n
    pub given : letters_given step turn start events ≡ given_in w n

  module _ (p : PartName) (x : Intake) (w : World) (k : ends_rightly x ≡ true) (h : Played w) where
    there : ledger_behind step start (list_from step turn start h.events) ≡ state_in w
    there = ap (ledger_behind step start) h.lists ∙ state_is w h.states

    is_effects : n ≡ p → turn (ledger_behind step start (list_from step turn start h.events)) (event_of x) ≡ effects_in s w p x
    is_effects z = ap (λ q. turn q (event_of x)) there ∙ same_effects w x k ∙ ap (λ q. effects_in s w q x) z

    -- the events of the part, with this one where the part made it
    events_by : (b : Bool) → (b ≡ true → n ≡ p) → (es : List Event) × (list_from step turn start es ≡ list_in w n ++ cond b (marked_by (letter_in x) (effects_in s w p x).entries) []) × (letters_given step turn start es ≡ given_in w n ++ cond b (effects_in s w p x).letters [])
    events_by false own = (h.events, h.lists ∙ sym (append-nil (list_in w n)), h.given ∙ sym (append-nil (given_in w n)))
    events_by true own =
        let state : S = ledger_behind step start (list_from step turn start h.events) in (
          h.events ++ event_of x ∷ [],
          list_push step turn start h.events (event_of x)
              ∙ ap (λ l. l ++ made turn state (event_of x)) h.lists
              ∙ ap (λ l. list_in w n ++ l) (same_mark step turn state x ∙ ap (λ f. marked_by (letter_in x) f.entries) (is_effects (own refl))),
          letters_push step turn start h.events (event_of x)
              ∙ ap (λ l. l ++ (turn state (event_of x)).letters) h.given
              ∙ ap (λ f. given_in w n ++ f.letters) (is_effects (own refl)),
        )

    turn_played : Played (behind s p (letter_in x) (effects_in s w p x) w)
    turn_played =
        let g = events_by (same_part n p) (same_part_is n p) in
        record {
          states = keep_states s p x w h.states;
          events = g.0;
          lists = g.1 ∙ sym (list_behind s p (letter_in x) (effects_in s w p x) w n (effects_own s w p x));
          given = g.2 ∙ sym (given_more s p (letter_in x) (effects_in s w p x) w n);
        }

  without_played : (sender p : PartName) (w : World) → Played w → Played (letter_out sender p w)
  without_played sender p w h = record { states = without_letter s sender p w h.states; events = h.events; lists = h.lists; given = h.given }

  pub played : (ms : List PartMove) → end_rightly ms ≡ true → Played (world_of s ms)
  played ms k = right_moves s Played without_played turn_played empty_world ms k (record { states = no_states s; events = []; lists = refl; given = refl })
