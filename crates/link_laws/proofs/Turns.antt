-- Each part's turns make its list and gave its letters, their stamps rise, and each is what an intake gives.
use Rattle.std.proofs.Common.{◌≡◌, ℕ, suc, ◌≤◌, Bool, true, false, List, [], ◌∷◌, ◌++◌, length, refl, ap, ◌∙◌, sym, subst, append_assoc, inr, arith, nat_lt, le_refl}
use Rattle.std.specs.Prelude.{Option, cond, filter, map}
use Rattle.std.proofs.lemmas.Bool.{lt-ltb}
use Rattle.std.proofs.lemmas.List.{append-nil, map-append}
use Rattle.std.proofs.lemmas.List.Elements.{filter-append}
use Rattle.lload_names.specs.declared.inputs.Effects.{Effects}
use Rattle.lload_names.specs.declared.names.PartName.{PartName}
use Rattle.lload_names.specs.declared.names.PartName.TheVariants.{Desk, Client, Up as Connection}
use Rattle.lload_spec.specs.Settings.{Settings}
use Rattle.lload_spec.specs.Journal.{same_part}
use Rattle.lload_spec.proofs.Growth.{left, right, both}
use Rattle.part_spec.specs.ClientTurn.{client_turn, client_sever}
use Rattle.part_spec.specs.DeskTurn.{desk_turn}
use Rattle.part_spec.specs.Turn.{connection_turn, connection_sever}
use Rattle.part_spec.specs.Inputs.{marked_by}
use Rattle.part_spec.specs.Marked.{Marked, Taken}
use Rattle.part_spec.specs.Merge.{Intake, Takes, Severed, IsTurnOf, AreTurns, AreTurnsFrom, letter_in, turn_behind}
use Rattle.part_spec.specs.Stamps.{Turn, list_of_turns, letters_of, rise_above}
use Rattle.part_spec.specs.World.{World, PartTurn, empty_world, behind, turn_made, list_in, given_in, turns_in}
use Rattle.link_laws.specs.Moves.{effects_in}
use Rattle.link_laws.specs.Laws.{StatesAreOfLists, TurnsAreOfLists, TurnsLaw}
use Rattle.link_laws.proofs.Entries.{same_part_is, effects_own, list_behind, turns_behind}
use Rattle.link_laws.proofs.Kept.{letter_out, moves_keep}
use Rattle.link_laws.proofs.Links.{given_more}
use Rattle.link_laws.proofs.States.{without_letter, keep_states, no_states}

-- More turns.

pub lists_more : (ts us : List Turn) → list_of_turns (ts ++ us) ≡ list_of_turns ts ++ list_of_turns us
lists_more [] us = refl
lists_more (t ∷ ts) us = ap (λ l. t.entries ++ l) (lists_more ts us) ∙ sym (append_assoc t.entries (list_of_turns ts) (list_of_turns us))

pub letters_of_more : (ts us : List Turn) → letters_of (ts ++ us) ≡ letters_of ts ++ letters_of us
letters_of_more [] us = refl
letters_of_more (t ∷ ts) us = ap (λ l. t.letters ++ l) (letters_of_more ts us) ∙ sym (append_assoc t.letters (letters_of ts) (letters_of us))

-- the last stamp of turns, behind this one
abbrev last_stamp : ℕ → List Turn → ℕ
last_stamp n [] = n
last_stamp n (t ∷ ts) = last_stamp t.stamp ts

last_of_more : (n : ℕ) (ts : List Turn) (t : Turn) → last_stamp n (ts ++ t ∷ []) ≡ t.stamp
last_of_more n [] t = refl
last_of_more n (u ∷ ts) t = last_of_more u.stamp ts t

rise_more : (n : ℕ) (ts : List Turn) (t : Turn) → rise_above n ts ≡ true → nat_lt (last_stamp n ts) t.stamp ≡ true → rise_above n (ts ++ t ∷ []) ≡ true
rise_more n [] t h k = both (nat_lt n t.stamp) true k refl
rise_more n (u ∷ ts) t h k = both (nat_lt n u.stamp) _ (left (nat_lt n u.stamp) _ h) (rise_more u.stamp ts t (right (nat_lt n u.stamp) _ h) k)

are_turns_more : (s : Settings) (p : PartName) (before : List Marked) (ts : List Turn) (t : Turn) → AreTurnsFrom s p before ts → IsTurnOf s p (before ++ list_of_turns ts) t → AreTurnsFrom s p before (ts ++ t ∷ [])
are_turns_more s p before [] t h k = (inr (subst (λ l. IsTurnOf s p l t) (append-nil before) k), tt)
are_turns_more s p before (u ∷ ts) t h k = (h.0, are_turns_more s p (before ++ u.entries) ts t h.1 (subst (λ l. IsTurnOf s p l t) (sym (append_assoc before u.entries (list_of_turns ts))) k))

-- A world's turns.

turn_those : (b : Bool) (t : PartTurn) → map (λ (x : PartTurn). x.turn) (cond b (t ∷ []) []) ≡ cond b (t.turn ∷ []) []
turn_those true t = refl
turn_those false t = refl

pub turns_more : (s : Settings) (p : PartName) (mark : Option Taken) (e : Effects) (w : World) (q : PartName) → turns_in (behind s p mark e w) q ≡ turns_in w q ++ cond (same_part q p) ((turn_made p mark e w).turn ∷ []) []
turns_more s p mark e w q =
    ap (λ l. map (λ (x : PartTurn). x.turn) (filter (λ (x : PartTurn). same_part q x.part) l)) (turns_behind s p mark e w)
    ∙ ap (map (λ (x : PartTurn). x.turn)) (filter-append (λ (x : PartTurn). same_part q x.part) w.turns (turn_made p mark e w ∷ []))
    ∙ map-append (λ (x : PartTurn). x.turn) (filter (λ (x : PartTurn). same_part q x.part) w.turns) (cond (same_part q p) (turn_made p mark e w ∷ []) [])
    ∙ ap (λ l. turns_in w q ++ l) (turn_those (same_part q p) (turn_made p mark e w))

-- what an intake gives in a world is what it gives behind the part's list
pub same_effects : (s : Settings) (w : World) (p : PartName) (x : Intake) → StatesAreOfLists s w → effects_in s w p x ≡ turn_behind s p (list_in w p) x
same_effects s w Desk (Takes i) h = ap (λ p. desk_turn s p i) h.desk
same_effects s w Desk (Severed now why) h = refl
same_effects s w (Client c) (Takes i) h = ap (λ p. client_turn s p i) (h.clients c)
same_effects s w (Client c) (Severed now why) h = ap (λ p. client_sever p now why) (h.clients c)
same_effects s w (Connection u) (Takes i) h = ap (λ p. connection_turn s p i) (h.connections u)
same_effects s w (Connection u) (Severed now why) h = ap (λ p. connection_sever p now why) (h.connections u)

-- a world in which each part's turns are of its list, and have no stamp above the number of turns
record Holds (s : Settings) (w : World) : Type 0 where
  states : StatesAreOfLists s w
  turns : (p : PartName) → TurnsAreOfLists s w p
  within : (p : PartName) → last_stamp 0 (turns_in w p) ≤ length w.turns

pub one_longer : {A : Type 0} (xs : List A) (x : A) → length (xs ++ x ∷ []) ≡ suc (length xs)
one_longer [] x = refl
one_longer (y ∷ xs) x = ap suc (one_longer xs x)

module _ (s : Settings) (p : PartName) (x : Intake) (w : World) (h : Holds s w) where
  abbrev made : Turn
  made = (turn_made p (letter_in x) (effects_in s w p x) w).turn

  abbrev later : World
  later = behind s p (letter_in x) (effects_in s w p x) w

  now_longer : length later.turns ≡ suc (length w.turns)
  now_longer = ap length (turns_behind s p (letter_in x) (effects_in s w p x) w) ∙ one_longer w.turns (turn_made p (letter_in x) (effects_in s w p x) w)

  -- what the turns of a part say behind the turn, by whether they are the part's that made it
  record Say (q : PartName) (ts : List Turn) (b : Bool) : Type 0 where
    lists : list_of_turns ts ≡ list_in w q ++ cond b made.entries []
    given : letters_of ts ≡ given_in w q ++ cond b made.letters []
    rise : rise_above 0 ts ≡ true
    within : last_stamp 0 ts ≤ suc (length w.turns)
    made_so : AreTurns s q ts

  is_turn : IsTurnOf s p ([] ++ list_of_turns (turns_in w p)) made
  is_turn =
      let same : effects_in s w p x ≡ turn_behind s p (list_of_turns (turns_in w p)) x = same_effects s w p x h.states ∙ ap (λ l. turn_behind s p l x) (sym (h.turns p).lists) in
      record { intake = x; entries = ap (λ e. marked_by (letter_in x) e.entries) same; letters = ap (λ e. e.letters) same }

  say : (q : PartName) (b : Bool) → (b ≡ true → q ≡ p) → Say q (turns_in w q ++ cond b (made ∷ []) []) b
  say q false own =
      subst (λ ts. Say q ts false) (sym (append-nil (turns_in w q)))
      (record {
        lists = (h.turns q).lists ∙ sym (append-nil (list_in w q));
        given = (h.turns q).given ∙ sym (append-nil (given_in w q));
        rise = (h.turns q).rise;
        within = let low : last_stamp 0 (turns_in w q) ≤ length w.turns = h.within q in omega arith;
        made_so = (h.turns q).made;
      })
  say q true own =
      let low : last_stamp 0 (turns_in w q) ≤ length w.turns = h.within q in
      let z : p ≡ q = sym (own refl) in
      record {
        lists = lists_more (turns_in w q) (made ∷ []) ∙ ap (λ l. l ++ (made.entries ++ [])) (h.turns q).lists ∙ ap (λ l. list_in w q ++ l) (append-nil made.entries);
        given = letters_of_more (turns_in w q) (made ∷ []) ∙ ap (λ l. l ++ (made.letters ++ [])) (h.turns q).given ∙ ap (λ l. given_in w q ++ l) (append-nil made.letters);
        rise = rise_more 0 (turns_in w q) made (h.turns q).rise (lt-ltb (last_stamp 0 (turns_in w q)) (suc (length w.turns)) (omega arith));
        within = let last : last_stamp 0 (turns_in w q ++ made ∷ []) ≡ suc (length w.turns) = last_of_more 0 (turns_in w q) made in omega arith;
        made_so = are_turns_more s q [] (turns_in w q) made (h.turns q).made (subst (λ (n : PartName). IsTurnOf s n (list_of_turns (turns_in w n)) made) z is_turn);
      }

  said : (q : PartName) → Say q (turns_in later q) (same_part q p)
  said q = subst (λ ts. Say q ts (same_part q p)) (sym (turns_more s p (letter_in x) (effects_in s w p x) w q)) (say q (same_part q p) (same_part_is q p))

  turn_holds : Holds s later
  turn_holds =
      record {
        states = keep_states s p x w h.states;
        turns = λ q. record {
          lists = (said q).lists ∙ sym (list_behind s p (letter_in x) (effects_in s w p x) w q (effects_own s w p x));
          given = (said q).given ∙ sym (given_more s p (letter_in x) (effects_in s w p x) w q);
          rise = (said q).rise;
          made = (said q).made_so;
        };
        within = λ q. subst (λ n. last_stamp 0 (turns_in later q) ≤ n) (sym now_longer) (said q).within;
      }

letter_holds : (s : Settings) (sender p : PartName) (w : World) → Holds s w → Holds s (letter_out sender p w)
letter_holds s sender p w h =
    record {
      states = without_letter s sender p w h.states;
      turns = λ q. record { lists = (h.turns q).lists; given = (h.turns q).given; rise = (h.turns q).rise; made = (h.turns q).made };
      within = h.within;
    }

nothing_holds : (s : Settings) → Holds s empty_world
nothing_holds s = record { states = no_states s; turns = λ q. record { lists = refl; given = refl; rise = refl; made = tt }; within = λ q. le_refl 0 }

pub turns : TurnsLaw
turns s ms = (moves_keep s (Holds s) (letter_holds s) (turn_holds s) empty_world ms (nothing_holds s)).turns
