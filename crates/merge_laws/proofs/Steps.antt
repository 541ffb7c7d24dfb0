-- One turn of a merge: a move of its part makes it in the world behind the turns before.
use Rattle.std.proofs.Common.{◌≡◌, ℕ, ◌<◌, ◌≤◌, Bool, true, false, List, [], ◌∷◌, ◌++◌, length, refl, ap, ◌∙◌, sym, subst, arith}
use Rattle.std.specs.Prelude.{Some, None, cond, nat_lt, nat_le, find, filter, map}
use Rattle.std.specs.List.{list_all}
use Rattle.std.proofs.lemmas.Bool.{ltb-true, leb-true}
use Rattle.std.proofs.lemmas.List.{append-nil}
use Rattle.std.proofs.lemmas.List.Folds.{list_all-append}
use Rattle.lload_names.specs.declared.inputs.Effects.{Effects}
use Rattle.lload_names.specs.declared.inputs.Event.TheVariants as event
use Rattle.lload_names.specs.declared.inputs.Input.TheVariants as input
use Rattle.lload_names.specs.declared.names.Letter.{Letter}
use Rattle.lload_names.specs.declared.names.PartName.{PartName}
use Rattle.lload_spec.specs.Settings.{Settings}
use Rattle.lload_spec.specs.Journal.{same_part}
use Rattle.lload_spec.proofs.Growth.{left, right, both}
use Rattle.part_spec.specs.Inputs.{marked_by}
use Rattle.part_spec.specs.Marked.{taken_from, letters_to}
use Rattle.part_spec.specs.Merge.{Intake, Takes, Severed, Move, Happens, Severs, PartMove, IsEmptyTurn, IsMoveOf, behind_moves, letter_in, moved, turn_behind, world_of}
use Rattle.part_spec.specs.Stamps.{Turn, list_of_turns, letters_of, are_later}
use Rattle.part_spec.specs.World.{World, Flight, PartTurn, behind, empty_world, flights, is_between, list_in, given_in, takes, turn_made, turn_of, turns_in}
use Rattle.link_laws.specs.Laws.{LinksStay, StatesAreOfLists, StatesLaw, TurnsAreOfLists, TurnsLaw}
use Rattle.link_laws.specs.Moves.{Links, effects_in, end_rightly, ends_rightly, has_entry, marks_move, move_ends_rightly, waiting_between}
use Rattle.link_laws.proofs.Entries.{journal_behind, given_behind}
use Rattle.link_laws.proofs.Kept.{letter_out, same_turn}
use Rattle.link_laws.proofs.Turns.{lists_more, letters_of_more, same_effects, turns_more}

-- what stands behind these turns of each part: some moves made the world, as intakes that pass, and the parts' turns in it
-- make the same lists and gave the same letters
pub record Behind (s : Settings) (Passes : Intake → Type 0) (w : World) (done : PartName → List Turn) : Type 0 where
  pub moves : List PartMove
  pub made : w ≡ world_of s moves
  pub rightly : ((x : Intake) → Passes x → ends_rightly x ≡ true) → end_rightly moves ≡ true
  pub links : Links w
  pub lists : (p : PartName) → list_of_turns (turns_in w p) ≡ list_of_turns (done p)
  pub letters : (p : PartName) → letters_of (turns_in w p) ≡ letters_of (done p)

-- these turns, and one more of its part
abbrev pub with_turn : PartTurn → (PartName → List Turn) → PartName → List Turn
with_turn t done q = done q ++ cond (same_part q t.part) (t.turn ∷ []) []

-- the effects of a turn in a world are those of a move in it, from this world or from this one without a letter
pub record Makes (s : Settings) (w : World) (p : PartName) (x : Intake) (e : Effects) : Type 0 where
  pub move : Move
  pub from : World
  pub makes : moved s p move w ≡ behind s p (letter_in x) e from
  pub same_journal : from.journal ≡ w.journal
  pub same_given : from.given ≡ w.given
  pub same_turns : from.turns ≡ w.turns
  pub marks : marks_move s w p move ≡ true
  pub rightly : ends_rightly x ≡ true → move_ends_rightly move ≡ true

moves_more : (s : Settings) (w : World) (ms : List PartMove) (m : PartMove) → behind_moves s w (ms ++ m ∷ []) ≡ moved s m.part m.move (behind_moves s w ms)
moves_more s w [] m = refl
moves_more s w (n ∷ ms) m = moves_more s (moved s n.part n.move w) ms m

-- Lists of numbers and letters.

-- where no later given one is below this one, as many were given before as were taken, and one more
pub fewer_taken : (given rest taken : List ℕ) (n : ℕ) (more : List ℕ) → are_later (given ++ rest) (taken ++ n ∷ more) ≡ true → list_all (λ g. nat_le n g) rest ≡ true → length taken < length given
fewer_taken [] [] [] n more h k = absurd (let bad : false ≡ true = h in cc)
fewer_taken [] (g ∷ rest) [] n more h k = absurd (let low : g < n = ltb-true g n (left (nat_lt g n) _ h) in let high : n ≤ g = leb-true n g (left (nat_le n g) _ k) in omega (arith, low, high))
fewer_taken [] [] (t ∷ taken) n more h k = absurd (let bad : false ≡ true = h in cc)
fewer_taken [] (g ∷ rest) (t ∷ taken) n more h k = absurd (let less : length taken < 0 = fewer_taken [] rest taken n more (right (nat_lt g t) _ h) (right (nat_le n g) _ k) in omega (arith, less))
fewer_taken (g ∷ given) rest [] n more h k = omega arith
fewer_taken (g ∷ given) rest (t ∷ taken) n more h k = let less : length taken < length given = fewer_taken given rest taken n more (right (nat_lt g t) _ h) k in omega (arith, less)

-- the same letters in front of both
pub first_behind : (xs ys zs : List Letter) (l : Letter) → xs ++ ys ≡ xs ++ l ∷ zs → ys ≡ l ∷ zs
first_behind [] ys zs l h = h
first_behind (x ∷ xs) ys zs l h = first_behind xs ys zs l (let same : x ∷ (xs ++ ys) ≡ x ∷ (xs ++ l ∷ zs) = h in cc)

-- the letter that waits first
pub record Found (w : World) (sender p : PartName) (l : Letter) : Type 0 where
  pub flight : Flight
  pub found : find (is_between sender p) w.letters ≡ Some flight
  pub letter_is : flight.posted.letter ≡ l

found_in : (sender p : PartName) (l : Letter) (ls : List Letter) (fs : List Flight) → map (λ (f : Flight). f.posted.letter) (filter (is_between sender p) fs) ≡ l ∷ ls → (f : Flight) × ((find (is_between sender p) fs ≡ Some f) × (f.posted.letter ≡ l))
found_in sender p l ls [] h = absurd (let bad : [] ≡ l ∷ ls = h in cc)
found_in sender p l ls (f ∷ fs) h = by (is_between sender p f) refl h (found_in sender p l ls fs)
  where
    by : (b : Bool) → is_between sender p f ≡ b → map (λ (x : Flight). x.posted.letter) (cond b (f ∷ filter (is_between sender p) fs) (filter (is_between sender p) fs)) ≡ l ∷ ls → (map (λ (x : Flight). x.posted.letter) (filter (is_between sender p) fs) ≡ l ∷ ls → (x : Flight) × ((find (is_between sender p) fs ≡ Some x) × (x.posted.letter ≡ l))) → (x : Flight) × ((cond (is_between sender p f) (Some f) (find (is_between sender p) fs) ≡ Some x) × (x.posted.letter ≡ l))
    by true e k ih = (f, (ap (λ t. cond t (Some f) (find (is_between sender p) fs)) e, (let same : f.posted.letter ∷ map (λ (x : Flight). x.posted.letter) (filter (is_between sender p) fs) ≡ l ∷ ls = k in cc)))
    by false e k ih = let r : (x : Flight) × ((find (is_between sender p) fs ≡ Some x) × (x.posted.letter ≡ l)) = ih k in (r.0, (ap (λ t. cond t (Some f) (find (is_between sender p) fs)) e ∙ r.1.0, r.1.1))

pub found_first : (w : World) (sender p : PartName) (l : Letter) (ls : List Letter) → waiting_between w sender p ≡ l ∷ ls → Found w sender p l
found_first w sender p l ls h =
    let r : (f : Flight) × ((find (is_between sender p) w.letters ≡ Some f) × (f.posted.letter ≡ l)) = found_in sender p l ls w.letters h in
    record { flight = r.0; found = r.1.0; letter_is = r.1.1 }

-- Moves.

module _ (s : Settings) (w : World) (p : PartName) where
  -- a letter is taken
  takes_letter : (now word : ℕ) (sender : PartName) (l : Letter) → has_entry (effects_in s w p (Takes (input.LetterFrom now word sender l))) ≡ true → Found w sender p l → Makes s w p (Takes (input.LetterFrom now word sender l)) (effects_in s w p (Takes (input.LetterFrom now word sender l)))
  takes_letter now word sender l k f =
      record {
        move = Happens (event.Letter now word sender);
        from = letter_out sender p w;
        makes =
            ap (λ o. elim o [ None ↦ w | Some x ↦ takes s p (input.LetterFrom now word sender x.posted.letter) (letter_out sender p w) ]) f.found
            ∙ ap (λ x. takes s p (input.LetterFrom now word sender x) (letter_out sender p w)) f.letter_is
            ∙ ap (λ e. behind s p (Some (record { sender = sender; letter = l })) e (letter_out sender p w)) (same_turn s w sender p (Takes (input.LetterFrom now word sender l)));
        same_journal = refl;
        same_given = refl;
        same_turns = refl;
        marks =
            ap (λ o. elim o [ None ↦ true | Some x ↦ has_entry (turn_of s w p (input.LetterFrom now word sender x.posted.letter)) ]) f.found
            ∙ ap (λ x. has_entry (turn_of s w p (input.LetterFrom now word sender x))) f.letter_is ∙ k;
        rightly = λ r. refl;
      }

  plainly : (x : Intake) (move : Move) → moved s p move w ≡ behind s p (letter_in x) (effects_in s w p x) w → marks_move s w p move ≡ true → (ends_rightly x ≡ true → move_ends_rightly move ≡ true) → Makes s w p x (effects_in s w p x)
  plainly x move e k r = record { move = move; from = w; makes = e; same_journal = refl; same_given = refl; same_turns = refl; marks = k; rightly = r }

  -- whatever a part takes in, a move makes it
  pub makes_intake : (x : Intake) → has_entry (effects_in s w p x) ≡ true → ((now word : ℕ) (sender : PartName) (l : Letter) → x ≡ Takes (input.LetterFrom now word sender l) → Found w sender p l) → Makes s w p x (effects_in s w p x)
  makes_intake (Severed now why) k f = plainly (Severed now why) (Severs now why) refl refl (λ r. r)
  makes_intake (Takes (input.LetterFrom now word sender l)) k f = takes_letter now word sender l k (f now word sender l refl)
  makes_intake (Takes (input.Arrive now)) k f = plainly _ (Happens (event.Arrive now)) refl refl (λ r. r)
  makes_intake (Takes (input.LinkUp now)) k f = plainly _ (Happens (event.LinkUp now)) refl refl (λ r. r)
  makes_intake (Takes (input.Message now id rest)) k f = plainly _ (Happens (event.Message now id rest)) refl refl (λ r. r)
  makes_intake (Takes (input.Tick now)) k f = plainly _ (Happens (event.Tick now)) refl refl (λ r. r)
  makes_intake (Takes (input.LinkGone now why)) k f = plainly _ (Happens (event.LinkGone now why)) refl refl (λ r. r)
  makes_intake (Takes (input.Stall now)) k f = plainly _ (Happens (event.Stall now)) refl refl (λ r. r)
  makes_intake (Takes (input.Flow now)) k f = plainly _ (Happens (event.Flow now)) refl refl (λ r. r)
  makes_intake (Takes (input.Reload now plan base)) k f = plainly _ (Happens (event.Reload now plan base)) refl refl (λ r. r)

-- What stands behind a turn.

more_lists : (b : Bool) (t u : Turn) → u.entries ≡ t.entries → list_of_turns (cond b (u ∷ []) []) ≡ list_of_turns (cond b (t ∷ []) [])
more_lists true t u e = ap (λ l. l ++ []) e
more_lists false t u e = refl

more_letters : (b : Bool) (t u : Turn) → u.letters ≡ t.letters → letters_of (cond b (u ∷ []) []) ≡ letters_of (cond b (t ∷ []) [])
more_letters true t u e = ap (λ l. l ++ []) e
more_letters false t u e = refl

module _ (s : Settings) (Passes : Intake → Type 0) (stay : LinksStay) (w : World) (done : PartName → List Turn) (t : PartTurn) (h : Behind s Passes w done) where
  -- behind a turn that makes nothing, in the same world
  pub stays_empty : IsEmptyTurn t.turn → Behind s Passes w (with_turn t done)
  stays_empty k =
      record {
        moves = h.moves;
        made = h.made;
        rightly = h.rightly;
        links = h.links;
        lists = λ q. h.lists q ∙ sym (lists_more (done q) (cond (same_part q t.part) (t.turn ∷ []) []) ∙ ap (λ l. list_of_turns (done q) ++ l) (no_list (same_part q t.part)) ∙ append-nil (list_of_turns (done q)));
        letters = λ q. h.letters q ∙ sym (letters_of_more (done q) (cond (same_part q t.part) (t.turn ∷ []) []) ∙ ap (λ l. letters_of (done q) ++ l) (no_letter (same_part q t.part)) ∙ append-nil (letters_of (done q)));
      }
    where
      no_list : (b : Bool) → list_of_turns (cond b (t.turn ∷ []) []) ≡ []
      no_list true = ap (λ l. l ++ []) k.no_entries
      no_list false = refl

      no_letter : (b : Bool) → letters_of (cond b (t.turn ∷ []) []) ≡ []
      no_letter true = ap (λ l. l ++ []) k.no_letters
      no_letter false = refl

  module _ (x : Intake) (passes : Passes x) (e : Effects) (m : Makes s w t.part x e) (same : t.turn.entries ≡ marked_by (letter_in x) e.entries) (letters : t.turn.letters ≡ e.letters) where
    is_move : IsMoveOf s w t
    is_move =
        record {
          move = m.move;
          entries = ap (λ v. v.journal) m.makes ∙ journal_behind s t.part (letter_in x) e m.from ∙ ap (λ j. j ++ marked_by (letter_in x) e.entries) m.same_journal ∙ ap (λ l. w.journal ++ l) (sym same);
          letters = ap (λ v. v.given) m.makes ∙ given_behind s t.part (letter_in x) e m.from ∙ ap (λ g. g ++ flights t.part e.letters) m.same_given ∙ ap (λ l. w.given ++ flights t.part l) (sym letters);
        }

    abbrev made_turn : Turn
    made_turn = (turn_made t.part (letter_in x) e m.from).turn

    turns_now : (q : PartName) → turns_in (moved s t.part m.move w) q ≡ turns_in w q ++ cond (same_part q t.part) (made_turn ∷ []) []
    turns_now q =
        ap (λ v. turns_in v q) m.makes ∙ turns_more s t.part (letter_in x) e m.from q
        ∙ ap (λ ts. map (λ (y : PartTurn). y.turn) (filter (λ (y : PartTurn). same_part q y.part) ts) ++ cond (same_part q t.part) (made_turn ∷ []) []) m.same_turns

    stays_made : Behind s Passes (moved s t.part m.move w) (with_turn t done)
    stays_made =
        record {
          moves = h.moves ++ record { part = t.part; move = m.move } ∷ [];
          made = ap (moved s t.part m.move) h.made ∙ sym (moves_more s empty_world h.moves (record { part = t.part; move = m.move }));
          rightly = λ f. list_all-append (λ y. move_ends_rightly y.move) h.moves (record { part = t.part; move = m.move } ∷ []) ∙ both (end_rightly h.moves) _ (h.rightly f) (both (move_ends_rightly m.move) true (m.rightly (f x passes)) refl);
          links = stay s w t.part m.move m.marks h.links;
          lists = λ q.
              ap list_of_turns (turns_now q) ∙ lists_more (turns_in w q) (cond (same_part q t.part) (made_turn ∷ []) [])
              ∙ ap (λ l. l ++ list_of_turns (cond (same_part q t.part) (made_turn ∷ []) [])) (h.lists q)
              ∙ ap (λ l. list_of_turns (done q) ++ l) (more_lists (same_part q t.part) t.turn made_turn (sym same))
              ∙ sym (lists_more (done q) (cond (same_part q t.part) (t.turn ∷ []) []));
          letters = λ q.
              ap letters_of (turns_now q) ∙ letters_of_more (turns_in w q) (cond (same_part q t.part) (made_turn ∷ []) [])
              ∙ ap (λ l. l ++ letters_of (cond (same_part q t.part) (made_turn ∷ []) [])) (h.letters q)
              ∙ ap (λ l. letters_of (done q) ++ l) (more_letters (same_part q t.part) t.turn made_turn (sym letters))
              ∙ sym (letters_of_more (done q) (cond (same_part q t.part) (t.turn ∷ []) []));
        }

    pub goes_on : (v : IsMoveOf s w t) × Behind s Passes (moved s t.part v.move w) (with_turn t done)
    unfolding is_move
    goes_on = (is_move, stays_made)

-- A world and the lists that stand behind it.

module _ (s : Settings) (Passes : Intake → Type 0) (states : StatesLaw) (turns_law : TurnsLaw) (w : World) (done : PartName → List Turn) (h : Behind s Passes w done) where
  of_lists : (p : PartName) → TurnsAreOfLists s w p
  of_lists p = subst (λ v. TurnsAreOfLists s v p) (sym h.made) (turns_law s h.moves p)

  pub list_is : (p : PartName) → list_in w p ≡ list_of_turns (done p)
  list_is p = sym (of_lists p).lists ∙ h.lists p

  pub given_is : (p : PartName) → given_in w p ≡ letters_of (done p)
  given_is p = sym (of_lists p).given ∙ h.letters p

  -- what a part gives in the world is what it gives behind its list
  pub effects_are : (p : PartName) (x : Intake) → effects_in s w p x ≡ turn_behind s p (list_of_turns (done p)) x
  effects_are p x = same_effects s w p x (subst (StatesAreOfLists s) (sym h.made) (states s h.moves)) ∙ ap (λ l. turn_behind s p l x) (list_is p)

  -- so, the letters between two parts
  pub links_are : (sender p : PartName) → letters_to p (letters_of (done sender)) ≡ taken_from sender (list_of_turns (done p)) ++ waiting_between w sender p
  links_are sender p = ap (letters_to p) (sym (given_is sender)) ∙ h.links sender p ∙ ap (λ l. taken_from sender l ++ waiting_between w sender p) (list_is p)
