-- Each world that moves of the parts make has a world of the machine that stands for it; and each letter is fit where it
-- is taken.
use Rattle.std.proofs.Common.{◌≡◌, ℕ, true, List, [], ◌∷◌, ◌++◌, refl, ap, ◌∙◌, sym, subst}
use Rattle.std.specs.Prelude.{Option, Some, None, cond, find}
use Rattle.std.specs.List.{list_all}
use Rattle.std.proofs.lemmas.Bool.{and_from, and_parts}
use Rattle.lload_names.specs.declared.inputs.Effects.{Effects}
use Rattle.lload_names.specs.declared.inputs.Event.TheVariants as event
use Rattle.lload_names.specs.declared.inputs.Input.{Input}
use Rattle.lload_names.specs.declared.inputs.Input.TheVariants as input
use Rattle.lload_names.specs.declared.names.EndWhy.{EndWhy}
use Rattle.lload_names.specs.declared.names.PartName.{PartName}
use Rattle.lload_names.specs.declared.names.PartName.TheVariants.{Desk, Client, Up as Connection}
use Rattle.lload_spec.specs.Journal.{same_part}
use Rattle.lload_spec.specs.Settings.{Settings}
use Rattle.part_spec.specs.Fit.{is_all_fit}
use Rattle.part_spec.specs.Inputs.{letter_of}
use Rattle.part_spec.specs.Merge.{Happens, Move, PartMove, Severed, Severs, Takes, behind_moves, moved}
use Rattle.part_spec.specs.World.{World, Flight, behind, empty_world, is_between, list_in, takes, takes_from, turn_of}
use Rattle.link_laws.specs.Laws.{StatesAreOfLists}
use Rattle.link_laws.specs.Moves.{effects_in, has_entry, marks_move, marks_moves, waiting_between}
use Rattle.link_laws.proofs.Entries.{effects_own}
use Rattle.link_laws.proofs.Kept.{intake_of, letter_out, same_turn}
use Rattle.link_laws.proofs.Links.{first_out}
use Rattle.link_laws.proofs.States.{keep_states, no_states, without_letter}
use Rattle.move_laws.specs.Moves.{empty}
use Rattle.move_laws.proofs.Laws.{holds_empty}
use Rattle.stands_laws.specs.Books.{Book, Has, Keeps, book_of, made_at}
use Rattle.stands_laws.specs.ClientStands.{kinds_of}
use Rattle.stands_laws.proofs.Beginning.{beginning}
use Rattle.stands_laws.proofs.Tests.{same_self}
use Rattle.fitness_laws.specs.Fitness.{FitnessLaw, HaveRules, MarksLaw}
use Rattle.fitness_laws.proofs.Books.{books}
use Rattle.fitness_laws.proofs.FirstLetters.{first_letters}
use Rattle.fitness_laws.proofs.Fits.{FitMark, fit_turned}
use Rattle.fitness_laws.proofs.Rules.{rules}
use Rattle.fitness_laws.proofs.Turned.{Turned, letter_turned, plain_turned}
use Rattle.fitness_laws.proofs.WorldConnections.{connection_severed, connection_takes}
use Rattle.fitness_laws.proofs.WorldTurns.{Comes, HasFrom, Standing, client_severed, client_takes, desk_severed, desk_takes}

-- a world with all that is said of it
pub record Fitting (s : Settings) (b : Book) (w : World) : Type 0 where
  pub states : StatesAreOfLists s w
  pub standing : Standing s b w
  pub fit : (p : PartName) → is_all_fit s p (list_in w p) ≡ true

pub have_rules_in : (s : Settings) (b : Book) (w : World) → Fitting s b w → HaveRules s w
have_rules_in s b w h = rules s b w h.standing.model h.standing.stands h.standing.holds h.states

part_itself : (p : PartName) → same_part p p ≡ true
part_itself Desk = refl
part_itself (Client c) = same_self c
part_itself (Connection u) = same_self u

-- the letter that a part takes waits first
found_first : (w : World) (sender p : PartName) (f : Flight) → find (is_between sender p) w.letters ≡ Some f → waiting_between w sender p ≡ f.posted.letter ∷ waiting_between (letter_out sender p w) sender p
found_first w sender p f e = first_out sender p f sender p w.letters e ∙ ap (λ t. cond t (f.posted.letter ∷ []) [] ++ waiting_between (letter_out sender p w) sender p) (and_from (same_part sender sender) (same_part p p) (part_itself sender) (part_itself p))

-- an input that makes no operation
abbrev MakesNone : Input → Type 0
MakesNone (input.Message now id rest) = ⊥
MakesNone _ = Unit {0}

none_made : (s : Settings) (b : Book) (w : World) (p : PartName) (i : Input) → MakesNone i → HasFrom s b w p i
none_made s b w Desk i k = tt
none_made s b w (Connection u) i k = tt
none_made s b w (Client c) i k = go i k
  where
    go : (i : Input) → MakesNone i → HasFrom s b w (Client c) i
    go (input.Message now id rest) k = absurd k
    go _ k = tt

made_here : (s : Settings) (b : Book) (w : World) (p : PartName) (now id : ℕ) (rest : List ℕ) → Has b (made_at s w p (Happens (event.Message now id rest))) → HasFrom s b w p (input.Message now id rest)
made_here s b w Desk now id rest h = tt
made_here s b w (Client c) now id rest h = h
made_here s b w (Connection u) now id rest h = tt

module _ (s : Settings) (b : Book) where
  -- A move.
  part_takes : (w w1 : World) (p : PartName) (i : Input) → Fitting s b w → Comes w p i → HasFrom s b w p i → Turned w w1 p i (letter_of i) (turn_of s w p i) → Standing s b w1
  part_takes w w1 Desk i h comes made t = desk_takes s b w w1 h.standing h.states i comes t
  part_takes w w1 (Client c) i h comes made t = client_takes s b w w1 h.standing h.states c i comes made t
  part_takes w w1 (Connection u) i h comes made t = connection_takes s b w w1 h.standing h.states u i comes t

  part_severed : (w w1 : World) (p : PartName) (now : ℕ) (why : EndWhy) → Fitting s b w → Turned w w1 p (input.Tick now) None (effects_in s w p (Severed now why)) → Standing s b w1
  part_severed w w1 Desk now why h t = desk_severed s b w w1 h.standing h.states now why t
  part_severed w w1 (Client c) now why h t = client_severed s b w w1 h.standing h.states c now why t
  part_severed w w1 (Connection u) now why h t = connection_severed s b w w1 h.standing h.states u now why t

  -- the letter that an input takes is fit
  fit_comes : (w : World) (p : PartName) (i : Input) → Fitting s b w → Comes w p i → FitMark s p (list_in w p) (letter_of i)
  fit_comes w p (input.LetterFrom now word sender letter) h k = first_letters s b w h.standing.model h.standing.stands h.standing.holds sender p letter k.rest k.is
  fit_comes w p _ h k = tt

  plain_states : (w : World) (p : PartName) (i : Input) → letter_of i ≡ None → StatesAreOfLists s w → StatesAreOfLists s (behind s p None (turn_of s w p i) w)
  plain_states w p i plain h = subst (λ m. StatesAreOfLists s (behind s p m (turn_of s w p i) w)) plain (keep_states s p (Takes i) w h)

  -- a turn without a letter
  plain_input : (w : World) (p : PartName) (i : Input) → letter_of i ≡ None → Comes w p i → HasFrom s b w p i → Fitting s b w → Fitting s b (behind s p None (turn_of s w p i) w)
  plain_input w p i plain comes made h =
      let w1 : World = behind s p None (turn_of s w p i) w in
      let t : Turned w w1 p i None (turn_of s w p i) = plain_turned s w p i (turn_of s w p i) (effects_own s w p (Takes i)) plain in
      record {
        states = plain_states w p i plain h.states;
        standing = part_takes w w1 p i h comes made (subst (λ m. Turned w w1 p i m (turn_of s w p i)) (sym plain) t);
        fit = fit_turned s w w1 p i None (turn_of s w p i) t h.fit tt;
      }

  end_of_link : (w : World) (p : PartName) (now : ℕ) (why : EndWhy) → Fitting s b w → Fitting s b (moved s p (Severs now why) w)
  end_of_link w p now why h =
      let e : Effects = effects_in s w p (Severed now why) in
      let t : Turned w (moved s p (Severs now why) w) p (input.Tick now) None e = plain_turned s w p (input.Tick now) e (effects_own s w p (Severed now why)) refl in
      record {
        states = keep_states s p (Severed now why) w h.states;
        standing = part_severed w (moved s p (Severs now why) w) p now why h t;
        fit = fit_turned s w (moved s p (Severs now why) w) p (input.Tick now) None e t h.fit tt;
      }

  -- a letter that is in flight
  letter_input : (w : World) (p : PartName) (now word : ℕ) (sender : PartName) (f : Flight) → find (is_between sender p) w.letters ≡ Some f → Fitting s b w → Fitting s b (takes s p (input.LetterFrom now word sender f.posted.letter) (letter_out sender p w))
  letter_input w p now word sender f found h =
      let i : Input = input.LetterFrom now word sender f.posted.letter in
      let w0 : World = letter_out sender p w in
      let w1 : World = takes s p i w0 in
      let comes : Comes w p i = record { rest = waiting_between w0 sender p; is = found_first w sender p f found } in
      let e : Effects = effects_in s w0 p (intake_of now word sender f) in
      let t : Turned w w1 p i (letter_of i) e = letter_turned s w p now word sender f e (effects_own s w0 p (intake_of now word sender f)) found in
      record {
        states = keep_states s p (intake_of now word sender f) w0 (without_letter s sender p w h.states);
        standing = part_takes w w1 p i h comes (none_made s b w p i tt) (subst (λ e. Turned w w1 p i (letter_of i) e) (same_turn s w sender p (intake_of now word sender f)) t);
        fit = fit_turned s w w1 p i (letter_of i) e t h.fit (fit_comes w p i h comes);
      }

  letter_taken : (w : World) (p : PartName) (now word : ℕ) (sender : PartName) → Fitting s b w → Fitting s b (takes_from s p now word sender w)
  letter_taken w p now word sender h = by (find (is_between sender p) w.letters) refl
    where
      by : (o : Option Flight) → find (is_between sender p) w.letters ≡ o → Fitting s b (elim o [ None ↦ w | Some f ↦ takes s p (input.LetterFrom now word sender f.posted.letter) (letter_out sender p w) ])
      by None e = h
      by (Some f) e = letter_input w p now word sender f e h

  one_move : (w : World) (p : PartName) (move : Move) → Has b (made_at s w p move) → Fitting s b w → Fitting s b (moved s p move w)
  one_move w p (Happens (event.Arrive now)) made h = plain_input w p (input.Arrive now) refl tt (none_made s b w p (input.Arrive now) tt) h
  one_move w p (Happens (event.LinkUp now)) made h = plain_input w p (input.LinkUp now) refl tt (none_made s b w p (input.LinkUp now) tt) h
  one_move w p (Happens (event.Message now id rest)) made h = plain_input w p (input.Message now id rest) refl tt (made_here s b w p now id rest made) h
  one_move w p (Happens (event.Letter now word sender)) made h = letter_taken w p now word sender h
  one_move w p (Happens (event.Tick now)) made h = plain_input w p (input.Tick now) refl tt (none_made s b w p (input.Tick now) tt) h
  one_move w p (Happens (event.LinkGone now why)) made h = plain_input w p (input.LinkGone now why) refl tt (none_made s b w p (input.LinkGone now why) tt) h
  one_move w p (Happens (event.Stall now)) made h = plain_input w p (input.Stall now) refl tt (none_made s b w p (input.Stall now) tt) h
  one_move w p (Happens (event.Flow now)) made h = plain_input w p (input.Flow now) refl tt (none_made s b w p (input.Flow now) tt) h
  one_move w p (Happens (event.Reload now plan base)) made h = plain_input w p (input.Reload now plan base) refl tt (none_made s b w p (input.Reload now plan base) tt) h
  one_move w p (Severs now why) made h = end_of_link w p now why h

  all_moves : (w : World) (ms : List PartMove) → Keeps s b w ms → Fitting s b w → Fitting s b (behind_moves s w ms)
  all_moves w [] k h = h
  all_moves w (m ∷ ms) k h = all_moves (moved s m.part m.move w) ms k.1 (one_move w m.part m.move k.0 h)

  -- Marks: a letter that waits has a rule.
  marked_one : (w : World) (p : PartName) (now word : ℕ) (sender : PartName) → Fitting s b w → marks_move s w p (Happens (event.Letter now word sender)) ≡ true
  marked_one w p now word sender h = by (find (is_between sender p) w.letters) refl
    where
      by : (o : Option Flight) → find (is_between sender p) w.letters ≡ o → (elim o [ None ↦ true | Some f ↦ has_entry (turn_of s w p (input.LetterFrom now word sender f.posted.letter)) ]) ≡ true
      by None e = refl
      by (Some f) e =
          let all = have_rules_in s b w h sender p now word in
          (and_parts (has_entry (turn_of s w p (input.LetterFrom now word sender f.posted.letter))) _ (sym (ap (list_all (λ letter. has_entry (turn_of s w p (input.LetterFrom now word sender letter)))) (found_first w sender p f e)) ∙ all)).0

  marks_one : (w : World) (p : PartName) (move : Move) → Fitting s b w → marks_move s w p move ≡ true
  marks_one w p (Happens (event.Letter now word sender)) h = marked_one w p now word sender h
  marks_one w p (Severs now why) h = refl
  marks_one w p (Happens (event.Arrive now)) h = refl
  marks_one w p (Happens (event.LinkUp now)) h = refl
  marks_one w p (Happens (event.Message now id rest)) h = refl
  marks_one w p (Happens (event.Tick now)) h = refl
  marks_one w p (Happens (event.LinkGone now why)) h = refl
  marks_one w p (Happens (event.Stall now)) h = refl
  marks_one w p (Happens (event.Flow now)) h = refl
  marks_one w p (Happens (event.Reload now plan base)) h = refl

  all_marks : (w : World) (ms : List PartMove) → Keeps s b w ms → Fitting s b w → marks_moves s w ms ≡ true
  all_marks w [] k h = refl
  all_marks w (m ∷ ms) k h = and_from (marks_move s w m.part m.move) _ (marks_one w m.part m.move h) (all_marks (moved s m.part m.move w) ms k.1 (one_move w m.part m.move k.0 h))

  nothing_yet : Fitting s b empty_world
  nothing_yet = record {
    states = no_states s;
    standing = record { model = empty; stands = beginning s b; holds = holds_empty (kinds_of s b) };
    fit = empty_fit;
  }
    where
      empty_fit : (p : PartName) → is_all_fit s p (list_in empty_world p) ≡ true
      empty_fit Desk = refl
      empty_fit (Client c) = refl
      empty_fit (Connection u) = refl

pub fitness : FitnessLaw
fitness s ms =
    let b : Book = book_of s empty_world ms in
    let f : Fitting s b (behind_moves s empty_world ms) = all_moves s b empty_world ms (books s empty_world ms) (nothing_yet s b) in
    record { taken = f.fit; waiting = have_rules_in s b (behind_moves s empty_world ms) f }

pub marks : MarksLaw
marks s ms =
    let b : Book = book_of s empty_world ms in
    all_marks s b empty_world ms (books s empty_world ms) (nothing_yet s b)
