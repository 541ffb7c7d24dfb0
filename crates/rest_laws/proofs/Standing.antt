-- A world of the machine stands for each world of a run.
use Rattle.std.proofs.Common.{◌≡◌, ℕ, true, List, [], ◌∷◌, ◌++◌, refl, ap, ◌∙◌, sym, subst}
use Rattle.std.specs.Prelude.{Option, Some, None, cond, find}
use Rattle.std.proofs.lemmas.Bool.{and_from}
use Rattle.lload_names.specs.declared.inputs.Event.TheVariants as event
use Rattle.lload_names.specs.declared.inputs.Input.{Input}
use Rattle.lload_names.specs.declared.inputs.Input.TheVariants as input
use Rattle.lload_names.specs.declared.names.EndWhy.{EndWhy}
use Rattle.lload_names.specs.declared.names.PartName.{PartName}
use Rattle.lload_names.specs.declared.names.PartName.TheVariants.{Desk, Client, Up as Connection}
use Rattle.lload_spec.specs.Journal.{same_part}
use Rattle.lload_spec.specs.Settings.{Settings}
use Rattle.part_spec.specs.Inputs.{letter_of}
use Rattle.part_spec.specs.Merge.{Happens, Move, PartMove, Severed, Severs, Takes, behind_moves, moved, world_of}
use Rattle.part_spec.specs.World.{World, Flight, behind, empty_world, is_between, takes, takes_from, turn_of}
use Rattle.link_laws.specs.Laws.{StatesAreOfLists}
use Rattle.link_laws.specs.Moves.{effects_in, waiting_between}
use Rattle.link_laws.proofs.Entries.{effects_own}
use Rattle.link_laws.proofs.Kept.{intake_of, letter_out, same_turn}
use Rattle.link_laws.proofs.Links.{first_out}
use Rattle.link_laws.proofs.States.{keep_states, no_states, without_letter}
use Rattle.move_laws.specs.Moves.{empty}
use Rattle.move_laws.proofs.Laws.{holds_empty}
use Rattle.stands_laws.specs.Books.{Book, Has, Keeps, book_of, made_at}
use Rattle.stands_laws.specs.ClientStands.{kinds_of}
use Rattle.stands_laws.proofs.Beginning.{beginning}
use Rattle.stands_laws.proofs.Tests.{same_self}
use Rattle.fitness_laws.proofs.Books.{books}
use Rattle.fitness_laws.proofs.Turned.{Turned, letter_turned, plain_turned}
use Rattle.fitness_laws.proofs.WorldConnections.{connection_severed, connection_takes}
use Rattle.fitness_laws.proofs.WorldTurns.{Comes, HasFrom, Standing, client_severed, client_takes, desk_severed, desk_takes}

-- a world whose states are those of its lists, with a machine
pub record Stood (s : Settings) (b : Book) (w : World) : Type 0 where
  pub states : StatesAreOfLists s w
  pub standing : Standing s b w

module _ (s : Settings) (b : Book) where
  abbrev Took : World → World → PartName → Input → Type 0
  Took w w1 p i = Turned w w1 p i (letter_of i) (turn_of s w p i)

  took : (w w1 : World) (p : PartName) (i : Input) → Stood s b w → Comes w p i → HasFrom s b w p i → Took w w1 p i → Standing s b w1
  took w w1 Desk i h comes made t = desk_takes s b w w1 h.standing h.states i comes t
  took w w1 (Client c) i h comes made t = client_takes s b w w1 h.standing h.states c i comes made t
  took w w1 (Connection u) i h comes made t = connection_takes s b w w1 h.standing h.states u i comes t

  cut : (w w1 : World) (p : PartName) (now : ℕ) (why : EndWhy) → Stood s b w → Turned w w1 p (input.Tick now) None (effects_in s w p (Severed now why)) → Standing s b w1
  cut w w1 Desk now why h t = desk_severed s b w w1 h.standing h.states now why t
  cut w w1 (Client c) now why h t = client_severed s b w w1 h.standing h.states c now why t
  cut w w1 (Connection u) now why h t = connection_severed s b w w1 h.standing h.states u now why t

  severed : (w : World) (p : PartName) (now : ℕ) (why : EndWhy) → Stood s b w → Stood s b (moved s p (Severs now why) w)
  severed w p now why h =
      record {
        states = keep_states s p (Severed now why) w h.states;
        standing = cut w (moved s p (Severs now why) w) p now why h (plain_turned s w p (input.Tick now) (effects_in s w p (Severed now why)) (effects_own s w p (Severed now why)) refl);
      }

  -- without a letter
  alone : (w : World) (p : PartName) (i : Input) → letter_of i ≡ None → Comes w p i → HasFrom s b w p i → Stood s b w → Stood s b (behind s p None (turn_of s w p i) w)
  alone w p i plain comes made h =
      let t = plain_turned s w p i (turn_of s w p i) (effects_own s w p (Takes i)) plain in
      let w1 : World = behind s p None (turn_of s w p i) w in
      record {
        states = subst (λ m. StatesAreOfLists s (behind s p m (turn_of s w p i) w)) plain (keep_states s p (Takes i) w h.states);
        standing = took w w1 p i h comes made (subst (λ m. Turned w w1 p i m (turn_of s w p i)) (sym plain) t);
      }

  -- what makes no operation
  makes_none : (w : World) (p : PartName) (i : Input) → ((c : ℕ) → HasFrom s b w (Client c) i) → HasFrom s b w p i
  makes_none w Desk i k = tt
  makes_none w (Client c) i k = k c
  makes_none w (Connection u) i k = tt

  makes_one : (w : World) (p : PartName) (now id : ℕ) (rest : List ℕ) → Has b (made_at s w p (Happens (event.Message now id rest))) → HasFrom s b w p (input.Message now id rest)
  makes_one w Desk now id rest h = tt
  makes_one w (Client c) now id rest h = h
  makes_one w (Connection u) now id rest h = tt

  -- a letter, the first of its pair
  itself : (p : PartName) → same_part p p ≡ true
  itself Desk = refl
  itself (Client c) = same_self c
  itself (Connection u) = same_self u

  letter : (w : World) (p : PartName) (now word : ℕ) (sender : PartName) (f : Flight) → find (is_between sender p) w.letters ≡ Some f → Stood s b w → Stood s b (takes s p (input.LetterFrom now word sender f.posted.letter) (letter_out sender p w))
  letter w p now word sender f found h =
      let i : Input = input.LetterFrom now word sender f.posted.letter in
      let w0 : World = letter_out sender p w in
      let w1 : World = takes s p i w0 in
      let first : waiting_between w sender p ≡ f.posted.letter ∷ waiting_between w0 sender p = first_out sender p f sender p w.letters found ∙ ap (λ t. cond t (f.posted.letter ∷ []) [] ++ waiting_between w0 sender p) (and_from (same_part sender sender) (same_part p p) (itself sender) (itself p)) in
      let t = letter_turned s w p now word sender f (effects_in s w0 p (intake_of now word sender f)) (effects_own s w0 p (intake_of now word sender f)) found in
      record {
        states = keep_states s p (intake_of now word sender f) w0 (without_letter s sender p w h.states);
        standing = took w w1 p i h (record { rest = waiting_between w0 sender p; is = first }) (makes_none w p i (λ c. tt)) (subst (λ e. Turned w w1 p i (letter_of i) e) (same_turn s w sender p (intake_of now word sender f)) t);
      }

  letter_if : (w : World) (p : PartName) (now word : ℕ) (sender : PartName) → Stood s b w → Stood s b (takes_from s p now word sender w)
  letter_if w p now word sender h = by (find (is_between sender p) w.letters) refl
    where
      by : (o : Option Flight) → find (is_between sender p) w.letters ≡ o → Stood s b (elim o [ None ↦ w | Some f ↦ takes s p (input.LetterFrom now word sender f.posted.letter) (letter_out sender p w) ])
      by None e = h
      by (Some f) e = letter w p now word sender f e h

  one : (w : World) (p : PartName) (move : Move) → Has b (made_at s w p move) → Stood s b w → Stood s b (moved s p move w)
  one w p (Severs now why) made h = severed w p now why h
  one w p (Happens (event.Letter now word sender)) made h = letter_if w p now word sender h
  one w p (Happens (event.Message now id rest)) made h = alone w p (input.Message now id rest) refl tt (makes_one w p now id rest made) h
  one w p (Happens (event.Arrive now)) made h = alone w p (input.Arrive now) refl tt (makes_none w p (input.Arrive now) (λ c. tt)) h
  one w p (Happens (event.LinkUp now)) made h = alone w p (input.LinkUp now) refl tt (makes_none w p (input.LinkUp now) (λ c. tt)) h
  one w p (Happens (event.Tick now)) made h = alone w p (input.Tick now) refl tt (makes_none w p (input.Tick now) (λ c. tt)) h
  one w p (Happens (event.LinkGone now why)) made h = alone w p (input.LinkGone now why) refl tt (makes_none w p (input.LinkGone now why) (λ c. tt)) h
  one w p (Happens (event.Stall now)) made h = alone w p (input.Stall now) refl tt (makes_none w p (input.Stall now) (λ c. tt)) h
  one w p (Happens (event.Flow now)) made h = alone w p (input.Flow now) refl tt (makes_none w p (input.Flow now) (λ c. tt)) h
  one w p (Happens (event.Reload now plan base)) made h = alone w p (input.Reload now plan base) refl tt (makes_none w p (input.Reload now plan base) (λ c. tt)) h

  all : (w : World) (ms : List PartMove) → Keeps s b w ms → Stood s b w → Stood s b (behind_moves s w ms)
  all w [] k h = h
  all w (m ∷ ms) k h = all (moved s m.part m.move w) ms k.1 (one w m.part m.move k.0 h)

-- the book of a run
abbrev pub book : Settings → List PartMove → Book
book s ms = book_of s empty_world ms

pub stood : (s : Settings) (ms : List PartMove) → Stood s (book s ms) (world_of s ms)
stood s ms = all s (book s ms) empty_world ms (books s empty_world ms) (record { states = no_states s; standing = record { model = empty; stands = beginning s (book s ms); holds = holds_empty (kinds_of s (book s ms)) } })
