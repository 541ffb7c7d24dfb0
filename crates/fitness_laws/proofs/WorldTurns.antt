-- Where a world of the machine stands for a world, one stands for the world behind a turn of each part.
use Rattle.std.proofs.Common.{◌≡◌, ℕ, List, [], ◌∷◌, ◌++◌, refl, ap, ◌∙◌, sym, subst}
use Rattle.std.specs.Prelude.{Option, None, cond, map, max}
use Rattle.std.proofs.lemmas.List.{append-nil}
use Rattle.lload_names.specs.declared.inputs.Input.{Input}
use Rattle.lload_names.specs.declared.inputs.Input.TheVariants.{LetterFrom, Tick}
use Rattle.lload_names.specs.declared.names.EndWhy.{EndWhy}
use Rattle.lload_names.specs.declared.names.Letter.{Letter}
use Rattle.lload_names.specs.declared.names.PartName.{PartName}
use Rattle.lload_names.specs.declared.names.PartName.TheVariants.{Desk, Client, Up as Connection}
use Rattle.lload_spec.specs.Journal.{same_part}
use Rattle.lload_spec.specs.Settings.{Settings}
use Rattle.part_spec.specs.ClientTurn.{client_act, client_sever, client_turn}
use Rattle.part_spec.specs.DeskTurn.{desk_turn}
use Rattle.part_spec.specs.Fit.{ClientLedger}
use Rattle.part_spec.specs.Inputs.{effects_of, letter_of, moment_for, nothing}
use Rattle.part_spec.specs.Marked.{Taken}
use Rattle.part_spec.specs.World.{World, client_in, list_in, sever_of, turn_of}
use Rattle.link_laws.specs.Laws.{StatesAreOfLists}
use Rattle.link_laws.specs.Moves.{waiting_between}
use Rattle.move_laws.specs.World as machine
use Rattle.move_laws.specs.AgreeBinds.{Holds}
use Rattle.move_laws.specs.Moves.{moves}
use Rattle.move_laws.proofs.Fitness.{holds_moves}
use Rattle.stands_laws.specs.Books.{Book, Has, made_from}
use Rattle.stands_laws.specs.ClientSides.{client_move_of, client_side}
use Rattle.stands_laws.specs.ClientStands.{kinds_of}
use Rattle.stands_laws.specs.DeskSides.{desk_move_of, desk_side}
use Rattle.stands_laws.specs.Follows.{ClientComes, DeskComes, client_end}
use Rattle.stands_laws.specs.Letters.{AnswerIs, AskIs, ChoiceIs, ReportIs}
use Rattle.stands_laws.specs.WorldStands.{WorldStands, client_ledger_in, desk_ledger_in}
use Rattle.client_moves_laws.proofs.ClientFollowing.{client_ends, client_follows}
use Rattle.desk_moves_laws.proofs.DeskFollowing.{desk_follows}
use Rattle.fitness_laws.proofs.ClientStrangers.{client_ends_none, client_writes_none}
use Rattle.fitness_laws.proofs.ClientTurned.{client_turned}
use Rattle.fitness_laws.proofs.DeskTurned.{desk_turned}
use Rattle.fitness_laws.proofs.FirstLetters.{first_pair}
use Rattle.fitness_laws.proofs.Ledgers.{client_here, desk_here}
use Rattle.fitness_laws.proofs.Turned.{Turned, cond_same, same_world, without, without_plain}

-- a world of the machine that stands for this one, and all holds that is said of the machine
pub record Standing (s : Settings) (b : Book) (w : World) : Type 0 where
  pub model : machine.World
  pub stands : WorldStands s b w model
  pub holds : Holds (kinds_of s b) model

-- the letter of an input waits first
pub record IsFirst (letter : Letter) (q : List Letter) : Type 0 where
  pub rest : List Letter
  pub is : q ≡ letter ∷ rest

abbrev pub Comes : World → PartName → Input → Type 0
Comes w p (LetterFrom now word sender letter) = IsFirst letter (waiting_between w sender p)
Comes w p _ = Unit {0}

pub no_first : {P : Type 0} (letter : Letter) (q : List Letter) → q ≡ [] → IsFirst letter q → P
no_first letter q e k = absurd (let bad : [] ≡ letter ∷ k.rest = sym e ∙ k.is in cc)

-- the book has what an input of a part makes
abbrev pub HasFrom : Settings → Book → World → PartName → Input → Type 0
HasFrom s b w (Client c) i = Has b (made_from s c (client_in w c) i)
HasFrom s b w _ i = Unit {0}

-- what changes nothing
pub idle : (s : Settings) (b : Book) (w w1 : World) (v : machine.World) (p n : PartName) (at : ℕ) (i : Input) (mark : Option Taken) → letter_of i ≡ None → Turned w w1 p i mark (effects_of n at nothing) → WorldStands s b w v → WorldStands s b w1 v
idle s b w w1 v p n at i mark plain t h =
    same_world s b w w1 v (λ q. t.lists q ∙ ap (λ l. list_in w q ++ l) (cond_same (same_part q p) [] [] refl) ∙ append-nil (list_in w q))
    (λ x y. t.queues x y ∙ ap (λ l. l ++ cond (same_part x p) [] []) (cond_same (same_part y p) (without i x (waiting_between w x y)) (waiting_between w x y) (without_plain i plain x (waiting_between w x y)))
    ∙ ap (λ l. waiting_between w x y ++ l) (cond_same (same_part x p) [] [] refl) ∙ append-nil (waiting_between w x y)) h

module _ (s : Settings) (b : Book) (w w1 : World) (h : Standing s b w) (states : StatesAreOfLists s w) where
  -- A client.
  client_comes : (c : ℕ) (i : Input) → Comes w (Client c) i → ClientComes s b c (client_side h.model c) i
  client_comes c (LetterFrom now word Desk letter) k = first_pair (ChoiceIs s b c) (waiting_between w Desk (Client c)) letter k.rest (h.model.choices c) k.is (h.stands.choices c)
  client_comes c (LetterFrom now word (Connection u) letter) k = first_pair (AnswerIs s b c) (waiting_between w (Connection u) (Client c)) letter k.rest (h.model.to_client c u) k.is (h.stands.answers c u)
  client_comes c (LetterFrom now word (Client a) letter) k = no_first letter (waiting_between w (Client a) (Client c)) (h.stands.strangers.clients a c) k
  client_comes c _ k = tt

  pub client_takes : (c : ℕ) (i : Input) → Comes w (Client c) i → HasFrom s b w (Client c) i → Turned w w1 (Client c) i (letter_of i) (turn_of s w (Client c) i) → Standing s b w1
  client_takes c i comes made t =
      let l : ClientLedger = client_ledger_in s w c in
      let here = client_here s w c states in
      let f = client_follows s b h.model c l i h.holds (h.stands.clients c) (subst (λ p. Has b (made_from s c p i)) here made) (client_comes c i comes) in
      record {
        model = moves (kinds_of s b) h.model (map (client_move_of c) f.made);
        stands = client_turned s b w w1 h.model h.stands i c (moment_for l.state.moment i) (letter_of i) (client_act s l.state (moment_for l.state.moment i) i) f.made f.acts f.choices f.answers
            (subst (λ e. Turned w w1 (Client c) i (letter_of i) e) (ap (λ p. client_turn s p i) here) t) (λ n. client_writes_none n s l.state (moment_for l.state.moment i) i);
        holds = holds_moves (kinds_of s b) h.model (map (client_move_of c) f.made) h.holds;
      }

  pub client_severed : (c now : ℕ) (why : EndWhy) → Turned w w1 (Client c) (Tick now) None (sever_of s w (Client c) now why) → Standing s b w1
  client_severed c now why t =
      let l : ClientLedger = client_ledger_in s w c in
      let f = client_ends s b h.model c now why l h.holds (h.stands.clients c) in
      record {
        model = moves (kinds_of s b) h.model (map (client_move_of c) f.made);
        stands = client_turned s b w w1 h.model h.stands (Tick now) c (max l.state.moment now) None (client_end l.state why) f.made f.acts f.choices f.answers
            (subst (λ e. Turned w w1 (Client c) (Tick now) None e) (ap (λ p. client_sever p now why) (client_here s w c states)) t) (λ n. client_ends_none n l.state why);
        holds = holds_moves (kinds_of s b) h.model (map (client_move_of c) f.made) h.holds;
      }

  -- The desk.
  desk_comes : (i : Input) → Comes w Desk i → DeskComes b (desk_side h.model) i
  desk_comes (LetterFrom now word (Client a) letter) k = first_pair (AskIs b a) (waiting_between w (Client a) Desk) letter k.rest (h.model.to_desk a) k.is (h.stands.asks a)
  desk_comes (LetterFrom now word (Connection u) letter) k = first_pair (ReportIs u) (waiting_between w (Connection u) Desk) letter k.rest (h.model.reports u) k.is (h.stands.reports u)
  desk_comes (LetterFrom now word Desk letter) k = no_first letter (waiting_between w Desk Desk) h.stands.strangers.desk k
  desk_comes _ k = tt

  pub desk_takes : (i : Input) → Comes w Desk i → Turned w w1 Desk i (letter_of i) (turn_of s w Desk i) → Standing s b w1
  desk_takes i comes t =
      let f = desk_follows s b h.model (desk_ledger_in s w) i h.holds h.stands.desk (desk_comes i comes) in
      record {
        model = moves (kinds_of s b) h.model (map desk_move_of f.made);
        stands = desk_turned s b w w1 h.model h.stands i f (subst (λ e. Turned w w1 Desk i (letter_of i) e) (ap (λ p. desk_turn s p i) (desk_here s w states)) t);
        holds = holds_moves (kinds_of s b) h.model (map desk_move_of f.made) h.holds;
      }

  pub desk_severed : (now : ℕ) (why : EndWhy) → Turned w w1 Desk (Tick now) None (sever_of s w Desk now why) → Standing s b w1
  desk_severed now why t = record { model = h.model; stands = idle s b w w1 h.model Desk Desk now (Tick now) None refl t h.stands; holds = h.holds }
