-- The same behind a turn of a connection.
use Rattle.std.proofs.Common.{◌≡◌, ℕ, Bool, true, false, if◌then◌else◌, List, [], ◌∷◌, refl, ap, ◌∙◌, sym, subst}
use Rattle.std.specs.Prelude.{Option, Some, None, is_some, map, max}
use Rattle.lload_names.specs.declared.inputs.Effects.{Effects}
use Rattle.lload_names.specs.declared.inputs.Input.{Input}
use Rattle.lload_names.specs.declared.inputs.Input.TheVariants.{LetterFrom, Tick}
use Rattle.lload_names.specs.declared.names.ConnKind.{ConnKind}
use Rattle.lload_names.specs.declared.names.ConnKind.TheVariants.{Regular, Bind as BindKind}
use Rattle.lload_names.specs.declared.names.EndWhy.{EndWhy}
use Rattle.lload_names.specs.declared.names.Letter.{Letter}
use Rattle.lload_names.specs.declared.names.PartName.TheVariants.{Desk, Client, Up as Connection}
use Rattle.lload_names.specs.declared.plans.Place.{Place}
use Rattle.lload_spec.specs.Settings.{Settings, place_at}
use Rattle.part_spec.specs.BindTurn.{bind_act}
use Rattle.part_spec.specs.ConnectionState.{kind_at}
use Rattle.part_spec.specs.Fit.{ConnectionLedger}
use Rattle.part_spec.specs.Inputs.{effects_of, letter_of, moment_for, nothing}
use Rattle.part_spec.specs.RegularTurn.{regular_act}
use Rattle.part_spec.specs.Turn.{connection_sever, connection_turn}
use Rattle.part_spec.specs.World.{World, sever_of, turn_of}
use Rattle.link_laws.specs.Laws.{StatesAreOfLists}
use Rattle.link_laws.specs.Moves.{waiting_between}
use Rattle.move_laws.specs.World as machine
use Rattle.move_laws.specs.Fit.{Begins}
use Rattle.move_laws.specs.Moves.{moves}
use Rattle.move_laws.proofs.Fitness.{holds_moves}
use Rattle.move_laws.proofs.Laws.{all_fit}
use Rattle.stands_laws.specs.Books.{Book}
use Rattle.stands_laws.specs.ClientStands.{kinds_of, serves}
use Rattle.stands_laws.specs.ConnectionSides.{conn_move_of, conn_side}
use Rattle.stands_laws.specs.Follows.{ConnComes, connection_end}
use Rattle.stands_laws.specs.Letters.{OrderIs}
use Rattle.stands_laws.specs.Lists.{FirstIs}
use Rattle.stands_laws.specs.RegularStands.{LinkStands}
use Rattle.stands_laws.specs.WorldStands.{connection_ledger_in, stands_by}
use Rattle.bind_moves_laws.proofs.BindFollowing.{bind_ends, bind_follows}
use Rattle.regular_moves_laws.proofs.Follows.{regular_ends, regular_follows}
use Rattle.fitness_laws.proofs.ConnectionStrangers.{bind_writes_none, connection_ends_none, regular_writes_none}
use Rattle.fitness_laws.proofs.ConnectionTurned.{connection_turned}
use Rattle.fitness_laws.proofs.FirstLetters.{first_pair, link_of, up_placed}
use Rattle.fitness_laws.proofs.Ledgers.{connection_here}
use Rattle.fitness_laws.proofs.Rules.{kind_known}
use Rattle.fitness_laws.proofs.Turned.{Turned}
use Rattle.fitness_laws.proofs.WorldTurns.{Comes, Standing, idle, no_first}

module _ (s : Settings) (b : Book) (w w1 : World) (h : Standing s b w) (states : StatesAreOfLists s w) (u : ℕ) where
  link : LinkStands s u (connection_ledger_in s w u).state (h.model.conns u)
  link = link_of s b u (connection_ledger_in s w u) (h.model.conns u) (serves s u) (h.stands.conns u)

  connection_comes : (i : Input) → Comes w (Connection u) i → ConnComes s b (conn_side h.model u) i
  connection_comes (LetterFrom now word (Client a) letter) k = first_pair (OrderIs s b a) (waiting_between w (Client a) (Connection u)) letter k.rest (h.model.to_conn a u) k.is (h.stands.orders a u)
  connection_comes (LetterFrom now word Desk letter) k = no_first letter (waiting_between w Desk (Connection u)) (h.stands.strangers.orders u) k
  connection_comes (LetterFrom now word (Connection n) letter) k = no_first letter (waiting_between w (Connection n) (Connection u)) (h.stands.strangers.connections n u) k
  connection_comes _ k = tt

  -- no letter comes to one without a place
  waits_placed : (a : ℕ) (letter : Letter) (q : List machine.ToConn) → FirstIs (OrderIs s b a) letter q → Begins (h.model.conns u) q → is_some (place_at s u) ≡ true
  waits_placed a letter [] f g = absurd f
  waits_placed a letter (y ∷ ys) f g = up_placed s u (connection_ledger_in s w u).state (h.model.conns u) link g

  none_comes : (i : Input) → place_at s u ≡ None → ConnComes s b (conn_side h.model u) i → letter_of i ≡ None
  none_comes (LetterFrom now word (Client a) letter) e k =
      let place = waits_placed a letter (h.model.to_conn a u) k ((all_fit (kinds_of s b) h.model h.holds).begins a u) in
      absurd (let bad : true ≡ false = sym place ∙ ap is_some e in cc)
  none_comes (LetterFrom now word Desk letter) e k = absurd k
  none_comes (LetterFrom now word (Connection n) letter) e k = absurd k
  none_comes _ e k = refl

  -- what it gives, by its place and its kind
  abbrev given : Input → Option Place → ConnKind → Effects
  given i o k =
      effects_of (Connection (connection_ledger_in s w u).state.number) (moment_for (connection_ledger_in s w u).state.moment i)
      (elim o [
        | None ↦ nothing
        | Some place ↦ elim k [
          | Regular ↦ regular_act s (connection_ledger_in s w u).state (moment_for (connection_ledger_in s w u).state.moment i) i
          | BindKind ↦ bind_act s (connection_ledger_in s w u).state (moment_for (connection_ledger_in s w u).state.moment i) i
        ]
      ])

  stands_so : (t : Bool) → serves s u ≡ t → stands_by t s b u (connection_ledger_in s w u) (h.model.conns u)
  stands_so t e = subst (λ k. stands_by k s b u (connection_ledger_in s w u) (h.model.conns u)) e (h.stands.conns u)

  module _ (i : Input) (comes : ConnComes s b (conn_side h.model u) i) where
    by_kind : (o : Option Place) → place_at s u ≡ o → (t : Bool) → serves s u ≡ t → Turned w w1 (Connection u) i (letter_of i) (given i o (if t then BindKind else Regular)) → Standing s b w1
    by_kind None e k serve t = record { model = h.model; stands = idle s b w w1 h.model (Connection u) (Connection (connection_ledger_in s w u).state.number) (moment_for (connection_ledger_in s w u).state.moment i) i (letter_of i) (none_comes i e comes) t h.stands; holds = h.holds }
    by_kind (Some place) e true serve t =
        let l : ConnectionLedger = connection_ledger_in s w u in
        let f = bind_follows s b h.model u l i h.holds serve (ap is_some e) (stands_so true serve) comes in
        record {
          model = moves (kinds_of s b) h.model (map (conn_move_of u) f.made);
          stands = connection_turned s b w w1 h.model h.stands i u (moment_for l.state.moment i) (letter_of i) (bind_act s l.state (moment_for l.state.moment i) i) f.made true serve f.acts.stands f.acts.gives f.orders t (λ n. bind_writes_none n s l.state (moment_for l.state.moment i) i);
          holds = holds_moves (kinds_of s b) h.model (map (conn_move_of u) f.made) h.holds;
        }
    by_kind (Some place) e false serve t =
        let l : ConnectionLedger = connection_ledger_in s w u in
        let f = regular_follows s b h.model u l i h.holds serve (ap is_some e) (stands_so false serve) comes in
        record {
          model = moves (kinds_of s b) h.model (map (conn_move_of u) f.made);
          stands = connection_turned s b w w1 h.model h.stands i u (moment_for l.state.moment i) (letter_of i) (regular_act s l.state (moment_for l.state.moment i) i) f.made false serve f.acts.is f.acts.gives f.orders t (λ n. regular_writes_none n s l.state (moment_for l.state.moment i) i);
          holds = holds_moves (kinds_of s b) h.model (map (conn_move_of u) f.made) h.holds;
        }

  pub connection_takes : (i : Input) → Comes w (Connection u) i → Turned w w1 (Connection u) i (letter_of i) (turn_of s w (Connection u) i) → Standing s b w1
  connection_takes i comes t =
      by_kind i (connection_comes i comes) (place_at s u) refl (serves s u) refl
      (subst (λ e. Turned w w1 (Connection u) i (letter_of i) e) (ap (λ p. connection_turn s p i) (connection_here s w u states) ∙ (λ j. given i (place_at s (link.number j)) ((link.kind ∙ kind_known (kind_at s u) (serves s u) refl) j))) t)

  module _ (now : ℕ) (why : EndWhy) (t : Turned w w1 (Connection u) (Tick now) None (effects_of (Connection (connection_ledger_in s w u).state.number) (max (connection_ledger_in s w u).state.moment now) (connection_end (connection_ledger_in s w u).state why))) where
    ended_by_kind : (k : Bool) → serves s u ≡ k → Standing s b w1
    ended_by_kind true serve =
        let l : ConnectionLedger = connection_ledger_in s w u in
        let f = bind_ends s b u now why l (conn_side h.model u) (stands_so true serve) in
        record {
          model = moves (kinds_of s b) h.model (map (conn_move_of u) f.made);
          stands = connection_turned s b w w1 h.model h.stands (Tick now) u (max l.state.moment now) None (connection_end l.state why) f.made true serve f.acts.stands f.acts.gives f.orders t (λ n. connection_ends_none n l.state why);
          holds = holds_moves (kinds_of s b) h.model (map (conn_move_of u) f.made) h.holds;
        }
    ended_by_kind false serve =
        let l : ConnectionLedger = connection_ledger_in s w u in
        let f = regular_ends s b u now why l (conn_side h.model u) serve (stands_so false serve) in
        record {
          model = moves (kinds_of s b) h.model (map (conn_move_of u) f.made);
          stands = connection_turned s b w w1 h.model h.stands (Tick now) u (max l.state.moment now) None (connection_end l.state why) f.made false serve f.acts.is f.acts.gives f.orders t (λ n. connection_ends_none n l.state why);
          holds = holds_moves (kinds_of s b) h.model (map (conn_move_of u) f.made) h.holds;
        }

  pub connection_severed : (now : ℕ) (why : EndWhy) → Turned w w1 (Connection u) (Tick now) None (sever_of s w (Connection u) now why) → Standing s b w1
  connection_severed now why t =
      ended_by_kind now why (subst (λ e. Turned w w1 (Connection u) (Tick now) None e) (ap (λ p. connection_sever p now why) (connection_here s w u states)) t) (serves s u) refl
