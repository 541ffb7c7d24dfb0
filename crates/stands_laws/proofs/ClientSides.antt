-- A move of a client touches the client and its queues alone.
use Rattle.std.proofs.Common.{◌≡◌, ℕ, true, false, ◌==◌, List, [], ◌∷◌, refl, ap, ◌∙◌}
use Rattle.std.specs.Prelude.{map}
use Rattle.move_laws.specs.World.{Kinds, World}
use Rattle.move_laws.specs.Moves.{move, moves}
use Rattle.stands_laws.specs.ClientSides.{ClientSide, client_side, ClientMove, Asking, Refusing, Binding, Ending, Going, Leaving, Signaling, Choosing, Answering, client_move_of, client_move, client_moves}
use Rattle.stands_laws.specs.Laws.{ClientTouchesLaw}
use Rattle.stands_laws.proofs.Tests.{same_self}

side_here : (kinds : Kinds) (w : World) (a c : ℕ) (m : ClientMove) → (c == a) ≡ true → client_side (move kinds w (client_move_of a m)) c ≡ client_move (kinds.bind_op c) kinds.bind_conn (client_side w c) m
side_here kinds w a c Asking e = simp e
side_here kinds w a c Refusing e = simp e
side_here kinds w a c Binding e = simp e
side_here kinds w a c (Ending j) e = simp e
side_here kinds w a c Going e = simp e
side_here kinds w a c Leaving e = simp e
side_here kinds w a c (Signaling k v) e = simp e
side_here kinds w a c Choosing e = simp e
side_here kinds w a c (Answering v) e = simp e

side_there : (kinds : Kinds) (w : World) (a c : ℕ) (m : ClientMove) → (c == a) ≡ false → client_side (move kinds w (client_move_of a m)) c ≡ client_side w c
side_there kinds w a c Asking e = simp e
side_there kinds w a c Refusing e = simp e
side_there kinds w a c Binding e = simp e
side_there kinds w a c (Ending j) e = simp e
side_there kinds w a c Going e = simp e
side_there kinds w a c Leaving e = simp e
side_there kinds w a c (Signaling k v) e = simp e
side_there kinds w a c Choosing e = simp e
side_there kinds w a c (Answering v) e = simp e

sides_here : (kinds : Kinds) (w : World) (a : ℕ) (ms : List ClientMove) → client_side (moves kinds w (map (client_move_of a) ms)) a ≡ client_moves (kinds.bind_op a) kinds.bind_conn (client_side w a) ms
sides_here kinds w a [] = refl
sides_here kinds w a (m ∷ ms) = sides_here kinds (move kinds w (client_move_of a m)) a ms ∙ ap (λ (y : ClientSide). client_moves (kinds.bind_op a) kinds.bind_conn y ms) (side_here kinds w a a m (same_self a))

sides_there : (kinds : Kinds) (w : World) (a c : ℕ) (ms : List ClientMove) → (c == a) ≡ false → client_side (moves kinds w (map (client_move_of a) ms)) c ≡ client_side w c
sides_there kinds w a c [] e = refl
sides_there kinds w a c (m ∷ ms) e = sides_there kinds (move kinds w (client_move_of a m)) a c ms e ∙ side_there kinds w a c m e

-- what a client's moves don't touch
one_same : (kinds : Kinds) (w : World) (a : ℕ) (m : ClientMove) → ((move kinds w (client_move_of a m)).conns ≡ w.conns) × (((move kinds w (client_move_of a m)).desk ≡ w.desk) × ((move kinds w (client_move_of a m)).reports ≡ w.reports))
one_same kinds w a Asking = (refl, (refl, refl))
one_same kinds w a Refusing = (refl, (refl, refl))
one_same kinds w a Binding = (refl, (refl, refl))
one_same kinds w a (Ending j) = (refl, (refl, refl))
one_same kinds w a Going = (refl, (refl, refl))
one_same kinds w a Leaving = (refl, (refl, refl))
one_same kinds w a (Signaling k v) = (refl, (refl, refl))
one_same kinds w a Choosing = (refl, (refl, refl))
one_same kinds w a (Answering v) = (refl, (refl, refl))

all_same : (kinds : Kinds) (w : World) (a : ℕ) (ms : List ClientMove) → ((moves kinds w (map (client_move_of a) ms)).conns ≡ w.conns) × (((moves kinds w (map (client_move_of a) ms)).desk ≡ w.desk) × ((moves kinds w (map (client_move_of a) ms)).reports ≡ w.reports))
all_same kinds w a [] = (refl, (refl, refl))
all_same kinds w a (m ∷ ms) = let h = all_same kinds (move kinds w (client_move_of a m)) a ms in let o = one_same kinds w a m in (h.0 ∙ o.0, (h.1.0 ∙ o.1.0, h.1.1 ∙ o.1.1))

pub client_touches : ClientTouchesLaw
client_touches kinds w a ms = record {
  here = sides_here kinds w a ms;
  there = λ c e. sides_there kinds w a c ms e;
  conns = (all_same kinds w a ms).0;
  desk = (all_same kinds w a ms).1.0;
  reports = (all_same kinds w a ms).1.1;
}
