-- A move of the desk touches the desk and its queues alone.
use Rattle.std.proofs.Common.{◌≡◌, List, [], ◌∷◌, refl, ap, ◌∙◌}
use Rattle.std.specs.Prelude.{map}
use Rattle.move_laws.specs.World.{Kinds, World}
use Rattle.move_laws.specs.Moves.{move, moves}
use Rattle.stands_laws.specs.DeskSides.{DeskSide, desk_side, DeskMove, Deciding, Hearing, desk_move_of, desk_move, desk_moves}
use Rattle.stands_laws.specs.Laws.{DeskTouchesLaw}

side_here : (kinds : Kinds) (w : World) (m : DeskMove) → desk_side (move kinds w (desk_move_of m)) ≡ desk_move kinds (desk_side w) m
side_here kinds w (Deciding a ans) = refl
side_here kinds w (Hearing v) = refl

sides_here : (kinds : Kinds) (w : World) (ms : List DeskMove) → desk_side (moves kinds w (map desk_move_of ms)) ≡ desk_moves kinds (desk_side w) ms
sides_here kinds w [] = refl
sides_here kinds w (m ∷ ms) = sides_here kinds (move kinds w (desk_move_of m)) ms ∙ ap (λ (y : DeskSide). desk_moves kinds y ms) (side_here kinds w m)

-- what the desk's moves don't touch
one_same : (kinds : Kinds) (w : World) (m : DeskMove) → ((move kinds w (desk_move_of m)).clients ≡ w.clients) × (((move kinds w (desk_move_of m)).conns ≡ w.conns) × (((move kinds w (desk_move_of m)).to_conn ≡ w.to_conn) × ((move kinds w (desk_move_of m)).to_client ≡ w.to_client)))
one_same kinds w (Deciding a ans) = (refl, (refl, (refl, refl)))
one_same kinds w (Hearing v) = (refl, (refl, (refl, refl)))

all_same : (kinds : Kinds) (w : World) (ms : List DeskMove) → ((moves kinds w (map desk_move_of ms)).clients ≡ w.clients) × (((moves kinds w (map desk_move_of ms)).conns ≡ w.conns) × (((moves kinds w (map desk_move_of ms)).to_conn ≡ w.to_conn) × ((moves kinds w (map desk_move_of ms)).to_client ≡ w.to_client)))
all_same kinds w [] = (refl, (refl, (refl, refl)))
all_same kinds w (m ∷ ms) = let h = all_same kinds (move kinds w (desk_move_of m)) ms in let o = one_same kinds w m in (h.0 ∙ o.0, (h.1.0 ∙ o.1.0, (h.1.1.0 ∙ o.1.1.0, h.1.1.1 ∙ o.1.1.1)))

pub desk_touches : DeskTouchesLaw
desk_touches kinds w ms = record {
  here = sides_here kinds w ms;
  clients = (all_same kinds w ms).0;
  conns = (all_same kinds w ms).1.0;
  orders = (all_same kinds w ms).1.1.0;
  answers = (all_same kinds w ms).1.1.1;
}
