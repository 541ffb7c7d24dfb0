-- A move of a connection touches the connection and its queues alone.
use Rattle.std.proofs.Common.{◌≡◌, ℕ, Bool, true, false, ◌==◌, ◌&&◌, not, if◌then◌else◌, List, [], ◌∷◌, ◌++◌, refl, ap, ◌∙◌}
use Rattle.std.specs.Prelude.{map}
use Rattle.move_laws.specs.World.{Kinds, World, Reply, IsUp, IsRetired, tail}
use Rattle.move_laws.specs.Conns.{take_order, order_answer, order_report, finish_row, finish_letter, finish_report, may_come_up, may_break, up_row, retire_row, break_row, one_report, break_report, stopped}
use Rattle.move_laws.specs.Moves.{move, moves}
use Rattle.stands_laws.specs.ConnectionSides.{ConnSide, conn_side, ConnMove, Taking, Replying, Finishing, Rising, Retiring, Breaking, conn_move_of, conn_move, conn_moves}
use Rattle.stands_laws.specs.Laws.{ConnTouchesLaw}
use Rattle.stands_laws.proofs.Tests.{same_self}

and_there : (t p : Bool) → p ≡ true → (t && p) ≡ t
and_there true p e = e
and_there false p e = refl

and_elsewhere : (t p : Bool) → p ≡ false → (t && p) ≡ false
and_elsewhere true p e = e
and_elsewhere false p e = refl

conn_here : (kinds : Kinds) (w : World) (v u : ℕ) (m : ConnMove) → (u == v) ≡ true → conn_side (move kinds w (conn_move_of v m)) u ≡ conn_move (kinds.bind_conn u) (conn_side w u) m
conn_here kinds w v u (Taking a) e = λ i. record {
  row = if e i then take_order (kinds.bind_conn u) a (w.to_conn a u) (w.conns u) else w.conns u;
  orders = λ c. if and_there (c == a) (u == v) e i then tail (w.to_conn c u) else w.to_conn c u;
  answers = λ c. if and_there (c == a) (u == v) e i then w.to_client c u ++ order_answer (w.to_conn c u) (w.conns u) else w.to_client c u;
  reports = if e i then w.reports u ++ order_report (kinds.bind_conn u) a (w.to_conn a u) (w.conns u) else w.reports u;
}
conn_here kinds w v u (Replying a j) e = λ i. record {
  row = w.conns u;
  orders = λ c. w.to_conn c u;
  answers = λ c. if and_there (c == a) (u == v) e i then w.to_client c u ++ (if (w.conns u).rows c j then Reply j false false ∷ [] else []) else w.to_client c u;
  reports = w.reports u;
}
conn_here kinds w v u (Finishing a j failed stay) e = λ i. record {
  row = if e i then finish_row ((w.conns u).rows a j) (kinds.bind_conn u) stay a j (w.conns u) else w.conns u;
  orders = λ c. w.to_conn c u;
  answers = λ c. if and_there (c == a) (u == v) e i then w.to_client c u ++ finish_letter ((w.conns u).rows c j) failed j (kinds.bind_conn u && stay) else w.to_client c u;
  reports = if e i then w.reports u ++ finish_report ((w.conns u).rows a j) (kinds.bind_conn u) stay a j (w.conns u) else w.reports u;
}
conn_here kinds w v u Rising e = λ i. record {
  row = if e i then up_row (may_come_up (w.conns u)) (w.conns u) else w.conns u;
  orders = λ c. w.to_conn c u;
  answers = λ c. w.to_client c u;
  reports = if e i then w.reports u ++ one_report (may_come_up (w.conns u)) IsUp else w.reports u;
}
conn_here kinds w v u Retiring e = λ i. record {
  row = if e i then retire_row (not (stopped (w.conns u))) (w.conns u) else w.conns u;
  orders = λ c. w.to_conn c u;
  answers = λ c. w.to_client c u;
  reports = if e i then w.reports u ++ one_report (not (stopped (w.conns u))) IsRetired else w.reports u;
}
conn_here kinds w v u Breaking e = λ i. record {
  row = if e i then break_row (may_break (w.conns u)) (kinds.bind_conn u) (w.conns u) else w.conns u;
  orders = λ c. w.to_conn c u;
  answers = λ c. w.to_client c u;
  reports = if e i then w.reports u ++ break_report (may_break (w.conns u)) (kinds.bind_conn u) (w.conns u) else w.reports u;
}

conn_there : (kinds : Kinds) (w : World) (v u : ℕ) (m : ConnMove) → (u == v) ≡ false → conn_side (move kinds w (conn_move_of v m)) u ≡ conn_side w u
conn_there kinds w v u (Taking a) e = λ i. record {
  row = if e i then take_order (kinds.bind_conn u) a (w.to_conn a u) (w.conns u) else w.conns u;
  orders = λ c. if and_elsewhere (c == a) (u == v) e i then tail (w.to_conn c u) else w.to_conn c u;
  answers = λ c. if and_elsewhere (c == a) (u == v) e i then w.to_client c u ++ order_answer (w.to_conn c u) (w.conns u) else w.to_client c u;
  reports = if e i then w.reports u ++ order_report (kinds.bind_conn u) a (w.to_conn a u) (w.conns u) else w.reports u;
}
conn_there kinds w v u (Replying a j) e = λ i. record {
  row = w.conns u;
  orders = λ c. w.to_conn c u;
  answers = λ c. if and_elsewhere (c == a) (u == v) e i then w.to_client c u ++ (if (w.conns u).rows c j then Reply j false false ∷ [] else []) else w.to_client c u;
  reports = w.reports u;
}
conn_there kinds w v u (Finishing a j failed stay) e = λ i. record {
  row = if e i then finish_row ((w.conns u).rows a j) (kinds.bind_conn u) stay a j (w.conns u) else w.conns u;
  orders = λ c. w.to_conn c u;
  answers = λ c. if and_elsewhere (c == a) (u == v) e i then w.to_client c u ++ finish_letter ((w.conns u).rows c j) failed j (kinds.bind_conn u && stay) else w.to_client c u;
  reports = if e i then w.reports u ++ finish_report ((w.conns u).rows a j) (kinds.bind_conn u) stay a j (w.conns u) else w.reports u;
}
conn_there kinds w v u Rising e = λ i. record {
  row = if e i then up_row (may_come_up (w.conns u)) (w.conns u) else w.conns u;
  orders = λ c. w.to_conn c u;
  answers = λ c. w.to_client c u;
  reports = if e i then w.reports u ++ one_report (may_come_up (w.conns u)) IsUp else w.reports u;
}
conn_there kinds w v u Retiring e = λ i. record {
  row = if e i then retire_row (not (stopped (w.conns u))) (w.conns u) else w.conns u;
  orders = λ c. w.to_conn c u;
  answers = λ c. w.to_client c u;
  reports = if e i then w.reports u ++ one_report (not (stopped (w.conns u))) IsRetired else w.reports u;
}
conn_there kinds w v u Breaking e = λ i. record {
  row = if e i then break_row (may_break (w.conns u)) (kinds.bind_conn u) (w.conns u) else w.conns u;
  orders = λ c. w.to_conn c u;
  answers = λ c. w.to_client c u;
  reports = if e i then w.reports u ++ break_report (may_break (w.conns u)) (kinds.bind_conn u) (w.conns u) else w.reports u;
}

conns_here : (kinds : Kinds) (w : World) (v : ℕ) (ms : List ConnMove) → conn_side (moves kinds w (map (conn_move_of v) ms)) v ≡ conn_moves (kinds.bind_conn v) (conn_side w v) ms
conns_here kinds w v [] = refl
conns_here kinds w v (m ∷ ms) = conns_here kinds (move kinds w (conn_move_of v m)) v ms ∙ ap (λ (y : ConnSide). conn_moves (kinds.bind_conn v) y ms) (conn_here kinds w v v m (same_self v))

conns_there : (kinds : Kinds) (w : World) (v u : ℕ) (ms : List ConnMove) → (u == v) ≡ false → conn_side (moves kinds w (map (conn_move_of v) ms)) u ≡ conn_side w u
conns_there kinds w v u [] e = refl
conns_there kinds w v u (m ∷ ms) e = conns_there kinds (move kinds w (conn_move_of v m)) v u ms e ∙ conn_there kinds w v u m e

-- what a connection's moves don't touch
one_same : (kinds : Kinds) (w : World) (u : ℕ) (m : ConnMove) → ((move kinds w (conn_move_of u m)).clients ≡ w.clients) × (((move kinds w (conn_move_of u m)).desk ≡ w.desk) × (((move kinds w (conn_move_of u m)).to_desk ≡ w.to_desk) × ((move kinds w (conn_move_of u m)).choices ≡ w.choices)))
one_same kinds w u (Taking a) = (refl, (refl, (refl, refl)))
one_same kinds w u (Replying a j) = (refl, (refl, (refl, refl)))
one_same kinds w u (Finishing a j failed stay) = (refl, (refl, (refl, refl)))
one_same kinds w u Rising = (refl, (refl, (refl, refl)))
one_same kinds w u Retiring = (refl, (refl, (refl, refl)))
one_same kinds w u Breaking = (refl, (refl, (refl, refl)))

all_same : (kinds : Kinds) (w : World) (u : ℕ) (ms : List ConnMove) → ((moves kinds w (map (conn_move_of u) ms)).clients ≡ w.clients) × (((moves kinds w (map (conn_move_of u) ms)).desk ≡ w.desk) × (((moves kinds w (map (conn_move_of u) ms)).to_desk ≡ w.to_desk) × ((moves kinds w (map (conn_move_of u) ms)).choices ≡ w.choices)))
all_same kinds w u [] = (refl, (refl, (refl, refl)))
all_same kinds w u (m ∷ ms) = let h = all_same kinds (move kinds w (conn_move_of u m)) u ms in let o = one_same kinds w u m in (h.0 ∙ o.0, (h.1.0 ∙ o.1.0, (h.1.1.0 ∙ o.1.1.0, h.1.1.1 ∙ o.1.1.1)))

pub connection_touches : ConnTouchesLaw
connection_touches kinds w v ms = record {
  here = conns_here kinds w v ms;
  there = λ u e. conns_there kinds w v u ms e;
  clients = (all_same kinds w v ms).0;
  desk = (all_same kinds w v ms).1.0;
  asks = (all_same kinds w v ms).1.1.0;
  choices = (all_same kinds w v ms).1.1.1;
}
