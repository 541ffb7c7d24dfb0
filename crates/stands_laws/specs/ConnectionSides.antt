-- A connection of the machine with the queues that touch it, and its moves on these alone.
use Rattle.std.specs.Prelude.{ℕ, Bool, false, ◌==◌, ◌&&◌, not, if◌then◌else◌, List, [], ◌∷◌, ◌++◌}
use Rattle.move_laws.specs.World.{World, Conn, ToConn, ToClient, Report, Reply, IsUp, IsRetired, Move, TakesOrder, Answers, Finishes, ComesUp, Retires, Breaks, tail}
use Rattle.move_laws.specs.Conns.{take_order, order_answer, order_report, finish_row, finish_letter, finish_report, may_come_up, may_break, up_row, retire_row, break_row, one_report, break_report, stopped}

pub record ConnSide : Type 0 where
  pub row : Conn
  pub orders : ℕ → List ToConn
  pub answers : ℕ → List ToClient
  pub reports : List Report

abbrev pub conn_side : World → ℕ → ConnSide
conn_side w u =
    record {
      row = w.conns u;
      orders = λ c. w.to_conn c u;
      answers = λ c. w.to_client c u;
      reports = w.reports u;
    }

pub data ConnMove : Type 0 where
  Taking : ℕ → ConnMove
  Replying : ℕ → ℕ → ConnMove
  Finishing : ℕ → ℕ → Bool → Bool → ConnMove
  Rising : ConnMove
  Retiring : ConnMove
  Breaking : ConnMove

abbrev pub conn_move_of : ℕ → ConnMove → Move
conn_move_of u (Taking a) = TakesOrder u a
conn_move_of u (Replying a j) = Answers u a j
conn_move_of u (Finishing a j failed stay) = Finishes u a j failed stay
conn_move_of u Rising = ComesUp u
conn_move_of u Retiring = Retires u
conn_move_of u Breaking = Breaks u

-- by whether the connection serves Binds
abbrev pub conn_move : Bool → ConnSide → ConnMove → ConnSide
conn_move bind y (Taking a) = record {
  row = take_order bind a (y.orders a) y.row;
  orders = λ c. if c == a then tail (y.orders c) else y.orders c;
  answers = λ c. if c == a then y.answers c ++ order_answer (y.orders c) y.row else y.answers c;
  reports = y.reports ++ order_report bind a (y.orders a) y.row;
}
conn_move bind y (Replying a j) = record y {
  answers = λ c.
      if c == a then y.answers c ++ (if y.row.rows c j then Reply j false false ∷ [] else []) else y.answers c;
}
conn_move bind y (Finishing a j failed stay) = record y {
  row = finish_row (y.row.rows a j) bind stay a j y.row;
  answers = λ c.
      if c == a then y.answers c ++ finish_letter (y.row.rows c j) failed j (bind && stay) else y.answers c;
  reports = y.reports ++ finish_report (y.row.rows a j) bind stay a j y.row;
}
conn_move bind y Rising = record y {
  row = up_row (may_come_up y.row) y.row;
  reports = y.reports ++ one_report (may_come_up y.row) IsUp;
}
conn_move bind y Retiring = record y {
  row = retire_row (not (stopped y.row)) y.row;
  reports = y.reports ++ one_report (not (stopped y.row)) IsRetired;
}
conn_move bind y Breaking = record y {
  row = break_row (may_break y.row) bind y.row;
  reports = y.reports ++ break_report (may_break y.row) bind y.row;
}

abbrev pub conn_moves : Bool → ConnSide → List ConnMove → ConnSide
conn_moves bind y [] = y
conn_moves bind y (m ∷ ms) = conn_moves bind (conn_move bind y m) ms
