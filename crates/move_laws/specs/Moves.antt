-- One move of the world, and any list of them.
use Rattle.std.specs.Prelude.{false, ◌==◌, ◌&&◌, if◌then◌else◌, not, List, [], ◌∷◌, ◌++◌, None}
use Rattle.move_laws.specs.World.{Kinds, World, Client, Conn, Desk, Reply, IsUp, IsRetired, Move, Asks, Refuses, Binds, Ends, Goes, Leaves, Signals, TakesChoice, TakesAnswer, TakesOrder, Answers, Finishes, ComesUp, Retires, Breaks, Decides, Hears, tail}
use Rattle.move_laws.specs.Clients.{may_ask, ask_row, ask_letter, refuse_row, may_bind, bind_row, bind_letter, may_end, end_row, drop_letter, go_row, may_leave, leave_row, leave_letter, may_signal, signal_row, signal_letter, take_choice, forward_letter, return_letter, take_answer}
use Rattle.move_laws.specs.Conns.{take_order, order_answer, order_report, finish_row, finish_letter, finish_report, may_come_up, may_break, up_row, retire_row, break_row, one_report, break_report, stopped}
use Rattle.move_laws.specs.Desks.{decide, choice_letter, hear}

-- Each part and each queue after the move is said of what it was: 'if it is the one that moves, .., else as before'.
abbrev pub move : Kinds → World → Move → World
move kinds w (Asks a) = record w {
  clients = λ c.
      if c == a
      then ask_row (may_ask (kinds.bind_op c (w.clients c).next) (w.clients c)) (kinds.bind_op c (w.clients c).next)
      (w.clients c)
      else w.clients c;
  to_desk = λ c.
      if c == a
      then w.to_desk c ++ ask_letter (may_ask (kinds.bind_op c (w.clients c).next) (w.clients c)) (w.clients c)
      else w.to_desk c;
}
move kinds w (Refuses a) = record w { clients = λ c. if c == a then refuse_row (w.clients c) else w.clients c }
move kinds w (Binds a) = record w {
  clients = λ c.
      if c == a then bind_row (may_bind (kinds.bind_op c (w.clients c).next) (w.clients c)) (w.clients c)
      else w.clients c;
  to_conn = λ c u.
      if c == a
      then w.to_conn c u ++ bind_letter (may_bind (kinds.bind_op c (w.clients c).next) (w.clients c)) (w.clients c) u
      else w.to_conn c u;
}
move kinds w (Ends a j) = record w {
  clients = λ c. if c == a then end_row (may_end (kinds.bind_op c j) j (w.clients c)) j (w.clients c) else w.clients c;
  to_conn = λ c u.
      if c == a then w.to_conn c u ++ drop_letter (may_end (kinds.bind_op c j) j (w.clients c)) j (w.clients c) u
      else w.to_conn c u;
}
move kinds w (Goes a) = record w { clients = λ c. if c == a then go_row (w.clients c) else w.clients c }
move kinds w (Leaves a) = record w {
  clients = λ c. if c == a then leave_row (may_leave (w.clients c)) (w.clients c) else w.clients c;
  to_conn = λ c u.
      if c == a then w.to_conn c u ++ leave_letter (may_leave (w.clients c)) (w.clients c) u
      else w.to_conn c u;
}
move kinds w (Signals a k v) = record w {
  clients = λ c.
      if c == a then signal_row (may_signal (kinds.bind_conn v) k v (w.clients c)) v (w.clients c)
      else w.clients c;
  to_conn = λ c u.
      if c == a then w.to_conn c u ++ signal_letter (may_signal (kinds.bind_conn v) k v (w.clients c)) v (w.clients c) u
      else w.to_conn c u;
}
move kinds w (TakesChoice a) = record w {
  clients = λ c. if c == a then take_choice (kinds.bind_op c) (w.choices c) (w.clients c) else w.clients c;
  to_conn = λ c u. if c == a then w.to_conn c u ++ forward_letter (w.choices c) (w.clients c) u else w.to_conn c u;
  to_desk = λ c. if c == a then w.to_desk c ++ return_letter (w.choices c) (w.clients c) else w.to_desk c;
  choices = λ c. if c == a then tail (w.choices c) else w.choices c;
}
move kinds w (TakesAnswer a v) = record w {
  clients = λ c. if c == a then take_answer (kinds.bind_op c) v (w.to_client c v) (w.clients c) else w.clients c;
  to_client = λ c u. if (c == a) && (u == v) then tail (w.to_client c u) else w.to_client c u;
}
move kinds w (TakesOrder v a) = record w {
  conns = λ u. if u == v then take_order (kinds.bind_conn u) a (w.to_conn a u) (w.conns u) else w.conns u;
  to_conn = λ c u. if (c == a) && (u == v) then tail (w.to_conn c u) else w.to_conn c u;
  to_client = λ c u.
      if (c == a) && (u == v) then w.to_client c u ++ order_answer (w.to_conn c u) (w.conns u)
      else w.to_client c u;
  reports = λ u.
      if u == v then w.reports u ++ order_report (kinds.bind_conn u) a (w.to_conn a u) (w.conns u)
      else w.reports u;
}
move kinds w (Answers v a j) = record w {
  to_client = λ c u.
      if (c == a) && (u == v)
      then w.to_client c u ++ (if (w.conns u).rows c j then Reply j false false ∷ [] else [])
      else w.to_client c u;
}
move kinds w (Finishes v a j failed stay) = record w {
  conns = λ u. if u == v then finish_row ((w.conns u).rows a j) (kinds.bind_conn u) stay a j (w.conns u) else w.conns u;
  to_client = λ c u.
      if (c == a) && (u == v)
      then w.to_client c u ++ finish_letter ((w.conns u).rows c j) failed j (kinds.bind_conn u && stay)
      else w.to_client c u;
  reports = λ u.
      if u == v then w.reports u ++ finish_report ((w.conns u).rows a j) (kinds.bind_conn u) stay a j (w.conns u)
      else w.reports u;
}
move kinds w (ComesUp v) = record w {
  conns = λ u. if u == v then up_row (may_come_up (w.conns u)) (w.conns u) else w.conns u;
  reports = λ u. if u == v then w.reports u ++ one_report (may_come_up (w.conns u)) IsUp else w.reports u;
}
move kinds w (Retires v) = record w {
  conns = λ u. if u == v then retire_row (not (stopped (w.conns u))) (w.conns u) else w.conns u;
  reports = λ u. if u == v then w.reports u ++ one_report (not (stopped (w.conns u))) IsRetired else w.reports u;
}
move kinds w (Breaks v) = record w {
  conns = λ u. if u == v then break_row (may_break (w.conns u)) (kinds.bind_conn u) (w.conns u) else w.conns u;
  reports = λ u.
      if u == v then w.reports u ++ break_report (may_break (w.conns u)) (kinds.bind_conn u) (w.conns u)
      else w.reports u;
}
move kinds w (Decides a ans) = record w {
  desk = decide kinds a (w.to_desk a) ans w.desk;
  to_desk = λ c. if c == a then tail (w.to_desk c) else w.to_desk c;
  choices = λ c. if c == a then w.choices c ++ choice_letter kinds c (w.to_desk c) ans w.desk else w.choices c;
}
move kinds w (Hears v) = record w {
  desk = hear kinds v (w.reports v) w.desk;
  reports = λ u. if u == v then tail (w.reports u) else w.reports u;
}

abbrev pub moves : Kinds → World → List Move → World
moves kinds w [] = w
moves kinds w (m ∷ ms) = moves kinds (move kinds w m) ms

abbrev pub no_client : Client
no_client = record {
  next = 0;
  asked = λ _. false;
  chosen = λ _. false;
  live = λ _. false;
  given = λ _. None;
  closed = λ _ _. false;
  hold = None;
  current = 0;
  busy = false;
  gone = false;
  paused = λ _. false;
}

abbrev pub no_conn : Conn
no_conn = record {
  up = false;
  retired = false;
  down = false;
  taken = λ _ _. false;
  rows = λ _ _. false;
  answered = λ _ _. false;
  dropped = λ _ _. false;
  left = λ _ _. false;
  now = None;
  holder = None;
  freed = λ _ _. false;
  lost = None;
  paused = λ _. false;
}

abbrev pub no_desk : Desk
no_desk = record {
  took = λ _ _. false;
  pending = λ _ _ _. false;
  user = λ _. None;
  up = λ _. false;
  retired = λ _. false;
  down = λ _. false;
}

abbrev pub empty : World
empty = record {
  clients = λ _. no_client;
  conns = λ _. no_conn;
  desk = no_desk;
  to_desk = λ _. [];
  choices = λ _. [];
  to_conn = λ _ _. [];
  to_client = λ _ _. [];
  reports = λ _. [];
}
