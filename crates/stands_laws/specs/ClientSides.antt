-- A client of the machine with the queues that touch it, and its moves on these alone.
use Rattle.std.specs.Prelude.{ℕ, zero, suc, Bool, ◌==◌, if◌then◌else◌, List, [], ◌∷◌, ◌++◌}
use Rattle.move_laws.specs.World.{World, Client, ToDesk, ToChooser, ToConn, ToClient, Move, Asks, Refuses, Binds, Ends, Goes, Leaves, Signals, TakesChoice, TakesAnswer, tail}
use Rattle.move_laws.specs.Clients.{may_ask, ask_row, ask_letter, refuse_row, may_bind, bind_row, bind_letter, may_end, end_row, drop_letter, go_row, may_leave, leave_row, leave_letter, may_signal, signal_row, signal_letter, take_choice, forward_letter, return_letter, take_answer}

pub record ClientSide : Type 0 where
  pub row : Client
  pub asks : List ToDesk
  pub orders : ℕ → List ToConn
  pub choices : List ToChooser
  pub answers : ℕ → List ToClient

abbrev pub client_side : World → ℕ → ClientSide
client_side w c =
    record {
      row = w.clients c;
      asks = w.to_desk c;
      orders = λ u. w.to_conn c u;
      choices = w.choices c;
      answers = λ u. w.to_client c u;
    }

pub data ClientMove : Type 0 where
  Asking : ClientMove
  Refusing : ClientMove
  Binding : ClientMove
  Ending : ℕ → ClientMove
  Going : ClientMove
  Leaving : ClientMove
  Signaling : ℕ → ℕ → ClientMove
  Choosing : ClientMove
  Answering : ℕ → ClientMove

abbrev pub client_move_of : ℕ → ClientMove → Move
client_move_of a Asking = Asks a
client_move_of a Refusing = Refuses a
client_move_of a Binding = Binds a
client_move_of a (Ending j) = Ends a j
client_move_of a Going = Goes a
client_move_of a Leaving = Leaves a
client_move_of a (Signaling k v) = Signals a k v
client_move_of a Choosing = TakesChoice a
client_move_of a (Answering v) = TakesAnswer a v

-- by which operations of the client are Binds, and which connections serve them
abbrev pub client_move : (ℕ → Bool) → (ℕ → Bool) → ClientSide → ClientMove → ClientSide
client_move bind serves y Asking = record y {
  row = ask_row (may_ask (bind y.row.next) y.row) (bind y.row.next) y.row;
  asks = y.asks ++ ask_letter (may_ask (bind y.row.next) y.row) y.row;
}
client_move bind serves y Refusing = record y { row = refuse_row y.row }
client_move bind serves y Binding = record y {
  row = bind_row (may_bind (bind y.row.next) y.row) y.row;
  orders = λ u. y.orders u ++ bind_letter (may_bind (bind y.row.next) y.row) y.row u;
}
client_move bind serves y (Ending j) = record y {
  row = end_row (may_end (bind j) j y.row) j y.row;
  orders = λ u. y.orders u ++ drop_letter (may_end (bind j) j y.row) j y.row u;
}
client_move bind serves y Going = record y { row = go_row y.row }
client_move bind serves y Leaving = record y {
  row = leave_row (may_leave y.row) y.row;
  orders = λ u. y.orders u ++ leave_letter (may_leave y.row) y.row u;
}
client_move bind serves y (Signaling k v) = record y {
  row = signal_row (may_signal (serves v) k v y.row) v y.row;
  orders = λ u. y.orders u ++ signal_letter (may_signal (serves v) k v y.row) v y.row u;
}
client_move bind serves y Choosing = record y {
  row = take_choice bind y.choices y.row;
  orders = λ u. y.orders u ++ forward_letter y.choices y.row u;
  asks = y.asks ++ return_letter y.choices y.row;
  choices = tail y.choices;
}
client_move bind serves y (Answering v) = record y {
  row = take_answer bind v (y.answers v) y.row;
  answers = λ u. if u == v then tail (y.answers u) else y.answers u;
}

abbrev pub client_moves : (ℕ → Bool) → (ℕ → Bool) → ClientSide → List ClientMove → ClientSide
client_moves bind serves y [] = y
client_moves bind serves y (m ∷ ms) = client_moves bind serves (client_move bind serves y m) ms

-- the first n operations are ended, each that is live and isn't a Bind
abbrev pub endings : ℕ → List ClientMove
endings zero = []
endings (suc n) = endings n ++ Ending n ∷ []
