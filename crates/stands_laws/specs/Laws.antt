-- Laws of what stands for what, as statements.
use Rattle.std.specs.Prelude.{◌≡◌, ℕ, false, ◌==◌, List, map}
use Rattle.lload_spec.specs.Settings.{Settings}
use Rattle.part_spec.specs.World.{World, empty_world}
use Rattle.part_spec.specs.Merge.{PartMove}
use Rattle.move_laws.specs.World as machine
use Rattle.move_laws.specs.World.{Kinds}
use Rattle.move_laws.specs.Moves.{moves, empty}
use Rattle.stands_laws.specs.Books.{Book, book_of, Keeps}
use Rattle.stands_laws.specs.ClientSides.{ClientMove, client_side, client_moves, client_move_of}
use Rattle.stands_laws.specs.ConnectionSides.{ConnMove, conn_side, conn_moves, conn_move_of}
use Rattle.stands_laws.specs.DeskSides.{DeskMove, desk_side, desk_moves, desk_move_of}
use Rattle.stands_laws.specs.WorldStands.{WorldStands}

-- each run has a book from the beginning
abbrev pub BookLaw : Type 0
BookLaw = (s : Settings) (w : World) (ms : List PartMove) → Keeps s (book_of s w ms) w ms

-- the empty machine stands for the empty world
abbrev pub EmptyLaw : Type 0
EmptyLaw = (s : Settings) (b : Book) → WorldStands s b empty_world empty

-- The moves of a part are moves on the part with its queues, and change no other's.
pub record ClientTouches (kinds : Kinds) (w : machine.World) (a : ℕ) (ms : List ClientMove) : Type 0 where
  pub here : client_side (moves kinds w (map (client_move_of a) ms)) a ≡
      client_moves (kinds.bind_op a) kinds.bind_conn (client_side w a) ms
  pub there : (c : ℕ) → (c == a) ≡ false
      → client_side (moves kinds w (map (client_move_of a) ms)) c ≡ client_side w c
  pub conns : (moves kinds w (map (client_move_of a) ms)).conns ≡ w.conns
  pub desk : (moves kinds w (map (client_move_of a) ms)).desk ≡ w.desk
  pub reports : (moves kinds w (map (client_move_of a) ms)).reports ≡ w.reports

abbrev pub ClientTouchesLaw : Type 0
ClientTouchesLaw = (kinds : Kinds) (w : machine.World) (a : ℕ) (ms : List ClientMove) → ClientTouches kinds w a ms

pub record ConnTouches (kinds : Kinds) (w : machine.World) (v : ℕ) (ms : List ConnMove) : Type 0 where
  pub here : conn_side (moves kinds w (map (conn_move_of v) ms)) v ≡
      conn_moves (kinds.bind_conn v) (conn_side w v) ms
  pub there : (u : ℕ) → (u == v) ≡ false → conn_side (moves kinds w (map (conn_move_of v) ms)) u ≡ conn_side w u
  pub clients : (moves kinds w (map (conn_move_of v) ms)).clients ≡ w.clients
  pub desk : (moves kinds w (map (conn_move_of v) ms)).desk ≡ w.desk
  pub asks : (moves kinds w (map (conn_move_of v) ms)).to_desk ≡ w.to_desk
  pub choices : (moves kinds w (map (conn_move_of v) ms)).choices ≡ w.choices

abbrev pub ConnTouchesLaw : Type 0
ConnTouchesLaw = (kinds : Kinds) (w : machine.World) (v : ℕ) (ms : List ConnMove) → ConnTouches kinds w v ms

pub record DeskTouches (kinds : Kinds) (w : machine.World) (ms : List DeskMove) : Type 0 where
  pub here : desk_side (moves kinds w (map desk_move_of ms)) ≡ desk_moves kinds (desk_side w) ms
  pub clients : (moves kinds w (map desk_move_of ms)).clients ≡ w.clients
  pub conns : (moves kinds w (map desk_move_of ms)).conns ≡ w.conns
  pub orders : (moves kinds w (map desk_move_of ms)).to_conn ≡ w.to_conn
  pub answers : (moves kinds w (map desk_move_of ms)).to_client ≡ w.to_client

abbrev pub DeskTouchesLaw : Type 0
DeskTouchesLaw = (kinds : Kinds) (w : machine.World) (ms : List DeskMove) → DeskTouches kinds w ms
