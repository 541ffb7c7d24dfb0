-- The parts of the balancer, and the letters that wait between them.
use Rattle.std.specs.Prelude.{ℕ, Bool, true, false, ◌==◌, ◌&&◌, if◌then◌else◌, List, [], ◌∷◌, Option, Some, None}

-- an operation: the k-th of its client
pub record Op : Type 0 where
  pub client : ℕ
  pub k : ℕ

-- a bind connection that a client holds, and its own operation for which it was chosen
pub record Hold : Type 0 where
  pub conn : ℕ
  pub holder : ℕ

-- which operations are Binds, and which connections serve them
pub record Kinds : Type 0 where
  pub bind_op : ℕ → ℕ → Bool
  pub bind_conn : ℕ → Bool

-- from a client to the desk
pub data ToDesk : Type 0 where
  Ask : ℕ → ToDesk
  Returned : ℕ → ℕ → ToDesk

-- from the desk to a client: the operation, and the connection where there is one
pub data ToChooser : Type 0 where
  Choice : ℕ → Option ℕ → ToChooser

-- from a client to a connection: the operation (and its holder)
pub data ToConn : Type 0 where
  Forward : ℕ → ℕ → ToConn
  Drop : ℕ → ToConn
  Leave : ℕ → ToConn
  -- to be read no longer, or again
  Signal : Bool → ToConn

-- from a connection to a client: the operation, whether this is its last, and whether its holder stays
pub data ToClient : Type 0 where
  Reply : ℕ → Bool → Bool → ToClient
  Failed : ℕ → ToClient

-- from a connection to the desk: client and operation that ended
pub data Report : Type 0 where
  Ended : ℕ → ℕ → Report
  IsUp : Report
  IsRetired : Report
  IsDown : Report

-- a client, by its operations
pub record Client : Type 0 where
  pub next : ℕ
  pub asked : ℕ → Bool
  pub chosen : ℕ → Bool
  pub live : ℕ → Bool
  -- the connection that its Forward went to
  pub given : ℕ → Option ℕ
  -- whether its last Reply or a Failed of it was taken from that connection
  pub closed : ℕ → ℕ → Bool
  pub hold : Option Hold
  -- the last Bind, and whether it is live
  pub current : ℕ
  pub busy : Bool
  pub gone : Bool
  -- the connections that it pauses
  pub paused : ℕ → Bool

-- a connection, by client and operation
pub record Conn : Type 0 where
  pub up : Bool
  pub retired : Bool
  pub down : Bool
  pub taken : ℕ → ℕ → Bool
  pub rows : ℕ → ℕ → Bool
  -- whether its last Reply or a Failed of it was given
  pub answered : ℕ → ℕ → Bool
  pub dropped : ℕ → ℕ → Bool
  pub left : ℕ → ℕ → Bool
  -- of a bind connection: the live Bind, the holder, and the holders whose Ended was given
  pub now : Option Op
  pub holder : Option Op
  pub freed : ℕ → ℕ → Bool
  -- the holder that it had when it went down
  pub lost : Option Op
  -- the clients for which it pauses
  pub paused : ℕ → Bool

-- the desk, by client, operation and connection
pub record Desk : Type 0 where
  pub took : ℕ → ℕ → Bool
  pub pending : ℕ → ℕ → ℕ → Bool
  -- who is pending on a bind connection
  pub user : ℕ → Option Op
  pub up : ℕ → Bool
  pub retired : ℕ → Bool
  pub down : ℕ → Bool

-- all parts, and what waits between them, the oldest first
pub record World : Type 0 where
  pub clients : ℕ → Client
  pub conns : ℕ → Conn
  pub desk : Desk
  pub to_desk : ℕ → List ToDesk
  pub choices : ℕ → List ToChooser
  pub to_conn : ℕ → ℕ → List ToConn
  pub to_client : ℕ → ℕ → List ToClient
  pub reports : ℕ → List Report

pub data Move : Type 0 where
  -- a client's operation that has no connection yet
  Asks : ℕ → Move
  -- a client's operation that is refused at once
  Refuses : ℕ → Move
  -- a Bind of a client that is pinned
  Binds : ℕ → Move
  -- a client ends an operation that isn't a Bind
  Ends : ℕ → ℕ → Move
  Goes : ℕ → Move
  Leaves : ℕ → Move
  -- a client pauses a connection that it gave this operation, or lets a paused one go on
  Signals : ℕ → ℕ → ℕ → Move
  TakesChoice : ℕ → Move
  -- a client takes from a connection
  TakesAnswer : ℕ → ℕ → Move
  -- a connection takes from a client
  TakesOrder : ℕ → ℕ → Move
  -- a connection has an answer that isn't the last, of a client's operation
  Answers : ℕ → ℕ → ℕ → Move
  -- it is done with an operation: by Failed or a last Reply, and whether the holder stays
  Finishes : ℕ → ℕ → ℕ → Bool → Bool → Move
  ComesUp : ℕ → Move
  Retires : ℕ → Move
  Breaks : ℕ → Move
  -- the desk takes from a client, and what it would choose
  Decides : ℕ → Option ℕ → Move
  -- the desk takes from a connection
  Hears : ℕ → Move

abbrev pub at : Option ℕ → ℕ → Bool
at None u = false
at (Some v) u = u == v

abbrev pub some_at : Option ℕ → Bool
some_at None = false
some_at (Some v) = true

abbrev pub is : Option Op → ℕ → ℕ → Bool
is None c k = false
is (Some o) c k = (c == o.client) && (k == o.k)

abbrev pub vacant : Option Op → Bool
vacant None = true
vacant (Some o) = false

-- the holder of a hold on connection u is h
abbrev pub holds : Option Hold → ℕ → ℕ → Bool
holds None u h = false
holds (Some x) u h = (u == x.conn) && (h == x.holder)

abbrev pub holder_of : Option Hold → ℕ
holder_of None = 0
holder_of (Some x) = x.holder

abbrev pub conn_of : Option Hold → Option ℕ
conn_of None = None
conn_of (Some x) = Some x.conn

abbrev pub held : Option Hold → Bool
held None = false
held (Some x) = true

abbrev pub put : (ℕ → Bool) → ℕ → Bool → ℕ → Bool
put f j b k = if k == j then b else f k

abbrev pub put_at : (ℕ → Option ℕ) → ℕ → Option ℕ → ℕ → Option ℕ
put_at f j v k = if k == j then v else f k

abbrev pub put2 : (ℕ → ℕ → Bool) → ℕ → ℕ → Bool → ℕ → ℕ → Bool
put2 f i j b c k = if (c == i) && (k == j) then b else f c k

abbrev pub tail : {A : Type 0} → List A → List A
tail [] = []
tail (x ∷ xs) = xs
