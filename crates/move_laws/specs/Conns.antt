-- What a connection does.
use Rattle.std.specs.Prelude.{ℕ, Bool, true, false, ◌&&◌, ◌||◌, if◌then◌else◌, not, List, [], ◌∷◌, ◌++◌, Option, Some, None}
use Rattle.move_laws.specs.World.{Op, ToConn, Forward, Drop, Leave, Signal, ToClient, Reply, Failed, Report, Ended, IsDown, Conn, is, vacant, put, put2}

abbrev pub stopped : Conn → Bool
stopped v = v.retired || v.down

-- a Forward is sent, or missed where the connection has stopped
abbrev pub forward_row : Bool → Bool → ℕ → ℕ → ℕ → Conn → Conn
forward_row true bind c k h v = record v {
  taken = put2 v.taken c k true;
  answered = put2 v.answered c k true;
  freed = if bind then put2 v.freed c h true else v.freed;
  holder = if is v.holder c h then None else v.holder;
}
forward_row false bind c k h v = record v {
  taken = put2 v.taken c k true;
  rows = put2 v.rows c k true;
  now = if bind then Some (record { client = c; k = k }) else v.now;
  holder = if bind then Some (record { client = c; k = h }) else v.holder;
}

-- a Drop ends its row on a regular connection
abbrev pub drop_row : Bool → ℕ → ℕ → Conn → Conn
drop_row true c k v = record v { dropped = put2 v.dropped c k true }
drop_row false c k v = record v { rows = put2 v.rows c k false; dropped = put2 v.dropped c k true }

abbrev pub drop_report : Bool → ℕ → ℕ → Conn → List Report
drop_report true c k v = []
drop_report false c k v = if v.rows c k then Ended c k ∷ [] else []

-- an order of client c is taken
abbrev pub take_order : Bool → ℕ → List ToConn → Conn → Conn
take_order bind c [] v = v
take_order bind c (Forward k h ∷ ls) v = forward_row (stopped v) bind c k h v
take_order bind c (Drop k ∷ ls) v = drop_row bind c k v
take_order bind c (Leave h ∷ ls) v = record v { left = put2 v.left c h true }
take_order bind c (Signal b ∷ ls) v = record v { paused = put v.paused c b }

abbrev pub order_answer : List ToConn → Conn → List ToClient
order_answer [] v = []
order_answer (Forward k h ∷ ls) v = if stopped v then Failed k ∷ [] else []
order_answer (Drop k ∷ ls) v = []
order_answer (Leave h ∷ ls) v = []
order_answer (Signal b ∷ ls) v = []

-- Ended of the operation, or of its holder where that wasn't given before
abbrev pub missed_report : Bool → ℕ → ℕ → ℕ → Conn → List Report
missed_report true c k h v = if v.freed c h then [] else Ended c h ∷ []
missed_report false c k h v = Ended c k ∷ []

abbrev pub order_report : Bool → ℕ → List ToConn → Conn → List Report
order_report bind c [] v = []
order_report bind c (Forward k h ∷ ls) v = if stopped v then missed_report bind c k h v else []
order_report bind c (Drop k ∷ ls) v = drop_report bind c k v
order_report bind c (Leave h ∷ ls) v = []
order_report bind c (Signal b ∷ ls) v = []

-- the holders that were freed, with this one
abbrev pub free : Option Op → (ℕ → ℕ → Bool) → ℕ → ℕ → Bool
free None freed = freed
free (Some o) freed = put2 freed o.client o.k true

abbrev pub holder_report : Option Op → List Report
holder_report None = []
holder_report (Some o) = Ended o.client o.k ∷ []

-- The connection is done with a live operation.
abbrev pub finish_row : Bool → Bool → Bool → ℕ → ℕ → Conn → Conn
finish_row false bind stay c k v = v
finish_row true false stay c k v = record v { rows = put2 v.rows c k false; answered = put2 v.answered c k true }
finish_row true true true c k v =
    record v { rows = put2 v.rows c k false; answered = put2 v.answered c k true; now = None }
finish_row true true false c k v = record v {
  rows = put2 v.rows c k false;
  answered = put2 v.answered c k true;
  now = None;
  holder = None;
  freed = free v.holder v.freed;
}

abbrev pub finish_letter : Bool → Bool → ℕ → Bool → List ToClient
finish_letter false failed k stay = []
finish_letter true true k stay = Failed k ∷ []
finish_letter true false k stay = Reply k true stay ∷ []

abbrev pub finish_report : Bool → Bool → Bool → ℕ → ℕ → Conn → List Report
finish_report false bind stay c k v = []
finish_report true false stay c k v = Ended c k ∷ []
finish_report true true true c k v = []
finish_report true true false c k v = holder_report v.holder

-- It comes up, retires, goes down. A live Bind failed before it goes down.
abbrev pub may_come_up : Conn → Bool
may_come_up v = not v.up && not (stopped v)

abbrev pub may_break : Conn → Bool
may_break v = not v.down && vacant v.now

abbrev pub up_row : Bool → Conn → Conn
up_row false v = v
up_row true v = record v { up = true }

abbrev pub retire_row : Bool → Conn → Conn
retire_row false v = v
retire_row true v = record v { retired = true }

abbrev pub break_row : Bool → Bool → Conn → Conn
break_row false bind v = v
break_row true false v = record v { down = true }
break_row true true v = record v { down = true; holder = None; freed = free v.holder v.freed; lost = v.holder }

abbrev pub one_report : Bool → Report → List Report
one_report false r = []
one_report true r = r ∷ []

abbrev pub break_report : Bool → Bool → Conn → List Report
break_report false bind v = []
break_report true false v = IsDown ∷ []
break_report true true v = holder_report v.holder ++ IsDown ∷ []
