-- What a seat knows, and how its steps change that.
use Rattle.std.specs.Prelude.{◌≡◌, ℕ, ◌+◌, true, false, List, [], ◌∷◌, ◌++◌, length, nat_lt, if◌then◌else◌}
use Rattle.counted_lock.specs.declared.known.Mark.{Mark}
use Rattle.counted_lock.specs.declared.known.View.{View}
use Rattle.counted_lock.specs.declared.known.Stage.{Stage}
use Rattle.counted_lock.specs.declared.known.Stage.TheVariants.{Idle, Waiting, Holding}
use Rattle.counted_lock.specs.Turns.{mark, joined_seat}

-- how many tickets a seat has
abbrev pub tickets : Stage → ℕ
tickets Idle = 0
tickets (Waiting n) = 1
tickets (Holding n) = 1

-- the seat has this ticket
abbrev pub HasTicket : ℕ → Stage → Type 0
HasTicket n Idle = ⊥
HasTicket n (Waiting m) = m ≡ n
HasTicket n (Holding m) = m ≡ n

module _ {Q : Type 0} where
  -- the host at the start
  abbrev pub first_view : ℕ → View Q
  first_view tag = record {
    host = true;
    number = 0;
    tag = tag;
    seen = [];
    own = [];
    stage = Idle;
    spent = false;
    made = 0;
    tags = tag ∷ [];
    joined = 0;
    gone = [];
    had = [];
    brought = [];
  }

  -- a seat that knows nothing, and is no host
  abbrev pub blank_view : View Q
  blank_view = record {
    host = false;
    number = 0;
    tag = 0;
    seen = [];
    own = [];
    stage = Idle;
    spent = false;
    made = 0;
    tags = [];
    joined = 0;
    gone = [];
    had = [];
    brought = [];
  }

  -- split: the host has made one seat more, with this tag
  abbrev pub left_of : ℕ → View Q → View Q
  left_of tag v = record v { made = v.made + 1; tags = v.tags ++ tag ∷ [] }

  -- split: the new seat has the next number and this tag, and has seen what the host has
  abbrev pub right_of : ℕ → View Q → View Q
  right_of tag v = record blank_view { number = v.made + 1; tag = tag; seen = v.seen }

  -- draw, and take
  abbrev pub at_stage : View Q → List (Mark Q) → Stage → View Q
  at_stage v seen stage = record v { seen = seen; stage = stage }

  -- publish: the turn is the last one seen, and the seat's own
  abbrev pub after_turn : View Q → Q → View Q
  after_turn v q = record v { seen = v.seen ++ mark v.number q ∷ []; own = v.own ++ q ∷ []; stage = Idle }

  abbrev pub longer : List (Mark Q) → List (Mark Q) → List (Mark Q)
  longer a b = if nat_lt (length a) (length b) then b else a

  -- join: the host has seen what either has, and keeps the number and the turns of the seat
  abbrev pub both_of : View Q → View Q → View Q
  both_of v w = record v {
    seen = longer v.seen w.seen;
    joined = v.joined + 1;
    gone = v.gone ++ joined_seat w.number w.own ∷ [];
    had = v.seen;
    brought = w.seen;
  }

  -- join: the seat is spent
  abbrev pub spent_view : View Q
  spent_view = record blank_view { spent = true }
