-- What contracts see of a seat.
use Rattle.std.specs.Prelude.{◌≡◌, ℕ, ◌+◌, Bool, true, false, List, [], ◌∷◌, length, Option}
use mathlib.Core.Option.{some}
use lib.ListN.{get_elem?}
use Rattle.atomic_table.specs.Seated.{TableId}
use Rattle.atomic_table.specs.Table.{Me}
use Rattle.counted_lock.specs.declared.known.Mark.{Mark}
use Rattle.counted_lock.specs.declared.known.View.{View}
use Rattle.counted_lock.specs.declared.known.Joined.{Joined}
use Rattle.counted_lock.specs.declared.known.Stage.TheVariants.{Idle}
use Rattle.counted_lock.specs.Told.{Sees}

-- `lock` names the seat's lock. `seen` is all turns that the seat has seen, and `own` the turns that it made. `made` counts the seats that the host made, `tags` has the tag of each number from 0 on, and `gone` has the seats that the host joined, as many as `joined`.
pub record Held (Q : Type 0) : Type 0 where
  pub lock : TableId
  pub host : Bool
  pub number : ℕ
  pub tag : ℕ
  pub seen : List (Mark Q)
  pub own : List Q
  pub made : ℕ
  pub tags : List ℕ
  pub joined : ℕ
  pub gone : List (Joined Q)

module _ {Q : Type 0} where
  abbrev pub held_of : TableId → View Q → Held Q
  held_of lock v = record {
    lock = lock;
    host = v.host;
    number = v.number;
    tag = v.tag;
    seen = v.seen;
    own = v.own;
    made = v.made;
    tags = v.tags;
    joined = v.joined;
    gone = v.gone;
  }

  -- the host of a new lock: no turn was made, and no seat but itself
  abbrev pub first_seat : TableId → ℕ → Held Q
  first_seat lock tag = record {
    lock = lock;
    host = true;
    number = 0;
    tag = tag;
    seen = [];
    own = [];
    made = 0;
    tags = tag ∷ [];
    joined = 0;
    gone = [];
  }

  -- a seat that the host makes: it has the next number, has seen what the host has, and has made no turn
  abbrev pub next_seat : Held Q → ℕ → Held Q
  next_seat host tag = record {
    lock = host.lock;
    host = false;
    number = host.made + 1;
    tag = tag;
    seen = host.seen;
    own = [];
    made = 0;
    tags = [];
    joined = 0;
    gone = [];
  }

module _ {T Q : Type 0} where
  -- what is true of a seat between two calls
  pub record AtRest (tag : Q → ℕ) (me : Me (Option T) (View Q)) : Type 0 where
    pub no_slot : me.1 ≡ []
    pub no_ticket : me.0.stage ≡ Idle
    pub live : me.0.spent ≡ false
    pub sees : Sees tag me.0 me.0.seen
    pub tag_count : me.0.host ≡ true → length me.0.tags ≡ me.0.made + 1
    pub tag_kept : me.0.host ≡ true → get_elem? me.0.tags me.0.number ≡ some me.0.tag
