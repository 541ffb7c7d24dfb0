-- What is true of the words, the slot and all views between any two steps of the lock.
-- Word 0, `ticket`, counts the tickets that were drawn, and word 1, `serving`, the turns that were published, both modulo 2^64. The one slot has the value. Views stand in the order of their seats' numbers.
use Rattle.std.specs.Prelude.{◌≡◌, ℕ, zero, suc, ◌+◌, ◌%◌, ◌^◌, ◌<◌, ◌≤◌, true, false, List, [], ◌∷◌, length, Option, Some, if◌then◌else◌}
use mathlib.Core.Option.{none, some}
use lib.ListN.{get_elem?}
use Rattle.atomic_table.specs.Table.{State}
use Rattle.counted_lock.specs.declared.known.Mark.{Mark}
use Rattle.counted_lock.specs.declared.known.View.{View}
use Rattle.counted_lock.specs.declared.known.Joined.{Joined}
use Rattle.counted_lock.specs.declared.known.Stage.{Stage}
use Rattle.counted_lock.specs.declared.known.Stage.TheVariants.{Idle, Waiting, Holding}
use Rattle.counted_lock.specs.Turns.{turns_of, turns_by, StartsWith, Tagged, WasJoined}
use Rattle.counted_lock.specs.Views.{tickets, HasTicket}

-- no two places have the same tag
abbrev pub AllDiffer : List ℕ → Type 0
AllDiffer tags = (j k t : ℕ) → get_elem? tags j ≡ some t → get_elem? tags k ≡ some t → j ≡ k

module _ {Q : Type 0} where
  -- the view of the seat with the number j
  abbrev pub SeatAt : List (View Q) → ℕ → View Q → Type 0
  SeatAt views j v = get_elem? views j ≡ some v

  -- a fact of each seat that isn't spent
  abbrev pub EachLive : List (View Q) → (ℕ → View Q → Type 0) → Type 0
  EachLive views P = (j : ℕ) (v : View Q) → SeatAt views j v → v.spent ≡ false → P j v

  -- how many seats have a ticket
  abbrev pub waiting : List (View Q) → ℕ
  waiting [] = 0
  waiting (v ∷ vs) = tickets v.stage + waiting vs

  abbrev pub spent_one : View Q → ℕ
  spent_one v = if v.spent then 1 else 0

  -- how many seats are spent
  abbrev pub spent_ones : List (View Q) → ℕ
  spent_ones [] = 0
  spent_ones (v ∷ vs) = spent_one v + spent_ones vs

  -- A ticket was drawn, and its turn isn't published. The seat that has the slot has the ticket that is served, has seen all turns, and is the holder.
  abbrev pub At : List (Mark Q) → ℕ → ℕ → ℕ → List (Mark Q) → Stage → Type 0
  At log drawn holder j seen Idle = Unit {0}
  At log drawn holder j seen (Waiting n) = (length log ≤ n) × (n < drawn)
  At log drawn holder j seen (Holding n) = (n ≡ length log) × (n < drawn) × (seen ≡ log) × (holder ≡ suc j)

  -- some seat has the ticket n
  abbrev pub TicketAt : List (View Q) → ℕ → Type 0
  TicketAt views n = (j : ℕ) × (v : View Q) × SeatAt views j v × HasTicket n v.stage

  -- the seat j has the slot, with the ticket that is served
  abbrev pub HolderAt : List (Mark Q) → List (View Q) → ℕ → Type 0
  HolderAt log views j = (v : View Q) × SeatAt views j v × (v.stage ≡ Holding (length log))

  -- the seats that the host joined are spent, and the turns kept for each are those that it made
  abbrev pub Ended : List (Mark Q) → List (View Q) → List (Joined Q) → Type 0
  Ended log views [] = Unit {0}
  Ended log views (g ∷ gs) =
      (turns_by g.number log ≡ g.own)
      × ((u : View Q) × SeatAt views g.number u × (u.spent ≡ true))
      × Ended log views gs

  -- what the host knows of the seats that were made and of those that were joined
  pub record HostKnows (log : List (Mark Q)) (tags : List ℕ) (views : List (View Q)) (j : ℕ) (v : View Q) : Type 0 where
    -- it has the number 0
    pub first : j ≡ 0
    -- it counts the seats that were made, and keeps their tags
    pub made : v.made + 1 ≡ length views
    pub tags_are : v.tags ≡ tags
    -- it counts the spent seats, and keeps the turns of each
    pub joined : v.joined ≡ spent_ones views
    pub gone : Ended log views v.gone
    pub each_spent : (k : ℕ) (u : View Q) → SeatAt views k u → u.spent ≡ true → WasJoined k v.gone
    -- it has seen what it and the seat that it last joined had seen
    pub had : StartsWith v.seen v.had
    pub brought : StartsWith v.seen v.brought

module _ {T Q : Type 0} (stands : List Q → T → Type 0) where
  -- the value is at home, and stands for the published turns; or a seat has it
  abbrev pub Home : ℕ → List (Mark Q) → List (mathlib.Core.Option.Option (Option T)) → Type 0
  Home zero log homes = (x : T) × (homes ≡ some (Some x) ∷ []) × stands (turns_of log) x
  Home (suc j) log homes = homes ≡ none ∷ []

  -- The rule. Its first four fields are values that the facts speak of.
  pub record Kept (tag : Q → ℕ) (s : State (Option T) (View Q)) : Type 0 where
    -- the published turns
    pub log : List (Mark Q)
    -- how many tickets were drawn
    pub drawn : ℕ
    -- one more than the number of the seat that has the slot, or 0
    pub holder : ℕ
    -- the tag of each number
    pub tags : List ℕ
    pub words : s.words ≡ drawn % 2 ^ 64 ∷ length log % 2 ^ 64 ∷ []
    -- the value at home stands for the published turns, and while it is out the holder has the ticket that is served
    pub home : Home holder log s.homes
    pub held : (j : ℕ) → holder ≡ suc j → HolderAt log s.views j
    -- the published turns and the seats with a ticket make up the drawn tickets
    pub count : waiting s.views + length log ≡ drawn
    -- the tickets are the numbers from the published turns to the drawn ones, and each is in just one view
    pub ticket : EachLive s.views (λ j v. At log drawn holder j v.seen v.stage)
    pub some_seat : (n : ℕ) → length log ≤ n → n < drawn → TicketAt s.views n
    pub one_seat : (j k n : ℕ) (v w : View Q) → SeatAt s.views j v → SeatAt s.views k w
        → HasTicket n v.stage → HasTicket n w.stage → j ≡ k
    -- each view has its own number, and no turn has a number that wasn't made
    pub number : EachLive s.views (λ j v. v.number ≡ j)
    pub few : length s.views ≤ 2 ^ 63 + 1
    pub made : (j : ℕ) → length s.views ≤ j → turns_by j log ≡ []
    -- each view has the tag of its number, tags of different numbers differ, and each turn has the tag of its number
    pub each_tag : EachLive s.views (λ j v. get_elem? tags j ≡ some v.tag)
    pub tag_count : length tags ≡ length s.views
    pub tags_differ : AllDiffer tags
    pub tagged : Tagged tag tags log
    -- each seat has seen a beginning of the turns, with all of its own, and one has seen all
    pub seen : EachLive s.views (λ j v. StartsWith log v.seen)
    pub own : EachLive s.views (λ j v. turns_by j log ≡ v.own)
    pub own_seen : EachLive s.views (λ j v. turns_by j v.seen ≡ v.own)
    pub all_seen : (j : ℕ) × (v : View Q) × SeatAt s.views j v × (v.spent ≡ false) × (v.seen ≡ log)
    -- of seats that were made and joined
    pub host : (j : ℕ) (v : View Q) → SeatAt s.views j v → v.host ≡ true → HostKnows log tags s.views j v
    pub spent : (j : ℕ) (v : View Q) → SeatAt s.views j v → v.spent ≡ true → (v.stage ≡ Idle) × (v.host ≡ false)
