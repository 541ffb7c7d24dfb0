-- What each step tells the seat that makes it.
use Rattle.std.specs.Prelude.{◌≡◌, ◌≢◌, ℕ, ◌%◌, ◌^◌, true, List, [], ◌∷◌, ◌++◌, length, Option, Some, None}
use Rattle.atomic_table.specs.Table.{Me, Step}
use Rattle.counted_lock.specs.declared.known.Mark.{Mark}
use Rattle.counted_lock.specs.declared.known.View.{View}
use Rattle.counted_lock.specs.declared.known.Joined.{Joined}
use Rattle.counted_lock.specs.declared.known.Stage.TheVariants.{Waiting, Holding}
use Rattle.counted_lock.specs.Turns.{turns_of, turns_by, turns_with, StartsWith, Tagged}
use Rattle.counted_lock.specs.Views.{at_stage, after_turn}

module _ {Q : Type 0} where
  -- the turns of the seat and those of its tag, in what it sees, are its own; the host knows the tag of each turn there
  pub record Sees (tag : Q → ℕ) (v : View Q) (seen : List (Mark Q)) : Type 0 where
    pub by_number : turns_by v.number seen ≡ v.own
    pub by_tag : turns_with tag v.tag seen ≡ v.own
    pub tagged : v.host ≡ true → Tagged tag v.tags seen

  -- the turns of each joined seat begin with those that the list has
  abbrev pub Begun : List (Mark Q) → List (Joined Q) → Type 0
  Begun seen [] = Unit {0}
  Begun seen (g ∷ gs) = ((rest : List Q) × (g.own ≡ turns_by g.number seen ++ rest)) × Begun seen gs

  -- what the host sees, after a join
  pub record Brought (tag : Q → ℕ) (v : View Q) : Type 0 where
    pub sees : Sees tag v v.seen
    pub had : v.host ≡ true → StartsWith v.seen v.had
    pub brought : v.host ≡ true → StartsWith v.seen v.brought
    pub begun : v.host ≡ true → Begun v.seen v.gone

module _ {T Q : Type 0} where
  -- a ticket was drawn
  abbrev pub drew : Step (Option T) → Me (Option T) (View Q) → ℕ → Me (Option T) (View Q) → Type 0
  drew st m r m' = (n : ℕ) × (n % 2 ^ 64 ≡ r) × (m'.0 ≡ at_stage m.0 m.0.seen (Waiting n)) × (m'.1 ≡ m.1)

  -- the turn was published, and the slot given back
  abbrev pub published : Option Q → Step (Option T) → Me (Option T) (View Q) → ℕ → Me (Option T) (View Q) → Type 0
  published None st m r m' = Unit {0}
  published (Some q) st m r m' = (m'.0 ≡ after_turn m.0 q) × (m'.1 ≡ [])

  -- nothing has changed, and the host sees what was brought
  abbrev pub confirmed : (Q → ℕ) → Step (Option T) → Me (Option T) (View Q) → ℕ → Me (Option T) (View Q) → Type 0
  confirmed tag st m r m' = (m' ≡ m) × Brought tag m.0

module _ {T Q : Type 0} (stands : List Q → T → Type 0) (tag : Q → ℕ) where
  -- the value was taken with the ticket n, and stands for all turns that are then seen
  pub record Took (n : ℕ) (v : View Q) (r : ℕ) (m' : Me (Option T) (View Q)) : Type 0 where
    pub between : List (Mark Q)
    pub value : T
    pub view : m'.0 ≡ at_stage v (v.seen ++ between) (Holding n)
    pub slot : m'.1 ≡ (0, Some value) ∷ []
    pub stood : stands (turns_of (v.seen ++ between)) value
    pub sees : Sees tag v (v.seen ++ between)
    pub placed : length (v.seen ++ between) % 2 ^ 64 ≡ r

  -- the seat's ticket is shown, and the value was taken; or another is, and nothing has changed
  abbrev pub looked : Step (Option T) → Me (Option T) (View Q) → ℕ → Me (Option T) (View Q) → Type 0
  looked st m r m' = (n : ℕ) → m.0.stage ≡ Waiting n → (r ≡ n % 2 ^ 64 → Took n m.0 r m') × (r ≢ n % 2 ^ 64 → m' ≡ m)
