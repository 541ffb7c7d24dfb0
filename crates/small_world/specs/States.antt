-- What contracts see of a world: who has begun, and the operations of client 1.
use Rattle.std.specs.Prelude.{◌≡◌, ℕ, ◌+◌, ◌-◌, ◌<◌, ◌^◌, Bool, true, false, ◌==◌, ◌&&◌, not, nat_lt, nat_le, if◌then◌else◌, List, [], ◌∷◌, ◌++◌, length, slice_get, slice_set, Some, None}
use Rattle.std.specs.List.{list_all, list_any}
use Rattle.lload_names.specs.declared.names.PartName.{PartName}
use Rattle.lload_names.specs.declared.names.PartName.TheVariants.{Desk, Client, Up as Connection}
use Rattle.small_spec.specs.Standing.{is_one_element}
use Rattle.small_world.specs.declared.world.Link.{Link}
use Rattle.small_world.specs.declared.world.Link.TheVariants.{NotLinked, Unheard, Heard}
use Rattle.small_world.specs.declared.world.Forwarded.{Forwarded}

-- a world: whether client 1 has arrived, how connection 1 stands, how many operations client 1 made, and those that
-- were sent on connection 1, in the order of their identifiers there
pub record WorldState : Type 0 where
  pub arrived : Bool
  pub link : Link
  pub made : ℕ
  pub forwarded : List Forwarded

-- the world before anything began
abbrev pub at_rest : WorldState
at_rest = record { arrived = false; link = NotLinked; made = 0; forwarded = [] }

-- whether connection 1 was linked, and whether the desk heard that it is up
abbrev pub is_linked_state : Link → Bool
is_linked_state NotLinked = false
is_linked_state Unheard = true
is_linked_state Heard = true

abbrev pub is_heard_state : Link → Bool
is_heard_state Heard = true
is_heard_state _ = false

-- whether a part has begun
abbrev pub has_begun : WorldState → PartName → Bool
has_begun w Desk = false
has_begun w (Client n) = n == 1 && w.arrived
has_begun w (Connection n) = n == 1 && is_linked_state w.link

-- whether a part may begin
abbrev pub may_begin : WorldState → PartName → Bool
may_begin w Desk = false
may_begin w (Client n) = n == 1 && not w.arrived
may_begin w (Connection n) = n == 1 && not (is_linked_state w.link)

-- the world behind the beginning of a part
abbrev pub begun : WorldState → PartName → WorldState
begun w Desk = w
begun w (Client n) = record w { arrived = true }
begun w (Connection n) = record w { link = Unheard }

-- how connection 1 stands when what is news was heard
abbrev pub heard_link : Link → Link
heard_link NotLinked = NotLinked
heard_link _ = Heard

-- whether news waits for the desk
abbrev pub is_unheard : Link → Bool
is_unheard Unheard = true
is_unheard _ = false

-- whether an operation that was sent is live and has this identifier at its client
abbrev pub is_live_with : ℕ → Forwarded → Bool
is_live_with id f = not f.answered && f.id == id

-- whether each operation's identifier at its client is one (RFC 4511, 4.1.1.1)
abbrev pub are_in_range : List Forwarded → Bool
are_in_range forwarded = list_all (λ f. nat_lt f.id (2 ^ 31)) forwarded

-- whether a live operation has this identifier
abbrev pub uses : WorldState → ℕ → Bool
uses w id = list_any (is_live_with id) w.forwarded

-- whether this identifier was given on connection 1
abbrev pub gave : WorldState → ℕ → Bool
gave w id = not (id == 0) && nat_le id (length w.forwarded)

-- the world behind a request with this identifier: it is sent where the desk heard that connection 1 is up
abbrev pub after_request : WorldState → ℕ → WorldState
after_request w id = record w { made = w.made + 1; forwarded = if is_heard_state w.link then w.forwarded ++ record { k = w.made + 1; id = id; answered = false } ∷ [] else w.forwarded }

-- an operation, answered
abbrev pub answered : Forwarded → Forwarded
answered f = record f { answered = true }

-- the world behind an answer under this identifier
abbrev pub after_answer : WorldState → ℕ → WorldState
after_answer w id = elim (slice_get w.forwarded (id - 1)) [ None ↦ w | Some f ↦ if f.answered then w else record w { forwarded = slice_set w.forwarded (id - 1) (answered f) } ]

-- what a request must meet: client 1 has arrived, nothing waits to be heard, and the message is a Delete whose
-- identifier is neither 0 nor in use
pub record IsRequestFor (w : WorldState) (id : ℕ) (rest : List ℕ) : Type 0 where
  pub arrived : w.arrived ≡ true
  pub heard : is_unheard w.link ≡ false
  pub id_in_range : id < 2 ^ 31
  pub id_some : (id == 0) ≡ false
  pub id_free : uses w id ≡ false
  pub is_delete : is_one_element 0x4A rest ≡ true
  pub rest_in_range : length rest < 2 ^ 30

-- what an answer must meet: connection 1 was linked, nothing waits to be heard, and the message answers a Delete, under
-- an identifier that was given
pub record IsAnswerFor (w : WorldState) (id : ℕ) (rest : List ℕ) : Type 0 where
  pub linked : is_linked_state w.link ≡ true
  pub heard : is_unheard w.link ≡ false
  pub id_in_range : id < 2 ^ 31
  pub id_given : gave w id ≡ true
  pub is_deleted : is_one_element 0x6B rest ≡ true
  pub rest_in_range : length rest < 2 ^ 30

-- what a message from a part must meet
abbrev pub MayTake : WorldState → PartName → ℕ → List ℕ → Type 0
MayTake w Desk id rest = ⊥
MayTake w (Client n) id rest = (n ≡ 1) × IsRequestFor w id rest
MayTake w (Connection n) id rest = (n ≡ 1) × IsAnswerFor w id rest

-- the world behind a message from a part
abbrev pub after_message : WorldState → PartName → ℕ → WorldState
after_message w Desk id = w
after_message w (Client n) id = after_request w id
after_message w (Connection n) id = after_answer w id
