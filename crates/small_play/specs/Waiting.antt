-- The messages of a play that wait for the next settle.
use Rattle.std.specs.Prelude.{◌≡◌, ℕ, ◌^◌, Bool, true, false, ◌==◌, ◌&&◌, ◌||◌, not, nat_lt, List, [], ◌∷◌, length, map}
use Rattle.std.specs.List.{list_any, list_all}
use Rattle.ldap_spec.specs.Messages.{Message}
use Rattle.small_spec.specs.Lists.{are_distinct}
use Rattle.small_spec.specs.Standing.{is_one_element}
use Rattle.small_world.specs.States.{WorldState, is_linked_state, uses, gave}
use Rattle.small_play.specs.PlayState.{PlayState}

-- whether a message with this identifier waits
abbrev pub waits : List Message → ℕ → Bool
waits ms id = list_any (λ m. m.id == id) ms

-- whether none does
abbrev pub are_none : List Message → Bool
are_none [] = true
are_none (m ∷ ms) = false

-- whether a message may be taken from client 1: a Delete in range, with an identifier other than 0 that isn't in use
abbrev pub may_request : WorldState → Message → Bool
may_request w m = nat_lt m.id (2 ^ 31) && not (m.id == 0) && not (uses w m.id) && is_one_element 0x4A m.rest && nat_lt (length m.rest) (2 ^ 30)

-- whether a message may be taken from connection 1: the answer to a Delete, in range, with an identifier that was given
abbrev pub may_answer : WorldState → Message → Bool
may_answer w m = nat_lt m.id (2 ^ 31) && gave w m.id && is_one_element 0x6B m.rest && nat_lt (length m.rest) (2 ^ 30)

-- the messages that wait may be taken: those of client 1 in their order, and then those of connection 1
pub record MayWait (p : PlayState) : Type 0 where
  pub arrived : (are_none p.requests || p.world.arrived) ≡ true
  pub linked : (are_none p.answers || is_linked_state p.world.link) ≡ true
  pub requests : list_all (may_request p.world) p.requests ≡ true
  pub distinct : are_distinct (map (λ m. m.id) p.requests) ≡ true
  pub answers : list_all (may_answer p.world) p.answers ≡ true
