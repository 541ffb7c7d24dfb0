-- What contracts see of a play: its world, and the messages that were fed since the last settle.
use Rattle.std.specs.Prelude.{List, []}
use Rattle.ldap_spec.specs.Messages.{Message}
use Rattle.small_world.specs.States.{WorldState, at_rest}

-- a play: the world, the messages that client 1 was fed, and those that connection 1 was fed, each in their order
pub record PlayState : Type 0 where
  pub world : WorldState
  pub requests : List Message
  pub answers : List Message

-- the play before any command
abbrev pub unplayed : PlayState
unplayed = record { world = at_rest; requests = []; answers = [] }
