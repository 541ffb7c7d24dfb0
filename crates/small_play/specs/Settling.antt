-- What a settle does with the messages that wait.
use Rattle.std.specs.Prelude.{◌≡◌, ℕ, if◌then◌else◌, List, [], ◌∷◌, ◌++◌}
use Rattle.ldap_spec.specs.Messages.{Message}
use Rattle.lload_names.specs.declared.names.Entry.{Entry}
use Rattle.lload_names.specs.declared.names.PartName.{PartName}
use Rattle.lload_names.specs.declared.names.PartName.TheVariants.{Client, Up as Connection}
use Rattle.small_spec.specs.Journal.{same_part, of_part}
use Rattle.small_spec.specs.History.{joined, Each, in_messages, got_messages}
use Rattle.small_world.specs.States.{WorldState, MayTake, after_message}
use Rattle.small_world.specs.Rounds.{hearing, IsRound}
use Rattle.small_world.specs.Stands.{StandsFor}
use Rattle.small_play.specs.PlayState.{PlayState}

-- these messages of a part may be taken, one after another
abbrev pub MayTakeEach : WorldState → PartName → List Message → Type 0
MayTakeEach w part [] = Unit {0}
MayTakeEach w part (m ∷ ms) = MayTake w part m.id m.rest × MayTakeEach (after_message w part m.id) part ms

-- the world behind them
abbrev pub after_each : WorldState → PartName → List Message → WorldState
after_each w part [] = w
after_each w part (m ∷ ms) = after_each (after_message w part m.id) part ms

-- a world took these messages of a part, one after another, each with all that follows from it, behind other entries
pub record TookEach (part : PartName) (ms : List Message) (before after : WorldState) (earlier piece : List Entry) : Type 0 where
  pub rounds : List (List Entry)
  pub entries : piece ≡ earlier ++ joined rounds
  pub world : after ≡ after_each before part ms
  pub each : (J : List Entry) → StandsFor before J → Each (λ place round. IsRound part (J ++ joined place) round) rounds
  pub stands : (J : List Entry) → StandsFor before J → StandsFor after (J ++ joined rounds)
  pub clients : (n : ℕ) → in_messages (of_part (Client n) (joined rounds)) ≡ (if same_part (Client n) part then ms else [])
  pub connections : (n : ℕ) → got_messages (of_part (Connection n) (joined rounds)) ≡ (if same_part (Connection n) part then ms else [])

-- a play settles, with these entries: its world hears what is news, takes the requests and then the answers, and none
-- waits any more
pub record Settles (before after : PlayState) (piece : List Entry) : Type 0 where
  pub heard : WorldState
  pub taken : WorldState
  pub news : List Entry
  pub middle : List Entry
  pub news_made : news ≡ hearing before.world.link
  pub news_stands : (J : List Entry) → StandsFor before.world J → StandsFor heard (J ++ news)
  pub requests : TookEach (Client 1) before.requests heard taken news middle
  pub answers : TookEach (Connection 1) before.answers taken after.world middle piece
  pub none_waits : after ≡ record { world = after.world; requests = []; answers = [] }
