-- For which histories a play stands: the history follows its script and keeps what is promised, and the play is where
-- the history ends.
use Rattle.std.specs.Prelude.{◌≡◌, ℕ, ◌==◌, if◌then◌else◌, List, [], ◌++◌, take}
use Rattle.ldap_spec.specs.Framing.{IsStream}
use Rattle.lload_names.specs.declared.names.Entry.{Entry}
use Rattle.lload_names.specs.declared.names.PartName.TheVariants.{Client, Up as Connection}
use Rattle.small_spec.specs.Journal.{family, of_part}
use Rattle.small_spec.specs.Fifo.{Fifo}
use Rattle.small_spec.specs.Identifiers.{IdsRise}
use Rattle.small_spec.specs.History.{Line, commands, journal, fed, moment, word, in_messages, got_messages}
use Rattle.small_spec.specs.Standing.{was_fed}
use Rattle.small_spec.specs.Follows.{Follows}
use Rattle.small_spec.specs.Plain.{plain}
use Rattle.small_world.specs.Stands.{StandsFor}
use Rattle.small_play.specs.PlayState.{PlayState}
use Rattle.small_play.specs.Waiting.{waits}

-- the promises of a journal: each client gets a prefix of one upstream's answers, or that and one refusal; and the
-- identifiers of each connection rise from 1, each used once
abbrev pub Promised : List Entry → Type 0
Promised J = Fifo (family J) × IdsRise (family J)

-- the journal kept them behind each line
abbrev pub HasKept : List Line → Type 0
HasKept history = (n : ℕ) → Promised (journal (take n history))

-- the play stands for the history
pub record Plays (p : PlayState) (history : List Line) : Type 0 where
  pub follows : Follows plain history
  pub kept : HasKept history
  pub stands : StandsFor p.world (journal history)
  pub still : moment (commands history) ≡ 0
  pub wordless : word (commands history) ≡ 0
  pub clients : (n : ℕ) → IsStream plain.max_incoming_client (fed (Client n) (commands history)) (in_messages (of_part (Client n) (journal history)) ++ (if n == 1 then p.requests else [])) []
  pub connections : (n : ℕ) → IsStream plain.max_incoming_upstream (fed (Connection n) (commands history)) (got_messages (of_part (Connection n) (journal history)) ++ (if n == 1 then p.answers else [])) []
  pub fed_since : (id : ℕ) → was_fed 1 id (commands history) ≡ waits p.requests id
