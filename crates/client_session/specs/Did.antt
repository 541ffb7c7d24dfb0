-- What a rule made of a client, by its definition.
use Rattle.std.specs.Prelude.{◌≡◌, ◌++◌, ℕ, Option}
use Rattle.lload_names.specs.declared.names.PartName.TheVariants.{Client}
use Rattle.lload_names.specs.declared.inputs.Input.{Input}
use Rattle.lload_spec.specs.Settings.{Settings}
use Rattle.part_spec.specs.Marked.{Taken}
use Rattle.part_spec.specs.Inputs.{Act, entries_of, marked_by}
use Rattle.part_spec.specs.ClientState.{ClientState, step_clients}
use Rattle.part_spec.specs.ClientTurn.{client_turn}
use Rattle.outbox.specs.declared.outbox.Outbox.{Outbox}
use Rattle.client_session.specs.declared.part.ClientPart.{ClientPart}
use Rattle.client_session.specs.Stands.{Stands, behind}

-- the state behind what a rule makes at a moment, with the letter that it took
abbrev pub behind_act : Settings → ℕ → Option Taken → ClientState → Act → ClientState
behind_act s at mark p a = step_clients s p (marked_by mark (entries_of (Client p.number) at a.whats))

-- what a rule appended at a moment, and that the part stands for the state behind it
pub record Did (s : Settings) (p : ClientState) (at : ℕ) (mark : Option Taken) (a : Act) (old new : Outbox) (d : ClientPart) : Type 0 where
  pub entries : new.entries.items ≡ old.entries.items ++ entries_of (Client p.number) at a.whats
  pub letters : new.letters.items ≡ old.letters.items ++ a.letters
  pub stands : Stands s (behind_act s at mark p a) d

-- what was appended is the turn of an input, and the part stands for the state behind it
pub record Turned (s : Settings) (p : ClientState) (input : Input) (old new : Outbox) (d : ClientPart) : Type 0 where
  pub entries : new.entries.items ≡ old.entries.items ++ (client_turn s p input).entries
  pub letters : new.letters.items ≡ old.letters.items ++ (client_turn s p input).letters
  pub stands : Stands s (behind s p input) d

-- nothing was appended
pub record IsSame (old new : Outbox) : Type 0 where
  pub entries : new.entries.items ≡ old.entries.items
  pub letters : new.letters.items ≡ old.letters.items
