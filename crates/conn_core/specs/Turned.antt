-- What a step made of a connection, by the definition of its turn.
use Rattle.std.specs.Prelude.{◌≡◌, ◌++◌, true, false, [], ◌∷◌}
use Rattle.lload_names.specs.declared.names.EndWhy.TheVariants.{Drained}
use Rattle.lload_names.specs.declared.names.Letter.TheVariants.{IsDown}
use Rattle.lload_names.specs.declared.names.PartName.TheVariants.{Desk}
use Rattle.lload_names.specs.declared.names.What.TheVariants as what
use Rattle.lload_names.specs.declared.inputs.Input.{Input}
use Rattle.lload_spec.specs.Settings.{Settings}
use Rattle.part_spec.specs.Inputs.{Act, act, nothing, to, letter_of, marked_by}
use Rattle.part_spec.specs.ConnectionState.{ConnectionState, step_connections}
use Rattle.part_spec.specs.ConnectionTurn.{is_drained}
use Rattle.part_spec.specs.Turn.{connection_turn}
use Rattle.outbox.specs.declared.outbox.Outbox.{Outbox}

-- the state behind an input
abbrev pub behind : Settings → ConnectionState → Input → ConnectionState
behind s p input = step_connections s p (marked_by (letter_of input) (connection_turn s p input).entries)

-- what was appended is the turn of an input, and what stands of a state stands of the one behind it
pub record Turned (s : Settings) (p : ConnectionState) (input : Input) (old new : Outbox) (Stands : ConnectionState → Type 0) : Type 0 where
  pub entries : new.entries.items ≡ old.entries.items ++ (connection_turn s p input).entries
  pub letters : new.letters.items ≡ old.letters.items ++ (connection_turn s p input).letters
  pub stands : Stands (behind s p input)

-- nothing was appended
pub record IsSame (old new : Outbox) : Type 0 where
  pub entries : new.entries.items ≡ old.entries.items
  pub letters : new.letters.items ≡ old.letters.items

-- the end of a retired connection with nothing left to do
abbrev pub drained_act : ConnectionState → Act
drained_act p =
    elim (is_drained p) [
      | true ↦ act (what.Down Drained ∷ []) (to Desk (IsDown p.number))
      | false ↦ nothing
    ]
