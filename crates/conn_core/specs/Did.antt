-- What a rule made of a connection, by its definition.
use Rattle.std.specs.Prelude.{◌≡◌, ◌++◌, ℕ, Option}
use Rattle.lload_names.specs.declared.names.PartName.TheVariants.{Up as Connection}
use Rattle.lload_spec.specs.Settings.{Settings}
use Rattle.part_spec.specs.Marked.{Taken}
use Rattle.part_spec.specs.Inputs.{Act, entries_of}
use Rattle.part_spec.specs.ConnectionState.{ConnectionState}
use Rattle.part_spec.specs.ConnectionTurn.{behind_act}
use Rattle.outbox.specs.declared.outbox.Outbox.{Outbox}

-- what an act appends at a moment, and the state behind it
pub record Did (s : Settings) (p : ConnectionState) (at : ℕ) (mark : Option Taken) (a : Act) (old new : Outbox) (q : ConnectionState) : Type 0 where
  pub entries : new.entries.items ≡ old.entries.items ++ entries_of (Connection p.number) at a.whats
  pub letters : new.letters.items ≡ old.letters.items ++ a.letters
  pub behind : q ≡ behind_act s at mark p a
