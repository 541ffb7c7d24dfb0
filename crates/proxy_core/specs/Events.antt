-- What an event makes of a run.
use Rattle.std.specs.Prelude.{◌≡◌, ◌++◌, List}
use Rattle.lload_names.specs.declared.inputs.Event.{Event}
use Rattle.lload_names.specs.declared.names.Entry.{Entry}
use Rattle.lload_names.specs.declared.names.PartName.{PartName}
use Rattle.lload_spec.specs.Settings.{Settings}
use Rattle.part_spec.specs.World as run
use Rattle.outbox.specs.declared.outbox.Outbox.{Outbox}
use Rattle.proxy_core.specs.States.{Is}
use Rattle.proxy_core.specs.declared.world.World.{World}

-- the entries that were appended are those that the event appends to the journal, and the world stands for the one behind it
pub record Happened (s : Settings) (v : run.World) (p : PartName) (event : Event) (old new : Outbox) (w : World) : Type 0 where
  pub made : List Entry
  pub entries : new.entries.items ≡ old.entries.items ++ made
  pub journal : run.journal_of (run.happens s p event v) ≡ run.journal_of v ++ made
  pub stands : Is s (run.happens s p event v) w
