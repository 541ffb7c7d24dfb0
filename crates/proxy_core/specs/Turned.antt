-- What a turn makes of a world.
use Rattle.std.specs.Prelude.{◌≡◌, ◌++◌, ℕ, List}
use Rattle.lload_names.specs.declared.inputs.Input.{Input}
use Rattle.lload_names.specs.declared.names.Entry.{Entry}
use Rattle.lload_names.specs.declared.names.EndWhy.{EndWhy}
use Rattle.lload_names.specs.declared.names.PartName.{PartName}
use Rattle.lload_spec.specs.Settings.{Settings}
use Rattle.part_spec.specs.World as run
use Rattle.letter_queues.specs.Queues.{StaySame}
use Rattle.outbox.specs.declared.outbox.Outbox.{Outbox}
use Rattle.proxy_core.specs.States.{Is}
use Rattle.proxy_core.specs.declared.world.World.{World}

-- the entries that were appended are those of the turn, and the world stands for the one behind it
pub record Took (s : Settings) (v : run.World) (p : PartName) (input : Input) (old new : Outbox) (w : World) : Type 0 where
  pub entries : new.entries.items ≡ old.entries.items ++ (run.turn_of s v p input).entries
  pub stands : Is s (run.takes s p input v) w

-- the same of the end of a link
pub record Severed (s : Settings) (v : run.World) (p : PartName) (now : ℕ) (why : EndWhy) (made : List Entry) (w : World) : Type 0 where
  pub entries : made ≡ (run.sever_of s v p now why).entries
  pub stands : Is s (run.severs s p now why v) w

-- nothing was appended
abbrev pub IsSame : Outbox → Outbox → Type 0
IsSame old new = new.entries.items ≡ old.entries.items

-- the parts and what stands beside them are the same in two worlds, whatever the letters
pub record KeepsParts (old new : World) : Type 0 where
  pub desk : new.desk ≡ old.desk
  pub clients : new.clients ≡ old.clients
  pub connections : new.connections ≡ old.connections
  pub plans : new.plans ≡ old.plans
  pub greatest : new.greatest ≡ old.greatest
  pub alloc : new.alloc ≡ old.alloc

-- no queue is another one in two worlds, and where all letters were sorted they are
pub record KeepsLetters (old new : World) : Type 0 where
  pub queues : StaySame old.letters new.letters
  pub sorted : new.letters.is_sorted ≡ old.letters.is_sorted
