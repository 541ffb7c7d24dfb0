-- What a play does when a part begins.
use Rattle.std.specs.Prelude.{◌≡◌, true, List, ◌++◌}
use Rattle.lload_names.specs.declared.names.Entry.{Entry}
use Rattle.lload_names.specs.declared.names.PartName.{PartName}
use Rattle.small_world.specs.States.{may_begin, begun}
use Rattle.small_world.specs.Rounds.{beginning}
use Rattle.small_world.specs.Stands.{StandsFor}
use Rattle.small_play.specs.PlayState.{PlayState}

-- the part begins, with these entries
pub record Begins (part : PartName) (before after : PlayState) (piece : List Entry) : Type 0 where
  pub may : may_begin before.world part ≡ true
  pub state : after ≡ record before { world = begun before.world part }
  pub made : piece ≡ beginning part
  pub stands : (J : List Entry) → StandsFor before.world J → StandsFor (begun before.world part) (J ++ piece)
