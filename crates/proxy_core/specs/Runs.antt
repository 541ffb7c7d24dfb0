-- For which runs of the parts a world stands, and what a move of a part makes of it.
use Rattle.std.specs.Prelude.{◌≡◌, List, [], ◌∷◌, ◌++◌, IsTrue}
use Rattle.lload_names.specs.declared.names.Entry.{Entry}
use Rattle.lload_names.specs.declared.names.PartName.{PartName}
use Rattle.lload_spec.specs.Settings.{Settings}
use Rattle.part_spec.specs.Merge.{PartMove, Move, world_of}
use Rattle.part_spec.specs.World.{journal_of}
use Rattle.link_laws.specs.Moves.{end_rightly}
use Rattle.proxy_core.specs.States.{Is}
use Rattle.proxy_core.specs.declared.world.World.{World}

-- it stands for the run that these moves make, in which links end for reasons that a link has
pub record Stands (s : Settings) (ms : List PartMove) (w : World) : Type 0 where
  pub is : Is s (world_of s ms) w
  pub ends : IsTrue (end_rightly ms)

-- a part's move
abbrev pub move_of : PartName → Move → PartMove
move_of p move = record { part = p; move = move }

-- these entries are what a move appends to the journal of a run, and the world stands for the run with it
pub record Moved (s : Settings) (ms : List PartMove) (p : PartName) (move : Move) (made : List Entry) (w : World) : Type 0 where
  pub journal : journal_of (world_of s (ms ++ move_of p move ∷ [])) ≡ journal_of (world_of s ms) ++ made
  pub stands : Stands s (ms ++ move_of p move ∷ []) w
