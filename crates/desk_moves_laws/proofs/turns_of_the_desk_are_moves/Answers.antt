use Rattle.desk_moves_laws.proofs.DeskFollowing.{desk_follows}
use Rattle.desk_moves_laws.proofs.turns_of_the_desk_are_moves.Goals as goal

pub returns : goal.returns
returns c = desk_follows
