use Rattle.small_world.specs.States.{begun}
use Rattle.small_world.specs.Rounds.{beginning}
use Rattle.small_world.proofs.RoundsMade.{stands_by, begun_stands}
use Rattle.small_world.proofs.world.World.begin.Goals as goal

pub returns-clause-stands : goal.returns-clause-stands
returns-clause-stands c = stands_by c.start.result c.args.self.now c.start.new.self (begun c.args.self.now c.args.part) (beginning c.args.part) (λ J h. begun_stands c.args.self.now c.args.part J c.requires h) c.start.ensures.made c.start.ensures.state
