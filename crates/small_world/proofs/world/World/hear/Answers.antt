use Rattle.small_world.specs.States.{heard_link}
use Rattle.small_world.specs.Rounds.{hearing}
use Rattle.small_world.proofs.Standing.{heard_stands}
use Rattle.small_world.proofs.RoundsMade.{stands_by}
use Rattle.small_world.proofs.world.World.hear.Goals as goal

pub returns-clause-stands : goal.returns-clause-stands
returns-clause-stands c = stands_by c.take_news.result c.args.self.now c.take_news.new.self (record c.args.self.now { link = heard_link c.args.self.now.link }) (hearing c.args.self.now.link) (heard_stands c.args.self.now) c.take_news.ensures.made c.take_news.ensures.state
