use Rattle.std.proofs.Common.{ap}
use Rattle.desk_tables.proofs.Picking.{picks}
use Rattle.desk_tables.proofs.rounds.Round.choose.Goals as goal

pub returns-clause-pick : goal.returns-clause-pick
returns-clause-pick c = λ s f kind t tells set. rw c.choose.ensures.choice (rw (ap (λ r. r.tier) c.self.view_is) (picks s f kind t c.args.self.now.tier c.args.eligible.now c.args.word tells set))
