use Rattle.desk_tables.proofs.Holders.{ok-is, some-holder}
use Rattle.desk_tables.proofs.pending.Pending.put.Goals as goal

pub returns-in-Bind-clause-held : goal.returns-in-Bind-clause-held
returns-in-Bind-clause-held c = λ e. some-holder c.args.self.now c.args.conn (ok-is c.take.result _ _ e c.take.ensures.answer)
