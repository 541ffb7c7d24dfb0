use Rattle.std.proofs.Common.{Some, None}
use Rattle.desk_choice.proofs.Tiers.{go-is}
use Rattle.desk_choice.proofs.tables.Tables.go.Goals as goal

pub returns-in-Some : goal.returns-in-Some
returns-in-Some c = λ s f j k e. go-is s f c.args.kind c.args.server.now.plan (Some c.in-Some.conn) (c.in-Some.ensures s f j k e)

pub returns-in-None : goal.returns-in-None
returns-in-None c = λ s f j k e. go-is s f c.args.kind c.args.server.now.plan None (c.in-None.ensures s f j k e)
