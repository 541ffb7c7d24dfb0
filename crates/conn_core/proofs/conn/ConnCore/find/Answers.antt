use Rattle.std.proofs.Common.{◌<◌, ◌^◌, ℕ, Option, sym, subst}
use Rattle.std.specs.Prelude.{IfSome}
use Rattle.conn_core.proofs.Keeps.{small-id}
use Rattle.conn_core.proofs.conn.ConnCore.find.Goals as goal

pub returns-clause-small : goal.returns-clause-small
returns-clause-small c = subst (λ (o : Option ℕ). IfSome o (λ id. id < 2 ^ 31)) (sym c.find.ensures.lowest) (small-id c.args.op c.self.inside.table c.self.invariant.sound)
