use Rattle.std.proofs.Common.{ap, ◌+◌, arith}
use Rattle.client_rows.specs.Rows.{Counted}
use Rattle.client_rows.proofs.Entries.{rises-more, numbered}
use Rattle.client_rows.proofs.filed.FiledRows.pass.Goals as goal

pub invariant_of-self : goal.invariant_of-self
invariant_of-self c = (c.self.invariant.0, rises-more 0 c.self.inside.rows.entries (c.self.inside.count + 1) (c.self.inside.count + 1 + 1) (omega arith) c.self.invariant.1)

pub returns-clause-numbered : goal.returns-clause-numbered
returns-clause-numbered c = let inv = invariant_of-self c in numbered 0 _ _ inv.0 inv.1
