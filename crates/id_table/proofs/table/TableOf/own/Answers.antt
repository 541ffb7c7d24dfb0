use Rattle.std.proofs.Common.{arith}
use Rattle.id_table.proofs.Tables.{table-own, same-room}
use Rattle.id_table.proofs.table.TableOf.own.Goals as goal

pub invariant_of-self : goal.invariant_of-self
invariant_of-self g c = (table-own _ _ c.self.invariant.0 (same-room _ _ c.self.view_is c.requires) c.use_next.ensures.ids c.use_next.ensures.are_ids, let h = c.self.invariant.1 in let e = c.use_next.ensures.spare in omega (arith, h, e))

pub returns-clause-table : goal.returns-clause-table
returns-clause-table g c = table-own _ _ c.self.invariant.0 (same-room _ _ c.self.view_is c.requires) c.use_next.ensures.ids c.use_next.ensures.are_ids
