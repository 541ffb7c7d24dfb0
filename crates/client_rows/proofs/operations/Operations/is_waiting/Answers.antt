use Rattle.std.proofs.Common.{ap, sym, ◌∙◌, arith}
use Rattle.std.specs.Prelude.{nat_lt}
use Rattle.std.specs.List.{list_any}
use Rattle.client_rows.specs.Rows.{lets_wait}
use Rattle.client_rows.proofs.Index.{any-count}
use Rattle.client_rows.proofs.operations.Operations.is_waiting.Goals as goal

pub returns : goal.returns
returns c = sym (any-count lets_wait c.self.inside.filed.rows ∙ ap (nat_lt 0) c.self.invariant.2) ∙ ap (λ v. list_any lets_wait v.rows) c.self.view_is
