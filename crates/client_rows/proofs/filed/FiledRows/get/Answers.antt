use Rattle.std.proofs.Common.{ap, sym, ◌∙◌, find}
use Rattle.client_rows.specs.Rows.{has_number}
use Rattle.client_rows.proofs.Entries.{find-lookup}
use Rattle.client_rows.proofs.filed.FiledRows.get.Goals as goal

pub returns : goal.returns
returns c = c.get.ensures.value ∙ sym (find-lookup c.args.k c.self.inside.rows.entries c.self.invariant.0) ∙ ap (λ v. find (has_number c.args.k) v.rows) c.self.view_is
