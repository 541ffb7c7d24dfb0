use Rattle.std.proofs.Common.{ap, sym, ◌∙◌, ℕ, length}
use Rattle.id_table.specs.declared.row.Row.{Row}
use Rattle.id_table.proofs.Places.{length-entries}
use Rattle.id_table.proofs.filed.FiledRows.len.Goals as goal

pub returns-clause-len : goal.returns-clause-len
returns-clause-len c = c.len.ensures.len ∙ sym (length-entries c.self.inside.rows c.self.inside.places.entries c.self.invariant) ∙ ap (length {A = ℕ × Row}) c.self.view_is
