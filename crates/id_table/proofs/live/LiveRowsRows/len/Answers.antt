use Rattle.std.proofs.Common.{ap, sym, ◌∙◌, length}
use Rattle.id_table.specs.declared.row.Row.{Row}
use Rattle.id_table.proofs.Entries.{rows-length}
use Rattle.id_table.proofs.live.LiveRowsRows.len.Goals as goal

pub returns-clause-len : goal.returns-clause-len
returns-clause-len c = c.len.ensures.len ∙ sym (rows-length c.self.inside.rows) ∙ ap (length {A = Row}) c.self.view_is
