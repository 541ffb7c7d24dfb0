use Rattle.std.proofs.Common.{ap, sym, ◌∙◌}
use Rattle.id_table.specs.Rows.{row_of}
use Rattle.id_table.proofs.Entries.{row-lookup}
use Rattle.id_table.proofs.live.LiveRowsRows.row.Goals as goal

pub returns : goal.returns
returns c = c.get.ensures ∙ sym (row-lookup c.args.id _ c.self.invariant.0) ∙ ap (row_of c.args.id) c.self.view_is
