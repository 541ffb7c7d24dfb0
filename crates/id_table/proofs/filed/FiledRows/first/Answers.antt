use Rattle.std.proofs.Common.{ap, ◌∙◌}
use Rattle.id_table.specs.Places.{first_key}
use Rattle.id_table.proofs.Places.{first-of}
use Rattle.id_table.proofs.filed.FiledRows.first.Goals as goal

pub returns : goal.returns
returns c = first-of c.self.inside.rows c.self.inside.places.entries c.first_of.result c.self.invariant c.first_of.ensures.none c.first_of.ensures.first ∙ ap first_key c.self.view_is
