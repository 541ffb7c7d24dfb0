use Rattle.std.proofs.Common.{ap, refl, ◌∙◌}
use Rattle.id_table.specs.Rows.{changed, answered}
use Rattle.id_table.proofs.Standing.{entry-changed}
use Rattle.id_table.proofs.live.LiveRowsRows.touch.Goals as goal

pub invariant_of-self : goal.invariant_of-self
invariant_of-self c = (entry-changed (answered c.args.now) c.args.id c.self.inside.ids c.self.inside.rows c.touch.new.self (record { id = λ r. refl; op = λ r. refl }) c.self.invariant c.touch.ensures).0

pub returns : goal.returns
returns c = (entry-changed (answered c.args.now) c.args.id c.self.inside.ids c.self.inside.rows c.touch.new.self (record { id = λ r. refl; op = λ r. refl }) c.self.invariant c.touch.ensures).1 ∙ ap (changed (answered c.args.now) c.args.id) c.self.view_is
