use Rattle.std.proofs.Common.{ap, refl, ◌∙◌}
use Rattle.id_table.specs.Rows.{changed, kept_back}
use Rattle.id_table.proofs.Standing.{entry-changed}
use Rattle.id_table.proofs.live.LiveRowsRows.keep.Goals as goal

pub invariant_of-self : goal.invariant_of-self
invariant_of-self c = (entry-changed (kept_back c.args.now c.args.kept) c.args.id c.self.inside.ids c.self.inside.rows c.keep.new.self (record { id = λ r. refl; op = λ r. refl }) c.self.invariant c.keep.ensures).0

pub returns : goal.returns
returns c = (entry-changed (kept_back c.args.now c.args.kept) c.args.id c.self.inside.ids c.self.inside.rows c.keep.new.self (record { id = λ r. refl; op = λ r. refl }) c.self.invariant c.keep.ensures).1 ∙ ap (changed (kept_back c.args.now c.args.kept) c.args.id) c.self.view_is
