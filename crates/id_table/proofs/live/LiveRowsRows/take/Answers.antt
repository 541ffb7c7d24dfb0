use Rattle.std.proofs.Common.{ap, sym, ◌∙◌}
use Rattle.std.specs.BTreeMap.{is_at}
use Rattle.std.specs.Ordering.{nat_cmp}
use Rattle.id_table.specs.Rows.{row_of, without}
use Rattle.id_table.proofs.Entries.{row-lookup}
use Rattle.id_table.proofs.Places.{remove-absent}
use Rattle.id_table.proofs.Standing.{same-stands, taken-rows, taken-stands}
use Rattle.id_table.proofs.live.LiveRowsRows.take.Goals as goal

pub returns-in_err-row-clause-row : goal.returns-in_err-row-clause-row
returns-in_err-row-clause-row c = c.from_residual.ensures ∙ c.in_err-row.ensures.row ∙ sym (row-lookup c.args.id _ c.self.invariant.0) ∙ ap (row_of c.args.id) c.self.view_is

pub returns-in_err-row-clause-taken : goal.returns-in_err-row-clause-taken
returns-in_err-row-clause-taken c = taken-rows c.args.id c.self.inside.ids _ _ c.self.invariant c.in_err-row.ensures.rest ∙ ap (without c.args.id) c.self.view_is

pub invariant_of-self-2 : goal.invariant_of-self-2
invariant_of-self-2 c = taken-stands c.in_ok-row.row c.args.id c.self.inside.ids c.remove-2.new.self _ _ c.self.invariant (sym c.in_ok-row.ensures.row) c.in_ok-row.ensures.rest c.remove-2.ensures.updates.0

pub returns-clause-row : goal.returns-clause-row
returns-clause-row c = c.in_ok-row.ensures.row ∙ sym (row-lookup c.args.id _ c.self.invariant.0) ∙ ap (row_of c.args.id) c.self.view_is

pub returns-clause-taken : goal.returns-clause-taken
returns-clause-taken c = taken-rows c.args.id c.self.inside.ids _ _ c.self.invariant c.in_ok-row.ensures.rest ∙ ap (without c.args.id) c.self.view_is

pub invariant_of-self : goal.invariant_of-self
invariant_of-self c = same-stands c.self.inside.ids c.self.inside.rows c.remove.new.self (c.in_err-row.ensures.rest ∙ remove-absent (is_at (nat_cmp c.args.id)) c.self.inside.rows (sym c.in_err-row.ensures.row)) c.self.invariant
