use Rattle.std.proofs.Common.{ap, sym, ◌∙◌, arith}
use Rattle.id_table.specs.Rows.{row_of, put}
use Rattle.id_table.proofs.Entries.{row-lookup}
use Rattle.id_table.proofs.Standing.{put-rows, put-stands, undone-stands, on-ok, on-err}
use Rattle.id_table.proofs.live.LiveRowsRows.put.Goals as goal

pub invariant_of-self-then-is_err : goal.invariant_of-self-then-is_err
invariant_of-self-then-is_err c = undone-stands c.args.row c.self.inside.ids c.insert.new.self c.remove.new.self _ _ (on-err c.insert-2.result _ (sym c.is_err.ensures.value ∙ c.if-is_err.true) c.insert-2.ensures.err) c.self.invariant (ap (row_of c.args.row.id) c.self.view_is ∙ c.requires.absent) c.in_ok-insert.ensures.updates.0 c.remove.ensures.updates.0

pub invariant_of-self-else-is_err : goal.invariant_of-self-else-is_err
invariant_of-self-else-is_err c = put-stands c.args.row c.self.inside.ids c.insert.new.self _ _ (omega (arith, c.requires.small)) c.self.invariant (ap (row_of c.args.row.id) c.self.view_is ∙ c.requires.absent) (on-ok c.insert-2.result _ (sym c.is_err.ensures.value ∙ c.if-is_err.false) c.insert-2.ensures.ok) c.in_ok-insert.ensures.updates.0

pub returns-clause-put : goal.returns-clause-put
returns-clause-put c = put-rows c.args.row c.self.inside.ids _ _ c.self.invariant (ap (row_of c.args.row.id) c.self.view_is ∙ c.requires.absent) (on-ok c.insert-2.result _ (sym c.is_err.ensures.value ∙ c.if-is_err.false) c.insert-2.ensures.ok) ∙ ap (put c.args.row) c.self.view_is

pub insert-requires-2 : goal.insert-requires-2
insert-requires-2 c = sym (row-lookup c.args.row.id c.self.inside.rows c.self.invariant.0) ∙ ap (row_of c.args.row.id) c.self.view_is ∙ c.requires.absent
