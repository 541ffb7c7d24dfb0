use Rattle.std.proofs.Common.{ap, sym, ◌∙◌}
use Rattle.std.specs.BTreeMap.{is_at}
use Rattle.std.specs.Map.{lookup}
use Rattle.std.specs.Option.{option_and_then, option_copied}
use Rattle.std.specs.Ordering.{nat_cmp}
use Rattle.slab.specs.Slab.{get}
use Rattle.id_table.proofs.Places.{lookup-entries}
use Rattle.id_table.proofs.filed.FiledRows.get.Goals as goal

pub returns-in_err-get : goal.returns-in_err-get
returns-in_err-get c =
    let found = lookup-entries (is_at (nat_cmp c.args.id)) c.self.inside.rows c.self.inside.places.entries c.self.invariant in
    ap option_copied c.from_residual.ensures ∙ ap (option_and_then (get c.self.inside.rows)) c.in_err-get.ensures.value ∙ sym found ∙ ap (lookup (is_at (nat_cmp c.args.id))) c.self.view_is

pub returns : goal.returns
returns c =
    let found = lookup-entries (is_at (nat_cmp c.args.id)) c.self.inside.rows c.self.inside.places.entries c.self.invariant in
    c.get-2.ensures ∙ ap (option_and_then (get c.self.inside.rows)) c.in_ok-get.ensures.value ∙ sym found ∙ ap (lookup (is_at (nat_cmp c.args.id))) c.self.view_is
