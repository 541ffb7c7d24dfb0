use Rattle.std.proofs.Common.{ap, subst, sym, ◌∙◌}
use Rattle.std.specs.BTreeMap.{is_at}
use Rattle.std.specs.Map.{lookup, remove_entry}
use Rattle.std.specs.Option.{option_and_then}
use Rattle.std.specs.Ordering.{nat_cmp}
use Rattle.slab.specs.Slab.{get}
use Rattle.id_table.specs.Places.{entries_at, ArePlaces}
use Rattle.id_table.proofs.Places.{lookup-entries, entries-remove, places-remove, remove-absent}
use Rattle.id_table.proofs.filed.FiledRows.remove.Goals as goal

pub returns-in_err-place-clause-row : goal.returns-in_err-place-clause-row
returns-in_err-place-clause-row c =
    let found = lookup-entries (is_at (nat_cmp c.args.id)) c.self.inside.rows c.self.inside.places.entries c.self.invariant in
    c.from_residual.ensures ∙ ap (option_and_then (get c.self.inside.rows)) c.in_err-place.ensures.value ∙ sym found ∙ ap (lookup (is_at (nat_cmp c.args.id))) c.self.view_is

pub returns-in_err-place-clause-rest : goal.returns-in_err-place-clause-rest
returns-in_err-place-clause-rest c =
    let test = is_at (nat_cmp c.args.id) in
    let none = sym c.in_err-place.ensures.value in
    let gone = lookup-entries test c.self.inside.rows c.self.inside.places.entries c.self.invariant ∙ ap (option_and_then (get c.self.inside.rows)) none in
    ap (entries_at c.self.inside.rows) (c.in_err-place.ensures.entries ∙ remove-absent test c.self.inside.places.entries none)
    ∙ sym (remove-absent test (entries_at c.self.inside.rows c.self.inside.places.entries) gone)
    ∙ ap (remove_entry test) c.self.view_is

pub invariant_of-self-2 : goal.invariant_of-self-2
invariant_of-self-2 c = subst (ArePlaces c.try_remove.new.self) (sym c.in_ok-place.ensures.entries) (places-remove (is_at (nat_cmp c.args.id)) c.in_ok-place.place c.self.inside.rows c.try_remove.new.self c.self.inside.places.entries c.try_remove.ensures.updates.others (sym c.in_ok-place.ensures.value) c.self.invariant)

pub returns-clause-row : goal.returns-clause-row
returns-clause-row c =
    let found = lookup-entries (is_at (nat_cmp c.args.id)) c.self.inside.rows c.self.inside.places.entries c.self.invariant in
    c.try_remove.ensures.value ∙ ap (option_and_then (get c.self.inside.rows)) c.in_ok-place.ensures.value ∙ sym found ∙ ap (lookup (is_at (nat_cmp c.args.id))) c.self.view_is

pub returns-clause-rest : goal.returns-clause-rest
returns-clause-rest c =
    ap (entries_at c.try_remove.new.self) c.in_ok-place.ensures.entries
    ∙ entries-remove (is_at (nat_cmp c.args.id)) c.in_ok-place.place c.self.inside.rows c.try_remove.new.self c.self.inside.places.entries c.try_remove.ensures.updates.others (sym c.in_ok-place.ensures.value) c.self.invariant
    ∙ ap (remove_entry (is_at (nat_cmp c.args.id))) c.self.view_is
