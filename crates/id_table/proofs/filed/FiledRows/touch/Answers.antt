use Rattle.std.proofs.Common.{ap, subst, sym, ◌∙◌}
use Rattle.std.specs.Option.{option_and_then}
use Rattle.slab.specs.Slab.{get}
use Rattle.id_table.specs.Places.{changed_entry, ArePlaces}
use Rattle.id_table.specs.Rows.{answered}
use Rattle.id_table.specs.contracts.filed.FiledRows.{the_view}
use Rattle.id_table.specs.declared.filed.FiledRows.TheInside.{Inside}
use Rattle.id_table.proofs.Places.{change-made, change-missed}
use Rattle.id_table.proofs.filed.FiledRows.touch.Goals as goal
use Rattle.id_table.proofs.filed.FiledRows.touch.Goals.{in-Some-get_mut, in_default-get_mut}

pub returns-in_default : goal.returns-in_default
returns-in_default c =
    sym (ap (changed_entry (answered c.args.now) c.args.id) (sym c.self.view_is) ∙ change-missed (answered c.args.now) c.args.id c.self.inside.rows c.self.inside.places.entries c.self.invariant (ap (option_and_then (get c.self.inside.rows)) (sym c.in_default.ensures.value)) ∙ c.self.view_is)

pub invariant_of-self : goal.invariant_of-self
invariant_of-self c = elim c.match-get_mut.branch [
  | in-Some-get_mut w ↦ subst (λ (i : Inside). ArePlaces i.rows i.places.entries) (sym w.self-inside-is) (change-made (answered c.args.now) c.args.id c.in-Some.place.now w.in-Some-get_mut.row.now c.self.inside.rows c.self.inside.places.entries c.self.invariant (sym c.in-Some.ensures.value) (sym w.in-Some-get_mut.ensures.value)).0
  | in_default-get_mut w ↦ subst (λ (i : Inside). ArePlaces i.rows i.places.entries) (sym w.self-inside-is) c.self.invariant
]

pub returns : goal.returns
returns c =
    elim c.match-get_mut.branch [
      | in-Some-get_mut w ↦ ap the_view w.self-inside-is ∙ (change-made (answered c.args.now) c.args.id c.in-Some.place.now w.in-Some-get_mut.row.now c.self.inside.rows c.self.inside.places.entries c.self.invariant (sym c.in-Some.ensures.value) (sym w.in-Some-get_mut.ensures.value)).1 ∙ ap (changed_entry (answered c.args.now) c.args.id) c.self.view_is
      | in_default-get_mut w ↦
          let none = ap (option_and_then (get c.self.inside.rows)) (sym c.in-Some.ensures.value) ∙ sym w.in_default-get_mut.ensures.value in
          ap the_view w.self-inside-is ∙ sym (change-missed (answered c.args.now) c.args.id c.self.inside.rows c.self.inside.places.entries c.self.invariant none) ∙ ap (changed_entry (answered c.args.now) c.args.id) c.self.view_is
    ]
