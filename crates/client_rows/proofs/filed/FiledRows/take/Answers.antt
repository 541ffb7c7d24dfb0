use Rattle.std.proofs.Common.{ap, subst, sym, ◌∙◌, ◌+◌, find, filter, not, List, ℕ}
use Rattle.std.specs.Map.{values_of}
use Rattle.client_rows.specs.Rows.{has_number, Counted}
use Rattle.client_rows.specs.Filed.{AreFiled, Rises}
use Rattle.client_rows.specs.declared.row.Row.{Row}
use Rattle.client_rows.proofs.Entries.{find-lookup, values-remove, filed-remove, rises-remove, numbered}
use Rattle.client_rows.proofs.filed.FiledRows.take.Goals as goal

pub invariant_of-self : goal.invariant_of-self
invariant_of-self c = rw (c.remove.ensures.entries) (filed-remove c.args.k c.self.inside.rows.entries c.self.invariant.0, rises-remove c.args.k 0 c.self.inside.rows.entries _ c.self.invariant.1)

pub returns-clause-row : goal.returns-clause-row
returns-clause-row c = c.remove.ensures.value ∙ sym (find-lookup c.args.k c.self.inside.rows.entries c.self.invariant.0) ∙ ap (λ v. find (has_number c.args.k) v.rows) c.self.view_is

pub returns-clause-rest : goal.returns-clause-rest
returns-clause-rest c =
    let left = ap values_of c.remove.ensures.entries ∙ values-remove c.args.k 0 c.self.inside.rows.entries _ c.self.invariant.0 c.self.invariant.1 in
    let with_rows : Counted → Counted = λ v. record { count = v.count; rows = filter (λ r. not (has_number c.args.k r)) v.rows } in
    let make : List Row → Counted = λ rows. record { count = c.self.inside.count; rows = rows } in
    ap make left ∙ ap with_rows c.self.view_is

pub returns-clause-numbered : goal.returns-clause-numbered
returns-clause-numbered c = let inv = invariant_of-self c in numbered 0 _ _ inv.0 inv.1
