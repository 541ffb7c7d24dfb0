use Rattle.std.proofs.Common.{◌≡◌, ap, subst, sym, ◌∙◌, ◌+◌, ◌++◌, ◌∷◌, [], arith, refl, List, ℕ}
use Rattle.std.specs.Map.{values_of}
use Rattle.std.specs.BTreeMap.{insert_entry}
use Rattle.std.specs.Ordering.{nat_cmp}
use Rattle.client_rows.specs.Rows.{Counted}
use Rattle.client_rows.specs.Filed.{AreFiled, Rises}
use Rattle.client_rows.specs.declared.row.Row.{Row}
use Rattle.client_rows.proofs.Entries.{insert-end, rises-end, filed-end, values-end, numbered}
use Rattle.client_rows.proofs.filed.FiledRows.push.Goals as goal

pub invariant_of-self-2 : goal.invariant_of-self-2
invariant_of-self-2 c =
    let next : c.args.row.k ≡ c.self.inside.count + 1 = c.requires.next ∙ sym (ap (λ v. v.count + 1) c.self.view_is) in
    let es = c.self.inside.rows.entries in
    let rises : Rises 0 es c.args.row.k = rw next c.self.invariant.1 in
    let put = c.in_ok-insert.ensures.entries ∙ insert-end 0 es c.args.row.k c.args.row rises in
    let more = rises-end 0 es c.args.row.k c.args.row rises in
    let P : ℕ → Type 0 = λ n. Rises 0 (es ++ (c.args.row.k, c.args.row) ∷ []) (n + 1) in
    rw put (filed-end es c.args.row.k c.args.row refl c.self.invariant.0, subst P next more)

pub returns-clause-ok : goal.returns-clause-ok
returns-clause-ok c =
    let next : c.args.row.k ≡ c.self.inside.count + 1 = c.requires.next ∙ sym (ap (λ v. v.count + 1) c.self.view_is) in
    let es = c.self.inside.rows.entries in
    let rises : Rises 0 es c.args.row.k = rw next c.self.invariant.1 in
    let put = c.in_ok-insert.ensures.entries ∙ insert-end 0 es c.args.row.k c.args.row rises in
    let left = ap values_of put ∙ values-end es c.args.row.k c.args.row in
    let make : List Row → Counted = λ rows. record { count = c.self.inside.count + 1; rows = rows } in
    let with_row : Counted → Counted = λ v. record { count = v.count + 1; rows = v.rows ++ c.args.row ∷ [] } in
    ap make left ∙ ap with_row c.self.view_is

pub returns-clause-numbered : goal.returns-clause-numbered
returns-clause-numbered c = let inv = invariant_of-self-2 c in numbered 0 _ _ inv.0 inv.1

pub returns-in_err-insert-clause-numbered : goal.returns-in_err-insert-clause-numbered
returns-in_err-insert-clause-numbered c = rw (c.in_err-insert.ensures.err) (numbered 0 _ _ c.self.invariant.0 c.self.invariant.1)
