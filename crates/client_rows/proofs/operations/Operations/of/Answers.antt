use Rattle.std.proofs.Common.{◌≡◌, ◌∷◌, [], filter, subst}
use Rattle.std.specs.Option.{IfSome}
use Rattle.client_rows.specs.Rows.{Counted, has_id}
use Rattle.client_rows.proofs.Index.{alone-by}
use Rattle.client_rows.proofs.operations.Operations.of.Goals as goal

pub returns-clause-alone : goal.returns-clause-alone
returns-clause-alone c =
    let P : Counted → Type 0 = λ v. IfSome c.get.result (λ row. filter (has_id row.now.id) v.rows ≡ row.now ∷ []) in
    subst P c.self.view_is (alone-by c.args.k c.self.inside.numbers c.self.inside.filed.rows c.get.result c.self.invariant.1 c.get.ensures)
