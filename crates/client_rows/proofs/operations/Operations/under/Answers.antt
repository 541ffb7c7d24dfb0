use Rattle.std.proofs.Common.{ap, sym, ◌∙◌, filter}
use Rattle.std.specs.Option.{option_to_list, option_copied}
use Rattle.client_rows.specs.Rows.{has_id}
use Rattle.client_rows.proofs.Index.{no-numbers, one-found}
use Rattle.client_rows.proofs.operations.Operations.under.Goals as goal

pub returns-in_err-get : goal.returns-in_err-get
returns-in_err-get c =
    let none = c.self.invariant.1 c.args.id ∙ ap option_to_list (sym c.in_err-get.ensures.value) in
    ap (λ v. filter (has_id c.args.id) v.rows) (sym c.self.view_is) ∙ no-numbers _ none ∙ ap (λ o. option_to_list (option_copied o)) (sym c.from_residual.ensures)

pub returns : goal.returns
returns c =
    let has = c.self.invariant.1 c.args.id ∙ ap option_to_list (sym c.in_ok-get.ensures.value) in
    ap (λ v. filter (has_id c.args.id) v.rows) (sym c.self.view_is) ∙ one-found (has_id c.args.id) _ 0 _ _ c.self.invariant.0 has ∙ ap option_to_list (sym c.get-2.ensures)
