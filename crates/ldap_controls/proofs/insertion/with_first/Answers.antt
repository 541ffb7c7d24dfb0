use Rattle.std.proofs.Common.{◌≡◌, ◌-◌, ℕ, List, ◌++◌, length, take, ap, ◌∙◌, rules}
use Rattle.ldap_spec.specs.Controls.{list_with_first}
use Rattle.ldap_controls.specs.Lists.{control_view}
use Rattle.ldap_controls.proofs.Inserting.{put_first}
use Rattle.ldap_controls.proofs.insertion.with_first.Goals as goal

pub returns : goal.returns
returns c =
    let control = control_view c.args.control.now in
    let front : c.in_ok-out.out.items ≡ take (length c.args.rest.now - length c.in-Some.operation.behind.now) c.args.rest.now = search rules in
    c.from_vec.ensures ∙ (c.in_ok-push_list.ensures
    ∙ (ap (λ (xs : List ℕ). xs ++ list_with_first control c.in-Some.operation.behind.now) front ∙ put_first control c.args.rest.now _ c.in-Some.ensures.first.is))
