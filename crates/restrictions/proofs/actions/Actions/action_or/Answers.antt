use Rattle.std.proofs.Common.{ap, ◌∙◌, sym, Option}
use Rattle.std.specs.Option.{option_map_or}
use Rattle.restrictions.specs.Actions.{action_view}
use Rattle.restrictions.specs.declared.action.Action.{Action}
use Rattle.restrictions.proofs.Entries.{action_found}
use Rattle.restrictions.proofs.actions.Actions.action_or.Goals as goal

pub returns-in-Some : goal.returns-in-Some
returns-in-Some c = rw (← c.self.view_is) (sym (action_found c.args.oid.now (action_view c.args.default) c.self.inside.by_oid.entries ∙ ap (λ (o : Option Action). option_map_or action_view o (action_view c.args.default)) (sym c.in-Some.ensures.value)))

pub returns-in-None : goal.returns-in-None
returns-in-None c = rw (← c.self.view_is) (sym (action_found c.args.oid.now (action_view c.args.default) c.self.inside.by_oid.entries ∙ ap (λ (o : Option Action). option_map_or action_view o (action_view c.args.default)) (sym c.in-None.ensures.value)))
