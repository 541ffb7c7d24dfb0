use Rattle.std.proofs.Common.{◌∙◌, sym, is_some, ap, List}
use Rattle.lload_spec.specs.Settings.{Restriction}
use Rattle.restrictions.specs.Actions.{restriction_of}
use Rattle.restrictions.proofs.Entries.{there}
use Rattle.restrictions.proofs.actions.Actions.has.Goals as goal

pub returns : goal.returns
returns c = c.contains_key.ensures ∙ (sym (there c.args.oid.now c.self.inside.by_oid.entries) ∙ ap (λ (rs : List Restriction). is_some (restriction_of c.args.oid.now rs)) c.self.view_is)
