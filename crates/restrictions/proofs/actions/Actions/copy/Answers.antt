use Rattle.std.proofs.Common.{◌∙◌}
use Rattle.restrictions.proofs.Entries.{bytes_cloned, cloned}
use Rattle.restrictions.proofs.actions.Actions.copy.Goals as goal

pub returns : goal.returns
returns c = cloned _ _ (λ x y h. bytes_cloned x.items y.items h.0) (λ x y h. h) _ _ c.in_ok-clone.ensures.cases ∙ c.self.view_is
