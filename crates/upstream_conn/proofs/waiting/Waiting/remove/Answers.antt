use Rattle.std.proofs.Common.{ℕ, List, ◌==◌, not, filter, ap, sym, ◌∙◌, subst}
use Rattle.upstream_conn.specs.Waits.{RisesFrom}
use Rattle.upstream_conn.proofs.Waits.{remove-same, rises-remove}
use Rattle.upstream_conn.proofs.waiting.Waiting.remove.Goals as goal

pub invariant_of-self : goal.invariant_of-self
invariant_of-self c = subst (λ (l : List ℕ). RisesFrom 0 l) (sym (c.remove.ensures.keys ∙ remove-same 0 c.args.client c.self.inside.clients.keys c.self.invariant)) (rises-remove 0 c.args.client c.self.inside.clients.keys c.self.invariant)

pub returns : goal.returns
returns c = c.remove.ensures.keys ∙ remove-same 0 c.args.client c.self.inside.clients.keys c.self.invariant ∙ ap (filter (λ d. not (d == c.args.client))) c.self.view_is
