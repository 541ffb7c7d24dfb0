use Rattle.std.proofs.Common.{ℕ, List, ap, sym, ◌∙◌, subst, arith}
use Rattle.lload_spec.specs.Lists.{put_number}
use Rattle.upstream_conn.specs.Waits.{RisesFrom}
use Rattle.upstream_conn.proofs.Waits.{put-same, rises-put}
use Rattle.upstream_conn.proofs.waiting.Waiting.add.Goals as goal

pub invariant_of-self-2 : goal.invariant_of-self-2
invariant_of-self-2 c = subst (λ (l : List ℕ). RisesFrom 0 l) (sym (c.in_ok-insert.ensures.keys ∙ put-same c.args.client c.self.inside.clients.keys)) (rises-put 0 c.args.client c.self.inside.clients.keys (omega arith) c.self.invariant)

pub returns-clause-ok : goal.returns-clause-ok
returns-clause-ok c = c.in_ok-insert.ensures.keys ∙ put-same c.args.client c.self.inside.clients.keys ∙ ap (put_number c.args.client) c.self.view_is
