use Rattle.std.proofs.Common.{◌≡◌, ◌∷◌, [], arith, rules}
use Rattle.op_deadlines.proofs.Forks.{beside-last}
use Rattle.op_deadlines.proofs.tree.Tree.put_behind.Goals as goal

pub invariant_of-self : goal.invariant_of-self
invariant_of-self c =
    let one : c.in_ok-high.high.value ≡ (c.args.id, c.args.now) ∷ [] = search rules in
    let rest : c.replace.result ≡ c.args.self.now = search rules in
    beside-last c.args.id c.args.now c.args.first c.split_between-split.result c.args.last c.min-earliest.result c.in_ok-high.high.value c.args.self.now c.replace.result one rest c.requires.some c.requires.within c.split_between-split.ensures.above c.split_between-split.ensures.within (omega arith) (search rules)
