use Rattle.std.proofs.Common.{◌≡◌, ◌-◌, ◌++◌, ap, rules, ◌∙◌}
use Rattle.std.proofs.Math.ListN.{set}
use Rattle.io_workers.specs.contracts.tree.Tree.{the_view}
use Rattle.io_workers.proofs.Forks.{at_Fork, fork-set-low, fork-set-high}
use Rattle.io_workers.proofs.tree.Tree.+set.Goals as goal
use Rattle.io_workers.proofs.tree.Tree.+set.Goals.{in-Empty, in-Leaf+then-i-eq0, in-Leaf+else-i-eq0, in-Fork+then-i-count, in-Fork+else-i-count}

pub returns : goal.returns
returns t c = elim c.match-self.branch [
  | in-Empty w ↦ ap the_view w.self-inside-is ∙ search rules
  | in-Leaf+then-i-eq0 w ↦ ap the_view w.self-inside-is ∙ search rules
  | in-Leaf+else-i-eq0 w ↦ ap the_view w.self-inside-is ∙ search rules
  | in-Fork+then-i-count w ↦
      let new : w.set.new.self ≡ set w.in-Fork.low.value c.args.i c.args.row = cc (w.set.ensures, w.deref_mut.ensures.value) in
      ap the_view w.self-inside-is ∙ ap (λ es. es ++ w.in-Fork.high.value) new ∙ fork-set-low (at_Fork c.self.view_is c.self.invariant w.in-Fork.is) c.args.i c.args.row w.if-i-count.true
  | in-Fork+else-i-count w ↦
      let new : w.set-else-i-count.new.self ≡ set w.in-Fork.high.value (c.args.i - w.in-Fork.count) c.args.row = cc (w.set-else-i-count.ensures, w.deref_mut-else-i-count.ensures.value) in
      ap the_view w.self-inside-is ∙ ap (λ es. w.in-Fork.low.value ++ es) new ∙ fork-set-high (at_Fork c.self.view_is c.self.invariant w.in-Fork.is) c.args.i c.args.row w.if-i-count.false
]
