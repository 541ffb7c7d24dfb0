use Rattle.std.proofs.Common.{◌≡◌, ◌++◌, ap, rules, ◌∙◌}
use Rattle.std.specs.Ordering.{nat_cmp}
use Rattle.std.specs.BTreeMap.{is_at}
use Rattle.std.specs.Map.{set_value}
use Rattle.op_deadlines.specs.contracts.tree.Tree.{the_view}
use Rattle.op_deadlines.proofs.Forks.{at_Fork, set-at-low, set-at-high, touched-low, touched-high}
use Rattle.op_deadlines.proofs.tree.Tree.+touch.Goals as goal
use Rattle.op_deadlines.proofs.tree.Tree.+touch.Goals.{in-Empty, in-Leaf+then-other-id, in-Leaf+else-other-id, in-Fork+then-id-split, in-Fork+else-id-split}

pub invariant_of-self : goal.invariant_of-self
invariant_of-self t c = elim c.match-self.branch [
  | in-Empty w ↦ rw w.self-inside-is c.self.invariant
  | in-Leaf+then-other-id w ↦ rw w.self-inside-is tt
  | in-Leaf+else-other-id w ↦ rw w.self-inside-is tt
  | in-Fork+then-id-split w ↦
      let new : w.touch.new.self ≡ set_value (is_at (nat_cmp c.args.id)) w.in-Fork.low.value c.args.now = cc (w.touch.ensures, w.deref_mut.ensures.value) in
      rw w.self-inside-is (touched-low (at_Fork c.self.view_is c.self.invariant w.in-Fork.is) c.args.id c.args.now w.min.result w.touch.new.self new (search rules))
  | in-Fork+else-id-split w ↦
      let new : w.touch-else-id-split.new.self ≡ set_value (is_at (nat_cmp c.args.id)) w.in-Fork.high.value c.args.now = cc (w.touch-else-id-split.ensures, w.deref_mut-else-id-split.ensures.value) in
      rw w.self-inside-is (touched-high (at_Fork c.self.view_is c.self.invariant w.in-Fork.is) c.args.id c.args.now w.min-else-id-split.result w.touch-else-id-split.new.self new (search rules))
]

pub returns : goal.returns
returns t c = elim c.match-self.branch [
  | in-Empty w ↦ ap the_view w.self-inside-is ∙ search rules
  | in-Leaf+then-other-id w ↦ ap the_view w.self-inside-is ∙ search rules
  | in-Leaf+else-other-id w ↦ ap the_view w.self-inside-is ∙ search rules
  | in-Fork+then-id-split w ↦
      let new : w.touch.new.self ≡ set_value (is_at (nat_cmp c.args.id)) w.in-Fork.low.value c.args.now = cc (w.touch.ensures, w.deref_mut.ensures.value) in
      ap the_view w.self-inside-is ∙ ap (λ es. es ++ w.in-Fork.high.value) new ∙ set-at-low (at_Fork c.self.view_is c.self.invariant w.in-Fork.is) c.args.id c.args.now w.if-id-split.true
  | in-Fork+else-id-split w ↦
      let new : w.touch-else-id-split.new.self ≡ set_value (is_at (nat_cmp c.args.id)) w.in-Fork.high.value c.args.now = cc (w.touch-else-id-split.ensures, w.deref_mut-else-id-split.ensures.value) in
      ap the_view w.self-inside-is ∙ ap (λ es. w.in-Fork.low.value ++ es) new ∙ set-at-high (at_Fork c.self.view_is c.self.invariant w.in-Fork.is) c.args.id c.args.now w.if-id-split.false
]
