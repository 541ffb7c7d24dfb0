use Rattle.std.proofs.Common.{◌≡◌, ◌++◌, ◌≤◌, length, ap, rules, ◌∙◌}
use Rattle.std.specs.Ordering.{nat_cmp}
use Rattle.std.specs.BTreeMap.{is_at}
use Rattle.std.specs.Map.{remove_entry}
use Rattle.op_deadlines.proofs.Forks.{at_Fork, stopped-low, stopped-high, remove-at-low, remove-at-high, left-low, left-high}
use Rattle.op_deadlines.proofs.tree.Tree.+stop.Goals as goal

pub returns-then-is_empty : goal.returns-then-is_empty
returns-then-is_empty t c =
    let f = at_Fork c.self.view_is c.self.invariant c.in-Fork.is in
    let new : c.stop.new.self ≡ remove_entry (is_at (nat_cmp c.args.id)) c.in-Fork.low.value = search rules in
    let none : length c.stop.new.self ≡ 0 = search rules in
    c.rest.view_is ∙ c.replace-rest.ensures.value ∙ c.deref_mut-then-is_empty.ensures.value ∙ left-high f c.args.id c.stop.new.self c.if-id-split.true new none

pub invariant_of-self-then-id-split : goal.invariant_of-self-then-id-split
invariant_of-self-then-id-split t c =
    let f = at_Fork c.self.view_is c.self.invariant c.in-Fork.is in
    let new : c.stop.new.self ≡ remove_entry (is_at (nat_cmp c.args.id)) c.in-Fork.low.value = search rules in
    let some : 1 ≤ length c.stop.new.self = search rules in
    stopped-low f c.args.id c.min.result c.stop.new.self new some (search rules)

pub returns-then-id-split : goal.returns-then-id-split
returns-then-id-split t c =
    let f = at_Fork c.self.view_is c.self.invariant c.in-Fork.is in
    let new : c.stop.new.self ≡ remove_entry (is_at (nat_cmp c.args.id)) c.in-Fork.low.value = search rules in
    ap (λ es. es ++ c.in-Fork.high.value) new ∙ remove-at-low f c.args.id c.if-id-split.true

pub returns-then-is_empty-2 : goal.returns-then-is_empty-2
returns-then-is_empty-2 t c =
    let f = at_Fork c.self.view_is c.self.invariant c.in-Fork.is in
    let new : c.stop-in-Fork.new.self ≡ remove_entry (is_at (nat_cmp c.args.id)) c.in-Fork.high.value = search rules in
    let none : length c.stop-in-Fork.new.self ≡ 0 = search rules in
    c.rest-then-is_empty-2.view_is ∙ c.replace-rest-then-is_empty-2.ensures.value ∙ c.deref_mut-then-is_empty-2.ensures.value ∙ left-low f c.args.id c.stop-in-Fork.new.self c.if-id-split.false new none

pub invariant_of-self-in-Fork : goal.invariant_of-self-in-Fork
invariant_of-self-in-Fork t c =
    let f = at_Fork c.self.view_is c.self.invariant c.in-Fork.is in
    let new : c.stop-in-Fork.new.self ≡ remove_entry (is_at (nat_cmp c.args.id)) c.in-Fork.high.value = search rules in
    let some : 1 ≤ length c.stop-in-Fork.new.self = search rules in
    stopped-high f c.args.id c.min-in-Fork.result c.stop-in-Fork.new.self new some (search rules)

pub returns-else-is_empty-2 : goal.returns-else-is_empty-2
returns-else-is_empty-2 t c =
    let f = at_Fork c.self.view_is c.self.invariant c.in-Fork.is in
    let new : c.stop-in-Fork.new.self ≡ remove_entry (is_at (nat_cmp c.args.id)) c.in-Fork.high.value = search rules in
    ap (λ es. c.in-Fork.low.value ++ es) new ∙ remove-at-high f c.args.id c.if-id-split.false
