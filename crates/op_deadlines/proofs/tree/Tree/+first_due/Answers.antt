use Rattle.std.proofs.Common.{◌≡◌, Some, None, sym}
use Rattle.op_deadlines.specs.Due.{lowest_due}
use Rattle.op_deadlines.proofs.Forks.{at_Fork, fork-none, fork-low-due, fork-high-due}
use Rattle.op_deadlines.proofs.tree.Tree.+first_due.Goals as goal

pub returns-then-not-is_past : goal.returns-then-not-is_past
returns-then-not-is_past t c =
    let f = at_Fork c.self.view_is c.self.invariant c.in-Fork.is in
    sym (fork-none f c.args.timeout c.args.now (sym c.if-not-is_past.ensures))

pub returns-in-Some : goal.returns-in-Some
returns-in-Some t c =
    let f = at_Fork c.self.view_is c.self.invariant c.in-Fork.is in
    let found : lowest_due c.args.timeout c.args.now c.in-Fork.low.value ≡ Some c.in-Some.id = cc (c.first_due.ensures, c.deref.ensures, c.in-Some.is) in
    sym (fork-low-due f c.args.timeout c.args.now c.in-Some.id found)

pub returns-in-None : goal.returns-in-None
returns-in-None t c =
    let f = at_Fork c.self.view_is c.self.invariant c.in-Fork.is in
    let none : lowest_due c.args.timeout c.args.now c.in-Fork.low.value ≡ None = cc (c.first_due.ensures, c.deref.ensures, c.in-None.is) in
    cc (fork-high-due f c.args.timeout c.args.now none, c.first_due-in-None.ensures, c.deref-in-None.ensures)
