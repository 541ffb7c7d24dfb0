use Rattle.std.proofs.Common.{◌≡◌, Some, None, sym}
use Rattle.io_workers.specs.Places.{due}
use Rattle.io_workers.proofs.Forks.{at_Fork, fork-none, fork-due-low, fork-due-high}
use Rattle.io_workers.proofs.tree.Tree.+due.Goals as goal

pub returns-then-now-earliest : goal.returns-then-now-earliest
returns-then-now-earliest t c =
    let f = at_Fork c.self.view_is c.self.invariant c.in-Fork.is in
    sym (fork-none f c.args.now c.if-now-earliest.true)

pub returns-in-Some : goal.returns-in-Some
returns-in-Some t c =
    let f = at_Fork c.self.view_is c.self.invariant c.in-Fork.is in
    let found : due c.args.now c.in-Fork.low.value ≡ Some c.in-Some.conn = cc (c.due.ensures, c.deref.ensures, c.in-Some.is) in
    sym (fork-due-low f c.args.now c.in-Some.conn found)

pub returns-in-None : goal.returns-in-None
returns-in-None t c =
    let f = at_Fork c.self.view_is c.self.invariant c.in-Fork.is in
    let none : due c.args.now c.in-Fork.low.value ≡ None = cc (c.due.ensures, c.deref.ensures, c.in-None.is) in
    cc (fork-due-high f c.args.now none, c.due-in-None.ensures, c.deref-in-None.ensures)
