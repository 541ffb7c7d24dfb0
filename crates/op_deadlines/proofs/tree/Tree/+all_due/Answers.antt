use Rattle.std.proofs.Common.{◌++◌, ap, sym, ◌∙◌, append_assoc}
use Rattle.std.proofs.lemmas.List.{append-nil}
use Rattle.op_deadlines.specs.Due.{all_due}
use Rattle.op_deadlines.proofs.Forks.{at_Fork, fork-none-among, fork-among}
use Rattle.op_deadlines.proofs.tree.Tree.+all_due.Goals as goal

pub returns-then-not-is_past : goal.returns-then-not-is_past
returns-then-not-is_past t c =
    let f = at_Fork c.self.view_is c.self.invariant c.in-Fork.is in
    sym (ap (λ ids. c.args.due.now.items ++ ids) (fork-none-among f c.args.timeout c.args.now (sym c.if-not-is_past.ensures)) ∙ append-nil c.args.due.now.items)

pub returns-in_ok-all_due-in-Fork-2 : goal.returns-in_ok-all_due-in-Fork-2
returns-in_ok-all_due-in-Fork-2 t c =
    let f = at_Fork c.self.view_is c.self.invariant c.in-Fork.is in
    c.in_ok-all_due-in-Fork-2.ensures
    ∙ ap (λ d. d ++ all_due c.args.timeout c.args.now c.deref-in-Fork.result.now) c.in_ok-all_due-in-Fork.ensures
    ∙ append_assoc c.args.due.now.items (all_due c.args.timeout c.args.now c.deref.result.now) (all_due c.args.timeout c.args.now c.deref-in-Fork.result.now)
    ∙ ap (λ l. c.args.due.now.items ++ (all_due c.args.timeout c.args.now l ++ all_due c.args.timeout c.args.now c.deref-in-Fork.result.now)) c.deref.ensures
    ∙ ap (λ r. c.args.due.now.items ++ (all_due c.args.timeout c.args.now c.in-Fork.low.value ++ all_due c.args.timeout c.args.now r)) c.deref-in-Fork.ensures
    ∙ ap (λ ids. c.args.due.now.items ++ ids) (sym (fork-among f c.args.timeout c.args.now))
