use Rattle.std.proofs.Common.{ap, ◌∙◌, length}
use Rattle.lload_links.specs.Plans.{bytes_of}
use Rattle.lload_links.proofs.ReadSteps.{bytes_of_met}
use Rattle.lload_links.proofs.mem_link.look.Goals as goal

pub returns-in-None-clause-bytes : goal.returns-in-None-clause-bytes
returns-in-None-clause-bytes c = ap length (bytes_of_met c.args.written _ c.args.reads.now.items c.in-None.ensures.due)

pub returns-in-Some-NotYet-clause-bytes : goal.returns-in-Some-NotYet-clause-bytes
returns-in-Some-NotYet-clause-bytes c =
    let met = rw c.in-Some-NotYet.field-0-is at c.in-Some-NotYet.ensures.due in
    ap length (bytes_of_met c.args.written _ c.args.reads.now.items met)

pub returns-in-Some-Until-clause-bytes : goal.returns-in-Some-Until-clause-bytes
returns-in-Some-Until-clause-bytes c =
    let met = rw c.in-Some-Until.field-0-is at c.in-Some-Until.ensures.due in
    ap (λ reads. length (bytes_of reads)) c.push_front_reserved.ensures.items
    ∙ ap length (bytes_of_met c.args.written _ c.args.reads.now.items met)

pub returns-in-Some-clause-bytes : goal.returns-in-Some-clause-bytes
returns-in-Some-clause-bytes c =
    ap (λ reads. length (bytes_of reads)) c.push_front_reserved-in-Some.ensures.items
    ∙ ap length (bytes_of_met c.args.written _ c.args.reads.now.items c.in-Some.ensures.due)
