use Rattle.std.proofs.Common.{arith}
use Rattle.lload_links.proofs.ReadSteps.{bytes_more}
use Rattle.lload_links.proofs.mem_link.byte_count.Goals as goal

pub loop-step-preserved : goal.loop-step-preserved
loop-step-preserved c =
    let more = bytes_more c.args.reads.now c.loop-step.step-index c.step-item.result c.loop-step-test.true c.step-item.is in
    omega (arith, more)
