use Rattle.std.proofs.Common.{◌≡◌, ◌<◌, ◌^◌, length, ap, arith, ◌∙◌}
use Rattle.lload_names.specs.Plans.{backends_of}
use Rattle.io_workers.proofs.Numbers.{places-fresh}
use Rattle.io_workers.proofs.Sides.{length-fresh}
use Rattle.io_workers.proofs.Waits.{length-retries}
use Rattle.io_workers.proofs.places.Places.new.Goals as goal

pub invariant_of-result : goal.invariant_of-result
invariant_of-result c =
    let count : c.len-count.result ≡ length c.deref.result.now = cc (c.len-count.ensures, c.deref.ensures.len) in
    let few : c.len-count.result < 2 ^ 63 = omega (arith, c.in_ok-retries.retries.small, c.len-count.ensures) in
    places-fresh c.len-count.result c.deref.result.now c.in_ok-tree.tree few count c.in_ok-tree.ensures

pub returns-clause-count : goal.returns-clause-count
returns-clause-count c =
    ap length c.in_ok-tree.ensures
    ∙ length-fresh 1 c.deref.result.now
    ∙ ap length (c.deref.ensures.value ∙ c.in_ok-retries.ensures)
    ∙ length-retries c.args.config.now.hosts (backends_of c.args.config.now.plan)
