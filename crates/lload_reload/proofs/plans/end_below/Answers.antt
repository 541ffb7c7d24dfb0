use Rattle.std.proofs.Common.{◌+◌, ◌-◌, ◌/◌, length, arith, refl, ap}
use Rattle.std.proofs.lemmas.Option.{slice_get_read}
use Rattle.lload_names.specs.declared.plans.Planned.{Planned}
use Rattle.lload_reload.proofs.Found.{not_below_at}
use Rattle.lload_reload.proofs.plans.end_below.Goals as goal

pub loop-low-preserved : goal.loop-low-preserved
loop-low-preserved c =
    let plans = c.args.plans.now in
    let middle = c.loop-low.low + (c.loop-low.high - c.loop-low.low) / 2 in
    let read = slice_get_read plans (length plans) middle c.index-plans-middle.result refl (omega (arith, c.loop-low.invariant.within, c.loop-low-test.true)) c.index-plans-middle.is in
    record {
      ordered = omega arith;
      within = omega (arith, c.loop-low.invariant.within, c.loop-low-test.true);
      below = c.loop-low.invariant.below;
      not_below = not_below_at c.args.conn middle plans c.index-plans-middle.result c.requires read
          (omega (arith, c.if-plans-middle.false, ap (λ (z : Planned). z.base) c.index-plans-middle.is));
    }
