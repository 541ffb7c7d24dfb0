use Rattle.std.proofs.Common.{◌∙◌, arith}
use Rattle.id_table.proofs.Runs.{step-told, step-rest, step-made}
use Rattle.id_table.proofs.calls.run.Goals as goal

pub loop-next-preserved : goal.loop-next-preserved
loop-next-preserved g c =
    let ok = c.in_ok-make_call.ensures in record {
      told = step-told c.args.calls.now c.loop-next.next-index c.next-item.result c.loop-next.table c.make_call.new.table c.loop-next.answers.items c.push_reserved.new.self.items c.in_ok-make_call.field-0 c.loop-next-test.true c.next-item.is ok.answer ok.table c.push_reserved.ensures.items ∙ c.loop-next.invariant.told;
      rest = step-rest c.args.calls.now c.loop-next.next-index c.next-item.result c.loop-next.table c.make_call.new.table c.loop-next-test.true c.next-item.is ok.table ∙ c.loop-next.invariant.rest;
      made = step-made c.args.calls.now c.loop-next.next-index c.next-item.result _ c.loop-next.table c.make_call.new.table c.loop-next-test.true c.next-item.is c.loop-next.invariant.made ok.table;
      len = omega (arith, c.push_reserved.ensures.len, c.loop-next.invariant.len);
      capacity = c.push_reserved.ensures.capacity ∙ c.loop-next.invariant.capacity;
    }
