use Rattle.load_desk.proofs.Ending.{ended-stands, taken-out, was-there}
use Rattle.load_desk.proofs.part.Desk.end.Goals as goal

pub returns-clause-ended : goal.returns-clause-ended
returns-clause-ended c = λ s p at h there.
    let d = c.args.self.now in
    ended-stands s p d at c.args.op c.args.conn c.args.latency h there c.lessen.new.tables c.take.new.self
    (λ f less before after k fewer rings told. c.in_ok-lessen.ensures.less s f less before after k fewer rings told)
    (λ f less before after k fewer rings told. c.in_ok-lessen.ensures.rings s f less before after k fewer rings told)
    (taken-out d.pending c.take.new.self c.args.op c.args.conn c.take.result (was-there s p d c.args.op c.args.conn h there) c.take.ensures.taken c.take.ensures.same)
    c.take.ensures.others
