use Rattle.load_desk.proofs.Turns.{on-ok}
use Rattle.load_desk.proofs.Ending.{told-none}
use Rattle.desk_rules.specs.Latencies.{with_means}
use Rattle.load_desk.proofs.ends.lessen.Goals as goal

pub returns-in-None-clause-less : goal.returns-in-None-clause-less
returns-in-None-clause-less c = rw c.in-None.is (on-ok c.release.result (λ released s f less before after k fewer rings told. told-none s (record f { pending = less }) c.args.conn before after c.release.new.tables told (released s (with_means f before) less k fewer)) c.release.ensures.released)

pub returns-in-Some-clause-rings : goal.returns-in-Some-clause-rings
returns-in-Some-clause-rings c = rw c.in-Some.is (on-ok c.ended.result (λ kept s f less before after k fewer rings told. kept s f less before after k fewer rings told) c.ended.ensures.rings)
