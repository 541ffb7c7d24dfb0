use Rattle.std.proofs.Common.{List, slice_get, refl, sym, ap, ◌∙◌}
use Rattle.lload_spec.specs.Picks.{mean}
use Rattle.desk_tables.specs.Turns.{Turn}
use Rattle.desk_rules.proofs.Hearing.{turn, place-within}
use Rattle.desk_rules.proofs.Endings.{some-pending, ended-none, rings-none, ended-tells, ended-rings}
use Rattle.desk_rules.proofs.latencies.ended.Goals as goal

pub returns-in_default-clause-ended : goal.returns-in_default-clause-ended
returns-in_default-clause-ended c = λ s f less before after k fewer rings told. ended-none s f c.args.conn c.args.latency less before after told fewer c.args.tables.now c.release.new.tables k rings (c.in_ok-release.ensures.released s (record f { mean = λ b. mean (before b) }) less k fewer) c.release.ensures.rounds (sym c.in_default.ensures)

pub returns-in_default-clause-rings : goal.returns-in_default-clause-rings
returns-in_default-clause-rings c = λ s f less before after k fewer rings told. rings-none s f c.args.conn c.args.latency less before after told fewer c.args.tables.now c.release.new.tables k rings (c.in_ok-release.ensures.released s (record f { mean = λ b. mean (before b) }) less k fewer) c.release.ensures.rounds (sym c.in_default.ensures)

pub returns-in-Some-clause-ended : goal.returns-in-Some-clause-ended
returns-in-Some-clause-ended c = λ s f less before after k fewer rings told.
    let d = c.args.tables.now in
    let e = c.release.new.tables in
    let r = c.in-Some.row in
    let was = sym c.in-Some.ensures in
    let some = some-pending s f c.args.conn c.args.latency less before after told fewer in
    let x = turn s f c.args.conn c.args.latency before after told d k some rings r was in
    let same = ap (λ v. v.items) c.release.ensures.rounds in
    ended-tells s f c.args.conn c.args.latency less before after told fewer d e k rings (c.in_ok-release.ensures.released s (record f { mean = λ b. mean (before b) }) less k fewer) c.release.ensures.rounds r was
    (record { rounds = c.hear_in.new.rounds; servers = e.servers; conns = e.conns; ready = e.ready })
    (c.hear_in.ensures.here x.0 (ap (λ (ts : List Turn). slice_get ts r.spot.tier) same ∙ x.1) (place-within s f c.args.conn c.args.latency before after told d k some rings r was))
    (λ j ne. c.hear_in.ensures.others j ne ∙ ap (λ (ts : List Turn). slice_get ts j) same) refl refl refl

pub returns-in-Some-clause-rings : goal.returns-in-Some-clause-rings
returns-in-Some-clause-rings c = λ s f less before after k fewer rings told.
    let d = c.args.tables.now in
    let e = c.release.new.tables in
    let r = c.in-Some.row in
    let was = sym c.in-Some.ensures in
    let some = some-pending s f c.args.conn c.args.latency less before after told fewer in
    let x = turn s f c.args.conn c.args.latency before after told d k some rings r was in
    let same = ap (λ v. v.items) c.release.ensures.rounds in
    ended-rings s f c.args.conn c.args.latency less before after told fewer d e k rings (c.in_ok-release.ensures.released s (record f { mean = λ b. mean (before b) }) less k fewer) c.release.ensures.rounds r was c.hear_in.new.rounds.items
    (c.hear_in.ensures.here x.0 (ap (λ (ts : List Turn). slice_get ts r.spot.tier) same ∙ x.1) (place-within s f c.args.conn c.args.latency before after told d k some rings r was))
    (λ j ne. c.hear_in.ensures.others j ne ∙ ap (λ (ts : List Turn). slice_get ts j) same)
