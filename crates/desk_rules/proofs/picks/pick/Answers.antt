use Rattle.std.proofs.Common.{refl, sym}
use Rattle.desk_rules.proofs.Picking.{picked-tells, turn, place-within}
use Rattle.desk_rules.proofs.Rings.{picked-rings, one-pick}
use Rattle.desk_rules.proofs.picks.pick.Goals as goal

pub returns-clause-picked : goal.returns-clause-picked
returns-clause-picked c = λ s f last k viable pick.
    let d = c.args.tables.now in
    let r = c.in-Some.row in
    let was = sym c.in-Some.ensures in
    let x = turn s f c.args.conn last r d k was pick in
    picked-tells s f c.args.conn last r d k was pick
    (record { rounds = c.pick_in.new.rounds; servers = d.servers; conns = d.conns; ready = d.ready })
    (c.pick_in.ensures.here x.0 x.1 (place-within s f c.args.conn last r d k was pick)) c.pick_in.ensures.others refl refl refl

pub returns-clause-rings : goal.returns-clause-rings
returns-clause-rings c = λ s f latencies k viable rings.
    let d = c.args.tables.now in
    let r = c.in-Some.row in
    let was = sym c.in-Some.ensures in
    let now = one-pick s f c.args.conn in
    let x = turn s f c.args.conn now.0 r d k was now.1 in
    picked-rings s f c.args.conn now.0 r d k was now.1 latencies rings c.pick_in.new.rounds.items
    (c.pick_in.ensures.here x.0 x.1 (place-within s f c.args.conn now.0 r d k was now.1)) c.pick_in.ensures.others
