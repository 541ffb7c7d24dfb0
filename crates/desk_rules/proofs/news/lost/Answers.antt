use Rattle.std.proofs.Common.{◌-◌, ◌==◌, ◌&&◌, slice_set, refl, sym, ap, ◌∙◌, arith}
use Rattle.ready_set.specs.Readies.{has}
use Rattle.desk_tables.specs.Lanes.{lane_of, with_lane}
use Rattle.desk_rules.proofs.Losses.{lost-tells, lost-none, no-row, idle-row, has-server, is-some}
use Rattle.desk_rules.proofs.news.lost.Goals as goal

pub returns-in_default-clause-lost : goal.returns-in_default-clause-lost
returns-in_default-clause-lost c = λ s f k. lost-none s f c.args.conn c.args.tables.now (no-row s f c.args.conn c.args.tables.now k (sym c.in_default.ensures)) k

pub returns-then-not-row-clause-lost : goal.returns-then-not-row-clause-lost
returns-then-not-row-clause-lost c = λ s f k. lost-none s f c.args.conn c.args.tables.now (idle-row s f c.args.conn c.args.tables.now c.in-Some.row k (sym c.in-Some.ensures) (grind (arith, c.if-not-row.true))) k

pub returns-in_default-server_at-clause-lost : goal.returns-in_default-server_at-clause-lost
returns-in_default-server_at-clause-lost c = λ s f k. absurd (let bad = has-server s f c.args.conn c.args.tables.now c.in-Some.row k (sym c.in-Some.ensures) (sym c.in_default-server_at.ensures) in cc)

pub returns-clause-lost : goal.returns-clause-lost
returns-clause-lost c = λ s f k.
    let d = c.args.tables.now in
    let r = c.in-Some.row in
    let v = c.in-Some-server_at.server in
    lost-tells s f c.args.conn r v d k (sym c.in-Some.ensures) (grind (arith, c.if-not-row.false)) (sym c.in-Some-server_at.ensures)
    (record { rounds = d.rounds; servers = c.write_server.new.servers; conns = c.keep.new.self; ready = c.take.new.self })
    (c.keep.ensures.here (is-some _ r (sym c.in-Some.ensures))) c.keep.ensures.others
    (ap (λ i. has c.take.new.self i c.args.conn) (sym c.index.ensures) ∙ c.take.ensures.here)
    (λ j n l e. c.take.ensures.others j n l (ap (λ i. j == i && n == c.args.conn) c.index.ensures ∙ e)) refl
    (c.write_server.ensures ∙ ap (λ w. slice_set d.servers.items r.spot.server w) (c.seen.ensures ∙ ap (λ m. with_lane r.place.kind (record (lane_of r.place.kind v) { viable = m }) v) (c.saturating_sub-viable.ensures ∙ ap (λ l. l.viable - 1) c.lane.ensures)))
