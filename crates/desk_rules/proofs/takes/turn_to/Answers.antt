use Rattle.std.proofs.Common.{slice_set, Some, refl, sym, ap, ◌∙◌}
use Rattle.desk_tables.specs.Lanes.{lane_of, with_lane}
use Rattle.desk_rules.proofs.Losses.{has-server}
use Rattle.desk_rules.proofs.Gains.{viable-has-row}
use Rattle.desk_rules.proofs.Turns.{turned-tells}
use Rattle.desk_rules.proofs.takes.turn_to.Goals as goal

pub returns-in_default-clause-turned : goal.returns-in_default-clause-turned
returns-in_default-clause-turned c = λ s f last k viable turn. absurd (let bad = viable-has-row s f c.args.conn c.args.tables.now k (sym c.in_default.ensures) viable in cc)

pub returns-in_default-server_at-clause-turned : goal.returns-in_default-server_at-clause-turned
returns-in_default-server_at-clause-turned c = λ s f last k viable turn. absurd (let bad = has-server s f c.args.conn c.args.tables.now c.in-Some.row k (sym c.in-Some.ensures) (sym c.in_default-server_at.ensures) in cc)

pub returns-clause-turned : goal.returns-clause-turned
returns-clause-turned c = λ s f last k viable turn.
    let d = c.args.tables.now in
    let r = c.in-Some.row in
    let v = c.in-Some-server_at.server in
    turned-tells s f c.args.conn last r v d k (sym c.in-Some.ensures) (sym c.in-Some-server_at.ensures) turn
    (record { rounds = d.rounds; servers = c.write_server.new.servers; conns = d.conns; ready = d.ready })
    refl refl refl
    (c.write_server.ensures ∙ ap (slice_set d.servers.items r.spot.server) (c.chosen.ensures ∙ ap (λ i. record (with_lane r.place.kind (record (lane_of r.place.kind v) { last = Some i }) v) { pending = v.pending }) c.index.ensures))
