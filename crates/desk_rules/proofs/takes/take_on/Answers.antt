use Rattle.std.proofs.Common.{◌≡◌, ◌+◌, ◌&&◌, slice_set, refl, sym, ap, ◌∙◌, arith}
use Rattle.ready_set.specs.Readies.{has}
use Rattle.desk_tables.specs.Rows.{index_of, kept, is_ready}
use Rattle.desk_rules.proofs.Losses.{has-server, is-some}
use Rattle.desk_rules.proofs.Gains.{viable-has-row, taken-tells}
use Rattle.desk_rules.proofs.takes.take_on.Goals as goal

pub returns-in_default-clause-taken : goal.returns-in_default-clause-taken
returns-in_default-clause-taken c = λ s f ps k viable more. absurd (let bad = viable-has-row s f c.args.conn c.args.tables.now k (sym c.in_default.ensures) viable in cc)

pub returns-in_default-server_at-clause-taken : goal.returns-in_default-server_at-clause-taken
returns-in_default-server_at-clause-taken c = λ s f ps k viable more. absurd (let bad = has-server s f c.args.conn c.args.tables.now c.in-Some.row k (sym c.in-Some.ensures) (sym c.in_default-server_at.ensures) in cc)

pub returns-clause-taken : goal.returns-clause-taken
returns-clause-taken c = λ s f ps k viable more.
    let d = c.args.tables.now in
    let r = c.in-Some.row in
    let v = c.in-Some-server_at.server in
    let up : c.in-Some-checked_add.pending ≡ r.pending + 1 = search (c.in-Some-checked_add.ensures) in
    let count : c.in-Some-checked_add-2.count ≡ v.pending + 1 = omega (arith, c.in-Some-checked_add-2.ensures) in
    taken-tells s f c.args.conn ps r v d k (omega (arith, c.ranges.conn.fits)) (sym c.in-Some.ensures) (sym c.in-Some-server_at.ensures) more
    (record { rounds = d.rounds; servers = c.write_server.new.servers; conns = c.keep.new.self; ready = c.hide.new.ready })
    (c.keep.ensures.here (is-some _ r (sym c.in-Some.ensures)) ∙ ap (λ m. kept (record r { pending = m })) up)
    c.keep.ensures.others
    (c.hide.ensures.here ∙ ap (λ m. has d.ready (index_of r) c.args.conn && is_ready (record r { pending = m })) up)
    c.hide.ensures.others refl
    (c.write_server.ensures ∙ ap (λ m. slice_set d.servers.items r.spot.server (record v { pending = m })) count)
