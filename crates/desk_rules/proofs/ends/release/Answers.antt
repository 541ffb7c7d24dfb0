use Rattle.std.proofs.Common.{◌&&◌, ◌||◌, not, slice_set, refl, sym, ap, ◌∙◌, arith}
use Rattle.std.proofs.lemmas.Result.{err_from_is_err_and}
use Rattle.ready_set.specs.Readies.{has}
use Rattle.desk_tables.specs.Rows.{index_of, kept, is_ready}
use Rattle.desk_rules.proofs.Losses.{has-server, is-some}
use Rattle.desk_rules.proofs.Releases.{released-none, released-tells, same-ready}
use Rattle.desk_rules.proofs.ends.release.Goals as goal

pub returns-in_default-clause-released : goal.returns-in_default-clause-released
returns-in_default-clause-released c = λ s f ps k less. released-none s f c.args.conn ps c.args.tables.now k (sym c.in_default.ensures) less

pub returns-in_default-server_at-clause-released : goal.returns-in_default-server_at-clause-released
returns-in_default-server_at-clause-released c = λ s f ps k less. absurd (let bad = has-server s f c.args.conn c.args.tables.now c.in-Some.row k (sym c.in-Some.ensures) (sym c.in_default-server_at.ensures) in cc)

pub returns-in_err-show-clause-err : goal.returns-in_err-show-clause-err
returns-in_err-show-clause-err c =
    let e = err_from_is_err_and c.from_residual.result c.from_residual.ensures.1 in
    rw e.1 (λ s f k. same-ready s f c.args.tables.now c.show.new.ready c.in_err-show.ensures.err k)

pub returns-clause-released : goal.returns-clause-released
returns-clause-released c = λ s f ps k less.
    let d = c.args.tables.now in
    let r = c.in-Some.row in
    let v = c.in-Some-server_at.server in
    released-tells s f c.args.conn ps r v d k (omega (arith, c.ranges.conn.fits)) (sym c.in-Some.ensures) (sym c.in-Some-server_at.ensures) less
    (record { rounds = d.rounds; servers = c.write_server.new.servers; conns = c.keep.new.self; ready = c.show.new.ready })
    (c.keep.ensures.here (is-some _ r (sym c.in-Some.ensures)) ∙ ap (λ m. kept (record r { pending = m })) c.saturating_sub.ensures)
    c.keep.ensures.others
    (c.in_ok-show.ensures.here ∙ ap (λ m. has d.ready (index_of r) c.args.conn || (is_ready (record r { pending = m }) && not (is_ready r))) c.saturating_sub.ensures)
    c.in_ok-show.ensures.others refl
    (c.write_server.ensures ∙ ap (λ m. slice_set d.servers.items r.spot.server (record v { pending = m })) c.saturating_sub-pending.ensures)
