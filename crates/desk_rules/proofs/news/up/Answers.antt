use Rattle.std.proofs.Common.{◌≡◌, ◌+◌, ◌-◌, ◌||◌, length, slice_get, slice_set, Some, refl, sym, ap, ◌∙◌, arith}
use Rattle.std.proofs.lemmas.Result.{err_from_is_err_and}
use Rattle.lload_spec.specs.Choice.{most_on}
use Rattle.ready_set.specs.Readies.{has}
use Rattle.desk_tables.specs.Rows.{row_of, is_ready}
use Rattle.desk_rules.specs.Rows.{pending_of}
use Rattle.desk_tables.specs.Lanes.{lane_of, with_lane}
use Rattle.desk_tables.specs.declared.conns.Conn.{Conn}
use Rattle.desk_rules.specs.Places.{IsSpot}
use Rattle.desk_rules.proofs.Arrivals.{not-numbered, not-elsewhere, not-missing, row-with, up-tells, same-tables}
use Rattle.desk_rules.proofs.news.up.Goals as goal

pub returns-in_default-clause-up : goal.returns-in_default-clause-up
returns-in_default-clause-up c = λ s f k is pl idle. absurd (not-numbered s f c.args.tables.now c.args.place k pl (λ j v e. c.in_default.ensures.none refl j v (ap (λ vs. slice_get vs j) c.as_slice.ensures.value ∙ e)))

pub returns-in_default-spot_at-clause-up : goal.returns-in_default-spot_at-clause-up
returns-in_default-spot_at-clause-up c = λ s f k is pl idle. absurd (not-elsewhere s f c.args.tables.now c.in-Some.index k (omega (arith, c.in-Some.ensures.within _ refl, ap length c.as_slice.ensures.value)) (λ i x e. c.in_default-spot_at.ensures.none refl i x (ap (λ xs. slice_get xs i) c.as_slice-2.ensures.value ∙ e)))

pub returns-in_default-server_at-clause-up : goal.returns-in_default-server_at-clause-up
returns-in_default-server_at-clause-up c = λ s f k is pl idle. absurd (not-missing c.args.tables.now c.in-Some.index (omega (arith, c.in-Some.ensures.within _ refl, ap length c.as_slice.ensures.value)) (sym c.in_default-server_at.ensures))

pub returns-in_err-enter-clause-err : goal.returns-in_err-enter-clause-err
returns-in_err-enter-clause-err c =
    let e = err_from_is_err_and c.from_residual.result c.from_residual.ensures.1 in
    rw e.1 (λ s f k idle. same-tables s f c.args.conn _ c.args.tables.now c.enter.new.tables k (omega (arith, c.ranges.conn.fits)) idle c.in_err-enter.ensures.rows c.in_err-enter.ensures.unready c.in_err-enter.ensures.undone (ap (λ x. x.items) c.in_err-enter.ensures.rounds) (ap (λ x. x.items) c.in_err-enter.ensures.servers))

pub returns-clause-up : goal.returns-clause-up
returns-clause-up c = λ s f k is pl idle.
    let d = c.args.tables.now in
    let j = c.in-Some.index in
    let v = c.in-Some-server_at.server in
    let kind = c.args.place.kind in
    let spot : IsSpot d.rounds.items j c.in-Some-spot_at.spot = rw (sym c.as_slice-2.ensures.value) (c.in-Some-spot_at.ensures.some _ refl) in
    let number = c.in-Some.ensures.number _ refl v (ap (λ vs. slice_get vs j) c.as_slice.ensures.value ∙ sym c.in-Some-server_at.ensures) in
    let row : row-with c.args.place c.in-Some-spot_at.spot c.most_on.result c.pending_on.result ≡ row-with c.args.place c.in-Some-spot_at.spot (most_on v.plan kind) (pending_of (row_of d.conns c.args.conn)) = λ i. row-with c.args.place c.in-Some-spot_at.spot (c.most_on.ensures i) (c.pending_on.ensures i) in
    let viable : c.in-Some-checked_add.viable ≡ (lane_of kind v).viable + 1 = omega (arith, c.in-Some-checked_add.ensures, ap (λ l. l.viable) c.lane.ensures) in
    up-tells s f c.args.conn c.args.place c.in-Some-spot_at.spot j v d k (omega (arith, c.ranges.conn.fits)) is pl idle (sym c.in-Some-server_at.ensures) number spot
    (record { rounds = c.enter.new.tables.rounds; servers = c.write_server.new.servers; conns = c.enter.new.tables.conns; ready = c.enter.new.tables.ready })
    (c.in_ok-enter.ensures.row ∙ ap Some row) c.in_ok-enter.ensures.others
    (c.in_ok-enter.ensures.ready ∙ ap (λ (r : Conn). has d.ready (c.args.place.place - 1) c.args.conn || is_ready r) row)
    c.in_ok-enter.ensures.unready (ap (λ x. x.items) c.in_ok-enter.ensures.rounds)
    (c.write_server.ensures ∙ ap (λ x. slice_set x.items j c.seen.result) c.in_ok-enter.ensures.servers ∙ ap (slice_set d.servers.items j) (c.seen.ensures ∙ ap (λ m. with_lane kind (record (lane_of kind v) { viable = m }) v) viable))
