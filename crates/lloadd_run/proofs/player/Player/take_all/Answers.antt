use Rattle.std.proofs.Common.{take, drop, suc, get_or}
use Rattle.std.proofs.lemmas.Result.{err_from_is_err_and}
use Rattle.lloadd_run.proofs.PlayerLaws.{takes_stop}
use Rattle.lloadd_run.proofs.TextLaws.{split_at}
use Rattle.lloadd_run.proofs.player.Player.take_all.Goals as goal

pub returns-in_err-take-clause-takes : goal.returns-in_err-take-clause-takes
returns-in_err-take-clause-takes g c =
    let p = err_from_is_err_and c.from_residual.result c.from_residual.ensures.1 in
    let stopped = takes_stop c.in_err-take.field-0.0 _ _ _ (take c.loop-byte.byte-index c.args.bytes.now) (get_or c.args.bytes.now c.loop-byte.byte-index 0) (drop (suc c.loop-byte.byte-index) c.args.bytes.now) _ _ _ c.loop-byte.invariant.stood c.in_err-take.ensures.takes in
    let all = split_at c.args.bytes.now c.loop-byte.byte-index c.loop-byte-test.true in
    rw (p.1, p.2) (rw all at stopped)
