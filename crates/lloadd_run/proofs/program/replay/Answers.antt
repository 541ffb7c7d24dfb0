use Rattle.std.proofs.Common.{◌≡◌, ap, ◌∙◌, arith, add-one}
use Rattle.std.proofs.Math.Nat.{min-eq_left}
use Rattle.std.proofs.lemmas.List.{length-take}
use Rattle.std.specs.Prelude.{Err}
use Rattle.lloadd_run.proofs.AmountLaws.{rose_later}
use Rattle.lloadd_run.proofs.RunLaws.{reading_first, reading_more, within_replayed, nothing_replayed, stopped_in, ended_at}
use Rattle.lloadd_run.proofs.program.replay.Goals as goal

pub returns-in_default : goal.returns-in_default
returns-in_default g c = nothing_replayed 67108864 _ _

pub loop-n-init : goal.loop-n-init
loop-n-init g c = record {
  read_later = omega arith;
  write_later = omega arith;
  lines = omega (arith, c.in-Ok.ensures.lines);
  reading = reading_first 67108864 c.in-Ok.player _ _ (c.in-Ok.ensures.stood _);
}

pub returns-in-End : goal.returns-in-End
returns-in-End g c =
    let ended = c.in-End.ensures.moved in
    rw c.ended.ensures (ended_at c.finish.result 67108864 c.loop-n.room c.next_line.result _ _ _ _ c.loop-n.player _ _ _ _ _ _ ended.0 ended.1 c.finish.ensures.finishes (λ h. rose_later _ _ _ c.loop-n.invariant.write_later (c.finish.ensures.fault h)) (c.next_line.ensures ∙ add-one c.loop-n.player.lines) c.loop-n.invariant.reading)

pub returns-in-Err : goal.returns-in-Err
returns-in-Err g c =
    let moved = c.in-Got.ensures.moved in
    let m = c.min.ensures in
    let takes = rw m at c.in-Err.ensures.takes in
    rw c.halted.ensures (stopped_in c.in-Err.halt 67108864 c.loop-n.room c.in-Got.n c.next_line-in-Err.result _ _ _ _ c.loop-n.player c.take_all.new.self c.read.new.buf _ _ _ _ _ _ moved.1 moved.2 takes (λ h. rose_later _ _ _ c.loop-n.invariant.write_later (c.in-Err.ensures.fault (ap Err h))) (c.next_line-in-Err.ensures ∙ add-one c.take_all.new.self.lines) c.loop-n.invariant.reading)

pub returns-then-n-room : goal.returns-then-n-room
returns-then-n-room g c =
    let moved = c.in-Got.ensures.moved in
    let m = c.min.ensures in
    let takes = rw m at c.in_default-take_all.ensures.takes in
    within_replayed 67108864 c.loop-n.room c.in-Got.n c.loop-n.player c.take_all.new.self c.read.new.buf _ _ _ _ _ _ c.if-n-room.true moved.1 moved.2 takes c.loop-n.invariant.reading

pub loop-n-preserved : goal.loop-n-preserved
loop-n-preserved g c =
    let moved = c.in-Got.ensures.moved in
    let m : c.min.result ≡ c.in-Got.n = c.min.ensures ∙ min-eq_left c.if-n-room.false in
    let takes = rw m at c.in_default-take_all.ensures.takes in record {
      read_later = omega (arith, c.in-Got.ensures.never_falls);
      write_later = omega (arith, c.in_default-take_all.ensures.never_falls);
      lines = let before = c.loop-n.invariant.lines in omega (arith, c.in_default-take_all.ensures.lines, length-take c.min.result c.read.new.buf, m, c.if-n-room.false);
      reading = reading_more 67108864 c.loop-n.room c.in-Got.n c.loop-n.player c.take_all.new.self c.read.new.buf _ _ _ _ _ _ c.if-n-room.false moved.1 moved.2 takes c.loop-n.invariant.reading;
    }
