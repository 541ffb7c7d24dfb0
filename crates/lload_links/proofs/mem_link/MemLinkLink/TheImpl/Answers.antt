-- What the trait promises of calls follows from what a link in memory promises.
use Rattle.std.proofs.Common.{refl, sym, ap, ◌∙◌, arith, length}
use Rattle.lload_links.specs.Tells.{after_read}
use Rattle.lload_links.specs.Held.{tells_of, due_reads, can_read}
use Rattle.lload_links.proofs.LinkSteps.{faults_read_rises, faults_read_rose, faults_written_rises, faults_written_rose, look_tells, not_ready, never_fails, not_read, read_tells, not_written}
use Rattle.lload_links.proofs.mem_link.MemLinkLink.TheImpl.Goals as goal

pub ready-tells : goal.ready-tells
ready-tells c = record {
  never_falls = let same = ap (λ l. l.faults) c.ensures.looked in omega (arith, same);
  failed = λ is. absurd (never_fails (can_read c.args.self.now) c.result c.ensures.ready is);
  not_yet = not_ready (can_read c.args.self.now) c.result c.ensures.ready;
  same = ap tells_of c.ensures.looked ∙ look_tells c.args.self.now;
}

pub read-tells : goal.read-tells
read-tells c =
    let room = length c.args.buf.now in
    let old = c.args.self.now in
    let faults = ap (λ l. l.faults) c.ensures.after in record {
      never_falls = rw faults (faults_read_rises _ old.faults);
      failed = λ is. rw faults (faults_read_rose _ old.faults (sym c.ensures.answer ∙ is) (rw faults at c.ensures.count));
      not_yet = λ is. not_read room (due_reads old) (sym c.ensures.answer ∙ is);
      moved = c.ensures.moved;
      told = ap tells_of c.ensures.after ∙ read_tells old room c.new.buf.now ∙ ap (λ answer. after_read (tells_of old) answer c.new.buf.now) (sym c.ensures.answer);
    }

pub write-tells : goal.write-tells
write-tells c =
    let old = c.args.self.now in
    let faults = ap (λ l. l.faults) c.ensures.after in record {
      never_falls = rw faults (faults_written_rises c.result old.faults);
      failed = λ is. rw faults (faults_written_rose c.result old.faults is (rw faults at c.ensures.count));
      not_yet = not_written (length c.args.piece.now) old.writes c.result c.ensures.answer;
      taken = c.ensures.taken;
      told = ap tells_of c.ensures.after;
    }
