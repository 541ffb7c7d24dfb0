use Rattle.std.proofs.Common.{◌≡◌, ◌-◌, length, take, drop, arith, length-drop}
use Rattle.std.proofs.lemmas.Grind.{common_steps}
use Rattle.lloadd_run.proofs.AmountLaws.{wrote_piece, part_stopped}
use Rattle.lloadd_run.proofs.writing.write_all.Goals as goal

pub loop-at-preserved : goal.loop-at-preserved
loop-at-preserved g c =
    let all : take (length c.args.text.now - c.loop-at.at) (drop c.loop-at.at c.args.text.now) ≡ drop c.loop-at.at c.args.text.now = grind (arith, common_steps) in
    let told = rw all at c.in-Put.ensures.appended in record {
      within = let t = told.0 in let w = c.loop-at.invariant.within in omega (arith, length-drop c.loop-at.at c.args.text.now);
      later = omega (arith, c.in-Put.ensures.never_falls);
      wrote = wrote_piece _ _ _ c.args.text.now c.loop-at.at c.in-Put.n c.loop-at.invariant.wrote told.2;
    }

pub returns-in-Failed-clause-part : goal.returns-in-Failed-clause-part
returns-in-Failed-clause-part g c = part_stopped _ _ _ c.args.text.now c.loop-at.at c.loop-at.invariant.wrote c.in-Failed.ensures.appended

pub returns-in-NoMemory-clause-part : goal.returns-in-NoMemory-clause-part
returns-in-NoMemory-clause-part g c = part_stopped _ _ _ c.args.text.now c.loop-at.at c.loop-at.invariant.wrote c.in-NoMemory.ensures.appended
