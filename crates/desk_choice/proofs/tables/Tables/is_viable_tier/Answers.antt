use Rattle.std.proofs.Common.{arith}
use Rattle.desk_choice.proofs.Tiers.{viable-found, viable-passed, viable-none}
use Rattle.desk_choice.proofs.tables.Tables.is_viable_tier.Goals as goal

pub returns-then-has_viable : goal.returns-then-has_viable
returns-then-has_viable c = λ s f i t k h. viable-found s f c.args.self.now i t c.args.round.now c.args.kind c.loop-place.place k h (omega (arith, c.loop-place-test.true, c.count-place-end.ensures)) (c.loop-place.invariant s f i t k h) c.if-has_viable.ensures

pub loop-place-preserved : goal.loop-place-preserved
loop-place-preserved c = λ s f i t k h. viable-passed s f c.args.self.now i t c.args.round.now c.args.kind c.loop-place.place k h (omega (arith, c.loop-place-test.true, c.count-place-end.ensures)) (c.loop-place.invariant s f i t k h) c.if-has_viable.ensures

pub returns : goal.returns
returns c = λ s f i t k h. viable-none s f c.args.self.now i t c.args.round.now c.args.kind c.loop-place.place k h (omega (arith, c.loop-place-test.false, c.count-place-end.ensures)) (c.loop-place.invariant s f i t k h)
