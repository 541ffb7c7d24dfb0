use Rattle.std.proofs.Common.{◌<◌, ◌≤◌, ◌+◌, List, [], ◌∷◌, ◌++◌, ap, sym, subst, ◌∙◌, arith}
use Rattle.part_spec.specs.World.{Flight}
use Rattle.letter_queues.specs.declared.spot.Spot.{Spot}
use Rattle.letter_queues.specs.Queues.{queue}
use Rattle.letter_queues.specs.Rows.{flights_at, AreNumbered}
use Rattle.letter_queues.proofs.Inserts.{insert-last, numbered-wider, numbered-insert}
use Rattle.letter_queues.proofs.sorted.SortedLetters.put_last.Goals as goal

pub invariant_of-self : goal.invariant_of-self
invariant_of-self c =
    let low = c.self.inside.low in
    let high = c.self.inside.high in
    let es = c.self.inside.rows.entries in
    let spot : Spot = record { receiver = c.args.posted.to; sender = c.args.sender; number = c.self.inside.high } in
    let above : low < high = c.self.invariant.0 in
    let over : low < high + 1 = omega (arith, above) in
    let below : low ≤ low = omega arith in
    let upto : high ≤ high + 1 = omega arith in
    let from : low < high = above in
    let to : high < high + 1 = omega arith in
    (over, (c.insert.ensures.ordered, subst (AreNumbered (low) (high + 1)) (sym c.in-Ok.ensures.entries) (numbered-insert spot c.args.posted.letter (low) (high + 1) es (numbered-wider low high (low) (high + 1) es c.self.invariant.1.1 below upto) from to)))

pub returns-in-Ok-clause-put : goal.returns-in-Ok-clause-put
returns-in-Ok-clause-put c = λ s r.
    let es = c.self.inside.rows.entries in
    let spot : Spot = record { receiver = c.args.posted.to; sender = c.args.sender; number = c.self.inside.high } in
    ap (λ (v : List Flight). queue s r (v ++ (record { from = c.args.sender; posted = c.args.posted }) ∷ [])) (sym c.self.view_is)
    ∙ insert-last spot c.args.posted.letter c.self.inside.low es c.self.invariant.1.0 c.self.invariant.1.1 s r
    ∙ ap (λ e. queue s r (flights_at e)) (sym c.in-Ok.ensures.entries)
