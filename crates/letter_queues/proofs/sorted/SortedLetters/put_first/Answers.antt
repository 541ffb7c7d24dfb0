use Rattle.std.proofs.Common.{◌<◌, ◌≤◌, ◌-◌, List, ◌∷◌, ap, sym, subst, ◌∙◌, arith}
use Rattle.part_spec.specs.World.{Flight}
use Rattle.letter_queues.specs.declared.spot.Spot.{Spot}
use Rattle.letter_queues.specs.Queues.{queue}
use Rattle.letter_queues.specs.Rows.{flights_at, AreNumbered}
use Rattle.letter_queues.proofs.Inserts.{insert-first, numbered-wider, numbered-insert}
use Rattle.letter_queues.proofs.sorted.SortedLetters.put_first.Goals as goal

pub invariant_of-self : goal.invariant_of-self
invariant_of-self c =
    let low = c.self.inside.low in
    let high = c.self.inside.high in
    let es = c.self.inside.rows.entries in
    let spot : Spot = record { receiver = c.args.posted.to; sender = c.args.sender; number = c.self.inside.low } in
    let above : low < high = c.self.invariant.0 in
    let over : low - 1 < high = omega (arith, above) in
    let below : low - 1 ≤ low = omega arith in
    let upto : high ≤ high = omega arith in
    let from : low - 1 < low = omega (arith, c.if-number-eq0.false) in
    let to : low < high = above in
    (over, (c.insert.ensures.ordered, subst (AreNumbered (low - 1) (high)) (sym c.in-Ok.ensures.entries) (numbered-insert spot c.args.posted.letter (low - 1) (high) es (numbered-wider low high (low - 1) (high) es c.self.invariant.1.1 below upto) from to)))

pub returns-in-Ok-clause-put : goal.returns-in-Ok-clause-put
returns-in-Ok-clause-put c = λ s r.
    let es = c.self.inside.rows.entries in
    let spot : Spot = record { receiver = c.args.posted.to; sender = c.args.sender; number = c.self.inside.low } in
    ap (λ (v : List Flight). queue s r ((record { from = c.args.sender; posted = c.args.posted }) ∷ v)) (sym c.self.view_is)
    ∙ insert-first spot c.args.posted.letter c.self.inside.high es c.self.invariant.1.1 s r
    ∙ ap (λ e. queue s r (flights_at e)) (sym c.in-Ok.ensures.entries)
