use Rattle.std.proofs.Common.{Bool, ap, sym, ◌∙◌}
use Rattle.lload_names.specs.declared.inputs.Input.TheVariants.{LetterFrom}
use Rattle.part_spec.specs.Inputs.{where_so}
use Rattle.part_spec.specs.BindTurn.{letter}
use Rattle.bind_conn.specs.Part.{state}
use Rattle.bind_conn.proofs.Turns.{step-turned, nothing-turned}
use Rattle.bind_conn.proofs.part.BindPart.step_letter.Goals as goal

pub returns-then-not-is_linked-clause-turned : goal.returns-then-not-is_linked-clause-turned
returns-then-not-is_linked-clause-turned c = λ s p word sender h fit. let u = c.args.self.now in nothing-turned s p u (LetterFrom c.args.now word sender c.args.letter) c.args.out.now h (ap (λ (b : Bool). where_so b (letter s (state u) c.args.letter)) (sym c.is_linked.ensures ∙ c.if-not-is_linked.true))

pub returns-clause-turned : goal.returns-clause-turned
returns-clause-turned c = λ s p word sender h fit.
    let u = c.args.self.now in
    let k = h.knows in
    let l = c.in_ok-take.ensures.knows s k fit in
    step-turned s p u c.drain.new.self (state c.take.new.self) (LetterFrom c.args.now word sender c.args.letter) c.args.out.now c.take.new.out c.drain.new.out c.moment_for-at.result (letter s (state u) c.args.letter) h c.moment_for-at.ensures
    (ap (λ (b : Bool). where_so b (letter s (state u) c.args.letter)) (sym c.is_linked.ensures ∙ c.if-not-is_linked.false))
    (c.in_ok-take.ensures.did s sender k) (c.drain.ensures.did s l) (c.drain.ensures.knows s l) (c.drain.ensures.undrained s l)
