use Rattle.std.proofs.Common.{not, Bool, ap, sym, ◌∙◌}
use Rattle.lload_names.specs.declared.inputs.Input.TheVariants.{LinkUp}
use Rattle.part_spec.specs.Inputs.{where_so}
use Rattle.part_spec.specs.BindTurn.{link_up}
use Rattle.bind_conn.specs.Part.{state}
use Rattle.bind_conn.proofs.Turns.{step-turned, nothing-turned}
use Rattle.bind_conn.proofs.part.BindPart.step_link.Goals as goal

pub returns-then-is_linked-clause-turned : goal.returns-then-is_linked-clause-turned
returns-then-is_linked-clause-turned c = λ s p h. let u = c.args.self.now in nothing-turned s p u (LinkUp c.args.now) c.args.out.now h (ap (λ (b : Bool). where_so (not b) (link_up (state u))) (sym c.is_linked.ensures ∙ c.if-is_linked.true))

pub returns-clause-turned : goal.returns-clause-turned
returns-clause-turned c = λ s p h.
    let u = c.args.self.now in
    let k = h.knows in
    let l = c.in_ok-begin.ensures.knows s k in
    step-turned s p u c.drain.new.self (state c.begin.new.self) (LinkUp c.args.now) c.args.out.now c.begin.new.out c.drain.new.out c.moment_for-at.result (link_up (state u)) h c.moment_for-at.ensures
    (ap (λ (b : Bool). where_so (not b) (link_up (state u))) (sym c.is_linked.ensures ∙ c.if-is_linked.false))
    (c.in_ok-begin.ensures.did s _ k) (c.drain.ensures.did s l) (c.drain.ensures.knows s l) (c.drain.ensures.undrained s l)
