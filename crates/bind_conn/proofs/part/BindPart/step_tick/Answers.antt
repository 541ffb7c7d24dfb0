use Rattle.std.proofs.Common.{Bool, ap, sym, ◌∙◌}
use Rattle.lload_names.specs.declared.inputs.Input.TheVariants.{Tick}
use Rattle.part_spec.specs.Inputs.{where_so}
use Rattle.part_spec.specs.BindTurn.{ticks}
use Rattle.bind_conn.specs.Part.{state}
use Rattle.conn_core.proofs.Turns.{present}
use Rattle.bind_conn.proofs.Turns.{step-turned}
use Rattle.bind_conn.proofs.part.BindPart.step_tick.Goals as goal

pub returns-clause-turned : goal.returns-clause-turned
returns-clause-turned c = λ s p h.
    let u = c.args.self.now in
    let k = h.knows in
    let l = c.in_ok-tick.ensures.knows s k in
    step-turned s p u c.drain.new.self (state c.tick.new.self) (Tick c.args.now) c.args.out.now c.tick.new.out c.drain.new.out c.moment_for-at.result (ticks s (state u) c.moment_for-at.result) h c.moment_for-at.ensures
    (ap (λ (b : Bool). where_so b (ticks s (state u) c.moment_for-at.result)) (present u.core.linked u.core.down (sym c.is_linked.ensures ∙ c.if-not-is_linked.false) (sym c.is_down.ensures ∙ c.if-is_down.false)))
    (c.in_ok-tick.ensures.did s k) (c.drain.ensures.did s l) (c.drain.ensures.knows s l) (c.drain.ensures.undrained s l)
