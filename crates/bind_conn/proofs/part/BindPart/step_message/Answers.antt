use Rattle.std.proofs.Common.{Bool, ap, sym, ◌∙◌}
use Rattle.lload_names.specs.declared.inputs.Input.TheVariants.{Message}
use Rattle.part_spec.specs.Inputs.{where_so}
use Rattle.part_spec.specs.BindTurn.{message}
use Rattle.bind_conn.specs.Part.{state}
use Rattle.conn_core.proofs.Turns.{present}
use Rattle.bind_conn.proofs.Turns.{step-turned}
use Rattle.bind_conn.proofs.part.BindPart.step_message.Goals as goal

pub returns-clause-turned : goal.returns-clause-turned
returns-clause-turned c = λ s p h.
    let u = c.args.self.now in
    let k = h.knows in
    let l = c.in_ok-hear.ensures.knows s k in
    let a = message s (state u) (record { id = c.args.id; rest = c.args.rest }) in
    step-turned s p u c.drain.new.self (state c.hear.new.self) (Message c.args.now c.args.id c.args.rest) c.args.out.now c.hear.new.out c.drain.new.out c.moment_for-at.result a h c.moment_for-at.ensures
    (ap (λ (b : Bool). where_so b a) (present u.core.linked u.core.down (sym c.is_linked.ensures ∙ c.if-not-is_linked.false) (sym c.is_down.ensures ∙ c.if-is_down.false)))
    (c.in_ok-hear.ensures.did s _ k) (c.drain.ensures.did s l) (c.drain.ensures.knows s l) (c.drain.ensures.undrained s l)
