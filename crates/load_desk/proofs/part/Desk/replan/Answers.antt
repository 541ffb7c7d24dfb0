use Rattle.std.proofs.Common.{sym, ap, ◌∙◌}
use Rattle.std.specs.Prelude.{max}
use Rattle.lload_names.specs.declared.inputs.Input.TheVariants.{Reload}
use Rattle.load_desk.proofs.Turns.{on-ok, did-turned}
use Rattle.load_desk.proofs.part.Desk.replan.Goals as goal

pub returns-clause-turned : goal.returns-clause-turned
returns-clause-turned c = on-ok c.go_on_to.result (λ did s p h fit. did-turned s p (Reload c.args.now c.args.plan c.args.base) c.moment_for-at.result c.args.out.now c.go_on_to.new.out c.go_on_to.new.self (c.moment_for-at.ensures ∙ ap (λ m. max m c.args.now) (sym h.moment)) (did s p h fit)) c.go_on_to.ensures.did
