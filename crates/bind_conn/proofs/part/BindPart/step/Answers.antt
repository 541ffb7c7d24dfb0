use Rattle.std.proofs.Common.{refl}
use Rattle.lload_names.specs.declared.inputs.Input.TheVariants.{Arrive, LinkGone, Stall, Flow}
use Rattle.conn_core.proofs.Turns.{on-ok}
use Rattle.bind_conn.proofs.Turns.{nothing-turned}
use Rattle.bind_conn.proofs.part.BindPart.step.Goals as goal

pub returns-in-LinkUp-clause-turned : goal.returns-in-LinkUp-clause-turned
returns-in-LinkUp-clause-turned c = rw c.in-LinkUp.is (on-ok c.step_link.result (λ turned s p h fit. turned s p h) c.step_link.ensures.turned)

pub returns-in-Message-clause-turned : goal.returns-in-Message-clause-turned
returns-in-Message-clause-turned c = rw c.in-Message.is (on-ok c.step_message.result (λ turned s p h fit. turned s p h) c.step_message.ensures.turned)

pub returns-in-LetterFrom-clause-turned : goal.returns-in-LetterFrom-clause-turned
returns-in-LetterFrom-clause-turned c = rw c.in-LetterFrom.is (on-ok c.step_letter.result (λ turned s p h fit. turned s p _ _ h fit) c.step_letter.ensures.turned)

pub returns-in-Tick-clause-turned : goal.returns-in-Tick-clause-turned
returns-in-Tick-clause-turned c = rw c.in-Tick.is (on-ok c.step_tick.result (λ turned s p h fit. turned s p h) c.step_tick.ensures.turned)

pub returns-in-Arrive-clause-turned : goal.returns-in-Arrive-clause-turned
returns-in-Arrive-clause-turned c = rw c.in-Arrive.is (λ s p h fit. nothing-turned s p c.args.self.now (Arrive c.in-Arrive.now) c.args.out.now h refl)

pub returns-in-LinkGone-clause-turned : goal.returns-in-LinkGone-clause-turned
returns-in-LinkGone-clause-turned c = rw c.in-LinkGone.is (λ s p h fit. nothing-turned s p c.args.self.now (LinkGone c.in-LinkGone.now c.in-LinkGone.why) c.args.out.now h refl)

pub returns-in-Stall-clause-turned : goal.returns-in-Stall-clause-turned
returns-in-Stall-clause-turned c = rw c.in-Stall.is (λ s p h fit. nothing-turned s p c.args.self.now (Stall c.in-Stall.now) c.args.out.now h refl)

pub returns-in-Flow-clause-turned : goal.returns-in-Flow-clause-turned
returns-in-Flow-clause-turned c = rw c.in-Flow.is (λ s p h fit. nothing-turned s p c.args.self.now (Flow c.in-Flow.now) c.args.out.now h refl)
