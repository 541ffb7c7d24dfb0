use Rattle.std.proofs.Common.{refl}
use Rattle.lload_names.specs.declared.inputs.Input.TheVariants.{Arrive, LinkUp, Message, Tick, LinkGone, Stall, Flow}
use Rattle.load_desk.proofs.Turns.{on-ok, on-err, nothing-turned}
use Rattle.load_desk.proofs.part.Desk.step.Goals as goal

pub returns-in-LetterFrom-clause-turned : goal.returns-in-LetterFrom-clause-turned
returns-in-LetterFrom-clause-turned c = rw c.in-LetterFrom.is (on-ok c.step_letter.result (λ turned s p h fit. turned s p _ h fit) c.step_letter.ensures.turned)

pub returns-in-Reload-clause-turned : goal.returns-in-Reload-clause-turned
returns-in-Reload-clause-turned c = rw c.in-Reload.is (on-ok c.replan.result (λ turned s p h fit. turned s p h fit) c.replan.ensures.turned)

pub returns-in-Arrive-clause-turned : goal.returns-in-Arrive-clause-turned
returns-in-Arrive-clause-turned c = rw c.in-Arrive.is (λ s p h fit. nothing-turned s p (Arrive c.in-Arrive.now) c.args.out.now c.args.self.now h refl)

pub returns-in-LinkUp-clause-turned : goal.returns-in-LinkUp-clause-turned
returns-in-LinkUp-clause-turned c = rw c.in-LinkUp.is (λ s p h fit. nothing-turned s p (LinkUp c.in-LinkUp.now) c.args.out.now c.args.self.now h refl)

pub returns-in-Message-clause-turned : goal.returns-in-Message-clause-turned
returns-in-Message-clause-turned c = rw c.in-Message.is (λ s p h fit. nothing-turned s p (Message c.in-Message.now c.in-Message.id c.in-Message.rest) c.args.out.now c.args.self.now h refl)

pub returns-in-Tick-clause-turned : goal.returns-in-Tick-clause-turned
returns-in-Tick-clause-turned c = rw c.in-Tick.is (λ s p h fit. nothing-turned s p (Tick c.in-Tick.now) c.args.out.now c.args.self.now h refl)

pub returns-in-LinkGone-clause-turned : goal.returns-in-LinkGone-clause-turned
returns-in-LinkGone-clause-turned c = rw c.in-LinkGone.is (λ s p h fit. nothing-turned s p (LinkGone c.in-LinkGone.now c.in-LinkGone.why) c.args.out.now c.args.self.now h refl)

pub returns-in-Stall-clause-turned : goal.returns-in-Stall-clause-turned
returns-in-Stall-clause-turned c = rw c.in-Stall.is (λ s p h fit. nothing-turned s p (Stall c.in-Stall.now) c.args.out.now c.args.self.now h refl)

pub returns-clause-turned : goal.returns-clause-turned
returns-clause-turned c = rw c.in-Flow.is (λ s p h fit. nothing-turned s p (Flow c.in-Flow.now) c.args.out.now c.args.self.now h refl)
