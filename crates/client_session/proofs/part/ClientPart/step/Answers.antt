use Rattle.std.proofs.Common.{◌≡◌, max, ap, sym, ◌∙◌}
use Rattle.lload_names.specs.declared.inputs.Input.TheVariants.{Message, LinkGone, Stall, Flow}
use Rattle.client_session.proofs.Taken.{on-ok}
use Rattle.client_session.proofs.Turns.{turned-by, on-ok-all}
use Rattle.client_session.proofs.part.ClientPart.step.Goals as goal

pub returns-in-Arrive-clause-turned : goal.returns-in-Arrive-clause-turned
returns-in-Arrive-clause-turned c = rw c.in-Arrive.is (on-ok-all c.arrive.result (λ entries letters stands s p h fit. record { entries = entries s p h; letters = letters s p h; stands = stands s p h }) c.arrive.ensures.entries c.arrive.ensures.letters c.arrive.ensures.state)

pub returns-in-LetterFrom-clause-turned : goal.returns-in-LetterFrom-clause-turned
returns-in-LetterFrom-clause-turned c = rw c.in-LetterFrom.is (on-ok c.hear.result (λ turned s p h fit. turned s p _ _ h fit) c.hear.ensures.turned)

pub returns-in-Message-clause-turned : goal.returns-in-Message-clause-turned
returns-in-Message-clause-turned c = rw c.in-Message.is (on-ok c.take.result (λ did s p h fit. turned-by s p (Message c.in-Message.now c.in-Message.id c.in-Message.rest) c.max-at.result c.args.out.now _ _ (c.max-at.ensures ∙ ap (λ t. max t c.in-Message.now) (sym h.moment)) (did s p h)) c.take.ensures.did)

pub returns-in-LinkGone-clause-turned : goal.returns-in-LinkGone-clause-turned
returns-in-LinkGone-clause-turned c = rw c.in-LinkGone.is (on-ok c.lose.result (λ did s p h fit. turned-by s p (LinkGone c.in-LinkGone.now c.in-LinkGone.why) c.max-at-in-LinkGone.result c.args.out.now _ _ (c.max-at-in-LinkGone.ensures ∙ ap (λ t. max t c.in-LinkGone.now) (sym h.moment)) (did s p h)) c.lose.ensures.did)

pub returns-in-Stall-clause-turned : goal.returns-in-Stall-clause-turned
returns-in-Stall-clause-turned c = rw c.in-Stall.is (on-ok c.stall.result (λ did s p h fit. turned-by s p (Stall c.in-Stall.now) c.max-at-in-Stall.result c.args.out.now _ _ (c.max-at-in-Stall.ensures ∙ ap (λ t. max t c.in-Stall.now) (sym h.moment)) (did s p h)) c.stall.ensures.did)

pub returns-in-Flow-clause-turned : goal.returns-in-Flow-clause-turned
returns-in-Flow-clause-turned c = rw c.in-Flow.is (on-ok c.flow.result (λ did s p h fit. turned-by s p (Flow c.in-Flow.now) c.max-at-in-Flow.result c.args.out.now _ _ (c.max-at-in-Flow.ensures ∙ ap (λ t. max t c.in-Flow.now) (sym h.moment)) (did s p h)) c.flow.ensures.did)
