use Rattle.std.proofs.Common.{refl, sym, ap, ◌∙◌}
use Rattle.std.specs.Prelude.{max}
use Rattle.lload_names.specs.declared.inputs.Input.TheVariants.{LetterFrom}
use Rattle.lload_names.specs.declared.names.Letter.TheVariants.{Ask, Returned, Ended, IsUp, IsRetired, IsDown, Choice, Forward, Reply, Failed, Drop, Leave, Pause, Resume}
use Rattle.load_desk.proofs.Turns.{on-ok, did-turned, nothing-turned}
use Rattle.load_desk.proofs.part.Desk.step_letter.Goals as goal

pub returns-in-Ask-clause-turned : goal.returns-in-Ask-clause-turned
returns-in-Ask-clause-turned c = rw c.in-Ask.is (on-ok c.ask.result (λ did s p sender h fit. did-turned s p (LetterFrom c.args.now c.args.word sender (Ask c.in-Ask.op c.in-Ask.want)) c.moment_for-at.result c.args.out.now c.ask.new.out c.ask.new.self (c.moment_for-at.ensures ∙ ap (λ m. max m c.args.now) (sym h.moment)) (did s p _ h fit)) c.ask.ensures.did)

pub returns-in-Returned-clause-turned : goal.returns-in-Returned-clause-turned
returns-in-Returned-clause-turned c = rw c.in-Returned.is (on-ok c.hear_returned.result (λ did s p sender h fit. did-turned s p (LetterFrom c.args.now c.args.word sender (Returned c.in-Returned.op c.in-Returned.conn)) c.moment_for-at.result c.args.out.now c.hear_returned.new.out c.hear_returned.new.self (c.moment_for-at.ensures ∙ ap (λ m. max m c.args.now) (sym h.moment)) (did s p _ h fit)) c.hear_returned.ensures.did)

pub returns-in-Ended-clause-turned : goal.returns-in-Ended-clause-turned
returns-in-Ended-clause-turned c = rw c.in-Ended.is (on-ok c.hear_ended.result (λ did s p sender h fit. did-turned s p (LetterFrom c.args.now c.args.word sender (Ended c.in-Ended.op c.in-Ended.conn c.in-Ended.latency)) c.moment_for-at.result c.args.out.now c.hear_ended.new.out c.hear_ended.new.self (c.moment_for-at.ensures ∙ ap (λ m. max m c.args.now) (sym h.moment)) (did s p _ h fit)) c.hear_ended.ensures.did)

pub returns-in-IsUp-clause-turned : goal.returns-in-IsUp-clause-turned
returns-in-IsUp-clause-turned c = rw c.in-IsUp.is (on-ok c.hear_up.result (λ did s p sender h fit. did-turned s p (LetterFrom c.args.now c.args.word sender (IsUp c.in-IsUp.conn)) c.moment_for-at.result c.args.out.now c.hear_up.new.out c.hear_up.new.self (c.moment_for-at.ensures ∙ ap (λ m. max m c.args.now) (sym h.moment)) (did s p _ h fit)) c.hear_up.ensures.did)

pub returns-in-IsRetired-clause-turned : goal.returns-in-IsRetired-clause-turned
returns-in-IsRetired-clause-turned c = rw c.in-IsRetired.is (on-ok c.hear_retired.result (λ did s p sender h fit. did-turned s p (LetterFrom c.args.now c.args.word sender (IsRetired c.in-IsRetired.conn)) c.moment_for-at.result c.args.out.now c.hear_retired.new.out c.hear_retired.new.self (c.moment_for-at.ensures ∙ ap (λ m. max m c.args.now) (sym h.moment)) (did s p _ h)) c.hear_retired.ensures.did)

pub returns-in-IsDown-clause-turned : goal.returns-in-IsDown-clause-turned
returns-in-IsDown-clause-turned c = rw c.in-IsDown.is (on-ok c.hear_down.result (λ did s p sender h fit. did-turned s p (LetterFrom c.args.now c.args.word sender (IsDown c.in-IsDown.conn)) c.moment_for-at.result c.args.out.now c.hear_down.new.out c.hear_down.new.self (c.moment_for-at.ensures ∙ ap (λ m. max m c.args.now) (sym h.moment)) (did s p _ h)) c.hear_down.ensures.did)

pub returns-in-Choice-clause-turned : goal.returns-in-Choice-clause-turned
returns-in-Choice-clause-turned c = rw c.in-Choice.is (λ s p sender h fit. nothing-turned s p (LetterFrom c.args.now c.args.word sender (Choice c.in-Choice.op c.in-Choice.answer)) c.args.out.now c.args.self.now h refl)

pub returns-in-Forward-clause-turned : goal.returns-in-Forward-clause-turned
returns-in-Forward-clause-turned c = rw c.in-Forward.is (λ s p sender h fit. nothing-turned s p (LetterFrom c.args.now c.args.word sender (Forward c.in-Forward.op c.in-Forward.kind c.in-Forward.rest c.in-Forward.ask_who c.in-Forward.holder)) c.args.out.now c.args.self.now h refl)

pub returns-in-Reply-clause-turned : goal.returns-in-Reply-clause-turned
returns-in-Reply-clause-turned c = rw c.in-Reply.is (λ s p sender h fit. nothing-turned s p (LetterFrom c.args.now c.args.word sender (Reply c.in-Reply.op c.in-Reply.rest c.in-Reply.last c.in-Reply.who)) c.args.out.now c.args.self.now h refl)

pub returns-in-Failed-clause-turned : goal.returns-in-Failed-clause-turned
returns-in-Failed-clause-turned c = rw c.in-Failed.is (λ s p sender h fit. nothing-turned s p (LetterFrom c.args.now c.args.word sender (Failed c.in-Failed.op c.in-Failed.which)) c.args.out.now c.args.self.now h refl)

pub returns-in-Drop-clause-turned : goal.returns-in-Drop-clause-turned
returns-in-Drop-clause-turned c = rw c.in-Drop.is (λ s p sender h fit. nothing-turned s p (LetterFrom c.args.now c.args.word sender (Drop c.in-Drop.op)) c.args.out.now c.args.self.now h refl)

pub returns-in-Leave-clause-turned : goal.returns-in-Leave-clause-turned
returns-in-Leave-clause-turned c = rw c.in-Leave.is (λ s p sender h fit. nothing-turned s p (LetterFrom c.args.now c.args.word sender (Leave c.in-Leave.holder)) c.args.out.now c.args.self.now h refl)

pub returns-in-Pause-clause-turned : goal.returns-in-Pause-clause-turned
returns-in-Pause-clause-turned c = rw c.in-Pause.is (λ s p sender h fit. nothing-turned s p (LetterFrom c.args.now c.args.word sender (Pause c.in-Pause.client)) c.args.out.now c.args.self.now h refl)

pub returns-clause-turned : goal.returns-clause-turned
returns-clause-turned c = rw c.in-Resume.is (λ s p sender h fit. nothing-turned s p (LetterFrom c.args.now c.args.word sender (Resume c.in-Resume.client)) c.args.out.now c.args.self.now h refl)
