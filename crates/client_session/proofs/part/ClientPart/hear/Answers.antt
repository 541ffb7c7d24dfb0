use Rattle.std.proofs.Common.{◌≡◌, Bool, true, Some, max, ap, sym, subst, ◌∙◌}
use Rattle.lload_names.specs.declared.inputs.Input.TheVariants.{LetterFrom}
use Rattle.lload_names.specs.declared.names.Letter.TheVariants.{Choice}
use Rattle.part_spec.specs.ClientTurn.{choice}
use Rattle.part_spec.specs.Inputs.{where_so}
use Rattle.client_session.specs.Did.{Did}
use Rattle.client_session.proofs.Taken.{on-ok}
use Rattle.client_session.proofs.Turns.{turned-by, on-ok-all}
use Rattle.client_session.proofs.part.ClientPart.hear.Goals as goal

pub returns-in-Choice-clause-turned : goal.returns-in-Choice-clause-turned
returns-in-Choice-clause-turned c = rw c.in-Choice.is (on-ok c.choose.result (λ did s p word sender h fit.
    let at = c.max-at.result in
    let op = c.in-Choice.op in
    let answer = c.in-Choice.answer in
    let arrived : p.arrived ≡ true = h.arrived ∙ c.if-not-self.false in
    turned-by s p (LetterFrom c.args.now word sender (Choice op answer)) at c.args.out.now _ _ (c.max-at.ensures ∙ ap (λ t. max t c.args.now) (sym h.moment))
    (subst (λ (b : Bool). Did s p at (Some (record { sender = sender; letter = Choice op answer })) (where_so b (choice s p op answer)) c.args.out.now c.choose.new.out c.choose.new.self) (sym arrived) (did s p _ h fit))) c.choose.ensures.did)

pub returns-in-Reply-clause-turned : goal.returns-in-Reply-clause-turned
returns-in-Reply-clause-turned c = rw c.in-Reply.is (on-ok-all c.reply.result (λ entries letters stands s p word sender h fit. record { entries = entries s p word sender c.in-Reply.last h; letters = letters s p word sender c.in-Reply.last h; stands = stands s p word sender c.in-Reply.last h }) c.reply.ensures.entries c.reply.ensures.letters c.reply.ensures.state)

pub returns-in-Failed-clause-turned : goal.returns-in-Failed-clause-turned
returns-in-Failed-clause-turned c = rw c.in-Failed.is (on-ok-all c.failed.result (λ entries letters stands s p word sender h fit. record { entries = entries s p word sender h; letters = letters s p word sender h; stands = stands s p word sender h }) c.failed.ensures.entries c.failed.ensures.letters c.failed.ensures.state)
