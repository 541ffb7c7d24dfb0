use Rattle.std.proofs.Common.{◌++◌, [], ◌∷◌, ap, sym, ◌∙◌}
use Rattle.lload_names.specs.declared.names.What.TheVariants.{Gone}
use Rattle.part_spec.specs.Inputs.{where_so, act}
use Rattle.part_spec.specs.ClientTurn as turn
use Rattle.client_session.specs.Closing.{closing}
use Rattle.client_session.proofs.Closings.{closing-shown}
use Rattle.client_session.proofs.part.ClientPart.sever.Goals as goal

pub returns-clause-letters : goal.returns-clause-letters
returns-clause-letters c = λ s p h.
    c.finish.ensures.letters
    ∙ ap (λ l. l ++ closing c.args.self.now) c.in-Some.ensures.letters
    ∙ sym (closing-shown s p c.args.self.now h)
    ∙ ap (λ b. (where_so b (act (Gone c.args.why ∷ []) (turn.closing p))).letters) (sym (sym (c.is_present.ensures s p h) ∙ c.if-not-is_present.false))
