use Rattle.std.proofs.Common.{Bool, ap, sym, ◌∙◌}
use Rattle.bind_conn.specs.Told.{told_of}
use Rattle.bind_conn.proofs.part.BindPart.hear_row.Goals as goal

pub misfit-requires-clause-row : goal.misfit-requires-clause-row
misfit-requires-clause-row c = λ r e. let f = c.requires.row r e in (f.1, ap (λ (a : Bool). told_of a c.args.rest) f.2 ∙ ap (told_of c.args.ask_who) (sym c.as_slice.ensures) ∙ sym c.told_of.ensures ∙ c.in-Unfit.is)

pub answer-requires-clause-row : goal.answer-requires-clause-row
answer-requires-clause-row c = λ r e. let f = c.requires.row r e in (f.0, f.1, ap (λ (a : Bool). told_of a c.args.rest) f.2 ∙ ap (told_of c.args.ask_who) (sym c.as_slice.ensures) ∙ sym c.told_of.ensures ∙ c.in-More.is)

pub go_on-requires-clause-row : goal.go_on-requires-clause-row
go_on-requires-clause-row c = λ r e. let f = c.requires.row r e in (f.0, f.1, ap (λ (a : Bool). told_of a c.args.rest) f.2 ∙ ap (told_of c.args.ask_who) (sym c.as_slice.ensures) ∙ sym c.told_of.ensures ∙ c.in-Going.is)

pub hold_back-requires-clause-row : goal.hold_back-requires-clause-row
hold_back-requires-clause-row c = λ r e. let f = c.requires.row r e in (f.1, ap (λ (a : Bool). told_of a c.args.rest) f.2 ∙ ap (told_of c.args.ask_who) (sym c.as_slice.ensures) ∙ sym c.told_of.ensures ∙ c.in-Success.is)

pub finish-requires-clause-row : goal.finish-requires-clause-row
finish-requires-clause-row c = λ r e. let f = c.requires.row r e in (f.0, f.1, ap (λ (a : Bool). told_of a c.args.rest) f.2 ∙ ap (told_of c.args.ask_who) (sym c.as_slice.ensures) ∙ sym c.told_of.ensures ∙ c.in-Done.is)
