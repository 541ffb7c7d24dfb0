use Rattle.std.proofs.Common.{ap, sym, ◌∙◌}
use Rattle.lload_names.specs.declared.names.OpKind.{OpKind}
use Rattle.upstream_conn.specs.Told.{told_of}
use Rattle.upstream_conn.proofs.part.UpstreamPart.hear_row.Goals as goal

pub misfit-requires-clause-row : goal.misfit-requires-clause-row
misfit-requires-clause-row c = λ r e. let f = c.requires.row r e in ap (λ (k : OpKind). told_of k c.args.rest) f.1 ∙ ap (told_of c.args.kind) (sym c.as_slice.ensures) ∙ sym c.told_of.ensures ∙ c.in-Unfit.is

pub answer-requires-clause-row : goal.answer-requires-clause-row
answer-requires-clause-row c = λ r e. let f = c.requires.row r e in (f.0, ap (λ (k : OpKind). told_of k c.args.rest) f.1 ∙ ap (told_of c.args.kind) (sym c.as_slice.ensures) ∙ sym c.told_of.ensures ∙ c.in-More.is)

pub finish-requires-clause-row : goal.finish-requires-clause-row
finish-requires-clause-row c = λ r e. let f = c.requires.row r e in (f.0, f.2, ap (λ (k : OpKind). told_of k c.args.rest) f.1 ∙ ap (told_of c.args.kind) (sym c.as_slice.ensures) ∙ sym c.told_of.ensures ∙ c.in-Last.is)
