use Rattle.std.proofs.Common.{◌∙◌, sym}
use Rattle.conf_words.proofs.Groups.{begins_with_line, lines_at-comment}
use Rattle.conf_words.proofs.joining.first_line.Goals as goal

pub loop-line-preserved : goal.loop-line-preserved
loop-line-preserved c =
    c.loop-line.invariant
    ∙ lines_at-comment c.loop-line.place c.in-Some.after c.pass_continuations-place.result c.in-Some.line.now c.in-Some.ensures.cut (sym c.is_blank.ensures ∙ c.if-is_blank.false) (sym c.begins_comment.ensures ∙ c.if-begins_comment.true) c.pass_continuations-place.ensures

pub returns-else-begins_comment : goal.returns-else-begins_comment
returns-else-begins_comment c =
    let there = begins_with_line c.loop-line.place c.in-Some.after c.in-Some.line c.in-Some.ensures.cut (sym c.is_blank.ensures ∙ c.if-is_blank.false) (sym c.begins_comment.ensures ∙ c.if-begins_comment.false) in
    record {
      some = λ none. there.some (sym c.loop-line.invariant ∙ none);
      lines = c.loop-line.invariant ∙ there.lines;
      not_blank = there.not_blank;
      no_comment = there.no_comment;
      number = there.number;
    }
