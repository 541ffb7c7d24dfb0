use Rattle.std.proofs.Common.{[], ◌∷◌, ◌++◌}
use Rattle.conf_words.specs.Lines.{conf_lines, line_count}
use Rattle.lload_conf.specs.Configuration.{configuration}
use Rattle.lload_conf.proofs.Answering.{answer-fault, halfway-begins, halfway-more}
use Rattle.lload_conf.proofs.reading.read.Goals as goal

pub loop-number-init : goal.loop-number-init
loop-number-init c = ([], halfway-begins c.args.text.now c.new-draft.result c.new-reader.result c.requires c.new-draft.ensures c.new-reader.ensures)

pub returns-in-Some-clause-answer : goal.returns-in-Some-clause-answer
returns-in-Some-clause-answer c =
    let halfway = c.loop-number.invariant in
    answer-fault (conf_lines c.args.text.now) (line_count c.args.text.now) (configuration c.args.text.now) halfway.0 c.loop-number.draft c.take.new.self c.loop-number.reader c.next.new.self c.in-Line.number c.in-Some.kind c.in-Line.words c.in_ok-kind-in-Line.field-0 halfway.1 c.in-Line.ensures c.as_slice.result.now c.as_slice.ensures c.in_ok-kind-in-Line.ensures.takes c.in-Some.is

pub loop-number-preserved : goal.loop-number-preserved
loop-number-preserved c =
    let halfway = c.loop-number.invariant in
    (halfway.0 ++ c.in-Line.words ∷ [], halfway-more (conf_lines c.args.text.now) (line_count c.args.text.now) (configuration c.args.text.now) halfway.0 c.loop-number.draft c.take.new.self c.loop-number.reader c.next.new.self c.in-Line.number c.in-Line.words c.in_ok-kind-in-Line.field-0 halfway.1 c.in-Line.ensures c.as_slice.result.now c.as_slice.ensures c.in_ok-kind-in-Line.ensures.takes c.in_default.is)
