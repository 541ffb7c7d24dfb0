use Rattle.std.proofs.Common.{[], ◌∙◌, map, subst, sym}
use Rattle.conf_words.specs.Lines.{conf_lines, line_count}
use Rattle.lload_conf.specs.AllFaults.{AreOf, all_faults, fault_of}
use Rattle.lload_conf.specs.Configuration.{configuration}
use Rattle.lload_conf.proofs.Findings.{first-is, passed-later, told-more, way-begins, way-ends, way-next, way-passed, when_ok}
use Rattle.lload_conf.proofs.finding.faults.Goals as goal

pub loop-number-init : goal.loop-number-init
loop-number-init c = ([], way-begins c.args.text.now c.new-draft.result c.new-reader.result c.new-found.result c.new-draft.ensures c.new-reader.ensures c.new-found.ensures)

pub loop-number-preserved-in-Line : goal.loop-number-preserved-in-Line
loop-number-preserved-in-Line c =
    let way = c.loop-number.invariant in
    way-next (line_count c.args.text.now) (all_faults c.args.text.now) (map fault_of c.loop-number.found) (map fault_of c.put_fault.new.found) way.0 c.loop-number.draft c.take.new.self c.loop-number.reader c.next.new.self c.in-Line.number c.in-Line.words c.in_ok-kind-in-Line.kind way.1 c.in-Line.ensures c.as_slice.result.now c.as_slice.ensures c.in_ok-kind-in-Line.ensures.takes c.in_ok-put_fault-in-Line.ensures

pub loop-number-preserved : goal.loop-number-preserved
loop-number-preserved c =
    let way = c.loop-number.invariant in
    let later = c.in-Fault.ensures.0.0 in
    let next = c.in-Fault.ensures.0.1 in (
      way.0,
      way-passed (line_count c.args.text.now) (all_faults c.args.text.now) (map fault_of c.loop-number.found) (map fault_of c.push.new.self) way.0 c.loop-number.draft c.loop-number.reader later c.pass.new.self c.in-Fault.line c.in-Fault.kind way.1 next
          (passed-later c.loop-number.reader later c.pass.new.self c.next.new.self _ next c.in-Fault.ensures.1 c.pass.ensures)
          (told-more c.loop-number.found c.push.new.self c.in_ok-at_line-in-Fault.field-0 c.in-Fault.line c.in-Fault.kind c.in_ok-push-in-Fault.ensures.ok c.in_ok-at_line-in-Fault.ensures.fault),
    )

pub returns-in-End-clause-first : goal.returns-in-End-clause-first
returns-in-End-clause-first c =
    let way = c.loop-number.invariant in
    when_ok c.with_end.result (λ found is. subst (AreOf (configuration c.args.text.now)) (sym (is ∙ way-ends (line_count c.args.text.now) (all_faults c.args.text.now) (map fault_of c.loop-number.found) way.0 c.loop-number.draft c.loop-number.reader c.backends.result way.1 c.in-End.ensures.0 c.backends.ensures)) (first-is (line_count c.args.text.now) [] (conf_lines c.args.text.now))) c.with_end.ensures
