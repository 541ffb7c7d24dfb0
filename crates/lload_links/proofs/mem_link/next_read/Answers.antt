use Rattle.std.proofs.Common.{ℕ, ◌≡◌, ◌∷◌, sym, ap, ◌∙◌, length, arith, length-append, length-drop}
use Rattle.lload_links.specs.Plans.{bytes_of, due}
use Rattle.lload_links.specs.declared.mem_link.MemRead.TheVariants.{Bytes, NotYet, Until, Fail}
use Rattle.lload_links.proofs.ReadSteps.{due_bytes, bytes_of_met, moved_next}
use Rattle.lload_links.proofs.mem_link.next_read.Goals as goal

pub give-requires-clause-bytes : goal.give-requires-clause-bytes
give-requires-clause-bytes c =
    let met = rw c.in-Some-Bytes.field-0-is at c.in-Some-Bytes.ensures.due in
    due_bytes c.args.written c.args.reads.now.items c.take_due.new.reads.items c.in-Some-Bytes.bytes met

pub give-requires-clause-room : goal.give-requires-clause-room
give-requires-clause-room c =
    let met = rw c.in-Some-Bytes.field-0-is at c.in-Some-Bytes.ensures.due in
    let same = ap length (bytes_of_met c.args.written _ c.args.reads.now.items met) in
    omega (arith, same, length-append c.in-Some-Bytes.bytes (bytes_of c.take_due.new.reads.items), c.requires.room)

pub returns-in-None-clause-moved : goal.returns-in-None-clause-moved
returns-in-None-clause-moved c =
    sym (bytes_of_met c.args.written _ c.args.reads.now.items c.in-None.ensures.due) ∙ ap bytes_of c.in-None.ensures.empty

pub returns-in-Some-Bytes-clause-moved : goal.returns-in-Some-Bytes-clause-moved
returns-in-Some-Bytes-clause-moved c =
    let bytes = c.in-Some-Bytes.bytes in
    let met = rw c.in-Some-Bytes.field-0-is at c.in-Some-Bytes.ensures.due in
    let some = due_bytes c.args.written c.args.reads.now.items c.take_due.new.reads.items bytes met in
    let long : length c.args.buf.now ≡ length c.give.new.buf = omega arith in
    moved_next bytes (bytes_of c.take_due.new.reads.items) (bytes_of c.args.reads.now.items) c.give.new.buf (length c.args.buf.now) c.give.result c.give.ensures.count some c.requires.some long c.give.ensures.moved (bytes_of_met c.args.written _ c.args.reads.now.items met)

pub returns-in-Some-Bytes-clause-room : goal.returns-in-Some-Bytes-clause-room
returns-in-Some-Bytes-clause-room c =
    let bytes = c.in-Some-Bytes.bytes in
    let met = rw c.in-Some-Bytes.field-0-is at c.in-Some-Bytes.ensures.due in
    let same = ap length (bytes_of_met c.args.written _ c.args.reads.now.items met) in
    let left = ap (λ reads. length (bytes_of reads)) c.give.ensures.reads in
    omega (arith, same, left, length-append {A = ℕ}, length-drop {A = ℕ}, c.requires.room)

pub returns-in-Some-NotYet-clause-room : goal.returns-in-Some-NotYet-clause-room
returns-in-Some-NotYet-clause-room c =
    let met = rw c.in-Some-NotYet.field-0-is at c.in-Some-NotYet.ensures.due in
    let same = ap length (bytes_of_met c.args.written _ c.args.reads.now.items met) in
    omega (arith, same, c.requires.room)

pub returns-in-Some-Until-clause-room : goal.returns-in-Some-Until-clause-room
returns-in-Some-Until-clause-room c =
    let met = rw c.in-Some-Until.field-0-is at c.in-Some-Until.ensures.due in
    let same = ap length (bytes_of_met c.args.written _ c.args.reads.now.items met) in
    let left = ap (λ reads. length (bytes_of reads)) c.push_front_reserved.ensures.items in
    omega (arith, same, left, c.requires.room)

pub returns-in-Some-Fail-clause-room : goal.returns-in-Some-Fail-clause-room
returns-in-Some-Fail-clause-room c =
    let met = rw c.in-Some-Fail.field-0-is at c.in-Some-Fail.ensures.due in
    let same = ap length (bytes_of_met c.args.written _ c.args.reads.now.items met) in
    omega (arith, same, c.requires.room)
