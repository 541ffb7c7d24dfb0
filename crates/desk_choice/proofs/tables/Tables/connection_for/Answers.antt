use Rattle.std.proofs.Common.{sym}
use Rattle.desk_choice.proofs.Eligible.{full, next-is}
use Rattle.desk_choice.proofs.tables.Tables.connection_for.Goals as goal

pub returns-then-not-is_open : goal.returns-then-not-is_open
returns-then-not-is_open c = λ s f j k e. sym (full s f c.args.self.now c.args.kind j c.args.server.now k e (sym c.if-not-is_open.ensures))

pub returns : goal.returns
returns c = λ s f j k e. next-is s f c.args.self.now c.args.kind j c.args.server.now c.lane-lane.result c.next_in_turn.result k e c.lane-lane.ensures (sym c.if-not-is_open.ensures) (λ among. c.next_in_turn.ensures s among)
