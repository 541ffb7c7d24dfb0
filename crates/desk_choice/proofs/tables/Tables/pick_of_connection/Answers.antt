use Rattle.std.proofs.Common.{sym, true, false, ◌∙◌, ap, ◌&&◌, arith}
use Rattle.desk_choice.proofs.One.{no-row, not-usable, no-server, one-connection}
use Rattle.desk_choice.proofs.tables.Tables.pick_of_connection.Goals as goal
use Rattle.desk_choice.proofs.tables.Tables.pick_of_connection.Goals.{else-is_open-via-then-is_open+else-is_ready, else-is_open-via-else-is_open}

pub returns-in_default : goal.returns-in_default
returns-in_default c = λ s f k. no-row s f c.args.self.now c.args.kind c.args.conn k (sym c.in_default.ensures)

pub returns-then-not-is_usable : goal.returns-then-not-is_usable
returns-then-not-is_usable c = λ s f k. not-usable s f c.args.self.now c.args.kind c.args.conn c.in-Some.row k (sym c.in-Some.ensures) (sym c.if-not-is_usable.ensures)

pub returns-in_default-server : goal.returns-in_default-server
returns-in_default-server c = λ s f k. absurd (let bad = no-server s f c.args.self.now c.args.kind c.args.conn c.in-Some.row k (sym c.in-Some.ensures) (sym c.if-not-is_usable.ensures) c.in_default-server.ensures in cc)

pub returns-then-is_ready : goal.returns-then-is_ready
returns-then-is_ready c = λ s f k. one-connection s f c.args.self.now c.args.kind c.args.conn c.in-Some.row c.in-Some-server.server.now true k (sym c.in-Some.ensures) (sym c.if-not-is_usable.ensures) c.in-Some-server.ensures (grind (arith, c.if-is_open.ensures, c.if-is_ready.ensures))

pub returns-else-is_open : goal.returns-else-is_open
returns-else-is_open c = λ s f k. one-connection s f c.args.self.now c.args.kind c.args.conn c.in-Some.row c.in-Some-server.server.now false k (sym c.in-Some.ensures) (sym c.if-not-is_usable.ensures) c.in-Some-server.ensures (elim c.else-is_open.branch [ else-is_open-via-then-is_open+else-is_ready w ↦ grind (arith, w.if-is_open.ensures, w.if-is_ready.ensures) | else-is_open-via-else-is_open w ↦ grind (arith, w.if-is_open.ensures) ])
