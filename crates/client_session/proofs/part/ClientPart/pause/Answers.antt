use Rattle.std.proofs.Common.{sym, ◌∙◌, arith}
use Rattle.client_session.proofs.Flows.{keys-put}
use Rattle.client_session.proofs.Paused.{paused-stands}
use Rattle.client_session.proofs.part.ClientPart.pause.Goals as goal

pub returns-clause-stands : goal.returns-clause-stands
returns-clause-stands c = λ s p h.
    let most = c.most_endings-letters.ensures.most in
    let long = c.len.ensures.len in
    let ok = c.in_ok-reserve.ensures.ok in
    paused-stands s p c.args.self.now (record c.args.self.now { paused = c.insert.new.self; kept = c.reserve.new.self }) c.args.kind c.args.conn (sym (c.pauses.ensures s p h) ∙ c.if-not-pauses.false) (c.in_ok-insert.ensures.keys ∙ keys-put c.args.conn c.args.self.now.paused.keys) (omega (arith, most, long, ok)) h
