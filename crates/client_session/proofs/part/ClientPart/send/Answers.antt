use Rattle.client_session.proofs.Sending.{sent-stands}
use Rattle.client_session.proofs.part.ClientPart.send.Goals as goal

pub returns-clause-stands : goal.returns-clause-stands
returns-clause-stands c = λ s p r h named waits its act. sent-stands s p c.args.self.now c.args.op c.args.kind c.args.action c.args.conn c.args.backend r _ _ _ c.send-rest.ensures.numbered c.send-rest.ensures.sent c.bind_by.ensures.binds c.bind_by.ensures.same c.hold_by-self.ensures h named waits its act
