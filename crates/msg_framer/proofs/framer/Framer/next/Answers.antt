use Rattle.msg_framer.proofs.Histories.{stream_kept, stream_all}
use Rattle.msg_framer.proofs.Announcing.{lends_message, goes_on}
use Rattle.msg_framer.proofs.framer.Framer.next.Goals as goal

pub returns-clause-message : goal.returns-clause-message
returns-clause-message c = lends_message c.args.self.now.limit c.args.self.now.left c.first_message.result c.first_message.ensures.octets c.first_message.ensures.answer

pub returns-clause-stream : goal.returns-clause-stream
returns-clause-stream c fed tail passed ms h = stream_kept fed passed ms tail c.args.self.now h

pub returns-clause-dropped : goal.returns-clause-dropped
returns-clause-dropped c fed tail passed ms h = stream_all fed passed ms tail c.args.self.now h

pub returns-clause-announced : goal.returns-clause-announced
returns-clause-announced c fed tail passed ms h s = goes_on fed tail passed ms c.args.self.now c.first_message.result c.first_message.ensures.octets c.first_message.ensures.answer h s
