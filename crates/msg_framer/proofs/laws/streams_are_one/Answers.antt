use Rattle.msg_framer.proofs.StreamLaws.{stream_is_there, one_stream}
use Rattle.msg_framer.proofs.laws.streams_are_one.Goals as goal

pub returns-clause-there : goal.returns-clause-there
returns-clause-there c = stream_is_there

pub returns-clause-one : goal.returns-clause-one
returns-clause-one c = one_stream
