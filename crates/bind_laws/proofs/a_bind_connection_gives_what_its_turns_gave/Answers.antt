use Rattle.bind_laws.proofs.BindGiving.{bind_gives}
use Rattle.bind_laws.proofs.a_bind_connection_gives_what_its_turns_gave.Goals as goal

pub returns : goal.returns
returns c = record { gives = bind_gives }
