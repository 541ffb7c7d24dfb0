use Rattle.connection_laws.proofs.RegularGiving.{regular_gives}
use Rattle.connection_laws.proofs.a_regular_connection_gives_what_its_turns_gave.Goals as goal

pub returns : goal.returns
returns c = record { gives = regular_gives }
