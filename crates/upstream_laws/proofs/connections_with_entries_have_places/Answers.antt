use Rattle.upstream_laws.proofs.Places.{placed}
use Rattle.upstream_laws.proofs.connections_with_entries_have_places.Goals as goal

pub returns : goal.returns
returns c = placed
