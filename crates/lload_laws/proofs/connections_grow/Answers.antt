use Rattle.lload_laws.proofs.ConnectionGrowth.{sendings_grow}
use Rattle.lload_laws.proofs.connections_grow.Goals as goal

pub returns : goal.returns
returns c = record { sendings = sendings_grow }
