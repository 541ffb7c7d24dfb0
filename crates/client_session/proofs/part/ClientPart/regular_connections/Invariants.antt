use Rattle.std.proofs.Common.{◌≡◌}
use Rattle.lload_spec.specs.Lists.{rising_once}
use Rattle.client_session.specs.Flow.{connections, put_all}
use Rattle.client_session.proofs.part.ClientPart.regular_connections.Given as goal

abbrev pub invariant-loop-row : goal.invariant-loop-row
invariant-loop-row l = put_all (connections l.row-iterator) l.us.keys ≡ rising_once (connections l.self.operations.rows)
