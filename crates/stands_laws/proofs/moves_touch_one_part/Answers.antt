use Rattle.stands_laws.proofs.ClientSides.{client_touches}
use Rattle.stands_laws.proofs.ConnectionSides.{connection_touches}
use Rattle.stands_laws.proofs.DeskSides.{desk_touches}
use Rattle.stands_laws.proofs.moves_touch_one_part.Goals as goal

pub returns-clause-clients : goal.returns-clause-clients
returns-clause-clients c = client_touches

pub returns-clause-connections : goal.returns-clause-connections
returns-clause-connections c = connection_touches

pub returns-clause-desk : goal.returns-clause-desk
returns-clause-desk c = desk_touches
