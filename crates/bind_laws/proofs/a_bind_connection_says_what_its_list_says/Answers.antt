use Rattle.bind_laws.proofs.BindSays.{bind_says}
use Rattle.bind_laws.proofs.BindMeets.{bind_meets}
use Rattle.bind_laws.proofs.a_bind_connection_says_what_its_list_says.Goals as goal

pub returns : goal.returns
returns c = record { says = bind_says; meets = bind_meets }
