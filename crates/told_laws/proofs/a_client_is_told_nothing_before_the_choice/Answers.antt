use Rattle.told_laws.proofs.Turns.{outs_chosen}
use Rattle.told_laws.proofs.a_client_is_told_nothing_before_the_choice.Goals as goal

pub returns : goal.returns
returns c = outs_chosen c.a_client_is_who_the_family_says.ensures.known
