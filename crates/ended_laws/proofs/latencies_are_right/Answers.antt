use Rattle.ended_laws.proofs.Latencies.{latencies_right}
use Rattle.ended_laws.proofs.latencies_are_right.Goals as goal

pub returns : goal.returns
returns c =
    latencies_right c.a_forward_says_of_its_operation_what_the_family_says.ensures
    c.a_fit_list_begins_with_all_of_it.ensures
