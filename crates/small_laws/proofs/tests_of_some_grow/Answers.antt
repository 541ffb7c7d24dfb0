use Rattle.small_laws.proofs.ClientGrowth.{any_grows, some_entry_grows}
use Rattle.small_laws.proofs.tests_of_some_grow.Goals as goal

pub returns-clause-any : goal.returns-clause-any
returns-clause-any c = any_grows

pub returns-clause-looking_back : goal.returns-clause-looking_back
returns-clause-looking_back c = some_entry_grows
