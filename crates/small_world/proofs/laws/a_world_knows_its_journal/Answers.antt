use Rattle.small_world.proofs.Promises.{knows_arrival, knows_first_arrival, knows_linking, knows_news, knows_use, knows_given}
use Rattle.small_world.proofs.laws.a_world_knows_its_journal.Goals as goal

pub returns-clause-arrival : goal.returns-clause-arrival
returns-clause-arrival c = knows_arrival

pub returns-clause-first_arrival : goal.returns-clause-first_arrival
returns-clause-first_arrival c = knows_first_arrival

pub returns-clause-linking : goal.returns-clause-linking
returns-clause-linking c = knows_linking

pub returns-clause-news : goal.returns-clause-news
returns-clause-news c = knows_news

pub returns-clause-in_use : goal.returns-clause-in_use
returns-clause-in_use c = knows_use

pub returns-clause-given : goal.returns-clause-given
returns-clause-given c = knows_given
