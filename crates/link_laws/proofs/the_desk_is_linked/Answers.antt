use Rattle.link_laws.proofs.DeskLinks.{desk_turns_give, desk_gives_in, desk_links, desk_shares_in}
use Rattle.link_laws.proofs.the_desk_is_linked.Goals as goal

pub returns-clause-turns : goal.returns-clause-turns
returns-clause-turns c = desk_turns_give

pub returns-clause-gives : goal.returns-clause-gives
returns-clause-gives c = desk_gives_in

pub returns-clause-beginning : goal.returns-clause-beginning
returns-clause-beginning c = desk_links

pub returns-clause-shares : goal.returns-clause-shares
returns-clause-shares c = desk_shares_in
