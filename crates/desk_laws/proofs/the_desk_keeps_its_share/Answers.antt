use Rattle.desk_laws.proofs.DeskShare.{desk_shares, desk_gives, desk_says_so, desk_says_viable}
use Rattle.desk_laws.proofs.the_desk_keeps_its_share.Goals as goal

pub returns-clause-shares : goal.returns-clause-shares
returns-clause-shares c = desk_shares

pub returns-clause-gives : goal.returns-clause-gives
returns-clause-gives c = desk_gives

pub returns-clause-says : goal.returns-clause-says
returns-clause-says c = desk_says_so

pub returns-clause-viable : goal.returns-clause-viable
returns-clause-viable c = desk_says_viable
