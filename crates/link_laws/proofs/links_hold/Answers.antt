use Rattle.link_laws.proofs.Links.{links, move_links}
use Rattle.link_laws.proofs.Later.{later}
use Rattle.link_laws.proofs.links_hold.Goals as goal

pub returns-clause-links : goal.returns-clause-links
returns-clause-links c = links

pub returns-clause-stay : goal.returns-clause-stay
returns-clause-stay c = move_links

pub returns-clause-later : goal.returns-clause-later
returns-clause-later c = later
