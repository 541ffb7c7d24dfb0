use Rattle.lload_names.specs.declared.names.PartName.TheVariants.{Desk, Client}
use Rattle.part_examples.proofs.links.wrong_links_are_refused.Goals as goal

pub returns-clause-never_given : goal.returns-clause-never_given
returns-clause-never_given c F linked = absurd (let e = (linked.in_order Desk (Client 1)).1 in cc)

pub returns-clause-other_taken : goal.returns-clause-other_taken
returns-clause-other_taken c F linked = absurd (let e = (linked.in_order Desk (Client 1)).1 in cc)
