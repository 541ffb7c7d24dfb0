use Rattle.lload_names.specs.declared.names.PartName.TheVariants.{Desk, Client}
use Rattle.part_examples.proofs.links.letters_are_taken_later.Goals as goal

pub returns-clause-at_once : goal.returns-clause-at_once
returns-clause-at_once c F linked = absurd (let e = linked.later Desk (Client 1) in cc)
