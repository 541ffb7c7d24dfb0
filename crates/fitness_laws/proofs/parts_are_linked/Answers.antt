use Rattle.part_spec.specs.Merge.{world_of}
use Rattle.fitness_laws.proofs.Linked.{all_give, all_taken, shares_kept}
use Rattle.fitness_laws.proofs.WorldMoves.{fitness, marks}
use Rattle.fitness_laws.proofs.parts_are_linked.Goals as goal

pub returns-clause-links : goal.returns-clause-links
returns-clause-links c s ms = c.links_hold.ensures.links s ms (marks s ms)

pub returns-clause-later : goal.returns-clause-later
returns-clause-later c s ms = c.links_hold.ensures.later s ms (marks s ms)

pub returns-clause-linked : goal.returns-clause-linked
returns-clause-linked c s ms rightly = c.worlds_are_linked.ensures.linked s ms rightly (marks s ms) (fitness s ms).taken

pub returns-clause-gives : goal.returns-clause-gives
returns-clause-gives c =
    all_give c.the_desk_is_linked.ensures.gives c.clients_are_linked.ensures.gives c.connections_are_linked.ensures.gives fitness

pub returns-clause-at_rest : goal.returns-clause-at_rest
returns-clause-at_rest c s ms p q rightly =
    all_taken s (world_of s ms) p q (c.links_hold.ensures.links s ms (marks s ms))
    (all_give c.the_desk_is_linked.ensures.gives c.clients_are_linked.ensures.gives c.connections_are_linked.ensures.gives fitness s ms p rightly)

pub returns-clause-shares : goal.returns-clause-shares
returns-clause-shares c = shares_kept c.a_fit_list_begins_with_all_of_it.ensures fitness marks
