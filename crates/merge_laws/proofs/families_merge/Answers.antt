use Rattle.merge_laws.proofs.Merged.{merged_run, merges}
use Rattle.merge_laws.proofs.families_merge.Goals as goal

pub returns : goal.returns
returns c = record {
  merge = merges c.links_hold.ensures.stay c.states_are_of_lists.ensures.states c.states_are_of_lists.ensures.turns;
  of_run = merged_run c.links_hold.ensures.stay c.states_are_of_lists.ensures.states c.states_are_of_lists.ensures.turns;
}
