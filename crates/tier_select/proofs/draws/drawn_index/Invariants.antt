use Rattle.std.proofs.Common.{◌≡◌, ◌<◌, [], take, drop}
use Rattle.lload_spec.specs.Picks.{total_weight, drawn_first}
use Rattle.tier_select.specs.Members.{weight}
use Rattle.tier_select.proofs.draws.drawn_index.Given as goal

abbrev pub invariant-loop-index : goal.invariant-loop-index
invariant-loop-index l =
    record {
      within : l.rest < total_weight weight (drop l.index l.left);
      rest : drawn_first weight l.rest (take l.index l.left) (drop l.index l.left) ≡ drawn_first weight l.draw [] l.left;
    }
