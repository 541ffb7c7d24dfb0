use Rattle.std.proofs.Common.{◌≡◌, length}
use Rattle.lload_spec.specs.Binding.{highest}
use Rattle.lload_spec.specs.Settings.{Settings}
use Rattle.restrictions.specs.Actions.{action_view}
use Rattle.restrictions.specs.Table.{HasRestrictions}
use Rattle.restrictions.proofs.table.Restrictions.highest.Given as goal

abbrev pub invariant-loop-control : goal.invariant-loop-control
invariant-loop-control l = (s : Settings) → HasRestrictions s l.self → highest s (action_view l.action) l.left ≡ highest s (action_view l.initial.action) l.initial.left

abbrev pub decreases-loop-control : goal.decreases-loop-control
decreases-loop-control l = length l.left
