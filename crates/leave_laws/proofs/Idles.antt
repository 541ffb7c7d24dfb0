-- Each Drop that comes to nothing finds nothing to end.
use Rattle.std.proofs.Common.{◌≡◌, true, [], refl, subst}
use Rattle.lload_names.specs.declared.names.PartName.TheVariants.{Up as Connection}
use Rattle.lload_spec.specs.Lists.{each_split_from}
use Rattle.part_spec.specs.Fit.{empty_connection_ledger}
use Rattle.part_spec.specs.Laws.{FitIsWhole}
use Rattle.part_spec.specs.Share.{ConnectionShare}
use Rattle.carried_laws.specs.Laws.{ForwardsAreRight}
use Rattle.rows_laws.proofs.Regular.{known_at_each}
use Rattle.leave_laws.specs.Laws.{DropsAreOfEnded, RegularIdlesHaveNothingToEnd, is_idle_for_nothing}
use Rattle.leave_laws.proofs.IdleRegular.{none_idle, regular_idles}

pub idles_end_nothing : ForwardsAreRight → FitIsWhole → DropsAreOfEnded → RegularIdlesHaveNothingToEnd
idles_end_nothing rightly whole drops s F marked h u kind = subst (λ l. each_split_from (λ place e behind. is_idle_for_nothing s F u place e) [] l ≡ true) (h.joined.shared.same_entries (Connection u)) (regular_idles s F u (marked (Connection u)) [] (empty_connection_ledger s u) (known_at_each rightly whole s F marked h u kind) (none_idle s F u (empty_connection_ledger s u) refl) (h.joined.fit (Connection u)) share.marks (rightly s F marked h.joined (Connection u)) (λ op k. drops s F marked h u op k))
  where
    share : ConnectionShare s u (marked (Connection u))
    share = h.joined.shared.shares (Connection u)
