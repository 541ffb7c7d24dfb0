use Rattle.std.proofs.Common.{List, [], ◌∷◌, ◌++◌, ap, ◌∙◌, arith}
use Rattle.lload_names.specs.declared.plans.TierPlan.{TierPlan}
use Rattle.lload_names.specs.Plans.{place_count}
use Rattle.desk_rules.proofs.NewTables.{rooms-both}
use Rattle.desk_rules.proofs.tests.two_tiers.Goals as goal

pub returns-clause-places : goal.returns-clause-places
returns-clause-places c =
    let first = c.in_ok-tier.field-0 in
    let second = c.in_ok-tier-2.field-0 in
    let list = c.in_ok-push-2.ensures.ok ∙ ap (λ (ts : List TierPlan). ts ++ second ∷ []) (c.in_ok-push.ensures.ok ∙ ap (λ (ts : List TierPlan). ts ++ first ∷ []) c.new-tiers.ensures) in
    omega (arith, ap place_count list, rooms-both first (second ∷ []), rooms-both second [], c.in_ok-tier.ensures.places, c.in_ok-tier-2.ensures.places)
