use Rattle.std.proofs.Common.{◌≡◌, [], ◌∷◌, ◌++◌, length, refl, sym, ap, ◌∙◌, subst, arith}
use Rattle.lload_names.specs.declared.plans.BackendPlan.{BackendPlan}
use Rattle.lload_names.specs.declared.plans.TierKind.TheVariants.{RoundRobin}
use Rattle.lload_names.specs.Plans.{IsTier, rooms_of}
use Rattle.desk_tables.proofs.tests.round_of.Goals as goal

abbrev backend : BackendPlan
backend =
    record { number = 1; weight = 1; numconns = 0; bindconns = 0; max_pending = 0; conn_max_pending = 0 }

is-tier : IsTier (record { kind = RoundRobin; backends = backend ∷ [] })
is-tier = let none : length (rooms_of (backend ∷ [])) ≡ 0 = refl in record { few_backends = omega arith; few_places = omega (arith, none) }

pub new-requires : goal.new-requires
new-requires c =
    let list = c.in_ok-push.ensures.ok ∙ ap (λ bs. bs ++ backend ∷ []) c.new-backends.ensures in
    subst (λ bs. IsTier (record { kind = RoundRobin; backends = bs })) (sym list) is-tier
