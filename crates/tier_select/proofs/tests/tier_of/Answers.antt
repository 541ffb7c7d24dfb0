use Rattle.std.proofs.Common.{◌≡◌, List, [], ◌∷◌, ◌++◌, length, refl, sym, ap, ◌∙◌, subst, arith}
use Rattle.lload_names.specs.declared.plans.BackendPlan.{BackendPlan}
use Rattle.lload_names.specs.declared.plans.TierKind.{TierKind}
use Rattle.lload_names.specs.Plans.{IsTier, rooms_of, rooms_of_backend}
use Rattle.tier_select.proofs.tests.tier_of.Goals as goal

no_rooms : (b : BackendPlan) → b.numconns ≡ 0 → b.bindconns ≡ 0 → rooms_of_backend b ≡ []
no_rooms b e f = rw (e, f) refl

three : (kind : TierKind) (a b c : BackendPlan) → rooms_of_backend a ≡ [] → rooms_of_backend b ≡ [] → rooms_of_backend c ≡ [] → IsTier (record { kind = kind; backends = a ∷ b ∷ c ∷ [] })
three kind a b c e f g = let none : length (rooms_of (a ∷ b ∷ c ∷ [])) ≡ 0 = rw (e, f, g) refl in record { few_backends = omega arith; few_places = omega (arith, none) }

pub new-requires : goal.new-requires
new-requires c =
    let x = c.backend.result in
    let y = c.backend-2.result in
    let z = c.backend-3.result in
    let one = c.in_ok-push.ensures.ok ∙ ap (λ bs. bs ++ x ∷ []) c.new-backends.ensures in
    let two = c.in_ok-push-2.ensures.ok ∙ ap (λ bs. bs ++ y ∷ []) one in
    let list : c.push-3.new.self ≡ x ∷ y ∷ z ∷ [] = c.in_ok-push-3.ensures.ok ∙ ap (λ bs. bs ++ z ∷ []) two in
    let tier : List BackendPlan → Type 0 = λ bs. IsTier (record { kind = c.args.kind; backends = bs }) in
    subst tier (sym list) (three c.args.kind x y z (no_rooms x c.backend.ensures.regular c.backend.ensures.bind) (no_rooms y c.backend-2.ensures.regular c.backend-2.ensures.bind) (no_rooms z c.backend-3.ensures.regular c.backend-3.ensures.bind))
