use Rattle.std.proofs.Common.{◌≡◌, ◌+◌, ◌%◌, List, [], ◌∷◌, ◌++◌, length, ap, ◌∙◌, refl, arith, length-append}
use Rattle.lload_names.specs.declared.plans.BackendPlan.{BackendPlan}
use Rattle.lload_names.specs.Plans.{rooms_of, rooms_of_backend}
use Rattle.lload_names.proofs.Places.{rooms_of-append}
use Rattle.tier_bench.proofs.plan.Goals as goal

rooms_push : (bs : List BackendPlan) (b : BackendPlan) → length (rooms_of_backend b) ≡ 2 → length (rooms_of (bs ++ b ∷ [])) ≡ length (rooms_of bs) + 2
rooms_push bs b e =
    ap length (rooms_of-append bs (b ∷ [])) ∙ omega (arith, length-append (rooms_of bs) (rooms_of_backend b ++ []), length-append (rooms_of_backend b) [], e)

pub loop-place-preserved : goal.loop-place-preserved
loop-place-preserved c =
    let bs = c.loop-place.backends in
    let b : BackendPlan = record { number = c.loop-place.place + 1; weight = c.loop-place.place % 4 + 1; numconns = 1; bindconns = 1; max_pending = 0; conn_max_pending = 0 } in
    let pushed = c.in_ok-push.ensures.ok in
    record {
      backends = omega (arith, ap (length {A = BackendPlan}) pushed, length-append bs (b ∷ []), c.loop-place.invariant.backends);
      rooms = omega (arith, ap (λ cs. length (rooms_of cs)) pushed, rooms_push bs b refl, c.loop-place.invariant.rooms);
    }
