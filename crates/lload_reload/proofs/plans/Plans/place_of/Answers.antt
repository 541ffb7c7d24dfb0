use Rattle.std.proofs.Common.{◌∙◌, sym, ap, length, arith}
use Rattle.lload_reload.proofs.Found.{as_many, placed, raised_within}
use Rattle.lload_reload.proofs.plans.Plans.place_of.Goals as goal

pub index-before-requires : goal.index-before-requires
index-before-requires c = omega (arith, c.in_ok-last.ensures.0, c.in_ok-last.ensures.1, c.end_below.ensures.within, ap length c.as_slice.ensures, as_many _ _ _ c.self.invariant)

pub returns-in_err-place : goal.returns-in_err-place
returns-in_err-place c =
    c.from_residual-in_err-place.ensures
    ∙ sym (placed c.args.conn c.in_ok-last.last c.end_below.result c.self.inside.count c.args.self.now c.as_slice.result.now c.self.inside.plans c.self.inside.before.items c.in_ok-planned.planned.now c.index-before.result.now _ (sym c.self.view_is) c.as_slice.ensures c.self.invariant c.end_below.ensures c.in_ok-last.ensures.0 c.in_ok-last.ensures.1 c.in_ok-planned.ensures c.index-before.ensures (sym c.in_err-place.was ∙ c.place_of.ensures.place))

pub overflow_add-result : goal.overflow_add-result
overflow_add-result c =
    let within = raised_within _ c.in_ok-last.last c.self.inside.count c.self.inside.plans c.self.inside.before.items c.in_ok-planned.planned.now c.index-before.result.now c.in_ok-place.place c.self.invariant (omega (arith, c.in_ok-last.ensures.0, c.in_ok-last.ensures.1, c.end_below.ensures.within, ap length c.as_slice.ensures, as_many _ _ _ c.self.invariant)) c.in_ok-planned.ensures c.index-before.ensures (sym c.place_of.ensures.place ∙ c.in_ok-place.was) in
    omega (arith, within)

pub returns : goal.returns
returns c =
    sym (placed c.args.conn c.in_ok-last.last c.end_below.result c.self.inside.count c.args.self.now c.as_slice.result.now c.self.inside.plans c.self.inside.before.items c.in_ok-planned.planned.now c.index-before.result.now _ (sym c.self.view_is) c.as_slice.ensures c.self.invariant c.end_below.ensures c.in_ok-last.ensures.0 c.in_ok-last.ensures.1 c.in_ok-planned.ensures c.index-before.ensures (sym c.in_ok-place.was ∙ c.place_of.ensures.place))
