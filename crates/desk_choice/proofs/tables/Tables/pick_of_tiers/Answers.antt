use Rattle.std.proofs.Common.{◌≡◌, length, slice_get, true, false, Some, None, refl, sym, ap, ◌∙◌}
use Rattle.std.proofs.lemmas.Option.{slice_get_read, slice_get_past}
use Rattle.desk_choice.proofs.Tiers.{a-tier, tiers-next, tiers-end}
use Rattle.desk_choice.proofs.tables.Tables.pick_of_tiers.Goals as goal

pub returns-then-is_viable_tier : goal.returns-then-is_viable_tier
returns-then-is_viable_tier c = λ s f k.
    let items = c.as_slice-round-items.result.now in
    let at : slice_get c.args.self.now.rounds.items c.loop-round.round-index ≡ Some c.round-item.result = ap (λ xs. slice_get xs c.loop-round.round-index) (sym c.as_slice-round-items.ensures.value) ∙ slice_get_read items (length items) c.loop-round.round-index c.round-item.result refl c.loop-round-test.true c.round-item.is in
    let g = a-tier s f c.args.self.now c.loop-round.round-index c.round-item.result k at in
    c.pick.ensures s f c.loop-round.round-index g.0 k g.1 ∙ sym (tiers-next s f c.args.self.now c.loop-round.round-index g.0 c.round-item.result c.args.kind c.args.word true g.1 (c.if-is_viable_tier.ensures s f c.loop-round.round-index g.0 k g.1)) ∙ c.loop-round.invariant s f k

pub loop-round-preserved : goal.loop-round-preserved
loop-round-preserved c = λ s f k.
    let items = c.as_slice-round-items.result.now in
    let at : slice_get c.args.self.now.rounds.items c.loop-round.round-index ≡ Some c.round-item.result = ap (λ xs. slice_get xs c.loop-round.round-index) (sym c.as_slice-round-items.ensures.value) ∙ slice_get_read items (length items) c.loop-round.round-index c.round-item.result refl c.loop-round-test.true c.round-item.is in
    let g = a-tier s f c.args.self.now c.loop-round.round-index c.round-item.result k at in
    sym (tiers-next s f c.args.self.now c.loop-round.round-index g.0 c.round-item.result c.args.kind c.args.word false g.1 (c.if-is_viable_tier.ensures s f c.loop-round.round-index g.0 k g.1)) ∙ c.loop-round.invariant s f k

pub returns : goal.returns
returns c = λ s f k.
    let end : slice_get c.args.self.now.rounds.items c.loop-round.round-index ≡ None = ap (λ xs. slice_get xs c.loop-round.round-index) (sym c.as_slice-round-items.ensures.value) ∙ slice_get_past c.as_slice-round-items.result.now c.loop-round.round-index c.loop-round-test.false in
    sym (tiers-end s f c.args.self.now c.loop-round.round-index c.args.kind c.args.word k end) ∙ c.loop-round.invariant s f k
