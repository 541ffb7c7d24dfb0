use Rattle.std.proofs.Common.{◌≡◌, ◌≢◌, ⊎_elim, slice_get, ap, sym, ◌∙◌, arith}
use Rattle.std.proofs.lemmas.Bool.{cases_eq}
use Rattle.tier_select.specs.Flags.{is_set}
use Rattle.desk_choice.proofs.Tiers.{place-within}
use Rattle.desk_choice.proofs.tables.Tables.eligible.Goals as goal

pub loop-place-preserved : goal.loop-place-preserved
loop-place-preserved c = λ s f i t k h j b l g.
    ⊎_elim
    (λ (is : j ≡ c.loop-place.place). ap (is_set c.set.new.self) is ∙ c.set.ensures.here ∙ c.has_eligible.ensures s f i t b k h (ap (slice_get t.backends) (sym is) ∙ g))
    (λ (ne : j ≢ c.loop-place.place). c.set.ensures.others j ne ∙ c.loop-place.invariant s f i t k h j b (omega (arith, l, ne)) g)
    (cases_eq j c.loop-place.place)

pub returns : goal.returns
returns c = λ s f i t k h j b g.
    let w = place-within s f c.args.self.now i t c.args.round.now j b k h g in
    c.loop-place.invariant s f i t k h j b (omega (arith, w.0, w.1, c.loop-place-test.false, c.count.ensures, c.min-place-end.ensures)) g
