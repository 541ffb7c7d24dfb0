use Rattle.std.proofs.Common.{◌≤◌, ◌<◌, sym, ◌∙◌, arith}
use Rattle.std.proofs.lemmas.Bool.Decides.{nat_tests}
use Rattle.part_spec.specs.DeskState.{facts_of}
use Rattle.load_desk.proofs.Turns.{on-ok, on-err}
use Rattle.load_desk.proofs.Coming.{old-stands, up-stands, new-one, unchanged}
use Rattle.load_desk.proofs.Places.{at-its-place, has-place, is-placed}
use Rattle.load_desk.proofs.part.Desk.see.Goals as goal

pub returns-then-conn-self-clause-seen : goal.returns-then-conn-self-clause-seen
returns-then-conn-self-clause-seen c = λ s p at h fit. old-stands s p c.args.self.now at c.args.conn h fit (grind (arith, nat_tests, c.if-conn-self.true))

pub returns-in_default-clause-seen : goal.returns-in_default-clause-seen
returns-in_default-clause-seen c = λ s p at h fit. absurd (has-place s p c.args.self.now c.args.conn h fit (grind (arith, nat_tests, c.if-conn-self.false)) (sym c.in_default.ensures.place))

pub returns-clause-seen : goal.returns-clause-seen
returns-clause-seen c = on-ok c.up.result (λ up s p at h fit.
    let d = c.args.self.now in
    let above : d.base < c.args.conn = grind (arith, nat_tests, c.if-conn-self.false) in
    let place = sym c.in-Some.ensures.place in
    up-stands s p d at c.args.conn c.up.new.tables h fit above (up s (facts_of s p) h.tables (sym (at-its-place s p d c.args.conn h fit above) ∙ place) (is-placed s p d c.args.conn c.in-Some.place h place) (new-one s p c.args.conn fit)) c.up.ensures.rounds) c.up.ensures.up

pub returns-clause-err : goal.returns-clause-err
returns-clause-err c = on-err c.up.result (λ err s p h fit. unchanged s p c.args.self.now c.up.new.tables h (err s (facts_of s p) h.tables (new-one s p c.args.conn fit)) c.up.ensures.rounds) c.up.ensures.err
