use Rattle.std.proofs.Common.{Ok, sym, ap, ◌∙◌}
use Rattle.part_spec.specs.DeskState.{facts_of}
use Rattle.load_desk.proofs.Choosing.{sound, no-holder, not-pending, given-bound, given-free, undone, by-ok, by-err}
use Rattle.load_desk.proofs.part.Desk.give.Goals as goal

pub returns-then-not-branch-clause-given : goal.returns-then-not-branch-clause-given
returns-then-not-branch-clause-given c = λ s p word at b h fit is.
    let held = c.in_ok-put.was ∙ ap Ok c.if-not-branch.true in
    absurd (no-holder s p c.args.self.now c.args.conn b c.args.want.kind h (sound s p word c.args.want c.args.conn b is) (c.put.ensures.held held) (c.put.ensures.kind held))

pub returns-then-is_err-clause-err : goal.returns-then-is_err-clause-err
returns-then-is_err-clause-err c = λ s p h fit.
    let d = c.args.self.now in
    let put = c.in_ok-put.was ∙ ap Ok c.if-not-branch.false in
    let none = not-pending s p d c.args.op c.args.want h fit in
    undone s p d c.args.op c.args.conn c.take_on.new.tables c.put.new.self c.take.new.self c.take.result h none (c.put.ensures.put put none)
    (by-err c.take_on.result (sym c.is_err.ensures.value ∙ c.if-is_err.true) c.take_on.ensures.err s (facts_of s p) h.tables) c.take_on.ensures.rounds
    c.take.ensures.taken c.take.ensures.same c.take.ensures.others

pub returns-then-is_free-clause-given : goal.returns-then-is_free-clause-given
returns-then-is_free-clause-given c = λ s p word at b h fit is.
    let d = c.args.self.now in
    let put = c.in_ok-put.was ∙ ap Ok c.if-not-branch.false in
    let taken = by-ok c.take_on.result (sym c.is_err.ensures.value ∙ c.if-is_err.false) c.take_on.ensures.taken in
    given-free s p d c.args.op c.args.want c.args.conn b at h fit (sound s p word c.args.want c.args.conn b is) c.put.new.self (c.put.ensures.put put (not-pending s p d c.args.op c.args.want h fit))
    c.take_on.new.tables c.turn_to.new.tables (λ f more k v l. taken s f more k v l) (λ f last k v l. c.turn_to.ensures.turned s f last k v l) c.take_on.ensures.rounds c.turn_to.ensures.rounds
    c.pick.new.tables (λ f last k v l. c.pick.ensures.picked s f last k v l) (λ f l k v r. c.pick.ensures.rings s f l k v r) (sym c.is_free.ensures ∙ c.if-is_free.true)

pub returns-else-is_free-clause-given : goal.returns-else-is_free-clause-given
returns-else-is_free-clause-given c = λ s p word at b h fit is.
    let d = c.args.self.now in
    let put = c.in_ok-put.was ∙ ap Ok c.if-not-branch.false in
    let taken = by-ok c.take_on.result (sym c.is_err.ensures.value ∙ c.if-is_err.false) c.take_on.ensures.taken in
    given-bound s p d c.args.op c.args.want c.args.conn b at h fit (sound s p word c.args.want c.args.conn b is) c.put.new.self (c.put.ensures.put put (not-pending s p d c.args.op c.args.want h fit))
    c.take_on.new.tables c.turn_to.new.tables (λ f more k v l. taken s f more k v l) (λ f last k v l. c.turn_to.ensures.turned s f last k v l) c.take_on.ensures.rounds c.turn_to.ensures.rounds
    (sym c.is_free.ensures ∙ c.if-is_free.false)
