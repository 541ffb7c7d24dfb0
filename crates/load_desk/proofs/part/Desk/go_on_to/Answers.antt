use Rattle.std.proofs.Common.{◌≡◌, ◌+◌, sym, ◌∙◌, arith}
use Rattle.load_desk.proofs.Raising.{few-raised, few-places}
use Rattle.load_desk.proofs.Plans.{untaken, taken-did, count-none, count-some, numbers-fit, fresh-facts, fresh-tiers, replanned-stands}
use Rattle.load_desk.proofs.part.Desk.go_on_to.Goals as goal

pub returns-in_default-clause-did : goal.returns-in_default-clause-did
returns-in_default-clause-did c = λ s p h next. untaken s p c.args.self.now c.args.plan c.args.base c.args.at h next c.args.out.now (count-none c.args.self.now.backends c.args.base c.args.plan c.in_default.ensures)

pub raised-requires-clause-numbers : goal.raised-requires-clause-numbers
raised-requires-clause-numbers c = numbers-fit c.args.self.now.backends c.args.base c.args.plan (count-some c.args.self.now.backends c.args.base c.in-Some.backends c.args.plan c.in-Some.ensures).0

pub fresh-requires-clause-few : goal.fresh-requires-clause-few
fresh-requires-clause-few c = few-raised c.args.self.now.backends c.args.plan c.in_ok-numbered.numbered c.in_ok-numbered.ensures c.requires.plan

pub fresh-requires-clause-places : goal.fresh-requires-clause-places
fresh-requires-clause-places c = few-places c.args.self.now.backends c.args.plan c.in_ok-numbered.numbered c.in_ok-numbered.ensures c.requires.plan

pub returns-clause-did : goal.returns-clause-did
returns-clause-did c = λ s p h next.
    let d = c.args.self.now in
    let plan = c.args.plan in
    let base = c.args.base in
    let at = c.args.at in
    let numbered = c.in_ok-numbered.numbered in
    let fits = count-some d.backends base c.in-Some.backends plan c.in-Some.ensures in
    let number : c.in-Some-checked_add.number ≡ d.number + 1 = omega (arith, c.in-Some-checked_add.ensures) in
    let tells = c.in_ok-self.ensures.tells s _ (fresh-tiers s p d plan base at h next ∙ sym c.in_ok-numbered.ensures) (fresh-facts s p d plan base at h next) in
    taken-did s p d plan base at h next c.in-Some-checked_add.number c.args.out.now c.reserve.new.self c.note.new.out _ fits.0 number c.reserve.ensures.entries c.reserve.ensures.letters c.note.ensures.entries c.note.ensures.letters
    (replanned-stands s p d plan base at h next c.in-Some-checked_add.number c.in-Some.backends numbered c.in_ok-self.field-0 number fits.1 c.in_ok-numbered.ensures tells c.in_ok-self.ensures.rings)
