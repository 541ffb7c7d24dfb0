use Rattle.std.proofs.Common.{◌≤◌, refl, sym, ◌∙◌, arith}
use Rattle.part_spec.specs.DeskState.{empty_desk, facts_of}
use Rattle.load_desk.proofs.Raising.{few-raised, few-places}
use Rattle.load_desk.proofs.Plans.{first-stands, first-tiers, first-facts}
use Rattle.load_desk.proofs.part.Desk.new.Goals as goal

pub raised-requires-clause-numbers : goal.raised-requires-clause-numbers
raised-requires-clause-numbers c = omega (arith, c.requires.few_backends)

pub fresh-requires-clause-few : goal.fresh-requires-clause-few
fresh-requires-clause-few c = few-raised 0 c.args.plan c.in_ok-numbered.numbered c.in_ok-numbered.ensures c.requires

pub fresh-requires-clause-places : goal.fresh-requires-clause-places
fresh-requires-clause-places c = few-places 0 c.args.plan c.in_ok-numbered.numbered c.in_ok-numbered.ensures c.requires

pub returns : goal.returns
returns c = λ s h. first-stands s c.args.plan h _ refl refl c.in_ok-numbered.ensures refl c.backends_in-backends.ensures
    (c.in_ok-tables.ensures.tells s (facts_of s empty_desk) (first-tiers s c.args.plan h ∙ sym c.in_ok-numbered.ensures) (first-facts s c.args.plan h)) c.in_ok-tables.ensures.rings c.new.ensures
