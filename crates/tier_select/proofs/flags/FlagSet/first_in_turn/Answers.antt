use Rattle.std.proofs.Common.{refl, sym, ◌∙◌}
use Rattle.tier_select.specs.Flags.{is_set}
use Rattle.tier_select.proofs.Rising.{first_in_turn}
use Rattle.tier_select.proofs.flags.FlagSet.first_in_turn.Goals as goal

pub returns-in-Some-first_between-clause-first : goal.returns-in-Some-first_between-clause-first
returns-in-Some-first_between-clause-first g c =
    let p = is_set c.args.self.now in
    let split = first_in_turn p c.in-Some.last c.args.count (c.requires.within c.in-Some.last c.in-Some.is) in
    let found = sym c.first_between-2.ensures.first ∙ c.in-Some-first_between.is in
    rw (c.in-Some.is, split, found) refl

pub returns-in-None-clause-first : goal.returns-in-None-clause-first
returns-in-None-clause-first g c =
    let p = is_set c.args.self.now in
    let split = first_in_turn p c.in-Some.last c.args.count (c.requires.within c.in-Some.last c.in-Some.is) in
    let missed = sym c.first_between-2.ensures.first ∙ c.in-None.is in
    rw (c.in-Some.is, split, missed) c.first_between-in-None.ensures.first
