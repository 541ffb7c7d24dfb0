use Rattle.std.proofs.Common.{◌≤◌, subst, arith}
use Rattle.io_workers.specs.Places.{ArePlaces}
use Rattle.io_workers.proofs.Numbers.{turn-positive, turn-some}
use Rattle.io_workers.proofs.places.Places.is_turn_of.Goals as goal

pub returns-then-conn-eq0 : goal.returns-then-conn-eq0
returns-then-conn-eq0 c =
    let places = subst (ArePlaces c.self.inside.count) c.self.view_is c.self.invariant in (
      λ h. absurd cc,
      λ h.
          let positive : 1 ≤ c.args.conn = turn-positive c.self.inside.count c.args.conn c.args.self.now places h in
          let some : 1 ≤ c.self.inside.count = turn-some c.self.inside.count c.args.conn c.args.self.now places h in
          absurd (omega (arith, positive, some)),
    )
