use Rattle.proxy_parts.proofs.Taking.{regular-takes, bind-takes, stands-regular, stands-bind}
use Rattle.proxy_parts.proofs.connection.Connection.step.Goals as goal

pub returns-in_ok-step-in-Regular-clause-turned : goal.returns-in_ok-step-in-Regular-clause-turned
returns-in_ok-step-in-Regular-clause-turned c =
    λ s p h m.
    let k = stands-regular s p c.args.self.now c.in-Regular.part c.in-Regular.is h in
    let t = (c.in_ok-step-in-Regular.ensures).turned s p k (regular-takes s p c.in-Regular.part c.args.input k m) in
    record { entries = t.entries; letters = t.letters; stands = t.stands }

pub returns-in_ok-step-in-Bind-clause-turned : goal.returns-in_ok-step-in-Bind-clause-turned
returns-in_ok-step-in-Bind-clause-turned c =
    λ s p h m.
    let k = stands-bind s p c.args.self.now c.in-Bind.part c.in-Bind.is h in
    let t = (c.in_ok-step-in-Bind.ensures).turned s p k (bind-takes s p c.in-Bind.part c.args.input k m) in
    record { entries = t.entries; letters = t.letters; stands = t.stands }
