use Rattle.std.proofs.Common.{sym}
use Rattle.load_desk.proofs.Turns.{on-ok}
use Rattle.load_desk.proofs.part.Desk.choose.Goals as goal

pub returns-in-Go-clause-chosen : goal.returns-in-Go-clause-chosen
returns-in-Go-clause-chosen c = rw c.in-Go.is (on-ok c.give.result (λ given s p word at h fit is. given s p word at c.in-Go.backend h fit is) c.give.ensures.given)
