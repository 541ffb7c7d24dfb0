use Rattle.client_session.proofs.Asking.{stands-chosen}
use Rattle.client_session.proofs.part.ClientPart.put_chosen.Goals as goal

pub returns-clause-stands : goal.returns-clause-stands
returns-clause-stands c = λ s p h e. rw (c.saturating_sub-self.ensures) (stands-chosen s c.args.at c.args.op p c.args.self.now e h)
