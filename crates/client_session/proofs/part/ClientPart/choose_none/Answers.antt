use Rattle.std.proofs.Common.{ap, refl, ◌∙◌}
use Rattle.lload_names.specs.declared.names.Posted.{Posted}
use Rattle.lload_names.specs.declared.names.What.TheVariants.{Chosen}
use Rattle.outbox.specs.Room.{Room}
use Rattle.client_session.proofs.Chosen.{did-none}
use Rattle.client_session.proofs.Rules.{put-entry}
use Rattle.client_session.proofs.part.ClientPart.choose_none.Goals as goal

pub returns-clause-did : goal.returns-clause-did
returns-clause-did c = λ s p mark h due.
    did-none s p c.args.at mark c.args.op c.args.answer c.args.which _ _ _ _ c.requires
    (put-entry p c.args.at (Chosen c.args.op c.args.answer) _ _ _ _ h.number c.put_chosen.ensures.entries c.in_ok-reserve.ensures.entries)
    (ap (λ (r : Room Posted). r.items) c.put_chosen.ensures.letters ∙ c.in_ok-reserve.ensures.letters)
    (c.refuse_live.ensures.did s _ c.args.which (c.put_chosen.ensures.stands s p h due.asked) refl (c.in_ok-rest.ensures s p h))
