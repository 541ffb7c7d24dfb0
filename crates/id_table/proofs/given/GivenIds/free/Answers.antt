use Rattle.std.proofs.Common.{◌≡◌, sym, subst, false}
use Rattle.id_table.specs.Given.{Given, WasGiven, has_id}
use Rattle.id_table.proofs.Identifiers.{freed-ids}
use Rattle.id_table.proofs.given.GivenIds.free.Goals as goal

pub invariant_of-self : goal.invariant_of-self
invariant_of-self c = freed-ids _ _ _ c.args.id c.self.invariant (subst (λ (g : Given). WasGiven g.ids.next c.args.id) (sym c.self.view_is) c.requires.given) (subst (λ (g : Given). has_id c.args.id g.ids.free ≡ false) (sym c.self.view_is) c.requires.taken) c.push_back_reserved.ensures.items

pub returns-clause-are_ids : goal.returns-clause-are_ids
returns-clause-are_ids c = freed-ids _ _ _ c.args.id c.self.invariant (subst (λ (g : Given). WasGiven g.ids.next c.args.id) (sym c.self.view_is) c.requires.given) (subst (λ (g : Given). has_id c.args.id g.ids.free ≡ false) (sym c.self.view_is) c.requires.taken) c.push_back_reserved.ensures.items
