use Rattle.std.proofs.Common.{◌∙◌, ap, not}
use Rattle.lload_spec.specs.Identifiers.{id_for, with_sent_id}
use Rattle.id_table.proofs.Identifiers.{first-taken}
use Rattle.id_table.proofs.given.GivenIds.use_first.Goals as goal

pub returns-else-is_none-clause-ids : goal.returns-else-is_none-clause-ids
returns-else-is_none-clause-ids c = first-taken c.self.inside.next c.self.inside.free.items c.pop_front.new.self.items c.pop_front.result c.self.invariant c.pop_front.ensures.items (c.is_none.ensures ∙ ap not c.if-is_none.false) ∙ ap (λ g. with_sent_id (id_for g.ids) g.ids) c.self.view_is
