use Rattle.std.proofs.Common.{◌++◌, ◌∷◌, [], None, ap, refl, ◌∙◌}
use Rattle.lload_names.specs.declared.names.Posted.{Posted}
use Rattle.lload_names.specs.declared.names.PartName.TheVariants.{Client}
use Rattle.outbox.specs.Room.{Room}
use Rattle.client_session.proofs.Chosen.{did-refuse}
use Rattle.client_session.proofs.part.ClientPart.refuse_live.Goals as goal

pub returns : goal.returns
returns c = record {
  did = λ s p which h at same. did-refuse s p c.args.self.now c.take_answer-what.new.self c.args.at c.args.op which c.args.rest _ c.live.result _ _ h (c.live.ensures.named s p h) c.if-is_none.ensures same (c.take_answer-what.ensures.what s p h) c.take_answer-what.ensures.told (c.take_answer-what.ensures.state s p None h refl) (c.put.ensures.entries ∙ ap (λ n. c.args.out.now.entries.items ++ record { part = Client n; at = c.args.at; what = c.take_answer-what.result } ∷ []) c.take_answer-what.ensures.number) (ap (λ (r : Room Posted). r.items) c.put.ensures.letters);
}
