use Rattle.std.proofs.Common.{◌∙◌, ap, refl, subst, None}
use Rattle.lload_names.specs.declared.names.PartName.TheVariants.{Client}
use Rattle.part_spec.specs.World as run
use Rattle.letter_queues.specs.Queues.{Gains}
use Rattle.proxy_core.proofs.Letters.{held}
use Rattle.proxy_core.proofs.Moves.{client-moved}
use Rattle.proxy_core.proofs.world.World.sever_client.Goals as goal

pub returns : goal.returns
returns c =
    λ s v h.
    let w = c.args.self.now in
    let p = run.client_in v c.args.client in
    let here = h.clients c.args.client in
    let end = run.sever_of s v (Client c.args.client) c.args.now c.args.why in
    record {
      entries = ap (λ l. l.items) c.send.ensures.entries ∙ c.sever-out.ensures.entries s p here;
      stands =
          client-moved s v c.args.client None end w _ h
          (record { clients = c.sever-out.ensures.settings; connections = refl; plans = refl; greatest = refl }) refl refl
          c.sever-out.ensures.others (c.sever-out.ensures.stands s p here)
          (held v.letters (Client c.args.client) end.letters w.letters c.send.new.letters h.letters
          (subst (λ l. Gains (Client c.args.client) l w.letters c.send.new.letters) (c.sever-out.ensures.letters s p here) c.send.ensures.gains));
    }
