use Rattle.std.proofs.Common.{◌∙◌, ap, refl, subst, None}
use Rattle.lload_names.specs.declared.names.PartName.TheVariants.{Up as Connection}
use Rattle.part_spec.specs.World as run
use Rattle.letter_queues.specs.Queues.{Gains}
use Rattle.proxy_core.proofs.Letters.{held}
use Rattle.proxy_core.proofs.Moves.{agrees-same, connection-moved, was-there}
use Rattle.proxy_core.proofs.world.World.sever_connection.Goals as goal

pub returns : goal.returns
returns c =
    λ s v h.
    let w = c.args.self.now in
    let p = run.connection_in s v c.args.conn in
    let here = h.connections c.args.conn in
    let end = run.sever_of s v (Connection c.args.conn) c.args.now c.args.why in
    record {
      entries = ap (λ l. l.items) c.send.ensures.entries ∙ c.sever-out.ensures.entries s p here;
      stands =
          connection-moved s v c.args.conn None end w _ h
          (agrees-same s w _ (record { clients = refl; connections = c.sever-out.ensures.settings; plans = refl; greatest = refl }) h.agrees) refl refl refl
          c.sever-out.ensures.others (c.sever-out.ensures.stands s p here)
          (held v.letters (Connection c.args.conn) end.letters w.letters c.send.new.letters h.letters
          (subst (λ l. Gains (Connection c.args.conn) l w.letters c.send.new.letters) (c.sever-out.ensures.letters s p here) c.send.ensures.gains))
          (λ n some. h.known n (was-there c.args.conn w.connections c.sever-out.new.self c.sever-out.ensures.others c.sever-out.ensures.absent n some));
    }
