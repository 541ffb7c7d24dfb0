use Rattle.std.proofs.Common.{◌∙◌, ◌++◌, ap, sym, subst, None}
use Rattle.lload_names.specs.declared.names.PartName.TheVariants.{Desk, Client, Up as Connection}
use Rattle.part_spec.specs.Merge.{Severs, world_of}
use Rattle.part_spec.specs.World as run
use Rattle.proxy_core.specs.Runs.{Moved}
use Rattle.proxy_core.proofs.Journals.{journal-behind, run-moved}
use Rattle.proxy_core.proofs.Quiet.{no_effects, quiet}
use Rattle.proxy_core.proofs.world.World.sever.Goals as goal

pub returns-in-Desk : goal.returns-in-Desk
returns-in-Desk c =
    λ s ms h.
    let v = world_of s ms in
    subst (λ p. Moved s ms p (Severs c.args.now c.args.why) c.new.result.items c.args.self.now) (sym c.in-Desk.is)
    (run-moved s ms Desk (Severs c.args.now c.args.why) c.new.result.items c.args.self.now c.args.self.now h c.requires
    (journal-behind s Desk None no_effects v ∙ ap (λ l. run.journal_of v ++ l) (sym c.new.ensures))
    (quiet s v Desk None c.args.self.now h.is))

pub returns-in-Client : goal.returns-in-Client
returns-in-Client c =
    λ s ms h.
    let v = world_of s ms in
    let t = c.sever_client.ensures s v h.is in
    subst (λ p. Moved s ms p (Severs c.args.now c.args.why) c.sever_client.result.items c.sever_client.new.self) (sym c.in-Client.is)
    (run-moved s ms (Client c.in-Client.client) (Severs c.args.now c.args.why) c.sever_client.result.items c.args.self.now c.sever_client.new.self h c.requires
    (journal-behind s (Client c.in-Client.client) None (run.sever_of s v (Client c.in-Client.client) c.args.now c.args.why) v ∙ ap (λ l. run.journal_of v ++ l) (sym t.entries))
    t.stands)

pub returns-in-Up : goal.returns-in-Up
returns-in-Up c =
    λ s ms h.
    let v = world_of s ms in
    let t = c.sever_connection.ensures s v h.is in
    subst (λ p. Moved s ms p (Severs c.args.now c.args.why) c.sever_connection.result.items c.sever_connection.new.self) (sym c.in-Up.is)
    (run-moved s ms (Connection c.in-Up.conn) (Severs c.args.now c.args.why) c.sever_connection.result.items c.args.self.now c.sever_connection.new.self h c.requires
    (journal-behind s (Connection c.in-Up.conn) None (run.sever_of s v (Connection c.in-Up.conn) c.args.now c.args.why) v ∙ ap (λ l. run.journal_of v ++ l) (sym t.entries))
    t.stands)
