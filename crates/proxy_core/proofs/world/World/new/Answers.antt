use Rattle.std.proofs.Common.{refl, ap, ◌∙◌}
use Rattle.lload_conf.specs.RunSettings.{first_plan}
use Rattle.proxy_core.proofs.Begun.{begins}
use Rattle.proxy_core.proofs.world.World.new.Goals as goal

pub returns : goal.returns
returns c = λ s h. begins s c.args.config.now _ h.plans
    (rw (c.new-3.ensures.settings) (c.in_ok-clients.ensures s c.args.id_limit h))
    (rw (c.new-4.ensures.settings) (c.in_ok-connections.ensures.settings s h))
    (record {
      desk = c.in_ok-desk.ensures s (rw (c.in_ok-copy.ensures) h.plans);
      clients = c.new-3.ensures.parts;
      connections = c.new-4.ensures.parts;
      letters = c.new-5.ensures.letters;
      plans = c.in_ok-plans.ensures ∙ ap first_plan c.in_ok-copy-2.ensures;
      greatest = refl;
    })
