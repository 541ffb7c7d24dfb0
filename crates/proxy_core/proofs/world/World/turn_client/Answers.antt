use Rattle.std.proofs.Common.{◌≡◌, ◌++◌, ◌∙◌, ap, refl, subst}
use Rattle.part_spec.specs.Inputs.{letter_of}
use Rattle.part_spec.specs.World as run
use Rattle.lload_names.specs.declared.names.PartName.TheVariants.{Client}
use Rattle.letter_queues.specs.Queues.{Gains}
use Rattle.proxy_core.proofs.Letters.{held}
use Rattle.proxy_core.proofs.Moves.{room-made, client-moved, client-stays, said-of-error}
use Rattle.proxy_core.proofs.world.World.turn_client.Goals as goal

pub returns-in_err-step-clause-err : goal.returns-in_err-step-clause-err
returns-in_err-step-clause-err c =
    said-of-error c.from_residual-in_err-step.result
    (λ s v h.
    let k = room-made s v c.args.self.now c.make_room.new.self c.in_ok-make_room.ensures.parts c.in_ok-make_room.ensures.letters h in
    client-stays s v c.args.client c.make_room.new.self _ k
    (record { clients = c.in_err-step.ensures.settings; connections = refl; plans = refl; greatest = refl }) refl refl refl
    c.in_err-step.ensures.others
    (c.in_err-step.ensures.err s (run.client_in v c.args.client) k.agrees.clients (k.clients c.args.client)))

pub returns-clause-took : goal.returns-clause-took
returns-clause-took c =
    λ s v h m.
    let mid = c.make_room.new.self in
    let p = run.client_in v c.args.client in
    let k = room-made s v c.args.self.now mid c.in_ok-make_room.ensures.parts c.in_ok-make_room.ensures.letters h in
    let t = c.in_ok-step.ensures.took s p k.agrees.clients (k.clients c.args.client) m in
    let turn = run.turn_of s v (Client c.args.client) c.args.input in
    let given : c.step.new.out.letters.items ≡ turn.letters = t.letters ∙ ap (λ l. l ++ turn.letters) c.requires in
    record {
      entries = ap (λ l. l.items) c.send.ensures.entries ∙ t.entries;
      stands =
          client-moved s v c.args.client (letter_of c.args.input) turn mid _ k
          (record { clients = c.in_ok-step.ensures.settings; connections = refl; plans = refl; greatest = refl }) refl refl
          c.in_ok-step.ensures.others t.stands
          (held v.letters (Client c.args.client) turn.letters mid.letters c.send.new.letters k.letters
          (subst (λ l. Gains (Client c.args.client) l mid.letters c.send.new.letters) given c.send.ensures.gains));
    }
