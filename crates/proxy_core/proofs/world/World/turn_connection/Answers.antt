use Rattle.std.proofs.Common.{◌≡◌, ◌++◌, ◌∙◌, ap, refl, subst}
use Rattle.part_spec.specs.Inputs.{letter_of}
use Rattle.part_spec.specs.World as run
use Rattle.lload_names.specs.declared.names.PartName.TheVariants.{Up as Connection}
use Rattle.letter_queues.specs.Queues.{Gains}
use Rattle.proxy_parts.specs.Connections.{connection_part}
use Rattle.proxy_core.proofs.Letters.{held}
use Rattle.proxy_core.proofs.Moves.{room-made, agrees-same, connection-moved, connection-stays, each-stands, same-connection, was-there, said-of-error}
use Rattle.proxy_core.proofs.Quiet.{plain-unplaced}
use Rattle.proxy_core.proofs.world.World.turn_connection.Goals as goal

pub returns-in_err-step-clause-err : goal.returns-in_err-step-clause-err
returns-in_err-step-clause-err c =
    said-of-error c.from_residual-in_err-step.result
    (λ s v h.
    let mid = c.make_room.new.self in
    let k = room-made s v c.args.self.now mid c.in_ok-make_room.ensures.parts c.in_ok-make_room.ensures.letters h in
    connection-stays s v mid _ k
    (record { clients = refl; connections = c.in_err-step.ensures.settings; plans = refl; greatest = refl }) refl refl refl
    (each-stands s v c.args.conn mid.connections c.step.new.self k.connections c.in_err-step.ensures.others
    (same-connection s c.args.conn mid.connections c.step.new.self v c.in_err-step.ensures.err (k.connections c.args.conn)))
    (was-there c.args.conn mid.connections c.step.new.self c.in_err-step.ensures.others c.in_err-step.ensures.absent))

pub returns-clause-took : goal.returns-clause-took
returns-clause-took c =
    λ s v h m.
    let mid = c.make_room.new.self in
    let p = run.connection_in s v c.args.conn in
    let k = room-made s v c.args.self.now mid c.in_ok-make_room.ensures.parts c.in_ok-make_room.ensures.letters h in
    let t = c.in_ok-step.ensures.took s p (k.connections c.args.conn) (plain-unplaced s c.args.conn c.args.input (connection_part mid.connections c.args.conn) c.requires.plain) m in
    let turn = run.turn_of s v (Connection c.args.conn) c.args.input in
    let given : c.step.new.out.letters.items ≡ turn.letters = t.letters ∙ ap (λ l. l ++ turn.letters) c.requires.letters in
    record {
      entries = ap (λ l. l.items) c.send.ensures.entries ∙ t.entries;
      stands =
          connection-moved s v c.args.conn (letter_of c.args.input) turn mid _ k
          (agrees-same s mid _ (record { clients = refl; connections = c.in_ok-step.ensures.settings; plans = refl; greatest = refl }) k.agrees) refl refl refl
          c.in_ok-step.ensures.others t.stands
          (held v.letters (Connection c.args.conn) turn.letters mid.letters c.send.new.letters k.letters
          (subst (λ l. Gains (Connection c.args.conn) l mid.letters c.send.new.letters) given c.send.ensures.gains))
          (λ n some. k.known n (was-there c.args.conn mid.connections c.step.new.self c.in_ok-step.ensures.others c.in_ok-step.ensures.absent n some));
    }
