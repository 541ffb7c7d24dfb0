use Rattle.std.proofs.Common.{◌≡◌, ◌++◌, ◌∙◌, ap, refl, subst}
use Rattle.part_spec.specs.Inputs.{letter_of}
use Rattle.part_spec.specs.World as run
use Rattle.lload_names.specs.declared.names.PartName.TheVariants.{Desk}
use Rattle.letter_queues.specs.Queues.{Gains}
use Rattle.proxy_core.proofs.Letters.{held}
use Rattle.proxy_core.proofs.Moves.{room-made, agrees-same, desk-moved, desk-stays, said-of-error}
use Rattle.proxy_core.proofs.Quiet.{plain-plan, plan-stays}
use Rattle.proxy_core.proofs.world.World.turn_desk.Goals as goal

pub step-requires : goal.step-requires
step-requires c = record { plan = plain-plan c.args.input c.requires.plain }

pub returns-in_err-step-clause-err : goal.returns-in_err-step-clause-err
returns-in_err-step-clause-err c =
    said-of-error c.from_residual-in_err-step.result
    (λ s v h m.
    let mid = c.make_room.new.self in
    let k = room-made s v c.args.self.now mid c.in_ok-make_room.ensures.parts c.in_ok-make_room.ensures.letters h in
    desk-stays s v mid _ k refl refl refl refl refl (c.in_err-step.ensures.err s v.desk k.desk m))

pub returns-clause-took : goal.returns-clause-took
returns-clause-took c =
    λ s v h m.
    let mid = c.make_room.new.self in
    let k = room-made s v c.args.self.now mid c.in_ok-make_room.ensures.parts c.in_ok-make_room.ensures.letters h in
    let t = c.in_ok-step.ensures.turned s v.desk k.desk m in
    let turn = run.turn_of s v Desk c.args.input in
    let given : c.step.new.out.letters.items ≡ turn.letters = t.letters ∙ ap (λ l. l ++ turn.letters) c.requires.letters in
    record {
      entries = ap (λ l. l.items) c.send.ensures.entries ∙ t.entries;
      stands =
          desk-moved s v (letter_of c.args.input) turn mid _ k
          (agrees-same s mid _ (record { clients = refl; connections = refl; plans = refl; greatest = refl }) k.agrees) refl refl refl
          (plan-stays s v.desk c.args.input c.requires.plain ∙ k.number) t.stands
          (held v.letters Desk turn.letters mid.letters c.send.new.letters k.letters
          (subst (λ l. Gains Desk l mid.letters c.send.new.letters) given c.send.ensures.gains));
    }
