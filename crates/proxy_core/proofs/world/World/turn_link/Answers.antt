use Rattle.std.proofs.Common.{arith, ◌≡◌, ◌++◌, ◌∙◌, ap, refl, sym, subst, Some, None}
use Rattle.std.proofs.lemmas.List.{append-nil}
use Rattle.lload_names.specs.declared.inputs.Input.TheVariants.{LinkUp}
use Rattle.lload_names.specs.declared.names.PartName.TheVariants.{Up as Connection}
use Rattle.lload_spec.specs.Settings.{place_at}
use Rattle.part_spec.specs.World as run
use Rattle.link_laws.proofs.Numbers.{connection_here}
use Rattle.letter_queues.specs.Queues.{Gains}
use Rattle.proxy_core.specs.States.{Is}
use Rattle.proxy_core.proofs.Letters.{held}
use Rattle.proxy_core.proofs.Links.{place-by, known-linked, one-list}
use Rattle.proxy_core.proofs.Moves.{room-made, connection-moved, connection-stays, each-stands, said-of-error}
use Rattle.proxy_core.proofs.Moves.{part-had}
use Rattle.proxy_core.proofs.Quiet.{quiet, unplaced-turn, of-its-kind}
use Rattle.proxy_core.proofs.world.World.turn_link.Goals as goal

pub returns-in_default-clause-took : goal.returns-in_default-clause-took
returns-in_default-clause-took c =
    λ s v h allows.
    let w = c.args.self.now in
    let none : place_at s c.args.conn ≡ None = place-by s w c.args.conn h.agrees allows.leaves ∙ sym c.place_of.ensures ∙ c.in_default.is in
    let e = unplaced-turn s (run.connection_in s v c.args.conn) (LinkUp c.args.now) (ap (place_at s) (connection_here s v c.args.conn) ∙ none) in
    record {
      entries = subst (λ t. c.args.out.now.entries.items ≡ c.args.out.now.entries.items ++ t.entries) (sym e) (sym (append-nil c.args.out.now.entries.items));
      stands = subst (λ t. Is s (run.behind s (Connection c.args.conn) None t v) w) (sym e) (quiet s v (Connection c.args.conn) None w h);
    }

pub returns-in_err-link-clause-err : goal.returns-in_err-link-clause-err
returns-in_err-link-clause-err c =
    said-of-error c.from_residual-in_err-link.result
    (λ s v h.
    let mid = c.make_room.new.self in
    let k = room-made s v c.args.self.now mid c.in_ok-make_room.ensures.parts c.in_ok-make_room.ensures.letters h in
    connection-stays s v mid _ k
    (record { clients = refl; connections = c.in_err-link.ensures.settings; plans = refl; greatest = refl }) refl refl refl
    (each-stands s v c.args.conn mid.connections c.link.new.self k.connections c.in_err-link.ensures.others
    (c.in_err-link.ensures.err s (run.connection_in s v c.args.conn) (k.connections c.args.conn)))
    (part-had c.args.conn mid.connections c.link.new.self c.in_err-link.ensures.others c.in_err-link.ensures.part))

pub invariant_of-self-2 : goal.invariant_of-self-2
invariant_of-self-2 c =
    record {
      room =
          let room = c.in_ok-make_room.ensures.room in
          let more = c.in_ok-link.ensures.ends in
          let left = c.send.ensures.spare in
          let one = one-list c.link.new.out.letters.items in
          omega (arith, room, more, left, one);
    }

pub returns-clause-took : goal.returns-clause-took
returns-clause-took c =
    λ s v h allows.
    let mid = c.make_room.new.self in
    let p = run.connection_in s v c.args.conn in
    let k = room-made s v c.args.self.now mid c.in_ok-make_room.ensures.parts c.in_ok-make_room.ensures.letters h in
    let at : place_at s c.args.conn ≡ Some c.in-Some.place = place-by s c.args.self.now c.args.conn h.agrees allows.leaves ∙ sym c.place_of.ensures ∙ c.in-Some.is in
    let t = c.in_ok-link.ensures.took s p (record { set = k.agrees.connections; placed = of-its-kind s c.args.conn c.in-Some.place at }) (k.connections c.args.conn) in
    let turn = run.turn_of s v (Connection c.args.conn) (LinkUp c.args.now) in
    let given : c.link.new.out.letters.items ≡ turn.letters = t.letters ∙ ap (λ l. l ++ turn.letters) c.requires in
    record {
      entries = ap (λ l. l.items) c.send.ensures.entries ∙ t.entries;
      stands =
          connection-moved s v c.args.conn None turn mid _ k allows.agrees refl refl refl
          c.in_ok-link.ensures.others t.stands
          (held v.letters (Connection c.args.conn) turn.letters mid.letters c.send.new.letters k.letters
          (subst (λ l. Gains (Connection c.args.conn) l mid.letters c.send.new.letters) given c.send.ensures.gains))
          (λ n some. rw (c.max-self.ensures) (known-linked c.args.conn mid.greatest mid.connections c.link.new.self c.in_ok-link.ensures.others k.known n some));
    }
