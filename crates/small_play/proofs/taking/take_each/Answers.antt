use Rattle.std.proofs.Common.{map, ap, sym, subst}
use Rattle.small_play.specs.FedMessages.{message}
use Rattle.small_play.proofs.Rounds.{TookSoFar, so_far_none, so_far_more}
use Rattle.small_play.proofs.taking.take_each.Goals as goal

pub loop-fed-init : goal.loop-fed-init
loop-fed-init c = so_far_none c.args.part (map message c.args.messages.items) c.args.world.now c.args.piece.now c.requires

pub loop-fed-preserved : goal.loop-fed-preserved
loop-fed-preserved c = subst (TookSoFar c.args.part (map message c.args.messages.items) (map message c.pop_front.new.self.items) c.args.world.now c.round.new.self c.args.piece.now) (sym c.in_ok-append.ensures.ok) (so_far_more c.args.part (map message c.args.messages.items) (map message c.loop-fed.messages.items) (map message c.pop_front.new.self.items) (message c.in-Some.fed) c.args.world.now c.loop-fed.world c.round.new.self c.args.piece.now c.loop-fed.piece c.in_ok-round.round (ap (map message) c.in-Some.ensures.items) c.loop-fed.invariant c.in_ok-round.ensures.state c.in_ok-round.ensures.made c.in_ok-round.ensures.taken c.in_ok-round.ensures.stands c.in_ok-round.ensures.writable)
