use Rattle.std.proofs.Common.{rules, ◌≡◌, ap, ◌∙◌, subst}
use Rattle.counted_lock.specs.Turns.{turns_by}
use Rattle.counted_lock.proofs.Ticketing.{confirms}
use Rattle.counted_lock.proofs.Sharing.{joins}
use Rattle.counted_lock.proofs.Resting.{joined_turns}
use Rattle.counted_lock.proofs.lock.CountedLock.join.Goals as goal

pub join_seat-requires : goal.join_seat-requires
join_seat-requires g c = (
  search rules,
  search rules,
  c.seat.invariant.no_slot,
  search rules,
  joins g.T.Keeps.stands g.T.Keeps.tag _ _ _ _ (ap (λ h. h.host) c.host.view_is ∙ c.requires.host) c.host.invariant.live c.host.invariant.no_ticket c.seat.invariant.live c.seat.invariant.no_ticket,
)

pub load-requires : goal.load-requires
load-requires g c = (search rules, search rules, confirms g.T.Keeps.stands g.T.Keeps.tag _ _ _ (ap (λ m. m.0.spent) c.join_seat.ensures.2 ∙ c.host.invariant.live))

pub returns-clause-seat_turns : goal.returns-clause-seat_turns
returns-clause-seat_turns g c = subst (λ h. turns_by h.number c.load.new.seat.me.0.seen ≡ h.own) c.seat.view_is
    (ap (λ m. turns_by c.seat.inside.seat.me.0.number m.0.seen) c.load.ensures.2.0
    ∙ joined_turns g.T.Keeps.tag c.host.inside.seat.me.0 c.seat.inside.seat.me.0 _ (ap (λ m. m.0) c.join_seat.ensures.2) (ap (λ h. h.host) c.host.view_is ∙ c.requires.host) c.load.ensures.2.1 c.seat.invariant.sees.by_number)
