use Rattle.std.proofs.Common.{◌≡◌, List, subst}
use Rattle.std.specs.Prelude.{Option, Some}
use Rattle.counted_lock.specs.Turns.{turns_of}
use Rattle.counted_lock.proofs.Ending.{closes}
use Rattle.counted_lock.proofs.lock.CountedLock.close.Goals as goal

taken : {T Q : Type 0} (stands : List Q → T → Type 0) (js : List Q) (x y : T) (r : Option T) → r ≡ Some x → r ≡ Some y → stands js x → stands js y
taken stands js x y r a b h = let e : x ≡ y = cc in subst (λ z. stands js z) e h

pub unreachable-requires : goal.unreachable-requires
unreachable-requires g c =
    let end = closes g.T.Keeps.stands g.T.Keeps.tag _ _ _ _ _ _ c.host.view_is c.host.invariant c.requires.host c.requires.joined c.close_with-closed.ensures.values.2 _ c.take-found.ensures.value in
    c.in_default.not-Some end.value end.found_is

pub returns-clause-stands : goal.returns-clause-stands
returns-clause-stands g c =
    let end = closes g.T.Keeps.stands g.T.Keeps.tag _ _ _ _ _ _ c.host.view_is c.host.invariant c.requires.host c.requires.joined c.close_with-closed.ensures.values.2 _ c.take-found.ensures.value in
    taken g.T.Keeps.stands (turns_of c.args.host.seen) end.value c.in-Some.value c.take-found.result end.found_is c.in-Some.is end.stood

pub returns-clause-seat_turns : goal.returns-clause-seat_turns
returns-clause-seat_turns g c =
    (closes g.T.Keeps.stands g.T.Keeps.tag _ _ _ _ _ _ c.host.view_is c.host.invariant c.requires.host c.requires.joined c.close_with-closed.ensures.values.2 _ c.take-found.ensures.value).turns

pub returns-clause-each_seat : goal.returns-clause-each_seat
returns-clause-each_seat g c =
    (closes g.T.Keeps.stands g.T.Keeps.tag _ _ _ _ _ _ c.host.view_is c.host.invariant c.requires.host c.requires.joined c.close_with-closed.ensures.values.2 _ c.take-found.ensures.value).each_seat

pub returns-clause-no_other : goal.returns-clause-no_other
returns-clause-no_other g c =
    (closes g.T.Keeps.stands g.T.Keeps.tag _ _ _ _ _ _ c.host.view_is c.host.invariant c.requires.host c.requires.joined c.close_with-closed.ensures.values.2 _ c.take-found.ensures.value).no_other

pub returns-clause-by_tag : goal.returns-clause-by_tag
returns-clause-by_tag g c =
    (closes g.T.Keeps.stands g.T.Keeps.tag _ _ _ _ _ _ c.host.view_is c.host.invariant c.requires.host c.requires.joined c.close_with-closed.ensures.values.2 _ c.take-found.ensures.value).by_tag
