use Rattle.std.proofs.Common.{rules, ◌≡◌, ℕ, ◌∷◌, [], List, sym, ap, ◌∙◌}
use Rattle.std.specs.Prelude.{Option, Some, None}
use Rattle.atomic_table.specs.Table.{Me, rest}
use Rattle.counted_lock.proofs.Ticketing.{draws}
use Rattle.counted_lock.proofs.Resting.{turn_rests, work_stood, turn_stood}
use Rattle.counted_lock.proofs.lock.CountedLock.turn.Goals as goal

abbrev first_slot : {T : Type 0} → List (ℕ × Option T) → Option T
first_slot [] = None
first_slot (p ∷ ps) = p.1

found_is : (T : Type 0) (x y : T) (r : Option T) (l : List (ℕ × Option T)) → l ≡ (0, r) ∷ rest l → l ≡ (0, Some y) ∷ [] → r ≡ Some x → x ≡ y
found_is T x y r l a b is = let e : r ≡ Some y = ap first_slot (sym a ∙ b) in cc

-- two exchanges change no view
same_view : {S V : Type 0} (m2 m3 m4 : Me S V) (l3 l4 : List (ℕ × S)) → m3 ≡ (m2.0, l3) → m4 ≡ (m3.0, l4) → m4.0 ≡ m2.0
same_view m2 m3 m4 l3 l4 first second = ap (λ m. m.0) second ∙ ap (λ m. m.0) first

-- and leave the last value in the slot
same_slot : {S V : Type 0} (x y : S) (m2 m3 m4 : Me S V) → m2.1 ≡ (0, x) ∷ [] → m3 ≡ (m2.0, (0, y) ∷ rest m2.1) → (z : S) → m4 ≡ (m3.0, (0, z) ∷ rest m3.1) → m4.1 ≡ (0, z) ∷ []
same_slot x y m2 m3 m4 slot first z second = ap (λ m. m.1) second ∙ ap (λ l. (0, z) ∷ l) (ap (λ m. rest m.1) first ∙ ap (λ l. rest l) slot)

some_slot : {S : Type 0} (x : S) (l : List (ℕ × S)) → l ≡ (0, x) ∷ [] → l ≡ (0, x) ∷ rest l
some_slot x l slot = slot ∙ ap (λ k. (0, x) ∷ k) (sym (ap (λ k. rest k) slot))

pub fetch_add-ticket-requires : goal.fetch_add-ticket-requires
fetch_add-ticket-requires g c = (search rules, search rules, draws g.T.Keeps.stands g.T.Keeps.tag _ _ _ c.seat.invariant.no_ticket c.seat.invariant.live)

pub exchange-found-requires : goal.exchange-found-requires
exchange-found-requires g c = let t = c.wait.ensures.took.1 in (search rules, (Some t.value, some_slot _ _ t.slot))

pub publish-requires-clause-holds : goal.publish-requires-clause-holds
publish-requires-clause-holds g c =
    let t = c.wait.ensures.took.1 in
    let first = c.exchange-found.ensures in
    let second = c.exchange-left.ensures in
    let moved = same_view c.wait.new.seat.me c.exchange-found.new.seat.me c.exchange-left.new.seat.me _ _ first.3 second.3 in (
      c.wait.ensures.took.0,
      c.work-reply.new.value,
      ap (λ v. v.stage) (moved ∙ t.view),
      same_slot _ _ c.wait.new.seat.me c.exchange-found.new.seat.me c.exchange-left.new.seat.me t.slot first.3 (Some c.work-reply.new.value) second.3,
      rw c.of-before.ensures (work_stood g.T.Keeps.tag g.T.Keeps.stands c.fetch_add-ticket.new.seat.me c.wait.new.seat.me c.exchange-left.new.seat.me _ _ _ c.in-Some.value _ t moved
          (found_is _ _ _ _ _ first.2 t.slot c.in-Some.is) c.work-reply.ensures),
    )

pub invariant_of-seat : goal.invariant_of-seat
invariant_of-seat g c =
    let moved = same_view c.wait.new.seat.me c.exchange-found.new.seat.me c.exchange-left.new.seat.me _ _ c.exchange-found.ensures.3 c.exchange-left.ensures.3 in
    turn_rests g.T.Keeps.tag g.T.Keeps.stands _ c.fetch_add-ticket.new.seat.me c.wait.new.seat.me c.exchange-left.new.seat.me _ _ _ _ _ c.seat.invariant c.fetch_add-ticket.ensures.2.2 c.wait.ensures.took.1 moved c.publish.ensures.turn
    (rw c.of-before.ensures (c.requires.tag _ ∙ sym (ap (λ h. h.tag) c.seat.view_is)))

pub returns-clause-by_number : goal.returns-clause-by_number
returns-clause-by_number g c = (invariant_of-seat g c).sees.by_number

pub returns-clause-by_tag : goal.returns-clause-by_tag
returns-clause-by_tag g c = (invariant_of-seat g c).sees.by_tag

pub returns-clause-stands : goal.returns-clause-stands
returns-clause-stands g c =
    let t = c.wait.ensures.took.1 in
    let first = c.exchange-found.ensures in
    let moved = same_view c.wait.new.seat.me c.exchange-found.new.seat.me c.exchange-left.new.seat.me _ _ first.3 c.exchange-left.ensures.3 in (
      c.work-reply.new.value,
      turn_stood g.T.Keeps.tag g.T.Keeps.stands c.exchange-left.new.seat.me _ _ _
          (rw c.of-before.ensures (work_stood g.T.Keeps.tag g.T.Keeps.stands c.fetch_add-ticket.new.seat.me c.wait.new.seat.me c.exchange-left.new.seat.me _ _ _ c.in-Some.value _ t moved
          (found_is _ _ _ _ _ first.2 t.slot c.in-Some.is) c.work-reply.ensures))
          c.publish.ensures.turn,
    )
