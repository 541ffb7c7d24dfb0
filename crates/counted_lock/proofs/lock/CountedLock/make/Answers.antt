use Rattle.std.proofs.Common.{rules, ◌≡◌, ℕ, List, [], sym, ap, ◌∙◌, subst}
use Rattle.std.specs.Prelude.{Contains}
use Rattle.counted_lock.specs.Turns.{turns_by, turns_with}
use Rattle.counted_lock.specs.Held.{AtRest}
use Rattle.counted_lock.proofs.Sharing.{splits}
use Rattle.counted_lock.proofs.Resting.{left_rests, right_rests}
use Rattle.counted_lock.proofs.lock.CountedLock.make.Goals as goal

not_among : (ts us : List ℕ) (t u : ℕ) → ts ≡ us → t ≡ u → (Contains us u → ⊥) → Contains ts t → ⊥
not_among ts us t u same one new h = new (subst (λ (z : List ℕ × ℕ). Contains z.0 z.1) (λ i. (same i, one i)) h)

pub split_seat-seat-requires : goal.split_seat-seat-requires
split_seat-seat-requires g c = (
  search rules,
  search rules,
  splits g.T.Keeps.stands g.T.Keeps.tag g.N.Tags.tag _ _ (ap (λ h. h.host) c.host.view_is ∙ c.requires.host) c.host.invariant.live (rw (ap (λ h. h.made) c.host.view_is) c.requires.few)
      (not_among _ _ _ _ (ap (λ h. h.tags) c.host.view_is) c.requires.named c.requires.tag),
)

pub invariant_of-host : goal.invariant_of-host
invariant_of-host g c = subst (λ m. AtRest g.T.Keeps.tag m) (sym c.split_seat-seat.ensures.2) (left_rests g.T.Keeps.tag g.N.Tags.tag _ c.host.invariant)

pub invariant_of-result : goal.invariant_of-result
invariant_of-result g c = subst (λ m. AtRest g.T.Keeps.tag m) (sym c.split_seat-seat.ensures.4)
    (right_rests g.T.Keeps.tag g.N.Tags.tag _ (ap (λ h. h.host) c.host.view_is ∙ c.requires.host) (not_among _ _ _ _ (ap (λ h. h.tags) c.host.view_is) c.requires.named c.requires.tag) c.host.invariant)

pub returns-clause-by_number : goal.returns-clause-by_number
returns-clause-by_number g c = subst (λ m. turns_by m.0.number m.0.seen ≡ []) (sym c.split_seat-seat.ensures.4)
    (right_rests g.T.Keeps.tag g.N.Tags.tag _ (ap (λ h. h.host) c.host.view_is ∙ c.requires.host) (not_among _ _ _ _ (ap (λ h. h.tags) c.host.view_is) c.requires.named c.requires.tag) c.host.invariant).sees.by_number

pub returns-clause-by_tag : goal.returns-clause-by_tag
returns-clause-by_tag g c = subst (λ m. turns_with g.T.Keeps.tag m.0.tag m.0.seen ≡ []) (sym c.split_seat-seat.ensures.4)
    (right_rests g.T.Keeps.tag g.N.Tags.tag _ (ap (λ h. h.host) c.host.view_is ∙ c.requires.host) (not_among _ _ _ _ (ap (λ h. h.tags) c.host.view_is) c.requires.named c.requires.tag) c.host.invariant).sees.by_tag
