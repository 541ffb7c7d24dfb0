use Rattle.std.proofs.Common.{◌≡◌, ℕ, zero, suc, ◌-◌, List, ◌∷◌, length, slice_get, refl, ap, ◌∙◌, sym, arith}
use Rattle.ldap_spec.specs.Controls.{Control}
use Rattle.ldap_controls.proofs.Listing.{begun}
use Rattle.ldap_controls.proofs.lists.Controls.get.Goals as goal

one_less : {A : Type 0} (x : A) (xs : List A) (i : ℕ) → (i ≡ 0 → ⊥) → slice_get (x ∷ xs) i ≡ slice_get xs (i - 1)
one_less x xs zero h = absurd (h refl)
one_less x xs (suc i) h = let e : i ≡ suc i - 1 = omega arith in ap (slice_get xs) e

pub loop-control-preserved : goal.loop-control-preserved
loop-control-preserved c =
    let b = begun _ _ _ c.loop-control.invariant.read c.in-Some.ensures in
    record {
      read = b.read;
      same = sym (one_less _ _ _ c.if-before-eq0.false) ∙ (ap (λ (xs : List Control). slice_get xs c.loop-control.before) (sym b.is) ∙ c.loop-control.invariant.same);
      there = omega (arith, c.loop-control.invariant.there, ap length b.is, c.if-before-eq0.false);
    }
