-- The base of the last plan, by its index.
use Rattle.std.proofs.Common.{◌≡◌, ℕ, zero, suc, ◌-◌, List, [], ◌∷◌, length, ◌+◌, Option, Some, None, refl, ap, sym, ◌∙◌, arith}
use Rattle.std.specs.Prelude.{slice_get}
use Rattle.lload_names.specs.declared.plans.Planned.{Planned}
use Rattle.lload_reload.specs.Bases.{last_base, last_base_from}

last_at : (base : ℕ) (p q : Planned) (ps : List Planned) → slice_get (q ∷ ps) (length ps) ≡ Some p → last_base_from base (q ∷ ps) ≡ p.base
last_at base p q [] e = ap (λ (o : Option Planned). elim o [ None ↦ q.base | Some x ↦ x.base ]) e
last_at base p q (r ∷ ps) e = last_at q.base p r ps e

pub last_is : (p : Planned) (ps : List Planned) → Some p ≡ slice_get ps (length ps - 1) → p.base ≡ last_base ps
last_is p [] e = absurd (let bad : ◌≡◌ {A = Option Planned} (Some p) None = e in cc)
last_is p (q ∷ ps) e = sym (last_at 0 p q ps (sym (e ∙ ap (slice_get (q ∷ ps)) (at q ps))))
  where
    at : (q : Planned) (ps : List Planned) → length (q ∷ ps) - 1 ≡ length ps
    at q ps = omega arith

pub none_last : (ps : List Planned) → ◌≡◌ {A = Option Planned} None (slice_get ps (length ps - 1)) → 0 ≡ last_base ps
none_last [] e = refl
none_last (q ∷ ps) e = absurd (let bad : ◌≡◌ {A = Option Planned} None (Some q) = none q ps (e ∙ ap (slice_get (q ∷ ps)) (at q ps)) in cc)
  where
    at : (q : Planned) (ps : List Planned) → length (q ∷ ps) - 1 ≡ length ps
    at q ps = omega arith

    none : (q : Planned) (ps : List Planned) → ◌≡◌ {A = Option Planned} None (slice_get (q ∷ ps) (length ps)) → ◌≡◌ {A = Option Planned} None (Some q)
    none q [] e = e
    none q (r ∷ ps) e = absurd (let bad : ◌≡◌ {A = Option Planned} None (Some r) = none r ps e in cc)
