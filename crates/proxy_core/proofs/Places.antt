-- Later plans leave a connection where it is.
use Rattle.std.proofs.Common.{◌≡◌, ℕ, zero, suc, ◌+◌, ◌∷◌, [], List, length, map, Bool, true, false, take, drop, Option, Some, None, refl, ap, ◌∙◌}
use Rattle.std.specs.Prelude.{nat_lt}
use Rattle.std.proofs.lemmas.Bool.{le-ltb}
use Rattle.lload_names.specs.declared.plans.Planned.{Planned}
use Rattle.lload_names.specs.Plans.{backends_of, numbered_through, place_among, place_by, plan_for, raised}
use Rattle.lload_reload.specs.Bases.{AreNotBelow}
use Rattle.lload_spec.specs.Settings.{Settings, place_at}

passed : (b : Bool) (p : Planned) (found : Option Planned) → b ≡ false → (elim b [ true ↦ Some p | false ↦ found ]) ≡ found
passed true p found h = absurd (cc)
passed false p found h = refl

stays : (m n : ℕ) (ps : List Planned) (found : Option Planned) → AreNotBelow n ps → plan_for found (numbered_through m ps) n ≡ found
stays m n [] found h = refl
stays m n (p ∷ ps) found h =
    let q = record p { plan = map (raised m) p.plan } in
    ap (λ f. plan_for f (numbered_through (m + length (backends_of p.plan)) ps) n) (passed (nat_lt p.base n) q found (le-ltb p.base n h.0))
    ∙ stays (m + length (backends_of p.plan)) n ps found h.1

left : (m n k : ℕ) (ps : List Planned) (found : Option Planned) → AreNotBelow n (drop k ps) → plan_for found (numbered_through m ps) n ≡ plan_for found (numbered_through m (take k ps)) n
left m n zero ps found h = stays m n ps found h
left m n (suc k) [] found h = refl
left m n (suc k) (p ∷ ps) found h = left (m + length (backends_of p.plan)) n k ps (elim (nat_lt p.base n) [ true ↦ Some (record p { plan = map (raised m) p.plan }) | false ↦ found ]) h

-- the place is that by the plans so far
pub placed : (s : Settings) (n k : ℕ) → AreNotBelow n (drop k s.plans) → place_at s n ≡ place_among (take k s.plans) n
placed s n k h = ap (λ o. place_by o n) (left 0 n k s.plans None h)
