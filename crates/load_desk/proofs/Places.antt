-- The places of the connections of the plan in force.
use Rattle.std.proofs.Common.{◌≡◌, ℕ, ◌-◌, ◌<◌, true, false, List, Some, None, refl, sym, ap, subst, ◌∙◌, arith}
use Rattle.std.specs.Prelude.{is_some}
use Rattle.lload_names.specs.declared.names.Letter.TheVariants.{IsUp}
use Rattle.lload_names.specs.declared.plans.Place.{Place}
use Rattle.lload_names.specs.declared.plans.Planned.{Planned}
use Rattle.lload_names.specs.declared.plans.TierPlan.{TierPlan}
use Rattle.lload_names.specs.Plans.{place_of}
use Rattle.lload_spec.specs.Settings.{Settings, place_at, plan_in_force}
use Rattle.part_spec.specs.DeskState.{DeskState, facts_of}
use Rattle.desk_rules.specs.Places.{IsPlaced, IsOfPlan}
use Rattle.desk_rules.proofs.Placing.{by-plan, placed-by}
use Rattle.load_desk.specs.declared.part.Desk.{Desk}
use Rattle.load_desk.specs.Part.{Agrees, Stands, IsTakenLetter, IsOfPlans}
use Rattle.load_desk.proofs.Views.{tiers-are}

-- the place of a connection above the base
pub placed-at : (s : Settings) (d : Desk) (u : ℕ) → Agrees s d.number d.plan d.base d.backends → d.base < u → IsOfPlans s d.number u → place_of d.plan (u - d.base) ≡ place_at s u
placed-at s d u a l known =
    let base : (plan_in_force s d.number).base ≡ d.base = ap (λ (x : Planned). x.base) a.in_force in
    let of : IsOfPlan s d.number u = record { begun = a.begun; some = a.so_far; above = omega (arith, l, base); no_later = known } in
    sym (by-plan s d.number u of ∙ ap (λ (x : Planned). place_of x.plan (u - x.base)) a.in_force)

pub at-its-place : (s : Settings) (p : DeskState) (d : Desk) (u : ℕ) → Stands s p d → IsTakenLetter s p (IsUp u) → d.base < u → place_of d.plan (u - d.base) ≡ place_at s u
at-its-place s p d u h fit l = placed-at s d u h.agrees l (subst (λ (k : ℕ). IsOfPlans s k u) h.number fit.2)

pub has-place : (s : Settings) (p : DeskState) (d : Desk) (u : ℕ) → Stands s p d → IsTakenLetter s p (IsUp u) → d.base < u → place_of d.plan (u - d.base) ≡ None → ⊥
has-place s p d u h fit l none = let bad : is_some (place_at s u) ≡ false = ap is_some (sym (at-its-place s p d u h fit l) ∙ none) in absurd (let both : true ≡ false = sym fit.1 ∙ bad in cc)

pub is-placed : (s : Settings) (p : DeskState) (d : Desk) (u : ℕ) (place : Place) → Stands s p d → place_of d.plan (u - d.base) ≡ Some place → IsPlaced (facts_of s p).tiers place
is-placed s p d u place h e = placed-by (facts_of s p).tiers (u - d.base) place (ap (λ (ts : List TierPlan). place_of ts (u - d.base)) (tiers-are s p d h) ∙ e)
