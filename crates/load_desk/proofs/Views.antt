-- What the desk has of the settings: the plan in force and its base.
use Rattle.std.proofs.Common.{◌≡◌, List, ap, ◌∙◌}
use Rattle.lload_names.specs.declared.plans.Planned.{Planned}
use Rattle.lload_spec.specs.Settings.{Settings, plan_in_force}
use Rattle.part_spec.specs.DeskState.{DeskState, facts_of}
use Rattle.load_desk.specs.declared.part.Desk.{Desk}
use Rattle.load_desk.specs.Part.{Stands}

pub base-is : (s : Settings) (p : DeskState) (d : Desk) → Stands s p d → (plan_in_force s p.plan).base ≡ d.base
base-is s p d h = ap (λ k. (plan_in_force s k).base) h.number ∙ ap (λ (x : Planned). x.base) h.agrees.in_force

pub tiers-are : (s : Settings) (p : DeskState) (d : Desk) → Stands s p d → (facts_of s p).tiers ≡ d.plan
tiers-are s p d h = ap (λ k. (plan_in_force s k).plan) h.number ∙ ap (λ (x : Planned). x.plan) h.agrees.in_force
