-- The settings of a run name all its plans, also those that come later. So what is said of a world is said for all
-- settings that agree with what it has: the plans that it has taken so far, and later ones for connections above all
-- that were linked.
use Rattle.std.specs.Prelude.{◌≡◌, ℕ, Bool, true, false, ◌&&◌, nat_le, List, length, take, drop, IsTrue, IsFalse}
use Rattle.std.specs.List.{list_all}
use Rattle.lload_names.specs.declared.inputs.Input.{Input}
use Rattle.lload_names.specs.declared.inputs.Input.TheVariants.{Reload}
use Rattle.lload_names.specs.declared.names.PartName.{PartName}
use Rattle.lload_names.specs.declared.names.PartName.TheVariants.{Up as Connection}
use Rattle.lload_names.specs.declared.plans.Planned.{Planned}
use Rattle.lload_spec.specs.Settings.{Settings}
use Rattle.part_spec.specs.World.{World, greatest_linked, turn_of}

-- the settings with so many plans alone
abbrev pub up_to_plan : ℕ → Settings → Settings
up_to_plan k s = record s { plans = take k s.plans }

-- whether these plans are for connections above this one
abbrev pub are_above : ℕ → List Planned → Bool
are_above n plans = list_all (λ p. nat_le n p.base) plans

-- whether the settings agree with what a world has
abbrev pub agree_with : Settings → World → Bool
agree_with s w = nat_le w.desk.plan (length s.plans) && are_above (greatest_linked w) (drop w.desk.plan s.plans)

-- whether the later plans of the settings leave a part where it is
abbrev pub leave_part : Settings → World → PartName → Bool
leave_part s w (Connection u) = are_above u (drop w.desk.plan s.plans)
leave_part s w _ = true

-- whether an input is another plan
abbrev pub takes_plan : Input → Bool
takes_plan (Reload now plan base) = true
takes_plan _ = false

-- a turn that takes no plan, in a world that turns have made, is the same for all settings that agree with it
abbrev pub SameTurns : Settings → World → Type 0
SameTurns s w =
    (p : PartName) (input : Input) → IsFalse (takes_plan input) → IsTrue (agree_with s w) → IsTrue (leave_part s w p)
    → turn_of s w p input ≡ turn_of (up_to_plan w.desk.plan s) w p input
