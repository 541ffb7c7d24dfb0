-- How many backends the plans have with one more.
use Rattle.std.specs.Prelude.{ℕ, ◌+◌, Bool, ◌&&◌, nat_le, if◌then◌else◌, List, length, Option, Some, None}
use Rattle.lload_names.specs.declared.plans.TierPlan.{TierPlan}
use Rattle.lload_names.specs.Plans.{backends_of, place_count, greatest_number}

-- whether the numbers of a plan's places, behind a base, and of all backends stay within 32 bits
abbrev pub has_numbers : ℕ → ℕ → List TierPlan → Bool
has_numbers backends base plan =
    nat_le (base + place_count plan) greatest_number
    && nat_le (backends + length (backends_of plan)) greatest_number

-- how many backends there are with those of a plan, where its numbers do
abbrev pub count_with : ℕ → ℕ → List TierPlan → Option ℕ
count_with backends base plan =
    if has_numbers backends base plan then Some (backends + length (backends_of plan)) else None
