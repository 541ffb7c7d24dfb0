-- Plans by their bases, and what is kept beside them.
use Rattle.std.specs.Prelude.{◌≡◌, ◌≤◌, ◌<◌, ℕ, suc, ◌+◌, if◌then◌else◌, List, [], ◌∷◌, ◌++◌, length, drop, slice_get, Some}
use Rattle.lload_names.specs.declared.plans.Planned.{Planned}
use Rattle.lload_names.specs.Plans.{backends_of, backend_count, greatest_number, has_numbers_for, ArePlans}

-- the base of the last of these plans, or this one
abbrev pub last_base_from : ℕ → List Planned → ℕ
last_base_from base [] = base
last_base_from base (p ∷ ps) = last_base_from p.base ps

-- the base of the last plan
abbrev pub last_base : List Planned → ℕ
last_base plans = last_base_from 0 plans

-- the plans with one more behind them, where it has numbers
abbrev pub with_plan : List Planned → Planned → List Planned
with_plan plans p = if has_numbers_for plans p then plans ++ p ∷ [] else plans

-- how many backends come before each of these plans, behind so many
abbrev pub counts_before : ℕ → List Planned → List ℕ
counts_before n [] = []
counts_before n (p ∷ ps) = n ∷ counts_before (n + length (backends_of p.plan)) ps

-- the plans are plans of one run, and these are the counts of backends before each and of all
pub record AreKept (plans : List Planned) (before : List ℕ) (count : ℕ) : Type 0 where
  pub begun : 0 < length plans
  pub plans_of_a_run : ArePlans plans
  pub counts : before ≡ counts_before 0 plans
  pub all : count ≡ backend_count plans
  pub few : backend_count plans ≤ greatest_number

-- no base is below a connection's number
abbrev pub AreNotBelow : ℕ → List Planned → Type 0
AreNotBelow n [] = Unit {0}
AreNotBelow n (p ∷ ps) = (n ≤ p.base) × AreNotBelow n ps

-- so many plans, and no more, come up to the last whose base is below a connection's number
pub record IsEndBelow (n : ℕ) (plans : List Planned) (end : ℕ) : Type 0 where
  pub within : end ≤ length plans
  pub below : (j : ℕ) (p : Planned) → suc j ≡ end → slice_get plans j ≡ Some p → p.base < n
  pub not_below : AreNotBelow n (drop end plans)
