-- Which calls of an object in memory fail.
use Rattle.std.specs.Prelude.{ℕ, ◌+◌, ◌==◌, Bool, false, not, if◌then◌else◌, List, [], ◌∷◌, take, drop, count_by}

-- A byte for each call to come, which isn't 0 where that call fails, and how many calls failed. Calls behind the last
-- byte don't fail.
pub record CallPlan : Type 0 where
  pub to_come : List ℕ
  pub failed : ℕ

-- whether a call with this byte fails
abbrev pub fails : ℕ → Bool
fails byte = not (byte == 0)

-- whether the next call fails
abbrev pub fails_next : List ℕ → Bool
fails_next [] = false
fails_next (byte ∷ later) = fails byte

-- the plan once so many of these calls were made
abbrev pub plan_at : List ℕ → ℕ → CallPlan
plan_at calls made = record { to_come = drop made calls; failed = count_by fails (take made calls) }

-- the plan once the next call was made
abbrev pub after_call : CallPlan → CallPlan
after_call plan = record {
  to_come = drop 1 plan.to_come;
  failed = if fails_next plan.to_come then plan.failed + 1 else plan.failed;
}
