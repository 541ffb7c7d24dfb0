-- For which states the desk stands.
use Rattle.std.specs.Prelude.{◌≡◌, ◌≤◌, ℕ, suc, Bool, true, false, ◌==◌, ◌&&◌, List, [], length, filter, find, map, take, drop, slice_get, Option, Some, None, is_some, ⊤}
use Rattle.std.specs.List.{list_any}
use Rattle.lload_names.specs.declared.inputs.Input.{Input}
use Rattle.lload_names.specs.declared.inputs.Input.TheVariants.{LetterFrom, Reload}
use Rattle.lload_names.specs.declared.names.OpName.{OpName}
use Rattle.lload_names.specs.declared.names.Letter.{Letter}
use Rattle.lload_names.specs.declared.names.Letter.TheVariants.{Ask, Returned, Ended, IsUp}
use Rattle.lload_names.specs.declared.plans.Planned.{Planned}
use Rattle.lload_names.specs.declared.plans.TierPlan.{TierPlan}
use Rattle.lload_names.specs.Plans.{backend_count, same_plan, ArePlans, IsPlan}
use Rattle.lload_names.specs.Same.{same_op}
use Rattle.lload_reload.specs.Bases.{AreNotBelow}
use Rattle.lload_spec.specs.Entries.{Named}
use Rattle.lload_spec.specs.Right.{is_next_plan}
use Rattle.lload_spec.specs.Settings.{Settings, numbered_plan, place_at, plan_in_force}
use Rattle.part_spec.specs.DeskState.{DeskState, Ring, facts_of}
use Rattle.part_spec.specs.Fit.{is_pending}
use Rattle.ready_set.specs.Keys.{is_in}
use Rattle.desk_tables.specs.Pending.{times}
use Rattle.desk_choice.specs.Tells.{Tells}
use Rattle.desk_rules.specs.Latencies.{AreRings}
use Rattle.load_desk.specs.declared.part.Desk.{Desk}

-- the latencies that are kept of a backend
abbrev pub ring_of : List Ring → ℕ → List ℕ
ring_of rings b = elim (find (λ r. r.backend == b) rings) [ None ↦ [] | Some r ↦ r.latencies ]

-- how often an operation is pending, and on a connection
abbrev pub count_of_op : OpName → List (Named ℕ) → ℕ
count_of_op op ps = length (filter (λ x. same_op op x.op) ps)

abbrev pub count_on : OpName → ℕ → List (Named ℕ) → ℕ
count_on op n ps = length (filter (λ x. same_op op x.op && x.value == n) ps)

-- the connections of pending operations
abbrev pub conns_of : List (Named ℕ) → List ℕ
conns_of ps = map (λ x. x.value) ps

-- a connection is none of a plan behind the first so many
abbrev pub IsOfPlans : Settings → ℕ → ℕ → Type 0
IsOfPlans s k n = AreNotBelow n (drop k s.plans)

-- the settings have the plan in force, with backends numbered through all plans, and as many backends up to it
pub record Agrees (s : Settings) (number : ℕ) (plan : List TierPlan) (base backends : ℕ) : Type 0 where
  pub plans : ArePlans s.plans
  pub begun : 1 ≤ number
  pub so_far : number ≤ length s.plans
  pub in_force : plan_in_force s number ≡ record { plan = plan; base = base }
  pub count : backend_count (take number s.plans) ≡ backends

-- the desk stands for a state, a fact for each of its tables
pub record Stands (s : Settings) (p : DeskState) (d : Desk) : Type 0 where
  pub moment : p.moment ≡ d.moment
  pub number : p.plan ≡ d.number
  pub agrees : Agrees s d.number d.plan d.base d.backends
  pub tables : Tells s (facts_of s p) d.tables
  pub rings : AreRings d.plan (ring_of p.rings) d.tables.rounds.items
  pub times : (op : OpName) (n : ℕ) → count_on op n p.pending ≡ times d.pending op n
  pub once : (op : OpName) → count_of_op op p.pending ≤ 1
  pub viable_known : (n : ℕ) → is_in n p.viable ≡ true → IsOfPlans s p.plan n
  pub pending_known : (n : ℕ) → is_in n (conns_of p.pending) ≡ true → IsOfPlans s p.plan n

-- which letters may be taken: an Ask of an operation that isn't pending, the end of one that is pending there, and of a
-- connection that isn't viable, which has a place by the plans so far, that it is up; each other one
abbrev pub IsTakenLetter : Settings → DeskState → Letter → Type 0
IsTakenLetter s p (Ask op want) = list_any (λ x. same_op op x.op) p.pending ≡ false
IsTakenLetter s p (Returned op u) = is_pending p op u ≡ true
IsTakenLetter s p (Ended op u latency) = is_pending p op u ≡ true
IsTakenLetter s p (IsUp u) = (is_in u p.viable ≡ false) × (is_some (place_at s u) ≡ true) × IsOfPlans s p.plan u
IsTakenLetter s p _ = ⊤

-- whether a plan and its base are the next of the settings
abbrev pub is_next : Settings → DeskState → List TierPlan → ℕ → Bool
is_next s p plan base =
    is_next_plan s p.plan (record { number = suc p.plan; base = base })
    && same_plan plan (numbered_plan s.plans (suc p.plan)).plan

-- which inputs may be taken: these letters, and a Reload by the next plan of the settings
abbrev pub IsTaken : Settings → DeskState → Input → Type 0
IsTaken s p (LetterFrom now word sender letter) = IsTakenLetter s p letter
IsTaken s p (Reload now plan base) = is_next s p plan base ≡ true
IsTaken s p _ = ⊤

-- a Reload's plan is one within the limits of the proxy
abbrev pub HasPlan : Input → Type 0
HasPlan (Reload now plan base) = IsPlan plan
HasPlan _ = ⊤

-- the settings begin with a plan
pub record BeginsWith (s : Settings) (plan : List TierPlan) : Type 0 where
  pub plans : ArePlans s.plans
  pub first : slice_get s.plans 0 ≡ Some (record { plan = plan; base = 0 })
