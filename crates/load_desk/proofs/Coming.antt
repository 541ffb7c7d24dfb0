-- The desk after a connection came up, retired or went down.
use Rattle.std.proofs.Common.{◌≡◌, ℕ, ◌-◌, ◌≤◌, ◌<◌, Bool, true, false, nat_lt, List, [], ◌∷◌, ◌++◌, filter, Option, Some, None, ⊎_elim, refl, sym, ap, subst, ◌∙◌, arith}
use Rattle.lload_names.specs.declared.names.Letter.TheVariants.{IsUp}
use Rattle.lload_spec.specs.Settings.{Settings, plan_in_force}
use Rattle.part_spec.specs.DeskState.{DeskState, facts_of, without_connection}
use Rattle.ready_set.specs.Keys.{is_in}
use Rattle.desk_choice.specs.Tells.{Tells}
use Rattle.desk_choice.specs.declared.tables.Tables.{Tables}
use Rattle.load_desk.specs.declared.part.Desk.{Desk}
use Rattle.load_desk.specs.Part.{Stands, IsTakenLetter, IsOfPlans}
use Rattle.load_desk.specs.States.{with_heard_at}
use Rattle.load_desk.proofs.Lists.{above-in, above-out, above-without, not-above, push-in, without-in}
use Rattle.load_desk.proofs.Views.{base-is}

-- it is viable no more
pub lost-stands : (s : Settings) (p : DeskState) (d : Desk) (at u : ℕ) (t : Tables) → Stands s p d → Tells s (record (facts_of s p) { viable = without_connection u (facts_of s p).viable }) t → t.rounds ≡ d.tables.rounds → Stands s (record p { moment = at; asked = None; viable = without_connection u p.viable }) (record d { moment = at; tables = t })
lost-stands s p d at u t h k rounds = record {
  moment = refl;
  number = h.number;
  agrees = h.agrees;
  tables = subst (λ (vs : List ℕ). Tells s (record (facts_of s p) { viable = vs }) t) (sym (above-without (nat_lt (plan_in_force s p.plan).base) u p.viable)) k;
  rings = rw rounds h.rings;
  times = h.times;
  once = h.once;
  viable_known = λ n e. h.viable_known n (without-in n u p.viable e);
  pending_known = h.pending_known;
}

-- it is viable from now on
came-stands : (s : Settings) (p : DeskState) (d : Desk) (at u : ℕ) (t : Tables) → Stands s p d → IsOfPlans s p.plan u → Tells s (record (facts_of s p) { viable = filter (nat_lt (plan_in_force s p.plan).base) (p.viable ++ u ∷ []) }) t → t.rounds ≡ d.tables.rounds → Stands s (with_heard_at s (IsUp u) at p) (record d { moment = at; tables = t })
came-stands s p d at u t h known k rounds = record {
  moment = refl;
  number = h.number;
  agrees = h.agrees;
  tables = k;
  rings = rw rounds h.rings;
  times = h.times;
  once = h.once;
  viable_known = λ n e. ⊎_elim (λ (is : u ≡ n). subst (λ (m : ℕ). IsOfPlans s p.plan m) is known) (λ (was : is_in n p.viable ≡ true). h.viable_known n was) (push-in n u p.viable e);
  pending_known = h.pending_known;
}

-- one of an earlier plan
pub old-stands : (s : Settings) (p : DeskState) (d : Desk) (at u : ℕ) → Stands s p d → IsTakenLetter s p (IsUp u) → u ≤ d.base → Stands s (with_heard_at s (IsUp u) at p) (record d { moment = at })
old-stands s p d at u h fit l =
    let below : u ≤ (plan_in_force s p.plan).base = omega (arith, l, base-is s p d h) in
    came-stands s p d at u d.tables h fit.2 (subst (λ (vs : List ℕ). Tells s (record (facts_of s p) { viable = vs }) d.tables) (sym (above-out (plan_in_force s p.plan).base u p.viable below)) h.tables) refl

-- one of the plan in force
pub up-stands : (s : Settings) (p : DeskState) (d : Desk) (at u : ℕ) (t : Tables) → Stands s p d → IsTakenLetter s p (IsUp u) → d.base < u → Tells s (record (facts_of s p) { viable = (facts_of s p).viable ++ u ∷ [] }) t → t.rounds ≡ d.tables.rounds → Stands s (with_heard_at s (IsUp u) at p) (record d { moment = at; tables = t })
up-stands s p d at u t h fit l k rounds =
    let above : (plan_in_force s p.plan).base < u = omega (arith, l, base-is s p d h) in
    came-stands s p d at u t h fit.2 (subst (λ (vs : List ℕ). Tells s (record (facts_of s p) { viable = vs }) t) (sym (above-in (plan_in_force s p.plan).base u p.viable above)) k) rounds

-- what a connection above the base owes
pub new-one : (s : Settings) (p : DeskState) (u : ℕ) → IsTakenLetter s p (IsUp u) → is_in u (facts_of s p).viable ≡ false
new-one s p u fit = not-above (nat_lt (plan_in_force s p.plan).base) u p.viable fit.0

-- for want of memory
pub unchanged : (s : Settings) (p : DeskState) (d : Desk) (t : Tables) → Stands s p d → Tells s (facts_of s p) t → t.rounds ≡ d.tables.rounds → Stands s p (record d { tables = t })
unchanged s p d t h k rounds = record {
  moment = h.moment;
  number = h.number;
  agrees = h.agrees;
  tables = k;
  rings = rw rounds h.rings;
  times = h.times;
  once = h.once;
  viable_known = h.viable_known;
  pending_known = h.pending_known;
}
