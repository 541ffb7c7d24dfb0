-- The desk after an operation ended.
use Rattle.std.proofs.Common.{◌≡◌, ℕ, ◌+◌, ◌≤◌, Bool, true, false, ◌==◌, List, Option, Some, None, refl, sym, ap, subst, ◌∙◌, arith}
use Rattle.std.proofs.Math.Path.{fun_ext}
use Rattle.std.proofs.lemmas.Bool.Decides.{nat_tests}
use Rattle.std.specs.Option.{ForSome}
use Rattle.lload_names.specs.declared.names.OpName.{OpName}
use Rattle.lload_names.specs.declared.names.Letter.TheVariants.{Ended}
use Rattle.lload_names.specs.declared.plans.TierPlan.{TierPlan}
use Rattle.lload_names.specs.Same.{same_op}
use Rattle.lload_spec.specs.Settings.{Settings}
use Rattle.lload_spec.specs.Choice.{DeskFacts}
use Rattle.part_spec.specs.DeskState.{DeskState, facts_of, with_told, without_op}
use Rattle.part_spec.specs.Fit.{is_pending}
use Rattle.desk_tables.specs.Pending.{times, one}
use Rattle.desk_tables.specs.Turns.{Turn}
use Rattle.desk_tables.specs.declared.pending.Pending.{Pending}
use Rattle.desk_choice.specs.Tells.{Tells}
use Rattle.desk_choice.specs.declared.tables.Tables.{Tables}
use Rattle.desk_rules.specs.Counts.{IsLess}
use Rattle.desk_rules.specs.Latencies.{with_means, AreRings}
use Rattle.load_desk.specs.declared.part.Desk.{Desk}
use Rattle.load_desk.specs.Part.{Stands, ring_of, conns_of, count_on}
use Rattle.load_desk.specs.States.{with_heard_at, IsToldOf}
use Rattle.load_desk.proofs.Lists.{there-alone, there-less, without-same, without-other, without-once, without-conns, one-op}
use Rattle.load_desk.proofs.Rings.{means-of, told-is}
use Rattle.load_desk.proofs.Views.{tiers-are}

-- where no latency is told
pub told-none : (s : Settings) (f : DeskFacts) (u : ℕ) (before after : ℕ → List ℕ) (t : Tables) → IsToldOf s u None before after → Tells s (with_means f before) t → Tells s (with_means f after) t
told-none s f u before after t told k = subst (λ (l : ℕ → List ℕ). Tells s (with_means f l) t) (sym (fun_ext told)) k

pub rings-none : (s : Settings) (u : ℕ) (ts : List TierPlan) (before after : ℕ → List ℕ) (turns : List Turn) → IsToldOf s u None before after → AreRings ts before turns → AreRings ts after turns
rings-none s u ts before after turns told k = subst (λ (l : ℕ → List ℕ). AreRings ts l turns) (sym (fun_ext told)) k

-- an operation that was pending on one connection alone was taken out
one-is : (u c : ℕ) → one (u == c) ≡ 1 → u ≡ c
one-is u c e = by (u == c) refl e
  where
    by : (b : Bool) → (u == c) ≡ b → one b ≡ 1 → u ≡ c
    by true t i = grind (arith, nat_tests, t)
    by false t i = absurd (let bad : 0 ≡ 1 = i in cc)

own-one : (c : ℕ) → one (c == c) ≡ 1
own-one c = grind (arith, nat_tests)

pub taken-out : (x y : Pending) (op : OpName) (u : ℕ) (o : Option ℕ) → ((n : ℕ) → times x op n ≡ one (u == n)) → ForSome o (λ c. (n : ℕ) → times y op n + one (c == n) ≡ times x op n) → (o ≡ None → (n : ℕ) → times y op n ≡ 0) → (n : ℕ) → times y op n ≡ 0
taken-out x y op u None was taken none n = none refl n
taken-out x y op u (Some c) was taken none n =
    let out : (n : ℕ) → times y op n + one (c == n) ≡ times x op n = taken c refl in
    let is : u ≡ c = one-is u c (omega (arith, out c, was c, own-one c, at-most)) in
    omega (arith, out n, was n, ap (λ v. one (v == n)) is)
  where
    at-most : one (u == c) ≤ 1
    at-most = by (u == c)
      where
        by : (b : Bool) → one b ≤ 1
        by true = omega arith
        by false = omega arith

-- It ended.
module _ (s : Settings) (p : DeskState) (d : Desk) (at : ℕ) (op : OpName) (u : ℕ) (latency : Option ℕ) (h : Stands s p d) (there : is_pending p op u ≡ true) where
  abbrev q : DeskState
  q = with_heard_at s (Ended op u latency) at p

  abbrev f : DeskFacts
  f = facts_of s p

  abbrev less : List ℕ
  less = conns_of (without_op op p.pending)

  abbrev before : ℕ → List ℕ
  before = ring_of p.rings

  abbrev after : ℕ → List ℕ
  after = ring_of (with_told s u latency p.rings)

  told-so-far : Tells s (with_means f before) d.tables
  told-so-far = subst (λ (g : DeskFacts). Tells s g d.tables) (means-of s p) h.tables

  fewer : IsLess u less f.pending
  fewer = there-less op u p.pending (h.once op) there

  kept : AreRings f.tiers before d.tables.rounds.items
  kept = subst (λ (ts : List TierPlan). AreRings ts before d.tables.rounds.items) (sym (tiers-are s p d h)) h.rings

  told : IsToldOf s u latency before after
  told = told-is s u latency p.rings

  -- what the tables owe of it
  abbrev pub TellsLess : Tables → Type 0
  TellsLess t = (g : DeskFacts) (fewer : List ℕ) (was now : ℕ → List ℕ) → Tells s (with_means g was) d.tables → IsLess u fewer g.pending → AreRings g.tiers was d.tables.rounds.items → IsToldOf s u latency was now → Tells s (with_means (record g { pending = fewer }) now) t

  abbrev pub KeepsLess : Tables → Type 0
  KeepsLess t = (g : DeskFacts) (fewer : List ℕ) (was now : ℕ → List ℕ) → Tells s (with_means g was) d.tables → IsLess u fewer g.pending → AreRings g.tiers was d.tables.rounds.items → IsToldOf s u latency was now → AreRings g.tiers now t.rounds.items

  pub ended-stands : (t : Tables) (y : Pending) → TellsLess t → KeepsLess t → ((n : ℕ) → times y op n ≡ 0) → ((o : OpName) (n : ℕ) → same_op op o ≡ false → times y o n ≡ times d.pending o n) → Stands s q (record d { moment = at; tables = t; pending = y })
  ended-stands t y tells rings gone others = record {
    moment = refl;
    number = h.number;
    agrees = h.agrees;
    tables = subst (λ (g : DeskFacts). Tells s g t) (sym (means-of s q)) (tells f less before after told-so-far fewer kept told);
    rings = subst (λ (ts : List TierPlan). AreRings ts after t.rounds.items) (tiers-are s p d h) (rings f less before after told-so-far fewer kept told);
    times = λ o n. by o n (same_op op o) refl;
    once = λ o. omega (arith, without-once op o p.pending, h.once o);
    viable_known = h.viable_known;
    pending_known = λ n e. h.pending_known n (without-conns op n p.pending e);
  }
    where
      by : (o : OpName) (n : ℕ) (b : Bool) → same_op op o ≡ b → count_on o n (without_op op p.pending) ≡ times y o n
      by o n true e = subst (λ (x : OpName). count_on x n (without_op op p.pending) ≡ times y x n) (one-op op o e) (without-same op n p.pending ∙ sym (gone n))
      by o n false e = without-other op o n p.pending e ∙ h.times o n ∙ sym (others o n e)

-- how often it was pending
pub was-there : (s : Settings) (p : DeskState) (d : Desk) (op : OpName) (u : ℕ) → Stands s p d → is_pending p op u ≡ true → (n : ℕ) → times d.pending op n ≡ one (u == n)
was-there s p d op u h there n = sym (h.times op n) ∙ there-alone op u n p.pending (h.once op) there
