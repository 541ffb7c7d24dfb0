-- The desk on another plan, and on the first one.
use Rattle.std.proofs.Common.{◌≡◌, ℕ, zero, suc, ◌+◌, ◌≤◌, ◌<◌, Bool, true, false, ◌==◌, ◌&&◌, nat_le, nat_lt, if◌then◌else◌, ◌++◌, append-nil, List, [], ◌∷◌, length, filter, map, take, drop, slice_get, Option, Some, None, refl, sym, ap, subst, ◌∙◌, arith}
use Rattle.std.proofs.lemmas.Bool.{and_parts, and_from, eqb-true, leb-true, eq-eqb, le-leb}
use Rattle.std.proofs.lemmas.Bool.Decides.{nat_tests}
use Rattle.lload_names.specs.declared.names.OpName.{OpName}
use Rattle.lload_names.specs.declared.plans.BackendPlan.{BackendPlan}
use Rattle.lload_names.specs.declared.plans.Planned.{Planned}
use Rattle.lload_names.specs.declared.plans.TierKind.{TierKind}
use Rattle.lload_names.specs.declared.plans.TierKind.TheVariants.{RoundRobin, Weighted, BestOf}
use Rattle.lload_names.specs.declared.plans.TierPlan.{TierPlan}
use Rattle.lload_names.specs.Plans.{backends_of, backend_count, place_count, greatest_number, raised, same_backend, same_backends, same_tier_kind, same_plan, ArePlans, NumberedFrom}
use Rattle.lload_names.specs.declared.names.Entry.{Entry}
use Rattle.lload_names.specs.declared.names.PartName.TheVariants.{Desk as DeskPart}
use Rattle.lload_names.specs.declared.names.What.TheVariants as what
use Rattle.lload_reload.specs.Bases.{AreNotBelow}
use Rattle.outbox.specs.declared.outbox.Outbox.{Outbox}
use Rattle.part_spec.specs.Inputs.{act, nothing, entries_of}
use Rattle.part_spec.specs.DeskTurn.{is_taken, reloads}
use Rattle.lload_spec.specs.Right.{is_next_plan}
use Rattle.lload_spec.specs.Settings.{Settings, numbered_plan, plan_in_force, is_of_backend}
use Rattle.lload_spec.specs.Choice.{pending_at}
use Rattle.part_spec.specs.DeskState.{DeskState, facts_of, with_plan, empty_desk}
use Rattle.ready_set.specs.Keys.{is_in}
use Rattle.desk_tables.specs.Pending.{times}
use Rattle.desk_choice.specs.Tells.{Tells}
use Rattle.desk_choice.specs.declared.tables.Tables.{Tables}
use Rattle.desk_rules.specs.Fresh.{IsFresh}
use Rattle.desk_rules.specs.Latencies.{AreRings}
use Rattle.desk_rules.proofs.Placing.{plan-is}
use Rattle.desk_rules.proofs.Earlier.{numbered-in-force, not-of-plan}
use Rattle.load_desk.specs.declared.part.Desk.{Desk}
use Rattle.load_desk.specs.Part.{Agrees, Stands, BeginsWith, IsOfPlans, is_next}
use Rattle.load_desk.specs.Plans.{has_numbers, count_with}
use Rattle.load_desk.specs.Did.{Did}
use Rattle.load_desk.proofs.Turns.{did-nothing}

-- Two plans that are one.

one-backend : (a b : BackendPlan) → same_backend a b ≡ true → a ≡ b
one-backend a b e = grind (arith, nat_tests, e)

one-list : (as' bs : List BackendPlan) → same_backends as' bs ≡ true → as' ≡ bs
one-list [] [] e = refl
one-list [] (b ∷ bs) e = absurd (let bad : false ≡ true = e in cc)
one-list (a ∷ as') [] e = absurd (let bad : false ≡ true = e in cc)
one-list (a ∷ as') (b ∷ bs) e =
    let both = and_parts (same_backend a b) (same_backends as' bs) e in
    ap (λ (x : BackendPlan). x ∷ as') (one-backend a b both.0) ∙ ap (λ (xs : List BackendPlan). b ∷ xs) (one-list as' bs both.1)

one-kind : (a b : TierKind) → same_tier_kind a b ≡ true → a ≡ b
one-kind RoundRobin RoundRobin e = refl
one-kind Weighted Weighted e = refl
one-kind BestOf BestOf e = refl
one-kind RoundRobin Weighted e = absurd (let bad : false ≡ true = e in cc)
one-kind RoundRobin BestOf e = absurd (let bad : false ≡ true = e in cc)
one-kind Weighted RoundRobin e = absurd (let bad : false ≡ true = e in cc)
one-kind Weighted BestOf e = absurd (let bad : false ≡ true = e in cc)
one-kind BestOf RoundRobin e = absurd (let bad : false ≡ true = e in cc)
one-kind BestOf Weighted e = absurd (let bad : false ≡ true = e in cc)

one-plan : (ts us : List TierPlan) → same_plan ts us ≡ true → ts ≡ us
one-plan [] [] e = refl
one-plan [] (u ∷ us) e = absurd (let bad : false ≡ true = e in cc)
one-plan (t ∷ ts) [] e = absurd (let bad : false ≡ true = e in cc)
one-plan (t ∷ ts) (u ∷ us) e =
    let both = and_parts (same_tier_kind t.kind u.kind && same_backends t.backends u.backends) (same_plan ts us) e in
    let parts = and_parts (same_tier_kind t.kind u.kind) (same_backends t.backends u.backends) both.0 in
    ap (λ (k : TierKind). record { kind = k; backends = t.backends } ∷ ts) (one-kind t.kind u.kind parts.0)
    ∙ ap (λ (bs : List BackendPlan). record { kind = u.kind; backends = bs } ∷ ts) (one-list t.backends u.backends parts.1)
    ∙ ap (λ (xs : List TierPlan). u ∷ xs) (one-plan ts us both.1)

backend-itself : (b : BackendPlan) → same_backend b b ≡ true
backend-itself b =
    let number = eq-eqb b.number b.number refl in
    let weight = eq-eqb b.weight b.weight refl in
    let numconns = eq-eqb b.numconns b.numconns refl in
    let bindconns = eq-eqb b.bindconns b.bindconns refl in
    let max_pending = eq-eqb b.max_pending b.max_pending refl in
    let conn_max_pending = eq-eqb b.conn_max_pending b.conn_max_pending refl in
    grind (arith, number, weight, numconns, bindconns, max_pending, conn_max_pending)

list-itself : (bs : List BackendPlan) → same_backends bs bs ≡ true
list-itself [] = refl
list-itself (b ∷ bs) = and_from (same_backend b b) (same_backends bs bs) (backend-itself b) (list-itself bs)

kind-itself : (k : TierKind) → same_tier_kind k k ≡ true
kind-itself RoundRobin = refl
kind-itself Weighted = refl
kind-itself BestOf = refl

plan-itself : (ts : List TierPlan) → same_plan ts ts ≡ true
plan-itself [] = refl
plan-itself (t ∷ ts) =
    and_from (same_tier_kind t.kind t.kind && same_backends t.backends t.backends) (same_plan ts ts)
    (and_from (same_tier_kind t.kind t.kind) (same_backends t.backends t.backends) (kind-itself t.kind) (list-itself t.backends)) (plan-itself ts)

-- The plan of a number.

some-length : (ps : List Planned) (k : ℕ) (x : Planned) → slice_get ps k ≡ Some x → suc k ≤ length ps
some-length [] k x e = absurd (cc)
some-length (p ∷ ps) zero x e = omega arith
some-length (p ∷ ps) (suc k) x e = omega (arith, some-length ps k x e)

get-some : {A : Type 0} (xs : List A) (j : ℕ) → suc j ≤ length xs → (x : A) × (slice_get xs j ≡ Some x)
get-some [] j l = absurd (omega (arith, l))
get-some (x ∷ xs) zero l = (x, refl)
get-some (x ∷ xs) (suc j) l = get-some xs j (omega (arith, l))

numbered-at : (ps : List Planned) (k : ℕ) (x : Planned) → slice_get ps k ≡ Some x → numbered_plan ps (suc k) ≡ x
numbered-at [] k x e = absurd (cc)
numbered-at (p ∷ ps) zero x e = let same : p ≡ x = cc in same
numbered-at (p ∷ ps) (suc k) x e = numbered-at ps k x e

count-more : (ps : List Planned) (k : ℕ) (x : Planned) → slice_get ps k ≡ Some x → backend_count (take (suc k) ps) ≡ backend_count (take k ps) + length (backends_of x.plan)
count-more [] k x e = absurd (cc)
count-more (p ∷ ps) zero x e = let same : p ≡ x = cc in let is = ap (λ (y : Planned). length (backends_of y.plan)) same in omega (arith, is)
count-more (p ∷ ps) (suc k) x e = omega (arith, count-more ps k x e)

none-before : (ps : List Planned) → backend_count (take 0 ps) ≡ 0
none-before [] = refl
none-before (p ∷ ps) = refl

-- of the plans behind so many
pub below-next : (n k : ℕ) (ps : List Planned) (x : Planned) → slice_get ps k ≡ Some x → AreNotBelow n (drop k ps) → n ≤ x.base
below-next n k [] x e h = absurd (cc)
below-next n zero (p ∷ ps) x e h = let same : p ≡ x = cc in let is = ap (λ (y : Planned). y.base) same in omega (arith, is, h.0)
below-next n (suc k) (p ∷ ps) x e h = below-next n k ps x e h

below-later : (n k : ℕ) (ps : List Planned) → AreNotBelow n (drop k ps) → AreNotBelow n (drop (suc k) ps)
below-later n zero [] h = h
below-later n (suc k) [] h = h
below-later n zero (p ∷ ps) h = h.1
below-later n (suc k) (p ∷ ps) h = below-later n k ps h

-- Nothing of earlier plans is looked at.

none-above : (base : ℕ) (vs : List ℕ) → ((n : ℕ) → is_in n vs ≡ true → n ≤ base) → filter (nat_lt base) vs ≡ []
none-above base [] h = refl
none-above base (v ∷ vs) h =
    let here : nat_lt base v ≡ false = let l = h v (grind (arith, nat_tests)) in grind (arith, nat_tests, l) in
    let rest = none-above base vs (λ n e. h n (grind (arith, e))) in
    grind (arith, here, rest)

none-pass : (test : ℕ → Bool) (ns : List ℕ) → ((n : ℕ) → is_in n ns ≡ true → test n ≡ false) → length (filter test ns) ≡ 0
none-pass test [] h = refl
none-pass test (v ∷ vs) h =
    let here : test v ≡ false = h v (grind (arith, nat_tests)) in
    let rest = none-pass test vs (λ n e. h n (grind (arith, e))) in
    grind (arith, here, rest)

-- The next plan.

module _ (s : Settings) (p : DeskState) (d : Desk) (plan : List TierPlan) (base at : ℕ) (h : Stands s p d) (next : is_next s p plan base ≡ true) where
  abbrev k : ℕ
  k = p.plan

  both : (is_next_plan s k (record { number = suc k; base = base }) ≡ true) × (same_plan plan (numbered_plan s.plans (suc k)).plan ≡ true)
  both = and_parts _ _ next

  in-order : (((suc k == suc k) && nat_le (suc k) (length s.plans)) ≡ true) × ((base == (plan_in_force s (suc k)).base) ≡ true)
  in-order = and_parts ((suc k == suc k) && nat_le (suc k) (length s.plans)) (base == (plan_in_force s (suc k)).base) both.0

  there : suc k ≤ length s.plans
  there = leb-true (suc k) (length s.plans) (and_parts (suc k == suc k) (nat_le (suc k) (length s.plans)) in-order.0).1

  abbrev next-one : (x : Planned) × (slice_get s.plans k ≡ Some x)
  next-one = get-some s.plans k there

  abbrev x : Planned
  x = next-one.0

  count : backend_count (take k s.plans) ≡ d.backends
  count = ap (λ n. backend_count (take n s.plans)) h.number ∙ h.agrees.count

  plan-same : plan ≡ x.plan
  plan-same = one-plan plan x.plan (ap (same_plan plan) (sym (ap (λ (y : Planned). y.plan) (numbered-at s.plans k x next-one.1))) ∙ both.1)

  in-force-next : plan_in_force s (suc k) ≡ record { plan = map (raised d.backends) plan; base = x.base }
  in-force-next = plan-is s k x next-one.1 ∙ ap (λ n. record x { plan = map (raised n) x.plan }) count ∙ ap (λ (ts : List TierPlan). record x { plan = map (raised d.backends) ts }) (sym plan-same)

  base-same : x.base ≡ base
  base-same = sym (eqb-true base (plan_in_force s (suc k)).base in-order.1 ∙ ap (λ (y : Planned). y.base) in-force-next)

  -- the settings have it there
  pub next-there : slice_get s.plans k ≡ Some (record { plan = plan; base = base })
  next-there = next-one.1 ∙ (λ i. Some (record { plan = sym plan-same i; base = base-same i }))

  in-force : plan_in_force s (suc k) ≡ record { plan = map (raised d.backends) plan; base = base }
  in-force = in-force-next ∙ ap (λ b. record { plan = map (raised d.backends) plan; base = b }) base-same

  abbrev q : DeskState
  q = record (with_plan (suc k) p) { moment = at; asked = None }

  pub fresh-facts : IsFresh s (facts_of s q)
  fresh-facts = record {
    first = suc (backend_count (take k s.plans));
    numbered = numbered-in-force s k x h.agrees.plans next-one.1;
    viable = none-above (plan_in_force s (suc k)).base p.viable (λ n e. omega (arith, below-next n k s.plans x next-one.1 (h.viable_known n e), base-same, ap (λ (y : Planned). y.base) in-force));
    quiet = λ j b e. none-pass (is_of_backend s b.number) (facts_of s q).pending (λ n i. not-of-plan s k n j x b h.agrees.plans next-one.1 (below-next n k s.plans x next-one.1 (h.pending_known n i)) e);
    last_backend = λ t. refl;
    last_place = λ b k. refl;
    mean = λ b. refl;
  }

  pub fresh-tiers : (facts_of s q).tiers ≡ map (raised d.backends) plan
  fresh-tiers = ap (λ (y : Planned). y.plan) in-force

  pub replanned-stands : (number n : ℕ) (us : List TierPlan) (t : Tables) → number ≡ d.number + 1 → n ≡ d.backends + length (backends_of plan) → us ≡ map (raised d.backends) plan → Tells s (facts_of s q) t → AreRings us (λ b. []) t.rounds.items
      → Stands s q (record d { moment = at; number = number; plan = us; base = base; backends = n; tables = t })
  replanned-stands number n us t is more numbered tells rings =
      let number-is : suc k ≡ number = omega (arith, is, h.number) in
      record {
        moment = refl;
        number = number-is;
        agrees = subst (λ (m : ℕ). Agrees s m us base n) number-is (record {
          plans = h.agrees.plans;
          begun = omega arith;
          so_far = there;
          in_force = in-force ∙ ap (λ (ts : List TierPlan). record { plan = ts; base = base }) (sym numbered);
          count = omega (arith, count-more s.plans k x next-one.1, count, more, ap (λ (ts : List TierPlan). length (backends_of ts)) plan-same);
        });
        tables = tells;
        rings = rings;
        times = h.times;
        once = h.once;
        viable_known = λ n e. below-later n k s.plans (h.viable_known n e);
        pending_known = λ n e. below-later n k s.plans (h.pending_known n e);
      }

  -- it is taken where its numbers stay within 32 bits
  taken-is : (t : Bool) → has_numbers d.backends base plan ≡ t → is_taken s p plan base ≡ t
  taken-is t e = ap (λ n. is_next s p plan base && has_numbers n base plan) count ∙ ap (λ b. b && has_numbers d.backends base plan) next ∙ e

  pub untaken : (x : Outbox) → has_numbers d.backends base plan ≡ false → Did s p at None (reloads s p plan base) x x d
  untaken x e = subst (λ (t : Bool). Did s p at None (elim t [ true ↦ act (what.Replanned (suc k) base ∷ []) [] | false ↦ nothing ]) x x d) (sym (taken-is false e)) (did-nothing s p at None x d h)

  pub taken-did : (number : ℕ) (x y z : Outbox) (e : Desk) → has_numbers d.backends base plan ≡ true → number ≡ d.number + 1 → y.entries.items ≡ x.entries.items → y.letters.items ≡ x.letters.items → z.entries.items ≡ y.entries.items ++ entries_of DeskPart at (what.Replanned number base ∷ []) → z.letters ≡ y.letters → Stands s q e → Did s p at None (reloads s p plan base) x z e
  taken-did number x y z e fits is same none put letters stands =
      let number-is : number ≡ suc k = omega (arith, is, h.number) in
      subst (λ (t : Bool). Did s p at None (elim t [ true ↦ act (what.Replanned (suc k) base ∷ []) [] | false ↦ nothing ]) x z e) (sym (taken-is true fits)) (record {
        entries = put ∙ ap (λ (l : List Entry). l ++ entries_of DeskPart at (what.Replanned number base ∷ [])) same ∙ ap (λ n. x.entries.items ++ entries_of DeskPart at (what.Replanned n base ∷ [])) number-is;
        letters = ap (λ l. l.items) letters ∙ none ∙ sym (append-nil x.letters.items);
        stands = stands;
      })

-- it is the next one where the settings have it there
pub there-next : (s : Settings) (p : DeskState) (plan : List TierPlan) (base : ℕ) → slice_get s.plans p.plan ≡ Some (record { plan = plan; base = base }) → is_next s p plan base ≡ true
there-next s p plan base e =
    let k = p.plan in
    let numbered = numbered-at s.plans k (record { plan = plan; base = base }) e in
    let force = plan-is s k (record { plan = plan; base = base }) e in
    and_from (is_next_plan s k (record { number = suc k; base = base })) (same_plan plan (numbered_plan s.plans (suc k)).plan)
    (and_from ((suc k == suc k) && nat_le (suc k) (length s.plans)) (base == (plan_in_force s (suc k)).base)
    (and_from (suc k == suc k) (nat_le (suc k) (length s.plans)) (eq-eqb (suc k) (suc k) refl) (le-leb (suc k) (length s.plans) (some-length s.plans k _ e)))
    (eq-eqb base (plan_in_force s (suc k)).base (sym (ap (λ (y : Planned). y.base) force))))
    (ap (λ (y : Planned). same_plan plan y.plan) numbered ∙ plan-itself plan)

-- How many backends there are with one more plan.

pub count-none : (backends base : ℕ) (plan : List TierPlan) → None ≡ count_with backends base plan → has_numbers backends base plan ≡ false
count-none backends base plan = by (has_numbers backends base plan)
  where
    by : (b : Bool) → None ≡ (if b then Some (backends + length (backends_of plan)) else None) → b ≡ false
    by false e = refl
    by true e = absurd (cc)

pub count-some : (backends base n : ℕ) (plan : List TierPlan) → Some n ≡ count_with backends base plan → (has_numbers backends base plan ≡ true) × (n ≡ backends + length (backends_of plan))
count-some backends base n plan = by (has_numbers backends base plan)
  where
    by : (b : Bool) → Some n ≡ (if b then Some (backends + length (backends_of plan)) else None) → (b ≡ true) × (n ≡ backends + length (backends_of plan))
    by true e = (refl, cc)
    by false e = absurd (cc)

pub numbers-fit : (backends base : ℕ) (plan : List TierPlan) → has_numbers backends base plan ≡ true → backends + length (backends_of plan) ≤ greatest_number
numbers-fit backends base plan e = leb-true (backends + length (backends_of plan)) greatest_number (and_parts (nat_le (base + place_count plan) greatest_number) (nat_le (backends + length (backends_of plan)) greatest_number) e).1

-- The first one.

module _ (s : Settings) (plan : List TierPlan) (h : BeginsWith s plan) where
  abbrev first-plan : Planned
  first-plan = record { plan = plan; base = 0 }

  pub first-in-force : plan_in_force s 1 ≡ record { plan = map (raised 0) plan; base = 0 }
  first-in-force = plan-is s 0 first-plan h.first

  some : (ps : List Planned) → slice_get ps 0 ≡ Some first-plan → 1 ≤ length ps
  some [] e = absurd (cc)
  some (p ∷ ps) e = omega arith

  pub first-facts : IsFresh s (facts_of s empty_desk)
  first-facts = record {
    first = 1;
    numbered = numbered-in-force s 0 first-plan h.plans h.first;
    viable = refl;
    quiet = λ j b e. refl;
    last_backend = λ t. refl;
    last_place = λ b k. refl;
    mean = λ b. refl;
  }

  pub first-tiers : (facts_of s empty_desk).tiers ≡ map (raised 0) plan
  first-tiers = ap (λ (y : Planned). y.plan) first-in-force

  pub first-stands : (d : Desk) → d.moment ≡ 0 → d.number ≡ 1 → d.plan ≡ map (raised 0) plan → d.base ≡ 0 → d.backends ≡ length (backends_of plan) → Tells s (facts_of s empty_desk) d.tables → AreRings d.plan (λ b. []) d.tables.rounds.items → ((op : OpName) (n : ℕ) → times d.pending op n ≡ 0) → Stands s empty_desk d
  first-stands d moment number force base backends tells rings none = record {
    moment = sym moment;
    number = sym number;
    agrees = record {
      plans = h.plans;
      begun = omega (arith, number);
      so_far = omega (arith, number, some s.plans h.first);
      in_force = ap (plan_in_force s) number ∙ first-in-force ∙ ap (λ (ts : List TierPlan). record { plan = ts; base = 0 }) (sym force) ∙ ap (λ n. record { plan = d.plan; base = n }) (sym base);
      count = ap (λ n. backend_count (take n s.plans)) number ∙ omega (arith, count-more s.plans 0 first-plan h.first, none-before s.plans, backends);
    };
    tables = tells;
    rings = rings;
    times = λ op n. sym (none op n);
    once = λ op. omega arith;
    viable_known = λ n e. absurd (let bad : false ≡ true = e in cc);
    pending_known = λ n e. absurd (let bad : false ≡ true = e in cc);
  }
