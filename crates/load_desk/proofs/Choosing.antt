-- The desk after an operation was given a connection.
use Rattle.std.proofs.Common.{◌≡◌, ℕ, ◌+◌, ◌≤◌, Bool, true, false, ◌==◌, ◌&&◌, ◌||◌, if◌then◌else◌, List, [], ◌∷◌, ◌++◌, filter, length, Option, Some, None, Result, Ok, Err, ⊎_elim, refl, sym, ap, subst, ◌∙◌, arith}
use Rattle.std.proofs.lemmas.Bool.Decides.{nat_tests}
use Rattle.std.proofs.lemmas.Bool.{eqb-true}
use Rattle.std.specs.Prelude.{nat_lt, is_err, OnOk, OnErr}
use Rattle.std.specs.Option.{option_map, ForSome}
use Rattle.lload_names.specs.declared.names.Answer.{Answer}
use Rattle.lload_names.specs.declared.names.Answer.TheVariants.{Go, Busy, Unavailable}
use Rattle.lload_names.specs.declared.names.ConnKind.{ConnKind}
use Rattle.lload_names.specs.declared.names.ConnKind.TheVariants.{Regular, Bind}
use Rattle.lload_names.specs.declared.names.OpName.{OpName}
use Rattle.lload_names.specs.declared.names.Letter.TheVariants.{Ask}
use Rattle.lload_names.specs.declared.names.Want.{Want}
use Rattle.lload_names.specs.declared.plans.Place.{Place}
use Rattle.lload_names.specs.declared.plans.TierPlan.{TierPlan}
use Rattle.lload_names.specs.Same.{same_op, is_kind}
use Rattle.lload_spec.specs.Lists.{last}
use Rattle.lload_spec.specs.Entries.{Named}
use Rattle.lload_spec.specs.Order.{has_backend, is_free}
use Rattle.lload_spec.specs.Settings.{Settings, place_at, place_index, plan_in_force, backend_of, is_of_kind, is_of_backend}
use Rattle.lload_spec.specs.Choice.{DeskFacts, pending_on}
use Rattle.part_laws.proofs.ListLaws.{any_filtered}
use Rattle.part_spec.specs.DeskState.{DeskState, facts_of, in_place_of, share_wheel, last_backend, last_place}
use Rattle.part_spec.specs.DeskTurn.{answer_to}
use Rattle.desk_moves_laws.proofs.DeskPicks.{Eligible, Sound, answer_sound}
use Rattle.ready_set.specs.Keys.{is_in}
use Rattle.desk_tables.specs.Pending.{times, one, SomeHolder}
use Rattle.desk_tables.specs.declared.pending.Pending.{Pending}
use Rattle.desk_choice.specs.Tells.{Tells}
use Rattle.desk_choice.specs.declared.tables.Tables.{Tables}
use Rattle.desk_rules.specs.Counts.{IsLess}
use Rattle.desk_rules.specs.Latencies.{AreRings}
use Rattle.desk_rules.specs.Turning.{IsTurn, IsPick}
use Rattle.load_desk.specs.declared.part.Desk.{Desk}
use Rattle.load_desk.specs.Part.{Stands, IsTakenLetter, IsOfPlans, ring_of, conns_of, count_on, count_of_op}
use Rattle.load_desk.specs.States.{with_choice_at}
use Rattle.load_desk.proofs.Ending.{taken-out}
use Rattle.load_desk.proofs.Lasts.{last-here, last-apart}
use Rattle.load_desk.proofs.Views.{tiers-are}
use Rattle.load_desk.proofs.Lists.{none-of, none-on, push-on, push-of, push-less, push-conns, same-op-symm, same-op-self, on-conn, one-op}

-- The turns of places.

-- of two connections of which one is of a kind and backend and the other isn't, the kinds or the backends differ
apart-kinds : (k x y : ConnKind) (a c e : Bool) → (is_kind k x && a) ≡ false → (is_kind k y && c) ≡ true → (a ≡ false → c ≡ true → e ≡ false) → (e && (is_kind Regular x && is_kind Regular y || is_kind Bind x && is_kind Bind y)) ≡ false
apart-kinds Regular Regular Regular a c e h i f = ap (λ t. t && true) (f h i)
apart-kinds Bind Bind Bind a c e h i f = ap (λ t. t && true) (f h i)
apart-kinds Regular Bind Regular a c e h i f = grind arith
apart-kinds Bind Regular Bind a c e h i f = grind arith
apart-kinds Regular x Bind a c e h i f = absurd (let bad : false ≡ true = i in cc)
apart-kinds Bind x Regular a c e h i f = absurd (let bad : false ≡ true = i in cc)

other-backend : (a b c : ℕ) → (a == b) ≡ false → (c == b) ≡ true → (c == a) ≡ false
other-backend a b c h i = grind (arith, nat_tests, h, i)

abbrev kind_in : ConnKind → Option Place → Bool
kind_in k o = elim o [ None ↦ false | Some p ↦ is_kind k p.kind ]

abbrev backend_in : ℕ → Option Place → Bool
backend_in b o = elim o [ None ↦ false | Some p ↦ p.backend == b ]

abbrev number_in : Option Place → ℕ
number_in o = elim o [ None ↦ 0 | Some p ↦ p.backend ]

apart-places : (k : ConnKind) (b : ℕ) (o r : Option Place) → (kind_in k o && backend_in b o) ≡ false → (kind_in k r && backend_in b r) ≡ true → (backend_in (number_in o) r && (kind_in Regular o && kind_in Regular r || kind_in Bind o && kind_in Bind r)) ≡ false
apart-places k b None r h i = grind arith
apart-places k b (Some p) None h i = absurd (let bad : false ≡ true = i in cc)
apart-places k b (Some p) (Some q) h i = apart-kinds k p.kind q.kind (p.backend == b) (q.backend == b) (q.backend == p.backend) h i (other-backend p.backend b q.backend)

abbrev pub place_behind : Settings → List ℕ → ℕ → ConnKind → Option ℕ
place_behind s lc b k = option_map (place_index s) (last (filter (λ n. is_of_kind s k n && is_of_backend s b n) lc))

pub turn-is : (s : Settings) (n : ℕ) (lc : List ℕ) → IsTurn s n (place_behind s lc) (place_behind s (in_place_of (share_wheel s n) n lc))
turn-is s n lc b k = by (is_of_kind s k n && is_of_backend s b n) refl
  where
    by : (t : Bool) → (is_of_kind s k n && is_of_backend s b n) ≡ t → place_behind s (in_place_of (share_wheel s n) n lc) b k ≡ (elim t [ true ↦ Some (place_index s n) | false ↦ place_behind s lc b k ])
    by true e = ap (option_map (place_index s)) (last-here (λ m. is_of_kind s k m && is_of_backend s b m) (share_wheel s n) n lc e)
    by false e = ap (option_map (place_index s)) (last-apart (λ m. is_of_kind s k m && is_of_backend s b m) (share_wheel s n) n lc e (λ m i. apart-places k b (place_at s n) (place_at s m) e i))

-- The turns of backends.

abbrev pub backend_behind : List ℕ → TierPlan → Option ℕ
backend_behind lb t = last (filter (has_backend t) lb)

pub pick-is : (s : Settings) (f : DeskFacts) (n b : ℕ) (lb : List ℕ) → backend_of s n ≡ b → ((t : TierPlan) → f.last_backend t ≡ backend_behind lb t) → IsPick s n f (backend_behind (in_place_of (λ m. m == b) b lb))
pick-is s f n b lb own was i t e = subst (λ (m : ℕ). backend_behind (in_place_of (λ x. x == b) b lb) t ≡ (elim (has_backend t m) [ true ↦ Some m | false ↦ f.last_backend t ])) (sym own) (by (has_backend t b) refl)
  where
    apart : has_backend t b ≡ false → (m : ℕ) → has_backend t m ≡ true → (m == b) ≡ false
    apart h m j = go (m == b) refl
      where
        go : (x : Bool) → (m == b) ≡ x → x ≡ false
        go false z = refl
        go true z = absurd (let bad : true ≡ false = sym j ∙ ap (has_backend t) (eqb-true m b z) ∙ h in cc)

    by : (x : Bool) → has_backend t b ≡ x → backend_behind (in_place_of (λ m. m == b) b lb) t ≡ (elim x [ true ↦ Some b | false ↦ f.last_backend t ])
    by true h = last-here (has_backend t) (λ m. m == b) b lb h
    by false h = last-apart (has_backend t) (λ m. m == b) b lb h (apart h) ∙ sym (was t)

pub own-number : (s : Settings) (b n : ℕ) → is_of_backend s b n ≡ true → backend_of s n ≡ b
own-number s b n e = by (place_at s n) e
  where
    by : (o : Option Place) → backend_in b o ≡ true → number_in o ≡ b
    by None e = absurd (let bad : false ≡ true = e in cc)
    by (Some p) e = grind (arith, nat_tests, e)

-- The choice.

pub sound : (s : Settings) (p : DeskState) (word : ℕ) (want : Want) (n b : ℕ) → Go n b ≡ answer_to s p word want → Eligible s (facts_of s p) want.kind b n
sound s p word want n b e = subst (λ (a : Answer). Sound s (facts_of s p) want.kind a) (sym e) (answer_sound s (facts_of s p) want.kind word want.bound)

pub chosen-viable : (s : Settings) (p : DeskState) (n : ℕ) → is_in n (facts_of s p).viable ≡ true → is_in n p.viable ≡ true
chosen-viable s p n e = any_filtered (λ m. m == n) (nat_lt (plan_in_force s p.plan).base) p.viable e

-- no bind connection that is chosen has a holder
pub no-holder : (s : Settings) (p : DeskState) (d : Desk) (n b : ℕ) (wanted : ConnKind) → Stands s p d → Eligible s (facts_of s p) wanted b n → SomeHolder n d.pending → wanted ≡ Bind → ⊥
no-holder s p d n b wanted h e held is = absurd (omega (arith, held.1, h.times held.0 n, on-conn held.0 n p.pending, e.alone is))

-- it isn't pending yet
pub not-pending : (s : Settings) (p : DeskState) (d : Desk) (op : OpName) (want : Want) → Stands s p d → IsTakenLetter s p (Ask op want) → (n : ℕ) → times d.pending op n ≡ 0
not-pending s p d op want h fit n = sym (h.times op n) ∙ none-on op n p.pending (omega (arith, none-of op p.pending fit))

pub one-more : (s : Settings) (p : DeskState) (op : OpName) (n : ℕ) → IsLess n (facts_of s p).pending (conns_of (p.pending ++ record { op = op; value = n } ∷ []))
one-more s p op n = push-less (record { op = op; value = n }) p.pending

module _ (s : Settings) (p : DeskState) (d : Desk) (op : OpName) (want : Want) (n b at : ℕ) (h : Stands s p d) (fit : IsTakenLetter s p (Ask op want)) (e : Eligible s (facts_of s p) want.kind b n) (y : Pending) (put : (o : OpName) (m : ℕ) → times y o m ≡ times d.pending o m + one (same_op op o && n == m)) where
  abbrev row : Named ℕ
  row = record { op = op; value = n }

  abbrev q : DeskState
  q = with_choice_at s op want (Go n b) at p

  abbrev more : List ℕ
  more = conns_of (p.pending ++ row ∷ [])

  -- the facts behind it, by what a backend's turn goes on with
  abbrev pub facts_with : (TierPlan → Option ℕ) → DeskFacts
  facts_with last = record (facts_of s p) { pending = more; last_place = last_place s q; last_backend = last }

  abbrev backends : Bool → List ℕ
  backends free = if free then in_place_of (λ m. m == b) b p.last_backends else p.last_backends

  chosen : (free : Bool) → is_free want.bound ≡ free → (t : Tables) → Tells s (facts_with (backend_behind (backends free))) t → Tells s (facts_of s q) t
  chosen free is t k =
      let same : backends free ≡ q.last_backends = ap backends (sym is ∙ ap (λ x. x && is_free want.bound) (sym (same-op-self op))) in
      subst (λ (bs : List ℕ). Tells s (facts_with (backend_behind bs)) t) same k

  once : (o : OpName) (x : Bool) → same_op o op ≡ x → count_of_op o (p.pending ++ row ∷ []) ≤ 1
  once o true i =
      let is : o ≡ op = one-op o op i in
      let none : count_of_op o p.pending ≡ 0 = ap (λ z. count_of_op z p.pending) is ∙ none-of op p.pending fit in
      omega (arith, push-of o row p.pending, none, ap one i)
  once o false i = omega (arith, push-of o row p.pending, h.once o, ap one i)

  pub chosen-stands : (free : Bool) → is_free want.bound ≡ free → (t : Tables) → Tells s (facts_with (backend_behind (backends free))) t → AreRings d.plan (ring_of p.rings) t.rounds.items → Stands s q (record d { moment = at; tables = t; pending = y })
  chosen-stands free is t k rings = record {
    moment = refl;
    number = h.number;
    agrees = h.agrees;
    tables = chosen free is t k;
    rings = rings;
    times = λ o m. omega (arith, push-on o m row p.pending, h.times o m, put o m, ap (λ x. one (x && n == m)) (same-op-symm o op));
    once = λ o. once o (same_op o op) refl;
    viable_known = h.viable_known;
    pending_known = λ m i. ⊎_elim
        (λ (is : n ≡ m). subst (λ (x : ℕ). IsOfPlans s p.plan x) is (h.viable_known n (chosen-viable s p n e.viable)))
        (λ (was : is_in m (conns_of p.pending) ≡ true). h.pending_known m was)
        (push-conns m row p.pending i);
  }

  -- what the tables make of it, where the operation is bound
  module _ (t u : Tables) (taken : (f : DeskFacts) (fuller : List ℕ) → Tells s f d.tables → is_in n f.viable ≡ true → IsLess n f.pending fuller → Tells s (record f { pending = fuller }) t) (turned : (f : DeskFacts) (last : ℕ → ConnKind → Option ℕ) → Tells s f t → is_in n f.viable ≡ true → IsTurn s n f.last_place last → Tells s (record f { last_place = last }) u) (first : t.rounds ≡ d.tables.rounds) (second : u.rounds ≡ t.rounds) where
    tells-turned : Tells s (facts_with (backend_behind p.last_backends)) u
    tells-turned = turned (record (facts_of s p) { pending = more }) (last_place s q) (taken (facts_of s p) more h.tables e.viable (one-more s p op n)) e.viable (turn-is s n p.last_connections)

    rings-turned : AreRings d.plan (ring_of p.rings) u.rounds.items
    rings-turned = rw (second ∙ first) h.rings

    pub given-bound : is_free want.bound ≡ false → Stands s q (record d { moment = at; tables = u; pending = y })
    given-bound is = chosen-stands false is u tells-turned rings-turned

    -- and where it is free
    pub given-free : (v : Tables) → ((f : DeskFacts) (last : TierPlan → Option ℕ) → Tells s f u → is_in n f.viable ≡ true → IsPick s n f last → Tells s (record f { last_backend = last }) v) → ((f : DeskFacts) (latencies : ℕ → List ℕ) → Tells s f u → is_in n f.viable ≡ true → AreRings f.tiers latencies u.rounds.items → AreRings f.tiers latencies v.rounds.items) → is_free want.bound ≡ true → Stands s q (record d { moment = at; tables = v; pending = y })
    given-free v picked kept is =
        let f = facts_with (backend_behind p.last_backends) in
        let tiers = tiers-are s p d h in
        let rings = kept f (ring_of p.rings) tells-turned e.viable (subst (λ (ts : List TierPlan). AreRings ts (ring_of p.rings) u.rounds.items) (sym tiers) rings-turned) in
        chosen-stands true is v
        (picked f (backend_behind (in_place_of (λ m. m == b) b p.last_backends)) tells-turned e.viable (pick-is s f n b p.last_backends (own-number s b n e.backend) (λ t. refl)))
        (subst (λ (ts : List TierPlan). AreRings ts (ring_of p.rings) v.rounds.items) tiers rings)

-- nothing was chosen
pub still-stands : (s : Settings) (p : DeskState) (d : Desk) (at : ℕ) → Stands s p d → Stands s (record p { moment = at; asked = None }) (record d { moment = at })
still-stands s p d at h = record {
  moment = refl;
  number = h.number;
  agrees = h.agrees;
  tables = h.tables;
  rings = h.rings;
  times = h.times;
  once = h.once;
  viable_known = h.viable_known;
  pending_known = h.pending_known;
}

-- what was put is taken out again
pub undone : (s : Settings) (p : DeskState) (d : Desk) (op : OpName) (n : ℕ) (t : Tables) (x y : Pending) (o : Option ℕ) → Stands s p d → ((m : ℕ) → times d.pending op m ≡ 0) → ((a : OpName) (m : ℕ) → times x a m ≡ times d.pending a m + one (same_op op a && n == m)) → Tells s (facts_of s p) t → t.rounds ≡ d.tables.rounds
    → ForSome o (λ c. (m : ℕ) → times y op m + one (c == m) ≡ times x op m) → (o ≡ None → (m : ℕ) → times y op m ≡ 0) → ((a : OpName) (m : ℕ) → same_op op a ≡ false → times y a m ≡ times x a m)
    → Stands s p (record d { tables = t; pending = y })
undone s p d op n t x y o h none put k rounds taken empty others = record {
  moment = h.moment;
  number = h.number;
  agrees = h.agrees;
  tables = k;
  rings = rw rounds h.rings;
  times = λ a m. h.times a m ∙ by a m (same_op op a) refl;
  once = h.once;
  viable_known = h.viable_known;
  pending_known = h.pending_known;
}
  where
    was : (m : ℕ) → times x op m ≡ one (n == m)
    was m = omega (arith, put op m, none m, ap (λ z. one (z && n == m)) (same-op-self op))

    by : (a : OpName) (m : ℕ) (z : Bool) → same_op op a ≡ z → times d.pending a m ≡ times y a m
    by a m true e = subst (λ (c : OpName). times d.pending c m ≡ times y c m) (one-op op a e) (none m ∙ sym (taken-out x y op n o was taken empty m))
    by a m false e = omega (arith, put a m, ap (λ z. one (z && n == m)) e, others a m e)

pub by-ok : {T E X : Type 0} (r : Result T E) → is_err r ≡ false → OnOk r X → X
by-ok (Ok t) e h = h
by-ok (Err x) e h = absurd (let bad : true ≡ false = e in cc)

pub by-err : {T E X : Type 0} (r : Result T E) → is_err r ≡ true → OnErr r X → X
by-err (Ok t) e h = absurd (let bad : false ≡ true = e in cc)
by-err (Err x) e h = h
