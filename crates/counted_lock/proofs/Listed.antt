-- Lists of views, one of which changes.
use Rattle.std.proofs.Common.{◌≡◌, ◌≢◌, ℕ, zero, suc, Bool, ◌+◌, ◌^◌, ◌≤◌, ◌⊎◌, inl, inr, ⊎_elim, true, false, List, [], ◌∷◌, ◌++◌, length, set, length-set, sym, refl, ap, ◌∙◌, subst, arith, if◌then◌else◌}
use mathlib.Core.Option.{some, some-injective}
use mathlib.Core.Logic.{dite}
use native.Mathlib.Decide.{ℕ_discrete}
use lib.ListN.{get_elem?}
use Rattle.atomic_table.proofs.Lists.{at_set, at_longer, set_here, set_else}
use Rattle.counted_lock.specs.declared.known.Mark.{Mark}
use Rattle.counted_lock.specs.declared.known.View.{View}
use Rattle.counted_lock.specs.declared.known.Joined.{Joined}
use Rattle.counted_lock.specs.declared.known.Stage.{Stage}
use Rattle.counted_lock.specs.declared.known.Stage.TheVariants.{Idle, Waiting, Holding}
use Rattle.counted_lock.specs.Turns.{turns_by, StartsWith, Tagged, WasJoined}
use Rattle.counted_lock.specs.Views.{tickets, HasTicket}
use Rattle.counted_lock.specs.Rule.{waiting, spent_one, spent_ones, At, TicketAt, HolderAt, Ended, HostKnows, AllDiffer}
use Rattle.counted_lock.proofs.Marks.{some_inside}

tickets_le : (st : Stage) → tickets st ≤ 1
tickets_le Idle = omega arith
tickets_le (Waiting n) = omega arith
tickets_le (Holding n) = omega arith

module _ {A : Type 0} where
  pub at_end : (xs : List A) (a b : A) (j : ℕ) → get_elem? (xs ++ a ∷ []) j ≡ some b → (get_elem? xs j ≡ some b) ⊎ ((j ≡ length xs) × (a ≡ b))
  at_end [] a b zero e = inr (refl, cc)
  at_end [] a b (suc j) e = absurd (cc)
  at_end (x ∷ xs) a b zero e = inl e
  at_end (x ∷ xs) a b (suc j) e = ⊎_elim (λ t. inl t) (λ t. inr (ap suc t.0, t.1)) (at_end xs a b j e)

  pub nowhere : (j : ℕ) (a : A) → get_elem? [] j ≡ some a → ⊥
  nowhere zero a e = absurd (cc)
  nowhere (suc j) a e = absurd (cc)

  -- what is at one place is one
  pub one_at : (xs : List A) (j k : ℕ) (a b : A) → get_elem? xs j ≡ some a → get_elem? xs k ≡ some b → k ≡ j → a ≡ b
  one_at xs j k a b at there e = some-injective _ _ (sym at ∙ (ap (λ (i : ℕ). get_elem? xs i) (sym e) ∙ there))

-- a new tag among tags that differ
pub differ_snoc : (tags : List ℕ) (t : ℕ) → AllDiffer tags → ((k : ℕ) → get_elem? tags k ≡ some t → ⊥) → AllDiffer (tags ++ t ∷ [])
differ_snoc tags t old new j k x a b = ⊎_elim
    (λ (p : get_elem? tags j ≡ some x). ⊎_elim
    (λ (q : get_elem? tags k ≡ some x). old j k x p q)
    (λ (q : (k ≡ length tags) × (t ≡ x)). absurd (new j (p ∙ ap some (sym q.1))))
    (at_end tags t x k b))
    (λ (p : (j ≡ length tags) × (t ≡ x)). ⊎_elim
    (λ (q : get_elem? tags k ≡ some x). absurd (new k (q ∙ ap some (sym p.1))))
    (λ (q : (k ≡ length tags) × (t ≡ x)). p.0 ∙ sym q.0)
    (at_end tags t x k b))
    (at_end tags t x j a)

module _ {Q : Type 0} where
  pub waiting_le : (vs : List (View Q)) → waiting vs ≤ length vs
  waiting_le [] = omega arith
  waiting_le (v ∷ vs) = omega (arith, tickets_le v.stage, waiting_le vs)

  pub waiting_set : (vs : List (View Q)) (i : ℕ) (v w : View Q) → get_elem? vs i ≡ some v → waiting (set vs i w) + tickets v.stage ≡ waiting vs + tickets w.stage
  waiting_set [] i v w e = absurd (cc)
  waiting_set (x ∷ xs) zero v w e = let same : x ≡ v = cc in let t = ap (λ (u : View Q). tickets u.stage) same in omega arith
  waiting_set (x ∷ xs) (suc i) v w e = omega (arith, waiting_set xs i v w e)

  pub waiting_snoc : (vs : List (View Q)) (w : View Q) → waiting (vs ++ w ∷ []) ≡ waiting vs + tickets w.stage
  waiting_snoc [] w = omega arith
  waiting_snoc (x ∷ xs) w = omega (arith, waiting_snoc xs w)

  pub spent_set : (vs : List (View Q)) (i : ℕ) (v w : View Q) → get_elem? vs i ≡ some v → spent_ones (set vs i w) + spent_one v ≡ spent_ones vs + spent_one w
  spent_set [] i v w e = absurd (cc)
  spent_set (x ∷ xs) zero v w e = let same : x ≡ v = cc in let t = ap spent_one same in omega arith
  spent_set (x ∷ xs) (suc i) v w e = omega (arith, spent_set xs i v w e)

  pub spent_snoc : (vs : List (View Q)) (w : View Q) → spent_ones (vs ++ w ∷ []) ≡ spent_ones vs + spent_one w
  spent_snoc [] w = omega arith
  spent_snoc (x ∷ xs) w = omega (arith, spent_snoc xs w)

  pub live_zero : (v : View Q) → v.spent ≡ false → spent_one v ≡ 0
  live_zero v e = rw e refl

  -- what each view keeps, where one becomes another
  pub each_after : (K : ℕ → View Q → Type 0) (vs : List (View Q)) (id : ℕ) (w : View Q) → K id w → ((j : ℕ) (v : View Q) → j ≢ id → get_elem? vs j ≡ some v → K j v)
      → (j : ℕ) (v : View Q) → get_elem? (set vs id w) j ≡ some v → K j v
  each_after K vs id w mine others j v e = ⊎_elim (λ (t : (j ≡ id) × (w ≡ v)). subst (λ (x : ℕ × View Q). K x.0 x.1) (λ i. (sym t.0 i, t.1 i)) mine)
      (λ (t : (j ≢ id) × (get_elem? vs j ≡ some v)). others j v t.0 t.1) (at_set vs id j w v e)

  -- what one seat knows
  pub record Lives (log : List (Mark Q)) (drawn holder : ℕ) (tags : List ℕ) (j : ℕ) (v : View Q) : Type 0 where
    pub ticket : At log drawn holder j v.seen v.stage
    pub number : v.number ≡ j
    pub tag : get_elem? tags j ≡ some v.tag
    pub seen : StartsWith log v.seen
    pub own : turns_by j log ≡ v.own
    pub own_seen : turns_by j v.seen ≡ v.own

  pub record Known (log : List (Mark Q)) (drawn holder : ℕ) (tags : List ℕ) (j : ℕ) (v : View Q) : Type 0 where
    pub lives : v.spent ≡ false → Lives log drawn holder tags j v
    pub rests : v.spent ≡ true → (v.stage ≡ Idle) × (v.host ≡ false)

  -- a seat that isn't spent
  pub living : (log : List (Mark Q)) (drawn holder : ℕ) (tags : List ℕ) (j : ℕ) (v : View Q) → v.spent ≡ false → Lives log drawn holder tags j v → Known log drawn holder tags j v
  living log drawn holder tags j v live k = record { lives = λ _. k; rests = λ e. absurd (let b : false ≡ true = sym live ∙ e in cc) }

  pub at_of : (log : List (Mark Q)) (drawn holder : ℕ) (tags : List ℕ) (j : ℕ) (v : View Q) (b : Bool) → v.spent ≡ b → Known log drawn holder tags j v → At log drawn holder j v.seen v.stage
  at_of log drawn holder tags j v false e k = (k.lives e).ticket
  at_of log drawn holder tags j v true e k = subst (At log drawn holder j v.seen) (sym (k.rests e).0) tt

  abbrev pub OneSeat : List (View Q) → Type 0
  OneSeat vs = (j k n : ℕ) (v w : View Q) → get_elem? vs j ≡ some v → get_elem? vs k ≡ some w → HasTicket n v.stage → HasTicket n w.stage → j ≡ k

  pub one_seat_after : (vs : List (View Q)) (id : ℕ) (w : View Q) → OneSeat vs → ((k n : ℕ) (u : View Q) → k ≢ id → get_elem? vs k ≡ some u → HasTicket n w.stage → HasTicket n u.stage → ⊥) → OneSeat (set vs id w)
  one_seat_after vs id w old mine j k n a b ja kb ta tb =
      ⊎_elim
      (λ (p : (j ≡ id) × (w ≡ a)). ⊎_elim
      (λ (q : (k ≡ id) × (w ≡ b)). p.0 ∙ sym q.0)
      (λ (q : (k ≢ id) × (get_elem? vs k ≡ some b)). absurd (mine k n b q.0 q.1 (subst (λ (u : View Q). HasTicket n u.stage) (sym p.1) ta) tb))
      (at_set vs id k w b kb))
      (λ (p : (j ≢ id) × (get_elem? vs j ≡ some a)). ⊎_elim
      (λ (q : (k ≡ id) × (w ≡ b)). absurd (mine j n a p.0 p.1 (subst (λ (u : View Q). HasTicket n u.stage) (sym q.1) tb) ta))
      (λ (q : (k ≢ id) × (get_elem? vs k ≡ some b)). old j k n a b p.1 q.1 ta tb)
      (at_set vs id k w b kb))
      (at_set vs id j w a ja)

  -- a ticket stays with a seat, where the one that changes keeps it
  pub ticket_after : (vs : List (View Q)) (id : ℕ) (v w : View Q) (n : ℕ) → get_elem? vs id ≡ some v → (HasTicket n v.stage → HasTicket n w.stage) → TicketAt vs n → TicketAt (set vs id w) n
  ticket_after vs id v w n at keep h = dite (ℕ_discrete h.0 id)
      (λ e. let same : v ≡ h.1 = one_at vs id h.0 v h.1 at h.2 e in
      (id, w, set_here vs id w (some_inside vs id v at), keep (subst (λ (u : View Q). HasTicket n u.stage) (sym same) h.3)))
      (λ ne. (h.0, h.1, set_else vs id h.0 w ne ∙ h.2, h.3))

  pub few_after : (vs : List (View Q)) (id : ℕ) (w : View Q) → length vs ≤ 2 ^ 63 + 1 → length (set vs id w) ≤ 2 ^ 63 + 1
  few_after vs id w h = rw length-set h

  pub made_after : (vs : List (View Q)) (id : ℕ) (w : View Q) (P : ℕ → Type 0) → ((j : ℕ) → length vs ≤ j → P j) → (j : ℕ) → length (set vs id w) ≤ j → P j
  made_after vs id w P h j le = h j (omega (arith, length-set vs id w))

  -- the seat that has the slot is another than the one that steps
  pub held_after : (vs : List (View Q)) (id : ℕ) (v w : View Q) (log : List (Mark Q)) → get_elem? vs id ≡ some v → (v.stage ≡ Holding (length log) → ⊥)
      → (j : ℕ) → HolderAt log vs j → HolderAt log (set vs id w) j
  held_after vs id v w log at not j h = dite (ℕ_discrete j id)
      (λ e. let same : v ≡ h.0 = one_at vs id j v h.0 at h.1 e in absurd (not (ap (λ (u : View Q). u.stage) same ∙ h.2)))
      (λ ne. (h.0, set_else vs id j w ne ∙ h.1, h.2))

  -- the seat that has the slot has it still
  pub still_held : (vs : List (View Q)) (id : ℕ) (v w : View Q) (log : List (Mark Q)) → get_elem? vs id ≡ some v → w.stage ≡ v.stage
      → (j : ℕ) → HolderAt log vs j → HolderAt log (set vs id w) j
  still_held vs id v w log at same j h = dite (ℕ_discrete j id)
      (λ e. let one : v ≡ h.0 = one_at vs id j v h.0 at h.1 e in
      (w, subst (λ (i : ℕ). get_elem? (set vs id w) i ≡ some w) (sym e) (set_here vs id w (some_inside vs id v at)), same ∙ (ap (λ (u : View Q). u.stage) one ∙ h.2)))
      (λ ne. (h.0, set_else vs id j w ne ∙ h.1, h.2))

  abbrev pub AllSeen : List (Mark Q) → List (View Q) → Type 0
  AllSeen log vs = (j : ℕ) × (v : View Q) × (get_elem? vs j ≡ some v) × (v.spent ≡ false) × (v.seen ≡ log)

  pub all_seen_after : (log : List (Mark Q)) (vs : List (View Q)) (id : ℕ) (v w : View Q) → get_elem? vs id ≡ some v → w.spent ≡ false → (v.seen ≡ log → w.seen ≡ log) → AllSeen log vs → AllSeen log (set vs id w)
  all_seen_after log vs id v w at alive keep h = dite (ℕ_discrete h.0 id)
      (λ e. let same : v ≡ h.1 = one_at vs id h.0 v h.1 at h.2 e in
      (id, w, set_here vs id w (some_inside vs id v at), alive, keep (ap (λ (u : View Q). u.seen) same ∙ h.4)))
      (λ ne. (h.0, h.1, set_else vs id h.0 w ne ∙ h.2, h.3, h.4))

  pub all_seen_here : (log : List (Mark Q)) (vs : List (View Q)) (id : ℕ) (v w : View Q) → get_elem? vs id ≡ some v → w.spent ≡ false → w.seen ≡ log → AllSeen log (set vs id w)
  all_seen_here log vs id v w at alive seen = (id, w, set_here vs id w (some_inside vs id v at), alive, seen)

  abbrev pub IsSpentAt : List (View Q) → ℕ → Type 0
  IsSpentAt vs n = (u : View Q) × (get_elem? vs n ≡ some u) × (u.spent ≡ true)

  not_live : (vs : List (View Q)) (id n : ℕ) (v : View Q) → get_elem? vs id ≡ some v → v.spent ≡ false → IsSpentAt vs n → n ≢ id
  not_live vs id n v at live h e =
      let same : v ≡ h.0 = one_at vs id n v h.0 at h.1 e in
      let bad : false ≡ true = sym live ∙ (ap (λ (u : View Q). u.spent) same ∙ h.2) in
      cc

  pub ended_after : (log log' : List (Mark Q)) (vs : List (View Q)) (id : ℕ) (v w : View Q) → get_elem? vs id ≡ some v → v.spent ≡ false
      → ((n : ℕ) → n ≢ id → turns_by n log' ≡ turns_by n log) → (gs : List (Joined Q)) → Ended log vs gs → Ended log' (set vs id w) gs
  ended_after log log' vs id v w at live same [] h = tt
  ended_after log log' vs id v w at live same (g ∷ gs) h =
      let ne = not_live vs id g.number v at live h.1 in
      (same g.number ne ∙ h.0, (h.1.0, set_else vs id g.number w ne ∙ h.1.1, h.1.2), ended_after log log' vs id v w at live same gs h.2)

  pub ended_longer : (log : List (Mark Q)) (vs : List (View Q)) (u : View Q) (gs : List (Joined Q)) → Ended log vs gs → Ended log (vs ++ u ∷ []) gs
  ended_longer log vs u [] h = tt
  ended_longer log vs u (g ∷ gs) h = (h.0, (h.1.0, at_longer vs (u ∷ []) g.number h.1.0 h.1.1, h.1.2), ended_longer log vs u gs h.2)

  pub ended_snoc : (log : List (Mark Q)) (vs : List (View Q)) (gs : List (Joined Q)) (g : Joined Q) → turns_by g.number log ≡ g.own → IsSpentAt vs g.number → Ended log vs gs → Ended log vs (gs ++ g ∷ [])
  ended_snoc log vs [] g own at h = (own, at, tt)
  ended_snoc log vs (x ∷ xs) g own at h = (h.0, h.1, ended_snoc log vs xs g own at h.2)

  pub WasJoined-snoc : (k : ℕ) (gs : List (Joined Q)) (g : Joined Q) → WasJoined k gs → WasJoined k (gs ++ g ∷ [])
  WasJoined-snoc k [] g h = absurd h
  WasJoined-snoc k (x ∷ xs) g h = ⊎_elim (λ (t : x.number ≡ k). inl t) (λ (t : WasJoined k xs). inr (WasJoined-snoc k xs g t)) h

  pub WasJoined-last : (k : ℕ) (gs : List (Joined Q)) (g : Joined Q) → g.number ≡ k → WasJoined k (gs ++ g ∷ [])
  WasJoined-last k [] g e = inl e
  WasJoined-last k (x ∷ xs) g e = inr (WasJoined-last k xs g e)

  abbrev pub EachSpent : List (View Q) → List (Joined Q) → Type 0
  EachSpent vs gs = (k : ℕ) (u : View Q) → get_elem? vs k ≡ some u → u.spent ≡ true → WasJoined k gs

  abbrev pub Hosts : List (Mark Q) → List ℕ → List (View Q) → Type 0
  Hosts log tags vs = (j : ℕ) (v : View Q) → get_elem? vs j ≡ some v → v.host ≡ true → HostKnows log tags vs j v

  -- a live seat that becomes another live seat spends none
  pub each_spent_after : (vs : List (View Q)) (id : ℕ) (w : View Q) (gs : List (Joined Q)) → w.spent ≡ false → EachSpent vs gs → EachSpent (set vs id w) gs
  each_spent_after vs id w gs alive old = each_after (λ k u. u.spent ≡ true → WasJoined k gs) vs id w (λ e. absurd (let b : false ≡ true = sym alive ∙ e in cc)) (λ k u _ at e. old k u at e)

  -- a step of one seat that sees more and keeps the rest
  pub host_after : (log log' : List (Mark Q)) (tags : List ℕ) (vs : List (View Q)) (id : ℕ) (v w : View Q) → get_elem? vs id ≡ some v → v.spent ≡ false → w.spent ≡ false
      → ((n : ℕ) → n ≢ id → turns_by n log' ≡ turns_by n log) → (v.host ≡ w.host) × (v.made ≡ w.made) × (v.tags ≡ w.tags) × (v.joined ≡ w.joined) × (v.gone ≡ w.gone)
      → (StartsWith v.seen v.had → StartsWith w.seen w.had) → (StartsWith v.seen v.brought → StartsWith w.seen w.brought) → Hosts log tags vs → Hosts log' tags (set vs id w)
  host_after log log' tags vs id v w at live alive same kept had brought old =
      let still : spent_ones (set vs id w) ≡ spent_ones vs = omega (arith, spent_set vs id v w at, live_zero v live, live_zero w alive) in
      let long : length (set vs id w) ≡ length vs = length-set vs id w in
      each_after (λ j u. u.host ≡ true → HostKnows log' tags (set vs id w) j u) vs id w
      (λ h. let o = old id v at (kept.0 ∙ h) in record {
        first = o.first;
        made = (let m = kept.1 in let n = o.made in omega arith);
        tags_are = sym kept.2 ∙ o.tags_are;
        joined = sym kept.3 ∙ (o.joined ∙ sym still);
        gone = subst (Ended log' (set vs id w)) kept.4 (ended_after log log' vs id v w at live same v.gone o.gone);
        each_spent = subst (EachSpent (set vs id w)) kept.4 (each_spent_after vs id w v.gone alive o.each_spent);
        had = had o.had;
        brought = brought o.brought;
      })
      (λ j u _ e h. let o = old j u e h in record {
        first = o.first;
        made = o.made ∙ sym long;
        tags_are = o.tags_are;
        joined = o.joined ∙ sym still;
        gone = ended_after log log' vs id v w at live same u.gone o.gone;
        each_spent = each_spent_after vs id w u.gone alive o.each_spent;
        had = o.had;
        brought = o.brought;
      })

  spent_le : (v : View Q) → spent_one v ≤ 1
  spent_le v = elim v.spent as (λ t. (if t then 1 else 0) ≤ 1) [ true ↦ omega arith | false ↦ omega arith ]

  spent_all : (vs : List (View Q)) → spent_ones vs ≤ length vs
  spent_all [] = omega arith
  spent_all (x ∷ xs) = omega (arith, spent_all xs, spent_le x)

  one_live : (vs : List (View Q)) (i : ℕ) (v : View Q) → get_elem? vs i ≡ some v → v.spent ≡ false → spent_ones vs + 1 ≤ length vs
  one_live [] i v e live = absurd (cc)
  one_live (x ∷ xs) zero v e live = let same : x ≡ v = cc in let t = ap spent_one same in omega (arith, live_zero v live, spent_all xs)
  one_live (x ∷ xs) (suc i) v e live = omega (arith, one_live xs i v e live, spent_le x)

  pub two_live : (vs : List (View Q)) (i k : ℕ) (v u : View Q) → i ≢ k → get_elem? vs i ≡ some v → v.spent ≡ false → get_elem? vs k ≡ some u → u.spent ≡ false → spent_ones vs + 2 ≤ length vs
  two_live [] i k v u ne e live f alive = absurd (cc)
  two_live (x ∷ xs) zero zero v u ne e live f alive = absurd (ne refl)
  two_live (x ∷ xs) zero (suc k) v u ne e live f alive = let same : x ≡ v = cc in let t = ap spent_one same in omega (arith, live_zero v live, one_live xs k u f alive)
  two_live (x ∷ xs) (suc i) zero v u ne e live f alive = let same : x ≡ u = cc in let t = ap spent_one same in omega (arith, live_zero u alive, one_live xs i v e live)
  two_live (x ∷ xs) (suc i) (suc k) v u ne e live f alive = omega (arith, spent_le x, two_live xs i k v u (λ t. ne (ap suc t)) e live f alive)

  pub Tagged-longer : (tag : Q → ℕ) (tags : List ℕ) (t : ℕ) (xs : List (Mark Q)) → Tagged tag tags xs → Tagged tag (tags ++ t ∷ []) xs
  Tagged-longer tag tags t [] h = tt
  Tagged-longer tag tags t (x ∷ xs) h = (at_longer tags (t ∷ []) x.by (tag x.turn) h.0, Tagged-longer tag tags t xs h.1)
