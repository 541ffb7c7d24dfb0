-- Once the host joined each seat that it made, no other seat lives, and the value is at home.
use Rattle.std.proofs.Common.{◌≡◌, ◌≢◌, ℕ, zero, suc, Bool, ◌<◌, ◌≤◌, true, false, List, [], ◌∷◌, length, sym, refl, ap, ◌∙◌, subst, arith}
use Rattle.std.specs.Prelude.{Option, Some}
use mathlib.Core.Option.{some, some-injective}
use mathlib.Core.Logic.{dite}
use native.Mathlib.Decide.{ℕ_discrete}
use lib.ListN.{get_elem?}
use Rattle.atomic_table.specs.Seated.{TableId}
use Rattle.atomic_table.specs.Table.{State, Me, Final, Seen}
use Rattle.counted_lock.specs.declared.known.View.{View}
use Rattle.counted_lock.specs.declared.known.Joined.{Joined}
use Rattle.counted_lock.specs.declared.known.Stage.TheVariants.{Idle, Holding}
use Rattle.counted_lock.specs.Turns.{turns_of, turns_by, turns_with, Tagged, HasTurnsOf, WasJoined}
use Rattle.counted_lock.specs.Rule.{Home, Kept, Ended}
use Rattle.counted_lock.specs.Held.{Held, held_of, AtRest}
use Rattle.counted_lock.proofs.Marks.{turns_with-is_by}
use Rattle.counted_lock.proofs.Listed.{one_at, two_live}

is_at : {A : Type 0} (xs : List A) (k : ℕ) → k < length xs → (x : A) × (get_elem? xs k ≡ some x)
is_at [] k h = absurd (omega arith)
is_at (x ∷ xs) zero h = (x, refl)
is_at (x ∷ xs) (suc k) h = is_at xs k (omega arith)

module _ {T Q : Type 0} (stands : List Q → T → Type 0) (tag : Q → ℕ) where
  abbrev St : Type 0
  St = State (Option T) (View Q)

  -- what the host and the value are at the end
  record Ends (v : View Q) (homes : List (mathlib.Core.Option.Option (Option T))) : Type 0 where
    pub value : T
    pub at_home : homes ≡ some (Some value) ∷ []
    pub stood : stands (turns_of v.seen) value
    pub turns : HasTurnsOf v.seen v.gone
    pub each_seat : (n : ℕ) → 0 < n → n ≤ v.made → WasJoined n v.gone
    pub no_other : (n : ℕ) → v.made < n → turns_by n v.seen ≡ []
    pub by_tag : (n t : ℕ) → get_elem? v.tags n ≡ some t → turns_with tag t v.seen ≡ turns_by n v.seen

  module _ (s : St) (r : Kept stands tag s) (id : ℕ) (v : View Q) (at : get_elem? s.views id ≡ some v) (host : v.host ≡ true) (live : v.spent ≡ false) (idle : v.stage ≡ Idle) (all : v.joined ≡ v.made) where
    alone : (k : ℕ) (u : View Q) → k ≢ id → get_elem? s.views k ≡ some u → u.spent ≡ false → ⊥
    alone k u ne there alive =
        let own = r.host id v at host in
        let a = own.made in let b = own.joined in
        let two = two_live s.views id k v u (λ t. ne (sym t)) at live there alive in
        omega arith

    no_holder : (i : ℕ) (u : View Q) → get_elem? s.views i ≡ some u → u.stage ≡ Holding (length r.log) → (b : Bool) → u.spent ≡ b → ⊥
    no_holder i u there holding true is = let bad : Idle ≡ Holding (length r.log) = sym (r.spent i u there is).0 ∙ holding in cc
    no_holder i u there holding false is = dite (ℕ_discrete i id)
        (λ e. let bad : Idle ≡ Holding (length r.log) = sym idle ∙ (ap (λ (z : View Q). z.stage) (one_at s.views id i v u at there e) ∙ holding) in cc)
        (λ ne. alone i u ne there is)

    seen_all : v.seen ≡ r.log
    seen_all = let h = r.all_seen in dite (ℕ_discrete h.0 id)
        (λ e. ap (λ (z : View Q). z.seen) (one_at s.views id h.0 v h.1 at h.2 e) ∙ h.4)
        (λ ne. absurd (alone h.0 h.1 ne h.2 h.3))

    home_is : (h : ℕ) → r.holder ≡ h → (x : T) × (s.homes ≡ some (Some x) ∷ []) × stands (turns_of v.seen) x
    home_is zero is = let home = subst (λ (k : ℕ). Home stands k r.log s.homes) is r.home in (home.0, home.1, subst (λ l. stands (turns_of l) home.0) (sym seen_all) home.2)
    home_is (suc i) is = let h = r.held i is in absurd (no_holder i h.0 h.1 h.2 h.0.spent refl)

    turns_are : (gs : List (Joined Q)) → Ended r.log s.views gs → HasTurnsOf v.seen gs
    turns_are [] h = tt
    turns_are (g ∷ gs) h = (ap (turns_by g.number) seen_all ∙ h.0, turns_are gs h.2)

    was_joined : (n : ℕ) → n ≢ id → n < length s.views → WasJoined n v.gone
    was_joined n ne inside = let u = is_at s.views n inside in by_test u.0 u.1 u.0.spent refl
      where
        by_test : (u : View Q) → get_elem? s.views n ≡ some u → (b : Bool) → u.spent ≡ b → WasJoined n v.gone
        by_test u there true is = (r.host id v at host).each_spent n u there is
        by_test u there false is = absurd (alone n u ne there is)

    ends : Ends v s.homes
    ends =
        let own = r.host id v at host in
        let home = home_is r.holder refl in
        let count = own.made in
        let first = own.first in record {
          value = home.0;
          at_home = home.1;
          stood = home.2;
          turns = turns_are v.gone own.gone;
          each_seat = λ n low high. was_joined n (λ e. omega arith) (omega arith);
          no_other = λ n more. ap (turns_by n) seen_all ∙ r.made n (omega arith);
          by_tag = λ n t e. turns_with-is_by tag r.tags n t r.tags_differ (ap (λ ts. get_elem? ts n) (sym own.tags_are) ∙ e) v.seen (subst (Tagged tag r.tags) (sym seen_all) r.tagged);
        }

  -- what is known of the host and of the value that is taken out of the slot at the end
  pub record Closed (h : Held Q) (found : Option T) : Type 0 where
    pub value : T
    pub found_is : found ≡ Some value
    pub stood : stands (turns_of h.seen) value
    pub turns : HasTurnsOf h.seen h.gone
    pub each_seat : (n : ℕ) → 0 < n → n ≤ h.made → WasJoined n h.gone
    pub no_other : (n : ℕ) → h.made < n → turns_by n h.seen ≡ []
    pub by_tag : (n t : ℕ) → get_elem? h.tags n ≡ some t → turns_with tag t h.seen ≡ turns_by n h.seen

  closed_view : (lock : TableId) (ws : List ℕ) (xs : List (Option T)) (id : ℕ) (v : View Q) → Final (Seen (Kept stands tag) id v) ws xs → v.host ≡ true → v.spent ≡ false → v.stage ≡ Idle → v.joined ≡ v.made
      → (found : Option T) → get_elem? xs 0 ≡ some found → Closed (held_of lock v) found
  closed_view lock ws xs id v f host live idle all found at =
      let e = ends f.0 f.1.0 id v f.1.1 host live idle all in
      let there : get_elem? xs 0 ≡ some (Some e.value) = f.4 0 (Some e.value) (ap (λ hs. get_elem? hs 0) e.at_home) in record {
        value = e.value;
        found_is = some-injective _ _ (sym at ∙ there);
        stood = e.stood;
        turns = e.turns;
        each_seat = e.each_seat;
        no_other = e.no_other;
        by_tag = e.by_tag;
      }

  pub closes : (lock : TableId) (ws : List ℕ) (xs : List (Option T)) (id : ℕ) (me : Me (Option T) (View Q)) (h : Held Q) → held_of lock me.0 ≡ h → AtRest tag me → h.host ≡ true → h.joined ≡ h.made
      → Final (Seen (Kept stands tag) id me.0) ws xs → (found : Option T) → get_elem? xs 0 ≡ some found → Closed h found
  closes lock ws xs id me h is rests host all f found at =
      subst (λ z. Closed z found) is
      (closed_view lock ws xs id me.0 f (ap (λ z. z.host) is ∙ host) rests.live rests.no_ticket (ap (λ z. z.joined) is ∙ (all ∙ sym (ap (λ z. z.made) is))) found at)
