-- What the desk is asked for, where a choice comes and where it is asked more.
use Rattle.std.proofs.Common.{◌≡◌, ◌≤◌, ◌<◌, ◌+◌, ◌-◌, ℕ, suc, Bool, true, false, not, ◌==◌, ◌&&◌, ◌||◌, cond, if◌then◌else◌, List, [], ◌∷◌, ◌++◌, filter, length, arith, refl, ap, sym, ◌∙◌}
use Rattle.std.proofs.lemmas.Bool.Decides.{nat_tests}
use Rattle.std.specs.Prelude.{nat_le}
use Rattle.std.specs.List.{list_any, list_all}
use Rattle.lload_names.specs.Same.{same_op}
use Rattle.lload_names.specs.declared.names.OpName.{OpName}
use Rattle.lload_spec.specs.Settings.{Settings}
use Rattle.part_spec.specs.ClientState.{AskedFor, ClientState}
use Rattle.client_session.specs.Choices.{chosen_asked, with_chosen}
use Rattle.client_session.specs.Fit.{is_asked}
use Rattle.client_session.specs.Stands.{Asks, Stands}
use Rattle.client_session.specs.declared.part.ClientPart.{ClientPart}

module _ {A : Type 0} (t : A → Bool) where
  count-not : (xs : List A) → length (filter (λ x. not (t x)) xs) + length (filter t xs) ≡ length xs
  count-not [] = omega arith
  count-not (x ∷ xs) = grind (arith, count-not xs)

  count-some : (xs : List A) → list_any t xs ≡ true → 1 ≤ length (filter t xs)
  count-some [] e = absurd (let bad : false ≡ true = e in cc)
  count-some (x ∷ xs) e = by (t x) e (count-some xs)
    where
      by : (b : Bool) → (b || list_any t xs) ≡ true → (list_any t xs ≡ true → 1 ≤ length (filter t xs)) → 1 ≤ length (cond b (x ∷ filter t xs) (filter t xs))
      by true f ih = omega arith
      by false f ih = ih f

  all-filter : (q : A → Bool) (xs : List A) → list_all t xs ≡ true → list_all t (filter q xs) ≡ true
  all-filter q [] e = refl
  all-filter q (x ∷ xs) e = by (q x) (t x) refl e (all-filter q xs)
    where
      by : (b c : Bool) → t x ≡ c → (c && list_all t xs) ≡ true → (list_all t xs ≡ true → list_all t (filter q xs) ≡ true) → list_all t (cond b (x ∷ filter q xs) (filter q xs)) ≡ true
      by true true f g ih = rw f (ih g)
      by false true f g ih = ih g
      by b false f g ih = absurd (let bad : false ≡ true = g in cc)

  fewer : (q : A → Bool) (xs : List A) → length (filter t (filter q xs)) ≤ length (filter t xs)
  fewer q [] = omega arith
  fewer q (x ∷ xs) = by (q x) (t x) refl (fewer q xs)
    where
      by : (b c : Bool) → t x ≡ c → length (filter t (filter q xs)) ≤ length (filter t xs) → length (filter t (cond b (x ∷ filter q xs) (filter q xs))) ≤ length (cond c (x ∷ filter t xs) (filter t xs))
      by true true f ih = rw f (omega (arith, ih))
      by true false f ih = rw f ih
      by false true f ih = omega (arith, ih)
      by false false f ih = ih

-- a choice came
pub asks-chosen : (n c : ℕ) (op : OpName) (asked : List AskedFor) (many : ℕ) → is_asked op asked ≡ true → Asks n c asked many → Asks n c (chosen_asked op asked) (many - 1)
asks-chosen n c op asked many e h =
    let t : AskedFor → Bool = λ a. same_op op a.op in
    let all = count-not t asked in
    let one = h.once op in
    let some = count-some t asked e in
    record {
      many_are = omega (arith, h.many_are, all, one, some);
      own = all-filter (λ a. a.op.client == n && nat_le a.op.k c) (λ a. not (same_op op a.op)) asked h.own;
      once = λ other. let less = fewer (λ a. same_op other a.op) (λ a. not (same_op op a.op)) asked in let was = h.once other in omega (arith, less, was);
    }

pub stands-chosen : (s : Settings) (at : ℕ) (op : OpName) (p : ClientState) (d : ClientPart) → is_asked op p.asked ≡ true → Stands s p d → Stands s (with_chosen at op p) (record d { moment = at; asked = d.asked - 1 })
stands-chosen s at op p d e h = record {
  settings = h.settings;
  number = h.number;
  moment = refl;
  arrived = h.arrived;
  gone = h.gone;
  live = h.live;
  asks = asks-chosen p.number p.count op p.asked d.asked e h.asks;
  identity = h.identity;
  in_exchange = h.in_exchange;
  hold = h.hold;
  binds = h.binds;
  stalled = h.stalled;
  paused = h.paused;
  idle = h.idle;
  room = h.room;
}

-- more operations came
nat-more : (k c : ℕ) → nat_le k c ≡ true → nat_le k (suc c) ≡ true
nat-more k c e = grind (arith, nat_tests, e)

pub own-more : (n c : ℕ) (asked : List AskedFor) → list_all (λ a. a.op.client == n && nat_le a.op.k c) asked ≡ true → list_all (λ a. a.op.client == n && nat_le a.op.k (suc c)) asked ≡ true
own-more n c [] e = refl
own-more n c (a ∷ asked) e = by (a.op.client == n) (nat_le a.op.k c) refl e (own-more n c asked)
  where
    by : (b d : Bool) → nat_le a.op.k c ≡ d → ((b && d) && list_all (λ a. a.op.client == n && nat_le a.op.k c) asked) ≡ true → (list_all (λ a. a.op.client == n && nat_le a.op.k c) asked ≡ true → list_all (λ a. a.op.client == n && nat_le a.op.k (suc c)) asked ≡ true) → ((b && nat_le a.op.k (suc c)) && list_all (λ a. a.op.client == n && nat_le a.op.k (suc c)) asked) ≡ true
    by true true f g ih = rw (nat-more a.op.k c f) (ih g)
    by true false f g ih = absurd (let bad : false ≡ true = g in cc)
    by false d f g ih = absurd (let bad : false ≡ true = g in cc)

pub asks-more : (n c : ℕ) (asked : List AskedFor) (many : ℕ) → Asks n c asked many → Asks n (suc c) asked many
asks-more n c asked many h = record { many_are = h.many_are; own = own-more n c asked h.own; once = h.once }
