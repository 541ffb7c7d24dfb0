-- From the numbers to the fitness of the first letters.
use Rattle.std.proofs.Common.{◌≡◌, ℕ, ◌+◌, ◌≤◌, Bool, true, false, List, [], ◌∷◌, arith, refl, ap}
use Rattle.move_laws.specs.World.{Kinds, Client, Conn, Desk, ToDesk, Ask, Returned, ToChooser, Choice, ToConn, Forward, Drop, ToClient, Reply, Failed, Report, Ended, IsUp, IsRetired, IsDown, at}
use Rattle.move_laws.specs.Counts.{num, asks, returns, choices, gos, mores, endeds, ups, retireds, DropsLast, FlagsOrdered}
use Rattle.move_laws.specs.Agree.{AskingOf, RoutedOf, same, FittingOf, FlaggedOf}
use Rattle.move_laws.specs.Fit.{FitChoice, FitAnswer, FitAsk, FitReport}
use Rattle.move_laws.proofs.Appends.{num_le, num_true, same_self}

pub num_false : (b : Bool) → num b ≡ 0 → b ≡ false
num_false true e = absurd (omega arith)
num_false false e = refl

-- a fact that something waits
must : (b : Bool) (n : ℕ) → 1 ≤ n → (num b ≡ 0 → n ≡ 0) → b ≡ true
must true n l z = refl
must false n l z = let bad = z refl in absurd (omega arith)

must_not : (b : Bool) (n : ℕ) → 1 ≤ n → (num b ≡ 1 → n ≡ 0) → b ≡ false
must_not true n l z = let bad = z refl in absurd (omega arith)
must_not false n l z = refl

alike_same : (a b : Bool) → same a b ≡ true → a ≡ b
alike_same true true e = refl
alike_same true false e = absurd (cc)
alike_same false true e = absurd (cc)
alike_same false false e = refl

not_zero : (s n : ℕ) → s ≤ 1 → 1 ≤ n → (s ≡ 0 → n ≡ 0) → s ≡ 1
not_zero s n l o z = grind arith

-- kinds agree where something of them waits or was given
pub kinds_agree : (kinds : Kinds) (c k u : ℕ) (x : Client) (qc : List ToChooser) → FittingOf kinds c k u x qc → 1 ≤ gos k u qc + num (at (x.given k) u) → kinds.bind_conn u ≡ kinds.bind_op c k
kinds_agree kinds c k u x qc f l = alike_same (kinds.bind_conn u) (kinds.bind_op c k) (num_true _ (not_zero _ _ (num_le (same (kinds.bind_conn u) (kinds.bind_op c k))) l f.kind))

pub fit_choice : (kinds : Kinds) (c : ℕ) (x : Client) (t : ℕ → ℕ) (q : ℕ → ℕ) (ls : List ToChooser) → ((k : ℕ) → AskingOf k x (q k) (t k) (choices k ls)) → ((k u : ℕ) → FittingOf kinds c k u x ls) → FitChoice kinds c x ls
fit_choice kinds c x t q [] h f = tt
fit_choice kinds c x t q (Choice k a ∷ ls) h f =
    let p = h k in
    let one = ap num (same_self k) in (
      num_true (x.asked k) (omega (arith, num_le (x.asked k))),
      num_false (x.chosen k) (omega (arith, num_le (x.asked k))),
      λ u e. kinds_agree kinds c k u x (Choice k a ∷ ls) (f k u) (rw (same_self k, e) (omega arith)),
    )

pub fit_answer : (c u : ℕ) (x : Client) (v : Conn) (q : List ToConn) (ls : List ToClient) → ((k : ℕ) → RoutedOf c k u x v q ls) → FitAnswer u x ls
fit_answer c u x v q [] h = tt
fit_answer c u x v q (Reply k true stay ∷ ls) h =
    let p = h k in
    let one = ap num (same_self k) in
    (num_true (at (x.given k) u) (omega (arith, num_le (at (x.given k) u))), num_false (x.closed k u) (omega (arith, num_le (v.taken c k))))
fit_answer c u x v q (Reply k false stay ∷ ls) h =
    let p = h k in
    let one = ap num (same_self k) in
    let was = ap num (must (v.taken c k) (mores k (Reply k false stay ∷ ls)) (omega arith) p.after) in
    (num_true (at (x.given k) u) (omega (arith, num_le (at (x.given k) u))), must_not (x.closed k u) (mores k (Reply k false stay ∷ ls)) (omega arith) p.over)
fit_answer c u x v q (Failed k ∷ ls) h =
    let p = h k in
    let one = ap num (same_self k) in
    (num_true (at (x.given k) u) (omega (arith, num_le (at (x.given k) u))), num_false (x.closed k u) (omega (arith, num_le (v.taken c k))))

pub fit_drop : (c k u : ℕ) (x : Client) (v : Conn) (ls : List ToConn) (r : List ToClient) → RoutedOf c k u x v (Drop k ∷ ls) r → DropsLast k (Drop k ∷ ls) → (v.taken c k ≡ true) × (v.dropped c k ≡ false)
fit_drop c k u x v ls r p o =
    let one = ap num (same_self k) in
    let none = o.0 one in
    (num_true (v.taken c k) (omega (arith, num_le (at (x.given k) u), num_le (v.taken c k))), num_false (v.dropped c k) (omega (arith, num_le (at (x.given k) u))))

pub fit_forward : (c k h u : ℕ) (x : Client) (v : Conn) (ls : List ToConn) (r : List ToClient) → RoutedOf c k u x v (Forward k h ∷ ls) r → (v.taken c k ≡ false) × (at (x.given k) u ≡ true)
fit_forward c k h u x v ls r p =
    let one = ap num (same_self k) in
    (num_false (v.taken c k) (omega (arith, num_le (at (x.given k) u))), num_true (at (x.given k) u) (omega (arith, num_le (at (x.given k) u))))

pub fit_report : (u : ℕ) (v : Conn) (d : Desk) (ls : List Report) → ((c k : ℕ) → num (d.pending c k u) ≡ 0 → endeds c k ls ≡ 0) → FlaggedOf u v d ls → FlagsOrdered ls → FitReport u d ls
fit_report u v d [] h f o = tt
fit_report u v d (Ended c k ∷ ls) h f o = let one = ap num (same_self c) in must (d.pending c k u) (endeds c k (Ended c k ∷ ls)) (rw (same_self c, same_self k) (omega arith)) (h c k)
fit_report u v d (IsUp ∷ ls) h f o = (
  num_false (d.up u) (omega (arith, num_le v.up)),
  must_not (d.retired u) (ups (IsUp ∷ ls)) (omega arith) (λ e. f.up_first (omega arith)),
  must_not (d.down u) (ups (IsUp ∷ ls)) (omega arith) (λ e. f.up_first (omega arith)),
)
fit_report u v d (IsRetired ∷ ls) h f o = (num_false (d.retired u) (omega (arith, num_le v.retired)), must_not (d.down u) (retireds (IsRetired ∷ ls)) (omega arith) (λ e. f.down_last (omega arith)))
fit_report u v d (IsDown ∷ ls) h f o = num_false (d.down u) (omega (arith, num_le v.down))

pub fit_ask : (c : ℕ) (d : Desk) (asked : ℕ → Bool) (ls : List ToDesk) → ((k : ℕ) → num (asked k) ≡ asks k ls + num (d.took c k)) → ((k u : ℕ) → num (d.pending c k u) ≡ 0 → returns k u ls ≡ 0) → FitAsk c d ls
fit_ask c d asked [] h f = tt
fit_ask c d asked (Ask k ∷ ls) h f = let e = h k in let one = ap num (same_self k) in num_false (d.took c k) (omega (arith, num_le (asked k)))
fit_ask c d asked (Returned k u ∷ ls) h f = must (d.pending c k u) (returns k u (Returned k u ∷ ls)) (rw (same_self k, same_self u) (omega arith)) (f k u)
