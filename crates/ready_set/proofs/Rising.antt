-- Numbers that rise by one, in turn.
use Rattle.std.proofs.Common.{◌≡◌, ◌≢◌, ℕ, zero, suc, ◌+◌, ◌-◌, ◌<◌, ◌≤◌, Bool, true, false, ◌==◌, List, [], ◌∷◌, ◌++◌, filter, Option, Some, None, refl, ap, ◌∙◌, arith, append_assoc}
use Rattle.std.proofs.lemmas.Bool.Decides.{nat_tests}
use Rattle.lload_spec.specs.Settings.{Settings, place_index}
use Rattle.lload_spec.specs.Choice.{greatest, first_at}
use Rattle.lload_spec.specs.Picks.{rising, in_turn, from_successor}

-- what comes from the successor of a number, and then the numbers up to it
successor_rising : (c i n : ℕ) (before : List ℕ) → i ≤ c → c < i + n → from_successor (λ x. x == c) before (rising i n) ≡ rising (c + 1) (i + n - (c + 1)) ++ (before ++ rising i (c + 1 - i))
successor_rising c i zero before h k = absurd (omega arith)
successor_rising c i (suc n) before h k = successor_step c i n before h (i == c) refl (λ l. successor_rising c (suc i) n (before ++ i ∷ []) l (omega arith))
  where
    successor_step : (c i n : ℕ) (before : List ℕ) → i ≤ c → (b : Bool) → (i == c) ≡ b → (suc i ≤ c → from_successor (λ x. x == c) (before ++ i ∷ []) (rising (suc i) n) ≡ rising (c + 1) (suc i + n - (c + 1)) ++ ((before ++ i ∷ []) ++ rising (suc i) (c + 1 - suc i))) → from_successor (λ x. x == c) before (rising i (suc n)) ≡ rising (c + 1) (i + suc n - (c + 1)) ++ (before ++ rising i (c + 1 - i))
    successor_step c i n before h true e next =
        let same : i ≡ c = grind (arith, nat_tests, e) in
        let one : c + 1 - i ≡ suc zero = omega arith in
        let rest : i + suc n - (c + 1) ≡ n = omega arith in
        let from : c + 1 ≡ suc i = omega arith in
        rw (e, from_successor) (rw (one, rest, from) refl)
    successor_step c i n before h false e next =
        let differ : i ≢ c = grind (arith, nat_tests, e) in
        let more : c + 1 - i ≡ suc (c + 1 - suc i) = omega arith in
        let rest : i + suc n - (c + 1) ≡ suc i + n - (c + 1) = omega arith in
        rw (e, from_successor) (rw (more, rest) (next (omega arith) ∙ ap (λ xs. rising (c + 1) (suc i + n - (c + 1)) ++ xs) (append_assoc before (i ∷ []) (rising (suc i) (c + 1 - suc i)))))

in-turn : (c from to : ℕ) → from ≤ c → c < to → in_turn (λ i. i) (Some c) (rising from (to - from)) ≡ rising (c + 1) (to - (c + 1)) ++ rising from (c + 1 - from)
in-turn c from to l u =
    let e : from + (to - from) - (c + 1) ≡ to - (c + 1) = omega (arith, l, u) in
    successor_rising c from (to - from) [] l (omega (arith, l, u)) ∙ ap (λ n. rising (c + 1) n ++ rising from (c + 1 - from)) e

head-some : (o : Option ℕ) (x y : Option ℕ) (n : ℕ) → (x ≡ Some n → y ≡ Some n) → elim o [ Some m ↦ Some m | None ↦ x ] ≡ Some n → elim o [ Some m ↦ Some m | None ↦ y ] ≡ Some n
head-some None x y n f e = f e
head-some (Some m) x y n f e = e

head-none : (o : Option ℕ) (x y z : Option ℕ) → (x ≡ None → y ≡ z) → ◌≡◌ {A = Option ℕ} (elim o [ Some m ↦ Some m | None ↦ x ]) None → ◌≡◌ {A = Option ℕ} (elim o [ Some m ↦ Some m | None ↦ y ]) z
head-none None x y z f e = f e
head-none (Some m) x y z f e = absurd (let bad : ◌≡◌ {A = Option ℕ} (Some m) None = e in cc)

then-some : (s : Settings) (among is js : List ℕ) (n : ℕ) → first_at s among is ≡ Some n → first_at s among (is ++ js) ≡ Some n
then-some s among [] js n e = absurd (let bad : ◌≡◌ {A = Option ℕ} None (Some n) = e in cc)
then-some s among (i ∷ is) js n e = head-some (greatest (filter (λ n. place_index s n == i) among)) (first_at s among is) (first_at s among (is ++ js)) n (then-some s among is js n) e

then-none : (s : Settings) (among is js : List ℕ) → first_at s among is ≡ None → first_at s among (is ++ js) ≡ first_at s among js
then-none s among [] js e = refl
then-none s among (i ∷ is) js e = head-none (greatest (filter (λ n. place_index s n == i) among)) (first_at s among is) (first_at s among (is ++ js)) (first_at s among js) (then-none s among is js) e

pub turn-some : (s : Settings) (among : List ℕ) (c from to n : ℕ) → from ≤ c → c < to → first_at s among (rising (c + 1) (to - (c + 1))) ≡ Some n → first_at s among (in_turn (λ i. i) (Some c) (rising from (to - from))) ≡ Some n
turn-some s among c from to n l u e = ap (first_at s among) (in-turn c from to l u) ∙ then-some s among _ (rising from (c + 1 - from)) n e

pub turn-none : (s : Settings) (among : List ℕ) (c from to : ℕ) → from ≤ c → c < to → first_at s among (rising (c + 1) (to - (c + 1))) ≡ None → first_at s among (in_turn (λ i. i) (Some c) (rising from (to - from))) ≡ first_at s among (rising from (c + 1 - from))
turn-none s among c from to l u e = ap (first_at s among) (in-turn c from to l u) ∙ then-none s among (rising (c + 1) (to - (c + 1))) (rising from (c + 1 - from)) e
