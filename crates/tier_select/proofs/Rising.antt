-- Numbers that rise by one, and the first of them in turn that passes a test.
use Rattle.std.proofs.Common.{◌≡◌, ◌≢◌, ℕ, zero, suc, ◌+◌, ◌-◌, ◌<◌, ◌≤◌, Bool, true, false, ◌==◌, List, [], ◌∷◌, ◌++◌, filter, Some, refl, ap, ◌∙◌, arith, append_assoc, add-one}
use Rattle.std.proofs.lemmas.Bool.Decides.{nat_tests}
use Rattle.std.proofs.lemmas.List.Elements.{filter-append}
use Rattle.std.specs.Option.{option_or}
use Rattle.lload_spec.specs.Lists.{first}
use Rattle.lload_spec.specs.Picks.{rising, in_turn, from_successor}
use Rattle.tier_select.proofs.Firsts.{first-append}

-- what comes from the successor of a number, and then the numbers up to it
pub successor_rising : (c i n : ℕ) (before : List ℕ) → i ≤ c → c < i + n → from_successor (λ x. x == c) before (rising i n) ≡ rising (c + 1) (i + n - (c + 1)) ++ (before ++ rising i (c + 1 - i))
successor_rising c i zero before h k = absurd (omega arith)
successor_rising c i (suc n) before h k = successor_step c i n before h (i == c) refl (λ l. successor_rising c (suc i) n (before ++ i ∷ []) l (omega arith))
  where
    successor_step : (c i n : ℕ) (before : List ℕ) → i ≤ c → (b : Bool) → (i == c) ≡ b → (suc i ≤ c → from_successor (λ x. x == c) (before ++ i ∷ []) (rising (suc i) n) ≡ rising (c + 1) (suc i + n - (c + 1)) ++ ((before ++ i ∷ []) ++ rising (suc i) (c + 1 - suc i))) → from_successor (λ x. x == c) before (rising i (suc n)) ≡ rising (c + 1) (i + suc n - (c + 1)) ++ (before ++ rising i (c + 1 - i))
    successor_step c i n before h true e next =
        let same : i ≡ c = grind (arith, nat_tests, e) in
        let one : c + 1 - i ≡ suc zero = omega arith in
        let rest : i + suc n - (c + 1) ≡ n = omega arith in
        let from : c + 1 ≡ suc i = omega arith in
        rw (e, from_successor) (rw (one, rest, from) refl)
    successor_step c i n before h false e next =
        let differ : i ≢ c = grind (arith, nat_tests, e) in
        let more : c + 1 - i ≡ suc (c + 1 - suc i) = omega arith in
        let rest : i + suc n - (c + 1) ≡ suc i + n - (c + 1) = omega arith in
        rw (e, from_successor) (rw (more, rest) (next (omega arith) ∙ ap (λ xs. rising (c + 1) (suc i + n - (c + 1)) ++ xs) (append_assoc before (i ∷ []) (rising (suc i) (c + 1 - suc i)))))

-- the first that passes in turn is the first from the successor on, or else the first up to the one that was chosen last
pub first_in_turn : (p : ℕ → Bool) (c n : ℕ) → c < n → first (filter p (in_turn (λ i. i) (Some c) (rising 0 n))) ≡ option_or (first (filter p (rising (c + 1) (n - (c + 1))))) (first (filter p (rising 0 (c + 1 - 0))))
first_in_turn p c n h =
    let from : 0 + n - (c + 1) ≡ n - (c + 1) = omega arith in
    rw (successor_rising c 0 n [] (omega arith) (omega arith), from) (rw (filter-append p (rising (c + 1) (n - (c + 1))) (rising 0 (c + 1 - 0))) (first-append (filter p (rising (c + 1) (n - (c + 1)))) (filter p (rising 0 (c + 1 - 0)))))
