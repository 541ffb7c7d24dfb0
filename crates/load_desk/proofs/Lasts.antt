-- What was chosen last, behind one more choice.
use Rattle.std.proofs.Common.{◌≡◌, ℕ, Bool, true, false, not, List, [], ◌∷◌, ◌++◌, filter, refl, ap, ◌∙◌, arith, append-nil, Some}
use Rattle.std.proofs.lemmas.List.Elements.{filter-append}
use Rattle.lload_spec.specs.Lists.{last}
use Rattle.part_spec.specs.DeskState.{in_place_of}

last-push : (n : ℕ) (ns : List ℕ) → last (ns ++ n ∷ []) ≡ Some n
last-push n [] = refl
last-push n (m ∷ []) = refl
last-push n (m ∷ k ∷ ns) = last-push n (k ∷ ns)

one-passes : (test : ℕ → Bool) (n : ℕ) → test n ≡ true → filter test (n ∷ []) ≡ n ∷ []
one-passes test n e = grind (arith, e)

one-fails : (test : ℕ → Bool) (n : ℕ) → test n ≡ false → filter test (n ∷ []) ≡ []
one-fails test n e = grind (arith, e)

kept-apart : (test shares : ℕ → Bool) (ns : List ℕ) → ((m : ℕ) → test m ≡ true → shares m ≡ false) → filter test (filter (λ m. not (shares m)) ns) ≡ filter test ns
kept-apart test shares [] apart = refl
kept-apart test shares (m ∷ ns) apart = grind (arith, apart m, kept-apart test shares ns apart)

-- where the new one passes a test, it is the last that does
pub last-here : (test shares : ℕ → Bool) (n : ℕ) (ns : List ℕ) → test n ≡ true → last (filter test (in_place_of shares n ns)) ≡ Some n
last-here test shares n ns e =
    ap last (filter-append test (filter (λ m. not (shares m)) ns) (n ∷ []) ∙ ap (λ ms. filter test (filter (λ m. not (shares m)) ns) ++ ms) (one-passes test n e))
    ∙ last-push n (filter test (filter (λ m. not (shares m)) ns))

-- where it fails, and so does each one that it replaces, the last is the one that was
pub last-apart : (test shares : ℕ → Bool) (n : ℕ) (ns : List ℕ) → test n ≡ false → ((m : ℕ) → test m ≡ true → shares m ≡ false) → last (filter test (in_place_of shares n ns)) ≡ last (filter test ns)
last-apart test shares n ns e apart =
    ap last (filter-append test (filter (λ m. not (shares m)) ns) (n ∷ [])
    ∙ ap (λ ms. filter test (filter (λ m. not (shares m)) ns) ++ ms) (one-fails test n e)
    ∙ append-nil (filter test (filter (λ m. not (shares m)) ns))
    ∙ kept-apart test shares ns apart)
