-- The commands that are still to come, where a round is made.
use Rattle.std.proofs.Common.{◌≡◌, ℕ, zero, suc, ◌+◌, ◌-◌, ◌≤◌, Bool, true, false, List, [], ◌∷◌, ◌++◌, length, drop, Option, refl, ap, ◌∙◌, sym, append_assoc, arith, if◌then◌else◌}
use Rattle.std.specs.Option.{option_to_list}
use Rattle.lload_names.specs.declared.command.Command.{Command}
use Rattle.rand_pcg.specs.Lcg.{Lcg}
use Rattle.rand_pcg.specs.Pcg.{pcg32}
use Rattle.replay_script.specs.Made.{round, rounds_from, searches}

-- a list that is what is behind its first item has none
pub own-rest : (xs ys : List Command) → xs ≡ ys → ys ≡ drop 1 xs → xs ≡ []
own-rest [] ys e f = refl
own-rest (x ∷ xs) ys e f = absurd (let h = ap (length {A = Command}) (e ∙ f) in omega (arith, h))

rounds-next : (left j : ℕ) (words : Lcg) → 1 ≤ left → rounds_from left j words ≡ round j (pcg32 words).0 ++ rounds_from (left - 1) (j + 1) (pcg32 words).1
rounds-next zero j words h = absurd (omega (arith, h))
rounds-next (suc n) j words h =
    let e : n ≡ suc n - 1 = omega arith in
    ap (λ k. round j (pcg32 words).0 ++ rounds_from k (j + 1) (pcg32 words).1) e

-- the first command of a round is given, and the others wait
pub round-made : (old waiting commands after : List Command) (o : Option Command) (left j r : ℕ) (words more : Lcg) → waiting ++ rounds_from left j words ≡ old → waiting ≡ [] → 1 ≤ left → (r, more) ≡ pcg32 words → commands ≡ round j r → commands ≡ option_to_list o ++ after → old ≡ option_to_list o ++ (after ++ rounds_from (left - 1) (j + 1) more)
round-made old waiting commands after o left j r words more view none some word made first =
    sym view
    ∙ ap (λ l. l ++ rounds_from left j words) none
    ∙ rounds-next left j words some
    ∙ ap (λ (w : ℕ × Lcg). round j w.0 ++ rounds_from (left - 1) (j + 1) w.1) (sym word)
    ∙ ap (λ l. l ++ rounds_from (left - 1) (j + 1) more) (sym made ∙ first)
    ∙ append_assoc (option_to_list o) after (rounds_from (left - 1) (j + 1) more)

one-of-two : (b : Bool) (x y : Command) (xs ys zs : List Command) → (if b then x ∷ xs else y ∷ ys) ++ zs ≡ [] → ⊥
one-of-two true x y xs ys zs h = cc
one-of-two false x y xs ys zs h = cc

-- where a round is left, a command is
pub round-left : (old waiting : List Command) (left j : ℕ) (words : Lcg) → waiting ++ rounds_from left j words ≡ old → waiting ≡ [] → 1 ≤ left → old ≡ [] → ⊥
round-left old waiting left j words view none some empty =
    one-of-two (searches (pcg32 words).0) _ _ _ _ _ (sym (rounds-next left j words some) ∙ sym (ap (λ l. l ++ rounds_from left j words) none) ∙ view ∙ empty)
