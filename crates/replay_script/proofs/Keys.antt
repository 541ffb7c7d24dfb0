-- What is read behind a word that is passed.
use Rattle.std.proofs.Common.{◌≡◌, ℕ, Bool, true, false, cond, List, [], ◌∷◌, refl}
use Rattle.std.specs.Prelude.{Option, Some, None}
use Rattle.std.specs.Str.{bytes_eq}
use Rattle.replay_script.specs.EntryFields.{behind}

-- where the word was passed, what is read behind it is what is read of the words that are left
pub behind-passed : {A : Type 0} (read : List (List ℕ) → Option A) (key : List ℕ) (ws more : List (List ℕ)) → behind key (λ left. Some left) ws ≡ Some more → behind key read ws ≡ read more
behind-passed read key [] more passed = absurd (cc)
behind-passed {A} read key (w ∷ ws) more passed = at (bytes_eq w key) passed where
  at : (t : Bool) → cond t (Some ws) None ≡ Some more → cond t (read ws) None ≡ read more
  at true passed = let same : ws ≡ more = cc in rw same refl
  at false passed = absurd (cc)
