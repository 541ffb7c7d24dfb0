-- One more call of a plan, at a place in its bytes.
use Rattle.std.proofs.Common.{◌≡◌, ℕ, ◌+◌, ◌<◌, Bool, true, false, Some, List, [], ◌∷◌, length, get_or, zero, suc, take, drop, refl, sym}
use Rattle.std.specs.Prelude.{if◌then◌else◌, slice_get, count_by}
use Rattle.std.proofs.lemmas.List.{drop-drop}
use Rattle.std.proofs.lemmas.List.Sums.{count_by_more_yes, count_by_more_no}
use Rattle.lload_outside.specs.Calls.{fails, fails_next, plan_at, after_call}

-- the byte at the place says whether the next call fails
pub fails_at : (calls : List ℕ) (made byte : ℕ) → slice_get calls made ≡ Some byte → fails_next (drop made calls) ≡ fails byte
fails_at [] made byte at = cc
fails_at (first ∷ calls) zero byte at = let same : first ≡ byte = cc in rw same refl
fails_at (first ∷ calls) (suc made) byte at = fails_at calls made byte at

fails_next-drop : (calls : List ℕ) (made : ℕ) → fails (get_or calls made 0) ≡ fails_next (drop made calls)
fails_next-drop [] zero = refl
fails_next-drop [] (suc made) = refl
fails_next-drop (first ∷ calls) zero = refl
fails_next-drop (first ∷ calls) (suc made) = fails_next-drop calls made

count_by_more : (calls : List ℕ) (made : ℕ) (now : Bool) → made < length calls → fails (get_or calls made 0) ≡ now → count_by fails (take (made + 1) calls) ≡ (if now then count_by fails (take made calls) + 1 else count_by fails (take made calls))
count_by_more calls made true within now = count_by_more_yes fails calls made 0 within now
count_by_more calls made false within now = count_by_more_no fails calls made 0 within now

-- a place further on, the next call was made
pub plan_more : (calls : List ℕ) (made : ℕ) → made < length calls → plan_at calls (made + 1) ≡ after_call (plan_at calls made)
plan_more calls made within =
    let to_come = sym (drop-drop 1 made calls) in
    let failed = count_by_more calls made (fails_next (drop made calls)) within (fails_next-drop calls made) in
    λ i. record { to_come = to_come i; failed = failed i }
