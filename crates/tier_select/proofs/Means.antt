-- Sums of the front of a list.
use Rattle.std.proofs.Common.{◌≡◌, ℕ, ◌+◌, List, sum, take, slice_get, Some, ap}
use Rattle.std.proofs.lemmas.List.{take_more}
use Rattle.std.proofs.lemmas.List.Sums.{sum_by_push}
use Rattle.std.proofs.lemmas.Option.{slice_get_within, get_or_from_slice_get}

pub sum_more : (xs : List ℕ) (i x : ℕ) → slice_get xs i ≡ Some x → sum (take (i + 1) xs) ≡ sum (take i xs) + x
sum_more xs i x e =
    rw (take_more xs i 0 (slice_get_within xs i x e)) (rw (sum_by_push (λ n. n) (take i xs) _) (ap (λ n. sum (take i xs) + n) (get_or_from_slice_get xs i x 0 e)))
