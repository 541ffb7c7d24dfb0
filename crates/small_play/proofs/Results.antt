-- What follows from what a result says.
use Rattle.std.specs.Prelude.{◌≡◌, List, [], Result, Ok, Err, IfOk, OnOk}
use Rattle.std.proofs.Common.{subst, sym}

pub if_ok : {A E : Type 0} (r : Result A E) (P Q : A → Type 0) → ((x : A) → P x → Q x) → IfOk r P → IfOk r Q
if_ok (Ok x) P Q f h = f x h
if_ok (Err e) P Q f h = tt

-- where the result is an empty list, and more is known
pub if_empty : {A E : Type 0} (r : Result (List A) E) (T : Type 0) (Q : List A → Type 0) → (T → Q []) → IfOk r (λ xs. xs ≡ []) → OnOk r T → IfOk r Q
if_empty (Ok x) T Q f none h = subst Q (sym none) (f h)
if_empty (Err e) T Q f none h = tt
