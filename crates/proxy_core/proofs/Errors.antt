-- What a result says where it is known.
use Rattle.std.proofs.Common.{◌≡◌, true, Result, Ok, Err, OnErr}
use Rattle.std.specs.Prelude.{is_err}

pub when-err : {T E X : Type 0} (r : Result T E) → is_err r ≡ true → OnErr r X → X
when-err (Ok t) e h = absurd (cc)
when-err (Err x) e h = h
