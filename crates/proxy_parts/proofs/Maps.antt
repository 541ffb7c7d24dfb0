-- What a map has behind what was written through.
use Rattle.std.proofs.Common.{◌≡◌, ◌≢◌, ℕ, Option, Some, None, Result, Ok, Err, OnOk, OnErr, false, refl, sym, ◌∙◌}
use Rattle.std.specs.Prelude.{is_err}
use Rattle.std.specs.Ordering.{nat_cmp}
use Rattle.std.specs.BTreeMap.{BTreeMap, get, WritesThrough}

pub written : {X : Type 0} (m n : BTreeMap ℕ X) (k : ℕ) (d w : X) → get nat_cmp m k ≡ Some d → WritesThrough nat_cmp (nat_cmp k) m w n → get nat_cmp n k ≡ Some w
written m n k d w e h = (h.3 (rw e refl)).1

pub is-some : {X : Type 0} (o : Option X) (x : X) → o ≡ Some x → o ≢ None
is-some {X} o x e n = absurd (let bad : ◌≡◌ {A = Option X} (Some x) None = sym e ∙ n in cc)

pub on-err : {T E X Y : Type 0} (r : Result T E) → (X → Y) → OnErr r X → OnErr r Y
on-err (Ok t) f h = h
on-err (Err e) f h = f h

-- what holds on Ok, where it is no error
pub when-ok : {T E X : Type 0} (r : Result T E) → is_err r ≡ false → OnOk r X → X
when-ok (Ok t) e h = h
when-ok (Err x) e h = absurd (cc)
