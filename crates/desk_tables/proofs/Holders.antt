-- A bind connection that has a holder.
use Rattle.std.proofs.Common.{◌≡◌, ℕ, true, false, Option, Some, None, Ok, refl, arith}
use Rattle.std.proofs.lemmas.Bool.Decides.{nat_tests}
use Rattle.std.specs.Prelude.{Result, IfOk, is_none}
use Rattle.lload_names.specs.declared.names.OpName.{OpName}
use Rattle.bind_pool.specs.Holders.{holder_of, holds}
use Rattle.desk_tables.specs.Pending.{SomeHolder}
use Rattle.desk_tables.specs.declared.pending.Pending.{Pending}

pub ok-is : {A E : Type 0} (r : Result A E) (P : A → Type 0) (x : A) → r ≡ Ok x → IfOk r P → P x
ok-is r P x e h = rw e at h

held-itself : (op : OpName) → holds op (Some op) ≡ true
held-itself op = grind (arith, nat_tests)

pub some-holder : (x : Pending) (n : ℕ) → false ≡ is_none (holder_of n x.holders) → SomeHolder n x
some-holder x n e = by (holder_of n x.holders) refl e
  where
    by : (o : Option OpName) → holder_of n x.holders ≡ o → false ≡ is_none o → SomeHolder n x
    by None h t = absurd (let bad : false ≡ true = t in cc)
    by (Some op) h t = (op, rw h (rw (held-itself op) (omega arith)))
