-- What stands in a table under a name, looked for from a place on.
use Rattle.std.proofs.Common.{◌≡◌, ℕ, suc, ◌+◌, ◌<◌, Bool, true, false, cond, List, ◌∷◌, length, drop, get_or, refl, ap, sym, ◌∙◌, add-one}
use Rattle.std.specs.Prelude.{Option, Some, None}
use Rattle.std.specs.Option.{option_or}
use Rattle.std.specs.Borrow.{Bor}
use Rattle.std.specs.Str.{str_eq_ignore_ascii_case}
use Rattle.std.proofs.Math.Seq.{drop-cons}
use Rattle.lload_conf.specs.Table.{named, rows_of}

-- the row in front has the name
named-first : {A : Type 0} (row : Bor (List ℕ) × A) (rows : List (Bor (List ℕ) × A)) (name : List ℕ) → str_eq_ignore_ascii_case row.0.now name ≡ true → named (rows_of (row ∷ rows)) name ≡ Some row.1
named-first row rows name same = rw same refl

-- the row in front has another name
named-later : {A : Type 0} (row : Bor (List ℕ) × A) (rows : List (Bor (List ℕ) × A)) (name : List ℕ) → str_eq_ignore_ascii_case row.0.now name ≡ false → named (rows_of (row ∷ rows)) name ≡ named (rows_of rows) name
named-later row rows name other = rw other refl

-- the row at the place has the name
pub named-here : {A : Type 0} (table : List (Bor (List ℕ) × A)) (i : ℕ) (row : Bor (List ℕ) × A) (name : List ℕ) → i < length table → row ≡ get_or table i row → str_eq_ignore_ascii_case row.0.now name ≡ true → named (rows_of (drop i table)) name ≡ Some row.1
named-here table i row name inside is same = ap (λ rows. named (rows_of rows) name) (drop-cons table i row inside ∙ ap (λ r. r ∷ drop (suc i) table) (sym is)) ∙ named-first row (drop (suc i) table) name same

-- the row at the place has another name
pub named-past : {A : Type 0} (table : List (Bor (List ℕ) × A)) (i : ℕ) (row : Bor (List ℕ) × A) (name : List ℕ) → i < length table → row ≡ get_or table i row → str_eq_ignore_ascii_case row.0.now name ≡ false → named (rows_of (drop i table)) name ≡ named (rows_of (drop (i + 1) table)) name
named-past table i row name inside is other = ap (λ rows. named (rows_of rows) name) (drop-cons table i row inside ∙ ap (λ r. r ∷ drop (suc i) table) (sym is)) ∙ (named-later row (drop (suc i) table) name other ∙ ap (λ n. named (rows_of (drop n table)) name) (sym (add-one i)))

-- what a table has comes first
pub found-first : {A : Type 0} (among : Option A) (found : A) (otherwise : Option A) → Some found ≡ among → Some found ≡ option_or among otherwise
found-first among found otherwise is = ap (λ o. option_or o otherwise) is

-- neither a table nor a test has it
pub found-nowhere : {A : Type 0} (among : Option A) (test : Bool) (x : A) → None ≡ among → test ≡ false → None ≡ option_or among (cond test (Some x) None)
found-nowhere among test x none fails = rw (fails, ← none) refl
