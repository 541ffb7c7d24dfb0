-- A rule of a regular connection, as moves make it.
use Rattle.std.proofs.Common.{◌≡◌, ℕ, Bool, true, false, ◌==◌, ◌&&◌, not, List, [], ◌∷◌, length, refl, ◌∙◌, sym}
use Rattle.std.specs.Prelude.{Option, Some, None, find, is_some, is_none, cond}
use Rattle.lload_spec.specs.Lists.{passes}
use Rattle.lload_spec.specs.Settings.{Settings}
use Rattle.part_spec.specs.Inputs.{Act, nothing}
use Rattle.part_spec.specs.ConnectionState.{ConnectionState}
use Rattle.part_spec.specs.ConnectionTurn.{is_drained}
use Rattle.part_spec.specs.Fit.{ConnectionLedger}
use Rattle.part_spec.specs.Marked.{Taken}
use Rattle.move_laws.specs.World.{ToConn}
use Rattle.stands_laws.specs.Books.{Book}
use Rattle.stands_laws.specs.Lists.{Each}
use Rattle.stands_laws.specs.ConnectionSides.{ConnSide, ConnMove, conn_moves}
use Rattle.stands_laws.specs.Follows.{connection_ledger_behind}
use Rattle.stands_laws.specs.RegularStands.{RegularStands}
use Rattle.stands_laws.proofs.ConnGives.{Gives, gives_none}

-- some moves make what a rule makes, and leave these orders
pub record Rule (s : Settings) (b : Book) (u at : ℕ) (mark : Option Taken) (l : ConnectionLedger) (a : Act) (y : ConnSide) (orders : ℕ → List ToConn) : Type 0 where
  pub made : List ConnMove
  pub stands : RegularStands s b u (connection_ledger_behind s at mark l a) (conn_moves false y made).row
  pub gives : Gives s b u a.letters y (conn_moves false y made)
  pub waits : (c : ℕ) → (conn_moves false y made).orders c ≡ orders c

pub rule_nothing : (s : Settings) (b : Book) (u at : ℕ) (mark : Option Taken) (l : ConnectionLedger) (y : ConnSide) → RegularStands s b u l y.row → Rule s b u at mark l nothing y y.orders
rule_nothing s b u at mark l y h = record { made = []; stands = h; gives = gives_none s b u y; waits = λ c. refl }

-- what may be there is, where it passes
pub passes_some : {A : Type 0} (t : A → Bool) (o : Option A) → passes t o ≡ true → is_some o ≡ true
passes_some t None e = e
passes_some t (Some x) e = refl

-- where none is found, none passes
pub none_found : {A : Type 0} (t : A → Bool) (xs : List A) → find t xs ≡ None → Each (λ x. t x ≡ false) xs
none_found t [] e = tt
none_found t (x ∷ xs) e = go (t x) refl e (λ f. none_found t xs f)
  where
    go : (q : Bool) → t x ≡ q → cond q (Some x) (find t xs) ≡ None → (find t xs ≡ None → Each (λ x. t x ≡ false) xs) → Each (λ x. t x ≡ false) (x ∷ xs)
    go true i f k = absurd (let bad : Some x ≡ None = f in cc)
    go false i f k = (i, k f)

-- one that has nothing to do and isn't drained hasn't retired
pub not_retired : (p : ConnectionState) → is_drained p ≡ false → p.down ≡ false → p.rows ≡ [] → p.holder ≡ None → p.retired ≡ false
not_retired p undrained there rows nobody = go p.retired refl
  where
    go : (t : Bool) → p.retired ≡ t → p.retired ≡ false
    go false e = e
    go true e = absurd (let drained : is_drained p ≡ true = λ i. e i && not (there i) && length (rows i) == 0 && is_none (nobody i) in let bad : true ≡ false = sym drained ∙ undrained in cc)
