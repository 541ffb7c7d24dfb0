-- What holds at a fork, said of the places of its sides.
use Rattle.std.proofs.Common.{◌≡◌, ℕ, ◌-◌, ◌≤◌, ◌<◌, min, Box, Global, List, ◌++◌, length, Some, None, ap, subst, ◌∙◌, sym}
use Rattle.std.proofs.Math.ListN.{set}
use Rattle.std.proofs.lemmas.List.{set-append_left, set-append_right}
use Rattle.io_workers.specs.declared.rows.Row.{Row}
use Rattle.io_workers.specs.declared.tree.Node.{Node}
use Rattle.io_workers.specs.declared.tree.Node.TheVariants.{Fork}
use Rattle.io_workers.specs.declared.tree.Tree.{Tree}
use Rattle.io_workers.specs.Places.{due}
use Rattle.io_workers.specs.Tree.{rows_of, earliest, IsNode}
use Rattle.io_workers.proofs.Sides.{or_else, earliest-append, none-due, due-append}

-- the places of a fork, and what it says of them
pub record AtFork (d l r : List Row) (count least : ℕ) : Type 0 where
  pub is : d ≡ l ++ r
  pub some_low : 1 ≤ length l
  pub some_high : 1 ≤ length r
  pub count_is : count ≡ length l
  pub least_is : least ≡ min (earliest l) (earliest r)

-- what a fork with these sides is to be
abbrev IsFork : List Row → List Row → ℕ → ℕ → Type 0
IsFork l r count least = (1 ≤ length l) × (1 ≤ length r) × (count ≡ length l) × (least ≡ min (earliest l) (earliest r))

at-node : {d l r : List Row} {count least : ℕ} → d ≡ l ++ r → IsFork l r count least → AtFork d l r count least
at-node e h = record { is = e; some_low = h.0; some_high = h.1; count_is = h.2; least_is = h.3 }

pub at_Fork : {n : Node} {d : List Row} {count least : ℕ} {low high : Box Tree Global} → rows_of n ≡ d → IsNode n → n ≡ Fork count low high least → AtFork d low.value high.value count least
at_Fork view_is node is = at-node (sym view_is ∙ ap rows_of is) (subst IsNode is node)

module _ {d l r : List Row} {count least : ℕ} (f : AtFork d l r count least) where
  pub fork-earliest : least ≡ earliest d
  fork-earliest = f.least_is ∙ sym (earliest-append l r) ∙ ap earliest (sym f.is)

  pub fork-none : (now : ℕ) → now < least → due now d ≡ None
  fork-none now h = none-due now d (subst (λ (m : ℕ). now < m) fork-earliest h)

  fork-due : (now : ℕ) → due now d ≡ or_else (due now l) (due now r)
  fork-due now = ap (due now) f.is ∙ due-append now l r

  pub fork-due-low : (now conn : ℕ) → due now l ≡ Some conn → due now d ≡ Some conn
  fork-due-low now conn h = fork-due now ∙ ap (λ o. or_else o (due now r)) h

  pub fork-due-high : (now : ℕ) → due now l ≡ None → due now d ≡ due now r
  fork-due-high now h = fork-due now ∙ ap (λ o. or_else o (due now r)) h

  pub fork-set-low : (i : ℕ) (row : Row) → i < count → set l i row ++ r ≡ set d i row
  fork-set-low i row h = sym (ap (λ (rows : List Row). set rows i row) f.is ∙ set-append_left l r i row (subst (λ (n : ℕ). i < n) f.count_is h))

  pub fork-set-high : (i : ℕ) (row : Row) → count ≤ i → l ++ set r (i - count) row ≡ set d i row
  fork-set-high i row h = sym (ap (λ (rows : List Row). set rows i row) f.is ∙ set-append_right l r count i row (sym f.count_is) h)
