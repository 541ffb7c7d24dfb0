-- What holds at a fork, said of the entries of its sides.
use Rattle.std.proofs.Common.{◌≡◌, ℕ, ◌+◌, ◌^◌, ◌≤◌, ◌<◌, false, min, max, Box, Global, List, [], ◌∷◌, ◌++◌, length, Option, Some, None, ap, subst, ◌∙◌, sym, arith}
use Rattle.std.specs.Prelude.{IsSome}
use Rattle.std.specs.Ordering.{nat_cmp}
use Rattle.std.specs.BTreeMap.{insert_entry, is_at}
use Rattle.std.specs.Map.{lookup, remove_entry, set_value}
use Rattle.std.proofs.lemmas.Map.{length-set_value}
use Rattle.std.proofs.lemmas.List.{append-nil}
use Rattle.op_deadlines.specs.Due.{is_due, lowest_due, all_due}
use Rattle.op_deadlines.specs.Tree.{entries, earliest, IsNode, Within}
use Rattle.op_deadlines.specs.declared.tree.Node.{Node}
use Rattle.op_deadlines.specs.declared.tree.Node.TheVariants.{Fork}
use Rattle.op_deadlines.specs.declared.tree.Tree.{Tree}
use Rattle.op_deadlines.proofs.Sides.{or_else, within-wider, within-append, within-set, within-insert, within-remove, insert-some, none-left, earliest-append, none-due, none-among, among-append, due-append, lookup-below, lookup-above, lookup-low, lookup-high, set-low, set-high, remove-low, remove-high, insert-below, insert-above, insert-low, insert-high}

-- the entries of a fork, and what its bounds say
pub record AtFork (d l r : List (ℕ × ℕ)) (first split last least : ℕ) : Type 0 where
  pub is : d ≡ l ++ r
  pub some_low : 1 ≤ length l
  pub some_high : 1 ≤ length r
  pub low : Within first split l
  pub high : Within split (last + 1) r
  pub least_is : least ≡ min (earliest l) (earliest r)

-- what a fork with these sides is to be
abbrev IsFork : List (ℕ × ℕ) → List (ℕ × ℕ) → ℕ → ℕ → ℕ → ℕ → Type 0
IsFork l r first split last least =
    (1 ≤ length l) × (1 ≤ length r) × Within first split l × Within split (last + 1) r × (least ≡ min (earliest l) (earliest r))

at-node : {d l r : List (ℕ × ℕ)} {first split last least : ℕ} → d ≡ l ++ r → IsFork l r first split last least → AtFork d l r first split last least
at-node e h = record { is = e; some_low = h.0; some_high = h.1; low = h.2; high = h.3; least_is = h.4 }

pub at_Fork : {n : Node} {d : List (ℕ × ℕ)} {first split last least : ℕ} {low high : Box Tree Global} → entries n ≡ d → IsNode n → n ≡ Fork first split last low high least → AtFork d low.value high.value first split last least
at_Fork view_is node is = at-node (sym view_is ∙ ap entries is) (subst IsNode is node)

within-order : (a b : ℕ) (es : List (ℕ × ℕ)) → 1 ≤ length es → Within a b es → a ≤ b
within-order a b [] n h = absurd (omega (arith, n))
within-order a b (e ∷ es) n h = omega (arith, h.0, h.1)

-- one identifier beside others, at a fork of their own
pub beside-first : (id w first split last m : ℕ) (one d rest : List (ℕ × ℕ)) → one ≡ (id, w) ∷ [] → rest ≡ d → 1 ≤ length d → Within first (last + 1) d → id < split → split ≤ first → w < 2 ^ 64 → m ≡ min w (earliest d) → IsFork one rest id split last m
beside-first id w first split last m one d rest e g n h a b f k = rw (e, g) (omega arith, n, (omega arith, a, tt), within-wider first (last + 1) split (last + 1) d b (omega arith) h, omega (arith, f, k))

pub beside-last : (id w first split last m : ℕ) (one d rest : List (ℕ × ℕ)) → one ≡ (id, w) ∷ [] → rest ≡ d → 1 ≤ length d → Within first (last + 1) d → last < split → split ≤ id → w < 2 ^ 64 → m ≡ min (earliest d) w → IsFork rest one first split id m
beside-last id w first split last m one d rest e g n h a b f k = rw (e, g) (n, omega arith, within-wider first (last + 1) first split d (omega arith) (omega (arith, a)) h, (b, omega arith, tt), omega (arith, f, k))

pub some-none : (o : Option ℕ) → o ≡ None → IsSome o → ⊥
some-none None e h = cc
some-none (Some x) e h = cc

module _ {d l r : List (ℕ × ℕ)} {first split last least : ℕ} (f : AtFork d l r first split last least) where
  pub fork-earliest : least ≡ earliest d
  fork-earliest = f.least_is ∙ sym (earliest-append l r) ∙ ap earliest (sym f.is)

  pub fork-none : (t now : ℕ) → is_due t now least ≡ false → lowest_due t now d ≡ None
  fork-none t now h = none-due t now d (subst (λ (m : ℕ). is_due t now m ≡ false) fork-earliest h)

  fork-due : (t now : ℕ) → lowest_due t now d ≡ or_else (lowest_due t now l) (lowest_due t now r)
  fork-due t now = ap (lowest_due t now) f.is ∙ due-append t now first split (last + 1) l r f.low f.high

  pub fork-none-among : (t now : ℕ) → is_due t now least ≡ false → all_due t now d ≡ []
  fork-none-among t now h = none-among t now d (subst (λ (m : ℕ). is_due t now m ≡ false) fork-earliest h)

  pub fork-among : (t now : ℕ) → all_due t now d ≡ all_due t now l ++ all_due t now r
  fork-among t now = ap (all_due t now) f.is ∙ among-append t now l r

  pub fork-low-due : (t now id : ℕ) → lowest_due t now l ≡ Some id → lowest_due t now d ≡ Some id
  fork-low-due t now id h = fork-due t now ∙ ap (λ o. or_else o (lowest_due t now r)) h

  pub fork-high-due : (t now : ℕ) → lowest_due t now l ≡ None → lowest_due t now d ≡ lowest_due t now r
  fork-high-due t now h = fork-due t now ∙ ap (λ o. or_else o (lowest_due t now r)) h

  pub fork-within : Within first (last + 1) d
  fork-within = subst (Within first (last + 1)) (sym f.is) (within-append first split (last + 1) l r (within-order first split l f.some_low f.low) (within-order split (last + 1) r f.some_high f.high) f.low f.high)

  module _ (id : ℕ) where
    pub set-at-low : (w : ℕ) → id < split → set_value (is_at (nat_cmp id)) l w ++ r ≡ set_value (is_at (nat_cmp id)) d w
    set-at-low w h = sym (ap (λ es. set_value (is_at (nat_cmp id)) es w) f.is ∙ set-low id split (last + 1) w l r h f.high)

    pub set-at-high : (w : ℕ) → split ≤ id → l ++ set_value (is_at (nat_cmp id)) r w ≡ set_value (is_at (nat_cmp id)) d w
    set-at-high w h = sym (ap (λ es. set_value (is_at (nat_cmp id)) es w) f.is ∙ set-high id first split w l r h f.low)

    pub remove-at-low : id < split → remove_entry (is_at (nat_cmp id)) l ++ r ≡ remove_entry (is_at (nat_cmp id)) d
    remove-at-low h = sym (ap (remove_entry (is_at (nat_cmp id))) f.is ∙ remove-low id split (last + 1) l r h f.high)

    pub remove-at-high : split ≤ id → l ++ remove_entry (is_at (nat_cmp id)) r ≡ remove_entry (is_at (nat_cmp id)) d
    remove-at-high h = sym (ap (remove_entry (is_at (nat_cmp id))) f.is ∙ remove-high id first split l r h f.low)

    pub insert-at-low : (w : ℕ) → id < split → insert_entry nat_cmp l id w ++ r ≡ insert_entry nat_cmp d id w
    insert-at-low w h = sym (ap (λ es. insert_entry nat_cmp es id w) f.is ∙ insert-low id split (last + 1) w l r h f.high)

    pub insert-at-high : (w : ℕ) → split ≤ id → l ++ insert_entry nat_cmp r id w ≡ insert_entry nat_cmp d id w
    insert-at-high w h = sym (ap (λ es. insert_entry nat_cmp es id w) f.is ∙ insert-high id first split w l r h f.low)

    pub lookup-at-low : id < split → lookup (is_at (nat_cmp id)) d ≡ lookup (is_at (nat_cmp id)) l
    lookup-at-low h = ap (lookup (is_at (nat_cmp id))) f.is ∙ lookup-low id split (last + 1) l r h f.high

    pub lookup-at-high : split ≤ id → lookup (is_at (nat_cmp id)) d ≡ lookup (is_at (nat_cmp id)) r
    lookup-at-high h = ap (lookup (is_at (nat_cmp id))) f.is ∙ lookup-high id first split l r h f.low

    -- the sides, after a call on one of them

    pub touched-low : (w m : ℕ) (new : List (ℕ × ℕ)) → new ≡ set_value (is_at (nat_cmp id)) l w → m ≡ min (earliest new) (earliest r) → IsFork new r first split last m
    touched-low w m new e h = (rw (e, length-set_value (is_at (nat_cmp id)) l w) f.some_low, f.some_high, subst (Within first split) (sym e) (within-set first split (is_at (nat_cmp id)) l w f.low), f.high, h)

    pub touched-high : (w m : ℕ) (new : List (ℕ × ℕ)) → new ≡ set_value (is_at (nat_cmp id)) r w → m ≡ min (earliest l) (earliest new) → IsFork l new first split last m
    touched-high w m new e h = (f.some_low, rw (e, length-set_value (is_at (nat_cmp id)) r w) f.some_high, f.low, subst (Within split (last + 1)) (sym e) (within-set split (last + 1) (is_at (nat_cmp id)) r w f.high), h)

    pub started-low : (w m from : ℕ) (new : List (ℕ × ℕ)) → id < split → from ≡ min first id → new ≡ insert_entry nat_cmp l id w → m ≡ min (earliest new) (earliest r) → IsFork new r from split last m
    started-low w m from new b a e h = (rw e (insert-some id w l), f.some_high, subst (Within from split) (sym e) (within-insert from split id w l (omega (arith, a)) b (within-wider first split from split l (omega (arith, a)) (omega arith) f.low)), f.high, h)

    pub started-high : (w m to : ℕ) (new : List (ℕ × ℕ)) → split ≤ id → to ≡ max last id → new ≡ insert_entry nat_cmp r id w → m ≡ min (earliest l) (earliest new) → IsFork l new first split to m
    started-high w m to new b a e h = (f.some_low, rw e (insert-some id w r), f.low, subst (Within split (to + 1)) (sym e) (within-insert split (to + 1) id w r b (omega (arith, a)) (within-wider split (last + 1) split (to + 1) r (omega arith) (omega (arith, a)) f.high)), h)

    pub stopped-low : (m : ℕ) (new : List (ℕ × ℕ)) → new ≡ remove_entry (is_at (nat_cmp id)) l → 1 ≤ length new → m ≡ min (earliest new) (earliest r) → IsFork new r first split last m
    stopped-low m new e n h = (n, f.some_high, subst (Within first split) (sym e) (within-remove first split (is_at (nat_cmp id)) l f.low), f.high, h)

    pub stopped-high : (m : ℕ) (new : List (ℕ × ℕ)) → new ≡ remove_entry (is_at (nat_cmp id)) r → 1 ≤ length new → m ≡ min (earliest l) (earliest new) → IsFork l new first split last m
    stopped-high m new e n h = (f.some_low, n, f.low, subst (Within split (last + 1)) (sym e) (within-remove split (last + 1) (is_at (nat_cmp id)) r f.high), h)

    -- an identifier beside all of a fork

    pub absent-before : id < first → lookup (is_at (nat_cmp id)) d ≡ None
    absent-before h = lookup-below id first (last + 1) d h fork-within

    pub absent-behind : last < id → lookup (is_at (nat_cmp id)) d ≡ None
    absent-behind h = lookup-above id first (last + 1) d (omega (arith, h)) fork-within

    pub put-first : (w : ℕ) → id < first → (id, w) ∷ d ≡ insert_entry nat_cmp d id w
    put-first w h = sym (insert-below id first (last + 1) w d h fork-within)

    pub put-last : (w : ℕ) → last < id → d ++ (id, w) ∷ [] ≡ insert_entry nat_cmp d id w
    put-last w h = sym (insert-above id first (last + 1) w d (omega (arith, h)) fork-within)

    -- where the other side is all that is left

    pub left-high : (new : List (ℕ × ℕ)) → id < split → new ≡ remove_entry (is_at (nat_cmp id)) l → length new ≡ 0 → r ≡ remove_entry (is_at (nat_cmp id)) d
    left-high new b e n = ap (λ es. es ++ r) (sym (none-left new n) ∙ e) ∙ remove-at-low b

    pub left-low : (new : List (ℕ × ℕ)) → split ≤ id → new ≡ remove_entry (is_at (nat_cmp id)) r → length new ≡ 0 → l ≡ remove_entry (is_at (nat_cmp id)) d
    left-low new b e n = sym (append-nil l) ∙ ap (λ es. l ++ es) (sym (none-left new n) ∙ e) ∙ remove-at-high b
