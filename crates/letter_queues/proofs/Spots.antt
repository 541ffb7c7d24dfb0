-- The order of spots: by receiver, then by sender, then by number.
use Rattle.std.proofs.Common.{◌≡◌, ℕ, Bool, true, false, ◌&&◌, refl, ap, sym, ◌∙◌, subst, arith}
use Rattle.std.proofs.lemmas.Bool.Decides.{nat_tests}
use Rattle.std.specs.declared.cmp.Ordering.{Ordering}
use Rattle.std.specs.declared.cmp.Ordering.TheVariants.{Less, Equal, Greater}
use Rattle.std.specs.Ordering.{is_gt, is_eq, is_le, nat_cmp, ordering_then, ordering_reverse}
use Rattle.std.specs.Cmp.{IsTotalOrder, tied_itself, then_total, on_total, nat_cmp_total}
use Rattle.std.specs.BTreeMap.{is_at}
use Rattle.lload_names.specs.declared.names.PartName.{PartName}
use Rattle.lload_names.specs.declared.names.PartName.TheVariants.{Desk, Client, Up}
use Rattle.lload_names.specs.Same.{same_part}
use Rattle.part_spec.specs.World.{is_below}
use Rattle.letter_queues.specs.declared.spot.Spot.{Spot}
use Rattle.letter_queues.specs.Rows.{part_cmp, spot_cmp, is_spot_between}
use Rattle.letter_queues.proofs.PartOrder.{part-is, part-refl, gt-is, neither-below, part-total}

pub spot-total : IsTotalOrder spot_cmp
spot-total = then_total (on_total (λ (s : Spot). s.receiver) part-total) (then_total (on_total (λ (s : Spot). s.sender) part-total) (on_total (λ (s : Spot). s.number) nat_cmp_total))

pub spot-is : (k q : Spot) → spot_cmp k q ≡ ordering_then (part_cmp k.receiver q.receiver) (ordering_then (part_cmp k.sender q.sender) (nat_cmp k.number q.number))
spot-is k q = refl

-- what two orders, one behind the other, say of each
then-less : (a b : Ordering) → ordering_then a b ≡ Less → is_gt a ≡ false
then-less Less b h = refl
then-less Equal b h = refl
then-less Greater b h = absurd (let bad : Greater ≡ Less = h in cc)

then-le : (a b : Ordering) → is_le (ordering_then a b) ≡ true → is_gt a ≡ false
then-le Less b h = refl
then-le Equal b h = refl
then-le Greater b h = absurd (let bad : false ≡ true = h in cc)

then-equal : (a b : Ordering) → ordering_then a b ≡ Equal → a ≡ Equal
then-equal Less b h = absurd (let bad : Less ≡ Equal = h in cc)
then-equal Equal b h = refl
then-equal Greater b h = absurd (let bad : Greater ≡ Equal = h in cc)

then-rest : (a b : Ordering) → a ≡ Equal → ordering_then a b ≡ b
then-rest a b e = ap (λ o. ordering_then o b) e

at-equal : (o : Ordering) → is_eq o ≡ true → o ≡ Equal
at-equal Less h = absurd (let bad : false ≡ true = h in cc)
at-equal Equal h = refl
at-equal Greater h = absurd (let bad : false ≡ true = h in cc)

-- parts that are one
part-equal : (p q : PartName) → p ≡ q → part_cmp p q ≡ Equal
part-equal p q e = subst (λ x. part_cmp p x ≡ Equal) e (tied_itself part-total p)

equal-part : (p q : PartName) → part_cmp p q ≡ Equal → p ≡ q
equal-part p q e = part-is p q (neither-below p q (sym (gt-is q p) ∙ ap is_gt (turned-equal p q e)) (sym (gt-is p q) ∙ ap is_gt e))
  where
    turned-equal : (p q : PartName) → part_cmp p q ≡ Equal → part_cmp q p ≡ Equal
    turned-equal p q e = by (part_cmp q p) (sym e ∙ part-total.antisymm p q)
      where
        by : (o : Ordering) → Equal ≡ ordering_reverse o → o ≡ Equal
        by Less h = absurd (let bad : Equal ≡ Greater = h in cc)
        by Equal h = refl
        by Greater h = absurd (let bad : Equal ≡ Less = h in cc)

equal-number : (n m : ℕ) → nat_cmp n m ≡ Equal → n ≡ m
equal-number n m e = grind (arith, nat_tests, e)

pub spot-itself : (k : Spot) → is_at (spot_cmp k) k ≡ true
spot-itself k = ap is_eq (tied_itself spot-total k)

pub equal-spot : (k q : Spot) → spot_cmp k q ≡ Equal → k ≡ q
equal-spot k q e =
    let first = then-equal (part_cmp k.receiver q.receiver) (ordering_then (part_cmp k.sender q.sender) (nat_cmp k.number q.number)) e in
    let rest : ordering_then (part_cmp k.sender q.sender) (nat_cmp k.number q.number) ≡ Equal = sym (then-rest (part_cmp k.receiver q.receiver) (ordering_then (part_cmp k.sender q.sender) (nat_cmp k.number q.number)) first) ∙ e in
    let second = then-equal (part_cmp k.sender q.sender) (nat_cmp k.number q.number) rest in
    let last : nat_cmp k.number q.number ≡ Equal = sym (then-rest (part_cmp k.sender q.sender) (nat_cmp k.number q.number) second) ∙ rest in
    let r = equal-part k.receiver q.receiver first in
    let s = equal-part k.sender q.sender second in
    let n = equal-number k.number q.number last in
    λ i. record { receiver = r i; sender = s i; number = n i }

pub at-spot : (k q : Spot) → is_at (spot_cmp k) q ≡ true → k ≡ q
at-spot k q h = equal-spot k q (at-equal (spot_cmp k q) h)

-- what a greater spot says of its parts
pub receiver-not-below : (k q : Spot) → spot_cmp k q ≡ Less → is_below q.receiver k.receiver ≡ false
receiver-not-below k q h = sym (gt-is k.receiver q.receiver) ∙ then-less (part_cmp k.receiver q.receiver) (ordering_then (part_cmp k.sender q.sender) (nat_cmp k.number q.number)) h

behind-receiver : (k q : Spot) → k.receiver ≡ q.receiver → spot_cmp k q ≡ ordering_then (part_cmp k.sender q.sender) (nat_cmp k.number q.number)
behind-receiver k q e = then-rest (part_cmp k.receiver q.receiver) (ordering_then (part_cmp k.sender q.sender) (nat_cmp k.number q.number)) (part-equal k.receiver q.receiver e)

pub sender-not-below : (k q : Spot) → k.receiver ≡ q.receiver → spot_cmp k q ≡ Less → is_below q.sender k.sender ≡ false
sender-not-below k q e h = sym (gt-is k.sender q.sender) ∙ then-less (part_cmp k.sender q.sender) (nat_cmp k.number q.number) (sym (behind-receiver k q e) ∙ h)

-- in one queue the number decides
pub by-number : (k q : Spot) → k.receiver ≡ q.receiver → k.sender ≡ q.sender → spot_cmp k q ≡ nat_cmp k.number q.number
by-number k q e f = behind-receiver k q e ∙ then-rest (part_cmp k.sender q.sender) (nat_cmp k.number q.number) (part-equal k.sender q.sender f)

both : (a b : Bool) → (a && b) ≡ true → (a ≡ true) × (b ≡ true)
both true true h = (refl, refl)
both true false h = absurd (let bad : false ≡ true = h in cc)
both false b h = absurd (let bad : false ≡ true = h in cc)

both-true : (a b : Bool) → a ≡ true → b ≡ true → (a && b) ≡ true
both-true a b e f = ap (λ x. x && b) e ∙ f

pub between-parts : (s r : PartName) (k : Spot) → is_spot_between s r k ≡ true → (s ≡ k.sender) × (r ≡ k.receiver)
between-parts s r k h =
    let p = both (same_part s k.sender) (same_part r k.receiver) h in
    (part-is s k.sender p.0, part-is r k.receiver p.1)

pub parts-between : (s r : PartName) (k : Spot) → s ≡ k.sender → r ≡ k.receiver → is_spot_between s r k ≡ true
parts-between s r k e f = both-true (same_part s k.sender) (same_part r k.receiver) (subst (λ x. same_part s x ≡ true) e (part-refl s)) (subst (λ x. same_part r x ≡ true) f (part-refl r))

-- the first spot of a receiver, and of a queue
abbrev pub first_to : PartName → Spot
first_to r = record { receiver = r; sender = Desk; number = 0 }

abbrev pub first_between : PartName → PartName → Spot
first_between s r = record { receiver = r; sender = s; number = 0 }

zero-le : (n : ℕ) → is_le (nat_cmp 0 n) ≡ true
zero-le n = grind (arith, nat_tests)

pub reaches-queue : (s r : PartName) (k : Spot) → s ≡ k.sender → r ≡ k.receiver → is_le (spot_cmp (first_between s r) k) ≡ true
reaches-queue s r k e f = ap is_le (by-number (first_between s r) k f e) ∙ zero-le k.number

desk-first : (p : PartName) → is_gt (part_cmp Desk p) ≡ false
desk-first p = gt-is Desk p ∙ none p
  where
    none : (p : PartName) → is_below p Desk ≡ false
    none Desk = refl
    none (Client n) = refl
    none (Up n) = refl

le-then : (a b : Ordering) → is_gt a ≡ false → is_le b ≡ true → is_le (ordering_then a b) ≡ true
le-then Less b h k = refl
le-then Equal b h k = k
le-then Greater b h k = absurd (let bad : true ≡ false = h in cc)

pub reaches-receiver : (r : PartName) (k : Spot) → r ≡ k.receiver → is_le (spot_cmp (first_to r) k) ≡ true
reaches-receiver r k e = ap is_le (behind-receiver (first_to r) k e) ∙ le-then (part_cmp Desk k.sender) (nat_cmp 0 k.number) (desk-first k.sender) (zero-le k.number)

-- a spot between one of a receiver and the first of it is of it
pub stays-of-receiver : (r s : PartName) (k q : Spot) → is_le (spot_cmp (record { receiver = r; sender = s; number = 0 }) k) ≡ true → spot_cmp k q ≡ Less → r ≡ q.receiver → r ≡ k.receiver
stays-of-receiver r s k q l h e =
    let up = then-le (part_cmp r k.receiver) (ordering_then (part_cmp s k.sender) (nat_cmp 0 k.number)) l in
    part-is r k.receiver (neither-below r k.receiver (ap (λ x. is_below x k.receiver) e ∙ receiver-not-below k q h) (sym (gt-is r k.receiver) ∙ up))

pub stays-in-queue : (s r : PartName) (k q : Spot) → is_le (spot_cmp (first_between s r) k) ≡ true → spot_cmp k q ≡ Less → s ≡ q.sender → r ≡ q.receiver → is_spot_between s r k ≡ true
stays-in-queue s r k q l h e f =
    let same = stays-of-receiver r s k q l h f in
    let up = then-le (part_cmp s k.sender) (nat_cmp 0 k.number) (sym (ap is_le (behind-receiver (first_between s r) k same)) ∙ l) in
    let down = sender-not-below k q (sym same ∙ f) h in
    parts-between s r k (part-is s k.sender (neither-below s k.sender (ap (λ x. is_below x k.sender) e ∙ down) (sym (gt-is s k.sender) ∙ up))) same
