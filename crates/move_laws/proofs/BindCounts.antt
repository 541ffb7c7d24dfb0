-- Counts of Forwards under a holder, of Leaves and of final answers.
use Rattle.std.proofs.Common.{◌≡◌, ℕ, ◌+◌, ◌≤◌, Bool, true, false, ◌==◌, ◌&&◌, List, [], ◌∷◌, ◌++◌, Option, Some, None, ◌⊎◌, inl, inr, arith, refl}
use Rattle.std.proofs.lemmas.Bool.Decides.{nat_tests}
use Rattle.move_laws.specs.World.{Op, ToConn, Forward, Drop, Leave, Signal, ToClient, Reply, Failed, is, tail}
use Rattle.move_laws.specs.Counts.{num, forwards, firsts, sends, unders, leaves, lasts, finals, LeavesLast}
use Rattle.move_laws.proofs.Appends.{num_le, same_number}

pub firsts_append : (k : ℕ) (xs ys : List ToConn) → firsts k (xs ++ ys) ≡ firsts k xs + firsts k ys
firsts_append k [] ys = omega arith
firsts_append k (Forward j h ∷ xs) ys = omega (arith, firsts_append k xs ys)
firsts_append k (Drop j ∷ xs) ys = firsts_append k xs ys
firsts_append k (Leave j ∷ xs) ys = firsts_append k xs ys
firsts_append k (Signal b ∷ xs) ys = firsts_append k xs ys

pub sends_append : (xs ys : List ToConn) → sends (xs ++ ys) ≡ sends xs + sends ys
sends_append [] ys = omega arith
sends_append (Forward j h ∷ xs) ys = omega (arith, sends_append xs ys)
sends_append (Drop j ∷ xs) ys = sends_append xs ys
sends_append (Leave j ∷ xs) ys = sends_append xs ys
sends_append (Signal b ∷ xs) ys = sends_append xs ys

pub unders_append : (h : ℕ) (xs ys : List ToConn) → unders h (xs ++ ys) ≡ unders h xs + unders h ys
unders_append h [] ys = omega arith
unders_append h (Forward j g ∷ xs) ys = omega (arith, unders_append h xs ys)
unders_append h (Drop j ∷ xs) ys = unders_append h xs ys
unders_append h (Leave j ∷ xs) ys = unders_append h xs ys
unders_append h (Signal b ∷ xs) ys = unders_append h xs ys

pub leaves_append : (h : ℕ) (xs ys : List ToConn) → leaves h (xs ++ ys) ≡ leaves h xs + leaves h ys
leaves_append h [] ys = omega arith
leaves_append h (Forward j g ∷ xs) ys = leaves_append h xs ys
leaves_append h (Drop j ∷ xs) ys = leaves_append h xs ys
leaves_append h (Leave j ∷ xs) ys = omega (arith, leaves_append h xs ys)
leaves_append h (Signal b ∷ xs) ys = leaves_append h xs ys

pub finals_append : (k : ℕ) (xs ys : List ToClient) → finals k (xs ++ ys) ≡ finals k xs + finals k ys
finals_append k [] ys = omega arith
finals_append k (Reply j true true ∷ xs) ys = finals_append k xs ys
finals_append k (Reply j true false ∷ xs) ys = omega (arith, finals_append k xs ys)
finals_append k (Reply j false stay ∷ xs) ys = finals_append k xs ys
finals_append k (Failed j ∷ xs) ys = omega (arith, finals_append k xs ys)

pub finals_le : (k : ℕ) (xs : List ToClient) → finals k xs ≤ lasts k xs
finals_le k [] = omega arith
finals_le k (Reply j true true ∷ xs) = omega (arith, finals_le k xs)
finals_le k (Reply j true false ∷ xs) = omega (arith, finals_le k xs)
finals_le k (Reply j false stay ∷ xs) = finals_le k xs
finals_le k (Failed j ∷ xs) = omega (arith, finals_le k xs)

pub forwards_le : (k : ℕ) (xs : List ToConn) → forwards k xs ≤ sends xs
forwards_le k [] = omega arith
forwards_le k (Forward j h ∷ xs) = omega (arith, forwards_le k xs, num_le (k == j))
forwards_le k (Drop j ∷ xs) = forwards_le k xs
forwards_le k (Leave j ∷ xs) = forwards_le k xs
forwards_le k (Signal b ∷ xs) = forwards_le k xs

pub unders_le : (h : ℕ) (xs : List ToConn) → unders h xs ≤ sends xs
unders_le h [] = omega arith
unders_le h (Forward j g ∷ xs) = omega (arith, unders_le h xs, num_le (h == g))
unders_le h (Drop j ∷ xs) = unders_le h xs
unders_le h (Leave j ∷ xs) = unders_le h xs
unders_le h (Signal b ∷ xs) = unders_le h xs

first_under : (a : Bool) (h j g : ℕ) → (h == j) ≡ a → num (a && (j == g)) ≤ num (h == g)
first_under true h j g e = rw (same_number h j e) (omega arith)
first_under false h j g e = omega arith

pub firsts_le : (h : ℕ) (xs : List ToConn) → firsts h xs ≤ unders h xs
firsts_le h [] = omega arith
firsts_le h (Forward j g ∷ xs) = omega (arith, firsts_le h xs, first_under (h == j) h j g refl)
firsts_le h (Drop j ∷ xs) = firsts_le h xs
firsts_le h (Leave j ∷ xs) = firsts_le h xs
firsts_le h (Signal b ∷ xs) = firsts_le h xs

pub leaves_last_append : (h : ℕ) (xs ys : List ToConn) → (unders h ys ≡ 0 ⊎ leaves h xs ≡ 0) → LeavesLast h ys → LeavesLast h xs → LeavesLast h (xs ++ ys)
leaves_last_append h [] ys p q o = q
leaves_last_append h (Forward j g ∷ xs) ys p q o = leaves_last_append h xs ys p q o
leaves_last_append h (Drop j ∷ xs) ys p q o = leaves_last_append h xs ys p q o
leaves_last_append h (Leave j ∷ xs) ys (inl z) q o = (λ e. omega (arith, o.0 e, unders_append h xs ys), leaves_last_append h xs ys (inl z) q o.1)
leaves_last_append h (Leave j ∷ xs) ys (inr z) q o = (λ e. absurd (omega arith), leaves_last_append h xs ys (inr (omega arith)) q o.1)
leaves_last_append h (Signal b ∷ xs) ys z q o = leaves_last_append h xs ys z q o

pub leaves_last_tail : (h : ℕ) (xs : List ToConn) → LeavesLast h xs → LeavesLast h (tail xs)
leaves_last_tail h [] o = tt
leaves_last_tail h (Forward j g ∷ xs) o = o
leaves_last_tail h (Drop j ∷ xs) o = o
leaves_last_tail h (Leave j ∷ xs) o = o.1
leaves_last_tail h (Signal b ∷ xs) o = o

-- the one of an option is one
pub is_one : (o : Option Op) (a c j k : ℕ) → is o a j ≡ true → is o c k ≡ true → (a ≡ c) × (j ≡ k)
is_one None a c j k p q = absurd (cc)
is_one (Some o) a c j k p q = (grind (arith, nat_tests, p, q), grind (arith, nat_tests, p, q))
