-- Counts of what is put at the end.
use Rattle.std.proofs.Common.{◌≡◌, ℕ, ◌+◌, ◌≤◌, Bool, true, false, ◌==◌, ◌&&◌, List, [], ◌∷◌, ◌++◌, ◌⊎◌, inl, inr, arith, refl}
use Rattle.std.proofs.lemmas.Bool.Decides.{nat_tests}
use Rattle.move_laws.specs.World.{ToDesk, Ask, Returned, ToChooser, Choice, ToConn, Forward, Drop, Leave, Signal, ToClient, Reply, Failed, Report, Ended, IsUp, IsRetired, IsDown, tail}
use Rattle.move_laws.specs.Counts.{num, asks, returns, choices, gos, forwards, drops, lasts, mores, endeds, DropsLast, LastsLast}

pub num_le : (b : Bool) → num b ≤ 1
num_le true = omega arith
num_le false = omega arith

pub same_number : (k j : ℕ) → (k == j) ≡ true → k ≡ j
same_number k j e = grind (arith, nat_tests)

pub same_self : (n : ℕ) → (n == n) ≡ true
same_self n = grind (arith, nat_tests)

pub and_true : (b : Bool) → (b && true) ≡ b
and_true true = refl
and_true false = refl

pub num_true : (b : Bool) → num b ≡ 1 → b ≡ true
num_true true e = refl
num_true false e = absurd (omega arith)

pub asks_append : (k : ℕ) (xs ys : List ToDesk) → asks k (xs ++ ys) ≡ asks k xs + asks k ys
asks_append k [] ys = omega arith
asks_append k (Ask j ∷ xs) ys = omega (arith, asks_append k xs ys)
asks_append k (Returned j v ∷ xs) ys = asks_append k xs ys

pub returns_append : (k u : ℕ) (xs ys : List ToDesk) → returns k u (xs ++ ys) ≡ returns k u xs + returns k u ys
returns_append k u [] ys = omega arith
returns_append k u (Ask j ∷ xs) ys = returns_append k u xs ys
returns_append k u (Returned j v ∷ xs) ys = omega (arith, returns_append k u xs ys)

pub choices_append : (k : ℕ) (xs ys : List ToChooser) → choices k (xs ++ ys) ≡ choices k xs + choices k ys
choices_append k [] ys = omega arith
choices_append k (Choice j a ∷ xs) ys = omega (arith, choices_append k xs ys)

pub gos_append : (k u : ℕ) (xs ys : List ToChooser) → gos k u (xs ++ ys) ≡ gos k u xs + gos k u ys
gos_append k u [] ys = omega arith
gos_append k u (Choice j a ∷ xs) ys = omega (arith, gos_append k u xs ys)

pub forwards_append : (k : ℕ) (xs ys : List ToConn) → forwards k (xs ++ ys) ≡ forwards k xs + forwards k ys
forwards_append k [] ys = omega arith
forwards_append k (Forward j h ∷ xs) ys = omega (arith, forwards_append k xs ys)
forwards_append k (Drop j ∷ xs) ys = forwards_append k xs ys
forwards_append k (Leave j ∷ xs) ys = forwards_append k xs ys
forwards_append k (Signal b ∷ xs) ys = forwards_append k xs ys

pub drops_append : (k : ℕ) (xs ys : List ToConn) → drops k (xs ++ ys) ≡ drops k xs + drops k ys
drops_append k [] ys = omega arith
drops_append k (Forward j h ∷ xs) ys = drops_append k xs ys
drops_append k (Drop j ∷ xs) ys = omega (arith, drops_append k xs ys)
drops_append k (Leave j ∷ xs) ys = drops_append k xs ys
drops_append k (Signal b ∷ xs) ys = drops_append k xs ys

pub lasts_append : (k : ℕ) (xs ys : List ToClient) → lasts k (xs ++ ys) ≡ lasts k xs + lasts k ys
lasts_append k [] ys = omega arith
lasts_append k (Reply j true stay ∷ xs) ys = omega (arith, lasts_append k xs ys)
lasts_append k (Reply j false stay ∷ xs) ys = lasts_append k xs ys
lasts_append k (Failed j ∷ xs) ys = omega (arith, lasts_append k xs ys)

pub mores_append : (k : ℕ) (xs ys : List ToClient) → mores k (xs ++ ys) ≡ mores k xs + mores k ys
mores_append k [] ys = omega arith
mores_append k (Reply j true stay ∷ xs) ys = mores_append k xs ys
mores_append k (Reply j false stay ∷ xs) ys = omega (arith, mores_append k xs ys)
mores_append k (Failed j ∷ xs) ys = mores_append k xs ys

pub endeds_append : (c k : ℕ) (xs ys : List Report) → endeds c k (xs ++ ys) ≡ endeds c k xs + endeds c k ys
endeds_append c k [] ys = omega arith
endeds_append c k (Ended a j ∷ xs) ys = omega (arith, endeds_append c k xs ys)
endeds_append c k (IsUp ∷ xs) ys = endeds_append c k xs ys
endeds_append c k (IsRetired ∷ xs) ys = endeds_append c k xs ys
endeds_append c k (IsDown ∷ xs) ys = endeds_append c k xs ys

no_more : (a b f g d : ℕ) → b ≤ 1 → (b ≡ 1 → a + d ≡ 0) → a ≡ 1 → f ≡ 0 → g ≡ f + b → g ≡ 0
no_more a b f g d le h one none sum = grind arith

-- letters may be put at the end where no drop waits of the operations that they forward
pub drops_last_append : (k : ℕ) (xs ys : List ToConn) → (forwards k ys ≡ 0 ⊎ drops k xs ≡ 0) → DropsLast k ys → DropsLast k xs → DropsLast k (xs ++ ys)
drops_last_append k [] ys h p o = p
drops_last_append k (Forward i g ∷ xs) ys h p o = drops_last_append k xs ys h p o
drops_last_append k (Leave i ∷ xs) ys h p o = drops_last_append k xs ys h p o
drops_last_append k (Signal b ∷ xs) ys h p o = drops_last_append k xs ys h p o
drops_last_append k (Drop i ∷ xs) ys (inl z) p o = (λ e. omega (arith, o.0 e, forwards_append k xs ys), drops_last_append k xs ys (inl z) p o.1)
drops_last_append k (Drop i ∷ xs) ys (inr z) p o = (λ e. absurd (omega arith), drops_last_append k xs ys (inr (omega arith)) p o.1)

pub lasts_last_append : (k : ℕ) (xs ys : List ToClient) → (mores k ys ≡ 0 ⊎ lasts k xs ≡ 0) → LastsLast k ys → LastsLast k xs → LastsLast k (xs ++ ys)
lasts_last_append k [] ys h p o = p
lasts_last_append k (Reply j true stay ∷ xs) ys (inl z) p o = (λ e. omega (arith, o.0 e, mores_append k xs ys), lasts_last_append k xs ys (inl z) p o.1)
lasts_last_append k (Reply j true stay ∷ xs) ys (inr z) p o = (λ e. absurd (omega arith), lasts_last_append k xs ys (inr (omega arith)) p o.1)
lasts_last_append k (Reply j false stay ∷ xs) ys h p o = lasts_last_append k xs ys h p o
lasts_last_append k (Failed j ∷ xs) ys (inl z) p o = (λ e. omega (arith, o.0 e, mores_append k xs ys), lasts_last_append k xs ys (inl z) p o.1)
lasts_last_append k (Failed j ∷ xs) ys (inr z) p o = (λ e. absurd (omega arith), lasts_last_append k xs ys (inr (omega arith)) p o.1)

pub drops_last_tail : (k : ℕ) (xs : List ToConn) → DropsLast k xs → DropsLast k (tail xs)
drops_last_tail k [] o = tt
drops_last_tail k (Forward j h ∷ xs) o = o
drops_last_tail k (Drop j ∷ xs) o = o.1
drops_last_tail k (Leave j ∷ xs) o = o
drops_last_tail k (Signal b ∷ xs) o = o

pub lasts_last_tail : (k : ℕ) (xs : List ToClient) → LastsLast k xs → LastsLast k (tail xs)
lasts_last_tail k [] o = tt
lasts_last_tail k (Reply j true stay ∷ xs) o = o.1
lasts_last_tail k (Reply j false stay ∷ xs) o = o
lasts_last_tail k (Failed j ∷ xs) o = o.1
