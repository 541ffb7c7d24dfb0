-- How often an operation is named by what waits.
use Rattle.std.specs.Prelude.{◌≡◌, ℕ, ◌+◌, Bool, true, false, ◌==◌, ◌&&◌, not, List, [], ◌∷◌}
use Rattle.move_laws.specs.World.{ToDesk, Ask, Returned, ToChooser, Choice, ToConn, Forward, Drop, Leave, Signal, ToClient, Reply, Failed, Report, Ended, IsUp, IsRetired, IsDown, at}

abbrev pub num : Bool → ℕ
num true = 1
num false = 0

abbrev pub asks : ℕ → List ToDesk → ℕ
asks k [] = 0
asks k (Ask j ∷ ls) = num (k == j) + asks k ls
asks k (Returned j v ∷ ls) = asks k ls

abbrev pub returns : ℕ → ℕ → List ToDesk → ℕ
returns k u [] = 0
returns k u (Ask j ∷ ls) = returns k u ls
returns k u (Returned j v ∷ ls) = num ((k == j) && (u == v)) + returns k u ls

abbrev pub choices : ℕ → List ToChooser → ℕ
choices k [] = 0
choices k (Choice j a ∷ ls) = num (k == j) + choices k ls

-- the choices of connection u
abbrev pub gos : ℕ → ℕ → List ToChooser → ℕ
gos k u [] = 0
gos k u (Choice j a ∷ ls) = num ((k == j) && at a u) + gos k u ls

abbrev pub forwards : ℕ → List ToConn → ℕ
forwards k [] = 0
forwards k (Forward j h ∷ ls) = num (k == j) + forwards k ls
forwards k (Drop j ∷ ls) = forwards k ls
forwards k (Leave j ∷ ls) = forwards k ls
forwards k (Signal b ∷ ls) = forwards k ls

abbrev pub drops : ℕ → List ToConn → ℕ
drops k [] = 0
drops k (Forward j h ∷ ls) = drops k ls
drops k (Drop j ∷ ls) = num (k == j) + drops k ls
drops k (Leave j ∷ ls) = drops k ls
drops k (Signal b ∷ ls) = drops k ls

-- last Replies and Faileds
abbrev pub lasts : ℕ → List ToClient → ℕ
lasts k [] = 0
lasts k (Reply j true stay ∷ ls) = num (k == j) + lasts k ls
lasts k (Reply j false stay ∷ ls) = lasts k ls
lasts k (Failed j ∷ ls) = num (k == j) + lasts k ls

-- Replies that aren't the last
abbrev pub mores : ℕ → List ToClient → ℕ
mores k [] = 0
mores k (Reply j true stay ∷ ls) = mores k ls
mores k (Reply j false stay ∷ ls) = num (k == j) + mores k ls
mores k (Failed j ∷ ls) = mores k ls

abbrev pub endeds : ℕ → ℕ → List Report → ℕ
endeds c k [] = 0
endeds c k (Ended a j ∷ ls) = num ((c == a) && (k == j)) + endeds c k ls
endeds c k (IsUp ∷ ls) = endeds c k ls
endeds c k (IsRetired ∷ ls) = endeds c k ls
endeds c k (IsDown ∷ ls) = endeds c k ls

-- no Forward of k stands behind a Drop of k
abbrev pub DropsLast : ℕ → List ToConn → Type 0
DropsLast k [] = Unit {0}
DropsLast k (Forward j h ∷ ls) = DropsLast k ls
DropsLast k (Drop j ∷ ls) = (num (k == j) ≡ 1 → forwards k ls ≡ 0) × DropsLast k ls
DropsLast k (Leave j ∷ ls) = DropsLast k ls
DropsLast k (Signal b ∷ ls) = DropsLast k ls

-- no Reply of k stands behind a last one or a Failed of k
abbrev pub LastsLast : ℕ → List ToClient → Type 0
LastsLast k [] = Unit {0}
LastsLast k (Reply j true stay ∷ ls) = (num (k == j) ≡ 1 → mores k ls ≡ 0) × LastsLast k ls
LastsLast k (Reply j false stay ∷ ls) = LastsLast k ls
LastsLast k (Failed j ∷ ls) = (num (k == j) ≡ 1 → mores k ls ≡ 0) × LastsLast k ls

-- first Forwards: those of the operation that was chosen
abbrev pub firsts : ℕ → List ToConn → ℕ
firsts k [] = 0
firsts k (Forward j h ∷ ls) = num ((k == j) && (j == h)) + firsts k ls
firsts k (Drop j ∷ ls) = firsts k ls
firsts k (Leave j ∷ ls) = firsts k ls
firsts k (Signal b ∷ ls) = firsts k ls

abbrev pub ups : List Report → ℕ
ups [] = 0
ups (Ended a j ∷ ls) = ups ls
ups (IsUp ∷ ls) = 1 + ups ls
ups (IsRetired ∷ ls) = ups ls
ups (IsDown ∷ ls) = ups ls

abbrev pub retireds : List Report → ℕ
retireds [] = 0
retireds (Ended a j ∷ ls) = retireds ls
retireds (IsUp ∷ ls) = retireds ls
retireds (IsRetired ∷ ls) = 1 + retireds ls
retireds (IsDown ∷ ls) = retireds ls

abbrev pub downs : List Report → ℕ
downs [] = 0
downs (Ended a j ∷ ls) = downs ls
downs (IsUp ∷ ls) = downs ls
downs (IsRetired ∷ ls) = downs ls
downs (IsDown ∷ ls) = 1 + downs ls

-- no IsUp stands behind an IsRetired, and neither behind an IsDown
abbrev pub FlagsOrdered : List Report → Type 0
FlagsOrdered [] = Unit {0}
FlagsOrdered (Ended a j ∷ ls) = FlagsOrdered ls
FlagsOrdered (IsUp ∷ ls) = FlagsOrdered ls
FlagsOrdered (IsRetired ∷ ls) = (ups ls ≡ 0) × FlagsOrdered ls
FlagsOrdered (IsDown ∷ ls) = (ups ls + retireds ls ≡ 0) × FlagsOrdered ls

-- all Forwards
abbrev pub sends : List ToConn → ℕ
sends [] = 0
sends (Forward j h ∷ ls) = 1 + sends ls
sends (Drop j ∷ ls) = sends ls
sends (Leave j ∷ ls) = sends ls
sends (Signal b ∷ ls) = sends ls

-- Forwards under a holder
abbrev pub unders : ℕ → List ToConn → ℕ
unders h [] = 0
unders h (Forward j g ∷ ls) = num (h == g) + unders h ls
unders h (Drop j ∷ ls) = unders h ls
unders h (Leave j ∷ ls) = unders h ls
unders h (Signal b ∷ ls) = unders h ls

abbrev pub leaves : ℕ → List ToConn → ℕ
leaves h [] = 0
leaves h (Forward j g ∷ ls) = leaves h ls
leaves h (Drop j ∷ ls) = leaves h ls
leaves h (Leave j ∷ ls) = num (h == j) + leaves h ls
leaves h (Signal b ∷ ls) = leaves h ls

-- last Replies after which no holder stays, and Faileds
abbrev pub finals : ℕ → List ToClient → ℕ
finals k [] = 0
finals k (Reply j true true ∷ ls) = finals k ls
finals k (Reply j true false ∷ ls) = num (k == j) + finals k ls
finals k (Reply j false stay ∷ ls) = finals k ls
finals k (Failed j ∷ ls) = num (k == j) + finals k ls

-- no Forward under h stands behind a Leave of h
abbrev pub LeavesLast : ℕ → List ToConn → Type 0
LeavesLast h [] = Unit {0}
LeavesLast h (Forward j g ∷ ls) = LeavesLast h ls
LeavesLast h (Drop j ∷ ls) = LeavesLast h ls
LeavesLast h (Leave j ∷ ls) = (num (h == j) ≡ 1 → unders h ls ≡ 0) × LeavesLast h ls
LeavesLast h (Signal b ∷ ls) = LeavesLast h ls

-- Pauses and their ends
abbrev pub signals : List ToConn → ℕ
signals [] = 0
signals (Forward j h ∷ ls) = signals ls
signals (Drop j ∷ ls) = signals ls
signals (Leave j ∷ ls) = signals ls
signals (Signal b ∷ ls) = 1 + signals ls

-- they alternate, from what the connection was told to what the client told it
abbrev pub Alternates : Bool → List ToConn → Bool → Type 0
Alternates here [] told = here ≡ told
Alternates here (Forward j h ∷ ls) told = Alternates here ls told
Alternates here (Drop j ∷ ls) told = Alternates here ls told
Alternates here (Leave j ∷ ls) told = Alternates here ls told
Alternates here (Signal b ∷ ls) told = (here ≡ not b) × Alternates b ls told
