-- Each move keeps the desk's pair of one operation and one connection equal to what stands for it.
use Rattle.std.proofs.Common.{◌≡◌, ℕ, ◌+◌, Bool, true, false, ◌==◌, ◌&&◌, if◌then◌else◌, List, [], ◌∷◌, ◌++◌, Option, Some, None, arith, refl, ap, subst, add-zero}
use Rattle.move_laws.specs.World.{Kinds, Client, Desk, ToDesk, Ask, Returned, ToChooser, Choice, Report, Ended, IsUp, IsRetired, IsDown, at, tail}
use Rattle.move_laws.specs.Clients.{ask_letter, return_to, return_letter}
use Rattle.move_laws.specs.Desks.{chosen_for, choice_letter, choose, decide, hear}
use Rattle.move_laws.specs.Counts.{num, asks, returns, gos, endeds}
use Rattle.move_laws.specs.Agree.{Pended, PendedOf}
use Rattle.move_laws.proofs.Appends.{num_le, same_number, same_self, and_true, returns_append, gos_append}

-- a new Ask
pub pended_asks : (b g : Bool) (c k u stands : ℕ) (d : Desk) (x : Client) (qd : List ToDesk) (qc : List ToChooser) (rs : List Report) → PendedOf c k u d qd qc rs stands → PendedOf c k u d (if b then qd ++ ask_letter g x else qd) qc rs stands
pended_asks false g c k u stands d x qd qc rs h = h
pended_asks true false c k u stands d x qd qc rs h = simp (returns_append, add-zero) h
pended_asks true true c k u stands d x qd qc rs h = simp (returns_append, add-zero) h

-- A choice is taken: it is forwarded or returned.
forwarded : (p g r s e t n : ℕ) → Pended p (n + g) r s e t → Pended p g r (n + s) e t
forwarded p g r s e t n h = grind (arith, h)

given_back : (p g r s e t n : ℕ) → Pended p (n + g) r s e t → Pended p g (r + n) s e t
given_back p g r s e t n h = grind (arith, h)

-- what is forwarded by the first choice that waits
abbrev pub forwarding : ℕ → ℕ → Client → List ToChooser → ℕ
forwarding k u x [] = 0
forwarding k u x (Choice j a ∷ ls) = if x.live j then num ((k == j) && at a u) else 0

zero_add : (n : ℕ) → 0 + n ≡ n
zero_add n = omega arith

and_false : (b : Bool) → num (b && false) ≡ 0
and_false true = refl
and_false false = refl

choice_taken : (l : Bool) (j c k u stands : ℕ) (a : Option ℕ) (d : Desk) (qd : List ToDesk) (ls : List ToChooser) (rs : List Report) → PendedOf c k u d qd (Choice j a ∷ ls) rs stands
    → PendedOf c k u d (qd ++ return_to l j a) ls rs ((if l then num ((k == j) && at a u) else 0) + stands)
choice_taken true j c k u stands a d qd ls rs h = simp (returns_append, add-zero) (forwarded _ (gos k u ls) _ _ _ _ (num ((k == j) && at a u)) h)
choice_taken false j c k u stands None d qd ls rs h = let w = rw (and_false (k == j)) at h in simp (returns_append, add-zero) (grind (arith, w))
choice_taken false j c k u stands (Some v) d qd ls rs h = simp (returns_append, add-zero, zero_add) (given_back _ (gos k u ls) _ _ _ _ (num ((k == j) && (u == v))) h)

pub pended_choice : (c k u stands : ℕ) (d : Desk) (x : Client) (qd : List ToDesk) (ls : List ToChooser) (rs : List Report) → PendedOf c k u d qd ls rs stands
    → PendedOf c k u d (qd ++ return_letter ls x) (tail ls) rs (forwarding k u x ls + stands)
pended_choice c k u stands d x qd [] rs h = simp (returns_append, add-zero) (grind (arith, h))
pended_choice c k u stands d x qd (Choice j a ∷ ls) rs h = choice_taken (x.live j) j c k u stands a d qd ls rs h

-- The desk decides: a pair is pending from the choice on.
decided : (g r s e : ℕ) (p t o b : Bool) → (b ≡ true → t ≡ false) → Pended (num p) g r s e (num t)
    → Pended (num (if b && o then true else p)) (g + num (b && o)) r s e (num (if b then true else t))
decided g r s e p true o true z h = absurd (let bad : true ≡ false = z refl in cc)
decided g r s e p false true true z h = grind (arith, h)
decided g r s e p false false true z h = grind (arith, h)
decided g r s e p t o false z h = grind (arith, h)

chosen_none : (g r s e : ℕ) (p t b : Bool) → Pended (num p) g r s e (num t) → Pended (num p) (g + num (b && false)) r s e (num (if b then true else t))
chosen_none g r s e p true true h = grind (arith, h)
chosen_none g r s e p false true h = grind (arith, h)
chosen_none g r s e p t false h = grind (arith, h)

choose_own : (bind : Bool) (a c j k u stands : ℕ) (o : Option ℕ) (d : Desk) (qd : List ToDesk) (qc : List ToChooser) (rs : List Report) → (c == a) ≡ true → ((k == j) ≡ true → d.took c k ≡ false)
    → PendedOf c k u d qd qc rs stands → PendedOf c k u (choose bind a j o d) qd (qc ++ Choice j o ∷ []) rs stands
choose_own bind a c j k u stands None d qd qc rs e z h = rw e (simp (gos_append, add-zero) (chosen_none (gos k u qc) _ _ _ (d.pending c k u) (d.took c k) (k == j) h))
choose_own bind a c j k u stands (Some v) d qd qc rs e z h = rw e (simp (gos_append, add-zero) (decided (gos k u qc) _ _ _ (d.pending c k u) (d.took c k) (u == v) (k == j) z h))

choose_other : (bind : Bool) (a c j k u stands : ℕ) (o : Option ℕ) (d : Desk) (qd : List ToDesk) (qc : List ToChooser) (rs : List Report) → (c == a) ≡ false
    → PendedOf c k u d qd qc rs stands → PendedOf c k u (choose bind a j o d) qd qc rs stands
choose_other bind a c j k u stands None d qd qc rs e h = rw e h
choose_other bind a c j k u stands (Some v) d qd qc rs e h = rw e h

-- a pair ended, or was returned
returned : (g r s e t : ℕ) (p b : Bool) → Pended (num p) g (num b + r) s e t → Pended (num (if b then false else p)) g r s e t
returned g r s e t true true h = grind (arith, h)
returned g r s e t false true h = absurd (omega (arith, h))
returned g r s e t p false h = grind (arith, h)

over : (g r s e t : ℕ) (p b : Bool) → Pended (num p) g r s (num b + e) t → Pended (num (if b then false else p)) g r s e t
over g r s e t true true h = grind (arith, h)
over g r s e t false true h = absurd (omega (arith, h))
over g r s e t p false h = grind (arith, h)

untaken : (k j t : ℕ) (a b : Bool) → (k == j) ≡ true → num a ≡ (num (k == j) + t) + num b → b ≡ false
untaken k j t a true e h = let one = ap num e in absurd (omega (arith, num_le a))
untaken k j t a false e h = refl

decides_own : (kinds : Kinds) (c k u stands : ℕ) (ans : Option ℕ) (asked : Bool) (qd : List ToDesk) (qc : List ToChooser) (rs : List Report) (d : Desk) → num asked ≡ asks k qd + num (d.took c k)
    → PendedOf c k u d qd qc rs stands → PendedOf c k u (decide kinds c qd ans d) (tail qd) (qc ++ choice_letter kinds c qd ans d) rs stands
decides_own kinds c k u stands ans asked [] qc rs d z h = simp (gos_append, add-zero) h
decides_own kinds c k u stands ans asked (Ask j ∷ ls) qc rs d z h =
    choose_own (kinds.bind_op c j) c c j k u stands (chosen_for kinds d c j ans) d ls qc rs (same_self c) (λ e. untaken k j (asks k ls) asked (d.took c k) e z) h
decides_own kinds c k u stands ans asked (Returned j v ∷ ls) qc rs d z h = rw (same_self c) (simp (gos_append, add-zero) (returned _ (returns k u ls) _ _ _ (d.pending c k u) ((k == j) && (u == v)) h))

decides_other : (kinds : Kinds) (a c k u stands : ℕ) (ans : Option ℕ) (ls qd : List ToDesk) (qc : List ToChooser) (rs : List Report) (d : Desk) → (c == a) ≡ false
    → PendedOf c k u d qd qc rs stands → PendedOf c k u (decide kinds a ls ans d) qd qc rs stands
decides_other kinds a c k u stands ans [] qd qc rs d e h = h
decides_other kinds a c k u stands ans (Ask j ∷ ls) qd qc rs d e h = choose_other (kinds.bind_op a j) a c j k u stands (chosen_for kinds d a j ans) d qd qc rs e h
decides_other kinds a c k u stands ans (Returned j v ∷ ls) qd qc rs d e h = rw e h

pub pended_decides : (b : Bool) (kinds : Kinds) (a c k u stands : ℕ) (ans : Option ℕ) (asked : Bool) (to_desk : ℕ → List ToDesk) (qc : List ToChooser) (rs : List Report) (d : Desk) → (c == a) ≡ b → num asked ≡ asks k (to_desk c) + num (d.took c k)
    → PendedOf c k u d (to_desk c) qc rs stands
    → PendedOf c k u (decide kinds a (to_desk a) ans d) (if b then tail (to_desk c) else to_desk c) (if b then qc ++ choice_letter kinds c (to_desk c) ans d else qc) rs stands
pended_decides true kinds a c k u stands ans asked to_desk qc rs d e z h =
    subst (λ (i : ℕ). PendedOf c k u (decide kinds i (to_desk i) ans d) (tail (to_desk c)) (qc ++ choice_letter kinds c (to_desk c) ans d) rs stands) (same_number c a e) (decides_own kinds c k u stands ans asked (to_desk c) qc rs d z h)
pended_decides false kinds a c k u stands ans asked to_desk qc rs d e z h = decides_other kinds a c k u stands ans (to_desk a) (to_desk c) qc rs d e h

-- the desk hears of this connection, or of another
hears_own : (kinds : Kinds) (c k u stands : ℕ) (qd : List ToDesk) (qc : List ToChooser) (rs : List Report) (d : Desk) → PendedOf c k u d qd qc rs stands → PendedOf c k u (hear kinds u rs d) qd qc (tail rs) stands
hears_own kinds c k u stands qd qc [] d h = h
hears_own kinds c k u stands qd qc (Ended a j ∷ rs) d h = rw (same_self u) (simp and_true (over _ _ _ (endeds c k rs) _ (d.pending c k u) ((c == a) && (k == j)) h))
hears_own kinds c k u stands qd qc (IsUp ∷ rs) d h = h
hears_own kinds c k u stands qd qc (IsRetired ∷ rs) d h = h
hears_own kinds c k u stands qd qc (IsDown ∷ rs) d h = h

neither : (a b : Bool) → (a && (b && false)) ≡ false
neither true true = refl
neither true false = refl
neither false b = refl

hears_other : (kinds : Kinds) (v c k u stands : ℕ) (ls rs : List Report) (qd : List ToDesk) (qc : List ToChooser) (d : Desk) → (u == v) ≡ false → PendedOf c k u d qd qc rs stands → PendedOf c k u (hear kinds v ls d) qd qc rs stands
hears_other kinds v c k u stands [] rs qd qc d e h = h
hears_other kinds v c k u stands (Ended a j ∷ ls) rs qd qc d e h = rw (e, neither (c == a) (k == j)) h
hears_other kinds v c k u stands (IsUp ∷ ls) rs qd qc d e h = h
hears_other kinds v c k u stands (IsRetired ∷ ls) rs qd qc d e h = h
hears_other kinds v c k u stands (IsDown ∷ ls) rs qd qc d e h = h

pub pended_hears : (b : Bool) (kinds : Kinds) (v c k u stands : ℕ) (reports : ℕ → List Report) (qd : List ToDesk) (qc : List ToChooser) (d : Desk) → (u == v) ≡ b → PendedOf c k u d qd qc (reports u) stands
    → PendedOf c k u (hear kinds v (reports v) d) qd qc (if b then tail (reports u) else reports u) stands
pended_hears true kinds v c k u stands reports qd qc d e h = subst (λ (i : ℕ). PendedOf c k u (hear kinds i (reports i) d) qd qc (tail (reports u)) stands) (same_number u v e) (hears_own kinds c k u stands qd qc (reports u) d h)
pended_hears false kinds v c k u stands reports qd qc d e h = hears_other kinds v c k u stands (reports v) (reports u) qd qc d e h
