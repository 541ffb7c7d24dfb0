-- The turn that comes first among those that remain, and what remains behind it.
use Rattle.std.proofs.Common.{◌≡◌, ℕ, zero, suc, ◌+◌, ◌<◌, ◌≤◌, Bool, true, false, ◌&&◌, ◌||◌, if◌then◌else◌, List, [], ◌∷◌, ◌++◌, length, refl, ap, ◌∙◌, sym, subst, arith, le_refl}
use Rattle.std.specs.Prelude.{◌==◌, Option, Some, None, cond, nat_lt, flat_map, map, filter, sum}
use Rattle.std.specs.List.{list_any, fold}
use Rattle.std.proofs.lemmas.Bool.{eqb-true, eq-eqb, ltb-true, ltb-false}
use Rattle.lload_names.specs.declared.names.PartName.{PartName}
use Rattle.lload_names.specs.declared.names.PartName.TheVariants.{Desk, Client, Up as Connection}
use Rattle.lload_spec.specs.Journal.{same_part}
use Rattle.lload_spec.proofs.Growth.{left}
use Rattle.part_spec.specs.Merge.{first_turn, comes_before, earliest_of, earliest, later_turns, without_turn, merge_within, remaining_of, turns_of}
use Rattle.part_spec.specs.Stamps.{Turn}
use Rattle.part_spec.specs.World.{PartTurn, is_below}
use Rattle.link_laws.proofs.Entries.{same_part_is}

-- Parts by their names.

pub part_same : (p : PartName) → same_part p p ≡ true
part_same Desk = refl
part_same (Client c) = eq-eqb c c refl
part_same (Connection u) = eq-eqb u u refl

pub others_apart : (p q : PartName) → same_part p q ≡ false → same_part q p ≡ false
others_apart p q h = by (same_part q p) refl
  where
    by : (b : Bool) → same_part q p ≡ b → b ≡ false
    by true e = absurd (let bad : true ≡ false = sym (part_same p) ∙ ap (same_part p) (sym (same_part_is q p e)) ∙ h in cc)
    by false e = refl

-- what holds of each of these turns
abbrev pub Each : (PartTurn → Type 0) → List PartTurn → Type 0
Each P [] = Unit {0}
Each P (t ∷ ts) = P t × Each P ts

-- The one that comes first is one of them, and no stamp is below its own.

-- the one of two that comes first
abbrev sooner : PartTurn → PartTurn → PartTurn
sooner a b = if comes_before b a then b else a

picked : (P : PartTurn → Type 0) (a : PartTurn) (bs : List PartTurn) → P a → Each P bs → P (earliest_of a bs)
picked P a [] h k = h
picked P a (b ∷ bs) h k = picked P (sooner a b) bs (by (comes_before b a)) k.1
  where
    by : (t : Bool) → P (if t then b else a)
    by true = k.0
    by false = h

abbrev IsLeast : PartTurn → PartTurn → Type 0
IsLeast r b = r.turn.stamp ≤ b.turn.stamp

weaker : (r : PartTurn) (a b : PartTurn) → IsLeast r a → IsLeast a b → IsLeast r b
weaker r a b h k = let x : r.turn.stamp ≤ a.turn.stamp = h in let y : a.turn.stamp ≤ b.turn.stamp = k in omega (arith, x, y)

least : (a : PartTurn) (bs : List PartTurn) → IsLeast (earliest_of a bs) a × Each (IsLeast (earliest_of a bs)) bs
least a [] = (le_refl a.turn.stamp, tt)
least a (b ∷ bs) =
    let both : IsLeast (sooner a b) a × IsLeast (sooner a b) b = smaller (comes_before b a) refl in
    let rest : IsLeast (earliest_of (sooner a b) bs) (sooner a b) × Each (IsLeast (earliest_of (sooner a b) bs)) bs = least (sooner a b) bs in
    (weaker (earliest_of (sooner a b) bs) (sooner a b) a rest.0 both.0, (weaker (earliest_of (sooner a b) bs) (sooner a b) b rest.0 both.1, rest.1))
  where
    below : (t : Bool) → nat_lt b.turn.stamp a.turn.stamp ≡ t → (t || b.turn.stamp == a.turn.stamp && is_below b.part a.part) ≡ true → IsLeast b a
    below true e h = let low : b.turn.stamp < a.turn.stamp = ltb-true b.turn.stamp a.turn.stamp e in omega (arith, low)
    below false e h = let same : b.turn.stamp ≡ a.turn.stamp = eqb-true b.turn.stamp a.turn.stamp (left (b.turn.stamp == a.turn.stamp) _ h) in omega (arith, same)

    above : (t : Bool) → nat_lt b.turn.stamp a.turn.stamp ≡ t → (t || b.turn.stamp == a.turn.stamp && is_below b.part a.part) ≡ false → IsLeast a b
    above true e h = absurd (let bad : true ≡ false = h in cc)
    above false e h = ltb-false b.turn.stamp a.turn.stamp e

    smaller : (t : Bool) → comes_before b a ≡ t → IsLeast (if t then b else a) a × IsLeast (if t then b else a) b
    smaller true e = (below (nat_lt b.turn.stamp a.turn.stamp) refl e, le_refl b.turn.stamp)
    smaller false e = (le_refl a.turn.stamp, above (nat_lt b.turn.stamp a.turn.stamp) refl e)

some_picked : (P : PartTurn → Type 0) (ts : List PartTurn) (t : PartTurn) → earliest ts ≡ Some t → Each P ts → P t
some_picked P [] t e k = absurd (let bad : earliest [] ≡ Some t = e in cc)
some_picked P (a ∷ bs) t e k = let same : earliest_of a bs ≡ t = cc in subst P same (picked P a bs k.0 k.1)

some_least : (ts : List PartTurn) (t : PartTurn) → earliest ts ≡ Some t → Each (IsLeast t) ts
some_least [] t e = tt
some_least (a ∷ bs) t e = let same : earliest_of a bs ≡ t = cc in subst (λ r. Each (IsLeast r) (a ∷ bs)) same (least a bs)

pub none_earliest : (ts : List PartTurn) → earliest ts ≡ None → ts ≡ []
none_earliest [] e = refl
none_earliest (a ∷ bs) e = absurd (let bad : earliest (a ∷ bs) ≡ None = e in cc)

-- The first turns of what remains of these parts.

module _ (rest : PartName → List Turn) where
  abbrev pub firsts : List PartName → List PartTurn
  firsts ps = flat_map first_turn (map (remaining_of rest) ps)

  -- a turn is the first one that remains of its part
  pub record Front (t : PartTurn) : Type 0 where
    pub later : List Turn
    pub is_first : rest t.part ≡ t.turn ∷ later

  abbrev firsts_with : PartName → List Turn → List PartName → List PartTurn
  firsts_with p l ps = (elim l [ [] ↦ [] | t ∷ ts ↦ record { part = p; turn = t } ∷ [] ]) ++ firsts ps

  fronts : (ps : List PartName) → Each Front (firsts ps)
  fronts [] = tt
  fronts (p ∷ ps) = by (rest p) refl (fronts ps)
    where
      by : (l : List Turn) → rest p ≡ l → Each Front (firsts ps) → Each Front (firsts_with p l ps)
      by [] e ih = ih
      by (t ∷ ts) e ih = (record { later = ts; is_first = e }, ih)

  -- a part that isn't among these has none of them
  apart : (q : PartName) (ps : List PartName) → list_any (same_part q) ps ≡ false → Each (λ t. same_part q t.part ≡ false) (firsts ps)
  apart q [] h = tt
  apart q (p ∷ ps) h = by (same_part q p) refl h (rest p) (apart q ps)
    where
      by : (b : Bool) → same_part q p ≡ b → (b || list_any (same_part q) ps) ≡ false → (l : List Turn) → (list_any (same_part q) ps ≡ false → Each (λ t. same_part q t.part ≡ false) (firsts ps)) → Each (λ t. same_part q t.part ≡ false) (firsts_with p l ps)
      by true e k l ih = absurd (let bad : true ≡ false = k in cc)
      by false e k [] ih = ih k
      by false e k (t ∷ ts) ih = (e, ih k)

  -- no stamp of a first turn is below a least one
  least_of : (r : PartTurn) (ps : List PartName) → Each (IsLeast r) (firsts ps) → (p : PartName) → list_any (same_part p) ps ≡ true → (t : Turn) (ts : List Turn) → rest p ≡ t ∷ ts → r.turn.stamp ≤ t.stamp
  least_of r [] h p k t ts e = absurd (let bad : false ≡ true = k in cc)
  least_of r (q ∷ ps) h p k t ts e = by (same_part p q) refl k (rest q) refl h (λ i j. least_of r ps i p j t ts e)
    where
      by : (b : Bool) → same_part p q ≡ b → (b || list_any (same_part p) ps) ≡ true → (l : List Turn) → rest q ≡ l → Each (IsLeast r) (firsts_with q l ps) → (Each (IsLeast r) (firsts ps) → list_any (same_part p) ps ≡ true → r.turn.stamp ≤ t.stamp) → r.turn.stamp ≤ t.stamp
      by true z j [] f i ih = absurd (let bad : t ∷ ts ≡ [] = sym e ∙ ap rest (same_part_is p q z) ∙ f in cc)
      by true z j (u ∷ us) f i ih =
          let same : u ∷ us ≡ t ∷ ts = sym f ∙ ap rest (sym (same_part_is p q z)) ∙ e in
          let first : u ≡ t = cc in
          subst (λ x. r.turn.stamp ≤ x.stamp) first i.0
      by false z j [] f i ih = ih i j
      by false z j (u ∷ us) f i ih = ih i.1 j

  -- where there is no first turn, nothing remains
  pub none_left : (ps : List PartName) → firsts ps ≡ [] → (p : PartName) → list_any (same_part p) ps ≡ true → rest p ≡ []
  none_left [] h p k = absurd (let bad : false ≡ true = k in cc)
  none_left (q ∷ ps) h p k = by (same_part p q) refl k (rest q) refl h (λ i. none_left ps i p)
    where
      by : (b : Bool) → same_part p q ≡ b → (b || list_any (same_part p) ps) ≡ true → (l : List Turn) → rest q ≡ l → firsts_with q l ps ≡ [] → (firsts ps ≡ [] → list_any (same_part p) ps ≡ true → rest p ≡ []) → rest p ≡ []
      by true z j [] f i ih = ap rest (same_part_is p q z) ∙ f
      by false z j [] f i ih = ih i j
      by b z j (t ∷ ts) f i ih = absurd (let bad : record { part = q; turn = t } ∷ firsts ps ≡ [] = i in cc)

  -- What remains behind a turn.

  module _ (t : PartTurn) where
    pub after : PartName → List Turn
    after p = (without_turn t.part (remaining_of rest p)).turns

    pub remains_after : (ps : List PartName) → map (without_turn t.part) (map (remaining_of rest) ps) ≡ map (remaining_of after) ps
    unfolding after
    remains_after [] = refl
    remains_after (p ∷ ps) = ap (λ l. without_turn t.part (remaining_of rest p) ∷ l) (remains_after ps)

    pub after_own : (f : Front t) → after t.part ≡ f.later
    unfolding after
    after_own f = ap (λ b. if b then later_turns (rest t.part) else rest t.part) (part_same t.part) ∙ ap later_turns f.is_first

    pub after_other : (p : PartName) → same_part t.part p ≡ false → after p ≡ rest p
    unfolding after
    after_other p e = ap (λ b. if b then later_turns (rest p) else rest p) e

-- The number of turns that remain.

abbrev pub size : List PartName → (PartName → List Turn) → ℕ
size ps rest = sum (map (λ p. length (rest p)) ps)

sum_from : (a : ℕ) (ns : List ℕ) → fold ◌+◌ a ns ≡ a + fold ◌+◌ 0 ns
sum_from a [] = omega arith
sum_from a (n ∷ ns) =
    let here : fold ◌+◌ (a + n) ns ≡ (a + n) + fold ◌+◌ 0 ns = sum_from (a + n) ns in
    let first : fold ◌+◌ (0 + n) ns ≡ (0 + n) + fold ◌+◌ 0 ns = sum_from (0 + n) ns in
    here ∙ (let same : (a + n) + fold ◌+◌ 0 ns ≡ a + ((0 + n) + fold ◌+◌ 0 ns) = omega arith in same) ∙ ap (λ k. a + k) (sym first)

-- one more part
size_more : (p : PartName) (ps : List PartName) (rest : PartName → List Turn) → size (p ∷ ps) rest ≡ length (rest p) + size ps rest
size_more p ps rest =
    let none : 0 + length (rest p) ≡ length (rest p) = omega arith in
    sum_from (0 + length (rest p)) (map (λ q. length (rest q)) ps) ∙ ap (λ n. n + size ps rest) none

-- where none remains, each part has none
pub none_of : (ps : List PartName) (rest : PartName → List Turn) → size ps rest ≤ 0 → (p : PartName) → list_any (same_part p) ps ≡ true → rest p ≡ []
none_of [] rest h p k = absurd (let bad : false ≡ true = k in cc)
none_of (q ∷ ps) rest h p k = by (same_part p q) refl k (none_of ps rest (omega (arith, size_more q ps rest, h)) p)
  where
    empty : (l : List Turn) (n : ℕ) → length l + n ≤ 0 → l ≡ []
    empty [] n i = refl
    empty (t ∷ ts) n i = absurd (omega (arith, i))

    by : (b : Bool) → same_part p q ≡ b → (b || list_any (same_part p) ps) ≡ true → (list_any (same_part p) ps ≡ true → rest p ≡ []) → rest p ≡ []
    by true z j ih = ap rest (same_part_is p q z) ∙ empty (rest q) (size ps rest) (subst (λ n. n ≤ 0) (size_more q ps rest) h)
    by false z j ih = ih j

module _ (rest : PartName → List Turn) (t : PartTurn) (f : Front rest t) where
  no_more : (p : PartName) → length (after rest t p) ≤ length (rest p)
  no_more p = by (same_part t.part p) refl
    where
      by : (b : Bool) → same_part t.part p ≡ b → length (after rest t p) ≤ length (rest p)
      by true e =
          let own : p ≡ t.part = sym (same_part_is t.part p e) in
          let now : length (after rest t p) ≡ length f.later = ap (λ q. length (after rest t q)) own ∙ ap length (after_own rest t f) in
          let before : length (rest p) ≡ suc (length f.later) = ap (λ q. length (rest q)) own ∙ ap length f.is_first in
          omega (arith, now, before)
      by false e = let same : length (after rest t p) ≡ length (rest p) = ap length (after_other rest t p e) in omega (arith, same)

  size_stays : (ps : List PartName) → size ps (after rest t) ≤ size ps rest
  size_stays [] = le_refl 0
  size_stays (p ∷ ps) =
      let one : length (after rest t p) ≤ length (rest p) = no_more p in
      let more : size ps (after rest t) ≤ size ps rest = size_stays ps in
      omega (arith, one, more, size_more p ps rest, size_more p ps (after rest t))

  -- there is one less behind it
  pub size_falls : (ps : List PartName) → list_any (same_part t.part) ps ≡ true → size ps (after rest t) < size ps rest
  size_falls [] h = absurd (let bad : false ≡ true = h in cc)
  size_falls (p ∷ ps) h = by (same_part t.part p) refl h (size_falls ps)
    where
      by : (b : Bool) → same_part t.part p ≡ b → (b || list_any (same_part t.part) ps) ≡ true → (list_any (same_part t.part) ps ≡ true → size ps (after rest t) < size ps rest) → size (p ∷ ps) (after rest t) < size (p ∷ ps) rest
      by true e k ih =
          let own : p ≡ t.part = sym (same_part_is t.part p e) in
          let now : length (after rest t p) ≡ length f.later = ap (λ q. length (after rest t q)) own ∙ ap length (after_own rest t f) in
          let before : length (rest p) ≡ suc (length f.later) = ap (λ q. length (rest q)) own ∙ ap length f.is_first in
          let more : size ps (after rest t) ≤ size ps rest = size_stays ps in
          omega (arith, now, before, more, size_more p ps rest, size_more p ps (after rest t))
      by false e k ih =
          let one : length (after rest t p) ≤ length (rest p) = no_more p in
          let more : size ps (after rest t) < size ps rest = ih k in
          omega (arith, one, more, size_more p ps rest, size_more p ps (after rest t))

-- what the earliest of the first turns is
pub record Next (ps : List PartName) (rest : PartName → List Turn) (t : PartTurn) : Type 0 where
  pub front : Front rest t
  pub among : list_any (same_part t.part) ps ≡ true
  pub first : (p : PartName) → list_any (same_part p) ps ≡ true → (u : Turn) (us : List Turn) → rest p ≡ u ∷ us → t.turn.stamp ≤ u.stamp

pub next : (ps : List PartName) (rest : PartName → List Turn) (t : PartTurn) → earliest (firsts rest ps) ≡ Some t → Next ps rest t
next ps rest t e =
    record {
      front = some_picked (Front rest) (firsts rest ps) t e (fronts rest ps);
      among = by (list_any (same_part t.part) ps) refl;
      first = λ p k u us i. least_of rest t ps (some_least (firsts rest ps) t e) p k u us i;
    }
  where
    by : (b : Bool) → list_any (same_part t.part) ps ≡ b → b ≡ true
    by true z = refl
    by false z = absurd (let bad : true ≡ false = sym (part_same t.part) ∙ some_picked (λ x. same_part t.part x.part ≡ false) (firsts rest ps) t e (apart rest t.part ps z) in cc)

-- The merge has each part's turns.

module _ (ps : List PartName) (p : PartName) where
  abbrev with_first : Option PartTurn → ℕ → (PartName → List Turn) → List PartTurn
  with_first o k rest = elim o [ None ↦ [] | Some t ↦ t ∷ merge_within k (map (without_turn t.part) (map (remaining_of rest) ps)) ]

  abbrev of_turn : Bool → PartTurn → List PartTurn → List Turn
  of_turn b t ts = map (λ x. x.turn) (cond b (t ∷ filter (λ x. same_part p x.part) ts) (filter (λ x. same_part p x.part) ts))

  -- behind the next turn
  has_next : (k : ℕ) (rest : PartName → List Turn) (t : PartTurn) → Next ps rest t → turns_of p (merge_within k (map (remaining_of (after rest t)) ps)) ≡ after rest t p → (b : Bool) → same_part p t.part ≡ b → of_turn b t (merge_within k (map (remaining_of (after rest t)) ps)) ≡ rest p
  has_next k rest t here ih true z =
      let own : p ≡ t.part = same_part_is p t.part z in
      ap (λ l. t.turn ∷ l) (ih ∙ ap (after rest t) own ∙ after_own rest t here.front) ∙ sym here.front.is_first ∙ ap rest (sym own)
  has_next k rest t here ih false z = ih ∙ after_other rest t p (others_apart p t.part z)

  pub has_all : (k : ℕ) (rest : PartName → List Turn) → list_any (same_part p) ps ≡ true → size ps rest ≤ k → turns_of p (merge_within k (map (remaining_of rest) ps)) ≡ rest p
  has_all zero rest h n = sym (none_of ps rest n p h)
  has_all (suc k) rest h n = by (earliest (firsts rest ps)) refl (has_all k)
    where
      by : (o : Option PartTurn) → earliest (firsts rest ps) ≡ o → ((r : PartName → List Turn) → list_any (same_part p) ps ≡ true → size ps r ≤ k → turns_of p (merge_within k (map (remaining_of r) ps)) ≡ r p) → turns_of p (with_first o k rest) ≡ rest p
      by None e ih = sym (none_left rest ps (none_earliest (firsts rest ps) e) p h)
      by (Some t) e ih =
          let here : Next ps rest t = next ps rest t e in
          let fewer : size ps (after rest t) < size ps rest = size_falls rest t here.front ps here.among in
          ap (λ rs. turns_of p (t ∷ merge_within k rs)) (remains_after rest t ps) ∙ has_next k rest t here (ih (after rest t) h (omega (arith, fewer, n))) (same_part p t.part) refl

  pub has_none : (k : ℕ) (rest : PartName → List Turn) → list_any (same_part p) ps ≡ false → turns_of p (merge_within k (map (remaining_of rest) ps)) ≡ []
  has_none zero rest h = refl
  has_none (suc k) rest h = by (earliest (firsts rest ps)) refl (has_none k)
    where
      by : (o : Option PartTurn) → earliest (firsts rest ps) ≡ o → ((r : PartName → List Turn) → list_any (same_part p) ps ≡ false → turns_of p (merge_within k (map (remaining_of r) ps)) ≡ []) → turns_of p (with_first o k rest) ≡ []
      by None e ih = refl
      by (Some t) e ih =
          ap (λ rs. turns_of p (t ∷ merge_within k rs)) (remains_after rest t ps)
          ∙ ap (λ b. of_turn b t (merge_within k (map (remaining_of (after rest t)) ps))) (some_picked (λ x. same_part p x.part ≡ false) (firsts rest ps) t e (apart rest p ps h))
          ∙ ih (after rest t) h
