-- A part that a family doesn't name has no list, and the stamps of turns rise.
use Rattle.std.proofs.Common.{◌≡◌, ℕ, ◌<◌, ◌≤◌, Bool, true, false, ◌||◌, List, [], ◌∷◌, ◌++◌, refl, ap, ◌∙◌, arith}
use Rattle.std.specs.Prelude.{◌==◌, nat_lt, nat_le, map}
use Rattle.std.specs.List.{list_any, list_all}
use Rattle.std.proofs.lemmas.Bool.{ltb-true, le-leb}
use Rattle.std.proofs.lemmas.List.Folds.{list_all-append}
use Rattle.lload_names.specs.declared.names.Letter.{Letter}
use Rattle.lload_names.specs.declared.names.PartName.{PartName}
use Rattle.lload_names.specs.declared.names.PartName.TheVariants.{Desk, Client, Up as Connection}
use Rattle.lload_names.specs.declared.names.Posted.{Posted}
use Rattle.lload_spec.specs.Journal.{Family, IsWhole, same_part}
use Rattle.lload_spec.proofs.Growth.{left, right, both}
use Rattle.part_spec.specs.Linked.{list_of}
use Rattle.part_spec.specs.Marked.{Marked, entries}
use Rattle.part_spec.specs.Merge.{parts_of}
use Rattle.part_spec.specs.Stamps.{Turn, rise_above, stamp_each_to, stamps_given}
use Rattle.link_laws.proofs.Numbers.{eqb_turn}

-- The parts that a family names.

unnamed_client : (c : ℕ) (cs : List ℕ) (ps : List PartName) → list_any (same_part (Client c)) (map Client cs ++ ps) ≡ false → list_any (λ n. n == c) cs ≡ false
unnamed_client c [] ps h = refl
unnamed_client c (n ∷ cs) ps h = by (c == n) refl h (unnamed_client c cs ps)
  where
    by : (b : Bool) → (c == n) ≡ b → (b || list_any (same_part (Client c)) (map Client cs ++ ps)) ≡ false → (list_any (same_part (Client c)) (map Client cs ++ ps) ≡ false → list_any (λ m. m == c) cs ≡ false) → ((n == c) || list_any (λ m. m == c) cs) ≡ false
    by true e k ih = absurd (let bad : true ≡ false = k in cc)
    by false e k ih = ap (λ b. b || list_any (λ m. m == c) cs) (eqb_turn n c ∙ e) ∙ ih k

unnamed_connection : (u : ℕ) (cs us : List ℕ) → list_any (same_part (Connection u)) (map Client cs ++ map Connection us) ≡ false → list_any (λ n. n == u) us ≡ false
unnamed_connection u (c ∷ cs) us h = unnamed_connection u cs us h
unnamed_connection u [] [] h = refl
unnamed_connection u [] (n ∷ us) h = by (u == n) refl h (unnamed_connection u [] us)
  where
    by : (b : Bool) → (u == n) ≡ b → (b || list_any (same_part (Connection u)) (map Connection us)) ≡ false → (list_any (same_part (Connection u)) (map Connection us) ≡ false → list_any (λ m. m == u) us ≡ false) → ((n == u) || list_any (λ m. m == u) us) ≡ false
    by true e k ih = absurd (let bad : true ≡ false = k in cc)
    by false e k ih = ap (λ b. b || list_any (λ m. m == u) us) (eqb_turn n u ∙ e) ∙ ih k

pub unnamed : (F : Family) (p : PartName) → IsWhole F → list_any (same_part p) (parts_of F) ≡ false → list_of F p ≡ []
unnamed F Desk whole h = absurd (let bad : true ≡ false = h in cc)
unnamed F (Client c) whole h = whole.clients_named c (unnamed_client c F.clients (map Connection F.connections) h)
unnamed F (Connection u) whole h = whole.connections_named u (unnamed_connection u F.clients F.connections h)

pub no_entries : (list : List Marked) → entries list ≡ [] → list ≡ []
no_entries [] h = refl
no_entries (m ∷ ms) h = absurd (let bad : m.entry ∷ entries ms ≡ [] = h in cc)

pub none_behind : (xs : List Letter) (l : Letter) (ls zs : List Letter) → (xs ++ l ∷ ls) ++ zs ≡ [] → false ≡ true
none_behind [] l ls zs h = absurd (let bad : l ∷ (ls ++ zs) ≡ [] = h in cc)
none_behind (x ∷ xs) l ls zs h = absurd (let bad : x ∷ ((xs ++ l ∷ ls) ++ zs) ≡ [] = h in cc)

-- Stamps.

each_above : (q : PartName) (n k : ℕ) (xs : List Posted) → n ≤ k → list_all (λ g. nat_le n g) (stamp_each_to q k xs) ≡ true
each_above q n k [] low = refl
each_above q n k (x ∷ xs) low = by (same_part q x.to) (each_above q n k xs low)
  where
    by : (b : Bool) → list_all (λ g. nat_le n g) (stamp_each_to q k xs) ≡ true → list_all (λ g. nat_le n g) ((elim b [ true ↦ k ∷ [] | false ↦ [] ]) ++ stamp_each_to q k xs) ≡ true
    by true h = both (nat_le n k) _ (le-leb n k low) h
    by false h = h

all_above : (q : PartName) (n m : ℕ) (ts : List Turn) → n ≤ m → rise_above m ts ≡ true → list_all (λ g. nat_le n g) (stamps_given q ts) ≡ true
all_above q n m [] low h = refl
all_above q n m (t ∷ ts) low h =
    let rises : m < t.stamp = ltb-true m t.stamp (left (nat_lt m t.stamp) _ h) in
    let above : n ≤ t.stamp = omega (arith, low, rises) in
    list_all-append (λ g. nat_le n g) (stamp_each_to q t.stamp t.letters) (stamps_given q ts)
    ∙ both (list_all (λ g. nat_le n g) (stamp_each_to q t.stamp t.letters)) _ (each_above q n t.stamp t.letters above) (all_above q n t.stamp ts above (right (nat_lt m t.stamp) _ h))

rises_behind : (n : ℕ) (ts : List Turn) (t : Turn) (us : List Turn) → rise_above n (ts ++ t ∷ us) ≡ true → rise_above t.stamp us ≡ true
rises_behind n [] t us h = right (nat_lt n t.stamp) _ h
rises_behind n (u ∷ ts) t us h = rises_behind u.stamp ts t us (right (nat_lt n u.stamp) _ h)

-- no stamp that is given from a turn on is below its own
pub given_above : (q : PartName) (n m : ℕ) (ts : List Turn) (t : Turn) (us : List Turn) → rise_above m (ts ++ t ∷ us) ≡ true → n ≤ t.stamp → list_all (λ g. nat_le n g) (stamps_given q (t ∷ us)) ≡ true
given_above q n m ts t us h low =
    list_all-append (λ g. nat_le n g) (stamp_each_to q t.stamp t.letters) (stamps_given q us)
    ∙ both (list_all (λ g. nat_le n g) (stamp_each_to q t.stamp t.letters)) _ (each_above q n t.stamp t.letters low) (all_above q n t.stamp us low (rises_behind m ts t us h))
