-- Lists of connections and of pending operations, after one came or went.
use Rattle.std.proofs.Common.{◌≡◌, ℕ, ◌+◌, ◌≤◌, ◌<◌, Bool, true, false, not, ◌==◌, ◌&&◌, nat_lt, List, [], ◌∷◌, ◌++◌, length, filter, map, arith, refl, sym, ap, ◌∙◌, ◌⊎◌, inl, inr}
use Rattle.std.proofs.lemmas.Bool.Decides.{nat_tests}
use Rattle.std.specs.List.{list_any}
use Rattle.lload_names.specs.declared.names.OpName.{OpName}
use Rattle.lload_names.specs.Same.{same_op}
use Rattle.lload_spec.specs.Entries.{Named}
use Rattle.part_spec.specs.DeskState.{without_connection, without_op}
use Rattle.ready_set.specs.Keys.{is_in}
use Rattle.desk_tables.specs.Pending.{one}
use Rattle.desk_rules.specs.Counts.{IsLess}
use Rattle.load_desk.specs.Part.{count_of_op, count_on, conns_of}

-- Pending operations.

abbrev pub is_asked : OpName → List (Named ℕ) → Bool
is_asked op ps = list_any (λ x. same_op op x.op) ps

abbrev pub is_there : OpName → ℕ → List (Named ℕ) → Bool
is_there op u ps = list_any (λ x. same_op op x.op && x.value == u) ps

pub none-of : (op : OpName) (ps : List (Named ℕ)) → is_asked op ps ≡ false → count_of_op op ps ≡ 0
none-of op [] e = refl
none-of op (x ∷ ps) e = grind (arith, e, none-of op ps)

pub none-on : (op : OpName) (n : ℕ) (ps : List (Named ℕ)) → count_of_op op ps ≤ 0 → count_on op n ps ≡ 0
none-on op n [] l = refl
none-on op n (x ∷ ps) l = grind (arith, l, none-on op n ps)

pub push-on : (o : OpName) (m : ℕ) (x : Named ℕ) (ps : List (Named ℕ)) → count_on o m (ps ++ x ∷ []) ≡ count_on o m ps + one (same_op o x.op && x.value == m)
push-on o m x [] = grind arith
push-on o m x (y ∷ ps) = grind (arith, push-on o m x ps)

pub push-of : (o : OpName) (x : Named ℕ) (ps : List (Named ℕ)) → count_of_op o (ps ++ x ∷ []) ≡ count_of_op o ps + one (same_op o x.op)
push-of o x [] = grind arith
push-of o x (y ∷ ps) = grind (arith, push-of o x ps)

pub push-less : (x : Named ℕ) (ps : List (Named ℕ)) → IsLess x.value (conns_of ps) (conns_of (ps ++ x ∷ []))
push-less x [] test = grind arith
push-less x (y ∷ ps) test = grind (arith, push-less x ps test)

pub push-conns : (n : ℕ) (x : Named ℕ) (ps : List (Named ℕ)) → is_in n (conns_of (ps ++ x ∷ [])) ≡ true → (x.value ≡ n) ⊎ (is_in n (conns_of ps) ≡ true)
push-conns n x [] e = inl (grind (arith, nat_tests, e))
push-conns n x (y ∷ ps) e = by (y.value == n) refl (push-conns n x ps)
  where
    by : (b : Bool) → (y.value == n) ≡ b → (is_in n (conns_of (ps ++ x ∷ [])) ≡ true → (x.value ≡ n) ⊎ (is_in n (conns_of ps) ≡ true)) → (x.value ≡ n) ⊎ (is_in n (conns_of (y ∷ ps)) ≡ true)
    by true t ih = inr (grind (arith, t))
    by false t ih = in-rest (ih (grind (arith, t, e)))
      where
        in-rest : (x.value ≡ n) ⊎ (is_in n (conns_of ps) ≡ true) → (x.value ≡ n) ⊎ (is_in n (conns_of (y ∷ ps)) ≡ true)
        in-rest (inl h) = inl h
        in-rest (inr h) = inr (grind (arith, t, h))

pub same-op-symm : (a b : OpName) → same_op a b ≡ same_op b a
same-op-symm a b = grind (arith, nat_tests)

pub same-op-self : (a : OpName) → same_op a a ≡ true
same-op-self a = grind (arith, nat_tests)

-- without one that isn't there
without-none : (op : OpName) (ps : List (Named ℕ)) → count_of_op op ps ≤ 0 → without_op op ps ≡ ps
without-none op [] l = refl
without-none op (x ∷ ps) l = grind (arith, l, without-none op ps)

not-there : (op : OpName) (u : ℕ) (ps : List (Named ℕ)) → count_of_op op ps ≤ 0 → is_there op u ps ≡ false
not-there op u [] l = refl
not-there op u (x ∷ ps) l = grind (arith, l, not-there op u ps)

-- what is there once is there alone
pub there-alone : (op : OpName) (u n : ℕ) (ps : List (Named ℕ)) → count_of_op op ps ≤ 1 → is_there op u ps ≡ true → count_on op n ps ≡ one (u == n)
there-alone op u n [] l e = absurd (let bad : false ≡ true = e in cc)
there-alone op u n (x ∷ ps) l e = by (same_op op x.op) refl (x.value == u) refl (there-alone op u n ps)
  where
    by : (a : Bool) → same_op op x.op ≡ a → (b : Bool) → (x.value == u) ≡ b → (count_of_op op ps ≤ 1 → is_there op u ps ≡ true → count_on op n ps ≡ one (u == n)) → count_on op n (x ∷ ps) ≡ one (u == n)
    by true t true v ih =
        let rest : count_of_op op ps ≤ 0 = grind (arith, t, l) in
        let is : x.value ≡ u = grind (arith, nat_tests, v) in
        grind (arith, t, is, none-on op n ps rest)
    by true t false v ih =
        let rest : count_of_op op ps ≤ 0 = grind (arith, t, l) in
        absurd (let bad : false ≡ true = grind (arith, t, v, e, not-there op u ps rest) in cc)
    by false t b v ih = grind (arith, t, ih (grind (arith, t, l)) (grind (arith, t, e)))

pub there-less : (op : OpName) (u : ℕ) (ps : List (Named ℕ)) → count_of_op op ps ≤ 1 → is_there op u ps ≡ true → IsLess u (conns_of (without_op op ps)) (conns_of ps)
there-less op u [] l e test = absurd (let bad : false ≡ true = e in cc)
there-less op u (x ∷ ps) l e test = by (same_op op x.op) refl (x.value == u) refl (λ m f. there-less op u ps m f test)
  where
    by : (a : Bool) → same_op op x.op ≡ a → (b : Bool) → (x.value == u) ≡ b → (count_of_op op ps ≤ 1 → is_there op u ps ≡ true → length (filter test (conns_of (without_op op ps))) + one (test u) ≡ length (filter test (conns_of ps))) → length (filter test (conns_of (without_op op (x ∷ ps)))) + one (test u) ≡ length (filter test (conns_of (x ∷ ps)))
    by true t true v ih =
        let rest : count_of_op op ps ≤ 0 = grind (arith, t, l) in
        let is : x.value ≡ u = grind (arith, nat_tests, v) in
        grind (arith, t, is, without-none op ps rest)
    by true t false v ih =
        let rest : count_of_op op ps ≤ 0 = grind (arith, t, l) in
        absurd (let bad : false ≡ true = grind (arith, t, v, e, not-there op u ps rest) in cc)
    by false t b v ih = grind (arith, t, ih (grind (arith, t, l)) (grind (arith, t, e)))

pub without-same : (op : OpName) (n : ℕ) (ps : List (Named ℕ)) → count_on op n (without_op op ps) ≡ 0
without-same op n [] = refl
without-same op n (x ∷ ps) = grind (arith, without-same op n ps)

pub without-other : (op o : OpName) (n : ℕ) (ps : List (Named ℕ)) → same_op op o ≡ false → count_on o n (without_op op ps) ≡ count_on o n ps
without-other op o n [] e = refl
without-other op o n (x ∷ ps) e = grind (arith, nat_tests, e, without-other op o n ps e)

pub without-once : (op o : OpName) (ps : List (Named ℕ)) → count_of_op o (without_op op ps) ≤ count_of_op o ps
without-once op o [] = omega arith
without-once op o (x ∷ ps) = grind (arith, without-once op o ps)

pub without-conns : (op : OpName) (n : ℕ) (ps : List (Named ℕ)) → is_in n (conns_of (without_op op ps)) ≡ true → is_in n (conns_of ps) ≡ true
without-conns op n [] e = e
without-conns op n (x ∷ ps) e = grind (arith, e, without-conns op n ps)

-- one that is pending on a connection is one of all on it
pub on-conn : (op : OpName) (n : ℕ) (ps : List (Named ℕ)) → count_on op n ps ≤ length (filter (λ m. m == n) (conns_of ps))
on-conn op n [] = omega arith
on-conn op n (x ∷ ps) = grind (arith, on-conn op n ps)

pub one-op : (a b : OpName) → same_op a b ≡ true → a ≡ b
one-op a b e = grind (arith, nat_tests)

-- Viable connections.

pub above-in : (base u : ℕ) (vs : List ℕ) → base < u → filter (nat_lt base) (vs ++ u ∷ []) ≡ filter (nat_lt base) vs ++ u ∷ []
above-in base u [] l = grind (arith, nat_tests, l)
above-in base u (v ∷ vs) l = grind (arith, above-in base u vs l)

pub above-out : (base u : ℕ) (vs : List ℕ) → u ≤ base → filter (nat_lt base) (vs ++ u ∷ []) ≡ filter (nat_lt base) vs
above-out base u [] l = grind (arith, nat_tests, l)
above-out base u (v ∷ vs) l = grind (arith, above-out base u vs l)

pub above-without : (test : ℕ → Bool) (u : ℕ) (vs : List ℕ) → filter test (without_connection u vs) ≡ without_connection u (filter test vs)
above-without test u [] = refl
above-without test u (v ∷ vs) = grind (arith, above-without test u vs)

pub not-above : (test : ℕ → Bool) (u : ℕ) (vs : List ℕ) → is_in u vs ≡ false → is_in u (filter test vs) ≡ false
not-above test u [] e = refl
not-above test u (v ∷ vs) e = grind (arith, e, not-above test u vs)

pub push-in : (n u : ℕ) (vs : List ℕ) → is_in n (vs ++ u ∷ []) ≡ true → (u ≡ n) ⊎ (is_in n vs ≡ true)
push-in n u [] e = inl (grind (arith, nat_tests, e))
push-in n u (v ∷ vs) e = by (v == n) refl (push-in n u vs)
  where
    by : (b : Bool) → (v == n) ≡ b → (is_in n (vs ++ u ∷ []) ≡ true → (u ≡ n) ⊎ (is_in n vs ≡ true)) → (u ≡ n) ⊎ (is_in n (v ∷ vs) ≡ true)
    by true t ih = inr (grind (arith, t))
    by false t ih = in-rest (ih (grind (arith, t, e)))
      where
        in-rest : (u ≡ n) ⊎ (is_in n vs ≡ true) → (u ≡ n) ⊎ (is_in n (v ∷ vs) ≡ true)
        in-rest (inl h) = inl h
        in-rest (inr h) = inr (grind (arith, t, h))

pub without-in : (n u : ℕ) (vs : List ℕ) → is_in n (without_connection u vs) ≡ true → is_in n vs ≡ true
without-in n u [] e = e
without-in n u (v ∷ vs) e = grind (arith, e, without-in n u vs)
