-- The index by operation, where a connection gets a holder or is freed.
use Rattle.std.proofs.Common.{◌≡◌, ℕ, ◌≤◌, Bool, true, false, cond, List, ◌∷◌, Option, Some, None, Ok, Err, arith, refl, ap, ◌∙◌, sym}
use Rattle.std.proofs.lemmas.Bool.Decides.{nat_tests}
use Rattle.std.specs.Prelude.{IfSome, slice_get, not, Result, is_err, is_some, OnOk, OnErr}
use Rattle.std.specs.Option.{option_eq}
use Rattle.std.specs.Ordering.{nat_cmp, is_gt}
use Rattle.std.specs.BTreeMap.{is_at}
use Rattle.std.specs.BTreeSet.{BTreeSet, contains}
use Rattle.lload_names.specs.declared.names.OpName.{OpName}
use Rattle.lload_names.specs.Same.{same_op}
use Rattle.bind_pool.specs.Holders.{holder_of, holds, OthersStay, key_cmp, Indexes}

-- the set's test of a key is the test of operation and connection
key-here : (o p : OpName) (n : ℕ) → is_at (key_cmp (o, n)) (p, n) ≡ same_op o p
key-here o p n = grind (arith, nat_tests)

key-apart : (o p : OpName) (n m : ℕ) → is_at (nat_cmp n) m ≡ false → is_at (key_cmp (o, n)) (p, m) ≡ false
key-apart o p n m e = grind (arith, nat_tests, e)

at-same : (n m : ℕ) → is_at (nat_cmp n) m ≡ true → n ≡ m
at-same n m e = grind (arith, nat_tests, e)

-- what is so of a connection and of each other one is so of all
at-each : (P : ℕ → Type 0) (n : ℕ) → P n → ((m : ℕ) → is_at (nat_cmp n) m ≡ false → P m) → (m : ℕ) → P m
at-each P n here others m = by (is_at (nat_cmp n) m) refl
  where
    by : (b : Bool) → is_at (nat_cmp n) m ≡ b → P m
    by true e = rw (sym (at-same n m e)) here
    by false e = others m e

-- what a set has behind a key that came, and behind one that went
abbrev pub Came : BTreeSet (OpName × ℕ) → BTreeSet (OpName × ℕ) → OpName → ℕ → Type 0
Came old new op conn = (q : OpName × ℕ) → contains key_cmp new q ≡ cond (is_at (key_cmp (op, conn)) q) true (contains key_cmp old q)

abbrev pub Went : BTreeSet (OpName × ℕ) → BTreeSet (OpName × ℕ) → OpName → ℕ → Type 0
Went old new op conn = (q : OpName × ℕ) → contains key_cmp new q ≡ cond (is_at (key_cmp (op, conn)) q) false (contains key_cmp old q)

came-itself : (b : Bool) → cond b true false ≡ b
came-itself true = refl
came-itself false = refl

pub index-taken : (old new : BTreeSet (OpName × ℕ)) (before after : List (ℕ × OpName)) (op : OpName) (conn : ℕ) → Indexes old before → holder_of conn before ≡ None → Came old new op conn → holder_of conn after ≡ Some op → OthersStay conn before after → Indexes new after
index-taken old new before after op conn index free came is others o = at-each (λ c. contains key_cmp new (o, c) ≡ holds o (holder_of c after)) conn here apart
  where
    here : contains key_cmp new (o, conn) ≡ holds o (holder_of conn after)
    here = came (o, conn)
        ∙ ap (λ b. cond b true (contains key_cmp old (o, conn))) (key-here op o conn)
        ∙ ap (cond (same_op op o) true) (index o conn ∙ ap (holds o) free)
        ∙ came-itself (same_op op o) ∙ sym (ap (holds o) is)

    apart : (c : ℕ) → is_at (nat_cmp conn) c ≡ false → contains key_cmp new (o, c) ≡ holds o (holder_of c after)
    apart c e = came (o, c)
        ∙ ap (λ b. cond b true (contains key_cmp old (o, c))) (key-apart op o conn c e)
        ∙ index o c ∙ sym (ap (holds o) (others c e))

-- another operation than the holder doesn't hold it
held-alone : (op o : OpName) (x : Option OpName) → holds op x ≡ true → cond (same_op op o) false (holds o x) ≡ false
held-alone op o None h = absurd (let bad : false ≡ true = h in cc)
held-alone op o (Some p) h = grind (arith, nat_tests, h)

pub index-given : (old new : BTreeSet (OpName × ℕ)) (before after : List (ℕ × OpName)) (op : OpName) (conn : ℕ) → Indexes old before → holds op (holder_of conn before) ≡ true → Went old new op conn → holder_of conn after ≡ None → OthersStay conn before after → Indexes new after
index-given old new before after op conn index held went is others o = at-each (λ c. contains key_cmp new (o, c) ≡ holds o (holder_of c after)) conn here apart
  where
    here : contains key_cmp new (o, conn) ≡ holds o (holder_of conn after)
    here = went (o, conn)
        ∙ ap (λ b. cond b false (contains key_cmp old (o, conn))) (key-here op o conn)
        ∙ ap (cond (same_op op o) false) (index o conn)
        ∙ held-alone op o (holder_of conn before) held ∙ sym (ap (holds o) is)

    apart : (c : ℕ) → is_at (nat_cmp conn) c ≡ false → contains key_cmp new (o, c) ≡ holds o (holder_of c after)
    apart c e = went (o, c)
        ∙ ap (λ b. cond b false (contains key_cmp old (o, c))) (key-apart op o conn c e)
        ∙ index o c ∙ sym (ap (holds o) (others c e))

none-of : (b : Bool) (x : Bool) → x ≡ false → cond b false (cond b true x) ≡ x
none-of true x e = sym e
none-of false x e = refl

pub index-undone : (old new back : BTreeSet (OpName × ℕ)) (pairs : List (ℕ × OpName)) (op : OpName) (conn : ℕ) → Indexes old pairs → holder_of conn pairs ≡ None → Came old new op conn → Went new back op conn → Indexes back pairs
index-undone old new back pairs op conn index free came went o = at-each (λ c. contains key_cmp back (o, c) ≡ holds o (holder_of c pairs)) conn here apart
  where
    both : (q : OpName × ℕ) → contains key_cmp back q ≡ cond (is_at (key_cmp (op, conn)) q) false (cond (is_at (key_cmp (op, conn)) q) true (contains key_cmp old q))
    both q = went q ∙ ap (cond (is_at (key_cmp (op, conn)) q) false) (came q)

    here : contains key_cmp back (o, conn) ≡ holds o (holder_of conn pairs)
    here = both (o, conn) ∙ none-of (is_at (key_cmp (op, conn)) (o, conn)) (contains key_cmp old (o, conn)) (index o conn ∙ ap (holds o) free) ∙ index o conn

    apart : (c : ℕ) → is_at (nat_cmp conn) c ≡ false → contains key_cmp back (o, c) ≡ holds o (holder_of c pairs)
    apart c e = both (o, c)
        ∙ ap (λ b. cond b false (cond b true (contains key_cmp old (o, c)))) (key-apart op o conn c e)
        ∙ index o c

-- keys in their order
pub from-first : (op : OpName) (n : ℕ) → is_gt (key_cmp (op, 0) (op, n)) ≡ false
from-first op n = grind (arith, nat_tests)

pub conn-le : (op p : OpName) (n m : ℕ) → same_op p op ≡ true → is_gt (key_cmp (p, n) (op, m)) ≡ false → n ≤ m
conn-le op p n m s e = grind (arith, nat_tests, s, e)

pub between : (op p : OpName) (n m : ℕ) → is_gt (key_cmp (op, 0) (p, n)) ≡ false → is_gt (key_cmp (p, n) (op, m)) ≡ false → same_op p op ≡ true
between op p n m e f = grind (arith, nat_tests, e, f)

pub least-key : (r t : List (OpName × ℕ)) (k q : OpName × ℕ) → r ≡ k ∷ t → IfSome (slice_get r 0) (λ k. is_gt (key_cmp k q) ≡ false) → is_gt (key_cmp k q) ≡ false
least-key r t k q e h = rw e at h

pub first-key : (r t : List (OpName × ℕ)) (k : OpName × ℕ) (P : OpName × ℕ → Type 0) → r ≡ k ∷ t → IfSome (slice_get r 0) P → P k
first-key r t k P e h = rw e at h

-- names of one operation
pub one-op : (o p : OpName) → same_op o p ≡ true → o ≡ p
one-op o p h =
    let c : o.client ≡ p.client = grind (arith, nat_tests, h) in
    let k : o.k ≡ p.k = grind (arith, nat_tests, h) in
    λ i. record { client = c i; k = k i }

pub on-ok : {A E : Type 0} (r : Result A E) (P : Type 0) → is_err r ≡ false → OnOk r P → P
on-ok (Ok x) P h p = p
on-ok (Err e) P h p = absurd (let bad : true ≡ false = h in cc)

pub on-err : {A E : Type 0} (r : Result A E) (P : Type 0) → is_err r ≡ true → OnErr r P → P
on-err (Err e) P h p = p
on-err (Ok x) P h p = absurd (let bad : false ≡ true = h in cc)

pub is-free : (x : Option OpName) → is_some x ≡ false → x ≡ None
is-free None e = refl
is-free (Some op) e = absurd (let bad : true ≡ false = e in cc)

-- one that isn't another than an operation is held by it
pub is-holder : (eq : OpName → OpName → Bool) (op : OpName) (r x : Option OpName) → ((p : OpName) → eq p op ≡ same_op p op) → r ≡ x → false ≡ not (option_eq eq r (Some op)) → holds op x ≡ true
is-holder eq op None x same e h = absurd (let bad : false ≡ true = h in cc)
is-holder eq op (Some p) x same e h = rw (sym e) (sym (same p) ∙ by (eq p op) h)
  where
    by : (b : Bool) → false ≡ not b → b ≡ true
    by true f = refl
    by false f = absurd (let bad : false ≡ true = f in cc)
