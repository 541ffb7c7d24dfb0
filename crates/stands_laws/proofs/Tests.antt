-- Tests of numbers, and what a change at one number leaves.
use Rattle.std.proofs.Common.{◌≡◌, ℕ, suc, ◌<◌, Bool, true, false, ◌==◌, ◌&&◌, not, if◌then◌else◌, List, [], ◌∷◌, ◌++◌, Option, Some, None, refl, ap, ◌∙◌, sym, inl, inr, arith}
use Rattle.std.specs.Prelude.{filter, find}
use Rattle.std.specs.Option.{option_or}
use Rattle.std.proofs.lemmas.Bool.{eqb-true, eqb-false, eq-eqb, ne_eqb, cases_lt}
use Rattle.std.proofs.lemmas.List.Folds.{find-append}
use Rattle.move_laws.specs.World.{put}

pub same_self : (n : ℕ) → (n == n) ≡ true
same_self n = eq-eqb n n refl

pub eq_sym : (a b : ℕ) → (a == b) ≡ (b == a)
eq_sym a b = go (a == b) refl
  where
    go : (t : Bool) → (a == b) ≡ t → t ≡ (b == a)
    go true e = sym (eq-eqb b a (sym (eqb-true a b e)))
    go false e = sym (ne_eqb b a (λ z. eqb-false a b e (sym z)))

pub put_here : (f : ℕ → Bool) (n : ℕ) (b : Bool) → put f n b n ≡ b
put_here f n b = rw (same_self n)

pub put_there : (f : ℕ → Bool) (n k : ℕ) (b : Bool) → (k ≡ n → ⊥) → put f n b k ≡ f k
put_there f n k b z = rw (ne_eqb k n z)

pub put_below : (f : ℕ → Bool) (n k : ℕ) (b : Bool) → k < n → put f n b k ≡ f k
put_below f n k b l = put_there f n k b (λ e. omega arith)

-- a set number is live, or was
pub put_cases : (f : ℕ → Bool) (n k : ℕ) (P : Type 0) → put f n true k ≡ true → (k ≡ n → P) → (f k ≡ true → P) → P
put_cases f n k P h y z = go (k == n) refl h
  where
    go : (b : Bool) → (k == n) ≡ b → (if b then true else f k) ≡ true → P
    go true e i = y (eqb-true k n e)
    go false e i = z i

-- a search goes through a filter that keeps all that it may find, and finds nothing where that drops them
kept_one : {A : Type 0} (a b : Bool) (x : A) (f g : Option A) → (a ≡ true → b ≡ true) → f ≡ g → (if b then (if a then Some x else f) else f) ≡ (if a then Some x else g)
kept_one true b x f g h e = rw (h refl)
kept_one false true x f g h e = e
kept_one false false x f g h e = e

find_cond : {A : Type 0} (t : A → Bool) (b : Bool) (x : A) (xs : List A) → find t (if b then x ∷ xs else xs) ≡ (if b then (if t x then Some x else find t xs) else find t xs)
find_cond t true x xs = refl
find_cond t false x xs = refl

pub find_kept : {A : Type 0} (t q : A → Bool) (xs : List A) → ((x : A) → t x ≡ true → q x ≡ true) → find t (filter q xs) ≡ find t xs
find_kept t q [] e = refl
find_kept t q (x ∷ xs) e = find_cond t (q x) x (filter q xs) ∙ kept_one (t x) (q x) x (find t (filter q xs)) (find t xs) (e x) (find_kept t q xs e)

dropped_one : {A : Type 0} (a b : Bool) (x : A) (f : Option A) → (a ≡ true → b ≡ false) → f ≡ None → (if b then (if a then Some x else f) else f) ≡ None
dropped_one true b x f h e = rw (h refl) e
dropped_one false true x f h e = e
dropped_one false false x f h e = e

pub find_dropped : {A : Type 0} (t q : A → Bool) (xs : List A) → ((x : A) → t x ≡ true → q x ≡ false) → find t (filter q xs) ≡ None
find_dropped t q [] e = refl
find_dropped t q (x ∷ xs) e = find_cond t (q x) x (filter q xs) ∙ dropped_one (t x) (q x) x (find t (filter q xs)) (e x) (find_dropped t q xs e)

-- what a set number says with another test
pub put_and : (f : ℕ → Bool) (n k : ℕ) (q : Bool) → (k ≡ n → q ≡ false) → (f k && q) ≡ false → (put f n true k && q) ≡ false
put_and f n k q e h = go (k == n) refl
  where
    go : (b : Bool) → (k == n) ≡ b → ((if b then true else f k) && q) ≡ false
    go true i = e (eqb-true k n i)
    go false i = h

pub find_last : {A : Type 0} (t : A → Bool) (xs : List A) (x : A) (o : Option A) → find t xs ≡ o → find t (xs ++ x ∷ []) ≡ option_or o (if t x then Some x else None)
find_last t xs x o e = find-append t xs (x ∷ []) ∙ ap (λ p. option_or p (if t x then Some x else None)) e

pub if_same : {A : Type 0} (t : Bool) (x y : A) → (t ≡ true → x ≡ y) → (if t then Some x else None) ≡ (if t then Some y else None)
if_same true x y e = ap Some (e refl)
if_same false x y e = refl

pub same_name : (c i k : ℕ) → ((c == c) && (i == k)) ≡ (i == k)
same_name c i k = rw (same_self c)

-- a number that is put out is live no longer, another is as it was
pub put_out : (f : ℕ → Bool) (n k : ℕ) (P : Type 0) → put f n false k ≡ true → ((k ≡ n → ⊥) → f k ≡ true → P) → P
put_out f n k P h z = go (k == n) refl h
  where
    go : (b : Bool) → (k == n) ≡ b → (if b then false else f k) ≡ true → P
    go true e i = absurd (cc)
    go false e i = z (eqb-false k n e) i

pub put_without : (f : ℕ → Bool) (n k : ℕ) → (f k && not (k == n)) ≡ put f n false k
put_without f n k = go (k == n) (f k)
  where
    go : (b v : Bool) → (v && not b) ≡ (if b then false else v)
    go true true = refl
    go true false = refl
    go false true = refl
    go false false = refl

pub same_both : (p t q : Bool) → (q ≡ true → p ≡ true) → (q ≡ true → t ≡ true) → (p ≡ true → t ≡ true → q ≡ true) → (p && t) ≡ q
same_both true true q f g h = sym (h refl refl)
same_both true false true f g h = g refl
same_both true false false f g h = refl
same_both false t true f g h = f refl
same_both false t false f g h = refl

pub before_last : (j n : ℕ) → j < suc n → (n ≡ j → ⊥) → j < n
before_last j n l z = elim (cases_lt j n) [ inl m ↦ m | inr m ↦ absurd (z (omega arith)) ]

pub put_dead : (f : ℕ → Bool) (n k : ℕ) → f k ≡ false → put f n false k ≡ false
put_dead f n k h = go (k == n)
  where
    go : (b : Bool) → (if b then false else f k) ≡ false
    go true = refl
    go false = h
