-- Lists of marked turns: what a number or a tag has in a list, and in its beginnings.
use Rattle.std.proofs.Common.{◌≡◌, ◌≢◌, ℕ, zero, suc, nat_lt, Bool, ◌<◌, ◌≤◌, ◌==◌, ◌⊎◌, inl, inr, true, false, List, [], ◌∷◌, ◌++◌, length, length-append, sym, refl, ap, ◌∙◌, subst, arith, append_assoc, if◌then◌else◌, eq-eqb, ne_eqb}
use Rattle.std.proofs.lemmas.Bool.Decides.{nat_tests}
use Rattle.std.specs.Prelude.{Contains, slice_index_or}
use mathlib.Core.Option.{some, some-injective}
use mathlib.Core.Logic.{dite}
use mathlib.Core.List.{append-nil}
use native.Mathlib.Decide.{ℕ_discrete}
use lib.ListN.{get_elem?}
use Rattle.counted_lock.specs.declared.known.Mark.{Mark}
use Rattle.counted_lock.specs.Turns.{turns_of, turns_by, turns_with, StartsWith, Tagged}
use Rattle.counted_lock.specs.Views.{longer}
use Rattle.counted_lock.specs.Rule.{AllDiffer}

pub some_inside : {A : Type 0} (xs : List A) (k : ℕ) (x : A) → get_elem? xs k ≡ some x → k < length xs
some_inside [] k x e = absurd (cc)
some_inside (y ∷ ys) zero x e = omega arith
some_inside (y ∷ ys) (suc k) x e = omega (arith, some_inside ys k x e)

pub some_contained : (ts : List ℕ) (k t : ℕ) → get_elem? ts k ≡ some t → Contains ts t
some_contained ts k t e = (k, some_inside ts k t e, found ts k e)
  where
    found : (us : List ℕ) (j : ℕ) → get_elem? us j ≡ some t → slice_index_or us j t ≡ t
    found [] j f = absurd (cc)
    found (u ∷ us) zero f = some-injective u t f
    found (u ∷ us) (suc j) f = found us j f

pub squeezed : {A : Type 0} (own a b : List A) → (own ++ a) ++ b ≡ own → own ++ a ≡ own
squeezed own [] b e = append-nil own
squeezed own (x ∷ xs) b e =
    let long = ap length e in
    absurd (omega (arith, length-append (own ++ x ∷ xs) b, length-append own (x ∷ xs)))

module _ {Q : Type 0} where
  pub turns_of-snoc : (xs : List (Mark Q)) (m : Mark Q) → turns_of (xs ++ m ∷ []) ≡ turns_of xs ++ m.turn ∷ []
  turns_of-snoc [] m = refl
  turns_of-snoc (x ∷ xs) m = ap (λ ys. x.turn ∷ ys) (turns_of-snoc xs m)

  pub turns_by-append : (n : ℕ) (xs ys : List (Mark Q)) → turns_by n (xs ++ ys) ≡ turns_by n xs ++ turns_by n ys
  turns_by-append n [] ys = refl
  turns_by-append n (x ∷ xs) ys =
      elim (n == x.by) as (λ b. (if b then x.turn ∷ turns_by n (xs ++ ys) else turns_by n (xs ++ ys)) ≡ (if b then x.turn ∷ turns_by n xs else turns_by n xs) ++ turns_by n ys)
      [ true ↦ ap (λ zs. x.turn ∷ zs) (turns_by-append n xs ys) | false ↦ turns_by-append n xs ys ]

  pub turns_by-snoc : (n : ℕ) (xs : List (Mark Q)) (m : Mark Q) → n ≡ m.by → turns_by n (xs ++ m ∷ []) ≡ turns_by n xs ++ m.turn ∷ []
  turns_by-snoc n xs m e = turns_by-append n xs (m ∷ []) ∙ ap (λ ys. turns_by n xs ++ ys) (rw (eq-eqb n m.by e) refl)

  pub turns_by-snoc_other : (n : ℕ) (xs : List (Mark Q)) (m : Mark Q) → n ≢ m.by → turns_by n (xs ++ m ∷ []) ≡ turns_by n xs
  turns_by-snoc_other n xs m ne = turns_by-append n xs (m ∷ []) ∙ (ap (λ ys. turns_by n xs ++ ys) (rw (ne_eqb n m.by ne) refl) ∙ append-nil (turns_by n xs))

  pub turns_with-append : (tag : Q → ℕ) (t : ℕ) (xs ys : List (Mark Q)) → turns_with tag t (xs ++ ys) ≡ turns_with tag t xs ++ turns_with tag t ys
  turns_with-append tag t [] ys = refl
  turns_with-append tag t (x ∷ xs) ys =
      elim (t == tag x.turn) as (λ b. (if b then x.turn ∷ turns_with tag t (xs ++ ys) else turns_with tag t (xs ++ ys)) ≡ (if b then x.turn ∷ turns_with tag t xs else turns_with tag t xs) ++ turns_with tag t ys)
      [ true ↦ ap (λ zs. x.turn ∷ zs) (turns_with-append tag t xs ys) | false ↦ turns_with-append tag t xs ys ]

  pub turns_with-snoc : (tag : Q → ℕ) (t : ℕ) (xs : List (Mark Q)) (m : Mark Q) → t ≡ tag m.turn → turns_with tag t (xs ++ m ∷ []) ≡ turns_with tag t xs ++ m.turn ∷ []
  turns_with-snoc tag t xs m e = turns_with-append tag t xs (m ∷ []) ∙ ap (λ ys. turns_with tag t xs ++ ys) (rw (eq-eqb t (tag m.turn) e) refl)

  pub starts_same : (xs : List (Mark Q)) → StartsWith xs xs
  starts_same xs = ([], sym (append-nil xs))

  pub starts_more : (xs ys first : List (Mark Q)) → StartsWith xs first → StartsWith (xs ++ ys) first
  starts_more xs ys first h = (h.0 ++ ys, ap (λ l. l ++ ys) h.1 ∙ append_assoc first h.0 ys)

  pub starts_through : (xs ys zs : List (Mark Q)) → StartsWith xs ys → StartsWith ys zs → StartsWith xs zs
  starts_through xs ys zs h k = (k.0 ++ h.0, h.1 ∙ (ap (λ l. l ++ h.0) k.1 ∙ append_assoc zs k.0 h.0))

  -- of two beginnings of one list, the longer begins with the shorter
  pub starts_shorter : (a b r s : List (Mark Q)) → a ++ r ≡ b ++ s → length a ≤ length b → StartsWith b a
  starts_shorter [] b r s e h = (b, refl)
  starts_shorter (x ∷ xs) [] r s e h = absurd (omega arith)
  starts_shorter (x ∷ xs) (y ∷ ys) r s e h =
      let head : x ≡ y = cc in
      let tail : xs ++ r ≡ ys ++ s = cc in
      let k = starts_shorter xs ys r s tail (omega arith) in
      (k.0, λ i. sym head i ∷ k.1 i)

  -- the turns of a number are those in the whole list, where a beginning of the part has as many
  pub turns_by-between : (n : ℕ) (log seen first : List (Mark Q)) (own : List Q) → StartsWith log seen → StartsWith seen first
      → turns_by n log ≡ own → turns_by n first ≡ own → turns_by n seen ≡ own
  turns_by-between n log seen first own h k whole part =
      let inner : turns_by n seen ≡ own ++ turns_by n k.0 = ap (turns_by n) k.1 ∙ (turns_by-append n first k.0 ∙ ap (λ l. l ++ turns_by n k.0) part) in
      let outer : turns_by n log ≡ turns_by n seen ++ turns_by n h.0 = ap (turns_by n) h.1 ∙ turns_by-append n seen h.0 in
      let sum : (own ++ turns_by n k.0) ++ turns_by n h.0 ≡ own = ap (λ l. l ++ turns_by n h.0) (sym inner) ∙ (sym outer ∙ whole) in
      inner ∙ squeezed own (turns_by n k.0) (turns_by n h.0) sum

  -- a beginning has a beginning of the turns
  pub turns_by-first : (n : ℕ) (log seen : List (Mark Q)) (own : List Q) → StartsWith log seen → turns_by n log ≡ own → (rest : List Q) × (own ≡ turns_by n seen ++ rest)
  turns_by-first n log seen own h all = (turns_by n h.0, sym all ∙ (ap (turns_by n) h.1 ∙ turns_by-append n seen h.0))

  -- no turn of a number in a list is none in a beginning
  pub turns_by-none : (n : ℕ) (log seen : List (Mark Q)) → StartsWith log seen → turns_by n log ≡ [] → turns_by n seen ≡ []
  turns_by-none n log seen h none = none_left (turns_by n seen) (turns_by n h.0) (sym (turns_by-append n seen h.0) ∙ (sym (ap (turns_by n) h.1) ∙ none))
    where
      none_left : (a b : List Q) → a ++ b ≡ [] → a ≡ []
      none_left [] b e = refl
      none_left (x ∷ xs) b e = absurd (cc)

  pub Tagged-snoc : (tag : Q → ℕ) (tags : List ℕ) (xs : List (Mark Q)) (m : Mark Q) → Tagged tag tags xs → get_elem? tags m.by ≡ some (tag m.turn) → Tagged tag tags (xs ++ m ∷ [])
  Tagged-snoc tag tags [] m h e = (e, tt)
  Tagged-snoc tag tags (x ∷ xs) m h e = (h.0, Tagged-snoc tag tags xs m h.1 e)

  pub Tagged-first : (tag : Q → ℕ) (tags : List ℕ) (xs ys : List (Mark Q)) → Tagged tag tags (xs ++ ys) → Tagged tag tags xs
  Tagged-first tag tags [] ys h = tt
  Tagged-first tag tags (x ∷ xs) ys h = (h.0, Tagged-first tag tags xs ys h.1)

  pub Tagged-starts : (tag : Q → ℕ) (tags : List ℕ) (log seen : List (Mark Q)) → StartsWith log seen → Tagged tag tags log → Tagged tag tags seen
  Tagged-starts tag tags log seen h all = Tagged-first tag tags seen h.0 (subst (Tagged tag tags) h.1 all)

  -- no seat with a number behind the tags made a turn
  pub Tagged-none : (tag : Q → ℕ) (tags : List ℕ) (n : ℕ) → length tags ≤ n → (xs : List (Mark Q)) → Tagged tag tags xs → turns_by n xs ≡ []
  Tagged-none tag tags n le [] h = refl
  Tagged-none tag tags n le (x ∷ xs) h =
      let ne : n ≢ x.by = λ e. let i = some_inside tags x.by (tag x.turn) h.0 in omega arith in
      ap (λ b. if b then x.turn ∷ turns_by n xs else turns_by n xs) (ne_eqb n x.by ne) ∙ Tagged-none tag tags n le xs h.1

  -- no turn has a tag that isn't among the tags
  pub Tagged-fresh : (tag : Q → ℕ) (tags : List ℕ) (t : ℕ) → (Contains tags t → ⊥) → (xs : List (Mark Q)) → Tagged tag tags xs → turns_with tag t xs ≡ []
  Tagged-fresh tag tags t new [] h = refl
  Tagged-fresh tag tags t new (x ∷ xs) h =
      let ne : t ≢ tag x.turn = λ e. new (subst (Contains tags) (sym e) (some_contained tags x.by (tag x.turn) h.0)) in
      ap (λ b. if b then x.turn ∷ turns_with tag t xs else turns_with tag t xs) (ne_eqb t (tag x.turn) ne) ∙ Tagged-fresh tag tags t new xs h.1

  same_test : (tag : Q → ℕ) (tags : List ℕ) (n t : ℕ) (x : Mark Q) → AllDiffer tags → get_elem? tags n ≡ some t → get_elem? tags x.by ≡ some (tag x.turn) → (t == tag x.turn) ≡ (n == x.by)
  same_test tag tags n t x differ at there = dite (ℕ_discrete n x.by)
      (λ e. let same : t ≡ tag x.turn = some-injective _ _ (sym at ∙ (ap (λ (k : ℕ). get_elem? tags k) e ∙ there)) in eq-eqb t (tag x.turn) same ∙ sym (eq-eqb n x.by e))
      (λ ne. ne_eqb t (tag x.turn) (λ e. ne (differ n x.by t at (there ∙ ap some (sym e)))) ∙ sym (ne_eqb n x.by ne))

  -- the turns that have the tag of a number are those of the number
  pub turns_with-is_by : (tag : Q → ℕ) (tags : List ℕ) (n t : ℕ) → AllDiffer tags → get_elem? tags n ≡ some t → (xs : List (Mark Q)) → Tagged tag tags xs → turns_with tag t xs ≡ turns_by n xs
  turns_with-is_by tag tags n t differ at [] h = refl
  turns_with-is_by tag tags n t differ at (x ∷ xs) h =
      ap (λ b. if b then x.turn ∷ turns_with tag t xs else turns_with tag t xs) (same_test tag tags n t x differ at h.0)
      ∙ ap (λ l. if n == x.by then x.turn ∷ l else l) (turns_with-is_by tag tags n t differ at xs h.1)

  no_more : (l : List (Mark Q)) → length l ≤ 0 → l ≡ []
  no_more [] h = refl
  no_more (x ∷ xs) h = absurd (omega arith)

  pub longer_one : (a b : List (Mark Q)) → (longer a b ≡ a) ⊎ (longer a b ≡ b)
  longer_one a b = elim (nat_lt (length a) (length b)) as (λ t. ((if t then b else a) ≡ a) ⊎ ((if t then b else a) ≡ b)) [ true ↦ inr refl | false ↦ inl refl ]

  -- the longer of two beginnings is one
  pub longer_starts : (log a b : List (Mark Q)) → StartsWith log a → StartsWith log b → StartsWith log (longer a b)
  longer_starts log a b x y = elim (nat_lt (length a) (length b)) as (λ t. StartsWith log (if t then b else a)) [ true ↦ y | false ↦ x ]

  -- and begins with each of them
  pub longer_both : (log a b : List (Mark Q)) → StartsWith log a → StartsWith log b → StartsWith (longer a b) a × StartsWith (longer a b) b
  longer_both log a b x y = by_test (nat_lt (length a) (length b)) refl
    where
      by_test : (t : Bool) → nat_lt (length a) (length b) ≡ t → StartsWith (if t then b else a) a × StartsWith (if t then b else a) b
      by_test true e =
          let less : length a < length b = grind (arith, nat_tests) in
          (starts_shorter a b x.0 y.0 (sym x.1 ∙ y.1) (omega arith), starts_same b)
      by_test false e =
          let more : length b ≤ length a = grind (arith, nat_tests) in
          (starts_same a, starts_shorter b a y.0 x.0 (sym y.1 ∙ x.1) more)

  -- where one of the two is the whole list, so is the longer
  pub longer_left : (log a b : List (Mark Q)) → a ≡ log → StartsWith log b → longer a b ≡ log
  longer_left log a b whole y = by_test (nat_lt (length a) (length b)) refl
    where
      by_test : (t : Bool) → nat_lt (length a) (length b) ≡ t → (if t then b else a) ≡ log
      by_test false e = whole
      by_test true e =
          let less : length a < length b = grind (arith, nat_tests) in
          let long = ap length y.1 in
          let one = ap length whole in
          absurd (omega (arith, length-append b y.0))

  pub longer_right : (log a b : List (Mark Q)) → b ≡ log → StartsWith log a → longer a b ≡ log
  longer_right log a b whole x = by_test (nat_lt (length a) (length b)) refl
    where
      by_test : (t : Bool) → nat_lt (length a) (length b) ≡ t → (if t then b else a) ≡ log
      by_test true e = whole
      by_test false e =
          let more : length b ≤ length a = grind (arith, nat_tests) in
          let long = ap length x.1 in
          let one = ap length whole in
          sym (x.1 ∙ (ap (λ l. a ++ l) (no_more x.0 (omega (arith, length-append a x.0))) ∙ append-nil a))
