-- Laws of lists and tests.
use Rattle.std.proofs.Common.{◌≡◌, ℕ, Bool, true, false, ◌&&◌, ◌||◌, not, List, [], ◌∷◌, ◌++◌, ◌==◌, refl, ap, arith, ◌∙◌, sym, subst, append_assoc}
use Rattle.std.specs.Prelude.{Some, None, map, filter, cond, max, nat_le}
use Rattle.std.specs.List.{list_all, list_any}
use Rattle.std.proofs.lemmas.List.{append-nil}
use Rattle.std.proofs.lemmas.Bool.{eq-eqb, le-leb}
use Rattle.std.proofs.lemmas.List.Elements.{filter-append}
use Rattle.std.proofs.lemmas.List.Folds.{list_any-append}
use Rattle.std.proofs.lemmas.Bool.Decides.{nat_tests}
use Rattle.lload_names.specs.declared.names.OpName.{OpName}
use Rattle.lload_spec.specs.Lists.{each_split_from, last, first_passes, implies, agrees}
use Rattle.lload_spec.specs.CausedUp.{exactly_behind}
use Rattle.lload_names.specs.declared.names.Entry.{Entry}
use Rattle.part_spec.specs.Marked.{Marked}
use Rattle.part_spec.specs.Share.{each_place}
use Rattle.part_spec.specs.Marks.{each_from}
use Rattle.part_spec.specs.Fit.{ledger_behind as behind}
use Rattle.lload_spec.specs.Journal.{same_op}
use Rattle.lload_laws.proofs.ListLaws.{filter-map}
use Rattle.lload_spec.proofs.Growth.{left, right, both}

-- a test of each entry holds of a longer list, where what it says of the list before stays with more behind, and it
-- holds of each new entry
pub splits_grow : {A : Type 0} (test : List A → A → List A → Bool) (before L M : List A) → ((b : List A) (x : A) (c : List A) → test b x c ≡ true → test b x (c ++ M) ≡ true) → each_split_from test before L ≡ true → each_split_from test (before ++ L) M ≡ true → each_split_from test before (L ++ M) ≡ true
splits_grow test before [] M stays h k = subst (λ l. each_split_from test l M ≡ true) (append-nil before) k
splits_grow test before (x ∷ L) M stays h k = both (test before x (L ++ M)) _ (stays before x L (left (test before x L) _ h)) (splits_grow test (before ++ x ∷ []) L M stays (right (test before x L) _ h) (subst (λ l. each_split_from test l M ≡ true) (sym (append_assoc before (x ∷ []) L)) k))

-- two tests of each split
pub splits_both : {A : Type 0} (t t' : List A → A → List A → Bool) (before L : List A) → each_split_from t before L ≡ true → each_split_from t' before L ≡ true → each_split_from (λ b x c. t b x c && t' b x c) before L ≡ true
splits_both t t' before [] h k = refl
splits_both t t' before (x ∷ L) h k = both (t before x L && t' before x L) _ (both (t before x L) (t' before x L) (left (t before x L) _ h) (left (t' before x L) _ k)) (splits_both t t' (before ++ x ∷ []) L (right (t before x L) _ h) (right (t' before x L) _ k))

-- the last of a list with one more
pub last_push : {A : Type 0} (xs : List A) (x : A) → last (xs ++ x ∷ []) ≡ Some x
last_push [] x = refl
last_push (y ∷ []) x = refl
last_push (y ∷ z ∷ zs) x = last_push (z ∷ zs) x

-- a filter of a filter
pub filter-filter : {A : Type 0} (t u : A → Bool) (xs : List A) → filter t (filter u xs) ≡ filter (λ x. t x && u x) xs
filter-filter t u [] = refl
filter-filter t u (x ∷ xs) = more (t x) (u x) refl (filter-filter t u xs)
  where
    more : (a b : Bool) → t x ≡ a → filter t (filter u xs) ≡ filter (λ y. t y && u y) xs → filter t (cond b (x ∷ filter u xs) (filter u xs)) ≡ cond (a && b) (x ∷ filter (λ y. t y && u y) xs) (filter (λ y. t y && u y) xs)
    more true true h e = ap (λ c. cond c (x ∷ filter t (filter u xs)) (filter t (filter u xs))) h ∙ ap (λ l. x ∷ l) e
    more true false h e = e
    more false true h e = ap (λ c. cond c (x ∷ filter t (filter u xs)) (filter t (filter u xs))) h ∙ e
    more false false h e = e

-- a filter that lets everything through
pub filter-all : {A : Type 0} (t : A → Bool) (xs : List A) → ((x : A) → t x ≡ true) → filter t xs ≡ xs
filter-all t [] h = refl
filter-all t (x ∷ xs) h = ap (λ b. cond b (x ∷ filter t xs) (filter t xs)) (h x) ∙ ap (λ l. x ∷ l) (filter-all t xs h)

-- what isn't true is false
pub not_true : (b : Bool) → not b ≡ true → b ≡ false
not_true true h = absurd (let bad : false ≡ true = h in cc)
not_true false h = refl

-- where a test that is true would say what is false, it is false
pub false_by : (b : Bool) → (b ≡ true → false ≡ true) → b ≡ false
false_by true h = absurd (let bad : false ≡ true = h refl in cc)
false_by false h = refl

-- names of one operation
pub eqb_sym : (a b : ℕ) → (a == b) ≡ (b == a)
eqb_sym a b = by (a == b) (b == a) refl refl
  where
    by : (x y : Bool) → (a == b) ≡ x → (b == a) ≡ y → x ≡ y
    by true true h k = refl
    by true false h k = absurd (grind (arith, nat_tests, h, k))
    by false true h k = absurd (grind (arith, nat_tests, h, k))
    by false false h k = refl

pub same_number : (m n : ℕ) → (m == n) ≡ true → m ≡ n
same_number m n e = grind (arith, nat_tests)

pub eqb_same : (a : ℕ) → (a == a) ≡ true
eqb_same a = eq-eqb a a refl

pub same_op_sym : (a b : OpName) → same_op a b ≡ same_op b a
same_op_sym a b = ap (λ x. x && a.k == b.k) (eqb_sym a.client b.client) ∙ ap (λ x. b.client == a.client && x) (eqb_sym a.k b.k)

pub same_op_refl : (a : OpName) → same_op a a ≡ true
same_op_refl a = both (a.client == a.client) _ (eqb_same a.client) (eqb_same a.k)

pub same_op_eq : (a b : OpName) → same_op a b ≡ true → a ≡ b
same_op_eq a b h = let p : a.client ≡ b.client = same_number a.client b.client (left (a.client == b.client) _ h) in let q : a.k ≡ b.k = same_number a.k b.k (right (a.client == b.client) _ h) in λ i. record { client = p i; k = q i }

-- a map over a filter
pub map-filter : {A B : Type 0} (t : B → Bool) (f : A → B) (xs : List A) → map f (filter (λ x. t (f x)) xs) ≡ filter t (map f xs)
map-filter t f xs = sym (filter-map t f xs)

-- cases of a disjunction
pub or_elim : {C : Type 0} (a b : Bool) → (a ≡ true → C) → (b ≡ true → C) → (a || b) ≡ true → C
or_elim true b f g h = f refl
or_elim false b f g h = g h

pub or_left : (a b : Bool) → a ≡ true → (a || b) ≡ true
or_left true b h = refl
or_left false b h = absurd (let bad : false ≡ true = h in cc)

pub or_right : (a b : Bool) → b ≡ true → (a || b) ≡ true
or_right true b h = refl
or_right false b h = h

-- some of a longer list
pub any_before : {A : Type 0} (t : A → Bool) (xs ys : List A) → list_any t xs ≡ true → list_any t (xs ++ ys) ≡ true
any_before t xs ys h = list_any-append t xs ys ∙ or_left (list_any t xs) (list_any t ys) h

pub any_behind : {A : Type 0} (t : A → Bool) (xs ys : List A) → list_any t ys ≡ true → list_any t (xs ++ ys) ≡ true
any_behind t xs ys h = list_any-append t xs ys ∙ or_right (list_any t xs) (list_any t ys) h

pub any_split : {A : Type 0} {C : Type 0} (t : A → Bool) (xs ys : List A) → (list_any t xs ≡ true → C) → (list_any t ys ≡ true → C) → list_any t (xs ++ ys) ≡ true → C
any_split t xs ys f g h = or_elim (list_any t xs) (list_any t ys) f g (sym (list_any-append t xs ys) ∙ h)

-- none of a longer list
pub none_of_both : {A : Type 0} (t : A → Bool) (xs ys : List A) → list_any t xs ≡ false → list_any t ys ≡ false → list_any t (xs ++ ys) ≡ false
none_of_both t xs ys h k = list_any-append t xs ys ∙ ap (λ b. b || list_any t ys) h ∙ k

-- some of a filtered list
pub any_filtered : {A : Type 0} (t q : A → Bool) (xs : List A) → list_any t (filter q xs) ≡ true → list_any t xs ≡ true
any_filtered t q [] h = h
any_filtered t q (x ∷ xs) h = more (q x) (any_filtered t q xs) h
  where
    more : (b : Bool) → (list_any t (filter q xs) ≡ true → list_any t xs ≡ true) → list_any t (cond b (x ∷ filter q xs) (filter q xs)) ≡ true → (t x || list_any t xs) ≡ true
    more true f k = or_elim (t x) (list_any t (filter q xs)) (or_left (t x) (list_any t xs)) (λ j. or_right (t x) (list_any t xs) (f j)) k
    more false f k = or_right (t x) (list_any t xs) (f k)

pub none_filtered : {A : Type 0} (t q : A → Bool) (xs : List A) → ((x : A) → t x ≡ true → q x ≡ false) → list_any t (filter q xs) ≡ false
none_filtered t q [] h = refl
none_filtered t q (x ∷ xs) h = more (q x) (t x) refl refl (none_filtered t q xs h)
  where
    more : (b c : Bool) → q x ≡ b → t x ≡ c → list_any t (filter q xs) ≡ false → list_any t (cond b (x ∷ filter q xs) (filter q xs)) ≡ false
    more true true k j e = absurd (let bad : true ≡ false = sym k ∙ h x j in cc)
    more true false k j e = ap (λ a. a || list_any t (filter q xs)) j ∙ e
    more false c k j e = e

-- true isn't false
pub not_both : {C : Type 0} (b : Bool) → b ≡ true → b ≡ false → C
not_both b h k = absurd (let bad : true ≡ false = sym h ∙ k in cc)

-- a number is at most the greater of it and another
pub le_max : (a b : ℕ) → nat_le a (max a b) ≡ true
le_max a b = le-leb a (max a b) (omega arith)

pub le_same : (a : ℕ) → nat_le a a ≡ true
le_same a = le-leb a a (omega arith)

pub or_true : (b : Bool) → (b || true) ≡ true
or_true true = refl
or_true false = refl

-- the first of a longer list
pub first_stays : {A : Type 0} (t : A → Bool) (c d : List A) → first_passes t c ≡ true → first_passes t (c ++ d) ≡ true
first_stays t [] d h = absurd (let bad : false ≡ true = h in cc)
first_stays t (x ∷ c) d h = h

pub first_same : {A : Type 0} (t : A → Bool) (c d : List A) → first_passes t d ≡ false → first_passes t (c ++ d) ≡ first_passes t c
first_same t [] d h = h
first_same t (x ∷ c) d h = refl

pub implies_stays : (a b c : Bool) → (b ≡ true → c ≡ true) → implies a b ≡ true → implies a c ≡ true
implies_stays true b c f h = f h
implies_stays false b c f h = refl

-- what stands directly behind exactly what is due, in a longer list
pub exactly_grows : (due : List Entry → Entry → Bool) (passed : Entry → Bool) (L M : List Entry) → first_passes passed M ≡ false → exactly_behind due passed L ≡ true → each_split_from (λ place e behind. agrees (due place e) (first_passes passed behind)) L M ≡ true → exactly_behind due passed (L ++ M) ≡ true
exactly_grows due passed L M quiet h k = both (not (first_passes passed (L ++ M))) _ (ap not (first_same passed L M quiet) ∙ left (not (first_passes passed L)) _ h) (splits_grow (λ place e behind. agrees (due place e) (first_passes passed behind)) [] L M (λ b x c j. ap (agrees (due b x)) (first_same passed c M quiet) ∙ j) (right (not (first_passes passed L)) _ h) k)

-- a test of each entry of a longer list, by the state before it
pub places_grow : {S : Type 0} (step : S → Marked → S) (test : S → List Marked → Marked → List Marked → Bool) (p : S) (b L M : List Marked) → ((q : S) (c : List Marked) (x : Marked) (d : List Marked) → test q c x d ≡ true → test q c x (d ++ M) ≡ true) → each_place step test p b L ≡ true → each_place step test (behind step p L) (b ++ L) M ≡ true → each_place step test p b (L ++ M) ≡ true
places_grow step test p b [] M stays h k = subst (λ l. each_place step test p l M ≡ true) (append-nil b) k
places_grow step test p b (x ∷ L) M stays h k = both (test p b x (L ++ M)) _ (stays p b x L (left (test p b x L) _ h)) (places_grow step test (step p x) (b ++ x ∷ []) L M stays (right (test p b x L) _ h) (subst (λ l. each_place step test (behind step (step p x) L) l M ≡ true) (sym (append_assoc b (x ∷ []) L)) k))

pub eq_eqb : (a b : ℕ) → a ≡ b → (a == b) ≡ true
eq_eqb a b h = eq-eqb a b h

-- two tests of each entry, by the state before it
pub places_both : {S : Type 0} (step : S → Marked → S) (t t' : S → List Marked → Marked → List Marked → Bool) (p : S) (b L : List Marked) → each_place step t p b L ≡ true → each_place step t' p b L ≡ true → each_place step (λ q c x d. t q c x d && t' q c x d) p b L ≡ true
places_both step t t' p b [] h k = refl
places_both step t t' p b (x ∷ L) h k = both (t p b x L && t' p b x L) _ (both (t p b x L) (t' p b x L) (left (t p b x L) _ h) (left (t' p b x L) _ k)) (places_both step t t' (step p x) (b ++ x ∷ []) L (right (t p b x L) _ h) (right (t' p b x L) _ k))

-- what holds of all holds of those that a filter keeps
pub all_kept : {A : Type 0} (q t : A → Bool) (xs : List A) → list_all q xs ≡ true → list_all q (filter t xs) ≡ true
all_kept q t [] h = refl
all_kept q t (x ∷ xs) h = more (t x) (all_kept q t xs (right (q x) _ h))
  where
    more : (b : Bool) → list_all q (filter t xs) ≡ true → list_all q (cond b (x ∷ filter t xs) (filter t xs)) ≡ true
    more true k = both (q x) _ (left (q x) _ h) k
    more false k = k

-- a test of each entry of a longer list, by the state before it alone
pub froms_grow : {S : Type 0} (step : S → Marked → S) (test : S → Marked → Bool) (p : S) (L M : List Marked) → each_from step test p L ≡ true → each_from step test (behind step p L) M ≡ true → each_from step test p (L ++ M) ≡ true
froms_grow step test p [] M h k = k
froms_grow step test p (x ∷ L) M h k = both (test p x) _ (left (test p x) _ h) (froms_grow step test (step p x) L M (right (test p x) _ h) k)

-- the moment of the last entry
abbrev pub last_moment : List Entry → ℕ
last_moment place = elim (last place) [ None ↦ 0 | Some e ↦ e.at ]

-- the last that passes a test, where one more stands at the end
pub end_passes : (t : ℕ → Bool) (n : ℕ) (ns : List ℕ) → t n ≡ true → last (filter t (ns ++ n ∷ [])) ≡ Some n
end_passes t n ns h = ap last (filter-append t ns (n ∷ []) ∙ ap (λ b. filter t ns ++ cond b (n ∷ []) []) h) ∙ last_push (filter t ns) n

pub end_fails : (t : ℕ → Bool) (n : ℕ) (ns : List ℕ) → t n ≡ false → filter t (ns ++ n ∷ []) ≡ filter t ns
end_fails t n ns h = filter-append t ns (n ∷ []) ∙ ap (λ b. filter t ns ++ cond b (n ∷ []) []) h ∙ append-nil (filter t ns)

-- lists with the same last that passes a test, with one more
pub last_more : (t : ℕ → Bool) (n : ℕ) (xs ys : List ℕ) → last (filter t xs) ≡ last (filter t ys) → last (filter t (xs ++ n ∷ [])) ≡ last (filter t (ys ++ n ∷ []))
last_more t n xs ys h = more (t n) refl
  where
    more : (b : Bool) → t n ≡ b → last (filter t (xs ++ n ∷ [])) ≡ last (filter t (ys ++ n ∷ []))
    more true k = end_passes t n xs k ∙ sym (end_passes t n ys k)
    more false k = ap last (end_fails t n xs k) ∙ h ∙ sym (ap last (end_fails t n ys k))
