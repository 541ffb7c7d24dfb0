-- What holds of some element of a list, as a type.
use Rattle.std.proofs.Common.{◌≡◌, ◌⊎◌, inl, inr, Bool, true, false, List, [], ◌∷◌, ◌++◌, refl, ap}
use Rattle.std.specs.Prelude.{map, flat_map, filter, cond, nat_lt}
use Rattle.std.specs.List.{list_any}
use Rattle.part_spec.specs.ConnectionState.{UpRow, put_row}
use Rattle.part_laws.proofs.ListLaws.{or_left, or_right}
use Rattle.client_answer_laws.proofs.Each.{Each, each_append}

abbrev pub OneIn : {A : Type 0} → (A → Type 0) → List A → Type 0
OneIn P [] = ⊥
OneIn P (x ∷ xs) = P x ⊎ OneIn P xs

pub one_imply : {A : Type 0} (P Q : A → Type 0) (xs : List A) → ((x : A) → P x → Q x) → OneIn P xs → OneIn Q xs
one_imply P Q [] f h = absurd h
one_imply P Q (x ∷ xs) f (inl h) = inl (f x h)
one_imply P Q (x ∷ xs) f (inr h) = inr (one_imply P Q xs f h)

pub one_before : {A : Type 0} (P : A → Type 0) (xs ys : List A) → OneIn P xs → OneIn P (xs ++ ys)
one_before P [] ys h = absurd h
one_before P (x ∷ xs) ys (inl h) = inl h
one_before P (x ∷ xs) ys (inr h) = inr (one_before P xs ys h)

pub one_behind : {A : Type 0} (P : A → Type 0) (xs ys : List A) → OneIn P ys → OneIn P (xs ++ ys)
one_behind P [] ys h = h
one_behind P (x ∷ xs) ys h = inr (one_behind P xs ys h)

pub one_map : {A B : Type 0} (P : A → Type 0) (Q : B → Type 0) (f : A → B) (xs : List A) → ((x : A) → P x → Q (f x)) → OneIn P xs → OneIn Q (map f xs)
one_map P Q f [] g h = absurd h
one_map P Q f (x ∷ xs) g (inl h) = inl (g x h)
one_map P Q f (x ∷ xs) g (inr h) = inr (one_map P Q f xs g h)

-- where each is so, what each becomes
pub one_flat : {A B : Type 0} (P R : A → Type 0) (Q : B → Type 0) (f : A → List B) (xs : List A) → Each R xs → ((x : A) → R x → P x → OneIn Q (f x)) → OneIn P xs → OneIn Q (flat_map f xs)
one_flat P R Q f [] e g h = absurd h
one_flat P R Q f (x ∷ xs) e g (inl h) = one_before Q (f x) (flat_map f xs) (g x e.0 h)
one_flat P R Q f (x ∷ xs) e g (inr h) = one_behind Q (f x) (flat_map f xs) (one_flat P R Q f xs e.1 g h)

pub each_flat : {A B : Type 0} (P : A → Type 0) (Q : B → Type 0) (f : A → List B) (xs : List A) → ((x : A) → P x → Each Q (f x)) → Each P xs → Each Q (flat_map f xs)
each_flat P Q f [] g h = tt
each_flat P Q f (x ∷ xs) g h = each_append Q (f x) (flat_map f xs) (g x h.0) (each_flat P Q f xs g h.1)

-- of one that is so and each that is so
pub one_each : {A : Type 0} {C : Type 0} (P Q : A → Type 0) (xs : List A) → Each P xs → ((x : A) → P x → Q x → C) → OneIn Q xs → C
one_each P Q [] e f h = absurd h
one_each P Q (x ∷ xs) e f (inl h) = f x e.0 h
one_each P Q (x ∷ xs) e f (inr h) = one_each P Q xs e.1 f h

pub one_passes : {A : Type 0} (P : A → Type 0) (t : A → Bool) (xs : List A) → ((x : A) → P x → t x ≡ true) → OneIn P xs → list_any t xs ≡ true
one_passes P t [] f h = absurd h
one_passes P t (x ∷ xs) f (inl h) = or_left (t x) _ (f x h)
one_passes P t (x ∷ xs) f (inr h) = or_right (t x) _ (one_passes P t xs f h)

-- rows with one more
pub one_put : (P : UpRow → Type 0) (r : UpRow) (rows : List UpRow) → OneIn P rows → OneIn P (put_row r rows)
one_put P r [] h = absurd h
one_put P r (x ∷ rows) h = by (nat_lt x.id r.id) h (one_put P r rows)
  where
    by : (b : Bool) → P x ⊎ OneIn P rows → (OneIn P rows → OneIn P (put_row r rows)) → OneIn P (elim b [ true ↦ x ∷ put_row r rows | false ↦ r ∷ x ∷ rows ])
    by true (inl k) f = inl k
    by true (inr k) f = inr (f k)
    by false k f = inr k

pub one_new : (P : UpRow → Type 0) (r : UpRow) (rows : List UpRow) → P r → OneIn P (put_row r rows)
one_new P r [] h = inl h
one_new P r (x ∷ rows) h = by (nat_lt x.id r.id) (one_new P r rows h)
  where
    by : (b : Bool) → OneIn P (put_row r rows) → OneIn P (elim b [ true ↦ x ∷ put_row r rows | false ↦ r ∷ x ∷ rows ])
    by true k = inr k
    by false k = inl h

pub each_put : (P : UpRow → Type 0) (r : UpRow) (rows : List UpRow) → P r → Each P rows → Each P (put_row r rows)
each_put P r [] h k = (h, tt)
each_put P r (x ∷ rows) h k = by (nat_lt x.id r.id) (each_put P r rows h k.1)
  where
    by : (b : Bool) → Each P (put_row r rows) → Each P (elim b [ true ↦ x ∷ put_row r rows | false ↦ r ∷ x ∷ rows ])
    by true j = (k.0, j)
    by false j = (h, k)

-- what a filter leaves, as what each becomes
pub filter_flat : {A : Type 0} (t : A → Bool) (xs : List A) → flat_map (λ x. cond (t x) (x ∷ []) []) xs ≡ filter t xs
filter_flat t [] = refl
filter_flat t (x ∷ xs) = by (t x) (filter_flat t xs)
  where
    by : (b : Bool) → flat_map (λ y. cond (t y) (y ∷ []) []) xs ≡ filter t xs → cond b (x ∷ []) [] ++ flat_map (λ y. cond (t y) (y ∷ []) []) xs ≡ cond b (x ∷ filter t xs) (filter t xs)
    by true h = ap (λ l. x ∷ l) h
    by false h = h

pub same_flat : {A : Type 0} (xs : List A) → flat_map (λ x. x ∷ []) xs ≡ xs
same_flat [] = refl
same_flat (x ∷ xs) = ap (λ l. x ∷ l) (same_flat xs)
