-- The rests of the answers to an operation among letters, in order; and what is so of the rows of an operation.
use Rattle.std.proofs.Common.{◌≡◌, ℕ, Bool, true, false, ◌==◌, ◌&&◌, ◌||◌, not, if◌then◌else◌, List, [], ◌∷◌, ◌++◌, append_assoc, refl, ap, ◌∙◌, sym}
use Rattle.std.specs.Prelude.{Option, Some, None, cond, find, flat_map}
use Rattle.std.specs.List.{list_any, list_all}
use Rattle.lload_names.specs.declared.names.Letter.{Letter}
use Rattle.lload_names.specs.declared.names.Letter.TheVariants.{Reply}
use Rattle.lload_names.specs.declared.names.OpName.{OpName}
use Rattle.lload_names.specs.declared.names.PartName.TheVariants.{Client}
use Rattle.lload_names.specs.declared.names.Posted.{Posted}
use Rattle.lload_spec.specs.Journal.{same_op, same_part}
use Rattle.lload_spec.specs.Lists.{implies}
use Rattle.lload_spec.proofs.Growth.{left, right, both}
use Rattle.lload_laws.proofs.ListLaws.{all_imply, found, implied, implies_by}
use Rattle.part_laws.proofs.ListLaws.{eqb_sym, not_true, or_elim, same_op_eq}
use Rattle.part_spec.specs.ConnectionState.{UpRow}
use Rattle.part_spec.specs.Inputs.{reply}
use Rattle.part_spec.specs.Marked.{letters_to}
use Rattle.part_spec.specs.Share.{answer_told}
use Rattle.connection_laws.proofs.Apart.{Shrinks, is_apart, are_apart, all_flat_by}
use Rattle.joined_laws.proofs.Taken.{letters_to_both}
use Rattle.fifo_laws.proofs.Quiet.{is_reply_of, is_quiet}

abbrev pub rests : OpName → List Letter → List (List ℕ)
rests op [] = []
rests op (x ∷ xs) = answer_told op x ++ rests op xs

-- those that go to the operation's client
abbrev pub told : OpName → List Posted → List (List ℕ)
told op xs = rests op (letters_to (Client op.client) xs)

pub rests_both : (op : OpName) (xs ys : List Letter) → rests op (xs ++ ys) ≡ rests op xs ++ rests op ys
rests_both op [] ys = refl
rests_both op (x ∷ xs) ys = ap (λ l. answer_told op x ++ l) (rests_both op xs ys) ∙ sym (append_assoc (answer_told op x) (rests op xs) (rests op ys))

pub told_both : (op : OpName) (xs ys : List Posted) → told op (xs ++ ys) ≡ told op xs ++ told op ys
told_both op xs ys = ap (rests op) (letters_to_both (Client op.client) xs ys) ∙ rests_both op (letters_to (Client op.client) xs) (letters_to (Client op.client) ys)

none_told : (op : OpName) (x : Letter) → not (is_reply_of op x) ≡ true → answer_told op x ≡ []
none_told op (Reply o rest is_last who) h = ap (λ b. if b then rest ∷ [] else []) (not_true (same_op op o) h)
none_told op _ h = refl

pub quiet_told : (op : OpName) (xs : List Posted) → is_quiet op xs ≡ true → told op xs ≡ []
quiet_told op [] h = refl
quiet_told op (x ∷ xs) h = by (same_part (Client op.client) x.to) (quiet_told op xs (right (not (is_reply_of op x.letter)) _ h))
  where
    by : (b : Bool) → told op xs ≡ [] → rests op ((elim b [ true ↦ x.letter ∷ [] | false ↦ [] ]) ++ letters_to (Client op.client) xs) ≡ []
    by true k = ap (λ l. l ++ told op xs) (none_told op x.letter (left (not (is_reply_of op x.letter)) _ h)) ∙ k
    by false k = k

-- a Reply to the operation, and what is given beside it
pub reply_told : (op o : OpName) (rest : List ℕ) (is_last : Bool) (who : Option (List ℕ)) (more : List Posted) → same_op op o ≡ true → is_quiet op more ≡ true → told op (reply o rest is_last who ++ more) ≡ rest ∷ []
reply_told op o rest is_last who more h k = told_both op (reply o rest is_last who) more ∙ ap (λ l. told op (reply o rest is_last who) ++ l) (quiet_told op more k) ∙ one (op.client == o.client) (left (op.client == o.client) _ h)
  where
    one : (b : Bool) → b ≡ true → rests op ((elim b [ true ↦ Reply o rest is_last who ∷ [] | false ↦ [] ]) ++ []) ++ [] ≡ rest ∷ []
    one true j = ap (λ d. ((if d then rest ∷ [] else []) ++ []) ++ []) h
    one false j = absurd (let bad : false ≡ true = j in cc)

-- The rows of the operation.
module _ (op : OpName) where
  abbrev pub is_mine : UpRow → Bool
  is_mine r = same_op op r.op

  -- what is so of each row of the operation
  abbrev pub of_mine : (UpRow → Bool) → UpRow → Bool
  of_mine t r = implies (same_op op r.op) (t r)

  mine_shrinks : (t : UpRow → Bool) (r : UpRow) (rs : List UpRow) → Shrinks r rs → same_op op r.op ≡ false → list_all (of_mine t) rs ≡ true
  mine_shrinks t r [] h k = refl
  mine_shrinks t r (q ∷ []) h k = both (of_mine t q) true (ap (λ o. implies (same_op op o) (t q)) (sym h.1) ∙ ap (λ b. implies b (t q)) k) refl
  mine_shrinks t r (q ∷ x ∷ xs) h k = absurd h

  -- behind what each becomes, where it is so of each row of the operation before
  pub mine_flat : (t q : UpRow → Bool) (f : UpRow → List UpRow) (rows : List UpRow) → ((r : UpRow) → Shrinks r (f r)) → ((r : UpRow) → q r ≡ true → list_all (of_mine t) (f r) ≡ true) → list_all (of_mine q) rows ≡ true → list_all (of_mine t) (flat_map f rows) ≡ true
  mine_flat t q f rows g h k = all_flat_by (of_mine q) (of_mine t) f rows one k
    where
      one : (r : UpRow) → of_mine q r ≡ true → list_all (of_mine t) (f r) ≡ true
      one r j = by (same_op op r.op) refl j
        where
          by : (b : Bool) → same_op op r.op ≡ b → implies b (q r) ≡ true → list_all (of_mine t) (f r) ≡ true
          by true e i = h r i
          by false e i = mine_shrinks t r (f r) (g r) e

  -- the row that is found is the one of the operation, or that has its identifier no row of the operation has
  pub lone_found : (t q : UpRow → Bool) (rows : List UpRow) (r : UpRow) → are_apart rows ≡ true → find q rows ≡ Some r → same_op op r.op ≡ true → t r ≡ true → list_all (of_mine t) rows ≡ true
  lone_found t q [] r h e k j = refl
  lone_found t q (x ∷ rows) r h e k j = by (q x) e (lone_found t q rows r (right (list_all (is_apart x) rows) _ h))
    where
      others : list_all (is_apart x) rows ≡ true
      others = left (list_all (is_apart x) rows) _ h

      one_name : (y z : UpRow) → is_apart y z ≡ true → same_op op y.op ≡ true → same_op op z.op ≡ true → ⊥
      one_name y z a b c = let same : same_op y.op z.op ≡ true = ap (λ o. same_op o z.op) (sym (same_op_eq op y.op b)) ∙ c in absurd (let bad : false ≡ true = sym (ap not same) ∙ left (not (same_op y.op z.op)) _ a in cc)

      by : (b : Bool) → cond b (Some x) (find q rows) ≡ Some r → (find q rows ≡ Some r → same_op op r.op ≡ true → t r ≡ true → list_all (of_mine t) rows ≡ true) → list_all (of_mine t) (x ∷ rows) ≡ true
      by true i ih =
          let same : x ≡ r = cc in
          both (of_mine t x) _ (implies_by (same_op op x.op) (t x) (λ z. ap t same ∙ j))
          (all_imply (is_apart x) (of_mine t) rows (λ y a. implies_by (same_op op y.op) (t y) (λ z. absurd (one_name x y a (ap (λ (w : UpRow). same_op op w.op) same ∙ k) z))) others)
      by false i ih = both (of_mine t x) _ (implies_by (same_op op x.op) (t x) (λ z. absurd (one_name x r (found (is_apart x) q rows r i others) z k))) (ih i k j)

  pub other_found : (q : UpRow → Bool) (rows : List UpRow) (r : UpRow) → are_apart rows ≡ true → find q rows ≡ Some r → same_op op r.op ≡ false → list_all (of_mine (λ x. not (x.id == r.id))) rows ≡ true
  other_found q [] r h e k = refl
  other_found q (x ∷ rows) r h e k = by (q x) e (other_found q rows r (right (list_all (is_apart x) rows) _ h))
    where
      others : list_all (is_apart x) rows ≡ true
      others = left (list_all (is_apart x) rows) _ h

      unlike : (y : UpRow) → is_apart x y ≡ true → x ≡ r → not (y.id == r.id) ≡ true
      unlike y a same = ap (λ b. not b) (eqb_sym y.id r.id ∙ ap (λ (w : UpRow). w.id == y.id) (sym same)) ∙ right (not (same_op x.op y.op)) _ a

      by : (b : Bool) → cond b (Some x) (find q rows) ≡ Some r → (find q rows ≡ Some r → same_op op r.op ≡ false → list_all (of_mine (λ y. not (y.id == r.id))) rows ≡ true) → list_all (of_mine (λ y. not (y.id == r.id))) (x ∷ rows) ≡ true
      by true i ih =
          let same : x ≡ r = cc in
          both (of_mine (λ y. not (y.id == r.id)) x) _ (ap (λ (w : UpRow). implies (same_op op w.op) (not (x.id == r.id))) same ∙ ap (λ b. implies b (not (x.id == r.id))) k)
          (all_imply (is_apart x) (of_mine (λ y. not (y.id == r.id))) rows (λ y a. implies_by (same_op op y.op) _ (λ z. unlike y a same)) others)
      by false i ih = both (of_mine (λ y. not (y.id == r.id)) x) _ (implies_by (same_op op x.op) _ (λ z. right (not (same_op x.op r.op)) _ (found (is_apart x) q rows r i others))) (ih i k)

  pub none_found_mine : (q : UpRow → Bool) (rows : List UpRow) → find q rows ≡ None → list_all (of_mine (λ x. not (q x))) rows ≡ true
  none_found_mine q [] h = refl
  none_found_mine q (x ∷ rows) h = by (q x) refl h (none_found_mine q rows)
    where
      by : (b : Bool) → q x ≡ b → cond b (Some x) (find q rows) ≡ None → (find q rows ≡ None → list_all (of_mine (λ y. not (q y))) rows ≡ true) → list_all (of_mine (λ y. not (q y))) (x ∷ rows) ≡ true
      by true e k ih = absurd (let bad : Some x ≡ None = k in cc)
      by false e k ih = both (of_mine (λ y. not (q y)) x) _ (implies_by (same_op op x.op) _ (λ z. ap not e)) (ih k)

  -- there is one, or all are of other operations
  pub none_mine : (rows : List UpRow) → list_any (λ r. same_op op r.op) rows ≡ false → list_all (λ r. not (same_op op r.op)) rows ≡ true
  none_mine [] h = refl
  none_mine (x ∷ rows) h = by (same_op op x.op) refl h (none_mine rows)
    where
      by : (b : Bool) → same_op op x.op ≡ b → (b || list_any (λ r. same_op op r.op) rows) ≡ false → (list_any (λ r. same_op op r.op) rows ≡ false → list_all (λ r. not (same_op op r.op)) rows ≡ true) → (not (same_op op x.op) && list_all (λ r. not (same_op op r.op)) rows) ≡ true
      by true e k ih = absurd (let bad : true ≡ false = k in cc)
      by false e k ih = both (not (same_op op x.op)) _ (ap not e) (ih k)

  -- what is so of each is so of one
  pub one_mine : (t : UpRow → Bool) (rows : List UpRow) → list_any (λ r. same_op op r.op) rows ≡ true → list_all (of_mine t) rows ≡ true → (r : UpRow) × (t r ≡ true)
  one_mine t [] h k = absurd (let bad : false ≡ true = h in cc)
  one_mine t (x ∷ rows) h k = or_elim (same_op op x.op) (list_any (λ r. same_op op r.op) rows) (λ j. (x, implied (same_op op x.op) (t x) (left (of_mine t x) _ k) j)) (λ j. one_mine t rows j (right (of_mine t x) _ k)) h

  -- rows of which nothing is so are of other operations
  pub gone_mine : (rows : List UpRow) → list_all (of_mine (λ r. false)) rows ≡ true → list_all (λ r. not (same_op op r.op)) rows ≡ true
  gone_mine rows h = all_imply (of_mine (λ r. false)) (λ r. not (same_op op r.op)) rows (λ r k. by (same_op op r.op) k) h
    where
      by : (b : Bool) → implies b false ≡ true → not b ≡ true
      by true k = absurd (let bad : false ≡ true = k in cc)
      by false k = refl
