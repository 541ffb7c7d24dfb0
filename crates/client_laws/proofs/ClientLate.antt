-- An operation of whose name a client's state has no row isn't live by the client's list.
use Rattle.std.proofs.Common.{◌≡◌, ℕ, Bool, true, false, ◌==◌, ◌&&◌, ◌||◌, List, [], ◌∷◌, length, refl, ap, ◌∙◌, sym}
use Rattle.std.specs.Prelude.{Option, Some, None, filter, find, cond}
use Rattle.std.specs.List.{list_any}
use Rattle.lload_names.specs.declared.names.Entry.{Entry}
use Rattle.lload_names.specs.declared.names.OpName.{OpName}
use Rattle.lload_spec.specs.Lists.{passes}
use Rattle.lload_spec.specs.Journal.{same_op}
use Rattle.lload_spec.specs.Operations.{Operation, operations, live_operations, is_live, is_live_at}
use Rattle.part_spec.specs.ClientState.{ClientState, ClientRow, row_named}
use Rattle.lload_spec.proofs.Growth.{left, right, both}
use Rattle.lload_laws.specs.ClientGrowth.{is_named_within}
use Rattle.lload_laws.proofs.ClientGrowth.{own_names}
use Rattle.lload_laws.proofs.ListLaws.{found, found_passes}
use Rattle.part_laws.proofs.ListLaws.{same_number, eq_eqb, or_left, or_right, or_elim, false_by}
use Rattle.client_laws.proofs.Matches.{Matches, ClientLives}

-- what is found and passes a second test is among those that pass it
found_kept : {A : Type 0} (t q : A → Bool) (xs : List A) (y : A) → find t xs ≡ Some y → q y ≡ true → list_any t (filter q xs) ≡ true
found_kept t q [] y f h = absurd (let bad : None ≡ Some y = f in cc)
found_kept t q (x ∷ xs) y f h = more (t x) (q x) refl refl f (λ g. found_kept t q xs y g h)
  where
    more : (a b : Bool) → t x ≡ a → q x ≡ b → cond a (Some x) (find t xs) ≡ Some y → (find t xs ≡ Some y → list_any t (filter q xs) ≡ true) → list_any t (cond b (x ∷ filter q xs) (filter q xs)) ≡ true
    more true true e k g rest = or_left (t x) (list_any t (filter q xs)) e
    more true false e k g rest = let same : x ≡ y = cc in absurd (let bad : false ≡ true = sym k ∙ ap q same ∙ h in cc)
    more false true e k g rest = or_right (t x) (list_any t (filter q xs)) (rest g)
    more false false e k g rest = rest g

-- what isn't found is nowhere
none_there : {A : Type 0} (t : A → Bool) (xs : List A) → find t xs ≡ None → list_any t xs ≡ false
none_there t [] f = refl
none_there t (x ∷ xs) f = more (t x) f (none_there t xs)
  where
    more : (b : Bool) → cond b (Some x) (find t xs) ≡ None → (find t xs ≡ None → list_any t xs ≡ false) → (b || list_any t xs) ≡ false
    more true g rest = absurd (let bad : Some x ≡ None = g in cc)
    more false g rest = rest g

-- a live operation of a number has a row of that number
row_there : (p : ClientState) (op : OpName) (rows : List ClientRow) (os : List Operation) → (p.number == op.client) ≡ true → Matches rows os → list_any (λ o. same_op op o.name) os ≡ true → list_any (λ r. p.number == op.client && r.k == op.k) rows ≡ true
row_there p op [] [] n m h = h
row_there p op (r ∷ rows) (o ∷ os) n m h = or_elim (same_op op o.name) (list_any (λ x. same_op op x.name) os) (λ k. or_left (p.number == op.client && r.k == op.k) _ (both (p.number == op.client) _ n (eq_eqb r.k op.k (m.0.k ∙ sym (same_number op.k o.name.k (right (op.client == o.name.client) _ k)))))) (λ k. or_right (p.number == op.client && r.k == op.k) _ (row_there p op rows os n m.1 k)) h
row_there p op [] (o ∷ os) n m h = absurd m
row_there p op (r ∷ rows) [] n m h = absurd m

pub none_live : (c : ℕ) (place : List Entry) (p : ClientState) (op : OpName) → ClientLives c place p → p.number ≡ c → row_named p op ≡ None → is_live_at c place op ≡ false
none_live c place p op h n none = by (find (λ o. same_op op o.name) (operations c place)) refl
  where
    by : (o : Option Operation) → find (λ x. same_op op x.name) (operations c place) ≡ o → passes is_live o ≡ false
    by None f = refl
    by (Some o) f = false_by (is_live o) (λ live.
        let named : same_op op o.name ≡ true = found_passes (λ x. same_op op x.name) (operations c place) o f in
        let own : o.name.client ≡ c = same_number o.name.client c (left (o.name.client == c) _ (left _ _ (found (is_named_within c (length (operations c place))) (λ x. same_op op x.name) (operations c place) o f (own_names c place)))) in
        let client : p.number ≡ op.client = n ∙ sym own ∙ sym (same_number op.client o.name.client (left (op.client == o.name.client) _ named)) in
        let there : list_any (λ x. same_op op x.name) (live_operations c place) ≡ true = found_kept (λ x. same_op op x.name) is_live (operations c place) o f live in
        sym (none_there (λ r. p.number == op.client && r.k == op.k) p.rows none) ∙ row_there p op p.rows (live_operations c place) (eq_eqb p.number op.client client) h.rows there)
