-- The rows of a client's state and the live operations of its list, side by side.
use Rattle.std.proofs.Common.{◌≡◌, ℕ, suc, ◌⊎◌, inl, inr, Bool, true, false, ◌==◌, ◌&&◌, not, List, [], ◌∷◌, ◌++◌, length, refl, ap, ◌∙◌, sym}
use Rattle.std.specs.Prelude.{Option, Some, None, map, filter, cond, is_none, nat_le}
use Rattle.std.specs.List.{list_any, list_all}
use Rattle.std.proofs.lemmas.List.Elements.{filter-append}
use Rattle.ldap_spec.specs.Messages.{Message}
use Rattle.ldap_spec.specs.Kinds.{kind_of}
use Rattle.lload_names.specs.declared.names.Entry.{Entry}
use Rattle.lload_spec.specs.Lists.{last, agrees, implies}
use Rattle.lload_spec.specs.Entries.{operation_message}
use Rattle.lload_spec.specs.Operations.{Operation, operations, operation_made, takes_id, manner_of, is_live, live_operations}
use Rattle.part_spec.specs.ClientState.{ClientState, ClientRow}
use Rattle.lload_spec.proofs.Growth.{left, right, both}
use Rattle.lload_laws.specs.ClientGrowth.{later_operation}
use Rattle.lload_laws.proofs.ClientGrowth.{operations_grow, ending_grows}
use Rattle.lload_laws.proofs.ListLaws.{filter-map, filter-ext, all_imply}
use Rattle.part_laws.proofs.ListLaws.{filter-filter, filter-all, not_true, same_number, eqb_sym, eqb_same, all_kept}

-- A row is of an operation.
pub record Match (r : ClientRow) (o : Operation) : Type 0 where
  pub k : r.k ≡ o.name.k
  pub id : r.request.id ≡ o.request.id
  pub kind : kind_of r.request.rest ≡ kind_of o.request.rest

abbrev pub Matches : List ClientRow → List Operation → Type 0
Matches [] [] = Unit {0}
Matches (r ∷ rs) (o ∷ os) = Match r o × Matches rs os
Matches _ _ = ⊥

-- rows and operations that pass tests which agree
pub matches_filter : (a qa : ClientRow → Bool) (b qb : Operation → Bool) → ((r : ClientRow) (o : Operation) → qa r ≡ true → qb o ≡ true → Match r o → a r ≡ b o) → (rs : List ClientRow) (os : List Operation) → list_all qa rs ≡ true → list_all qb os ≡ true → Matches rs os → Matches (filter a rs) (filter b os)
matches_filter a qa b qb f [] [] h k m = tt
matches_filter a qa b qb f (r ∷ rs) (o ∷ os) h k m = more (a r) (b o) (f r o (left (qa r) _ h) (left (qb o) _ k) m.0) (matches_filter a qa b qb f rs os (right (qa r) _ h) (right (qb o) _ k) m.1)
  where
    more : (x y : Bool) → x ≡ y → Matches (filter a rs) (filter b os) → Matches (cond x (r ∷ filter a rs) (filter a rs)) (cond y (o ∷ filter b os) (filter b os))
    more true true e j = (m.0, j)
    more true false e j = absurd (let bad : true ≡ false = e in cc)
    more false true e j = absurd (let bad : false ≡ true = e in cc)
    more false false e j = j
matches_filter a qa b qb f [] (o ∷ os) h k m = absurd m
matches_filter a qa b qb f (r ∷ rs) [] h k m = absurd m

-- an entry behind the operations
pub matches_later : (e : Entry) (rs : List ClientRow) (os : List Operation) → Matches rs os → Matches rs (map (later_operation e) os)
matches_later e [] [] m = tt
matches_later e (r ∷ rs) (o ∷ os) m = (record { k = m.0.k; id = m.0.id; kind = m.0.kind }, matches_later e rs os m.1)
matches_later e [] (o ∷ os) m = absurd m
matches_later e (r ∷ rs) [] m = absurd m

-- one more of each
pub matches_push : (rs : List ClientRow) (os : List Operation) (r : ClientRow) (o : Operation) → Match r o → Matches rs os → Matches (rs ++ r ∷ []) (os ++ o ∷ [])
matches_push [] [] r o n m = (n, tt)
matches_push (x ∷ rs) (y ∷ os) r o n m = (m.0, matches_push rs os r o n m.1)
matches_push [] (y ∷ os) r o n m = absurd m
matches_push (x ∷ rs) [] r o n m = absurd m

-- the live operations of a longer list: those that the entry doesn't end, and the one that it makes
abbrev pub ends_not : Entry → Operation → Bool
ends_not e o = is_none (manner_of o.request o.behind e)

pub live_grow : (c : ℕ) (L : List Entry) (e : Entry) → live_operations c (L ++ e ∷ []) ≡ map (later_operation e) (filter (ends_not e) (live_operations c L)) ++ operation_made c (suc (length (operations c L))) L e [] (operation_message e.what)
live_grow c L e = ap (filter is_live) (operations_grow c L e) ∙ filter-append is_live (map (later_operation e) (operations c L)) (operation_made c (suc (length (operations c L))) L e [] (operation_message e.what)) ∙ ap (λ l. l ++ filter is_live (operation_made c (suc (length (operations c L))) L e [] (operation_message e.what))) (filter-map is_live (later_operation e) (operations c L) ∙ ap (map (later_operation e)) (filter-ext (λ o. is_live (later_operation e o)) (λ o. ends_not e o && is_live o) (operations c L) (λ o. ending_grows o.request o.behind e ∙ swap (is_live o) (ends_not e o)) ∙ sym (filter-filter (ends_not e) is_live (operations c L)))) ∙ ap (λ l. map (later_operation e) (filter (ends_not e) (live_operations c L)) ++ l) (made_live (operation_message e.what))
  where
    swap : (a b : Bool) → (a && b) ≡ (b && a)
    swap true true = refl
    swap true false = refl
    swap false true = refl
    swap false false = refl

    made_live : (m : Option Message) → filter is_live (operation_made c (suc (length (operations c L))) L e [] m) ≡ operation_made c (suc (length (operations c L))) L e [] m
    made_live None = refl
    made_live (Some m) = refl

-- The rows of a client are apart, and numbered up to the count.
abbrev pub is_apart : ClientRow → ClientRow → Bool
is_apart r q = not (r.k == q.k) && not (r.request.id == q.request.id)

abbrev pub are_apart : List ClientRow → Bool
are_apart [] = true
are_apart (r ∷ rows) = list_all (is_apart r) rows && are_apart rows

abbrev pub is_untaken : Operation → Bool
is_untaken o = not (list_any (takes_id o.request.id) o.behind)

-- what the state says of the live operations, where no later operation took the identifier of a live one
pub record ClientLives (c : ℕ) (place : List Entry) (p : ClientState) : Type 0 where
  pub count : p.count ≡ length (operations c place)
  pub rows : Matches p.rows (live_operations c place)
  pub untaken : list_all is_untaken (live_operations c place) ≡ true
  pub apart : are_apart p.rows ≡ true
  pub within : list_all (λ r. nat_le r.k p.count) p.rows ≡ true

-- tests that agree on each element of a list
pub filter_agree : {A : Type 0} (q t t' : A → Bool) (xs : List A) → ((x : A) → q x ≡ true → t x ≡ t' x) → list_all q xs ≡ true → filter t xs ≡ filter t' xs
filter_agree q t t' [] f h = refl
filter_agree q t t' (x ∷ xs) f h = ap (λ b. cond b (x ∷ filter t xs) (filter t xs)) (f x (left (q x) _ h)) ∙ ap (λ l. cond (t' x) (x ∷ l) l) (filter_agree q t t' xs f (right (q x) _ h))

-- the row that an Out under an identifier is for
module _ (id : ℕ) (final : ClientRow → Bool) where
  abbrev is_that : ClientRow → ClientRow → Bool
  is_that q r = agrees (r.k == q.k) (r.request.id == id) && implies (r.request.id == id) (agrees (final r) (final q))

  abbrev is_other : ClientRow → Bool
  is_other r = not (r.request.id == id)

  pub record That (rows : List ClientRow) : Type 0 where
    pub row : ClientRow
    pub alone : filter (λ r. r.request.id == id) rows ≡ row ∷ []
    pub known : list_all (is_that row) rows ≡ true
    pub under : row.request.id ≡ id

  none_filter : (rows : List ClientRow) → list_all is_other rows ≡ true → filter (λ r. r.request.id == id) rows ≡ []
  none_filter [] h = refl
  none_filter (r ∷ rows) h = ap (λ b. cond b (r ∷ filter (λ q. q.request.id == id) rows) (filter (λ q. q.request.id == id) rows)) (not_true (r.request.id == id) (left (is_other r) _ h)) ∙ none_filter rows (right (is_other r) _ h)

  agrees_refl : (b : Bool) → agrees b b ≡ true
  agrees_refl true = refl
  agrees_refl false = refl

  -- a row apart from the one under the identifier
  other_that : (q r : ClientRow) → (r.k == q.k) ≡ false → (r.request.id == id) ≡ false → is_that q r ≡ true
  other_that q r h k = ap (λ b. agrees b (r.request.id == id) && implies (r.request.id == id) (agrees (final r) (final q))) h ∙ ap (λ b. agrees false b && implies b (agrees (final r) (final q))) k

  apart_from : (r q : ClientRow) → r.request.id ≡ id → is_apart r q ≡ true → (q.request.id == id) ≡ false
  apart_from r q e a = ap (λ n. q.request.id == n) (sym e) ∙ eqb_sym q.request.id r.request.id ∙ not_true (r.request.id == q.request.id) (right (not (r.k == q.k)) _ a)

  found_that : (rows : List ClientRow) → are_apart rows ≡ true → (list_all is_other rows ≡ true) ⊎ That rows
  found_that [] h = inl refl
  found_that (r ∷ rows) h = by (r.request.id == id) refl (found_that rows (right (list_all (is_apart r) rows) _ h))
    where
      others : list_all (is_apart r) rows ≡ true
      others = left (list_all (is_apart r) rows) _ h

      by : (b : Bool) → (r.request.id == id) ≡ b → (list_all is_other rows ≡ true) ⊎ That rows → (list_all is_other (r ∷ rows) ≡ true) ⊎ That (r ∷ rows)
      by true e f =
          let same : r.request.id ≡ id = same_number r.request.id id e in
          inr (record {
            row = r;
            alone = ap (λ b. cond b (r ∷ filter (λ q. q.request.id == id) rows) (filter (λ q. q.request.id == id) rows)) e ∙ ap (λ l. r ∷ l) (none_filter rows (all_imply (is_apart r) is_other rows (λ q a. ap not (apart_from r q same a)) others));
            known = both (is_that r r) _ (ap (λ b. agrees b (r.request.id == id) && implies (r.request.id == id) (agrees (final r) (final r))) (eqb_same r.k) ∙ ap (λ b. agrees true b && implies b (agrees (final r) (final r))) e ∙ agrees_refl (final r)) (all_imply (is_apart r) (is_that r) rows (λ q a. other_that r q (eqb_sym q.k r.k ∙ not_true (r.k == q.k) (left (not (r.k == q.k)) _ a)) (apart_from r q same a)) others);
            under = same;
          })
      by false e (inl n) = inl (both (is_other r) _ (ap not e) n)
      by false e (inr f) = inr (record {
        row = f.row;
        alone = ap (λ b. cond b (r ∷ filter (λ q. q.request.id == id) rows) (filter (λ q. q.request.id == id) rows)) e ∙ f.alone;
        known = both (is_that f.row r) _ (other_that f.row r (not_true (r.k == f.row.k) (left (not (r.k == f.row.k)) _ (left (is_apart r f.row) true (sym (ap (list_all (is_apart r)) f.alone) ∙ all_kept (is_apart r) (λ q. q.request.id == id) rows others)))) e) f.known;
        under = f.under;
      })

  -- what an Out leaves of the rows
  abbrev pub left_by : Option ClientRow → List ClientRow → List ClientRow
  left_by None rows = rows
  left_by (Some q) rows = elim (final q) [ false ↦ rows | true ↦ filter (λ r. not (r.k == q.k)) rows ]

  pub out_rows : (rows : List ClientRow) → are_apart rows ≡ true → left_by (last (filter (λ r. r.request.id == id) rows)) rows ≡ filter (λ r. not (r.request.id == id && final r)) rows
  out_rows rows h = by (found_that rows h)
    where
      all : (q t : ClientRow → Bool) → ((r : ClientRow) → q r ≡ true → t r ≡ true) → list_all q rows ≡ true → rows ≡ filter t rows
      all q t f k = sym (filter-all (λ r. true) rows (λ r. refl)) ∙ filter_agree q (λ r. true) t rows (λ r j. sym (f r j)) k

      unless : (a b c d : Bool) → agrees a b && implies b (agrees c d) ≡ true → d ≡ false → not (b && c) ≡ true
      unless a true true true k e = absurd (let bad : true ≡ false = e in cc)
      unless true true true false k e = absurd (let bad : false ≡ true = k in cc)
      unless false true true false k e = absurd (let bad : false ≡ true = k in cc)
      unless a true false d k e = refl
      unless a false c d k e = refl

      exactly : (a b c d : Bool) → agrees a b && implies b (agrees c d) ≡ true → d ≡ true → not a ≡ not (b && c)
      exactly a b c false k e = absurd (let bad : false ≡ true = e in cc)
      exactly true true true true k e = refl
      exactly true true false true k e = absurd (let bad : false ≡ true = k in cc)
      exactly true false c true k e = absurd (let bad : false ≡ true = k in cc)
      exactly false true c true k e = absurd (let bad : false ≡ true = k in cc)
      exactly false false c true k e = refl

      one : (q : ClientRow) → list_all (is_that q) rows ≡ true → (d : Bool) → final q ≡ d → (elim d [ false ↦ rows | true ↦ filter (λ r. not (r.k == q.k)) rows ]) ≡ filter (λ r. not (r.request.id == id && final r)) rows
      one q k true e = filter_agree (is_that q) (λ r. not (r.k == q.k)) (λ r. not (r.request.id == id && final r)) rows (λ r j. exactly (r.k == q.k) (r.request.id == id) (final r) (final q) j e) k
      one q k false e = all (is_that q) (λ r. not (r.request.id == id && final r)) (λ r j. unless (r.k == q.k) (r.request.id == id) (final r) (final q) j e) k

      by : (list_all is_other rows ≡ true) ⊎ That rows → left_by (last (filter (λ r. r.request.id == id) rows)) rows ≡ filter (λ r. not (r.request.id == id && final r)) rows
      by (inl n) = ap (λ l. left_by (last l) rows) (none_filter rows n) ∙ all is_other (λ r. not (r.request.id == id && final r)) (λ r j. ap (λ b. not (b && final r)) (not_true (r.request.id == id) j)) n
      by (inr f) = ap (λ l. left_by (last l) rows) f.alone ∙ one f.row f.known (final f.row) refl
