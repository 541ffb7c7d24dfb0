-- An Out under the identifier of a row is for the row's operation, and for no other.
use Rattle.std.proofs.Common.{◌≡◌, ℕ, ◌⊎◌, inl, inr, Bool, true, false, ◌==◌, ◌&&◌, ◌||◌, not, List, [], ◌∷◌, ◌++◌, length, refl, ap, ◌∙◌, sym, subst}
use Rattle.std.specs.Prelude.{Some, None, find, cond, if◌then◌else◌}
use Rattle.std.specs.List.{list_any, list_all}
use Rattle.std.proofs.lemmas.List.{append-nil}
use Rattle.lload_names.specs.declared.names.Entry.{Entry}
use Rattle.lload_names.specs.declared.names.OpName.{OpName}
use Rattle.lload_names.specs.declared.names.PartName.{PartName}
use Rattle.lload_names.specs.declared.names.What.TheVariants as what
use Rattle.lload_spec.specs.Lists.{implies}
use Rattle.lload_spec.specs.Journal.{same_op}
use Rattle.lload_spec.specs.Entries.{out_message}
use Rattle.lload_spec.specs.Operations.{Operation, operations, live_operations, is_live, outs, out_rest, takes_id}
use Rattle.part_spec.specs.ClientState.{ClientState, ClientRow}
use Rattle.lload_spec.proofs.Growth.{left, right, both}
use Rattle.lload_laws.specs.ClientGrowth.{later_operation, is_named_within}
use Rattle.lload_laws.proofs.ClientGrowth.{outs_grow}
use Rattle.lload_laws.proofs.ListLaws.{found, any-filter, implied, all_imply}
use Rattle.part_laws.proofs.ListLaws.{not_both, not_true, same_number, eqb_sym, eq_eqb, same_op_eq, or_left, or_right, false_by}
use Rattle.client_laws.proofs.Matches.{Match, Matches, ClientLives, is_apart, are_apart, is_untaken}
use Rattle.client_laws.proofs.ClientOuts.{EndsOnce, has_last, live_known}
use Rattle.client_laws.proofs.ClientLives.{entry_of}
use Rattle.client_share_laws.proofs.OperationNames.{are_apart as names_apart, named_apart}
use Rattle.client_answer_laws.proofs.Each.{Each, each_imply, each_both, each_filter, each_unfilter}
use Rattle.client_answer_laws.proofs.Waits.{named_each}

-- What an Out adds to what an operation got.
pub none_added : (e : Entry) (o : Operation) → out_message e.what ≡ None → outs (later_operation e o) ≡ outs o
none_added e o h = outs_grow o.request.id o.behind e ∙ ap (λ m. outs o ++ (if list_any (takes_id o.request.id) o.behind || takes_id o.request.id e then [] else out_rest o.request.id m)) h ∙ by (list_any (takes_id o.request.id) o.behind || takes_id o.request.id e)
  where
    by : (b : Bool) → outs o ++ (if b then [] else []) ≡ outs o
    by true = append-nil (outs o)
    by false = append-nil (outs o)

module _ (part : PartName) (at id : ℕ) (rest : List ℕ) (o : Operation) where
  grown : outs (later_operation (entry_of part at (what.Out id rest)) o) ≡ outs o ++ (if list_any (takes_id o.request.id) o.behind then [] else if id == o.request.id then rest ∷ [] else [])
  grown = outs_grow o.request.id o.behind (entry_of part at (what.Out id rest)) ∙ by (list_any (takes_id o.request.id) o.behind)
    where
      by : (b : Bool) → outs o ++ (if b || false then [] else if id == o.request.id then rest ∷ [] else []) ≡ outs o ++ (if b then [] else if id == o.request.id then rest ∷ [] else [])
      by true = refl
      by false = refl

  pub out_added : has_last id o ≡ true → outs (later_operation (entry_of part at (what.Out id rest)) o) ≡ outs o ++ rest ∷ []
  out_added h = grown ∙ ap (λ b. outs o ++ (if b then [] else if id == o.request.id then rest ∷ [] else [])) (not_true (list_any (takes_id o.request.id) o.behind) (right (o.request.id == id) _ h)) ∙ ap (λ b. outs o ++ (if b then rest ∷ [] else [])) (eqb_sym id o.request.id ∙ left (o.request.id == id) _ h)

  pub out_other : has_last id o ≡ false → outs (later_operation (entry_of part at (what.Out id rest)) o) ≡ outs o
  out_other h = grown ∙ by (list_any (takes_id o.request.id) o.behind) (id == o.request.id) (ap (λ b. b && is_untaken o) (eqb_sym id o.request.id) ∙ h)
    where
      by : (a b : Bool) → (b && not a) ≡ false → outs o ++ (if a then [] else if b then rest ∷ [] else []) ≡ outs o
      by true b k = append-nil (outs o)
      by false true k = absurd (let bad : true ≡ false = k in cc)
      by false false k = append-nil (outs o)

-- An operation that has a number, or an identifier, of a row is the row's.
module _ (f : ClientRow → ℕ) (g : Operation → ℕ) (agree : (q : ClientRow) (o : Operation) → Match q o → f q ≡ g o) (apart : (q x : ClientRow) → is_apart q x ≡ true → (f q == f x) ≡ false) where
  no_other : (q r : ClientRow) (rows : List ClientRow) (os : List Operation) → Matches rows os → list_all (is_apart q) rows ≡ true → Each (λ o. (g o == f q) ≡ true → Match r o) os
  no_other q r [] [] m h = tt
  no_other q r (x ∷ rows) (o ∷ os) m h = (λ k. not_both (f q == f x) (eq_eqb (f q) (f x) (sym (same_number (g o) (f q) k) ∙ sym (agree x o m.0))) (apart q x (left (is_apart q x) _ h)), no_other q r rows os m.1 (right (is_apart q x) _ h))
  no_other q r [] (o ∷ os) m h = absurd m
  no_other q r (x ∷ rows) [] m h = absurd m

  matched : (t : ClientRow → Bool) (rows : List ClientRow) (os : List Operation) (r : ClientRow) → Matches rows os → are_apart rows ≡ true → find t rows ≡ Some r → Each (λ o. (g o == f r) ≡ true → Match r o) os
  matched t [] [] r m a e = absurd (let bad : None ≡ Some r = e in cc)
  matched t (q ∷ rows) (o ∷ os) r m a e = by (t q) e (λ k. matched t rows os r m.1 (right (list_all (is_apart q) rows) _ a) k)
    where
      by : (b : Bool) → cond b (Some q) (find t rows) ≡ Some r → (find t rows ≡ Some r → Each (λ x. (g x == f r) ≡ true → Match r x) os) → Each (λ x. (g x == f r) ≡ true → Match r x) (o ∷ os)
      by true k ih =
          let same : q ≡ r = cc in
          (λ j. subst (λ (x : ClientRow). Match x o) same m.0, subst (λ n. Each (λ x. (g x == n) ≡ true → Match r x) os) (ap f same) (no_other q r rows os m.1 (left (list_all (is_apart q) rows) _ a)))
      by false k ih = (λ j. not_both (f q == f r) (eq_eqb (f q) (f r) (agree q o m.0 ∙ same_number (g o) (f r) j)) (apart q r (found (is_apart q) t rows r k (left (list_all (is_apart q) rows) _ a))), ih k)
  matched t [] (o ∷ os) r m a e = absurd m
  matched t (q ∷ rows) [] r m a e = absurd m

-- One operation has a name; where it is live, all of this name are.
one_live : (op : OpName) (os : List Operation) → names_apart os ≡ true → list_any (λ o. is_live o && same_op op o.name) os ≡ true → list_all (λ o. implies (same_op op o.name) (is_live o)) os ≡ true
one_live op [] a h = refl
one_live op (o ∷ os) a h = by (same_op op o.name) (is_live o) refl refl h (one_live op os (right (list_all (λ q. not (same_op o.name q.name)) os) _ a))
  where
    others : same_op op o.name ≡ true → list_all (λ q. not (same_op op q.name)) os ≡ true
    others k = ap (λ n. list_all (λ q. not (same_op n q.name)) os) (same_op_eq op o.name k) ∙ left (list_all (λ q. not (same_op o.name q.name)) os) _ a

    none : (qs : List Operation) → list_all (λ q. not (same_op op q.name)) qs ≡ true → list_any (λ q. is_live q && same_op op q.name) qs ≡ false
    none [] k = refl
    none (q ∷ qs) k = ap (λ b. (is_live q && b) || list_any (λ x. is_live x && same_op op x.name) qs) (not_true (same_op op q.name) (left (not (same_op op q.name)) _ k)) ∙ drop (is_live q) ∙ none qs (right (not (same_op op q.name)) _ k)
      where
        drop : (b : Bool) → ((b && false) || list_any (λ x. is_live x && same_op op x.name) qs) ≡ list_any (λ x. is_live x && same_op op x.name) qs
        drop true = refl
        drop false = refl

    by : (n l : Bool) → same_op op o.name ≡ n → is_live o ≡ l → ((l && n) || list_any (λ q. is_live q && same_op op q.name) os) ≡ true → (list_any (λ q. is_live q && same_op op q.name) os ≡ true → list_all (λ q. implies (same_op op q.name) (is_live q)) os ≡ true) → (implies n l && list_all (λ q. implies (same_op op q.name) (is_live q)) os) ≡ true
    by true true e f k ih = all_imply (λ q. not (same_op op q.name)) (λ q. implies (same_op op q.name) (is_live q)) os (λ q j. ap (λ b. implies b (is_live q)) (not_true (same_op op q.name) j)) (others e)
    by true false e f k ih = not_both (list_any (λ q. is_live q && same_op op q.name) os) k (none os (others e))
    by false true e f k ih = ih k
    by false false e f k ih = ih k

-- the row's operation is among the live ones
named_live : (c : ℕ) (t : ClientRow → Bool) (rows : List ClientRow) (os : List Operation) (r : ClientRow) → Matches rows os → Each (λ o. o.name.client ≡ c) os → find t rows ≡ Some r → list_any (λ o. same_op (record { client = c; k = r.k }) o.name) os ≡ true
named_live c t [] [] r m n e = absurd (let bad : None ≡ Some r = e in cc)
named_live c t (q ∷ rows) (o ∷ os) r m n e = by (t q) e (λ k. named_live c t rows os r m.1 n.1 k)
  where
    by : (b : Bool) → cond b (Some q) (find t rows) ≡ Some r → (find t rows ≡ Some r → list_any (λ x. same_op (record { client = c; k = r.k }) x.name) os ≡ true) → list_any (λ x. same_op (record { client = c; k = r.k }) x.name) (o ∷ os) ≡ true
    by true k ih = let same : q ≡ r = cc in or_left (same_op (record { client = c; k = r.k }) o.name) _ (both (c == o.name.client) _ (eq_eqb c o.name.client (sym n.0)) (eq_eqb r.k o.name.k (ap (λ (x : ClientRow). x.k) (sym same) ∙ m.0.k)))
    by false k ih = or_right (same_op (record { client = c; k = r.k }) o.name) _ (ih k)
named_live c t [] (o ∷ os) r m n e = absurd m
named_live c t (q ∷ rows) [] r m n e = absurd m

-- The operation of a row, and another.
pub record TheOne (c : ℕ) (r : ClientRow) (o : Operation) : Type 0 where
  pub live : is_live o ≡ true
  pub match : Match r o
  pub last : has_last r.request.id o ≡ true
  pub named : same_op (record { client = c; k = r.k }) o.name ≡ true

pub record Another (c : ℕ) (r : ClientRow) (o : Operation) : Type 0 where
  pub last : has_last r.request.id o ≡ false
  pub unnamed : same_op (record { client = c; k = r.k }) o.name ≡ false

abbrev pub OneOrOther : ℕ → ClientRow → Operation → Type 0
OneOrOther c r o = TheOne c r o ⊎ Another c r o

module _ (c : ℕ) (place : List Entry) (p : ClientState) (lives : ClientLives c place p) (once : EndsOnce c place) (t : ClientRow → Bool) (r : ClientRow) (e : find t p.rows ≡ Some r) where
  abbrev name : OpName
  name = record { client = c; k = r.k }

  all_each : (q : Operation → Bool) (os : List Operation) → list_all q os ≡ true → Each (λ o. q o ≡ true) os
  all_each q [] h = tt
  all_each q (o ∷ os) h = (left (q o) _ h, all_each q os (right (q o) _ h))

  there : (rows : List ClientRow) → find t rows ≡ Some r → list_any (λ x. x.request.id == r.request.id) rows ≡ true
  there [] k = absurd (let bad : None ≡ Some r = k in cc)
  there (x ∷ rows) k = by (t x) k (there rows)
    where
      by : (b : Bool) → cond b (Some x) (find t rows) ≡ Some r → (find t rows ≡ Some r → list_any (λ y. y.request.id == r.request.id) rows ≡ true) → (x.request.id == r.request.id || list_any (λ y. y.request.id == r.request.id) rows) ≡ true
      by true j ih = let same : x ≡ r = cc in or_left (x.request.id == r.request.id) _ (eq_eqb x.request.id r.request.id (ap (λ (y : ClientRow). y.request.id) same))
      by false j ih = or_right (x.request.id == r.request.id) _ (ih j)

  clients : Each (λ o. o.name.client ≡ c) (operations c place)
  clients = each_imply (λ o. is_named_within c (length (operations c place)) o ≡ true) (λ o. o.name.client ≡ c) (operations c place) (λ o h. same_number o.name.client c (left (o.name.client == c) _ (left _ _ h))) (named_each c place)

  abbrev LastLives : Operation → Type 0
  LastLives o = has_last r.request.id o ≡ true → is_live o ≡ true

  abbrev NamedLives : Operation → Type 0
  NamedLives o = same_op (record { client = c; k = r.k }) o.name ≡ true → is_live o ≡ true

  abbrev LiveSo : Operation → Type 0
  LiveSo o = is_live o ≡ true → ((o.request.id == r.request.id) ≡ true → Match r o) × (((o.name.k == r.k) ≡ true → Match r o) × (is_untaken o ≡ true))

  lasts : Each LastLives (operations c place)
  lasts = each_imply (λ o. implies (has_last r.request.id o) (is_live o) ≡ true) LastLives (operations c place) (λ o h k. implied (has_last r.request.id o) (is_live o) h k) (all_each (λ o. implies (has_last r.request.id o) (is_live o)) (operations c place) (live_known c place p lives once r.request.id (there p.rows e)))

  live_clients : Each (λ o. o.name.client ≡ c) (live_operations c place)
  live_clients = each_filter (λ o. o.name.client ≡ c) (λ o. o.name.client ≡ c) is_live (operations c place) (λ o k j. j) clients

  names : Each NamedLives (operations c place)
  names = each_imply (λ o. implies (same_op (record { client = c; k = r.k }) o.name) (is_live o) ≡ true) NamedLives (operations c place) (λ o h k. implied (same_op (record { client = c; k = r.k }) o.name) (is_live o) h k) (all_each (λ o. implies (same_op (record { client = c; k = r.k }) o.name) (is_live o)) (operations c place) (one_live (record { client = c; k = r.k }) (operations c place) (named_apart c 0 [] place) (sym (any-filter (λ o. same_op (record { client = c; k = r.k }) o.name) is_live (operations c place)) ∙ named_live c t p.rows (live_operations c place) r lives.rows live_clients e)))

  matches : Each LiveSo (operations c place)
  matches = each_unfilter (λ o. ((o.request.id == r.request.id) ≡ true → Match r o) × (((o.name.k == r.k) ≡ true → Match r o) × (is_untaken o ≡ true))) is_live (operations c place) (each_both (λ o. (o.request.id == r.request.id) ≡ true → Match r o) (λ o. ((o.name.k == r.k) ≡ true → Match r o) × (is_untaken o ≡ true)) (live_operations c place) (matched (λ q. q.request.id) (λ o. o.request.id) (λ q o m. m.id) (λ q x a. not_true (q.request.id == x.request.id) (right (not (q.k == x.k)) _ a)) t p.rows (live_operations c place) r lives.rows lives.apart e) (each_both (λ o. (o.name.k == r.k) ≡ true → Match r o) (λ o. is_untaken o ≡ true) (live_operations c place) (matched (λ q. q.k) (λ o. o.name.k) (λ q o m. m.k) (λ q x a. not_true (q.k == x.k) (left (not (q.k == x.k)) _ a)) t p.rows (live_operations c place) r lives.rows lives.apart e) (all_each is_untaken (live_operations c place) lives.untaken)))

  known : Each (λ o. ((o.name.client ≡ c) × LastLives o) × (NamedLives o × LiveSo o)) (operations c place)
  known = each_both (λ o. (o.name.client ≡ c) × LastLives o) (λ o. NamedLives o × LiveSo o) (operations c place) (each_both (λ o. o.name.client ≡ c) LastLives (operations c place) clients lasts) (each_both NamedLives LiveSo (operations c place) names matches)

  one_or_other : (o : Operation) → ((o.name.client ≡ c) × LastLives o) × (NamedLives o × LiveSo o) → OneOrOther c r o
  one_or_other o h = by (has_last r.request.id o) refl
    where
      unnamed : has_last r.request.id o ≡ false → same_op (record { client = c; k = r.k }) o.name ≡ false
      unnamed k = false_by (same_op (record { client = c; k = r.k }) o.name) (λ j.
          let live : is_live o ≡ true = h.1.0 j in
          let match : Match r o = (h.1.1 live).1.0 (eqb_sym o.name.k r.k ∙ right (c == o.name.client) _ j) in
          sym k ∙ both (o.request.id == r.request.id) _ (eq_eqb o.request.id r.request.id (sym match.id)) (h.1.1 live).1.1)

      by : (b : Bool) → has_last r.request.id o ≡ b → OneOrOther c r o
      by true k =
          let live : is_live o ≡ true = h.0.1 k in
          let match : Match r o = (h.1.1 live).0 (left (o.request.id == r.request.id) _ k) in
          inl (record { live = live; match = match; last = k; named = both (c == o.name.client) _ (eq_eqb c o.name.client (sym h.0.0)) (eq_eqb r.k o.name.k match.k) })
      by false k = inr (record { last = k; unnamed = unnamed k })

  pub each_one_or_other : Each (OneOrOther c r) (operations c place)
  each_one_or_other = each_imply (λ o. ((o.name.client ≡ c) × LastLives o) × (NamedLives o × LiveSo o)) (OneOrOther c r) (operations c place) one_or_other known
