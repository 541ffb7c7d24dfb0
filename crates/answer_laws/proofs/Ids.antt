-- The identifiers of a connection's rows: each operation has one of its own, which isn't free, nor that of the own Bind. It
-- follows from the connection's share and from fit letters, whatever made the list.
use Rattle.std.proofs.Common.{◌≡◌, ℕ, suc, ◌≤◌, Bool, true, false, ◌==◌, ◌&&◌, ◌||◌, not, if◌then◌else◌, List, [], ◌∷◌, ◌++◌, refl, ap, arith, ◌∙◌, sym, subst}
use Rattle.std.specs.Prelude.{Option, Some, None, cond, filter, flat_map, max, nat_lt}
use Rattle.std.specs.List.{list_any, list_all}
use Rattle.std.specs.Str.{bytes_eq}
use Rattle.std.proofs.lemmas.Bool.{lt-ltb, ltb-true}
use Rattle.std.proofs.lemmas.Bool.Decides.{nat_tests}
use Rattle.std.proofs.lemmas.List.Folds.{list_all-append}
use Rattle.ldap_spec.specs.Kinds.{same_kind}
use Rattle.ldap_spec.specs.Messages.{Message}
use Rattle.lload_names.specs.declared.names.ConnKind.TheVariants.{Bind as BindKind}
use Rattle.lload_names.specs.declared.names.Entry.{Entry}
use Rattle.lload_names.specs.declared.names.Letter.{Letter}
use Rattle.lload_names.specs.declared.names.Letter.TheVariants.{Forward}
use Rattle.lload_names.specs.declared.names.OpKind.TheVariants.{Bind}
use Rattle.lload_names.specs.declared.names.OpKind.{OpKind}
use Rattle.lload_names.specs.declared.names.OpName.{OpName}
use Rattle.lload_names.specs.declared.names.What.{What}
use Rattle.lload_names.specs.declared.names.What.TheVariants as what
use Rattle.lload_spec.specs.Entries.{sent_message, is_sent}
use Rattle.lload_spec.specs.Identifiers.{id_for, has_right_id, with_freed}
use Rattle.lload_spec.specs.Journal.{same_op}
use Rattle.lload_spec.specs.Lists.{agrees, implies, passes, where_there}
use Rattle.lload_spec.specs.Settings.{Settings, is_kind}
use Rattle.lload_spec.proofs.Growth.{left, right, both}
use Rattle.lload_laws.proofs.ListLaws.{all_always, all_both, all_imply}
use Rattle.part_laws.proofs.ListLaws.{all_kept, any_before, any_behind, any_filtered, eqb_sym, false_by, none_of_both, not_true, or_left, same_number, same_op_eq, same_op_sym}
use Rattle.part_spec.specs.ConnectionState.{ConnectionState, UpRow, OwnWait, step_connection, connection_behind, behind_message, behind_own, freed_id, frees_holder, is_bind, is_bind_row, is_first_bind, is_under_own, put_row, rows_sent, with_down, with_missed}
use Rattle.part_spec.specs.Marked.{Marked, Taken}
use Rattle.part_spec.specs.Marks.{has_connection_mark, marks_connection, must_mark_connection}
use Rattle.part_spec.specs.Share.{has_letter, is_free_by, is_sent_once}
use Rattle.connection_laws.proofs.Apart.{Shrinks, shrinks_message, shrinks_own, is_apart, are_apart, apart_flat, apart_filter, apart_push, all_flat_by, freed_all, freed_apart, free_shrinks, is_taken, not_taken, taken_filter, taken_put}
use Rattle.connection_laws.proofs.Rows.{all_filter, all_put}

-- whether an identifier was given, where this is the next one
abbrev pub is_given : ℕ → ℕ → Bool
is_given next i = nat_lt 0 i && nat_lt i next

-- whether the identifier of the own Bind that waits is no row's, and isn't free
abbrev pub is_own_apart : ConnectionState → OwnWait → Bool
is_own_apart p own = nat_lt own.id p.ids.next && not (is_taken p.rows own.id) && not (list_any (λ n. n == own.id) p.ids.free)

pub record Ids (place : List Entry) (p : ConnectionState) : Type 0 where
  pub apart : are_apart p.rows ≡ true
  pub rows : list_all (λ r. is_given p.ids.next r.id) p.rows ≡ true
  pub free : list_all (is_given p.ids.next) p.ids.free ≡ true
  pub free_apart : list_all (λ n. not (is_taken p.rows n)) p.ids.free ≡ true
  pub above : nat_lt 0 p.ids.next ≡ true
  pub sent : list_all (λ r. list_any (is_sent r.op) place) p.rows ≡ true
  pub own : where_there (is_own_apart p) p.own_bind ≡ true
  pub kinds : list_all (λ r. agrees (is_bind_row r) (is_bind p)) p.rows ≡ true

given_more : (n m i : ℕ) → n ≤ m → is_given n i ≡ true → is_given m i ≡ true
given_more n m i h k = both (nat_lt 0 i) _ (left (nat_lt 0 i) _ k) (lt-ltb i m (let below = ltb-true i n (right (nat_lt 0 i) _ k) in omega (arith, below, h)))

next_given : (n m : ℕ) → nat_lt 0 m ≡ true → is_given (max n (suc m)) m ≡ true
next_given n m h = both (nat_lt 0 m) _ h (lt-ltb m (max n (suc m)) (omega arith))

above_more : (n m : ℕ) → nat_lt 0 n ≡ true → nat_lt 0 (max n m) ≡ true
above_more n m h = lt-ltb 0 (max n m) (let low = ltb-true 0 n h in omega (arith, low))

-- a row that shrinks keeps what its name, identifier and kind say
pub kept_shrinks : (t : UpRow → Bool) → ((a b : UpRow) → a.id ≡ b.id → a.op ≡ b.op → a.kind ≡ b.kind → t a ≡ true → t b ≡ true) → (r : UpRow) (rs : List UpRow) → Shrinks r rs → t r ≡ true → list_all t rs ≡ true
kept_shrinks t f r [] h k = refl
kept_shrinks t f r (q ∷ []) h k = both (t q) true (f r q h.0 h.1 h.2 k) refl
kept_shrinks t f r (q ∷ x ∷ xs) h k = absurd h

-- an identifier below the next is no row's, where it is that of none
untaken_above : (n : ℕ) (rows : List UpRow) → list_all (λ r. is_given n r.id) rows ≡ true → is_taken rows n ≡ false
untaken_above n [] h = refl
untaken_above n (r ∷ rows) h = ap (λ b. b || is_taken rows n) (false_by (r.id == n) (λ e. let low : nat_lt r.id n ≡ true = right (nat_lt 0 r.id) _ (left (is_given n r.id) _ h) in absurd (grind (arith, nat_tests, low, e)))) ∙ untaken_above n rows (right (is_given n r.id) _ h)

taken_others : (i : ℕ) (rows : List UpRow) → is_taken rows i ≡ false → list_all (λ r. not (r.id == i)) rows ≡ true
taken_others i [] k = refl
taken_others i (r ∷ rows) k = by (r.id == i) refl k (taken_others i rows)
  where
    by : (b : Bool) → (r.id == i) ≡ b → (b || is_taken rows i) ≡ false → (is_taken rows i ≡ false → list_all (λ q. not (q.id == i)) rows ≡ true) → (not (r.id == i) && list_all (λ q. not (q.id == i)) rows) ≡ true
    by true e j ih = absurd (let bad : true ≡ false = j in cc)
    by false e j ih = both (not (r.id == i)) _ (ap not e) (ih j)

module _ (s : Settings) (place : List Entry) (p : ConnectionState) (h : Ids place p) where
  -- the identifier that an operation gets is no row's, nor the own Bind's
  pub untaken : is_taken p.rows (id_for p.ids) ≡ false
  untaken = by p.ids.free h.free_apart
    where
      first : List ℕ → ℕ
      first ns = elim ns [ [] ↦ p.ids.next | n ∷ xs ↦ n ]

      by : (ns : List ℕ) → list_all (λ n. not (is_taken p.rows n)) ns ≡ true → is_taken p.rows (first ns) ≡ false
      by [] k = untaken_above p.ids.next p.rows h.rows
      by (n ∷ ns) k = not_true (is_taken p.rows n) (left (not (is_taken p.rows n)) _ k)

  positive : nat_lt 0 (id_for p.ids) ≡ true
  positive = by p.ids.free h.free
    where
      first : List ℕ → ℕ
      first ns = elim ns [ [] ↦ p.ids.next | n ∷ xs ↦ n ]

      by : (ns : List ℕ) → list_all (is_given p.ids.next) ns ≡ true → nat_lt 0 (first ns) ≡ true
      by [] k = h.above
      by (n ∷ ns) k = left (nat_lt 0 n) _ (left (is_given p.ids.next n) _ k)

  not_own : (own : OwnWait) → is_own_apart p own ≡ true → (id_for p.ids == own.id) ≡ false
  not_own own k = by p.ids.free (not_true (list_any (λ n. n == own.id) p.ids.free) (right (nat_lt own.id p.ids.next && not (is_taken p.rows own.id)) _ k))
    where
      first : List ℕ → ℕ
      first ns = elim ns [ [] ↦ p.ids.next | n ∷ xs ↦ n ]

      low : nat_lt own.id p.ids.next ≡ true
      low = left (nat_lt own.id p.ids.next) _ (left (nat_lt own.id p.ids.next && not (is_taken p.rows own.id)) _ k)

      head_false : (a b : Bool) → (a || b) ≡ false → a ≡ false
      head_false true b j = j
      head_false false b j = refl

      by : (ns : List ℕ) → list_any (λ n. n == own.id) ns ≡ false → (first ns == own.id) ≡ false
      by [] j = false_by (p.ids.next == own.id) (λ e. let below : nat_lt own.id p.ids.next ≡ true = low in absurd (grind (arith, nat_tests, below, e)))
      by (n ∷ ns) j = head_false (n == own.id) _ j

  -- what was sent stays so
  sent_more : (e : Entry) (rows : List UpRow) → list_all (λ r. list_any (is_sent r.op) place) rows ≡ true → list_all (λ r. list_any (is_sent r.op) (place ++ e ∷ [])) rows ≡ true
  sent_more e rows k = all_imply (λ r. list_any (is_sent r.op) place) (λ r. list_any (is_sent r.op) (place ++ e ∷ [])) rows (λ r j. any_before (is_sent r.op) place (e ∷ []) j) k

  sent_shrinks : (e : Entry) (r : UpRow) (rs : List UpRow) → Shrinks r rs → list_any (is_sent r.op) place ≡ true → list_all (λ q. list_any (is_sent q.op) (place ++ e ∷ [])) rs ≡ true
  sent_shrinks e r rs k j = kept_shrinks (λ q. list_any (is_sent q.op) (place ++ e ∷ [])) (λ a b x y z i. subst (λ o. list_any (is_sent o) (place ++ e ∷ []) ≡ true) y i) r rs k (any_before (is_sent r.op) place (e ∷ []) j)

  kind_shrinks : (r : UpRow) (rs : List UpRow) → Shrinks r rs → agrees (is_bind_row r) (is_bind p) ≡ true → list_all (λ q. agrees (is_bind_row q) (is_bind p)) rs ≡ true
  kind_shrinks r rs k j = kept_shrinks (λ q. agrees (is_bind_row q) (is_bind p)) (λ a b x y z i. subst (λ o. agrees (same_kind Bind o) (is_bind p) ≡ true) z i) r rs k j

  given_shrinks : (n : ℕ) (r : UpRow) (rs : List UpRow) → Shrinks r rs → is_given n r.id ≡ true → list_all (λ q. is_given n q.id) rs ≡ true
  given_shrinks n r rs k j = kept_shrinks (λ q. is_given n q.id) (λ a b x y z i. subst (λ o. is_given n o ≡ true) x i) r rs k j

  -- where the rows and identifiers stay
  same : (e : Entry) (q : ConnectionState) → q.rows ≡ p.rows → q.ids ≡ p.ids → q.own_bind ≡ p.own_bind → q.kind ≡ p.kind → Ids (place ++ e ∷ []) q
  same e q rows ids own kind =
      record {
        apart = ap are_apart rows ∙ h.apart;
        rows = ap (λ l. list_all (λ r. is_given q.ids.next r.id) l) rows ∙ ap (λ i. list_all (λ r. is_given i.next r.id) p.rows) ids ∙ h.rows;
        free = ap (λ i. list_all (is_given i.next) i.free) ids ∙ h.free;
        free_apart = ap (λ l. list_all (λ n. not (is_taken l n)) q.ids.free) rows ∙ ap (λ i. list_all (λ n. not (is_taken p.rows n)) i.free) ids ∙ h.free_apart;
        above = ap (λ i. nat_lt 0 i.next) ids ∙ h.above;
        sent = ap (λ l. list_all (λ r. list_any (is_sent r.op) (place ++ e ∷ [])) l) rows ∙ sent_more e p.rows h.sent;
        own = ap (λ o. where_there (is_own_apart q) o) own ∙ ap (λ l. where_there (λ o. nat_lt o.id q.ids.next && not (is_taken l o.id) && not (list_any (λ n. n == o.id) q.ids.free)) p.own_bind) rows ∙ ap (λ i. where_there (λ o. nat_lt o.id i.next && not (is_taken p.rows o.id) && not (list_any (λ n. n == o.id) i.free)) p.own_bind) ids ∙ h.own;
        kinds = ap (λ l. list_all (λ r. agrees (is_bind_row r) (is_bind q)) l) rows ∙ ap (λ k. list_all (λ r. agrees (is_bind_row r) (is_kind BindKind k)) p.rows) kind ∙ h.kinds;
      }

none_any : {A : Type 0} (t : A → Bool) (xs : List A) → list_all (λ x. not (t x)) xs ≡ true → list_any t xs ≡ false
none_any t [] h = refl
none_any t (x ∷ xs) h = ap (λ b. b || list_any t xs) (not_true (t x) (left (not (t x)) _ h)) ∙ none_any t xs (right (not (t x)) _ h)

-- whether a Forward's kind fits the kind of the connection
abbrev pub is_of_its_sort : ConnectionState → Letter → Bool
is_of_its_sort p (Forward op sort rest ask holder) = agrees (same_kind Bind sort) (is_bind p)
is_of_its_sort p _ = true

module _ (s : Settings) (place : List Entry) (p : ConnectionState) (m : Marked) (h : Ids place p) where
  -- behind an entry that says this
  abbrev Behind : What → Type 0
  Behind w = Ids (place ++ m.entry ∷ []) (record (connection_behind s m.entry m.mark p w) { moment = m.entry.at })

  -- A Sent: the row of its Forward is put among the rows.
  module _ (id : ℕ) (op : OpName) (rest : List ℕ) (is_sent_here : m.entry.what ≡ what.Sent id op rest) (t : Taken) (marked : m.mark ≡ Some t) (next : (id == id_for p.ids) ≡ true) (new : list_any (is_sent op) place ≡ false) where
    abbrev row_of : OpName → OpKind → Bool → UpRow
    row_of q sort ask = record { id = id; op = q; kind = sort; ask_who = ask; sent = m.entry.at; answered = m.entry.at; kept = None }

    id_is : id ≡ id_for p.ids
    id_is = same_number id (id_for p.ids) next

    apart_row : (q : OpName) (sort : OpKind) (ask : Bool) → same_op op q ≡ true → list_all (λ r. is_apart r (row_of q sort ask)) p.rows ≡ true
    apart_row q sort ask e = all_imply (λ r. list_any (is_sent r.op) place && not (r.id == id)) (λ r. is_apart r (row_of q sort ask)) p.rows one (all_both (λ r. list_any (is_sent r.op) place) (λ r. not (r.id == id)) p.rows h.sent (taken_others id p.rows (ap (is_taken p.rows) id_is ∙ untaken s place p h)))
      where
        one : (r : UpRow) → (list_any (is_sent r.op) place && not (r.id == id)) ≡ true → (not (same_op r.op q) && not (r.id == id)) ≡ true
        one r k = both (not (same_op r.op q)) _ (ap not (false_by (same_op r.op q) (λ j. let name : r.op ≡ op = same_op_eq r.op q j ∙ sym (same_op_eq op q e) in sym new ∙ subst (λ o. list_any (is_sent o) place ≡ true) name (left (list_any (is_sent r.op) place) _ k)))) (right (list_any (is_sent r.op) place) _ k)

    free_row : (row : UpRow) (ns : List ℕ) → list_all (λ n. not (is_taken p.rows n)) ns ≡ true → list_all (λ n. not (is_taken (put_row row p.rows) n)) (filter (λ n. not (n == row.id)) ns) ≡ true
    free_row row [] k = refl
    free_row row (n ∷ ns) k = more (n == row.id) refl (free_row row ns (right (not (is_taken p.rows n)) _ k))
      where
        more : (b : Bool) → (n == row.id) ≡ b → list_all (λ i. not (is_taken (put_row row p.rows) i)) (filter (λ i. not (i == row.id)) ns) ≡ true → list_all (λ i. not (is_taken (put_row row p.rows) i)) (cond (not b) (n ∷ filter (λ i. not (i == row.id)) ns) (filter (λ i. not (i == row.id)) ns)) ≡ true
        more true e j = j
        more false e j = both (not (is_taken (put_row row p.rows) n)) _ (ap not (taken_put n row p.rows (eqb_sym row.id n ∙ e) (not_true (is_taken p.rows n) (left (not (is_taken p.rows n)) _ k)))) j

    lower : (ns : List ℕ) → list_all (is_given p.ids.next) ns ≡ true → list_all (is_given (max p.ids.next (suc id))) ns ≡ true
    lower ns k = all_imply (is_given p.ids.next) (is_given (max p.ids.next (suc id))) ns (λ n j. given_more p.ids.next (max p.ids.next (suc id)) n (omega arith) j) k

    own_row : (row : UpRow) → row.id ≡ id → (o : Option OwnWait) → where_there (is_own_apart p) o ≡ true → where_there (λ own. nat_lt own.id (max p.ids.next (suc id)) && not (is_taken (put_row row p.rows) own.id) && not (list_any (λ n. n == own.id) (filter (λ n. not (n == id)) p.ids.free))) o ≡ true
    own_row row e None k = refl
    own_row row e (Some own) k =
        let first : (nat_lt own.id p.ids.next && not (is_taken p.rows own.id)) ≡ true = left (nat_lt own.id p.ids.next && not (is_taken p.rows own.id)) _ k in
        both (nat_lt own.id (max p.ids.next (suc id)) && not (is_taken (put_row row p.rows) own.id)) _
        (both (nat_lt own.id (max p.ids.next (suc id))) _ (lt-ltb own.id (max p.ids.next (suc id)) (let below = ltb-true own.id p.ids.next (left (nat_lt own.id p.ids.next) _ first) in omega (arith, below)))
        (ap not (taken_put own.id row p.rows (ap (λ n. n == own.id) (e ∙ id_is) ∙ not_own s place p h own k) (not_true (is_taken p.rows own.id) (right (nat_lt own.id p.ids.next) _ first)))))
        (ap not (false_by (list_any (λ n. n == own.id) (filter (λ n. not (n == id)) p.ids.free)) (λ j. sym (not_true (list_any (λ n. n == own.id) p.ids.free) (right (nat_lt own.id p.ids.next && not (is_taken p.rows own.id)) _ k)) ∙ any_filtered (λ n. n == own.id) (λ n. not (n == id)) p.ids.free j)))

    forwarded : (q : OpName) (sort : OpKind) (body : List ℕ) (ask : Bool) (holder : OpName) → t.letter ≡ Forward q sort body ask holder → same_op op q ≡ true → agrees (same_kind Bind sort) (is_bind p) ≡ true → Behind (what.Sent id op rest)
    forwarded q sort body ask holder letter e kind =
        let row : UpRow = row_of q sort ask in
        let rows : (record (connection_behind s m.entry m.mark p (what.Sent id op rest)) { moment = m.entry.at }).rows ≡ put_row row p.rows = ap (λ o. elim o [ None ↦ p.rows | Some x ↦ rows_sent m.entry.at id p.rows x.letter ]) marked ∙ ap (rows_sent m.entry.at id p.rows) letter in
        record {
          apart = ap are_apart rows ∙ apart_push p.rows row (apart_row q sort ask e) h.apart;
          rows = ap (list_all (λ r. is_given (max p.ids.next (suc id)) r.id)) rows ∙ all_put (λ r. is_given (max p.ids.next (suc id)) r.id) row p.rows (next_given p.ids.next id (ap (nat_lt 0) id_is ∙ positive s place p h)) (all_imply (λ r. is_given p.ids.next r.id) (λ r. is_given (max p.ids.next (suc id)) r.id) p.rows (λ r k. given_more p.ids.next (max p.ids.next (suc id)) r.id (omega arith) k) h.rows);
          free = all_kept (is_given (max p.ids.next (suc id))) (λ n. not (n == id)) p.ids.free (lower p.ids.free h.free);
          free_apart = ap (λ l. list_all (λ n. not (is_taken l n)) (filter (λ n. not (n == id)) p.ids.free)) rows ∙ free_row row p.ids.free h.free_apart;
          above = above_more p.ids.next (suc id) h.above;
          sent = ap (list_all (λ r. list_any (is_sent r.op) (place ++ m.entry ∷ []))) rows ∙ all_put (λ r. list_any (is_sent r.op) (place ++ m.entry ∷ [])) row p.rows (any_behind (is_sent q) place (m.entry ∷ []) (or_left (is_sent q m.entry) false (ap (λ w. passes (λ x. same_op q x.op) (sent_message w)) is_sent_here ∙ same_op_sym q op ∙ e))) (sent_more s place p h m.entry p.rows h.sent);
          own = ap (λ l. where_there (λ own. nat_lt own.id (max p.ids.next (suc id)) && not (is_taken l own.id) && not (list_any (λ n. n == own.id) (filter (λ n. not (n == id)) p.ids.free))) p.own_bind) rows ∙ own_row row refl p.own_bind h.own;
          kinds = ap (list_all (λ r. agrees (is_bind_row r) (is_bind p))) rows ∙ all_put (λ r. agrees (is_bind_row r) (is_bind p)) row p.rows kind h.kinds;
        }

  -- An own message: the next identifier.
  free_other : (n : ℕ) (ns : List ℕ) → list_all (is_given n) ns ≡ true → list_any (λ i. i == n) ns ≡ false
  free_other n [] k = refl
  free_other n (i ∷ ns) k = ap (λ b. b || list_any (λ j. j == n) ns) (false_by (i == n) (λ e. let low : nat_lt i n ≡ true = right (nat_lt 0 i) _ (left (is_given n i) _ k) in absurd (grind (arith, nat_tests, low, e)))) ∙ free_other n ns (right (is_given n i) _ k)

  own_step : (id : ℕ) (rest : List ℕ) → (id == p.ids.next) ≡ true → Behind (what.Own id rest)
  own_step id rest next =
      let msg : Message = record { id = id; rest = rest } in
      let more : p.ids.next ≤ max p.ids.next (suc id) = omega arith in
      record {
        apart = apart_flat (behind_own msg) p.rows (shrinks_own msg) h.apart;
        rows = all_flat_by (λ r. is_given p.ids.next r.id) (λ r. is_given (max p.ids.next (suc id)) r.id) (behind_own msg) p.rows (λ r k. given_shrinks s place p h (max p.ids.next (suc id)) r (behind_own msg r) (shrinks_own msg r) (given_more p.ids.next (max p.ids.next (suc id)) r.id more k)) h.rows;
        free = all_imply (is_given p.ids.next) (is_given (max p.ids.next (suc id))) p.ids.free (λ n k. given_more p.ids.next (max p.ids.next (suc id)) n more k) h.free;
        free_apart = free_shrinks (behind_own msg) p.rows p.ids.free (shrinks_own msg) h.free_apart;
        above = above_more p.ids.next (suc id) h.above;
        sent = all_flat_by (λ r. list_any (is_sent r.op) place) (λ r. list_any (is_sent r.op) (place ++ m.entry ∷ [])) (behind_own msg) p.rows (λ r k. sent_shrinks s place p h m.entry r (behind_own msg r) (shrinks_own msg r) k) h.sent;
        own = owns (is_first_bind s p m.entry) p.own_bind h.own;
        kinds = all_flat_by (λ r. agrees (is_bind_row r) (is_bind p)) (λ r. agrees (is_bind_row r) (is_bind p)) (behind_own msg) p.rows (λ r k. kind_shrinks s place p h r (behind_own msg r) (shrinks_own msg r) k) h.kinds;
      }
    where
      id_is : id ≡ p.ids.next
      id_is = same_number id p.ids.next next

      owns : (b : Bool) (o : Option OwnWait) → where_there (is_own_apart p) o ≡ true → where_there (λ own. nat_lt own.id (max p.ids.next (suc id)) && not (is_taken (flat_map (behind_own (record { id = id; rest = rest })) p.rows) own.id) && not (list_any (λ n. n == own.id) p.ids.free)) (if b then Some (record { id = id; at = m.entry.at }) else o) ≡ true
      owns true o k =
          both (nat_lt id (max p.ids.next (suc id)) && not (is_taken (flat_map (behind_own (record { id = id; rest = rest })) p.rows) id)) _
          (both (nat_lt id (max p.ids.next (suc id))) _ (lt-ltb id (max p.ids.next (suc id)) (omega arith)) (ap not (not_taken (behind_own (record { id = id; rest = rest })) id p.rows (shrinks_own (record { id = id; rest = rest })) (ap (is_taken p.rows) id_is ∙ untaken_above p.ids.next p.rows h.rows))))
          (ap not (ap (λ n. list_any (λ i. i == n) p.ids.free) id_is ∙ free_other p.ids.next p.ids.free h.free))
      owns false None k = refl
      owns false (Some own) k =
          let first : (nat_lt own.id p.ids.next && not (is_taken p.rows own.id)) ≡ true = left (nat_lt own.id p.ids.next && not (is_taken p.rows own.id)) _ k in
          both (nat_lt own.id (max p.ids.next (suc id)) && not (is_taken (flat_map (behind_own (record { id = id; rest = rest })) p.rows) own.id)) _
          (both (nat_lt own.id (max p.ids.next (suc id))) _ (lt-ltb own.id (max p.ids.next (suc id)) (let below = ltb-true own.id p.ids.next (left (nat_lt own.id p.ids.next) _ first) in omega (arith, below))) (ap not (not_taken (behind_own (record { id = id; rest = rest })) own.id p.rows (shrinks_own (record { id = id; rest = rest })) (not_true (is_taken p.rows own.id) (right (nat_lt own.id p.ids.next) _ first)))))
          (right (nat_lt own.id p.ids.next && not (is_taken p.rows own.id)) _ k)

  -- A message: what it frees was a row's, and is none's any more.
  got_step : (id : ℕ) (rest : List ℕ) → Behind (what.Got id rest)
  got_step id rest = by (is_under_own p id)
    where
      msg : Message
      msg = record { id = id; rest = rest }

      state : Bool → ConnectionState
      state b = record p {
        own_bind = if b then None else p.own_bind;
        rows = if b then p.rows else flat_map (behind_message m.entry.at (record { id = id; rest = rest })) p.rows;
        ids = if b then p.ids else with_freed (flat_map (freed_id m.entry.at (record { id = id; rest = rest })) p.rows) p.ids;
        holder = if frees_holder p (record { id = id; rest = rest }) then None else p.holder;
        moment = m.entry.at;
      }

      owns : (o : Option OwnWait) → where_there (is_own_apart p) o ≡ true → where_there (λ own. nat_lt own.id p.ids.next && not (is_taken (flat_map (behind_message m.entry.at (record { id = id; rest = rest })) p.rows) own.id) && not (list_any (λ n. n == own.id) (p.ids.free ++ flat_map (freed_id m.entry.at (record { id = id; rest = rest })) p.rows))) o ≡ true
      owns None k = refl
      owns (Some own) k =
          let first : (nat_lt own.id p.ids.next && not (is_taken p.rows own.id)) ≡ true = left (nat_lt own.id p.ids.next && not (is_taken p.rows own.id)) _ k in
          let none : is_taken p.rows own.id ≡ false = not_true (is_taken p.rows own.id) (right (nat_lt own.id p.ids.next) _ first) in
          both (nat_lt own.id p.ids.next && not (is_taken (flat_map (behind_message m.entry.at (record { id = id; rest = rest })) p.rows) own.id)) _
          (both (nat_lt own.id p.ids.next) _ (left (nat_lt own.id p.ids.next) _ first) (ap not (not_taken (behind_message m.entry.at (record { id = id; rest = rest })) own.id p.rows (shrinks_message m.entry.at (record { id = id; rest = rest })) none)))
          (ap not (none_of_both (λ n. n == own.id) p.ids.free (flat_map (freed_id m.entry.at (record { id = id; rest = rest })) p.rows) (not_true (list_any (λ n. n == own.id) p.ids.free) (right (nat_lt own.id p.ids.next && not (is_taken p.rows own.id)) _ k)) (none_any (λ n. n == own.id) (flat_map (freed_id m.entry.at (record { id = id; rest = rest })) p.rows) (freed_all (λ n. not (n == own.id)) m.entry.at (record { id = id; rest = rest }) p.rows (taken_others own.id p.rows none)))))

      by : (b : Bool) → Ids (place ++ m.entry ∷ []) (state b)
      by true = record { apart = h.apart; rows = h.rows; free = h.free; free_apart = h.free_apart; above = h.above; sent = sent_more s place p h m.entry p.rows h.sent; own = refl; kinds = h.kinds }
      by false =
          record {
            apart = apart_flat (behind_message m.entry.at msg) p.rows (shrinks_message m.entry.at msg) h.apart;
            rows = all_flat_by (λ r. is_given p.ids.next r.id) (λ r. is_given p.ids.next r.id) (behind_message m.entry.at msg) p.rows (λ r k. given_shrinks s place p h p.ids.next r (behind_message m.entry.at msg r) (shrinks_message m.entry.at msg r) k) h.rows;
            free = list_all-append (is_given p.ids.next) p.ids.free (flat_map (freed_id m.entry.at msg) p.rows) ∙ both (list_all (is_given p.ids.next) p.ids.free) _ h.free (freed_all (is_given p.ids.next) m.entry.at msg p.rows h.rows);
            free_apart = list_all-append (λ n. not (is_taken (flat_map (behind_message m.entry.at msg) p.rows) n)) p.ids.free (flat_map (freed_id m.entry.at msg) p.rows) ∙ both (list_all (λ n. not (is_taken (flat_map (behind_message m.entry.at msg) p.rows) n)) p.ids.free) _ (free_shrinks (behind_message m.entry.at msg) p.rows p.ids.free (shrinks_message m.entry.at msg) h.free_apart) (freed_apart m.entry.at msg p.rows h.apart);
            above = h.above;
            sent = all_flat_by (λ r. list_any (is_sent r.op) place) (λ r. list_any (is_sent r.op) (place ++ m.entry ∷ [])) (behind_message m.entry.at msg) p.rows (λ r k. sent_shrinks s place p h m.entry r (behind_message m.entry.at msg r) (shrinks_message m.entry.at msg r) k) h.sent;
            own = owns p.own_bind h.own;
            kinds = all_flat_by (λ r. agrees (is_bind_row r) (is_bind p)) (λ r. agrees (is_bind_row r) (is_bind p)) (behind_message m.entry.at msg) p.rows (λ r k. kind_shrinks s place p h r (behind_message m.entry.at msg r) (shrinks_message m.entry.at msg r) k) h.kinds;
          }

  -- An expiry, and the end.
  fewer : (t : UpRow → Bool) (q : ConnectionState) → q.rows ≡ filter t p.rows → q.ids ≡ p.ids → q.own_bind ≡ p.own_bind → q.kind ≡ p.kind → Ids (place ++ m.entry ∷ []) q
  fewer t q rows ids own kind =
      record {
        apart = ap are_apart rows ∙ apart_filter t p.rows h.apart;
        rows = ap (λ l. list_all (λ r. is_given q.ids.next r.id) l) rows ∙ ap (λ i. list_all (λ r. is_given i.next r.id) (filter t p.rows)) ids ∙ all_filter (λ r. is_given p.ids.next r.id) t p.rows h.rows;
        free = ap (λ i. list_all (is_given i.next) i.free) ids ∙ h.free;
        free_apart = ap (λ l. list_all (λ n. not (is_taken l n)) q.ids.free) rows ∙ ap (λ i. list_all (λ n. not (is_taken (filter t p.rows) n)) i.free) ids ∙ all_imply (λ n. not (is_taken p.rows n)) (λ n. not (is_taken (filter t p.rows) n)) p.ids.free (λ n k. ap not (taken_filter t n p.rows (not_true (is_taken p.rows n) k))) h.free_apart;
        above = ap (λ i. nat_lt 0 i.next) ids ∙ h.above;
        sent = ap (λ l. list_all (λ r. list_any (is_sent r.op) (place ++ m.entry ∷ [])) l) rows ∙ all_filter (λ r. list_any (is_sent r.op) (place ++ m.entry ∷ [])) t p.rows (sent_more s place p h m.entry p.rows h.sent);
        own = ap (λ o. where_there (is_own_apart q) o) own ∙ ap (λ l. where_there (λ o. nat_lt o.id q.ids.next && not (is_taken l o.id) && not (list_any (λ n. n == o.id) q.ids.free)) p.own_bind) rows ∙ ap (λ i. where_there (λ o. nat_lt o.id i.next && not (is_taken (filter t p.rows) o.id) && not (list_any (λ n. n == o.id) i.free)) p.own_bind) ids ∙ owns p.own_bind h.own;
        kinds = ap (λ l. list_all (λ r. agrees (is_bind_row r) (is_bind q)) l) rows ∙ ap (λ k. list_all (λ r. agrees (is_bind_row r) (is_kind BindKind k)) (filter t p.rows)) kind ∙ all_filter (λ r. agrees (is_bind_row r) (is_bind p)) t p.rows h.kinds;
      }
    where
      owns : (o : Option OwnWait) → where_there (is_own_apart p) o ≡ true → where_there (λ own. nat_lt own.id p.ids.next && not (is_taken (filter t p.rows) own.id) && not (list_any (λ n. n == own.id) p.ids.free)) o ≡ true
      owns None k = refl
      owns (Some own) k =
          let first : (nat_lt own.id p.ids.next && not (is_taken p.rows own.id)) ≡ true = left (nat_lt own.id p.ids.next && not (is_taken p.rows own.id)) _ k in
          both (nat_lt own.id p.ids.next && not (is_taken (filter t p.rows) own.id)) _ (both (nat_lt own.id p.ids.next) _ (left (nat_lt own.id p.ids.next) _ first) (ap not (taken_filter t own.id p.rows (not_true (is_taken p.rows own.id) (right (nat_lt own.id p.ids.next) _ first))))) (right (nat_lt own.id p.ids.next && not (is_taken p.rows own.id)) _ k)

  down_step : Ids (place ++ m.entry ∷ []) (record (with_down p) { moment = m.entry.at })
  down_step =
      record {
        apart = refl;
        rows = refl;
        free = h.free;
        free_apart = all_always (λ n. true) p.ids.free (λ n. refl);
        above = h.above;
        sent = refl;
        own = owns p.own_bind h.own;
        kinds = refl;
      }
    where
      owns : (o : Option OwnWait) → where_there (is_own_apart p) o ≡ true → where_there (λ own. nat_lt own.id p.ids.next && true && not (list_any (λ n. n == own.id) p.ids.free)) o ≡ true
      owns None k = refl
      owns (Some own) k =
          let first : (nat_lt own.id p.ids.next && not (is_taken p.rows own.id)) ≡ true = left (nat_lt own.id p.ids.next && not (is_taken p.rows own.id)) _ k in
          both (nat_lt own.id p.ids.next && true) _ (both (nat_lt own.id p.ids.next) true (left (nat_lt own.id p.ids.next) _ first) refl) (right (nat_lt own.id p.ids.next && not (is_taken p.rows own.id)) _ k)

  sent_step : (id : ℕ) (op : OpName) (rest : List ℕ) → m.entry.what ≡ what.Sent id op rest → (id == id_for p.ids) ≡ true → list_any (is_sent op) place ≡ false → (mark : Option Taken) → m.mark ≡ mark → (elim mark [ None ↦ false | Some t ↦ marks_connection p (what.Sent id op rest) t.letter ]) ≡ true → ((t : Taken) → m.mark ≡ Some t → is_of_its_sort p t.letter ≡ true) → Behind (what.Sent id op rest)
  sent_step id op rest e next new None z k f = absurd (let bad : false ≡ true = k in cc)
  sent_step id op rest e next new (Some t) z k f = by t.letter refl k (f t z)
    where
      by : (x : Letter) → t.letter ≡ x → marks_connection p (what.Sent id op rest) x ≡ true → is_of_its_sort p x ≡ true → Behind (what.Sent id op rest)
      by (Forward q sort body ask holder) y j i = forwarded id op rest e t z next new q sort body ask holder y (left (same_op op q) _ (left (same_op op q && bytes_eq rest body) _ j)) i
      by _ y j i = absurd (let bad : false ≡ true = j in cc)

  -- behind an entry of the share, with a letter that is fit
  pub ids_more : has_connection_mark p m ≡ true → has_right_id p.ids m.entry.what ≡ true → is_sent_once p place m ≡ true → ((t : Taken) → m.mark ≡ Some t → is_of_its_sort p t.letter ≡ true) → Ids (place ++ m.entry ∷ []) (step_connection s p m)
  ids_more marked right_id once fit = by m.entry.what refl
    where
      put : What → Option Taken → Bool
      put w mark = elim mark [ None ↦ not (must_mark_connection p w) | Some t ↦ marks_connection p w t.letter ]

      marked_so : (w : What) → m.entry.what ≡ w → (elim m.mark [ None ↦ not (must_mark_connection p w) | Some t ↦ marks_connection p w t.letter ]) ≡ true
      marked_so w e = ap (λ v. elim m.mark [ None ↦ not (must_mark_connection p v) | Some t ↦ marks_connection p v t.letter ]) (sym e) ∙ marked

      first_time : (id : ℕ) (op : OpName) (rest : List ℕ) → m.entry.what ≡ what.Sent id op rest → list_any (is_sent op) place ≡ false
      first_time id op rest e =
          let known : (not (list_any (is_sent op) place) && implies (is_bind p) (has_letter (is_free_by p) m)) ≡ true = ap (λ w. elim (sent_message w) [ None ↦ true | Some x ↦ not (list_any (λ e. passes (λ y. same_op x.op y.op) (sent_message e.what)) place) && implies (is_bind p) (has_letter (is_free_by p) m) ]) (sym e) ∙ once in
          not_true (list_any (is_sent op) place) (left (not (list_any (is_sent op) place)) _ known)

      by : (w : What) → m.entry.what ≡ w → Behind w
      by (what.Sent id op rest) e = sent_step id op rest e (ap (has_right_id p.ids) (sym e) ∙ right_id) (first_time id op rest e) m.mark refl (marked_so (what.Sent id op rest) e) fit
      by (what.Own id rest) e = own_step id rest (ap (has_right_id p.ids) (sym e) ∙ right_id)
      by (what.Got id rest) e = got_step id rest
      by (what.Expired op) e = fewer (λ r. not (same_op op r.op)) (record p { rows = filter (λ r. not (same_op op r.op)) p.rows; moment = m.entry.at }) refl refl refl refl
      by (what.Down why) e = down_step
      by (what.Missed op) e = same s place p h m.entry (record (with_missed p) { moment = m.entry.at }) refl refl refl refl
      by w e = same s place p h m.entry (record (connection_behind s m.entry m.mark p w) { moment = m.entry.at }) refl refl refl refl
