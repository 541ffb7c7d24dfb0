-- What a message leaves of a regular connection's rows and identifiers.
use Rattle.std.proofs.Common.{◌≡◌, ℕ, Bool, true, false, ◌==◌, ◌&&◌, ◌||◌, not, if◌then◌else◌, List, [], ◌∷◌, refl, ap, ◌∙◌, sym, subst}
use Rattle.std.specs.Prelude.{Option, Some, None, flat_map, find, cond, is_some, is_none, nat_lt}
use Rattle.std.specs.List.{list_any, list_all}
use Rattle.std.proofs.lemmas.Bool.{lt-ltb}
use Rattle.std.proofs.lemmas.List.Folds.{list_all-append, list_any-append}
use Rattle.std.proofs.Math.Bool.{or-false}
use Rattle.ldap_spec.specs.Messages.{Message}
use Rattle.ldap_spec.specs.Kinds.{fits, is_final}
use Rattle.ldap_spec.specs.Responses.{result_code}
use Rattle.lload_names.specs.declared.names.OpName.{OpName}
use Rattle.lload_spec.specs.Identifiers.{Ids, with_freed}
use Rattle.lload_spec.specs.Journal.{same_op}
use Rattle.lload_spec.specs.Lists.{passes}
use Rattle.lload_spec.specs.Settings.{Settings}
use Rattle.part_spec.specs.ConnectionState.{UpRow, Kept, is_under, is_under_who, behind_message, behind_answer, behind_final, behind_who, keeps_back, freed_id}
use Rattle.part_spec.specs.Fit.{ConnectionLedger}
use Rattle.move_laws.specs.World.{Conn, put2}
use Rattle.stands_laws.specs.Books.{Book, name}
use Rattle.stands_laws.specs.Lists.{Each}
use Rattle.stands_laws.specs.RegularStands.{RowIs, LinkStands, RegularStands, is_row_of}
use Rattle.lload_spec.proofs.Growth.{left, both}
use Rattle.lload_laws.proofs.ListLaws.{found_passes}
use Rattle.part_laws.proofs.ListLaws.{same_number}
use Rattle.connection_laws.proofs.Apart.{is_taken, apart_flat, shrinks_message, freed_all, free_shrinks, freed_apart}
use Rattle.regular_moves_laws.proofs.Rows.{RowsStand, regular_rows, Alike, alike, any_dropped, each_imply, each_both, each_flat, flat_filter}

-- Which row a message is under.
and_true : (t : Bool) → (t && true) ≡ t
and_true true = refl
and_true false = refl

pub under_row : (b : Book) (next id : ℕ) (r : UpRow) → RowIs b next r → is_under id r ≡ (r.id == id)
under_row b next id r h = ap (λ (o : Option Kept). (r.id == id) && not (is_some o)) h.kept ∙ and_true (r.id == id)

who_row : (b : Book) (next id : ℕ) (r : UpRow) → RowIs b next r → is_under_who id r ≡ false
who_row b next id r h = ap (λ (o : Option Kept). passes (λ who. who == id) (elim o [ None ↦ None | Some k ↦ k.who ])) h.kept

abbrev message_by : (under who : Bool) → ℕ → Message → UpRow → List UpRow
message_by under who at m r = elim under [ true ↦ behind_answer at m.rest r | false ↦ elim who [ true ↦ behind_who at m.rest r | false ↦ r ∷ [] ] ]

abbrev answer_by : (fit final : Bool) → ℕ → List ℕ → UpRow → List UpRow
answer_by fit final at rest r = elim fit [ false ↦ r ∷ [] | true ↦ elim final [ true ↦ behind_final at rest r | false ↦ record r { answered = at } ∷ [] ] ]

abbrev final_by : Bool → ℕ → List ℕ → UpRow → List UpRow
final_by bind at rest r =
    elim bind [
      | false ↦ []
      | true ↦ elim (keeps_back r rest) [
        | true ↦ record r { answered = at; kept = Some (record { rest = rest; who = None }) } ∷ []
        | false ↦ elim (is_none (result_code rest)) [ true ↦ record r { answered = at } ∷ [] | false ↦ [] ]
      ]
    ]

-- a row behind a message, by whether this is under its identifier, and whether it fits and is final
message_row : (b : Book) (next at : ℕ) (m : Message) (r : UpRow) (t : Bool) → RowIs b next r → (r.id == m.id) ≡ t → behind_message at m r ≡ message_by t false at m r
message_row b next at m r t h e = ap (λ (q : Bool). message_by q (is_under_who m.id r) at m r) (under_row b next m.id r h ∙ e) ∙ ap (λ (q : Bool). message_by t q at m r) (who_row b next m.id r h)

answer_row : (b : Book) (next at : ℕ) (rest : List ℕ) (r : UpRow) (fit final : Bool) → RowIs b next r → fits r.kind rest ≡ fit → is_final r.kind rest ≡ final → behind_answer at rest r ≡ cond fit (cond final [] (record r { answered = at } ∷ [])) (r ∷ [])
answer_row b next at rest r fit final h e f = ap (λ (q : Bool). answer_by q (is_final r.kind rest) at rest r) e ∙ (ap (λ (q : Bool). answer_by fit q at rest r) f ∙ go fit final)
  where
    go : (p q : Bool) → answer_by p q at rest r ≡ cond p (cond q [] (record r { answered = at } ∷ [])) (r ∷ [])
    go true true = ap (λ (q : Bool). final_by q at rest r) h.plain
    go true false = refl
    go false q = refl

later_row : (b : Book) (next at : ℕ) (r : UpRow) → RowIs b next r → RowIs b next (record r { answered = at })
later_row b next at r h = record { kind = h.kind; plain = h.plain; kept = h.kept; above = h.above; below = h.below }

-- what a row becomes is a row
row_message : (b : Book) (next at : ℕ) (m : Message) (r : UpRow) → RowIs b next r → Each (RowIs b next) (behind_message at m r)
row_message b next at m r h = go (r.id == m.id) (fits r.kind m.rest) (is_final r.kind m.rest) refl refl refl
  where
    go : (t p q : Bool) → (r.id == m.id) ≡ t → fits r.kind m.rest ≡ p → is_final r.kind m.rest ≡ q → Each (RowIs b next) (behind_message at m r)
    go false p q e f g = subst (Each (RowIs b next)) (sym (message_row b next at m r false h e)) (h, tt)
    go true p q e f g = subst (Each (RowIs b next)) (sym (message_row b next at m r true h e ∙ answer_row b next at m.rest r p q h f g)) (by p q)
      where
        by : (p q : Bool) → Each (RowIs b next) (cond p (cond q [] (record r { answered = at } ∷ [])) (r ∷ []))
        by true true = tt
        by true false = (later_row b next at r h, tt)
        by false q = (h, tt)

-- The rows and identifiers behind a message, by which operations are live then.
got_rows : (b : Book) (i : Ids) (rows : List UpRow) (live more : ℕ → ℕ → Bool) (at : ℕ) (m : Message) → RowsStand b i rows live → ((c k : ℕ) → list_any (is_row_of (name c k)) (flat_map (behind_message at m) rows) ≡ more c k)
    → RowsStand b (with_freed (flat_map (freed_id at m) rows) i) (flat_map (behind_message at m) rows) more
got_rows b i rows live more at m h ops = record {
  ops = ops;
  each = each_flat (RowIs b i.next) (RowIs b i.next) (behind_message at m) rows (row_message b i.next at m) h.each;
  apart = apart_flat (behind_message at m) rows (shrinks_message at m) h.apart;
  above = list_all-append (λ n. nat_lt 0 n) i.free (flat_map (freed_id at m) rows) ∙ both _ _ h.above (freed_all (λ n. nat_lt 0 n) at m rows (ids rows (λ n. nat_lt 0 n) h.each (λ r k. lt-ltb 0 r.id k.above)));
  below = list_all-append (λ n. nat_lt n i.next) i.free (flat_map (freed_id at m) rows) ∙ both _ _ h.below (freed_all (λ n. nat_lt n i.next) at m rows (ids rows (λ n. nat_lt n i.next) h.each (λ r k. lt-ltb r.id i.next k.below)));
  free = list_all-append (λ n. not (is_taken (flat_map (behind_message at m) rows) n)) i.free (flat_map (freed_id at m) rows) ∙ both _ _ (free_shrinks (behind_message at m) rows i.free (shrinks_message at m) h.free) (freed_apart at m rows h.apart);
}
  where
    ids : (rs : List UpRow) (t : ℕ → Bool) → Each (RowIs b i.next) rs → ((r : UpRow) → RowIs b i.next r → t r.id ≡ true) → list_all (λ (r : UpRow). t r.id) rs ≡ true
    ids [] t k f = refl
    ids (r ∷ rs) t k f = both (t r.id) _ (f r k.0) (ids rs t k.1 f)

-- A message that ends no operation.
any_flat : {A : Type 0} (t : A → Bool) (f : A → List A) (xs : List A) → Each (λ x. list_any t (f x) ≡ t x) xs → list_any t (flat_map f xs) ≡ list_any t xs
any_flat t f [] h = refl
any_flat t f (x ∷ xs) h = list_any-append t (f x) (flat_map f xs) ∙ (ap (λ q. q || list_any t (flat_map f xs)) h.0 ∙ ap (λ q. t x || q) (any_flat t f xs h.1))

pub record EndsNone (m : Message) (r : UpRow) : Type 0 where
  pub none : (r.id == m.id) ≡ true → fits r.kind m.rest ≡ true → is_final r.kind m.rest ≡ false

pub rows_none : (b : Book) (i : Ids) (rows : List UpRow) (live : ℕ → ℕ → Bool) (at : ℕ) (m : Message) → RowsStand b i rows live → Each (EndsNone m) rows → RowsStand b (with_freed (flat_map (freed_id at m) rows) i) (flat_map (behind_message at m) rows) live
rows_none b i rows live at m h none = got_rows b i rows live live at m h (λ c k. any_flat (is_row_of (name c k)) (behind_message at m) rows (each_imply (λ r. RowIs b i.next r × EndsNone m r) (λ r. list_any (is_row_of (name c k)) (behind_message at m r) ≡ is_row_of (name c k) r) rows (λ r q. same (name c k) r q.0 q.1) (each_both (RowIs b i.next) (EndsNone m) rows h.each none)) ∙ h.ops c k)
  where
    same : (n : OpName) (r : UpRow) → RowIs b i.next r → EndsNone m r → list_any (is_row_of n) (behind_message at m r) ≡ is_row_of n r
    same n r k e = go (r.id == m.id) (fits r.kind m.rest) (is_final r.kind m.rest) refl refl refl
      where
        go : (t p q : Bool) → (r.id == m.id) ≡ t → fits r.kind m.rest ≡ p → is_final r.kind m.rest ≡ q → list_any (is_row_of n) (behind_message at m r) ≡ is_row_of n r
        go false p q i f g = ap (list_any (is_row_of n)) (message_row b _ at m r false k i) ∙ or-false (is_row_of n r)
        go true true true i f g = absurd (let bad : true ≡ false = sym g ∙ e.none i f in cc)
        go true true false i f g = ap (list_any (is_row_of n)) (message_row b _ at m r true k i ∙ answer_row b _ at m.rest r true false k f g) ∙ or-false (is_row_of n r)
        go true false q i f g = ap (list_any (is_row_of n)) (message_row b _ at m r true k i ∙ answer_row b _ at m.rest r false q k f g) ∙ or-false (is_row_of n r)

-- A message that ends the operation of a row.
pub rows_final : (b : Book) (i : Ids) (rows : List UpRow) (live : ℕ → ℕ → Bool) (at : ℕ) (m : Message) (r : UpRow) → RowsStand b i rows live → find (is_under m.id) rows ≡ Some r → fits r.kind m.rest ≡ true → is_final r.kind m.rest ≡ true
    → RowsStand b (with_freed (flat_map (freed_id at m) rows) i) (flat_map (behind_message at m) rows) (put2 live r.op.client r.op.k false)
rows_final b i rows live at m r h found fit final =
    got_rows b i rows live (put2 live r.op.client r.op.k false) at m h (λ c k.
    ap (list_any (is_row_of (name c k))) (flat_filter (behind_message at m) (λ q. not (q.id == m.id)) rows (each_imply (λ q. RowIs b i.next q × Alike r q) (λ q. behind_message at m q ≡ cond (not (q.id == m.id)) (q ∷ []) []) rows (λ q p. becomes q p.0 p.1) (each_both (RowIs b i.next) (Alike r) rows h.each others)))
    ∙ (any_dropped (name c k) r.op (λ q. not (q.id == m.id)) rows (each_imply (Alike r) (λ q. not (q.id == m.id) ≡ not (same_op r.op q.op)) rows (λ q p. ap (λ n. not (q.id == n)) (sym its) ∙ ap not p.op) others)
    ∙ ap (λ (x : Bool). if same_op (name c k) r.op then false else x) (h.ops c k)))
  where
    its : r.id ≡ m.id
    its = same_number r.id m.id (left (r.id == m.id) _ (found_passes (is_under m.id) rows r found))

    others : Each (Alike r) rows
    others = alike (is_under m.id) rows r found h.apart

    becomes : (q : UpRow) → RowIs b i.next q → Alike r q → behind_message at m q ≡ cond (not (q.id == m.id)) (q ∷ []) []
    becomes q k a = go (q.id == m.id) refl
      where
        go : (t : Bool) → (q.id == m.id) ≡ t → behind_message at m q ≡ cond (not t) (q ∷ []) []
        go false e = message_row b _ at m q false k e
        go true e =
            let same : q ≡ r = a.same (ap (λ n. q.id == n) its ∙ e) in
            message_row b _ at m q true k e ∙ answer_row b _ at m.rest q true true k (ap (λ (x : UpRow). fits x.kind m.rest) same ∙ fit) (ap (λ (x : UpRow). is_final x.kind m.rest) same ∙ final)

-- The state behind a message, by whether this is under the own Bind, and whether a holder lets go.
abbrev pub got_by : Bool → Bool → ℕ → Message → ConnectionLedger → ConnectionLedger
got_by own free at m l =
    record {
      state = record l.state {
        moment = at;
        own_bind = if own then None else l.state.own_bind;
        rows = if own then l.state.rows else flat_map (behind_message at m) l.state.rows;
        ids = if own then l.state.ids else with_freed (flat_map (freed_id at m) l.state.rows) l.state.ids;
        holder = if free then None else l.state.holder;
      };
      taken = l.taken;
    }

pub got_link : (s : Settings) (u : ℕ) (own free : Bool) (at : ℕ) (m : Message) (l : ConnectionLedger) (v : Conn) → LinkStands s u l.state v → LinkStands s u (got_by own free at m l).state v
got_link s u true free at m l v h = record { number = h.number; kind = h.kind; up = h.up; retired = h.retired; down = h.down; placed = h.placed; fresh = h.fresh; limit = h.limit; first = h.first; began = h.began }
got_link s u false free at m l v h = record { number = h.number; kind = h.kind; up = h.up; retired = h.retired; down = h.down; placed = h.placed; fresh = h.fresh; limit = h.limit; first = h.first; began = h.began }

still_none : (free : Bool) (o : Option OpName) → o ≡ None → (if free then None else o) ≡ None
still_none true o e = refl
still_none false o e = e

pub stands_got_own : (s : Settings) (b : Book) (u : ℕ) (free : Bool) (at : ℕ) (m : Message) (l : ConnectionLedger) (v : Conn) → RegularStands s b u l v → l.state.down ≡ false → RegularStands s b u (got_by true free at m l) v
stands_got_own s b u free at m l v h there = record {
  link = got_link s u true free at m l v h.link;
  taken = record { forwards = h.taken.forwards; drops = h.taken.drops; pauses = h.taken.pauses };
  holder = still_none free l.state.holder h.holder;
  nobody = h.nobody;
  now = h.now;
  stands = λ e. let r = h.stands e in record { ops = r.ops; each = r.each; apart = r.apart; free = r.free; begun = λ _. refl; waits = λ w. absurd (let bad : false ≡ true = w in cc); unused = r.unused };
  fallen = λ e. absurd (let bad : true ≡ false = sym e ∙ there in cc);
}

pub stands_got : (s : Settings) (b : Book) (u : ℕ) (free : Bool) (at : ℕ) (m : Message) (l : ConnectionLedger) (v : Conn) (live done : ℕ → ℕ → Bool) → RegularStands s b u l v → l.state.down ≡ false → RowsStand b (with_freed (flat_map (freed_id at m) l.state.rows) l.state.ids) (flat_map (behind_message at m) l.state.rows) live
    → RegularStands s b u (got_by false free at m l) (record v { rows = live; answered = done })
stands_got s b u free at m l v live done h there rows = record {
  link = let k = got_link s u false free at m l v h.link in record { number = k.number; kind = k.kind; up = k.up; retired = k.retired; down = k.down; placed = k.placed; fresh = k.fresh; limit = k.limit; first = k.first; began = k.began };
  taken = record { forwards = h.taken.forwards; drops = h.taken.drops; pauses = h.taken.pauses };
  holder = still_none free l.state.holder h.holder;
  nobody = h.nobody;
  now = h.now;
  stands = λ e. regular_rows b (got_by false free at m l).state (record v { rows = live; answered = done }) rows (h.stands there).begun (h.stands there).waits (λ z. ap (flat_map (behind_message at m)) ((h.stands there).unused z));
  fallen = λ e. absurd (let bad : true ≡ false = sym e ∙ there in cc);
}
