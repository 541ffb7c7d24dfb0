-- An operation goes upstream, and an own message gives an operation up: the rows, the identifiers and what stands then.
use Rattle.std.proofs.Common.{◌≡◌, ℕ, suc, ◌<◌, Bool, true, false, ◌==◌, ◌&&◌, ◌||◌, not, if◌then◌else◌, List, [], ◌∷◌, ◌++◌, refl, ap, arith, ◌∙◌, sym, subst}
use Rattle.std.specs.Prelude.{Option, Some, None, filter, flat_map, cond, is_some, is_none, nat_lt, max}
use Rattle.std.specs.List.{list_any, list_all}
use Rattle.std.specs.Str.{bytes_eq}
use Rattle.std.proofs.lemmas.Bool.{ltb-true, lt-ltb}
use Rattle.ldap_spec.specs.Bodies.{abandon, who_am_i}
use Rattle.ldap_spec.specs.Kinds.{kind_of, same_kind}
use Rattle.ldap_spec.specs.Messages.{Message}
use Rattle.lload_names.specs.declared.names.OpKind.{OpKind}
use Rattle.lload_names.specs.declared.names.OpKind.TheVariants.{Bind}
use Rattle.lload_names.specs.declared.names.OpName.{OpName}
use Rattle.lload_names.specs.declared.names.What.TheVariants as what
use Rattle.lload_spec.specs.Identifiers.{Ids, id_for, with_sent_id, with_own_id}
use Rattle.lload_spec.specs.Journal.{same_op}
use Rattle.lload_spec.specs.Lists.{passes, implies}
use Rattle.lload_spec.specs.OneEach.{begins_with_bind, is_own_bind}
use Rattle.lload_spec.specs.Settings.{Settings}
use Rattle.part_spec.specs.ConnectionState.{UpRow, Kept, put_row, behind_own, is_bind, is_bind_row, is_first_bind}
use Rattle.part_spec.specs.Fit.{ConnectionLedger, step_connection_ledger, with_mark}
use Rattle.part_spec.specs.Marked.{Taken}
use Rattle.move_laws.specs.World.{Conn, put2}
use Rattle.stands_laws.specs.Books.{Book, name}
use Rattle.stands_laws.specs.Lists.{Each}
use Rattle.stands_laws.specs.RegularStands.{RowIs, RegularTaken, RegularStands, is_row_of}
use Rattle.lload_spec.proofs.Growth.{left, both}
use Rattle.lload_laws.proofs.ListLaws.{all_imply, all-filter}
use Rattle.part_laws.proofs.ListLaws.{not_true, false_by, eqb_sym, same_number, all_kept, same_op_sym}
use Rattle.connection_laws.proofs.Apart.{apart_push, is_taken, taken_put, or_false_left, or_false_right}
use Rattle.connection_laws.proofs.Pieces.{marked_up, up_entry}
use Rattle.connection_laws.proofs.RegularLetters.{abandon_no_bind, and_none}
use Rattle.regular_moves_laws.proofs.Rows.{RowsStand, rows_stand, regular_rows, rows_later, each_imply, flat_filter, abandon_test}
use Rattle.regular_moves_laws.proofs.Taken.{forward_taken}

-- A row more.
each_put : (P : UpRow → Type 0) (r : UpRow) (rows : List UpRow) → P r → Each P rows → Each P (put_row r rows)
each_put P r [] h k = (h, tt)
each_put P r (x ∷ rows) h k = by (nat_lt x.id r.id) (each_put P r rows h k.1)
  where
    by : (t : Bool) → Each P (put_row r rows) → Each P (elim t [ true ↦ x ∷ put_row r rows | false ↦ r ∷ x ∷ rows ])
    by true j = (k.0, j)
    by false j = (h, k)

any_put : (t : UpRow → Bool) (r : UpRow) (rows : List UpRow) → list_any t (put_row r rows) ≡ (if t r then true else list_any t rows)
any_put t r [] = one (t r)
  where
    one : (q : Bool) → (q || false) ≡ (if q then true else false)
    one true = refl
    one false = refl
any_put t r (x ∷ rows) = by (nat_lt x.id r.id) (any_put t r rows)
  where
    first : (q o : Bool) → (q || o) ≡ (if q then true else o)
    first true o = refl
    first false o = refl

    later : (q p o : Bool) → (p || (if q then true else o)) ≡ (if q then true else (p || o))
    later true true o = refl
    later true false o = refl
    later false p o = refl

    by : (q : Bool) → list_any t (put_row r rows) ≡ (if t r then true else list_any t rows) → list_any t (elim q [ true ↦ x ∷ put_row r rows | false ↦ r ∷ x ∷ rows ]) ≡ (if t r then true else (t x || list_any t rows))
    by true j = ap (λ o. t x || o) j ∙ later (t r) (t x) (list_any t rows)
    by false j = first (t r) (t x || list_any t rows)

-- the identifier that it gets
record Given (i : Ids) (rows : List UpRow) (id : ℕ) : Type 0 where
  pub above : 0 < id
  pub unused : is_taken rows id ≡ false

given : (b : Book) (i : Ids) (rows : List UpRow) (live : ℕ → ℕ → Bool) → RowsStand b i rows live → 0 < i.next → Given i rows (id_for i)
given b i rows live h first = by i.free h.above h.free
  where
    apart_number : (m n : ℕ) → m < n → (m == n) ≡ false
    apart_number m n l = false_by (m == n) (λ k. let same = same_number m n k in absurd (omega arith))

    next_unused : (rs : List UpRow) → Each (RowIs b i.next) rs → is_taken rs i.next ≡ false
    next_unused [] k = refl
    next_unused (r ∷ rs) k = ap (λ t. t || is_taken rs i.next) (apart_number r.id i.next k.0.below) ∙ next_unused rs k.1

    by : (ns : List ℕ) → list_all (λ n. nat_lt 0 n) ns ≡ true → list_all (λ n. not (is_taken rows n)) ns ≡ true → Given i rows (elim ns [ [] ↦ i.next | n ∷ xs ↦ n ])
    by [] a f = record { above = first; unused = next_unused rows h.each }
    by (n ∷ ns) a f = record { above = ltb-true 0 n (left (nat_lt 0 n) _ a); unused = not_true (is_taken rows n) (left (not (is_taken rows n)) _ f) }

pub rows_sent : (b : Book) (i : Ids) (rows : List UpRow) (live : ℕ → ℕ → Bool) (c k at : ℕ) (kind : OpKind) (ask : Bool) → RowsStand b i rows live → 0 < i.next → live c k ≡ false → kind_of (b.request c k).rest ≡ Some kind → same_kind Bind kind ≡ false
    → RowsStand b (with_sent_id (id_for i) i) (put_row (record { id = id_for i; op = name c k; kind = kind; ask_who = ask; sent = at; answered = at; kept = None }) rows) (put2 live c k true)
rows_sent b i rows live c k at kind ask h first new known plain = record {
  ops = λ a j. any_put (is_row_of (name a j)) r rows ∙ ap (λ (o : Bool). if (a == c) && (j == k) then true else o) (h.ops a j);
  each = each_put (RowIs b (max i.next (suc (id_for i)))) r rows (record { kind = known; plain = plain; kept = refl; above = g.above; below = omega arith }) (each_imply (RowIs b i.next) (RowIs b (max i.next (suc (id_for i)))) rows (λ q p. let m = p.below in record { kind = p.kind; plain = p.plain; kept = p.kept; above = p.above; below = omega arith }) h.each);
  apart = apart_push rows r (all_new rows (h.ops c k ∙ new) g.unused) h.apart;
  above = all_kept (λ n. nat_lt 0 n) (λ n. not (n == id_for i)) i.free h.above;
  below = all_kept (λ n. nat_lt n (max i.next (suc (id_for i)))) (λ n. not (n == id_for i)) i.free (all_imply (λ n. nat_lt n i.next) (λ n. nat_lt n (max i.next (suc (id_for i)))) i.free (λ n p. lt-ltb n (max i.next (suc (id_for i))) (let m = ltb-true n i.next p in omega arith)) h.below);
  free = all-filter (λ n. not (is_taken (put_row r rows) n)) (λ n. not (n == id_for i)) i.free ∙ all_imply (λ n. not (is_taken rows n)) (λ n. implies (not (n == id_for i)) (not (is_taken (put_row r rows) n))) i.free (λ n p. free_one n (n == id_for i) refl (not_true (is_taken rows n) p)) h.free;
}
  where
    r : UpRow
    r = record { id = id_for i; op = name c k; kind = kind; ask_who = ask; sent = at; answered = at; kept = None }

    g : Given i rows (id_for i)
    g = given b i rows live h first

    all_new : (rs : List UpRow) → list_any (is_row_of (name c k)) rs ≡ false → is_taken rs (id_for i) ≡ false → list_all (λ q. not (same_op q.op (name c k)) && not (q.id == id_for i)) rs ≡ true
    all_new [] e f = refl
    all_new (q ∷ rs) e f = both _ _ (both (not (same_op q.op (name c k))) _ (ap not (same_op_sym q.op (name c k) ∙ or_false_left (same_op (name c k) q.op) _ e)) (ap not (or_false_left (q.id == id_for i) _ f))) (all_new rs (or_false_right (same_op (name c k) q.op) _ e) (or_false_right (q.id == id_for i) _ f))

    free_one : (n : ℕ) (t : Bool) → (n == id_for i) ≡ t → is_taken rows n ≡ false → implies (not t) (not (is_taken (put_row (record { id = id_for i; op = name c k; kind = kind; ask_who = ask; sent = at; answered = at; kept = None }) rows) n)) ≡ true
    free_one n true e f = refl
    free_one n false e f = ap not (taken_put n (record { id = id_for i; op = name c k; kind = kind; ask_who = ask; sent = at; answered = at; kept = None }) rows (eqb_sym (id_for i) n ∙ e) f)

-- It is sent.
pub stands_sent : (s : Settings) (b : Book) (u n at c k h : ℕ) (kind : OpKind) (rest : List ℕ) (ask : Bool) (holder : OpName) (l : ConnectionLedger) (v w : Conn) → RegularStands s b u l v → l.state.up ≡ true → l.state.retired ≡ false → l.state.down ≡ false → is_bind l.state ≡ false → v.rows c k ≡ false → kind_of (b.request c k).rest ≡ Some kind → same_kind Bind kind ≡ false → RegularTaken (l.taken ++ forward_taken c k kind rest ask holder ∷ []) w → w ≡ record v { taken = put2 v.taken c k true; rows = put2 v.rows c k true }
    → RegularStands s b u (step_connection_ledger s l (marked_up n at (Some (forward_taken c k kind rest ask holder)) (what.Sent (id_for l.state.ids) (name c k) rest))) w
stands_sent s b u n at c k h kind rest ask holder l v w st up going there regular new known plain taken e = record {
  link = record {
    number = st.link.number;
    kind = st.link.kind;
    up = st.link.up ∙ ap (λ (x : Conn). x.up) (sym e);
    retired = st.link.retired ∙ ap (λ (x : Conn). x.retired) (sym e);
    down = st.link.down ∙ ap (λ (x : Conn). x.down) (sym e);
    placed = st.link.placed;
    fresh = st.link.fresh;
    limit = λ r. absurd (let bad : true ≡ false = sym r ∙ going in cc);
    first = let m = st.link.first in omega arith;
    began = λ p q. let m = st.link.began p q in omega arith;
  };
  taken = taken;
  holder = ap (λ (t : Bool). if t then Some holder else None) regular;
  nobody = ap (λ (x : Conn). x.holder) e ∙ st.nobody;
  now = ap (λ (x : Conn). x.now) e ∙ st.now;
  stands = λ d. let r = st.stands d in regular_rows b _ w (subst (λ (x : Conn). RowsStand b (with_sent_id (id_for l.state.ids) l.state.ids) (put_row (record { id = id_for l.state.ids; op = name c k; kind = kind; ask_who = ask; sent = at; answered = at; kept = None }) l.state.rows) x.rows) (sym e) (rows_sent b l.state.ids l.state.rows v.rows c k at kind ask (rows_stand b l.state v r) st.link.first new known plain)) r.begun r.waits (λ z. absurd (let bad : true ≡ false = sym up ∙ z in cc));
  fallen = λ d. absurd (let bad : true ≡ false = sym d ∙ there in cc);
}

-- An Abandon.
abbrev own_by : Bool → Bool → Message → UpRow → List UpRow
own_by asks ends m r = elim asks [
  | true ↦ record r { kept = elim r.kept [ None ↦ None | Some k ↦ Some (record k { who = Some m.id }) ] } ∷ []
  | false ↦ elim ends [ true ↦ [] | false ↦ r ∷ [] ]
]

own_row : (b : Book) (next id i : ℕ) (r : UpRow) → RowIs b next r → behind_own (record { id = id; rest = abandon i }) r ≡ cond (not (r.id == i)) (r ∷ []) []
own_row b next id i r h =
    ap (λ (t : Bool). own_by t (not (is_bind_row r) && bytes_eq (abandon i) (abandon r.id)) m r) (ap (λ (o : Option Kept). bytes_eq (abandon i) who_am_i && passes (λ k. is_none k.who) o) h.kept ∙ off (bytes_eq (abandon i) who_am_i))
    ∙ (ap (λ (t : Bool). own_by false t m r) (ap (λ (t : Bool). not t && bytes_eq (abandon i) (abandon r.id)) h.plain ∙ abandon_test i r.id) ∙ last_one (r.id == i))
  where
    m : Message
    m = record { id = id; rest = abandon i }

    off : (t : Bool) → (t && false) ≡ false
    off true = refl
    off false = refl

    last_one : (t : Bool) → own_by false t (record { id = id; rest = abandon i }) r ≡ cond (not t) (r ∷ []) []
    last_one true = refl
    last_one false = refl

pub own_rows : (b : Book) (next id i : ℕ) (rows : List UpRow) → Each (RowIs b next) rows → flat_map (behind_own (record { id = id; rest = abandon i })) rows ≡ filter (λ r. not (r.id == i)) rows
own_rows b next id i rows h = flat_filter (behind_own (record { id = id; rest = abandon i })) (λ r. not (r.id == i)) rows (each_imply (RowIs b next) (λ r. behind_own (record { id = id; rest = abandon i }) r ≡ cond (not (r.id == i)) (r ∷ []) []) rows (λ r k. own_row b next id i r k) h)

-- what stands behind it
pub stands_abandon : (s : Settings) (b : Book) (u n at i : ℕ) (mark : Option Taken) (l : ConnectionLedger) (v w : Conn) → RegularStands s b u l v → l.state.down ≡ false → RowsStand b l.state.ids (filter (λ r. not (r.id == i)) l.state.rows) w.rows → RegularTaken (with_mark mark l.taken) w → w.up ≡ v.up → w.retired ≡ v.retired → w.down ≡ v.down → w.holder ≡ None → w.now ≡ None
    → RegularStands s b u (step_connection_ledger s l (marked_up n at mark (what.Own l.state.ids.next (abandon i)))) w
stands_abandon s b u n at i mark l v w h there rows taken up retired down holder now = record {
  link = record {
    number = h.link.number;
    kind = h.link.kind;
    up = h.link.up ∙ sym up;
    retired = h.link.retired ∙ sym retired;
    down = h.link.down ∙ sym down;
    placed = h.link.placed;
    fresh = h.link.fresh;
    limit = λ e. let m = h.link.limit e in omega arith;
    first = let m = h.link.first in omega arith;
    began = λ p q. let m = h.link.began p q in omega arith;
  };
  taken = taken;
  holder = h.holder;
  nobody = holder;
  now = now;
  stands = λ e. let r = h.stands e in regular_rows b _ w (subst (λ rs. RowsStand b (with_own_id l.state.ids.next l.state.ids) rs w.rows) (sym (own_rows b l.state.ids.next l.state.ids.next i l.state.rows r.each)) (rows_later b l.state.ids (max l.state.ids.next (suc l.state.ids.next)) (filter (λ r. not (r.id == i)) l.state.rows) w.rows (omega arith) rows)) (λ z. ap (λ (t : Bool). if t then Some (record { id = l.state.ids.next; at = at }) else l.state.own_bind) no_first ∙ r.begun z) (waits r.waits) (λ z. ap (flat_map (behind_own (record { id = l.state.ids.next; rest = abandon i }))) (r.unused z));
  fallen = λ e. absurd (let bad : true ≡ false = sym e ∙ there in cc);
}
  where
    no_first : is_first_bind s l.state (up_entry n at (what.Own l.state.ids.next (abandon i))) ≡ false
    no_first = and_none (begins_with_bind s l.state.number) (l.state.ids.next == 1) (is_own_bind s (up_entry n at (what.Own l.state.ids.next (abandon i)))) (abandon_no_bind s n at l.state.ids.next i)

    waits : (is_some l.state.own_bind ≡ true → l.state.up ≡ false) → is_some (if is_first_bind s l.state (up_entry n at (what.Own l.state.ids.next (abandon i))) then Some (record { id = l.state.ids.next; at = at }) else l.state.own_bind) ≡ true → l.state.up ≡ false
    waits f e = f (sym (ap (λ (t : Bool). is_some (if t then Some (record { id = l.state.ids.next; at = at }) else l.state.own_bind)) no_first) ∙ e)
