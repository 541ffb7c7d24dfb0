-- What the desk answers is what the machine may choose; and what it hears of connections.
use Rattle.std.proofs.Common.{◌≡◌, ℕ, Bool, true, false, ◌==◌, ◌&&◌, not, if◌then◌else◌, List, [], ◌∷◌, length, Option, Some, None, refl, ap, ◌∙◌, sym, arith}
use Rattle.std.specs.Prelude.{filter, map, nat_lt, ◌||◌}
use Rattle.std.specs.List.{list_any}
use Rattle.std.proofs.lemmas.Bool.{and_parts, and_from, eqb-true}
use Rattle.std.proofs.lemmas.Map.Views.{any-filter_same}
use Rattle.lload_names.specs.declared.names.ConnKind.{ConnKind}
use Rattle.lload_names.specs.declared.names.ConnKind.TheVariants.{Regular, Bind as BindKind}
use Rattle.lload_names.specs.declared.names.PartName.{PartName}
use Rattle.lload_names.specs.declared.names.Letter.TheVariants as real
use Rattle.lload_names.specs.declared.plans.Place.{Place}
use Rattle.lload_spec.specs.Binding.{kind_wanted}
use Rattle.lload_spec.specs.Choice.{pending_on}
use Rattle.lload_spec.specs.Entries.{Named}
use Rattle.lload_spec.specs.Journal.{same_op}
use Rattle.lload_spec.specs.News.{tells_down, tells_retired, tells_up}
use Rattle.lload_spec.specs.Settings.{Settings, is_kind, is_of_kind, place_at, plan_in_force}
use Rattle.part_laws.proofs.ListLaws.{any_filtered}
use Rattle.part_spec.specs.ConnectionState.{kind_at}
use Rattle.part_spec.specs.DeskState.{facts_of, without_connection}
use Rattle.part_spec.specs.Fit.{DeskLedger, is_ask_of, step_desk_ledger}
use Rattle.move_laws.specs.World.{Desk, Op, is, vacant, put}
use Rattle.move_laws.specs.Desks.{chosen_for}
use Rattle.stands_laws.specs.Books.{Book, is_bind_op, name}
use Rattle.stands_laws.specs.ClientStands.{kinds_of}
use Rattle.stands_laws.specs.DeskStands.{DeskStands}
use Rattle.stands_laws.proofs.Tests.{same_self, eq_sym}
use Rattle.desk_moves_laws.proofs.DeskPicks.{Eligible}
use Rattle.desk_moves_laws.proofs.DeskTakes.{heard_mark, any_push, any_same}

-- where none is pending on a connection, nobody uses it
none_on : (u : ℕ) (t : Named ℕ → Bool) (xs : List (Named ℕ)) → ((x : Named ℕ) → t x ≡ true → (x.value == u) ≡ true) → length (filter (λ m. m == u) (map (λ x. x.value) xs)) ≡ 0 → list_any t xs ≡ false
none_on u t [] f e = refl
none_on u t (x ∷ xs) f e = go (x.value == u) (t x) refl refl e (λ z. none_on u t xs f z)
  where
    go : (q o : Bool) → (x.value == u) ≡ q → t x ≡ o → length (if q then x.value ∷ filter (λ m. m == u) (map (λ x. x.value) xs) else filter (λ m. m == u) (map (λ x. x.value) xs)) ≡ 0 → (length (filter (λ m. m == u) (map (λ x. x.value) xs)) ≡ 0 → list_any t xs ≡ false) → (o || list_any t xs) ≡ false
    go true o y z w r = absurd (omega arith)
    go false true y z w r = absurd (let bad = sym y ∙ f x z in cc)
    go false false y z w r = r w

vacant_by : (s : Settings) (b : Book) (l : DeskLedger) (d : Desk) (u : ℕ) → DeskStands b l d → pending_on (facts_of s l.state) u ≡ 0 → vacant (d.user u) ≡ true
vacant_by s b l d u h e = go (d.user u) refl
  where
    go : (o : Option Op) → d.user u ≡ o → vacant o ≡ true
    go None i = refl
    go (Some o) i =
        let used = h.used u o.client o.k (ap (λ z. is z o.client o.k) i ∙ and_from (o.client == o.client) (o.k == o.k) (same_self o.client) (same_self o.k)) in
        let none = none_on u (λ x. same_op (name o.client o.k) x.op && x.value == u) l.state.pending (λ x q. (and_parts (same_op (name o.client o.k) x.op) (x.value == u) q).1) e in
        absurd (let bad = sym none ∙ (h.pending o.client o.k u ∙ used.0) in cc)

-- the kind of a connection, by its place
abbrev pub kind_by : Option Place → Bool
kind_by o = elim o [ None ↦ false | Some p ↦ is_kind BindKind p.kind ]

bind_conn : (s : Settings) (u : ℕ) (t : Bool) → is_of_kind s BindKind u ≡ t → is_kind BindKind (kind_at s u) ≡ t
bind_conn s u true e = rw e refl
bind_conn s u false e = rw e refl

not_bind : (s : Settings) (u : ℕ) → is_of_kind s Regular u ≡ true → is_of_kind s BindKind u ≡ false
not_bind s u h = go (place_at s u) h
  where
    by_kind : (k : ConnKind) → is_kind Regular k ≡ true → is_kind BindKind k ≡ false
    by_kind Regular e = refl
    by_kind BindKind e = absurd (cc)

    go : (o : Option Place) → (elim o [ None ↦ false | Some p ↦ is_kind Regular p.kind ]) ≡ true → (elim o [ None ↦ false | Some p ↦ is_kind BindKind p.kind ]) ≡ false
    go None e = refl
    go (Some p) e = by_kind p.kind e

pub may_choose : (s : Settings) (b : Book) (c k n m : ℕ) (l : DeskLedger) (d : Desk) → DeskStands b l d → Eligible s (facts_of s l.state) (kind_wanted (b.request c k)) m n → chosen_for (kinds_of s b) d c k (Some n) ≡ Some n
may_choose s b c k n m l d h e = ap (λ (t : Bool). if t then Some n else None) (all_four (d.up n) (d.retired n) (d.down n) (sym (h.viable n) ∙ any_filtered (λ m. m == n) (nat_lt (plan_in_force s l.state.plan).base) l.state.viable e.viable) (by_kind (is_bind_op b c k) refl))
  where
    all_four : (p q r : Bool) {t : Bool} → (p && not q && not r) ≡ true → t ≡ true → (p && not q && not r && t) ≡ true
    all_four true false false x y = y
    all_four true false true x y = absurd (cc)
    all_four true true r x y = absurd (cc)
    all_four false q r x y = absurd (cc)

    wanted : (t : Bool) → is_bind_op b c k ≡ t → kind_wanted (b.request c k) ≡ (if t then BindKind else Regular)
    wanted t i = ap (λ (q : Bool). if q then BindKind else Regular) i

    by_kind : (t : Bool) → is_bind_op b c k ≡ t → (if is_kind BindKind (kind_at s n) then is_bind_op b c k && vacant (d.user n) else not (is_bind_op b c k)) ≡ true
    by_kind true i =
        let w = wanted true i in
        let kind : is_of_kind s BindKind n ≡ true = ap (λ z. is_of_kind s z n) (sym w) ∙ e.kind in
        rw (bind_conn s n true kind, i) (vacant_by s b l d n h (e.alone w))
    by_kind false i =
        let w = wanted false i in
        let kind : is_of_kind s Regular n ≡ true = ap (λ z. is_of_kind s z n) (sym w) ∙ e.kind in
        rw (bind_conn s n false (not_bind s n kind), i) refl

-- a connection is up
if_or : (t o : Bool) → (o || t) ≡ (if t then true else o)
if_or true true = refl
if_or true false = refl
if_or false true = refl
if_or false false = refl

pub desk_up : (s : Settings) (b : Book) (u now : ℕ) (q : PartName) (l : DeskLedger) (d : Desk) → DeskStands b l d → d.retired u ≡ false → d.down u ≡ false
    → DeskStands b (step_desk_ledger s l (heard_mark now (real.IsUp u) q)) (record d { up = put d.up u true })
desk_up s b u now q l d h r w = record {
  took = λ i j. any_same (λ t. is_ask_of (name i j) t.letter) l.taken _ (d.took i j) refl (h.took i j);
  pending = h.pending;
  single = h.single;
  used = h.used;
  viable = λ v. any_push (λ n. n == v) l.state.viable u _ (h.viable v) ∙ here v (v == u) refl;
  ups = λ v. any_push (λ t. tells_up v t.letter) l.taken _ (d.up v) (h.ups v) ∙ (ap (λ z. d.up v || z) (eq_sym u v) ∙ if_or (v == u) (d.up v));
  retireds = λ v. any_same (λ t. tells_retired v t.letter) l.taken _ (d.retired v) refl (h.retireds v);
  downs = λ v. any_same (λ t. tells_down v t.letter) l.taken _ (d.down v) refl (h.downs v);
}
  where
    or_true : (x : Bool) → (x || true) ≡ true
    or_true true = refl
    or_true false = refl

    or_false : (x : Bool) → (x || false) ≡ x
    or_false true = refl
    or_false false = refl

    here : (v : ℕ) (t : Bool) → (v == u) ≡ t → ((d.up v && not (d.retired v) && not (d.down v)) || (u == v)) ≡ ((if t then true else d.up v) && not (d.retired v) && not (d.down v))
    here v true e = let z = eqb-true v u e in rw (z, r, w, same_self u) (or_true (d.up u && true && true))
    here v false e = rw (eq_sym u v ∙ e) (or_false (d.up v && not (d.retired v) && not (d.down v)))

-- it is retired, or down
gone_from : (u v : ℕ) (xs : List ℕ) → list_any (λ n. n == v) (without_connection u xs) ≡ (not (v == u) && list_any (λ n. n == v) xs)
gone_from u v xs = any-filter_same (λ n. n == v) (λ n. not (n == u)) (not (v == u)) (λ n e. ap (λ z. not (z == u)) (eqb-true n v e)) xs

pub desk_retired : (s : Settings) (b : Book) (u now : ℕ) (q : PartName) (l : DeskLedger) (d : Desk) → DeskStands b l d
    → DeskStands b (step_desk_ledger s l (heard_mark now (real.IsRetired u) q)) (record d { retired = put d.retired u true })
desk_retired s b u now q l d h = record {
  took = λ i j. any_same (λ t. is_ask_of (name i j) t.letter) l.taken _ (d.took i j) refl (h.took i j);
  pending = h.pending;
  single = h.single;
  used = h.used;
  viable = λ v. gone_from u v l.state.viable ∙ (ap (λ z. not (v == u) && z) (h.viable v) ∙ off (v == u) (d.up v) (d.retired v) (d.down v));
  ups = λ v. any_same (λ t. tells_up v t.letter) l.taken _ (d.up v) refl (h.ups v);
  retireds = λ v. any_push (λ t. tells_retired v t.letter) l.taken _ (d.retired v) (h.retireds v) ∙ (ap (λ z. d.retired v || z) (eq_sym u v) ∙ if_or (v == u) (d.retired v));
  downs = λ v. any_same (λ t. tells_down v t.letter) l.taken _ (d.down v) refl (h.downs v);
}
  where
    off : (t x y z : Bool) → (not t && (x && not y && not z)) ≡ (x && not (if t then true else y) && not z)
    off true true y z = refl
    off true false y z = refl
    off false x y z = refl

pub desk_down : (s : Settings) (b : Book) (u now : ℕ) (q : PartName) (l : DeskLedger) (d : Desk) → DeskStands b l d
    → DeskStands b (step_desk_ledger s l (heard_mark now (real.IsDown u) q)) (record d { down = put d.down u true })
desk_down s b u now q l d h = record {
  took = λ i j. any_same (λ t. is_ask_of (name i j) t.letter) l.taken _ (d.took i j) refl (h.took i j);
  pending = h.pending;
  single = h.single;
  used = h.used;
  viable = λ v. gone_from u v l.state.viable ∙ (ap (λ z. not (v == u) && z) (h.viable v) ∙ off (v == u) (d.up v) (d.retired v) (d.down v));
  ups = λ v. any_same (λ t. tells_up v t.letter) l.taken _ (d.up v) refl (h.ups v);
  retireds = λ v. any_same (λ t. tells_retired v t.letter) l.taken _ (d.retired v) refl (h.retireds v);
  downs = λ v. any_push (λ t. tells_down v t.letter) l.taken _ (d.down v) (h.downs v) ∙ (ap (λ z. d.down v || z) (eq_sym u v) ∙ if_or (v == u) (d.down v));
}
  where
    off : (t x y z : Bool) → (not t && (x && not y && not z)) ≡ (x && not y && not (if t then true else z))
    off true true true z = refl
    off true true false z = refl
    off true false y z = refl
    off false x y z = refl
