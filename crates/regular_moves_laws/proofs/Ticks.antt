-- A clock step of a regular connection: each due operation is finished, one behind the other, or the connection goes down.
use Rattle.std.proofs.Common.{◌≡◌, ℕ, suc, Bool, true, false, ◌==◌, ◌||◌, not, List, [], ◌∷◌, ◌++◌, refl, ap, arith, ◌∙◌, sym, subst, append-nil}
use Rattle.std.specs.Prelude.{Some, None, find, filter, max, is_some}
use Rattle.std.specs.List.{list_all}
use Rattle.ldap_spec.specs.Bodies.{abandon}
use Rattle.lload_names.specs.declared.names.Letter.TheVariants as real
use Rattle.lload_names.specs.declared.names.EndWhy.TheVariants.{TimedOut}
use Rattle.lload_names.specs.declared.names.PartName.TheVariants.{Desk, Up as Connection}
use Rattle.lload_names.specs.declared.names.Refusal.TheVariants.{C5}
use Rattle.lload_names.specs.declared.names.What.{What}
use Rattle.lload_names.specs.declared.names.What.TheVariants as what
use Rattle.lload_spec.specs.CausedUp.{is_past}
use Rattle.lload_spec.specs.Journal.{same_op}
use Rattle.lload_spec.specs.Settings.{Settings}
use Rattle.part_spec.specs.Inputs.{Act, act, also, entries_of, to, failed}
use Rattle.part_spec.specs.ConnectionState.{ConnectionState, UpRow, OwnWait, is_bind}
use Rattle.part_spec.specs.ConnectionTurn.{goes_down, is_due, giving, retires, ended, where_so}
use Rattle.part_spec.specs.RegularTurn.{expires, expire, ticks, is_own_due}
use Rattle.part_spec.specs.Fit.{ConnectionLedger, step_connection_ledger, ledger_behind as behind}
use Rattle.part_spec.specs.Marked.{Marked}
use Rattle.move_laws.specs.World.{Conn, ToConn, put2}
use Rattle.stands_laws.specs.Books.{Book}
use Rattle.stands_laws.specs.Lists.{Each}
use Rattle.stands_laws.specs.ConnectionSides.{ConnSide, ConnMove, Finishing, conn_move, conn_moves}
use Rattle.stands_laws.specs.RegularStands.{RowIs, RegularStands}
use Rattle.lload_spec.proofs.Growth.{left, right}
use Rattle.part_laws.proofs.ListLaws.{same_number, eqb_sym}
use Rattle.connection_laws.proofs.Apart.{is_apart, are_apart, apart_filter}
use Rattle.connection_laws.proofs.Pieces.{marked_up}
use Rattle.connection_laws.proofs.Makes.{tail_none}
use Rattle.connection_laws.proofs.RegularTicks.{NamedDue, all_due_named, named_left, other_ids, unmarked, unmarked_more}
use Rattle.regular_moves_laws.proofs.Rows.{RowsStand, rows_stand, regular_rows, rows_without, each_found, each_filter, filter_all}
use Rattle.regular_moves_laws.proofs.Gives.{gives_finish}
use Rattle.regular_moves_laws.proofs.Ends.{AreLive, all_live, finish_is, down_moves, down_gives, down_stands, down_waits}
use Rattle.regular_moves_laws.proofs.Sends.{own_rows, stands_abandon}
use Rattle.regular_moves_laws.proofs.Orders.{GivesId, giving_rule}
use Rattle.regular_moves_laws.proofs.Turns.{Rule, passes_some}
use Rattle.stands_laws.proofs.ConnGives.{Gives, gives_more, gives_none, moves_more}

pub behind_more : {A : Type 0} (step : A → Marked → A) (l : A) (ms ns : List Marked) → behind step l (ms ++ ns) ≡ behind step (behind step l ms) ns
behind_more step l [] ns = refl
behind_more step l (m ∷ ms) ns = behind_more step (step l m) ms ns

-- an operation expires
pub stands_expired : (s : Settings) (b : Book) (u n at : ℕ) (r : UpRow) (l : ConnectionLedger) (v w : Conn) → RegularStands s b u l v → l.state.down ≡ false → w ≡ record v { rows = put2 v.rows r.op.client r.op.k false; answered = w.answered }
    → RegularStands s b u (step_connection_ledger s l (marked_up n at None (what.Expired r.op))) w
stands_expired s b u n at r l v w h there e = record {
  link = record { number = h.link.number; kind = h.link.kind; up = h.link.up ∙ ap (λ (x : Conn). x.up) (sym e); retired = h.link.retired ∙ ap (λ (x : Conn). x.retired) (sym e); down = h.link.down ∙ ap (λ (x : Conn). x.down) (sym e); placed = h.link.placed; fresh = h.link.fresh; limit = h.link.limit; first = h.link.first; began = h.link.began };
  taken = record {
    forwards = λ c k. h.taken.forwards c k ∙ ap (λ (x : Conn). x.taken c k) (sym e);
    drops = λ c k p q. h.taken.drops c k (ap (λ (x : Conn). x.taken c k) (sym e) ∙ p) (ap (λ (x : Conn). x.dropped c k) (sym e) ∙ q);
    pauses = λ c. h.taken.pauses c ∙ ap (λ (x : Conn). x.paused c) (sym e);
  };
  holder = h.holder;
  nobody = ap (λ (x : Conn). x.holder) e ∙ h.nobody;
  now = ap (λ (x : Conn). x.now) e ∙ h.now;
  stands = λ d. let q = h.stands d in regular_rows b _ w (subst (λ (f : ℕ → ℕ → Bool). RowsStand b l.state.ids (filter (λ x. not (same_op r.op x.op)) l.state.rows) f) (ap (λ (x : Conn). x.rows) (sym e)) (rows_without b l.state.ids l.state.rows v.rows (λ x. not (same_op r.op x.op)) r (rows_stand b l.state v q) (all_same l.state.rows))) q.begun q.waits (λ z. ap (filter (λ x. not (same_op r.op x.op))) (q.unused z));
  fallen = λ d. absurd (let bad : true ≡ false = sym d ∙ there in cc);
}
  where
    all_same : (rs : List UpRow) → Each (λ x. not (same_op r.op x.op) ≡ not (same_op r.op x.op)) rs
    all_same [] = tt
    all_same (x ∷ rs) = (refl, all_same rs)

-- some moves make what several rules make without a letter
pub record Ticked (s : Settings) (b : Book) (u n at : ℕ) (l : ConnectionLedger) (a : Act) (y : ConnSide) : Type 0 where
  pub made : List ConnMove
  pub stands : RegularStands s b u (behind (step_connection_ledger s) l (unmarked n at a.whats)) (conn_moves false y made).row
  pub gives : Gives s b u a.letters y (conn_moves false y made)
  pub waits : (c : ℕ) → (conn_moves false y made).orders c ≡ y.orders c

pub ticked_rule : (s : Settings) (b : Book) (u at : ℕ) (l : ConnectionLedger) (a : Act) (y : ConnSide) → Ticked s b u l.state.number at l a y → Rule s b u at None l a y y.orders
ticked_rule s b u at l a y h = record {
  made = h.made;
  stands = subst (λ ms. RegularStands s b u (behind (step_connection_ledger s) l ms) (conn_moves false y h.made).row) (tail_none (entries_of (Connection l.state.number) at a.whats)) h.stands;
  gives = h.gives;
  waits = h.waits;
}

ticked_more : (s : Settings) (b : Book) (u n at : ℕ) (l : ConnectionLedger) (e f : Act) (y : ConnSide) (h : Ticked s b u n at l e y) → Ticked s b u n at (behind (step_connection_ledger s) l (unmarked n at e.whats)) f (conn_moves false y h.made) → Ticked s b u n at l (also e f) y
ticked_more s b u n at l e f y h k = record {
  made = h.made ++ k.made;
  stands = subst (λ (x : ConnSide). RegularStands s b u (behind (step_connection_ledger s) l (unmarked n at (e.whats ++ f.whats))) x.row) (sym (moves_more false y h.made k.made))
      (subst (λ (x : ConnectionLedger). RegularStands s b u x (conn_moves false (conn_moves false y h.made) k.made).row) (sym (ap (behind (step_connection_ledger s) l) (unmarked_more n at e.whats f.whats) ∙ behind_more (step_connection_ledger s) l (unmarked n at e.whats) (unmarked n at f.whats))) k.stands);
  gives = subst (Gives s b u (e.letters ++ f.letters) y) (sym (moves_more false y h.made k.made)) (gives_more s b u e.letters f.letters y (conn_moves false y h.made) (conn_moves false (conn_moves false y h.made) k.made) h.gives k.gives);
  waits = λ c. ap (λ (x : ConnSide). x.orders c) (moves_more false y h.made k.made) ∙ (k.waits c ∙ h.waits c);
}

-- one due operation
module _ (s : Settings) (b : Book) (u at : ℕ) (p : ConnectionState) (number : p.number ≡ u) (l : ConnectionLedger) (here : p.number ≡ l.state.number) (y : ConnSide) (h : RegularStands s b u l y.row) (linked : l.state.linked ≡ true) (there : l.state.down ≡ false) (r : UpRow) (found : find (λ q. same_op r.op q.op) l.state.rows ≡ Some r) where
  rows_are : RowsStand b l.state.ids l.state.rows y.row.rows
  rows_are = rows_stand b l.state y.row (h.stands there)

  live : y.row.rows r.op.client r.op.k ≡ true
  live = each_found (AreLive y.row.rows) (λ q. same_op r.op q.op) l.state.rows r found (all_live y.row.rows l.state.rows rows_are.ops)

  abbrev next : ConnectionLedger
  next = step_connection_ledger s l (marked_up l.state.number at None (what.Expired r.op))

  -- the others have other identifiers
  rows_left : filter (λ q. not (q.id == r.id)) (filter (λ q. not (same_op r.op q.op)) l.state.rows) ≡ filter (λ q. not (same_op r.op q.op)) l.state.rows
  rows_left = filter_all (λ q. not (q.id == r.id)) (filter (λ q. not (same_op r.op q.op)) l.state.rows) (each (filter (λ q. not (same_op r.op q.op)) l.state.rows) (other_ids r l.state.rows rows_are.apart found))
    where
      each : (rs : List UpRow) → list_all (λ q. not (r.id == q.id)) rs ≡ true → Each (λ q. not (q.id == r.id) ≡ true) rs
      each [] e = tt
      each (q ∷ rs) e = (ap not (eqb_sym q.id r.id) ∙ left (not (r.id == q.id)) _ e, each rs (right (not (r.id == q.id)) _ e))

  first_stands : RegularStands s b u (step_connection_ledger s l (marked_up l.state.number at None (what.Expired r.op))) (conn_move false y (Finishing r.op.client r.op.k true false)).row
  first_stands = stands_expired s b u l.state.number at r l y.row (conn_move false y (Finishing r.op.client r.op.k true false)).row h there (finish_is y r.op.client r.op.k true live ∙ ap (λ (x : ℕ → ℕ → Bool). record y.row { rows = put2 y.row.rows r.op.client r.op.k false; answered = x }) (ap (λ (x : Conn). x.answered) (sym (finish_is y r.op.client r.op.k true live))))

  second_stands : RegularStands s b u (step_connection_ledger s next (marked_up l.state.number at None (what.Own l.state.ids.next (abandon r.id)))) (conn_move false y (Finishing r.op.client r.op.k true false)).row
  second_stands =
      let w : Conn = (conn_move false y (Finishing r.op.client r.op.k true false)).row in
      stands_abandon s b u l.state.number at r.id None next w w first_stands there
      (subst (λ rs. RowsStand b l.state.ids rs w.rows) (sym rows_left) (rows_stand b next.state w (first_stands.stands there)))
      (record { forwards = first_stands.taken.forwards; drops = first_stands.taken.drops; pauses = first_stands.taken.pauses })
      refl refl refl first_stands.nobody first_stands.now

  expired_gives : Gives s b u (failed r.op C5 ++ ended p r.op None) y (conn_move false y (Finishing r.op.client r.op.k true false))
  expired_gives = gives_finish s b u r.op.client r.op.k p.number true (real.Failed r.op C5) None y number live (record { which = C5; is = refl; loss = refl })

  -- the ledger behind it, by whether its identifier is the limit
  abbrev pub expired_whats : Bool → List What
  expired_whats t = what.Expired r.op ∷ (elim t [ true ↦ what.Own l.state.ids.next (abandon r.id) ∷ what.Retired ∷ [] | false ↦ what.Own l.state.ids.next (abandon r.id) ∷ [] ])

  abbrev pub expired_ledger : Bool → ConnectionLedger
  expired_ledger t = behind (step_connection_ledger s) l (unmarked l.state.number at (expired_whats t))

  still : (t : Bool) → l.state.ids.next ≡ s.id_limit → l.state.retired ≡ t → l.state.retired ≡ false
  still true e f = let m = h.link.limit f in absurd (omega arith)
  still false e f = f

  gives_id : GivesId s b u at l.state.ids.next (what.Own l.state.ids.next (abandon r.id)) None next (failed r.op C5 ++ ended p r.op None) y y.orders (Finishing r.op.client r.op.k true false ∷ [])
  gives_id = record {
    stands = second_stands;
    gives = expired_gives;
    waits = λ c. refl;
    going = λ i. (λ j. (sym first_stands.link.retired ∙ still l.state.retired (same_number l.state.ids.next s.id_limit i) refl) j || (sym first_stands.link.down ∙ there) j);
    linked = linked;
    given = λ i. let e = same_number l.state.ids.next s.id_limit i in omega arith;
  }

  ruled : Rule s b u at None next (act (giving s l.state.ids.next (what.Own l.state.ids.next (abandon r.id))) ((failed r.op C5 ++ ended p r.op None) ++ retires s next.state l.state.ids.next)) y y.orders
  ruled = giving_rule s b u at l.state.ids.next (what.Own l.state.ids.next (abandon r.id)) None next (failed r.op C5 ++ ended p r.op None) y y.orders (Finishing r.op.client r.op.k true false ∷ []) h.link.number gives_id

  pub expires_ticked : Ticked s b u l.state.number at l (expires s p l.state.ids.next r) y
  expires_ticked = record {
    made = ruled.made;
    stands = subst (λ ms. RegularStands s b u (behind (step_connection_ledger s) next ms) (conn_moves false y ruled.made).row) (sym (tail_none (entries_of (Connection l.state.number) at (giving s l.state.ids.next (what.Own l.state.ids.next (abandon r.id)))))) ruled.stands;
    gives = subst (λ (m : ℕ). Gives s b u (failed r.op C5 ++ (ended p r.op None ++ (elim (l.state.ids.next == s.id_limit) [ true ↦ to Desk (real.IsRetired m) | false ↦ [] ]))) y (conn_moves false y ruled.made)) (sym here) ruled.gives;
    waits = ruled.waits;
  }

  pub expired_number : (t : Bool) → (expired_ledger t).state.number ≡ l.state.number
  expired_number true = refl
  expired_number false = refl

  pub expired_linked : (t : Bool) → (expired_ledger t).state.linked ≡ true
  expired_linked true = linked
  expired_linked false = linked

  pub expired_there : (t : Bool) → (expired_ledger t).state.down ≡ false
  expired_there true = there
  expired_there false = there

  pub expired_next : (t : Bool) → (expired_ledger t).state.ids.next ≡ suc l.state.ids.next
  expired_next true = let e : max l.state.ids.next (suc l.state.ids.next) ≡ suc l.state.ids.next = omega arith in e
  expired_next false = let e : max l.state.ids.next (suc l.state.ids.next) ≡ suc l.state.ids.next = omega arith in e

  pub expired_rows : (t : Bool) → (expired_ledger t).state.rows ≡ filter (λ q. not (same_op r.op q.op)) l.state.rows
  expired_rows true = own_rows b l.state.ids.next l.state.ids.next r.id (filter (λ q. not (same_op r.op q.op)) l.state.rows) (each_filter (RowIs b l.state.ids.next) (λ q. not (same_op r.op q.op)) l.state.rows rows_are.each) ∙ rows_left
  expired_rows false = own_rows b l.state.ids.next l.state.ids.next r.id (filter (λ q. not (same_op r.op q.op)) l.state.rows) (each_filter (RowIs b l.state.ids.next) (λ q. not (same_op r.op q.op)) l.state.rows rows_are.each) ∙ rows_left

-- all due operations
all_expire : (s : Settings) (b : Book) (u n at : ℕ) (p : ConnectionState) (rs : List UpRow) (l : ConnectionLedger) (y : ConnSide) → p.number ≡ n → l.state.number ≡ n → RegularStands s b u l y.row → l.state.linked ≡ true → l.state.down ≡ false → NamedDue s at l.state.rows rs → are_apart rs ≡ true → Ticked s b u n at l (expire s p l.state.ids.next rs) y
all_expire s b u n at p [] l y pn ln h linked there named apart = record { made = []; stands = h; gives = gives_none s b u y; waits = λ c. refl }
all_expire s b u n at p (r ∷ rs) l y pn ln h linked there named apart =
    let here : p.number ≡ l.state.number = pn ∙ sym ln in
    let number : p.number ≡ u = here ∙ h.link.number in
    let limit : Bool = l.state.ids.next == s.id_limit in
    let one : Ticked s b u n at l (expires s p l.state.ids.next r) y = subst (λ m. Ticked s b u m at l (expires s p l.state.ids.next r) y) ln (expires_ticked s b u at p number l here y h linked there r named.0) in
    let next : ConnectionLedger = behind (step_connection_ledger s) l (unmarked n at (expires s p l.state.ids.next r).whats) in
    let is : expired_ledger s b u at p number l here y h linked there r named.0 limit ≡ next = ap (λ m. behind (step_connection_ledger s) l (unmarked m at (expires s p l.state.ids.next r).whats)) ln in
    let rows : next.state.rows ≡ filter (λ q. not (same_op r.op q.op)) l.state.rows = ap (λ (x : ConnectionLedger). x.state.rows) (sym is) ∙ expired_rows s b u at p number l here y h linked there r named.0 limit in
    let later : next.state.ids.next ≡ suc l.state.ids.next = ap (λ (x : ConnectionLedger). x.state.ids.next) (sym is) ∙ expired_next s b u at p number l here y h linked there r named.0 limit in
    ticked_more s b u n at l (expires s p l.state.ids.next r) (expire s p (suc l.state.ids.next) rs) y one
    (subst (λ i. Ticked s b u n at next (expire s p i rs) (conn_moves false y one.made)) later
    (all_expire s b u n at p rs next (conn_moves false y one.made) pn (ap (λ (x : ConnectionLedger). x.state.number) (sym is) ∙ (expired_number s b u at p number l here y h linked there r named.0 limit ∙ ln)) one.stands
    (ap (λ (x : ConnectionLedger). x.state.linked) (sym is) ∙ expired_linked s b u at p number l here y h linked there r named.0 limit)
    (ap (λ (x : ConnectionLedger). x.state.down) (sym is) ∙ expired_there s b u at p number l here y h linked there r named.0 limit)
    (subst (λ qs. NamedDue s at qs rs) (sym rows) (named_left s at r l.state.rows rs (left (list_all (is_apart r) rs) _ apart) named.2))
    (right (list_all (is_apart r) rs) _ apart)))

-- A clock step.
pub tick_rule : (s : Settings) (b : Book) (u at : ℕ) (l : ConnectionLedger) (y : ConnSide) → RegularStands s b u l y.row → l.state.linked ≡ true → l.state.down ≡ false → is_bind l.state ≡ false → Rule s b u at None l (ticks s l.state at) y y.orders
tick_rule s b u at l y h linked there regular = go (is_own_due s l.state at) refl
  where
    go : (t : Bool) → is_own_due s l.state at ≡ t → Rule s b u at None l (also (expire s l.state l.state.ids.next (filter (is_due s at) l.state.rows)) (where_so t (goes_down l.state TimedOut))) y y.orders
    go true e =
        let waits : is_some l.state.own_bind ≡ true = passes_some (λ (own : OwnWait). is_past s.timeout own.at at) l.state.own_bind e in
        let none : l.state.rows ≡ [] = (h.stands there).unused ((h.stands there).waits waits) in
        subst (λ rs. Rule s b u at None l (also (expire s l.state l.state.ids.next (filter (is_due s at) rs)) (goes_down l.state TimedOut)) y y.orders) (sym none) (record {
          made = down_moves l.state.rows;
          stands = down_stands s b u l y h there regular l.state.number at TimedOut l h.link h.taken linked;
          gives = down_gives s b u l y h there regular;
          waits = λ c. ap (λ (f : ℕ → List ToConn). f c) (down_waits l.state.rows y);
        })
    go false e =
        let apart : are_apart l.state.rows ≡ true = (rows_stand b l.state y.row (h.stands there)).apart in
        let a : Act = expire s l.state l.state.ids.next (filter (is_due s at) l.state.rows) in
        subst (λ (x : Act). Rule s b u at None l x y y.orders) (λ i. record { whats = (sym (append-nil a.whats)) i; letters = (sym (append-nil a.letters)) i })
        (ticked_rule s b u at l a y (all_expire s b u l.state.number at l.state (filter (is_due s at) l.state.rows) l y refl refl h linked there (all_due_named s at l.state.rows apart) (apart_filter (is_due s at) l.state.rows apart)))
