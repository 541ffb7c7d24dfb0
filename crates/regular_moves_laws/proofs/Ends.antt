-- A regular connection goes down: each of its operations is finished, and then it breaks.
use Rattle.std.proofs.Common.{◌≡◌, ℕ, Bool, true, false, ◌==◌, ◌&&◌, ◌||◌, not, if◌then◌else◌, List, [], ◌∷◌, ◌++◌, refl, ap, ◌∙◌, sym, subst}
use Rattle.std.specs.Prelude.{Option, Some, None, flat_map}
use Rattle.std.specs.List.{list_any, list_all}
use Rattle.lload_names.specs.declared.names.EndWhy.{EndWhy}
use Rattle.lload_names.specs.declared.names.OpName.{OpName}
use Rattle.lload_names.specs.declared.names.Letter.TheVariants as real
use Rattle.lload_names.specs.declared.names.PartName.TheVariants.{Desk, Client}
use Rattle.lload_names.specs.declared.names.Posted.{Posted}
use Rattle.lload_names.specs.declared.names.Refusal.TheVariants.{C4}
use Rattle.lload_names.specs.declared.names.What.TheVariants as what
use Rattle.lload_spec.specs.Settings.{Settings}
use Rattle.lload_spec.specs.Journal.{same_op}
use Rattle.part_spec.specs.Inputs.{to, failed}
use Rattle.part_spec.specs.ConnectionState.{ConnectionState, UpRow, is_bind}
use Rattle.part_spec.specs.ConnectionTurn.{ended, loss, down_letters}
use Rattle.part_spec.specs.Fit.{ConnectionLedger, step_connection_ledger}
use Rattle.move_laws.specs.World.{Conn, put2, vacant}
use Rattle.move_laws.specs.Conns.{finish_row, may_break, break_row}
use Rattle.stands_laws.specs.Books.{Book, name}
use Rattle.stands_laws.specs.Lists.{Each}
use Rattle.stands_laws.specs.ConnectionSides.{ConnSide, ConnMove, Finishing, Breaking, conn_move, conn_moves}
use Rattle.stands_laws.specs.RegularStands.{LinkStands, RegularTaken, RegularStands, is_row_of}
use Rattle.lload_spec.proofs.Growth.{left, right, both}
use Rattle.part_laws.proofs.ListLaws.{not_true, same_op_sym, same_op_refl, or_left}
use Rattle.connection_laws.proofs.Pieces.{marked_up}
use Rattle.connection_laws.proofs.Apart.{is_apart, are_apart}
use Rattle.regular_moves_laws.proofs.Rows.{RowsStand, rows_stand}
use Rattle.regular_moves_laws.proofs.Gives.{gives_finish, gives_down}
use Rattle.regular_moves_laws.proofs.Steps.{stands_down}
use Rattle.stands_laws.proofs.ConnGives.{Gives, gives_more, gives_none, moves_more}

abbrev pub finishings : List UpRow → List ConnMove
finishings [] = []
finishings (r ∷ rows) = Finishing r.op.client r.op.k true false ∷ finishings rows

-- one is finished
pub finish_is : (y : ConnSide) (c k : ℕ) (failed : Bool) → y.row.rows c k ≡ true → (conn_move false y (Finishing c k failed false)).row ≡ record y.row { rows = put2 y.row.rows c k false; answered = put2 y.row.answered c k true }
finish_is y c k failed live = ap (λ (t : Bool). finish_row t false false c k y.row) live

abbrev pub AreLive : (ℕ → ℕ → Bool) → UpRow → Type 0
AreLive live r = live r.op.client r.op.k ≡ true

-- the others are live still
others_live : (live : ℕ → ℕ → Bool) (r : UpRow) (rows : List UpRow) → list_all (is_apart r) rows ≡ true → Each (AreLive live) rows → Each (AreLive (put2 live r.op.client r.op.k false)) rows
others_live live r [] h k = tt
others_live live r (q ∷ rows) h k = (ap (λ (t : Bool). if t then false else live q.op.client q.op.k) (same_op_sym q.op r.op ∙ not_true (same_op r.op q.op) (left (not (same_op r.op q.op)) _ (left (is_apart r q) _ h))) ∙ k.0, others_live live r rows (right (is_apart r q) _ h) k.1)

-- what is left when these are finished
pub record Finished (rows : List UpRow) (y z : ConnSide) : Type 0 where
  pub same : z.row ≡ record y.row { rows = z.row.rows; answered = z.row.answered }
  pub out : (c k : ℕ) → y.row.rows c k ≡ false → z.row.rows c k ≡ false
  pub gone : (c k : ℕ) → list_any (is_row_of (name c k)) rows ≡ true → z.row.rows c k ≡ false

put2_out : (f : ℕ → ℕ → Bool) (a j c k : ℕ) → f c k ≡ false → put2 f a j false c k ≡ false
put2_out f a j c k e = go ((c == a) && (k == j))
  where
    go : (t : Bool) → (if t then false else f c k) ≡ false
    go true = refl
    go false = e

finished : (rows : List UpRow) (y : ConnSide) → Each (AreLive y.row.rows) rows → are_apart rows ≡ true → Finished rows y (conn_moves false y (finishings rows))
finished [] y live apart = record { same = refl; out = λ c k e. e; gone = λ c k e. absurd (let bad : false ≡ true = e in cc) }
finished (r ∷ rows) y live apart =
    let here = finish_is y r.op.client r.op.k true live.0 in
    let next : ConnSide = conn_move false y (Finishing r.op.client r.op.k true false) in
    let rest = finished rows next (subst (λ (x : Conn). Each (AreLive x.rows) rows) (sym here) (others_live y.row.rows r rows (left (list_all (is_apart r) rows) _ apart) live.1)) (right (list_all (is_apart r) rows) _ apart) in
    let z : ConnSide = conn_moves false next (finishings rows) in
    let first : (c k : ℕ) → next.row.rows c k ≡ put2 y.row.rows r.op.client r.op.k false c k = λ c k. ap (λ (x : Conn). x.rows c k) here in
    record {
      same = rest.same ∙ ap (λ (x : Conn). record x { rows = z.row.rows; answered = z.row.answered }) here;
      out = λ c k e. rest.out c k (first c k ∙ put2_out y.row.rows r.op.client r.op.k c k e);
      gone = λ c k e. go c k (same_op (name c k) r.op) refl e (first c k) (rest.out c k) (rest.gone c k);
    }
  where
    go : (c k : ℕ) (t : Bool) → same_op (name c k) r.op ≡ t → (same_op (name c k) r.op || list_any (is_row_of (name c k)) rows) ≡ true → (conn_move false y (Finishing r.op.client r.op.k true false)).row.rows c k ≡ put2 y.row.rows r.op.client r.op.k false c k
        → ((conn_move false y (Finishing r.op.client r.op.k true false)).row.rows c k ≡ false → (conn_moves false (conn_move false y (Finishing r.op.client r.op.k true false)) (finishings rows)).row.rows c k ≡ false)
        → (list_any (is_row_of (name c k)) rows ≡ true → (conn_moves false (conn_move false y (Finishing r.op.client r.op.k true false)) (finishings rows)).row.rows c k ≡ false)
        → (conn_moves false (conn_move false y (Finishing r.op.client r.op.k true false)) (finishings rows)).row.rows c k ≡ false
    go c k true i e first out gone = out (first ∙ ap (λ (t : Bool). if t then false else y.row.rows c k) i)
    go c k false i e first out gone = gone (sym (ap (λ (t : Bool). t || list_any (is_row_of (name c k)) rows) i) ∙ e)

-- what they give
abbrev pub lost_letters : ℕ → UpRow → List Posted
lost_letters n r = to (Client r.op.client) (real.Failed r.op C4) ++ to Desk (real.Ended r.op n None)

gives_finished : (s : Settings) (b : Book) (u n : ℕ) (rows : List UpRow) (y : ConnSide) → n ≡ u → Each (AreLive y.row.rows) rows → are_apart rows ≡ true → Gives s b u (flat_map (lost_letters n) rows) y (conn_moves false y (finishings rows))
gives_finished s b u n [] y number live apart = gives_none s b u y
gives_finished s b u n (r ∷ rows) y number live apart =
    let here = finish_is y r.op.client r.op.k true live.0 in
    let next : ConnSide = conn_move false y (Finishing r.op.client r.op.k true false) in
    gives_more s b u (lost_letters n r) (flat_map (lost_letters n) rows) y next (conn_moves false next (finishings rows))
    (gives_finish s b u r.op.client r.op.k n true (real.Failed r.op C4) None y number live.0 (record { which = C4; is = refl; loss = refl }))
    (gives_finished s b u n rows next number (subst (λ (x : Conn). Each (AreLive x.rows) rows) (sym here) (others_live y.row.rows r rows (left (list_all (is_apart r) rows) _ apart) live.1)) (right (list_all (is_apart r) rows) _ apart))

-- all rows are live
pub all_live : (live : ℕ → ℕ → Bool) (rows : List UpRow) → ((c k : ℕ) → list_any (is_row_of (name c k)) rows ≡ live c k) → Each (AreLive live) rows
all_live live rows ops = go rows (λ c k e. sym (ops c k) ∙ e)
  where
    go : (rs : List UpRow) → ((c k : ℕ) → list_any (is_row_of (name c k)) rs ≡ true → live c k ≡ true) → Each (AreLive live) rs
    go [] f = tt
    go (r ∷ rs) f = (f r.op.client r.op.k (or_left (same_op r.op r.op) _ (same_op_refl r.op)), go rs (λ c k e. f c k (more (same_op (name c k) r.op) e)))
      where
        more : (t : Bool) {o : Bool} → o ≡ true → (t || o) ≡ true
        more true e = refl
        more false e = e

-- The end.
abbrev pub down_moves : List UpRow → List ConnMove
down_moves rows = finishings rows ++ Breaking ∷ []

-- the letters, by what is lost
letters_lost : (p : ConnectionState) → is_bind p ≡ false → p.holder ≡ None → down_letters p ≡ flat_map (lost_letters p.number) p.rows ++ to Desk (real.IsDown p.number)
letters_lost p regular nobody =
    ap (λ (o : Option OpName). flat_map (loss p) p.rows ++ ((elim o [ None ↦ [] | Some h ↦ ended p h None ]) ++ to Desk (real.IsDown p.number))) nobody
    ∙ ap (λ (xs : List Posted). xs ++ to Desk (real.IsDown p.number)) (each p.rows)
  where
    each : (rows : List UpRow) → flat_map (loss p) rows ≡ flat_map (lost_letters p.number) rows
    each [] = refl
    each (r ∷ rows) = ap (λ (t : Bool). (failed r.op C4 ++ (elim t [ true ↦ [] | false ↦ ended p r.op None ])) ++ flat_map (loss p) rows) regular ∙ ap (λ xs. lost_letters p.number r ++ xs) (each rows)

module _ (s : Settings) (b : Book) (u : ℕ) (l : ConnectionLedger) (y : ConnSide) (h : RegularStands s b u l y.row) (there : l.state.down ≡ false) (regular : is_bind l.state ≡ false) where
  rows_are : RowsStand b l.state.ids l.state.rows y.row.rows
  rows_are = rows_stand b l.state y.row (h.stands there)

  live : Each (AreLive y.row.rows) l.state.rows
  live = all_live y.row.rows l.state.rows rows_are.ops

  done : Finished l.state.rows y (conn_moves false y (finishings l.state.rows))
  done = finished l.state.rows y live rows_are.apart

  may : may_break (conn_moves false y (finishings l.state.rows)).row ≡ true
  may = ap may_break done.same ∙ both (not y.row.down) _ (ap not (sym h.link.down ∙ there)) (ap vacant h.now)

  pub down_gives : Gives s b u (down_letters l.state) y (conn_moves false y (down_moves l.state.rows))
  down_gives =
      subst (λ xs. Gives s b u xs y (conn_moves false y (down_moves l.state.rows))) (sym (letters_lost l.state regular h.holder))
      (subst (Gives s b u (flat_map (lost_letters l.state.number) l.state.rows ++ to Desk (real.IsDown l.state.number)) y) (sym (moves_more false y (finishings l.state.rows) (Breaking ∷ [])))
      (gives_more s b u (flat_map (lost_letters l.state.number) l.state.rows) (to Desk (real.IsDown l.state.number)) y (conn_moves false y (finishings l.state.rows)) (conn_move false (conn_moves false y (finishings l.state.rows)) Breaking)
      (gives_finished s b u l.state.number l.state.rows y h.link.number live rows_are.apart)
      (gives_down s b u l.state.number (conn_moves false y (finishings l.state.rows)) h.link.number may)))

  pub down_row : (conn_moves false y (down_moves l.state.rows)).row ≡ record y.row { rows = (conn_moves false y (finishings l.state.rows)).row.rows; answered = (conn_moves false y (finishings l.state.rows)).row.answered; down = true }
  down_row = ap (λ (z : ConnSide). z.row) (moves_more false y (finishings l.state.rows) (Breaking ∷ [])) ∙ (ap (λ (t : Bool). break_row t false (conn_moves false y (finishings l.state.rows)).row) may ∙ ap (λ (x : Conn). record x { down = true }) done.same)

  none_left : (c k : ℕ) → (conn_moves false y (finishings l.state.rows)).row.rows c k ≡ false
  none_left c k = go (list_any (is_row_of (name c k)) l.state.rows) refl
    where
      go : (t : Bool) → list_any (is_row_of (name c k)) l.state.rows ≡ t → (conn_moves false y (finishings l.state.rows)).row.rows c k ≡ false
      go true e = done.gone c k e
      go false e = done.out c k (sym (rows_are.ops c k) ∙ e)

  -- behind a ledger of the same letters
  pub down_stands : (n at : ℕ) (why : EndWhy) (m : ConnectionLedger) → LinkStands s u m.state y.row → RegularTaken m.taken y.row → m.state.linked ≡ true → RegularStands s b u (step_connection_ledger s m (marked_up n at None (what.Down why))) (conn_moves false y (down_moves l.state.rows)).row
  down_stands n at why m link taken linked =
      subst (RegularStands s b u (step_connection_ledger s m (marked_up n at None (what.Down why)))) (sym down_row)
      (stands_down s b u n at why m y.row (record y.row { rows = (conn_moves false y (finishings l.state.rows)).row.rows; answered = (conn_moves false y (finishings l.state.rows)).row.answered; down = true }) link taken linked refl refl refl refl refl refl h.nobody h.now none_left)

-- no order is taken
finishings_wait : (rows : List UpRow) (y : ConnSide) → (conn_moves false y (finishings rows)).orders ≡ y.orders
finishings_wait [] y = refl
finishings_wait (r ∷ rows) y = finishings_wait rows (conn_move false y (Finishing r.op.client r.op.k true false))

pub down_waits : (rows : List UpRow) (y : ConnSide) → (conn_moves false y (down_moves rows)).orders ≡ y.orders
down_waits rows y = ap (λ (z : ConnSide). z.orders) (moves_more false y (finishings rows) (Breaking ∷ [])) ∙ finishings_wait rows y
