-- A bind connection comes up, retires, and goes down: its live Bind is lost, and its holder ends.
use Rattle.std.proofs.Common.{◌≡◌, ℕ, ◌<◌, Bool, true, false, ◌==◌, ◌&&◌, ◌||◌, not, if◌then◌else◌, List, [], ◌∷◌, ◌++◌, length, refl, ap, ◌∙◌, sym, subst}
use Rattle.std.specs.Prelude.{Option, Some, None, flat_map, is_none, is_some}
use Rattle.lload_names.specs.declared.names.ConnKind.{ConnKind}
use Rattle.lload_names.specs.declared.names.ConnKind.TheVariants.{Bind as BindKind}
use Rattle.lload_names.specs.declared.names.EndWhy.{EndWhy}
use Rattle.lload_names.specs.declared.names.EndWhy.TheVariants.{Drained}
use Rattle.lload_names.specs.declared.names.Letter.TheVariants as real
use Rattle.lload_names.specs.declared.names.OpName.{OpName}
use Rattle.lload_names.specs.declared.names.PartName.TheVariants.{Desk}
use Rattle.lload_names.specs.declared.names.Posted.{Posted}
use Rattle.lload_names.specs.declared.names.Refusal.TheVariants.{C4}
use Rattle.lload_names.specs.declared.names.What.{What}
use Rattle.lload_names.specs.declared.names.What.TheVariants as what
use Rattle.lload_spec.specs.Settings.{Settings, is_kind, place_at}
use Rattle.part_spec.specs.Inputs.{act, failed, to}
use Rattle.part_spec.specs.ConnectionState.{ConnectionState, UpRow}
use Rattle.part_spec.specs.ConnectionTurn.{down_letters, ended, giving, goes_down, holder_ended, is_drained, loss, retires}
use Rattle.part_spec.specs.BindTurn.{link_up}
use Rattle.part_spec.specs.Fit.{ConnectionLedger, step_connection_ledger}
use Rattle.part_spec.specs.Marked.{Taken}
use Rattle.move_laws.specs.World.{Op, Conn, ToConn, is, put2, vacant}
use Rattle.move_laws.specs.Conns.{break_row, finish_row, may_break, may_come_up, retire_row, stopped, up_row}
use Rattle.stands_laws.specs.Books.{Book, name}
use Rattle.stands_laws.specs.ConnectionSides.{ConnSide, ConnMove, Finishing, Rising, Retiring, Breaking, conn_move, conn_moves}
use Rattle.stands_laws.specs.BindStands.{BindRows, BindStands, name_of}
use Rattle.stands_laws.proofs.Tests.{same_self}
use Rattle.lload_spec.proofs.Growth.{left, right, both}
use Rattle.part_laws.proofs.ListLaws.{not_true}
use Rattle.connection_laws.proofs.Pieces.{marked_up}
use Rattle.connection_laws.proofs.Through.{no_rows}
use Rattle.stands_laws.proofs.ConnGives.{Gives, gives_more}
use Rattle.bind_moves_laws.proofs.Gives.{gives_down, gives_finish, gives_retired, gives_up, held_letters}
use Rattle.bind_moves_laws.proofs.Rules.{Rule, rule_also}
use Rattle.bind_moves_laws.proofs.Steps.{linked_by, stands_down, stands_linked, stands_retired}

-- the letters of the end, by what is live and who holds
abbrev pub lost_letters : Option Op → List Posted
lost_letters None = []
lost_letters (Some o) = failed (name o.client o.k) C4

abbrev pub end_letters : ℕ → Option Op → Option Op → List Posted
end_letters n now holder = lost_letters now ++ (held_letters n holder ++ to Desk (real.IsDown n))

pub holder_is : (p : ConnectionState) (o : Option Op) → p.holder ≡ name_of o → holder_ended p ≡ held_letters p.number o
holder_is p None e = ap (λ (z : Option OpName). elim z [ None ↦ [] | Some h ↦ ended p h None ]) e
holder_is p (Some o) e = ap (λ (z : Option OpName). elim z [ None ↦ [] | Some h ↦ ended p h None ]) e

bind_loss : (p : ConnectionState) (r : UpRow) → p.kind ≡ BindKind → loss p r ≡ failed r.op C4
bind_loss p r e = ap (λ (k : ConnKind). failed r.op C4 ++ (elim (is_kind BindKind k) [ true ↦ [] | false ↦ ended p r.op None ])) e

lost_rows : (s : Settings) (b : Book) (p : ConnectionState) (rows : List UpRow) (o : Option Op) → p.kind ≡ BindKind → BindRows s b rows o → flat_map (loss p) rows ≡ lost_letters o
lost_rows s b p [] None e h = refl
lost_rows s b p [] (Some o) e h = absurd h
lost_rows s b p (r ∷ rows) None e h = absurd h
lost_rows s b p (r ∷ rows) (Some o) e h = ap (λ (z : List UpRow). loss p r ++ flat_map (loss p) z) h.1 ∙ (ap (λ (z : List Posted). z ++ []) (bind_loss p r e) ∙ ap (λ (n : OpName). failed n C4 ++ []) h.0.op)

pub letters_down : (s : Settings) (b : Book) (u : ℕ) (l : ConnectionLedger) (v : Conn) → BindStands s b u l v → down_letters l.state ≡ end_letters l.state.number v.now v.holder
letters_down s b u l v h = λ i. lost_rows s b l.state l.state.rows v.now h.kind h.rows i ++ (holder_is l.state v.holder h.holder i ++ to Desk (real.IsDown l.state.number))

-- the live Bind stands there
pub live_there : (s : Settings) (b : Book) (u : ℕ) (l : ConnectionLedger) (v : Conn) (o : Op) → BindStands s b u l v → v.now ≡ Some o → v.rows o.client o.k ≡ true
live_there s b u l v o h e = h.live o.client o.k ∙ (ap (λ z. is z o.client o.k) e ∙ both (o.client == o.client) (o.k == o.k) (same_self o.client) (same_self o.k))

-- and nothing behind its end
pub none_live : (s : Settings) (b : Book) (u : ℕ) (l : ConnectionLedger) (v : Conn) (o : Op) → BindStands s b u l v → v.now ≡ Some o → (c k : ℕ) → put2 v.rows o.client o.k false c k ≡ false
none_live s b u l v o h e c k = go ((c == o.client) && (k == o.k)) refl
  where
    go : (t : Bool) → ((c == o.client) && (k == o.k)) ≡ t → (if t then false else v.rows c k) ≡ false
    go true w = refl
    go false w = h.live c k ∙ (ap (λ z. is z c k) e ∙ w)

-- It goes down.
abbrev pub down_moves : Option Op → List ConnMove
down_moves None = Breaking ∷ []
down_moves (Some o) = Finishing o.client o.k true true ∷ Breaking ∷ []

module _ (s : Settings) (b : Book) (u moment : ℕ) (why : EndWhy) (l : ConnectionLedger) (y : ConnSide) (h : BindStands s b u l y.row) (linked : l.state.linked ≡ true) (there : l.state.down ≡ false) where
  standing : y.row.down ≡ false
  standing = sym h.link.down ∙ there

  -- with nothing live
  idle_down : y.row.now ≡ None → Rule s b u moment None l (act (what.Down why ∷ []) (end_letters l.state.number None y.row.holder)) y y.orders
  idle_down e = record {
    made = Breaking ∷ [];
    stands = subst (BindStands s b u (step_connection_ledger s l (marked_up l.state.number moment None (what.Down why)))) (sym (ap (λ (t : Bool). break_row t true y.row) may))
        (stands_down s b u l.state.number moment why l y.row (break_row true true y.row) h linked refl refl refl refl refl e (record { forwards = h.taken.forwards; leaves = h.taken.leaves }) (λ c k. h.live c k ∙ ap (λ o. is o c k) e));
    gives = gives_down s b u l.state.number y h.link.number may;
    waits = λ c. refl;
  }
    where
      may : may_break y.row ≡ true
      may = λ i. not (standing i) && vacant (e i)

  -- with a live Bind, which is lost
  busy_down : (o : Op) → y.row.now ≡ Some o → Rule s b u moment None l (act (what.Down why ∷ []) (end_letters l.state.number (Some o) y.row.holder)) y y.orders
  busy_down o e = record {
    made = Finishing o.client o.k true true ∷ Breaking ∷ [];
    stands = subst (BindStands s b u (step_connection_ledger s l (marked_up l.state.number moment None (what.Down why)))) (sym broken)
        (stands_down s b u l.state.number moment why l y.row (break_row true true (finish_row true true true o.client o.k y.row)) h linked refl refl refl refl refl refl (record { forwards = h.taken.forwards; leaves = h.taken.leaves }) (none_live s b u l y.row o h e));
    gives = gives_more s b u (lost_letters (Some o)) (held_letters l.state.number y.row.holder ++ to Desk (real.IsDown l.state.number)) y one (conn_move true one Breaking)
        (gives_finish s b u o.client o.k l.state.number true true (real.Failed (name o.client o.k) C4) y h.link.number (live_there s b u l y.row o h e) (record { which = C4; is = refl; loss = refl }))
        (subst (λ (g : Option Op). Gives s b u (held_letters l.state.number g ++ to Desk (real.IsDown l.state.number)) one (conn_move true one Breaking)) (ap (λ (x : Conn). x.holder) finished)
        (gives_down s b u l.state.number one h.link.number (ap may_break finished ∙ may)));
    waits = λ c. refl;
  }
    where
      one : ConnSide
      one = conn_move true y (Finishing o.client o.k true true)

      finished : (conn_move true y (Finishing o.client o.k true true)).row ≡ finish_row true true true o.client o.k y.row
      finished = ap (λ (t : Bool). finish_row t true true o.client o.k y.row) (live_there s b u l y.row o h e)

      may : may_break (finish_row true true true o.client o.k y.row) ≡ true
      may = ap (λ (t : Bool). not t && true) standing

      broken : (conn_moves true y (Finishing o.client o.k true true ∷ Breaking ∷ [])).row ≡ break_row true true (finish_row true true true o.client o.k y.row)
      broken = ap (λ (x : Conn). break_row (may_break x) true x) finished ∙ ap (λ (t : Bool). break_row t true (finish_row true true true o.client o.k y.row)) may

  pub rule_ends : Rule s b u moment None l (act (what.Down why ∷ []) (end_letters l.state.number y.row.now y.row.holder)) y y.orders
  rule_ends = by y.row.now refl
    where
      by : (o : Option Op) → y.row.now ≡ o → Rule s b u moment None l (act (what.Down why ∷ []) (end_letters l.state.number y.row.now y.row.holder)) y y.orders
      by None e = subst (λ (o : Option Op). Rule s b u moment None l (act (what.Down why ∷ []) (end_letters l.state.number o y.row.holder)) y y.orders) (sym e) (idle_down e)
      by (Some o) e = subst (λ (g : Option Op). Rule s b u moment None l (act (what.Down why ∷ []) (end_letters l.state.number g y.row.holder)) y y.orders) (sym e) (busy_down o e)

  pub rule_down : Rule s b u moment None l (goes_down l.state why) y y.orders
  rule_down = subst (λ (xs : List Posted). Rule s b u moment None l (act (what.Down why ∷ []) xs) y y.orders) (sym (letters_down s b u l y.row h)) rule_ends

-- where nothing is left to do
nobody : (o : Option OpName) → is_none o ≡ true → o ≡ None
nobody None e = refl
nobody (Some x) e = absurd (let bad : false ≡ true = e in cc)

pub rule_drains : (s : Settings) (b : Book) (u moment n : ℕ) (l : ConnectionLedger) (y : ConnSide) → BindStands s b u l y.row → is_drained l.state ≡ true → l.state.number ≡ n → Rule s b u moment None l (act (what.Down Drained ∷ []) (to Desk (real.IsDown n))) y y.orders
rule_drains s b u moment n l y h e number = subst (λ (xs : List Posted). Rule s b u moment None l (act (what.Down Drained ∷ []) xs) y y.orders) letters (rule_down s b u moment Drained l y h linked there)
  where
    three : (l.state.retired && not l.state.down && length l.state.rows == 0) ≡ true
    three = left (l.state.retired && not l.state.down && length l.state.rows == 0) (is_none l.state.holder) e

    two : (l.state.retired && not l.state.down) ≡ true
    two = left (l.state.retired && not l.state.down) (length l.state.rows == 0) three

    there : l.state.down ≡ false
    there = not_true l.state.down (right l.state.retired (not l.state.down) two)

    linked : l.state.linked ≡ true
    linked = linked_by s u l.state y.row h.link (ap (λ (t : Bool). l.state.up || (t || l.state.down)) (left l.state.retired (not l.state.down) two) ∙ any l.state.up)
      where
        any : (t : Bool) → (t || true) ≡ true
        any true = refl
        any false = refl

    rows : l.state.rows ≡ []
    rows = no_rows l.state.rows (right (l.state.retired && not l.state.down) (length l.state.rows == 0) three)

    free : l.state.holder ≡ None
    free = nobody l.state.holder (right (l.state.retired && not l.state.down && length l.state.rows == 0) (is_none l.state.holder) e)

    letters : down_letters l.state ≡ to Desk (real.IsDown n)
    letters = λ i. flat_map (loss l.state) (rows i) ++ ((elim (free i) [ None ↦ [] | Some o ↦ ended l.state o None ]) ++ to Desk (real.IsDown (number i)))

-- It retires.
pub rule_retired : (s : Settings) (b : Book) (u moment n : ℕ) (l : ConnectionLedger) (y : ConnSide) → BindStands s b u l y.row → l.state.number ≡ n → l.state.linked ≡ true → l.state.retired ≡ false → l.state.down ≡ false → s.id_limit < l.state.ids.next
    → Rule s b u moment None l (act (what.Retired ∷ []) (to Desk (real.IsRetired n))) y y.orders
rule_retired s b u moment n l y h number linked fresh there limit = record {
  made = Retiring ∷ [];
  stands = subst (BindStands s b u (step_connection_ledger s l (marked_up l.state.number moment None what.Retired))) (sym (ap (λ (t : Bool). retire_row (not t) y.row) going)) (stands_retired s b u l.state.number moment l y.row h linked limit);
  gives = gives_retired s b u n y (sym number ∙ h.link.number) going;
  waits = λ c. refl;
}
  where
    going : stopped y.row ≡ false
    going = λ i. (sym h.link.retired ∙ fresh) i || (sym h.link.down ∙ there) i

-- an identifier is given, and it retires where this is the limit
pub rule_giving : (s : Settings) (b : Book) (u moment id : ℕ) (mark : Option Taken) (l : ConnectionLedger) (w : What) (y : ConnSide) (orders : ℕ → List ToConn) (k : ConnectionLedger) → step_connection_ledger s l (marked_up l.state.number moment mark w) ≡ k
    → k.state.number ≡ l.state.number → k.state.linked ≡ true → ((id == s.id_limit) ≡ true → k.state.retired ≡ false) → k.state.down ≡ false → ((id == s.id_limit) ≡ true → s.id_limit < k.state.ids.next) → Rule s b u moment mark l (act (w ∷ []) []) y orders
    → Rule s b u moment mark l (act (giving s id w) (retires s l.state id)) y orders
rule_giving s b u moment id mark l w y orders k same number linked fresh there limit r = by (id == s.id_limit) refl
  where
    by : (t : Bool) → (id == s.id_limit) ≡ t → Rule s b u moment mark l (act (elim t [ true ↦ w ∷ what.Retired ∷ [] | false ↦ w ∷ [] ]) (elim t [ true ↦ to Desk (real.IsRetired l.state.number) | false ↦ [] ])) y orders
    by false e = r
    by true e = rule_also s b u moment mark l (act (w ∷ []) []) (act (what.Retired ∷ []) (to Desk (real.IsRetired l.state.number))) y orders r (λ none. absurd (let bad : w ∷ [] ≡ [] = none in cc))
        (λ z st. subst (λ (j : ConnectionLedger). Rule s b u moment None j (act (what.Retired ∷ []) (to Desk (real.IsRetired l.state.number))) z z.orders) (sym same)
        (rule_retired s b u moment l.state.number k z (subst (λ (j : ConnectionLedger). BindStands s b u j z.row) same st) number linked (fresh e) there (limit e)))

-- It is linked, and comes up at once.
pub rule_linked : (s : Settings) (b : Book) (u moment : ℕ) (l : ConnectionLedger) (y : ConnSide) → BindStands s b u l y.row → is_some (place_at s u) ≡ true → l.state.linked ≡ false → Rule s b u moment None l (link_up l.state) y y.orders
rule_linked s b u moment l y h place new = record {
  made = Rising ∷ [];
  stands = subst (BindStands s b u (step_connection_ledger s (step_connection_ledger s l (marked_up l.state.number moment None what.Linked)) (marked_up l.state.number moment None what.Up))) (sym (ap (λ (t : Bool). up_row t y.row) may))
      (stands_linked s b u l.state.number moment l y.row h place);
  gives = gives_up s b u l.state.number y h.link.number may;
  waits = λ c. refl;
}
  where
    may : may_come_up y.row ≡ true
    may = let f = h.link.fresh new in λ i. not ((sym h.link.up ∙ f.0) i) && not ((sym h.link.retired ∙ f.1.0) i || (sym h.link.down ∙ f.1.1) i)
