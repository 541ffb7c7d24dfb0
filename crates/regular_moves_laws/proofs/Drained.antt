-- The end of a turn: a connection that has nothing left to do goes down.
use Rattle.std.proofs.Common.{◌≡◌, ℕ, Bool, true, false, ◌==◌, ◌&&◌, not, List, [], ◌∷◌, ◌++◌, length, refl, ap, ◌∙◌, sym, subst}
use Rattle.std.specs.Prelude.{Option, None, is_none}
use Rattle.std.specs.List.{list_any}
use Rattle.lload_names.specs.declared.names.EndWhy.TheVariants.{Drained}
use Rattle.lload_names.specs.declared.names.Letter.TheVariants as real
use Rattle.lload_names.specs.declared.names.PartName.TheVariants.{Desk}
use Rattle.lload_names.specs.declared.names.Posted.{Posted}
use Rattle.lload_names.specs.declared.names.What.{What}
use Rattle.lload_names.specs.declared.names.What.TheVariants as what
use Rattle.lload_spec.specs.Settings.{Settings}
use Rattle.part_spec.specs.Inputs.{Act, act, also, to}
use Rattle.part_spec.specs.ConnectionState.{ConnectionState}
use Rattle.part_spec.specs.ConnectionTurn.{behind_act, is_drained, with_drained}
use Rattle.part_spec.specs.Fit.{ConnectionLedger, step_connection_ledger, ledger_behind as behind}
use Rattle.part_spec.specs.Marked.{Taken}
use Rattle.move_laws.specs.World.{ToConn, vacant}
use Rattle.move_laws.specs.Conns.{may_break, break_row}
use Rattle.stands_laws.specs.Books.{Book, name}
use Rattle.stands_laws.specs.ConnectionSides.{ConnSide, ConnMove, Breaking, conn_move, conn_moves}
use Rattle.stands_laws.specs.Follows.{RegularActs, connection_ledger_behind}
use Rattle.stands_laws.specs.RegularStands.{RegularStands, is_row_of}
use Rattle.lload_spec.proofs.Growth.{left, right, both}
use Rattle.part_laws.proofs.ListLaws.{not_true}
use Rattle.connection_laws.proofs.Makes.{turn_of}
use Rattle.connection_laws.proofs.Permits.{state_through}
use Rattle.connection_laws.proofs.Pieces.{marked_up}
use Rattle.connection_laws.proofs.Through.{no_rows, steps_are, turn_more}
use Rattle.regular_moves_laws.proofs.Gives.{gives_down}
use Rattle.regular_moves_laws.proofs.Steps.{stands_down}
use Rattle.regular_moves_laws.proofs.Ticks.{behind_more}
use Rattle.regular_moves_laws.proofs.Turns.{Rule}
use Rattle.stands_laws.proofs.ConnGives.{Gives, gives_more, moves_more}

-- some moves make what a turn makes
pub record Turned (s : Settings) (b : Book) (u at : ℕ) (mark : Option Taken) (l : ConnectionLedger) (a : Act) (y : ConnSide) (orders : ℕ → List ToConn) : Type 0 where
  pub made : List ConnMove
  pub acts : RegularActs s b u at mark l a y made
  pub waits : (c : ℕ) → (conn_moves false y made).orders c ≡ orders c

-- one that is down isn't drained
pub down_undrained : (p : ConnectionState) → p.down ≡ true → is_drained p ≡ false
down_undrained p e = (λ i. p.retired && not (e i) && length p.rows == 0 && is_none p.holder) ∙ go p.retired
  where
    go : (t : Bool) → (t && false && length p.rows == 0 && is_none p.holder) ≡ false
    go true = refl
    go false = refl

pub turned_rule : (s : Settings) (b : Book) (u at : ℕ) (mark : Option Taken) (l : ConnectionLedger) (a : Act) (y : ConnSide) (orders : ℕ → List ToConn) (h : Rule s b u at mark l a y orders) → is_drained (connection_ledger_behind s at mark l a).state ≡ false → Turned s b u at mark l a y orders
turned_rule s b u at mark l a y orders h undrained = record {
  made = h.made;
  acts = record { is = record { stands = h.stands; undrained = undrained }; gives = record { answers = h.gives.answers; reports = h.gives.reports } };
  waits = h.waits;
}

-- the connection goes down, where it is drained
module _ (s : Settings) (b : Book) (u at : ℕ) (mark : Option Taken) (l : ConnectionLedger) (w : What) (ws : List What) (letters : List Posted) (y : ConnSide) (orders : ℕ → List ToConn) (h : Rule s b u at mark l (act (w ∷ ws) letters) y orders) (number : l.state.number ≡ u) (drained : is_drained (connection_ledger_behind s at mark l (act (w ∷ ws) letters)).state ≡ true) where
  abbrev led : ConnectionLedger
  led = connection_ledger_behind s at mark l (act (w ∷ ws) letters)

  abbrev side : ConnSide
  side = conn_moves false y h.made

  idle : (led.state.retired && not led.state.down && length led.state.rows == 0) ≡ true
  idle = left (led.state.retired && not led.state.down && length led.state.rows == 0) _ drained

  there : led.state.down ≡ false
  there = not_true led.state.down (right led.state.retired _ (left (led.state.retired && not led.state.down) _ idle))

  retired : led.state.retired ≡ true
  retired = left led.state.retired _ (left (led.state.retired && not led.state.down) _ idle)

  none : led.state.rows ≡ []
  none = no_rows led.state.rows (right (led.state.retired && not led.state.down) _ idle)

  linked : led.state.linked ≡ true
  linked = go led.state.linked refl
    where
      go : (t : Bool) → led.state.linked ≡ t → led.state.linked ≡ true
      go true e = e
      go false e = absurd (let bad : true ≡ false = sym retired ∙ (h.stands.link.fresh e).1.0 in cc)

  may : may_break side.row ≡ true
  may = both (not side.row.down) _ (ap not (sym h.stands.link.down ∙ there)) (ap vacant h.stands.now)

  broken : RegularStands s b u (step_connection_ledger s led (marked_up l.state.number at None (what.Down Drained))) (conn_move false side Breaking).row
  broken = subst (RegularStands s b u (step_connection_ledger s led (marked_up l.state.number at None (what.Down Drained)))) (ap (λ (t : Bool). break_row t false side.row) (sym may))
      (stands_down s b u l.state.number at Drained led side.row (record side.row { down = true }) h.stands.link h.stands.taken linked refl refl refl refl refl refl h.stands.nobody h.stands.now (λ c k. sym ((h.stands.stands there).ops c k) ∙ ap (list_any (is_row_of (name c k))) none))

  same : connection_ledger_behind s at mark l (also (act (w ∷ ws) letters) (act (what.Down Drained ∷ []) (to Desk (real.IsDown l.state.number)))) ≡ step_connection_ledger s led (marked_up l.state.number at None (what.Down Drained))
  same = ap (behind (step_connection_ledger s) l) (turn_more l.state.number at mark w ws (what.Down Drained ∷ [])) ∙ behind_more (step_connection_ledger s) l (turn_of l.state.number at mark (w ∷ ws)) (marked_up l.state.number at None (what.Down Drained) ∷ [])

  told : Gives s b u (letters ++ to Desk (real.IsDown l.state.number)) y (conn_moves false y (h.made ++ Breaking ∷ []))
  told = subst (Gives s b u (letters ++ to Desk (real.IsDown l.state.number)) y) (sym (moves_more false y h.made (Breaking ∷ []))) (gives_more s b u letters (to Desk (real.IsDown l.state.number)) y side (conn_move false side Breaking) h.gives (gives_down s b u l.state.number side number may))

  pub turned_down : Turned s b u at mark l (also (act (w ∷ ws) letters) (act (what.Down Drained ∷ []) (to Desk (real.IsDown l.state.number)))) y orders
  turned_down = record {
    made = h.made ++ Breaking ∷ [];
    acts = record {
      is = record {
        stands = subst (λ (x : ConnSide). RegularStands s b u (connection_ledger_behind s at mark l (also (act (w ∷ ws) letters) (act (what.Down Drained ∷ []) (to Desk (real.IsDown l.state.number))))) x.row) (sym (moves_more false y h.made (Breaking ∷ [])))
            (subst (λ (x : ConnectionLedger). RegularStands s b u x (conn_move false side Breaking).row) (sym same) broken);
        undrained = down_undrained (connection_ledger_behind s at mark l (also (act (w ∷ ws) letters) (act (what.Down Drained ∷ []) (to Desk (real.IsDown l.state.number))))).state (ap (λ (x : ConnectionLedger). x.state.down) same);
      };
      gives = record { answers = told.answers; reports = told.reports };
    };
    waits = λ c. ap (λ (x : ConnSide). x.orders c) (moves_more false y h.made (Breaking ∷ [])) ∙ h.waits c;
  }

-- a whole turn
pub turned : (s : Settings) (b : Book) (u at : ℕ) (mark : Option Taken) (l : ConnectionLedger) (a : Act) (y : ConnSide) (orders : ℕ → List ToConn) → l.state.number ≡ u → is_drained l.state ≡ false → Rule s b u at mark l a y orders → Turned s b u at mark l (with_drained s at mark l.state a) y orders
turned s b u at mark l a y orders number undrained h = by a.whats a.letters h
  where
    behind_is : (x : Act) → is_drained (connection_ledger_behind s at mark l x).state ≡ is_drained (behind_act s at mark l.state x)
    behind_is x = ap is_drained (state_through s (turn_of l.state.number at mark x.whats) l ∙ sym (steps_are s l.state (turn_of l.state.number at mark x.whats)))

    ends : (w : What) (ws : List What) (letters : List Posted) (t : Bool) → is_drained (behind_act s at mark l.state (act (w ∷ ws) letters)) ≡ t → Rule s b u at mark l (act (w ∷ ws) letters) y orders
        → Turned s b u at mark l (elim t [ true ↦ also (act (w ∷ ws) letters) (act (what.Down Drained ∷ []) (to Desk (real.IsDown l.state.number))) | false ↦ act (w ∷ ws) letters ]) y orders
    ends w ws letters true e k = turned_down s b u at mark l w ws letters y orders k number (behind_is (act (w ∷ ws) letters) ∙ e)
    ends w ws letters false e k = turned_rule s b u at mark l (act (w ∷ ws) letters) y orders k (behind_is (act (w ∷ ws) letters) ∙ e)

    by : (ws : List What) (letters : List Posted) → Rule s b u at mark l (act ws letters) y orders → Turned s b u at mark l (with_drained s at mark l.state (act ws letters)) y orders
    by [] letters k = subst (λ (t : Bool). Turned s b u at mark l (elim t [ true ↦ also (act [] letters) (act (what.Down Drained ∷ []) (to Desk (real.IsDown l.state.number))) | false ↦ act [] letters ]) y orders) (sym undrained) (turned_rule s b u at mark l (act [] letters) y orders k undrained)
    by (w ∷ ws) letters k = ends w ws letters (is_drained (behind_act s at mark l.state (act (w ∷ ws) letters))) refl k
