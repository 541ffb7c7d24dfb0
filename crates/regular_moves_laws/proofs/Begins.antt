-- A regular connection is linked.
use Rattle.std.proofs.Common.{◌≡◌, ℕ, suc, Bool, true, false, ◌==◌, ◌&&◌, ◌||◌, not, List, [], ◌∷◌, ◌++◌, refl, ap, arith, ◌∙◌, sym, subst}
use Rattle.std.specs.Prelude.{Option, Some, None, flat_map, max, is_some}
use Rattle.std.specs.List.{list_any}
use Rattle.ldap_spec.specs.Bodies.{simple_bind}
use Rattle.lload_names.specs.declared.names.PartName.TheVariants.{Up as Connection}
use Rattle.lload_names.specs.declared.names.What.TheVariants as what
use Rattle.lload_spec.specs.OneEach.{begins_with_bind}
use Rattle.lload_spec.specs.Settings.{Settings, OwnBind, is_of_kind, place_at}
use Rattle.lload_names.specs.declared.names.ConnKind.TheVariants.{Regular}
use Rattle.part_spec.specs.Inputs.{act, also, entries_of}
use Rattle.part_spec.specs.ConnectionState.{UpRow, behind_own}
use Rattle.part_spec.specs.ConnectionTurn.{comes_up, giving, retires}
use Rattle.part_spec.specs.RegularTurn.{link_up}
use Rattle.part_spec.specs.Fit.{ConnectionLedger, step_connection_ledger, ledger_behind as behind}
use Rattle.move_laws.specs.Conns.{may_come_up, up_row, stopped}
use Rattle.stands_laws.specs.Books.{Book, name}
use Rattle.stands_laws.specs.Lists.{Each, EachTwo}
use Rattle.stands_laws.specs.ConnectionSides.{ConnSide, Rising, conn_moves}
use Rattle.stands_laws.specs.RegularStands.{RowIs, AreApart, IsFree, RegularRows, RegularStands, is_row_of}
use Rattle.part_laws.proofs.ListLaws.{same_number}
use Rattle.connection_laws.proofs.Makes.{tail_none}
use Rattle.connection_laws.proofs.Pieces.{marked_up}
use Rattle.regular_moves_laws.proofs.Rows.{each_imply}
use Rattle.regular_moves_laws.proofs.Gives.{gives_up}
use Rattle.regular_moves_laws.proofs.Steps.{stands_up}
use Rattle.regular_moves_laws.proofs.Orders.{giving_rule}
use Rattle.regular_moves_laws.proofs.Turns.{Rule}
use Rattle.stands_laws.proofs.ConnGives.{gives_none}

module _ (s : Settings) (b : Book) (u at : ℕ) (l : ConnectionLedger) (y : ConnSide) (h : RegularStands s b u l y.row) (unlinked : l.state.linked ≡ false) (placed : is_some (place_at s u) ≡ true) where
  -- nothing happened yet
  fresh_up : l.state.up ≡ false
  fresh_up = (h.link.fresh unlinked).0

  fresh_retired : l.state.retired ≡ false
  fresh_retired = (h.link.fresh unlinked).1.0

  fresh_down : l.state.down ≡ false
  fresh_down = (h.link.fresh unlinked).1.1

  rows : RegularRows b l.state y.row
  rows = h.stands fresh_down

  none : l.state.rows ≡ []
  none = rows.unused fresh_up

  going : stopped y.row ≡ false
  going = λ i. (sym h.link.retired ∙ fresh_retired) i || (sym h.link.down ∙ fresh_down) i

  abbrev begun : ConnectionLedger
  begun = step_connection_ledger s l (marked_up l.state.number at None what.Linked)

  -- without an own Bind
  linked_stands : begins_with_bind s u ≡ false → RegularStands s b u begun y.row
  linked_stands alone = record {
    link = record { number = h.link.number; kind = h.link.kind; up = h.link.up; retired = h.link.retired; down = h.link.down; placed = λ _. placed; fresh = λ e. absurd (let bad : true ≡ false = e in cc); limit = h.link.limit; first = h.link.first; began = λ e _. absurd (let bad : true ≡ false = sym e ∙ alone in cc) };
    taken = record { forwards = h.taken.forwards; drops = h.taken.drops; pauses = h.taken.pauses };
    holder = h.holder;
    nobody = h.nobody;
    now = h.now;
    stands = λ e. record { ops = rows.ops; each = rows.each; apart = rows.apart; free = rows.free; begun = λ z. absurd (let bad : true ≡ false = z in cc); waits = rows.waits; unused = rows.unused };
    fallen = λ e. absurd (let bad : true ≡ false = sym e ∙ fresh_down in cc);
  }

  comes : begins_with_bind s u ≡ false → Rule s b u at None l (also (act (what.Linked ∷ []) []) (comes_up l.state)) y y.orders
  comes alone =
      let may : may_come_up y.row ≡ true = λ i. not ((sym h.link.up ∙ fresh_up) i) && not (going i) in
      record {
        made = Rising ∷ [];
        stands = subst (RegularStands s b u (step_connection_ledger s begun (marked_up l.state.number at None what.Up))) (ap (λ (t : Bool). up_row t y.row) (sym may)) (stands_up s b u l.state.number at begun y.row (linked_stands alone) refl (rows.begun unlinked));
        gives = gives_up s b u l.state.number y h.link.number may;
        waits = λ c. refl;
      }

  -- with one
  module _ (own : OwnBind) where
    abbrev bind_rest : List ℕ
    bind_rest = simple_bind own.dn own.credentials

    abbrev what_becomes : UpRow → List UpRow
    what_becomes = behind_own (record { id = l.state.ids.next; rest = simple_bind own.dn own.credentials })

    own_stands : RegularStands s b u (step_connection_ledger s begun (marked_up l.state.number at None (what.Own l.state.ids.next bind_rest))) y.row
    own_stands = record {
      link = record { number = h.link.number; kind = h.link.kind; up = h.link.up; retired = h.link.retired; down = h.link.down; placed = λ _. placed; fresh = λ e. absurd (let bad : true ≡ false = e in cc); limit = λ e. absurd (let bad : true ≡ false = sym e ∙ fresh_retired in cc); first = let m = h.link.first in omega arith; began = λ _ _. let m = h.link.first in omega arith };
      taken = record { forwards = h.taken.forwards; drops = h.taken.drops; pauses = h.taken.pauses };
      holder = h.holder;
      nobody = h.nobody;
      now = h.now;
      stands = λ e. record {
        ops = λ c k. ap (λ rs. list_any (is_row_of (name c k)) (flat_map what_becomes rs)) none ∙ (sym (ap (list_any (is_row_of (name c k))) none) ∙ rows.ops c k);
        each = subst (λ rs. Each (RowIs b (max l.state.ids.next (suc l.state.ids.next))) (flat_map what_becomes rs)) (sym none) tt;
        apart = subst (λ rs. EachTwo AreApart (flat_map what_becomes rs)) (sym none) tt;
        free = each_imply (IsFree l.state.ids.next l.state.rows) (IsFree (max l.state.ids.next (suc l.state.ids.next)) (flat_map what_becomes l.state.rows)) l.state.ids.free (λ n f. let m = f.below in record { above = f.above; below = omega arith; unused = ap (λ rs. list_any (λ (r : UpRow). r.id == n) (flat_map what_becomes rs)) none }) rows.free;
        begun = λ z. absurd (let bad : true ≡ false = z in cc);
        waits = λ _. fresh_up;
        unused = λ _. ap (flat_map what_becomes) none;
      };
      fallen = λ e. absurd (let bad : true ≡ false = sym e ∙ fresh_down in cc);
    }

    ruled : Rule s b u at None begun (act (giving s l.state.ids.next (what.Own l.state.ids.next bind_rest)) ([] ++ retires s begun.state l.state.ids.next)) y y.orders
    ruled = giving_rule s b u at l.state.ids.next (what.Own l.state.ids.next bind_rest) None begun [] y y.orders [] h.link.number (record {
      stands = own_stands;
      gives = gives_none s b u y;
      waits = λ c. refl;
      going = λ _. going;
      linked = refl;
      given = λ i. let e = same_number l.state.ids.next s.id_limit i in omega arith;
    })

    binds : Rule s b u at None l (also (act (what.Linked ∷ []) []) (act (giving s l.state.ids.next (what.Own l.state.ids.next bind_rest)) (retires s l.state l.state.ids.next))) y y.orders
    binds = record {
      made = ruled.made;
      stands = subst (λ ms. RegularStands s b u (behind (step_connection_ledger s) begun ms) (conn_moves false y ruled.made).row) (sym (tail_none (entries_of (Connection l.state.number) at (giving s l.state.ids.next (what.Own l.state.ids.next bind_rest))))) ruled.stands;
      gives = ruled.gives;
      waits = ruled.waits;
    }

  pub link_rule : Rule s b u at None l (link_up s l.state) y y.orders
  link_rule = go s.own_bind refl
    where
      off : (t : Bool) → (t && false) ≡ false
      off true = refl
      off false = refl

      go : (o : Option OwnBind) → s.own_bind ≡ o → Rule s b u at None l (also (act (what.Linked ∷ []) []) (elim o [ None ↦ comes_up l.state | Some own ↦ act (giving s l.state.ids.next (what.Own l.state.ids.next (simple_bind own.dn own.credentials))) (retires s l.state l.state.ids.next) ])) y y.orders
      go None e = comes (ap (λ (o : Option OwnBind). is_of_kind s Regular u && is_some o) e ∙ off (is_of_kind s Regular u))
      go (Some own) e = binds own
