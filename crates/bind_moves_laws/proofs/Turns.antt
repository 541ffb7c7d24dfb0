-- A message and a clock step of a bind connection.
use Rattle.std.proofs.Common.{◌≡◌, ℕ, Bool, true, false, not, if◌then◌else◌, List, [], ◌∷◌, refl, ap, ◌∙◌, sym, subst, arith}
use Rattle.std.specs.Prelude.{Option, Some, None, cond, filter, find, flat_map}
use Rattle.std.specs.List.{list_any}
use Rattle.ldap_spec.specs.Messages.{Message}
use Rattle.lload_names.specs.declared.names.EndWhy.TheVariants.{Bad, TimedOut}
use Rattle.lload_names.specs.declared.names.Letter.TheVariants as real
use Rattle.lload_names.specs.declared.names.OpName.{OpName}
use Rattle.lload_names.specs.declared.names.Posted.{Posted}
use Rattle.lload_names.specs.declared.names.Refusal.TheVariants.{C5}
use Rattle.lload_names.specs.declared.names.What.TheVariants as what
use Rattle.lload_spec.specs.BadMessages.{is_bad}
use Rattle.lload_spec.specs.Journal.{same_op}
use Rattle.lload_spec.specs.Settings.{Settings}
use Rattle.part_spec.specs.Inputs.{act, also, failed, nothing}
use Rattle.part_spec.specs.ConnectionState.{UpRow, behind_message, is_under, is_under_who, lets_go, message_facts}
use Rattle.part_spec.specs.ConnectionTurn.{goes_down, is_due}
use Rattle.part_spec.specs.BindTurn.{expires, message, row_answer, ticks, who_answer}
use Rattle.part_spec.specs.Fit.{ConnectionLedger, step_connection_ledger}
use Rattle.move_laws.specs.World.{Op}
use Rattle.move_laws.specs.Conns.{finish_row}
use Rattle.stands_laws.specs.Books.{Book, name}
use Rattle.stands_laws.specs.ConnectionSides.{ConnSide, Finishing, conn_move}
use Rattle.stands_laws.specs.BindStands.{BindRow, BindRows, BindStands}
use Rattle.part_laws.proofs.ListLaws.{same_op_refl}
use Rattle.connection_laws.proofs.Pieces.{marked_up}
use Rattle.stands_laws.proofs.ConnGives.{Gives, gives_none}
use Rattle.bind_moves_laws.proofs.Gives.{gives_finish}
use Rattle.bind_moves_laws.proofs.Rules.{Rule, rule_also, rule_then, rule_nothing}
use Rattle.bind_moves_laws.proofs.Steps.{stands_got, stands_with}
use Rattle.bind_moves_laws.proofs.Ends.{letters_down, live_there, none_live, rule_down}
use Rattle.bind_moves_laws.proofs.Messages.{rule_live}

module _ (s : Settings) (b : Book) (u moment : ℕ) (l : ConnectionLedger) (y : ConnSide) (st : BindStands s b u l y.row) (linked : l.state.linked ≡ true) (there : l.state.down ≡ false) where
  -- A message where none is live.
  rule_idle : (m : Message) → l.state.rows ≡ [] → y.row.now ≡ None → Rule s b u moment None l (message s l.state m) y y.orders
  rule_idle m rows e = subst (λ (qs : List UpRow). Rule s b u moment None l (also (act (what.Got m.id m.rest ∷ []) []) (elim (is_bad (message_facts l.state) m) [
    | true ↦ goes_down l.state Bad
    | false ↦ elim (find (is_under m.id) qs) [ Some q ↦ row_answer s l.state m.rest q | None ↦ elim (find (is_under_who m.id) qs) [ Some q ↦ who_answer l.state m.rest q | None ↦ nothing ] ]
  ])) y y.orders) (sym rows) (by (is_bad (message_facts l.state) m))
    where
      stays : BindStands s b u (step_connection_ledger s l (marked_up l.state.number moment None (what.Got m.id m.rest))) y.row
      stays = stands_got s b u moment m [] false l y.row y.row st (ap (flat_map (behind_message moment m)) rows) (ap (list_any (lets_go m)) rows) refl refl refl refl st.taken st.holder (subst (BindRows s b []) (sym e) tt) st.live st.fallen

      by : (t : Bool) → Rule s b u moment None l (also (act (what.Got m.id m.rest ∷ []) []) (elim t [ true ↦ goes_down l.state Bad | false ↦ nothing ])) y y.orders
      by false = record { made = []; stands = stays; gives = gives_none s b u y; waits = λ c. refl }
      by true = rule_then s b u moment None l (act (what.Got m.id m.rest ∷ []) []) (goes_down l.state Bad) y y.orders (record { made = []; stands = stays; gives = gives_none s b u y; waits = λ c. refl }) (λ w. refl)
          (subst (λ (xs : List Posted). Rule s b u moment None (step_connection_ledger s l (marked_up l.state.number moment None (what.Got m.id m.rest))) (act (what.Down Bad ∷ []) xs) y y.orders)
          (letters_down s b u (step_connection_ledger s l (marked_up l.state.number moment None (what.Got m.id m.rest))) y.row stays ∙ sym (letters_down s b u l y.row st))
          (rule_down s b u moment Bad (step_connection_ledger s l (marked_up l.state.number moment None (what.Got m.id m.rest))) y stays linked there))

  pub rule_message : (m : Message) → Rule s b u moment None l (message s l.state m) y y.orders
  rule_message m = by l.state.rows y.row.now refl refl st.rows
    where
      by : (rows : List UpRow) (o : Option Op) → l.state.rows ≡ rows → y.row.now ≡ o → BindRows s b rows o → Rule s b u moment None l (message s l.state m) y y.orders
      by [] None i e h = rule_idle m i e
      by [] (Some o) i e h = absurd h
      by (r ∷ rows) None i e h = absurd h
      by (r ∷ rows) (Some o) i e h = rule_live s b u moment m l y r o st e (i ∙ ap (λ (qs : List UpRow). r ∷ qs) h.1) h.0 linked there

  -- A clock step.
  expired : (r : UpRow) (o : Op) → l.state.rows ≡ r ∷ [] → y.row.now ≡ Some o → BindRow s b r o → Rule s b u moment None l (act (what.Expired r.op ∷ []) (failed r.op C5)) y y.orders
  expired r o rows e row = record {
    made = Finishing o.client o.k true true ∷ [];
    stands = subst (BindStands s b u (step_connection_ledger s l (marked_up l.state.number moment None (what.Expired r.op)))) (sym (ap (λ (t : Bool). finish_row t true true o.client o.k y.row) (live_there s b u l y.row o st e)))
        (stands_with s b u moment l.state.ids (filter (λ q. not (same_op r.op q.op)) l.state.rows) l.state.holder l.taken l y.row (finish_row true true true o.client o.k y.row) st refl refl refl refl (omega arith) st.free
        (record { forwards = st.taken.forwards; leaves = st.taken.leaves }) st.holder (subst (λ (qs : List UpRow). BindRows s b qs None) (sym none) tt) (none_live s b u l y.row o st e) (λ _. refl));
    gives = subst (λ (n : OpName). Gives s b u (failed n C5) y (conn_move true y (Finishing o.client o.k true true))) (sym row.op)
        (gives_finish s b u o.client o.k l.state.number true true (real.Failed (name o.client o.k) C5) y st.link.number (live_there s b u l y.row o st e) (record { which = C5; is = refl; loss = refl }));
    waits = λ c. refl;
  }
    where
      none : filter (λ q. not (same_op r.op q.op)) l.state.rows ≡ []
      none = ap (filter (λ q. not (same_op r.op q.op))) rows ∙ ap (λ (t : Bool). if not t then r ∷ [] else []) (same_op_refl r.op)

  pub rule_tick : Rule s b u moment None l (ticks s l.state moment) y y.orders
  rule_tick = by l.state.rows y.row.now refl refl st.rows
    where
      by : (rows : List UpRow) (o : Option Op) → l.state.rows ≡ rows → y.row.now ≡ o → BindRows s b rows o → Rule s b u moment None l (elim (find (is_due s moment) l.state.rows) [ None ↦ nothing | Some r ↦ expires l.state r ]) y y.orders
      by [] None i e h = subst (λ (qs : List UpRow). Rule s b u moment None l (elim (find (is_due s moment) qs) [ None ↦ nothing | Some r ↦ expires l.state r ]) y y.orders) (sym i) (rule_nothing s b u moment None l y st)
      by [] (Some o) i e h = absurd h
      by (r ∷ rows) None i e h = absurd h
      by (r ∷ rows) (Some o) i e h = let one : l.state.rows ≡ r ∷ [] = i ∙ ap (λ (qs : List UpRow). r ∷ qs) h.1 in
          subst (λ (qs : List UpRow). Rule s b u moment None l (elim (find (is_due s moment) qs) [ None ↦ nothing | Some q ↦ expires l.state q ]) y y.orders) (sym one) (due (is_due s moment r))
        where
          due : (t : Bool) → Rule s b u moment None l (elim (cond t (Some r) None) [ None ↦ nothing | Some q ↦ expires l.state q ]) y y.orders
          due false = rule_nothing s b u moment None l y st
          due true = rule_also s b u moment None l (act (what.Expired r.op ∷ []) (failed r.op C5)) (goes_down (record l.state { rows = filter (λ q. not (same_op r.op q.op)) l.state.rows }) TimedOut) y y.orders (expired r o (i ∙ ap (λ (qs : List UpRow). r ∷ qs) h.1) e h.0) (λ w. refl)
              (λ z k. rule_down s b u moment TimedOut (step_connection_ledger s l (marked_up l.state.number moment None (what.Expired r.op))) z k linked there)
