-- A rule of a bind connection, as moves make it; one behind another; and the end where nothing is left to do.
use Rattle.std.proofs.Common.{◌≡◌, ℕ, Bool, true, false, List, [], ◌∷◌, ◌++◌, refl, ap, ◌∙◌, sym, subst}
use Rattle.std.specs.Prelude.{Option, None, map}
use Rattle.lload_names.specs.declared.names.EndWhy.TheVariants.{Drained}
use Rattle.lload_names.specs.declared.names.Letter.TheVariants.{IsDown}
use Rattle.lload_names.specs.declared.names.PartName.TheVariants.{Desk, Up as Connection}
use Rattle.lload_names.specs.declared.names.What.{What}
use Rattle.lload_names.specs.declared.names.What.TheVariants as what
use Rattle.lload_spec.specs.Settings.{Settings}
use Rattle.part_spec.specs.Inputs.{Act, act, also, entries_of, nothing, to}
use Rattle.part_spec.specs.ConnectionState.{step_connections}
use Rattle.part_spec.specs.ConnectionTurn.{behind_act, is_drained, with_drained}
use Rattle.part_spec.specs.Fit.{ConnectionLedger, step_connection_ledger, ledger_behind}
use Rattle.part_spec.specs.Marked.{Marked, Taken}
use Rattle.move_laws.specs.World.{ToConn}
use Rattle.stands_laws.specs.Books.{Book}
use Rattle.stands_laws.specs.ConnectionSides.{ConnSide, ConnMove, conn_moves}
use Rattle.stands_laws.specs.Follows.{connection_ledger_behind}
use Rattle.stands_laws.specs.BindStands.{BindStands}
use Rattle.connection_laws.proofs.Makes.{turn_of, tail_none}
use Rattle.connection_laws.proofs.Permits.{state_through}
use Rattle.connection_laws.proofs.Through.{number_through, steps_are, turn_more}
use Rattle.stands_laws.proofs.ConnGives.{Gives, gives_more, gives_none, moves_more}

-- some moves make what a rule makes, and leave these orders
pub record Rule (s : Settings) (b : Book) (u at : ℕ) (mark : Option Taken) (l : ConnectionLedger) (a : Act) (y : ConnSide) (orders : ℕ → List ToConn) : Type 0 where
  pub made : List ConnMove
  pub stands : BindStands s b u (connection_ledger_behind s at mark l a) (conn_moves true y made).row
  pub gives : Gives s b u a.letters y (conn_moves true y made)
  pub waits : (c : ℕ) → (conn_moves true y made).orders c ≡ orders c

-- nothing is made
pub rule_nothing : (s : Settings) (b : Book) (u at : ℕ) (mark : Option Taken) (l : ConnectionLedger) (y : ConnSide) → BindStands s b u l y.row → Rule s b u at mark l nothing y y.orders
rule_nothing s b u at mark l y h = record { made = []; stands = h; gives = gives_none s b u y; waits = λ c. refl }

behind_append : (s : Settings) (ms ns : List Marked) (l : ConnectionLedger) → ledger_behind (step_connection_ledger s) l (ms ++ ns) ≡ ledger_behind (step_connection_ledger s) (ledger_behind (step_connection_ledger s) l ms) ns
behind_append s [] ns l = refl
behind_append s (m ∷ ms) ns l = behind_append s ms ns (step_connection_ledger s l m)

-- the ledger behind two rules
also_behind : (s : Settings) (at : ℕ) (mark : Option Taken) (l : ConnectionLedger) (a d : Act) → (a.whats ≡ [] → mark ≡ None) → connection_ledger_behind s at mark l (also a d) ≡ connection_ledger_behind s at None (connection_ledger_behind s at mark l a) d
also_behind s at mark l a d n = by a.whats n
  where
    led : List What → ConnectionLedger
    led ws = ledger_behind (step_connection_ledger s) l (turn_of l.state.number at mark ws)

    by : (ws : List What) → (ws ≡ [] → mark ≡ None) → ledger_behind (step_connection_ledger s) l (turn_of l.state.number at mark (ws ++ d.whats)) ≡ ledger_behind (step_connection_ledger s) (ledger_behind (step_connection_ledger s) l (turn_of l.state.number at mark ws)) (turn_of (ledger_behind (step_connection_ledger s) l (turn_of l.state.number at mark ws)).state.number at None d.whats)
    by [] k = ap (λ o. ledger_behind (step_connection_ledger s) l (turn_of l.state.number at o d.whats)) (k refl)
    by (w ∷ ws) k =
        ap (ledger_behind (step_connection_ledger s) l) (turn_more l.state.number at mark w ws d.whats)
        ∙ (behind_append s (turn_of l.state.number at mark (w ∷ ws)) (map (λ x. record { entry = x; mark = None }) (entries_of (Connection l.state.number) at d.whats)) l
        ∙ (ap (ledger_behind (step_connection_ledger s) (led (w ∷ ws))) (tail_none (entries_of (Connection l.state.number) at d.whats))
        ∙ ap (λ n. ledger_behind (step_connection_ledger s) (led (w ∷ ws)) (turn_of n at None d.whats)) (sym (number_through s (turn_of l.state.number at mark (w ∷ ws)) l))))

-- one rule, and then another
pub rule_then : (s : Settings) (b : Book) (u at : ℕ) (mark : Option Taken) (l : ConnectionLedger) (a d : Act) (y : ConnSide) (orders : ℕ → List ToConn) → (r : Rule s b u at mark l a y orders) → (a.whats ≡ [] → mark ≡ None)
    → Rule s b u at None (connection_ledger_behind s at mark l a) d (conn_moves true y r.made) (conn_moves true y r.made).orders → Rule s b u at mark l (also a d) y orders
rule_then s b u at mark l a d y orders r n g = record {
  made = r.made ++ g.made;
  stands = subst (λ (k : ConnectionLedger). BindStands s b u k (conn_moves true y (r.made ++ g.made)).row) (sym (also_behind s at mark l a d n))
      (subst (λ (x : ConnSide). BindStands s b u (connection_ledger_behind s at None (connection_ledger_behind s at mark l a) d) x.row) (sym (moves_more true y r.made g.made)) g.stands);
  gives = subst (λ (x : ConnSide). Gives s b u (a.letters ++ d.letters) y x) (sym (moves_more true y r.made g.made)) (gives_more s b u a.letters d.letters y (conn_moves true y r.made) (conn_moves true (conn_moves true y r.made) g.made) r.gives g.gives);
  waits = λ c. ap (λ (x : ConnSide). x.orders c) (moves_more true y r.made g.made) ∙ (g.waits c ∙ r.waits c);
}

pub rule_also : (s : Settings) (b : Book) (u at : ℕ) (mark : Option Taken) (l : ConnectionLedger) (a d : Act) (y : ConnSide) (orders : ℕ → List ToConn) → Rule s b u at mark l a y orders → (a.whats ≡ [] → mark ≡ None)
    → ((z : ConnSide) → BindStands s b u (connection_ledger_behind s at mark l a) z.row → Rule s b u at None (connection_ledger_behind s at mark l a) d z z.orders) → Rule s b u at mark l (also a d) y orders
rule_also s b u at mark l a d y orders r n f = rule_then s b u at mark l a d y orders r n (f (conn_moves true y r.made) r.stands)

abbrev drained_act : Bool → ℕ → Act → Act
drained_act t number a = elim t [ true ↦ also a (act (what.Down Drained ∷ []) (to Desk (IsDown number))) | false ↦ a ]

-- what a rule makes, and the end where nothing is left to do
pub rule_drained : (s : Settings) (b : Book) (u at : ℕ) (mark : Option Taken) (l : ConnectionLedger) (a : Act) (y : ConnSide) (orders : ℕ → List ToConn) → (a.whats ≡ [] → is_drained l.state ≡ true → mark ≡ None)
    → ((k : ConnectionLedger) (z : ConnSide) → BindStands s b u k z.row → is_drained k.state ≡ true → k.state.number ≡ l.state.number → Rule s b u at None k (act (what.Down Drained ∷ []) (to Desk (IsDown l.state.number))) z z.orders)
    → Rule s b u at mark l a y orders → Rule s b u at mark l (with_drained s at mark l.state a) y orders
rule_drained s b u at mark l a y orders n f r = by (is_drained (behind_act s at mark l.state a)) refl
  where
    drained_there : is_drained (connection_ledger_behind s at mark l a).state ≡ is_drained (behind_act s at mark l.state a)
    drained_there = ap is_drained (state_through s (turn_of l.state.number at mark a.whats) l ∙ sym (steps_are s l.state (turn_of l.state.number at mark a.whats)))

    by : (t : Bool) → is_drained (behind_act s at mark l.state a) ≡ t → Rule s b u at mark l (drained_act t l.state.number a) y orders
    by false e = r
    by true e = rule_also s b u at mark l a (act (what.Down Drained ∷ []) (to Desk (IsDown l.state.number))) y orders r
        (λ w. n w (sym (ap (λ ws. is_drained (step_connections s l.state (turn_of l.state.number at mark ws))) w) ∙ e))
        (λ z st. f (connection_ledger_behind s at mark l a) z st (drained_there ∙ e) (number_through s (turn_of l.state.number at mark a.whats) l))
