-- A turn of a connection of either kind, in the world.
use Rattle.std.proofs.Common.{◌≡◌, ℕ, Bool, false, ◌==◌, List, [], ◌++◌, ap, ◌∙◌, sym, subst}
use Rattle.std.specs.Prelude.{Option, cond, map}
use Rattle.std.proofs.lemmas.List.{append-nil}
use Rattle.lload_names.specs.declared.inputs.Input.{Input}
use Rattle.lload_names.specs.declared.names.PartName.{PartName}
use Rattle.lload_names.specs.declared.names.PartName.TheVariants.{Desk, Client, Up as Connection}
use Rattle.lload_spec.specs.Settings.{Settings}
use Rattle.part_spec.specs.Fit.{ConnectionLedger, client_ledger, connection_ledger, desk_ledger, empty_connection_ledger, step_connection_ledger}
use Rattle.part_spec.specs.Inputs.{Act, effects_of}
use Rattle.part_spec.specs.Marked.{Taken, letters_to}
use Rattle.part_spec.specs.World.{World, list_in}
use Rattle.link_laws.specs.Moves.{waiting_between}
use Rattle.move_laws.specs.World as machine
use Rattle.move_laws.specs.Moves.{moves}
use Rattle.stands_laws.specs.Books.{Book}
use Rattle.stands_laws.specs.ClientStands.{ClientIs, kinds_of, serves}
use Rattle.stands_laws.specs.ConnectionSides.{ConnMove, ConnSide, conn_move_of, conn_moves, conn_side}
use Rattle.stands_laws.specs.DeskStands.{DeskStands}
use Rattle.stands_laws.specs.Follows.{ConnGives, behind_client, connection_ledger_behind, marked_act}
use Rattle.stands_laws.specs.Laws.{ConnTouches}
use Rattle.stands_laws.specs.Letters.{AnswerIs, AskIs, ChoiceIs, OrderIs, ReportIs}
use Rattle.stands_laws.specs.Lists.{Pairs}
use Rattle.stands_laws.specs.WorldStands.{WorldStands, client_ledger_in, connection_ledger_in, desk_ledger_in, stands_by}
use Rattle.stands_laws.proofs.ConnectionSides.{connection_touches}
use Rattle.fitness_laws.proofs.Ledgers.{ledger_more}
use Rattle.fitness_laws.proofs.Strangers.{WritesNone}
use Rattle.fitness_laws.proofs.Turned.{AreStrangers, Turned, by_number, pairs_client, pairs_nil, strangers_stay}

module _ (s : Settings) (b : Book) (w w1 : World) (v : machine.World) (h : WorldStands s b w v) (i : Input) (a now : ℕ) (mark : Option Taken) (act : Act) (made : List ConnMove) (kind : Bool) (serve : serves s a ≡ kind)
    (stands : stands_by kind s b a (connection_ledger_behind s now mark (connection_ledger_in s w a) act) (conn_moves kind (conn_side v a) made).row) (gives : ConnGives s b a act (conn_side v a) (conn_moves kind (conn_side v a) made))
    (orders : (c : ℕ) → (conn_moves kind (conn_side v a) made).orders c ≡ behind_client c i (v.to_conn c a))
    (t : Turned w w1 (Connection a) i mark (effects_of (Connection (connection_ledger_in s w a).state.number) now act)) (none : (u : ℕ) → WritesNone (Connection u) act) where
  abbrev v1 : machine.World
  v1 = moves (kinds_of s b) v (map (conn_move_of a) made)

  touches : ConnTouches (kinds_of s b) v a made
  touches = connection_touches (kinds_of s b) v a made

  -- what is said of the connection's side
  here : (P : ConnSide → Type 0) → P (conn_moves kind (conn_side v a) made) → P (conn_side v1 a)
  here P = subst P (sym (touches.here ∙ ap (λ k. conn_moves k (conn_side v a) made) serve))

  -- and of another's
  there : (P : ConnSide → Type 0) (u : ℕ) → (u == a) ≡ false → P (conn_side v u) → P (conn_side v1 u)
  there P u e = subst P (sym (touches.there u e))

  conns_at : (u : ℕ) → stands_by (serves s u) s b u (connection_ledger_in s w1 u) (v1.conns u)
  conns_at u =
      subst (λ l. stands_by (serves s u) s b u (connection_ledger s u l) (v1.conns u)) (sym (t.lists (Connection u)))
      (by_number a u (λ u r. stands_by (serves s u) s b u (connection_ledger s u (list_in w (Connection u) ++ cond r (marked_act (Connection (connection_ledger_in s w a).state.number) now mark act) [])) (v1.conns u))
      (here (λ y. stands_by (serves s a) s b a (connection_ledger s a (list_in w (Connection a) ++ marked_act (Connection (connection_ledger_in s w a).state.number) now mark act)) y.row)
      (subst (λ (l : ConnectionLedger). stands_by (serves s a) s b a l (conn_moves kind (conn_side v a) made).row) (sym (ledger_more (step_connection_ledger s) (empty_connection_ledger s a) (list_in w (Connection a)) (marked_act (Connection (connection_ledger_in s w a).state.number) now mark act)))
      (subst (λ k. stands_by k s b a (connection_ledger_behind s now mark (connection_ledger_in s w a) act) (conn_moves kind (conn_side v a) made).row) (sym serve) stands)))
      (λ e. there (λ y. stands_by (serves s u) s b u (connection_ledger s u (list_in w (Connection u) ++ [])) y.row) u e (subst (λ l. stands_by (serves s u) s b u (connection_ledger s u l) (v.conns u)) (sym (append-nil (list_in w (Connection u)))) (h.conns u))))

  clients_at : (c : ℕ) → ClientIs s b c (client_ledger_in s w1 c) (v1.clients c)
  clients_at c =
      subst (λ l. ClientIs s b c (client_ledger s c l) (v1.clients c)) (sym (t.lists (Client c) ∙ append-nil (list_in w (Client c))))
      (subst (λ (f : ℕ → machine.Client). ClientIs s b c (client_ledger_in s w c) (f c)) (sym touches.clients) (h.clients c))

  desk_at : DeskStands b (desk_ledger_in s w1) v1.desk
  desk_at =
      subst (λ l. DeskStands b (desk_ledger s l) v1.desk) (sym (t.lists Desk ∙ append-nil (list_in w Desk)))
      (subst (λ (d : machine.Desk). DeskStands b (desk_ledger_in s w) d) (sym touches.desk) h.desk)

  asks_at : (c : ℕ) → Pairs (AskIs b c) (waiting_between w1 (Client c) Desk) (v1.to_desk c)
  asks_at c =
      subst (λ q. Pairs (AskIs b c) q (v1.to_desk c)) (sym (t.queues (Client c) Desk))
      (subst (λ (f : ℕ → List machine.ToDesk). Pairs (AskIs b c) (waiting_between w (Client c) Desk ++ []) (f c)) (sym touches.asks) (pairs_nil (AskIs b c) (waiting_between w (Client c) Desk) (v.to_desk c) (h.asks c)))

  choices_at : (c : ℕ) → Pairs (ChoiceIs s b c) (waiting_between w1 Desk (Client c)) (v1.choices c)
  choices_at c =
      subst (λ q. Pairs (ChoiceIs s b c) q (v1.choices c)) (sym (t.queues Desk (Client c)))
      (subst (λ (f : ℕ → List machine.ToChooser). Pairs (ChoiceIs s b c) (waiting_between w Desk (Client c) ++ []) (f c)) (sym touches.choices) (pairs_nil (ChoiceIs s b c) (waiting_between w Desk (Client c)) (v.choices c) (h.choices c)))

  orders_at : (c u : ℕ) → Pairs (OrderIs s b c) (waiting_between w1 (Client c) (Connection u)) (v1.to_conn c u)
  orders_at c u =
      subst (λ q. Pairs (OrderIs s b c) q (v1.to_conn c u)) (sym (t.queues (Client c) (Connection u)))
      (by_number a u (λ u r. Pairs (OrderIs s b c) (cond r (behind_client c i (waiting_between w (Client c) (Connection u))) (waiting_between w (Client c) (Connection u)) ++ []) (v1.to_conn c u))
      (here (λ y. Pairs (OrderIs s b c) (behind_client c i (waiting_between w (Client c) (Connection a)) ++ []) (y.orders c))
      (pairs_nil (OrderIs s b c) (behind_client c i (waiting_between w (Client c) (Connection a))) ((conn_moves kind (conn_side v a) made).orders c)
      (subst (λ (z : List machine.ToConn). Pairs (OrderIs s b c) (behind_client c i (waiting_between w (Client c) (Connection a))) z) (sym (orders c)) (pairs_client (OrderIs s b c) c i (waiting_between w (Client c) (Connection a)) (v.to_conn c a) (h.orders c a)))))
      (λ e. there (λ y. Pairs (OrderIs s b c) (waiting_between w (Client c) (Connection u) ++ []) (y.orders c)) u e (pairs_nil (OrderIs s b c) (waiting_between w (Client c) (Connection u)) (v.to_conn c u) (h.orders c u))))

  answers_at : (c u : ℕ) → Pairs (AnswerIs s b c) (waiting_between w1 (Connection u) (Client c)) (v1.to_client c u)
  answers_at c u =
      subst (λ q. Pairs (AnswerIs s b c) q (v1.to_client c u)) (sym (t.queues (Connection u) (Client c)))
      (by_number a u (λ u r. Pairs (AnswerIs s b c) (waiting_between w (Connection u) (Client c) ++ cond r (letters_to (Client c) act.letters) []) (v1.to_client c u))
      (here (λ y. Pairs (AnswerIs s b c) (waiting_between w (Connection a) (Client c) ++ letters_to (Client c) act.letters) (y.answers c)) (gives.answers c (waiting_between w (Connection a) (Client c)) (h.answers c a)))
      (λ e. there (λ y. Pairs (AnswerIs s b c) (waiting_between w (Connection u) (Client c) ++ []) (y.answers c)) u e (pairs_nil (AnswerIs s b c) (waiting_between w (Connection u) (Client c)) (v.to_client c u) (h.answers c u))))

  reports_at : (u : ℕ) → Pairs (ReportIs u) (waiting_between w1 (Connection u) Desk) (v1.reports u)
  reports_at u =
      subst (λ q. Pairs (ReportIs u) q (v1.reports u)) (sym (t.queues (Connection u) Desk))
      (by_number a u (λ u r. Pairs (ReportIs u) (waiting_between w (Connection u) Desk ++ cond r (letters_to Desk act.letters) []) (v1.reports u))
      (here (λ y. Pairs (ReportIs a) (waiting_between w (Connection a) Desk ++ letters_to Desk act.letters) y.reports) (gives.reports (waiting_between w (Connection a) Desk) (h.reports a)))
      (λ e. there (λ y. Pairs (ReportIs u) (waiting_between w (Connection u) Desk ++ []) y.reports) u e (pairs_nil (ReportIs u) (waiting_between w (Connection u) Desk) (v.reports u) (h.reports u))))

  written : (y : PartName) → AreStrangers (Connection a) y → letters_to y act.letters ≡ []
  written (Connection u) k = none u
  written Desk k = absurd k
  written (Client c) k = absurd k

  pub connection_turned : WorldStands s b w1 v1
  connection_turned = record {
    clients = clients_at;
    conns = conns_at;
    desk = desk_at;
    asks = asks_at;
    choices = choices_at;
    orders = orders_at;
    answers = answers_at;
    reports = reports_at;
    strangers = strangers_stay w w1 (Connection a) i mark (effects_of (Connection (connection_ledger_in s w a).state.number) now act) t written h.strangers;
  }
