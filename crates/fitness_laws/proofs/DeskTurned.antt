-- A turn of the desk, in the world.
use Rattle.std.proofs.Common.{◌≡◌, ℕ, List, [], ◌++◌, ◌∙◌, sym, subst}
use Rattle.std.specs.Prelude.{map}
use Rattle.std.proofs.lemmas.List.{append-nil}
use Rattle.lload_names.specs.declared.inputs.Input.{Input}
use Rattle.lload_names.specs.declared.names.PartName.{PartName}
use Rattle.lload_names.specs.declared.names.PartName.TheVariants.{Desk, Client, Up as Connection}
use Rattle.lload_spec.specs.Settings.{Settings}
use Rattle.part_spec.specs.DeskTurn.{desk_act}
use Rattle.part_spec.specs.Fit.{DeskLedger, client_ledger, connection_ledger, desk_ledger, empty_desk_ledger, step_desk_ledger}
use Rattle.part_spec.specs.Inputs.{Act, effects_of, letter_of, moment_for}
use Rattle.part_spec.specs.Marked.{letters_to}
use Rattle.part_spec.specs.World.{World, list_in}
use Rattle.link_laws.specs.Moves.{waiting_between}
use Rattle.move_laws.specs.World as machine
use Rattle.move_laws.specs.Moves.{moves}
use Rattle.stands_laws.specs.Books.{Book}
use Rattle.stands_laws.specs.ClientStands.{ClientIs, kinds_of, serves}
use Rattle.stands_laws.specs.DeskSides.{DeskSide, desk_move_of, desk_moves, desk_side}
use Rattle.stands_laws.specs.DeskStands.{DeskStands}
use Rattle.stands_laws.specs.Follows.{DeskFollows, behind_client, behind_connection, marked_act}
use Rattle.stands_laws.specs.Laws.{DeskTouches}
use Rattle.stands_laws.specs.Letters.{AnswerIs, AskIs, ChoiceIs, OrderIs, ReportIs}
use Rattle.stands_laws.specs.Lists.{Pairs}
use Rattle.stands_laws.specs.WorldStands.{WorldStands, client_ledger_in, connection_ledger_in, desk_ledger_in, stands_by}
use Rattle.stands_laws.proofs.DeskSides.{desk_touches}
use Rattle.fitness_laws.proofs.ConnectionStrangers.{desk_writes_none}
use Rattle.fitness_laws.proofs.Ledgers.{ledger_more}
use Rattle.fitness_laws.proofs.Turned.{AreStrangers, Turned, pairs_client, pairs_connection, pairs_nil, strangers_stay}

module _ (s : Settings) (b : Book) (w w1 : World) (v : machine.World) (h : WorldStands s b w v) (i : Input) (f : DeskFollows s b i (desk_ledger_in s w) (desk_side v))
    (t : Turned w w1 Desk i (letter_of i) (effects_of Desk (moment_for (desk_ledger_in s w).state.moment i) (desk_act s (desk_ledger_in s w).state i))) where
  abbrev v1 : machine.World
  v1 = moves (kinds_of s b) v (map desk_move_of f.made)

  abbrev act : Act
  act = desk_act s (desk_ledger_in s w).state i

  touches : DeskTouches (kinds_of s b) v f.made
  touches = desk_touches (kinds_of s b) v f.made

  here : (P : DeskSide → Type 0) → P (desk_moves (kinds_of s b) (desk_side v) f.made) → P (desk_side v1)
  here P = subst P (sym touches.here)

  clients_at : (c : ℕ) → ClientIs s b c (client_ledger_in s w1 c) (v1.clients c)
  clients_at c =
      subst (λ l. ClientIs s b c (client_ledger s c l) (v1.clients c)) (sym (t.lists (Client c) ∙ append-nil (list_in w (Client c))))
      (subst (λ (g : ℕ → machine.Client). ClientIs s b c (client_ledger_in s w c) (g c)) (sym touches.clients) (h.clients c))

  conns_at : (u : ℕ) → stands_by (serves s u) s b u (connection_ledger_in s w1 u) (v1.conns u)
  conns_at u =
      subst (λ l. stands_by (serves s u) s b u (connection_ledger s u l) (v1.conns u)) (sym (t.lists (Connection u) ∙ append-nil (list_in w (Connection u))))
      (subst (λ (g : ℕ → machine.Conn). stands_by (serves s u) s b u (connection_ledger_in s w u) (g u)) (sym touches.conns) (h.conns u))

  desk_at : DeskStands b (desk_ledger_in s w1) v1.desk
  desk_at =
      subst (λ l. DeskStands b (desk_ledger s l) v1.desk) (sym (t.lists Desk))
      (here (λ y. DeskStands b (desk_ledger s (list_in w Desk ++ marked_act Desk (moment_for (desk_ledger_in s w).state.moment i) (letter_of i) act)) y.row)
      (subst (λ (l : DeskLedger). DeskStands b l (desk_moves (kinds_of s b) (desk_side v) f.made).row) (sym (ledger_more (step_desk_ledger s) empty_desk_ledger (list_in w Desk) (marked_act Desk (moment_for (desk_ledger_in s w).state.moment i) (letter_of i) act))) f.stands))

  asks_at : (c : ℕ) → Pairs (AskIs b c) (waiting_between w1 (Client c) Desk) (v1.to_desk c)
  asks_at c =
      subst (λ q. Pairs (AskIs b c) q (v1.to_desk c)) (sym (t.queues (Client c) Desk))
      (here (λ y. Pairs (AskIs b c) (behind_client c i (waiting_between w (Client c) Desk) ++ []) (y.asks c))
      (pairs_nil (AskIs b c) (behind_client c i (waiting_between w (Client c) Desk)) ((desk_moves (kinds_of s b) (desk_side v) f.made).asks c)
      (subst (λ (z : List machine.ToDesk). Pairs (AskIs b c) (behind_client c i (waiting_between w (Client c) Desk)) z) (sym (f.asks c)) (pairs_client (AskIs b c) c i (waiting_between w (Client c) Desk) (v.to_desk c) (h.asks c)))))

  choices_at : (c : ℕ) → Pairs (ChoiceIs s b c) (waiting_between w1 Desk (Client c)) (v1.choices c)
  choices_at c =
      subst (λ q. Pairs (ChoiceIs s b c) q (v1.choices c)) (sym (t.queues Desk (Client c)))
      (here (λ y. Pairs (ChoiceIs s b c) (waiting_between w Desk (Client c) ++ letters_to (Client c) act.letters) (y.choices c)) (f.choices c (waiting_between w Desk (Client c)) (h.choices c)))

  orders_at : (c u : ℕ) → Pairs (OrderIs s b c) (waiting_between w1 (Client c) (Connection u)) (v1.to_conn c u)
  orders_at c u =
      subst (λ q. Pairs (OrderIs s b c) q (v1.to_conn c u)) (sym (t.queues (Client c) (Connection u)))
      (subst (λ (g : ℕ → ℕ → List machine.ToConn). Pairs (OrderIs s b c) (waiting_between w (Client c) (Connection u) ++ []) (g c u)) (sym touches.orders) (pairs_nil (OrderIs s b c) (waiting_between w (Client c) (Connection u)) (v.to_conn c u) (h.orders c u)))

  answers_at : (c u : ℕ) → Pairs (AnswerIs s b c) (waiting_between w1 (Connection u) (Client c)) (v1.to_client c u)
  answers_at c u =
      subst (λ q. Pairs (AnswerIs s b c) q (v1.to_client c u)) (sym (t.queues (Connection u) (Client c)))
      (subst (λ (g : ℕ → ℕ → List machine.ToClient). Pairs (AnswerIs s b c) (waiting_between w (Connection u) (Client c) ++ []) (g c u)) (sym touches.answers) (pairs_nil (AnswerIs s b c) (waiting_between w (Connection u) (Client c)) (v.to_client c u) (h.answers c u)))

  reports_at : (u : ℕ) → Pairs (ReportIs u) (waiting_between w1 (Connection u) Desk) (v1.reports u)
  reports_at u =
      subst (λ q. Pairs (ReportIs u) q (v1.reports u)) (sym (t.queues (Connection u) Desk))
      (here (λ y. Pairs (ReportIs u) (behind_connection u i (waiting_between w (Connection u) Desk) ++ []) (y.reports u))
      (pairs_nil (ReportIs u) (behind_connection u i (waiting_between w (Connection u) Desk)) ((desk_moves (kinds_of s b) (desk_side v) f.made).reports u)
      (subst (λ (z : List machine.Report). Pairs (ReportIs u) (behind_connection u i (waiting_between w (Connection u) Desk)) z) (sym (f.reports u)) (pairs_connection (ReportIs u) u i (waiting_between w (Connection u) Desk) (v.reports u) (h.reports u)))))

  written : (y : PartName) → AreStrangers Desk y → letters_to y act.letters ≡ []
  written Desk k = desk_writes_none Desk tt s (desk_ledger_in s w).state i
  written (Connection u) k = desk_writes_none (Connection u) tt s (desk_ledger_in s w).state i
  written (Client c) k = absurd k

  pub desk_turned : WorldStands s b w1 v1
  desk_turned = record {
    clients = clients_at;
    conns = conns_at;
    desk = desk_at;
    asks = asks_at;
    choices = choices_at;
    orders = orders_at;
    answers = answers_at;
    reports = reports_at;
    strangers = strangers_stay w w1 Desk i (letter_of i) (effects_of Desk (moment_for (desk_ledger_in s w).state.moment i) act) t written h.strangers;
  }
