-- A turn of a client, in the world.
use Rattle.std.proofs.Common.{◌≡◌, ℕ, false, ◌==◌, List, [], ◌++◌, ◌∙◌, sym, subst}
use Rattle.std.specs.Prelude.{Option, cond, map}
use Rattle.std.proofs.lemmas.List.{append-nil}
use Rattle.lload_names.specs.declared.inputs.Input.{Input}
use Rattle.lload_names.specs.declared.names.PartName.{PartName}
use Rattle.lload_names.specs.declared.names.PartName.TheVariants.{Desk, Client, Up as Connection}
use Rattle.lload_spec.specs.Settings.{Settings}
use Rattle.part_spec.specs.Fit.{ClientLedger, client_ledger, connection_ledger, desk_ledger, empty_client_ledger, step_client_ledger}
use Rattle.part_spec.specs.Inputs.{Act, effects_of}
use Rattle.part_spec.specs.Marked.{Taken, letters_to}
use Rattle.part_spec.specs.World.{World, list_in}
use Rattle.link_laws.specs.Moves.{waiting_between}
use Rattle.move_laws.specs.World as machine
use Rattle.move_laws.specs.Moves.{moves}
use Rattle.stands_laws.specs.Books.{Book}
use Rattle.stands_laws.specs.ClientSides.{ClientMove, ClientSide, client_move_of, client_side}
use Rattle.stands_laws.specs.ClientStands.{ClientIs, kinds_of, serves}
use Rattle.stands_laws.specs.DeskStands.{DeskStands}
use Rattle.stands_laws.specs.Follows.{ClientActs, behind_connection, behind_desk, client_behind, marked_act}
use Rattle.stands_laws.specs.Laws.{ClientTouches}
use Rattle.stands_laws.specs.Letters.{AnswerIs, AskIs, ChoiceIs, OrderIs, ReportIs}
use Rattle.stands_laws.specs.Lists.{Pairs}
use Rattle.stands_laws.specs.WorldStands.{WorldStands, client_ledger_in, connection_ledger_in, desk_ledger_in, stands_by}
use Rattle.stands_laws.proofs.ClientSides.{client_touches}
use Rattle.fitness_laws.proofs.Ledgers.{ledger_more}
use Rattle.fitness_laws.proofs.Strangers.{WritesNone}
use Rattle.fitness_laws.proofs.Turned.{AreStrangers, Turned, by_number, pairs_connection, pairs_desk, pairs_nil, strangers_stay}

module _ (s : Settings) (b : Book) (w w1 : World) (v : machine.World) (h : WorldStands s b w v) (i : Input) (a now : ℕ) (mark : Option Taken) (act : Act) (made : List ClientMove) (acts : ClientActs s b a now mark (client_ledger_in s w a) act (client_side v a) made)
    (choices : (client_behind s b a (client_side v a) made).choices ≡ behind_desk i (v.choices a)) (answers : (u : ℕ) → (client_behind s b a (client_side v a) made).answers u ≡ behind_connection u i (v.to_client a u))
    (t : Turned w w1 (Client a) i mark (effects_of (Client (client_ledger_in s w a).state.number) now act)) (none : (c : ℕ) → WritesNone (Client c) act) where
  abbrev v1 : machine.World
  v1 = moves (kinds_of s b) v (map (client_move_of a) made)

  touches : ClientTouches (kinds_of s b) v a made
  touches = client_touches (kinds_of s b) v a made

  -- what is said of the client's side
  here : (P : ClientSide → Type 0) → P (client_behind s b a (client_side v a) made) → P (client_side v1 a)
  here P = subst P (sym touches.here)

  -- and of another's
  there : (P : ClientSide → Type 0) (c : ℕ) → (c == a) ≡ false → P (client_side v c) → P (client_side v1 c)
  there P c e = subst P (sym (touches.there c e))

  clients_at : (c : ℕ) → ClientIs s b c (client_ledger_in s w1 c) (v1.clients c)
  clients_at c =
      subst (λ l. ClientIs s b c (client_ledger s c l) (v1.clients c)) (sym (t.lists (Client c)))
      (by_number a c (λ c r. ClientIs s b c (client_ledger s c (list_in w (Client c) ++ cond r (marked_act (Client (client_ledger_in s w a).state.number) now mark act) [])) (v1.clients c))
      (here (λ y. ClientIs s b a (client_ledger s a (list_in w (Client a) ++ marked_act (Client (client_ledger_in s w a).state.number) now mark act)) y.row)
      (subst (λ (l : ClientLedger). ClientIs s b a l (client_behind s b a (client_side v a) made).row) (sym (ledger_more (step_client_ledger s) (empty_client_ledger a) (list_in w (Client a)) (marked_act (Client (client_ledger_in s w a).state.number) now mark act))) acts.is))
      (λ e. there (λ y. ClientIs s b c (client_ledger s c (list_in w (Client c) ++ [])) y.row) c e (subst (λ l. ClientIs s b c (client_ledger s c l) (v.clients c)) (sym (append-nil (list_in w (Client c)))) (h.clients c))))

  conns_at : (u : ℕ) → stands_by (serves s u) s b u (connection_ledger_in s w1 u) (v1.conns u)
  conns_at u =
      subst (λ l. stands_by (serves s u) s b u (connection_ledger s u l) (v1.conns u)) (sym (t.lists (Connection u) ∙ append-nil (list_in w (Connection u))))
      (subst (λ (f : ℕ → machine.Conn). stands_by (serves s u) s b u (connection_ledger_in s w u) (f u)) (sym touches.conns) (h.conns u))

  desk_at : DeskStands b (desk_ledger_in s w1) v1.desk
  desk_at =
      subst (λ l. DeskStands b (desk_ledger s l) v1.desk) (sym (t.lists Desk ∙ append-nil (list_in w Desk)))
      (subst (λ (d : machine.Desk). DeskStands b (desk_ledger_in s w) d) (sym touches.desk) h.desk)

  asks_at : (c : ℕ) → Pairs (AskIs b c) (waiting_between w1 (Client c) Desk) (v1.to_desk c)
  asks_at c =
      subst (λ q. Pairs (AskIs b c) q (v1.to_desk c)) (sym (t.queues (Client c) Desk))
      (by_number a c (λ c r. Pairs (AskIs b c) (waiting_between w (Client c) Desk ++ cond r (letters_to Desk act.letters) []) (v1.to_desk c))
      (here (λ y. Pairs (AskIs b a) (waiting_between w (Client a) Desk ++ letters_to Desk act.letters) y.asks) (acts.asks (waiting_between w (Client a) Desk) (h.asks a)))
      (λ e. there (λ y. Pairs (AskIs b c) (waiting_between w (Client c) Desk ++ []) y.asks) c e (pairs_nil (AskIs b c) (waiting_between w (Client c) Desk) (v.to_desk c) (h.asks c))))

  orders_at : (c u : ℕ) → Pairs (OrderIs s b c) (waiting_between w1 (Client c) (Connection u)) (v1.to_conn c u)
  orders_at c u =
      subst (λ q. Pairs (OrderIs s b c) q (v1.to_conn c u)) (sym (t.queues (Client c) (Connection u)))
      (by_number a c (λ c r. Pairs (OrderIs s b c) (waiting_between w (Client c) (Connection u) ++ cond r (letters_to (Connection u) act.letters) []) (v1.to_conn c u))
      (here (λ y. Pairs (OrderIs s b a) (waiting_between w (Client a) (Connection u) ++ letters_to (Connection u) act.letters) (y.orders u)) (acts.orders u (waiting_between w (Client a) (Connection u)) (h.orders a u)))
      (λ e. there (λ y. Pairs (OrderIs s b c) (waiting_between w (Client c) (Connection u) ++ []) (y.orders u)) c e (pairs_nil (OrderIs s b c) (waiting_between w (Client c) (Connection u)) (v.to_conn c u) (h.orders c u))))

  choices_at : (c : ℕ) → Pairs (ChoiceIs s b c) (waiting_between w1 Desk (Client c)) (v1.choices c)
  choices_at c =
      subst (λ q. Pairs (ChoiceIs s b c) q (v1.choices c)) (sym (t.queues Desk (Client c)))
      (by_number a c (λ c r. Pairs (ChoiceIs s b c) (cond r (behind_desk i (waiting_between w Desk (Client c))) (waiting_between w Desk (Client c)) ++ []) (v1.choices c))
      (here (λ y. Pairs (ChoiceIs s b a) (behind_desk i (waiting_between w Desk (Client a)) ++ []) y.choices)
      (pairs_nil (ChoiceIs s b a) (behind_desk i (waiting_between w Desk (Client a))) (client_behind s b a (client_side v a) made).choices
      (subst (λ (z : List machine.ToChooser). Pairs (ChoiceIs s b a) (behind_desk i (waiting_between w Desk (Client a))) z) (sym choices) (pairs_desk (ChoiceIs s b a) i (waiting_between w Desk (Client a)) (v.choices a) (h.choices a)))))
      (λ e. there (λ y. Pairs (ChoiceIs s b c) (waiting_between w Desk (Client c) ++ []) y.choices) c e (pairs_nil (ChoiceIs s b c) (waiting_between w Desk (Client c)) (v.choices c) (h.choices c))))

  answers_at : (c u : ℕ) → Pairs (AnswerIs s b c) (waiting_between w1 (Connection u) (Client c)) (v1.to_client c u)
  answers_at c u =
      subst (λ q. Pairs (AnswerIs s b c) q (v1.to_client c u)) (sym (t.queues (Connection u) (Client c)))
      (by_number a c (λ c r. Pairs (AnswerIs s b c) (cond r (behind_connection u i (waiting_between w (Connection u) (Client c))) (waiting_between w (Connection u) (Client c)) ++ []) (v1.to_client c u))
      (here (λ y. Pairs (AnswerIs s b a) (behind_connection u i (waiting_between w (Connection u) (Client a)) ++ []) (y.answers u))
      (pairs_nil (AnswerIs s b a) (behind_connection u i (waiting_between w (Connection u) (Client a))) ((client_behind s b a (client_side v a) made).answers u)
      (subst (λ (z : List machine.ToClient). Pairs (AnswerIs s b a) (behind_connection u i (waiting_between w (Connection u) (Client a))) z) (sym (answers u)) (pairs_connection (AnswerIs s b a) u i (waiting_between w (Connection u) (Client a)) (v.to_client a u) (h.answers a u)))))
      (λ e. there (λ y. Pairs (AnswerIs s b c) (waiting_between w (Connection u) (Client c) ++ []) (y.answers u)) c e (pairs_nil (AnswerIs s b c) (waiting_between w (Connection u) (Client c)) (v.to_client c u) (h.answers c u))))

  reports_at : (u : ℕ) → Pairs (ReportIs u) (waiting_between w1 (Connection u) Desk) (v1.reports u)
  reports_at u =
      subst (λ q. Pairs (ReportIs u) q (v1.reports u)) (sym (t.queues (Connection u) Desk))
      (subst (λ (f : ℕ → List machine.Report). Pairs (ReportIs u) (waiting_between w (Connection u) Desk ++ []) (f u)) (sym touches.reports) (pairs_nil (ReportIs u) (waiting_between w (Connection u) Desk) (v.reports u) (h.reports u)))

  written : (y : PartName) → AreStrangers (Client a) y → letters_to y act.letters ≡ []
  written (Client c) k = none c
  written Desk k = absurd k
  written (Connection u) k = absurd k

  pub client_turned : WorldStands s b w1 v1
  client_turned = record {
    clients = clients_at;
    conns = conns_at;
    desk = desk_at;
    asks = asks_at;
    choices = choices_at;
    orders = orders_at;
    answers = answers_at;
    reports = reports_at;
    strangers = strangers_stay w w1 (Client a) i mark (effects_of (Client (client_ledger_in s w a).state.number) now act) t written h.strangers;
  }
