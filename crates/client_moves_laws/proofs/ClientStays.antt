-- What stays of a client's state: that it arrived, and, but for some entries, whom it pauses.
use Rattle.std.proofs.Common.{◌≡◌, ℕ, Bool, true, false, List, [], ◌∷◌, Option, Some, None, refl, ◌∙◌}
use Rattle.std.specs.Prelude.{map}
use Rattle.std.specs.List.{list_all}
use Rattle.ldap_spec.specs.Messages.{Message}
use Rattle.ldap_spec.specs.Responses.{has_code}
use Rattle.lload_names.specs.declared.names.Answer.{Answer}
use Rattle.lload_names.specs.declared.names.Answer.TheVariants.{Go, Busy, Unavailable}
use Rattle.lload_names.specs.declared.names.OpKind.TheVariants.{Bind}
use Rattle.lload_names.specs.declared.names.PartName.{PartName}
use Rattle.lload_names.specs.declared.names.PartName.TheVariants.{Client as ClientPart}
use Rattle.lload_names.specs.declared.names.Posted.{Posted}
use Rattle.lload_names.specs.declared.names.What.{What}
use Rattle.lload_names.specs.declared.names.What.TheVariants as what
use Rattle.lload_spec.specs.Entries.{makes_operation}
use Rattle.lload_spec.specs.Operations.{is_final_for, is_request_of}
use Rattle.lload_spec.specs.Settings.{Settings}
use Rattle.lload_spec.proofs.Growth.{left, right}
use Rattle.part_spec.specs.Inputs.{act, entries_of, marked_by}
use Rattle.part_spec.specs.Marked.{Marked, Taken}
use Rattle.part_spec.specs.ClientState.{ClientState, ClientRow, client_behind, row_named, row_under, is_bind_row}
use Rattle.part_spec.specs.Fit.{ClientLedger, step_client_ledger, ledger_behind}
use Rattle.stands_laws.specs.Follows.{client_ledger_behind}
use Rattle.client_moves_laws.proofs.ClientTakes.{chosen_state}
use Rattle.client_moves_laws.proofs.ClientOuts.{answer_state, out_state}
use Rattle.client_moves_laws.proofs.ClientCloses.{come_state}

-- whether an entry leaves the pauses as they are
abbrev pub pauses_none : What → Bool
pauses_none what.Arrived = true
pauses_none (what.In id rest) = true
pauses_none (what.Out id rest) = true
pauses_none (what.Late op) = true
pauses_none (what.Chosen op Busy) = true
pauses_none (what.Chosen op Unavailable) = true
pauses_none _ = false

come_stays : (made bind : Bool) (s : Settings) (at : ℕ) (m : Message) (p : ClientState) → ((come_state made bind s at m p).arrived ≡ p.arrived) × ((come_state made bind s at m p).pausing ≡ p.pausing)
come_stays true true s at m p = (refl, refl)
come_stays true false s at m p = (refl, refl)
come_stays false bind s at m p = (refl, refl)

answer_stays : (final t stay : Bool) (s : Settings) (at : ℕ) (mark : Option Taken) (rest : List ℕ) (p : ClientState) (r : ClientRow) → ((answer_state final t stay s at mark rest p r).arrived ≡ p.arrived) × ((answer_state final t stay s at mark rest p r).pausing ≡ p.pausing)
answer_stays false t stay s at mark rest p r = (refl, refl)
answer_stays true true true s at mark rest p r = (refl, refl)
answer_stays true true false s at mark rest p r = (refl, refl)
answer_stays true false stay s at mark rest p r = (refl, refl)

out_stays : (s : Settings) (at : ℕ) (mark : Option Taken) (rest : List ℕ) (p : ClientState) (o : Option ClientRow) → ((out_state o s at mark rest p).arrived ≡ p.arrived) × ((out_state o s at mark rest p).pausing ≡ p.pausing)
out_stays s at mark rest p None = (refl, refl)
out_stays s at mark rest p (Some r) = answer_stays (is_final_for r.request rest) (is_bind_row r) (has_code 14 rest) s at mark rest p r

chosen_arrived : (o : Option ClientRow) (answer : Answer) (p : ClientState) → (chosen_state o answer p).arrived ≡ p.arrived
chosen_arrived None (Go u n) p = refl
chosen_arrived (Some r) (Go u n) p = refl
chosen_arrived o Busy p = refl
chosen_arrived o Unavailable p = refl

arrived_one : (s : Settings) (at : ℕ) (mark : Option Taken) (p : ClientState) (w : What) → p.arrived ≡ true → (client_behind s at mark p w).arrived ≡ true
arrived_one s at mark p what.Arrived e = refl
arrived_one s at mark p (what.In id rest) e = (come_stays (makes_operation (record { id = id; rest = rest })) (is_request_of Bind (record { id = id; rest = rest })) s at (record { id = id; rest = rest }) p).0 ∙ e
arrived_one s at mark p (what.Chosen op (Go u n)) e = chosen_arrived (row_named p op) (Go u n) p ∙ e
arrived_one s at mark p (what.Chosen op Busy) e = e
arrived_one s at mark p (what.Chosen op Unavailable) e = e
arrived_one s at mark p (what.Out id rest) e = (out_stays s at mark rest p (row_under p id)).0 ∙ e
arrived_one s at mark p _ e = e

arrived_fold : (s : Settings) (ms : List Marked) (l : ClientLedger) → l.state.arrived ≡ true → (ledger_behind (step_client_ledger s) l ms).state.arrived ≡ true
arrived_fold s [] l e = e
arrived_fold s (m ∷ ms) l e = arrived_fold s ms (step_client_ledger s l m) (arrived_one s m.entry.at m.mark l.state m.entry.what e)

pub arrived_stays : (s : Settings) (at : ℕ) (mark : Option Taken) (l : ClientLedger) (whats : List What) (letters : List Posted) → l.state.arrived ≡ true → (client_ledger_behind s at mark l (act whats letters)).state.arrived ≡ true
arrived_stays s at mark l whats letters e = arrived_fold s (marked_by mark (entries_of (ClientPart l.state.number) at whats)) l e

pausing_one : (s : Settings) (at : ℕ) (mark : Option Taken) (p : ClientState) (w : What) → pauses_none w ≡ true → (client_behind s at mark p w).pausing ≡ p.pausing
pausing_one s at mark p what.Arrived e = refl
pausing_one s at mark p (what.In id rest) e = (come_stays (makes_operation (record { id = id; rest = rest })) (is_request_of Bind (record { id = id; rest = rest })) s at (record { id = id; rest = rest }) p).1
pausing_one s at mark p (what.Out id rest) e = (out_stays s at mark rest p (row_under p id)).1
pausing_one s at mark p (what.Late op) e = refl
pausing_one s at mark p (what.Chosen op Busy) e = refl
pausing_one s at mark p (what.Chosen op Unavailable) e = refl
pausing_one s at mark p (what.Chosen op (Go u n)) e = absurd (let bad : false ≡ true = e in cc)
pausing_one s at mark p (what.Gone why) e = absurd (let bad : false ≡ true = e in cc)
pausing_one s at mark p what.Stalled e = absurd (let bad : false ≡ true = e in cc)
pausing_one s at mark p what.Flowing e = absurd (let bad : false ≡ true = e in cc)
pausing_one s at mark p _ e = refl

pausing_rest : (s : Settings) (q : PartName) (at : ℕ) (whats : List What) (l : ClientLedger) → list_all pauses_none whats ≡ true → (ledger_behind (step_client_ledger s) l (map (λ x. record { entry = x; mark = None }) (entries_of q at whats))).state.pausing ≡ l.state.pausing
pausing_rest s q at [] l e = refl
pausing_rest s q at (w ∷ ws) l e = pausing_rest s q at ws (step_client_ledger s l (record { entry = record { part = q; at = at; what = w }; mark = None })) (right (pauses_none w) _ e) ∙ pausing_one s at None l.state w (left (pauses_none w) _ e)

pub pausing_stays : (s : Settings) (at : ℕ) (mark : Option Taken) (l : ClientLedger) (whats : List What) (letters : List Posted) → list_all pauses_none whats ≡ true → (client_ledger_behind s at mark l (act whats letters)).state.pausing ≡ l.state.pausing
pausing_stays s at mark l [] letters e = refl
pausing_stays s at mark l (w ∷ ws) letters e = pausing_rest s (ClientPart l.state.number) at ws (step_client_ledger s l (record { entry = record { part = ClientPart l.state.number; at = at; what = w }; mark = mark })) (right (pauses_none w) _ e) ∙ pausing_one s at mark l.state w (left (pauses_none w) _ e)
