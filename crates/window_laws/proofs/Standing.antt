-- What binds a client by its state is what binds it by its list: behind each of its turns that leaves it there, and where a
-- message comes.
use Rattle.std.proofs.Common.{◌≡◌, ℕ, Bool, true, false, ◌&&◌, not, List, [], ◌++◌, length, refl, ap, ◌∙◌, sym, subst}
use Rattle.std.specs.Prelude.{filter}
use Rattle.std.proofs.lemmas.List.{map-append}
use Rattle.lload_names.specs.declared.names.Entry.{Entry}
use Rattle.lload_names.specs.declared.names.PartName.{PartName}
use Rattle.lload_names.specs.declared.names.PartName.TheVariants.{Client}
use Rattle.lload_spec.specs.Binding.{Choice, choices, live_count, standing_by, with_action}
use Rattle.lload_spec.specs.Journal.{Family}
use Rattle.lload_spec.specs.Operations.{is_live}
use Rattle.lload_spec.specs.Settings.{Settings, Write}
use Rattle.lload_laws.proofs.ListLaws.{filter-ext}
use Rattle.part_laws.specs.Turns.{Event, made}
use Rattle.part_laws.proofs.Induction.{sees_behind}
use Rattle.part_spec.specs.ClientState.{ClientRow, ClientState, client_of, empty_client, is_written, standing_of, step_client}
use Rattle.part_spec.specs.Fit.{ClientLedger, empty_client_ledger, fit_beginning, fits_client, ledger_behind as behind, step_client_ledger}
use Rattle.part_spec.specs.Laws.{FitIsWhole}
use Rattle.part_spec.specs.Marked.{Marked, entries}
use Rattle.client_laws.specs.Turns.{client_event, client_list}
use Rattle.client_laws.proofs.ClientClauses.{Keeps}
use Rattle.client_laws.proofs.ClientTurns.{steps_are}
use Rattle.client_share_laws.proofs.ClientCases.{event_case}
use Rattle.client_answer_laws.proofs.FitTurns.{fit_turns}
use Rattle.client_answer_laws.proofs.Life.{FirstFits}
use Rattle.client_answer_laws.proofs.ToldKept.{ToldKept, told_begins, told_more}
use Rattle.carried_laws.specs.Laws.{Played}
use Rattle.identity_laws.proofs.Ins.{Ins, ins_both, ins_cases}
use Rattle.window_laws.specs.Laws.{ClientsAreBound}
use Rattle.window_laws.proofs.Entries.{Bound}
use Rattle.window_laws.proofs.Turns.{Turn, bound_cases}

abbrev pub StandsAt : Settings → ℕ → List Marked → Type 0
StandsAt s c b = standing_of s (client_of s c b) ≡ standing_by s (choices c (entries b))

-- what is bound stands so
standing_so : (s : Settings) (c : ℕ) (place : List Entry) (p : ClientState) → Bound s c place p → standing_of s p ≡ standing_by s (choices c place)
standing_so s c place p h = λ i. record { seconds = s.write_coherence; connection = (h.window i).connection; backend = (h.window i).backend; write = (h.window i).write; live = live_same i; ended = (h.window i).write_ended }
  where
    and_true : (b : Bool) → (b && true) ≡ b
    and_true true = refl
    and_true false = refl

    live_same : length (filter is_written p.rows) ≡ live_count (with_action s Write (choices c place))
    live_same =
        ap length (filter-ext is_written (λ (r : ClientRow). is_written r && true) p.rows (λ r. sym (and_true (is_written r)))) ∙ h.writes (λ k. true)
        ∙ ap length (filter-ext (λ (x : Choice). is_live x.operation && true) (λ x. is_live x.operation) (with_action s Write (choices c place)) (λ x. and_true (is_live x.operation)))

-- What is kept behind each turn.
record Kept (s : Settings) (c : ℕ) (before : List Marked) (l : ClientLedger) : Type 0 where
  told : ToldKept s c before l
  bound : l.state.gone ≡ false → Bound s c (entries before) l.state
  ins : Ins (StandsAt s c) [] before

state_is : (s : Settings) (c : ℕ) (before : List Marked) (p : ClientState) → Keeps s c before p → client_of s c before ≡ p
state_is s c before p keeps = steps_are s (empty_client c) before ∙ sym keeps.state

stands_at : (s : Settings) (c : ℕ) (before : List Marked) (p : ClientState) → Keeps s c before p → Bound s c (entries before) p → StandsAt s c before
stands_at s c before p keeps h = ap (standing_of s) (state_is s c before p keeps) ∙ standing_so s c (entries before) p h

present_there : (a g : Bool) → (a && not g) ≡ true → g ≡ false
present_there a false h = refl
present_there true true h = absurd (let bad : false ≡ true = h in cc)
present_there false true h = absurd (let bad : false ≡ true = h in cc)

kept_more : (s : Settings) (c : ℕ) (before : List Marked) (l : ClientLedger) (x : Event) → Keeps s c before l.state → Kept s c before l → FirstFits s l (made (client_event s) l.state x) → Kept s c (before ++ made (client_event s) l.state x) (behind (step_client_ledger s) l (made (client_event s) l.state x))
kept_more s c before l x keeps h fit =
    record {
      told = told_more s c before l x keeps h.told fit;
      bound = subst (λ (p : ClientState). p.gone ≡ false → Bound s c (entries (before ++ turn)) p) (sym seen) (λ there. subst (λ es. Bound s c es (behind (step_client s) l.state turn)) (sym (map-append (λ (m : Marked). m.entry) before turn)) (event_case s l.state (Turn s c before l keeps h.told) (bound_cases s c before l keeps h.told) x fit h.bound there));
      ins = ins_both (StandsAt s c) [] before turn h.ins (event_case s l.state (Ins (StandsAt s c) before) (ins_cases s l.state (StandsAt s c) before (λ present. stands_at s c before l.state keeps (h.bound (present_there l.state.arrived l.state.gone present)))) x);
    }
  where
    turn : List Marked
    turn = made (client_event s) l.state x

    seen : (behind (step_client_ledger s) l turn).state ≡ behind (step_client s) l.state turn
    seen = sees_behind (fits_client s) (step_client_ledger s) (step_client s) (λ k. k.state) (λ k m. refl) l turn

nothing_kept : (s : Settings) (c : ℕ) → Kept s c [] (empty_client_ledger c)
nothing_kept s c = record { told = told_begins s c; bound = λ there. record { window = refl; writes = λ test. refl; behind = refl }; ins = tt }

-- of a list whose letters were fit
abbrev ListStands : Settings → ℕ → List Marked → Type 0
ListStands s c list = Ins (StandsAt s c) [] list × ((client_of s c list).gone ≡ false → StandsAt s c list)

list_stands : (s : Settings) (c : ℕ) (xs : List Event) → ListStands s c (fit_beginning s (Client c) (client_list s c xs))
list_stands s c = fit_turns s c (Kept s c) (kept_more s c) (ListStands s c) (λ before l keeps turns h. (h.ins, λ there. stands_at s c before l.state keeps (h.bound (sym (ap (λ (p : ClientState). p.gone) (state_is s c before l.state keeps)) ∙ there)))) (nothing_kept s c)

module _ (whole : FitIsWhole) (s : Settings) (F : Family) (marked : PartName → List Marked) (h : Played s F marked) (c : ℕ) where
  stands : ListStands s c (marked (Client c))
  stands = subst (ListStands s c) (whole s (Client c) (marked (Client c)) (h.joined.fit (Client c))) (subst (λ l. ListStands s c (fit_beginning s (Client c) l)) (h.clients c).same (list_stands s c (h.clients c).events))

  -- where a message comes
  pub ins_stand : Ins (StandsAt s c) [] (marked (Client c))
  ins_stand = stands.0

  pub client_bound : (client_of s c (marked (Client c))).gone ≡ false → standing_of s (client_of s c (marked (Client c))) ≡ standing_by s (choices c (F.client c))
  client_bound there = stands.1 there ∙ ap (λ es. standing_by s (choices c es)) (h.joined.shared.same_entries (Client c))

pub clients_bound : FitIsWhole → ClientsAreBound
clients_bound whole s F marked h c there = client_bound whole s F marked h c there
