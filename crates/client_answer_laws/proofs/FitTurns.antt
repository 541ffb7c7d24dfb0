-- The list of a client's turns up to the first letter that isn't fit is a list of its turns, so what holds of all of
-- these holds of it; what each turn that took a fit letter keeps holds behind it.
use Rattle.std.proofs.Common.{◌≡◌, ℕ, false, List, [], ◌∷◌, ◌++◌, refl, ap, ◌∙◌, sym, subst, append_assoc}
use Rattle.std.specs.Prelude.{Option}
use Rattle.std.proofs.lemmas.List.{append-nil}
use Rattle.lload_names.specs.declared.names.Entry.{Entry}
use Rattle.lload_spec.specs.Settings.{Settings}
use Rattle.lload_names.specs.declared.names.PartName.TheVariants.{Client}
use Rattle.part_spec.specs.Marked.{Marked, Taken}
use Rattle.part_spec.specs.Inputs.{marked_by}
use Rattle.part_spec.specs.ClientState.{ClientState, empty_client, step_client}
use Rattle.part_spec.specs.Fit.{fits_client, is_unfit, fit_beginning, ClientLedger, empty_client_ledger, step_client_ledger, ledger_behind as behind}
use Rattle.part_laws.specs.Turns.{Event, letter_with, made, list_from}
use Rattle.part_laws.proofs.Induction.{through, sees_behind}
use Rattle.client_laws.specs.Turns.{client_event, client_list}
use Rattle.client_laws.proofs.ClientClauses.{Keeps, event_keeps, nothing_kept}
use Rattle.client_laws.proofs.ClientTurns.{behind_both}
use Rattle.client_answer_laws.proofs.Life.{FirstFits}

-- the letter of a turn's first entry is the one that it took
first_fits : (s : Settings) (l : ClientLedger) (mark : Option Taken) (es : List Entry) → is_unfit (fits_client s) l mark ≡ false → FirstFits s l (marked_by mark es)
first_fits s l mark [] u = tt
first_fits s l mark (e ∷ es) u = u

-- a turn more
list_more : (s : Settings) (p : ClientState) (xs : List Event) (x : Event) → list_from (step_client s) (client_event s) p (xs ++ x ∷ []) ≡ list_from (step_client s) (client_event s) p xs ++ made (client_event s) (behind (step_client s) p (list_from (step_client s) (client_event s) p xs)) x
list_more s p [] x = append-nil (made (client_event s) p x)
list_more s p (y ∷ xs) x =
    let turn : List Marked = made (client_event s) p y in
    let next : ClientState = behind (step_client s) p turn in
    ap (λ l. turn ++ l) (list_more s next xs x) ∙ sym (append_assoc turn (list_from (step_client s) (client_event s) next xs) (made (client_event s) (behind (step_client s) next (list_from (step_client s) (client_event s) next xs)) x)) ∙ ap (λ q. (turn ++ list_from (step_client s) (client_event s) next xs) ++ made (client_event s) q x) (sym (behind_both s p turn (list_from (step_client s) (client_event s) next xs)))

-- the list is one of turns
pub record OfTurns (s : Settings) (c : ℕ) (before : List Marked) : Type 0 where
  pub events : List Event
  pub same : before ≡ client_list s c events

module _ (s : Settings) (c : ℕ) (P : List Marked → ClientLedger → Type 0) (more : (before : List Marked) (l : ClientLedger) (x : Event) → Keeps s c before l.state → P before l → FirstFits s l (made (client_event s) l.state x) → P (before ++ made (client_event s) l.state x) (behind (step_client_ledger s) l (made (client_event s) l.state x))) where
  record Kept (before : List Marked) (l : ClientLedger) : Type 0 where
    keeps : Keeps s c before l.state
    turns : OfTurns s c before
    holds : P before l

  kept_more : (before : List Marked) (l : ClientLedger) (x : Event) → Kept before l → is_unfit (fits_client s) l (letter_with x) ≡ false → Kept (before ++ made (client_event s) l.state x) (behind (step_client_ledger s) l (made (client_event s) l.state x))
  kept_more before l x h u =
      let turn : List Marked = made (client_event s) l.state x in
      let seen : (behind (step_client_ledger s) l turn).state ≡ behind (step_client s) l.state turn = sees_behind (fits_client s) (step_client_ledger s) (step_client s) (λ k. k.state) (λ k m. refl) l turn in
      record {
        keeps = subst (Keeps s c (before ++ turn)) (sym seen) (event_keeps s c before l.state x h.keeps);
        turns = record { events = h.turns.events ++ x ∷ []; same = ap (λ q. before ++ made (client_event s) q x) h.keeps.state ∙ ap (λ b. b ++ made (client_event s) (behind (step_client s) (empty_client c) b) x) h.turns.same ∙ sym (list_more s (empty_client c) h.turns.events x) };
        holds = more before l x h.keeps h.holds (first_fits s l (letter_with x) (client_event s l.state x).entries u);
      }

  pub fit_turns : (R : List Marked → Type 0) → ((before : List Marked) (l : ClientLedger) → Keeps s c before l.state → OfTurns s c before → P before l → R before) → P [] (empty_client_ledger c) → (xs : List Event) → R (fit_beginning s (Client c) (client_list s c xs))
  fit_turns R end p xs = through (fits_client s) (step_client_ledger s) (step_client s) (λ l. l.state) (λ l m. refl) (client_event s) Kept R (λ before l h. end before l h.keeps h.turns h.holds) kept_more xs [] (empty_client_ledger c) (record { keeps = nothing_kept s c; turns = record { events = []; same = refl }; holds = p })
