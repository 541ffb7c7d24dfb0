-- A choice that is fit is of an operation that the desk was asked for.
use Rattle.std.proofs.Common.{◌≡◌, Bool, true, false, ◌||◌, List, [], ◌∷◌, refl, subst}
use Rattle.std.specs.Prelude.{Some, cond, find}
use Rattle.std.specs.List.{list_any}
use Rattle.lload_names.specs.declared.names.PartName.TheVariants.{Desk}
use Rattle.lload_spec.specs.Journal.{same_op, same_part}
use Rattle.lload_spec.specs.Lists.{passes}
use Rattle.lload_spec.specs.Settings.{Settings}
use Rattle.lload_spec.proofs.Growth.{right}
use Rattle.part_spec.specs.ClientState.{ClientState, client_of, step_clients}
use Rattle.part_spec.specs.Fit.{ClientLedger, client_ledger, empty_client_ledger, is_choice_for, ledger_behind, step_client_ledger}
use Rattle.part_spec.specs.Marked.{Marked}
use Rattle.due_laws.specs.Laws.{FitChoicesAreDue, is_asked}
use Rattle.due_laws.proofs.Waits.{asked_wait}

-- the ledger behind a list has the client's state
ledger_state : (s : Settings) (l : ClientLedger) (ms : List Marked) → (ledger_behind (step_client_ledger s) l ms).state ≡ step_clients s l.state ms
ledger_state s l [] = refl
ledger_state s l (m ∷ ms) = ledger_state s (step_client_ledger s l m) ms

-- where the one that is found passes a test, there is one
any_found : {A : Type 0} (t u : A → Bool) (xs : List A) → passes t (find u xs) ≡ true → list_any u xs ≡ true
any_found t u [] h = h
any_found t u (x ∷ xs) h = by (u x) h (any_found t u xs)
  where
    by : (b : Bool) → passes t (cond b (Some x) (find u xs)) ≡ true → (passes t (find u xs) ≡ true → list_any u xs ≡ true) → (b || list_any u xs) ≡ true
    by true j more = refl
    by false j more = more j

pub fit_choices_are_due : FitChoicesAreDue
fit_choices_are_due s c list sender op answer fit =
    let asked : is_asked (client_of s c list) op ≡ true = subst (λ (p : ClientState). is_asked p op ≡ true) (ledger_state s (empty_client_ledger c) list) (any_found (λ a. is_choice_for s a.kind answer) (λ a. same_op op a.op) (client_ledger s c list).state.asked (right (same_part sender Desk) _ fit)) in
    record { asked = asked; waits = asked_wait s c list op asked }
