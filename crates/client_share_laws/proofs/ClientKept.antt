-- What each turn of a client keeps holds behind each list of its turns.
use Rattle.std.proofs.Common.{ℕ, List, [], ◌∷◌, ◌++◌, sym, subst, append_assoc}
use Rattle.std.proofs.lemmas.List.{append-nil}
use Rattle.lload_spec.specs.Settings.{Settings}
use Rattle.part_spec.specs.Marked.{Marked}
use Rattle.part_spec.specs.ClientState.{ClientState, empty_client, step_client}
use Rattle.part_spec.specs.Fit.{ledger_behind as behind}
use Rattle.part_laws.specs.Turns.{Event, made, list_from}
use Rattle.client_laws.specs.Turns.{client_event, client_list}
use Rattle.client_laws.proofs.ClientClauses.{Keeps, event_keeps, nothing_kept}

module _ (s : Settings) (c : ℕ) (Q : List Marked → ClientState → Type 0) (R : List Marked → Type 0) (end : (before : List Marked) (p : ClientState) → Q before p → R before) (more : (before : List Marked) (p : ClientState) (x : Event) → Keeps s c before p → Q before p → Q (before ++ made (client_event s) p x) (behind (step_client s) p (made (client_event s) p x))) where
  kept_from : (xs : List Event) (before : List Marked) (p : ClientState) → Keeps s c before p → Q before p → R (before ++ list_from (step_client s) (client_event s) p xs)
  kept_from [] before p h q = subst R (sym (append-nil before)) (end before p q)
  kept_from (x ∷ xs) before p h q =
      let turn : List Marked = made (client_event s) p x in
      let next : ClientState = behind (step_client s) p turn in
      let rest : List Marked = list_from (step_client s) (client_event s) next xs in
      let all : R ((before ++ turn) ++ rest) = kept_from xs (before ++ turn) next (event_keeps s c before p x h) (more before p x h q) in
      subst R (append_assoc before turn rest) all

  pub kept_always : Q [] (empty_client c) → (xs : List Event) → R (client_list s c xs)
  kept_always q xs = kept_from xs [] (empty_client c) (nothing_kept s c) q
