-- Along a client's turns: what it expects of a connection has a row that went there, or its Drop was given.
use Rattle.std.proofs.Common.{◌≡◌, ◌⊎◌, inl, inr, ℕ, Bool, true, false, ◌||◌, not, List, [], ◌∷◌, ◌++◌, append_assoc, refl, sym, subst}
use Rattle.std.specs.List.{list_all}
use Rattle.std.proofs.lemmas.List.{append-nil}
use Rattle.lload_names.specs.declared.names.OpKind.TheVariants.{Bind}
use Rattle.lload_names.specs.declared.names.PartName.TheVariants.{Client}
use Rattle.lload_names.specs.declared.names.Posted.{Posted}
use Rattle.lload_spec.specs.Operations.{is_request_of}
use Rattle.lload_spec.specs.Settings.{Settings}
use Rattle.lload_spec.proofs.Growth.{both, left, right}
use Rattle.part_laws.specs.Turns.{Event, letters_given, list_from, made}
use Rattle.part_laws.proofs.Induction.{sees_behind}
use Rattle.part_laws.proofs.ListLaws.{not_true, or_left, or_right}
use Rattle.part_spec.specs.ClientState.{ClientState, step_client}
use Rattle.part_spec.specs.Fit.{ClientLedger, Expected, are_fit_from, client_ledger, empty_client_ledger, fits_client, is_unfit, ledger_behind, step_client_ledger}
use Rattle.part_spec.specs.Gives.{gives}
use Rattle.part_spec.specs.Marked.{Marked}
use Rattle.client_laws.specs.Turns.{client_event, client_list}
use Rattle.client_laws.proofs.ClientClauses.{Keeps, event_keeps, nothing_kept}
use Rattle.client_laws.proofs.ClientGives.{client_gives_so}
use Rattle.client_answer_laws.proofs.Each.{Each}
use Rattle.client_answer_laws.proofs.Life.{FirstFits}
use Rattle.client_answer_laws.proofs.ToldKept.{ToldKept, told_begins, told_more}
use Rattle.expect_laws.specs.Laws.{EachRowedOrDropped, has_row, is_dropped}
use Rattle.expect_laws.proofs.Turns.{Fate, Fates, an_event}

-- two lists, one behind the other
fit_both : (s : Settings) (l : ClientLedger) (ms ns : List Marked) → are_fit_from (fits_client s) (step_client_ledger s) l (ms ++ ns) ≡ true → (are_fit_from (fits_client s) (step_client_ledger s) l ms ≡ true) × (are_fit_from (fits_client s) (step_client_ledger s) (ledger_behind (step_client_ledger s) l ms) ns ≡ true)
fit_both s l [] ns h = (refl, h)
fit_both s l (m ∷ ms) ns h =
    let rest = fit_both s (step_client_ledger s l m) ms ns (right (not (is_unfit (fits_client s) l m.mark)) _ h) in
    (both (not (is_unfit (fits_client s) l m.mark)) _ (left (not (is_unfit (fits_client s) l m.mark)) _ h) rest.0, rest.1)

behind_both : (s : Settings) (l : ClientLedger) (ms ns : List Marked) → ledger_behind (step_client_ledger s) l (ms ++ ns) ≡ ledger_behind (step_client_ledger s) (ledger_behind (step_client_ledger s) l ms) ns
behind_both s l [] ns = refl
behind_both s l (m ∷ ms) ns = behind_both s (step_client_ledger s l m) ms ns

first_fits : (s : Settings) (l : ClientLedger) (ms : List Marked) → are_fit_from (fits_client s) (step_client_ledger s) l ms ≡ true → FirstFits s l ms
first_fits s l [] h = tt
first_fits s l (m ∷ ms) h = not_true (is_unfit (fits_client s) l m.mark) (left (not (is_unfit (fits_client s) l m.mark)) _ h)

module _ (s : Settings) (c : ℕ) where
  abbrev turns : ClientState → List Event → List Marked
  turns p xs = list_from (step_client s) (client_event s) p xs

  abbrev letters : ClientState → List Event → List Posted
  letters p xs = letters_given (step_client s) (client_event s) p xs

  walk : (xs : List Event) (before : List Marked) (l : ClientLedger) (given : List Posted) → Keeps s c before l.state → ToldKept s c before l → Fates given l → are_fit_from (fits_client s) (step_client_ledger s) l (list_from (step_client s) (client_event s) l.state xs) ≡ true → Fates (given ++ letters_given (step_client s) (client_event s) l.state xs) (ledger_behind (step_client_ledger s) l (list_from (step_client s) (client_event s) l.state xs))
  walk [] before l given keeps told fates fit = subst (λ g. Fates g l) (sym (append-nil given)) fates
  walk (x ∷ xs) before l given keeps told fates fit = behind (walk xs (before ++ turn) next (given ++ (client_event s l.state x).letters) next_keeps next_told next_fates (subst (λ p. are_fit_from (fits_client s) (step_client_ledger s) next (turns p xs) ≡ true) (sym state) fits.1))
    where
      turn : List Marked
      turn = made (client_event s) l.state x

      next : ClientLedger
      next = ledger_behind (step_client_ledger s) l (made (client_event s) l.state x)

      state : (ledger_behind (step_client_ledger s) l (made (client_event s) l.state x)).state ≡ ledger_behind (step_client s) l.state (made (client_event s) l.state x)
      state = sees_behind (fits_client s) (step_client_ledger s) (step_client s) (λ k. k.state) (λ k m. refl) l (made (client_event s) l.state x)

      fits : (are_fit_from (fits_client s) (step_client_ledger s) l (made (client_event s) l.state x) ≡ true) × (are_fit_from (fits_client s) (step_client_ledger s) (ledger_behind (step_client_ledger s) l (made (client_event s) l.state x)) (list_from (step_client s) (client_event s) (ledger_behind (step_client s) l.state (made (client_event s) l.state x)) xs) ≡ true)
      fits = fit_both s l (made (client_event s) l.state x) (list_from (step_client s) (client_event s) (ledger_behind (step_client s) l.state (made (client_event s) l.state x)) xs) fit

      first : FirstFits s l (made (client_event s) l.state x)
      first = first_fits s l (made (client_event s) l.state x) fits.0

      next_keeps : Keeps s c (before ++ made (client_event s) l.state x) (ledger_behind (step_client_ledger s) l (made (client_event s) l.state x)).state
      next_keeps = subst (Keeps s c (before ++ made (client_event s) l.state x)) (sym state) (event_keeps s c before l.state x keeps)

      next_told : ToldKept s c (before ++ made (client_event s) l.state x) (ledger_behind (step_client_ledger s) l (made (client_event s) l.state x))
      next_told = told_more s c before l x keeps told first

      next_fates : Fates (given ++ (client_event s l.state x).letters) (ledger_behind (step_client_ledger s) l (made (client_event s) l.state x))
      next_fates = an_event s c before l given keeps told fates x first

      behind : Fates ((given ++ (client_event s l.state x).letters) ++ letters_given (step_client s) (client_event s) next.state xs) (ledger_behind (step_client_ledger s) next (list_from (step_client s) (client_event s) next.state xs)) → Fates (given ++ letters_given (step_client s) (client_event s) l.state (x ∷ xs)) (ledger_behind (step_client_ledger s) l (list_from (step_client s) (client_event s) l.state (x ∷ xs)))
      behind h =
          let p : ClientState = ledger_behind (step_client s) l.state (made (client_event s) l.state x) in
          let here : Fates ((given ++ (client_event s l.state x).letters) ++ letters p xs) (ledger_behind (step_client_ledger s) next (turns p xs)) = subst (λ q. Fates ((given ++ (client_event s l.state x).letters) ++ letters q xs) (ledger_behind (step_client_ledger s) next (turns q xs))) state h in
          subst (λ g. Fates g (ledger_behind (step_client_ledger s) l (turn ++ turns p xs))) (append_assoc given (client_event s l.state x).letters (letters p xs))
          (subst (Fates ((given ++ (client_event s l.state x).letters) ++ letters p xs)) (sym (behind_both s l turn (turns p xs))) here)

  said : (given : List Posted) (l : ClientLedger) (xs : List Expected) → Each (Fate given l) xs → list_all (λ x. is_request_of Bind x.request || has_row x l.state.rows || is_dropped x given) xs ≡ true
  said given l [] h = refl
  said given l (x ∷ xs) h = both (is_request_of Bind x.request || has_row x l.state.rows || is_dropped x given) _ (by (is_request_of Bind x.request) h.0) (said given l xs h.1)
    where
      of : (has_row x l.state.rows ≡ true) ⊎ (is_dropped x given ≡ true) → (has_row x l.state.rows || is_dropped x given) ≡ true
      of (inl k) = or_left (has_row x l.state.rows) _ k
      of (inr k) = or_right (has_row x l.state.rows) _ k

      by : (b : Bool) → (b ≡ false → (has_row x l.state.rows ≡ true) ⊎ (is_dropped x given ≡ true)) → (b || has_row x l.state.rows || is_dropped x given) ≡ true
      by true f = refl
      by false f = of (f refl)

pub each_rowed_or_dropped : EachRowedOrDropped
each_rowed_or_dropped s F marked h c =
    subst (λ list. list_all (λ x. is_request_of Bind x.request || has_row x (client_ledger s c list).state.rows || is_dropped x (gives s (Client c) list)) (client_ledger s c list).expected ≡ true) (h.clients c).same
    (said s c (gives s (Client c) (client_list s c events)) (client_ledger s c (client_list s c events)) (client_ledger s c (client_list s c events)).expected
    (subst (λ g. Fates g (client_ledger s c (client_list s c events))) (sym (client_gives_so s c events))
    (walk s c events [] (empty_client_ledger c) [] (nothing_kept s c) (told_begins s c) tt (subst (λ list. are_fit_from (fits_client s) (step_client_ledger s) (empty_client_ledger c) list ≡ true) (sym (h.clients c).same) (h.joined.fit (Client c))))))
  where
    events : List Event
    events = (h.clients c).events
