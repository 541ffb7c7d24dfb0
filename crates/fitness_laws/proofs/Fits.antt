-- Each letter of a list and a turn more was fit, where that of the turn is fit behind the list.
use Rattle.std.proofs.Common.{◌≡◌, Bool, true, false, not, List, [], ◌∷◌, ◌++◌, refl, ap, ◌∙◌, sym, subst}
use Rattle.std.specs.Prelude.{Option, Some, None, cond, map}
use Rattle.std.proofs.lemmas.Bool.{and_from, and_parts}
use Rattle.std.proofs.lemmas.List.{append-nil}
use Rattle.lload_names.specs.declared.inputs.Effects.{Effects}
use Rattle.lload_names.specs.declared.inputs.Input.{Input}
use Rattle.lload_names.specs.declared.names.Entry.{Entry}
use Rattle.lload_names.specs.declared.names.Letter.{Letter}
use Rattle.lload_names.specs.declared.names.PartName.{PartName}
use Rattle.lload_names.specs.declared.names.PartName.TheVariants.{Desk, Client, Up as Connection}
use Rattle.lload_spec.specs.Journal.{same_part}
use Rattle.lload_spec.specs.Settings.{Settings}
use Rattle.part_spec.specs.Fit.{are_fit_from, empty_client_ledger, empty_connection_ledger, empty_desk_ledger, fits_client, fits_connection, fits_desk, is_all_fit, is_fit, is_unfit, ledger_behind, step_client_ledger, step_connection_ledger, step_desk_ledger}
use Rattle.part_spec.specs.Inputs.{marked_by}
use Rattle.part_spec.specs.Marked.{Marked, Taken}
use Rattle.part_spec.specs.World.{World, list_in}
use Rattle.link_laws.proofs.Entries.{same_part_is}
use Rattle.fitness_laws.proofs.Turned.{Turned}

-- the letter of a mark is fit
abbrev pub FitMark : Settings → PartName → List Marked → Option Taken → Type 0
FitMark s p list None = Unit {0}
FitMark s p list (Some t) = is_fit s p list t.sender t.letter ≡ true

module _ {A : Type 0} (fits : A → PartName → Letter → Bool) (step : A → Marked → A) where
  unmarked : (l : A) (es : List Entry) → are_fit_from fits step l (map (λ x. record { entry = x; mark = None }) es) ≡ true
  unmarked l [] = refl
  unmarked l (e ∷ es) = unmarked (step l (record { entry = e; mark = None })) es

  one_turn : (l : A) (mark : Option Taken) (es : List Entry) → not (is_unfit fits l mark) ≡ true → are_fit_from fits step l (marked_by mark es) ≡ true
  one_turn l mark [] e = refl
  one_turn l mark (x ∷ xs) e = and_from (not (is_unfit fits l mark)) _ e (unmarked (step l (record { entry = x; mark = mark })) xs)

  pub fit_more : (l : A) (ms : List Marked) (mark : Option Taken) (es : List Entry) → are_fit_from fits step l ms ≡ true → not (is_unfit fits (ledger_behind step l ms) mark) ≡ true → are_fit_from fits step l (ms ++ marked_by mark es) ≡ true
  fit_more l [] mark es h e = one_turn l mark es e
  fit_more l (m ∷ ms) mark es h e =
      let q = and_parts (not (is_unfit fits l m.mark)) _ h in
      and_from (not (is_unfit fits l m.mark)) _ q.0 (fit_more (step l m) ms mark es q.1 e)

all_fit_more : (s : Settings) (p : PartName) (list : List Marked) (mark : Option Taken) (es : List Entry) → is_all_fit s p list ≡ true → FitMark s p list mark → is_all_fit s p (list ++ marked_by mark es) ≡ true
all_fit_more s Desk list None es h e = fit_more (fits_desk s) (step_desk_ledger s) empty_desk_ledger list None es h refl
all_fit_more s Desk list (Some t) es h e = fit_more (fits_desk s) (step_desk_ledger s) empty_desk_ledger list (Some t) es h (ap (λ b. not (not b)) e)
all_fit_more s (Client c) list None es h e = fit_more (fits_client s) (step_client_ledger s) (empty_client_ledger c) list None es h refl
all_fit_more s (Client c) list (Some t) es h e = fit_more (fits_client s) (step_client_ledger s) (empty_client_ledger c) list (Some t) es h (ap (λ b. not (not b)) e)
all_fit_more s (Connection u) list None es h e = fit_more (fits_connection s) (step_connection_ledger s) (empty_connection_ledger s u) list None es h refl
all_fit_more s (Connection u) list (Some t) es h e = fit_more (fits_connection s) (step_connection_ledger s) (empty_connection_ledger s u) list (Some t) es h (ap (λ b. not (not b)) e)

-- so it is of each part behind a turn
pub fit_turned : (s : Settings) (w w1 : World) (p : PartName) (i : Input) (mark : Option Taken) (e : Effects) → Turned w w1 p i mark e → ((q : PartName) → is_all_fit s q (list_in w q) ≡ true) → FitMark s p (list_in w p) mark → (q : PartName) → is_all_fit s q (list_in w1 q) ≡ true
fit_turned s w w1 p i mark e t h f q = ap (is_all_fit s q) (t.lists q) ∙ go (same_part q p) refl
  where
    go : (r : Bool) → same_part q p ≡ r → is_all_fit s q (list_in w q ++ cond r (marked_by mark e.entries) []) ≡ true
    go true z = all_fit_more s q (list_in w q) mark e.entries (h q) (subst (λ (n : PartName). FitMark s n (list_in w n) mark) (sym (same_part_is q p z)) f)
    go false z = ap (is_all_fit s q) (append-nil (list_in w q)) ∙ h q
