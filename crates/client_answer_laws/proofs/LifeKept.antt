-- The life of a client behind each turn that took a fit letter.
use Rattle.std.proofs.Common.{◌≡◌, ℕ, true, ◌&&◌, List, [], ◌∷◌, ◌++◌, refl, ap, ◌∙◌, sym, subst}
use Rattle.std.proofs.lemmas.List.{map-append}
use Rattle.lload_names.specs.declared.names.Entry.{Entry}
use Rattle.lload_spec.specs.Lists.{each_split_from}
use Rattle.lload_spec.specs.Settings.{Settings}
use Rattle.lload_spec.specs.Entries.{is_of_client}
use Rattle.lload_spec.specs.Strict.{lives_as_client, is_notice_placed, is_chosen_once, is_in_unheld}
use Rattle.part_spec.specs.Marked.{Marked, entries}
use Rattle.part_spec.specs.ClientState.{step_client}
use Rattle.part_spec.specs.Share.{lives_as_a_client}
use Rattle.part_spec.specs.Fit.{ClientLedger, fits_client, step_client_ledger, empty_client_ledger, ledger_behind as behind}
use Rattle.lload_spec.proofs.Growth.{left, right, both}
use Rattle.part_laws.specs.Turns.{Event, made}
use Rattle.part_laws.proofs.Induction.{sees_behind}
use Rattle.part_laws.proofs.ListLaws.{splits_grow}
use Rattle.client_laws.specs.Turns.{client_event}
use Rattle.client_laws.proofs.ClientClauses.{Keeps, nothing_kept}
use Rattle.client_share_laws.proofs.ClientCases.{event_case}
use Rattle.client_share_laws.proofs.ClientOrder.{client_in_order}
use Rattle.client_share_laws.proofs.ClientNotices.{client_notices}
use Rattle.client_answer_laws.specs.Clauses.{ClientLife}
use Rattle.client_answer_laws.proofs.Known.{Known}
use Rattle.client_answer_laws.proofs.Life.{FirstFits, Placed, is_well_placed, life_cases}
use Rattle.client_answer_laws.proofs.FitTurns.{OfTurns, fit_turns}

pub record LifeKept (s : Settings) (c : ℕ) (before : List Marked) (l : ClientLedger) : Type 0 where
  pub known : Known s c (entries before) l.state
  pub placed : Placed s c [] (entries before)

pub life_more : (s : Settings) (c : ℕ) (before : List Marked) (l : ClientLedger) (x : Event) → Keeps s c before l.state → LifeKept s c before l → FirstFits s l (made (client_event s) l.state x) → LifeKept s c (before ++ made (client_event s) l.state x) (behind (step_client_ledger s) l (made (client_event s) l.state x))
life_more s c before l x keeps h fit =
    let turn : List Marked = made (client_event s) l.state x in
    let grown : entries (before ++ turn) ≡ entries before ++ entries turn = map-append (λ m. m.entry) before turn in
    let lived : Known s c (entries before ++ entries turn) (behind (step_client s) l.state turn) × Placed s c (entries before) (entries turn) = event_case s l.state (λ ms. FirstFits s l ms → Known s c (entries before ++ entries ms) (behind (step_client s) l.state ms) × Placed s c (entries before) (entries ms)) (life_cases s c l (entries before) h.known keeps.lives) x fit in
    record {
      known = subst (Known s c (entries (before ++ turn))) (sym (sees_behind (fits_client s) (step_client_ledger s) (step_client s) (λ k. k.state) (λ k m. refl) l turn)) (subst (λ b. Known s c b (behind (step_client s) l.state turn)) (sym grown) lived.0);
      placed = ap (each_split_from (λ b e r. is_well_placed s c b e) []) grown ∙ splits_grow (λ b e r. is_well_placed s c b e) [] (entries before) (entries turn) (λ b e r j. j) h.placed lived.1;
    }

pub life_begins : (s : Settings) (c : ℕ) → LifeKept s c [] (empty_client_ledger c)
life_begins s c = record { known = record { says = (nothing_kept s c).says; count = refl; rows = tt; asks = record { each = tt; choices = refl } }; placed = refl }

-- four tests of each split, put together
together : (s : Settings) (c : ℕ) (place es : List Entry) → each_split_from (λ b e r. is_of_client e.what && lives_as_client b e) place es ≡ true → each_split_from (λ b e r. is_notice_placed e r) place es ≡ true → Placed s c place es → each_split_from (λ b e r. is_of_client e.what && (lives_as_client b e && is_chosen_once c b e && is_in_unheld s c b e && is_notice_placed e r)) place es ≡ true
together s c place [] h k j = refl
together s c place (e ∷ es) h k j =
    let order : (is_of_client e.what && lives_as_client place e) ≡ true = left (is_of_client e.what && lives_as_client place e) _ h in
    let placed : is_well_placed s c place e ≡ true = left (is_well_placed s c place e) _ j in
    both (is_of_client e.what && (lives_as_client place e && is_chosen_once c place e && is_in_unheld s c place e && is_notice_placed e es)) _ (both (is_of_client e.what) _ (left (is_of_client e.what) _ order) (both (lives_as_client place e && is_chosen_once c place e && is_in_unheld s c place e) _ (both (lives_as_client place e && is_chosen_once c place e) _ (both (lives_as_client place e) _ (right (is_of_client e.what) _ order) (left (is_chosen_once c place e) _ placed)) (right (is_chosen_once c place e) _ placed)) (left (is_notice_placed e es) _ k))) (together s c (place ++ e ∷ []) es (right (is_of_client e.what && lives_as_client place e) _ h) (right (is_notice_placed e es) _ k) (right (is_well_placed s c place e) _ j))

pub list_lives : (s : Settings) (c : ℕ) (before : List Marked) → OfTurns s c before → Placed s c [] (entries before) → lives_as_a_client s c before ≡ true
list_lives s c before h k = together s c [] (entries before) (subst (λ b. each_split_from (λ q e r. is_of_client e.what && lives_as_client q e) [] (entries b) ≡ true) (sym h.same) (client_in_order s c h.events)) (subst (λ b. each_split_from (λ q e r. is_notice_placed e r) [] (entries b) ≡ true) (sym h.same) (client_notices s c h.events)) k

pub client_life : ClientLife
client_life s c xs = fit_turns s c (LifeKept s c) (life_more s c) (λ b. lives_as_a_client s c b ≡ true) (λ before l keeps turns h. list_lives s c before turns h.placed) (life_begins s c) xs
