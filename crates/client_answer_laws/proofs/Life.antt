-- A client's list is one of a client's life, up to the first letter that isn't fit: each choice is the first of an
-- operation of its own, and no message comes while its part holds.
use Rattle.std.proofs.Common.{◌≡◌, ℕ, Bool, true, false, ◌==◌, ◌&&◌, ◌||◌, not, List, [], ◌∷◌, ◌++◌, refl, ap, ◌∙◌, sym, subst}
use Rattle.std.specs.Prelude.{Option, Some, None, is_some, is_none, find, cond}
use Rattle.std.specs.List.{list_any, list_all}
use Rattle.std.proofs.lemmas.List.{append-nil}
use Rattle.ldap_spec.specs.Messages.{Message}
use Rattle.ldap_spec.specs.Kinds.{kind_of}
use Rattle.lload_names.specs.declared.names.Entry.{Entry}
use Rattle.lload_names.specs.declared.names.OpName.{OpName}
use Rattle.lload_names.specs.declared.names.Answer.{Answer}
use Rattle.lload_names.specs.declared.names.CancelAnswer.TheVariants.{S1}
use Rattle.lload_names.specs.declared.names.PartName.{PartName}
use Rattle.lload_names.specs.declared.names.PartName.TheVariants.{Desk, Client}
use Rattle.lload_names.specs.declared.names.Letter.TheVariants.{Choice, Reply, Failed}
use Rattle.lload_names.specs.declared.names.What.{What}
use Rattle.lload_names.specs.declared.names.What.TheVariants as what
use Rattle.lload_spec.specs.Lists.{passes, implies, where_there, each_split_from}
use Rattle.lload_spec.specs.Settings.{Settings}
use Rattle.lload_spec.specs.Journal.{same_op, same_part}
use Rattle.lload_spec.specs.Entries.{Named, chosen, in_message}
use Rattle.lload_spec.specs.Operations.{operation_in}
use Rattle.lload_spec.specs.FirstCheck.{Check, Ends, Unbinds, Abandons, Refuses, Answers, Cancels, GoesOn}
use Rattle.lload_spec.specs.Strict.{is_choice_for, holds, is_chosen_once, is_in_unheld}
use Rattle.part_spec.specs.Marked.{Marked, Taken, entries}
use Rattle.part_spec.specs.Inputs.{entries_of}
use Rattle.part_spec.specs.ClientState.{ClientState, AskedFor, step_client, check_at, row_named}
use Rattle.part_spec.specs.ClientTurn.{refused, noticed, whats_by, whats_for}
use Rattle.part_spec.specs.Fit.{is_choice_for as is_choice_of, fits_client, is_unfit, ClientLedger, ledger_behind as behind}
use Rattle.lload_spec.proofs.Growth.{left, right, both}
use Rattle.client_laws.proofs.Matches.{ClientLives}
use Rattle.client_laws.proofs.ClientTurns.{client_turn_of}
use Rattle.client_laws.proofs.ClientClauses.{entries_marked}
use Rattle.client_share_laws.proofs.Whats.{refused_all, canceled_all, choice_all}
use Rattle.client_share_laws.proofs.ClientCases.{Cases, taken}
use Rattle.client_answer_laws.proofs.Asks.{AskKnown, asked_known}
use Rattle.client_answer_laws.proofs.Known.{Known, IsAsked, is_unchosen, none_asked, known_turn, within_there, unheld}

-- the letter of the first entry of a turn is fit
abbrev pub FirstFits : Settings → ClientLedger → List Marked → Type 0
FirstFits s l [] = Unit {0}
FirstFits s l (m ∷ ms) = is_unfit (fits_client s) l m.mark ≡ false

pub not_false : (b : Bool) → not b ≡ false → b ≡ true
not_false true h = refl
not_false false h = absurd (let bad : true ≡ false = h in cc)

-- a choice that is fit is of what was asked for
pub fit_asked : (s : Settings) (l : ClientLedger) (sender : PartName) (op : OpName) (a : Answer) → is_unfit (fits_client s) l (taken sender (Choice op a)) ≡ false → list_any (λ x. same_op op x.op) l.state.asked ≡ true
fit_asked s l sender op a h = by (find (λ x. same_op op x.op) l.state.asked) refl (right (same_part sender Desk) _ (not_false (fits_client s l sender (Choice op a)) h))
  where
    there : (xs : List AskedFor) (y : AskedFor) → find (λ x. same_op op x.op) xs ≡ Some y → list_any (λ x. same_op op x.op) xs ≡ true
    there [] y e = absurd (let bad : None ≡ Some y = e in cc)
    there (x ∷ xs) y e = more (same_op op x.op) e (there xs y)
      where
        more : (b : Bool) → cond b (Some x) (find (λ z. same_op op z.op) xs) ≡ Some y → (find (λ z. same_op op z.op) xs ≡ Some y → list_any (λ z. same_op op z.op) xs ≡ true) → (b || list_any (λ z. same_op op z.op) xs) ≡ true
        more true g ih = refl
        more false g ih = ih g

    by : (o : Option AskedFor) → find (λ x. same_op op x.op) l.state.asked ≡ o → passes (λ x. is_choice_of s x.kind a) o ≡ true → list_any (λ x. same_op op x.op) l.state.asked ≡ true
    by None e k = absurd (let bad : false ≡ true = k in cc)
    by (Some y) e k = there l.state.asked y e

module _ (s : Settings) (c : ℕ) where
  -- a choice, and a message, stands where it may
  abbrev pub is_well_placed : List Entry → Entry → Bool
  is_well_placed place e = is_chosen_once c place e && is_in_unheld s c place e

  abbrev pub Placed : List Entry → List Entry → Type 0
  Placed place es = each_split_from (λ b e x. is_well_placed b e) place es ≡ true

  -- what is neither
  abbrev is_quiet : What → Bool
  is_quiet w = is_none (chosen w) && is_none (in_message w)

  quiet_placed : (u at : ℕ) (ws : List What) (place : List Entry) → list_all is_quiet ws ≡ true → Placed place (entries_of (Client u) at ws)
  quiet_placed u at [] place h = refl
  quiet_placed u at (w ∷ ws) place h =
      let e : Entry = record { part = Client u; at = at; what = w } in
      both (is_well_placed place e) _ (both (is_chosen_once c place e) _ (by (chosen w) (left (is_none (chosen w)) _ (left (is_quiet w) _ h))) (by_in (in_message w) (right (is_none (chosen w)) _ (left (is_quiet w) _ h)))) (quiet_placed u at ws (place ++ e ∷ []) (right (is_quiet w) _ h))
    where
      by : (o : Option (Named Answer)) → is_none o ≡ true → where_there (λ x. x.op.client == c && is_some (operation_in c place x.op) && not (list_any (is_choice_for x.op) place)) o ≡ true
      by None k = refl
      by (Some x) k = absurd (let bad : false ≡ true = k in cc)

      by_in : (o : Option Message) → is_none o ≡ true → implies (is_some o) (not (holds s c place)) ≡ true
      by_in None k = refl
      by_in (Some x) k = absurd (let bad : false ≡ true = k in cc)

  check_quiet : (m : Message) (k : Check) → list_all is_quiet (whats_by m k) ≡ true
  check_quiet m (Ends why) = refl
  check_quiet m Unbinds = refl
  check_quiet m (Abandons id) = refl
  check_quiet m (Refuses which) = refused_all is_quiet (λ id rest. refl) m which
  check_quiet m (Answers which) = canceled_all is_quiet (λ id rest. refl) m.id (kind_of m.rest) which
  check_quiet m (Cancels id kind) = canceled_all is_quiet (λ i rest. refl) m.id (kind_of m.rest) S1
  check_quiet m GoesOn = refl

  unchosen_by : (ws : List What) → list_all is_quiet ws ≡ true → list_all is_unchosen ws ≡ true
  unchosen_by [] h = refl
  unchosen_by (w ∷ ws) h = both (is_unchosen w) _ (left (is_none (chosen w)) _ (left (is_quiet w) _ h)) (unchosen_by ws (right (is_quiet w) _ h))

  -- each turn
  module _ (l : ClientLedger) (place : List Entry) (h : Known s c place l.state) (lives : ClientLives c place l.state) where
    abbrev p : ClientState
    p = l.state

    -- what is known behind the turn, and that its entries stand where they may
    abbrev Lived : List Marked → Type 0
    Lived ms = FirstFits s l ms → Known s c (place ++ entries ms) (behind (step_client s) l.state ms) × Placed place (entries ms)

    lived : (at : ℕ) (mark : Option Taken) (w : What) (ws : List What) → (is_unfit (fits_client s) l mark ≡ false → IsAsked l.state w × (is_well_placed place (record { part = Client l.state.number; at = at; what = w }) ≡ true)) → list_all is_quiet ws ≡ true → Lived (client_turn_of l.state.number at mark (w ∷ ws))
    lived at mark w ws f q u = (known_turn s c l.state.number at w ws mark place l.state h (f u).0 (unchosen_by ws q), ap (each_split_from (λ b e x. is_well_placed b e) place) (entries_marked mark (entries_of (Client l.state.number) at (w ∷ ws))) ∙ both (is_well_placed place (record { part = Client l.state.number; at = at; what = w })) _ (f u).1 (quiet_placed l.state.number at ws (place ++ record { part = Client l.state.number; at = at; what = w } ∷ []) q))

    quiet : (at : ℕ) (mark : Option Taken) (ws : List What) → list_all is_quiet ws ≡ true → Lived (client_turn_of l.state.number at mark ws)
    quiet at mark [] q = λ u. (subst (λ b. Known s c b l.state) (sym (append-nil place)) h, refl)
    quiet at mark (w ∷ ws) q = lived at mark w ws (λ u. (none_asked l.state w (left (is_unchosen w) _ (unchosen_by (w ∷ ws) q)), left (is_well_placed place (record { part = Client l.state.number; at = at; what = w })) true (quiet_placed l.state.number at (w ∷ []) place (both (is_quiet w) true (left (is_quiet w) _ q) refl)))) (right (is_quiet w) _ q)

    pub life_cases : Cases s l.state Lived
    life_cases =
        record {
          none = λ u. (subst (λ b. Known s c b l.state) (sym (append-nil place)) h, refl);
          arrives = λ at fresh. quiet at None (what.Arrived ∷ []) refl;
          checked = λ at m e f. lived at None (what.In m.id m.rest) (whats_by m (check_at s l.state m)) (λ u. (none_asked l.state (what.In m.id m.rest) refl, ap not (unheld s c place l.state lives h.rows f))) (check_quiet m (check_at s l.state m));
          chosen = λ at sender op a here. lived at (taken sender (Choice op a)) (what.Chosen op a) (whats_for (row_named l.state op) a) (λ u. let there : list_any (λ x. same_op op x.op) l.state.asked ≡ true = fit_asked s l sender op a u in let known : AskKnown c place _ = asked_known c place l.state.asked op h.asks.each there in (λ o b e. let same : op ≡ o = cc in subst (λ x. list_any (λ y. same_op x y.op) l.state.asked ≡ true) same there, both ((op.client == c && is_some (operation_in c place op)) && not (list_any (is_choice_for op) place)) true (both (op.client == c && is_some (operation_in c place op)) _ (both (op.client == c) _ (left (op.client == c) _ (left _ _ known.within)) (within_there c place op known.within)) (ap not known.unchosen)) refl)) (choice_all is_quiet (λ id rest. refl) (row_named l.state op) a);
          answered = λ at sender op rest is_last who r e here. quiet at (taken sender (Reply op rest is_last who)) (what.Out r.request.id rest ∷ []) refl;
          failed = λ at sender op which r e here. quiet at (taken sender (Failed op which)) (refused r.request which) (refused_all is_quiet (λ id rest. refl) r.request which);
          late = λ at mark op e here about. quiet at mark (what.Late op ∷ []) refl;
          breaks = λ at why there e n. quiet at None (noticed why) refl;
          severed = λ at why here e. quiet at None (what.Gone why ∷ []) refl;
          stalls = λ at here. quiet at None (what.Stalled ∷ []) refl;
          flows = λ at here. quiet at None (what.Flowing ∷ []) refl;
        }
