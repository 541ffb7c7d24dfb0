-- Each Leave that was taken was given where its client left an exchange of which no Bind was answered for good.
use Rattle.std.proofs.Common.{◌≡◌, inl, ℕ, Bool, true, false, ◌&&◌, ◌||◌, not, List, [], ◌∷◌, ◌++◌, refl, ap, ◌∙◌, subst, append_assoc, Option, Some, None, is_some}
use Rattle.std.specs.List.{list_any}
use Rattle.lload_names.specs.declared.names.EndWhy.{EndWhy}
use Rattle.lload_names.specs.declared.names.Entry.{Entry}
use Rattle.lload_names.specs.declared.names.OpKind.TheVariants.{Bind}
use Rattle.lload_names.specs.declared.names.OpName.{OpName}
use Rattle.lload_names.specs.declared.names.PartName.TheVariants.{Client, Up as Connection}
use Rattle.lload_names.specs.declared.names.PartName.{PartName}
use Rattle.lload_names.specs.declared.names.Refusal.{Refusal}
use Rattle.lload_names.specs.declared.names.What.TheVariants as what
use Rattle.ldap_spec.specs.Requests.{request}
use Rattle.lload_spec.specs.CausedUp.{has_other_version}
use Rattle.lload_spec.specs.Entries.{gone_why, in_message, is_choice_of, is_gone}
use Rattle.lload_spec.specs.FirstCheck.{Refuses}
use Rattle.lload_spec.specs.Journal.{Family, same_part}
use Rattle.lload_spec.specs.Lists.{passes, some_entry, some_split_from}
use Rattle.lload_spec.specs.Operations.{Operation, is_live, is_request_of, operation_in, operations}
use Rattle.lload_spec.specs.Settings.{Settings}
use Rattle.lload_spec.proofs.Growth.{both, left, right}
use Rattle.part_spec.specs.ClientState.{check_at, step_client}
use Rattle.part_spec.specs.Fit.{ClientLedger, empty_client_ledger, fit_beginning, is_leave_of, step_client_ledger}
use Rattle.part_spec.specs.Gives.{client_gives, client_letters, gives}
use Rattle.part_spec.specs.Laws.{FitIsWhole}
use Rattle.part_spec.specs.Marked.{Marked, entries}
use Rattle.part_spec.specs.Share.{ClientShare}
use Rattle.lload_laws.proofs.ListLaws.{any_imply}
use Rattle.part_laws.proofs.ListLaws.{any_split, or_elim, or_left, or_right}
use Rattle.client_laws.proofs.ClientClauses.{nothing_kept}
use Rattle.client_laws.proofs.ClientOuts.{EndsOnce}
use Rattle.client_answer_laws.proofs.FitTurns.{fit_turns}
use Rattle.client_answer_laws.proofs.ToldKept.{ToldKept, told_begins, told_more}
use Rattle.joined_laws.proofs.Taken.{is_mark_from, was_given}
use Rattle.forward_laws.proofs.Causes.{is_live_choice}
use Rattle.forward_laws.proofs.Ops.{operation_later}
use Rattle.forward_laws.proofs.Sendings.{given_to}
use Rattle.carried_laws.specs.Laws.{Played}
use Rattle.identity_laws.proofs.Finals.{Timely, timely}
use Rattle.leave_laws.proofs.Along.{Along, Here, along}
use Rattle.leave_laws.proofs.Letters.{Holds, is_left_there, left_at}
use Rattle.leave_laws.proofs.Ours.{Alive, alive_next}
use Rattle.leave_laws.proofs.Refused.{refused_version}
use Rattle.left_laws.proofs.ExchangeOver.{ends_from}
use Rattle.idle_laws.proofs.Opens.{AreLow, IsOpen, low_more, open_more}

-- whether an entry leaves the exchange of this holder, no Bind of which was answered for good
abbrev pub leaves_open : OpName → List Entry → Entry → Bool
leaves_open h place e =
    (is_gone e || passes (λ m. passes has_other_version (request m.rest)) (in_message e.what))
    && is_some (operation_in h.client place h) && not (list_any (ends_from h.k) (operations h.client place))

-- what was chosen while it was live is there
chosen_there : (h : OpName) (u : ℕ) (before L : List Entry) → some_split_from (λ b x d. is_live_choice h.client h u b x) before L ≡ true → is_some (operation_in h.client (before ++ L) h) ≡ true
chosen_there h u before [] k = absurd (let bad : false ≡ true = k in cc)
chosen_there h u before (x ∷ L) k = or_elim (is_live_choice h.client h u before x) (some_split_from (λ b y d. is_live_choice h.client h u b y) (before ++ x ∷ []) L) here (λ j. subst (λ l. is_some (operation_in h.client l h) ≡ true) (append_assoc before (x ∷ []) L) (chosen_there h u (before ++ x ∷ []) L j)) k
  where
    of : (o : Option Operation) → operation_in h.client before h ≡ o → passes is_live o ≡ true → is_some (operation_in h.client (before ++ x ∷ L) h) ≡ true
    of None z j = absurd (let bad : false ≡ true = j in cc)
    of (Some o) z j = ap is_some (operation_later h.client h.k before (x ∷ L) o z).found

    here : is_live_choice h.client h u before x ≡ true → is_some (operation_in h.client (before ++ x ∷ L) h) ≡ true
    here j = of (operation_in h.client before h) refl (right (is_choice_of h u x) _ j)

module _ (s : Settings) (u : ℕ) (h : OpName) where
  -- at the entry that gives it
  head_open : (place : List Entry) (b : List Marked) (l : ClientLedger) (m : Marked) (ms : List Marked) → Here s h.client place b l m ms → IsOpen h.client place l.state.hold → list_any (is_left_there h u) (client_letters s l.state m.entry.at m.entry.what) ≡ true → leaves_open h place m.entry ≡ true
  head_open place b l m ms here opens k = left_at s h u l.state m.entry.at m.entry.what k gone refused
    where
      there : Holds l.state h u → is_some (operation_in h.client place h) ≡ true
      there g = chosen_there h u [] place (subst (λ v. some_entry (is_live_choice h.client v u) place ≡ true) g.name (subst (λ v. some_entry (is_live_choice h.client g.held.holder v) place ≡ true) g.there (here.stands.chosen g.held g.holds)))

      unclosed : Holds l.state h u → list_any (ends_from h.k) (operations h.client place) ≡ false
      unclosed g = subst (λ (v : OpName). list_any (ends_from v.k) (operations h.client place) ≡ false) g.name (opens g.held g.holds)

      leaves : Holds l.state h u → (is_gone m.entry || passes (λ x. passes has_other_version (request x.rest)) (in_message m.entry.what)) ≡ true → leaves_open h place m.entry ≡ true
      leaves g i = both ((is_gone m.entry || passes (λ x. passes has_other_version (request x.rest)) (in_message m.entry.what)) && is_some (operation_in h.client place h)) _ (both (is_gone m.entry || passes (λ x. passes has_other_version (request x.rest)) (in_message m.entry.what)) _ i (there g)) (ap not (unclosed g))

      gone : (why : EndWhy) → m.entry.what ≡ what.Gone why → Holds l.state h u → leaves_open h place m.entry ≡ true
      gone why e g = leaves g (or_left (is_gone m.entry) _ (ap (λ w. passes (λ _. true) (gone_why w)) e))

      refused : (id : ℕ) (body : List ℕ) (which : Refusal) → m.entry.what ≡ what.In id body → check_at s l.state (record { id = id; rest = body }) ≡ Refuses which → is_request_of Bind (record { id = id; rest = body }) ≡ true → Holds l.state h u → leaves_open h place m.entry ≡ true
      refused id body which e c bind g = leaves g (or_right (is_gone m.entry) _ (ap (λ w. passes (λ x. passes has_other_version (request x.rest)) (in_message w)) e ∙ refused_version s l.state (record { id = id; rest = body }) which c bind))

  walk : (place : List Entry) (b : List Marked) (l : ClientLedger) (ms : List Marked) → Along s h.client place b l ms → Alive h.client place l.state ms → Timely h.client place (entries ms) → AreLow h.client place → IsOpen h.client place l.state.hold → list_any (is_left_there h u) (client_gives s l.state ms) ≡ true → some_split_from (λ q e d. leaves_open h q e) place (entries ms) ≡ true
  walk place b l [] a alive time low opens k = absurd (let bad : false ≡ true = k in cc)
  walk place b l (m ∷ ms) a alive time low opens k =
      any_split (is_left_there h u) (client_letters s l.state m.entry.at m.entry.what) (client_gives s (step_client s l.state m) ms)
      (λ j. or_left (leaves_open h place m.entry) _ (head_open place b l m ms a.0 opens j))
      (λ j. or_right (leaves_open h place m.entry) _ (walk (place ++ m.entry ∷ []) (b ++ m ∷ []) (step_client_ledger s l m) ms a.1 (alive_next s h.client place l.state m ms a.0.stands.count a.0.checked alive) time.1 (low_more h.client place m.entry low) (open_more s h.client place b l m ms a.0 alive time.0 low opens) j)) k

module _ (fit_whole : FitIsWhole) (s : Settings) (F : Family) (marked : PartName → List Marked) (h : Played s F marked) (u : ℕ) (n : OpName) where
  share : ClientShare s n.client (marked (Client n.client))
  share = h.joined.shared.shares (Client n.client)

  once : EndsOnce n.client (entries (marked (Client n.client)))
  once =
      subst (λ b. EndsOnce n.client (entries b)) (fit_whole s (Client n.client) (marked (Client n.client)) (h.joined.fit (Client n.client)))
      (subst (λ l. EndsOnce n.client (entries (fit_beginning s (Client n.client) l))) (h.clients n.client).same
      (fit_turns s n.client (ToldKept s n.client) (told_more s n.client) (λ b. EndsOnce n.client (entries b)) (λ before l keeps turns k. k.once) (told_begins s n.client) (h.clients n.client).events))

  time : Timely n.client [] (entries (marked (Client n.client)))
  time = timely n.client [] (entries (marked (Client n.client))) once

  -- what a connection took
  pub took_open : list_any (λ m. is_mark_from (Client n.client) (is_leave_of n) m.mark) (marked (Connection u)) ≡ true → some_entry (leaves_open n) (F.client n.client) ≡ true
  took_open k =
      subst (λ l. some_entry (leaves_open n) l ≡ true) (h.joined.shared.same_entries (Client n.client))
      (walk s u n [] [] (empty_client_ledger n.client) (marked (Client n.client)) (along s n.client (marked (Client n.client)) share (h.joined.fit (Client n.client))) (inl (nothing_kept s n.client).lives) time refl (λ x e. absurd (let bad : None ≡ Some x = e in cc))
      (any_imply (λ x. same_part (Connection u) x.to && is_leave_of n x.letter) (is_left_there n u) (gives s (Client n.client) (marked (Client n.client))) (λ x j. both (is_leave_of n x.letter) _ (right (same_part (Connection u) x.to) _ j) (left (same_part (Connection u) x.to) _ j))
      (given_to (Connection u) (is_leave_of n) (gives s (Client n.client) (marked (Client n.client))) (was_given s F marked h.joined.linked (Client n.client) (Connection u) (is_leave_of n) k))))
