-- No client is told anything for an operation before its choice: through its turns.
use Rattle.std.proofs.Common.{◌≡◌, ℕ, Bool, true, false, ◌&&◌, not, List, [], ◌∷◌, ◌++◌, refl, ap, ◌∙◌, sym, subst, append_assoc}
use Rattle.std.specs.Prelude.{Option, Some, None, is_some}
use Rattle.std.specs.List.{list_all, list_any}
use Rattle.std.proofs.lemmas.List.{append-nil, map-append}
use Rattle.ldap_spec.specs.Bodies.{refusal}
use Rattle.ldap_spec.specs.Kinds.{kind_of}
use Rattle.ldap_spec.specs.Messages.{Message}
use Rattle.lload_names.specs.declared.names.Answer.{Answer}
use Rattle.lload_names.specs.declared.names.Answer.TheVariants.{Busy, Go, Unavailable}
use Rattle.lload_names.specs.declared.names.CancelAnswer.TheVariants.{S1}
use Rattle.lload_names.specs.declared.names.Entry.{Entry}
use Rattle.lload_names.specs.declared.names.Letter.{Letter}
use Rattle.lload_names.specs.declared.names.Letter.TheVariants.{Choice, Failed, Reply}
use Rattle.lload_names.specs.declared.names.OpKind.{OpKind}
use Rattle.lload_names.specs.declared.names.OpName.{OpName}
use Rattle.lload_names.specs.declared.names.PartName.{PartName}
use Rattle.lload_names.specs.declared.names.PartName.TheVariants.{Client, Up as Connection}
use Rattle.lload_names.specs.declared.names.Refusal.{Refusal}
use Rattle.lload_names.specs.declared.names.Refusal.TheVariants.{C1, C3}
use Rattle.lload_names.specs.declared.names.What.{What}
use Rattle.lload_names.specs.declared.names.What.TheVariants as what
use Rattle.lload_spec.specs.Entries.{in_message}
use Rattle.lload_spec.specs.FirstCheck.{Abandons, Answers, Cancels, Check, Ends, GoesOn, Refuses, Unbinds, client_facts}
use Rattle.lload_spec.specs.Journal.{Family, same_op, same_part}
use Rattle.lload_spec.specs.Lists.{each_split_from, passes}
use Rattle.lload_spec.specs.Settings.{Settings}
use Rattle.lload_spec.specs.Strict.{is_choice_for, is_out_chosen}
use Rattle.lload_spec.proofs.Growth.{left, right, both}
use Rattle.lload_laws.proofs.ListLaws.{all_always, found_passes}
use Rattle.part_laws.specs.Turns.{Event, list_from, made}
use Rattle.part_laws.proofs.Induction.{sees_behind}
use Rattle.part_laws.proofs.ListLaws.{any_behind, not_true, or_left, same_op_eq, same_op_refl, splits_grow}
use Rattle.part_spec.specs.ClientState.{ClientRow, check_at, asked_behind, client_of, empty_client, facts_of, row_named, step_client}
use Rattle.part_spec.specs.ClientTurn.{noticed, refused, whats_by, whats_for}
use Rattle.part_spec.specs.Fit.{ClientLedger, Expected, answers, are_fit_from, empty_client_ledger, expected_from, fits_client, is_known, is_loss, is_unfit, step_client_ledger, ledger_behind as behind}
use Rattle.part_spec.specs.Inputs.{entries_of}
use Rattle.part_spec.specs.Marked.{Marked, Taken, entries}
use Rattle.client_laws.specs.Turns.{client_event, client_list}
use Rattle.client_laws.proofs.ClientClauses.{Keeps, entries_marked, event_keeps, nothing_kept}
use Rattle.client_laws.proofs.ClientTurns.{client_turn_of, lives_through, steps_are}
use Rattle.client_laws.proofs.Matches.{ClientLives}
use Rattle.client_share_laws.proofs.ClientCases.{Cases, event_case, taken}
use Rattle.client_share_laws.proofs.Whats.{canceled_all, choice_all, refused_all}
use Rattle.client_answer_laws.proofs.Each.{each_found}
use Rattle.client_answer_laws.proofs.Known.{none_asked}
use Rattle.client_answer_laws.proofs.Life.{FirstFits, fit_asked, not_false}
use Rattle.identity_laws.specs.Laws.{ClientsAreKnown}
use Rattle.told_laws.specs.Laws.{OutsAreChosen}
use Rattle.told_laws.proofs.Letters.{of_operation}
use Rattle.told_laws.proofs.Expecting.{Expects, Told, is_plain, may_expect, told_plain, told_turn}
use Rattle.told_laws.proofs.Lives.{row_told}
use Rattle.told_laws.proofs.Outs.{Outs, checked_goes, is_silent, may_go, refused_goes, silent, zero_goes}

check_plain : (m : Message) (k : Check) → list_all is_plain (whats_by m k) ≡ true
check_plain m (Ends why) = refl
check_plain m Unbinds = refl
check_plain m (Abandons id) = refl
check_plain m (Refuses which) = refused_all is_plain (λ id rest. refl) m which
check_plain m (Answers which) = canceled_all is_plain (λ id rest. refl) m.id (kind_of m.rest) which
check_plain m (Cancels id kind) = canceled_all is_plain (λ i rest. refl) m.id (kind_of m.rest) S1
check_plain m GoesOn = refl

-- a letter that is fit is one that is expected
expected_told : (s : Settings) (F : Family) (c : ℕ) (place : List Entry) (l : ClientLedger) → Told s F c place l → (sender : PartName) (op : OpName) (t : Expected → Bool) (q : Option Expected) → expected_from l sender op ≡ q → passes t q ≡ true → may_expect s F c place op ≡ true
expected_told s F c place l h sender op t None e k = absurd (let bad : false ≡ true = k in cc)
expected_told s F c place l h sender op t (Some x) e k = subst (λ n. may_expect s F c place n ≡ true) (sym (same_op_eq op x.op (left (same_op op x.op) _ (found_passes (λ y. same_op op y.op && same_part sender (Connection y.connection)) l.expected x e)))) (each_found (Expects s F c place) (λ y. same_op op y.op && same_part sender (Connection y.connection)) l.expected x e h.expects)

pub fit_expected : (s : Settings) (F : Family) (c : ℕ) (place : List Entry) (l : ClientLedger) → Told s F c place l → (sender : PartName) (op : OpName) (x : Letter) → of_operation op x ≡ true → fits_client s l sender x ≡ true → may_expect s F c place op ≡ true
fit_expected s F c place l h sender op (Reply o rest is_last who) k f = subst (λ n. may_expect s F c place n ≡ true) (sym (same_op_eq op o k)) (expected_told s F c place l h sender o (λ x. answers x.request rest is_last && is_known s x.request rest who) (expected_from l sender o) refl f)
fit_expected s F c place l h sender op (Failed o which) k f = subst (λ n. may_expect s F c place n ≡ true) (sym (same_op_eq op o k)) (expected_told s F c place l h sender o (λ x. is_loss s x.request which) (expected_from l sender o) refl f)
fit_expected s F c place l h sender op _ k f = absurd (let bad : false ≡ true = k in cc)

-- Turns of a client whose whole list is this one.
module _ (s : Settings) (F : Family) (c : ℕ) (list : List Marked) (known : (before : List Marked) (m : Marked) (ms : List Marked) → list ≡ before ++ m ∷ ms → is_some (in_message m.entry.what) ≡ true → facts_of (client_of s c before) ≡ client_facts s F c (entries before)) where
  module _ (before : List Marked) (l : ClientLedger) (keeps : Keeps s c before l.state) (h : Told s F c (entries before) l) where
    abbrev place : List Entry
    place = entries before

    abbrev n : ℕ
    n = l.state.number

    -- what is known behind the turn, and that each Out of it may stand where it does
    abbrev Done : List Marked → Type 0
    Done turn = (rest : List Marked) → list ≡ before ++ (turn ++ rest) → FirstFits s l turn → Told s F c (entries before ++ entries turn) (behind (step_client_ledger s) l turn) × Outs s F c (entries before) (entries turn)

    outs_of : (at : ℕ) (mark : Option Taken) (ws : List What) → Outs s F c place (entries_of (Client n) at ws) → Outs s F c place (entries (client_turn_of n at mark ws))
    outs_of at mark ws k = subst (Outs s F c place) (sym (entries_marked mark (entries_of (Client n) at ws))) k

    plain : (at : ℕ) (mark : Option Taken) (ws : List What) → list_all is_plain ws ≡ true → (FirstFits s l (client_turn_of n at mark ws) → Outs s F c place (entries_of (Client n) at ws)) → Done (client_turn_of n at mark ws)
    plain at mark ws q k rest e u = (told_plain s F c n at ws mark place l h q, outs_of at mark ws (k u))

    quiet : (at : ℕ) (mark : Option Taken) (ws : List What) → list_all is_plain ws ≡ true → list_all (is_silent s F c) ws ≡ true → Done (client_turn_of n at mark ws)
    quiet at mark ws q z = plain at mark ws q (λ u. silent s F c n at ws place z)

    -- a letter of a live operation
    goes : (sender : PartName) (op : OpName) (x : Letter) (r : ClientRow) → of_operation op x ≡ true → row_named l.state op ≡ Some r → is_unfit (fits_client s) l (taken sender x) ≡ false → may_go s F c place r.request.id ≡ true
    goes sender op x r k e u = row_told s F c place l.state keeps.lives keeps.says.number op r e (fit_expected s F c place l h sender op x k (not_false (fits_client s l sender x) u))

    failed_turn : (at : ℕ) (sender : PartName) (op : OpName) (which : Refusal) (r : ClientRow) → row_named l.state op ≡ Some r → Done (client_turn_of n at (taken sender (Failed op which)) (refused r.request which))
    failed_turn at sender op which r e = by (kind_of r.request.rest)
      where
        by : (o : Option OpKind) → Done (client_turn_of n at (taken sender (Failed op which)) (elim o [ None ↦ [] | Some kind ↦ what.Out r.request.id (refusal kind which) ∷ [] ]))
        by None = quiet at (taken sender (Failed op which)) [] refl refl
        by (Some kind) = plain at (taken sender (Failed op which)) (what.Out r.request.id (refusal kind which) ∷ []) refl (λ u. both (may_go s F c place r.request.id) true (goes sender op (Failed op which) r (same_op_refl op) e u) refl)

    -- a live operation that was chosen none
    refused_behind : (at : ℕ) (op : OpName) (a : Answer) (r : ClientRow) → row_named l.state op ≡ Some r → ClientLives c (place ++ record { part = Client n; at = at; what = what.Chosen op a } ∷ []) (record l.state { moment = at; asked = asked_behind s l.state (what.Chosen op a) }) → may_go s F c (place ++ record { part = Client n; at = at; what = what.Chosen op a } ∷ []) r.request.id ≡ true
    refused_behind at op a r e lives =
        let chosen : Entry = record { part = Client n; at = at; what = what.Chosen op a } in
        row_told s F c (place ++ chosen ∷ []) (record l.state { moment = at; asked = asked_behind s l.state (what.Chosen op a) }) lives keeps.says.number op r e (or_left (list_any (is_choice_for op) (place ++ chosen ∷ [])) _ (any_behind (is_choice_for op) place (chosen ∷ []) (or_left (is_choice_for op chosen) false (same_op_refl op))))

    -- a choice, and the refusal behind it
    choice_outs : (at : ℕ) (op : OpName) (o : Option ClientRow) (a : Answer) → row_named l.state op ≡ o → Outs s F c (place ++ record { part = Client n; at = at; what = what.Chosen op a } ∷ []) (entries_of (Client n) at (whats_for o a))
    choice_outs at op None (Go u b) e = refl
    choice_outs at op None Busy e = refl
    choice_outs at op None Unavailable e = refl
    choice_outs at op (Some r) (Go u b) e = refl
    choice_outs at op (Some r) Busy e = refused_goes s F c n at (place ++ record { part = Client n; at = at; what = what.Chosen op Busy } ∷ []) r.request C1 (λ kind k. refused_behind at op Busy r e (lives_through s c n at (what.Chosen op Busy ∷ []) None place l.state keeps.lives (refl, tt)))
    choice_outs at op (Some r) Unavailable e = refused_goes s F c n at (place ++ record { part = Client n; at = at; what = what.Chosen op Unavailable } ∷ []) r.request C3 (λ kind k. refused_behind at op Unavailable r e (lives_through s c n at (what.Chosen op Unavailable ∷ []) None place l.state keeps.lives (refl, tt)))

    chosen_turn : (at : ℕ) (sender : PartName) (op : OpName) (a : Answer) → Done (client_turn_of n at (taken sender (Choice op a)) (what.Chosen op a ∷ whats_for (row_named l.state op) a))
    chosen_turn at sender op a rest e u = (
      told_turn s F c n at (what.Chosen op a) (whats_for (row_named l.state op) a) (taken sender (Choice op a)) place l h (λ o b z. let same : op ≡ o = cc in subst (λ x. list_any (λ y. same_op x y.op) l.state.asked ≡ true) same (fit_asked s l sender op a u)) (λ m z. absurd (let bad : what.Chosen op a ≡ what.In m.id m.rest = z in cc)) (choice_all is_plain (λ id body. refl) (row_named l.state op) a),
      outs_of at (taken sender (Choice op a)) (what.Chosen op a ∷ whats_for (row_named l.state op) a) (choice_outs at op (row_named l.state op) a refl),
    )

    -- a message
    checked_turn : (at : ℕ) (m : Message) (k : Check) → check_at s l.state m ≡ k → Done (client_turn_of n at None (what.In m.id m.rest ∷ whats_by m k))
    checked_turn at m k z rest e u =
        let came : Marked = record { entry = record { part = Client n; at = at; what = what.In m.id m.rest }; mark = None } in
        let facts : facts_of l.state ≡ client_facts s F c place = ap facts_of (keeps.state ∙ sym (steps_are s (empty_client c) before)) ∙ known before came _ e refl in (
          told_turn s F c n at (what.In m.id m.rest) (whats_by m k) None place l h (none_asked l.state (what.In m.id m.rest) refl) (λ x y. facts) (check_plain m k),
          outs_of at None (what.In m.id m.rest ∷ whats_by m k) (checked_goes s F c n at place l.state keeps.lives keeps.says.number m facts k z),
        )

    outs_cases : Cases s l.state Done
    outs_cases =
        record {
          none = λ rest e u. (subst (λ b. Told s F c b l) (sym (append-nil place)) h, refl);
          arrives = λ at fresh. quiet at None (what.Arrived ∷ []) refl refl;
          checked = λ at m e f. checked_turn at m (check_at s l.state m) refl;
          chosen = λ at sender op a here. chosen_turn at sender op a;
          answered = λ at sender op body is_last who r e here. plain at (taken sender (Reply op body is_last who)) (what.Out r.request.id body ∷ []) refl (λ u. both (may_go s F c place r.request.id) true (goes sender op (Reply op body is_last who) r (same_op_refl op) e u) refl);
          failed = λ at sender op which r e here. failed_turn at sender op which r e;
          late = λ at mark op e here about. quiet at mark (what.Late op ∷ []) refl refl;
          breaks = λ at why there e z. plain at None (noticed why) refl (λ u. both (may_go s F c place 0) true (zero_goes s F c place) refl);
          severed = λ at why here e. quiet at None (what.Gone why ∷ []) refl refl;
          stalls = λ at here. quiet at None (what.Stalled ∷ []) refl refl;
          flows = λ at here. quiet at None (what.Flowing ∷ []) refl refl;
        }

  -- Through all turns.
  outs_from : (xs : List Event) (before : List Marked) (l : ClientLedger) → Keeps s c before l.state → Told s F c (entries before) l → list ≡ before ++ list_from (step_client s) (client_event s) l.state xs → are_fit_from (fits_client s) (step_client_ledger s) l (list_from (step_client s) (client_event s) l.state xs) ≡ true → Outs s F c (entries before) (entries (list_from (step_client s) (client_event s) l.state xs))
  outs_from [] before l keeps h e fit = refl
  outs_from (x ∷ xs) before l keeps h e fit =
      let turn : List Marked = made (client_event s) l.state x in
      let next : ClientLedger = behind (step_client_ledger s) l turn in
      let rest : List Marked = list_from (step_client s) (client_event s) (behind (step_client s) l.state turn) xs in
      let seen : next.state ≡ behind (step_client s) l.state turn = sees_behind (fits_client s) (step_client_ledger s) (step_client s) (λ k. k.state) (λ k m. refl) l turn in
      let same : list_from (step_client s) (client_event s) next.state xs ≡ rest = ap (λ q. list_from (step_client s) (client_event s) q xs) seen in
      let grown : entries (before ++ turn) ≡ entries before ++ entries turn = map-append (λ (m : Marked). m.entry) before turn in
      let done : Told s F c (entries before ++ entries turn) next × Outs s F c (entries before) (entries turn) = event_case s l.state (Done before l keeps h) (outs_cases before l keeps h) x rest e (first_fits l turn rest fit) in
      let later : Outs s F c (entries (before ++ turn)) (entries (list_from (step_client s) (client_event s) next.state xs)) = outs_from xs (before ++ turn) next (subst (Keeps s c (before ++ turn)) (sym seen) (event_keeps s c before l.state x keeps)) (subst (λ b. Told s F c b next) (sym grown) done.0) (e ∙ sym (append_assoc before turn rest) ∙ ap (λ r. (before ++ turn) ++ r) (sym same)) (ap (are_fit_from (fits_client s) (step_client_ledger s) next) same ∙ rest_fit l turn rest fit) in
      subst (Outs s F c (entries before)) (sym (map-append (λ (m : Marked). m.entry) turn rest)) (splits_grow (λ b y r. is_out_chosen s F c b y) (entries before) (entries turn) (entries rest) (λ b y r j. j) done.1 (subst (λ b. Outs s F c b (entries rest)) grown (subst (λ r. Outs s F c (entries (before ++ turn)) (entries r)) same later)))
    where
      first_fits : (q : ClientLedger) (ms ns : List Marked) → are_fit_from (fits_client s) (step_client_ledger s) q (ms ++ ns) ≡ true → FirstFits s q ms
      first_fits q [] ns f = tt
      first_fits q (m ∷ ms) ns f = not_true (is_unfit (fits_client s) q m.mark) (left (not (is_unfit (fits_client s) q m.mark)) _ f)

      rest_fit : (q : ClientLedger) (ms ns : List Marked) → are_fit_from (fits_client s) (step_client_ledger s) q (ms ++ ns) ≡ true → are_fit_from (fits_client s) (step_client_ledger s) (behind (step_client_ledger s) q ms) ns ≡ true
      rest_fit q [] ns f = f
      rest_fit q (m ∷ ms) ns f = rest_fit (step_client_ledger s q m) ms ns (right (not (is_unfit (fits_client s) q m.mark)) _ f)

pub outs_chosen : ClientsAreKnown → OutsAreChosen
outs_chosen are_known s F marked h = all_always (λ c. each_split_from (λ b e r. is_out_chosen s F c b e) [] (F.client c)) F.clients client
  where
    nothing_told : (c : ℕ) → Told s F c [] (empty_client_ledger c)
    nothing_told c = record { known = record { says = (nothing_kept s c).says; count = refl; rows = tt; asks = record { each = tt; choices = refl } }; expected = tt; expects = tt }

    client : (c : ℕ) → each_split_from (λ b e r. is_out_chosen s F c b e) [] (F.client c) ≡ true
    client c =
        let same : client_list s c (h.clients c).events ≡ marked (Client c) = (h.clients c).same in
        let all : Outs s F c [] (entries (client_list s c (h.clients c).events)) = outs_from s F c (marked (Client c)) (are_known s F marked h c) (h.clients c).events [] (empty_client_ledger c) (nothing_kept s c) (nothing_told c) (sym same) (subst (λ b. are_fit_from (fits_client s) (step_client_ledger s) (empty_client_ledger c) b ≡ true) (sym same) (h.joined.fit (Client c))) in
        subst (λ es. each_split_from (λ b e r. is_out_chosen s F c b e) [] es ≡ true) (ap entries same ∙ h.joined.shared.same_entries (Client c)) all
