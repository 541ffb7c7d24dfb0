-- Each turn of a client keeps that what it expects of a connection has a row that went there, or its Drop was given.
use Rattle.std.proofs.Common.{◌≡◌, ◌⊎◌, inl, inr, ℕ, Bool, true, false, ◌==◌, ◌&&◌, not, if◌then◌else◌, List, [], ◌∷◌, ◌++◌, refl, ap, ◌∙◌, sym, subst}
use Rattle.std.specs.Prelude.{Option, Some, None, filter, find, is_some, map, max, nat_le, nat_lt, unwrap_or}
use Rattle.std.specs.List.{list_any, list_all}
use Rattle.std.proofs.lemmas.List.{append-nil}
use Rattle.ldap_spec.specs.Bodies.{protocol_error_notice, refusal}
use Rattle.ldap_spec.specs.Kinds.{fits, is_final, kind_of, same_kind}
use Rattle.ldap_spec.specs.Messages.{Message}
use Rattle.lload_names.specs.declared.inputs.Effects.{Effects}
use Rattle.lload_names.specs.declared.inputs.Input.{Input}
use Rattle.lload_names.specs.declared.inputs.Input.TheVariants.{Arrive, Message as MessageIn, LetterFrom, LinkGone, Stall, Flow}
use Rattle.lload_names.specs.declared.names.Answer.{Answer}
use Rattle.lload_names.specs.declared.names.Answer.TheVariants.{Go, Busy, Unavailable}
use Rattle.lload_names.specs.declared.names.CancelAnswer.{CancelAnswer}
use Rattle.lload_names.specs.declared.names.CancelAnswer.TheVariants.{S1}
use Rattle.lload_names.specs.declared.names.EndWhy.{EndWhy}
use Rattle.lload_names.specs.declared.names.EndWhy.TheVariants.{Bad, TooBig}
use Rattle.lload_names.specs.declared.names.Entry.{Entry}
use Rattle.lload_names.specs.declared.names.Letter.{Letter}
use Rattle.lload_names.specs.declared.names.Letter.TheVariants.{Choice, Failed, Reply}
use Rattle.lload_names.specs.declared.names.OpKind.{OpKind}
use Rattle.lload_names.specs.declared.names.OpKind.TheVariants.{Bind}
use Rattle.lload_names.specs.declared.names.OpName.{OpName}
use Rattle.lload_names.specs.declared.names.PartName.{PartName}
use Rattle.lload_names.specs.declared.names.PartName.TheVariants.{Client, Up as Connection}
use Rattle.lload_names.specs.declared.names.Posted.{Posted}
use Rattle.lload_names.specs.declared.names.Refusal.{Refusal}
use Rattle.lload_names.specs.declared.names.Refusal.TheVariants.{C1, C3}
use Rattle.lload_names.specs.declared.names.What.{What}
use Rattle.lload_names.specs.declared.names.What.TheVariants as what
use Rattle.lload_spec.specs.Binding.{kind_wanted}
use Rattle.lload_spec.specs.Entries.{is_link_reason}
use Rattle.lload_spec.specs.FirstCheck.{Check, Ends, Unbinds, Abandons, Refuses, Answers, Cancels, GoesOn, lets_go_on}
use Rattle.lload_spec.specs.Journal.{same_op, same_part}
use Rattle.lload_spec.specs.Lists.{agrees, passes}
use Rattle.lload_spec.specs.Operations.{Operation, is_final_for, is_request_of, operation_in, operations}
use Rattle.lload_spec.specs.Settings.{Settings}
use Rattle.lload_spec.specs.Strict.{is_choice_for}
use Rattle.lload_spec.proofs.Growth.{both, left, right}
use Rattle.lload_laws.proofs.ListLaws.{found_passes, implied}
use Rattle.part_laws.specs.Turns.{Event, Comes, Severed, made, no_effects}
use Rattle.part_laws.proofs.Induction.{sees_behind}
use Rattle.part_laws.proofs.ListLaws.{eq_eqb, eqb_same, false_by, filter-all, not_true, same_number, same_op_eq}
use Rattle.part_spec.specs.ClientState.{ClientRow, ClientState, check_at, facts_of, forwarded, held_connection, is_bind_row, is_holding, is_present, new_row, next_name, row_named, step_client, with_connection}
use Rattle.part_spec.specs.ClientTurn.{answer, by_check, canceled, choice, client_act, client_sever, closing, failure, flows, letter, letters_by, letters_for, link_gone, message, refused, resumes, stall_letters, stalls, whats_by, whats_for}
use Rattle.part_spec.specs.Fit.{ClientLedger, Expected, answers, expected_behind, expected_from, fits_client, going_to, is_last_by, is_known, is_unfit, ledger_behind, step_client_ledger, with_forward}
use Rattle.part_spec.specs.Inputs.{Act, act, entries_of, letter_of, marked_by, moment_for, nothing, where_so}
use Rattle.part_spec.specs.Marked.{Marked, Taken, entries}
use Rattle.client_laws.specs.Turns.{client_event}
use Rattle.client_laws.proofs.ClientClauses.{Keeps}
use Rattle.client_laws.proofs.ClientTurns.{client_turn_of}
use Rattle.client_laws.proofs.KindsKept.{carried_kind}
use Rattle.client_answer_laws.proofs.Asks.{AskKnown, asked_known}
use Rattle.client_answer_laws.proofs.Each.{Each, each_append, each_both, each_filter, each_found, each_imply}
use Rattle.client_answer_laws.proofs.Expects.{ExpectKnown}
use Rattle.client_answer_laws.proofs.Known.{Known, within_there}
use Rattle.client_answer_laws.proofs.Life.{FirstFits, fit_asked, not_false}
use Rattle.client_answer_laws.proofs.ToldKept.{ToldKept}
use Rattle.client_answer_laws.proofs.Waits.{Carries, IsOf, RowKnown}
use Rattle.expect_laws.specs.Laws.{has_row, is_dropped, went_as}
use Rattle.expect_laws.proofs.Acts.{checked, chosen, out_named}
use Rattle.expect_laws.proofs.Rows.{any_found, drop_before, drop_behind, found_map, in_closing}

-- what is said of an operation that is expected
abbrev pub Fate : List Posted → ClientLedger → Expected → Type 0
Fate given l x = is_request_of Bind x.request ≡ false → (has_row x l.state.rows ≡ true) ⊎ (is_dropped x given ≡ true)

abbrev pub Fates : List Posted → ClientLedger → Type 0
Fates given l = Each (Fate given l) l.expected

-- behind the first entry of a turn
abbrev is_quiet : What → Bool
is_quiet (what.Out id rest) = true
is_quiet (what.Gone why) = true
is_quiet _ = false

quiet_refused : (m : Message) (which : Refusal) → list_all is_quiet (refused m which) ≡ true
quiet_refused m which = by (kind_of m.rest)
  where
    by : (o : Option OpKind) → list_all is_quiet (elim o [ None ↦ [] | Some kind ↦ what.Out m.id (refusal kind which) ∷ [] ]) ≡ true
    by None = refl
    by (Some kind) = refl

quiet_canceled : (id : ℕ) (o : Option OpKind) (which : CancelAnswer) → list_all is_quiet (canceled id o which) ≡ true
quiet_canceled id None which = refl
quiet_canceled id (Some kind) which = refl

quiet_check : (m : Message) (k : Check) → list_all is_quiet (whats_by m k) ≡ true
quiet_check m (Ends why) = refl
quiet_check m Unbinds = refl
quiet_check m (Abandons id) = refl
quiet_check m (Refuses which) = quiet_refused m which
quiet_check m (Answers which) = quiet_canceled m.id (kind_of m.rest) which
quiet_check m (Cancels id kind) = quiet_canceled m.id (kind_of m.rest) S1
quiet_check m GoesOn = refl

quiet_choice : (o : Option ClientRow) (a : Answer) → list_all is_quiet (whats_for o a) ≡ true
quiet_choice None (Go u b) = refl
quiet_choice None Busy = refl
quiet_choice None Unavailable = refl
quiet_choice (Some r) (Go u b) = refl
quiet_choice (Some r) Busy = quiet_refused r.request C1
quiet_choice (Some r) Unavailable = quiet_refused r.request C3

module _ (s : Settings) where
  -- what is expected stays behind these
  same_expected : (u at : ℕ) (ws : List What) (l : ClientLedger) → list_all is_quiet ws ≡ true → (ledger_behind (step_client_ledger s) l (map (λ e. record { entry = e; mark = None }) (entries_of (Client u) at ws))).expected ≡ l.expected
  same_expected u at [] l h = refl
  same_expected u at (w ∷ ws) l h = same_expected u at ws (step_client_ledger s l (record { entry = record { part = Client u; at = at; what = w }; mark = None })) (right (is_quiet w) _ h) ∙ filter-all (λ (x : Expected). true) (expected_behind s l.state l.expected w) (λ y. refl) ∙ by w (left (is_quiet w) _ h)
    where
      by : (v : What) → is_quiet v ≡ true → expected_behind s l.state l.expected v ≡ l.expected
      by (what.Out id rest) k = refl
      by (what.Gone why) k = refl
      by _ k = absurd (let bad : false ≡ true = k in cc)

  -- what is expected behind an entry: what was, and what it forwards
  abbrev News : ClientState → What → (Expected → Type 0) → Type 0
  News p (what.In id rest) Q = (u : ℕ) → is_request_of Bind (record { id = id; rest = rest }) ≡ true → Q (record { op = next_name p; request = (new_row s p (record { id = id; rest = rest })).request; connection = u })
  News p (what.Chosen op a) Q = (r : ClientRow) (u b : ℕ) → row_named p op ≡ Some r → a ≡ Go u b → Q (record { op = op; request = r.request; connection = u })
  News p _ Q = Unit {0}

  each_behind : (Q : Expected → Type 0) (p : ClientState) (xs : List Expected) → Each Q xs → (w : What) → News p w Q → Each Q (expected_behind s p xs w)
  each_behind Q p xs h (what.In id rest) n = by (lets_go_on (check_at s p m)) (is_request_of Bind m) refl ((facts_of p).in_exchange) (held_connection p)
    where
      m : Message
      m = record { id = id; rest = rest }

      to : Option ℕ → is_request_of Bind (record { id = id; rest = rest }) ≡ true → Each Q (with_forward (next_name p) (new_row s p (record { id = id; rest = rest })).request (held_connection p) xs)
      to o k = go (held_connection p)
        where
          go : (v : Option ℕ) → Each Q (with_forward (next_name p) (new_row s p (record { id = id; rest = rest })).request v xs)
          go None = h
          go (Some u) = each_append Q xs (record { op = next_name p; request = (new_row s p (record { id = id; rest = rest })).request; connection = u } ∷ []) h (n u k, tt)

      by : (g d : Bool) → is_request_of Bind (record { id = id; rest = rest }) ≡ d → (e : Bool) → Option ℕ → Each Q (if g && (d && e && g) then with_forward (next_name p) (new_row s p (record { id = id; rest = rest })).request (held_connection p) xs else xs)
      by false d k e o = h
      by true false k e o = h
      by true true k false o = h
      by true true k true o = to o k
  each_behind Q p xs h (what.Chosen op a) n = by (row_named p op) refl a refl
    where
      by : (o : Option ClientRow) → row_named p op ≡ o → (b : Answer) → a ≡ b → Each Q (elim o [ None ↦ xs | Some r ↦ with_forward op r.request (going_to b) xs ])
      by None e b k = h
      by (Some r) e (Go u b) k = each_append Q xs (record { op = op; request = r.request; connection = u } ∷ []) h (n r u b e k, tt)
      by (Some r) e Busy k = h
      by (Some r) e Unavailable k = h
  each_behind Q p xs h _ n = h

  module _ (c : ℕ) (before : List Marked) (l : ClientLedger) (given : List Posted) (keeps : Keeps s c before l.state) (told : ToldKept s c before l) (fates : Fates given l) where
    abbrev place : List Entry
    place = entries before

    abbrev Turned : ℕ → Option Taken → List What → ClientState
    Turned at mark ws = ledger_behind (step_client s) l.state (client_turn_of l.state.number at mark ws)

    abbrev After : ℕ → Option Taken → List What → ClientLedger
    After at mark ws = ledger_behind (step_client_ledger s) l (client_turn_of l.state.number at mark ws)

    known : Known s c (entries before) l.state
    known = told.tells.known

    -- of what was expected before
    abbrev Old : ℕ → Option Taken → List What → List Posted → Type 0
    Old at mark ws letters = (x : Expected) → ExpectKnown s c (entries before) x → is_request_of Bind x.request ≡ false → has_row x l.state.rows ≡ true → is_last_by x.op mark ≡ false → (has_row x (ledger_behind (step_client s) l.state (client_turn_of l.state.number at mark ws)).rows ≡ true) ⊎ (is_dropped x letters ≡ true)

    own : (x : Expected) → ExpectKnown s c (entries before) x → x.op.client ≡ l.state.number
    own x k = same_number x.op.client c (left (x.op.client == c) _ (left (x.op.client == c && nat_lt 0 x.op.k) _ k.within)) ∙ sym known.says.number

    within : (x : Expected) → ExpectKnown s c (entries before) x → nat_le x.op.k l.state.count ≡ true
    within x k = ap (nat_le x.op.k) known.count ∙ right (x.op.client == c && nat_lt 0 x.op.k) _ k.within

    turn : (at : ℕ) (mark : Option Taken) (w : What) (ws : List What) (letters : List Posted) → list_all is_quiet ws ≡ true → Old at mark (w ∷ ws) letters
        → News l.state w (λ x. is_request_of Bind x.request ≡ false → has_row x (ledger_behind (step_client s) l.state (client_turn_of l.state.number at mark (w ∷ ws))).rows ≡ true)
        → Fates (given ++ letters) (ledger_behind (step_client_ledger s) l (client_turn_of l.state.number at mark (w ∷ ws)))
    turn at mark w ws letters quiet old new =
        subst (Each (Fate (given ++ letters) (After at mark (w ∷ ws)))) (sym expected)
        (each_filter Open (Fate (given ++ letters) (After at mark (w ∷ ws))) (λ x. not (is_last_by x.op mark)) (expected_behind s l.state l.expected w) (λ x k f. f (not_true (is_last_by x.op mark) k))
        (each_behind Open l.state l.expected olds w (news w new)))
      where
        state : (ledger_behind (step_client_ledger s) l (client_turn_of l.state.number at mark (w ∷ ws))).state ≡ ledger_behind (step_client s) l.state (client_turn_of l.state.number at mark (w ∷ ws))
        state = sees_behind (fits_client s) (step_client_ledger s) (step_client s) (λ k. k.state) (λ k m. refl) l (client_turn_of l.state.number at mark (w ∷ ws))

        expected : (ledger_behind (step_client_ledger s) l (client_turn_of l.state.number at mark (w ∷ ws))).expected ≡ filter (λ x. not (is_last_by x.op mark)) (expected_behind s l.state l.expected w)
        expected = same_expected l.state.number at ws (step_client_ledger s l (record { entry = record { part = Client l.state.number; at = at; what = w }; mark = mark })) quiet

        Open : Expected → Type 0
        Open x = is_last_by x.op mark ≡ false → Fate (given ++ letters) (ledger_behind (step_client_ledger s) l (client_turn_of l.state.number at mark (w ∷ ws))) x

        there : (x : Expected) → has_row x (ledger_behind (step_client s) l.state (client_turn_of l.state.number at mark (w ∷ ws))).rows ≡ true → has_row x (ledger_behind (step_client_ledger s) l (client_turn_of l.state.number at mark (w ∷ ws))).state.rows ≡ true
        there x k = ap (λ q. has_row x q.rows) state ∙ k

        old_one : (x : Expected) → Fate given l x × ExpectKnown s c (entries before) x → Open x
        old_one x k still plain = by (k.0 plain)
          where
            of : (has_row x (ledger_behind (step_client s) l.state (client_turn_of l.state.number at mark (w ∷ ws))).rows ≡ true) ⊎ (is_dropped x letters ≡ true) → (has_row x (ledger_behind (step_client_ledger s) l (client_turn_of l.state.number at mark (w ∷ ws))).state.rows ≡ true) ⊎ (is_dropped x (given ++ letters) ≡ true)
            of (inl r) = inl (there x r)
            of (inr d) = inr (drop_behind x given letters d)

            by : (has_row x l.state.rows ≡ true) ⊎ (is_dropped x given ≡ true) → (has_row x (ledger_behind (step_client_ledger s) l (client_turn_of l.state.number at mark (w ∷ ws))).state.rows ≡ true) ⊎ (is_dropped x (given ++ letters) ≡ true)
            by (inl has) = of (old x k.1 plain has still)
            by (inr d) = inr (drop_before x given letters d)

        olds : Each Open l.expected
        olds = each_imply (λ x. Fate given l x × ExpectKnown s c (entries before) x) Open l.expected old_one (each_both (Fate given l) (ExpectKnown s c (entries before)) l.expected fates told.tells.expected)

        news : (v : What) → News l.state v (λ x. is_request_of Bind x.request ≡ false → has_row x (ledger_behind (step_client s) l.state (client_turn_of l.state.number at mark (w ∷ ws))).rows ≡ true) → News l.state v Open
        news (what.In id rest) f = λ u k still plain. inl (there (record { op = next_name l.state; request = (new_row s l.state (record { id = id; rest = rest })).request; connection = u }) (f u k plain))
        news (what.Chosen op a) f = λ r u b e k still plain. inl (there (record { op = op; request = r.request; connection = u }) (f r u b e k plain))
        news _ f = tt

    -- the acts
    abbrev Acts : ℕ → Option Taken → Act → Type 0
    Acts at mark a = FirstFits s l (client_turn_of l.state.number at mark a.whats) → Fates (given ++ a.letters) (ledger_behind (step_client_ledger s) l (client_turn_of l.state.number at mark a.whats))

    idle : (at : ℕ) (mark : Option Taken) → Acts at mark nothing
    idle at mark fit = subst (λ g. Fates g l) (sym (append-nil given)) fates

    so : (at : ℕ) (mark : Option Taken) (b : Bool) (a : Act) → Acts at mark a → Acts at mark (where_so b a)
    so at mark true a h = h
    so at mark false a h = idle at mark

    ends : (at : ℕ) (mark : Option Taken) (w : What) (ws : List What) → list_all is_quiet ws ≡ true → News l.state w (λ x. is_request_of Bind x.request ≡ false → has_row x (ledger_behind (step_client s) l.state (client_turn_of l.state.number at mark (w ∷ ws))).rows ≡ true) → Acts at mark (act (w ∷ ws) (closing l.state))
    ends at mark w ws quiet new fit = turn at mark w ws (closing l.state) quiet (λ x k plain has still. inr (in_closing x l.state (own x k) has)) new

    -- a message
    no_news : (p : ClientState) (m : Message) (u : ℕ) → is_request_of Bind m ≡ true → is_request_of Bind (new_row s p m).request ≡ false → false ≡ true
    no_news p m u k j = sym j ∙ ap (passes (same_kind Bind)) (carried_kind s m p.identity) ∙ k

    a_message : (at : ℕ) (m : Message) → Acts at None (message s l.state at m)
    a_message at m = by (is_present l.state && not (is_holding s l.state))
      where
        by : (b : Bool) → Acts at None (elim b [ false ↦ nothing | true ↦ by_check s l.state at m (check_at s l.state m) ])
        by false = idle at None
        by true = λ fit.
            turn at None (what.In m.id m.rest) (whats_by m (check_at s l.state m)) (letters_by s l.state at m (check_at s l.state m)) (quiet_check m (check_at s l.state m))
            (λ x k plain has still. checked s x l.state at (own x k) (within x k) keeps.lives.apart has m (check_at s l.state m) refl)
            (λ u k plain. absurd (let bad : false ≡ true = no_news l.state m u k plain in cc))

    -- a choice
    named_row : (op : OpName) (r : ClientRow) → row_named l.state op ≡ Some r → RowKnown s c (entries before) r
    named_row op r e = each_found (RowKnown s c (entries before)) (λ y. l.state.number == op.client && y.k == op.k) l.state.rows r e known.rows

    its : (op : OpName) (r : ClientRow) → row_named l.state op ≡ Some r → (l.state.number == op.client && r.k == op.k) ≡ true
    its op r e = found_passes (λ y. l.state.number == op.client && y.k == op.k) l.state.rows r e

    abbrev Asked : OpName → Type 0
    Asked op = AskKnown c (entries before) (record { op = op; kind = kind_wanted (record { id = 0; rest = [] }) })

    unasked : (op : OpName) → Asked op → (r : ClientRow) → RowKnown s c (entries before) r → same_op (record { client = c; k = r.k }) op ≡ true → is_bind_row r ≡ false → is_some r.connection ≡ true → false ≡ true
    unasked op asked r k same plain some =
        sym asked.unchosen ∙ subst (λ n. list_any (is_choice_for n) (entries before) ≡ true) (same_op_eq (record { client = c; k = r.k }) op same) (implied (not (is_bind_row r) && is_some r.connection) _ k.chosen (both (not (is_bind_row r)) _ (ap not plain) some))

    a_choice : (at : ℕ) (sender : PartName) (op : OpName) (a : Answer) → Acts at (Some (record { sender = sender; letter = Choice op a })) (choice s l.state op a)
    a_choice at sender op a fit = turn at mark (what.Chosen op a) (whats_for (row_named l.state op) a) (letters_for s l.state op (row_named l.state op) a) (quiet_choice (row_named l.state op) a) old new
      where
        mark : Option Taken
        mark = Some (record { sender = sender; letter = Choice op a })

        asked : Asked op
        asked = asked_known c (entries before) l.state.asked op known.asks.each (fit_asked s l sender op a fit)

        old : Old at (Some (record { sender = sender; letter = Choice op a })) (what.Chosen op a ∷ whats_for (row_named l.state op) a) (letters_for s l.state op (row_named l.state op) a)
        old x k plain has still = inl (chosen s x l.state at (own x k) (within x k) keeps.lives.apart has op a mark (false_by (same_op x.op op) other))
          where
            other : same_op x.op op ≡ true → false ≡ true
            other i =
                let one = any_found (went_as x) l.state.rows has in
                let passed : went_as x one.0 ≡ true = found_passes (went_as x) l.state.rows one.0 one.1 in
                let row : RowKnown s c (entries before) one.0 = each_found (RowKnown s c (entries before)) (went_as x) l.state.rows one.0 one.1 known.rows in
                let name : record { client = c; k = one.0.k } ≡ x.op = same_op_eq (record { client = c; k = one.0.k }) x.op (both (c == x.op.client) _ (eq_eqb c x.op.client (sym known.says.number ∙ sym (own x k))) (left (one.0.k == x.op.k) _ passed)) in
                unasked op asked one.0 row (ap (λ n. same_op n op) name ∙ i) (not_true (is_bind_row one.0) (left (not (is_bind_row one.0)) _ (right (one.0.k == x.op.k) _ passed))) (there one.0.connection (right (not (is_bind_row one.0)) _ (right (one.0.k == x.op.k) _ passed)))
              where
                there : (o : Option ℕ) → passes (λ v. v == x.connection) o ≡ true → is_some o ≡ true
                there None j = j
                there (Some v) j = refl

        new : News l.state (what.Chosen op a) (λ x. is_request_of Bind x.request ≡ false → has_row x (ledger_behind (step_client s) l.state (client_turn_of l.state.number at (Some (record { sender = sender; letter = Choice op a })) (what.Chosen op a ∷ whats_for (row_named l.state op) a))).rows ≡ true)
        new r u b e k plain = subst (λ z. has_row x (ledger_behind (step_client s) l.state (client_turn_of l.state.number at mark (what.Chosen op z ∷ whats_for (row_named l.state op) z))).rows ≡ true) (sym k) (by (row_named l.state op) e)
          where
            x : Expected
            x = record { op = op; request = r.request; connection = u }

            free : r.connection ≡ None
            free = none (is_some r.connection) r.connection refl
              where
                none : (d : Bool) (o : Option ℕ) → r.connection ≡ o → r.connection ≡ None
                none d None j = j
                none d (Some v) j =
                    absurd (let bad : false ≡ true = unasked op asked r (named_row op r e) (both (c == op.client) _ (ap (λ n. n == op.client) (sym known.says.number) ∙ left (l.state.number == op.client) _ (its op r e)) (right (l.state.number == op.client) _ (its op r e))) plain (ap is_some j) in cc)

            went : went_as (record { op = op; request = r.request; connection = u }) (forwarded r.k u r) ≡ true
            went = ap (λ d. went_as x (if d then record r { connection = Some (unwrap_or r.connection u) } else r)) (eqb_same r.k) ∙ both (r.k == op.k) _ (right (l.state.number == op.client) _ (its op r e)) (both (not (is_bind_row r)) _ (ap not plain) (ap (λ o. unwrap_or o u == u) free ∙ eqb_same u))

            rows : has_row (record { op = op; request = r.request; connection = u }) (with_connection u b l.state r).rows ≡ true
            rows = found_map (λ y. l.state.number == op.client && y.k == op.k) (went_as x) (forwarded r.k u) l.state.rows r e went

            state : Option ClientRow → ClientState
            state o = elim o [ None ↦ l.state | Some q ↦ with_connection u b l.state q ]

            by : (o : Option ClientRow) → o ≡ Some r → has_row (record { op = op; request = r.request; connection = u }) (ledger_behind (step_client s) (step_client s l.state (record { entry = record { part = Client l.state.number; at = at; what = what.Chosen op (Go u b) }; mark = Some (record { sender = sender; letter = Choice op a }) })) (map (λ y. record { entry = y; mark = None }) (entries_of (Client l.state.number) at (whats_for o (Go u b))))).rows ≡ true
            by None j = absurd (let bad : None ≡ Some r = j in cc)
            by (Some q) j = ap (λ o. has_row x (state o).rows) e ∙ rows

    -- an answer: where it is final, it is the last
    last_so : (sender : PartName) (op : OpName) (rest : List ℕ) (is_last : Bool) (who : Option (List ℕ)) (r : ClientRow) → row_named l.state op ≡ Some r → is_unfit (fits_client s) l (Some (record { sender = sender; letter = Reply op rest is_last who })) ≡ false → is_final_for r.request rest ≡ true → is_last ≡ true
    last_so sender op rest is_last who r e fit final = by (expected_from l sender op) refl (not_false (fits_client s l sender (Reply op rest is_last who)) fit)
      where
        agreed : (a b : Bool) → agrees a b ≡ true → b ≡ true → a ≡ true
        agreed true b j k = refl
        agreed false true j k = j
        agreed false false j k = k

        kinds : (y : Expected) → find (λ z. same_op op z.op && same_part sender (Connection z.connection)) l.expected ≡ Some y → (o : Option Operation) → operation_in c (entries before) op ≡ o → is_some o ≡ true → kind_of y.request.rest ≡ kind_of r.request.rest
        kinds y f None g j = absurd (let bad : false ≡ true = j in cc)
        kinds y f (Some o) g j =
            let k : ExpectKnown s c (entries before) y = each_found (ExpectKnown s c (entries before)) (λ z. same_op op z.op && same_part sender (Connection z.connection)) l.expected y f told.tells.expected in
            let same : op ≡ y.op = same_op_eq op y.op (left (same_op op y.op) _ (found_passes (λ z. same_op op z.op && same_part sender (Connection z.connection)) l.expected y f)) in
            let named : same_op op o.name ≡ true = found_passes (λ z. same_op op z.name) (operations c (entries before)) o g in
            let one = each_found (λ z. same_op y.op z.name ≡ true → Carries s y.request z) (λ z. same_op op z.name) (operations c (entries before)) o g k.same (ap (λ n. same_op n o.name) (sym same) ∙ named) in
            let two = each_found (λ z. (r.k == z.name.k) ≡ true → IsOf s r z) (λ z. same_op op z.name) (operations c (entries before)) o g (named_row op r e).same (ap (λ n. n == o.name.k) (same_number r.k op.k (right (l.state.number == op.client) _ (its op r e))) ∙ right (op.client == o.name.client) _ named) in
            one.kind ∙ sym two.carries.kind

        by : (o : Option Expected) → find (λ z. same_op op z.op && same_part sender (Connection z.connection)) l.expected ≡ o → passes (λ y. answers y.request rest is_last && is_known s y.request rest who) o ≡ true → is_last ≡ true
        by None f j = absurd (let bad : false ≡ true = j in cc)
        by (Some y) f j =
            let k : ExpectKnown s c (entries before) y = each_found (ExpectKnown s c (entries before)) (λ z. same_op op z.op && same_part sender (Connection z.connection)) l.expected y f told.tells.expected in
            let same : op ≡ y.op = same_op_eq op y.op (left (same_op op y.op) _ (found_passes (λ z. same_op op z.op && same_part sender (Connection z.connection)) l.expected y f)) in
            let there : is_some (operation_in c (entries before) op) ≡ true = ap (λ n. is_some (operation_in c (entries before) n)) same ∙ within_there c (entries before) y.op k.within in
            agreed is_last (is_final_for y.request rest) (right (passes (λ kind. fits kind rest) (kind_of y.request.rest)) _ (left (answers y.request rest is_last) _ j)) (ap (passes (λ kind. is_final kind rest)) (kinds y f (operation_in c (entries before) op) refl there) ∙ final)

    a_reply : (at : ℕ) (sender : PartName) (op : OpName) (rest : List ℕ) (is_last : Bool) (who : Option (List ℕ)) → Acts at (Some (record { sender = sender; letter = Reply op rest is_last who })) (answer l.state op rest)
    a_reply at sender op rest is_last who = by (row_named l.state op) refl
      where
        mark : Option Taken
        mark = Some (record { sender = sender; letter = Reply op rest is_last who })

        by : (o : Option ClientRow) → row_named l.state op ≡ o → Acts at (Some (record { sender = sender; letter = Reply op rest is_last who })) (elim o [ None ↦ act (what.Late op ∷ []) [] | Some r ↦ act (what.Out r.request.id rest ∷ []) [] ])
        by None e fit = turn at mark (what.Late op) [] [] refl (λ x k plain has still. inl has) tt
        by (Some r) e fit =
            turn at mark (what.Out r.request.id rest) [] [] refl
            (λ x k plain has still. inl (out_named s x l.state at (own x k) (within x k) keeps.lives.apart has op r e rest l.state refl mark (λ i f. sym still ∙ both (same_op x.op op) _ i (last_so sender op rest is_last who r e fit f)))) tt

    a_failure : (at : ℕ) (sender : PartName) (op : OpName) (which : Refusal) → Acts at (Some (record { sender = sender; letter = Failed op which })) (failure l.state op which)
    a_failure at sender op which = by (row_named l.state op) refl
      where
        mark : Option Taken
        mark = Some (record { sender = sender; letter = Failed op which })

        outs : (r : ClientRow) → row_named l.state op ≡ Some r → (o : Option OpKind) → Acts at (Some (record { sender = sender; letter = Failed op which })) (act (elim o [ None ↦ [] | Some kind ↦ what.Out r.request.id (refusal kind which) ∷ [] ]) [])
        outs r e None fit = idle at mark fit
        outs r e (Some kind) fit =
            turn at mark (what.Out r.request.id (refusal kind which)) [] [] refl
            (λ x k plain has still. inl (out_named s x l.state at (own x k) (within x k) keeps.lives.apart has op r e (refusal kind which) l.state refl mark (λ i f. sym still ∙ i))) tt

        by : (o : Option ClientRow) → row_named l.state op ≡ o → Acts at (Some (record { sender = sender; letter = Failed op which })) (elim o [ None ↦ act (what.Late op ∷ []) [] | Some r ↦ act (refused r.request which) [] ])
        by None e fit = turn at mark (what.Late op) [] [] refl (λ x k plain has still. inl has) tt
        by (Some r) e fit = outs r e (kind_of r.request.rest) fit

    a_letter : (at : ℕ) (sender : PartName) (y : Letter) → Acts at (Some (record { sender = sender; letter = y })) (letter s l.state y)
    a_letter at sender (Choice op a) = a_choice at sender op a
    a_letter at sender (Reply op rest is_last who) = a_reply at sender op rest is_last who
    a_letter at sender (Failed op which) = a_failure at sender op which
    a_letter at sender y = idle at (Some (record { sender = sender; letter = y }))

    a_link : (at : ℕ) (why : EndWhy) → Acts at None (link_gone l.state why)
    a_link at Bad = ends at None (what.Out 0 protocol_error_notice) (what.Gone Bad ∷ []) refl tt
    a_link at TooBig = ends at None (what.Out 0 protocol_error_notice) (what.Gone TooBig ∷ []) refl tt
    a_link at _ = idle at None

    an_input : (at : ℕ) (i : Input) → Acts at (letter_of i) (client_act s l.state at i)
    an_input at (Arrive now) = so at None (not l.state.arrived) (act (what.Arrived ∷ []) []) (λ fit. turn at None what.Arrived [] [] refl (λ x k plain has still. inl has) tt)
    an_input at (MessageIn now id rest) = a_message at (record { id = id; rest = rest })
    an_input at (LetterFrom now word sender y) = so at (Some (record { sender = sender; letter = y })) l.state.arrived (letter s l.state y) (a_letter at sender y)
    an_input at (LinkGone now why) = so at None (is_present l.state) (link_gone l.state why) (a_link at why)
    an_input at (Stall now) = so at None (is_present l.state && not l.state.pausing.stalled) (stalls l.state) (λ fit. turn at None what.Stalled [] (stall_letters l.state) refl (λ x k plain has still. inl has) tt)
    an_input at (Flow now) = so at None (is_present l.state && l.state.pausing.stalled) (flows l.state) (λ fit. turn at None what.Flowing [] (resumes l.state) refl (λ x k plain has still. inl has) tt)
    an_input at i = idle at (letter_of i)

    pub an_event : (e : Event) → FirstFits s l (made (client_event s) l.state e) → Fates (given ++ (client_event s l.state e).letters) (ledger_behind (step_client_ledger s) l (made (client_event s) l.state e))
    an_event (Comes i) fit = an_input (moment_for l.state.moment i) i fit
    an_event (Severed now why) fit = by (is_link_reason why) fit
      where
        severs : Bool → Effects
        severs b = elim b [ true ↦ client_sever l.state now why | false ↦ no_effects ]

        by : (b : Bool) → FirstFits s l (marked_by None (severs b).entries) → Fates (given ++ (severs b).letters) (ledger_behind (step_client_ledger s) l (marked_by None (severs b).entries))
        by true fit = so (max l.state.moment now) None (is_present l.state) (act (what.Gone why ∷ []) (closing l.state)) (ends (max l.state.moment now) None (what.Gone why) [] refl tt) fit
        by false fit = idle 0 None fit
