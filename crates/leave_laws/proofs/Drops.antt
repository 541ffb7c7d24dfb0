-- Each Drop that a client gives is of an operation that it ends, with this entry or the next.
use Rattle.std.proofs.Common.{◌≡◌, inl, inr, ℕ, Bool, true, false, ◌==◌, ◌&&◌, ◌||◌, not, if◌then◌else◌, List, [], ◌∷◌, ◌++◌, refl, ap, ◌∙◌, sym, subst, append_assoc}
use Rattle.std.specs.Prelude.{Option, Some, None, find, flat_map, is_none, is_some, option_map}
use Rattle.std.specs.List.{list_any}
use Rattle.ldap_spec.specs.Kinds.{kind_of, same_kind}
use Rattle.ldap_spec.specs.Messages.{Message}
use Rattle.ldap_spec.specs.Requests.{ExtendedRequest, Request, cancel_id, is_cancel, request}
use Rattle.lload_names.specs.declared.names.Answer.{Answer}
use Rattle.lload_names.specs.declared.names.Answer.TheVariants.{Go, Busy, Unavailable}
use Rattle.lload_names.specs.declared.names.CancelAnswer.TheVariants.{C13}
use Rattle.lload_names.specs.declared.names.EndWhy.{EndWhy}
use Rattle.lload_names.specs.declared.names.Entry.{Entry}
use Rattle.lload_names.specs.declared.names.Letter.TheVariants.{Drop}
use Rattle.lload_names.specs.declared.names.OpKind.{OpKind}
use Rattle.lload_names.specs.declared.names.OpKind.TheVariants.{Bind}
use Rattle.lload_names.specs.declared.names.OpName.{OpName}
use Rattle.lload_names.specs.declared.names.PartName.TheVariants.{Up as Connection}
use Rattle.lload_names.specs.declared.names.Posted.{Posted}
use Rattle.lload_names.specs.declared.names.What.{What}
use Rattle.lload_names.specs.declared.names.What.TheVariants as what
use Rattle.lload_spec.specs.Caused.{begin_with_cancel, is_cancel_answer_of, is_followed_up}
use Rattle.lload_spec.specs.Entries.{in_message, makes_operation, operation_message}
use Rattle.lload_spec.specs.FirstCheck.{Check, Abandons, Answers, Cancels, Ends, GoesOn, Refuses, Unbinds, live_request, lets_go_on, may_be_canceled}
use Rattle.lload_spec.specs.Journal.{same_op}
use Rattle.lload_spec.specs.Lists.{last_passes, passes, rising_once}
use Rattle.lload_spec.specs.Operations.{Abandoned, Manner, Operation, Rebound, abandons_id, is_abandon_of, is_bind_in, is_cancel_naming, is_live, is_request_of, manner_of, operation_in, takes_id}
use Rattle.lload_spec.specs.Settings.{Settings}
use Rattle.lload_spec.proofs.Growth.{left, right, both}
use Rattle.lload_laws.specs.ClientGrowth.{later_operation}
use Rattle.lload_laws.proofs.ClientGrowth.{ending_grows}
use Rattle.lload_laws.proofs.ListLaws.{find-map, found_passes}
use Rattle.part_laws.proofs.ListLaws.{any_split, eqb_sym, last_push, none_of_both, not_both, not_true, or_elim, or_left, or_right, same_number, same_op_eq}
use Rattle.part_spec.specs.ClientState.{ClientRow, ClientState, abandons, check_at, empty_client, facts_of, is_bind_row, is_pinned, name_of, regular_connections, row_named, step_client}
use Rattle.part_spec.specs.ClientTurn.{asks, drop_of, drops, endings, forward, goes_on, leave, letters_for, pause_at, resumes}
use Rattle.part_spec.specs.Fit.{ClientLedger, empty_client_ledger, is_drop_of, step_client_ledger}
use Rattle.part_spec.specs.Gives.{client_gives, client_letters, message_letters}
use Rattle.part_spec.specs.Marked.{Marked, entries}
use Rattle.client_laws.proofs.ClientCancels.{Named, cancel_named, ext_tag, is_ext}
use Rattle.client_laws.proofs.ClientClauses.{nothing_kept}
use Rattle.client_laws.proofs.ClientEnds.{ext_no_bind}
use Rattle.client_laws.proofs.Matches.{Match}
use Rattle.client_answer_laws.proofs.Asks.{going_makes}
use Rattle.client_answer_laws.proofs.Each.{Each, each_found}
use Rattle.joined_laws.proofs.Begun.{is_begun}
use Rattle.rows_laws.proofs.Somewhere.{OneIn}
use Rattle.leave_laws.proofs.Along.{Along, Here}
use Rattle.leave_laws.proofs.Cancels.{cancel_says, canceled_ending}
use Rattle.leave_laws.proofs.Letters.{forward_fails, goes_on_fails, leave_fails, pause_fails, pauses_fail, resumes_fail}
use Rattle.leave_laws.proofs.Manners.{ended_more, found_later, has_ended, is_clients, is_clients_own, is_ours, ours_ended}
use Rattle.leave_laws.proofs.Ours.{Alive, IsOurs, LiveRow, alive_next, gone_ending, is_sent_row, live_rows, rows_ours}
use Rattle.leave_laws.proofs.Refused.{refused_makes}

-- a row whose Drop is that of this name
pub record Dropped (p : ClientState) (op : OpName) (r : ClientRow) : Type 0 where
  pub sent : is_sent_row r ≡ true
  pub name : name_of p r ≡ op

-- Where a client gives the Drop of an operation.
pub data Hit (s : Settings) (p : ClientState) (op : OpName) (w : What) : Type 0 where
  AtBind : (id : ℕ) (rest : List ℕ) → w ≡ what.In id rest → makes_operation (record { id = id; rest = rest }) ≡ true → is_request_of Bind (record { id = id; rest = rest }) ≡ true → OneIn (Dropped p op) p.rows → Hit s p op w
  AtAbandon : (id : ℕ) (rest : List ℕ) (r : ClientRow) → w ≡ what.In id rest → find (abandons (record { id = id; rest = rest })) p.rows ≡ Some r → Dropped p op r → Hit s p op w
  AtCancel : (id : ℕ) (rest : List ℕ) (named : ℕ) (kind : OpKind) (r : ClientRow) → w ≡ what.In id rest → check_at s p (record { id = id; rest = rest }) ≡ Cancels named kind → find (λ x. may_be_canceled named (live_request x.request)) p.rows ≡ Some r → Dropped p op r → Hit s p op w
  AtGone : (why : EndWhy) → w ≡ what.Gone why → OneIn (Dropped p op) p.rows → Hit s p op w

module _ (s : Settings) (op : OpName) where
  abbrev test : Posted → Bool
  test x = is_drop_of op x.letter

  of_drop : (p : ClientState) (r : ClientRow) → list_any test (drop_of p r) ≡ true → Dropped p op r
  of_drop p r h = by (is_bind_row r) refl r.connection refl h
    where
      by : (b : Bool) → is_bind_row r ≡ b → (o : Option ℕ) → r.connection ≡ o → list_any test (elim b [ true ↦ [] | false ↦ elim o [ None ↦ [] | Some u ↦ record { to = Connection u; letter = Drop (name_of p r) } ∷ [] ] ]) ≡ true → Dropped p op r
      by true e o f k = absurd (let bad : false ≡ true = k in cc)
      by false e None f k = absurd (let bad : false ≡ true = k in cc)
      by false e (Some u) f k = record { sent = both (not (is_bind_row r)) _ (ap not e) (ap is_some f); name = sym (same_op_eq op (name_of p r) (or_elim (same_op op (name_of p r)) false (λ j. j) (λ j. absurd (let bad : false ≡ true = j in cc)) k)) }

  of_rows : (p : ClientState) (rows : List ClientRow) → list_any test (flat_map (drop_of p) rows) ≡ true → OneIn (Dropped p op) rows
  of_rows p [] h = absurd (let bad : false ≡ true = h in cc)
  of_rows p (r ∷ rows) h = any_split test (drop_of p r) (flat_map (drop_of p) rows) (λ k. inl (of_drop p r k)) (λ k. inr (of_rows p rows k)) h

  of_endings : (p : ClientState) → list_any test (endings p) ≡ true → OneIn (Dropped p op) p.rows
  of_endings p h = any_split test (drops p) (leave p) (of_rows p p.rows) (λ k. not_both (list_any test (leave p)) k (leave_fails test (λ u o. refl) p)) h

  of_found : {C : Type 0} (p : ClientState) (t : ClientRow → Bool) → list_any test (elim (find t p.rows) [ None ↦ [] | Some r ↦ drop_of p r ]) ≡ true → ((r : ClientRow) → find t p.rows ≡ Some r → Dropped p op r → C) → C
  of_found {C} p t h f = by (find t p.rows) refl h
    where
      by : (o : Option ClientRow) → find t p.rows ≡ o → list_any test (elim o [ None ↦ [] | Some r ↦ drop_of p r ]) ≡ true → C
      by None e k = absurd (let bad : false ≡ true = k in cc)
      by (Some r) e k = f r e (of_drop p r k)

  of_message : (p : ClientState) (at id : ℕ) (rest : List ℕ) (k : Check) → check_at s p (record { id = id; rest = rest }) ≡ k → list_any test (message_letters s p at (record { id = id; rest = rest }) k) ≡ true → Hit s p op (what.In id rest)
  of_message p at id rest (Ends why) e h = by (makes_operation (record { id = id; rest = rest }) && is_request_of Bind (record { id = id; rest = rest })) refl h
    where
      by : (b : Bool) → (makes_operation (record { id = id; rest = rest }) && is_request_of Bind (record { id = id; rest = rest })) ≡ b → list_any test (elim b [ true ↦ drops p | false ↦ [] ]) ≡ true → Hit s p op (what.In id rest)
      by true z k = AtBind id rest refl (left (makes_operation (record { id = id; rest = rest })) _ z) (right (makes_operation (record { id = id; rest = rest })) _ z) (of_rows p p.rows k)
      by false z k = absurd (let bad : false ≡ true = k in cc)
  of_message p at id rest Unbinds e h = absurd (let bad : false ≡ true = h in cc)
  of_message p at id rest (Abandons n) e h = of_found p (abandons (record { id = id; rest = rest })) h (λ r f d. AtAbandon id rest r refl f d)
  of_message p at id rest (Refuses which) e h = by (is_request_of Bind (record { id = id; rest = rest })) refl h
    where
      by : (b : Bool) → is_request_of Bind (record { id = id; rest = rest }) ≡ b → list_any test (elim b [ true ↦ endings p | false ↦ [] ]) ≡ true → Hit s p op (what.In id rest)
      by true z k = AtBind id rest refl (refused_makes s p (record { id = id; rest = rest }) which e z) z (of_endings p k)
      by false z k = absurd (let bad : false ≡ true = k in cc)
  of_message p at id rest (Answers which) e h = absurd (let bad : false ≡ true = h in cc)
  of_message p at id rest (Cancels named kind) e h = of_found p (λ x. may_be_canceled named (live_request x.request)) h (λ r f d. AtCancel id rest named kind r refl e f d)
  of_message p at id rest GoesOn e h = by (is_request_of Bind (record { id = id; rest = rest })) refl (is_pinned s p (record { id = id; rest = rest })) h
    where
      m : Message
      m = record { id = id; rest = rest }

      made : makes_operation (record { id = id; rest = rest }) ≡ true
      made = going_makes s p (record { id = id; rest = rest }) (ap lets_go_on e)

      by : (b : Bool) → is_request_of Bind (record { id = id; rest = rest }) ≡ b → (i : Bool) → list_any test (elim b [ true ↦ drops p ++ elim i [ true ↦ goes_on s p m | false ↦ asks s p at m ] | false ↦ asks s p at m ]) ≡ true → Hit s p op (what.In id rest)
      by false z i k = absurd (let bad : false ≡ true = k in cc)
      by true z true k = AtBind id rest refl made z (any_split test (drops p) (goes_on s p m) (of_rows p p.rows) (λ j. not_both (list_any test (goes_on s p m)) j (goes_on_fails test (λ u o kind r ask holder. refl) s p m)) k)
      by true z false k = AtBind id rest refl made z (any_split test (drops p) (asks s p at m) (of_rows p p.rows) (λ j. absurd (let bad : false ≡ true = j in cc)) k)

  hit_at : (p : ClientState) (at : ℕ) (w : What) → list_any test (client_letters s p at w) ≡ true → Hit s p op w
  hit_at p at (what.In id rest) h = of_message p at id rest (check_at s p (record { id = id; rest = rest })) refl h
  hit_at p at (what.Chosen o a) h = not_both (list_any test (letters_for s p o (row_named p o) a)) h (by (row_named p o) a)
    where
      by : (q : Option ClientRow) (b : Answer) → list_any test (letters_for s p o q b) ≡ false
      by (Some r) (Go v n) = none_of_both test (forward s p r o v) (pause_at p r v) (forward_fails test (λ w q kind rest ask holder. refl) s p r o v) (pause_fails test (λ w c. refl) p r v)
      by None (Go v n) = refl
      by (Some r) Busy = refl
      by (Some r) Unavailable = refl
      by None Busy = refl
      by None Unavailable = refl
  hit_at p at (what.Gone why) h = AtGone why refl (any_split test (endings p) (resumes p) (of_endings p) (λ k. not_both (list_any test (resumes p)) k (resumes_fail test (λ u c. refl) p.number p.pausing.paused)) h)
  hit_at p at what.Stalled h = not_both (list_any test (client_letters s p at what.Stalled)) h (pauses_fail test (λ u c. refl) p.number (rising_once (regular_connections p)))
  hit_at p at what.Flowing h = not_both (list_any test (resumes p)) h (resumes_fail test (λ u c. refl) p.number p.pausing.paused)
  hit_at p at _ h = absurd (let bad : false ≡ true = h in cc)

-- The ends.

abbrev in_manner : Bool → Bool → Option Manner
in_manner a b = if a then Some Abandoned else if b then Some Rebound else None

in_clients : (r : Message) (since : List Entry) (e : Entry) (id : ℕ) (rest : List ℕ) → e.what ≡ what.In id rest → (is_abandon_of r e || is_bind_in e) ≡ true → is_clients (manner_of r since e) ≡ true
in_clients r since e id rest z h = subst (λ w. is_clients (manner_of r since (record { part = e.part; at = e.at; what = w })) ≡ true) (sym z) (by (is_abandon_of r (entry (what.In id rest))) (is_bind_in (entry (what.In id rest))) (subst (λ w. (is_abandon_of r (record { part = e.part; at = e.at; what = w }) || is_bind_in (record { part = e.part; at = e.at; what = w })) ≡ true) z h))
  where
    entry : What → Entry
    entry w = record { part = e.part; at = e.at; what = w }

    by : (a b : Bool) → (a || b) ≡ true → is_clients (if a then Some Abandoned else if b then Some Rebound else None) ≡ true
    by true b k = refl
    by false true k = refl
    by false false k = k

module _ (s : Settings) (c k : ℕ) where
  abbrev op : OpName
  op = record { client = c; k = k }

  numbered : (p : ClientState) (r : ClientRow) → Dropped p (record { client = c; k = k }) r → r.k ≡ k
  numbered p r d = ap (λ (o : OpName). o.k) d.name

  ours_of : (place : List Entry) (p : ClientState) (rows : List ClientRow) → Each (IsOurs c place) rows → OneIn (Dropped p (record { client = c; k = k })) rows → is_ours c k place ≡ true
  ours_of place p [] e h = absurd h
  ours_of place p (r ∷ rows) e (inl d) = subst (λ n. is_ours c n place ≡ true) (numbered p r d) (e.0 d.sent)
  ours_of place p (r ∷ rows) e (inr h) = ours_of place p rows e.1 h

  module _ (place : List Entry) (b : List Marked) (l : ClientLedger) (m : Marked) (ms : List Marked) (here : Here s c place b l m ms) (alive : Alive c place l.state (m ∷ ms)) where
    abbrev Ended : Type 0
    Ended = has_ended c k (place ++ (m.entry ∷ entries ms)) ≡ true

    soon : has_ended c k (place ++ m.entry ∷ []) ≡ true → Ended
    soon h = subst (λ l. has_ended c k l ≡ true) (append_assoc place (m.entry ∷ []) (entries ms)) (ended_more c k (place ++ m.entry ∷ []) (entries ms) h)

    -- the row is one that is live
    module _ (id : ℕ) (rest : List ℕ) (is_in : m.entry.what ≡ what.In id rest) (t : ClientRow → Bool) (r : ClientRow) (found : find t l.state.rows ≡ Some r) (d : Dropped l.state (record { client = c; k = k }) r) where
      abbrev row : LiveRow c place r
      row = each_found (LiveRow c place) t l.state.rows r found (live_rows c place l.state (here.begins (ap is_begun is_in)).lives)

      abbrev one : Operation
      one = row.0

      match : Match r one
      match = row.1.0

      found_one : operation_in c place (record { client = c; k = k }) ≡ Some one
      found_one = subst (λ n. operation_in c place (record { client = c; k = n }) ≡ Some one) (numbered l.state r d) row.1.1.0

      ours : is_ours c k place ≡ true
      ours = ap (passes is_clients_own) found_one ∙ or_left (is_live one) _ row.1.1.1.0

      of_one : (P : Operation → Type 0) → P one → (o : Operation) → operation_in c place (record { client = c; k = k }) ≡ Some o → P o
      of_one P h o e = let same : one ≡ o = (let founds : Some one ≡ Some o = sym found_one ∙ e in cc) in subst P same h

      no_bind : is_request_of Bind one.request ≡ false
      no_bind = ap (passes (same_kind Bind)) (sym match.kind) ∙ not_true (is_bind_row r) (left (not (is_bind_row r)) _ d.sent)

    at_abandon : (id : ℕ) (rest : List ℕ) (r : ClientRow) → m.entry.what ≡ what.In id rest → find (abandons (record { id = id; rest = rest })) l.state.rows ≡ Some r → Dropped l.state (record { client = c; k = k }) r → Ended
    at_abandon id rest r e f d = soon (ours_ended c k place m.entry (of_one id rest e (abandons msg) r f d (λ o. is_clients (manner_of o.request o.behind m.entry) ≡ true) (in_clients o.request o.behind m.entry id rest e (or_left (is_abandon_of o.request m.entry) _ abandoned))) (ours id rest e (abandons msg) r f d))
      where
        msg : Message
        msg = record { id = id; rest = rest }

        o : Operation
        o = one id rest e (abandons msg) r f d

        passed : (not (id == 0) && not (is_bind_row r) && abandons_id r.request.id (request rest)) ≡ true
        passed = found_passes (abandons msg) l.state.rows r f

        abandoned : is_abandon_of o.request m.entry ≡ true
        abandoned = ap (λ w. passes (λ x. not (x.id == 0) && abandons_id o.request.id (request x.rest) && not (is_request_of Bind o.request)) (in_message w)) e ∙ both (not (id == 0) && abandons_id o.request.id (request rest)) _ (both (not (id == 0)) _ (left (not (id == 0)) _ (left (not (id == 0) && not (is_bind_row r)) _ passed)) (ap (λ n. abandons_id n (request rest)) (sym (match id rest e (abandons msg) r f d).id) ∙ right (not (id == 0) && not (is_bind_row r)) _ passed)) (ap not (no_bind id rest e (abandons msg) r f d))

    at_bind : (id : ℕ) (rest : List ℕ) → m.entry.what ≡ what.In id rest → makes_operation (record { id = id; rest = rest }) ≡ true → is_request_of Bind (record { id = id; rest = rest }) ≡ true → OneIn (Dropped l.state (record { client = c; k = k })) l.state.rows → Ended
    at_bind id rest e made bind d = soon (ours_ended c k place m.entry (λ o i. in_clients o.request o.behind m.entry id rest e (or_right (is_abandon_of o.request m.entry) _ binds)) (ours_of place l.state l.state.rows (rows_ours s c place l.state (m ∷ ms) alive) d))
      where
        binds : is_bind_in m.entry ≡ true
        binds = ap (λ w. passes (λ (x : Message). passes (same_kind Bind) (kind_of x.rest)) (operation_message w)) e ∙ ap (λ q. passes (λ (x : Message). passes (same_kind Bind) (kind_of x.rest)) (elim q [ true ↦ Some (record { id = id; rest = rest }) | false ↦ None ])) made ∙ bind

    at_gone : (why : EndWhy) → m.entry.what ≡ what.Gone why → OneIn (Dropped l.state (record { client = c; k = k })) l.state.rows → Ended
    at_gone why e d = soon (ours_ended c k place m.entry (λ o i. gone_ending o.request o.behind m.entry why e) (ours_of place l.state l.state.rows (rows_ours s c place l.state (m ∷ ms) alive) d))

    at_cancel : (id : ℕ) (rest : List ℕ) (named : ℕ) (kind : OpKind) (r : ClientRow) → m.entry.what ≡ what.In id rest → check_at s l.state (record { id = id; rest = rest }) ≡ Cancels named kind → find (λ x. may_be_canceled named (live_request x.request)) l.state.rows ≡ Some r → Dropped l.state (record { client = c; k = k }) r → Ended
    at_cancel id rest named kind r e checks f d = by ms (sym (ap (λ w. elim (in_message w) [ None ↦ true | Some y ↦ is_followed_up y (entries ms) (check_at s l.state y) ]) e ∙ ap (is_followed_up msg (entries ms)) checks) ∙ here.checked)
      where
        t : ClientRow → Bool
        t x = may_be_canceled named (live_request x.request)

        msg : Message
        msg = record { id = id; rest = rest }

        o : Operation
        o = one id rest e (λ x. may_be_canceled named (live_request x.request)) r f d

        is_match : Match r (one id rest e (λ x. may_be_canceled named (live_request x.request)) r f d)
        is_match = match id rest e (λ x. may_be_canceled named (live_request x.request)) r f d

        found : Named (facts_of l.state) (record { id = id; rest = rest }) named kind
        found = (cancel_named s (facts_of l.state) (record { id = id; rest = rest }) named kind checks).0

        same_id : r.request.id ≡ named
        same_id = same_number r.request.id named (left (r.request.id == named) _ (found_passes (λ x. may_be_canceled named (live_request x.request)) l.state.rows r f))

        own_id : (one id rest e (λ x. may_be_canceled named (live_request x.request)) r f d).request.id ≡ named
        own_id = sym is_match.id ∙ same_id

        kind_is : kind_of r.request.rest ≡ Some kind
        kind_is =
            let there : Some (live_request r.request) ≡ Some found.one.request = sym (find-map (may_be_canceled named) (λ x. live_request x.request) l.state.rows ∙ ap (option_map (λ x. live_request x.request)) f) ∙ found.one.found in
            let same : live_request r.request ≡ found.one.request = cc in
            ap (λ x. x.kind) same ∙ found.one.kind_is

        -- the Cancel itself ends nothing
        quiet : (x : Operation) → manner_of x.request x.behind m.entry ≡ None
        quiet x = subst (λ w. manner_of x.request x.behind (record { part = m.entry.part; at = m.entry.at; what = w }) ≡ None) (sym e) (ap (λ a. in_manner a (is_bind_in (entry_in id rest))) (no_abandon (request rest) found.ext) ∙ ap (in_manner false) (no_bind_in (makes_operation (record { id = id; rest = rest }))))
          where
            entry_in : ℕ → List ℕ → Entry
            entry_in i q = record { part = m.entry.part; at = m.entry.at; what = what.In i q }

            no_abandon : (q : Option Request) → is_ext q ≡ true → (not (id == 0) && abandons_id x.request.id q && not (is_request_of Bind x.request)) ≡ false
            no_abandon (Some (ExtendedRequest name)) j = by (not (id == 0))
              where
                by : (a : Bool) → (a && false && not (is_request_of Bind x.request)) ≡ false
                by true = refl
                by false = refl
            no_abandon _ j = absurd (let bad : false ≡ true = j in cc)

            no_bind_in : (a : Bool) → passes (λ (y : Message). passes (same_kind Bind) (kind_of y.rest)) (elim a [ true ↦ Some (record { id = id; rest = rest }) | false ↦ None ]) ≡ false
            no_bind_in true = ext_no_bind (record { id = id; rest = rest }) (ext_tag rest found.ext)
            no_bind_in false = refl

        by : (xs : List Marked) → begin_with_cancel (record { id = id; rest = rest }) named kind (entries xs) ≡ true → has_ended c k (place ++ (m.entry ∷ entries xs)) ≡ true
        by [] h = absurd (let bad : false ≡ true = h in cc)
        by (y ∷ xs) h = subst (λ q. has_ended c k q ≡ true) (append_assoc (place ++ m.entry ∷ []) (y.entry ∷ []) (entries xs) ∙ append_assoc place (m.entry ∷ []) (y.entry ∷ entries xs)) (ended_more c k ((place ++ m.entry ∷ []) ++ y.entry ∷ []) (entries xs) (ours_ended c k (place ++ m.entry ∷ []) y.entry second still))
          where
            there : operation_in c (place ++ m.entry ∷ []) (record { client = c; k = k }) ≡ Some (later_operation m.entry o)
            there = found_later c k place m.entry o (found_one id rest e t r f d)

            still : is_ours c k (place ++ m.entry ∷ []) ≡ true
            still = ap (passes is_clients_own) there ∙ or_left (is_live (later_operation m.entry o)) _ (ending_grows o.request o.behind m.entry ∙ ap (λ q. q && is_none (manner_of o.request o.behind m.entry)) (row id rest e t r f d).1.1.1.0 ∙ ap is_none (quiet o))

            untaken : list_any (takes_id o.request.id) (o.behind ++ m.entry ∷ []) ≡ false
            untaken = none_of_both (takes_id o.request.id) o.behind (m.entry ∷ []) (not_true (list_any (takes_id o.request.id) o.behind) (row id rest e t r f d).1.1.1.1) (ap (λ q. q || false) (ap (λ w. passes (λ (x : Message). x.id == o.request.id) (operation_message w)) e ∙ taken (makes_operation msg)))
              where
                taken : (a : Bool) → passes (λ (x : Message). x.id == o.request.id) (elim a [ true ↦ Some (record { id = id; rest = rest }) | false ↦ None ]) ≡ false
                taken true = ap (λ n. id == n) own_id ∙ eqb_sym id named ∙ found.other
                taken false = refl

            names : last_passes (is_cancel_naming o.request) (o.behind ++ m.entry ∷ []) ≡ true
            names = ap (λ q. elim q [ None ↦ false | Some x ↦ is_cancel_naming o.request x ]) (last_push o.behind m.entry) ∙ ap (λ w. passes (λ x. is_cancel x.rest && passes (λ n. n == o.request.id) (cancel_id x.rest)) (in_message w)) e ∙ ap (λ i. is_cancel rest && passes (λ n. n == i) (cancel_id rest)) own_id ∙ cancel_says s (facts_of l.state) (record { id = id; rest = rest }) named kind checks

            ends : is_clients (manner_of o.request (o.behind ++ m.entry ∷ []) y.entry) ≡ true
            ends = canceled_ending o.request (o.behind ++ m.entry ∷ []) y.entry kind (sym is_match.kind ∙ kind_is) untaken names (ap (λ i. is_cancel_answer_of C13 i (Some kind) y.entry) own_id ∙ left (is_cancel_answer_of C13 named (Some kind) y.entry) _ h)

            second : (x : Operation) → operation_in c (place ++ m.entry ∷ []) (record { client = c; k = k }) ≡ Some x → is_clients (manner_of x.request x.behind y.entry) ≡ true
            second x i = let same : later_operation m.entry o ≡ x = (let founds : Some (later_operation m.entry o) ≡ Some x = sym there ∙ i in cc) in subst (λ (q : Operation). is_clients (manner_of q.request q.behind y.entry) ≡ true) same ends

    head_ended : Hit s l.state (record { client = c; k = k }) m.entry.what → Ended
    head_ended (AtBind id rest e made bind d) = at_bind id rest e made bind d
    head_ended (AtAbandon id rest r e f d) = at_abandon id rest r e f d
    head_ended (AtCancel id rest named kind r e q f d) = at_cancel id rest named kind r e q f d
    head_ended (AtGone why e d) = at_gone why e d

  walk : (place : List Entry) (b : List Marked) (l : ClientLedger) (ms : List Marked) → Along s c place b l ms → Alive c place l.state ms → list_any (λ x. is_drop_of (record { client = c; k = k }) x.letter) (client_gives s l.state ms) ≡ true → has_ended c k (place ++ entries ms) ≡ true
  walk place b l [] a v h = absurd (let bad : false ≡ true = h in cc)
  walk place b l (m ∷ ms) a v h =
      any_split (λ x. is_drop_of (record { client = c; k = k }) x.letter) (client_letters s l.state m.entry.at m.entry.what) (client_gives s (step_client s l.state m) ms)
      (λ j. head_ended place b l m ms a.0 v (hit_at s (record { client = c; k = k }) l.state m.entry.at m.entry.what j))
      (λ j. subst (λ p. has_ended c k p ≡ true) (append_assoc place (m.entry ∷ []) (entries ms)) (walk (place ++ m.entry ∷ []) (b ++ m ∷ []) (step_client_ledger s l m) ms a.1 (alive_next s c place l.state m ms a.0.stands.count a.0.checked v) j)) h

  -- a client that gave a Drop ended the operation
  pub gave_drop : (ms : List Marked) → Along s c [] [] (empty_client_ledger c) ms → list_any (λ x. is_drop_of (record { client = c; k = k }) x.letter) (client_gives s (empty_client c) ms) ≡ true → has_ended c k (entries ms) ≡ true
  gave_drop ms a h = walk [] [] (empty_client_ledger c) ms a (inl (nothing_kept s c).lives) h
