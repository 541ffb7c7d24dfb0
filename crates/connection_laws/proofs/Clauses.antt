-- Each clause of a connection's share, of a list that grows by a turn of permitted entries.
use Rattle.std.proofs.Common.{◌≡◌, ℕ, Bool, true, false, ◌==◌, ◌&&◌, ◌||◌, not, List, [], ◌∷◌, ◌++◌, refl, ap, ◌∙◌, sym, subst}
use Rattle.std.specs.Prelude.{Option, Some, None, is_some, nat_le, if◌then◌else◌}
use Rattle.std.specs.List.{list_any}
use Rattle.std.proofs.lemmas.List.{map-append}
use Rattle.ldap_spec.specs.Messages.{Message}
use Rattle.ldap_spec.specs.Kinds.{tag_of}
use Rattle.ldap_spec.specs.Responses.{has_code}
use Rattle.ldap_spec.specs.Bodies.{abandon, who_am_i}
use Rattle.lload_names.specs.declared.names.Entry.{Entry}
use Rattle.lload_names.specs.declared.names.OpName.{OpName}
use Rattle.lload_names.specs.declared.names.EndWhy.{EndWhy}
use Rattle.lload_names.specs.declared.names.EndWhy.TheVariants.{Bad, OwnBind, TimedOut, Unfinished, Drained}
use Rattle.lload_spec.specs.Lists.{passes, last, first_passes, each_split_from, agrees, implies}
use Rattle.lload_spec.specs.Settings.{Settings, is_kind, place_at}
use Rattle.lload_spec.specs.Journal.{same_op}
use Rattle.lload_spec.specs.Entries.{Named, sent_message, missed_op, expired_op, got_message, down_why, is_linked, is_up, is_retired, is_down, is_down_by, is_own, is_of_connection}
use Rattle.lload_spec.specs.Identifiers.{has_right_id}
use Rattle.lload_names.specs.declared.names.ConnKind.TheVariants.{Regular}
use Rattle.lload_spec.specs.BadMessages.{is_bad}
use Rattle.lload_spec.specs.OneEach.{begins_with_bind, is_own_bind, is_bind_due}
use Rattle.lload_spec.specs.Caused.{is_later}
use Rattle.lload_spec.specs.CausedUp.{is_past, is_stopped as is_stopped_at, is_missed_caused, exactly_behind, is_up_due, is_retirement_due, is_refused_own_bind, is_own_bind_answer, is_own_bind_due, own_bind_id, own_bind_at, own_bind_waits, is_under_own_bind, has_got}
use Rattle.lload_spec.specs.Strict.{may_follow_down, may_pass, lives_as_connection, is_empty}
use Rattle.part_spec.specs.Marks.{has_connection_mark, each_from}
use Rattle.part_spec.specs.ConnectionState.{ConnectionState, UpRow, OwnWait, empty_connection, step_connection, is_stopped, is_under_own, is_bind, is_bind_row, row_named, is_there, is_holding, message_facts}
use Rattle.part_spec.specs.ConnectionTurn.{is_due}
use Rattle.part_spec.specs.Fit.{ConnectionLedger, empty_connection_ledger, step_connection_ledger, is_forward_of, ledger_behind as behind}
use Rattle.part_spec.specs.Share.{is_sent_once, is_idle_caused, is_expired_due, is_expiry_told, is_bad_told, has_due_messages, has_reason, is_down_caused, has_down_cause, is_bind_expired, is_who_due, each_place, each_by_state, each_id_right, each_passed, each_sent_once, each_up_due, each_retirement_due, each_own_bind_end_due, each_expired_due, each_missed_caused, each_idle_caused, each_bad_told, each_down_caused, moments_never_fall, lives_as_a_connection}
use Rattle.part_spec.specs.Marked.{Marked, entries}
use Rattle.lload_laws.proofs.ListLaws.{passes_imply}
use Rattle.lload_spec.proofs.Growth.{left, right, both}
use Rattle.part_laws.proofs.ListLaws.{first_stays, implies_stays, splits_grow, places_grow, froms_grow, exactly_grows, not_both, false_by, not_true, eqb_sym}
use Rattle.connection_laws.proofs.ConnectionSays.{up_says_nothing}
use Rattle.connection_laws.proofs.OwnBinds.{waiting_of}
use Rattle.connection_laws.proofs.Permits.{Permit, Chain, UpStands, chain_places, chain_splits, stands_through, state_through, is_own_answer, ends_for}

module _ (s : Settings) (u : ℕ) (before : List Marked) (l : ConnectionLedger) (m : Marked) (ms : List Marked) (h : UpStands s u before l) (k : Permit s before l m ms) where
  -- the moment
  pub one_moment : is_later (entries before) m.entry ≡ true
  one_moment = by (last (entries before)) h.says.moment
    where
      by : (o : Option Entry) → l.state.moment ≡ (elim o [ None ↦ 0 | Some e ↦ e.at ]) → (elim o [ None ↦ true | Some e ↦ nat_le e.at m.entry.at ]) ≡ true
      by None j = refl
      by (Some e) j = ap (λ n. nat_le n m.entry.at) (sym j) ∙ k.later

  -- Missed and Sent
  closed : is_stopped_at (entries before) ≡ is_stopped l.state
  closed = some_or (λ e. is_retired e.what) is_down (entries before) ∙ ap (λ b. b || list_any is_down (entries before)) (sym h.says.retired) ∙ ap (λ b. l.state.retired || b) (sym h.says.down)
    where
      four : (a b c d : Bool) → ((a || b) || (c || d)) ≡ ((a || c) || (b || d))
      four true b c d = refl
      four false true true d = refl
      four false true false d = refl
      four false false true d = refl
      four false false false d = refl

      some_or : (t q : Entry → Bool) (es : List Entry) → list_any (λ e. t e || q e) es ≡ (list_any t es || list_any q es)
      some_or t q [] = refl
      some_or t q (e ∷ es) = ap (λ b. (t e || q e) || b) (some_or t q es) ∙ four (t e) (q e) (list_any t es) (list_any q es)

  pub one_missed : is_missed_caused (entries before) m.entry ≡ true
  one_missed = ap (λ b. implies (is_some (missed_op m.entry.what)) b && implies (is_some (sent_message m.entry.what)) (not b)) closed ∙ k.stopped

  -- a connection's life
  pub one_life : (is_of_connection m.entry.what && lives_as_connection (entries before) m.entry) ≡ true
  one_life = both (is_of_connection m.entry.what) _ k.of_connection (both (agrees (is_linked m.entry.what) (is_empty (entries before)) && implies (list_any is_down (entries before)) (may_follow_down m.entry.what)) _ (both (agrees (is_linked m.entry.what) (is_empty (entries before))) _ (ap (agrees (is_linked m.entry.what)) h.begins ∙ k.begun) (ap (λ b. implies b (may_follow_down m.entry.what)) (sym h.says.down) ∙ k.alive)) (ap (implies (is_some (sent_message m.entry.what))) (sym h.says.up) ∙ k.up))

  -- one Sent
  pub one_sent : is_sent_once l.state (entries before) m ≡ true
  one_sent = by _ (sent_message m.entry.what) k.fresh k.free
    where
      by : (X : Bool) (o : Option (Named Message)) → (elim o [ None ↦ true | Some x ↦ not (list_any (λ t. is_forward_of x.op t.letter) l.taken) ]) ≡ true → (elim o [ None ↦ true | Some x ↦ true && implies (is_bind l.state) X ]) ≡ true → (elim o [ None ↦ true | Some x ↦ not (list_any (λ e. passes (λ y. same_op x.op y.op) (sent_message e.what)) (entries before)) && implies (is_bind l.state) X ]) ≡ true
      by X None j i = refl
      by X (Some x) j i = both (not (list_any (λ e. passes (λ y. same_op x.op y.op) (sent_message e.what)) (entries before))) _ (ap not (false_by (list_any (λ e. passes (λ y. same_op x.op y.op) (sent_message e.what)) (entries before)) (λ b. not_both (list_any (λ t. is_forward_of x.op t.letter) l.taken) (h.sent x.op b) (not_true (list_any (λ t. is_forward_of x.op t.letter) l.taken) j)))) i

  -- the own Bind's answer
  own_answer : (test : List ℕ → Bool) → is_own_bind_answer test s u (entries before) m.entry ≡ is_own_answer l.state test m.entry.what
  own_answer test = by (got_message m.entry.what)
    where
      under : (x : Message) (X : Option ℕ) (o : Option OwnWait) (at : ℕ) (got : ℕ → Bool) (tag good : Bool) → o ≡ waiting_of X at got → (passes (λ id. not (got id)) X && (passes (λ id. x.id == id) X && tag && good)) ≡ (passes (λ own. own.id == x.id) o && tag && good)
      under x None o at got tag good j = ap (λ q. passes (λ own. own.id == x.id) q && tag && good) (sym j)
      under x (Some id) o at got tag good j = answered (got id) ∙ ap (λ q. passes (λ own. own.id == x.id) q && tag && good) (sym j)
        where
          answered : (g : Bool) → (not g && ((x.id == id) && tag && good)) ≡ (passes (λ (own : OwnWait). own.id == x.id) (if g then None else Some (record { id = id; at = at })) && tag && good)
          answered true = refl
          answered false = ap (λ b. b && tag && good) (eqb_sym x.id id)

      by : (o : Option Message) → (own_bind_waits s u (entries before) && passes (λ x. is_under_own_bind s u (entries before) x && tag_of x.rest == 0x61 && test x.rest) o) ≡ passes (λ x. is_under_own l.state x.id && tag_of x.rest == 0x61 && test x.rest) o
      by None = none (own_bind_waits s u (entries before))
        where
          none : (b : Bool) → (b && false) ≡ false
          none true = refl
          none false = refl
      by (Some x) = under x (own_bind_id s u (entries before)) l.state.own_bind (own_bind_at (entries before)) (λ id. has_got id (entries before)) (tag_of x.rest == 0x61) (test x.rest) h.own

  pub one_up : agrees (is_up_due s u (entries before) m.entry) (first_passes (λ e. is_up e.what) (entries ms)) ≡ true
  one_up = ap (λ b. agrees (is_linked m.entry.what && is_some (place_at s u) && not (begins_with_bind s u) || b) (first_passes (λ e. is_up e.what) (entries ms))) (own_answer (has_code 0)) ∙ ap (λ v. agrees (is_linked m.entry.what && is_some (place_at s v) && not (begins_with_bind s v) || is_own_answer l.state (has_code 0) m.entry.what) (first_passes (λ e. is_up e.what) (entries ms))) (sym h.number) ∙ k.ups

  pub one_retirement : agrees (is_retirement_due s (entries before) m.entry) (first_passes (λ e. is_retired e.what) (entries ms)) ≡ true
  one_retirement = k.retires

  pub one_own_end : agrees (is_refused_own_bind s u (entries before) m.entry) (first_passes (is_down_by OwnBind) (entries ms)) ≡ true
  one_own_end = ap (λ b. agrees b (first_passes (is_down_by OwnBind) (entries ms))) (own_answer (λ r. not (has_code 0 r))) ∙ k.own_ends

  -- the causes of an end
  own_due : passes (λ own. is_past s.timeout own.at m.entry.at) l.state.own_bind ≡ is_own_bind_due s u (entries before) m.entry.at
  own_due = ap (passes (λ own. is_past s.timeout own.at m.entry.at)) h.own ∙ by (own_bind_id s u (entries before)) (own_bind_at (entries before)) (λ id. has_got id (entries before))
    where
      waits : (g t : Bool) (w : OwnWait) → is_past s.timeout w.at m.entry.at ≡ t → passes (λ own. is_past s.timeout own.at m.entry.at) (if g then None else Some w) ≡ (not g && t)
      waits true t w j = refl
      waits false t w j = j

      by : (X : Option ℕ) (at : ℕ) (got : ℕ → Bool) → passes (λ own. is_past s.timeout own.at m.entry.at) (waiting_of X at got) ≡ (passes (λ id. not (got id)) X && is_past s.timeout at m.entry.at)
      by None at got = refl
      by (Some id) at got = waits (got id) (is_past s.timeout at m.entry.at) (record { id = id; at = at }) refl

  pub one_down : is_down_caused s l.state (entries before) m ≡ true
  one_down = by (down_why m.entry.what) k.down
    where
      cause : (why : EndWhy) → ends_for s l.state (entries before) m why ≡ true → has_down_cause s l.state (entries before) m why ≡ true
      cause TimedOut j = ap (λ b. is_bind_expired l.state (entries before) || b) (ap (λ v. is_own_bind_due s v (entries before) m.entry.at) h.number ∙ sym own_due) ∙ j
      cause Unfinished j = j
      cause Drained j = j
      cause OwnBind j = j
      cause _ j = j

      by : (o : Option EndWhy) → (elim o [ None ↦ true | Some why ↦ ends_for s l.state (entries before) m why ]) ≡ true → (elim o [ None ↦ true | Some why ↦ has_down_cause s l.state (entries before) m why ]) ≡ true
      by None j = refl
      by (Some why) j = cause why j

-- What a clause says of an entry stays where more stands behind the list.

-- a first entry that passes, with more behind
pub more_first : (t : Entry → Bool) (d M : List Marked) → first_passes t (entries d) ≡ true → first_passes t (entries (d ++ M)) ≡ true
more_first t d M h = ap (first_passes t) (map-append (λ x. x.entry) d M) ∙ first_stays t (entries d) (entries M) h

pub due_stays : (s : Settings) (M : List Marked) (q : ConnectionState) (m : Marked) (d : List Marked) → has_due_messages s q m d ≡ true → has_due_messages s q m (d ++ M) ≡ true
due_stays s M q m d h = both (implies (is_bind_due s q.number m.entry) (first_passes (is_own_bind s) (entries (d ++ M)))) _ (implies_stays (is_bind_due s q.number m.entry) (first_passes (is_own_bind s) (entries d)) _ (more_first (is_own_bind s) d M) (left (implies (is_bind_due s q.number m.entry) (first_passes (is_own_bind s) (entries d))) _ h)) (implies_stays (is_who_due q m.entry) (first_passes (is_own who_am_i) (entries d)) _ (more_first (is_own who_am_i) d M) (right (implies (is_bind_due s q.number m.entry) (first_passes (is_own_bind s) (entries d))) _ h))

pub expired_stays : (s : Settings) (M : List Marked) (q : ConnectionState) (m : Marked) (d : List Marked) → is_expired_due s q m d ≡ true → is_expired_due s q m (d ++ M) ≡ true
expired_stays s M q m d h = by (expired_op m.entry.what) h
  where
    told : (r : UpRow) (b : Bool) → (if b then first_passes (is_down_by TimedOut) (entries d) else first_passes (is_own (abandon r.id)) (entries d)) ≡ true → (if b then first_passes (is_down_by TimedOut) (entries (d ++ M)) else first_passes (is_own (abandon r.id)) (entries (d ++ M))) ≡ true
    told r true j = more_first (is_down_by TimedOut) d M j
    told r false j = more_first (is_own (abandon r.id)) d M j

    by : (o : Option OpName) → (elim o [ None ↦ true | Some op ↦ passes (λ r. is_due s m.entry.at r && is_expiry_told (entries d) r) (row_named q op) ]) ≡ true → (elim o [ None ↦ true | Some op ↦ passes (λ r. is_due s m.entry.at r && is_expiry_told (entries (d ++ M)) r) (row_named q op) ]) ≡ true
    by None j = refl
    by (Some op) j = passes_imply (λ r. is_due s m.entry.at r && is_expiry_told (entries d) r) (λ r. is_due s m.entry.at r && is_expiry_told (entries (d ++ M)) r) (row_named q op) (λ r i. both (is_due s m.entry.at r) _ (left (is_due s m.entry.at r) _ i) (told r (is_bind_row r) (right (is_due s m.entry.at r) _ i))) j

pub bad_stays : (M : List Marked) (q : ConnectionState) (m : Marked) (d : List Marked) → is_bad_told q m d ≡ true → is_bad_told q m (d ++ M) ≡ true
bad_stays M q m d h = implies_stays (passes (is_bad (message_facts q)) (got_message m.entry.what) && is_there q && not (is_holding q)) (first_passes (is_down_by Bad) (entries d)) _ (more_first (is_down_by Bad) d M) h

-- the first entry of a turn stands directly behind nothing
abbrev pub Opens : List Marked → Type 0
Opens ms = (first_passes (λ e. is_up e.what) (entries ms) ≡ false) × (first_passes (λ e. is_retired e.what) (entries ms) ≡ false) × (first_passes (is_down_by OwnBind) (entries ms) ≡ false)

-- What is kept behind each turn: all clauses of the share but that no operation is named twice.
pub record UpKeeps (s : Settings) (u : ℕ) (before : List Marked) (l : ConnectionLedger) : Type 0 where
  pub state : l.state ≡ behind (step_connection s) (empty_connection s u) before
  pub stands : UpStands s u before l
  pub marks : each_from (step_connection s) has_connection_mark (empty_connection s u) before ≡ true
  pub ids_right : each_id_right s u before ≡ true
  pub passed : each_passed s u before ≡ true
  pub sent_once : each_sent_once s u before ≡ true
  pub due : each_by_state s u (λ p place m behind. has_due_messages s p m behind) before ≡ true
  pub reasons : each_by_state s u (λ p place m behind. has_reason s p place m) before ≡ true
  pub ups : each_up_due s u before ≡ true
  pub retirements : each_retirement_due s before ≡ true
  pub own_bind_ends : each_own_bind_end_due s u before ≡ true
  pub expired : each_expired_due s u before ≡ true
  pub missed : each_missed_caused before ≡ true
  pub idle : each_idle_caused s u before ≡ true
  pub bad_messages : each_bad_told s u before ≡ true
  pub down : each_down_caused s u before ≡ true
  pub moments : moments_never_fall before ≡ true
  pub lives : lives_as_a_connection before ≡ true

chain_marks : (s : Settings) (ms : List Marked) (before : List Marked) (l : ConnectionLedger) → Chain s before l ms → each_from (step_connection s) has_connection_mark l.state ms ≡ true
chain_marks s [] before l k = refl
chain_marks s (m ∷ ms) before l k = both (has_connection_mark l.state m) _ k.0.fitting (chain_marks s ms (before ++ m ∷ []) (step_connection_ledger s l m) k.1)

module _ (s : Settings) (u : ℕ) (before : List Marked) (l : ConnectionLedger) (ms : List Marked) (h : UpKeeps s u before l) (k : Chain s before l ms) where
  -- a clause said of each entry by the state before it
  by_places : (test : ConnectionState → List Marked → Marked → List Marked → Bool) → ((q : ConnectionState) (c : List Marked) (x : Marked) (d : List Marked) → test q c x d ≡ true → test q c x (d ++ ms) ≡ true) → ((b : List Marked) (i : ConnectionLedger) (m : Marked) (d : List Marked) → UpStands s u b i → Permit s b i m d → test i.state b m d ≡ true) → each_place (step_connection s) test (empty_connection s u) [] before ≡ true → each_place (step_connection s) test (empty_connection s u) [] (before ++ ms) ≡ true
  by_places test stays one j = places_grow (step_connection s) test (empty_connection s u) [] before ms stays j (subst (λ q. each_place (step_connection s) test q before ms ≡ true) h.state (chain_places s u test one ms before l h.stands k))

  -- a clause said of each entry by what stands before it
  by_splits : (test : List Entry → Entry → List Entry → Bool) → ((c : List Entry) (x : Entry) (d : List Entry) → test c x d ≡ true → test c x (d ++ entries ms) ≡ true) → ((b : List Marked) (i : ConnectionLedger) (m : Marked) (d : List Marked) → UpStands s u b i → Permit s b i m d → test (entries b) m.entry (entries d) ≡ true) → each_split_from test [] (entries before) ≡ true → each_split_from test [] (entries (before ++ ms)) ≡ true
  by_splits test stays one j = ap (each_split_from test []) (map-append (λ x. x.entry) before ms) ∙ splits_grow test [] (entries before) (entries ms) stays j (chain_splits s u test one ms before l h.stands k)

  -- what stands directly behind exactly what is due
  by_exactly : (due : List Entry → Entry → Bool) (passed : Entry → Bool) → first_passes passed (entries ms) ≡ false → ((b : List Marked) (i : ConnectionLedger) (m : Marked) (d : List Marked) → UpStands s u b i → Permit s b i m d → agrees (due (entries b) m.entry) (first_passes passed (entries d)) ≡ true) → exactly_behind due passed (entries before) ≡ true → exactly_behind due passed (entries (before ++ ms)) ≡ true
  by_exactly due passed quiet one j = ap (exactly_behind due passed) (map-append (λ x. x.entry) before ms) ∙ exactly_grows due passed (entries before) (entries ms) quiet j (chain_splits s u (λ place e d. agrees (due place e) (first_passes passed d)) one ms before l h.stands k)

  -- a turn of permitted entries keeps each clause
  pub keeps_turn : Opens ms → UpKeeps s u (before ++ ms) (behind (step_connection_ledger s) l ms)
  keeps_turn opens =
      record {
        state = state_through s ms l ∙ ap (λ q. behind (step_connection s) q ms) h.state ∙ sym (behind_both (empty_connection s u) before);
        stands = stands_through s u ms before l h.stands k;
        marks = froms_grow (step_connection s) has_connection_mark (empty_connection s u) before ms h.marks (subst (λ q. each_from (step_connection s) has_connection_mark q ms ≡ true) h.state (chain_marks s ms before l k));
        ids_right = by_places (λ q c m d. has_right_id q.ids m.entry.what) (λ q c x d j. j) (λ b i m d g p. p.id_right) h.ids_right;
        passed = by_places (λ q c m d. may_pass (is_kind Regular q.kind) q.waiting m.entry.what) (λ q c x d j. j) (λ b i m d g p. p.passed) h.passed;
        sent_once = by_places (λ q c m d. is_sent_once q (entries c) m) (λ q c x d j. j) (λ b i m d g p. one_sent s u b i m d g p) h.sent_once;
        due = by_places (λ q c m d. has_due_messages s q m d) (λ q c x d j. due_stays s ms q x d j) (λ b i m d g p. p.due) h.due;
        reasons = by_places (λ q c m d. has_reason s q (entries c) m) (λ q c x d j. j) (λ b i m d g p. p.reason) h.reasons;
        ups = by_exactly (is_up_due s u) (λ e. is_up e.what) opens.0 (λ b i m d g p. one_up s u b i m d g p) h.ups;
        retirements = by_exactly (is_retirement_due s) (λ e. is_retired e.what) opens.1 (λ b i m d g p. one_retirement s u b i m d g p) h.retirements;
        own_bind_ends = by_exactly (is_refused_own_bind s u) (is_down_by OwnBind) opens.2 (λ b i m d g p. one_own_end s u b i m d g p) h.own_bind_ends;
        expired = by_places (λ q c m d. is_expired_due s q m d) (λ q c x d j. expired_stays s ms q x d j) (λ b i m d g p. p.expired) h.expired;
        missed = by_splits (λ place e d. is_missed_caused place e) (λ c x d j. j) (λ b i m d g p. one_missed s u b i m d g p) h.missed;
        idle = by_places (λ q c m d. is_idle_caused q m) (λ q c x d j. j) (λ b i m d g p. p.idle) h.idle;
        bad_messages = by_places (λ q c m d. is_bad_told q m d) (λ q c x d j. bad_stays ms q x d j) (λ b i m d g p. p.bad) h.bad_messages;
        down = by_places (λ q c m d. is_down_caused s q (entries c) m) (λ q c x d j. j) (λ b i m d g p. one_down s u b i m d g p) h.down;
        moments = by_splits (λ place e d. is_later place e) (λ c x d j. j) (λ b i m d g p. one_moment s u b i m d g p) h.moments;
        lives = by_splits (λ place e d. is_of_connection e.what && lives_as_connection place e) (λ c x d j. j) (λ b i m d g p. one_life s u b i m d g p) h.lives;
      }
    where
      behind_both : (q : ConnectionState) (b : List Marked) → behind (step_connection s) q (b ++ ms) ≡ behind (step_connection s) (behind (step_connection s) q b) ms
      behind_both q [] = refl
      behind_both q (x ∷ b) = behind_both (step_connection s q x) b

pub up_keeps_nothing : (s : Settings) (u : ℕ) → UpKeeps s u [] (empty_connection_ledger s u)
up_keeps_nothing s u =
    record {
      state = refl;
      stands = record { number = refl; says = up_says_nothing s u; begins = refl; head = λ e es j. absurd (let bad : [] ≡ e ∷ es = j in cc); own = refl; sent = λ op j. j; abandoned = λ i j. absurd (let bad : false ≡ true = j in cc); above = refl; own_above = refl; unlinked = λ q. refl; pauses = λ c. refl; once = λ i. refl };
      marks = refl;
      ids_right = refl;
      passed = refl;
      sent_once = refl;
      due = refl;
      reasons = refl;
      ups = refl;
      retirements = refl;
      own_bind_ends = refl;
      expired = refl;
      missed = refl;
      idle = refl;
      bad_messages = refl;
      down = refl;
      moments = refl;
      lives = refl;
    }
