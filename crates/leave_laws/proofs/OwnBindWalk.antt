-- On a bind connection each own message stands where it is due: along its list.
use Rattle.std.proofs.Common.{◌≡◌, ◌⊎◌, inl, inr, ℕ, Bool, true, false, ◌&&◌, ◌||◌, not, if◌then◌else◌, List, [], ◌∷◌, ◌++◌, refl, ap, ◌∙◌, sym, subst}
use Rattle.std.specs.Prelude.{Option, Some, None, flat_map, is_none, is_some, nat_lt}
use Rattle.std.specs.List.{list_any}
use Rattle.std.specs.Str.{bytes_eq}
use Rattle.std.proofs.lemmas.List.Folds.{list_any-append}
use Rattle.ldap_spec.specs.Bodies.{abandon, who_am_i}
use Rattle.ldap_spec.specs.Messages.{Message}
use Rattle.lload_names.specs.declared.names.ConnKind.TheVariants.{Bind as BindKind}
use Rattle.lload_names.specs.declared.names.EndWhy.{EndWhy}
use Rattle.lload_names.specs.declared.names.EndWhy.TheVariants.{TimedOut}
use Rattle.lload_names.specs.declared.names.Entry.{Entry}
use Rattle.lload_names.specs.declared.names.Letter.{Letter}
use Rattle.lload_names.specs.declared.names.Letter.TheVariants.{Drop, Forward}
use Rattle.lload_names.specs.declared.names.OpName.{OpName}
use Rattle.lload_names.specs.declared.names.What.{What}
use Rattle.lload_names.specs.declared.names.What.TheVariants as what
use Rattle.lload_spec.specs.Answers.{of_operation, sendings}
use Rattle.lload_spec.specs.Entries.{down_why, expired_op, got_message, is_down, is_down_by, is_expired, is_linked, is_of_connection, is_own, own_message, same_why}
use Rattle.lload_spec.specs.Journal.{Family, same_op}
use Rattle.lload_spec.specs.Lists.{agrees, each_split_from, first_passes, implies, last, last_passes, passes, where_there}
use Rattle.lload_spec.specs.OneEach.{has_due_messages, has_reason, is_bind_due, is_due_abandon, is_own_bind, is_who_due, last_is_who_due, succeeds}
use Rattle.lload_spec.specs.Settings.{Settings, is_kind, is_of_kind}
use Rattle.lload_spec.specs.Strict.{is_empty, lives_as_connection, may_follow_down}
use Rattle.lload_spec.proofs.Growth.{left, right, both}
use Rattle.lload_laws.proofs.ListLaws.{found, implied, implies_by}
use Rattle.part_laws.proofs.ListLaws.{any_filtered, last_push, or_elim, or_left, or_right}
use Rattle.part_spec.specs.ConnectionState.{ConnectionState, Kept, UpRow, behind_message, behind_own, connection_behind, is_abandoned_by, is_bind, is_bind_row, is_under_own, put_row, row_named, rows_sent, step_connection}
use Rattle.part_spec.specs.ConnectionTurn.{is_due}
use Rattle.part_spec.specs.Fit.{ConnectionLedger, are_fit_from, fits_connection, is_unfit, step_connection_ledger}
use Rattle.part_spec.specs.Marked.{Marked, Taken, entries}
use Rattle.part_spec.specs.Marks.{each_from, has_connection_mark}
use Rattle.part_spec.specs.Share.{drops, each_place, has_letter, is_expired_due, is_expiry_told, is_sent_once, is_who_awaited, has_due_messages as due_by_share, has_reason as reason_by_share, is_due_abandon as abandon_by_state, is_who_due as who_due_by_state, succeeds as succeeds_by_state}
use Rattle.connection_laws.proofs.Permits.{push_entry}
use Rattle.bind_laws.specs.Turns.{are_told_rightly, is_told_rightly}
use Rattle.bind_laws.proofs.Tells.{SentsAre}
use Rattle.joined_laws.proofs.Taken.{is_fit_there}
use Rattle.upstream_laws.proofs.BindEnds.{Comes, Here, here_step}
use Rattle.upstream_laws.proofs.Heads.{AtHeads, Head, Tail}
use Rattle.leave_laws.proofs.OwnBind.{awaited_got, due_by_list, due_by_state, last_who_push}
use Rattle.leave_laws.proofs.OwnRegular.{any_gives, own_so}

-- a row behind an own message awaits a Who Am I: it did, and the message is none
awaited_own : (m : Message) (rows : List UpRow) → list_any is_who_awaited (flat_map (behind_own m) rows) ≡ true → (list_any is_who_awaited rows && not (bytes_eq m.rest who_am_i)) ≡ true
awaited_own m [] h = absurd (let bad : false ≡ true = h in cc)
awaited_own m (r ∷ rows) h = or_elim (list_any is_who_awaited (behind_own m r)) (list_any is_who_awaited (flat_map (behind_own m) rows)) (λ k. here (one (bytes_eq m.rest who_am_i) r.kept (is_abandoned_by m.rest r) k)) (λ k. more (awaited_own m rows k)) (sym (list_any-append is_who_awaited (behind_own m r) (flat_map (behind_own m) rows)) ∙ h)
  where
    one : (w : Bool) (o : Option Kept) (a : Bool) → list_any is_who_awaited (elim (w && passes (λ k. is_none k.who) o) [ true ↦ record r { kept = elim o [ None ↦ None | Some k ↦ Some (record k { who = Some m.id }) ] } ∷ [] | false ↦ elim a [ true ↦ [] | false ↦ record r { kept = o } ∷ [] ] ]) ≡ true → (passes (λ k. is_none k.who) o && not w) ≡ true
    one true None true k = absurd (let bad : false ≡ true = k in cc)
    one true None false k = absurd (let bad : false ≡ true = k in cc)
    one true (Some q) a k = by (is_none q.who) refl k
      where
        by : (b : Bool) → is_none q.who ≡ b → list_any is_who_awaited (elim b [ true ↦ record r { kept = Some (record q { who = Some m.id }) } ∷ [] | false ↦ elim a [ true ↦ [] | false ↦ record r { kept = Some q } ∷ [] ] ]) ≡ true → (is_none q.who && false) ≡ true
        by true z j = absurd (let bad : false ≡ true = j in cc)
        by false z j = absurd (let bad : false ≡ true = stays a j in cc)
          where
            stays : (c : Bool) → list_any is_who_awaited (elim c [ true ↦ [] | false ↦ record r { kept = Some q } ∷ [] ]) ≡ true → false ≡ true
            stays true i = i
            stays false i = sym (ap (λ d. d || false) z) ∙ i
    one false o true k = absurd (let bad : false ≡ true = k in cc)
    one false o false k = both (passes (λ q. is_none q.who) o) true (or_elim (passes (λ q. is_none q.who) o) false (λ j. j) (λ j. absurd (let bad : false ≡ true = j in cc)) k) refl

    here : (is_who_awaited r && not (bytes_eq m.rest who_am_i)) ≡ true → (list_any is_who_awaited (r ∷ rows) && not (bytes_eq m.rest who_am_i)) ≡ true
    here k = both (list_any is_who_awaited (r ∷ rows)) _ (or_left (is_who_awaited r) _ (left (is_who_awaited r) _ k)) (right (is_who_awaited r) _ k)

    more : (list_any is_who_awaited rows && not (bytes_eq m.rest who_am_i)) ≡ true → (list_any is_who_awaited (r ∷ rows) && not (bytes_eq m.rest who_am_i)) ≡ true
    more k = both (list_any is_who_awaited (r ∷ rows)) _ (or_right (is_who_awaited r) _ (left (list_any is_who_awaited rows) _ k)) (right (list_any is_who_awaited rows) _ k)

-- a new row awaits none
awaited_put : (r : UpRow) (rows : List UpRow) → is_who_awaited r ≡ false → list_any is_who_awaited (put_row r rows) ≡ true → list_any is_who_awaited rows ≡ true
awaited_put r [] n h = absurd (let bad : false ≡ true = sym (ap (λ b. b || false) n) ∙ h in cc)
awaited_put r (x ∷ rows) n h = by (nat_lt x.id r.id) (awaited_put r rows n) h
  where
    by : (b : Bool) → (list_any is_who_awaited (put_row r rows) ≡ true → list_any is_who_awaited rows ≡ true) → list_any is_who_awaited (elim b [ true ↦ x ∷ put_row r rows | false ↦ r ∷ x ∷ rows ]) ≡ true → list_any is_who_awaited (x ∷ rows) ≡ true
    by true ih k = or_elim (is_who_awaited x) (list_any is_who_awaited (put_row r rows)) (λ j. or_left (is_who_awaited x) _ j) (λ j. or_right (is_who_awaited x) _ (ih j)) k
    by false ih k = sym (ap (λ b. b || list_any is_who_awaited (x ∷ rows)) n) ∙ k

module _ (s : Settings) (F : Family) (u : ℕ) (kind : is_of_kind s BindKind u ≡ true) where
  module _ (before : List Marked) (l : ConnectionLedger) (m : Marked) (ms : List Marked) (h : Here s F u before l) (comes : Comes s F u kind before l m) (awaits : list_any is_who_awaited l.state.rows ≡ true → is_own who_am_i m.entry ≡ true) (awaited : list_any is_who_awaited l.state.rows ≡ true → last_is_who_due s F u [] (entries before) ≡ true) (expired : last_passes (λ e. is_some (expired_op e.what)) (entries before) ≡ true → is_down m.entry ≡ true) where
    bind : is_bind l.state ≡ true
    bind = ap (is_kind BindKind) h.kind

    not_down : may_follow_down m.entry.what ≡ false → list_any is_down (entries before) ≡ false
    not_down k = by (list_any is_down (entries before)) (ap (implies (list_any is_down (entries before))) (sym k) ∙ comes.alive)
      where
        by : (b : Bool) → implies b false ≡ true → b ≡ false
        by true j = absurd (let bad : false ≡ true = j in cc)
        by false j = refl

    known : Head s F u before l → list_any is_down (entries before) ≡ false → SentsAre s F u (entries before) l.state.ids.next l.state.rows []
    known a d = (a.knows.tells a.told).sents (h.says.down ∙ d) refl

    -- a message begins a turn
    head : (id : ℕ) (rest : List ℕ) → m.entry.what ≡ what.Got id rest → Head s F u before l
    head id rest e = by comes.begun
      where
        by : Head s F u before l ⊎ Tail m → Head s F u before l
        by (inl a) = a
        by (inr a) = absurd (let bad : false ≡ true = sym (ap (λ w. is_none (got_message w)) e) ∙ a.quiet in cc)

    alive : (id : ℕ) (rest : List ℕ) → m.entry.what ≡ what.Got id rest → list_any is_down (entries before) ≡ false
    alive id rest e = not_down (ap may_follow_down e)

    one_due : due_by_share s l.state m ms ≡ true → has_due_messages s F u (entries before) m.entry (entries ms) ≡ true
    one_due k =
        both (implies (is_bind_due s u m.entry) (first_passes (is_own_bind s) (entries ms))) _ (ap (λ n. implies (is_bind_due s n m.entry) (first_passes (is_own_bind s) (entries ms))) (sym h.number) ∙ left (implies (is_bind_due s l.state.number m.entry) (first_passes (is_own_bind s) (entries ms))) _ k)
        (implies_by (is_who_due s F u (entries before) m.entry) _ (λ j. implied (who_due_by_state l.state m.entry) _ (right (implies (is_bind_due s l.state.number m.entry) (first_passes (is_own_bind s) (entries ms))) _ k) (by m.entry.what refl j)))
      where
        by : (w : What) → m.entry.what ≡ w → passes (λ y. list_any (of_operation F (succeeds s y)) (sendings u (entries before))) (got_message w) ≡ true → who_due_by_state l.state m.entry ≡ true
        by (what.Got id rest) e j = ap (λ w. passes (λ y. list_any (succeeds_by_state y) l.state.rows) (got_message w)) e ∙ due_by_list s F u (entries before) l.state (head id rest e).knows.keeps.stands.lone (alive id rest e) (known (head id rest e) (alive id rest e)) (record { id = id; rest = rest }) j
        by _ e j = absurd (let bad : false ≡ true = j in cc)

    -- no Abandon
    no_abandon : is_some (own_message m.entry.what) ≡ true → abandon_by_state l.state (entries before) m ≡ true → false ≡ true
    no_abandon own k = any_gives (λ x. is_own (abandon x.id) m.entry && (is_some (row_named l.state x.op) && has_letter (drops x.op) m || last_passes (is_expired x.op) (entries before))) (sendings l.state.number (entries before)) (λ x j. or_elim (is_some (row_named l.state x.op) && has_letter (drops x.op) m) (last_passes (is_expired x.op) (entries before)) (λ i. no_drop x.op m.mark refl (right (is_some (row_named l.state x.op)) _ i)) (λ i. down m.entry.what own (expired (some x.op (last (entries before)) i))) (right (is_own (abandon x.id) m.entry) _ j)) k
      where
        no_drop : (op : OpName) (o : Option Taken) → m.mark ≡ o → passes (λ t. drops op t.letter) o ≡ true → false ≡ true
        no_drop op None z j = j
        no_drop op (Some t) z j = of t.letter (comes.fit t z) j
          where
            of : (x : Letter) → fits_connection s l t.sender x ≡ true → drops op x ≡ true → false ≡ true
            of (Drop q) f i = sym (ap not bind) ∙ left (not (is_bind l.state)) _ f
            of _ f i = i

        down : (w : What) → is_some (own_message w) ≡ true → passes (λ _. true) (down_why w) ≡ true → false ≡ true
        down (what.Own id rest) i j = j
        down _ i j = i

        some : (op : OpName) (o : Option Entry) → (elim o [ None ↦ false | Some e ↦ is_expired op e ]) ≡ true → (elim o [ None ↦ false | Some e ↦ is_some (expired_op e.what) ]) ≡ true
        some op None i = i
        some op (Some e) i = one (expired_op e.what) i
          where
            one : (o : Option OpName) → passes (same_op op) o ≡ true → is_some o ≡ true
            one None q = q
            one (Some n) q = refl

    one_reasoned : reason_by_share s l.state (entries before) m ≡ true → has_reason s F u (entries before) m.entry ≡ true
    one_reasoned k = implies_by (is_some (own_message m.entry.what)) _ (λ own. by own (implied (is_some (own_message m.entry.what)) _ k own))
      where
        by : is_some (own_message m.entry.what) ≡ true → (is_own_bind s m.entry && last_passes (is_bind_due s l.state.number) (entries before) || is_own who_am_i m.entry && list_any is_who_awaited l.state.rows || abandon_by_state l.state (entries before) m) ≡ true → (is_own_bind s m.entry && last_passes (is_bind_due s u) (entries before) || is_own who_am_i m.entry && last_is_who_due s F u [] (entries before) || is_due_abandon F u (entries before) m.entry) ≡ true
        by own j =
            or_elim (is_own_bind s m.entry && last_passes (is_bind_due s l.state.number) (entries before) || is_own who_am_i m.entry && list_any is_who_awaited l.state.rows) (abandon_by_state l.state (entries before) m)
            (λ i. or_left (is_own_bind s m.entry && last_passes (is_bind_due s u) (entries before) || is_own who_am_i m.entry && last_is_who_due s F u [] (entries before)) _ (or_elim (is_own_bind s m.entry && last_passes (is_bind_due s l.state.number) (entries before)) (is_own who_am_i m.entry && list_any is_who_awaited l.state.rows)
            (λ q. or_left (is_own_bind s m.entry && last_passes (is_bind_due s u) (entries before)) _ (ap (λ n. is_own_bind s m.entry && last_passes (is_bind_due s n) (entries before)) (sym h.number) ∙ q))
            (λ q. or_right (is_own_bind s m.entry && last_passes (is_bind_due s u) (entries before)) _ (both (is_own who_am_i m.entry) _ (left (is_own who_am_i m.entry) _ q) (awaited (right (is_own who_am_i m.entry) _ q)))) i))
            (λ i. absurd (let bad : false ≡ true = no_abandon own i in cc)) j

    -- a row that awaits a Who Am I behind the entry: the entry is the message that it is due behind
    abbrev Awaited : Type 0
    Awaited = (first_passes (is_own who_am_i) (entries ms) && last_is_who_due s F u [] (entries before ++ m.entry ∷ [])) ≡ true

    awaited_next : due_by_share s l.state m ms ≡ true → list_any is_who_awaited (step_connection s l.state m).rows ≡ true → (first_passes (is_own who_am_i) (entries ms) && last_is_who_due s F u [] (entries before ++ m.entry ∷ [])) ≡ true
    awaited_next due k = by m.entry.what refl k
      where
        never : (w : What) → m.entry.what ≡ w → own_message w ≡ None → list_any is_who_awaited l.state.rows ≡ true → Awaited
        never w e none j = absurd (let bad : false ≡ true = sym (ap (λ v. passes (λ y. bytes_eq y.rest who_am_i) (own_message v)) e ∙ ap (passes (λ y. bytes_eq y.rest who_am_i)) none) ∙ awaits j in cc)

        got : (id : ℕ) (rest : List ℕ) → m.entry.what ≡ what.Got id rest → list_any (succeeds_by_state (record { id = id; rest = rest })) l.state.rows ≡ true → Awaited
        got id rest e j =
            both (first_passes (is_own who_am_i) (entries ms)) _
            (implied (who_due_by_state l.state m.entry) _ (right (implies (is_bind_due s l.state.number m.entry) (first_passes (is_own_bind s) (entries ms))) _ due) (ap (λ w. passes (λ y. list_any (succeeds_by_state y) l.state.rows) (got_message w)) e ∙ j))
            (last_who_push s F u [] (entries before) m.entry ∙ ap (λ w. passes (λ y. list_any (of_operation F (succeeds s y)) (sendings u (entries before))) (got_message w)) e ∙ due_by_state s F u (entries before) l.state (head id rest e).knows.keeps.stands.lone (alive id rest e) (known (head id rest e) (alive id rest e)) (record { id = id; rest = rest }) j)

        sent : (w : What) → m.entry.what ≡ w → own_message w ≡ None → (id : ℕ) (o : Option Taken) → list_any is_who_awaited (elim o [ None ↦ l.state.rows | Some t ↦ rows_sent m.entry.at id l.state.rows t.letter ]) ≡ true → Awaited
        sent w e none id None j = never w e none j
        sent w e none id (Some t) j = of t.letter j
          where
            of : (x : Letter) → list_any is_who_awaited (rows_sent m.entry.at id l.state.rows x) ≡ true → Awaited
            of (Forward op sort rest ask holder) i = never w e none (awaited_put (record { id = id; op = op; kind = sort; ask_who = ask; sent = m.entry.at; answered = m.entry.at; kept = None }) l.state.rows refl i)
            of _ i = never w e none i

        by : (w : What) → m.entry.what ≡ w → list_any is_who_awaited (step_connection s l.state m).rows ≡ true → Awaited
        by (what.Got id rest) e j = under (is_under_own l.state id) (subst (λ w. list_any is_who_awaited (connection_behind s m.entry m.mark l.state w).rows ≡ true) e j)
          where
            under : (b : Bool) → list_any is_who_awaited (if b then l.state.rows else flat_map (behind_message m.entry.at (record { id = id; rest = rest })) l.state.rows) ≡ true → Awaited
            under true i = never (what.Got id rest) e refl i
            under false i = or_elim (list_any is_who_awaited l.state.rows) (list_any (succeeds_by_state (record { id = id; rest = rest })) l.state.rows) (never (what.Got id rest) e refl) (got id rest e) (awaited_got m.entry.at (record { id = id; rest = rest }) l.state.rows i)
        by (what.Own id rest) e j =
            let were : (list_any is_who_awaited l.state.rows && not (bytes_eq rest who_am_i)) ≡ true = awaited_own (record { id = id; rest = rest }) l.state.rows (subst (λ w. list_any is_who_awaited (connection_behind s m.entry m.mark l.state w).rows ≡ true) e j) in
            let is_who : bytes_eq rest who_am_i ≡ true = sym (ap (λ w. passes (λ y. bytes_eq y.rest who_am_i) (own_message w)) e) ∙ awaits (left (list_any is_who_awaited l.state.rows) _ were) in
            absurd (let bad : false ≡ true = sym (ap not is_who) ∙ right (list_any is_who_awaited l.state.rows) _ were in cc)
        by (what.Sent id op rest) e j = sent (what.Sent id op rest) e refl id m.mark (subst (λ w. list_any is_who_awaited (connection_behind s m.entry m.mark l.state w).rows ≡ true) e j)
        by (what.Expired op) e j = never (what.Expired op) e refl (any_filtered is_who_awaited (λ r. not (same_op op r.op)) l.state.rows (subst (λ w. list_any is_who_awaited (connection_behind s m.entry m.mark l.state w).rows ≡ true) e j))
        by (what.Down why) e j = absurd (let bad : false ≡ true = subst (λ w. list_any is_who_awaited (connection_behind s m.entry m.mark l.state w).rows ≡ true) e j in cc)
        by what.Linked e j = never what.Linked e refl (subst (λ w. list_any is_who_awaited (connection_behind s m.entry m.mark l.state w).rows ≡ true) e j)
        by w e j = never w e refl (subst (λ v. list_any is_who_awaited (connection_behind s m.entry m.mark l.state v).rows ≡ true) e j)

    expired_next : is_expired_due s l.state m ms ≡ true → last_passes (λ e. is_some (expired_op e.what)) (entries before ++ m.entry ∷ []) ≡ true → first_passes is_down (entries ms) ≡ true
    expired_next k last_so = by m.entry.what refl k (sym (ap (λ o. elim o [ None ↦ false | Some e ↦ is_some (expired_op e.what) ]) (last_push (entries before) m.entry)) ∙ last_so)
      where
        down : (es : List Entry) → first_passes (is_down_by TimedOut) es ≡ true → first_passes is_down es ≡ true
        down [] j = j
        down (y ∷ es) j = one (down_why y.what) j
          where
            one : (o : Option EndWhy) → passes (same_why TimedOut) o ≡ true → passes (λ _. true) o ≡ true
            one None q = q
            one (Some v) q = refl

        row : (op : OpName) (o : Option UpRow) → row_named l.state op ≡ o → passes (λ r. is_due s m.entry.at r && is_expiry_told (entries ms) r) o ≡ true → first_passes is_down (entries ms) ≡ true
        row op None z j = absurd (let bad : false ≡ true = j in cc)
        row op (Some r) z j = down (entries ms) (sym (ap (λ b. if b then first_passes (is_down_by TimedOut) (entries ms) else first_passes (is_own (abandon r.id)) (entries ms)) (found is_bind_row (λ q. same_op op q.op) l.state.rows r z h.binds)) ∙ right (is_due s m.entry.at r) _ j)

        by : (w : What) → m.entry.what ≡ w → (elim (expired_op w) [ None ↦ true | Some op ↦ passes (λ r. is_due s m.entry.at r && is_expiry_told (entries ms) r) (row_named l.state op) ]) ≡ true → is_some (expired_op w) ≡ true → first_passes is_down (entries ms) ≡ true
        by (what.Expired op) e j i = row op (row_named l.state op) refl j
        by _ e j i = absurd (let bad : false ≡ true = i in cc)

  abbrev reasons : ConnectionState → List Marked → Marked → List Marked → Bool
  reasons p b m behind = due_by_share s p m behind && reason_by_share s p (entries b) m

  abbrev due_so : ConnectionState → List Marked → Marked → List Marked → Bool
  due_so p b m behind = is_expired_due s p m behind

  abbrev once_so : ConnectionState → List Marked → Marked → List Marked → Bool
  once_so p b m behind = is_sent_once p (entries b) m

  abbrev lives_so : List Entry → Entry → List Entry → Bool
  lives_so place e behind = is_of_connection e.what && lives_as_connection place e

  -- what is known beside of the rest of the list
  pub record Beside (before : List Marked) (l : ConnectionLedger) (ms : List Marked) : Type 0 where
    pub awaits : list_any is_who_awaited l.state.rows ≡ true → first_passes (is_own who_am_i) (entries ms) ≡ true
    pub awaited : list_any is_who_awaited l.state.rows ≡ true → last_is_who_due s F u [] (entries before) ≡ true
    pub expired : last_passes (λ e. is_some (expired_op e.what)) (entries before) ≡ true → first_passes is_down (entries ms) ≡ true

  pub bind_own : (ms before : List Marked) (l : ConnectionLedger) → AtHeads s F u before l ms → Here s F u before l → Beside before l ms → are_fit_from (fits_connection s) (step_connection_ledger s) l ms ≡ true → each_from (step_connection s) has_connection_mark l.state ms ≡ true → each_place (step_connection s) once_so l.state before ms ≡ true → each_split_from lives_so (entries before) (entries ms) ≡ true → are_told_rightly s F ms ≡ true → each_place (step_connection s) due_so l.state before ms ≡ true → each_place (step_connection s) reasons l.state before ms ≡ true → each_split_from (own_so s F u) (entries before) (entries ms) ≡ true
  bind_own [] before l a h b fit marks once life told due k = refl
  bind_own (m ∷ ms) before l a h b fit marks once life told due k =
      both (own_so s F u (entries before) m.entry (entries ms)) _
      (both (has_due_messages s F u (entries before) m.entry (entries ms)) _ (one_due before l m ms h comes b.awaits b.awaited b.expired (left (due_by_share s l.state m ms) _ here)) (one_reasoned before l m ms h comes b.awaits b.awaited b.expired (right (due_by_share s l.state m ms) _ here)))
      (subst (λ place. each_split_from (own_so s F u) place (entries ms) ≡ true) (push_entry before m)
      (bind_own ms (before ++ m ∷ []) (step_connection_ledger s l m) a.1 (here_step s F u kind before l h m.entry.part m.entry.at m.mark m.entry.what ms comes (left (is_expired_due s l.state m ms) _ due)) beside (right (not (is_unfit (fits_connection s) l m.mark)) _ fit) (right (has_connection_mark l.state m) _ marks) (right (is_sent_once l.state (entries before) m) _ once)
      (subst (λ place. each_split_from lives_so place (entries ms) ≡ true) (sym (push_entry before m)) (right (lives_so (entries before) m.entry (entries ms)) _ life))
      (right (where_there (λ t. is_told_rightly s F t.letter) m.mark) _ told) (right (is_expired_due s l.state m ms) _ due) (right (reasons l.state before m ms) _ k)))
    where
      here : reasons l.state before m ms ≡ true
      here = left (reasons l.state before m ms) _ k

      comes : Comes s F u kind before l m
      comes =
          record {
            begun = a.0;
            marked = left (has_connection_mark l.state m) _ marks;
            once = left (is_sent_once l.state (entries before) m) _ once;
            alive = right (agrees (is_linked m.entry.what) (is_empty (entries before))) _ (left (agrees (is_linked m.entry.what) (is_empty (entries before)) && implies (list_any is_down (entries before)) (may_follow_down m.entry.what)) _ (right (is_of_connection m.entry.what) _ (left (lives_so (entries before) m.entry (entries ms)) _ life)));
            told = left (where_there (λ t. is_told_rightly s F t.letter) m.mark) _ told;
            fit = λ t e. is_fit_there (fits_connection s) l t (are_fit_from (fits_connection s) (step_connection_ledger s) (step_connection_ledger s l m) ms) (ap (λ q. not (is_unfit (fits_connection s) l q) && are_fit_from (fits_connection s) (step_connection_ledger s) (step_connection_ledger s l m) ms) (sym e) ∙ fit);
          }

      both_next : list_any is_who_awaited (step_connection s l.state m).rows ≡ true → (first_passes (is_own who_am_i) (entries ms) && last_is_who_due s F u [] (entries before ++ m.entry ∷ [])) ≡ true
      both_next = awaited_next before l m ms h comes b.awaits b.awaited b.expired (left (due_by_share s l.state m ms) _ here)

      beside : Beside (before ++ m ∷ []) (step_connection_ledger s l m) ms
      beside =
          record {
            awaits = λ j. left (first_passes (is_own who_am_i) (entries ms)) _ (both_next j);
            awaited = λ j. subst (λ place. last_is_who_due s F u [] place ≡ true) (sym (push_entry before m)) (right (first_passes (is_own who_am_i) (entries ms)) _ (both_next j));
            expired = subst (λ place. last_passes (λ e. is_some (expired_op e.what)) place ≡ true → first_passes is_down (entries ms) ≡ true) (sym (push_entry before m)) (expired_next before l m ms h comes b.awaits b.awaited b.expired (left (is_expired_due s l.state m ms) _ due));
          }

  pub nothing_beside : (l : ConnectionLedger) (ms : List Marked) → l.state.rows ≡ [] → Beside [] l ms
  nothing_beside l ms none =
      record {
        awaits = λ j. absurd (let bad : false ≡ true = sym (ap (list_any is_who_awaited) none) ∙ j in cc);
        awaited = λ j. absurd (let bad : false ≡ true = sym (ap (list_any is_who_awaited) none) ∙ j in cc);
        expired = λ j. absurd (let bad : false ≡ true = j in cc);
      }
