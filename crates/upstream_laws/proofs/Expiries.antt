-- Each operation that expires is due: on connections of both kinds.
use Rattle.std.proofs.Common.{◌≡◌, ◌⊎◌, inl, inr, ℕ, Bool, true, false, ◌==◌, ◌&&◌, not, List, [], ◌∷◌, ◌++◌, length, refl, ap, ◌∙◌, sym, subst}
use Rattle.std.specs.Prelude.{Option, Some, None, map, filter, flat_map, find, if◌then◌else◌, option_map}
use Rattle.std.specs.List.{list_any}
use Rattle.std.specs.Str.{bytes_eq}
use Rattle.ldap_spec.specs.Messages.{Message}
use Rattle.lload_names.specs.declared.names.OpKind.TheVariants.{Bind}
use Rattle.lload_names.specs.declared.names.ConnKind.TheVariants.{Bind as BindKind, Regular}
use Rattle.lload_names.specs.declared.names.Entry.{Entry}
use Rattle.lload_names.specs.declared.names.Letter.{Letter}
use Rattle.lload_names.specs.declared.names.Letter.TheVariants.{Forward}
use Rattle.lload_names.specs.declared.names.OpName.{OpName}
use Rattle.lload_names.specs.declared.names.PartName.{PartName}
use Rattle.lload_names.specs.declared.names.PartName.TheVariants.{Up as Connection}
use Rattle.lload_names.specs.declared.names.What.{What}
use Rattle.lload_names.specs.declared.names.What.TheVariants as what
use Rattle.lload_spec.specs.Answers.{Sending, asks_who, of_operation, sendings}
use Rattle.lload_spec.specs.CausedUp.{is_past, is_due as is_due_by_list, is_due_at, is_expired_caused, last_answer}
use Rattle.lload_spec.specs.Entries.{expired_op, got_message, is_down, is_linked, is_of_connection, sent_message}
use Rattle.lload_spec.specs.Journal.{Family, same_op}
use Rattle.lload_spec.specs.Lists.{agrees, each_split_from, implies, last, passes, where_there}
use Rattle.lload_spec.specs.Operations.{Operation, operation, is_of}
use Rattle.lload_spec.specs.Settings.{Settings, is_kind, is_of_kind}
use Rattle.lload_spec.specs.Strict.{is_empty, lives_as_connection, may_follow_down}
use Rattle.lload_spec.proofs.Growth.{left, right, both}
use Rattle.lload_laws.specs.ConnectionGrowth.{later_sending}
use Rattle.lload_laws.proofs.ConnectionGrowth.{sendings_grow}
use Rattle.lload_laws.proofs.ListLaws.{found_passes, implied}
use Rattle.part_laws.proofs.ListLaws.{last_push, or_left, or_right, same_op_eq}
use Rattle.part_spec.specs.ConnectionState.{ConnectionState, OwnWait, UpRow, behind_message, behind_own, connection_behind, is_bind, is_bind_row, is_under_own, row_named, rows_sent, step_connection}
use Rattle.part_spec.specs.ConnectionTurn.{is_due}
use Rattle.part_spec.specs.Fit.{ConnectionLedger, empty_connection_ledger, step_connection_ledger}
use Rattle.part_spec.specs.Laws.{FitIsWhole}
use Rattle.part_spec.specs.Marked.{Marked, Taken, entries}
use Rattle.part_spec.specs.Marks.{each_from, has_connection_mark, marks_connection}
use Rattle.part_spec.specs.Share.{ConnectionShare, each_place, is_expired_due, is_expiry_told, is_free_by, is_sent_once}
use Rattle.connection_laws.proofs.ConnectionSays.{kind_step}
use Rattle.connection_laws.proofs.Permits.{push_entry}
use Rattle.connection_laws.proofs.Through.{no_rows}
use Rattle.bind_laws.specs.Turns.{are_told_rightly, is_told_rightly}
use Rattle.bind_laws.proofs.BindShare.{begins_alone}
use Rattle.bind_laws.proofs.Lone.{is_lone, no_own}
use Rattle.bind_laws.proofs.Tells.{RowsAre, SentsAre}
use Rattle.carried_laws.specs.Laws.{ForwardsAreRight}
use Rattle.caused_laws.specs.Laws.{BindConnectionsSay}
use Rattle.client_answer_laws.proofs.Each.{each_append, each_filter, each_found, each_imply}
use Rattle.rows_laws.proofs.Known.{AtEach, Known}
use Rattle.rows_laws.proofs.Live.{Live}
use Rattle.rows_laws.proofs.Regular.{known_at_each}
use Rattle.rows_laws.proofs.Somewhere.{OneIn, each_flat, one_passes}
use Rattle.upstream_laws.specs.Laws.{ExpiriesAreDue}
use Rattle.upstream_laws.proofs.Answered.{LastOf, OfLast, Said, got_said, last_stays, own_same, said_later}
use Rattle.upstream_laws.proofs.Heads.{AtHeads, Head, Tail, bind_heads}
use Rattle.upstream_laws.proofs.Places.{each_connection}

-- the last of some passes, so one does
pub last_any : {A : Type 0} (t : A → Bool) (xs : List A) (x : A) → last xs ≡ Some x → t x ≡ true → list_any t xs ≡ true
last_any t [] x h k = absurd (let bad : None ≡ Some x = h in cc)
last_any t (y ∷ []) x h k = let same : y ≡ x = cc in or_left (t y) false (ap t same ∙ k)
last_any t (y ∷ z ∷ xs) x h k = or_right (t y) _ (last_any t (z ∷ xs) x h k)

module _ (s : Settings) (F : Family) where
  -- a Sent is due where its row is
  due_by : (op : OpName) (at : ℕ) (r : UpRow) (x : Sending) (o : Operation) → operation F x.op ≡ Some o → x.op ≡ r.op → last_answer o x.id x.at x.behind ≡ r.answered → same_op op r.op ≡ true → is_due s at r ≡ true → (same_op op x.op && of_operation F (is_due_by_list s at) x) ≡ true
  due_by op at r x o found name answered same due = both (same_op op x.op) _ (ap (same_op op) name ∙ same) (ap (passes (λ q. is_due_by_list s at q x)) found ∙ ap (λ n. is_past s.timeout n at) answered ∙ due)

  -- what expires is due, where each row's operation was sent so
  one_due : (u : ℕ) (place : List Entry) (p : ConnectionState) (m : Marked) (ms : List Marked) → ((r : UpRow) (op : OpName) → row_named p op ≡ Some r → is_due s m.entry.at r ≡ true → is_due_at s F u place op m.entry.at ≡ true) → is_expired_due s p m ms ≡ true → is_expired_caused s F u place m.entry ≡ true
  one_due u place p m ms due h = by (expired_op m.entry.what) h
    where
      row : (op : OpName) (o : Option UpRow) → row_named p op ≡ o → passes (λ r. is_due s m.entry.at r && is_expiry_told (entries ms) r) o ≡ true → is_due_at s F u place op m.entry.at ≡ true
      row op None e k = absurd (let bad : false ≡ true = k in cc)
      row op (Some r) e k = due r op e (left (is_due s m.entry.at r) _ k)

      by : (o : Option OpName) → (elim o [ None ↦ true | Some op ↦ passes (λ r. is_due s m.entry.at r && is_expiry_told (entries ms) r) (row_named p op) ]) ≡ true → where_there (λ op. is_due_at s F u place op m.entry.at) o ≡ true
      by None k = refl
      by (Some op) k = row op (row_named p op) refl k

  abbrev by_state : ConnectionState → List Marked → Marked → List Marked → Bool
  by_state p b m behind = is_expired_due s p m behind

  abbrev by_list : ℕ → List Entry → Entry → List Entry → Bool
  by_list u place e behind = is_expired_caused s F u place e

  -- A regular connection.
  regular_due : (u : ℕ) (before : List Marked) (l : ConnectionLedger) → Known s F u before l → (at : ℕ) (r : UpRow) (op : OpName) → row_named l.state op ≡ Some r → is_due s at r ≡ true → is_due_at s F u (entries before) op at ≡ true
  regular_due u before l h at r op e due = one_passes (λ x. Live s F r x) (λ x. same_op op x.op && of_operation F (is_due_by_list s at) x) (sendings u (entries before)) (λ x k. due_by op at r x k.o k.found k.op k.answered (found_passes (λ q. same_op op q.op) l.state.rows r e) due) (each_found (λ q. OneIn (λ x. Live s F q x) (sendings u (entries before))) (λ q. same_op op q.op) l.state.rows r e h.lives.of_rows)

  regular_expiries : (u : ℕ) (ms before : List Marked) (l : ConnectionLedger) → AtEach s (Known s F u) before l ms → each_place (step_connection s) by_state l.state before ms ≡ true → each_split_from (by_list u) (entries before) (entries ms) ≡ true
  regular_expiries u [] before l h k = refl
  regular_expiries u (m ∷ ms) before l h k = both (by_list u (entries before) m.entry (entries ms)) _ (one_due u (entries before) l.state m ms (regular_due u before l h.0 m.entry.at) (left (is_expired_due s l.state m ms) _ k)) (subst (λ place. each_split_from (by_list u) place (entries ms) ≡ true) (push_entry before m) (regular_expiries u ms (before ++ m ∷ []) (step_connection_ledger s l m) h.1 (right (is_expired_due s l.state m ms) _ k)))

  -- A bind connection.
  module _ (u : ℕ) (kind : is_of_kind s BindKind u ≡ true) where
    abbrev At : List Entry → List UpRow → Type 0
    At place rows = Said F rows (last (sendings u place))

    module _ (before : List Marked) (l : ConnectionLedger) (part : PartName) (at : ℕ) (h : Said F l.state.rows (last (sendings u (entries before)))) where
      abbrev entry : What → Entry
      entry w = record { part = part; at = at; what = w }

      abbrev after : What → List UpRow → Type 0
      after w rows = Said F rows (last (sendings u (entries before ++ entry w ∷ [])))

      unsent : (w : What) (rows : List UpRow) → sent_message w ≡ None → Said F rows (option_map (later_sending (entry w)) (last (sendings u (entries before)))) → after w rows
      unsent w rows none k = subst (Said F rows) (sym (last_stays u (entries before) (entry w) none)) k

      idle : (w : What) → sent_message w ≡ None → got_message w ≡ None → after w l.state.rows
      idle w none quiet = unsent w l.state.rows none (each_imply (LastOf F (last (sendings u (entries before)))) (LastOf F (option_map (later_sending (entry w)) (last (sendings u (entries before))))) l.state.rows (λ r k. said_later F (entry w) (last (sendings u (entries before))) r r quiet refl refl k) h)

      owns : (id : ℕ) (rest : List ℕ) → after (what.Own id rest) (flat_map (behind_own (record { id = id; rest = rest })) l.state.rows)
      owns id rest = unsent (what.Own id rest) (flat_map (behind_own (record { id = id; rest = rest })) l.state.rows) refl (each_flat (LastOf F (last (sendings u (entries before)))) (LastOf F (option_map (later_sending (entry (what.Own id rest))) (last (sendings u (entries before))))) (behind_own (record { id = id; rest = rest })) l.state.rows (λ r k. each_imply (λ q. (q.op ≡ r.op) × (q.answered ≡ r.answered)) (LastOf F (option_map (later_sending (entry (what.Own id rest))) (last (sendings u (entries before))))) (behind_own (record { id = id; rest = rest }) r) (λ q i. said_later F (entry (what.Own id rest)) (last (sendings u (entries before))) r q refl i.0 i.1 k) (own_same (record { id = id; rest = rest }) r)) h)

      expires : (op : OpName) → after (what.Expired op) (filter (λ r. not (same_op op r.op)) l.state.rows)
      expires op = unsent (what.Expired op) (filter (λ r. not (same_op op r.op)) l.state.rows) refl (each_filter (LastOf F (last (sendings u (entries before)))) (LastOf F (option_map (later_sending (entry (what.Expired op))) (last (sendings u (entries before))))) (λ r. not (same_op op r.op)) l.state.rows (λ r i k. said_later F (entry (what.Expired op)) (last (sendings u (entries before))) r r refl refl refl k) h)

      -- a message, where the turn begins
      got : Head s F u before l → (id : ℕ) (rest : List ℕ) → l.state.down ≡ false → after (what.Got id rest) (if is_under_own l.state id then l.state.rows else flat_map (behind_message at (record { id = id; rest = rest })) l.state.rows)
      got a id rest there =
          let m : Message = record { id = id; rest = rest } in
          let known : SentsAre s F u (entries before) l.state.ids.next l.state.rows [] = (a.knows.tells a.told).sents there refl in
          let none : is_under_own l.state id ≡ false = ap (passes (λ (v : OwnWait). v.id == id)) (no_own s u (entries before) l.state (begins_alone s u kind) a.knows.keeps.keeps.stands.own) in
          subst (after (what.Got id rest)) (sym (ap (λ b. if b then l.state.rows else flat_map (behind_message at m) l.state.rows) none)) (unsent (what.Got id rest) (flat_map (behind_message at m) l.state.rows) refl (subst (λ xs. Said F (flat_map (behind_message at m) l.state.rows) (option_map (later_sending (entry (what.Got id rest))) (last xs))) (sym known.split) (by l.state.rows known.live known.done a.knows.keeps.stands.lone known.are (subst (λ xs. Said F l.state.rows (last xs)) known.split h))))
        where
          by : (rows : List UpRow) (live done : List Sending) → is_lone rows ≡ true → RowsAre s F l.state.ids.next rows live [] → Said F rows (last (done ++ live)) → Said F (flat_map (behind_message at (record { id = id; rest = rest })) rows) (option_map (later_sending (entry (what.Got id rest))) (last (done ++ live)))
          by [] live done b r k = tt
          by (r ∷ []) [] done b i k = absurd i
          by (r ∷ []) (x ∷ []) done b i k = subst (λ o. Said F (flat_map (behind_message at (record { id = id; rest = rest })) (r ∷ [])) (option_map (later_sending (entry (what.Got id rest))) o)) (sym (last_push done x)) (each_append (λ q. OfLast F q (later_sending (entry (what.Got id rest)) x)) (behind_message at (record { id = id; rest = rest }) r) [] (got_said s F l.state.ids.next r x i (left (is_bind_row r) _ b) (subst (λ o. Said F (r ∷ []) o) (last_push done x) k).0 part at id rest) tt)
          by (r ∷ []) (x ∷ y ∷ live) done b i k = absurd i
          by (r ∷ q ∷ rows) live done b i k = absurd (let bad : false ≡ true = b in cc)

      sends : (id : ℕ) (op : OpName) (rest : List ℕ) (x : Letter) → marks_connection l.state (what.Sent id op rest) x ≡ true → is_free_by l.state x ≡ true → is_told_rightly s F x ≡ true → after (what.Sent id op rest) (rows_sent at id l.state.rows x)
      sends id op rest (Forward q sort body ask holder) mark free told =
          let same : op ≡ q = same_op_eq op q (left (same_op op q) _ (left (same_op op q && bytes_eq rest body) _ mark)) in
          subst (λ rows. after (what.Sent id op rest) (rows_sent at id rows (Forward q sort body ask holder))) (sym (no_rows l.state.rows (left (length l.state.rows == 0) _ free))) (subst (Said F (record { id = id; op = q; kind = sort; ask_who = ask; sent = at; answered = at; kept = None } ∷ [])) (sym (ap last (sendings_grow u (entries before) (entry (what.Sent id op rest))) ∙ last_push (map (later_sending (entry (what.Sent id op rest))) (sendings u (entries before))) (record { connection = u; op = op; id = id; at = at; rest = rest; before = entries before; behind = [] }))) (new (operation F op) refl same (ap (λ n. passes (λ o. is_of Bind o && agrees ask (asks_who s o)) (operation F n)) same ∙ told), tt))
        where
          new : (o : Option Operation) → operation F op ≡ o → op ≡ q → passes (λ y. is_of Bind y && agrees ask (asks_who s y)) o ≡ true → OfLast F (record { id = id; op = q; kind = sort; ask_who = ask; sent = at; answered = at; kept = None }) (record { connection = u; op = op; id = id; at = at; rest = rest; before = entries before; behind = [] })
          new None e same k = absurd (let bad : false ≡ true = k in cc)
          new (Some o) e same k = record { o = o; found = e; op = same; bind = left (is_of Bind o) _ k; answered = refl }
      sends id op rest _ mark free told = absurd (let bad : false ≡ true = mark in cc)

      pub said_step : (mark : Option Taken) (w : What) → Head s F u before l ⊎ Tail (record { entry = entry w; mark = mark }) → has_connection_mark l.state (record { entry = entry w; mark = mark }) ≡ true → is_sent_once l.state (entries before) (record { entry = entry w; mark = mark }) ≡ true → implies (list_any is_down (entries before)) (may_follow_down w) ≡ true → is_bind l.state ≡ true → where_there (λ t. is_told_rightly s F t.letter) mark ≡ true → after w (connection_behind s (entry w) mark l.state w).rows
      said_step mark (what.Got id rest) (inl a) fit once alive bind told = got a id rest (a.knows.keeps.keeps.stands.says.down ∙ by (list_any is_down (entries before)) alive)
        where
          by : (b : Bool) → implies b false ≡ true → b ≡ false
          by true k = absurd (let bad : false ≡ true = k in cc)
          by false k = refl
      said_step mark (what.Got id rest) (inr a) fit once alive bind told = absurd (let bad : false ≡ true = a.quiet in cc)
      said_step mark (what.Own id rest) a fit once alive bind told = owns id rest
      said_step mark (what.Expired op) a fit once alive bind told = expires op
      said_step mark (what.Down why) a fit once alive bind told = tt
      said_step None (what.Sent id op rest) a fit once alive bind told = absurd (let bad : false ≡ true = fit in cc)
      said_step (Some t) (what.Sent id op rest) a fit once alive bind told = sends id op rest t.letter fit (implied (is_bind l.state) (is_free_by l.state t.letter) (right (not (list_any (λ e. passes (λ y. same_op op y.op) (sent_message e.what)) (entries before))) _ once) bind) told
      said_step mark what.Linked a fit once alive bind told = idle what.Linked refl refl
      said_step mark w a fit once alive bind told = idle w refl refl

    -- where a row's operation was sent last
    bind_due : (place : List Entry) (rows : List UpRow) (at : ℕ) → Said F rows (last (sendings u place)) → (r : UpRow) (op : OpName) → find (λ q. same_op op q.op) rows ≡ Some r → is_due s at r ≡ true → is_due_at s F u place op at ≡ true
    bind_due place rows at h r op e due = by (last (sendings u place)) refl (each_found (LastOf F (last (sendings u place))) (λ q. same_op op q.op) rows r e h)
      where
        by : (o : Option Sending) → last (sendings u place) ≡ o → LastOf F o r → is_due_at s F u place op at ≡ true
        by None f k = absurd k
        by (Some x) f k = last_any (λ y. same_op op y.op && of_operation F (is_due_by_list s at) y) (sendings u place) x f (due_by op at r x k.o k.found k.op k.answered (found_passes (λ q. same_op op q.op) rows r e) due)

    abbrev lives_so : List Entry → Entry → List Entry → Bool
    lives_so place e behind = is_of_connection e.what && lives_as_connection place e

    abbrev once_so : ConnectionState → List Marked → Marked → List Marked → Bool
    once_so p b m behind = is_sent_once p (entries b) m

    bind_expiries : (ms before : List Marked) (l : ConnectionLedger) → AtHeads s F u before l ms → l.state.kind ≡ BindKind → Said F l.state.rows (last (sendings u (entries before))) → each_from (step_connection s) has_connection_mark l.state ms ≡ true → each_place (step_connection s) once_so l.state before ms ≡ true → each_split_from lives_so (entries before) (entries ms) ≡ true → are_told_rightly s F ms ≡ true → each_place (step_connection s) by_state l.state before ms ≡ true → each_split_from (by_list u) (entries before) (entries ms) ≡ true
    bind_expiries [] before l h sort said marks once life told k = refl
    bind_expiries (m ∷ ms) before l h sort said marks once life told k =
        let alive : implies (list_any is_down (entries before)) (may_follow_down m.entry.what) ≡ true = right (agrees (is_linked m.entry.what) (is_empty (entries before))) _ (left (agrees (is_linked m.entry.what) (is_empty (entries before)) && implies (list_any is_down (entries before)) (may_follow_down m.entry.what)) _ (right (is_of_connection m.entry.what) _ (left (lives_so (entries before) m.entry (entries ms)) _ life))) in
        let next : Said F (connection_behind s m.entry m.mark l.state m.entry.what).rows (last (sendings u (entries before ++ m.entry ∷ []))) = said_step before l m.entry.part m.entry.at said m.mark m.entry.what h.0 (left (has_connection_mark l.state m) _ marks) (left (is_sent_once l.state (entries before) m) _ once) alive (ap (is_kind BindKind) sort) (left (where_there (λ t. is_told_rightly s F t.letter) m.mark) _ told) in
        both (by_list u (entries before) m.entry (entries ms)) _ (one_due u (entries before) l.state m ms (bind_due (entries before) l.state.rows m.entry.at said) (left (is_expired_due s l.state m ms) _ k)) (subst (λ place. each_split_from (by_list u) place (entries ms) ≡ true) (push_entry before m) (bind_expiries ms (before ++ m ∷ []) (step_connection_ledger s l m) h.1 (kind_step s m.entry m.mark l.state m.entry.what ∙ sort) (subst (λ place. Said F (step_connection s l.state m).rows (last (sendings u place))) (sym (push_entry before m)) next) (right (has_connection_mark l.state m) _ marks) (right (is_sent_once l.state (entries before) m) _ once) (subst (λ place. each_split_from lives_so place (entries ms) ≡ true) (sym (push_entry before m)) (right (lives_so (entries before) m.entry (entries ms)) _ life)) (right (where_there (λ t. is_told_rightly s F t.letter) m.mark) _ told) (right (is_expired_due s l.state m ms) _ k)))

pub expiries_due : ForwardsAreRight → FitIsWhole → BindConnectionsSay → ExpiriesAreDue
expiries_due rightly whole says s F marked h =
    each_connection s F marked h (λ u list. each_split_from (λ place e behind. is_expired_caused s F u place e) [] list) (λ u kind. regular_expiries s F u (marked (Connection u)) [] (empty_connection_ledger s u) (known_at_each rightly whole s F marked h u kind) (share u).expired) (λ u kind. bind_expiries s F u kind (marked (Connection u)) [] (empty_connection_ledger s u) (bind_heads says s F marked h u kind) (ap (λ b. if b then BindKind else Regular) kind) tt (share u).marks (share u).sent_once (share u).life (says s F marked h u kind).told (share u).expired) (λ u. refl)
  where
    share : (u : ℕ) → ConnectionShare s u (marked (Connection u))
    share u = h.joined.shared.shares (Connection u)
