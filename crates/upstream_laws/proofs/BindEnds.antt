-- Each end of a bind connection has its cause, but for an exchange that its client left: along its list.
use Rattle.std.proofs.Common.{◌≡◌, ◌⊎◌, inl, inr, ℕ, Bool, true, false, ◌==◌, ◌&&◌, not, List, [], ◌∷◌, ◌++◌, length, refl, ap, ◌∙◌, sym, subst}
use Rattle.std.specs.Prelude.{Option, Some, None, flat_map, is_some, if◌then◌else◌, option_map}
use Rattle.std.specs.List.{list_any, list_all}
use Rattle.std.specs.Str.{bytes_eq}
use Rattle.ldap_spec.specs.Kinds.{same_kind}
use Rattle.lload_names.specs.declared.names.OpKind.TheVariants.{Bind}
use Rattle.lload_names.specs.declared.names.ConnKind.TheVariants.{Bind as BindKind}
use Rattle.lload_names.specs.declared.names.Entry.{Entry}
use Rattle.lload_names.specs.declared.names.Letter.{Letter}
use Rattle.lload_names.specs.declared.names.Letter.TheVariants.{Forward}
use Rattle.lload_names.specs.declared.names.OpName.{OpName}
use Rattle.lload_names.specs.declared.names.PartName.{PartName}
use Rattle.lload_names.specs.declared.names.What.{What}
use Rattle.lload_names.specs.declared.names.What.TheVariants as what
use Rattle.lload_spec.specs.Answers.{Sending, of_operation, sendings}
use Rattle.lload_spec.specs.CausedUp.{holder, is_bind_expired, is_bind_sent}
use Rattle.lload_spec.specs.Entries.{expired_op, is_down, sent_message}
use Rattle.lload_spec.specs.Journal.{Family, same_op}
use Rattle.lload_spec.specs.Lists.{agrees, implies, last, last_passes, passes, where_there}
use Rattle.lload_spec.specs.Operations.{is_of}
use Rattle.lload_spec.specs.Settings.{Settings, is_kind, is_of_kind}
use Rattle.lload_spec.specs.Strict.{may_follow_down}
use Rattle.lload_spec.proofs.Growth.{left, right, both}
use Rattle.lload_laws.specs.ConnectionGrowth.{later_sending}
use Rattle.lload_laws.proofs.ListLaws.{found_passes, implied}
use Rattle.part_laws.proofs.ListLaws.{last_push, same_op_eq}
use Rattle.part_spec.specs.ConnectionState.{OwnWait, UpRow, behind_message, behind_own, connection_behind, frees_holder, holder_sent, is_bind, is_bind_row, is_under_own, row_named, rows_sent, step_connection}
use Rattle.part_spec.specs.ConnectionTurn.{is_due}
use Rattle.part_spec.specs.Fit.{ConnectionLedger, fits_connection, step_connection_ledger}
use Rattle.part_spec.specs.Marked.{Marked, Taken, entries}
use Rattle.part_spec.specs.Marks.{has_connection_mark, marks_connection}
use Rattle.part_spec.specs.Share.{is_expired_due, is_expiry_told, is_free_by, is_sent_once}
use Rattle.connection_laws.proofs.Apart.{Shrinks, shrinks_message, shrinks_own}
use Rattle.connection_laws.proofs.Rows.{all_filter, all_flat, all_put}
use Rattle.connection_laws.proofs.ConnectionSays.{UpSays, kind_step, number_step, up_says_more}
use Rattle.connection_laws.proofs.Permits.{push_entry}
use Rattle.connection_laws.proofs.Through.{no_rows}
use Rattle.bind_laws.specs.Turns.{is_told_rightly}
use Rattle.bind_laws.proofs.BindShare.{begins_alone}
use Rattle.bind_laws.proofs.Lone.{no_own}
use Rattle.bind_laws.proofs.Tells.{SentsAre}
use Rattle.carried_laws.proofs.RegularReplies.{kind_serves}
use Rattle.client_answer_laws.proofs.Each.{Each, each_found}
use Rattle.upstream_laws.proofs.Answered.{LastOf, Said, last_stays}
use Rattle.upstream_laws.proofs.BindDowns.{Rowed, Unheld, rowed_ended, rowed_expired, rowed_got, rowed_idle, rowed_own, rowed_sent, unheld_behind, unheld_got, unheld_more}
use Rattle.upstream_laws.proofs.Expiries.{last_any, said_step}
use Rattle.upstream_laws.proofs.Heads.{Head, Tail}
use Rattle.upstream_laws.proofs.Held.{is_letting}

-- what is known at each place
pub record Here (s : Settings) (F : Family) (u : ℕ) (before : List Marked) (l : ConnectionLedger) : Type 0 where
  pub said : Said F l.state.rows (last (sendings u (entries before)))
  pub rowed : Each (Rowed s F l.state.rows) (sendings u (entries before))
  pub binds : list_all is_bind_row l.state.rows ≡ true
  pub unheld : l.state.holder ≡ None → Unheld s F (last (sendings u (entries before)))
  pub expired : last_passes (λ e. is_some (expired_op e.what)) (entries before) ≡ true → is_bind_expired F u (entries before) ≡ true
  pub says : UpSays (entries before) l.state
  pub number : l.state.number ≡ u
  pub kind : l.state.kind ≡ BindKind

-- a row that stays is of a Bind still
kept_bind : (r : UpRow) (rs : List UpRow) → Shrinks r rs → is_bind_row r ≡ true → list_all is_bind_row rs ≡ true
kept_bind r [] h k = refl
kept_bind r (q ∷ []) h k = both (is_bind_row q) true (ap (same_kind Bind) (sym h.2) ∙ k) refl
kept_bind r (q ∷ x ∷ xs) h k = absurd h

module _ (s : Settings) (F : Family) (u : ℕ) (place : is_of_kind s BindKind u ≡ true) where
  -- What an entry needs.
  pub record Comes (before : List Marked) (l : ConnectionLedger) (m : Marked) : Type 0 where
    pub begun : Head s F u before l ⊎ Tail m
    pub marked : has_connection_mark l.state m ≡ true
    pub once : is_sent_once l.state (entries before) m ≡ true
    pub alive : implies (list_any is_down (entries before)) (may_follow_down m.entry.what) ≡ true
    pub told : where_there (λ t. is_told_rightly s F t.letter) m.mark ≡ true
    pub fit : (t : Taken) → m.mark ≡ Some t → fits_connection s l t.sender t.letter ≡ true

  module _ (before : List Marked) (l : ConnectionLedger) (h : Here s F u before l) (part : PartName) (at : ℕ) (mark : Option Taken) where
    abbrev entry : What → Entry
    entry w = record { part = part; at = at; what = w }

    abbrev marked : What → Marked
    marked w = record { entry = entry w; mark = mark }

    bind : is_bind l.state ≡ true
    bind = ap (is_kind BindKind) h.kind

    not_down : implies (list_any is_down (entries before)) false ≡ true → l.state.down ≡ false
    not_down a = h.says.down ∙ by (list_any is_down (entries before)) a
      where
        by : (b : Bool) → implies b false ≡ true → b ≡ false
        by true k = absurd (let bad : false ≡ true = k in cc)
        by false k = refl

    said_next : (w : What) → Comes before l (marked w) → Said F (connection_behind s (entry w) mark l.state w).rows (last (sendings u (entries before ++ entry w ∷ [])))
    said_next w c = said_step s F u place before l part at h.said mark w c.begun c.marked c.once c.alive bind c.told

    no_own_bind : Head s F u before l → l.state.own_bind ≡ None
    no_own_bind a = no_own s u (entries before) l.state (begins_alone s u place) a.knows.keeps.keeps.stands.own

    known : Head s F u before l → l.state.down ≡ false → SentsAre s F u (entries before) l.state.ids.next l.state.rows []
    known a d = (a.knows.tells a.told).sents d refl

    -- the rows
    rows_after : (w : What) → Comes before l (marked w) → list_all is_bind_row (connection_behind s (entry w) mark l.state w).rows ≡ true
    rows_after w c = by w mark c.fit
      where
        by : (v : What) (o : Option Taken) → ((t : Taken) → o ≡ Some t → fits_connection s l t.sender t.letter ≡ true) → list_all is_bind_row (connection_behind s (entry v) o l.state v).rows ≡ true
        by (what.Got id rest) o f = own (is_under_own l.state id)
          where
            own : (b : Bool) → list_all is_bind_row (if b then l.state.rows else flat_map (behind_message at (record { id = id; rest = rest })) l.state.rows) ≡ true
            own true = h.binds
            own false = all_flat is_bind_row (behind_message at (record { id = id; rest = rest })) l.state.rows (λ r k. kept_bind r (behind_message at (record { id = id; rest = rest }) r) (shrinks_message at (record { id = id; rest = rest }) r) k) h.binds
        by (what.Own id rest) o f = all_flat is_bind_row (behind_own (record { id = id; rest = rest })) l.state.rows (λ r k. kept_bind r (behind_own (record { id = id; rest = rest }) r) (shrinks_own (record { id = id; rest = rest }) r) k) h.binds
        by (what.Expired op) o f = all_filter is_bind_row (λ r. not (same_op op r.op)) l.state.rows h.binds
        by (what.Down why) o f = refl
        by (what.Sent id op rest) None f = h.binds
        by (what.Sent id op rest) (Some t) f = sent t.letter (f t refl)
          where
            sent : (x : Letter) → fits_connection s l t.sender x ≡ true → list_all is_bind_row (rows_sent at id l.state.rows x) ≡ true
            sent (Forward q sort body ask holder) g = all_put is_bind_row (record { id = id; op = q; kind = sort; ask_who = ask; sent = at; answered = at; kept = None }) l.state.rows (agreed (same_kind Bind sort) (ap (agrees (same_kind Bind sort)) (sym bind) ∙ kind_serves s F l t.sender q holder sort body ask g)) h.binds
              where
                agreed : (b : Bool) → agrees b true ≡ true → b ≡ true
                agreed true j = refl
                agreed false j = absurd (let bad : false ≡ true = j in cc)
            sent _ g = h.binds
        by what.Linked o f = h.binds
        by v o f = h.binds

    -- each open Sent has a row
    rowed_next : (w : What) → Comes before l (marked w) → Each (Rowed s F (connection_behind s (entry w) mark l.state w).rows) (sendings u (entries before ++ entry w ∷ []))
    rowed_next (what.Got id rest) c = by c.begun
      where
        by : Head s F u before l ⊎ Tail (marked (what.Got id rest)) → Each (Rowed s F (if is_under_own l.state id then l.state.rows else flat_map (behind_message at (record { id = id; rest = rest })) l.state.rows)) (sendings u (entries before ++ entry (what.Got id rest) ∷ []))
        by (inr a) = absurd (let bad : false ≡ true = a.quiet in cc)
        by (inl a) =
            let none : is_under_own l.state id ≡ false = ap (passes (λ (v : OwnWait). v.id == id)) (no_own_bind a) in
            let same : (if is_under_own l.state id then l.state.rows else flat_map (behind_message at (record { id = id; rest = rest })) l.state.rows) ≡ flat_map (behind_message at (record { id = id; rest = rest })) l.state.rows = ap (λ b. if b then l.state.rows else flat_map (behind_message at (record { id = id; rest = rest })) l.state.rows) none in
            subst (λ rows. Each (Rowed s F rows) (sendings u (entries before ++ entry (what.Got id rest) ∷ []))) (sym same) (rowed_got s F u (entries before) l.state (no_own_bind a) a.knows.keeps.stands.lone (known a (not_down c.alive)) part at id rest (subst (λ rows. Said F rows (last (sendings u (entries before ++ entry (what.Got id rest) ∷ [])))) same (said_next (what.Got id rest) c)))
    rowed_next (what.Own id rest) c = rowed_own s F u (entries before) part at l.state.rows h.rowed h.binds id rest
    rowed_next (what.Expired op) c = rowed_expired s F u (entries before) part at l.state.rows h.rowed op
    rowed_next (what.Down why) c = rowed_ended s F u (entries before) part at l.state.rows h.rowed (what.Down why) refl refl
    rowed_next (what.Sent id op rest) c = by mark c.marked c.once
      where
        sent : (t : Taken) (x : Letter) → marks_connection l.state (what.Sent id op rest) x ≡ true → is_free_by l.state x ≡ true → Each (Rowed s F (rows_sent at id l.state.rows x)) (sendings u (entries before ++ entry (what.Sent id op rest) ∷ []))
        sent t (Forward q sort body ask holder) k f =
            let none : l.state.rows ≡ [] = no_rows l.state.rows (left (length l.state.rows == 0) _ f) in
            subst (λ rows. Each (Rowed s F (rows_sent at id rows (Forward q sort body ask holder))) (sendings u (entries before ++ entry (what.Sent id op rest) ∷ []))) (sym none) (rowed_sent s F u (entries before) part at l.state.rows h.rowed id op rest (record { id = id; op = q; kind = sort; ask_who = ask; sent = at; answered = at; kept = None }) none (same_op_eq op q (left (same_op op q) _ (left (same_op op q && bytes_eq rest body) _ k))))
        sent t _ k f = absurd (let bad : false ≡ true = k in cc)

        by : (o : Option Taken) → has_connection_mark l.state (record { entry = entry (what.Sent id op rest); mark = o }) ≡ true → is_sent_once l.state (entries before) (record { entry = entry (what.Sent id op rest); mark = o }) ≡ true → Each (Rowed s F (connection_behind s (entry (what.Sent id op rest)) o l.state (what.Sent id op rest)).rows) (sendings u (entries before ++ entry (what.Sent id op rest) ∷ []))
        by None k f = absurd (let bad : false ≡ true = k in cc)
        by (Some t) k f = sent t t.letter k (implied (is_bind l.state) (is_free_by l.state t.letter) (right (not (list_any (λ e. passes (λ y. same_op op y.op) (sent_message e.what)) (entries before))) _ f) bind)
    rowed_next what.Linked c = rowed_idle s F u (entries before) part at l.state.rows h.rowed what.Linked refl
    rowed_next w c = rowed_idle s F u (entries before) part at l.state.rows h.rowed w refl

    -- where there is no holder, the last Sent doesn't hold
    plain : (w : What) → sent_message w ≡ None → l.state.holder ≡ None → Unheld s F (last (sendings u (entries before ++ entry w ∷ [])))
    plain w none e = subst (Unheld s F) (sym (last_stays u (entries before) (entry w) none)) (unheld_more s F (entry w) (last (sendings u (entries before))) (h.unheld e))

    freed : (w : What) → sent_message w ≡ None → is_letting (entry w) ≡ true → Unheld s F (last (sendings u (entries before ++ entry w ∷ [])))
    freed w none e = subst (Unheld s F) (sym (last_stays u (entries before) (entry w) none)) (unheld_behind s F (entry w) (last (sendings u (entries before))) e)

    unheld_next : (w : What) → Comes before l (marked w) → (connection_behind s (entry w) mark l.state w).holder ≡ None → Unheld s F (last (sendings u (entries before ++ entry w ∷ [])))
    unheld_next (what.Got id rest) c e = by c.begun
      where
        message : Head s F u before l → (b : Bool) → frees_holder l.state (record { id = id; rest = rest }) ≡ b → (if b then None else l.state.holder) ≡ None → Unheld s F (last (sendings u (entries before ++ entry (what.Got id rest) ∷ [])))
        message a true i j = unheld_got s F u (entries before) l.state (no_own_bind a) a.knows.keeps.stands.lone (known a (not_down c.alive)) part at id rest i
        message a false i j = plain (what.Got id rest) refl j

        by : Head s F u before l ⊎ Tail (marked (what.Got id rest)) → Unheld s F (last (sendings u (entries before ++ entry (what.Got id rest) ∷ [])))
        by (inl a) = message a (frees_holder l.state (record { id = id; rest = rest })) refl e
        by (inr a) = absurd (let bad : false ≡ true = a.quiet in cc)
    unheld_next (what.Sent id op rest) c e = by mark c.marked e
      where
        sent : (t : Taken) (x : Letter) → marks_connection l.state (what.Sent id op rest) x ≡ true → holder_sent l.state x ≡ None → Unheld s F (last (sendings u (entries before ++ entry (what.Sent id op rest) ∷ [])))
        sent t (Forward q sort body ask holder) k j = absurd (let bad : Some holder ≡ None = sym (ap (λ b. if b then Some holder else None) bind) ∙ j in cc)
        sent t _ k j = absurd (let bad : false ≡ true = k in cc)

        by : (o : Option Taken) → has_connection_mark l.state (record { entry = entry (what.Sent id op rest); mark = o }) ≡ true → (connection_behind s (entry (what.Sent id op rest)) o l.state (what.Sent id op rest)).holder ≡ None → Unheld s F (last (sendings u (entries before ++ entry (what.Sent id op rest) ∷ [])))
        by None k j = absurd (let bad : false ≡ true = k in cc)
        by (Some t) k j = sent t t.letter k j
    unheld_next (what.Missed op) c e = freed (what.Missed op) refl refl
    unheld_next (what.Down why) c e = freed (what.Down why) refl refl
    unheld_next what.Linked c e = plain what.Linked refl e
    unheld_next w c e = plain w refl e

    -- what expired is a Bind that was sent here
    expired_next : (w : What) (behind : List Marked) → Comes before l (marked w) → is_expired_due s l.state (marked w) behind ≡ true → passes (λ _. true) (expired_op w) ≡ true → passes (is_bind_sent F u (entries before ++ entry w ∷ [])) (expired_op w) ≡ true
    expired_next (what.Expired op) behind c due k = row (row_named l.state op) refl due
      where
        last_so : (r : UpRow) → same_op op r.op ≡ true → (o : Option Sending) → last (sendings u (entries before)) ≡ o → LastOf F o r → is_bind_sent F u (entries before ++ entry (what.Expired op) ∷ []) op ≡ true
        last_so r j None e f = absurd f
        last_so r j (Some x) e f = last_any (λ y. same_op op y.op && of_operation F (λ o q. is_of Bind o) y) (sendings u (entries before ++ entry (what.Expired op) ∷ [])) (later_sending (entry (what.Expired op)) x) (last_stays u (entries before) (entry (what.Expired op)) refl ∙ ap (option_map (later_sending (entry (what.Expired op)))) e) (both (same_op op x.op) _ (ap (same_op op) f.op ∙ j) (ap (passes (is_of Bind)) f.found ∙ f.bind))

        row : (o : Option UpRow) → row_named l.state op ≡ o → passes (λ r. is_due s at r && is_expiry_told (entries behind) r) o ≡ true → is_bind_sent F u (entries before ++ entry (what.Expired op) ∷ []) op ≡ true
        row None e j = absurd (let bad : false ≡ true = j in cc)
        row (Some r) e j = last_so r (found_passes (λ q. same_op op q.op) l.state.rows r e) (last (sendings u (entries before))) refl (each_found (LastOf F (last (sendings u (entries before)))) (λ q. same_op op q.op) l.state.rows r e h.said)
    expired_next _ behind c due k = absurd (let bad : false ≡ true = k in cc)

    pub here_step : (w : What) (behind : List Marked) → Comes before l (marked w) → is_expired_due s l.state (marked w) behind ≡ true → Here s F u (before ++ marked w ∷ []) (step_connection_ledger s l (marked w))
    here_step w behind c due =
        record {
          said = subst (λ p. Said F (step_connection s l.state (marked w)).rows (last (sendings u p))) (sym (push_entry before (marked w))) (said_next w c);
          rowed = subst (λ p. Each (Rowed s F (step_connection s l.state (marked w)).rows) (sendings u p)) (sym (push_entry before (marked w))) (rowed_next w c);
          binds = rows_after w c;
          unheld = λ e. subst (λ p. Unheld s F (last (sendings u p))) (sym (push_entry before (marked w))) (unheld_next w c e);
          expired = subst (λ p. last_passes (λ e. is_some (expired_op e.what)) p ≡ true → is_bind_expired F u p ≡ true) (sym (push_entry before (marked w))) last_so;
          says = subst (λ p. UpSays p (step_connection s l.state (marked w))) (sym (push_entry before (marked w))) (up_says_more s (entries before) l.state (marked w) h.says);
          number = number_step s (entry w) mark l.state w ∙ h.number;
          kind = kind_step s (entry w) mark l.state w ∙ h.kind;
        }
      where
        some : (o : Option OpName) → is_some o ≡ true → passes (λ _. true) o ≡ true
        some None k = k
        some (Some op) k = refl

        last_so : last_passes (λ e. is_some (expired_op e.what)) (entries before ++ entry w ∷ []) ≡ true → is_bind_expired F u (entries before ++ entry w ∷ []) ≡ true
        last_so k = ap (passes (λ e. passes (is_bind_sent F u (entries before ++ entry w ∷ [])) (expired_op e.what))) (last_push (entries before) (entry w)) ∙ expired_next w behind c due (some (expired_op w) (sym (ap (λ o. elim o [ None ↦ false | Some x ↦ is_some (expired_op x.what) ]) (last_push (entries before) (entry w))) ∙ k))
