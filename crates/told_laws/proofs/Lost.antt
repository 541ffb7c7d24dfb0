-- A bind connection that goes down loses what is open there: each row's Sent is open at each place of its list.
use Rattle.std.proofs.Common.{◌≡◌, ◌⊎◌, inl, inr, ℕ, Bool, true, false, ◌==◌, ◌&&◌, ◌||◌, not, List, [], ◌∷◌, ◌++◌, length, refl, ap, ◌∙◌, sym, subst}
use Rattle.std.specs.Prelude.{Option, Some, None, cond, filter, flat_map, if◌then◌else◌, is_none, map}
use Rattle.std.specs.List.{list_any}
use Rattle.std.specs.Str.{bytes_eq}
use Rattle.std.proofs.lemmas.List.Folds.{list_all-append}
use Rattle.ldap_spec.specs.Bodies.{abandon}
use Rattle.ldap_spec.specs.Messages.{Message}
use Rattle.lload_names.specs.declared.names.ConnKind.TheVariants.{Bind as BindKind}
use Rattle.lload_names.specs.declared.names.Entry.{Entry}
use Rattle.lload_names.specs.declared.names.Letter.{Letter}
use Rattle.lload_names.specs.declared.names.Letter.TheVariants.{Forward}
use Rattle.lload_names.specs.declared.names.OpKind.TheVariants.{Bind}
use Rattle.lload_names.specs.declared.names.OpName.{OpName}
use Rattle.lload_names.specs.declared.names.PartName.{PartName}
use Rattle.lload_names.specs.declared.names.Posted.{Posted}
use Rattle.lload_names.specs.declared.names.Refusal.TheVariants.{C4}
use Rattle.lload_names.specs.declared.names.What.{What}
use Rattle.lload_names.specs.declared.names.What.TheVariants as what
use Rattle.lload_spec.specs.Answers.{Sending, asks_who, closing_at, is_abandoned_at, sending_made, sendings, sendings_from, until_sent}
use Rattle.lload_spec.specs.Entries.{Named, expired_op, got_message, is_down, is_expired, is_linked, is_of_connection, is_own, sent_message}
use Rattle.lload_spec.specs.Journal.{Family, same_op}
use Rattle.lload_spec.specs.Lists.{agrees, each_split_from, implies, passes, some_split_from, where_there}
use Rattle.lload_spec.specs.Operations.{Operation, operation, operations, is_of}
use Rattle.lload_spec.specs.Settings.{Settings, is_kind, is_of_kind}
use Rattle.lload_spec.specs.Strict.{is_empty, lives_as_connection, may_follow_down}
use Rattle.lload_spec.proofs.Growth.{left, right, both}
use Rattle.lload_laws.specs.ConnectionGrowth.{later_sending}
use Rattle.lload_laws.proofs.ConnectionGrowth.{sendings_grow}
use Rattle.lload_laws.proofs.ListLaws.{found_passes, implied}
use Rattle.part_laws.proofs.ListLaws.{false_by, same_op_eq, same_op_refl}
use Rattle.part_spec.specs.ConnectionState.{ConnectionState, OwnWait, UpRow, behind_message, behind_own, connection_behind, is_bind, is_bind_row, is_under_own, rows_sent, step_connection}
use Rattle.part_spec.specs.Fit.{ConnectionLedger, are_fit_from, fits_connection, is_unfit, step_connection_ledger}
use Rattle.part_spec.specs.Gives.{connection_gives, connection_letters}
use Rattle.part_spec.specs.Marked.{Marked, Taken, entries}
use Rattle.part_spec.specs.Marks.{each_from, has_connection_mark, marks_connection}
use Rattle.part_spec.specs.Share.{each_place, is_free_by, is_sent_once, is_expired_due}
use Rattle.connection_laws.proofs.Apart.{Shrinks, shrinks_own}
use Rattle.connection_laws.proofs.Permits.{push_entry}
use Rattle.connection_laws.proofs.Through.{no_rows}
use Rattle.bind_laws.specs.Turns.{are_told_rightly, is_told_rightly}
use Rattle.bind_laws.proofs.BindShare.{begins_alone}
use Rattle.bind_laws.proofs.Lone.{is_lone, no_own}
use Rattle.bind_laws.proofs.Tells.{RowsAre, SentsAre}
use Rattle.joined_laws.proofs.Taken.{is_fit_there}
use Rattle.client_answer_laws.proofs.Each.{Each, each_append, each_imply}
use Rattle.rows_laws.proofs.Somewhere.{OneIn, each_flat, one_before, one_behind, one_imply, one_map}
use Rattle.upstream_laws.proofs.BindEnds.{Comes, Here, here_step}
use Rattle.upstream_laws.proofs.Heads.{AtHeads, Head, Tail}
use Rattle.told_laws.proofs.Coming.{row_opens}
use Rattle.told_laws.proofs.Given.{all_pass}
use Rattle.told_laws.proofs.Troubles.{OpenRow, RowsOpen, entry_else, is_else, loses, neither}
use Rattle.told_laws.proofs.Waiting.{OpenBind, open_more, unclosed}

-- Where a connection isn't down, no end of it stands behind a Sent.
no_down_from : (u : ℕ) (before es : List Entry) → list_any is_down es ≡ false → Each (λ (x : Sending). list_any is_down x.behind ≡ false) (sendings_from u before es)
no_down_from u before [] h = tt
no_down_from u before (e ∷ es) h = each_append (λ (x : Sending). list_any is_down x.behind ≡ false) (sending_made u before e es (sent_message e.what)) (sendings_from u (before ++ e ∷ []) es) (made (sent_message e.what)) (no_down_from u (before ++ e ∷ []) es (neither (is_down e) (list_any is_down es) h).1)
  where
    made : (o : Option (Named Message)) → Each (λ (x : Sending). list_any is_down x.behind ≡ false) (sending_made u before e es o)
    made None = tt
    made (Some n) = ((neither (is_down e) (list_any is_down es) h).1, tt)

one_with : {A : Type 0} (P Q : A → Type 0) (xs : List A) → Each P xs → OneIn Q xs → OneIn (λ x. P x × Q x) xs
one_with P Q [] e h = absurd h
one_with P Q (x ∷ xs) e (inl h) = inl (e.0, h)
one_with P Q (x ∷ xs) e (inr h) = inr (one_with P Q xs e.1 h)

none_either : (t q : Entry → Bool) (es : List Entry) → list_any t es ≡ false → list_any q es ≡ false → list_any (λ e. t e || q e) es ≡ false
none_either t q [] h k = refl
none_either t q (e ∷ es) h k =
    let a = neither (t e) (list_any t es) h in
    let b = neither (q e) (list_any q es) k in
    ap (λ z. z || list_any (λ y. t y || q y) es) (ap (λ z. z || q e) a.0 ∙ b.0) ∙ none_either t q es a.1 b.1

module _ (s : Settings) (F : Family) (u : ℕ) where
  abbrev pub BindRows : List UpRow → List Entry → Type 0
  BindRows rows place = Each (λ r. OneIn (λ x. OpenBind s F r x) (sendings u place)) rows

  open_row : (r : UpRow) (x : Sending) → list_any is_down x.behind ≡ false → OpenBind s F r x → OpenRow s F r x
  open_row r x none h =
      record {
        o = h.o;
        found = h.found;
        op = h.op;
        opened = both (is_none (closing_at s h.o x) && not (list_any (λ e. is_expired h.o.name e || is_down e) x.behind)) _ (both (is_none (closing_at s h.o x)) _ (ap is_none (unclosed s h.o x h.bind h.waits)) (ap not (none_either (is_expired h.o.name) is_down x.behind h.unexpired none))) (unnamed h.o x h.bind);
      }
    where
      unnamed : (o : Operation) (y : Sending) → is_of Bind o ≡ true → not (is_abandoned_at o y) ≡ true
      unnamed o y b = ap (λ c. not (not c && list_any (is_own (abandon y.id)) (until_sent y.id y.behind))) b

  pub rows_open : (before : List Marked) (l : ConnectionLedger) → list_any is_down (entries before) ≡ false → BindRows l.state.rows (entries before) → RowsOpen s F u before l
  rows_open before l none h = each_imply (λ r. OneIn (λ x. OpenBind s F r x) (sendings u (entries before))) (λ r. OneIn (λ x. OpenRow s F r x) (sendings u (entries before))) l.state.rows (λ r k. one_imply (λ (x : Sending). (list_any is_down x.behind ≡ false) × OpenBind s F r x) (λ x. OpenRow s F r x) (sendings u (entries before)) (λ x j. open_row r x j.0 j.1) (one_with (λ (x : Sending). list_any is_down x.behind ≡ false) (λ x. OpenBind s F r x) (sendings u (entries before)) (no_down_from u [] (entries before) none) k)) h

  module _ (place : List Entry) (e : Entry) where
    abbrev Later : UpRow → Type 0
    Later r = OneIn (λ x. OpenBind s F r x) (map (later_sending e) (sendings u place))

    -- what is said of the Sents that stood there is said among all
    grown : (rows : List UpRow) → Each Later rows → BindRows rows (place ++ e ∷ [])
    grown rows h = each_imply Later (λ r. OneIn (λ x. OpenBind s F r x) (sendings u (place ++ e ∷ []))) rows (λ r k. subst (OneIn (λ x. OpenBind s F r x)) (sym (sendings_grow u place e)) (one_before (λ x. OpenBind s F r x) (map (later_sending e) (sendings u place)) (sending_made u place e [] (sent_message e.what)) k)) h

    -- a row that stays
    stays : (none : got_message e.what ≡ None) (r q : UpRow) → r.op ≡ q.op → ((x : Sending) (h : OpenBind s F r x) → is_expired h.o.name e ≡ false) → OneIn (λ x. OpenBind s F r x) (sendings u place) → Later q
    stays none r q same quiet k = one_map (λ x. OpenBind s F r x) (λ x. OpenBind s F q x) (later_sending e) (sendings u place) (λ x j. open_more s F r q x e j none (quiet x j) same) k

    idle : (rows : List UpRow) → got_message e.what ≡ None → expired_op e.what ≡ None → BindRows rows place → BindRows rows (place ++ e ∷ [])
    idle rows none calm h = grown rows (each_imply (λ r. OneIn (λ x. OpenBind s F r x) (sendings u place)) Later rows (λ r k. stays none r r refl (λ x j. ap (passes (same_op j.o.name)) calm) k) h)

  module _ (kind : is_of_kind s BindKind u ≡ true) (before : List Marked) (l : ConnectionLedger) (h : Here s F u before l) (part : PartName) (at : ℕ) (mark : Option Taken) (opens : BindRows l.state.rows (entries before)) where
    abbrev entry : What → Entry
    entry w = record { part = part; at = at; what = w }

    abbrev marked : What → Marked
    marked w = record { entry = entry w; mark = mark }

    abbrev Next : List UpRow → What → Type 0
    Next rows w = BindRows rows (entries before ++ entry w ∷ [])

    not_down : implies (list_any is_down (entries before)) false ≡ true → l.state.down ≡ false
    not_down a = h.says.down ∙ by (list_any is_down (entries before)) a
      where
        by : (b : Bool) → implies b false ≡ true → b ≡ false
        by true k = absurd (let bad : false ≡ true = k in cc)
        by false k = refl

    -- behind a message
    module _ (id : ℕ) (rest : List ℕ) where
      abbrev m : Message
      m = record { id = id; rest = rest }

      abbrev got : Entry
      got = entry (what.Got id rest)

      among : (a : SentsAre s F u (entries before) l.state.ids.next l.state.rows []) (rows : List UpRow) → Each (λ q. OneIn (λ y. OpenBind s F q y) (map (later_sending got) a.live)) rows → Next rows (what.Got id rest)
      among a rows k = grown (entries before) got rows (each_imply (λ q. OneIn (λ y. OpenBind s F q y) (map (later_sending got) a.live)) (λ q. OneIn (λ y. OpenBind s F q y) (map (later_sending got) (sendings u (entries before)))) rows (λ q j. subst (λ xs. OneIn (λ y. OpenBind s F q y) (map (later_sending got) xs)) (sym a.split) (behind a.done a.live q j)) k)
        where
          behind : (xs ys : List Sending) (q : UpRow) → OneIn (λ y. OpenBind s F q y) (map (later_sending got) ys) → OneIn (λ y. OpenBind s F q y) (map (later_sending got) (xs ++ ys))
          behind [] ys q j = j
          behind (x ∷ xs) ys q j = inr (behind xs ys q j)

      rows_got : (n : ℕ) (rows : List UpRow) (live : List Sending) → is_lone rows ≡ true → RowsAre s F n rows live [] → Each (λ q. OneIn (λ y. OpenBind s F q y) (map (later_sending got) live)) (flat_map (behind_message at m) rows)
      rows_got n [] live b a = tt
      rows_got n (r ∷ []) [] b a = absurd a
      rows_got n (r ∷ []) (x ∷ []) b a = row_opens s F n r x a (left (is_bind_row r) _ b) part at m
      rows_got n (r ∷ []) (x ∷ y ∷ xs) b a = absurd a
      rows_got n (r ∷ q ∷ rows) live b a = absurd (let bad : false ≡ true = b in cc)

      opens_got : Comes s F u kind before l (marked (what.Got id rest)) → Next (connection_behind s (entry (what.Got id rest)) mark l.state (what.Got id rest)).rows (what.Got id rest)
      opens_got c = by c.begun
        where
          by : Head s F u before l ⊎ Tail (marked (what.Got id rest)) → Next (if is_under_own l.state id then l.state.rows else flat_map (behind_message at m) l.state.rows) (what.Got id rest)
          by (inr a) = absurd (let bad : false ≡ true = a.quiet in cc)
          by (inl a) =
              let own : l.state.own_bind ≡ None = no_own s u (entries before) l.state (begins_alone s u kind) a.knows.keeps.keeps.stands.own in
              let none : is_under_own l.state id ≡ false = ap (passes (λ (v : OwnWait). v.id == id)) own in
              let sents : SentsAre s F u (entries before) l.state.ids.next l.state.rows [] = (a.knows.tells a.told).sents (not_down c.alive) refl in
              subst (λ rows. Next rows (what.Got id rest)) (sym (ap (λ b. if b then l.state.rows else flat_map (behind_message at m) l.state.rows) none)) (among sents (flat_map (behind_message at m) l.state.rows) (rows_got l.state.ids.next l.state.rows sents.live a.knows.keeps.stands.lone sents.are))

    -- behind an own message
    abbrev own_entry : ℕ → List ℕ → Entry
    own_entry id rest = entry (what.Own id rest)

    abbrev own_message : ℕ → List ℕ → Message
    own_message id rest = record { id = id; rest = rest }

    opens_own : (id : ℕ) (rest : List ℕ) → Next (flat_map (behind_own (record { id = id; rest = rest })) l.state.rows) (what.Own id rest)
    opens_own id rest = grown (entries before) (own_entry id rest) (flat_map (behind_own (own_message id rest)) l.state.rows) (each_flat (λ r. OneIn (λ x. OpenBind s F r x) (sendings u (entries before))) (Later (entries before) (own_entry id rest)) (behind_own (own_message id rest)) l.state.rows (λ r k. by r k (behind_own (own_message id rest) r) (shrinks_own (own_message id rest) r)) opens)
      where
        by : (r : UpRow) → OneIn (λ x. OpenBind s F r x) (sendings u (entries before)) → (rs : List UpRow) → Shrinks r rs → Each (Later (entries before) (own_entry id rest)) rs
        by r k [] t = tt
        by r k (q ∷ []) t = (stays (entries before) (own_entry id rest) refl r q t.1 (λ x j. refl) k, tt)
        by r k (q ∷ y ∷ rs) t = absurd t

    -- behind an expiry
    opens_expired : (op : OpName) → Next (filter (λ r. not (same_op op r.op)) l.state.rows) (what.Expired op)
    opens_expired op = grown (entries before) (entry (what.Expired op)) (filter (λ r. not (same_op op r.op)) l.state.rows) (by l.state.rows opens)
      where
        other : (r : UpRow) → same_op op r.op ≡ false → (x : Sending) (j : OpenBind s F r x) → same_op j.o.name op ≡ false
        other r e x j =
            let named : x.op ≡ j.o.name = same_op_eq x.op j.o.name (found_passes (λ q. same_op x.op q.name) (operations x.op.client (F.client x.op.client)) j.o j.found) in
            false_by (same_op j.o.name op) (λ k. sym e ∙ (ap (same_op op) (sym j.op ∙ named ∙ same_op_eq j.o.name op k) ∙ same_op_refl op))

        by : (rows : List UpRow) → BindRows rows (entries before) → Each (Later (entries before) (entry (what.Expired op))) (filter (λ r. not (same_op op r.op)) rows)
        by [] k = tt
        by (r ∷ rows) k = one (same_op op r.op) refl (by rows k.1)
          where
            one : (b : Bool) → same_op op r.op ≡ b → Each (Later (entries before) (entry (what.Expired op))) (filter (λ q. not (same_op op q.op)) rows) → Each (Later (entries before) (entry (what.Expired op))) (cond (not b) (r ∷ filter (λ q. not (same_op op q.op)) rows) (filter (λ q. not (same_op op q.op)) rows))
            one true e more = more
            one false e more = (stays (entries before) (entry (what.Expired op)) refl r r refl (other r e) k.0, more)

    -- behind a Sent
    abbrev new : ℕ → OpName → List ℕ → Sending
    new id op rest = record { connection = u; op = op; id = id; at = at; rest = rest; before = entries before; behind = [] }

    opens_sent : (id : ℕ) (op : OpName) (rest : List ℕ) → Comes s F u kind before l (marked (what.Sent id op rest)) → Next (connection_behind s (entry (what.Sent id op rest)) mark l.state (what.Sent id op rest)).rows (what.Sent id op rest)
    opens_sent id op rest c = by mark c.marked c.once c.told
      where
        sent : (t : Taken) (x : Letter) → marks_connection l.state (what.Sent id op rest) x ≡ true → is_free_by l.state x ≡ true → is_told_rightly s F x ≡ true → Next (rows_sent at id l.state.rows x) (what.Sent id op rest)
        sent t (Forward q sort body ask holder) k f told =
            let none : l.state.rows ≡ [] = no_rows l.state.rows (left (length l.state.rows == 0) _ f) in
            let row : UpRow = record { id = id; op = q; kind = sort; ask_who = ask; sent = at; answered = at; kept = None } in
            subst (λ rows. Next (rows_sent at id rows (Forward q sort body ask holder)) (what.Sent id op rest)) (sym none)
            (subst (OneIn (λ x. OpenBind s F (record { id = id; op = q; kind = sort; ask_who = ask; sent = at; answered = at; kept = None }) x)) (sym (sendings_grow u (entries before) (entry (what.Sent id op rest)))) (one_behind (λ x. OpenBind s F (record { id = id; op = q; kind = sort; ask_who = ask; sent = at; answered = at; kept = None }) x) (map (later_sending (entry (what.Sent id op rest))) (sendings u (entries before))) (new id op rest ∷ []) (inl (here (operation F q) refl told))), tt)
          where
            same : op ≡ q
            same = same_op_eq op q (left (same_op op q) _ (left (same_op op q && bytes_eq rest body) _ k))

            here : (z : Option Operation) → operation F q ≡ z → passes (λ o. is_of Bind o && agrees ask (asks_who s o)) z ≡ true → OpenBind s F (record { id = id; op = q; kind = sort; ask_who = ask; sent = at; answered = at; kept = None }) (new id op rest)
            here None e j = absurd (let bad : false ≡ true = j in cc)
            here (Some o) e j = record { o = o; found = ap (operation F) same ∙ e; bind = left (is_of Bind o) _ j; op = same; unexpired = refl; waits = inl refl }
        sent t _ k f told = absurd (let bad : false ≡ true = k in cc)

        by : (o : Option Taken) → has_connection_mark l.state (record { entry = entry (what.Sent id op rest); mark = o }) ≡ true → is_sent_once l.state (entries before) (record { entry = entry (what.Sent id op rest); mark = o }) ≡ true → where_there (λ t. is_told_rightly s F t.letter) o ≡ true → Next (connection_behind s (entry (what.Sent id op rest)) o l.state (what.Sent id op rest)).rows (what.Sent id op rest)
        by None k f told = absurd (let bad : false ≡ true = k in cc)
        by (Some t) k f told = sent t t.letter k (implied (is_bind l.state) (is_free_by l.state t.letter) (right (not (list_any (λ e. passes (λ y. same_op op y.op) (sent_message e.what)) (entries before))) _ f) (ap (is_kind BindKind) h.kind)) told

    -- behind an entry
    opens_step : (w : What) → Comes s F u kind before l (marked w) → Next (connection_behind s (entry w) mark l.state w).rows w
    opens_step (what.Got id rest) c = opens_got id rest c
    opens_step (what.Own id rest) c = opens_own id rest
    opens_step (what.Expired op) c = opens_expired op
    opens_step (what.Down why) c = tt
    opens_step (what.Sent id op rest) c = opens_sent id op rest c
    opens_step what.Linked c = idle (entries before) (entry what.Linked) l.state.rows refl refl opens
    opens_step w c = idle (entries before) (entry w) l.state.rows refl refl opens

    pub opens_next : (w : What) → Comes s F u kind before l (marked w) → BindRows (step_connection s l.state (marked w)).rows (entries (before ++ marked w ∷ []))
    opens_next w c = subst (BindRows (step_connection s l.state (marked w)).rows) (sym (push_entry before (marked w))) (opens_step w c)

  module _ (kind : is_of_kind s BindKind u ≡ true) where
    -- What is known of a bind connection where an entry stands.
    pub record There (before : List Marked) (l : ConnectionLedger) (m : Marked) : Type 0 where
      pub here : Here s F u before l
      pub comes : Comes s F u kind before l m
      pub opens : BindRows l.state.rows (entries before)

    abbrev pub AtBind : List Marked → ConnectionLedger → List Marked → Type 0
    AtBind before l [] = Unit {0}
    AtBind before l (m ∷ ms) = There before l m × AtBind (before ++ m ∷ []) (step_connection_ledger s l m) ms

    abbrev lives_so : List Entry → Entry → List Entry → Bool
    lives_so place e behind = is_of_connection e.what && lives_as_connection place e

    abbrev once_so : ConnectionState → List Marked → Marked → List Marked → Bool
    once_so p b m behind = is_sent_once p (entries b) m

    abbrev due_so : ConnectionState → List Marked → Marked → List Marked → Bool
    due_so p b m behind = is_expired_due s p m behind

    pub bind_there : (ms before : List Marked) (l : ConnectionLedger) → AtHeads s F u before l ms → Here s F u before l → BindRows l.state.rows (entries before) → are_fit_from (fits_connection s) (step_connection_ledger s) l ms ≡ true → each_from (step_connection s) has_connection_mark l.state ms ≡ true → each_place (step_connection s) once_so l.state before ms ≡ true → each_split_from lives_so (entries before) (entries ms) ≡ true → are_told_rightly s F ms ≡ true → each_place (step_connection s) due_so l.state before ms ≡ true → AtBind before l ms
    bind_there [] before l a h opens fit marks once life told due = tt
    bind_there (m ∷ ms) before l a h opens fit marks once life told due =
        let alive : implies (list_any is_down (entries before)) (may_follow_down m.entry.what) ≡ true = right (agrees (is_linked m.entry.what) (is_empty (entries before))) _ (left (agrees (is_linked m.entry.what) (is_empty (entries before)) && implies (list_any is_down (entries before)) (may_follow_down m.entry.what)) _ (right (is_of_connection m.entry.what) _ (left (lives_so (entries before) m.entry (entries ms)) _ life))) in
        let comes : Comes s F u kind before l m = record { begun = a.0; marked = left (has_connection_mark l.state m) _ marks; once = left (is_sent_once l.state (entries before) m) _ once; alive = alive; told = left (where_there (λ t. is_told_rightly s F t.letter) m.mark) _ told; fit = here } in
        (record { here = h; comes = comes; opens = opens }, bind_there ms (before ++ m ∷ []) (step_connection_ledger s l m) a.1 (here_step s F u kind before l h m.entry.part m.entry.at m.mark m.entry.what ms comes (left (is_expired_due s l.state m ms) _ due)) (opens_next kind before l h m.entry.part m.entry.at m.mark opens m.entry.what comes) (right (not (is_unfit (fits_connection s) l m.mark)) _ fit) (right (has_connection_mark l.state m) _ marks) (right (is_sent_once l.state (entries before) m) _ once) (subst (λ place. each_split_from lives_so place (entries ms) ≡ true) (sym (push_entry before m)) (right (lives_so (entries before) m.entry (entries ms)) _ life)) (right (where_there (λ t. is_told_rightly s F t.letter) m.mark) _ told) (right (is_expired_due s l.state m ms) _ due))
      where
        here : (t : Taken) → m.mark ≡ Some t → fits_connection s l t.sender t.letter ≡ true
        here t e = is_fit_there (fits_connection s) l t (are_fit_from (fits_connection s) (step_connection_ledger s) (step_connection_ledger s l m) ms) (ap (λ q. not (is_unfit (fits_connection s) l q) && are_fit_from (fits_connection s) (step_connection_ledger s) (step_connection_ledger s l m) ms) (sym e) ∙ fit)

  module _ (kind : is_of_kind s BindKind u ≡ true) (o : Operation) (there : operation F o.name ≡ Some o) where
    -- where it isn't lost, no letter says so
    pub bind_else : (ms before : List Marked) (l : ConnectionLedger) → AtBind kind before l ms → some_split_from (λ place (e : Entry) behind. loses s F u o there place e) (entries before) (entries ms) ≡ false → all_pass (is_else o.name s C4) s l.state (connection_gives s l.state ms) ≡ true
    bind_else [] before l a n = refl
    bind_else (m ∷ ms) before l a n =
        let parts = neither (loses s F u o there (entries before) m.entry) (some_split_from (λ place (e : Entry) behind. loses s F u o there place e) (entries before ++ m.entry ∷ []) (entries ms)) n in
        list_all-append (λ (x : Posted). is_else o.name s C4 x.letter) (connection_letters s l.state m.entry.at m.mark m.entry.what) (connection_gives s (step_connection s l.state m) ms)
        ∙ both (all_pass (is_else o.name s C4) s l.state (connection_letters s l.state m.entry.at m.mark m.entry.what)) _
        (entry_else s F u o there before l m (λ why e. rows_open before l (not_yet (subst (λ w. implies (list_any is_down (entries before)) (may_follow_down w) ≡ true) e a.0.comes.alive)) a.0.opens) parts.0)
        (bind_else ms (before ++ m ∷ []) (step_connection_ledger s l m) a.1 (subst (λ place. some_split_from (λ b (e : Entry) behind. loses s F u o there b e) place (entries ms) ≡ false) (sym (push_entry before m)) parts.1))
      where
        not_yet : implies (list_any is_down (entries before)) false ≡ true → list_any is_down (entries before) ≡ false
        not_yet k = by (list_any is_down (entries before)) k
          where
            by : (b : Bool) → implies b false ≡ true → b ≡ false
            by true j = absurd (let bad : false ≡ true = j in cc)
            by false j = refl
