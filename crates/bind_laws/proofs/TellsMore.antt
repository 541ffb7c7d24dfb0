-- What a bind connection's state says of its Sent entries behind an entry of each kind: a message, an own message, a Sent,
-- Expired, and any other.
use Rattle.std.proofs.Common.{◌≡◌, ℕ, inl, inr, Bool, true, false, ◌==◌, ◌&&◌, not, List, [], ◌∷◌, ◌++◌, flat_map, refl, ap, ◌∙◌, sym, subst, append_assoc, arith, length, ◌||◌}
use Rattle.std.specs.Prelude.{Option, Some, None, map, is_some, is_none, if◌then◌else◌, max, suc, find, cond, nat_lt}
use Rattle.std.specs.List.{list_any, list_all}
use Rattle.std.proofs.lemmas.Grind.{flat_map-append}
use Rattle.std.proofs.lemmas.List.{append-nil, map-append}
use Rattle.std.proofs.lemmas.List.Folds.{list_all-append}
use Rattle.std.proofs.lemmas.Bool.{lt-ltb}
use Rattle.std.proofs.lemmas.Bool.Decides.{nat_tests}
use Rattle.std.proofs.lemmas.Slice.Eq.{bytes_eq-Decides}
use Rattle.std.specs.Str.{bytes_eq}
use Rattle.ldap_spec.specs.Messages.{Message}
use Rattle.ldap_spec.specs.Kinds.{same_kind, is_final, kind_of}
use Rattle.ldap_spec.specs.Responses.{result_code}
use Rattle.ldap_spec.specs.Bodies.{who_am_i, abandon}
use Rattle.lload_names.specs.declared.names.Entry.{Entry}
use Rattle.lload_names.specs.declared.names.OpKind.{OpKind}
use Rattle.lload_names.specs.declared.names.OpKind.TheVariants.{Bind}
use Rattle.lload_names.specs.declared.names.EndWhy.{EndWhy}
use Rattle.lload_names.specs.declared.names.EndWhy.TheVariants.{Bad, TimedOut}
use Rattle.lload_names.specs.declared.names.PartName.{PartName}
use Rattle.lload_names.specs.declared.names.What.{What}
use Rattle.lload_names.specs.declared.names.What.TheVariants as what
use Rattle.lload_names.specs.declared.names.ConnKind.TheVariants.{Regular}
use Rattle.lload_names.specs.declared.names.Letter.{Letter}
use Rattle.lload_names.specs.declared.names.Letter.TheVariants.{Forward, Drop}
use Rattle.lload_names.specs.declared.names.OpName.{OpName}
use Rattle.lload_spec.specs.Lists.{passes, first_passes, implies, agrees, last_passes, last}
use Rattle.lload_spec.specs.Settings.{Settings, is_kind}
use Rattle.lload_spec.specs.Journal.{Family, same_op}
use Rattle.lload_spec.specs.Entries.{sent_message, is_own, is_down, is_down_by, down_why, same_why, expired_op, is_expired, got_message, own_message, is_linked}
use Rattle.lload_spec.specs.Operations.{operation, Operation, is_of}
use Rattle.lload_spec.specs.Answers.{Sending, sendings, sending_made, closing_at, gives_id, asks_who}
use Rattle.lload_spec.specs.Identifiers.{frees, freed_id as freed_of, freed_by}
use Rattle.lload_spec.specs.OneEach.{begins_with_bind, is_own_bind, is_bind_due}
use Rattle.lload_spec.specs.Pauses.{is_waiting}
use Rattle.lload_spec.specs.BadMessages.{is_bad}
use Rattle.part_spec.specs.Marked.{Marked, Taken, entries}
use Rattle.part_spec.specs.ConnectionState.{UpRow, is_bind_row, is_under_own, behind_message, freed_id, step_connection, message_facts, Kept, is_there, is_holding, is_abandoned_by, row_named, behind_own, rows_sent, put_row}
use Rattle.part_spec.specs.Fit.{ConnectionLedger}
use Rattle.part_spec.specs.Share.{succeeds, has_letter, drops, is_who_awaited, is_due_abandon, is_free_by, is_expiry_told}
use Rattle.part_spec.specs.Marks.{marks_connection, has_connection_mark}
use Rattle.part_spec.specs.ConnectionTurn.{is_due}
use Rattle.lload_laws.specs.ConnectionGrowth.{later_sending}
use Rattle.bind_laws.specs.Turns.{is_told_rightly}
use Rattle.lload_spec.proofs.Growth.{left, right, both}
use Rattle.lload_laws.proofs.ConnectionGrowth.{sendings_grow}
use Rattle.lload_laws.proofs.ListLaws.{implied}
use Rattle.part_laws.proofs.ListLaws.{false_by, or_left, or_elim, same_number, same_op_eq}
use Rattle.connection_laws.proofs.ConnectionSays.{got_next, below_step}
use Rattle.connection_laws.proofs.Permits.{Permit, UpStands}
use Rattle.connection_laws.proofs.Closings.{is_closed, closed_stay, closed_free_none}
use Rattle.connection_laws.proofs.Through.{no_rows}
use Rattle.bind_laws.proofs.Lone.{BindStands, is_lone}
use Rattle.bind_laws.proofs.Meets.{bind_kind, not_own, uncoded_bad}
use Rattle.bind_laws.proofs.Sents.{IsLive, Goes, live_idle, live_own}
use Rattle.bind_laws.proofs.Gots.{Comes, live_got}
use Rattle.bind_laws.proofs.Tells.{RowsAre, SentsAre, open_now, Tells}

-- Tests of the first entry.
first_imply : (t q : Entry → Bool) (es : List Entry) → ((x : Entry) → t x ≡ true → q x ≡ true) → first_passes t es ≡ true → first_passes q es ≡ true
first_imply t q [] f h = absurd (let no : false ≡ true = h in cc)
first_imply t q (x ∷ es) f h = f x h

down_by : (why : EndWhy) (x : Entry) → is_down_by why x ≡ true → is_down x ≡ true
down_by why x h = by (down_why x.what) h
  where
    by : (o : Option EndWhy) → passes (same_why why) o ≡ true → is_some o ≡ true
    by None k = absurd (let no : false ≡ true = k in cc)
    by (Some y) k = refl

bind_request : (k : Option OpKind) → passes (same_kind Bind) k ≡ true → k ≡ Some Bind
bind_request None h = absurd (let no : false ≡ true = h in cc)
bind_request (Some k) h = ap Some (bind_kind k h)

same_asks : (a b : Bool) → agrees a b ≡ true → b ≡ a
same_asks true true h = refl
same_asks true false h = absurd (let no : false ≡ true = h in cc)
same_asks false true h = absurd (let no : false ≡ true = h in cc)
same_asks false false h = refl

-- What the Sent entries that aren't settled became behind an entry.
record Moves (s : Settings) (F : Family) (n : ℕ) (sents : List Sending) (rows : List UpRow) (ms : List Entry) : Type 0 where
  pub done : List Sending
  pub live : List Sending
  pub split : sents ≡ done ++ live
  pub closed : list_all (is_closed s F) done ≡ true
  pub are : RowsAre s F n rows live ms

module _ (s : Settings) (F : Family) (u : ℕ) (before : List Marked) (l : ConnectionLedger) (ms : List Marked) (g : UpStands s u before l) (h : BindStands l.state) (begins : begins_with_bind s l.state.number ≡ false) (own : l.state.own_bind ≡ None) (part : PartName) (at : ℕ) where
  abbrev marked : Option Taken → What → Marked
  marked mark w = record { entry = record { part = part; at = at; what = w }; mark = mark }

  abbrev entry : What → Entry
  entry w = record { part = part; at = at; what = w }

  abbrev place : List Entry
  place = entries before

  -- the Sent entries behind an entry that is none
  moved : (w : What) (n : ℕ) (rows : List UpRow) → sent_message w ≡ None → (a : SentsAre s F u (entries before) l.state.ids.next l.state.rows (entry w ∷ entries ms)) → Moves s F n (map (later_sending (entry w)) a.live) rows (entries ms) → SentsAre s F u (entries before ++ entry w ∷ []) n rows (entries ms)
  moved w n rows none a m =
      record {
        done = map (later_sending (entry w)) a.done ++ m.done;
        live = m.live;
        split = sendings_grow u (entries before) (entry w) ∙ ap (λ o. map (later_sending (entry w)) (sendings u (entries before)) ++ sending_made u (entries before) (entry w) [] o) none ∙ append-nil (map (later_sending (entry w)) (sendings u (entries before))) ∙ ap (map (later_sending (entry w))) a.split ∙ map-append (later_sending (entry w)) a.done a.live ∙ ap (λ xs. map (later_sending (entry w)) a.done ++ xs) m.split ∙ sym (append_assoc (map (later_sending (entry w)) a.done) m.done m.live);
        closed = list_all-append (is_closed s F) (map (later_sending (entry w)) a.done) m.done ∙ both (list_all (is_closed s F) (map (later_sending (entry w)) a.done)) _ (closed_stay s F (entry w) a.done a.closed) m.closed;
        are = m.are;
      }

  -- A message.
  module _ (mark : Option Taken) (id : ℕ) (rest : List ℕ) (k : Permit s before l (marked mark (what.Got id rest)) ms) where
    abbrev m : Message
    m = record { id = id; rest = rest }

    abbrev got : Entry
    got = entry (what.Got id rest)

    linked : l.state.linked ≡ true
    linked = by l.state.linked k.begun
      where
        by : (b : Bool) → agrees false (not b) ≡ true → b ≡ true
        by true e = refl
        by false e = absurd (let no : false ≡ true = e in cc)

    there : l.state.down ≡ false
    there = false_by l.state.down (λ d. sym (ap (λ b. implies b false) d) ∙ k.alive)

    taking : (is_there l.state && not (is_holding l.state)) ≡ true
    taking = both (is_there l.state) _ (both l.state.linked _ linked (ap not there)) (ap (λ c. not (c && not l.state.down && is_waiting l.state.waiting)) (ap (is_kind Regular) h.kind))

    -- a final answer to the Bind without a readable code is bad, and takes the connection down
    uncoded : (r : UpRow) → l.state.rows ≡ r ∷ [] → is_bind_row r ≡ true → not (r.id == 0) ≡ true → (r.id == m.id) ≡ true → is_final Bind m.rest ≡ true → is_none (result_code m.rest) ≡ true → is_none r.kept ≡ true → first_passes is_down (entries ms) ≡ true
    uncoded r e bind above same final code fresh = first_imply (is_down_by Bad) is_down (entries ms) (down_by Bad) (implied (is_bad (message_facts l.state) m && is_there l.state && not (is_holding l.state)) (first_passes (is_down_by Bad) (entries ms)) k.bad (both (is_bad (message_facts l.state) m && is_there l.state) _ (both (is_bad (message_facts l.state) m) _ (uncoded_bad s l.state own h.lone m r e bind above (both (r.id == m.id) _ same (unkept r.kept fresh)) final code) (left (is_there l.state) _ taking)) (right (is_there l.state) _ taking)))
      where
        unkept : (o : Option Kept) → is_none o ≡ true → not (is_some o) ≡ true
        unkept None j = refl
        unkept (Some x) j = absurd (let no : false ≡ true = j in cc)

    -- Who Am I is next behind a success that is kept back
    asked : (r : UpRow) → l.state.rows ≡ r ∷ [] → succeeds m r ≡ true → first_passes (is_own who_am_i) (entries ms) ≡ true
    asked r e j = implied (list_any (succeeds m) l.state.rows) (first_passes (is_own who_am_i) (entries ms)) (right (implies (begins_with_bind s l.state.number && false) (first_passes (is_own_bind s) (entries ms))) _ k.due) (ap (list_any (succeeds m)) e ∙ or_left (succeeds m r) false j)

    record Got (n : ℕ) (rows : List UpRow) (live : List Sending) : Type 0 where
      pub freed : flat_map (freed_id at m) rows ≡ flat_map (freed_of s F got) live
      pub next : first_passes is_down (entries ms) ≡ false → Moves s F n (map (later_sending got) live) (flat_map (behind_message at m) rows) (entries ms)

    -- whether it frees the identifier
    frees_now : (n : ℕ) (r : UpRow) (sent : Sending) (a : IsLive s F n r sent (got ∷ entries ms)) (b : Bool) → is_some (closing_at s a.o (later_sending got sent)) ≡ b → passes (λ o. frees s got o sent) (operation F sent.op) ≡ b
    frees_now n r sent a b f = ap (passes (λ o. frees s got o sent)) a.found ∙ ap (λ c. not c && (is_none (closing_at s a.o sent) && is_some (closing_at s a.o (later_sending got sent)))) a.going ∙ ap (λ q. is_none q && is_some (closing_at s a.o (later_sending got sent))) (open_now s F n r sent (got ∷ entries ms) a) ∙ f

    -- one Sent
    one_got : (n : ℕ) (r : UpRow) (sent : Sending) (a : IsLive s F n r sent (got ∷ entries ms)) (rows : List UpRow) → behind_message at m r ≡ rows → Comes s F n a.o rows (later_sending got sent) (entries ms) → Got n (r ∷ []) (sent ∷ [])
    one_got n r sent a rows e (inl c) = record { freed = ap (λ rs. (elim rs [ [] ↦ r.id ∷ [] | x ∷ xs ↦ [] ]) ++ []) (e ∙ c.0) ∙ ap (λ i. i ∷ []) (sym a.id) ∙ sym (ap (λ b. (if b then sent.id ∷ [] else []) ++ []) (frees_now n r sent a true c.1)); next = λ d. record { done = later_sending got sent ∷ []; live = []; split = refl; closed = both (is_closed s F (later_sending got sent)) true (ap (passes (λ o. is_some (closing_at s o (later_sending got sent)))) a.found ∙ c.1) refl; are = subst (λ rs. RowsAre s F n rs [] (entries ms)) (sym (ap (λ rs. rs ++ []) (e ∙ c.0))) tt } }
    one_got n r sent a rows e (inr c) = record { freed = ap (λ rs. (elim rs [ [] ↦ r.id ∷ [] | x ∷ xs ↦ [] ]) ++ []) (e ∙ c.is) ∙ sym (ap (λ b. (if b then sent.id ∷ [] else []) ++ []) (frees_now n r sent a false c.unsettled)); next = λ d. record { done = []; live = later_sending got sent ∷ []; split = refl; closed = refl; are = subst (λ rs. RowsAre s F n rs (later_sending got sent ∷ []) (entries ms)) (sym (ap (λ rs. rs ++ []) (e ∙ c.is))) (c.live d) } }

    -- all of them
    all_got : (rows : List UpRow) (live : List Sending) → l.state.rows ≡ rows → is_lone rows ≡ true → RowsAre s F l.state.ids.next rows live (got ∷ entries ms) → Got l.state.ids.next rows live
    all_got [] [] e b a = record { freed = refl; next = λ d. record { done = []; live = []; split = refl; closed = refl; are = tt } }
    all_got [] (x ∷ xs) e b a = absurd a
    all_got (r ∷ []) [] e b a = absurd a
    all_got (r ∷ []) (x ∷ []) e b a = one_got l.state.ids.next r x a (behind_message at m r) refl (live_got s F l.state.ids.next r x got (entries ms) a (left (is_bind_row r) _ b) at m refl refl refl refl (asked r e) (uncoded r e (left (is_bind_row r) _ b) (right (is_bind_row r) _ b)))
    all_got (r ∷ []) (x ∷ y ∷ xs) e b a = absurd a
    all_got (r ∷ q ∷ rows) xs e b a = absurd (let no : false ≡ true = b in cc)

    got_all : (a : SentsAre s F u (entries before) l.state.ids.next l.state.rows (got ∷ entries ms)) → Got l.state.ids.next l.state.rows a.live
    got_all a = all_got l.state.rows a.live refl h.lone a.are

    -- the identifiers that it frees
    pub got_frees : SentsAre s F u (entries before) l.state.ids.next l.state.rows (got ∷ entries ms) → flat_map (freed_id at m) l.state.rows ≡ freed_by s F u (entries before) got
    got_frees a = (got_all a).freed ∙ sym (ap (λ xs. flat_map (freed_of s F got) xs) a.split ∙ flat_map-append (freed_of s F got) a.done a.live ∙ ap (λ xs. xs ++ flat_map (freed_of s F got) a.live) (closed_free_none s F got a.done a.closed))

    pub got_sents : SentsAre s F u (entries before) l.state.ids.next l.state.rows (got ∷ entries ms) → first_passes is_down (entries ms) ≡ false → SentsAre s F u (entries before ++ got ∷ []) (step_connection s l.state (marked mark (what.Got id rest))).ids.next (step_connection s l.state (marked mark (what.Got id rest))).rows (entries ms)
    got_sents a d = subst (λ n. SentsAre s F u (entries before ++ got ∷ []) n (step_connection s l.state (marked mark (what.Got id rest))).rows (entries ms)) (sym (got_next l.state (is_under_own l.state id) (flat_map (freed_id at m) l.state.rows))) (subst (λ rows. SentsAre s F u (entries before ++ got ∷ []) l.state.ids.next rows (entries ms)) (sym (ap (λ b. if b then l.state.rows else flat_map (behind_message at m) l.state.rows) (not_own l.state own m))) (moved (what.Got id rest) l.state.ids.next (flat_map (behind_message at m) l.state.rows) refl a ((got_all a).next d)))

  -- An own message.
  module _ (mark : Option Taken) (id : ℕ) (rest : List ℕ) (k : Permit s before l (marked mark (what.Own id rest)) ms) (t : Tells s F u (entries before) l.state (entry (what.Own id rest) ∷ entries ms)) where
    abbrev asks : Entry
    asks = entry (what.Own id rest)

    -- it abandons none
    no_bind_due : last_passes (is_bind_due s l.state.number) (entries before) ≡ false
    no_bind_due = by (last (entries before))
      where
        by : (o : Option Entry) → (elim o [ None ↦ false | Some x ↦ begins_with_bind s l.state.number && is_linked x.what ]) ≡ false
        by None = refl
        by (Some x) = ap (λ b. b && is_linked x.what) begins

    never_abandoned : (rows : List UpRow) (q : UpRow → Bool) → is_lone rows ≡ true → passes (is_abandoned_by rest) (find q rows) ≡ false
    never_abandoned [] q b = refl
    never_abandoned (r ∷ []) q b = by (q r)
      where
        by : (c : Bool) → passes (is_abandoned_by rest) (cond c (Some r) None) ≡ false
        by true = ap (λ c. not c && bytes_eq rest (abandon r.id)) (left (is_bind_row r) _ b)
        by false = refl
    never_abandoned (r ∷ x ∷ rows) q b = absurd (let no : false ≡ true = b in cc)

    no_drop : (op : OpName) → has_letter (drops op) (marked mark (what.Own id rest)) ≡ true → false ≡ true
    no_drop op j = by mark k.fitting j
      where
        letter : (x : Letter) → marks_connection l.state (what.Own id rest) x ≡ true → drops op x ≡ true → false ≡ true
        letter (Drop o) f i = sym (never_abandoned l.state.rows (λ r. same_op o r.op) h.lone) ∙ f
        letter _ f i = i

        by : (o : Option Taken) → has_connection_mark l.state (marked o (what.Own id rest)) ≡ true → has_letter (drops op) (marked o (what.Own id rest)) ≡ true → false ≡ true
        by None f i = i
        by (Some x) f i = letter x.letter f i

    none_expired : (op : OpName) → last_passes (is_expired op) (entries before) ≡ true → false ≡ true
    none_expired op j = t.told (by (last (entries before)) j)
      where
        some : (o : Option OpName) → passes (same_op op) o ≡ true → is_some o ≡ true
        some None i = absurd (let no : false ≡ true = i in cc)
        some (Some x) i = refl

        by : (o : Option Entry) → (elim o [ None ↦ false | Some x ↦ is_expired op x ]) ≡ true → (elim o [ None ↦ false | Some x ↦ is_some (expired_op x.what) ]) ≡ true
        by None i = absurd (let no : false ≡ true = i in cc)
        by (Some x) i = some (expired_op x.what) i

    none_due : (sents : List Sending) → list_any (λ sent. is_own (abandon sent.id) asks && (is_some (row_named l.state sent.op) && has_letter (drops sent.op) (marked mark (what.Own id rest)) || last_passes (is_expired sent.op) (entries before))) sents ≡ true → false ≡ true
    none_due [] j = j
    none_due (x ∷ sents) j = or_elim (is_own (abandon x.id) asks && (is_some (row_named l.state x.op) && has_letter (drops x.op) (marked mark (what.Own id rest)) || last_passes (is_expired x.op) (entries before))) _ (λ i. or_elim (is_some (row_named l.state x.op) && has_letter (drops x.op) (marked mark (what.Own id rest))) (last_passes (is_expired x.op) (entries before)) (λ d. no_drop x.op (right (is_some (row_named l.state x.op)) _ d)) (none_expired x.op) (right (is_own (abandon x.id) asks) _ i)) (none_due sents) j

    no_abandon : (i : ℕ) → is_own (abandon i) asks ≡ false
    no_abandon i = false_by (bytes_eq rest (abandon i)) (λ j. or_elim (is_own_bind s asks && last_passes (is_bind_due s l.state.number) (entries before) || bytes_eq rest who_am_i && list_any is_who_awaited l.state.rows) (is_due_abandon l.state (entries before) (marked mark (what.Own id rest))) (λ c. or_elim (is_own_bind s asks && last_passes (is_bind_due s l.state.number) (entries before)) (bytes_eq rest who_am_i && list_any is_who_awaited l.state.rows) (λ d. sym no_bind_due ∙ right (is_own_bind s asks) _ d) (λ d. sym (ap (λ xs. bytes_eq xs (abandon i)) ((bytes_eq-Decides rest who_am_i).0 (left (bytes_eq rest who_am_i) _ d))) ∙ j) c) (none_due (sendings l.state.number (entries before))) k.reason)

    apart_number : (m n : ℕ) → nat_lt m n ≡ true → (n == m) ≡ false
    apart_number m n j = grind (arith, nat_tests, j)

    own_moves : (rows : List UpRow) (live : List Sending) → is_lone rows ≡ true → RowsAre s F l.state.ids.next rows live (asks ∷ entries ms) → Moves s F (max l.state.ids.next (suc id)) (map (later_sending asks) live) (flat_map (behind_own (record { id = id; rest = rest })) rows) (entries ms)
    own_moves [] [] b a = record { done = []; live = []; split = refl; closed = refl; are = tt }
    own_moves [] (x ∷ xs) b a = absurd a
    own_moves (r ∷ []) [] b a = absurd a
    own_moves (r ∷ []) (x ∷ []) b a =
        let other : gives_id x.id asks ≡ false = ap (λ n. n == x.id) (same_number id l.state.ids.next k.id_right) ∙ ap (λ i. l.state.ids.next == i) a.id ∙ apart_number r.id l.state.ids.next a.below in
        let went : Goes s F (max l.state.ids.next (suc id)) (behind_own (record { id = id; rest = rest }) r) (later_sending asks x) (entries ms) = live_own s F l.state.ids.next r x asks (entries ms) a (max l.state.ids.next (suc id)) (record { id = id; rest = rest }) (below_step s asks mark l.state (what.Own id rest) r.id a.below) refl refl other (no_abandon x.id) (left (is_bind_row r) _ b) in
        record { done = []; live = later_sending asks x ∷ []; split = refl; closed = refl; are = subst (λ rs. RowsAre s F (max l.state.ids.next (suc id)) rs (later_sending asks x ∷ []) (entries ms)) (sym (ap (λ rs. rs ++ []) went.is)) went.live }
    own_moves (r ∷ []) (x ∷ y ∷ xs) b a = absurd a
    own_moves (r ∷ q ∷ rows) xs b a = absurd (let no : false ≡ true = b in cc)

    pub own_sents : SentsAre s F u (entries before) l.state.ids.next l.state.rows (asks ∷ entries ms) → SentsAre s F u (entries before ++ asks ∷ []) (max l.state.ids.next (suc id)) (flat_map (behind_own (record { id = id; rest = rest })) l.state.rows) (entries ms)
    own_sents a = moved (what.Own id rest) (max l.state.ids.next (suc id)) (flat_map (behind_own (record { id = id; rest = rest })) l.state.rows) refl a (own_moves l.state.rows a.live h.lone a.are)

  -- A Sent.
  module _ (id : ℕ) (op : OpName) (rest : List ℕ) where
    abbrev sends : Entry
    sends = entry (what.Sent id op rest)

    abbrev new : Sending
    new = record { connection = u; op = op; id = id; at = at; rest = rest; before = entries before; behind = [] }

    above_id : (n : ℕ) → nat_lt id (max n (suc id)) ≡ true
    above_id n = lt-ltb id (max n (suc id)) (omega arith)

    none_live : (rows : List UpRow) (live : List Sending) → rows ≡ [] → RowsAre s F l.state.ids.next rows live (sends ∷ entries ms) → live ≡ []
    none_live [] [] e a = refl
    none_live [] (x ∷ xs) e a = absurd a
    none_live (r ∷ rows) live e a = absurd (let no : r ∷ rows ≡ [] = e in cc)

    pub sent_sents : (t : Taken) → marks_connection l.state (what.Sent id op rest) t.letter ≡ true → is_free_by l.state t.letter ≡ true → is_told_rightly s F t.letter ≡ true → SentsAre s F u (entries before) l.state.ids.next l.state.rows (sends ∷ entries ms) → SentsAre s F u (entries before ++ sends ∷ []) (max l.state.ids.next (suc id)) (rows_sent at id l.state.rows t.letter) (entries ms)
    sent_sents t f free told a =
        record {
          done = map (later_sending sends) a.done;
          live = new ∷ [];
          split = sendings_grow u (entries before) sends ∙ ap (λ xs. map (later_sending sends) xs ++ new ∷ []) (a.split ∙ ap (λ xs. a.done ++ xs) (none_live l.state.rows a.live (empty t.letter free) a.are) ∙ append-nil a.done);
          closed = closed_stay s F sends a.done a.closed;
          are = by t.letter f free told;
        }
      where
        empty : (x : Letter) → is_free_by l.state x ≡ true → l.state.rows ≡ []
        empty (Forward o sort body ask holder) e = no_rows l.state.rows (left (length l.state.rows == 0) _ e)
        empty _ e = absurd (let no : false ≡ true = e in cc)

        by : (x : Letter) → marks_connection l.state (what.Sent id op rest) x ≡ true → is_free_by l.state x ≡ true → is_told_rightly s F x ≡ true → RowsAre s F (max l.state.ids.next (suc id)) (rows_sent at id l.state.rows x) (new ∷ []) (entries ms)
        by (Forward o sort body ask holder) e free told =
            let row : UpRow = record { id = id; op = o; kind = sort; ask_who = ask; sent = at; answered = at; kept = None } in
            let same : op ≡ o = same_op_eq op o (left (same_op op o) _ (left (same_op op o && bytes_eq rest body) _ e)) in
            subst (λ rows. RowsAre s F (max l.state.ids.next (suc id)) (put_row (record { id = id; op = o; kind = sort; ask_who = ask; sent = at; answered = at; kept = None }) rows) (new ∷ []) (entries ms)) (sym (empty (Forward o sort body ask holder) free)) (live (operation F op) refl (subst (λ z. passes (λ y. is_of Bind y && agrees ask (asks_who s y)) (operation F z) ≡ true) (sym same) told) same)
          where
            live : (q : Option Operation) → operation F op ≡ q → passes (λ y. is_of Bind y && agrees ask (asks_who s y)) q ≡ true → op ≡ o → IsLive s F (max l.state.ids.next (suc id)) (record { id = id; op = o; kind = sort; ask_who = ask; sent = at; answered = at; kept = None }) new (entries ms)
            live None e d same = absurd (let no : false ≡ true = d in cc)
            live (Some y) e d same = record { o = y; found = e; kind = bind_request (kind_of y.request.rest) (left (is_of Bind y) _ d); asks = same_asks ask (asks_who s y) (right (is_of Bind y) _ d); id = refl; op = same; below = above_id l.state.ids.next; reigns = refl; going = refl; answer = refl }
        by _ e free told = absurd (let no : false ≡ true = e in cc)

  -- Expired, which the end of the connection follows.
  pub expired_down : (mark : Option Taken) (w : What) → Permit s before l (marked mark w) ms → is_some (expired_op w) ≡ true → first_passes is_down (entries ms) ≡ true
  expired_down mark (what.Expired op) k e = first_imply (is_down_by TimedOut) is_down (entries ms) (down_by TimedOut) (by l.state.rows h.lone k.expired)
    where
      told : (r : UpRow) → is_bind_row r ≡ true → is_expiry_told (entries ms) r ≡ true → first_passes (is_down_by TimedOut) (entries ms) ≡ true
      told r b j = sym (ap (λ c. if c then first_passes (is_down_by TimedOut) (entries ms) else first_passes (is_own (abandon r.id)) (entries ms)) b) ∙ j

      by : (rows : List UpRow) → is_lone rows ≡ true → passes (λ r. is_due s at r && is_expiry_told (entries ms) r) (find (λ r. same_op op r.op) rows) ≡ true → first_passes (is_down_by TimedOut) (entries ms) ≡ true
      by [] b j = absurd (let no : false ≡ true = j in cc)
      by (r ∷ []) b j = one (same_op op r.op) j
        where
          one : (c : Bool) → passes (λ q. is_due s at q && is_expiry_told (entries ms) q) (cond c (Some r) None) ≡ true → first_passes (is_down_by TimedOut) (entries ms) ≡ true
          one true i = told r (left (is_bind_row r) _ b) (right (is_due s at r) _ i)
          one false i = absurd (let no : false ≡ true = i in cc)
      by (r ∷ q ∷ rows) b j = absurd (let no : false ≡ true = b in cc)
  expired_down mark _ k e = absurd (let no : false ≡ true = e in cc)

  -- any other entry
  idle_moves : (w : What) → got_message w ≡ None → own_message w ≡ None → ((i : ℕ) → gives_id i (entry w) ≡ false) → ((op : OpName) (i : ℕ) → (is_expired op (entry w) || is_own (abandon i) (entry w)) ≡ false) → (rows : List UpRow) (live : List Sending) → RowsAre s F l.state.ids.next rows live (entry w ∷ entries ms) → Moves s F l.state.ids.next (map (later_sending (entry w)) live) rows (entries ms)
  idle_moves w a b c d [] [] e = record { done = []; live = []; split = refl; closed = refl; are = tt }
  idle_moves w a b c d [] (x ∷ xs) e = absurd e
  idle_moves w a b c d (r ∷ []) [] e = absurd e
  idle_moves w a b c d (r ∷ []) (x ∷ []) e = record { done = []; live = later_sending (entry w) x ∷ []; split = refl; closed = refl; are = live_idle s F l.state.ids.next r x (entry w) (entries ms) e a (c x.id) (d e.o.name x.id) b }
  idle_moves w a b c d (r ∷ []) (x ∷ y ∷ xs) e = absurd e
  idle_moves w a b c d (r ∷ q ∷ rows) xs e = absurd e

  pub idle_sents : (w : What) → got_message w ≡ None → own_message w ≡ None → sent_message w ≡ None → ((i : ℕ) → gives_id i (entry w) ≡ false) → ((op : OpName) (i : ℕ) → (is_expired op (entry w) || is_own (abandon i) (entry w)) ≡ false) → SentsAre s F u (entries before) l.state.ids.next l.state.rows (entry w ∷ entries ms) → SentsAre s F u (entries before ++ entry w ∷ []) l.state.ids.next l.state.rows (entries ms)
  idle_sents w a b n c d e = moved w l.state.ids.next l.state.rows n e (idle_moves w a b c d l.state.rows e.live e.are)
