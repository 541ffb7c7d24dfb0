-- What expires on a bind connection is open; and nothing is abandoned there.
use Rattle.std.proofs.Common.{◌≡◌, ◌⊎◌, inl, inr, ℕ, Bool, true, false, ◌==◌, ◌&&◌, ◌||◌, not, List, [], ◌∷◌, ◌++◌, refl, ap, ◌∙◌, sym, subst}
use Rattle.std.specs.Prelude.{Option, Some, None, flat_map, is_none, is_some, if◌then◌else◌, option_map, filter, map}
use Rattle.std.specs.List.{list_any}
use Rattle.std.specs.Option.{option_and_then, option_or}
use Rattle.ldap_spec.specs.Bodies.{abandon, who_am_i}
use Rattle.ldap_spec.specs.Kinds.{fits, is_final, kind_of, same_kind}
use Rattle.ldap_spec.specs.Messages.{Message}
use Rattle.ldap_spec.specs.Responses.{result_code}
use Rattle.lload_names.specs.declared.names.ConnKind.TheVariants.{Bind as BindKind}
use Rattle.lload_names.specs.declared.names.EndWhy.TheVariants.{Bad}
use Rattle.lload_names.specs.declared.names.Entry.{Entry}
use Rattle.lload_names.specs.declared.names.OpKind.TheVariants.{Bind}
use Rattle.lload_names.specs.declared.names.OpName.{OpName}
use Rattle.lload_names.specs.declared.names.PartName.{PartName}
use Rattle.lload_names.specs.declared.names.What.{What}
use Rattle.lload_names.specs.declared.names.What.TheVariants as what
use Rattle.lload_spec.specs.Answers.{Final, Sending, answer_of, closing_at, closing_by, extended_rest, extended_under, final_answer, final_under, gives_id, is_kept_back, is_open, asks_who, of_operation, sendings, until_sent, who_answer, who_id}
use Rattle.lload_spec.specs.Entries.{got_message, is_down, is_expired, is_own, sent_message}
use Rattle.lload_spec.specs.Journal.{Family, same_op}
use Rattle.lload_spec.specs.Lists.{first_passes, implies, last, passes}
use Rattle.lload_spec.specs.Operations.{Operation, is_final_for, is_of}
use Rattle.lload_spec.specs.Settings.{Settings, is_of_kind}
use Rattle.lload_spec.specs.Strict.{may_follow_down}
use Rattle.lload_spec.proofs.Growth.{left, right, both}
use Rattle.lload_laws.specs.ConnectionGrowth.{later_sending}
use Rattle.lload_laws.proofs.ConnectionGrowth.{sendings_grow}
use Rattle.lload_laws.proofs.ListLaws.{bytes_same}
use Rattle.part_laws.proofs.ListLaws.{last_push, none_of_both, not_true, same_op_sym}
use Rattle.part_spec.specs.ConnectionState.{OwnWait, UpRow, behind_message, behind_own, connection_behind, is_bind_row, is_under, is_under_own}
use Rattle.part_spec.specs.Fit.{ConnectionLedger}
use Rattle.part_spec.specs.Marked.{Marked, Taken, entries}
use Rattle.part_spec.specs.Share.{succeeds}
use Rattle.connection_laws.proofs.Closings.{extended_push, final_more}
use Rattle.bind_laws.proofs.BindShare.{begins_alone}
use Rattle.bind_laws.proofs.Gots.{Comes as BecomesRows, live_got}
use Rattle.bind_laws.proofs.Lone.{is_lone, no_own}
use Rattle.bind_laws.proofs.Sents.{IsLive, any_next}
use Rattle.bind_laws.proofs.Tells.{RowsAre, SentsAre}
use Rattle.client_answer_laws.proofs.Each.{Each, each_always, each_append, each_both, each_filter, each_imply}
use Rattle.rows_laws.proofs.Somewhere.{each_flat}
use Rattle.rows_laws.proofs.Steps.{op_named}
use Rattle.upstream_laws.proofs.Answered.{LastOf, Said, last_stays}
use Rattle.upstream_laws.proofs.BindEnds.{Here}
use Rattle.upstream_laws.proofs.Heads.{Head, Tail}

-- What an entry that is no message settles: nothing.

final_idle : (request : Message) (id : ℕ) (es : List Entry) (e : Entry) → answer_of request id e ≡ None → final_under request id es ≡ None → final_under request id (es ++ e ∷ []) ≡ None
final_idle request id [] e a h = ap (λ q. if gives_id id e then None else if passes (is_final_for request) q then option_map (λ r. record { rest = r; behind = [] }) q else None) a ∙ same (gives_id id e)
  where
    nothing : Option Final
    nothing = None

    same : (b : Bool) → (if b then nothing else nothing) ≡ nothing
    same true = refl
    same false = refl
final_idle request id (x ∷ es) e a h = by (gives_id id x) (answer_of request id x) h (final_idle request id es e a)
  where
    text : Bool → Option (List ℕ) → List Entry → Option Final → Option Final
    text g q behind later = if g then None else if passes (is_final_for request) q then option_map (λ r. record { rest = r; behind = behind }) q else later

    by : (g : Bool) (q : Option (List ℕ)) → text g q es (final_under request id es) ≡ None → (final_under request id es ≡ None → final_under request id (es ++ e ∷ []) ≡ None) → text g q (es ++ e ∷ []) (final_under request id (es ++ e ∷ [])) ≡ None
    by true q k more = refl
    by false None k more = more k
    by false (Some r) k more = final (is_final_for request r) k
      where
        final : (b : Bool) → (if b then Some (record { rest = r; behind = es }) else final_under request id es) ≡ None → (if b then Some (record { rest = r; behind = es ++ e ∷ [] }) else final_under request id (es ++ e ∷ [])) ≡ None
        final true j = absurd (let bad : Some (record { rest = r; behind = es }) ≡ None = j in cc)
        final false j = more j

module _ (e : Entry) (quiet : got_message e.what ≡ None) where
  extended_none : (w : ℕ) → extended_under w (e ∷ []) ≡ None
  extended_none w = ap (λ g. option_or (option_and_then (extended_rest w) g) None) quiet

  abbrev asked : List Entry → Option ℕ → Option (List ℕ)
  asked es o = elim o [ None ↦ None | Some w ↦ extended_under w es ]

  who_idle : (es : List Entry) → who_answer es ≡ None → who_answer (es ++ e ∷ []) ≡ None
  who_idle [] h = by (who_id (e ∷ []))
    where
      by : (o : Option ℕ) → asked (e ∷ []) o ≡ None
      by None = refl
      by (Some w) = extended_none w
  who_idle (x ∷ es) h = by (who_id (x ∷ es)) h
    where
      by : (o : Option ℕ) → asked (x ∷ es) o ≡ None → asked ((x ∷ es) ++ e ∷ []) o ≡ None
      by None k = refl
      by (Some w) k = extended_push w (x ∷ es) e ∙ ap (λ q. option_or q (extended_under w (e ∷ []))) k ∙ extended_none w

  closing_idle : (s : Settings) (o : Operation) (x : Sending) → closing_at s o x ≡ None → closing_at s o (later_sending e x) ≡ None
  closing_idle s o x h = by (final_answer o x) refl h
    where
      closing_of : Option Final → Option (List ℕ)
      closing_of q = elim q [ None ↦ None | Some f ↦ closing_by s o f ]

      closes : (a b : Bool) (f : Final) → (if a then None else if b then who_answer f.behind else Some f.rest) ≡ None → (if a then None else if b then who_answer (f.behind ++ e ∷ []) else Some f.rest) ≡ None
      closes true b f k = refl
      closes false true f k = who_idle f.behind k
      closes false false f k = k

      by : (q : Option Final) → final_answer o x ≡ q → closing_of q ≡ None → closing_at s o (later_sending e x) ≡ None
      by None g k = ap closing_of (final_idle o.request x.id x.behind e (ap (λ m. elim m [ None ↦ None | Some v ↦ if v.id == x.id && passes (λ kind. fits kind v.rest) (kind_of o.request.rest) then Some v.rest else None ]) quiet) g)
      by (Some f) g k = ap closing_of (final_more o.request x.id x.behind e f g) ∙ closes (is_of Bind o && is_none (result_code f.rest)) (is_kept_back (asks_who s o) f.rest) f k

-- A Bind is open, by what is so of its answer and of what stands behind it.
none_is : {A : Type 0} (o : Option A) → is_none o ≡ true → o ≡ None
none_is None h = refl
none_is (Some a) h = absurd (let bad : false ≡ true = h in cc)

abbrev lost : Operation → Entry → Bool
lost o y = is_expired o.name y || is_down y

opens : (s : Settings) (o : Operation) (x : Sending) → is_of Bind o ≡ true → is_none (closing_at s o x) ≡ true → list_any (lost o) x.behind ≡ false → is_open s o x ≡ true
opens s o x bind a b = both (is_none (closing_at s o x) && not (list_any (lost o) x.behind)) _ (both (is_none (closing_at s o x)) _ a (ap not b)) (ap (λ t. not (not t && list_any (is_own (abandon x.id)) (until_sent x.id x.behind))) bind)

unsettled_of : (s : Settings) (o : Operation) (x : Sending) → is_open s o x ≡ true → is_none (closing_at s o x) ≡ true
unsettled_of s o x h = left (is_none (closing_at s o x)) _ (left (is_none (closing_at s o x) && not (list_any (lost o) x.behind)) _ h)

unlost_of : (s : Settings) (o : Operation) (x : Sending) → is_open s o x ≡ true → list_any (lost o) x.behind ≡ false
unlost_of s o x h = not_true (list_any (lost o) x.behind) (right (is_none (closing_at s o x)) _ (left (is_none (closing_at s o x) && not (list_any (lost o) x.behind)) _ h))

unlost_more : (o : Operation) (x : Sending) (e : Entry) → list_any (lost o) x.behind ≡ false → lost o e ≡ false → list_any (lost o) (x.behind ++ e ∷ []) ≡ false
unlost_more o x e h k = none_of_both (lost o) x.behind (e ∷ []) h (ap (λ b. b || false) k)

-- the last Sent is open
abbrev pub OpenOf : Settings → Family → Option Sending → Type 0
OpenOf s F None = ⊥
OpenOf s F (Some x) = of_operation F (is_open s) x ≡ true

-- where there is a row
abbrev pub Opened : Settings → Family → List UpRow → Option Sending → Type 0
Opened s F rows o = Each (λ r. OpenOf s F o) rows

module _ (s : Settings) (F : Family) where
  open_stays : (e : Entry) (o : Option Sending) (r : UpRow) → got_message e.what ≡ None → (is_expired r.op e || is_down e) ≡ false → LastOf F o r → OpenOf s F o → OpenOf s F (option_map (later_sending e) o)
  open_stays e None r quiet other l h = absurd l
  open_stays e (Some x) r quiet other l h =
      let was : is_open s l.o x ≡ true = sym (ap (passes (λ q. is_open s q x)) l.found) ∙ h in
      let name : l.o.name ≡ r.op = sym (op_named F x.op l.o l.found) ∙ l.op in
      ap (passes (λ q. is_open s q (later_sending e x))) l.found ∙ opens s l.o (later_sending e x) l.bind (ap is_none (closing_idle e quiet s l.o x (none_is (closing_at s l.o x) (unsettled_of s l.o x was)))) (unlost_more l.o x e (unlost_of s l.o x was) (ap (λ n. is_expired n e || is_down e) name ∙ other))

  -- A message, where its turn begins.
  module _ (n : ℕ) (r : UpRow) (x : Sending) (l : IsLive s F n r x []) (bind : is_bind_row r ≡ true) (h : OpenOf s F (Some x)) (part : PartName) (at : ℕ) (m : Message) where
    abbrev got : Entry
    got = record { part = part; at = at; what = what.Got m.id m.rest }

    abbrev down : Entry
    down = record { part = part; at = at; what = what.Down Bad }

    abbrev who : Entry
    who = record { part = part; at = at; what = what.Own 0 who_am_i }

    abbrev Still : List UpRow → Type 0
    Still rows = Each (λ q. OpenOf s F (Some (later_sending got x))) rows

    -- what it comes to, whatever stands behind
    comes : (ms : List Entry) → (succeeds m r ≡ true → first_passes (is_own who_am_i) ms ≡ true) → ((r.id == m.id) ≡ true → is_final Bind m.rest ≡ true → is_none (result_code m.rest) ≡ true → is_none r.kept ≡ true → first_passes is_down ms ≡ true) → Still (behind_message at m r)
    comes ms f g =
        let later : IsLive s F n r x (got ∷ ms) = any_next s F n r x (got ∷ ms) l in
        so later (live_got s F n r x got ms later bind at m refl refl refl refl f g)
      where
        unsettled : (o : Option (List ℕ)) → is_some o ≡ false → is_none o ≡ true
        unsettled None k = refl
        unsettled (Some a) k = absurd (let bad : true ≡ false = k in cc)

        still : (later : IsLive s F n r x (got ∷ ms)) → is_some (closing_at s later.o (later_sending got x)) ≡ false → OpenOf s F (Some (later_sending got x))
        still later k =
            let was : is_open s later.o x ≡ true = sym (ap (passes (λ q. is_open s q x)) later.found) ∙ h in
            ap (passes (λ q. is_open s q (later_sending got x))) later.found ∙ opens s later.o (later_sending got x) (ap (passes (same_kind Bind)) later.kind) (unsettled (closing_at s later.o (later_sending got x)) k) (unlost_more later.o x got (unlost_of s later.o x was) refl)

        so : (later : IsLive s F n r x (got ∷ ms)) → BecomesRows s F n later.o (behind_message at m r) (later_sending got x) ms → Still (behind_message at m r)
        so later (inl k) = subst Still (sym k.0) tt
        so later (inr k) = subst Still (sym k.is) (still later k.unsettled, tt)

    opened_got : Still (behind_message at m r)
    opened_got = by (succeeds m r) refl
      where
        coded : (o : Option ℕ) → passes (λ c. c == 0) o ≡ true → is_none o ≡ true → false ≡ true
        coded None j k = j
        coded (Some c) j k = k

        by : (b : Bool) → succeeds m r ≡ b → Still (behind_message at m r)
        by true e = comes (who ∷ []) (λ j. bytes_same who_am_i) (λ a b c d. absurd (let bad : false ≡ true = coded (result_code m.rest) (right r.ask_who _ (right (is_bind_row r) _ (right (is_final r.kind m.rest) _ (right (is_under m.id r) _ e)))) c in cc))
        by false e = comes (down ∷ []) (λ j. absurd (let bad : false ≡ true = sym e ∙ j in cc)) (λ a b c d. refl)

module _ (s : Settings) (F : Family) (u : ℕ) (place : is_of_kind s BindKind u ≡ true) where
  module _ (before : List Marked) (l : ConnectionLedger) (h : Here s F u before l) (part : PartName) (at : ℕ) (mark : Option Taken) (k : Opened s F l.state.rows (last (sendings u (entries before)))) where
    abbrev entry : What → Entry
    entry w = record { part = part; at = at; what = w }

    abbrev marked : What → Marked
    marked w = record { entry = entry w; mark = mark }

    abbrev lasts : Option Sending
    lasts = last (sendings u (entries before))

    abbrev after : What → List UpRow → Type 0
    after w rows = Opened s F rows (last (sendings u (entries before ++ entry w ∷ [])))

    abbrev Row : UpRow → Type 0
    Row r = LastOf F lasts r × OpenOf s F lasts

    both_known : Each Row l.state.rows
    both_known = each_both (LastOf F lasts) (λ r. OpenOf s F lasts) l.state.rows h.said k

    unsent : (w : What) (rows : List UpRow) → sent_message w ≡ None → Opened s F rows (option_map (later_sending (entry w)) lasts) → after w rows
    unsent w rows none j = subst (Opened s F rows) (sym (last_stays u (entries before) (entry w) none)) j

    one_stays : (w : What) (r : UpRow) → got_message w ≡ None → (is_expired r.op (entry w) || is_down (entry w)) ≡ false → Row r → OpenOf s F (option_map (later_sending (entry w)) lasts)
    one_stays w r quiet other j = open_stays s F (entry w) lasts r quiet other j.0 j.1

    idle : (w : What) → sent_message w ≡ None → got_message w ≡ None → ((r : UpRow) → (is_expired r.op (entry w) || is_down (entry w)) ≡ false) → after w l.state.rows
    idle w none quiet other = unsent w l.state.rows none (each_imply Row (λ r. OpenOf s F (option_map (later_sending (entry w)) lasts)) l.state.rows (λ r j. one_stays w r quiet (other r) j) both_known)

    owns : (id : ℕ) (rest : List ℕ) → after (what.Own id rest) (flat_map (behind_own (record { id = id; rest = rest })) l.state.rows)
    owns id rest = unsent (what.Own id rest) (flat_map (behind_own (record { id = id; rest = rest })) l.state.rows) refl (each_flat Row (λ q. OpenOf s F (option_map (later_sending (entry (what.Own id rest))) lasts)) (behind_own (record { id = id; rest = rest })) l.state.rows (λ r j. each_always (λ q. OpenOf s F (option_map (later_sending (entry (what.Own id rest))) lasts)) (behind_own (record { id = id; rest = rest }) r) (λ q. one_stays (what.Own id rest) r refl refl j)) both_known)

    expires : (op : OpName) → after (what.Expired op) (filter (λ r. not (same_op op r.op)) l.state.rows)
    expires op = unsent (what.Expired op) (filter (λ r. not (same_op op r.op)) l.state.rows) refl (each_filter Row (λ r. OpenOf s F (option_map (later_sending (entry (what.Expired op))) lasts)) (λ r. not (same_op op r.op)) l.state.rows (λ r i j. one_stays (what.Expired op) r refl (ap (λ b. b || false) (same_op_sym r.op op ∙ not_true (same_op op r.op) i)) j) both_known)

    -- a message, where the turn begins
    got_one : Head s F u before l → (id : ℕ) (rest : List ℕ) → l.state.down ≡ false → after (what.Got id rest) (if is_under_own l.state id then l.state.rows else flat_map (behind_message at (record { id = id; rest = rest })) l.state.rows)
    got_one a id rest there =
        let m : Message = record { id = id; rest = rest } in
        let known : SentsAre s F u (entries before) l.state.ids.next l.state.rows [] = (a.knows.tells a.told).sents there refl in
        let none : is_under_own l.state id ≡ false = ap (passes (λ (v : OwnWait). v.id == id)) (no_own s u (entries before) l.state (begins_alone s u place) a.knows.keeps.keeps.stands.own) in
        subst (after (what.Got id rest)) (sym (ap (λ b. if b then l.state.rows else flat_map (behind_message at m) l.state.rows) none)) (unsent (what.Got id rest) (flat_map (behind_message at m) l.state.rows) refl (subst (λ xs. Opened s F (flat_map (behind_message at m) l.state.rows) (option_map (later_sending (entry (what.Got id rest))) (last xs))) (sym known.split) (by l.state.rows known.live known.done a.knows.keeps.stands.lone known.are (subst (λ xs. Opened s F l.state.rows (last xs)) known.split k))))
      where
        by : (rows : List UpRow) (live done : List Sending) → is_lone rows ≡ true → RowsAre s F l.state.ids.next rows live [] → Opened s F rows (last (done ++ live)) → Opened s F (flat_map (behind_message at (record { id = id; rest = rest })) rows) (option_map (later_sending (entry (what.Got id rest))) (last (done ++ live)))
        by [] live done b r j = tt
        by (r ∷ []) [] done b i j = absurd i
        by (r ∷ []) (x ∷ []) done b i j = subst (λ o. Opened s F (flat_map (behind_message at (record { id = id; rest = rest })) (r ∷ [])) (option_map (later_sending (entry (what.Got id rest))) o)) (sym (last_push done x)) (each_append (λ q. OpenOf s F (Some (later_sending (entry (what.Got id rest)) x))) (behind_message at (record { id = id; rest = rest }) r) [] (opened_got s F l.state.ids.next r x i (left (is_bind_row r) _ b) (subst (OpenOf s F) (last_push done x) j.0) part at (record { id = id; rest = rest })) tt)
        by (r ∷ []) (x ∷ y ∷ live) done b i j = absurd i
        by (r ∷ q ∷ rows) live done b i j = absurd (let bad : false ≡ true = b in cc)

    -- a Sent, of which the rows say that it is a Bind's
    new_open : (x : Sending) (r : UpRow) → x.behind ≡ [] → LastOf F (Some x) r → OpenOf s F (Some x)
    new_open x r none j = ap (passes (λ o. is_open s o x)) j.found ∙ opens s j.o x j.bind (ap (λ es. is_none (closing_text (final_under j.o.request x.id es))) none) (ap (list_any (lost j.o)) none)
      where
        closing_text : Option Final → Option (List ℕ)
        closing_text q = elim q [ None ↦ None | Some f ↦ closing_by s j.o f ]

    sends : (id : ℕ) (op : OpName) (rest : List ℕ) (rows : List UpRow) → Said F rows (last (sendings u (entries before ++ entry (what.Sent id op rest) ∷ []))) → after (what.Sent id op rest) rows
    sends id op rest rows j =
        let new : Sending = record { connection = u; op = op; id = id; at = at; rest = rest; before = entries before; behind = [] } in
        let same : last (sendings u (entries before ++ entry (what.Sent id op rest) ∷ [])) ≡ Some new = ap last (sendings_grow u (entries before) (entry (what.Sent id op rest))) ∙ last_push (map (later_sending (entry (what.Sent id op rest))) (sendings u (entries before))) new in
        subst (Opened s F rows) (sym same) (each_imply (LastOf F (Some new)) (λ r. OpenOf s F (Some new)) rows (λ r i. new_open new r refl i) (subst (Said F rows) same j))

    not_down : implies (list_any is_down (entries before)) false ≡ true → l.state.down ≡ false
    not_down a = h.says.down ∙ by (list_any is_down (entries before)) a
      where
        by : (b : Bool) → implies b false ≡ true → b ≡ false
        by true j = absurd (let bad : false ≡ true = j in cc)
        by false j = refl

    pub opened_step : (w : What) → Head s F u before l ⊎ Tail (marked w) → implies (list_any is_down (entries before)) (may_follow_down w) ≡ true → Said F (connection_behind s (entry w) mark l.state w).rows (last (sendings u (entries before ++ entry w ∷ []))) → after w (connection_behind s (entry w) mark l.state w).rows
    opened_step (what.Got id rest) (inl a) alive j = got_one a id rest (not_down alive)
    opened_step (what.Got id rest) (inr a) alive j = absurd (let bad : false ≡ true = a.quiet in cc)
    opened_step (what.Own id rest) a alive j = owns id rest
    opened_step (what.Expired op) a alive j = expires op
    opened_step (what.Down why) a alive j = tt
    opened_step (what.Sent id op rest) a alive j = sends id op rest (connection_behind s (entry (what.Sent id op rest)) mark l.state (what.Sent id op rest)).rows j
    opened_step what.Linked a alive j = idle what.Linked refl refl (λ r. refl)
    opened_step w a alive j = idle w refl refl (λ r. refl)
