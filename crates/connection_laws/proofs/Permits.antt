-- What an entry of a connection's list has to be, by the state before it, the letters taken and what stands behind it in its
-- turn; and that a list of turns of such entries keeps each clause of the connection's share. It is said of both kinds of
-- connections.
use Rattle.std.proofs.Common.{◌≡◌, ℕ, Bool, true, false, ◌==◌, ◌&&◌, ◌||◌, not, List, [], ◌∷◌, ◌++◌, length, refl, ap, ◌∙◌, sym, subst, append_assoc}
use Rattle.std.specs.Prelude.{Option, Some, None, filter, cond, is_some, nat_le, nat_lt, if◌then◌else◌, is_none}
use Rattle.std.specs.List.{list_any}
use Rattle.std.proofs.lemmas.List.{append-nil, map-append}
use Rattle.std.proofs.lemmas.List.Elements.{filter-append}
use Rattle.std.proofs.Math.Bool.{or-false}
use Rattle.ldap_spec.specs.Bodies.{abandon}
use Rattle.ldap_spec.specs.Kinds.{tag_of}
use Rattle.ldap_spec.specs.Responses.{has_code}
use Rattle.lload_names.specs.declared.names.Entry.{Entry}
use Rattle.lload_names.specs.declared.names.OpName.{OpName}
use Rattle.lload_names.specs.declared.names.EndWhy.{EndWhy}
use Rattle.lload_names.specs.declared.names.EndWhy.TheVariants.{TimedOut, Unfinished, Drained, OwnBind}
use Rattle.std.specs.Str.{bytes_eq}
use Rattle.lload_names.specs.declared.names.PartName.{PartName}
use Rattle.lload_names.specs.declared.names.Letter.{Letter}
use Rattle.lload_names.specs.declared.names.Letter.TheVariants.{Forward}
use Rattle.lload_names.specs.declared.names.What.{What}
use Rattle.lload_names.specs.declared.names.What.TheVariants as what
use Rattle.lload_spec.specs.Lists.{passes, first_passes, each_split_from, agrees, implies}
use Rattle.lload_spec.specs.Settings.{Settings, is_kind, place_at}
use Rattle.lload_spec.specs.Identifiers.{has_right_id}
use Rattle.lload_names.specs.declared.names.ConnKind.TheVariants.{Regular}
use Rattle.lload_names.specs.declared.names.PartName.TheVariants.{Client}
use Rattle.lload_spec.specs.Journal.{same_op}
use Rattle.lload_spec.specs.Entries.{given_id, sent_message, own_message, missed_op, got_message, down_why, is_own, is_linked, is_up, is_retired, is_down_by, is_link_reason, is_of_connection}
use Rattle.lload_spec.specs.OneEach.{begins_with_bind}
use Rattle.lload_spec.specs.CausedUp.{is_past}
use Rattle.lload_spec.specs.Strict.{may_follow_down, may_pass, is_empty}
use Rattle.part_spec.specs.Marks.{has_connection_mark, marks_connection, must_mark_connection}
use Rattle.part_spec.specs.ConnectionState.{ConnectionState, OwnWait, step_connection, is_stopped, is_under_own, is_first_bind, connection_behind}
use Rattle.part_spec.specs.ConnectionTurn.{is_drained}
use Rattle.part_spec.specs.Fit.{ConnectionLedger, step_connection_ledger, is_forward_of, is_taken_last, is_pause, is_resume, with_mark, ledger_behind as behind}
use Rattle.part_spec.specs.Share.{each_place, has_letter, is_idle_caused, is_expired_due, is_bad_told, has_due_messages, has_reason, is_bind_expired, leaves, is_sent_once}
use Rattle.part_spec.specs.Marked.{Marked, Taken, entries}
use Rattle.lload_spec.proofs.Growth.{left, both}
use Rattle.part_laws.proofs.ListLaws.{any_split, any_before, any_behind, or_left, same_op_eq, same_number, false_by}
use Rattle.connection_laws.proofs.OwnBinds.{is_second_bind, own_of, own_after, own_push}
use Rattle.connection_laws.proofs.ConnectionSays.{UpSays, up_says_more, number_step, linked_step, waiting_step, below_step}
use Rattle.connection_laws.proofs.Pausings.{comes_rightly, pauses_more}

-- whether a message is the first answer to the own Bind, and a Bind response that passes the test
abbrev pub is_own_answer : ConnectionState → (List ℕ → Bool) → What → Bool
is_own_answer p test w = passes (λ m. is_under_own p m.id && tag_of m.rest == 0x61 && test m.rest) (got_message w)

-- whether the connection is up directly behind this
abbrev pub brings_up : Settings → ConnectionState → What → Bool
brings_up s p w = is_linked w && is_some (place_at s p.number) && not (begins_with_bind s p.number) || is_own_answer p (has_code 0) w

-- whether an identifier that this gives is the limit
abbrev pub gives_limit : Settings → What → Bool
gives_limit s w = passes (λ id. id == s.id_limit) (given_id w)

-- no Forward of what this sends was taken before
abbrev pub sends_new : List Taken → What → Bool
sends_new taken w = elim (sent_message w) [ None ↦ true | Some x ↦ not (list_any (λ t. is_forward_of x.op t.letter) taken) ]

-- the cause of an end, by the state
abbrev pub ends_for : Settings → ConnectionState → List Entry → Marked → EndWhy → Bool
ends_for s p place m TimedOut = is_bind_expired p place || passes (λ own. is_past s.timeout own.at m.entry.at) p.own_bind
ends_for s p place m Unfinished = has_letter (leaves p) m
ends_for s p place m Drained = is_drained p
ends_for s p place m OwnBind = true
ends_for s p place m why = is_link_reason why

-- an entry that the state permits, with what stands behind it in its turn
pub record Permit (s : Settings) (before : List Marked) (l : ConnectionLedger) (m : Marked) (ms : List Marked) : Type 0 where
  pub later : nat_le l.state.moment m.entry.at ≡ true
  pub fitting : has_connection_mark l.state m ≡ true
  pub of_connection : is_of_connection m.entry.what ≡ true
  pub begun : agrees (is_linked m.entry.what) (not l.state.linked) ≡ true
  pub alive : implies l.state.down (may_follow_down m.entry.what) ≡ true
  pub up : implies (is_some (sent_message m.entry.what)) l.state.up ≡ true
  pub id_right : has_right_id l.state.ids m.entry.what ≡ true
  pub passed : may_pass (is_kind Regular l.state.kind) l.state.waiting m.entry.what ≡ true
  pub paused : comes_rightly m.mark ≡ true
  pub waits : implies (is_up m.entry.what) (is_none l.state.own_bind) ≡ true
  pub stopped : (implies (is_some (missed_op m.entry.what)) (is_stopped l.state) && implies (is_some (sent_message m.entry.what)) (not (is_stopped l.state))) ≡ true
  pub fresh : sends_new l.taken m.entry.what ≡ true
  pub free : is_sent_once l.state [] m ≡ true
  pub first : (is_some (own_message m.entry.what) && is_first_bind s l.state m.entry) ≡ (is_some (own_message m.entry.what) && is_second_bind s l.state.number (entries before) m.entry)
  pub idle : is_idle_caused l.state m ≡ true
  pub expired : is_expired_due s l.state m ms ≡ true
  pub bad : is_bad_told l.state m ms ≡ true
  pub due : has_due_messages s l.state m ms ≡ true
  pub ups : agrees (brings_up s l.state m.entry.what) (first_passes (λ e. is_up e.what) (entries ms)) ≡ true
  pub retires : agrees (gives_limit s m.entry.what) (first_passes (λ e. is_retired e.what) (entries ms)) ≡ true
  pub own_ends : agrees (is_own_answer l.state (λ r. not (has_code 0 r)) m.entry.what) (first_passes (is_down_by OwnBind) (entries ms)) ≡ true
  pub reason : has_reason s l.state (entries before) m ≡ true
  pub named : (i : ℕ) → is_own (abandon i) m.entry ≡ true → (list_any (is_own (abandon i)) (entries before) ≡ false) × (nat_lt i l.state.ids.next ≡ true) × (list_any (λ n. n == i) l.state.ids.free ≡ false)
  pub down : (elim (down_why m.entry.what) [ None ↦ true | Some why ↦ ends_for s l.state (entries before) m why ]) ≡ true

-- a turn of such entries
abbrev pub Chain : Settings → List Marked → ConnectionLedger → List Marked → Type 0
Chain s before l [] = Unit {0}
Chain s before l (m ∷ ms) = Permit s before l m ms × Chain s (before ++ m ∷ []) (step_connection_ledger s l m) ms

-- what stands of a list of such turns
pub record UpStands (s : Settings) (u : ℕ) (before : List Marked) (l : ConnectionLedger) : Type 0 where
  pub number : l.state.number ≡ u
  pub says : UpSays (entries before) l.state
  pub begins : is_empty (entries before) ≡ not l.state.linked
  pub head : (e : Entry) (es : List Entry) → entries before ≡ e ∷ es → is_linked e.what ≡ true
  pub own : l.state.own_bind ≡ own_of s u (entries before)
  pub sent : (op : OpName) → list_any (λ e. passes (λ y. same_op op y.op) (sent_message e.what)) (entries before) ≡ true → list_any (λ t. is_forward_of op t.letter) l.taken ≡ true
  pub abandoned : (i : ℕ) → list_any (is_own (abandon i)) (entries before) ≡ true → nat_lt i l.state.ids.next ≡ true
  pub above : nat_lt 0 l.state.ids.next ≡ true
  pub own_above : is_under_own l.state 0 ≡ false
  pub unlinked : l.state.linked ≡ false → l.state.ids.next ≡ 1
  pub pauses : (c : ℕ) → list_any (λ n. n == c) l.state.waiting ≡ is_taken_last is_pause is_resume (Client c) l.taken
  pub once : (i : ℕ) → nat_le (length (filter (is_own (abandon i)) (entries before))) 1 ≡ true

pub push_entry : (before : List Marked) (m : Marked) → entries (before ++ m ∷ []) ≡ entries before ++ m.entry ∷ []
push_entry before m = map-append (λ x. x.entry) before (m ∷ [])

not_empty : (place : List Entry) (e : Entry) → is_empty (place ++ e ∷ []) ≡ false
not_empty [] e = refl
not_empty (x ∷ place) e = refl

linked_then : (a b c : Bool) → agrees a (not b) ≡ true → c ≡ (b || a) → false ≡ not c
linked_then true true c h k = absurd (let bad : false ≡ true = h in cc)
linked_then true false c h k = ap not (sym k)
linked_then false true c h k = ap not (sym k)
linked_then false false c h k = absurd (let bad : false ≡ true = h in cc)

-- the first entry is Linked
linked_first : (a b : Bool) → agrees a (not b) ≡ true → true ≡ not b → a ≡ true
linked_first true b h k = refl
linked_first false true h k = absurd (let bad : true ≡ false = k in cc)
linked_first false false h k = absurd (let bad : false ≡ true = h in cc)

head_push : (place : List Entry) (x : Entry) → (is_empty place ≡ true → is_linked x.what ≡ true) → ((e : Entry) (es : List Entry) → place ≡ e ∷ es → is_linked e.what ≡ true) → (e : Entry) (es : List Entry) → place ++ x ∷ [] ≡ e ∷ es → is_linked e.what ≡ true
head_push [] x f h e es k = let same : x ≡ e = cc in subst (λ y. is_linked y.what ≡ true) same (f refl)
head_push (y ∷ place) x f h e es k = let same : y ≡ e = cc in h e place (ap (λ z. z ∷ place) same)

-- what sends an operation is the mark of its Forward
sent_marks : (p : ConnectionState) (op : OpName) (w : What) (x : Letter) → passes (λ y. same_op op y.op) (sent_message w) ≡ true → marks_connection p w x ≡ true → is_forward_of op x ≡ true
sent_marks p op (what.Sent id o rest) (Forward q sort r ask holder) h k = ap (λ z. same_op z q) (same_op_eq op o h) ∙ left (same_op o q) (bytes_eq rest r) (left (same_op o q && bytes_eq rest r) _ k)
sent_marks p op (what.Sent id o rest) _ h k = absurd (let bad : false ≡ true = k in cc)
sent_marks p op _ x h k = absurd (let bad : false ≡ true = h in cc)

sent_push : (p : ConnectionState) (op : OpName) (before : List Marked) (m : Marked) (taken : List Taken) → has_connection_mark p m ≡ true → (list_any (λ e. passes (λ y. same_op op y.op) (sent_message e.what)) (entries before) ≡ true → list_any (λ t. is_forward_of op t.letter) taken ≡ true) → list_any (λ e. passes (λ y. same_op op y.op) (sent_message e.what)) (entries (before ++ m ∷ [])) ≡ true → list_any (λ t. is_forward_of op t.letter) (with_mark m.mark taken) ≡ true
sent_push p op before m taken fit h k = any_split (λ e. passes (λ y. same_op op y.op) (sent_message e.what)) (entries before) (m.entry ∷ []) (λ j. kept m.mark (h j)) (λ j. new m.mark fit (sym (or-false (passes (λ y. same_op op y.op) (sent_message m.entry.what))) ∙ j)) (sym (ap (list_any (λ e. passes (λ y. same_op op y.op) (sent_message e.what))) (push_entry before m)) ∙ k)
  where
    kept : (mark : Option Taken) → list_any (λ t. is_forward_of op t.letter) taken ≡ true → list_any (λ t. is_forward_of op t.letter) (with_mark mark taken) ≡ true
    kept None j = j
    kept (Some t) j = any_before (λ t. is_forward_of op t.letter) taken (t ∷ []) j

    unmarked : (w : What) → passes (λ y. same_op op y.op) (sent_message w) ≡ true → not (must_mark_connection p w) ≡ true → list_any (λ t. is_forward_of op t.letter) taken ≡ true
    unmarked (what.Sent id o rest) j i = absurd (let bad : false ≡ true = i in cc)
    unmarked _ j i = absurd (let bad : false ≡ true = j in cc)

    new : (mark : Option Taken) → (elim mark [ None ↦ not (must_mark_connection p m.entry.what) | Some t ↦ marks_connection p m.entry.what t.letter ]) ≡ true → passes (λ y. same_op op y.op) (sent_message m.entry.what) ≡ true → list_any (λ t. is_forward_of op t.letter) (with_mark mark taken) ≡ true
    new None i j = unmarked m.entry.what j i
    new (Some t) i j = any_behind (λ t. is_forward_of op t.letter) taken (t ∷ []) (or_left (is_forward_of op t.letter) false (sent_marks p op m.entry.what t.letter j i))

-- at most one entry passes, and none did where a new one does
once_more : (t : Entry → Bool) (place : List Entry) (e : Entry) → nat_le (length (filter t place)) 1 ≡ true → (t e ≡ true → list_any t place ≡ false) → nat_le (length (filter t (place ++ e ∷ []))) 1 ≡ true
once_more t place e h f = ap (λ l. nat_le (length l) 1) (filter-append t place (e ∷ [])) ∙ by (t e) f
  where
    none : (xs : List Entry) → list_any t xs ≡ false → filter t xs ≡ []
    none [] k = refl
    none (x ∷ xs) k = more (t x) k (none xs)
      where
        more : (b : Bool) → (b || list_any t xs) ≡ false → (list_any t xs ≡ false → filter t xs ≡ []) → cond b (x ∷ filter t xs) (filter t xs) ≡ []
        more true j g = absurd (let bad : true ≡ false = j in cc)
        more false j g = g j

    by : (b : Bool) → (b ≡ true → list_any t place ≡ false) → nat_le (length (filter t place ++ cond b (e ∷ []) [])) 1 ≡ true
    by true g = ap (λ l. nat_le (length (l ++ e ∷ [])) 1) (none place (g refl))
    by false g = ap (λ l. nat_le (length l) 1) (append-nil (filter t place)) ∙ h

-- the own Bind that waits, by the state
own_step : (s : Settings) (u : ℕ) (part : PartName) (at : ℕ) (w : What) (mark : Option Taken) (place : List Entry) (p : ConnectionState) → p.number ≡ u → (is_some (own_message w) && is_first_bind s p (record { part = part; at = at; what = w })) ≡ (is_some (own_message w) && is_second_bind s p.number place (record { part = part; at = at; what = w })) → p.own_bind ≡ own_of s u place → (connection_behind s (record { part = part; at = at; what = w }) mark p w).own_bind ≡ own_after s u place (record { part = part; at = at; what = w }) (own_of s u place) w
own_step s u part at (what.Own id rest) mark place p n f h = ap (λ b. if b then Some (record { id = id; at = at }) else p.own_bind) (f ∙ ap (λ v. is_second_bind s v place (record { part = part; at = at; what = what.Own id rest })) n) ∙ ap (λ o. if is_second_bind s u place (record { part = part; at = at; what = what.Own id rest }) then Some (record { id = id; at = at }) else o) h
own_step s u part at (what.Got id rest) mark place p n f h = ap (λ o. if passes (λ own. own.id == id) o then None else o) h
own_step s u part at what.Linked mark place p n f h = h
own_step s u part at _ mark place p n f h = h

-- no own Bind waits under identifier 0
own_above_step : (s : Settings) (part : PartName) (at : ℕ) (w : What) (mark : Option Taken) (p : ConnectionState) → nat_lt 0 p.ids.next ≡ true → has_right_id p.ids w ≡ true → is_under_own p 0 ≡ false → passes (λ own. own.id == 0) (connection_behind s (record { part = part; at = at; what = w }) mark p w).own_bind ≡ false
own_above_step s part at (what.Own id rest) mark p n r h = by (is_first_bind s p (record { part = part; at = at; what = what.Own id rest }))
  where
    above : (id == 0) ≡ false
    above = false_by (id == 0) (λ j. let same : id ≡ p.ids.next = same_number id p.ids.next r in let none : id ≡ 0 = same_number id 0 j in ap (nat_lt 0) (sym none ∙ same) ∙ n)

    by : (b : Bool) → passes (λ (own : OwnWait). own.id == 0) (if b then Some (record { id = id; at = at }) else p.own_bind) ≡ false
    by true = above
    by false = h
own_above_step s part at (what.Got id rest) mark p n r h = by (is_under_own p id)
  where
    by : (b : Bool) → passes (λ (own : OwnWait). own.id == 0) (if b then None else p.own_bind) ≡ false
    by true = refl
    by false = h
own_above_step s part at _ mark p n r h = h

-- behind an entry the connection is linked
still_linked : {C : Type 0} (a b c : Bool) → agrees a (not b) ≡ true → c ≡ (b || a) → c ≡ false → C
still_linked true true c h k q = absurd (let bad : false ≡ true = h in cc)
still_linked true false c h k q = absurd (let bad : true ≡ false = sym k ∙ q in cc)
still_linked false true c h k q = absurd (let bad : true ≡ false = sym k ∙ q in cc)
still_linked false false c h k q = absurd (let bad : false ≡ true = h in cc)

pub up_stands_more : (s : Settings) (u : ℕ) (before : List Marked) (l : ConnectionLedger) (m : Marked) (ms : List Marked) → UpStands s u before l → Permit s before l m ms → UpStands s u (before ++ m ∷ []) (step_connection_ledger s l m)
up_stands_more s u before l m ms h k =
    record {
      number = number_step s m.entry m.mark l.state m.entry.what ∙ h.number;
      says = subst (λ place. UpSays place (step_connection s l.state m)) (sym (push_entry before m)) (up_says_more s (entries before) l.state m h.says);
      begins = ap is_empty (push_entry before m) ∙ not_empty (entries before) m.entry ∙ linked_then (is_linked m.entry.what) l.state.linked (step_connection s l.state m).linked k.begun (linked_step s m.entry m.mark l.state m.entry.what);
      head = λ e es q. head_push (entries before) m.entry (λ b. linked_first (is_linked m.entry.what) l.state.linked k.begun (sym b ∙ h.begins)) h.head e es (sym (push_entry before m) ∙ q);
      own = own_step s u m.entry.part m.entry.at m.entry.what m.mark (entries before) l.state h.number k.first h.own ∙ sym (own_push s u (entries before) m.entry.part m.entry.at m.entry.what (λ b. linked_first (is_linked m.entry.what) l.state.linked k.begun (sym b ∙ h.begins)) h.head) ∙ ap (own_of s u) (sym (push_entry before m));
      sent = λ op. sent_push l.state op before m l.taken k.fitting (h.sent op);
      abandoned = λ i j. below_step s m.entry m.mark l.state m.entry.what i (any_split (is_own (abandon i)) (entries before) (m.entry ∷ []) (h.abandoned i) (λ q. (k.named i (sym (or-false (is_own (abandon i) m.entry)) ∙ q)).1) (sym (ap (list_any (is_own (abandon i))) (push_entry before m)) ∙ j));
      above = below_step s m.entry m.mark l.state m.entry.what 0 h.above;
      own_above = own_above_step s m.entry.part m.entry.at m.entry.what m.mark l.state h.above k.id_right h.own_above;
      unlinked = λ q. still_linked (is_linked m.entry.what) l.state.linked (step_connection s l.state m).linked k.begun (linked_step s m.entry m.mark l.state m.entry.what) q;
      pauses = λ c. ap (list_any (λ n. n == c)) (waiting_step s m.entry m.mark l.state m.entry.what) ∙ pauses_more l.state c l.state.waiting l.taken m.entry.what m.mark k.fitting k.paused (h.pauses c);
      once = λ i. ap (λ place. nat_le (length (filter (is_own (abandon i)) place)) 1) (push_entry before m) ∙ once_more (is_own (abandon i)) (entries before) m.entry (h.once i) (λ q. (k.named i q).0);
    }

-- what each permitted entry passes, each entry of a chain passes
pub chain_places : (s : Settings) (u : ℕ) (test : ConnectionState → List Marked → Marked → List Marked → Bool) → ((before : List Marked) (l : ConnectionLedger) (m : Marked) (ms : List Marked) → UpStands s u before l → Permit s before l m ms → test l.state before m ms ≡ true) → (ms : List Marked) (before : List Marked) (l : ConnectionLedger) → UpStands s u before l → Chain s before l ms → each_place (step_connection s) test l.state before ms ≡ true
chain_places s u test f [] before l h k = refl
chain_places s u test f (m ∷ ms) before l h k = both (test l.state before m ms) _ (f before l m ms h k.0) (chain_places s u test f ms (before ++ m ∷ []) (step_connection_ledger s l m) (up_stands_more s u before l m ms h k.0) k.1)

pub chain_splits : (s : Settings) (u : ℕ) (test : List Entry → Entry → List Entry → Bool) → ((before : List Marked) (l : ConnectionLedger) (m : Marked) (ms : List Marked) → UpStands s u before l → Permit s before l m ms → test (entries before) m.entry (entries ms) ≡ true) → (ms : List Marked) (before : List Marked) (l : ConnectionLedger) → UpStands s u before l → Chain s before l ms → each_split_from test (entries before) (entries ms) ≡ true
chain_splits s u test f [] before l h k = refl
chain_splits s u test f (m ∷ ms) before l h k = both (test (entries before) m.entry (entries ms)) _ (f before l m ms h k.0) (subst (λ place. each_split_from test place (entries ms) ≡ true) (push_entry before m) (chain_splits s u test f ms (before ++ m ∷ []) (step_connection_ledger s l m) (up_stands_more s u before l m ms h k.0) k.1))

-- what stands behind a turn
pub stands_through : (s : Settings) (u : ℕ) (ms : List Marked) (before : List Marked) (l : ConnectionLedger) → UpStands s u before l → Chain s before l ms → UpStands s u (before ++ ms) (behind (step_connection_ledger s) l ms)
stands_through s u [] before l h k = subst (λ b. UpStands s u b l) (sym (append-nil before)) h
stands_through s u (m ∷ ms) before l h k = subst (λ b. UpStands s u b (behind (step_connection_ledger s) (step_connection_ledger s l m) ms)) (append_assoc before (m ∷ []) ms) (stands_through s u ms (before ++ m ∷ []) (step_connection_ledger s l m) (up_stands_more s u before l m ms h k.0) k.1)

pub state_through : (s : Settings) (ms : List Marked) (l : ConnectionLedger) → (behind (step_connection_ledger s) l ms).state ≡ behind (step_connection s) l.state ms
state_through s [] l = refl
state_through s (m ∷ ms) l = state_through s ms (step_connection_ledger s l m)
