-- Each Sent of a bind connection has free way: event by event.
use Rattle.std.proofs.Common.{◌≡◌, ◌⊎◌, inl, inr, ℕ, Bool, true, false, ◌==◌, ◌&&◌, ◌||◌, not, List, [], ◌∷◌, ◌++◌, length, refl, ap, ◌∙◌, sym, subst, append_assoc}
use Rattle.std.specs.Prelude.{Option, Some, None, is_none, is_some, map, if◌then◌else◌}
use Rattle.std.specs.List.{list_any, list_all}
use Rattle.std.specs.Str.{bytes_eq}
use Rattle.std.proofs.lemmas.List.{append-nil, map-append}
use Rattle.std.proofs.lemmas.List.Folds.{list_all-append}
use Rattle.ldap_spec.specs.Responses.{has_code}
use Rattle.lload_names.specs.declared.names.ConnKind.TheVariants.{Bind as BindKind}
use Rattle.lload_names.specs.declared.names.Entry.{Entry}
use Rattle.lload_names.specs.declared.names.Letter.{Letter}
use Rattle.lload_names.specs.declared.names.Letter.TheVariants.{Forward}
use Rattle.lload_names.specs.declared.names.OpKind.{OpKind}
use Rattle.lload_names.specs.declared.names.OpKind.TheVariants.{Bind}
use Rattle.lload_names.specs.declared.names.OpName.{OpName}
use Rattle.lload_names.specs.declared.names.PartName.{PartName}
use Rattle.lload_names.specs.declared.names.PartName.TheVariants.{Client, Up as Connection}
use Rattle.lload_names.specs.declared.names.What.{What}
use Rattle.lload_names.specs.declared.names.What.TheVariants as what
use Rattle.lload_spec.specs.Answers.{Sending, asks_who, closing_at, final_answer, of_operation, sendings, sendings_from, sending_made}
use Rattle.lload_spec.specs.Entries.{is_down, is_linked, sent_message}
use Rattle.lload_spec.specs.Journal.{Family, same_op, same_part}
use Rattle.lload_spec.specs.Lists.{agrees, each_split_from, implies, last, passes, where_there}
use Rattle.lload_spec.specs.OneEach.{has_free_way, is_followed_by}
use Rattle.lload_spec.specs.Operations.{Operation, operation, operations, is_of}
use Rattle.lload_spec.specs.Settings.{Settings, is_kind, is_of_kind}
use Rattle.lload_spec.specs.Strict.{is_empty, lives_as_connection, may_follow_down}
use Rattle.lload_spec.proofs.Growth.{left, right, both}
use Rattle.lload_laws.specs.ConnectionGrowth.{later_sending}
use Rattle.lload_laws.proofs.ConnectionGrowth.{sendings_grow}
use Rattle.lload_laws.proofs.ListLaws.{found_passes}
use Rattle.part_laws.specs.Turns.{Event, letter_with, list_from, made}
use Rattle.part_laws.proofs.Induction.{sees_behind}
use Rattle.part_laws.proofs.ListLaws.{eq_eqb, last_push, not_both, not_true, or_left, or_right, same_number, same_op_eq}
use Rattle.part_spec.specs.ConnectionState.{ConnectionState, UpRow, empty_connection, step_connection, is_bind, is_stopped}
use Rattle.part_spec.specs.Fit.{ConnectionLedger, empty_connection_ledger, step_connection_ledger, fits_connection, are_fit_from, is_unfit, is_forward_of, is_free_for, is_held_for, is_of_its_kind, ledger_behind as behind}
use Rattle.part_spec.specs.Inputs.{entries_of, marked_by}
use Rattle.part_spec.specs.Marked.{Marked, Taken, entries}
use Rattle.part_spec.specs.Marks.{each_from, has_connection_mark, marks_connection, must_mark_connection}
use Rattle.connection_laws.specs.Turns.{connection_event, connection_list}
use Rattle.connection_laws.proofs.Closings.{is_closed}
use Rattle.connection_laws.proofs.Through.{no_rows}
use Rattle.bind_laws.specs.Turns.{are_told_rightly, is_told_rightly}
use Rattle.bind_laws.proofs.BindSays.{BindTells, nothing_told}
use Rattle.bind_laws.proofs.BindShare.{begins_alone as begins_no_bind}
use Rattle.bind_laws.proofs.Lone.{no_own}
use Rattle.bind_laws.proofs.Tells.{SentsAre, RowsAre}
use Rattle.carried_laws.proofs.BindWalk.{fit_rest, lives, next_tells, split_rest}
use Rattle.carried_laws.proofs.TurnHeads.{Whats, begins_alone, event_whats, is_no_message}
use Rattle.identity_laws.proofs.BoundOut.{each_end}
use Rattle.identity_laws.proofs.Letters.{each_of}
use Rattle.caused_laws.proofs.Holders.{HeldBy, Holds, Inv, IsOver, LastHolds, inv_got, inv_other}

marks_rest : (s : Settings) (p : ConnectionState) (L M : List Marked) → each_from (step_connection s) has_connection_mark p (L ++ M) ≡ true → each_from (step_connection s) has_connection_mark (behind (step_connection s) p L) M ≡ true
marks_rest s p [] M h = h
marks_rest s p (m ∷ L) M h = marks_rest s (step_connection s p m) L M (right (has_connection_mark p m) _ h)

same_client : (sender : PartName) (a b : ℕ) → same_part sender (Client a) ≡ true → same_part sender (Client b) ≡ true → a ≡ b
same_client (Client n) a b h k = sym (same_number n a h) ∙ same_number n b k
same_client _ a b h k = absurd (let bad : false ≡ true = h in cc)

-- an entry without a mark is no Sent
unsent : (p : ConnectionState) (w : What) → not (must_mark_connection p w) ≡ true → is_none (sent_message w) ≡ true
unsent p (what.Sent id op rest) h = absurd (let bad : false ≡ true = h in cc)
unsent p w h = refl

none_of : {A : Type 0} (o : Option A) → is_none o ≡ true → o ≡ None
none_of None h = refl
none_of (Some x) h = absurd (let bad : false ≡ true = h in cc)

module _ (s : Settings) (F : Family) (u : ℕ) (kind : is_of_kind s BindKind u ≡ true) where
  abbrev Ways : List Entry → List Entry → Type 0
  Ways place es = list_all (has_free_way s F u) (sendings_from u place es) ≡ true

  none_here : (place : List Entry) (e : Entry) (more : List Entry) → sent_message e.what ≡ None → Ways (place ++ e ∷ []) more → Ways place (e ∷ more)
  none_here place e more h k = ap (λ o. list_all (has_free_way s F u) (sending_made u place e more o ++ sendings_from u (place ++ e ∷ []) more)) h ∙ k

  -- A Sent.
  module _ (before : List Marked) (l : ConnectionLedger) (part : PartName) (at id : ℕ) (op : OpName) (rest : List ℕ) (sender : PartName) (q holder : OpName) (sort : OpKind) (body : List ℕ) (ask : Bool) (bind : is_bind l.state ≡ true) (mark : marks_connection l.state (what.Sent id op rest) (Forward q sort body ask holder) ≡ true) (free : is_free_for l.state holder ≡ true) (told : is_told_rightly s F (Forward q sort body ask holder) ≡ true) (fit : fits_connection s l sender (Forward q sort body ask holder) ≡ true) (known : SentsAre s F u (entries before) l.state.ids.next l.state.rows []) where
    abbrev sends : Entry
    sends = record { part = part; at = at; what = what.Sent id op rest }

    name : op ≡ q
    name = same_op_eq op q (left (same_op op q) _ (left (same_op op q && bytes_eq rest body) _ mark))

    going : is_stopped l.state ≡ false
    going = not_true (is_stopped l.state) (right (same_op op q && bytes_eq rest body) _ mark)

    own_client : holder.client ≡ op.client
    own_client =
        let start : (same_part sender (Client q.client) && same_part sender (Client holder.client)) ≡ true = left (same_part sender (Client q.client) && same_part sender (Client holder.client)) _ (left (same_part sender (Client q.client) && same_part sender (Client holder.client) && not (list_any (λ t. is_forward_of q t.letter) l.taken)) _ (left (same_part sender (Client q.client) && same_part sender (Client holder.client) && not (list_any (λ t. is_forward_of q t.letter) l.taken) && l.state.up) _ (left (same_part sender (Client q.client) && same_part sender (Client holder.client) && not (list_any (λ t. is_forward_of q t.letter) l.taken) && l.state.up && is_of_its_kind s l.state sort body ask) _ fit))) in
        same_client sender holder.client q.client (right (same_part sender (Client q.client)) _ start) (left (same_part sender (Client q.client)) _ start) ∙ ap (λ n. n.client) (sym name)

    none_live : known.live ≡ []
    none_live = by l.state.rows known.live (no_rows l.state.rows (left (length l.state.rows == 0) _ free)) known.are
      where
        by : (rows : List UpRow) (xs : List Sending) → rows ≡ [] → RowsAre s F l.state.ids.next rows xs [] → xs ≡ []
        by [] [] z a = refl
        by [] (x ∷ xs) z a = absurd a
        by (r ∷ rows) xs z a = absurd (let bad : r ∷ rows ≡ [] = z in cc)

    closed_last : (x : Sending) → last (sendings u (entries before)) ≡ Some x → is_closed s F x ≡ true
    closed_last x e = each_end (λ y. is_closed s F y ≡ true) known.done x (sym (ap last (known.split ∙ ap (λ xs. known.done ++ xs) none_live ∙ append-nil known.done)) ∙ e) (each_of (λ y. is_closed s F y ≡ true) (is_closed s F) known.done (λ y k. k) known.closed)

    followed : (x : Sending) → last (sendings u (entries before)) ≡ Some x → LastHolds F l.state.holder x → of_operation F (is_followed_by s op.client) x ≡ true
    followed x e h = ap (passes (λ o. is_followed_by s op.client o x)) h.found ∙ both (is_some (closing_at s h.o x)) _ (sym (ap (passes (λ o. is_some (closing_at s o x))) h.found) ∙ closed_last x e) (by h.either)
      where
        of_found : h.o.name.client ≡ x.op.client
        of_found = ap (λ n. n.client) (sym (same_op_eq x.op h.o.name (found_passes (λ y. same_op x.op y.name) (operations x.op.client (F.client x.op.client)) h.o h.found)))

        by : HeldBy l.state.holder x.op.client ⊎ IsOver h.o x → (h.o.name.client == op.client || not (passes (λ f. has_code 14 f.rest) (final_answer h.o x))) ≡ true
        by (inl k) = or_left (h.o.name.client == op.client) _ (eq_eqb h.o.name.client op.client (of_found ∙ sym k.client ∙ ap (λ n. n.client) (sym (same_op_eq holder k.by (held l.state.holder k.holds (right (length l.state.rows == 0) _ free)))) ∙ own_client))
          where
            held : (o : Option OpName) → o ≡ Some k.by → (is_none o || passes (same_op holder) o) ≡ true → same_op holder k.by ≡ true
            held None z j = absurd (let bad : None ≡ Some k.by = z in cc)
            held (Some n) z j = let same : n ≡ k.by = cc in subst (λ v. same_op holder v ≡ true) same j
        by (inr k) = or_right (h.o.name.client == op.client) _ (ap not (ap (passes (λ f. has_code 14 f.rest)) k.came ∙ k.code))

    way : Inv F u (entries before) l.state → where_there (λ x. of_operation F (is_followed_by s op.client) x) (last (sendings u (entries before))) ≡ true
    way (inl h) = not_both (is_stopped l.state) h going
    way (inr h) = by (last (sendings u (entries before))) refl h
      where
        by : (o : Option Sending) → last (sendings u (entries before)) ≡ o → Holds F l.state.holder o → where_there (λ x. of_operation F (is_followed_by s op.client) x) o ≡ true
        by None e k = refl
        by (Some x) e k = followed x e k

    pub sent_ways : (more : List Entry) → Inv F u (entries before) l.state → Ways (entries before ++ sends ∷ []) more → Ways (entries before) (sends ∷ more)
    sent_ways more h k = both (where_there (λ x. of_operation F (is_followed_by s op.client) x) (last (sendings u (entries before)))) _ (way h) k

    pub sent_inv : Inv F u (entries before ++ sends ∷ []) (step_connection s l.state (record { entry = sends; mark = Some (record { sender = sender; letter = Forward q sort body ask holder }) }))
    sent_inv = inr (subst (Holds F (if is_bind l.state then Some holder else None)) (sym (ap last (sendings_grow u (entries before) sends) ∙ last_push (map (later_sending sends) (sendings u (entries before))) (record { connection = u; op = op; id = id; at = at; rest = rest; before = entries before; behind = [] }))) (by (operation F op) refl (ap (λ n. passes (λ o. is_of Bind o && agrees ask (asks_who s o)) (operation F n)) name ∙ told)))
      where
        by : (o : Option Operation) → operation F op ≡ o → passes (λ y. is_of Bind y && agrees ask (asks_who s y)) o ≡ true → LastHolds F (if is_bind l.state then Some holder else None) (record { connection = u; op = op; id = id; at = at; rest = rest; before = entries before; behind = [] })
        by None e k = absurd (let bad : false ≡ true = k in cc)
        by (Some o) e k = record { o = o; found = e; either = inl (record { by = holder; holds = ap (λ b. if b then Some holder else None) bind; client = own_client }) }

  abbrev list_of : ConnectionLedger → List Event → List Marked
  list_of l xs = list_from (step_connection s) (connection_event s) l.state xs

  abbrev unmarked : PartName → ℕ → List What → List Marked
  unmarked part at ws = map (λ x. record { entry = x; mark = None }) (entries_of part at ws)

  -- Entries that are no messages.
  tail_way : (part : PartName) (at : ℕ) (ws : List What) (p : ConnectionState) (place : List Entry) (rest : List Marked) → list_all is_no_message ws ≡ true → each_from (step_connection s) has_connection_mark p (unmarked part at ws ++ rest) ≡ true → Inv F u place p → Inv F u (place ++ entries (unmarked part at ws)) (behind (step_connection s) p (unmarked part at ws)) × (Ways (place ++ entries (unmarked part at ws)) (entries rest) → Ways place (entries (unmarked part at ws ++ rest)))
  tail_way part at [] p place rest n k h = (subst (λ x. Inv F u x p) (sym (append-nil place)) h, λ y. subst (λ x. Ways x (entries rest)) (append-nil place) y)
  tail_way part at (w ∷ ws) p place rest n k h =
      let e : Entry = record { part = part; at = at; what = w } in
      let m : Marked = record { entry = e; mark = None } in
      let here : not (must_mark_connection p w) ≡ true = left (not (must_mark_connection p w)) _ k in
      let quiet : is_none (sent_message w) ≡ true = unsent p w here in
      let next : Inv F u (place ++ e ∷ []) (step_connection s p m) = inv_other s F u place p part at None w (left (is_no_message w) _ n) quiet here h in
      let later = tail_way part at ws (step_connection s p m) (place ++ e ∷ []) rest (right (is_no_message w) _ n) (right (not (must_mark_connection p w)) _ k) next in
      (subst (λ x. Inv F u x (behind (step_connection s) (step_connection s p m) (unmarked part at ws))) (append_assoc place (e ∷ []) (entries (unmarked part at ws))) later.0, λ y. none_here place e (entries (unmarked part at ws ++ rest)) (none_of (sent_message w) quiet) (later.1 (subst (λ x. Ways x (entries rest)) (sym (append_assoc place (e ∷ []) (entries (unmarked part at ws)))) y)))

  known_at : (before : List Marked) (l : ConnectionLedger) (e : Entry) → BindTells s F u before l → are_told_rightly s F before ≡ true → lives_as_connection (entries before) e ≡ true → may_follow_down e.what ≡ false → SentsAre s F u (entries before) l.state.ids.next l.state.rows []
  known_at before l e h told life up = (h.tells told).sents not_down refl
    where
      not_down : l.state.down ≡ false
      not_down = h.keeps.keeps.stands.says.down ∙ by (list_any is_down (entries before)) (ap (implies (list_any is_down (entries before))) (sym up) ∙ right (agrees (is_linked e.what) (is_empty (entries before))) _ (left (agrees (is_linked e.what) (is_empty (entries before)) && implies (list_any is_down (entries before)) (may_follow_down e.what)) _ life))
        where
          by : (b : Bool) → implies b false ≡ true → b ≡ false
          by true k = absurd (let bad : false ≡ true = k in cc)
          by false k = refl

  -- the first entry of a turn
  head_way : (before : List Marked) (l : ConnectionLedger) (part : PartName) (at : ℕ) (mark : Option Taken) (w : What) (more : List Entry) → BindTells s F u before l → Inv F u (entries before) l.state → are_told_rightly s F before ≡ true → where_there (λ t. is_told_rightly s F t.letter) mark ≡ true → not (is_unfit (fits_connection s) l mark) ≡ true → has_connection_mark l.state (record { entry = record { part = part; at = at; what = w }; mark = mark }) ≡ true → lives_as_connection (entries before) (record { part = part; at = at; what = w }) ≡ true
      → Inv F u (entries before ++ record { part = part; at = at; what = w } ∷ []) (step_connection s l.state (record { entry = record { part = part; at = at; what = w }; mark = mark })) × (Ways (entries before ++ record { part = part; at = at; what = w } ∷ []) more → Ways (entries before) (record { part = part; at = at; what = w } ∷ more))
  head_way before l part at mark (what.Got id rest) more h inv told here fit k life =
      let known : SentsAre s F u (entries before) l.state.ids.next l.state.rows [] = known_at before l (record { part = part; at = at; what = what.Got id rest }) h told life refl in
      (inv_got s F u (entries before) l.state part at mark (record { id = id; rest = rest }) (no_own s u (entries before) l.state (begins_no_bind s u kind) h.keeps.keeps.stands.own) l.state.ids.next known.done known.live known.split known.are inv, λ y. none_here (entries before) (record { part = part; at = at; what = what.Got id rest }) more refl y)
  head_way before l part at None (what.Sent id op rest) more h inv told here fit k life = absurd (let bad : false ≡ true = k in cc)
  head_way before l part at (Some t) (what.Sent id op rest) more h inv told here fit k life = by t.letter here fit k
    where
      bind : is_bind l.state ≡ true
      bind = ap (is_kind BindKind) h.keeps.stands.kind

      by : (x : Letter) → is_told_rightly s F x ≡ true → not (not (fits_connection s l t.sender x)) ≡ true → marks_connection l.state (what.Sent id op rest) x ≡ true → Inv F u (entries before ++ record { part = part; at = at; what = what.Sent id op rest } ∷ []) (step_connection s l.state (record { entry = record { part = part; at = at; what = what.Sent id op rest }; mark = Some (record { sender = t.sender; letter = x }) })) × (Ways (entries before ++ record { part = part; at = at; what = what.Sent id op rest } ∷ []) more → Ways (entries before) (record { part = part; at = at; what = what.Sent id op rest } ∷ more))
      by (Forward q sort body ask holder) a f i =
          let fits : fits_connection s l t.sender (Forward q sort body ask holder) ≡ true = twice (fits_connection s l t.sender (Forward q sort body ask holder)) f in
          let free : is_free_for l.state holder ≡ true = left (is_free_for l.state holder) _ (subst (λ b. (not b || is_free_for l.state holder && is_held_for l.state q holder) ≡ true) bind (right (same_part t.sender (Client q.client) && same_part t.sender (Client holder.client) && not (list_any (λ y. is_forward_of q y.letter) l.taken) && l.state.up && is_of_its_kind s l.state sort body ask) _ fits)) in
          let known : SentsAre s F u (entries before) l.state.ids.next l.state.rows [] = known_at before l (record { part = part; at = at; what = what.Sent id op rest }) h told life refl in
          (sent_inv before l part at id op rest t.sender q holder sort body ask bind i free a fits known, λ y. sent_ways before l part at id op rest t.sender q holder sort body ask bind i free a fits known more inv y)
        where
          twice : (b : Bool) → not (not b) ≡ true → b ≡ true
          twice true j = refl
          twice false j = absurd (let bad : false ≡ true = j in cc)
      by x a f i = absurd (let bad : false ≡ true = i in cc)
  head_way before l part at mark w more h inv told here fit k life = (inv_other s F u (entries before) l.state part at mark w refl refl (marked_right mark k) inv, λ y. none_here (entries before) (record { part = part; at = at; what = w }) more refl y)
    where
      marked_right : (o : Option Taken) → has_connection_mark l.state (record { entry = record { part = part; at = at; what = w }; mark = o }) ≡ true → (elim o [ None ↦ not (must_mark_connection l.state w) | Some t ↦ marks_connection l.state w t.letter ]) ≡ true
      marked_right o j = j

  -- A turn.
  one_turn : (part : PartName) (at : ℕ) (ws : List What) (mark : Option Taken) (before : List Marked) (l : ConnectionLedger) (rest : List Marked) → begins_alone ws ≡ true → BindTells s F u before l → Inv F u (entries before) l.state
      → are_told_rightly s F (before ++ (marked_by mark (entries_of part at ws) ++ rest)) ≡ true
      → are_fit_from (fits_connection s) (step_connection_ledger s) l (marked_by mark (entries_of part at ws) ++ rest) ≡ true
      → each_from (step_connection s) has_connection_mark l.state (marked_by mark (entries_of part at ws) ++ rest) ≡ true
      → each_split_from lives (entries before) (entries (marked_by mark (entries_of part at ws) ++ rest)) ≡ true
      → Inv F u (entries (before ++ marked_by mark (entries_of part at ws))) (behind (step_connection s) l.state (marked_by mark (entries_of part at ws))) × (Ways (entries (before ++ marked_by mark (entries_of part at ws))) (entries rest) → Ways (entries before) (entries (marked_by mark (entries_of part at ws) ++ rest)))
  one_turn part at [] mark before l rest alone h inv told fit marks life = (subst (λ b. Inv F u (entries b) l.state) (sym (append-nil before)) inv, λ y. subst (λ b. Ways (entries b) (entries rest)) (append-nil before) y)
  one_turn part at (w ∷ ws) mark before l rest alone h inv told fit marks life =
      let e : Entry = record { part = part; at = at; what = w } in
      let m : Marked = record { entry = e; mark = mark } in
      let others : List Marked = unmarked part at ws in
      let grown : (entries before ++ e ∷ []) ++ entries others ≡ entries (before ++ m ∷ others) = append_assoc (entries before) (e ∷ []) (entries others) ∙ sym (map-append (λ (x : Marked). x.entry) before (m ∷ others)) in
      let both_told : (are_told_rightly s F before && are_told_rightly s F (m ∷ others ++ rest)) ≡ true = sym (list_all-append (λ x. where_there (λ t. is_told_rightly s F t.letter) x.mark) before (m ∷ others ++ rest)) ∙ told in
      let first = head_way before l part at mark w (entries (others ++ rest)) h inv (left (are_told_rightly s F before) _ both_told) (left (where_there (λ t. is_told_rightly s F t.letter) mark) _ (right (are_told_rightly s F before) _ both_told)) (left (not (is_unfit (fits_connection s) l mark)) _ fit) (left (has_connection_mark l.state m) _ marks) (left (lives_as_connection (entries before) e) _ life) in
      let later = tail_way part at ws (step_connection s l.state m) (entries before ++ e ∷ []) rest alone (right (has_connection_mark l.state m) _ marks) first.0 in
      (subst (λ x. Inv F u x (behind (step_connection s) (step_connection s l.state m) others)) grown later.0, λ y. first.1 (later.1 (subst (λ x. Ways x (entries rest)) (sym grown) y)))

  -- what is shown of an event, by what its turn makes
  abbrev After : ConnectionLedger → Event → List Event → List Entry → List Marked
  After l x xs es = list_from (step_connection s) (connection_event s) (behind (step_connection s) l.state (marked_by (letter_with x) es)) xs

  abbrev Shown : List Marked → ConnectionLedger → Event → List Event → List Entry → Type 0
  Shown before l x xs es =
      are_told_rightly s F (before ++ (marked_by (letter_with x) es ++ After l x xs es)) ≡ true
      → are_fit_from (fits_connection s) (step_connection_ledger s) l (marked_by (letter_with x) es ++ After l x xs es) ≡ true
      → each_from (step_connection s) has_connection_mark l.state (marked_by (letter_with x) es ++ After l x xs es) ≡ true
      → each_split_from lives (entries before) (entries (marked_by (letter_with x) es ++ After l x xs es)) ≡ true
      → Inv F u (entries (before ++ marked_by (letter_with x) es)) (behind (step_connection s) l.state (marked_by (letter_with x) es)) × (Ways (entries (before ++ marked_by (letter_with x) es)) (entries (After l x xs es)) → Ways (entries before) (entries (marked_by (letter_with x) es ++ After l x xs es)))

  shown : (before : List Marked) (l : ConnectionLedger) (x : Event) (xs : List Event) → BindTells s F u before l → Inv F u (entries before) l.state → Whats s l.state (connection_event s l.state x).entries → Shown before l x xs (connection_event s l.state x).entries
  shown before l x xs h inv w = subst (Shown before l x xs) (sym w.same) (λ a b c d. one_turn (Connection l.state.number) w.moment w.whats (letter_with x) before l (After l x xs (entries_of (Connection l.state.number) w.moment w.whats)) w.alone h inv a b c d)

  ways_from : (xs : List Event) (before : List Marked) (l : ConnectionLedger) → BindTells s F u before l → Inv F u (entries before) l.state → are_told_rightly s F (before ++ list_of l xs) ≡ true → are_fit_from (fits_connection s) (step_connection_ledger s) l (list_of l xs) ≡ true → each_from (step_connection s) has_connection_mark l.state (list_of l xs) ≡ true → each_split_from lives (entries before) (entries (list_of l xs)) ≡ true → Ways (entries before) (entries (list_of l xs))
  ways_from [] before l h inv told fit marks life = refl
  ways_from (x ∷ xs) before l h inv told fit marks life =
      let turn : List Marked = made (connection_event s) l.state x in
      let next : ConnectionLedger = behind (step_connection_ledger s) l turn in
      let rest : List Marked = list_from (step_connection s) (connection_event s) (behind (step_connection s) l.state turn) xs in
      let seen : next.state ≡ behind (step_connection s) l.state turn = sees_behind (fits_connection s) (step_connection_ledger s) (step_connection s) (λ k. k.state) (λ k m. refl) l turn in
      let same : list_of next xs ≡ rest = ap (λ q. list_from (step_connection s) (connection_event s) q xs) seen in
      let told_next : are_told_rightly s F ((before ++ turn) ++ list_of next xs) ≡ true = ap (λ r. are_told_rightly s F ((before ++ turn) ++ r)) same ∙ ap (are_told_rightly s F) (append_assoc before turn rest) ∙ told in
      let fit_next : are_fit_from (fits_connection s) (step_connection_ledger s) next (list_of next xs) ≡ true = ap (are_fit_from (fits_connection s) (step_connection_ledger s) next) same ∙ fit_rest s l turn rest fit in
      let marks_next : each_from (step_connection s) has_connection_mark next.state (list_of next xs) ≡ true = ap (each_from (step_connection s) has_connection_mark next.state) same ∙ ap (λ q. each_from (step_connection s) has_connection_mark q rest) seen ∙ marks_rest s l.state turn rest marks in
      let life_next : each_split_from lives (entries (before ++ turn)) (entries (list_of next xs)) ≡ true = ap (λ r. each_split_from lives (entries (before ++ turn)) (entries r)) same ∙ ap (λ b. each_split_from lives b (entries rest)) (map-append (λ (y : Marked). y.entry) before turn) ∙ split_rest lives (entries before) (entries turn) (entries rest) (subst (λ es. each_split_from lives (entries before) es ≡ true) (map-append (λ (y : Marked). y.entry) turn rest) life) in
      let here = shown before l x xs h inv (event_whats s l.state h.keeps.stands.kind x) told fit marks life in
      here.1 (subst (λ r. Ways (entries (before ++ turn)) (entries r)) same (ways_from xs (before ++ turn) next (next_tells s F u kind before l x rest h fit) (subst (Inv F u (entries (before ++ turn))) (sym seen) here.0) told_next fit_next marks_next life_next))

  -- each Sent of a list of a bind connection's turns has free way
  pub bind_ways : (xs : List Event) → are_told_rightly s F (connection_list s u xs) ≡ true → are_fit_from (fits_connection s) (step_connection_ledger s) (empty_connection_ledger s u) (connection_list s u xs) ≡ true → each_from (step_connection s) has_connection_mark (empty_connection s u) (connection_list s u xs) ≡ true → each_split_from lives [] (entries (connection_list s u xs)) ≡ true → list_all (has_free_way s F u) (sendings u (entries (connection_list s u xs))) ≡ true
  bind_ways xs told fit marks life = ways_from xs [] (empty_connection_ledger s u) (nothing_told s F u kind) (inr tt) told fit marks life
