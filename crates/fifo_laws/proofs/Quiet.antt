-- A connection answers only what was sent to it: where its list has no Sent of an operation, none of the letters that it
-- gives is an answer to that one.
use Rattle.std.proofs.Common.{◌≡◌, ℕ, Bool, true, false, ◌==◌, ◌&&◌, ◌||◌, not, if◌then◌else◌, List, [], ◌∷◌, ◌++◌, refl, ap, ◌∙◌, sym}
use Rattle.std.specs.Prelude.{Option, Some, None, find, flat_map, is_none}
use Rattle.std.specs.List.{list_any, list_all}
use Rattle.std.specs.Str.{bytes_eq}
use Rattle.std.proofs.lemmas.List.Folds.{list_all-append}
use Rattle.ldap_spec.specs.Tags.{success, bind_in_progress}
use Rattle.ldap_spec.specs.Kinds.{is_final, is_intermediate}
use Rattle.ldap_spec.specs.Messages.{Message}
use Rattle.ldap_spec.specs.Responses.{has_code, tells_who, who_value}
use Rattle.lload_names.specs.declared.names.ConnKind.{ConnKind}
use Rattle.lload_names.specs.declared.names.ConnKind.TheVariants.{Regular, Bind as BindKind}
use Rattle.lload_names.specs.declared.names.EndWhy.TheVariants.{Bad, OwnBind as OwnBindFailed}
use Rattle.lload_names.specs.declared.names.Entry.{Entry}
use Rattle.lload_names.specs.declared.names.Letter.{Letter}
use Rattle.lload_names.specs.declared.names.Letter.TheVariants.{Forward, Reply}
use Rattle.lload_names.specs.declared.names.OpName.{OpName}
use Rattle.lload_names.specs.declared.names.PartName.{PartName}
use Rattle.lload_names.specs.declared.names.PartName.TheVariants.{Desk}
use Rattle.lload_names.specs.declared.names.Posted.{Posted}
use Rattle.lload_names.specs.declared.names.Letter.TheVariants.{IsDown}
use Rattle.lload_names.specs.declared.names.Refusal.TheVariants.{C4, C9}
use Rattle.lload_names.specs.declared.names.What.{What}
use Rattle.lload_names.specs.declared.names.What.TheVariants as what
use Rattle.lload_spec.specs.BadMessages.{is_bad}
use Rattle.lload_spec.specs.Entries.{got_message, sent_message, is_sent}
use Rattle.lload_spec.specs.Journal.{same_op, same_part}
use Rattle.lload_spec.specs.Lists.{passes}
use Rattle.lload_spec.specs.Settings.{Settings}
use Rattle.lload_spec.proofs.Growth.{left, right, both}
use Rattle.lload_laws.proofs.ListLaws.{found}
use Rattle.part_laws.proofs.ListLaws.{not_true, same_op_eq}
use Rattle.part_spec.specs.BindTurn.{row_answer as bind_row_answer, keep_back, who_answer, kept_rest, answered as bind_answered, was_lost}
use Rattle.part_spec.specs.ConnectionState.{ConnectionState, UpRow, step_connection, connection_behind, is_bind, is_stopped, is_under, is_under_own, is_under_who, is_abandoned_by, keeps_back, behind_message, behind_own, rows_sent, message_facts}
use Rattle.part_spec.specs.ConnectionTurn.{ended, holder_ended, latency, retires, goes_down, comes_up, loss}
use Rattle.part_spec.specs.Gives.{connection_letters, connection_gives, got_letters, abandoned_ended, missed_of}
use Rattle.part_spec.specs.Inputs.{act, nothing, letters_alone, reply, failed, to}
use Rattle.part_spec.specs.Marked.{Marked, Taken, letters_to}
use Rattle.part_spec.specs.Marks.{each_from, has_connection_mark, marks_connection}
use Rattle.part_spec.specs.RegularTurn.{own_answer, row_answer, answered}
use Rattle.connection_laws.proofs.Apart.{Shrinks, shrinks_message, shrinks_own}
use Rattle.connection_laws.proofs.Rows.{all_put, all_flat, all_filter}
use Rattle.ldap_spec.specs.Bodies.{who_am_i}

-- whether a letter is an answer to this operation
abbrev pub is_reply_of : OpName → Letter → Bool
is_reply_of op (Reply o rest is_last who) = same_op op o
is_reply_of op _ = false

-- whether none of these letters is one
abbrev pub is_quiet : OpName → List Posted → Bool
is_quiet op xs = list_all (λ x. not (is_reply_of op x.letter)) xs

-- whether a row is of another operation
abbrev pub is_other : OpName → UpRow → Bool
is_other op r = not (same_op op r.op)

-- what a receiver gets of them
pub quiet_to : (op : OpName) (q : PartName) (xs : List Posted) → is_quiet op xs ≡ true → list_any (is_reply_of op) (letters_to q xs) ≡ false
quiet_to op q [] h = refl
quiet_to op q (x ∷ xs) h = by (same_part q x.to) (not_true (is_reply_of op x.letter) (left (not (is_reply_of op x.letter)) _ h)) (quiet_to op q xs (right (not (is_reply_of op x.letter)) _ h))
  where
    by : (b : Bool) → is_reply_of op x.letter ≡ false → list_any (is_reply_of op) (letters_to q xs) ≡ false → list_any (is_reply_of op) ((elim b [ true ↦ x.letter ∷ [] | false ↦ [] ]) ++ letters_to q xs) ≡ false
    by true j k = ap (λ c. c || list_any (is_reply_of op) (letters_to q xs)) j ∙ k
    by false j k = k

module _ (op : OpName) where
  pub quiet_both : (xs ys : List Posted) → is_quiet op xs ≡ true → is_quiet op ys ≡ true → is_quiet op (xs ++ ys) ≡ true
  quiet_both xs ys h k = list_all-append (λ (x : Posted). not (is_reply_of op x.letter)) xs ys ∙ both (is_quiet op xs) (is_quiet op ys) h k

  quiet_flat : (f : UpRow → List Posted) (rows : List UpRow) → ((r : UpRow) → is_quiet op (f r) ≡ true) → is_quiet op (flat_map f rows) ≡ true
  quiet_flat f [] h = refl
  quiet_flat f (r ∷ rows) h = quiet_both (f r) (flat_map f rows) (h r) (quiet_flat f rows h)

  -- A message.

  pub own_quiet : (p : ConnectionState) (m : Message) → is_quiet op (letters_alone (own_answer p m)) ≡ true
  own_quiet p m = by (has_code success m.rest)
    where
      by : (b : Bool) → is_quiet op (letters_alone (elim b [ true ↦ comes_up p | false ↦ goes_down p OwnBindFailed ])) ≡ true
      by true = refl
      by false = refl

  pub row_quiet : (p : ConnectionState) (at : ℕ) (m : Message) (r : UpRow) → is_other op r ≡ true → is_quiet op (letters_alone (row_answer p at m r)) ≡ true
  row_quiet p at m r h = by (is_final r.kind m.rest)
    where
      by : (b : Bool) → is_quiet op (letters_alone (elim b [ false ↦ act [] (reply r.op m.rest false None) | true ↦ act [] (reply r.op m.rest true None ++ ended p r.op (latency at r)) ])) ≡ true
      by false = both (is_other op r) true h refl
      by true = both (is_other op r) true h refl

  pub answered_quiet : (p : ConnectionState) (at : ℕ) (m : Message) → list_all (is_other op) p.rows ≡ true → is_quiet op (letters_alone (answered p at m)) ≡ true
  answered_quiet p at m h = by (is_under_own p m.id) (find (is_under m.id) p.rows) refl
    where
      by : (b : Bool) (o : Option UpRow) → find (is_under m.id) p.rows ≡ o → is_quiet op (letters_alone (elim b [ true ↦ own_answer p m | false ↦ elim o [ None ↦ nothing | Some r ↦ row_answer p at m r ] ])) ≡ true
      by true o e = own_quiet p m
      by false None e = refl
      by false (Some r) e = row_quiet p at m r (found (is_other op) (is_under m.id) p.rows r e h)

  pub holder_quiet : (p : ConnectionState) → is_quiet op (holder_ended p) ≡ true
  holder_quiet p = by p.holder
    where
      by : (o : Option OpName) → is_quiet op (elim o [ None ↦ [] | Some x ↦ ended p x None ]) ≡ true
      by None = refl
      by (Some x) = refl

  pub keeps_quiet : (s : Settings) (p : ConnectionState) → is_quiet op (letters_alone (keep_back s p)) ≡ true
  keeps_quiet s p = by (p.ids.next == s.id_limit)
    where
      by : (b : Bool) → is_quiet op (letters_alone (act (elim b [ true ↦ what.Own p.ids.next who_am_i ∷ what.Retired ∷ [] | false ↦ what.Own p.ids.next who_am_i ∷ [] ]) (retires s p p.ids.next))) ≡ true
      by true = refl
      by false = refl

  pub bind_row_quiet : (s : Settings) (p : ConnectionState) (rest : List ℕ) (r : UpRow) → is_other op r ≡ true → is_quiet op (letters_alone (bind_row_answer s p rest r)) ≡ true
  bind_row_quiet s p rest r h = by (is_intermediate rest) (has_code bind_in_progress rest) (keeps_back r rest)
    where
      by : (a b k : Bool) → is_quiet op (letters_alone (elim a [ true ↦ act [] (reply r.op rest false None) | false ↦ elim b [ true ↦ act [] (reply r.op rest true None) | false ↦ elim k [ true ↦ keep_back s p | false ↦ act [] (reply r.op rest true None ++ holder_ended p) ] ] ])) ≡ true
      by true b k = both (is_other op r) true h refl
      by false true k = both (is_other op r) true h refl
      by false false true = keeps_quiet s p
      by false false false = both (is_other op r) (is_quiet op (holder_ended p)) h (holder_quiet p)

  pub who_quiet : (p : ConnectionState) (rest : List ℕ) (r : UpRow) → is_other op r ≡ true → is_quiet op (letters_alone (who_answer p rest r)) ≡ true
  who_quiet p rest r h = by (is_intermediate rest) (tells_who rest)
    where
      by : (a b : Bool) → is_quiet op (letters_alone (elim a [ true ↦ nothing | false ↦ act [] ((elim b [ true ↦ reply r.op (kept_rest r) true (who_value rest) | false ↦ failed r.op C9 ]) ++ holder_ended p) ])) ≡ true
      by true b = refl
      by false true = both (is_other op r) (is_quiet op (holder_ended p)) h (holder_quiet p)
      by false false = holder_quiet p

  pub bind_quiet : (s : Settings) (p : ConnectionState) (m : Message) → list_all (is_other op) p.rows ≡ true → is_quiet op (letters_alone (bind_answered s p m)) ≡ true
  bind_quiet s p m h = by (find (is_under m.id) p.rows) (find (is_under_who m.id) p.rows) refl refl
    where
      by : (a b : Option UpRow) → find (is_under m.id) p.rows ≡ a → find (is_under_who m.id) p.rows ≡ b → is_quiet op (letters_alone (elim a [ Some r ↦ bind_row_answer s p m.rest r | None ↦ elim b [ Some r ↦ who_answer p m.rest r | None ↦ nothing ] ])) ≡ true
      by (Some r) b e k = bind_row_quiet s p m.rest r (found (is_other op) (is_under m.id) p.rows r e h)
      by None (Some r) e k = who_quiet p m.rest r (found (is_other op) (is_under_who m.id) p.rows r k h)
      by None None e k = refl

  got_quiet : (s : Settings) (p : ConnectionState) (at : ℕ) (m : Message) → list_all (is_other op) p.rows ≡ true → is_quiet op (got_letters s p at m) ≡ true
  got_quiet s p at m h = by (is_bad (message_facts p) m) p.kind
    where
      by : (b : Bool) (k : ConnKind) → is_quiet op (letters_alone (elim b [ true ↦ goes_down p Bad | false ↦ elim k [ Regular ↦ answered p at m | BindKind ↦ bind_answered s p m ] ])) ≡ true
      by true k = refl
      by false Regular = answered_quiet p at m h
      by false BindKind = bind_quiet s p m h

  -- What else happens.

  own_ends : (p : ConnectionState) (rest : List ℕ) (r : UpRow) → is_quiet op (abandoned_ended p rest r) ≡ true
  own_ends p rest r = by (is_abandoned_by rest r) (is_bind p)
    where
      by : (a b : Bool) → is_quiet op (elim a [ true ↦ elim b [ true ↦ [] | false ↦ ended p r.op None ] | false ↦ [] ]) ≡ true
      by true true = refl
      by true false = refl
      by false b = refl

  expired_quiet : (p : ConnectionState) (o : OpName) (k : ConnKind) → is_quiet op (elim k [ Regular ↦ ended p o None | BindKind ↦ [] ]) ≡ true
  expired_quiet p o Regular = refl
  expired_quiet p o BindKind = refl

  missed_quiet : (p : ConnectionState) (o : OpName) (x : Letter) → is_quiet op (missed_of p o x) ≡ true
  missed_quiet p o (Forward q sort rest ask holder) = by p.kind (was_lost p holder)
    where
      by : (k : ConnKind) (b : Bool) → is_quiet op (elim k [ Regular ↦ failed o C4 ++ ended p o None | BindKind ↦ failed o C4 ++ elim b [ true ↦ [] | false ↦ ended p holder None ] ]) ≡ true
      by Regular b = refl
      by BindKind true = refl
      by BindKind false = refl
  missed_quiet p o _ = refl

  loss_quiet : (p : ConnectionState) (r : UpRow) → is_quiet op (loss p r) ≡ true
  loss_quiet p r = by (is_bind p)
    where
      by : (b : Bool) → is_quiet op (failed r.op C4 ++ elim b [ true ↦ [] | false ↦ ended p r.op None ]) ≡ true
      by true = refl
      by false = refl

  -- what isn't a message
  pub others_quiet : (s : Settings) (p : ConnectionState) (at : ℕ) (mark : Option Taken) (w : What) → is_none (got_message w) ≡ true → is_quiet op (connection_letters s p at mark w) ≡ true
  others_quiet s p at mark (what.Got id rest) h = absurd (let bad : false ≡ true = h in cc)
  others_quiet s p at mark (what.Own id rest) h = quiet_flat (abandoned_ended p rest) p.rows (own_ends p rest)
  others_quiet s p at mark (what.Expired o) h = expired_quiet p o p.kind
  others_quiet s p at None (what.Missed o) h = refl
  others_quiet s p at (Some t) (what.Missed o) h = missed_quiet p o t.letter
  others_quiet s p at mark (what.Down why) h =
      quiet_both (flat_map (loss p) p.rows) (holder_ended p ++ to Desk (IsDown p.number)) (quiet_flat (loss p) p.rows (loss_quiet p))
      (quiet_both (holder_ended p) (to Desk (IsDown p.number)) (holder_quiet p) refl)
  others_quiet s p at mark _ h = refl

  pub letters_quiet : (s : Settings) (p : ConnectionState) (at : ℕ) (mark : Option Taken) (w : What) → list_all (is_other op) p.rows ≡ true → is_quiet op (connection_letters s p at mark w) ≡ true
  letters_quiet s p at mark (what.Got id rest) h = got_quiet s p at (record { id = id; rest = rest }) h
  letters_quiet s p at mark w h = others_quiet s p at mark w refl

  -- The rows.

  other_shrinks : (r : UpRow) (rs : List UpRow) → Shrinks r rs → is_other op r ≡ true → list_all (is_other op) rs ≡ true
  other_shrinks r [] h k = refl
  other_shrinks r (q ∷ []) h k = both (is_other op q) true (ap (λ o. not (same_op op o)) (sym h.1) ∙ k) refl
  other_shrinks r (q ∷ x ∷ xs) h k = absurd h

  got_rows : (at : ℕ) (m : Message) (b : Bool) (rows : List UpRow) → list_all (is_other op) rows ≡ true → list_all (is_other op) (if b then rows else flat_map (behind_message at m) rows) ≡ true
  got_rows at m true rows h = h
  got_rows at m false rows h = all_flat (is_other op) (behind_message at m) rows (λ r k. other_shrinks r (behind_message at m r) (shrinks_message at m r) k) h

  pub rows_stay : (s : Settings) (e : Entry) (mark : Option Taken) (p : ConnectionState) (w : What) → not (passes (λ x. same_op op x.op) (sent_message w)) ≡ true → (elim mark [ None ↦ true | Some t ↦ marks_connection p w t.letter ]) ≡ true → list_all (is_other op) p.rows ≡ true → list_all (is_other op) (connection_behind s e mark p w).rows ≡ true
  rows_stay s e None p (what.Sent id o rest) n f h = h
  rows_stay s e (Some t) p (what.Sent id o rest) n f h = by t.letter f
    where
      by : (x : Letter) → marks_connection p (what.Sent id o rest) x ≡ true → list_all (is_other op) (rows_sent e.at id p.rows x) ≡ true
      by (Forward q sort body ask holder) k =
          all_put (is_other op) (record { id = id; op = q; kind = sort; ask_who = ask; sent = e.at; answered = e.at; kept = None }) p.rows
          (ap (λ z. not (same_op op z)) (sym (same_op_eq o q (left (same_op o q) (bytes_eq rest body) (left (same_op o q && bytes_eq rest body) (not (is_stopped p)) k)))) ∙ n) h
      by _ k = h
  rows_stay s e mark p (what.Own id rest) n f h = all_flat (is_other op) (behind_own (record { id = id; rest = rest })) p.rows (λ r k. other_shrinks r (behind_own (record { id = id; rest = rest }) r) (shrinks_own (record { id = id; rest = rest }) r) k) h
  rows_stay s e mark p (what.Got id rest) n f h = got_rows e.at (record { id = id; rest = rest }) (is_under_own p id) p.rows h
  rows_stay s e mark p (what.Expired o) n f h = all_filter (is_other op) (λ r. not (same_op o r.op)) p.rows h
  rows_stay s e mark p (what.Down why) n f h = refl
  rows_stay s e mark p _ n f h = h

  marked_so : (p : ConnectionState) (w : What) (mark : Option Taken) → has_connection_mark p (record { entry = record { part = Desk; at = 0; what = w }; mark = mark }) ≡ true → (elim mark [ None ↦ true | Some t ↦ marks_connection p w t.letter ]) ≡ true
  marked_so p w None h = refl
  marked_so p w (Some t) h = h

  -- where an operation isn't sent, and none of the rows is its own, none of the letters answers it
  pub gives_quiet : (s : Settings) (p : ConnectionState) (ms : List Marked) → list_all (λ m. not (is_sent op m.entry)) ms ≡ true → each_from (step_connection s) has_connection_mark p ms ≡ true → list_all (is_other op) p.rows ≡ true → is_quiet op (connection_gives s p ms) ≡ true
  gives_quiet s p [] n k h = refl
  gives_quiet s p (m ∷ ms) n k h =
      quiet_both (connection_letters s p m.entry.at m.mark m.entry.what) (connection_gives s (step_connection s p m) ms)
      (letters_quiet s p m.entry.at m.mark m.entry.what h)
      (gives_quiet s (step_connection s p m) ms (right (not (is_sent op m.entry)) _ n) (right (has_connection_mark p m) _ k)
      (rows_stay s m.entry m.mark p m.entry.what (left (not (is_sent op m.entry)) _ n) (marked_so p m.entry.what m.mark (left (has_connection_mark p m) _ k)) h))
