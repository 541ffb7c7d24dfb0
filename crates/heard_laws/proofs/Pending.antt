-- An operation is neither sent nor missed on a regular connection, or it has a row; or the desk is told its end.
use Rattle.std.proofs.Common.{◌≡◌, ◌⊎◌, inl, inr, ℕ, Bool, true, false, ◌&&◌, ◌||◌, not, List, [], ◌∷◌, ◌++◌, refl, ap, ◌∙◌, sym}
use Rattle.std.specs.Prelude.{Option, Some, None, filter, flat_map, is_none, if◌then◌else◌}
use Rattle.std.specs.List.{list_any}
use Rattle.std.specs.Str.{bytes_eq}
use Rattle.lload_names.specs.declared.names.ConnKind.{ConnKind}
use Rattle.lload_names.specs.declared.names.ConnKind.TheVariants.{Bind as BindKind, Regular}
use Rattle.lload_names.specs.declared.names.Entry.{Entry}
use Rattle.lload_names.specs.declared.names.Letter.{Letter}
use Rattle.lload_names.specs.declared.names.Letter.TheVariants.{Forward}
use Rattle.lload_names.specs.declared.names.OpName.{OpName}
use Rattle.lload_names.specs.declared.names.PartName.{PartName}
use Rattle.lload_names.specs.declared.names.PartName.TheVariants.{Desk}
use Rattle.lload_names.specs.declared.names.What.{What}
use Rattle.lload_names.specs.declared.names.What.TheVariants as what
use Rattle.lload_spec.specs.Entries.{is_missed, is_sent}
use Rattle.lload_spec.specs.Journal.{Family, same_op}
use Rattle.lload_spec.specs.News.{tells_ended}
use Rattle.lload_spec.specs.Settings.{Settings}
use Rattle.lload_spec.proofs.Growth.{left}
use Rattle.part_laws.proofs.ListLaws.{none_of_both, not_true, or_left, same_op_eq}
use Rattle.part_spec.specs.BindTurn.{missed_letters as missed_bind_letters}
use Rattle.part_spec.specs.ConnectionState.{UpRow, behind_message, behind_own, connection_behind, is_bind_row, is_under_own, rows_sent}
use Rattle.part_spec.specs.Fit.{ConnectionLedger}
use Rattle.part_spec.specs.Gives.{connection_letters, missed_by, missed_of}
use Rattle.part_spec.specs.Marked.{Marked, Taken, entries, letters_to}
use Rattle.part_spec.specs.Marks.{has_connection_mark, marks_connection}
use Rattle.part_spec.specs.RegularTurn.{missed_letters}
use Rattle.connection_laws.proofs.Rows.{is_sound, no_bind, not_kept}
use Rattle.rows_laws.proofs.Known.{Known}
use Rattle.rows_laws.proofs.Walk.{Row, each_row}
use Rattle.open_laws.proofs.Among.{Such, among_passing, of_each}
use Rattle.heard_laws.proofs.Gone.{any_new, any_put, down_ends, expired_ends, gone_abandoned, gone_answer, got_ends, is_row_of, none_filter, none_flat, own_ends}

-- what is so of an operation that isn't over
abbrev pub Pending : OpName → List Entry → List UpRow → Type 0
Pending op place rows = ((list_any (is_sent op) place ≡ false) × (list_any (is_missed op) place ≡ false)) ⊎ (list_any (is_row_of op) rows ≡ true)

module _ (s : Settings) (F : Family) (u : ℕ) (op : OpName) (before : List Marked) (l : ConnectionLedger) (h : Known s F u before l) (part : PartName) (at : ℕ) (mark : Option Taken) where
  abbrev entry : What → Entry
  entry w = record { part = part; at = at; what = w }

  abbrev rows : List UpRow
  rows = l.state.rows

  abbrev next : What → List UpRow
  next w = (connection_behind s (entry w) mark l.state w).rows

  abbrev Gives : What → Type 0
  Gives w = list_any (tells_ended op) (letters_to Desk (connection_letters s l.state at mark w)) ≡ true

  -- A row of it stays, or its end is told.
  module _ (there : list_any (is_row_of op) rows ≡ true) where
    one : Such (λ r. is_row_of op r ≡ true) rows
    one = among_passing (is_row_of op) rows there

    sound : Row (is_sound u (entries before)) one.it
    sound = of_each (Row (is_sound u (entries before))) rows one.it (each_row (is_sound u (entries before)) rows h.sound) one.among

    plain : is_bind_row one.it ≡ false
    plain = not_true (is_bind_row one.it) (no_bind u (entries before) one.it sound)

    bare : is_none one.it.kept ≡ true
    bare = not_kept u (entries before) one.it sound

    got_step : (id : ℕ) (rest : List ℕ) → Gives (what.Got id rest) ⊎ (list_any (is_row_of op) (next (what.Got id rest)) ≡ true)
    got_step id rest = by (is_under_own l.state id) refl
      where
        among : is_under_own l.state id ≡ false → (c : Bool) → list_any (is_row_of op) (flat_map (behind_message at (record { id = id; rest = rest })) rows) ≡ c → Gives (what.Got id rest) ⊎ (list_any (is_row_of op) (flat_map (behind_message at (record { id = id; rest = rest })) rows) ≡ true)
        among e true k = inr k
        among e false k =
            let gone = gone_answer op one.it one.so plain bare at (record { id = id; rest = rest }) (none_flat (is_row_of op) (behind_message at (record { id = id; rest = rest })) rows one.it one.among k) in
            inl (got_ends s l.state h.kind h.apart.apart op one.it one.so plain bare one.among at mark id rest e gone.0 gone.1)

        by : (b : Bool) → is_under_own l.state id ≡ b → Gives (what.Got id rest) ⊎ (list_any (is_row_of op) (if b then rows else flat_map (behind_message at (record { id = id; rest = rest })) rows) ≡ true)
        by true e = inr there
        by false e = among e (list_any (is_row_of op) (flat_map (behind_message at (record { id = id; rest = rest })) rows)) refl

    own_step : (id : ℕ) (rest : List ℕ) → Gives (what.Own id rest) ⊎ (list_any (is_row_of op) (next (what.Own id rest)) ≡ true)
    own_step id rest = by (list_any (is_row_of op) (flat_map (behind_own (record { id = id; rest = rest })) rows)) refl
      where
        by : (c : Bool) → list_any (is_row_of op) (flat_map (behind_own (record { id = id; rest = rest })) rows) ≡ c → Gives (what.Own id rest) ⊎ (list_any (is_row_of op) (flat_map (behind_own (record { id = id; rest = rest })) rows) ≡ true)
        by true k = inr k
        by false k = inl (own_ends s l.state h.kind h.apart.apart op one.it one.so plain bare one.among at mark id rest (gone_abandoned op one.it one.so plain bare (record { id = id; rest = rest }) (none_flat (is_row_of op) (behind_own (record { id = id; rest = rest })) rows one.it one.among k)))

    expired_step : (o : OpName) → Gives (what.Expired o) ⊎ (list_any (is_row_of op) (next (what.Expired o)) ≡ true)
    expired_step o = by (list_any (is_row_of op) (filter (λ r. not (same_op o r.op)) rows)) refl
      where
        same : (b : Bool) → not b ≡ false → b ≡ true
        same true k = refl
        same false k = absurd (let bad : true ≡ false = k in cc)

        by : (c : Bool) → list_any (is_row_of op) (filter (λ r. not (same_op o r.op)) rows) ≡ c → Gives (what.Expired o) ⊎ (list_any (is_row_of op) (filter (λ r. not (same_op o r.op)) rows) ≡ true)
        by true k = inr k
        by false k =
            let its : same_op o one.it.op ≡ true = same (same_op o one.it.op) (none_filter (is_row_of op) (λ r. not (same_op o r.op)) rows one.it one.among one.so k) in
            inl (expired_ends s l.state h.kind op o (ap (same_op op) (same_op_eq o one.it.op its) ∙ one.so) at mark)

    sent_step : (id : ℕ) (o : OpName) (rest : List ℕ) → list_any (is_row_of op) (next (what.Sent id o rest)) ≡ true
    sent_step id o rest = by mark
      where
        letter : (x : Letter) → list_any (is_row_of op) (rows_sent at id rows x) ≡ true
        letter (Forward q sort body ask holder) = any_put (is_row_of op) (record { id = id; op = q; kind = sort; ask_who = ask; sent = at; answered = at; kept = None }) rows there
        letter _ = there

        by : (t : Option Taken) → list_any (is_row_of op) (connection_behind s (entry (what.Sent id o rest)) t l.state (what.Sent id o rest)).rows ≡ true
        by None = there
        by (Some t) = letter t.letter

    row_step : (w : What) → Gives w ⊎ (list_any (is_row_of op) (next w) ≡ true)
    row_step (what.Got id rest) = got_step id rest
    row_step (what.Own id rest) = own_step id rest
    row_step (what.Expired o) = expired_step o
    row_step (what.Down why) = inl (down_ends s l.state h.kind h.apart.apart op one.it one.so plain bare one.among at mark why)
    row_step (what.Sent id o rest) = inr (sent_step id o rest)
    row_step what.Linked = inr there
    row_step w = inr there

  -- It is sent, or missed, or neither.
  module _ (unsent : list_any (is_sent op) (entries before) ≡ false) (unmissed : list_any (is_missed op) (entries before) ≡ false) where
    abbrev After : What → Type 0
    After w = Gives w ⊎ Pending op (entries before ++ entry w ∷ []) (next w)

    neither : (w : What) → is_sent op (entry w) ≡ false → is_missed op (entry w) ≡ false → After w
    neither w a b = inr (inl (none_of_both (is_sent op) (entries before) (entry w ∷ []) unsent (ap (λ c. c || false) a), none_of_both (is_missed op) (entries before) (entry w ∷ []) unmissed (ap (λ c. c || false) b)))

    sent_now : (id : ℕ) (o : OpName) (rest : List ℕ) → has_connection_mark l.state (record { entry = entry (what.Sent id o rest); mark = mark }) ≡ true → same_op op o ≡ true → list_any (is_row_of op) (next (what.Sent id o rest)) ≡ true
    sent_now id o rest k e = by mark k
      where
        letter : (x : Letter) → marks_connection l.state (what.Sent id o rest) x ≡ true → list_any (is_row_of op) (rows_sent at id rows x) ≡ true
        letter (Forward q sort body ask holder) j = any_new (is_row_of op) (record { id = id; op = q; kind = sort; ask_who = ask; sent = at; answered = at; kept = None }) rows (ap (same_op op) (sym (same_op_eq o q (left (same_op o q) _ (left (same_op o q && bytes_eq rest body) _ j)))) ∙ e)
        letter _ j = absurd (let bad : false ≡ true = j in cc)

        by : (t : Option Taken) → has_connection_mark l.state (record { entry = entry (what.Sent id o rest); mark = t }) ≡ true → list_any (is_row_of op) (connection_behind s (entry (what.Sent id o rest)) t l.state (what.Sent id o rest)).rows ≡ true
        by None j = absurd (let bad : false ≡ true = j in cc)
        by (Some t) j = letter t.letter j

    missed_now : (o : OpName) → has_connection_mark l.state (record { entry = entry (what.Missed o); mark = mark }) ≡ true → same_op op o ≡ true → Gives (what.Missed o)
    missed_now o k e = by mark k
      where
        by_kind : (holder : OpName) (c : ConnKind) → c ≡ Regular → list_any (tells_ended op) (letters_to Desk (elim c [ Regular ↦ missed_letters l.state o | BindKind ↦ missed_bind_letters l.state o holder ])) ≡ true
        by_kind holder Regular i = or_left (same_op op o) false e
        by_kind holder BindKind i = absurd (let bad : BindKind ≡ Regular = i in cc)

        letter : (x : Letter) → marks_connection l.state (what.Missed o) x ≡ true → list_any (tells_ended op) (letters_to Desk (missed_of l.state o x)) ≡ true
        letter (Forward q sort body ask holder) j = by_kind holder l.state.kind h.kind
        letter _ j = absurd (let bad : false ≡ true = j in cc)

        by : (t : Option Taken) → has_connection_mark l.state (record { entry = entry (what.Missed o); mark = t }) ≡ true → list_any (tells_ended op) (letters_to Desk (missed_by l.state o t)) ≡ true
        by None j = absurd (let bad : false ≡ true = j in cc)
        by (Some t) j = letter t.letter j

    new_step : (w : What) → has_connection_mark l.state (record { entry = entry w; mark = mark }) ≡ true → After w
    new_step (what.Sent id o rest) k = by (same_op op o) refl
      where
        by : (b : Bool) → same_op op o ≡ b → After (what.Sent id o rest)
        by true e = inr (inr (sent_now id o rest k e))
        by false e = neither (what.Sent id o rest) e refl
    new_step (what.Missed o) k = by (same_op op o) refl
      where
        by : (b : Bool) → same_op op o ≡ b → After (what.Missed o)
        by true e = inl (missed_now o k e)
        by false e = neither (what.Missed o) refl e
    new_step what.Linked k = neither what.Linked refl refl
    new_step w k = neither w refl refl

  pub pending_step : (w : What) → has_connection_mark l.state (record { entry = entry w; mark = mark }) ≡ true → Pending op (entries before) rows → Gives w ⊎ Pending op (entries before ++ entry w ∷ []) (next w)
  pending_step w k (inl p) = new_step p.0 p.1 w k
  pending_step w k (inr there) = by (row_step there w)
    where
      by : Gives w ⊎ (list_any (is_row_of op) (next w) ≡ true) → Gives w ⊎ Pending op (entries before ++ entry w ∷ []) (next w)
      by (inl g) = inl g
      by (inr k) = inr (inr k)
