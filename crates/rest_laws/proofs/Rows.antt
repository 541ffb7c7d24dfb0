-- Each row of a connection's state is of an operation that was sent there.
use Rattle.std.proofs.Common.{◌≡◌, ℕ, Bool, true, false, ◌==◌, ◌&&◌, ◌||◌, not, List, [], ◌∷◌, ◌++◌, append_assoc, refl, ap, ◌∙◌, sym, subst}
use Rattle.std.specs.Prelude.{Option, Some, None, flat_map, is_none, if◌then◌else◌}
use Rattle.std.specs.List.{list_any}
use Rattle.std.specs.Str.{bytes_eq}
use Rattle.std.proofs.lemmas.List.{append-nil}
use Rattle.ldap_spec.specs.Bodies.{who_am_i}
use Rattle.ldap_spec.specs.Kinds.{fits, is_final, tag_of}
use Rattle.ldap_spec.specs.Messages.{Message}
use Rattle.ldap_spec.specs.Responses.{result_code}
use Rattle.lload_names.specs.declared.names.Entry.{Entry}
use Rattle.lload_names.specs.declared.names.Letter.{Letter}
use Rattle.lload_names.specs.declared.names.Letter.TheVariants.{Forward}
use Rattle.lload_names.specs.declared.names.OpName.{OpName}
use Rattle.lload_names.specs.declared.names.What.{What}
use Rattle.lload_names.specs.declared.names.What.TheVariants as what
use Rattle.lload_spec.specs.Entries.{is_sent, sent_message}
use Rattle.lload_spec.specs.Journal.{same_op}
use Rattle.lload_spec.specs.Lists.{passes}
use Rattle.lload_spec.specs.Settings.{Settings}
use Rattle.lload_spec.proofs.Growth.{left, right}
use Rattle.part_laws.proofs.ListLaws.{any_before, any_behind, or_left, same_op_eq, same_op_sym}
use Rattle.part_spec.specs.ConnectionState.{ConnectionState, UpRow, behind_message, behind_own, connection_behind, is_abandoned_by, is_bind_row, is_under, is_under_own, is_under_who, keeps_back, rows_sent, step_connection}
use Rattle.part_spec.specs.Fit.{ConnectionLedger, ledger_behind, step_connection_ledger}
use Rattle.part_spec.specs.Marked.{Marked, Taken, entries}
use Rattle.part_spec.specs.Marks.{each_from, has_connection_mark, marks_connection, must_mark_connection}
use Rattle.client_answer_laws.proofs.Each.{Each, each_filter, each_imply}
use Rattle.rows_laws.proofs.Somewhere.{each_flat, each_put}

-- whether the operation of a row was sent
abbrev pub WasSent : List Entry → UpRow → Type 0
WasSent place r = list_any (is_sent r.op) place ≡ true

abbrev pub IsOp : OpName → UpRow → Type 0
IsOp op r = r.op ≡ op

-- a row behind a message, and behind an own message, is of the same operation
pub same_answer : (at : ℕ) (m : Message) (r : UpRow) → Each (IsOp r.op) (behind_message at m r)
same_answer at m r = by (is_under m.id r) (is_under_who m.id r)
  where
    final : (b k u : Bool) → Each (IsOp r.op) (elim b [ false ↦ [] | true ↦ elim k [ true ↦ record r { answered = at; kept = Some (record { rest = m.rest; who = None }) } ∷ [] | false ↦ elim u [ true ↦ record r { answered = at } ∷ [] | false ↦ [] ] ] ])
    final false k u = tt
    final true true u = (refl, tt)
    final true false true = (refl, tt)
    final true false false = tt

    answer : (f i : Bool) → Each (IsOp r.op) (elim f [ false ↦ r ∷ [] | true ↦ elim i [ true ↦ elim (is_bind_row r) [ false ↦ [] | true ↦ elim (keeps_back r m.rest) [ true ↦ record r { answered = at; kept = Some (record { rest = m.rest; who = None }) } ∷ [] | false ↦ elim (is_none (result_code m.rest)) [ true ↦ record r { answered = at } ∷ [] | false ↦ [] ] ] ] | false ↦ record r { answered = at } ∷ [] ] ])
    answer false i = (refl, tt)
    answer true true = final (is_bind_row r) (keeps_back r m.rest) (is_none (result_code m.rest))
    answer true false = (refl, tt)

    who : (t : Bool) → Each (IsOp r.op) (elim t [ true ↦ [] | false ↦ record r { answered = at } ∷ [] ])
    who true = tt
    who false = (refl, tt)

    by : (x y : Bool) → Each (IsOp r.op) (elim x [ true ↦ elim (fits r.kind m.rest) [ false ↦ r ∷ [] | true ↦ elim (is_final r.kind m.rest) [ true ↦ elim (is_bind_row r) [ false ↦ [] | true ↦ elim (keeps_back r m.rest) [ true ↦ record r { answered = at; kept = Some (record { rest = m.rest; who = None }) } ∷ [] | false ↦ elim (is_none (result_code m.rest)) [ true ↦ record r { answered = at } ∷ [] | false ↦ [] ] ] ] | false ↦ record r { answered = at } ∷ [] ] ] | false ↦ elim y [ true ↦ elim (tag_of m.rest == 0x78) [ true ↦ [] | false ↦ record r { answered = at } ∷ [] ] | false ↦ r ∷ [] ] ])
    by true y = answer (fits r.kind m.rest) (is_final r.kind m.rest)
    by false true = who (tag_of m.rest == 0x78)
    by false false = (refl, tt)

pub same_own : (m : Message) (r : UpRow) → Each (IsOp r.op) (behind_own m r)
same_own m r = by (bytes_eq m.rest who_am_i && passes (λ k. is_none k.who) r.kept) (is_abandoned_by m.rest r)
  where
    by : (x y : Bool) → Each (IsOp r.op) (elim x [ true ↦ record r { kept = elim r.kept [ None ↦ None | Some k ↦ Some (record k { who = Some m.id }) ] } ∷ [] | false ↦ elim y [ true ↦ [] | false ↦ r ∷ [] ] ])
    by true y = (refl, tt)
    by false true = tt
    by false false = (refl, tt)

module _ (s : Settings) (place : List Entry) (p : ConnectionState) (m : Marked) (h : Each (WasSent place) p.rows) (mark : has_connection_mark p m ≡ true) where
  abbrev next : List Entry
  next = place ++ m.entry ∷ []

  old : (r : UpRow) → WasSent place r → WasSent (place ++ m.entry ∷ []) r
  old r k = any_before (is_sent r.op) place (m.entry ∷ []) k

  olds : Each (WasSent (place ++ m.entry ∷ [])) p.rows
  olds = each_imply (WasSent place) (WasSent next) p.rows old h

  became : (f : UpRow → List UpRow) → ((r : UpRow) → Each (IsOp r.op) (f r)) → (rows : List UpRow) → Each (WasSent (place ++ m.entry ∷ [])) rows → Each (WasSent (place ++ m.entry ∷ [])) (flat_map f rows)
  became f same rows k = each_flat (WasSent next) (WasSent next) f rows (λ r j. each_imply (IsOp r.op) (WasSent next) (f r) (λ q e. subst (λ o. list_any (is_sent o) next ≡ true) (sym e) j) (same r)) k

  -- the Sent itself
  sent : (id : ℕ) (op : OpName) (rest : List ℕ) → m.entry.what ≡ what.Sent id op rest → (o : Option Taken) → (elim o [ None ↦ not (must_mark_connection p (what.Sent id op rest)) | Some t ↦ marks_connection p (what.Sent id op rest) t.letter ]) ≡ true → Each (WasSent (place ++ m.entry ∷ [])) (elim o [ None ↦ p.rows | Some t ↦ rows_sent m.entry.at id p.rows t.letter ])
  sent id op rest e None k = olds
  sent id op rest e (Some t) k = by t.letter k
    where
      by : (x : Letter) → marks_connection p (what.Sent id op rest) x ≡ true → Each (WasSent (place ++ m.entry ∷ [])) (rows_sent m.entry.at id p.rows x)
      by (Forward o kind r ask holder) j =
          let same : same_op op o ≡ true = left (same_op op o) _ (left (same_op op o && bytes_eq rest r) _ j) in
          each_put (WasSent next) (record { id = id; op = o; kind = kind; ask_who = ask; sent = m.entry.at; answered = m.entry.at; kept = None }) p.rows
          (any_behind (is_sent o) place (m.entry ∷ []) (or_left (is_sent o m.entry) false (ap (λ w. passes (λ x. same_op o x.op) (sent_message w)) e ∙ same_op_sym o op ∙ same))) olds
      by _ j = olds

  rows_in : (w : What) → m.entry.what ≡ w → Each (WasSent (place ++ m.entry ∷ [])) (connection_behind s m.entry m.mark p w).rows
  rows_in (what.Sent id op rest) e = sent id op rest e m.mark (subst (λ w. (elim m.mark [ None ↦ not (must_mark_connection p w) | Some t ↦ marks_connection p w t.letter ]) ≡ true) e mark)
  rows_in (what.Got id rest) e = by (is_under_own p id)
    where
      by : (b : Bool) → Each (WasSent (place ++ m.entry ∷ [])) (if b then p.rows else flat_map (behind_message m.entry.at (record { id = id; rest = rest })) p.rows)
      by true = olds
      by false = became (behind_message m.entry.at (record { id = id; rest = rest })) (same_answer m.entry.at (record { id = id; rest = rest })) p.rows olds
  rows_in (what.Own id rest) e = became (behind_own (record { id = id; rest = rest })) (same_own (record { id = id; rest = rest })) p.rows olds
  rows_in (what.Expired op) e = each_filter (WasSent next) (WasSent next) (λ r. not (same_op op r.op)) p.rows (λ r t k. k) olds
  rows_in (what.Down why) e = tt
  rows_in _ e = olds

-- so it is behind a list
pub rows_sent_there : (s : Settings) (place : List Entry) (l : ConnectionLedger) (ms : List Marked) → Each (WasSent place) l.state.rows → each_from (step_connection s) has_connection_mark l.state ms ≡ true → Each (WasSent (place ++ entries ms)) (ledger_behind (step_connection_ledger s) l ms).state.rows
rows_sent_there s place l [] h k = subst (λ es. Each (WasSent es) l.state.rows) (sym (append-nil place)) h
rows_sent_there s place l (m ∷ ms) h k =
    subst (λ es. Each (WasSent es) (ledger_behind (step_connection_ledger s) (step_connection_ledger s l m) ms).state.rows) (append_assoc place (m.entry ∷ []) (entries ms))
    (rows_sent_there s (place ++ m.entry ∷ []) (step_connection_ledger s l m) ms (rows_in s place l.state m h (left (has_connection_mark l.state m) _ k) m.entry.what refl) (right (has_connection_mark l.state m) _ k))

-- an operation that has a row was sent
pub row_was_sent : (op : OpName) (place : List Entry) (rows : List UpRow) → Each (WasSent place) rows → list_any (λ r. same_op op r.op) rows ≡ true → list_any (is_sent op) place ≡ true
row_was_sent op place [] h k = absurd (let bad : false ≡ true = k in cc)
row_was_sent op place (r ∷ rows) h k = by (same_op op r.op) refl k (row_was_sent op place rows h.1)
  where
    by : (b : Bool) → same_op op r.op ≡ b → (b || list_any (λ x. same_op op x.op) rows) ≡ true → (list_any (λ x. same_op op x.op) rows ≡ true → list_any (is_sent op) place ≡ true) → list_any (is_sent op) place ≡ true
    by true e j ih = subst (λ o. list_any (is_sent o) place ≡ true) (sym (same_op_eq op r.op e)) h.0
    by false e j ih = ih j
