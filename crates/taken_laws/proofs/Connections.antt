-- A connection has live operations only of Forwards that it took; so a Forward that is fit is of one that isn't live.
use Rattle.std.proofs.Common.{◌≡◌, ℕ, suc, Bool, true, false, ◌==◌, ◌&&◌, ◌||◌, not, List, [], ◌∷◌, ◌++◌, length, refl, ap, arith, ◌∙◌, sym, subst}
use Rattle.std.specs.Prelude.{Option, Some, None, find, flat_map, if◌then◌else◌}
use Rattle.std.specs.List.{list_all, list_any}
use Rattle.std.proofs.lemmas.List.Folds.{list_all-append}
use Rattle.lload_names.specs.declared.names.ConnKind.{ConnKind}
use Rattle.lload_names.specs.declared.names.ConnKind.TheVariants.{Regular, Bind as BindKind}
use Rattle.lload_names.specs.declared.names.Entry.{Entry}
use Rattle.lload_names.specs.declared.names.Letter.{Letter}
use Rattle.lload_names.specs.declared.names.Letter.TheVariants.{Forward}
use Rattle.lload_names.specs.declared.names.OpKind.{OpKind}
use Rattle.lload_names.specs.declared.names.OpKind.TheVariants.{Bind}
use Rattle.lload_names.specs.declared.names.OpName.{OpName}
use Rattle.lload_names.specs.declared.names.PartName.{PartName}
use Rattle.lload_names.specs.declared.names.PartName.TheVariants.{Client}
use Rattle.lload_names.specs.declared.names.What.{What}
use Rattle.lload_names.specs.declared.names.What.TheVariants as what
use Rattle.lload_spec.specs.Journal.{same_op, same_part}
use Rattle.lload_spec.specs.Lists.{agrees}
use Rattle.lload_spec.specs.Settings.{Settings, is_kind}
use Rattle.lload_spec.proofs.Growth.{left, right, both}
use Rattle.lload_laws.proofs.ListLaws.{all_imply, none_found}
use Rattle.ldap_spec.specs.Kinds.{same_kind}
use Rattle.part_spec.specs.ConnectionState.{ConnectionState, UpRow, behind_message, behind_own, connection_behind, connection_of, is_bind, is_under_own, rows_sent, step_connections}
use Rattle.part_spec.specs.Fit.{ConnectionLedger, connection_ledger, empty_connection_ledger, fits_connection, is_forward_of, is_free_for, is_held_for, is_of_its_kind, ledger_behind, step_connection_ledger, with_mark}
use Rattle.part_spec.specs.Marked.{Marked, Taken}
use Rattle.part_laws.proofs.ListLaws.{any_before, any_behind, false_by, not_true, or_left, same_number, same_op_eq, same_op_refl}
use Rattle.connection_laws.proofs.Apart.{Shrinks, shrinks_message, shrinks_own}
use Rattle.connection_laws.proofs.Rows.{all_filter, all_put}
use Rattle.bind_laws.proofs.Meets.{bind_kind}
use Rattle.taken_laws.specs.Laws.{FitForBind, FitForRegular}
use Rattle.taken_laws.specs.Taking.{BindMayTake, RegularMayTake}

-- whether a Forward of a row's operation was taken
abbrev pub was_forwarded : List Taken → UpRow → Bool
was_forwarded taken r = list_any (λ t. is_forward_of r.op t.letter) taken

-- What rows become is of the same operations.
kept_one : (taken : List Taken) (r : UpRow) (rs : List UpRow) → Shrinks r rs → was_forwarded taken r ≡ true → list_all (was_forwarded taken) rs ≡ true
kept_one taken r [] h k = refl
kept_one taken r (q ∷ []) h k = both (was_forwarded taken q) true (subst (λ (op : OpName). list_any (λ t. is_forward_of op t.letter) taken ≡ true) h.1 k) refl
kept_one taken r (q ∷ x ∷ xs) h k = absurd h

kept_all : (taken : List Taken) (f : UpRow → List UpRow) → ((r : UpRow) → Shrinks r (f r)) → (rows : List UpRow) → list_all (was_forwarded taken) rows ≡ true → list_all (was_forwarded taken) (flat_map f rows) ≡ true
kept_all taken f g [] h = refl
kept_all taken f g (r ∷ rows) h = list_all-append (was_forwarded taken) (f r) (flat_map f rows) ∙ both (list_all (was_forwarded taken) (f r)) _ (kept_one taken r (f r) (g r) (left (was_forwarded taken r) _ h)) (kept_all taken f g rows (right (was_forwarded taken r) _ h))

-- a letter more is taken
taken_more : (mark : Option Taken) (taken : List Taken) (rows : List UpRow) → list_all (was_forwarded taken) rows ≡ true → list_all (was_forwarded (with_mark mark taken)) rows ≡ true
taken_more None taken rows h = h
taken_more (Some t) taken rows h = all_imply (was_forwarded taken) (was_forwarded (taken ++ t ∷ [])) rows (λ r k. any_before (λ x. is_forward_of r.op x.letter) taken (t ∷ []) k) h

-- the row of a Sent is of the Forward whose mark it is
row_taken : (at id : ℕ) (sender : PartName) (letter : Letter) (taken : List Taken) (rows : List UpRow) → list_all (was_forwarded (taken ++ record { sender = sender; letter = letter } ∷ [])) rows ≡ true → list_all (was_forwarded (taken ++ record { sender = sender; letter = letter } ∷ [])) (rows_sent at id rows letter) ≡ true
row_taken at id sender (Forward op kind rest ask_who holder) taken rows h =
    let t : Taken = record { sender = sender; letter = Forward op kind rest ask_who holder } in
    all_put (was_forwarded (taken ++ t ∷ [])) (record { id = id; op = op; kind = kind; ask_who = ask_who; sent = at; answered = at; kept = None }) rows (any_behind (λ x. is_forward_of op x.letter) taken (t ∷ []) (or_left (same_op op op) false (same_op_refl op))) h
row_taken at id sender _ taken rows h = h

module _ (s : Settings) (l : ConnectionLedger) (e : Entry) where
  abbrev AreTaken : Option Taken → List UpRow → Type 0
  AreTaken mark rows = list_all (was_forwarded (with_mark mark l.taken)) rows ≡ true

  sent : (at id : ℕ) (mark : Option Taken) → AreTaken mark l.state.rows → AreTaken mark (elim mark [ None ↦ l.state.rows | Some t ↦ rows_sent at id l.state.rows t.letter ])
  sent at id None h = h
  sent at id (Some t) h = row_taken at id t.sender t.letter l.taken l.state.rows h

  rows_behind : (mark : Option Taken) (w : What) → AreTaken mark l.state.rows → AreTaken mark (connection_behind s e mark l.state w).rows
  rows_behind mark (what.Sent id op rest) h = sent e.at id mark h
  rows_behind mark (what.Own id rest) h = kept_all (with_mark mark l.taken) (behind_own (record { id = id; rest = rest })) (shrinks_own (record { id = id; rest = rest })) l.state.rows h
  rows_behind mark (what.Got id rest) h = by (is_under_own l.state id)
    where
      by : (b : Bool) → AreTaken mark (if b then l.state.rows else flat_map (behind_message e.at (record { id = id; rest = rest })) l.state.rows)
      by true = h
      by false = kept_all (with_mark mark l.taken) (behind_message e.at (record { id = id; rest = rest })) (shrinks_message e.at (record { id = id; rest = rest })) l.state.rows h
  rows_behind mark (what.Expired op) h = all_filter (was_forwarded (with_mark mark l.taken)) (λ r. not (same_op op r.op)) l.state.rows h
  rows_behind mark (what.Down why) h = refl
  rows_behind mark _ h = h

-- each live operation is of a Forward that was taken: behind each list
rows_forwarded : (s : Settings) (l : ConnectionLedger) (ms : List Marked) → list_all (was_forwarded l.taken) l.state.rows ≡ true → list_all (was_forwarded (ledger_behind (step_connection_ledger s) l ms).taken) (ledger_behind (step_connection_ledger s) l ms).state.rows ≡ true
rows_forwarded s l [] h = h
rows_forwarded s l (m ∷ ms) h = rows_forwarded s (step_connection_ledger s l m) ms (rows_behind s l m.entry m.mark m.entry.what (taken_more m.mark l.taken l.state.rows h))

-- so an operation of which none was taken isn't live
not_live : (op : OpName) (taken : List Taken) (rows : List UpRow) → list_any (λ t. is_forward_of op t.letter) taken ≡ false → list_all (was_forwarded taken) rows ≡ true → find (λ (r : UpRow). same_op op r.op) rows ≡ None
not_live op taken rows none h = none_found (was_forwarded taken) (λ r. same_op op r.op) rows (λ r k. false_by (same_op op r.op) (λ j. sym none ∙ ap (λ o. list_any (λ t. is_forward_of o t.letter) taken) (same_op_eq op r.op j) ∙ k)) h

-- The ledger behind a list has the connection's state.
connection_state : (s : Settings) (l : ConnectionLedger) (ms : List Marked) → (ledger_behind (step_connection_ledger s) l ms).state ≡ step_connections s l.state ms
connection_state s l [] = refl
connection_state s l (m ∷ ms) = connection_state s (step_connection_ledger s l m) ms

same_state : (s : Settings) (u : ℕ) (list : List Marked) → (connection_ledger s u list).state ≡ connection_of s u list
same_state s u list = connection_state s (empty_connection_ledger s u) list

-- What a Forward that is fit says.
record FitForward (p : ConnectionState) (taken : List Taken) (op : OpName) (kind : OpKind) (holder : OpName) : Type 0 where
  fresh : list_any (λ t. is_forward_of op t.letter) taken ≡ false
  up : p.up ≡ true
  serves : agrees (same_kind Bind kind) (is_bind p) ≡ true
  free : (not (is_bind p) || is_free_for p holder && is_held_for p op holder) ≡ true

fit_forward : (s : Settings) (l : ConnectionLedger) (sender : PartName) (op : OpName) (kind : OpKind) (rest : List ℕ) (ask_who : Bool) (holder : OpName) → fits_connection s l sender (Forward op kind rest ask_who holder) ≡ true → FitForward l.state l.taken op kind holder
fit_forward s l sender op kind rest ask_who holder h =
    let senders : Bool = same_part sender (Client op.client) && same_part sender (Client holder.client) in
    let fresh : Bool = not (list_any (λ t. is_forward_of op t.letter) l.taken) in
    let sort : Bool = is_of_its_kind s l.state kind rest ask_who in
    let most : (senders && fresh && l.state.up && sort) ≡ true = left (senders && fresh && l.state.up && sort) _ h in
    let three : (senders && fresh && l.state.up) ≡ true = left (senders && fresh && l.state.up) sort most in
    record {
      fresh = not_true (list_any (λ t. is_forward_of op t.letter) l.taken) (right senders fresh (left (senders && fresh) l.state.up three));
      up = right (senders && fresh) l.state.up three;
      serves = right _ (agrees (same_kind Bind kind) (is_bind l.state)) (left _ _ (right (senders && fresh && l.state.up) sort most));
      free = right (senders && fresh && l.state.up && sort) _ h;
    }

-- A regular connection.
plain_kind : (b : Bool) (kind : ConnKind) → kind ≡ Regular → agrees b (is_kind BindKind kind) ≡ true → b ≡ false
plain_kind true Regular e h = absurd (let bad : false ≡ true = h in cc)
plain_kind false Regular e h = refl
plain_kind b BindKind e h = absurd (let bad : BindKind ≡ Regular = e in cc)

module _ (s : Settings) (u : ℕ) (list : List Marked) where
  abbrev ledger : ConnectionLedger
  ledger = connection_ledger s u list

  live : list_all (was_forwarded ledger.taken) ledger.state.rows ≡ true
  live = rows_forwarded s (empty_connection_ledger s u) list refl

  regular_there : (sender : PartName) (letter : Letter) → ledger.state.kind ≡ Regular → fits_connection s ledger sender letter ≡ true → RegularMayTake ledger.state letter
  regular_there sender (Forward op kind rest ask_who holder) e h =
      let f : FitForward ledger.state ledger.taken op kind holder = fit_forward s ledger sender op kind rest ask_who holder h in
      record { up = f.up; plain = plain_kind (same_kind Bind kind) ledger.state.kind e f.serves; unknown = not_live op ledger.taken ledger.state.rows f.fresh live }
  regular_there sender _ e h = tt

-- A bind connection.
bind_served : (b : Bool) (kind : ConnKind) → kind ≡ BindKind → agrees b (is_kind BindKind kind) ≡ true → b ≡ true
bind_served true BindKind e h = refl
bind_served false BindKind e h = absurd (let bad : false ≡ true = h in cc)
bind_served b Regular e h = absurd (let bad : Regular ≡ BindKind = e in cc)

no_rows : (rows : List UpRow) → (length rows == 0) ≡ true → rows ≡ []
no_rows [] h = refl
no_rows (r ∷ rows) h = let same : suc (length rows) ≡ 0 = same_number (suc (length rows)) 0 h in absurd (omega (arith, same))

free_there : (kind : ConnKind) (b : Bool) → kind ≡ BindKind → (not (is_kind BindKind kind) || b) ≡ true → b ≡ true
free_there BindKind b e h = h
free_there Regular b e h = absurd (let bad : Regular ≡ BindKind = e in cc)

bind_there : (s : Settings) (l : ConnectionLedger) (sender : PartName) (letter : Letter) → l.state.kind ≡ BindKind → fits_connection s l sender letter ≡ true → BindMayTake l.state letter
bind_there s l sender (Forward op kind rest ask_who holder) e h =
    let f : FitForward l.state l.taken op kind holder = fit_forward s l sender op kind rest ask_who holder h in
    let free : is_free_for l.state holder ≡ true = left (is_free_for l.state holder) (is_held_for l.state op holder) (free_there l.state.kind (is_free_for l.state holder && is_held_for l.state op holder) e f.free) in
    record { up = f.up; bind = bind_kind kind (bind_served (same_kind Bind kind) l.state.kind e f.serves); vacant = no_rows l.state.rows (left (length l.state.rows == 0) _ free) }
bind_there s l sender _ e h = tt

pub fit_for_regular : FitForRegular
fit_for_regular s u list sender letter kind fit = subst (λ (p : ConnectionState). RegularMayTake p letter) (same_state s u list) (regular_there s u list sender letter (ap (λ (p : ConnectionState). p.kind) (same_state s u list) ∙ kind) fit)

pub fit_for_bind : FitForBind
fit_for_bind s u list sender letter kind fit = subst (λ (p : ConnectionState). BindMayTake p letter) (same_state s u list) (bind_there s (connection_ledger s u list) sender letter (ap (λ (p : ConnectionState). p.kind) (same_state s u list) ∙ kind) fit)
