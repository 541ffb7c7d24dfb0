-- The letters that a regular connection takes, and its beginning: each rule makes a turn of permitted entries.
use Rattle.std.proofs.Common.{◌≡◌, ℕ, Bool, true, false, ◌==◌, ◌&&◌, ◌||◌, not, List, [], ◌∷◌, ◌++◌, refl, ap, ◌∙◌, sym}
use Rattle.std.specs.Prelude.{Option, Some, None, is_some, is_none, nat_le, if◌then◌else◌}
use Rattle.std.specs.List.{list_any, list_all}
use Rattle.std.specs.Str.{bytes_eq}
use Rattle.ldap_spec.specs.Bodies.{abandon, who_am_i, simple_bind}
use Rattle.lload_names.specs.declared.names.Entry.{Entry}
use Rattle.lload_names.specs.declared.names.OpName.{OpName}
use Rattle.lload_names.specs.declared.names.OpKind.{OpKind}
use Rattle.lload_names.specs.declared.names.PartName.{PartName}
use Rattle.lload_names.specs.declared.names.Letter.TheVariants.{Forward, Drop, Pause, Resume}
use Rattle.lload_names.specs.declared.names.PartName.TheVariants.{Client}
use Rattle.lload_names.specs.declared.names.ConnKind.TheVariants.{Regular}
use Rattle.lload_spec.specs.Strict.{may_pass}
use Rattle.lload_spec.specs.Identifiers.{id_for}
use Rattle.lload_names.specs.declared.names.What.TheVariants as what
use Rattle.lload_spec.specs.Lists.{passes, last_passes}
use Rattle.lload_spec.specs.Settings.{Settings, OwnBind, is_kind}
use Rattle.lload_spec.specs.Journal.{same_op, same_part}
use Rattle.lload_spec.specs.Entries.{is_own, is_expired}
use Rattle.lload_names.specs.declared.names.Refusal.TheVariants.{C4}
use Rattle.part_spec.specs.ConnectionState.{is_bind_row, is_abandoned_by}
use Rattle.lload_spec.specs.Answers.{Sending, sendings}
use Rattle.lload_spec.specs.OneEach.{begins_with_bind, is_own_bind, is_bind_due}
use Rattle.part_spec.specs.Marked.{Marked, Taken}
use Rattle.part_spec.specs.Inputs.{Act, act, failed}
use Rattle.part_spec.specs.ConnectionState.{ConnectionState, UpRow, is_stopped, is_bind, is_first_bind, row_named}
use Rattle.part_spec.specs.ConnectionTurn.{giving, ended, retires}
use Rattle.part_spec.specs.RegularTurn.{forwards, abandons, drops}
use Rattle.part_spec.specs.Fit.{ConnectionLedger, is_forward_of}
use Rattle.part_spec.specs.Share.{is_who_awaited, is_due_abandon}
use Rattle.part_spec.specs.Marked.{entries}
use Rattle.lload_laws.proofs.ListLaws.{any_imply, found, found_passes, bytes_same}
use Rattle.lload_spec.proofs.Growth.{left, right, both}
use Rattle.part_laws.proofs.ListLaws.{or_left, or_right, same_number, same_op_refl, same_op_eq}
use Rattle.connection_laws.proofs.OwnBinds.{is_second_bind, is_single}
use Rattle.connection_laws.proofs.Rows.{is_sound, is_sent_as, no_bind}
use Rattle.connection_laws.proofs.Apart.{RowsApart}
use Rattle.connection_laws.proofs.ApartTurns.{names_first}
use Rattle.connection_laws.proofs.Pieces.{up_entry, marked_up, not_held, permit_idle, permit_missed}
use Rattle.connection_laws.proofs.MorePieces.{permit_paused, permit_resumed}
use Rattle.connection_laws.proofs.Makes.{Makes, gives_own, gives_sent}

-- an Abandon is no own Bind
pub abandon_no_bind : (s : Settings) (u at id i : ℕ) → is_own_bind s (up_entry u at (what.Own id (abandon i))) ≡ false
abandon_no_bind s u at id i = by s.own_bind
  where
    by : (o : Option OwnBind) → passes (λ own. bytes_eq (abandon i) (simple_bind own.dn own.credentials)) o ≡ false
    by None = refl
    by (Some own) = refl

pub and_none : (a b c : Bool) → c ≡ false → (a && b && c) ≡ false
and_none true true c h = h
and_none true false c h = refl
and_none false b c h = refl

pub abandon_first : (s : Settings) (p : ConnectionState) (place : List Entry) (u at id i : ℕ) → is_first_bind s p (up_entry u at (what.Own id (abandon i))) ≡ is_second_bind s p.number place (up_entry u at (what.Own id (abandon i)))
abandon_first s p place u at id i = and_none (begins_with_bind s p.number) (p.ids.next == 1) (is_own_bind s (up_entry u at (what.Own id (abandon i)))) (abandon_no_bind s u at id i) ∙ sym (and_none (begins_with_bind s p.number) (is_single place) (is_own_bind s (up_entry u at (what.Own id (abandon i)))) (abandon_no_bind s u at id i))

module _ (s : Settings) (u : ℕ) (before : List Marked) (l : ConnectionLedger) (at : ℕ) (later : nat_le l.state.moment at ≡ true) (linked : l.state.linked ≡ true) (number : l.state.number ≡ u) (regular : is_bind l.state ≡ false) (sound : list_all (is_sound u (entries before)) l.state.rows ≡ true) (sender : PartName) where
  stopped_or : (a b : Bool) → (a || b) ≡ false → b ≡ false
  stopped_or true b h = absurd (let bad : true ≡ false = h in cc)
  stopped_or false b h = h

  -- a Forward
  pub makes_forward : (op holder : OpName) (kind : OpKind) (rest : List ℕ) (ask_who : Bool) → l.state.up ≡ true → list_any (λ t. is_forward_of op t.letter) l.taken ≡ false → Makes s before l at (Some (record { sender = sender; letter = Forward op kind rest ask_who holder })) (forwards s l.state op rest).whats
  makes_forward op holder kind rest ask_who up new = by (is_stopped l.state) refl
    where
      mark : Option Taken
      mark = Some (record { sender = sender; letter = Forward op kind rest ask_who holder })

      forward_act : Bool → Act
      forward_act b = elim b [ true ↦ act (what.Missed op ∷ []) (failed op C4 ++ ended l.state op None) | false ↦ act (giving s (id_for l.state.ids) (what.Sent (id_for l.state.ids) op rest)) (retires s l.state (id_for l.state.ids)) ]

      by : (b : Bool) → is_stopped l.state ≡ b → Makes s before l at (Some (record { sender = sender; letter = Forward op kind rest ask_who holder })) (forward_act b).whats
      by true e = ((permit_missed s l.state.number before l at later linked mark op (both (same_op op op) _ (same_op_refl op) e) refl e, tt), (refl, refl, refl))
      by false e = gives_sent s before l at later linked (stopped_or l.state.retired l.state.down e) mark op rest (both (same_op op op && bytes_eq rest rest) _ (both (same_op op op) _ (same_op_refl op) (bytes_same rest)) (ap not e)) refl (not_held (is_bind l.state) _ regular) up e new

  row_is_sound : (op : OpName) (r : UpRow) → row_named l.state op ≡ Some r → is_sound u (entries before) r ≡ true
  row_is_sound op r e = found (is_sound u (entries before)) (λ q. same_op op q.op) l.state.rows r e sound

  -- the reason of the Abandon of a live operation
  reason_by : (op : OpName) (r : UpRow) → row_named l.state op ≡ Some r → is_due_abandon l.state (entries before) (marked_up l.state.number at (Some (record { sender = sender; letter = Drop op })) (what.Own l.state.ids.next (abandon r.id))) ≡ true
  reason_by op r e = any_imply (λ x. x.id == r.id && same_op r.op x.op) (λ sent. is_own (abandon sent.id) (up_entry l.state.number at (what.Own l.state.ids.next (abandon r.id))) && (is_some (row_named l.state sent.op) && same_op sent.op op || last_passes (is_expired sent.op) (entries before))) (sendings l.state.number (entries before)) (λ x k. each x k) (ap (λ w. is_sent_as w (entries before) r.id r.op) number ∙ right (not (is_bind_row r) && is_none r.kept) _ row_sound)
    where
      row_sound : is_sound u (entries before) r ≡ true
      row_sound = row_is_sound op r e

      named : op ≡ r.op
      named = same_op_eq op r.op (found_passes (λ q. same_op op q.op) l.state.rows r e)

      each : (x : Sending) → (x.id == r.id && same_op r.op x.op) ≡ true → (is_own (abandon x.id) (up_entry l.state.number at (what.Own l.state.ids.next (abandon r.id))) && (is_some (row_named l.state x.op) && same_op x.op op || last_passes (is_expired x.op) (entries before))) ≡ true
      each x k =
          let id : x.id ≡ r.id = same_number x.id r.id (left (x.id == r.id) _ k) in
          let one : x.op ≡ op = sym (same_op_eq r.op x.op (right (x.id == r.id) _ k)) ∙ sym named in
          both (bytes_eq (abandon r.id) (abandon x.id)) _ (ap (λ i. bytes_eq (abandon r.id) (abandon i)) id ∙ bytes_same (abandon r.id)) (or_left (is_some (row_named l.state x.op) && same_op x.op op) _ (ap (λ o. is_some (row_named l.state o) && same_op o op) one ∙ both (is_some (row_named l.state op)) _ (ap is_some e) (same_op_refl op)))

  -- a Drop
  pub makes_drop : (op : OpName) → RowsApart (entries before) l.state → ((r : UpRow) → row_named l.state op ≡ Some r → l.state.down ≡ false) → Makes s before l at (Some (record { sender = sender; letter = Drop op })) (drops s l.state op).whats
  makes_drop op apart there = by (row_named l.state op) refl
    where
      mark : Option Taken
      mark = Some (record { sender = sender; letter = Drop op })

      drop_act : Option UpRow → Act
      drop_act o = elim o [ None ↦ act (what.Idle op ∷ []) [] | Some r ↦ abandons s l.state r ]

      by : (o : Option UpRow) → row_named l.state op ≡ o → Makes s before l at (Some (record { sender = sender; letter = Drop op })) (drop_act o).whats
      by None e = ((permit_idle s l.state.number before l at later linked mark op (both (same_op op op) _ (same_op_refl op) (ap is_none e)) refl (ap (λ b. if b then not (passes (same_op op) l.state.holder) else is_none (row_named l.state op)) regular ∙ ap is_none e), tt), (refl, refl, refl))
      by (Some r) e = gives_own s before l at later linked (there r e) mark (abandon r.id) (ap (passes (is_abandoned_by (abandon r.id))) e ∙ both (not (is_bind_row r)) _ (no_bind u (entries before) r (row_is_sound op r e)) (bytes_same (abandon r.id))) refl (abandon_first s l.state (entries before) l.state.number at l.state.ids.next r.id) (or_right (is_own_bind s (up_entry l.state.number at (what.Own l.state.ids.next (abandon r.id))) && last_passes (is_bind_due s l.state.number) (entries before) || is_own who_am_i (up_entry l.state.number at (what.Own l.state.ids.next (abandon r.id))) && list_any is_who_awaited l.state.rows) _ (reason_by op r e)) (names_first (entries before) l.state (λ q. same_op op q.op) r apart e)

  -- a Pause, and a Resume
  pub makes_pause : (c : ℕ) → same_part sender (Client c) ≡ true → may_pass (is_kind Regular l.state.kind) l.state.waiting (what.Paused c) ≡ true → Makes s before l at (Some (record { sender = sender; letter = Pause c })) (what.Paused c ∷ [])
  makes_pause c fair passed = ((permit_paused s l.state.number before l at later linked sender c fair passed, tt), (refl, refl, refl))

  pub makes_resume : (c : ℕ) → same_part sender (Client c) ≡ true → may_pass (is_kind Regular l.state.kind) l.state.waiting (what.Resumed c) ≡ true → Makes s before l at (Some (record { sender = sender; letter = Resume c })) (what.Resumed c ∷ [])
  makes_resume c fair passed = ((permit_resumed s l.state.number before l at later linked sender c fair passed, tt), (refl, refl, refl))
