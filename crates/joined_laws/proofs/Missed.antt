-- No operation is missed twice, nor where it was sent: each Sent and each Missed is the mark of its Forward, and a second
-- Forward of an operation isn't fit.
use Rattle.std.proofs.Common.{◌≡◌, Bool, true, false, ◌&&◌, ◌||◌, not, List, [], ◌∷◌, ◌++◌, refl, ap, ◌∙◌, sym}
use Rattle.std.specs.Prelude.{ℕ, Option, Some, None}
use Rattle.std.specs.List.{list_any}
use Rattle.std.specs.Str.{bytes_eq}
use Rattle.lload_names.specs.declared.names.Entry.{Entry}
use Rattle.lload_names.specs.declared.names.Letter.{Letter}
use Rattle.lload_names.specs.declared.names.Letter.TheVariants.{Forward}
use Rattle.lload_names.specs.declared.names.OpName.{OpName}
use Rattle.lload_names.specs.declared.names.PartName.{PartName}
use Rattle.lload_names.specs.declared.names.PartName.TheVariants.{Client}
use Rattle.lload_names.specs.declared.names.What.{What}
use Rattle.lload_names.specs.declared.names.What.TheVariants as what
use Rattle.lload_spec.specs.Lists.{passes, where_there, each_split_from, each_entry}
use Rattle.lload_spec.specs.Settings.{Settings}
use Rattle.lload_spec.specs.Journal.{same_op, same_part}
use Rattle.lload_spec.specs.Entries.{sent_message, missed_op}
use Rattle.lload_spec.specs.Owed.{was_forwarded}
use Rattle.lload_spec.specs.Strict.{is_missed_once}
use Rattle.lload_spec.proofs.Growth.{left, right, both}
use Rattle.part_spec.specs.ConnectionState.{ConnectionState, empty_connection, step_connection, is_stopped}
use Rattle.part_spec.specs.Fit.{ConnectionLedger, empty_connection_ledger, step_connection_ledger, with_mark, fits_connection, is_forward_of, is_of_its_kind, are_fit_from, is_unfit}
use Rattle.part_spec.specs.Marked.{Marked, Taken, entries}
use Rattle.part_spec.specs.Marks.{each_from, has_connection_mark, marks_connection, must_mark_connection}
use Rattle.part_laws.proofs.ListLaws.{any_before, any_behind, any_split, or_elim, or_left, or_right, false_by, not_true, same_op_eq, same_op_refl}
use Rattle.joined_laws.proofs.Taken.{is_fit_there}

-- whether it is the mark of the operation's Forward
abbrev ends_forward : OpName → What → Bool
ends_forward op w = passes (λ x. same_op op x.op) (sent_message w) || passes (same_op op) (missed_op w)

forward_marked : (p : ConnectionState) (op : OpName) (w : What) (x : Letter) → ends_forward op w ≡ true → marks_connection p w x ≡ true → is_forward_of op x ≡ true
forward_marked p op (what.Sent id o rest) (Forward q sort r ask holder) h k = ap (λ z. same_op z q) (same_op_eq op o (or_elim (same_op op o) false (λ j. j) (λ j. absurd (let bad : false ≡ true = j in cc)) h)) ∙ left (same_op o q) (bytes_eq rest r) (left (same_op o q && bytes_eq rest r) _ k)
forward_marked p op (what.Missed o) (Forward q sort r ask holder) h k = ap (λ z. same_op z q) (same_op_eq op o h) ∙ left (same_op o q) (is_stopped p) k
forward_marked p op (what.Sent id o rest) _ h k = absurd (let bad : false ≡ true = k in cc)
forward_marked p op (what.Missed o) _ h k = absurd (let bad : false ≡ true = k in cc)
forward_marked p op _ x h k = absurd (let bad : false ≡ true = h in cc)

unmarked : (p : ConnectionState) (op : OpName) (w : What) → ends_forward op w ≡ true → not (must_mark_connection p w) ≡ true → false ≡ true
unmarked p op (what.Sent id o rest) h k = k
unmarked p op (what.Missed o) h k = k
unmarked p op _ h k = h

mark_forwards : (p : ConnectionState) (op : OpName) (w : What) (mark : Option Taken) → ends_forward op w ≡ true → (elim mark [ None ↦ not (must_mark_connection p w) | Some t ↦ marks_connection p w t.letter ]) ≡ true → passes (λ t. is_forward_of op t.letter) mark ≡ true
mark_forwards p op w None h k = unmarked p op w h k
mark_forwards p op w (Some t) h k = forward_marked p op w t.letter h k

third : (a b c d e f : Bool) → (a && b && c && d && e && f) ≡ true → c ≡ true
third a b c d e f h = right (a && b) c (left (a && b && c) d (left (a && b && c && d) e (left (a && b && c && d && e) f h)))

-- a Forward that is fit is the first of its operation
fresh : (s : Settings) (l : ConnectionLedger) (sender : PartName) (op : OpName) (x : Letter) → is_forward_of op x ≡ true → fits_connection s l sender x ≡ true → list_any (λ t. is_forward_of op t.letter) l.taken ≡ false
fresh s l sender op (Forward o sort rest ask holder) h k = ap (λ z. list_any (λ t. is_forward_of z t.letter) l.taken) (same_op_eq op o h) ∙ not_true (list_any (λ t. is_forward_of o t.letter) l.taken) (third (same_part sender (Client o.client)) (same_part sender (Client holder.client)) (not (list_any (λ t. is_forward_of o t.letter) l.taken)) l.state.up (is_of_its_kind s l.state sort rest ask) _ k)
fresh s l sender op _ h k = absurd (let bad : false ≡ true = h in cc)

module _ (s : Settings) where
  -- the Forward of each operation that was sent or missed was taken
  abbrev Known : List Entry → ConnectionLedger → Type 0
  Known before l = (op : OpName) → was_forwarded op before ≡ true → list_any (λ t. is_forward_of op t.letter) l.taken ≡ true

  known_more : (before : List Entry) (l : ConnectionLedger) (m : Marked) → has_connection_mark l.state m ≡ true → Known before l → Known (before ++ m.entry ∷ []) (step_connection_ledger s l m)
  known_more before l m h k op f =
      any_split (λ (e : Entry). ends_forward op e.what) before (m.entry ∷ []) (λ j. old m.mark (k op j))
      (λ j. new m.mark (mark_forwards l.state op m.entry.what m.mark (or_elim (ends_forward op m.entry.what) false (λ i. i) (λ i. absurd (let bad : false ≡ true = i in cc)) j) h)) f
    where
      old : (mark : Option Taken) → list_any (λ t. is_forward_of op t.letter) l.taken ≡ true → list_any (λ t. is_forward_of op t.letter) (with_mark mark l.taken) ≡ true
      old None j = j
      old (Some t) j = any_before (λ x. is_forward_of op x.letter) l.taken (t ∷ []) j

      new : (mark : Option Taken) → passes (λ t. is_forward_of op t.letter) mark ≡ true → list_any (λ t. is_forward_of op t.letter) (with_mark mark l.taken) ≡ true
      new None j = absurd (let bad : false ≡ true = j in cc)
      new (Some t) j = any_behind (λ x. is_forward_of op x.letter) l.taken (t ∷ []) (or_left (is_forward_of op t.letter) false j)

  first_time : (before : List Entry) (l : ConnectionLedger) (op : OpName) (mark : Option Taken) (rest : Bool) → passes (λ t. is_forward_of op t.letter) mark ≡ true → (not (is_unfit (fits_connection s) l mark) && rest) ≡ true → Known before l → not (was_forwarded op before) ≡ true
  first_time before l op None rest h f k = absurd (let bad : false ≡ true = h in cc)
  first_time before l op (Some t) rest h f k = ap not (false_by (was_forwarded op before) (λ j. sym (fresh s l t.sender op t.letter h (is_fit_there (fits_connection s) l t rest f)) ∙ k op j))

  missed_here : (before : List Entry) (l : ConnectionLedger) (e : Entry) (mark : Option Taken) (rest : Bool) → has_connection_mark l.state (record { entry = e; mark = mark }) ≡ true → (not (is_unfit (fits_connection s) l mark) && rest) ≡ true → Known before l → is_missed_once before e ≡ true
  missed_here before l e mark rest h f k = by (missed_op e.what) refl
    where
      by : (o : Option OpName) → missed_op e.what ≡ o → where_there (λ op. not (was_forwarded op before)) o ≡ true
      by None j = refl
      by (Some op) j = first_time before l op mark rest (mark_forwards l.state op e.what mark (named op j) h) f k
        where
          named : (op : OpName) → missed_op e.what ≡ Some op → ends_forward op e.what ≡ true
          named op i = or_right (passes (λ x. same_op op x.op) (sent_message e.what)) (passes (same_op op) (missed_op e.what)) (ap (passes (same_op op)) i ∙ same_op_refl op)

  missed_from : (before : List Entry) (l : ConnectionLedger) (ms : List Marked) → Known before l → each_from (step_connection s) has_connection_mark l.state ms ≡ true → are_fit_from (fits_connection s) (step_connection_ledger s) l ms ≡ true → each_split_from (λ b x r. is_missed_once b x) before (entries ms) ≡ true
  missed_from before l [] k h f = refl
  missed_from before l (m ∷ ms) k h f =
      let marked : has_connection_mark l.state m ≡ true = left (has_connection_mark l.state m) _ h in
      both (is_missed_once before m.entry) _ (missed_here before l m.entry m.mark _ marked f k)
      (missed_from (before ++ m.entry ∷ []) (step_connection_ledger s l m) ms (known_more before l m marked k) (right (has_connection_mark l.state m) _ h) (right (not (is_unfit (fits_connection s) l m.mark)) _ f))

  pub missed_once : (u : ℕ) (ms : List Marked) → each_from (step_connection s) has_connection_mark (empty_connection s u) ms ≡ true → are_fit_from (fits_connection s) (step_connection_ledger s) (empty_connection_ledger s u) ms ≡ true → each_entry is_missed_once (entries ms) ≡ true
  missed_once u ms h f = missed_from [] (empty_connection_ledger s u) ms (λ op j. absurd (let bad : false ≡ true = j in cc)) h f
