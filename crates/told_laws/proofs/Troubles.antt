-- What came of an operation at its connection: where a client took a refusal for it, it expired there, or was lost there.
use Rattle.std.proofs.Common.{◌≡◌, ℕ, Bool, true, false, ◌&&◌, ◌||◌, not, List, [], ◌∷◌, ◌++◌, refl, ap, ◌∙◌, sym, subst}
use Rattle.std.specs.Prelude.{Option, Some, None}
use Rattle.std.specs.List.{list_all, list_any}
use Rattle.std.proofs.lemmas.List.Folds.{list_all-append}
use Rattle.lload_names.specs.declared.names.EndWhy.{EndWhy}
use Rattle.lload_names.specs.declared.names.Entry.{Entry}
use Rattle.lload_names.specs.declared.names.Letter.{Letter}
use Rattle.lload_names.specs.declared.names.Letter.TheVariants.{Failed}
use Rattle.lload_names.specs.declared.names.OpName.{OpName}
use Rattle.lload_names.specs.declared.names.PartName.{PartName}
use Rattle.lload_names.specs.declared.names.PartName.TheVariants.{Up as Connection}
use Rattle.lload_names.specs.declared.names.Posted.{Posted}
use Rattle.lload_names.specs.declared.names.Refusal.{Refusal}
use Rattle.lload_names.specs.declared.names.Refusal.TheVariants.{C4, C5}
use Rattle.lload_names.specs.declared.names.What.TheVariants as what
use Rattle.lload_spec.specs.Answers.{Sending, is_open, sendings}
use Rattle.lload_spec.specs.Caused.{is_lost_by}
use Rattle.lload_spec.specs.Entries.{down_why, expired_op, is_expired, is_missed, missed_op}
use Rattle.lload_spec.specs.Journal.{Family, same_op, same_part}
use Rattle.lload_spec.specs.Lists.{passes, some_split_from}
use Rattle.lload_spec.specs.Operations.{Operation, operation}
use Rattle.lload_spec.specs.Settings.{Settings}
use Rattle.lload_spec.proofs.Growth.{left, right, both}
use Rattle.lload_laws.proofs.ListLaws.{implied}
use Rattle.part_laws.proofs.ListLaws.{or_elim, or_left, or_right, same_op_eq}
use Rattle.part_spec.specs.ConnectionState.{ConnectionState, UpRow, step_connection}
use Rattle.part_spec.specs.Fit.{ConnectionLedger, step_connection_ledger}
use Rattle.part_spec.specs.Gives.{connection_gives, connection_letters}
use Rattle.part_spec.specs.Marked.{Marked, Taken, entries, letters_to}
use Rattle.part_spec.specs.Share.{has_letter, is_failure}
use Rattle.connection_laws.proofs.Permits.{push_entry}
use Rattle.joined_laws.proofs.Taken.{is_mark_from}
use Rattle.client_answer_laws.proofs.Each.{Each, each_imply}
use Rattle.rows_laws.proofs.Known.{AtEach, Known}
use Rattle.rows_laws.proofs.Live.{Live, live_open}
use Rattle.rows_laws.proofs.Somewhere.{OneIn, one_imply, one_passes}
use Rattle.told_laws.proofs.Given.{all_pass, letters_pass}
use Rattle.told_laws.proofs.Letters.{is_from, of_operation}

failed_of : (op : OpName) (which : Refusal) (x : Letter) → is_failure op which x ≡ true → of_operation op x ≡ true
failed_of op which (Failed o other) h = left (same_op op o) _ h
failed_of op which _ h = absurd (let bad : false ≡ true = h in cc)

-- a refusal that was taken is from the one connection
pub failed_from : (u : ℕ) (op : OpName) (which : Refusal) (ms : List Marked) → list_all (λ m. is_from u op m.mark) ms ≡ true → list_any (has_letter (is_failure op which)) ms ≡ true → list_any (λ m. is_mark_from (Connection u) (is_failure op which) m.mark) ms ≡ true
failed_from u op which [] h k = absurd (let bad : false ≡ true = k in cc)
failed_from u op which (m ∷ ms) h k =
    or_elim (has_letter (is_failure op which) m) (list_any (has_letter (is_failure op which)) ms)
    (λ j. or_left (is_mark_from (Connection u) (is_failure op which) m.mark) _ (one m.mark (left (is_from u op m.mark) _ h) j))
    (λ j. or_right (is_mark_from (Connection u) (is_failure op which) m.mark) _ (failed_from u op which ms (right (is_from u op m.mark) _ h) j)) k
  where
    one : (mark : Option Taken) → is_from u op mark ≡ true → passes (λ t. is_failure op which t.letter) mark ≡ true → is_mark_from (Connection u) (is_failure op which) mark ≡ true
    one None i j = j
    one (Some t) i j = both (same_part (Connection u) t.sender) _ (left (same_part (Connection u) t.sender) _ (implied (of_operation op t.letter) _ i (failed_of op which t.letter j))) j

-- so it is of its operation
pub failed_mark : (u : ℕ) (op : OpName) (which : Refusal) (ms : List Marked) → list_any (λ m. is_mark_from (Connection u) (is_failure op which) m.mark) ms ≡ true → list_any (λ m. is_mark_from (Connection u) (of_operation op) m.mark) ms ≡ true
failed_mark u op which [] h = h
failed_mark u op which (m ∷ ms) h = or_elim (is_mark_from (Connection u) (is_failure op which) m.mark) _ (λ j. or_left (is_mark_from (Connection u) (of_operation op) m.mark) _ (one m.mark j)) (λ j. or_right (is_mark_from (Connection u) (of_operation op) m.mark) _ (failed_mark u op which ms j)) h
  where
    one : (mark : Option Taken) → is_mark_from (Connection u) (is_failure op which) mark ≡ true → is_mark_from (Connection u) (of_operation op) mark ≡ true
    one None j = j
    one (Some t) j = both (same_part (Connection u) t.sender) _ (left (same_part (Connection u) t.sender) _ j) (failed_of op which t.letter (right (same_part (Connection u) t.sender) _ j))

-- what none of the letters is, none of a part's letters is
pub none_of_letters : (t : Letter → Bool) (p : PartName) (xs : List Posted) → list_all (λ (x : Posted). not (t x.letter)) xs ≡ true → list_any t (letters_to p xs) ≡ false
none_of_letters t p [] h = refl
none_of_letters t p (x ∷ xs) h = by (same_part p x.to) (off (t x.letter) (left (not (t x.letter)) _ h)) (none_of_letters t p xs (right (not (t x.letter)) _ h))
  where
    off : (b : Bool) → not b ≡ true → b ≡ false
    off true k = absurd (let bad : false ≡ true = k in cc)
    off false k = refl

    by : (b : Bool) → t x.letter ≡ false → list_any t (letters_to p xs) ≡ false → list_any t ((elim b [ true ↦ x.letter ∷ [] | false ↦ [] ]) ++ letters_to p xs) ≡ false
    by true e k = ap (λ a. a || list_any t (letters_to p xs)) e ∙ k
    by false e k = k

pub never : (b : Bool) → not (b && false) ≡ true
never true = refl
never false = refl

-- a test that fails of both fails of each
pub neither : (a b : Bool) → (a || b) ≡ false → (a ≡ false) × (b ≡ false)
neither true b h = absurd (let bad : true ≡ false = h in cc)
neither false b h = (refl, h)

module _ (op : OpName) (s : Settings) where
  abbrev pub is_else : Refusal → Letter → Bool
  is_else which x = not (is_failure op which x)

  -- where it doesn't expire, no letter says so
  pub none_expired : (p : ConnectionState) (ms : List Marked) → list_any (is_expired op) (entries ms) ≡ false → all_pass (is_else C5) s p (connection_gives s p ms) ≡ true
  none_expired p [] n = refl
  none_expired p (m ∷ ms) n =
      list_all-append (λ (x : Posted). is_else C5 x.letter) (connection_letters s p m.entry.at m.mark m.entry.what) (connection_gives s (step_connection s p m) ms)
      ∙ both (all_pass (is_else C5) s p (connection_letters s p m.entry.at m.mark m.entry.what)) _
      (letters_pass (is_else C5) s p m.entry.at m.mark m.entry.what (record {
        ended = λ o u late. refl;
        up = λ u. refl;
        retired = λ u. refl;
        down = λ u. refl;
        replied = λ id rest e fine r f back is_last. refl;
        told = λ id rest e fine sort r f g i t. refl;
        unknown = λ id rest e fine sort r f g i t. never (same_op op r.op);
        expired = λ o e. off (same_op op o) (ap (λ w. passes (same_op op) (expired_op w)) (sym e) ∙ (neither (is_expired op m.entry) (list_any (is_expired op) (entries ms)) n).0);
        missed = λ o e. never (same_op op o);
        lost = λ why e. all_else p.rows;
      }))
      (none_expired (step_connection s p m) ms (neither (is_expired op m.entry) (list_any (is_expired op) (entries ms)) n).1)
    where
      off : (b : Bool) → b ≡ false → not (b && true) ≡ true
      off true k = absurd (let bad : true ≡ false = k in cc)
      off false k = refl

      all_else : (rows : List UpRow) → list_all (λ r. is_else C5 (Failed r.op C4)) rows ≡ true
      all_else [] = refl
      all_else (r ∷ rows) = both (is_else C5 (Failed r.op C4)) _ (never (same_op op r.op)) (all_else rows)

-- A row of an operation whose Sent is open.
pub record OpenRow (s : Settings) (F : Family) (r : UpRow) (x : Sending) : Type 0 where
  pub o : Operation
  pub found : operation F x.op ≡ Some o
  pub op : x.op ≡ r.op
  pub opened : is_open s o x ≡ true

abbrev pub RowsOpen : Settings → Family → ℕ → List Marked → ConnectionLedger → Type 0
RowsOpen s F u before l = Each (λ r. OneIn (λ x. OpenRow s F r x) (sendings u (entries before))) l.state.rows

module _ (s : Settings) (F : Family) (u : ℕ) (o : Operation) (there : operation F o.name ≡ Some o) where
  -- where no Sent of it is open, no row is of it
  rows_else : (sents : List Sending) → list_any (λ sent. same_op o.name sent.op && is_open s o sent) sents ≡ false → (rows : List UpRow) → Each (λ r. OneIn (λ x. OpenRow s F r x) sents) rows → list_all (λ r. is_else o.name s C4 (Failed r.op C4)) rows ≡ true
  rows_else sents n [] h = refl
  rows_else sents n (r ∷ rows) h = both (is_else o.name s C4 (Failed r.op C4)) _ (one (same_op o.name r.op) refl) (rows_else sents n rows h.1)
    where
      open_one : same_op o.name r.op ≡ true → (x : Sending) → OpenRow s F r x → (same_op o.name x.op && is_open s o x) ≡ true
      open_one e x k =
          let named : o.name ≡ r.op = same_op_eq o.name r.op e in
          let found : Some k.o ≡ Some o = sym k.found ∙ ap (operation F) (k.op ∙ sym named) ∙ there in
          let same : k.o ≡ o = cc in
          both (same_op o.name x.op) _ (ap (same_op o.name) k.op ∙ e) (subst (λ q. is_open s q x ≡ true) same k.opened)

      one : (b : Bool) → same_op o.name r.op ≡ b → not (b && true) ≡ true
      one false e = refl
      one true e = absurd (let bad : false ≡ true = sym n ∙ one_passes (λ x. OpenRow s F r x) (λ x. same_op o.name x.op && is_open s o x) sents (open_one e) h.0 in cc)

  abbrev pub loses : List Entry → Entry → Bool
  loses place e = is_missed o.name e || is_lost_by s o u place e

  -- an entry at which it isn't lost
  pub entry_else : (before : List Marked) (l : ConnectionLedger) (m : Marked) → ((why : EndWhy) → m.entry.what ≡ what.Down why → RowsOpen s F u before l) → loses (entries before) m.entry ≡ false → all_pass (is_else o.name s C4) s l.state (connection_letters s l.state m.entry.at m.mark m.entry.what) ≡ true
  entry_else before l m h n =
      letters_pass (is_else o.name s C4) s l.state m.entry.at m.mark m.entry.what (record {
        ended = λ q v late. refl;
        up = λ v. refl;
        retired = λ v. refl;
        down = λ v. refl;
        replied = λ id rest e fine r f back is_last. refl;
        told = λ id rest e fine sort r f g i t. refl;
        unknown = λ id rest e fine sort r f g i t. never (same_op o.name r.op);
        expired = λ q e. never (same_op o.name q);
        missed = λ q e. off (same_op o.name q) (ap (λ w. passes (same_op o.name) (missed_op w)) (sym e) ∙ (neither (is_missed o.name m.entry) (is_lost_by s o u (entries before) m.entry) n).0);
        lost = λ why e. rows_else (sendings u (entries before)) (ap (λ w. passes (λ _. true) (down_why w) && list_any (λ sent. same_op o.name sent.op && is_open s o sent) (sendings u (entries before))) (sym e) ∙ (neither (is_missed o.name m.entry) (is_lost_by s o u (entries before) m.entry) n).1) l.state.rows (h why e);
      })
    where
      off : (b : Bool) → b ≡ false → not (b && true) ≡ true
      off true k = absurd (let bad : true ≡ false = k in cc)
      off false k = refl

  -- the entries of a regular connection
  pub regular_else : (ms before : List Marked) (l : ConnectionLedger) → AtEach s (Known s F u) before l ms → some_split_from (λ place (e : Entry) behind. loses place e) (entries before) (entries ms) ≡ false → all_pass (is_else o.name s C4) s l.state (connection_gives s l.state ms) ≡ true
  regular_else [] before l h n = refl
  regular_else (m ∷ ms) before l h n =
      let parts = neither (loses (entries before) m.entry) (some_split_from (λ place (e : Entry) behind. loses place e) (entries before ++ m.entry ∷ []) (entries ms)) n in
      list_all-append (λ (x : Posted). is_else o.name s C4 x.letter) (connection_letters s l.state m.entry.at m.mark m.entry.what) (connection_gives s (step_connection s l.state m) ms)
      ∙ both (all_pass (is_else o.name s C4) s l.state (connection_letters s l.state m.entry.at m.mark m.entry.what)) _
      (entry_else before l m (λ why e. rows_open h.0) parts.0)
      (regular_else ms (before ++ m ∷ []) (step_connection_ledger s l m) h.1 (subst (λ place. some_split_from (λ b (e : Entry) behind. loses b e) place (entries ms) ≡ false) (sym (push_entry before m)) parts.1))
    where
      rows_open : Known s F u before l → RowsOpen s F u before l
      rows_open k = each_imply (λ r. OneIn (λ x. Live s F r x) (sendings u (entries before))) (λ r. OneIn (λ x. OpenRow s F r x) (sendings u (entries before))) l.state.rows (λ r j. one_imply (λ x. Live s F r x) (λ x. OpenRow s F r x) (sendings u (entries before)) (λ x i. record { o = i.o; found = i.found; op = i.op; opened = live_open s F r x i }) j) k.lives.of_rows
