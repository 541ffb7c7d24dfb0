-- A letter that comes too late is of an operation of the client's own: it was expected, so its operation was forwarded.
use Rattle.std.proofs.Common.{◌≡◌, ℕ, Bool, true, false, ◌&&◌, not, List, [], ◌∷◌, ◌++◌, length, refl, ap, ◌∙◌, sym, subst}
use Rattle.std.specs.Prelude.{Option, Some, None, is_some}
use Rattle.lload_names.specs.declared.names.Entry.{Entry}
use Rattle.lload_names.specs.declared.names.Letter.{Letter}
use Rattle.lload_names.specs.declared.names.Letter.TheVariants.{Failed, Reply}
use Rattle.lload_names.specs.declared.names.OpName.{OpName}
use Rattle.lload_names.specs.declared.names.PartName.{PartName}
use Rattle.lload_names.specs.declared.names.PartName.TheVariants.{Client, Up as Connection}
use Rattle.lload_names.specs.declared.names.What.{What}
use Rattle.lload_names.specs.declared.names.What.TheVariants as what
use Rattle.lload_spec.specs.Entries.{late_op}
use Rattle.lload_spec.specs.Journal.{Family, same_op, same_part}
use Rattle.lload_spec.specs.Lists.{each_split_from, passes, where_there}
use Rattle.lload_spec.specs.Operations.{operation_in, operations}
use Rattle.lload_spec.specs.Settings.{Settings}
use Rattle.lload_spec.specs.Strict.{is_late_own}
use Rattle.lload_spec.proofs.Growth.{left, right, both}
use Rattle.lload_laws.proofs.ListLaws.{all_always, found_passes}
use Rattle.part_laws.proofs.ListLaws.{same_op_eq}
use Rattle.part_spec.specs.Fit.{ClientLedger, Expected, answers, are_fit_from, empty_client_ledger, expected_behind, expected_from, fits_client, is_known, is_last_by, is_loss, is_unfit, step_client_ledger}
use Rattle.part_spec.specs.Marked.{Marked, Taken, entries}
use Rattle.part_spec.specs.Marks.{may_be_first, marks_client, must_mark_client}
use Rattle.client_laws.proofs.ClientClauses.{Says, nothing_kept, says_more}
use Rattle.client_laws.proofs.ClientTurns.{count_more}
use Rattle.client_answer_laws.proofs.Each.{Each, each_filter, each_found}
use Rattle.client_answer_laws.proofs.Expects.{ExpectKnown, expected_known}
use Rattle.client_answer_laws.proofs.Known.{within_there}
use Rattle.client_answer_laws.proofs.Waits.{RowKnown, is_within, rows_known}
use Rattle.joined_laws.specs.Joined.{Joined}
use Rattle.joined_laws.proofs.Begun.{is_begun}
use Rattle.joined_laws.proofs.Taken.{is_fit_there}
use Rattle.joined_laws.proofs.Walks.{Begun, begun}
use Rattle.late_laws.specs.Laws.{LatesAreOwn}

module _ (s : Settings) (c : ℕ) where
  -- what is known behind each list
  record At (place : List Entry) (l : ClientLedger) : Type 0 where
    says : Says c place l.state
    count : l.state.count ≡ length (operations c place)
    rows : Each (RowKnown s c place) l.state.rows
    expected : Each (ExpectKnown s c place) l.expected

  at_more : (place : List Entry) (l : ClientLedger) (m : Marked) → At place l → At (place ++ m.entry ∷ []) (step_client_ledger s l m)
  at_more place l m h =
      record {
        says = says_more s c place l.state m h.says;
        count = count_more s c place m.entry m.mark l.state h.count;
        rows = rows_known s c m.entry.at m.entry.part m.mark place l.state h.says.number h.count m.entry.what h.rows;
        expected = each_filter (ExpectKnown s c (place ++ m.entry ∷ [])) (ExpectKnown s c (place ++ m.entry ∷ [])) (λ x. not (is_last_by x.op m.mark)) (expected_behind s l.state l.expected m.entry.what) (λ x e q. q) (expected_known s c m.entry.at m.entry.part place l.state h.says.number h.count h.rows l.expected h.expected m.entry.what);
      }

  -- what is expected is of the client's own
  own : (place : List Entry) (l : ClientLedger) → At place l → (sender : PartName) (op : OpName) (t : Expected → Bool) → passes t (expected_from l sender op) ≡ true → is_some (operation_in c place op) ≡ true
  own place l h sender op t k = by (expected_from l sender op) refl k
    where
      by : (o : Option Expected) → expected_from l sender op ≡ o → passes t o ≡ true → is_some (operation_in c place op) ≡ true
      by None e j = absurd (let bad : false ≡ true = j in cc)
      by (Some x) e j = within_there c place op (subst (λ n. is_within c (length (operations c place)) n ≡ true) (sym (same_op_eq op x.op (left (same_op op x.op) _ (found_passes (λ y. same_op op y.op && same_part sender (Connection y.connection)) l.expected x e)))) (each_found (ExpectKnown s c place) (λ y. same_op op y.op && same_part sender (Connection y.connection)) l.expected x e h.expected).within)

  letter_own : (place : List Entry) (l : ClientLedger) → At place l → (op : OpName) (sender : PartName) (x : Letter) → marks_client l.state (what.Late op) x ≡ true → fits_client s l sender x ≡ true → is_some (operation_in c place op) ≡ true
  letter_own place l h op sender (Reply o rest is_last who) k f = subst (λ n. is_some (operation_in c place n) ≡ true) (sym (same_op_eq op o (left (same_op op o) _ k))) (own place l h sender o (λ x. answers x.request rest is_last && is_known s x.request rest who) f)
  letter_own place l h op sender (Failed o which) k f = subst (λ n. is_some (operation_in c place n) ≡ true) (sym (same_op_eq op o (left (same_op op o) _ k))) (own place l h sender o (λ x. is_loss s x.request which) f)
  letter_own place l h op sender _ k f = absurd (let bad : false ≡ true = k in cc)

  entry_own : (place : List Entry) (l : ClientLedger) → At place l → (e : Entry) (mark : Option Taken) (rest : Bool) → (is_begun e.what ≡ true → may_be_first l.state e mark ≡ true) → (not (is_unfit (fits_client s) l mark) && rest) ≡ true → is_late_own c place e ≡ true
  entry_own place l h e mark rest first fit = by e.what refl
    where
      late : (op : OpName) → e.what ≡ what.Late op → (o : Option Taken) → mark ≡ o → is_some (operation_in c place op) ≡ true
      late op z None i = absurd (let bad : false ≡ true = ap (λ w. not (must_mark_client e w)) (sym z) ∙ ap (may_be_first l.state e) (sym i) ∙ first (ap is_begun z) in cc)
      late op z (Some t) i = letter_own place l h op t.sender t.letter (ap (λ w. marks_client l.state w t.letter) (sym z) ∙ ap (may_be_first l.state e) (sym i) ∙ first (ap is_begun z)) (is_fit_there (fits_client s) l t rest (ap (λ o. not (is_unfit (fits_client s) l o) && rest) (sym i) ∙ fit))

      by : (w : What) → e.what ≡ w → where_there (λ op. is_some (operation_in c place op)) (late_op w) ≡ true
      by (what.Late op) z = late op z mark refl
      by _ z = refl

  lates_own : (place : List Entry) (l : ClientLedger) (ms : List Marked) → At place l → Begun s c place l.state ms → are_fit_from (fits_client s) (step_client_ledger s) l ms ≡ true → each_split_from (λ b e r. is_late_own c b e) place (entries ms) ≡ true
  lates_own place l [] h g f = refl
  lates_own place l (m ∷ ms) h g f = both (is_late_own c place m.entry) _ (entry_own place l h m.entry m.mark _ (λ i. (g.0 i).marked) f) (lates_own (place ++ m.entry ∷ []) (step_client_ledger s l m) ms (at_more place l m h) g.1 (right (not (is_unfit (fits_client s) l m.mark)) _ f))

client_lates : (s : Settings) (F : Family) (marked : PartName → List Marked) → Joined s F marked → (c : ℕ) → each_split_from (λ b e r. is_late_own c b e) [] (entries (marked (Client c))) ≡ true
client_lates s F marked h c = lates_own s c [] (empty_client_ledger c) (marked (Client c)) (record { says = (nothing_kept s c).says; count = refl; rows = tt; expected = tt }) (begun s c (marked (Client c)) (h.shared.shares (Client c))) (h.fit (Client c))

pub all_own : LatesAreOwn
all_own s F marked h = all_always (λ c. each_split_from (λ b e r. is_late_own c b e) [] (F.client c)) F.clients (λ c. subst (λ es. each_split_from (λ b e r. is_late_own c b e) [] es ≡ true) (h.shared.same_entries (Client c)) (client_lates s F marked h c))
