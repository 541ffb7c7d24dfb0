-- A Bind that expires takes its connection down: the row that expires is of a Bind exactly on a bind connection.
use Rattle.std.proofs.Common.{◌≡◌, ℕ, Bool, true, false, ◌&&◌, ◌||◌, not, List, [], ◌∷◌, ◌++◌, refl, ap, ◌∙◌, sym, subst}
use Rattle.std.specs.Prelude.{Option, Some, None, flat_map, if◌then◌else◌}
use Rattle.std.specs.List.{list_any, list_all}
use Rattle.std.proofs.lemmas.List.{map-append}
use Rattle.ldap_spec.specs.Bodies.{abandon}
use Rattle.ldap_spec.specs.Kinds.{same_kind}
use Rattle.lload_names.specs.declared.names.ConnKind.TheVariants.{Bind as BindKind}
use Rattle.lload_names.specs.declared.names.EndWhy.TheVariants.{TimedOut}
use Rattle.lload_names.specs.declared.names.Entry.{Entry}
use Rattle.lload_names.specs.declared.names.Letter.{Letter}
use Rattle.lload_names.specs.declared.names.Letter.TheVariants.{Forward}
use Rattle.lload_names.specs.declared.names.OpKind.TheVariants.{Bind}
use Rattle.lload_names.specs.declared.names.OpName.{OpName}
use Rattle.lload_names.specs.declared.names.PartName.TheVariants.{Up as Connection}
use Rattle.lload_names.specs.declared.names.What.{What}
use Rattle.lload_names.specs.declared.names.What.TheVariants as what
use Rattle.lload_spec.specs.Answers.{Sending, of_operation, sendings}
use Rattle.lload_spec.specs.CausedUp.{is_bind_expiry_told, is_bind_sent}
use Rattle.lload_spec.specs.Entries.{expired_op, is_down_by, is_own}
use Rattle.lload_spec.specs.Journal.{Family, same_op}
use Rattle.lload_spec.specs.Lists.{agrees, each_split_from, first_passes, implies, passes, where_there}
use Rattle.lload_spec.specs.Operations.{Operation, operation, is_of}
use Rattle.lload_spec.specs.Settings.{Settings, is_kind}
use Rattle.lload_spec.proofs.Growth.{left, right, both}
use Rattle.lload_laws.proofs.ListLaws.{all_always, found, found_passes, passes_imply}
use Rattle.part_laws.proofs.ListLaws.{false_by, same_op_eq}
use Rattle.part_spec.specs.ConnectionState.{ConnectionState, UpRow, empty_connection, step_connection, connection_behind, is_bind, is_bind_row, is_under_own, row_named, rows_sent, behind_message, behind_own}
use Rattle.part_spec.specs.ConnectionTurn.{is_due}
use Rattle.part_spec.specs.Fit.{ConnectionLedger, empty_connection_ledger, step_connection_ledger, fits_connection, are_fit_from, is_unfit}
use Rattle.part_spec.specs.Marked.{Marked, Taken, entries}
use Rattle.part_spec.specs.Share.{ConnectionShare, each_place, is_expired_due, is_expiry_told}
use Rattle.connection_laws.proofs.Apart.{Shrinks, shrinks_message, shrinks_own}
use Rattle.connection_laws.proofs.ConnectionSays.{kind_step}
use Rattle.connection_laws.proofs.Rows.{all_put, all_flat, all_filter}
use Rattle.joined_laws.proofs.Taken.{is_fit_there}
use Rattle.carried_laws.specs.Laws.{ForwardsAreRight, are_forwards_right, is_forward_right, says_rightly}
use Rattle.carried_laws.proofs.RegularReplies.{bind_by, kind_serves}
use Rattle.caused_laws.specs.Laws.{ExpiredBindsAreTold}

agrees_same : (b : Bool) → agrees b b ≡ true
agrees_same true = refl
agrees_same false = refl

agrees_eq : (a b : Bool) → agrees a b ≡ true → a ≡ b
agrees_eq true true h = refl
agrees_eq false false h = refl
agrees_eq true false h = absurd (let bad : false ≡ true = h in cc)
agrees_eq false true h = absurd (let bad : false ≡ true = h in cc)

module _ (s : Settings) (F : Family) (u : ℕ) (b : Bool) where
  -- whether a row, and its operation, is of a Bind where this says so
  abbrev is_so : UpRow → Bool
  is_so r = agrees (is_bind_row r) b && passes (λ o. agrees (is_of Bind o) b) (operation F r.op)

  so_shrinks : (r : UpRow) (rs : List UpRow) → Shrinks r rs → is_so r ≡ true → list_all is_so rs ≡ true
  so_shrinks r [] h k = refl
  so_shrinks r (q ∷ []) h k = both (is_so q) true (ap (λ o. agrees (is_bind_row q) b && passes (λ x. agrees (is_of Bind x) b) (operation F o)) (sym h.1) ∙ ap (λ n. agrees (same_kind Bind n) b && passes (λ x. agrees (is_of Bind x) b) (operation F r.op)) (sym h.2) ∙ k) refl
  so_shrinks r (q ∷ x ∷ xs) h k = absurd h

  -- the rows behind an entry
  so_step : (l : ConnectionLedger) (e : Entry) (mark : Option Taken) (w : What) → is_bind l.state ≡ b → list_all is_so l.state.rows ≡ true → where_there (λ t. is_forward_right s F t.letter) mark ≡ true → ((t : Taken) → mark ≡ Some t → fits_connection s l t.sender t.letter ≡ true) → list_all is_so (connection_behind s e mark l.state w).rows ≡ true
  so_step l e mark (what.Got id rest) kind h told fits = by (is_under_own l.state id)
    where
      by : (t : Bool) → list_all is_so (if t then l.state.rows else flat_map (behind_message e.at (record { id = id; rest = rest })) l.state.rows) ≡ true
      by true = h
      by false = all_flat is_so (behind_message e.at (record { id = id; rest = rest })) l.state.rows (λ r k. so_shrinks r (behind_message e.at (record { id = id; rest = rest }) r) (shrinks_message e.at (record { id = id; rest = rest }) r) k) h
  so_step l e mark (what.Own id rest) kind h told fits = all_flat is_so (behind_own (record { id = id; rest = rest })) l.state.rows (λ r k. so_shrinks r (behind_own (record { id = id; rest = rest }) r) (shrinks_own (record { id = id; rest = rest }) r) k) h
  so_step l e None (what.Sent id op rest) kind h told fits = h
  so_step l e (Some t) (what.Sent id op rest) kind h told fits = by t.letter told (fits t refl)
    where
      by : (x : Letter) → is_forward_right s F x ≡ true → fits_connection s l t.sender x ≡ true → list_all is_so (rows_sent e.at id l.state.rows x) ≡ true
      by (Forward q sort body ask holder) k f =
          all_put is_so (record { id = id; op = q; kind = sort; ask_who = ask; sent = e.at; answered = e.at; kept = None }) l.state.rows
          (both (agrees (same_kind Bind sort) b) _ (ap (agrees (same_kind Bind sort)) (sym kind) ∙ kind_serves s F l t.sender q holder sort body ask f)
          (passes_imply (says_rightly s ask sort) (λ o. agrees (is_of Bind o) b) (operation F q) (λ o j. ap (λ x. agrees x b) (bind_by s F l b kind t.sender q holder sort body ask f o j) ∙ agrees_same b) k)) h
      by _ k f = h
  so_step l e mark (what.Expired o) kind h told fits = all_filter is_so (λ r. not (same_op o r.op)) l.state.rows h
  so_step l e mark (what.Down why) kind h told fits = refl
  so_step l e mark _ kind h told fits = h

  -- where the row that expires is of no Bind, no Sent of its operation is
  none_sent : (op : OpName) → passes (λ o. agrees (is_of Bind o) false) (operation F op) ≡ true → (sents : List Sending) → list_any (λ sent. same_op op sent.op && of_operation F (λ o q. is_of Bind o) sent) sents ≡ false
  none_sent op h [] = refl
  none_sent op h (x ∷ sents) = ap (λ t. t || list_any (λ sent. same_op op sent.op && of_operation F (λ o q. is_of Bind o) sent) sents) (false_by (same_op op x.op && of_operation F (λ o q. is_of Bind o) x) (λ k. sym (by (operation F op) h) ∙ ap (λ n. passes (is_of Bind) (operation F n)) (same_op_eq op x.op (left (same_op op x.op) _ k)) ∙ right (same_op op x.op) _ k)) ∙ none_sent op h sents
    where
      by : (o : Option Operation) → passes (λ y. agrees (is_of Bind y) false) o ≡ true → passes (is_of Bind) o ≡ false
      by None j = refl
      by (Some y) j = agrees_eq (is_of Bind y) false j

  one_told : (p : ConnectionState) (place : List Entry) (m : Marked) (ms : List Marked) → list_all is_so p.rows ≡ true → is_expired_due s p m ms ≡ true → is_bind_expiry_told F u place m.entry (entries ms) ≡ true
  one_told p place m ms rows due = by (expired_op m.entry.what) due
    where
      told : (t : Bool) (op : OpName) (r : UpRow) → b ≡ t → row_named p op ≡ Some r → is_so r ≡ true → is_expiry_told (entries ms) r ≡ true → implies (is_bind_sent F u place op) (first_passes (is_down_by TimedOut) (entries ms)) ≡ true
      told true op r z e so k = always (is_bind_sent F u place op) (sym (ap (λ x. if x then first_passes (is_down_by TimedOut) (entries ms) else first_passes (is_own (abandon r.id)) (entries ms)) (agrees_eq (is_bind_row r) true (ap (agrees (is_bind_row r)) (sym z) ∙ left (agrees (is_bind_row r) b) _ so))) ∙ k)
        where
          always : (x : Bool) → first_passes (is_down_by TimedOut) (entries ms) ≡ true → implies x (first_passes (is_down_by TimedOut) (entries ms)) ≡ true
          always true j = j
          always false j = refl
      told false op r z e so k = ap (λ x. implies x (first_passes (is_down_by TimedOut) (entries ms))) (none_sent op (ap (λ n. passes (λ o. agrees (is_of Bind o) false) (operation F n)) (same_op_eq op r.op (found_passes (λ x. same_op op x.op) p.rows r e)) ∙ ap (λ x. passes (λ o. agrees (is_of Bind o) x) (operation F r.op)) (sym z) ∙ right (agrees (is_bind_row r) b) _ so) (sendings u place))

      row : (op : OpName) (o : Option UpRow) → row_named p op ≡ o → passes (λ r. is_due s m.entry.at r && is_expiry_told (entries ms) r) o ≡ true → implies (is_bind_sent F u place op) (first_passes (is_down_by TimedOut) (entries ms)) ≡ true
      row op None e k = absurd (let bad : false ≡ true = k in cc)
      row op (Some r) e k = told b op r refl e (found is_so (λ x. same_op op x.op) p.rows r e rows) (right (is_due s m.entry.at r) _ k)

      by : (o : Option OpName) → (elim o [ None ↦ true | Some op ↦ passes (λ r. is_due s m.entry.at r && is_expiry_told (entries ms) r) (row_named p op) ]) ≡ true → implies (passes (is_bind_sent F u place) o) (first_passes (is_down_by TimedOut) (entries ms)) ≡ true
      by None k = refl
      by (Some op) k = row op (row_named p op) refl k

  told_from : (before : List Marked) (l : ConnectionLedger) (ms : List Marked) → is_bind l.state ≡ b → list_all is_so l.state.rows ≡ true → are_forwards_right s F ms ≡ true → are_fit_from (fits_connection s) (step_connection_ledger s) l ms ≡ true → each_place (step_connection s) (λ p before m behind. is_expired_due s p m behind) l.state before ms ≡ true → each_split_from (is_bind_expiry_told F u) (entries before) (entries ms) ≡ true
  told_from before l [] kind rows told fit due = refl
  told_from before l (m ∷ ms) kind rows told fit due =
      both (is_bind_expiry_told F u (entries before) m.entry (entries ms)) _ (one_told l.state (entries before) m ms rows (left (is_expired_due s l.state m ms) _ due))
      (subst (λ x. each_split_from (is_bind_expiry_told F u) x (entries ms) ≡ true) (map-append (λ (x : Marked). x.entry) before (m ∷ []))
      (told_from (before ++ m ∷ []) (step_connection_ledger s l m) ms (ap (is_kind BindKind) (kind_step s m.entry m.mark l.state m.entry.what) ∙ kind) (so_step l m.entry m.mark m.entry.what kind rows (left (where_there (λ t. is_forward_right s F t.letter) m.mark) _ told) fits) (right (where_there (λ t. is_forward_right s F t.letter) m.mark) _ told) (right (not (is_unfit (fits_connection s) l m.mark)) _ fit) (right (is_expired_due s l.state m ms) _ due)))
    where
      fits : (t : Taken) → m.mark ≡ Some t → fits_connection s l t.sender t.letter ≡ true
      fits t e = is_fit_there (fits_connection s) l t (are_fit_from (fits_connection s) (step_connection_ledger s) (step_connection_ledger s l m) ms) (ap (λ q. not (is_unfit (fits_connection s) l q) && are_fit_from (fits_connection s) (step_connection_ledger s) (step_connection_ledger s l m) ms) (sym e) ∙ fit)

pub expired_binds_told : ForwardsAreRight → ExpiredBindsAreTold
expired_binds_told rightly s F marked h = all_always (λ u. each_split_from (is_bind_expiry_told F u) [] (F.connection u)) F.connections (λ u. subst (λ l. each_split_from (is_bind_expiry_told F u) [] l ≡ true) (h.shared.same_entries (Connection u)) (told_from s F u (is_bind (empty_connection s u)) [] (empty_connection_ledger s u) (marked (Connection u)) refl refl (rightly s F marked h (Connection u)) (h.fit (Connection u)) (share u).expired))
  where
    share : (u : ℕ) → ConnectionShare s u (marked (Connection u))
    share u = h.shared.shares (Connection u)
