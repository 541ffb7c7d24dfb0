-- A regular connection's turns: the beginning, and its rows through a turn.
use Rattle.std.proofs.Common.{◌≡◌, ℕ, Bool, true, false, ◌==◌, ◌&&◌, ◌||◌, not, List, [], ◌∷◌, ◌++◌, refl, ap, ◌∙◌, sym, append_assoc}
use Rattle.std.specs.Prelude.{Option, Some, None, is_some, nat_le}
use Rattle.std.specs.List.{list_any, list_all}
use Rattle.std.specs.Str.{bytes_eq}
use Rattle.std.proofs.lemmas.List.{append-nil}
use Rattle.ldap_spec.specs.Bodies.{simple_bind, who_am_i}
use Rattle.lload_names.specs.declared.names.Entry.{Entry}
use Rattle.lload_names.specs.declared.names.EndWhy.TheVariants.{OwnBind as OwnBindFailed}
use Rattle.lload_names.specs.declared.names.What.TheVariants as what
use Rattle.lload_spec.specs.Lists.{passes, first_passes, last_passes, agrees, implies}
use Rattle.lload_spec.specs.Settings.{Settings, OwnBind, place_at}
use Rattle.lload_spec.specs.Entries.{is_up, is_retired, is_down_by, is_own}
use Rattle.lload_spec.specs.OneEach.{begins_with_bind, is_own_bind, is_bind_due}
use Rattle.part_spec.specs.Marked.{Marked, entries}
use Rattle.part_spec.specs.Inputs.{Act, act, also}
use Rattle.part_spec.specs.ConnectionState.{UpRow, step_connection, is_first_bind, is_bind_row, is_abandoned_by}
use Rattle.part_spec.specs.ConnectionTurn.{giving, comes_up, retires}
use Rattle.part_spec.specs.RegularTurn.{link_up}
use Rattle.part_spec.specs.Fit.{ConnectionLedger, step_connection_ledger, ledger_behind as behind}
use Rattle.part_spec.specs.Share.{has_reason, is_who_awaited}
use Rattle.lload_laws.proofs.ListLaws.{bytes_same}
use Rattle.lload_spec.proofs.Growth.{left, right, both}
use Rattle.part_laws.proofs.ListLaws.{or_left, le_same}
use Rattle.connection_laws.proofs.OwnBinds.{is_second_bind, is_single, own_of}
use Rattle.connection_laws.proofs.Permits.{Chain, UpStands, push_entry}
use Rattle.connection_laws.proofs.Rows.{is_sound, marks_no_bind, rows_more}
use Rattle.connection_laws.proofs.Pieces.{implies_true, no_name, up_entry, marked_up, permit_up}
use Rattle.connection_laws.proofs.Makes.{Makes, turn_of, chain_cons, gives_own, place_empty, not_ended, permit_linked}

-- the own Bind abandons none
pub bind_names_none : (dn credentials : List ℕ) (rows : List UpRow) → list_any (is_abandoned_by (simple_bind dn credentials)) rows ≡ false
bind_names_none dn credentials [] = refl
bind_names_none dn credentials (r ∷ rows) = ap (λ b. b || list_any (is_abandoned_by (simple_bind dn credentials)) rows) (none (not (is_bind_row r))) ∙ bind_names_none dn credentials rows
  where
    none : (b : Bool) → (b && false) ≡ false
    none true = refl
    none false = refl

module _ (s : Settings) (u : ℕ) (before : List Marked) (l : ConnectionLedger) (at : ℕ) (later : nat_le l.state.moment at ≡ true) (h : UpStands s u before l) (unlinked : l.state.linked ≡ false) (begins : begins_with_bind s l.state.number ≡ is_some s.own_bind) (placed : is_some (place_at s l.state.number) ≡ true) where
  pub makes_link : Makes s before l at None (link_up s l.state).whats
  makes_link = by s.own_bind refl
    where
      begin_act : Option OwnBind → Act
      begin_act o = also (act (what.Linked ∷ []) []) (elim o [ None ↦ comes_up l.state | Some own ↦ act (giving s l.state.ids.next (what.Own l.state.ids.next (simple_bind own.dn own.credentials))) (retires s l.state l.state.ids.next) ])

      linked_led : ConnectionLedger
      linked_led = step_connection_ledger s l (marked_up l.state.number at None what.Linked)

      by : (o : Option OwnBind) → s.own_bind ≡ o → Makes s before l at None (begin_act o).whats
      by None e = ((permit_linked s u before l at later h unlinked placed (marked_up l.state.number at None what.Up ∷ []) (ap (λ b. implies b (first_passes (is_own_bind s) (entries (marked_up l.state.number at None what.Up ∷ [])))) (begins ∙ ap is_some e)) (ap (λ b. agrees (not b) true) (begins ∙ ap is_some e)) refl refl, (permit_up s l.state.number (before ++ marked_up l.state.number at None what.Linked ∷ []) (step_connection_ledger s l (marked_up l.state.number at None what.Linked)) at (le_same at) refl (h.own ∙ ap (own_of s u) (place_empty s u before l at later h unlinked)) (not_ended s u before l at later h unlinked), tt)), (refl, refl, refl))
      by (Some own) e = (chain_cons s before l l.state.number at None what.Linked (giving s l.state.ids.next (what.Own l.state.ids.next (simple_bind own.dn own.credentials))) (permit_linked s u before l at later h unlinked placed (turn_of l.state.number at None (giving s l.state.ids.next (what.Own l.state.ids.next (simple_bind own.dn own.credentials)))) (ap (implies (begins_with_bind s l.state.number)) (gives_first (is_own_bind s) (l.state.ids.next == s.id_limit) ∙ own_is) ∙ implies_true (begins_with_bind s l.state.number)) (ap (λ b. agrees (not b) (first_passes (λ x. is_up x.what) (entries (turn_of l.state.number at None (giving s l.state.ids.next (what.Own l.state.ids.next (simple_bind own.dn own.credentials))))))) (begins ∙ ap is_some e) ∙ ap (agrees false) (gives_first (λ x. is_up x.what) (l.state.ids.next == s.id_limit))) (gives_first (λ x. is_retired x.what) (l.state.ids.next == s.id_limit)) (gives_first (is_down_by OwnBindFailed) (l.state.ids.next == s.id_limit))) rest.0, (refl, refl, refl))
        where
          own_is : is_own_bind s (up_entry l.state.number at (what.Own l.state.ids.next (simple_bind own.dn own.credentials))) ≡ true
          own_is = ap (passes (λ o. bytes_eq (simple_bind own.dn own.credentials) (simple_bind o.dn o.credentials))) e ∙ bytes_same (simple_bind own.dn own.credentials)

          alone : entries (before ++ marked_up l.state.number at None what.Linked ∷ []) ≡ up_entry l.state.number at what.Linked ∷ []
          alone = push_entry before (marked_up l.state.number at None what.Linked) ∙ ap (λ place. place ++ up_entry l.state.number at what.Linked ∷ []) (place_empty s u before l at later h unlinked)

          gives_first : (t : Entry → Bool) (b : Bool) → first_passes t (entries (turn_of l.state.number at None (elim b [ true ↦ what.Own l.state.ids.next (simple_bind own.dn own.credentials) ∷ what.Retired ∷ [] | false ↦ what.Own l.state.ids.next (simple_bind own.dn own.credentials) ∷ [] ]))) ≡ t (up_entry l.state.number at (what.Own l.state.ids.next (simple_bind own.dn own.credentials)))
          gives_first t true = refl
          gives_first t false = refl

          first_own : is_first_bind s l.state (up_entry l.state.number at (what.Own l.state.ids.next (simple_bind own.dn own.credentials))) ≡ is_second_bind s l.state.number (entries (before ++ marked_up l.state.number at None what.Linked ∷ [])) (up_entry l.state.number at (what.Own l.state.ids.next (simple_bind own.dn own.credentials)))
          first_own = ap (λ n. begins_with_bind s l.state.number && n == 1 && is_own_bind s (up_entry l.state.number at (what.Own l.state.ids.next (simple_bind own.dn own.credentials)))) (h.unlinked unlinked) ∙ ap (λ place. begins_with_bind s l.state.number && is_single place && is_own_bind s (up_entry l.state.number at (what.Own l.state.ids.next (simple_bind own.dn own.credentials)))) (sym alone)

          reason : has_reason s (step_connection_ledger s l (marked_up l.state.number at None what.Linked)).state (entries (before ++ marked_up l.state.number at None what.Linked ∷ [])) (marked_up l.state.number at None (what.Own l.state.ids.next (simple_bind own.dn own.credentials))) ≡ true
          reason = or_left (is_own_bind s (up_entry l.state.number at (what.Own l.state.ids.next (simple_bind own.dn own.credentials))) && last_passes (is_bind_due s l.state.number) (entries (before ++ marked_up l.state.number at None what.Linked ∷ [])) || is_own who_am_i (up_entry l.state.number at (what.Own l.state.ids.next (simple_bind own.dn own.credentials))) && list_any is_who_awaited l.state.rows) _ (or_left (is_own_bind s (up_entry l.state.number at (what.Own l.state.ids.next (simple_bind own.dn own.credentials))) && last_passes (is_bind_due s l.state.number) (entries (before ++ marked_up l.state.number at None what.Linked ∷ []))) _ (both (is_own_bind s (up_entry l.state.number at (what.Own l.state.ids.next (simple_bind own.dn own.credentials)))) _ own_is (ap (last_passes (is_bind_due s l.state.number)) alone ∙ both (begins_with_bind s l.state.number) true (begins ∙ ap is_some e) refl)))

          rest : Makes s (before ++ marked_up l.state.number at None what.Linked ∷ []) (step_connection_ledger s l (marked_up l.state.number at None what.Linked)) at None (giving s l.state.ids.next (what.Own l.state.ids.next (simple_bind own.dn own.credentials)))
          rest = gives_own s (before ++ marked_up l.state.number at None what.Linked ∷ []) (step_connection_ledger s l (marked_up l.state.number at None what.Linked)) at (le_same at) refl (not_ended s u before l at later h unlinked) None (simple_bind own.dn own.credentials) (ap not (bind_names_none own.dn own.credentials l.state.rows)) refl first_own reason (λ i j. no_name j)

-- Through a turn.
pub rows_through : (s : Settings) (u : ℕ) (ms : List Marked) (before : List Marked) (l : ConnectionLedger) → Chain s before l ms → list_all (λ m. marks_no_bind m.mark) ms ≡ true → list_all (is_sound u (entries before)) l.state.rows ≡ true → list_all (is_sound u (entries (before ++ ms))) (behind (step_connection_ledger s) l ms).state.rows ≡ true
rows_through s u [] before l k n h = ap (λ b. list_all (is_sound u (entries b)) l.state.rows) (append-nil before) ∙ h
rows_through s u (m ∷ ms) before l k n h = ap (λ b. list_all (is_sound u (entries b)) (behind (step_connection_ledger s) (step_connection_ledger s l m) ms).state.rows) (sym (append_assoc before (m ∷ []) ms)) ∙ rows_through s u ms (before ++ m ∷ []) (step_connection_ledger s l m) k.1 (right (marks_no_bind m.mark) _ n) (ap (λ place. list_all (is_sound u place) (step_connection s l.state m).rows) (push_entry before m) ∙ rows_more s u (entries before) m.entry.part m.entry.at m.mark l.state m.entry.what k.0.fitting (left (marks_no_bind m.mark) _ n) h)
