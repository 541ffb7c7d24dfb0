-- A regular connection that retired and isn't down has an operation open.
use Rattle.std.proofs.Common.{◌≡◌, ℕ, Bool, true, false, ◌==◌, ◌&&◌, not, List, [], ◌∷◌, ◌++◌, append_assoc, length, refl, ap, ◌∙◌, sym, subst}
use Rattle.std.specs.Prelude.{Option, Some, None, is_none, is_some, if◌then◌else◌}
use Rattle.std.specs.List.{list_any, list_all}
use Rattle.std.proofs.lemmas.List.{append-nil}
use Rattle.lload_names.specs.declared.names.ConnKind.{ConnKind}
use Rattle.lload_names.specs.declared.names.ConnKind.TheVariants.{Regular, Bind as BindKind}
use Rattle.lload_names.specs.declared.names.Entry.{Entry}
use Rattle.lload_names.specs.declared.names.OpName.{OpName}
use Rattle.lload_names.specs.declared.names.PartName.TheVariants.{Up as Connection}
use Rattle.lload_names.specs.declared.plans.Place.{Place}
use Rattle.lload_spec.specs.Answers.{Sending, is_open, of_operation, sendings}
use Rattle.lload_spec.specs.CausedUp.{holder}
use Rattle.lload_spec.specs.Entries.{is_down, is_retired}
use Rattle.lload_spec.specs.Journal.{Family}
use Rattle.lload_spec.specs.Operations.{operation}
use Rattle.lload_spec.specs.Settings.{Settings, is_kind, is_of_kind, place_at}
use Rattle.lload_spec.specs.Settled.{is_retired_in_use}
use Rattle.lload_spec.proofs.Growth.{left, right}
use Rattle.lload_laws.proofs.ListLaws.{any_imply, implies_by, passes_imply}
use Rattle.part_laws.proofs.ListLaws.{false_by, or_left}
use Rattle.part_spec.specs.ConnectionState.{ConnectionState, UpRow, connection_of, empty_connection, step_connection, step_connections}
use Rattle.part_spec.specs.Marked.{Marked, entries}
use Rattle.part_spec.specs.Merge.{PartMove, world_of}
use Rattle.part_spec.specs.World.{World, list_in}
use Rattle.connection_laws.proofs.ConnectionSays.{UpSays, up_says_more, up_says_nothing}
use Rattle.joined_laws.specs.Joined.{Joined}
use Rattle.rows_laws.specs.Laws.{RowsAreOpen, are_open_sents, is_row_of, says_of}
use Rattle.stands_laws.specs.ClientStands.{serves}
use Rattle.stands_laws.specs.RegularStands.{RegularIs}
use Rattle.stands_laws.specs.WorldStands.{connection_ledger_in, stands_by}
use Rattle.fitness_laws.proofs.Ledgers.{connection_here}
use Rattle.fitness_laws.proofs.WorldTurns.{Standing}
use Rattle.run_laws.specs.Runs.{family_of_run}
use Rattle.rest_laws.proofs.Standing.{book, stood}

up_says : (s : Settings) (place : List Entry) (p : ConnectionState) (ms : List Marked) → UpSays place p → UpSays (place ++ entries ms) (step_connections s p ms)
up_says s place p [] h = subst (λ es. UpSays es p) (sym (append-nil place)) h
up_says s place p (m ∷ ms) h = subst (λ es. UpSays es (step_connections s (step_connection s p m) ms)) (append_assoc place (m.entry ∷ []) (entries ms)) (up_says s (place ++ m.entry ∷ []) (step_connection s p m) ms (up_says_more s place p m h))

-- a regular connection is none that serves Binds
pub no_binds : (s : Settings) (u : ℕ) → is_of_kind s Regular u ≡ true → is_of_kind s BindKind u ≡ false
no_binds s u h = false_by (is_of_kind s BindKind u) (λ k. both_kinds (place_at s u) h k)
  where
    one : (k : ConnKind) → is_kind Regular k ≡ true → is_kind BindKind k ≡ true → false ≡ true
    one Regular i j = j
    one BindKind i j = i

    both_kinds : (o : Option Place) → (elim o [ None ↦ false | Some p ↦ is_kind Regular p.kind ]) ≡ true → (elim o [ None ↦ false | Some p ↦ is_kind BindKind p.kind ]) ≡ true → false ≡ true
    both_kinds None i j = i
    both_kinds (Some p) i j = one p.kind i j

pub serves_none : (s : Settings) (u : ℕ) → is_of_kind s Regular u ≡ true → serves s u ≡ false
serves_none s u h = ap (λ b. is_kind BindKind (if b then BindKind else Regular)) (no_binds s u h)

-- one that isn't drained has a row, where nobody holds it
has_row : (retired down : Bool) (rows : List UpRow) (o : Option OpName) → (retired && not down && length rows == 0 && is_none o) ≡ false → (retired && not down) ≡ true → o ≡ None → (r : UpRow) × ((rs : List UpRow) × (rows ≡ r ∷ rs))
has_row retired down (r ∷ rs) o d h e = (r, (rs, refl))
has_row retired down [] o d h e = absurd (let bad : true ≡ false = sym (ap (λ b. b && true && true) h) ∙ (ap (λ x. retired && not down && true && is_none x) (sym e) ∙ d) in cc)

-- the state of a connection's ledger is that of its list
pub state_is : (s : Settings) (ms : List PartMove) (u : ℕ) → (connection_ledger_in s (world_of s ms) u).state ≡ connection_of s u (list_in (world_of s ms) (Connection u))
state_is s ms u = sym (connection_here s (world_of s ms) u (stood s ms).states) ∙ (stood s ms).states.connections u

module _ (s : Settings) (ms : List PartMove) (joined : Joined s (family_of_run s ms) (list_in (world_of s ms))) (u : ℕ) (kind : is_of_kind s Regular u ≡ true) (open_rows : RowsAreOpen s (family_of_run s ms) u (list_in (world_of s ms) (Connection u))) where
  abbrev F : Family
  F = family_of_run s ms

  abbrev w : World
  w = world_of s ms

  abbrev p : ConnectionState
  p = (connection_ledger_in s w u).state

  standing : Standing s (book s ms) (world_of s ms)
  standing = (stood s ms).standing

  regular : RegularIs s (book s ms) u (connection_ledger_in s (world_of s ms) u) (standing.model.conns u)
  regular = subst (λ t. stands_by t s (book s ms) u (connection_ledger_in s w u) (standing.model.conns u)) (serves_none s u kind) (standing.stands.conns u)

  says : UpSays ((family_of_run s ms).connection u) (connection_ledger_in s (world_of s ms) u).state
  says = subst (λ es. UpSays es p) (joined.shared.same_entries (Connection u)) (subst (UpSays (entries (list_in w (Connection u)))) (sym (state_is s ms u)) (up_says s [] (empty_connection s u) (list_in w (Connection u)) (up_says_nothing s u)))

  sents : are_open_sents s (family_of_run s ms) u ((family_of_run s ms).connection u) (connection_ledger_in s (world_of s ms) u).state.rows ≡ true
  sents = subst (λ es. are_open_sents s F u es p.rows ≡ true) (joined.shared.same_entries (Connection u)) (subst (λ q. are_open_sents s F u (entries (list_in w (Connection u))) q.rows ≡ true) (sym (state_is s ms u)) open_rows.behind_all)

  -- the Sent of a row is open
  open_sent : (r : UpRow) (rs : List UpRow) → (connection_ledger_in s (world_of s ms) u).state.rows ≡ r ∷ rs → list_any (of_operation (family_of_run s ms) (is_open s)) (sendings u ((family_of_run s ms).connection u)) ≡ true
  open_sent r rs e =
      any_imply (is_row_of s F r) (of_operation F (is_open s)) (sendings u (F.connection u)) opened
      (left (list_any (is_row_of s F r) (sendings u (F.connection u))) _ (left (list_all (λ q. list_any (is_row_of s F q) (sendings u (F.connection u))) (r ∷ rs)) _ (subst (λ rows. are_open_sents s F u (F.connection u) rows ≡ true) e sents)))
    where
      opened : (x : Sending) → is_row_of s (family_of_run s ms) r x ≡ true → of_operation (family_of_run s ms) (is_open s) x ≡ true
      opened x k = passes_imply (λ o. says_of s r o x) (λ o. is_open s o x) (operation F x.op) (λ o j. right _ (is_open s o x) j) (right _ (of_operation F (says_of s r) x) k)

  pub in_use : is_retired_in_use s (family_of_run s ms) u ≡ true
  in_use =
      implies_by (list_any (λ e. is_retired e.what) (F.connection u) && not (list_any is_down (F.connection u))) _
      (λ k.
      let one = has_row p.retired p.down p.rows p.holder regular.undrained (ap (λ b. b && not p.down) says.retired ∙ ap (λ b. list_any (λ e. is_retired e.what) (F.connection u) && not b) says.down ∙ k) regular.stands.holder in
      or_left (list_any (of_operation F (is_open s)) (sendings u (F.connection u))) (is_some (holder s F u (F.connection u))) (open_sent one.0 one.1.0 one.1.1))
