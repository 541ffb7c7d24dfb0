-- What a regular connection's turns give where each letter was fit, rule by rule.
use Rattle.std.proofs.Common.{◌≡◌, ℕ, Bool, true, false, ◌&&◌, not, List, [], ◌∷◌, ◌++◌, flat_map, refl, ap, ◌∙◌, sym}
use Rattle.std.specs.Prelude.{Option, Some, None, find, if◌then◌else◌}
use Rattle.std.specs.List.{list_any, list_all}
use Rattle.std.proofs.lemmas.List.{append-nil}
use Rattle.ldap_spec.specs.Messages.{Message}
use Rattle.ldap_spec.specs.Kinds.{is_final}
use Rattle.ldap_spec.specs.Responses.{has_code}
use Rattle.ldap_spec.specs.Bodies.{abandon, simple_bind}
use Rattle.lload_names.specs.declared.names.Entry.{Entry}
use Rattle.lload_names.specs.declared.names.OpName.{OpName}
use Rattle.lload_names.specs.declared.names.OpKind.{OpKind}
use Rattle.lload_names.specs.declared.names.EndWhy.{EndWhy}
use Rattle.lload_names.specs.declared.names.EndWhy.TheVariants.{Bad, OwnBind as OwnBindFailed}
use Rattle.lload_names.specs.declared.names.ConnKind.{ConnKind}
use Rattle.lload_names.specs.declared.names.ConnKind.TheVariants.{Regular, Bind as BindKind}
use Rattle.lload_names.specs.declared.names.PartName.{PartName}
use Rattle.lload_names.specs.declared.names.PartName.TheVariants.{Desk, Up as Connection}
use Rattle.lload_names.specs.declared.names.Posted.{Posted}
use Rattle.lload_names.specs.declared.names.Letter.TheVariants.{Forward, IsUp}
use Rattle.lload_names.specs.declared.names.What.TheVariants as what
use Rattle.lload_spec.specs.Settings.{Settings, OwnBind}
use Rattle.lload_spec.specs.Journal.{same_op}
use Rattle.lload_spec.specs.Identifiers.{id_for}
use Rattle.lload_spec.specs.BadMessages.{is_bad, is_bad_for}
use Rattle.part_spec.specs.Marked.{Taken}
use Rattle.part_spec.specs.Inputs.{Act, act, nothing, also, entries_of, letters_alone, to, reply}
use Rattle.part_spec.specs.ConnectionState.{ConnectionState, UpRow, step_connection, is_stopped, is_bind, is_under, is_under_own, is_bind_row, lets_go, behind_message, row_named, message_facts}
use Rattle.part_spec.specs.ConnectionTurn.{ended, row_ended, latency, giving, retires, goes_down, comes_up, down_letters}
use Rattle.part_spec.specs.RegularTurn.{link_up, own_answer, row_answer, answered, message, missed_letters, forwards, abandons, drops}
use Rattle.part_spec.specs.BindTurn.{answered as bind_answered, missed_letters as missed_bind_letters}
use Rattle.part_spec.specs.Gives.{connection_gives}
use Rattle.lload_laws.proofs.ListLaws.{found}
use Rattle.part_laws.proofs.ListLaws.{not_true}
use Rattle.connection_laws.proofs.Rows.{is_sound, no_bind}
use Rattle.connection_laws.proofs.Apart.{are_apart}
use Rattle.connection_laws.proofs.Pieces.{marked_up}
use Rattle.connection_laws.proofs.Makes.{tail_none}
use Rattle.connection_laws.proofs.Regular.{none_sound, and_not}
use Rattle.connection_laws.proofs.RegularTurns.{bind_names_none}
use Rattle.connection_laws.proofs.RegularRowsGive.{abandoned_none, one_abandoned, bad_rows, bad_other, down_same}
use Rattle.connection_laws.proofs.Giving.{GivesTurn, giving_gives, alone_gives}

not_left : (a b : Bool) → a ≡ false → (a && b) ≡ false
not_left true b h = absurd (let bad : true ≡ false = h in cc)
not_left false b h = refl

module _ (s : Settings) (u at : ℕ) where
  -- the beginning
  pub link_gives : (p : ConnectionState) → GivesTurn s p u at None (link_up s p).whats (link_up s p).letters
  link_gives p = by s.own_bind
    where
      begin_act : Option OwnBind → Act
      begin_act o = also (act (what.Linked ∷ []) []) (elim o [ None ↦ comes_up p | Some own ↦ act (giving s p.ids.next (what.Own p.ids.next (simple_bind own.dn own.credentials))) (retires s p p.ids.next) ])

      linked : ConnectionState
      linked = step_connection s p (marked_up u at None what.Linked)

      by : (o : Option OwnBind) → GivesTurn s p u at None (begin_act o).whats (begin_act o).letters
      by None = refl
      by (Some own) = ap (connection_gives s (step_connection s p (marked_up u at None what.Linked))) (tail_none (entries_of (Connection u) at (giving s p.ids.next (what.Own p.ids.next (simple_bind own.dn own.credentials))))) ∙ giving_gives s u at (step_connection s p (marked_up u at None what.Linked)) None (what.Own p.ids.next (simple_bind own.dn own.credentials)) p.ids.next [] (abandoned_none (step_connection s p (marked_up u at None what.Linked)) (simple_bind own.dn own.credentials) p.rows (bind_names_none own.dn own.credentials p.rows))

  -- A message.
  module _ (p : ConnectionState) (kind : p.kind ≡ Regular) (place : List Entry) (sound : list_all (is_sound u place) p.rows ≡ true) (apart : are_apart p.rows ≡ true) (id : ℕ) (rest : List ℕ) where
    abbrev m : Message
    m = record { id = id; rest = rest }

    abbrev got : ConnectionState
    got = step_connection s p (marked_up u at None (what.Got id rest))

    abbrev letters_by : Bool → ConnKind → List Posted
    letters_by b k = letters_alone (elim b [ true ↦ goes_down p Bad | false ↦ elim k [ Regular ↦ answered p at m | BindKind ↦ bind_answered s p m ] ])

    -- no row's message lets a holder go
    none_go : list_any (lets_go m) p.rows ≡ false
    none_go = none_sound u place (lets_go m) p.rows (λ r k. not_left (is_bind_row r) _ (not_true (is_bind_row r) (no_bind u place r k))) sound

    holder_stays : (got).holder ≡ p.holder
    holder_stays = ap (λ b. if b then None else p.holder) (and_not (not (is_under_own p id)) (list_any (lets_go m) p.rows) (ap not none_go))

    -- what the end gives behind a message that leaves the rows
    down_behind : (if is_under_own p id then p.rows else flat_map (behind_message at m) p.rows) ≡ p.rows → down_letters got ≡ down_letters p
    down_behind rows = down_same got p refl refl rows holder_stays

    bad_left : is_bad (message_facts p) m ≡ true → (if is_under_own p id then p.rows else flat_map (behind_message at m) p.rows) ≡ p.rows
    bad_left h = by (is_under_own p id) refl
      where
        by : (b : Bool) → is_under_own p id ≡ b → (if b then p.rows else flat_map (behind_message at m) p.rows) ≡ p.rows
        by true e = refl
        by false e = bad_rows at m u place p.rows apart sound (λ x f. sym (ap (is_bad_for (message_facts p) m) f) ∙ bad_other p m e h)

    up_gives : letters_by (is_bad (message_facts p) m) p.kind ≡ [] → GivesTurn s p u at None (what.Got id rest ∷ what.Up ∷ []) (to Desk (IsUp p.number))
    up_gives e = ap (λ l. l ++ to Desk (IsUp p.number)) e

    down_gives : (why : EndWhy) → letters_by (is_bad (message_facts p) m) p.kind ≡ [] → (if is_under_own p id then p.rows else flat_map (behind_message at m) p.rows) ≡ p.rows → GivesTurn s p u at None (what.Got id rest ∷ what.Down why ∷ []) (down_letters p)
    down_gives why e rows = ap (λ l. l ++ (down_letters got ++ [])) e ∙ append-nil (down_letters got) ∙ down_behind rows

    -- what stands behind it, by its tests
    abbrev rows_act : Option UpRow → Act
    rows_act o = elim o [ None ↦ nothing | Some r ↦ row_answer p at m r ]

    abbrev then_act : Option UpRow → Bool → Act
    then_act o w = elim w [ true ↦ own_answer p m | false ↦ rows_act o ]

    abbrev own_act : Bool → Act
    own_act c = elim c [ true ↦ comes_up p | false ↦ goes_down p OwnBindFailed ]

    abbrev reply_act : UpRow → Bool → Act
    reply_act r b = elim b [ false ↦ act [] (reply r.op rest false None) | true ↦ act [] (reply r.op rest true None ++ ended p r.op (latency at r)) ]

    reply_quiet : (r : UpRow) (b : Bool) → (reply_act r b).whats ≡ []
    reply_quiet r true = refl
    reply_quiet r false = refl

    then_gives : (o : Option UpRow) (w : Bool) → is_under_own p id ≡ w → letters_by (is_bad (message_facts p) m) p.kind ≡ letters_alone (then_act o w) → GivesTurn s p u at None (what.Got id rest ∷ (then_act o w).whats) (then_act o w).letters
    then_gives o true under e = by (has_code 0 rest) e
      where
        by : (c : Bool) → letters_by (is_bad (message_facts p) m) p.kind ≡ letters_alone (own_act c) → GivesTurn s p u at None (what.Got id rest ∷ (own_act c).whats) (own_act c).letters
        by true k = up_gives k
        by false k = down_gives OwnBindFailed k (ap (λ b. if b then p.rows else flat_map (behind_message at m) p.rows) under)
    then_gives None false under e = alone_gives s u at p id rest nothing e refl
    then_gives (Some r) false under e = alone_gives s u at p id rest (row_answer p at m r) e (reply_quiet r (is_final r.kind rest))

    pub message_gives : GivesTurn s p u at None (message p at m).whats (message p at m).letters
    message_gives = by (is_bad (message_facts p) m) refl
      where
        taken_act : Bool → Act
        taken_act b = elim b [ true ↦ goes_down p Bad | false ↦ answered p at m ]

        by : (b : Bool) → is_bad (message_facts p) m ≡ b → GivesTurn s p u at None (what.Got id rest ∷ (taken_act b).whats) (taken_act b).letters
        by true e = down_gives Bad (ap (λ b. letters_by b p.kind) e) (bad_left e)
        by false e = then_gives (find (is_under id) p.rows) (is_under_own p id) refl (ap (λ b. letters_by b p.kind) e ∙ ap (letters_by false) kind)

  -- The letters.
  module _ (p : ConnectionState) (kind : p.kind ≡ Regular) where
    pub forward_gives : (sender : PartName) (op holder : OpName) (sort : OpKind) (rest : List ℕ) (ask_who : Bool) → GivesTurn s p u at (Some (record { sender = sender; letter = Forward op sort rest ask_who holder })) (forwards s p op rest).whats (forwards s p op rest).letters
    forward_gives sender op holder sort rest ask_who = by (is_stopped p)
      where
        mark : Option Taken
        mark = Some (record { sender = sender; letter = Forward op sort rest ask_who holder })

        forward_act : Bool → Act
        forward_act b = elim b [ true ↦ act (what.Missed op ∷ []) (missed_letters p op) | false ↦ act (giving s (id_for p.ids) (what.Sent (id_for p.ids) op rest)) (retires s p (id_for p.ids)) ]

        by : (b : Bool) → GivesTurn s p u at (Some (record { sender = sender; letter = Forward op sort rest ask_who holder })) (forward_act b).whats (forward_act b).letters
        by true = ap (λ k. (elim k [ Regular ↦ missed_letters p op | BindKind ↦ missed_bind_letters p op holder ]) ++ []) kind ∙ append-nil (missed_letters p op)
        by false = giving_gives s u at p (Some (record { sender = sender; letter = Forward op sort rest ask_who holder })) (what.Sent (id_for p.ids) op rest) (id_for p.ids) [] refl

    -- the end of a row's operation
    row_end : (r : UpRow) → row_ended p r None ≡ ended p r.op None
    row_end r = ap (λ k. elim (is_bind (record p { kind = k })) [ true ↦ [] | false ↦ ended p r.op None ]) kind

    pub drop_gives : (mark : Option Taken) (op : OpName) (place : List Entry) → list_all (is_sound u place) p.rows ≡ true → are_apart p.rows ≡ true → GivesTurn s p u at mark (drops s p op).whats (drops s p op).letters
    drop_gives mark op place sound apart = by (row_named p op) refl
      where
        drop_act : Option UpRow → Act
        drop_act o = elim o [ None ↦ act (what.Idle op ∷ []) [] | Some r ↦ abandons s p r ]

        by : (o : Option UpRow) → row_named p op ≡ o → GivesTurn s p u at mark (drop_act o).whats (drop_act o).letters
        by None e = refl
        by (Some r) e = giving_gives s u at p mark (what.Own p.ids.next (abandon r.id)) p.ids.next (ended p r.op None) (one_abandoned p op r p.rows apart e (no_bind u place r (found (is_sound u place) (λ q. same_op op q.op) p.rows r e sound)) ∙ row_end r)
