-- The rules of a bind connection: each makes a turn of permitted entries.
use Rattle.std.proofs.Common.{◌≡◌, ℕ, Bool, true, false, ◌==◌, ◌&&◌, ◌||◌, not, List, [], ◌∷◌, ◌++◌, flat_map, refl, ap, ◌∙◌, sym, subst}
use Rattle.std.specs.Prelude.{Option, Some, None, find, cond, is_some, nat_le, if◌then◌else◌, is_none}
use Rattle.std.specs.List.{list_any}
use Rattle.std.specs.Str.{bytes_eq}
use Rattle.ldap_spec.specs.Messages.{Message}
use Rattle.ldap_spec.specs.Kinds.{tag_of}
use Rattle.ldap_spec.specs.Responses.{has_code}
use Rattle.ldap_spec.specs.Bodies.{who_am_i}
use Rattle.lload_names.specs.declared.names.Entry.{Entry}
use Rattle.lload_names.specs.declared.names.OpName.{OpName}
use Rattle.lload_names.specs.declared.names.OpKind.{OpKind}
use Rattle.lload_names.specs.declared.names.ConnKind.TheVariants.{Bind as BindKind}
use Rattle.lload_names.specs.declared.names.EndWhy.TheVariants.{Bad, OwnBind as OwnBindFailed, TimedOut, Unfinished}
use Rattle.lload_names.specs.declared.names.PartName.{PartName}
use Rattle.lload_names.specs.declared.names.Letter.TheVariants.{Forward, Leave}
use Rattle.lload_names.specs.declared.names.What.{What}
use Rattle.lload_names.specs.declared.names.What.TheVariants as what
use Rattle.lload_spec.specs.Lists.{passes, first_passes, last_passes, agrees, implies}
use Rattle.lload_spec.specs.Settings.{Settings, is_kind, place_at}
use Rattle.lload_spec.specs.Journal.{same_op}
use Rattle.lload_spec.specs.Entries.{is_up, is_retired, is_down_by, is_own, expired_op}
use Rattle.lload_spec.specs.Identifiers.{id_for}
use Rattle.lload_spec.specs.Pauses.{is_waiting}
use Rattle.lload_spec.specs.BadMessages.{is_bad}
use Rattle.lload_spec.specs.OneEach.{begins_with_bind, is_own_bind, is_bind_due}
use Rattle.part_spec.specs.Marked.{Marked, Taken, entries}
use Rattle.part_spec.specs.Inputs.{Act, act, nothing}
use Rattle.part_spec.specs.ConnectionState.{UpRow, is_bind, is_bind_row, is_stopped, is_under_own, is_abandoned_by, behind_message, freed_id, message_facts, row_named, ConnectionState}
use Rattle.part_spec.specs.ConnectionTurn.{giving, goes_down, is_due, retires}
use Rattle.part_spec.specs.BindTurn.{link_up, message, answered, forwards, leaves, holds, expires, ticks, missed_letters}
use Rattle.part_spec.specs.Fit.{ConnectionLedger, step_connection_ledger, is_forward_of, is_free_for}
use Rattle.part_spec.specs.Share.{succeeds, is_who_awaited}
use Rattle.lload_spec.proofs.Growth.{left, both}
use Rattle.lload_laws.proofs.ListLaws.{bytes_same}
use Rattle.part_laws.proofs.ListLaws.{or_left, or_right, le_same, last_push, same_op_refl}
use Rattle.connection_laws.proofs.ConnectionSays.{got_next}
use Rattle.connection_laws.proofs.Permits.{Permit, Chain, UpStands, push_entry}
use Rattle.connection_laws.proofs.Pieces.{up_entry, marked_up, no_name, implies_true, permit_end, permit_down, permit_up, permit_idle, permit_missed}
use Rattle.connection_laws.proofs.MorePieces.{permit_got, permit_expired}
use Rattle.connection_laws.proofs.Makes.{Makes, turn_of, chain_cons, giving_first, gives_own, gives_sent, not_ended, permit_linked}
use Rattle.connection_laws.proofs.OwnBinds.{is_single}
use Rattle.bind_laws.proofs.Lone.{BindStands, is_lone}
use Rattle.bind_laws.proofs.Meets.{Answers, answers, not_own, bad_is_none, success_waits}

-- The rules by their tests.
abbrev pub message_act : Settings → ConnectionState → Message → Bool → Act
message_act s p m b = elim b [ true ↦ goes_down p Bad | false ↦ answered s p m ]

abbrev pub forward_act : Settings → ConnectionState → OpName → List ℕ → OpName → Bool → Act
forward_act s p op rest holder b = elim b [ true ↦ act (what.Missed op ∷ []) (missed_letters p op holder) | false ↦ act (giving s (id_for p.ids) (what.Sent (id_for p.ids) op rest)) (retires s p (id_for p.ids)) ]

abbrev pub leave_act : ConnectionState → OpName → Bool → Act
leave_act p holder b = elim b [ true ↦ goes_down p Unfinished | false ↦ act (what.Idle holder ∷ []) [] ]

abbrev pub tick_act : ConnectionState → Option UpRow → Act
tick_act p o = elim o [ None ↦ nothing | Some r ↦ expires p r ]

-- Who Am I abandons none
pub who_names_none : (rows : List UpRow) → list_any (is_abandoned_by who_am_i) rows ≡ false
who_names_none [] = refl
who_names_none (r ∷ rows) = ap (λ b. b || list_any (is_abandoned_by who_am_i) rows) (none (not (is_bind_row r))) ∙ who_names_none rows
  where
    none : (b : Bool) → (b && false) ≡ false
    none true = refl
    none false = refl

module _ (s : Settings) (before : List Marked) (l : ConnectionLedger) (at : ℕ) (later : nat_le l.state.moment at ≡ true) (linked : l.state.linked ≡ true) (h : BindStands l.state) where
  bind_is : is_bind l.state ≡ true
  bind_is = ap (is_kind BindKind) h.kind

  -- A message.
  module _ (there : l.state.down ≡ false) (begins : begins_with_bind s l.state.number ≡ false) (own : l.state.own_bind ≡ None) (m : Message) where
    got : What
    got = what.Got m.id m.rest

    no_answer : (test : List ℕ → Bool) → (is_under_own l.state m.id && tag_of m.rest == 0x61 && test m.rest) ≡ false
    no_answer test = ap (λ c. c && tag_of m.rest == 0x61 && test m.rest) (not_own l.state own m)

    got_permit : (d : List Marked) → implies (list_any (succeeds m) l.state.rows) (first_passes (is_own who_am_i) (entries d)) ≡ true → implies (is_bad (message_facts l.state) m) (first_passes (is_down_by Bad) (entries d)) ≡ true → first_passes (λ e. is_up e.what) (entries d) ≡ false → first_passes (λ e. is_retired e.what) (entries d) ≡ false → first_passes (is_down_by OwnBindFailed) (entries d) ≡ false → Permit s before l (marked_up l.state.number at None (what.Got m.id m.rest)) d
    got_permit d who bad up retired other = permit_got s l.state.number before l at later linked m d there (ap is_waiting h.quiet) who bad (ap (λ c. agrees c (first_passes (λ e. is_up e.what) (entries d))) (no_answer (has_code 0)) ∙ ap (agrees false) up) retired (ap (λ c. agrees c (first_passes (is_down_by OwnBindFailed) (entries d))) (no_answer (λ r. not (has_code 0 r))) ∙ ap (agrees false) other)

    got_bad : is_bad (message_facts l.state) m ≡ true → Makes s before l at None (what.Got m.id m.rest ∷ what.Down Bad ∷ [])
    got_bad e = ((got_permit (marked_up l.state.number at None (what.Down Bad) ∷ []) (ap (λ b. implies b false) (bad_is_none s l.state own h.lone m e)) (implies_true (is_bad (message_facts l.state) m)) refl refl refl, (permit_down s l.state.number (before ++ marked_up l.state.number at None (what.Got m.id m.rest) ∷ []) (step_connection_ledger s l (marked_up l.state.number at None (what.Got m.id m.rest))) at (le_same at) linked Bad refl there refl, tt)), (refl, refl, refl))

    got_alone : is_bad (message_facts l.state) m ≡ false → list_any (succeeds m) l.state.rows ≡ false → Makes s before l at None (what.Got m.id m.rest ∷ [])
    got_alone good none = ((got_permit [] (ap (λ b. implies b false) none) (ap (λ b. implies b false) good) refl refl refl, tt), (refl, refl, refl))

    -- a success that is kept back, and Who Am I directly behind it
    got_success : is_bad (message_facts l.state) m ≡ false → list_any (succeeds m) l.state.rows ≡ true → Makes s before l at None (what.Got m.id m.rest ∷ giving s l.state.ids.next (what.Own l.state.ids.next who_am_i))
    got_success good success = (chain_cons s before l l.state.number at None (what.Got m.id m.rest) (giving s l.state.ids.next (what.Own l.state.ids.next who_am_i)) (got_permit (turn_of l.state.number at None (giving s l.state.ids.next (what.Own l.state.ids.next who_am_i))) (ap (implies (list_any (succeeds m) l.state.rows)) (first (is_own who_am_i) ∙ bytes_same who_am_i) ∙ implies_true (list_any (succeeds m) l.state.rows)) (ap (λ b. implies b (first_passes (is_down_by Bad) (entries (turn_of l.state.number at None (giving s l.state.ids.next (what.Own l.state.ids.next who_am_i)))))) good) (first (λ e. is_up e.what)) (first (λ e. is_retired e.what)) (first (is_down_by OwnBindFailed))) (subst (λ n. Chain s place led (turn_of l.state.number at None (giving s n (what.Own n who_am_i)))) next asks.0), (refl, refl, refl))
      where
        first : (t : Entry → Bool) → first_passes t (entries (turn_of l.state.number at None (giving s l.state.ids.next (what.Own l.state.ids.next who_am_i)))) ≡ t (up_entry l.state.number at (what.Own l.state.ids.next who_am_i))
        first t = giving_first s l.state.number at l.state.ids.next (what.Own l.state.ids.next who_am_i) t

        led : ConnectionLedger
        led = step_connection_ledger s l (marked_up l.state.number at None (what.Got m.id m.rest))

        place : List Marked
        place = before ++ marked_up l.state.number at None (what.Got m.id m.rest) ∷ []

        next : led.state.ids.next ≡ l.state.ids.next
        next = got_next l.state (is_under_own l.state m.id) (flat_map (freed_id at m) l.state.rows)

        awaited : list_any is_who_awaited led.state.rows ≡ true
        awaited = ap (λ b. list_any is_who_awaited (if b then l.state.rows else flat_map (behind_message at m) l.state.rows)) (not_own l.state own m) ∙ success_waits s l.state own h.lone m at success

        who : Entry
        who = up_entry l.state.number at (what.Own led.state.ids.next who_am_i)

        asks : Makes s place led at None (giving s led.state.ids.next (what.Own led.state.ids.next who_am_i))
        asks = gives_own s place led at (le_same at) linked there None who_am_i (ap not (who_names_none led.state.rows)) refl (ap (λ b. b && led.state.ids.next == 1 && is_own_bind s (up_entry l.state.number at (what.Own led.state.ids.next who_am_i))) begins ∙ sym (ap (λ b. b && is_single (entries place) && is_own_bind s (up_entry l.state.number at (what.Own led.state.ids.next who_am_i))) begins)) (or_left (is_own_bind s (up_entry l.state.number at (what.Own led.state.ids.next who_am_i)) && last_passes (is_bind_due s l.state.number) (entries place) || bytes_eq who_am_i who_am_i && list_any is_who_awaited led.state.rows) _ (or_right (is_own_bind s (up_entry l.state.number at (what.Own led.state.ids.next who_am_i)) && last_passes (is_bind_due s l.state.number) (entries place)) _ (both (bytes_eq who_am_i who_am_i) _ (bytes_same who_am_i) awaited))) (λ i j. no_name j)

    -- a message makes a turn of permitted entries
    pub makes_message : Makes s before l at None (message s l.state m).whats
    makes_message = by (is_bad (message_facts l.state) m) refl
      where
        good : is_bad (message_facts l.state) m ≡ false → (b : Bool) → list_any (succeeds m) l.state.rows ≡ b → Answers s l.state b (answered s l.state m) → Makes s before l at None (what.Got m.id m.rest ∷ (answered s l.state m).whats)
        good e true k a = subst (λ x. Makes s before l at None (what.Got m.id m.rest ∷ x.whats)) (sym a) (got_success e k)
        good e false k a = subst (λ ws. Makes s before l at None (what.Got m.id m.rest ∷ ws)) (sym a) (got_alone e k)

        by : (b : Bool) → is_bad (message_facts l.state) m ≡ b → Makes s before l at None (what.Got m.id m.rest ∷ (message_act s l.state m b).whats)
        by true e = got_bad e
        by false e = good e (list_any (succeeds m) l.state.rows) refl (answers s l.state own h.lone m e)

  -- The letters.
  module _ (sender : PartName) where
    -- a Forward
    pub makes_forward : (op holder : OpName) (kind : OpKind) (rest : List ℕ) (ask_who : Bool) → l.state.up ≡ true → list_any (λ t. is_forward_of op t.letter) l.taken ≡ false → is_free_for l.state holder ≡ true → Makes s before l at (Some (record { sender = sender; letter = Forward op kind rest ask_who holder })) (forwards s l.state op rest holder).whats
    makes_forward op holder kind rest ask_who up new free = by (is_stopped l.state) refl
      where
        mark : Option Taken
        mark = Some (record { sender = sender; letter = Forward op kind rest ask_who holder })

        stopped_or : (a b : Bool) → (a || b) ≡ false → b ≡ false
        stopped_or true b e = absurd (let bad : true ≡ false = e in cc)
        stopped_or false b e = e

        by : (b : Bool) → is_stopped l.state ≡ b → Makes s before l at (Some (record { sender = sender; letter = Forward op kind rest ask_who holder })) (forward_act s l.state op rest holder b).whats
        by true e = ((permit_missed s l.state.number before l at later linked mark op (both (same_op op op) _ (same_op_refl op) e) refl e, tt), (refl, refl, refl))
        by false e = gives_sent s before l at later linked (stopped_or l.state.retired l.state.down e) mark op rest (both (same_op op op && bytes_eq rest rest) _ (both (same_op op op) _ (same_op_refl op) (bytes_same rest)) (ap not e)) refl (ap (implies (is_bind l.state)) free ∙ implies_true (is_bind l.state)) up e new

    -- a Leave
    pub makes_leave : (holder : OpName) → Makes s before l at (Some (record { sender = sender; letter = Leave holder })) (leaves l.state holder).whats
    makes_leave holder = by (holds l.state holder) l.state.down refl refl
      where
        mark : Option Taken
        mark = Some (record { sender = sender; letter = Leave holder })

        end_fits : holds l.state holder ≡ true → l.state.down ≡ false → (is_bind l.state && holds l.state holder && not l.state.down) ≡ true
        end_fits e d = both (is_bind l.state && holds l.state holder) _ (both (is_bind l.state) _ bind_is e) (ap not d)

        idle_act : (holds l.state holder && not l.state.down) ≡ false → holds l.state holder ≡ false → Makes s before l at (Some (record { sender = sender; letter = Leave holder })) (what.Idle holder ∷ [])
        idle_act none e = ((permit_idle s l.state.number before l at later linked mark holder (both (same_op holder holder && is_bind l.state) _ (both (same_op holder holder) _ (same_op_refl holder) bind_is) (ap not none)) refl (ap (λ b. if b then not (holds l.state holder) else is_none (row_named l.state holder)) bind_is ∙ ap not e), tt), (refl, refl, refl))

        nobody : l.state.down ≡ true → holds l.state holder ≡ false
        nobody d = ap (passes (same_op holder)) (h.gone d)

        by : (a d : Bool) → holds l.state holder ≡ a → l.state.down ≡ d → Makes s before l at (Some (record { sender = sender; letter = Leave holder })) (leave_act l.state holder (a && not d)).whats
        by true false e f = ((permit_end s l.state.number before l at later linked mark Unfinished (end_fits e f) refl f e, tt), (refl, refl, refl))
        by true true e f = absurd (let bad : true ≡ false = sym e ∙ nobody f in cc)
        by false d e f = idle_act (ap (λ b. b && not l.state.down) e) e

  -- A clock step.
  pub makes_tick : l.state.down ≡ false → Makes s before l at None (ticks s l.state at).whats
  makes_tick there = by l.state.rows refl h.lone
    where
      expiry : (r : UpRow) → l.state.rows ≡ r ∷ [] → is_bind_row r ≡ true → is_due s at r ≡ true → Makes s before l at None (what.Expired r.op ∷ what.Down TimedOut ∷ [])
      expiry r e bind due = ((permit_expired s l.state.number before l at later linked r.op r (marked_up l.state.number at None (what.Down TimedOut) ∷ []) there (ap (find (λ q. same_op r.op q.op)) e ∙ ap (λ b. cond b (Some r) None) (same_op_refl r.op)) due (ap (λ b. if b then true else false) bind) refl refl refl, (permit_down s l.state.number place led at (le_same at) linked TimedOut refl there (or_left (is_bind l.state && last_passes (λ x. is_some (expired_op x.what)) (entries place)) _ (both (is_bind l.state) _ bind_is (ap (last_passes (λ x. is_some (expired_op x.what))) (push_entry before (marked_up l.state.number at None (what.Expired r.op))) ∙ ap (λ o. elim o [ None ↦ false | Some x ↦ is_some (expired_op x.what) ]) (last_push (entries before) (up_entry l.state.number at (what.Expired r.op)))))), tt)), (refl, refl, refl))
        where
          led : ConnectionLedger
          led = step_connection_ledger s l (marked_up l.state.number at None (what.Expired r.op))

          place : List Marked
          place = before ++ marked_up l.state.number at None (what.Expired r.op) ∷ []

      by : (rows : List UpRow) → l.state.rows ≡ rows → is_lone rows ≡ true → Makes s before l at None (tick_act l.state (find (is_due s at) rows)).whats
      by [] e k = (tt, (refl, refl, refl))
      by (r ∷ []) e k = one (is_due s at r) refl
        where
          one : (b : Bool) → is_due s at r ≡ b → Makes s before l at None (tick_act l.state (cond b (Some r) None)).whats
          one true due = expiry r e (left (is_bind_row r) _ k) due
          one false due = (tt, (refl, refl, refl))
      by (r ∷ q ∷ rows) e k = absurd (let bad : false ≡ true = k in cc)

-- The beginning.
pub makes_link : (s : Settings) (u : ℕ) (before : List Marked) (l : ConnectionLedger) (at : ℕ) → nat_le l.state.moment at ≡ true → UpStands s u before l → l.state.linked ≡ false → begins_with_bind s l.state.number ≡ false → l.state.own_bind ≡ None → is_some (place_at s l.state.number) ≡ true → Makes s before l at None (link_up l.state).whats
makes_link s u before l at later g unlinked begins own placed = ((permit_linked s u before l at later g unlinked placed (marked_up l.state.number at None what.Up ∷ []) (ap (λ b. implies b (first_passes (is_own_bind s) (entries (marked_up l.state.number at None what.Up ∷ [])))) begins) (ap (λ b. agrees (not b) true) begins) refl refl, (permit_up s l.state.number (before ++ marked_up l.state.number at None what.Linked ∷ []) (step_connection_ledger s l (marked_up l.state.number at None what.Linked)) at (le_same at) refl own (not_ended s u before l at later g unlinked), tt)), (refl, refl, refl))
