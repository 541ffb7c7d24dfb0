-- A clock step of a regular connection: each due operation expires and is abandoned, one behind the other, and a due own
-- Bind takes the connection down.
use Rattle.std.proofs.Common.{◌≡◌, ℕ, suc, Bool, true, false, arith, ◌==◌, ◌&&◌, ◌||◌, not, List, [], ◌∷◌, ◌++◌, refl, ap, ◌∙◌, sym, subst, append_assoc}
use Rattle.std.specs.Prelude.{Option, Some, None, map, filter, flat_map, find, cond, is_some, is_none, max, nat_le, if◌then◌else◌}
use Rattle.std.specs.List.{list_any, list_all}
use Rattle.std.specs.Str.{bytes_eq}
use Rattle.std.proofs.lemmas.List.{map-append}
use Rattle.ldap_spec.specs.Bodies.{abandon, who_am_i}
use Rattle.lload_names.specs.declared.names.Entry.{Entry}
use Rattle.lload_names.specs.declared.names.OpName.{OpName}
use Rattle.lload_names.specs.declared.names.ConnKind.TheVariants.{Bind as BindKind}
use Rattle.lload_names.specs.declared.names.EndWhy.TheVariants.{OwnBind as OwnBindFailed, TimedOut}
use Rattle.lload_names.specs.declared.names.PartName.TheVariants.{Up as Connection}
use Rattle.lload_names.specs.declared.names.What.{What}
use Rattle.lload_names.specs.declared.names.What.TheVariants as what
use Rattle.lload_spec.specs.Lists.{passes, first_passes, last_passes}
use Rattle.lload_spec.specs.Settings.{Settings, is_kind}
use Rattle.lload_spec.specs.Journal.{same_op}
use Rattle.lload_spec.specs.Entries.{is_up, is_retired, is_down_by, is_own, is_expired}
use Rattle.lload_spec.specs.Answers.{Sending, sendings}
use Rattle.lload_spec.specs.OneEach.{begins_with_bind, is_own_bind, is_bind_due}
use Rattle.lload_spec.specs.CausedUp.{is_past}
use Rattle.part_spec.specs.Marked.{Marked}
use Rattle.part_spec.specs.Inputs.{entries_of}
use Rattle.part_spec.specs.ConnectionState.{ConnectionState, UpRow, Kept, row_named, is_bind, is_bind_row, is_abandoned_by, behind_own, is_first_bind}
use Rattle.part_spec.specs.ConnectionTurn.{is_due, giving, goes_down, where_so}
use Rattle.part_spec.specs.RegularTurn.{expire, ticks, is_own_due}
use Rattle.part_spec.specs.Fit.{ConnectionLedger, step_connection_ledger, ledger_behind as behind}
use Rattle.part_spec.specs.Share.{has_reason, is_who_awaited, is_bind_expired}
use Rattle.part_spec.specs.Marked.{entries}
use Rattle.lload_spec.proofs.Growth.{left, right, both}
use Rattle.lload_laws.proofs.ListLaws.{any_imply, all_imply, found, bytes_same}
use Rattle.part_laws.proofs.ListLaws.{or_right, not_true, false_by, same_number, same_op_eq, same_op_sym, same_op_refl, none_of_both, le_same, last_push, eqb_sym, eq_eqb}
use Rattle.connection_laws.proofs.Permits.{Chain, UpStands, push_entry, stands_through}
use Rattle.connection_laws.proofs.Clauses.{Opens}
use Rattle.connection_laws.proofs.Rows.{is_sound, is_sent_as, sent_stays, marks_no_bind, no_bind, not_kept, all_filter}
use Rattle.connection_laws.proofs.Apart.{RowsApart, are_apart, is_apart, abandon_apart, apart_filter}
use Rattle.connection_laws.proofs.ApartTurns.{names_first, apart_through}
use Rattle.connection_laws.proofs.Pieces.{up_entry, marked_up, chain_append, permit_down}
use Rattle.connection_laws.proofs.MorePieces.{permit_expired}
use Rattle.connection_laws.proofs.Makes.{Makes, gives_own, tail_none}
use Rattle.connection_laws.proofs.RegularLetters.{abandon_first, abandon_no_bind, and_none}
use Rattle.connection_laws.proofs.Through.{number_through, kind_through}
use Rattle.connection_laws.proofs.RegularTurns.{rows_through}

-- The rows that are found by their names.
abbrev pub NamedDue : Settings → ℕ → List UpRow → List UpRow → Type 0
NamedDue s at rows [] = Unit {0}
NamedDue s at rows (r ∷ rs) = (find (λ q. same_op r.op q.op) rows ≡ Some r) × (is_due s at r ≡ true) × NamedDue s at rows rs

-- each row that is apart from the others is found by its name
abbrev NamedIn : List UpRow → List UpRow → Type 0
NamedIn rows [] = Unit {0}
NamedIn rows (r ∷ rs) = (find (λ q. same_op r.op q.op) rows ≡ Some r) × NamedIn rows rs

named_more : (x : UpRow) (rows rs : List UpRow) → list_all (is_apart x) rs ≡ true → NamedIn rows rs → NamedIn (x ∷ rows) rs
named_more x rows [] h k = tt
named_more x rows (r ∷ rs) h k = (ap (λ b. cond b (Some x) (find (λ q. same_op r.op q.op) rows)) (same_op_sym r.op x.op ∙ not_true (same_op x.op r.op) (left (not (same_op x.op r.op)) _ (left (is_apart x r) _ h))) ∙ k.0, named_more x rows rs (right (is_apart x r) _ h) k.1)

named_apart : (rows : List UpRow) → are_apart rows ≡ true → NamedIn rows rows
named_apart [] h = tt
named_apart (r ∷ rows) h = (ap (λ b. cond b (Some r) (find (λ q. same_op r.op q.op) rows)) (same_op_refl r.op), named_more r rows rows (left (list_all (is_apart r) rows) _ h) (named_apart rows (right (list_all (is_apart r) rows) _ h)))

due_named : (s : Settings) (at : ℕ) (rows rs : List UpRow) → NamedIn rows rs → NamedDue s at rows (filter (is_due s at) rs)
due_named s at rows [] k = tt
due_named s at rows (r ∷ rs) k = more (is_due s at r) refl (due_named s at rows rs k.1)
  where
    more : (b : Bool) → is_due s at r ≡ b → NamedDue s at rows (filter (is_due s at) rs) → NamedDue s at rows (cond b (r ∷ filter (is_due s at) rs) (filter (is_due s at) rs))
    more true e j = (k.0, e, j)
    more false e j = j

pub all_due_named : (s : Settings) (at : ℕ) (rows : List UpRow) → are_apart rows ≡ true → NamedDue s at rows (filter (is_due s at) rows)
all_due_named s at rows h = due_named s at rows rows (named_apart rows h)

-- the rows without an operation, in which another one is found as before
find_without : (op other : OpName) (rows : List UpRow) → same_op op other ≡ false → find (λ q. same_op other q.op) (filter (λ q. not (same_op op q.op)) rows) ≡ find (λ q. same_op other q.op) rows
find_without op other [] h = refl
find_without op other (x ∷ rows) h = more (same_op op x.op) (same_op other x.op) refl refl (find_without op other rows h)
  where
    more : (a b : Bool) → same_op op x.op ≡ a → same_op other x.op ≡ b → find (λ q. same_op other q.op) (filter (λ q. not (same_op op q.op)) rows) ≡ find (λ q. same_op other q.op) rows → find (λ q. same_op other q.op) (cond (not a) (x ∷ filter (λ q. not (same_op op q.op)) rows) (filter (λ q. not (same_op op q.op)) rows)) ≡ cond b (Some x) (find (λ q. same_op other q.op) rows)
    more true true e f k = absurd (let bad : true ≡ false = sym e ∙ ap (λ o. same_op op o) (sym (same_op_eq other x.op f)) ∙ h in cc)
    more true false e f k = k
    more false b e f k = ap (λ c. cond c (Some x) (find (λ q. same_op other q.op) (filter (λ q. not (same_op op q.op)) rows))) f ∙ ap (λ o. cond b (Some x) o) k

-- the rows without an operation have other identifiers
pub other_ids : (r : UpRow) (rows : List UpRow) → are_apart rows ≡ true → find (λ q. same_op r.op q.op) rows ≡ Some r → list_all (λ q. not (r.id == q.id)) (filter (λ q. not (same_op r.op q.op)) rows) ≡ true
other_ids r [] h k = refl
other_ids r (x ∷ rows) h k = more (same_op r.op x.op) k (λ j. other_ids r rows (right (list_all (is_apart x) rows) _ h) j)
  where
    more : (b : Bool) → cond b (Some x) (find (λ q. same_op r.op q.op) rows) ≡ Some r → (find (λ q. same_op r.op q.op) rows ≡ Some r → list_all (λ q. not (r.id == q.id)) (filter (λ q. not (same_op r.op q.op)) rows) ≡ true) → list_all (λ q. not (r.id == q.id)) (cond (not b) (x ∷ filter (λ q. not (same_op r.op q.op)) rows) (filter (λ q. not (same_op r.op q.op)) rows)) ≡ true
    more true e f = let same : x ≡ r = cc in subst (λ y. list_all (λ q. not (y.id == q.id)) (filter (λ q. not (same_op r.op q.op)) rows) ≡ true) same (all_filter (λ q. not (x.id == q.id)) (λ q. not (same_op r.op q.op)) rows (all_imply (is_apart x) (λ q. not (x.id == q.id)) rows (λ q j. right (not (same_op x.op q.op)) _ j) (left (list_all (is_apart x) rows) _ h)))
    more false e f = both (not (r.id == x.id)) _ (ap not (eqb_sym r.id x.id) ∙ right (not (same_op x.op r.op)) _ (found (is_apart x) (λ q. same_op r.op q.op) rows r e (left (list_all (is_apart x) rows) _ h))) (f e)

-- an Abandon of another identifier abandons no row, and leaves the rows
pub other_row : (i : ℕ) (q : UpRow) → not (i == q.id) ≡ true → is_abandoned_by (abandon i) q ≡ false
other_row i q h = ap (λ b. not (is_bind_row q) && b) (false_by (bytes_eq (abandon i) (abandon q.id)) (λ j. sym (not_true (i == q.id) h) ∙ eq_eqb i q.id (abandon_apart i q.id j))) ∙ none (not (is_bind_row q))
  where
    none : (b : Bool) → (b && false) ≡ false
    none true = refl
    none false = refl

pub names_none : (u : ℕ) (place : List Entry) (i : ℕ) (rows : List UpRow) → list_all (is_sound u place) rows ≡ true → list_all (λ q. not (i == q.id)) rows ≡ true → list_any (is_abandoned_by (abandon i)) rows ≡ false
names_none u place i [] h k = refl
names_none u place i (q ∷ rows) h k = ap (λ b. b || list_any (is_abandoned_by (abandon i)) rows) (other_row i q (left (not (i == q.id)) _ k)) ∙ names_none u place i rows (right (is_sound u place q) _ h) (right (not (i == q.id)) _ k)

rows_stay : (u : ℕ) (place : List Entry) (id i : ℕ) (rows : List UpRow) → list_all (is_sound u place) rows ≡ true → list_all (λ q. not (i == q.id)) rows ≡ true → flat_map (behind_own (record { id = id; rest = abandon i })) rows ≡ rows
rows_stay u place id i [] h k = refl
rows_stay u place id i (q ∷ rows) h k = ap (λ l. l ++ flat_map (behind_own (record { id = id; rest = abandon i })) rows) (one q.kept (not_kept u place q (left (is_sound u place q) _ h)) (is_abandoned_by (abandon i) q) (other_row i q (left (not (i == q.id)) _ k))) ∙ ap (λ l. q ∷ l) (rows_stay u place id i rows (right (is_sound u place q) _ h) (right (not (i == q.id)) _ k))
  where
    one : (o : Option Kept) → is_none o ≡ true → (b : Bool) → b ≡ false → (elim (bytes_eq (abandon i) who_am_i && passes (λ x. is_none x.who) o) [ true ↦ record q { kept = elim o [ None ↦ None | Some x ↦ Some (record x { who = Some id }) ] } ∷ [] | false ↦ elim b [ true ↦ [] | false ↦ q ∷ [] ] ]) ≡ q ∷ []
    one (Some x) j b e = absurd (let bad : false ≡ true = j in cc)
    one None j true e = absurd (let bad : true ≡ false = e in cc)
    one None j false e = by (bytes_eq (abandon i) who_am_i)
      where
        by : (a : Bool) → (elim (a && false) [ true ↦ record q { kept = None } ∷ [] | false ↦ q ∷ [] ]) ≡ q ∷ []
        by true = refl
        by false = refl

-- entries without a mark
abbrev pub unmarked : ℕ → ℕ → List What → List Marked
unmarked u at ws = map (λ x. record { entry = x; mark = None }) (entries_of (Connection u) at ws)

pub unmarked_more : (u at : ℕ) (ws vs : List What) → unmarked u at (ws ++ vs) ≡ unmarked u at ws ++ unmarked u at vs
unmarked_more u at ws vs = ap (map (λ x. record { entry = x; mark = None })) (map-append (λ v. up_entry u at v) ws vs) ∙ map-append (λ x. record { entry = x; mark = None }) (entries_of (Connection u) at ws) (entries_of (Connection u) at vs)

pub all_unmarked : (u at : ℕ) (ws : List What) → list_all (λ m. marks_no_bind m.mark) (unmarked u at ws) ≡ true
all_unmarked u at [] = refl
all_unmarked u at (w ∷ ws) = all_unmarked u at ws

next_after : (n : ℕ) → max n (suc n) ≡ suc n
next_after n = omega arith

-- what stands of a regular connection that is there
pub record Stays (s : Settings) (u : ℕ) (at : ℕ) (before : List Marked) (l : ConnectionLedger) : Type 0 where
  pub later : nat_le l.state.moment at ≡ true
  pub stands : UpStands s u before l
  pub linked : l.state.linked ≡ true
  pub there : l.state.down ≡ false
  pub regular : is_bind l.state ≡ false
  pub sound : list_all (is_sound u (entries before)) l.state.rows ≡ true
  pub apart : RowsApart (entries before) l.state

module _ (s : Settings) (u at : ℕ) (before : List Marked) (l : ConnectionLedger) (h : Stays s u at before l) (r : UpRow) (named : row_named l.state r.op ≡ Some r) (due : is_due s at r ≡ true) where
  expired_mark : Marked
  expired_mark = marked_up l.state.number at None (what.Expired r.op)

  row_sound : is_sound u (entries before) r ≡ true
  row_sound = found (is_sound u (entries before)) (λ q. same_op r.op q.op) l.state.rows r named h.sound

  -- the reason of its Abandon
  expired_reason : has_reason s (step_connection_ledger s l (marked_up l.state.number at None (what.Expired r.op))).state (entries (before ++ marked_up l.state.number at None (what.Expired r.op) ∷ [])) (marked_up l.state.number at None (what.Own l.state.ids.next (abandon r.id))) ≡ true
  expired_reason = or_right (is_own_bind s (up_entry l.state.number at (what.Own l.state.ids.next (abandon r.id))) && last_passes (is_bind_due s l.state.number) (entries (before ++ marked_up l.state.number at None (what.Expired r.op) ∷ [])) || is_own who_am_i (up_entry l.state.number at (what.Own l.state.ids.next (abandon r.id))) && list_any is_who_awaited (step_connection_ledger s l (marked_up l.state.number at None (what.Expired r.op))).state.rows) _ (any_imply (λ x. x.id == r.id && same_op r.op x.op) (λ sent. is_own (abandon sent.id) (up_entry l.state.number at (what.Own l.state.ids.next (abandon r.id))) && (is_some (row_named (step_connection_ledger s l (marked_up l.state.number at None (what.Expired r.op))).state sent.op) && false || last_passes (is_expired sent.op) (entries (before ++ marked_up l.state.number at None (what.Expired r.op) ∷ [])))) (sendings l.state.number (entries (before ++ marked_up l.state.number at None (what.Expired r.op) ∷ []))) (λ x k. each x k) sent_there)
    where
      place : entries (before ++ marked_up l.state.number at None (what.Expired r.op) ∷ []) ≡ entries before ++ up_entry l.state.number at (what.Expired r.op) ∷ []
      place = push_entry before (marked_up l.state.number at None (what.Expired r.op))

      sent_there : is_sent_as l.state.number (entries (before ++ marked_up l.state.number at None (what.Expired r.op) ∷ [])) r.id r.op ≡ true
      sent_there = ap (λ es. is_sent_as l.state.number es r.id r.op) place ∙ sent_stays l.state.number (entries before) (up_entry l.state.number at (what.Expired r.op)) r.id r.op (ap (λ w. is_sent_as w (entries before) r.id r.op) h.stands.number ∙ right (not (is_bind_row r) && is_none r.kept) _ row_sound)

      each : (x : Sending) → (x.id == r.id && same_op r.op x.op) ≡ true → (is_own (abandon x.id) (up_entry l.state.number at (what.Own l.state.ids.next (abandon r.id))) && (is_some (row_named (step_connection_ledger s l (marked_up l.state.number at None (what.Expired r.op))).state x.op) && false || last_passes (is_expired x.op) (entries (before ++ marked_up l.state.number at None (what.Expired r.op) ∷ [])))) ≡ true
      each x k =
          let id : x.id ≡ r.id = same_number x.id r.id (left (x.id == r.id) _ k) in
          both (bytes_eq (abandon r.id) (abandon x.id)) _ (ap (λ i. bytes_eq (abandon r.id) (abandon i)) id ∙ bytes_same (abandon r.id)) (or_right (is_some (row_named (step_connection_ledger s l (marked_up l.state.number at None (what.Expired r.op))).state x.op) && false) _ (ap (last_passes (is_expired x.op)) place ∙ ap (λ o. elim o [ None ↦ false | Some e ↦ is_expired x.op e ]) (last_push (entries before) (up_entry l.state.number at (what.Expired r.op))) ∙ same_op_sym x.op r.op ∙ right (x.id == r.id) _ k))

  -- it expires, and is abandoned
  gives_first : (t : Entry → Bool) (b : Bool) → first_passes t (entries (unmarked l.state.number at (elim b [ true ↦ what.Own l.state.ids.next (abandon r.id) ∷ what.Retired ∷ [] | false ↦ what.Own l.state.ids.next (abandon r.id) ∷ [] ]))) ≡ t (up_entry l.state.number at (what.Own l.state.ids.next (abandon r.id)))
  gives_first t true = refl
  gives_first t false = refl

  expires_chain : Chain s before l (unmarked l.state.number at (what.Expired r.op ∷ giving s l.state.ids.next (what.Own l.state.ids.next (abandon r.id))))
  expires_chain = (permit_expired s l.state.number before l at h.later h.linked r.op r (unmarked l.state.number at (giving s l.state.ids.next (what.Own l.state.ids.next (abandon r.id)))) h.there named due (ap (λ b. if b then first_passes (is_down_by TimedOut) (entries (unmarked l.state.number at (giving s l.state.ids.next (what.Own l.state.ids.next (abandon r.id))))) else first_passes (is_own (abandon r.id)) (entries (unmarked l.state.number at (giving s l.state.ids.next (what.Own l.state.ids.next (abandon r.id)))))) (not_true (is_bind_row r) (no_bind u (entries before) r row_sound)) ∙ gives_first (is_own (abandon r.id)) (l.state.ids.next == s.id_limit) ∙ bytes_same (abandon r.id)) (gives_first (λ e. is_up e.what) (l.state.ids.next == s.id_limit)) (gives_first (λ e. is_retired e.what) (l.state.ids.next == s.id_limit)) (gives_first (is_down_by OwnBindFailed) (l.state.ids.next == s.id_limit)), subst (Chain s (before ++ marked_up l.state.number at None (what.Expired r.op) ∷ []) (step_connection_ledger s l (marked_up l.state.number at None (what.Expired r.op)))) (sym (tail_none (entries_of (Connection l.state.number) at (giving s l.state.ids.next (what.Own l.state.ids.next (abandon r.id)))))) (gives_own s (before ++ marked_up l.state.number at None (what.Expired r.op) ∷ []) (step_connection_ledger s l (marked_up l.state.number at None (what.Expired r.op))) at (le_same at) h.linked h.there None (abandon r.id) (ap not (names_none u (entries before) r.id (filter (λ q. not (same_op r.op q.op)) l.state.rows) (all_filter (is_sound u (entries before)) (λ q. not (same_op r.op q.op)) l.state.rows h.sound) (other_ids r l.state.rows h.apart.apart named))) refl (abandon_first s (step_connection_ledger s l (marked_up l.state.number at None (what.Expired r.op))).state (entries (before ++ marked_up l.state.number at None (what.Expired r.op) ∷ [])) l.state.number at l.state.ids.next r.id) expired_reason (λ i j. (ap (list_any (is_own (abandon i))) (push_entry before (marked_up l.state.number at None (what.Expired r.op))) ∙ none_of_both (is_own (abandon i)) (entries before) (up_entry l.state.number at (what.Expired r.op) ∷ []) (names_first (entries before) l.state (λ q. same_op r.op q.op) r h.apart named i j).0 refl, (names_first (entries before) l.state (λ q. same_op r.op q.op) r h.apart named i j).1, (names_first (entries before) l.state (λ q. same_op r.op q.op) r h.apart named i j).2))).0)

  -- the state behind it
  abbrev led : Bool → ConnectionLedger
  led b = behind (step_connection_ledger s) l (unmarked l.state.number at (what.Expired r.op ∷ (elim b [ true ↦ what.Own l.state.ids.next (abandon r.id) ∷ what.Retired ∷ [] | false ↦ what.Own l.state.ids.next (abandon r.id) ∷ [] ])))

  rows_left : flat_map (behind_own (record { id = l.state.ids.next; rest = abandon r.id })) (filter (λ q. not (same_op r.op q.op)) l.state.rows) ≡ filter (λ q. not (same_op r.op q.op)) l.state.rows
  rows_left = rows_stay u (entries before) l.state.ids.next r.id (filter (λ q. not (same_op r.op q.op)) l.state.rows) (all_filter (is_sound u (entries before)) (λ q. not (same_op r.op q.op)) l.state.rows h.sound) (other_ids r l.state.rows h.apart.apart named)

  not_first : (p : ConnectionState) → is_first_bind s p (up_entry l.state.number at (what.Own l.state.ids.next (abandon r.id))) ≡ false
  not_first p = and_none (begins_with_bind s p.number) (p.ids.next == 1) (is_own_bind s (up_entry l.state.number at (what.Own l.state.ids.next (abandon r.id)))) (abandon_no_bind s l.state.number at l.state.ids.next r.id)

  pub left_rows : (b : Bool) → (led b).state.rows ≡ filter (λ q. not (same_op r.op q.op)) l.state.rows
  left_rows true = rows_left
  left_rows false = rows_left

  pub left_own : (b : Bool) → (led b).state.own_bind ≡ l.state.own_bind
  left_own true = ap (λ c. if c then Some (record { id = l.state.ids.next; at = at }) else l.state.own_bind) (not_first (step_connection_ledger s l (marked_up l.state.number at None (what.Expired r.op))).state)
  left_own false = ap (λ c. if c then Some (record { id = l.state.ids.next; at = at }) else l.state.own_bind) (not_first (step_connection_ledger s l (marked_up l.state.number at None (what.Expired r.op))).state)

  left_linked : (b : Bool) → (led b).state.linked ≡ true
  left_linked true = h.linked
  left_linked false = h.linked

  left_there : (b : Bool) → (led b).state.down ≡ false
  left_there true = h.there
  left_there false = h.there

  pub left_next : (b : Bool) → (led b).state.ids.next ≡ suc l.state.ids.next
  left_next true = next_after l.state.ids.next
  left_next false = next_after l.state.ids.next

  left_later : (b : Bool) → nat_le (led b).state.moment at ≡ true
  left_later true = le_same at
  left_later false = le_same at

  -- what stands behind it
  pub expires_stays : Stays s u at (before ++ unmarked l.state.number at (what.Expired r.op ∷ giving s l.state.ids.next (what.Own l.state.ids.next (abandon r.id)))) (led (l.state.ids.next == s.id_limit))
  expires_stays =
      record {
        later = left_later (l.state.ids.next == s.id_limit);
        stands = stands_through s u turn before l h.stands expires_chain;
        linked = left_linked (l.state.ids.next == s.id_limit);
        there = left_there (l.state.ids.next == s.id_limit);
        regular = ap (is_kind BindKind) (kind_through s turn l) ∙ h.regular;
        sound = rows_through s u turn before l expires_chain (all_unmarked l.state.number at (what.Expired r.op ∷ giving s l.state.ids.next (what.Own l.state.ids.next (abandon r.id)))) h.sound;
        apart = apart_through s u turn before l h.stands expires_chain (all_unmarked l.state.number at (what.Expired r.op ∷ giving s l.state.ids.next (what.Own l.state.ids.next (abandon r.id)))) h.sound h.apart;
      }
    where
      turn : List Marked
      turn = unmarked l.state.number at (what.Expired r.op ∷ giving s l.state.ids.next (what.Own l.state.ids.next (abandon r.id)))

-- the others are found behind it
pub named_left : (s : Settings) (at : ℕ) (r : UpRow) (rows rs : List UpRow) → list_all (is_apart r) rs ≡ true → NamedDue s at rows rs → NamedDue s at (filter (λ q. not (same_op r.op q.op)) rows) rs
named_left s at r rows [] h k = tt
named_left s at r rows (x ∷ rs) h k = (find_without r.op x.op rows (not_true (same_op r.op x.op) (left (not (same_op r.op x.op)) _ (left (is_apart r x) _ h))) ∙ k.0, k.1, named_left s at r rows rs (right (is_apart r x) _ h) k.2)

-- what the due rows make, and then what comes behind
abbrev pub due_whats : Settings → ℕ → List UpRow → List What → List What
due_whats s id [] vs = vs
due_whats s id (r ∷ rs) vs = what.Expired r.op ∷ (giving s id (what.Own id (abandon r.id)) ++ due_whats s (suc id) rs vs)

pub expire_is : (s : Settings) (p : ConnectionState) (id : ℕ) (rs : List UpRow) (vs : List What) → (expire s p id rs).whats ++ vs ≡ due_whats s id rs vs
expire_is s p id [] vs = refl
expire_is s p id (r ∷ rs) vs = ap (λ l. what.Expired r.op ∷ l) (append_assoc (giving s id (what.Own id (abandon r.id))) (expire s p (suc id) rs).whats vs ∙ ap (λ l. giving s id (what.Own id (abandon r.id)) ++ l) (expire_is s p (suc id) rs vs))

-- each due row expires in turn
expire_chain : (s : Settings) (u at : ℕ) (rs : List UpRow) (vs : List What) (n id : ℕ) (before : List Marked) (l : ConnectionLedger) → Stays s u at before l → l.state.number ≡ n → l.state.ids.next ≡ id → NamedDue s at l.state.rows rs → are_apart rs ≡ true → Opens (unmarked n at vs) → ((b : List Marked) (k : ConnectionLedger) → Stays s u at b k → k.state.own_bind ≡ l.state.own_bind → k.state.number ≡ n → Chain s b k (unmarked n at vs)) → Chain s before l (unmarked n at (due_whats s id rs vs)) × Opens (unmarked n at (due_whats s id rs vs))
expire_chain s u at [] vs n id before l h m i k a o end = (end before l h refl m, o)
expire_chain s u at (r ∷ rs) vs n id before l h m i k a o end =
    let made : List What = giving s l.state.ids.next (what.Own l.state.ids.next (abandon r.id)) in
    let turn : List Marked = unmarked l.state.number at (what.Expired r.op ∷ made) in
    let next : ConnectionLedger = behind (step_connection_ledger s) l turn in
    let named : NamedDue s at next.state.rows rs = subst (λ rows. NamedDue s at rows rs) (sym (left_rows s u at before l h r k.0 k.1 (l.state.ids.next == s.id_limit))) (named_left s at r l.state.rows rs (left (list_all (is_apart r) rs) _ a) k.2) in
    let rest : Chain s (before ++ turn) next (unmarked l.state.number at (due_whats s (suc l.state.ids.next) rs vs)) × Opens (unmarked l.state.number at (due_whats s (suc l.state.ids.next) rs vs)) = expire_chain s u at rs vs l.state.number (suc l.state.ids.next) (before ++ turn) next (expires_stays s u at before l h r k.0 k.1) (number_through s turn l) (left_next s u at before l h r k.0 k.1 (l.state.ids.next == s.id_limit)) named (right (list_all (is_apart r) rs) _ a) (subst (λ w. Opens (unmarked w at vs)) (sym m) o) (λ b q st own num. subst (λ w. Chain s b q (unmarked w at vs)) (sym m) (end b q st (own ∙ left_own s u at before l h r k.0 k.1 (l.state.ids.next == s.id_limit)) (num ∙ m))) in
    let whole : Chain s before l (unmarked l.state.number at (due_whats s l.state.ids.next (r ∷ rs) vs)) = subst (Chain s before l) (sym (unmarked_more l.state.number at (what.Expired r.op ∷ made) (due_whats s (suc l.state.ids.next) rs vs))) (chain_append s turn (unmarked l.state.number at (due_whats s (suc l.state.ids.next) rs vs)) before l rest.1 (expires_chain s u at before l h r k.0 k.1) rest.0) in
    (subst (λ j. Chain s before l (unmarked n at (due_whats s j (r ∷ rs) vs))) i (subst (λ w. Chain s before l (unmarked w at (due_whats s l.state.ids.next (r ∷ rs) vs))) m whole), (refl, refl, refl))

-- A clock step.
module _ (s : Settings) (u at : ℕ) (before : List Marked) (l : ConnectionLedger) (h : Stays s u at before l) where
  -- the end of a connection whose own Bind is due
  own_ends : (n : ℕ) (b : Bool) → is_own_due s l.state at ≡ b → (c : List Marked) (k : ConnectionLedger) → Stays s u at c k → k.state.own_bind ≡ l.state.own_bind → k.state.number ≡ n → Chain s c k (unmarked n at (where_so b (goes_down l.state TimedOut)).whats)
  own_ends n false e c k st own num = tt
  own_ends n true e c k st own num = subst (λ w. Chain s c k (unmarked w at (what.Down TimedOut ∷ []))) num (permit_down s k.state.number c k at st.later st.linked TimedOut refl st.there (or_right (is_bind_expired k.state (entries c)) _ (ap (passes (λ o. is_past s.timeout o.at at)) own ∙ e)), tt)

  quiet : (n : ℕ) (b : Bool) → Opens (unmarked n at (where_so b (goes_down l.state TimedOut)).whats)
  quiet n true = (refl, refl, refl)
  quiet n false = (refl, refl, refl)

  pub makes_tick : Makes s before l at None (ticks s l.state at).whats
  makes_tick =
      let due : List UpRow = filter (is_due s at) l.state.rows in
      let tail : List What = (where_so (is_own_due s l.state at) (goes_down l.state TimedOut)).whats in
      let chain : Chain s before l (unmarked l.state.number at (due_whats s l.state.ids.next due tail)) × Opens (unmarked l.state.number at (due_whats s l.state.ids.next due tail)) = expire_chain s u at due tail l.state.number l.state.ids.next before l h refl refl (all_due_named s at l.state.rows h.apart.apart) (apart_filter (is_due s at) l.state.rows h.apart.apart) (quiet l.state.number (is_own_due s l.state at)) (λ c k st own num. own_ends l.state.number (is_own_due s l.state at) refl c k st own num) in
      subst (Makes s before l at None) (sym (expire_is s l.state l.state.ids.next due tail)) (subst (λ ms. Chain s before l ms × Opens ms) (tail_none (entries_of (Connection l.state.number) at (due_whats s l.state.ids.next due tail))) chain)
