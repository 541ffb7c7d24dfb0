-- What stands of a bind connection: one operation at most is live on it, a Bind under an identifier above 0; it never pauses,
-- no own Bind waits, and behind its end nobody holds it.
use Rattle.std.proofs.Common.{◌≡◌, ℕ, Bool, true, false, ◌==◌, ◌&&◌, not, List, [], ◌∷◌, ◌++◌, length, flat_map, refl, ap, ◌∙◌, sym}
use Rattle.std.specs.Prelude.{Option, Some, None, filter, cond, nat_lt, if◌then◌else◌}
use Rattle.std.specs.List.{list_all}
use Rattle.std.proofs.lemmas.List.{append-nil}
use Rattle.std.proofs.lemmas.List.Folds.{list_all-append}
use Rattle.ldap_spec.specs.Kinds.{same_kind}
use Rattle.lload_names.specs.declared.names.Entry.{Entry}
use Rattle.lload_names.specs.declared.names.OpKind.TheVariants.{Bind}
use Rattle.lload_names.specs.declared.names.ConnKind.TheVariants.{Regular, Bind as BindKind}
use Rattle.lload_names.specs.declared.names.PartName.{PartName}
use Rattle.lload_names.specs.declared.names.Letter.{Letter}
use Rattle.lload_names.specs.declared.names.Letter.TheVariants.{Forward}
use Rattle.lload_names.specs.declared.names.What.{What}
use Rattle.lload_names.specs.declared.names.What.TheVariants as what
use Rattle.lload_spec.specs.Lists.{implies}
use Rattle.lload_spec.specs.Settings.{Settings, is_kind}
use Rattle.lload_spec.specs.Journal.{same_op}
use Rattle.lload_spec.specs.Identifiers.{Ids, id_for, with_freed}
use Rattle.lload_spec.specs.OneEach.{begins_with_bind, is_own_bind}
use Rattle.lload_spec.specs.CausedUp.{has_got}
use Rattle.lload_spec.specs.Entries.{given_id, is_linked}
use Rattle.part_spec.specs.Marked.{Marked, Taken}
use Rattle.part_spec.specs.ConnectionState.{ConnectionState, UpRow, is_bind, is_bind_row, is_under_own, step_connection, connection_behind, behind_message, behind_own, freed_id, put_row, rows_sent}
use Rattle.part_spec.specs.Fit.{ConnectionLedger, step_connection_ledger, ledger_behind as behind}
use Rattle.part_spec.specs.Share.{is_free_by}
use Rattle.lload_spec.proofs.Growth.{left, right, both}
use Rattle.part_laws.proofs.ListLaws.{all_kept, false_by, same_number}
use Rattle.connection_laws.proofs.ConnectionSays.{kind_step}
use Rattle.connection_laws.proofs.OwnBinds.{own_of, waiting_of}
use Rattle.connection_laws.proofs.Permits.{Permit, Chain, UpStands, up_stands_more}
use Rattle.connection_laws.proofs.Apart.{Shrinks, shrinks_message, shrinks_own, freed_all}
use Rattle.connection_laws.proofs.Through.{no_rows}

-- one row at most, of a Bind under an identifier above 0
abbrev pub is_lone : List UpRow → Bool
is_lone [] = true
is_lone (r ∷ []) = is_bind_row r && not (r.id == 0)
is_lone (r ∷ q ∷ rows) = false

-- a letter that makes no row but of a Bind
abbrev pub makes_a_bind : Letter → Bool
makes_a_bind (Forward op kind rest ask_who holder) = same_kind Bind kind
makes_a_bind _ = true

abbrev pub marks_a_bind : Option Taken → Bool
marks_a_bind None = true
marks_a_bind (Some t) = makes_a_bind t.letter

abbrev pub is_above : ℕ → Bool
is_above n = not (n == 0)

pub record BindStands (p : ConnectionState) : Type 0 where
  pub kind : p.kind ≡ BindKind
  pub lone : is_lone p.rows ≡ true
  pub free : list_all is_above p.ids.free ≡ true
  pub quiet : p.waiting ≡ []
  pub gone : p.down ≡ true → p.holder ≡ None

-- a bind connection has no own Bind
pub no_own : (s : Settings) (u : ℕ) (place : List Entry) (p : ConnectionState) → begins_with_bind s u ≡ false → p.own_bind ≡ own_of s u place → p.own_bind ≡ None
no_own s u [] p b h = h
no_own s u (e ∷ []) p b h = h
no_own s u (e ∷ f ∷ es) p b h = h ∙ ap (λ c. waiting_of (if c && is_linked e.what && is_own_bind s f then given_id f.what else None) f.at (λ id. has_got id (e ∷ f ∷ es))) b

-- What an entry leaves of it.

lone_shrinks : (r : UpRow) (rs : List UpRow) → Shrinks r rs → is_lone (r ∷ []) ≡ true → is_lone rs ≡ true
lone_shrinks r [] h k = refl
lone_shrinks r (q ∷ []) h k = ap (λ i. same_kind Bind q.kind && not (i == 0)) (sym h.0) ∙ ap (λ o. same_kind Bind o && not (r.id == 0)) (sym h.2) ∙ k
lone_shrinks r (q ∷ x ∷ xs) h k = absurd h

pub lone_flat : (f : UpRow → List UpRow) (rows : List UpRow) → ((r : UpRow) → Shrinks r (f r)) → is_lone rows ≡ true → is_lone (flat_map f rows) ≡ true
lone_flat f [] g h = refl
lone_flat f (r ∷ []) g h = ap is_lone (append-nil (f r)) ∙ lone_shrinks r (f r) (g r) h
lone_flat f (r ∷ q ∷ rows) g h = absurd (let bad : false ≡ true = h in cc)

lone_filter : (t : UpRow → Bool) (rows : List UpRow) → is_lone rows ≡ true → is_lone (filter t rows) ≡ true
lone_filter t [] h = refl
lone_filter t (r ∷ []) h = by (t r)
  where
    by : (b : Bool) → is_lone (cond b (r ∷ []) []) ≡ true
    by true = h
    by false = refl
lone_filter t (r ∷ q ∷ rows) h = absurd (let bad : false ≡ true = h in cc)

lone_ids : (rows : List UpRow) → is_lone rows ≡ true → list_all (λ r. is_above r.id) rows ≡ true
lone_ids [] h = refl
lone_ids (r ∷ []) h = both (is_above r.id) true (right (is_bind_row r) _ h) refl
lone_ids (r ∷ q ∷ rows) h = absurd (let bad : false ≡ true = h in cc)

-- the identifier that an operation gets is above 0
above_next : (n : ℕ) → nat_lt 0 n ≡ true → is_above n ≡ true
above_next n h = ap not (false_by (n == 0) (λ k. ap (nat_lt 0) (sym (same_number n 0 k)) ∙ h))

id_above : (ids : Ids) → nat_lt 0 ids.next ≡ true → list_all is_above ids.free ≡ true → is_above (id_for ids) ≡ true
id_above ids h k = by ids.free k
  where
    by : (ns : List ℕ) → list_all is_above ns ≡ true → is_above (elim ns [ [] ↦ ids.next | n ∷ xs ↦ n ]) ≡ true
    by [] j = above_next ids.next h
    by (n ∷ ns) j = left (is_above n) _ j

-- the row of a Forward, for whose holder the connection is free
lone_sent : (p : ConnectionState) (at id : ℕ) (x : Letter) → is_above id ≡ true → makes_a_bind x ≡ true → is_free_by p x ≡ true → is_lone (rows_sent at id p.rows x) ≡ true
lone_sent p at id (Forward op kind rest ask_who holder) above bind free =
    let row : UpRow = record { id = id; op = op; kind = kind; ask_who = ask_who; sent = at; answered = at; kept = None } in
    ap (λ rows. is_lone (put_row row rows)) (no_rows p.rows (left (length p.rows == 0) _ free)) ∙ both (same_kind Bind kind) _ bind above
lone_sent p at id _ above bind free = absurd (let bad : false ≡ true = free in cc)

module _ (s : Settings) (u : ℕ) (before : List Marked) (l : ConnectionLedger) (ms : List Marked) (g : UpStands s u before l) (h : BindStands l.state) (part : PartName) (at : ℕ) where
  abbrev marked : Option Taken → What → Marked
  marked mark w = record { entry = record { part = part; at = at; what = w }; mark = mark }

  abbrev behind_what : Option Taken → What → ConnectionState
  behind_what mark w = connection_behind s (record { part = part; at = at; what = w }) mark l.state w

  bind_is : is_bind l.state ≡ true
  bind_is = ap (is_kind BindKind) h.kind

  lone_step : (mark : Option Taken) (w : What) → Permit s before l (marked mark w) ms → marks_a_bind mark ≡ true → is_lone (behind_what mark w).rows ≡ true
  lone_step None (what.Sent id op rest) k b = absurd (let bad : false ≡ true = k.fitting in cc)
  lone_step (Some t) (what.Sent id op rest) k b = lone_sent l.state at id t.letter (ap is_above (same_number id (id_for l.state.ids) k.id_right) ∙ id_above l.state.ids g.above h.free) b (ap (λ c. true && implies c (is_free_by l.state t.letter)) (sym bind_is) ∙ k.free)
  lone_step mark (what.Own id rest) k b = lone_flat (behind_own (record { id = id; rest = rest })) l.state.rows (shrinks_own (record { id = id; rest = rest })) h.lone
  lone_step mark (what.Got id rest) k b = by (is_under_own l.state id)
    where
      by : (c : Bool) → is_lone (if c then l.state.rows else flat_map (behind_message at (record { id = id; rest = rest })) l.state.rows) ≡ true
      by true = h.lone
      by false = lone_flat (behind_message at (record { id = id; rest = rest })) l.state.rows (shrinks_message at (record { id = id; rest = rest })) h.lone
  lone_step mark (what.Expired op) k b = lone_filter (λ r. not (same_op op r.op)) l.state.rows h.lone
  lone_step mark (what.Down why) k b = refl
  lone_step mark what.Linked k b = h.lone
  lone_step mark _ k b = h.lone

  free_step : (mark : Option Taken) (w : What) → list_all is_above (behind_what mark w).ids.free ≡ true
  free_step mark (what.Sent id op rest) = all_kept is_above (λ n. not (n == id)) l.state.ids.free h.free
  free_step mark (what.Got id rest) = by (is_under_own l.state id)
    where
      by : (c : Bool) → list_all is_above (if c then l.state.ids else with_freed (flat_map (freed_id at (record { id = id; rest = rest })) l.state.rows) l.state.ids).free ≡ true
      by true = h.free
      by false = list_all-append is_above l.state.ids.free (flat_map (freed_id at (record { id = id; rest = rest })) l.state.rows) ∙ both (list_all is_above l.state.ids.free) _ h.free (freed_all is_above at (record { id = id; rest = rest }) l.state.rows (lone_ids l.state.rows h.lone))
  free_step mark what.Linked = h.free
  free_step mark _ = h.free

  no_pause : (c : Bool) → c ≡ false → (b : Bool) → (c && b) ≡ true → false ≡ true
  no_pause true e b k = absurd (let bad : true ≡ false = e in cc)
  no_pause false e b k = k

  quiet_step : (mark : Option Taken) (w : What) → Permit s before l (marked mark w) ms → (behind_what mark w).waiting ≡ []
  quiet_step mark (what.Paused client) k = absurd (let bad : false ≡ true = no_pause (is_kind Regular l.state.kind) (ap (is_kind Regular) h.kind) _ k.passed in cc)
  quiet_step mark (what.Resumed client) k = absurd (let bad : false ≡ true = no_pause (is_kind Regular l.state.kind) (ap (is_kind Regular) h.kind) _ k.passed in cc)
  quiet_step mark what.Linked k = h.quiet
  quiet_step mark _ k = h.quiet

  none_behind : {C : Type 0} → implies l.state.down false ≡ true → l.state.down ≡ true → C
  none_behind a d = absurd (let bad : true ≡ false = sym a ∙ ap (λ b. implies b false) d in cc)

  gone_step : (mark : Option Taken) (w : What) → Permit s before l (marked mark w) ms → (behind_what mark w).down ≡ true → (behind_what mark w).holder ≡ None
  gone_step mark (what.Down why) k d = refl
  gone_step mark (what.Missed op) k d = refl
  gone_step mark (what.Sent id op rest) k d = none_behind k.alive d
  gone_step mark (what.Got id rest) k d = none_behind k.alive d
  gone_step mark what.Linked k d = h.gone d
  gone_step mark _ k d = h.gone d

  pub stands_step : (mark : Option Taken) (w : What) → Permit s before l (marked mark w) ms → marks_a_bind mark ≡ true → BindStands (step_connection s l.state (marked mark w))
  stands_step mark w k b =
      record {
        kind = kind_step s (record { part = part; at = at; what = w }) mark l.state w ∙ h.kind;
        lone = lone_step mark w k b;
        free = free_step mark w;
        quiet = quiet_step mark w k;
        gone = gone_step mark w k;
      }

-- through a turn
pub bind_through : (s : Settings) (u : ℕ) (ms : List Marked) (before : List Marked) (l : ConnectionLedger) → UpStands s u before l → Chain s before l ms → list_all (λ m. marks_a_bind m.mark) ms ≡ true → BindStands l.state → BindStands (behind (step_connection_ledger s) l ms).state
bind_through s u [] before l g k b h = h
bind_through s u (m ∷ ms) before l g k b h = bind_through s u ms (before ++ m ∷ []) (step_connection_ledger s l m) (up_stands_more s u before l m ms g k.0) k.1 (right (marks_a_bind m.mark) _ b) (stands_step s u before l ms g h m.entry.part m.entry.at m.mark m.entry.what k.0 (left (marks_a_bind m.mark) _ b))
