-- What a rule of a connection of either kind makes: a turn of permitted entries.
use Rattle.std.proofs.Common.{◌≡◌, ℕ, Bool, true, false, ◌==◌, ◌&&◌, ◌||◌, not, List, [], ◌∷◌, ◌++◌, refl, ap, ◌∙◌, sym, subst}
use Rattle.std.specs.Prelude.{Option, None, nat_le, nat_lt, map, is_some}
use Rattle.std.specs.List.{list_any, list_all}
use Rattle.std.proofs.Math.Bool.{or-false}
use Rattle.ldap_spec.specs.Bodies.{abandon}
use Rattle.lload_names.specs.declared.names.Entry.{Entry}
use Rattle.lload_names.specs.declared.names.OpName.{OpName}
use Rattle.lload_names.specs.declared.names.EndWhy.{EndWhy}
use Rattle.lload_names.specs.declared.names.EndWhy.TheVariants.{OwnBind as OwnBindFailed, Unfinished}
use Rattle.lload_names.specs.declared.names.PartName.TheVariants.{Up as Connection}
use Rattle.lload_names.specs.declared.names.What.{What}
use Rattle.lload_names.specs.declared.names.What.TheVariants as what
use Rattle.lload_spec.specs.Lists.{agrees, implies, first_passes}
use Rattle.lload_spec.specs.Settings.{Settings, place_at}
use Rattle.lload_spec.specs.Entries.{is_up, is_retired, is_down_by, is_own, same_why, is_down}
use Rattle.lload_spec.specs.Identifiers.{id_for}
use Rattle.lload_spec.specs.OneEach.{begins_with_bind, is_own_bind}
use Rattle.lload_spec.specs.Strict.{is_empty}
use Rattle.part_spec.specs.Marks.{has_connection_mark}
use Rattle.part_spec.specs.Inputs.{entries_of, marked_by}
use Rattle.part_spec.specs.ConnectionState.{is_stopped, is_first_bind}
use Rattle.part_spec.specs.ConnectionTurn.{giving}
use Rattle.part_spec.specs.Fit.{ConnectionLedger, step_connection_ledger, is_forward_of}
use Rattle.part_spec.specs.Share.{has_reason, is_sent_once}
use Rattle.part_spec.specs.Marked.{Marked, Taken, entries}
use Rattle.lload_spec.proofs.Growth.{both}
use Rattle.part_laws.proofs.ListLaws.{le_same}
use Rattle.connection_laws.proofs.Pausings.{comes_rightly}
use Rattle.connection_laws.proofs.OwnBinds.{is_second_bind}
use Rattle.connection_laws.proofs.Permits.{Chain, ends_for, Permit, UpStands}
use Rattle.connection_laws.proofs.Clauses.{Opens}
use Rattle.connection_laws.proofs.Pieces.{up_entry, marked_up, permit_down, permit_retired, no_name}
use Rattle.connection_laws.proofs.MorePieces.{permit_sent, permit_own}

-- the entries of a turn
abbrev pub turn_of : ℕ → ℕ → Option Taken → List What → List Marked
turn_of u at mark ws = marked_by mark (entries_of (Connection u) at ws)

-- what a rule makes is a turn of permitted entries
abbrev pub Makes : Settings → List Marked → ConnectionLedger → ℕ → Option Taken → List What → Type 0
Makes s before l at mark ws = Chain s before l (turn_of l.state.number at mark ws) × Opens (turn_of l.state.number at mark ws)

-- a rule that makes nothing
pub nothing_made : (s : Settings) (before : List Marked) (l : ConnectionLedger) (at : ℕ) (mark : Option Taken) → Makes s before l at mark []
nothing_made s before l at mark = (tt, (refl, refl, refl))

-- the tail of a turn has no mark
pub tail_none : (es : List Entry) → map (λ x. record { entry = x; mark = None }) es ≡ marked_by None es
tail_none [] = refl
tail_none (e ∷ es) = refl

-- a turn of an entry and what stands behind it
pub chain_cons : (s : Settings) (before : List Marked) (l : ConnectionLedger) (u at : ℕ) (mark : Option Taken) (w : What) (ws : List What) → Permit s before l (marked_up u at mark w) (turn_of u at None ws) → Chain s (before ++ marked_up u at mark w ∷ []) (step_connection_ledger s l (marked_up u at mark w)) (turn_of u at None ws) → Chain s before l (turn_of u at mark (w ∷ ws))
chain_cons s before l u at mark w ws p k = subst (λ ms. Chain s before l (marked_up u at mark w ∷ ms)) (sym (tail_none (entries_of (Connection u) at ws))) (p, k)

-- what stands first where an identifier is given
pub giving_first : (s : Settings) (u at id : ℕ) (w : What) (t : Entry → Bool) → first_passes t (entries (turn_of u at None (giving s id w))) ≡ t (up_entry u at w)
giving_first s u at id w t = by (id == s.id_limit)
  where
    by : (b : Bool) → first_passes t (entries (turn_of u at None (elim b [ true ↦ w ∷ what.Retired ∷ [] | false ↦ w ∷ [] ]))) ≡ t (up_entry u at w)
    by true = refl
    by false = refl

-- what is asked of the marks of a turn, its own mark meets
pub turn_marks : (may : Option Taken → Bool) (u at : ℕ) (mark : Option Taken) (ws : List What) → may None ≡ true → may mark ≡ true → list_all (λ (m : Marked). may m.mark) (turn_of u at mark ws) ≡ true
turn_marks may u at mark [] none h = refl
turn_marks may u at mark (w ∷ ws) none h = both (may mark) _ h (rest (entries_of (Connection u) at ws))
  where
    rest : (es : List Entry) → list_all (λ (m : Marked). may m.mark) (map (λ x. record { entry = x; mark = None }) es) ≡ true
    rest [] = refl
    rest (e ∷ es) = both (may None) _ none (rest es)

-- An identifier is given, with Retired behind it where it is the limit.
module _ (s : Settings) (before : List Marked) (l : ConnectionLedger) (at : ℕ) (later : nat_le l.state.moment at ≡ true) (linked : l.state.linked ≡ true) (there : l.state.down ≡ false) where
  pub gives_own : (mark : Option Taken) (rest : List ℕ) → has_connection_mark l.state (marked_up l.state.number at mark (what.Own l.state.ids.next rest)) ≡ true → comes_rightly mark ≡ true → is_first_bind s l.state (up_entry l.state.number at (what.Own l.state.ids.next rest)) ≡ is_second_bind s l.state.number (entries before) (up_entry l.state.number at (what.Own l.state.ids.next rest)) → has_reason s l.state (entries before) (marked_up l.state.number at mark (what.Own l.state.ids.next rest)) ≡ true → ((i : ℕ) → is_own (abandon i) (up_entry l.state.number at (what.Own l.state.ids.next rest)) ≡ true → (list_any (is_own (abandon i)) (entries before) ≡ false) × (nat_lt i l.state.ids.next ≡ true) × (list_any (λ n. n == i) l.state.ids.free ≡ false)) → Makes s before l at mark (giving s l.state.ids.next (what.Own l.state.ids.next rest))
  gives_own mark rest fitting fair first reason named = by (l.state.ids.next == s.id_limit) refl
    where
      u : ℕ
      u = l.state.number

      by : (b : Bool) → (l.state.ids.next == s.id_limit) ≡ b → Makes s before l at mark (elim b [ true ↦ what.Own l.state.ids.next rest ∷ what.Retired ∷ [] | false ↦ what.Own l.state.ids.next rest ∷ [] ])
      by true e = ((permit_own s u before l at later linked mark rest (marked_up u at None what.Retired ∷ []) fitting fair there first reason named refl (sym e) refl, (permit_retired s u (before ++ marked_up u at mark (what.Own l.state.ids.next rest) ∷ []) (step_connection_ledger s l (marked_up u at mark (what.Own l.state.ids.next rest))) at (le_same at) linked there, tt)), (refl, refl, refl))
      by false e = ((permit_own s u before l at later linked mark rest [] fitting fair there first reason named refl (sym e) refl, tt), (refl, refl, refl))

  pub gives_sent : (mark : Option Taken) (op : OpName) (rest : List ℕ) → has_connection_mark l.state (marked_up l.state.number at mark (what.Sent (id_for l.state.ids) op rest)) ≡ true → comes_rightly mark ≡ true → is_sent_once l.state [] (marked_up l.state.number at mark (what.Sent (id_for l.state.ids) op rest)) ≡ true → l.state.up ≡ true → is_stopped l.state ≡ false → list_any (λ t. is_forward_of op t.letter) l.taken ≡ false → Makes s before l at mark (giving s (id_for l.state.ids) (what.Sent (id_for l.state.ids) op rest))
  gives_sent mark op rest fitting fair free up going new = by ((id_for l.state.ids) == s.id_limit) refl
    where
      u : ℕ
      u = l.state.number

      by : (b : Bool) → ((id_for l.state.ids) == s.id_limit) ≡ b → Makes s before l at mark (elim b [ true ↦ what.Sent (id_for l.state.ids) op rest ∷ what.Retired ∷ [] | false ↦ what.Sent (id_for l.state.ids) op rest ∷ [] ])
      by true e = ((permit_sent s u before l at later linked mark op rest (marked_up u at None what.Retired ∷ []) fitting fair free up there going new refl (sym e) refl, (permit_retired s u (before ++ marked_up u at mark (what.Sent (id_for l.state.ids) op rest) ∷ []) (step_connection_ledger s l (marked_up u at mark (what.Sent (id_for l.state.ids) op rest))) at (le_same at) linked there, tt)), (refl, refl, refl))
      by false e = ((permit_sent s u before l at later linked mark op rest [] fitting fair free up there going new refl (sym e) refl, tt), (refl, refl, refl))

  -- the connection goes down
  pub makes_down : (why : EndWhy) → same_why why Unfinished ≡ false → is_down_by OwnBindFailed (up_entry l.state.number at (what.Down why)) ≡ false → ends_for s l.state (entries before) (marked_up l.state.number at None (what.Down why)) why ≡ true → Makes s before l at None (what.Down why ∷ [])
  makes_down why own other cause = ((permit_down s l.state.number before l at later linked why own there cause, tt), (refl, refl, other))

-- The beginning.
empty_is : (es : List Entry) → is_empty es ≡ true → es ≡ []
empty_is [] h = refl
empty_is (e ∷ es) h = absurd (let bad : false ≡ true = h in cc)

module _ (s : Settings) (u : ℕ) (before : List Marked) (l : ConnectionLedger) (at : ℕ) (later : nat_le l.state.moment at ≡ true) (h : UpStands s u before l) (unlinked : l.state.linked ≡ false) where
  pub place_empty : entries before ≡ []
  place_empty = empty_is (entries before) (h.begins ∙ ap not unlinked)

  pub not_ended : l.state.down ≡ false
  not_ended = h.says.down ∙ ap (list_any is_down) place_empty

  pub permit_linked : is_some (place_at s l.state.number) ≡ true → (d : List Marked) → implies (begins_with_bind s l.state.number) (first_passes (is_own_bind s) (entries d)) ≡ true → agrees (not (begins_with_bind s l.state.number)) (first_passes (λ e. is_up e.what) (entries d)) ≡ true → first_passes (λ e. is_retired e.what) (entries d) ≡ false → first_passes (is_down_by OwnBindFailed) (entries d) ≡ false → Permit s before l (marked_up l.state.number at None what.Linked) d
  permit_linked placed d own up no_retired no_own =
      record {
        later = later;
        fitting = refl;
        of_connection = refl;
        begun = ap (λ b. agrees true (not b)) unlinked;
        alive = ap (λ b. implies b false) not_ended;
        up = refl;
        id_right = refl;
        passed = refl;
        paused = refl;
        waits = refl;
        stopped = refl;
        fresh = refl;
        free = refl;
        first = refl;
        idle = refl;
        expired = refl;
        bad = refl;
        due = both (implies (begins_with_bind s l.state.number && true) (first_passes (is_own_bind s) (entries d))) _ (ap (λ b. implies b (first_passes (is_own_bind s) (entries d))) (and_true (begins_with_bind s l.state.number)) ∙ own) refl;
        ups = ap (λ b. agrees (b && not (begins_with_bind s l.state.number) || false) (first_passes (λ e. is_up e.what) (entries d))) placed ∙ ap (λ b. agrees b (first_passes (λ e. is_up e.what) (entries d))) (or-false (not (begins_with_bind s l.state.number))) ∙ up;
        retires = ap (agrees false) no_retired;
        own_ends = ap (agrees false) no_own;
        reason = refl;
        named = λ i j. no_name j;
        down = refl;
      }
    where
      and_true : (b : Bool) → (b && true) ≡ b
      and_true true = refl
      and_true false = refl
