-- What is known at each place of a regular connection's list, through its turns.
use Rattle.std.proofs.Common.{◌≡◌, ℕ, Bool, true, false, ◌&&◌, not, List, [], ◌∷◌, ◌++◌, refl, ap, ◌∙◌, sym, subst, append_assoc}
use Rattle.std.specs.Prelude.{Option, Some, None}
use Rattle.std.specs.List.{list_any, list_all}
use Rattle.std.proofs.lemmas.List.{append-nil}
use Rattle.std.proofs.lemmas.List.Folds.{list_all-append}
use Rattle.ldap_spec.specs.Bodies.{abandon}
use Rattle.lload_names.specs.declared.names.ConnKind.TheVariants.{Regular}
use Rattle.lload_names.specs.declared.names.Entry.{Entry}
use Rattle.lload_names.specs.declared.names.PartName.{PartName}
use Rattle.lload_names.specs.declared.names.PartName.TheVariants.{Up as Connection}
use Rattle.lload_names.specs.declared.names.What.{What}
use Rattle.lload_names.specs.declared.names.What.TheVariants as what
use Rattle.lload_spec.specs.Answers.{sendings}
use Rattle.lload_spec.specs.Entries.{is_down, is_own}
use Rattle.lload_spec.specs.Identifiers.{freed_by, ids_at, ids_with}
use Rattle.lload_spec.specs.Journal.{Family}
use Rattle.lload_spec.specs.Lists.{implies, where_there}
use Rattle.lload_spec.specs.Settings.{Settings, is_of_kind}
use Rattle.lload_spec.proofs.Growth.{left, right}
use Rattle.part_laws.specs.Turns.{Event, letter_with, made}
use Rattle.part_laws.proofs.Induction.{through}
use Rattle.part_laws.proofs.ListLaws.{false_by}
use Rattle.part_spec.specs.ConnectionState.{OwnWait, connection_behind, step_connection}
use Rattle.part_spec.specs.Inputs.{letter_of}
use Rattle.part_spec.specs.Fit.{ConnectionLedger, empty_connection_ledger, fit_beginning, fits_connection, is_unfit, step_connection_ledger, ledger_behind as behind}
use Rattle.part_spec.specs.Marked.{Marked, Taken, entries}
use Rattle.connection_laws.specs.Turns.{connection_event, connection_list}
use Rattle.connection_laws.proofs.Apart.{RowsApart, is_unnamed}
use Rattle.connection_laws.proofs.ApartTurns.{apart_more}
use Rattle.connection_laws.proofs.Closings.{ids_push}
use Rattle.connection_laws.proofs.ConnectionSays.{kind_step}
use Rattle.connection_laws.proofs.Given.{Given, given_step, none_given}
use Rattle.connection_laws.proofs.Makes.{Makes, turn_of, turn_marks}
use Rattle.connection_laws.proofs.Permits.{Chain, Permit, UpStands, push_entry, up_stands_more}
use Rattle.connection_laws.proofs.RegularShare.{RegularKeeps, after_turn, input_made, input_marks, nothing_kept, regular_act_is}
use Rattle.connection_laws.proofs.Rows.{is_sound, marks_no_bind, rows_more}
use Rattle.connection_laws.proofs.Rules.{event_after, sever_made}
use Rattle.carried_laws.specs.Laws.{are_forwards_right, is_forward_right}
use Rattle.rows_laws.proofs.Freed.{got_ids}
use Rattle.rows_laws.proofs.Lives.{Lives}
use Rattle.rows_laws.proofs.OwnApart.{OwnApart, own_apart_step}
use Rattle.rows_laws.proofs.Walk.{lives_step}

pub record Known (s : Settings) (F : Family) (u : ℕ) (before : List Marked) (l : ConnectionLedger) : Type 0 where
  pub stands : UpStands s u before l
  pub kind : l.state.kind ≡ Regular
  pub sound : list_all (is_sound u (entries before)) l.state.rows ≡ true
  pub apart : RowsApart (entries before) l.state
  pub own : (v : OwnWait) → l.state.own_bind ≡ Some v → OwnApart l.state.rows l.state.ids v
  pub given : Given (entries before) l.state
  pub ids : l.state.ids ≡ ids_at s F u (entries before)
  pub lives : Lives s F l.state.rows (sendings u (entries before))

abbrev pub marks_rightly : Settings → Family → Option Taken → Bool
marks_rightly s F mark = where_there (λ t. is_forward_right s F t.letter) mark

module _ (s : Settings) (F : Family) (u : ℕ) (before : List Marked) (l : ConnectionLedger) (h : Known s F u before l) (part : PartName) (at : ℕ) (mark : Option Taken) where
  abbrev entry : What → Entry
  entry w = record { part = part; at = at; what = w }

  abbrev marked : What → Marked
  marked w = record { entry = entry w; mark = mark }

  not_ended : implies l.state.down false ≡ true → list_any is_down (entries before) ≡ false
  not_ended a = sym h.stands.says.down ∙ false_by l.state.down (λ d. sym (ap (λ b. implies b false) d) ∙ a)

  ids_step : (w : What) (ms : List Marked) → Permit s before l (marked w) ms → (connection_behind s (entry w) mark l.state w).ids ≡ ids_with w (freed_by s F u (entries before) (entry w)) l.state.ids
  ids_step (what.Got id rest) ms k = got_ids s F u (entries before) l.state h.sound h.apart h.own (not_ended k.alive) h.lives part at id rest
  ids_step (what.Sent id op rest) ms k = refl
  ids_step (what.Own id rest) ms k = refl
  ids_step what.Linked ms k = refl
  ids_step _ ms k = refl

  pub known_step : (w : What) (ms : List Marked) → Permit s before l (marked w) ms → marks_no_bind mark ≡ true → marks_rightly s F mark ≡ true → Known s F u (before ++ marked w ∷ []) (step_connection_ledger s l (marked w))
  known_step w ms k bare told =
      let a : RowsApart (entries before ++ entry w ∷ []) (connection_behind s (entry w) mark l.state w) = apart_more s u (entries before) l.taken l.state h.apart h.sound h.stands.sent h.stands.abandoned part at mark w k.fitting k.id_right k.fresh (λ i q. (k.named i q).2) in
      record {
        stands = up_stands_more s u before l (marked w) ms h.stands k;
        kind = kind_step s (entry w) mark l.state w ∙ h.kind;
        sound = ap (λ place. list_all (is_sound u place) (step_connection s l.state (marked w)).rows) (push_entry before (marked w)) ∙ rows_more s u (entries before) part at mark l.state w k.fitting bare h.sound;
        apart = record { apart = a.apart; below = a.below; unnamed = ap (λ place. list_all (is_unnamed place) (step_connection s l.state (marked w)).rows) (push_entry before (marked w)) ∙ a.unnamed; free_below = a.free_below; free_unnamed = ap (λ place. list_all (λ n. not (list_any (is_own (abandon n)) place)) (step_connection s l.state (marked w)).ids.free) (push_entry before (marked w)) ∙ a.free_unnamed; free_apart = a.free_apart };
        own = own_apart_step s (entries before) l.state h.apart part at mark w k.id_right h.own;
        given = subst (λ place. Given place (step_connection s l.state (marked w))) (sym (push_entry before (marked w))) (given_step s (entries before) part at l.state h.stands.above h.given mark w k.id_right);
        ids = ids_step w ms k ∙ ap (ids_with w (freed_by s F u (entries before) (entry w))) h.ids ∙ sym (ids_push s F u (entries before) (entry w)) ∙ ap (ids_at s F u) (sym (push_entry before (marked w)));
        lives = subst (λ place. Lives s F (step_connection s l.state (marked w)).rows (sendings u place)) (sym (push_entry before (marked w))) (lives_step s F u (entries before) l.state h.sound h.apart h.own part at h.lives mark w k.fitting k.id_right told);
      }

-- What is so at each place of a list: behind these entries, and behind each of the next.
abbrev pub AtEach : Settings → (List Marked → ConnectionLedger → Type 0) → List Marked → ConnectionLedger → List Marked → Type 0
AtEach s P before l [] = P before l
AtEach s P before l (m ∷ ms) = P before l × AtEach s P (before ++ m ∷ []) (step_connection_ledger s l m) ms

-- at the last place, and behind more entries
pub at_end : (s : Settings) (P : List Marked → ConnectionLedger → Type 0) (before : List Marked) (l : ConnectionLedger) (ms : List Marked) → AtEach s P before l ms → P (before ++ ms) (behind (step_connection_ledger s) l ms)
at_end s P before l [] h = subst (λ b. P b l) (sym (append-nil before)) h
at_end s P before l (m ∷ ms) h = subst (λ b. P b (behind (step_connection_ledger s) (step_connection_ledger s l m) ms)) (append_assoc before (m ∷ []) ms) (at_end s P (before ++ m ∷ []) (step_connection_ledger s l m) ms h.1)

pub at_more : (s : Settings) (P : List Marked → ConnectionLedger → Type 0) (before : List Marked) (l : ConnectionLedger) (ms ns : List Marked) → AtEach s P before l ms → AtEach s P (before ++ ms) (behind (step_connection_ledger s) l ms) ns → AtEach s P before l (ms ++ ns)
at_more s P before l [] ns h k = subst (λ b. AtEach s P b l ns) (append-nil before) k
at_more s P before l (m ∷ ms) ns h k = (h.0, at_more s P (before ++ m ∷ []) (step_connection_ledger s l m) ms ns h.1 (subst (λ b. AtEach s P b (behind (step_connection_ledger s) (step_connection_ledger s l m) ms) ns) (sym (append_assoc before (m ∷ []) ms)) k))

-- through a turn
known_through : (s : Settings) (F : Family) (u : ℕ) (ms : List Marked) (before : List Marked) (l : ConnectionLedger) → Chain s before l ms → list_all (λ m. marks_no_bind m.mark) ms ≡ true → are_forwards_right s F ms ≡ true → Known s F u before l → AtEach s (Known s F u) before l ms
known_through s F u [] before l k n told h = h
known_through s F u (m ∷ ms) before l k n told h = (h, known_through s F u ms (before ++ m ∷ []) (step_connection_ledger s l m) k.1 (right (marks_no_bind m.mark) _ n) (right (marks_rightly s F m.mark) _ told) (known_step s F u before l h m.entry.part m.entry.at m.mark m.entry.what ms k.0 (left (marks_no_bind m.mark) _ n) (left (marks_rightly s F m.mark) _ told)))

-- What is kept behind each turn.
pub record RegularKnows (s : Settings) (F : Family) (u : ℕ) (before : List Marked) (l : ConnectionLedger) : Type 0 where
  pub keeps : RegularKeeps s u before l
  pub ledger : behind (step_connection_ledger s) (empty_connection_ledger s u) before ≡ l
  pub known : are_forwards_right s F before ≡ true → AtEach s (Known s F u) [] (empty_connection_ledger s u) before

pub behind_more : (s : Settings) (l : ConnectionLedger) (L M : List Marked) → behind (step_connection_ledger s) l (L ++ M) ≡ behind (step_connection_ledger s) (behind (step_connection_ledger s) l L) M
behind_more s l [] M = refl
behind_more s l (m ∷ L) M = behind_more s (step_connection_ledger s l m) L M

knows_turn : (s : Settings) (F : Family) (u : ℕ) (before : List Marked) (l : ConnectionLedger) (at : ℕ) (mark : Option Taken) (ws : List What) → RegularKnows s F u before l → marks_no_bind mark ≡ true → Makes s before l at mark ws → RegularKnows s F u (before ++ turn_of l.state.number at mark ws) (behind (step_connection_ledger s) l (turn_of l.state.number at mark ws))
knows_turn s F u before l at mark ws h n k =
    let turn : List Marked = turn_of l.state.number at mark ws in
    record {
      keeps = after_turn s u before l at mark ws h.keeps n k;
      ledger = behind_more s (empty_connection_ledger s u) before turn ∙ ap (λ q. behind (step_connection_ledger s) q turn) h.ledger;
      known = λ told. more (parts told);
    }
  where
    parts : are_forwards_right s F (before ++ turn_of l.state.number at mark ws) ≡ true → (are_forwards_right s F before && are_forwards_right s F (turn_of l.state.number at mark ws)) ≡ true
    parts told = sym (list_all-append (λ m. marks_rightly s F m.mark) before (turn_of l.state.number at mark ws)) ∙ told

    more : (are_forwards_right s F before && are_forwards_right s F (turn_of l.state.number at mark ws)) ≡ true → AtEach s (Known s F u) [] (empty_connection_ledger s u) (before ++ turn_of l.state.number at mark ws)
    more told =
        let here : AtEach s (Known s F u) [] (empty_connection_ledger s u) before = h.known (left (are_forwards_right s F before) _ told) in
        let now : Known s F u before l = subst (Known s F u before) h.ledger (at_end s (Known s F u) [] (empty_connection_ledger s u) before here) in
        at_more s (Known s F u) [] (empty_connection_ledger s u) before (turn_of l.state.number at mark ws) here (subst (λ q. AtEach s (Known s F u) before q (turn_of l.state.number at mark ws)) (sym h.ledger) (known_through s F u (turn_of l.state.number at mark ws) before l k.0 (turn_marks marks_no_bind l.state.number at mark ws refl n) (right (are_forwards_right s F before) _ told) now))

nothing_known : (s : Settings) (F : Family) (u : ℕ) → is_of_kind s Regular u ≡ true → RegularKnows s F u [] (empty_connection_ledger s u)
nothing_known s F u place =
    let first : RegularKeeps s u [] (empty_connection_ledger s u) = nothing_kept s u place in
    record {
      keeps = first;
      ledger = refl;
      known = λ told. record { stands = first.keeps.stands; kind = first.kind; sound = refl; apart = first.apart; own = λ v e. absurd (let bad : None ≡ Some v = e in cc); given = none_given s u; ids = refl; lives = record { of_rows = tt; of_sents = tt } };
    }

knows_event : (s : Settings) (F : Family) (u : ℕ) → is_of_kind s Regular u ≡ true → (before : List Marked) (l : ConnectionLedger) (x : Event) → RegularKnows s F u before l → is_unfit (fits_connection s) l (letter_with x) ≡ false → RegularKnows s F u (before ++ made (connection_event s) l.state x) (behind (step_connection_ledger s) l (made (connection_event s) l.state x))
knows_event s F u place before l x h f = event_after s (RegularKnows s F u) marks_no_bind (knows_turn s F u) before l h refl (λ at later why r. sever_made s u before l h.keeps.keeps.stands at later why r) (λ at later input g. (input_marks s u before l h.keeps place at later input g, regular_act_is (λ a. Makes s before l at (letter_of input) a.whats) s l.state at input h.keeps.kind (input_made s u before l h.keeps place at later input g))) x f

-- at each place of the list, up to the first letter that isn't fit
pub regular_known : (s : Settings) (F : Family) (u : ℕ) → is_of_kind s Regular u ≡ true → (xs : List Event) → are_forwards_right s F (fit_beginning s (Connection u) (connection_list s u xs)) ≡ true → AtEach s (Known s F u) [] (empty_connection_ledger s u) (fit_beginning s (Connection u) (connection_list s u xs))
regular_known s F u place xs = through (fits_connection s) (step_connection_ledger s) (step_connection s) (λ l. l.state) (λ l m. refl) (connection_event s) (RegularKnows s F u) (λ before. are_forwards_right s F before ≡ true → AtEach s (Known s F u) [] (empty_connection_ledger s u) before) (λ before l h. h.known) (λ before l x h f. knows_event s F u place before l x h f) xs [] (empty_connection_ledger s u) (nothing_known s F u place)
