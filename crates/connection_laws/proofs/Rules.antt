-- The turns of a connection of either kind by what its rules make: the rules of an input, the end of the link, and what each
-- event keeps.
use Rattle.std.proofs.Common.{◌≡◌, ℕ, Bool, true, false, ◌&&◌, not, List, [], ◌∷◌, ◌++◌, refl, ◌∙◌, sym, subst}
use Rattle.std.specs.Prelude.{Option, Some, None, max, is_some, nat_le}
use Rattle.std.specs.List.{list_all}
use Rattle.std.proofs.lemmas.List.{append-nil}
use Rattle.lload_names.specs.declared.names.ConnKind.{ConnKind}
use Rattle.lload_names.specs.declared.names.EndWhy.{EndWhy}
use Rattle.lload_names.specs.declared.names.EndWhy.TheVariants.{OwnBind as OwnBindFailed, TimedOut, Unfinished, Drained}
use Rattle.lload_names.specs.declared.names.What.{What}
use Rattle.lload_names.specs.declared.names.What.TheVariants as what
use Rattle.lload_names.specs.declared.plans.Place.{Place}
use Rattle.lload_names.specs.declared.inputs.Input.{Input}
use Rattle.lload_names.specs.declared.inputs.Effects.{Effects}
use Rattle.lload_spec.specs.Settings.{Settings, is_kind, is_of_kind, place_at}
use Rattle.lload_spec.specs.Entries.{is_link_reason, is_down_by, same_why}
use Rattle.lload_spec.specs.OneEach.{is_named_once}
use Rattle.lload_spec.specs.Answers.{sendings}
use Rattle.part_spec.specs.Marked.{Marked, Taken, entries}
use Rattle.part_spec.specs.Inputs.{marked_by, Act, nothing, letter_of, moment_for, moment_of}
use Rattle.part_spec.specs.ConnectionState.{empty_connection, step_connection, is_there}
use Rattle.part_spec.specs.ConnectionTurn.{goes_down, where_so, is_drained, with_drained}
use Rattle.part_spec.specs.Turn.{connection_sever, connection_act}
use Rattle.part_spec.specs.Fit.{ConnectionLedger, step_connection_ledger, fits_connection, is_unfit, ledger_behind as behind}
use Rattle.part_spec.specs.Share.{each_by_state, has_due_messages, has_reason, ConnectionShare}
use Rattle.part_laws.specs.Turns.{Event, Comes, Severed, letter_with, made, no_effects}
use Rattle.connection_laws.specs.Turns.{connection_event}
use Rattle.lload_spec.proofs.Growth.{left, right, both}
use Rattle.lload_laws.proofs.ListLaws.{all_always}
use Rattle.part_laws.proofs.ListLaws.{places_both, not_true, le_max}
use Rattle.connection_laws.proofs.Permits.{ends_for, UpStands}
use Rattle.connection_laws.proofs.Clauses.{UpKeeps}
use Rattle.connection_laws.proofs.Pieces.{up_entry, marked_up}
use Rattle.connection_laws.proofs.Makes.{Makes, turn_of, nothing_made, makes_down}
use Rattle.connection_laws.proofs.Through.{makes_drained, drained_linked}

-- a rule that gives an identifier makes something
abbrev pub given_whats : Bool → What → List What
given_whats b w = elim b [ true ↦ w ∷ what.Retired ∷ [] | false ↦ w ∷ [] ]

pub gives_some : (b : Bool) (w : What) → given_whats b w ≡ [] → false ≡ true
gives_some true w e = absurd (let bad : w ∷ what.Retired ∷ [] ≡ [] = e in cc)
gives_some false w e = absurd (let bad : w ∷ [] ≡ [] = e in cc)

pub fit_by : (b : Bool) → not b ≡ false → b ≡ true
fit_by true h = refl
fit_by false h = absurd (let bad : true ≡ false = h in cc)

-- a connection of some kind has a place
pub placed_at : (s : Settings) (kind : ConnKind) (u : ℕ) → is_of_kind s kind u ≡ true → is_some (place_at s u) ≡ true
placed_at s kind u h = by (place_at s u) h
  where
    by : (o : Option Place) → (elim o [ None ↦ false | Some q ↦ is_kind kind q.kind ]) ≡ true → is_some o ≡ true
    by None k = absurd (let bad : false ≡ true = k in cc)
    by (Some q) k = refl

-- The rules of an input.
module _ (s : Settings) (u : ℕ) (before : List Marked) (l : ConnectionLedger) (stands : UpStands s u before l) (at : ℕ) (later : nat_le l.state.moment at ≡ true) where
  -- a rule that there is only where it holds
  pub so : (b : Bool) (a : Act) (mark : Option Taken) → (b ≡ true → Makes s before l at mark a.whats) → Makes s before l at mark (where_so b a).whats
  so true a mark f = f refl
  so false a mark f = nothing_made s before l at mark

  -- the inputs that bring no letter
  pub without_letter : (a : Act) → Makes s before l at None a.whats → Makes s before l at None (with_drained s at None l.state a).whats
  without_letter a k = makes_drained s u before l at later stands None a (λ e d. refl) k

  -- the inputs that bring one
  pub with_letter : (a : Act) (mark : Option Taken) → (a.whats ≡ [] → false ≡ true) → (l.state.linked ≡ true → Makes s before l at mark a.whats) → Makes s before l at mark (with_drained s at mark l.state (where_so l.state.linked a)).whats
  with_letter a mark some f = makes_drained s u before l at later stands mark (where_so l.state.linked a) (λ e d. absurd (let bad : false ≡ true = empty l.state.linked refl e d in cc)) (so l.state.linked a mark f)
    where
      empty : (b : Bool) → l.state.linked ≡ b → (where_so b a).whats ≡ [] → is_drained l.state ≡ true → false ≡ true
      empty true j e d = some e
      empty false j e d = sym j ∙ drained_linked s u before l stands d

  -- the end of the link
  pub sever_made : (why : EndWhy) → is_link_reason why ≡ true → Makes s before l at None (where_so (is_there l.state) (goes_down l.state why)).whats
  sever_made why r = so (is_there l.state) (goes_down l.state why) None (λ t. makes_down s before l at later (left l.state.linked _ t) (not_true l.state.down (right l.state.linked _ t)) why (no_leave why r) (no_own why r) (link_cause why r))
    where
      no_own : (w : EndWhy) → is_link_reason w ≡ true → is_down_by OwnBindFailed (up_entry l.state.number at (what.Down w)) ≡ false
      no_own OwnBindFailed j = absurd (let bad : false ≡ true = j in cc)
      no_own _ j = refl

      no_leave : (w : EndWhy) → is_link_reason w ≡ true → same_why w Unfinished ≡ false
      no_leave Unfinished j = absurd (let bad : false ≡ true = j in cc)
      no_leave _ j = refl

      link_cause : (w : EndWhy) → is_link_reason w ≡ true → ends_for s l.state (entries before) (marked_up l.state.number at None (what.Down w)) w ≡ true
      link_cause TimedOut j = absurd (let bad : false ≡ true = j in cc)
      link_cause Unfinished j = absurd (let bad : false ≡ true = j in cc)
      link_cause Drained j = absurd (let bad : false ≡ true = j in cc)
      link_cause OwnBindFailed j = refl
      link_cause _ j = j

-- What a turn of permitted entries keeps, an event keeps: of the marks it may ask something.
module _ (s : Settings) (P : List Marked → ConnectionLedger → Type 0) (may : Option Taken → Bool) (after : (before : List Marked) (l : ConnectionLedger) (at : ℕ) (mark : Option Taken) (ws : List What) → P before l → may mark ≡ true → Makes s before l at mark ws → P (before ++ turn_of l.state.number at mark ws) (behind (step_connection_ledger s) l (turn_of l.state.number at mark ws))) (before : List Marked) (l : ConnectionLedger) (h : P before l) where
  nothing_after : P (before ++ []) l
  nothing_after = subst (λ b. P b l) (sym (append-nil before)) h

  pub event_after : may None ≡ true → ((at : ℕ) → nat_le l.state.moment at ≡ true → (why : EndWhy) → is_link_reason why ≡ true → Makes s before l at None (where_so (is_there l.state) (goes_down l.state why)).whats) → ((at : ℕ) → nat_le l.state.moment at ≡ true → (input : Input) → is_unfit (fits_connection s) l (letter_of input) ≡ false → (may (letter_of input) ≡ true) × Makes s before l at (letter_of input) (connection_act s l.state at input).whats) → (x : Event) → is_unfit (fits_connection s) l (letter_with x) ≡ false → P (before ++ made (connection_event s) l.state x) (behind (step_connection_ledger s) l (made (connection_event s) l.state x))
  event_after none severs makes (Comes input) f = by (place_at s l.state.number)
    where
      at : ℕ
      at = moment_for l.state.moment input

      act_by : Option Place → Act
      act_by o = elim o [ None ↦ nothing | Some q ↦ connection_act s l.state (moment_for l.state.moment input) input ]

      by : (o : Option Place) → P (before ++ turn_of l.state.number (moment_for l.state.moment input) (letter_of input) (act_by o).whats) (behind (step_connection_ledger s) l (turn_of l.state.number (moment_for l.state.moment input) (letter_of input) (act_by o).whats))
      by None = nothing_after
      by (Some q) = after before l (moment_for l.state.moment input) (letter_of input) (connection_act s l.state (moment_for l.state.moment input) input).whats h (makes (moment_for l.state.moment input) (le_max l.state.moment (moment_of input)) input f).0 (makes (moment_for l.state.moment input) (le_max l.state.moment (moment_of input)) input f).1
  event_after none severs makes (Severed now why) f = by (is_link_reason why) refl
    where
      effects : Bool → Effects
      effects b = elim b [ true ↦ connection_sever l.state now why | false ↦ no_effects ]

      by : (b : Bool) → is_link_reason why ≡ b → P (before ++ marked_by None (effects b).entries) (behind (step_connection_ledger s) l (marked_by None (effects b).entries))
      by true e = after before l (max l.state.moment now) None (where_so (is_there l.state) (goes_down l.state why)).whats h none (severs (max l.state.moment now) (le_max l.state.moment now) why e)
      by false e = nothing_after

-- the whole share: with each Abandon the first of its identifier
pub whole_share : (s : Settings) (u : ℕ) (before : List Marked) (l : ConnectionLedger) → UpKeeps s u before l → ConnectionShare s u before
whole_share s u before l h =
    let named : list_all (is_named_once (entries before)) (sendings u (entries before)) ≡ true = all_always (is_named_once (entries before)) (sendings u (entries before)) (λ x. h.stands.once x.id) in
    record {
      marks = h.marks;
      ids_right = h.ids_right;
      passed = h.passed;
      sent_once = h.sent_once;
      own_reasoned = both (each_by_state s u (λ p place m behind. has_due_messages s p m behind && has_reason s p place m) before) _ (places_both (step_connection s) (λ q c m d. has_due_messages s q m d) (λ q c m d. has_reason s q (entries c) m) (empty_connection s u) [] before h.due h.reasons) named;
      ups = h.ups;
      retirements = h.retirements;
      own_bind_ends = h.own_bind_ends;
      expired = h.expired;
      missed = h.missed;
      idle = h.idle;
      bad_messages = h.bad_messages;
      downs = h.down;
      moments = h.moments;
      life = h.lives;
    }
