-- A regular connection keeps its share.
use Rattle.std.proofs.Common.{◌≡◌, ℕ, inl, Bool, true, false, ◌==◌, ◌&&◌, not, List, [], ◌∷◌, ◌++◌, refl, ap, ◌∙◌, sym, subst}
use Rattle.std.specs.Prelude.{Option, Some, None, find, is_some, nat_le, if◌then◌else◌}
use Rattle.std.specs.List.{list_any, list_all}
use Rattle.ldap_spec.specs.Kinds.{kind_of, same_kind}
use Rattle.lload_names.specs.declared.names.OpName.{OpName}
use Rattle.lload_names.specs.declared.names.OpKind.{OpKind}
use Rattle.lload_names.specs.declared.names.OpKind.TheVariants.{Bind}
use Rattle.lload_names.specs.declared.names.ConnKind.{ConnKind}
use Rattle.lload_names.specs.declared.names.ConnKind.TheVariants.{Regular, Bind as BindKind}
use Rattle.lload_names.specs.declared.names.PartName.{PartName}
use Rattle.lload_names.specs.declared.names.PartName.TheVariants.{Client}
use Rattle.lload_names.specs.declared.names.Letter.TheVariants.{Forward, Drop, Leave, Pause, Resume}
use Rattle.lload_names.specs.declared.names.What.{What}
use Rattle.lload_names.specs.declared.names.What.TheVariants as what
use Rattle.lload_names.specs.declared.plans.Place.{Place}
use Rattle.lload_spec.specs.Lists.{passes, agrees}
use Rattle.lload_spec.specs.Settings.{Settings, is_kind, is_of_kind, place_at}
use Rattle.lload_spec.specs.Identifiers.{id_for}
use Rattle.lload_spec.specs.Pauses.{is_waiting}
use Rattle.lload_spec.specs.Strict.{may_pass}
use Rattle.lload_spec.specs.Journal.{same_op, same_part}
use Rattle.lload_spec.specs.OneEach.{begins_with_bind}
use Rattle.part_spec.specs.Marked.{Marked, Taken, entries}
use Rattle.lload_names.specs.declared.inputs.Input.{Input}
use Rattle.lload_names.specs.declared.inputs.Input.TheVariants.{Arrive, LinkUp, Message as MessageIn, LetterFrom, Tick, LinkGone, Stall, Flow, Reload}
use Rattle.part_spec.specs.Inputs.{Act, act, nothing, letter_of, failed}
use Rattle.part_spec.specs.ConnectionState.{ConnectionState, UpRow, step_connection, kind_at, is_there, is_holding, is_stopped, is_bind, row_named}
use Rattle.part_spec.specs.ConnectionTurn.{where_so, giving, ended, retires}
use Rattle.part_spec.specs.BindTurn.{bind_act}
use Rattle.lload_names.specs.declared.names.Refusal.TheVariants.{C4}
use Rattle.ldap_spec.specs.Bodies.{abandon}
use Rattle.part_spec.specs.RegularTurn.{regular_act, link_up, message, ticks, forwards, drops, abandons}
use Rattle.part_spec.specs.Fit.{ConnectionLedger, empty_connection_ledger, step_connection_ledger, fits_connection, is_unfit, is_forward_of, is_of_its_kind, is_taken_last, is_forward_for, is_leave_of, is_pause, is_resume, ledger_behind as behind}
use Rattle.part_spec.specs.Share.{ConnectionShare}
use Rattle.lload_spec.proofs.Growth.{left, right, both}
use Rattle.part_laws.specs.Turns.{Event, letter_with, made}
use Rattle.connection_laws.specs.Turns.{connection_event, RegularShares}
use Rattle.part_laws.proofs.Induction.{through}
use Rattle.part_laws.proofs.ListLaws.{not_true, false_by}
use Rattle.connection_laws.proofs.Clauses.{UpKeeps, up_keeps_nothing, keeps_turn}
use Rattle.connection_laws.proofs.Rows.{is_sound, marks_no_bind}
use Rattle.connection_laws.proofs.Apart.{RowsApart}
use Rattle.connection_laws.proofs.ApartTurns.{apart_through}
use Rattle.connection_laws.proofs.Regular.{makes_message}
use Rattle.connection_laws.proofs.RegularLetters.{makes_forward, makes_drop, makes_pause, makes_resume}
use Rattle.connection_laws.proofs.Pausings.{client_is}
use Rattle.connection_laws.proofs.RegularTurns.{makes_link, rows_through}
use Rattle.connection_laws.proofs.RegularAlone.{Alone, alone_through}
use Rattle.connection_laws.proofs.RegularTicks.{Stays, makes_tick}
use Rattle.connection_laws.proofs.Makes.{Makes, turn_of, nothing_made, turn_marks}
use Rattle.connection_laws.proofs.Through.{kind_through, gone_through}
use Rattle.connection_laws.proofs.Rules.{gives_some, fit_by, placed_at, so, without_letter, with_letter, sever_made, event_after, whole_share}
use Rattle.part_spec.specs.Turn.{connection_act}

-- What is kept behind each turn.
pub record RegularKeeps (s : Settings) (u : ℕ) (before : List Marked) (l : ConnectionLedger) : Type 0 where
  pub keeps : UpKeeps s u before l
  pub kind : l.state.kind ≡ Regular
  pub sound : list_all (is_sound u (entries before)) l.state.rows ≡ true
  pub apart : RowsApart (entries before) l.state
  pub gone : l.state.down ≡ true → l.state.rows ≡ []
  pub alone : Alone l.state

-- the rules by their tests
abbrev pub forward_act : Settings → ConnectionState → OpName → List ℕ → Bool → Act
forward_act s p op rest b = elim b [ true ↦ act (what.Missed op ∷ []) (failed op C4 ++ ended p op None) | false ↦ act (giving s (id_for p.ids) (what.Sent (id_for p.ids) op rest)) (retires s p (id_for p.ids)) ]

abbrev pub drop_act : Settings → ConnectionState → OpName → Option UpRow → Act
drop_act s p op o = elim o [ None ↦ act (what.Idle op ∷ []) [] | Some r ↦ abandons s p r ]

agrees_not : (b : Bool) → agrees b false ≡ true → not b ≡ true
agrees_not true h = absurd (let bad : false ≡ true = h in cc)
agrees_not false h = refl

-- what holds of a regular connection's act holds of its turn's
pub regular_act_is : (P : Act → Type 0) (s : Settings) (p : ConnectionState) (at : ℕ) (input : Input) → p.kind ≡ Regular → P (regular_act s p at input) → P (connection_act s p at input)
regular_act_is P s p at input kind h = subst (λ k. P (elim k [ Regular ↦ regular_act s p at input | BindKind ↦ bind_act s p at input ])) (sym kind) h

-- The rules by input.
module _ (s : Settings) (u : ℕ) (before : List Marked) (l : ConnectionLedger) (h : RegularKeeps s u before l) (place : is_of_kind s Regular u ≡ true) (at : ℕ) (later : nat_le l.state.moment at ≡ true) where
  pub regular : is_bind l.state ≡ false
  regular = ap (is_kind BindKind) h.kind

  begins : begins_with_bind s l.state.number ≡ is_some s.own_bind
  begins = ap (λ n. is_of_kind s Regular n && is_some s.own_bind) h.keeps.stands.number ∙ ap (λ b. b && is_some s.own_bind) place

  pub stays : is_there l.state ≡ true → Stays s u at before l
  stays t = record { later = later; stands = h.keeps.stands; linked = left l.state.linked _ t; there = not_true l.state.down (right l.state.linked _ t); regular = regular; sound = h.sound; apart = h.apart }

  link_made : (now : ℕ) → Makes s before l at None (regular_act s l.state at (LinkUp now)).whats
  link_made now = without_letter s u before l h.keeps.stands at later (where_so (not l.state.linked) (link_up s l.state)) (so s u before l h.keeps.stands at later (not l.state.linked) (link_up s l.state) None (λ t. makes_link s u before l at later h.keeps.stands (not_true l.state.linked t) begins (placed_at s Regular l.state.number (ap (is_of_kind s Regular) h.keeps.stands.number ∙ place))))

  not_waiting : (k : ConnKind) (d w : Bool) → k ≡ Regular → d ≡ false → not (is_kind Regular k && not d && w) ≡ true → w ≡ false
  not_waiting Regular d false e f n = refl
  not_waiting Regular true true e f n = absurd (let bad : true ≡ false = f in cc)
  not_waiting Regular false true e f n = absurd (let bad : false ≡ true = n in cc)
  not_waiting BindKind d w e f n = absurd (cc)

  message_made : (now id : ℕ) (rest : List ℕ) → Makes s before l at None (regular_act s l.state at (MessageIn now id rest)).whats
  message_made now id rest = without_letter s u before l h.keeps.stands at later (where_so (is_there l.state && not (is_holding l.state)) (message l.state at (record { id = id; rest = rest }))) (so s u before l h.keeps.stands at later (is_there l.state && not (is_holding l.state)) (message l.state at (record { id = id; rest = rest })) None (λ t. makes_message s u before l at later (left l.state.linked _ (left (is_there l.state) _ t)) (not_true l.state.down (right l.state.linked _ (left (is_there l.state) _ t))) h.sound h.keeps.stands.own_above (not_waiting l.state.kind l.state.down (is_waiting l.state.waiting) h.kind (not_true l.state.down (right l.state.linked _ (left (is_there l.state) _ t))) (right (is_there l.state) _ t)) (record { id = id; rest = rest })))

  tick_made : (now : ℕ) → Makes s before l at None (regular_act s l.state at (Tick now)).whats
  tick_made now = without_letter s u before l h.keeps.stands at later (where_so (is_there l.state) (ticks s l.state at)) (so s u before l h.keeps.stands at later (is_there l.state) (ticks s l.state at) None (λ t. makes_tick s u at before l (stays t)))

  forward_made : (now word : ℕ) (sender : PartName) (op holder : OpName) (kind : OpKind) (rest : List ℕ) (ask_who : Bool) → l.state.up ≡ true → list_any (λ t. is_forward_of op t.letter) l.taken ≡ false → Makes s before l at (Some (record { sender = sender; letter = Forward op kind rest ask_who holder })) (regular_act s l.state at (LetterFrom now word sender (Forward op kind rest ask_who holder))).whats
  forward_made now word sender op holder kind rest ask_who up new = with_letter s u before l h.keeps.stands at later (forwards s l.state op rest) (Some (record { sender = sender; letter = Forward op kind rest ask_who holder })) (some (is_stopped l.state)) (λ t. makes_forward s u before l at later t h.keeps.stands.number regular h.sound sender op holder kind rest ask_who up new)
    where
      some : (b : Bool) → (forward_act s l.state op rest b).whats ≡ [] → false ≡ true
      some true e = absurd (let bad : what.Missed op ∷ [] ≡ [] = e in cc)
      some false e = gives_some (id_for l.state.ids == s.id_limit) (what.Sent (id_for l.state.ids) op rest) e

  drop_made : (now word : ℕ) (sender : PartName) (op : OpName) → Makes s before l at (Some (record { sender = sender; letter = Drop op })) (regular_act s l.state at (LetterFrom now word sender (Drop op))).whats
  drop_made now word sender op = with_letter s u before l h.keeps.stands at later (drops s l.state op) (Some (record { sender = sender; letter = Drop op })) (some (row_named l.state op)) (λ t. makes_drop s u before l at later t h.keeps.stands.number regular h.sound sender op h.apart (λ r e. false_by l.state.down (λ d. let none : find (λ q. same_op op q.op) l.state.rows ≡ None = ap (find (λ q. same_op op q.op)) (h.gone d) in let both : Some r ≡ None = sym e ∙ none in absurd (cc))))
    where
      some : (o : Option UpRow) → (drop_act s l.state op o).whats ≡ [] → false ≡ true
      some None e = absurd (let bad : what.Idle op ∷ [] ≡ [] = e in cc)
      some (Some r) e = gives_some (l.state.ids.next == s.id_limit) (what.Own l.state.ids.next (abandon r.id)) e

  -- a Pause and a Resume, each where it may come
  may_pause : (sender : PartName) (c : ℕ) → fits_connection s l sender (Pause c) ≡ true → may_pass (is_kind Regular l.state.kind) l.state.waiting (what.Paused c) ≡ true
  may_pause sender c fit =
      let own : sender ≡ Client c = client_is sender c (right (not (is_bind l.state)) _ (left (not (is_bind l.state) && same_part sender (Client c)) _ fit)) in
      let last : not (is_taken_last is_pause is_resume sender l.taken) ≡ true = right (not (is_bind l.state) && same_part sender (Client c)) _ fit in
      both (is_kind Regular l.state.kind) _ (ap (is_kind Regular) h.kind) (ap not (h.keeps.stands.pauses c) ∙ ap (λ q. not (is_taken_last is_pause is_resume q l.taken)) (sym own) ∙ last)

  may_resume : (sender : PartName) (c : ℕ) → fits_connection s l sender (Resume c) ≡ true → may_pass (is_kind Regular l.state.kind) l.state.waiting (what.Resumed c) ≡ true
  may_resume sender c fit =
      let own : sender ≡ Client c = client_is sender c (right (not (is_bind l.state)) _ (left (not (is_bind l.state) && same_part sender (Client c)) _ fit)) in
      let last : is_taken_last is_pause is_resume sender l.taken ≡ true = right (not (is_bind l.state) && same_part sender (Client c)) _ fit in
      both (is_kind Regular l.state.kind) _ (ap (is_kind Regular) h.kind) (h.keeps.stands.pauses c ∙ ap (λ q. is_taken_last is_pause is_resume q l.taken) (sym own) ∙ last)

  pause_made : (now word : ℕ) (sender : PartName) (c : ℕ) → fits_connection s l sender (Pause c) ≡ true → Makes s before l at (Some (record { sender = sender; letter = Pause c })) (regular_act s l.state at (LetterFrom now word sender (Pause c))).whats
  pause_made now word sender c fit = with_letter s u before l h.keeps.stands at later (act (what.Paused c ∷ []) []) (Some (record { sender = sender; letter = Pause c })) (λ e. absurd (let bad : what.Paused c ∷ [] ≡ [] = e in cc)) (λ t. makes_pause s u before l at later t h.keeps.stands.number regular h.sound sender c (right (not (is_bind l.state)) _ (left (not (is_bind l.state) && same_part sender (Client c)) _ fit)) (may_pause sender c fit))

  resume_made : (now word : ℕ) (sender : PartName) (c : ℕ) → fits_connection s l sender (Resume c) ≡ true → Makes s before l at (Some (record { sender = sender; letter = Resume c })) (regular_act s l.state at (LetterFrom now word sender (Resume c))).whats
  resume_made now word sender c fit = with_letter s u before l h.keeps.stands at later (act (what.Resumed c ∷ []) []) (Some (record { sender = sender; letter = Resume c })) (λ e. absurd (let bad : what.Resumed c ∷ [] ≡ [] = e in cc)) (λ t. makes_resume s u before l at later t h.keeps.stands.number regular h.sound sender c (right (not (is_bind l.state)) _ (left (not (is_bind l.state) && same_part sender (Client c)) _ fit)) (may_resume sender c fit))

  -- a fit Forward, taken apart
  abbrev forward_start : PartName → OpName → OpName → Bool
  forward_start sender op holder = same_part sender (Client op.client) && same_part sender (Client holder.client) && not (list_any (λ t. is_forward_of op t.letter) l.taken)

  -- each input, by what of a letter is fit
  pub input_made : (input : Input) → is_unfit (fits_connection s) l (letter_of input) ≡ false → Makes s before l at (letter_of input) (regular_act s l.state at input).whats
  input_made (Arrive now) f = without_letter s u before l h.keeps.stands at later nothing (nothing_made s before l at None)
  input_made (LinkUp now) f = link_made now
  input_made (MessageIn now id rest) f = message_made now id rest
  input_made (Stall now) f = without_letter s u before l h.keeps.stands at later nothing (nothing_made s before l at None)
  input_made (Flow now) f = without_letter s u before l h.keeps.stands at later nothing (nothing_made s before l at None)
  input_made (Reload now plan base) f = without_letter s u before l h.keeps.stands at later nothing (nothing_made s before l at None)
  input_made (Tick now) f = tick_made now
  input_made (LinkGone now why) f = without_letter s u before l h.keeps.stands at later nothing (nothing_made s before l at None)
  input_made (LetterFrom now word sender (Forward op kind rest ask_who holder)) f =
      let fit = fit_by (fits_connection s l sender (Forward op kind rest ask_who holder)) f in
      let kinds = left (forward_start sender op holder && l.state.up && is_of_its_kind s l.state kind rest ask_who) _ fit in
      let ups = left (forward_start sender op holder && l.state.up) (is_of_its_kind s l.state kind rest ask_who) kinds in
      let up = right (forward_start sender op holder) l.state.up ups in
      let new = right (same_part sender (Client op.client) && same_part sender (Client holder.client)) (not (list_any (λ t. is_forward_of op t.letter) l.taken)) (left (forward_start sender op holder) l.state.up ups) in
      forward_made now word sender op holder kind rest ask_who up (not_true (list_any (λ t. is_forward_of op t.letter) l.taken) new)
  input_made (LetterFrom now word sender (Drop op)) f = drop_made now word sender op
  input_made (LetterFrom now word sender (Pause c)) f = pause_made now word sender c (fit_by (fits_connection s l sender (Pause c)) f)
  input_made (LetterFrom now word sender (Resume c)) f = resume_made now word sender c (fit_by (fits_connection s l sender (Resume c)) f)
  input_made (LetterFrom now word sender (Leave holder)) f = absurd (let bad : true ≡ false = sym (fit_by (fits_connection s l sender (Leave holder)) f) ∙ ap (λ b. b && is_taken_last (is_forward_for holder) (is_leave_of holder) sender l.taken) regular in cc)
  input_made (LetterFrom now word sender _) f = absurd (let bad : true ≡ false = f in cc)

  -- no mark makes a row of a Bind
  pub input_marks : (input : Input) → is_unfit (fits_connection s) l (letter_of input) ≡ false → marks_no_bind (letter_of input) ≡ true
  input_marks (LetterFrom now word sender (Forward op kind rest ask_who holder)) f =
      let fit = fit_by (fits_connection s l sender (Forward op kind rest ask_who holder)) f in
      let sort = right (forward_start sender op holder && l.state.up) (is_of_its_kind s l.state kind rest ask_who) (left (forward_start sender op holder && l.state.up && is_of_its_kind s l.state kind rest ask_who) _ fit) in
      agrees_not (same_kind Bind kind) (ap (agrees (same_kind Bind kind)) (sym regular) ∙ right (passes (same_kind kind) (kind_of rest)) (agrees (same_kind Bind kind) (is_bind l.state)) (left (passes (same_kind kind) (kind_of rest) && agrees (same_kind Bind kind) (is_bind l.state)) _ sort))
  input_marks (LetterFrom now word sender _) f = refl
  input_marks _ f = refl

-- what is kept behind a turn
pub after_turn : (s : Settings) (u : ℕ) (before : List Marked) (l : ConnectionLedger) (at : ℕ) (mark : Option Taken) (ws : List What) → RegularKeeps s u before l → marks_no_bind mark ≡ true → Makes s before l at mark ws → RegularKeeps s u (before ++ turn_of l.state.number at mark ws) (behind (step_connection_ledger s) l (turn_of l.state.number at mark ws))
after_turn s u before l at mark ws h n k =
    record {
      keeps = keeps_turn s u before l (turn_of l.state.number at mark ws) h.keeps k.0 k.1;
      kind = kind_through s (turn_of l.state.number at mark ws) l ∙ h.kind;
      sound = rows_through s u (turn_of l.state.number at mark ws) before l k.0 (turn_marks marks_no_bind l.state.number at mark ws refl n) h.sound;
      apart = apart_through s u (turn_of l.state.number at mark ws) before l h.keeps.stands k.0 (turn_marks marks_no_bind l.state.number at mark ws refl n) h.sound h.apart;
      gone = gone_through s (turn_of l.state.number at mark ws) before l k.0 h.gone;
      alone = alone_through s u (turn_of l.state.number at mark ws) before l h.keeps.stands k.0 (turn_marks marks_no_bind l.state.number at mark ws refl n) h.sound h.alone;
    }

-- each turn keeps it
pub event_keeps : (s : Settings) (u : ℕ) → is_of_kind s Regular u ≡ true → (before : List Marked) (l : ConnectionLedger) → RegularKeeps s u before l → (x : Event) → is_unfit (fits_connection s) l (letter_with x) ≡ false → RegularKeeps s u (before ++ made (connection_event s) l.state x) (behind (step_connection_ledger s) l (made (connection_event s) l.state x))
event_keeps s u place before l h = event_after s (RegularKeeps s u) marks_no_bind (after_turn s u) before l h refl (λ at later why r. sever_made s u before l h.keeps.stands at later why r) (λ at later input f. (input_marks s u before l h place at later input f, regular_act_is (λ a. Makes s before l at (letter_of input) a.whats) s l.state at input h.kind (input_made s u before l h place at later input f)))

pub regular_kind : (s : Settings) (u : ℕ) → is_of_kind s Regular u ≡ true → kind_at s u ≡ Regular
regular_kind s u h = by (place_at s u) h
  where
    kind : (k : ConnKind) → is_kind Regular k ≡ true → (if is_kind BindKind k then BindKind else Regular) ≡ Regular
    kind Regular e = refl
    kind BindKind e = absurd (let bad : false ≡ true = e in cc)

    by : (o : Option Place) → (elim o [ None ↦ false | Some p ↦ is_kind Regular p.kind ]) ≡ true → (if elim o [ None ↦ false | Some p ↦ is_kind BindKind p.kind ] then BindKind else Regular) ≡ Regular
    by None e = absurd (let bad : false ≡ true = e in cc)
    by (Some p) e = kind p.kind e

pub nothing_kept : (s : Settings) (u : ℕ) → is_of_kind s Regular u ≡ true → RegularKeeps s u [] (empty_connection_ledger s u)
nothing_kept s u place = record { keeps = up_keeps_nothing s u; kind = regular_kind s u place; sound = refl; apart = record { apart = refl; below = refl; unnamed = refl; free_below = refl; free_unnamed = refl; free_apart = refl }; gone = λ d. refl; alone = inl refl }

pub regular_shares : RegularShares
regular_shares s u place xs = through (fits_connection s) (step_connection_ledger s) (step_connection s) (λ l. l.state) (λ l m. refl) (connection_event s) (RegularKeeps s u) (ConnectionShare s u) (λ before l h. whole_share s u before l h.keeps) (λ before l x h f. event_keeps s u place before l h x f) xs [] (empty_connection_ledger s u) (nothing_kept s u place)
