-- A bind connection keeps its share.
use Rattle.std.proofs.Common.{◌≡◌, ℕ, Bool, true, false, ◌==◌, ◌&&◌, ◌||◌, not, List, [], ◌∷◌, ◌++◌, refl, ap, ◌∙◌, sym, subst}
use Rattle.std.specs.Prelude.{Option, Some, None, is_some, nat_le, if◌then◌else◌}
use Rattle.std.specs.List.{list_any}
use Rattle.ldap_spec.specs.Kinds.{kind_of, same_kind}
use Rattle.lload_names.specs.declared.names.OpName.{OpName}
use Rattle.lload_names.specs.declared.names.OpKind.{OpKind}
use Rattle.lload_names.specs.declared.names.OpKind.TheVariants.{Bind}
use Rattle.lload_names.specs.declared.names.ConnKind.{ConnKind}
use Rattle.lload_names.specs.declared.names.ConnKind.TheVariants.{Regular, Bind as BindKind}
use Rattle.lload_names.specs.declared.names.PartName.{PartName}
use Rattle.lload_names.specs.declared.names.PartName.TheVariants.{Client}
use Rattle.lload_names.specs.declared.names.Letter.TheVariants.{Forward, Drop, Leave, Pause, Resume}
use Rattle.lload_names.specs.declared.names.What.{What}
use Rattle.lload_names.specs.declared.names.What.TheVariants as what
use Rattle.lload_names.specs.declared.plans.Place.{Place}
use Rattle.lload_names.specs.declared.inputs.Input.{Input}
use Rattle.lload_names.specs.declared.inputs.Input.TheVariants.{Arrive, LinkUp, Message as MessageIn, LetterFrom, Tick, LinkGone, Stall, Flow, Reload}
use Rattle.lload_names.specs.declared.names.EndWhy.TheVariants.{Unfinished}
use Rattle.lload_spec.specs.Lists.{passes, agrees}
use Rattle.lload_spec.specs.Settings.{Settings, is_kind, is_of_kind, place_at}
use Rattle.lload_spec.specs.Journal.{same_part}
use Rattle.lload_spec.specs.Identifiers.{id_for}
use Rattle.lload_spec.specs.OneEach.{begins_with_bind}
use Rattle.part_spec.specs.Marked.{Marked, Taken, entries}
use Rattle.part_spec.specs.Inputs.{Act, nothing, letter_of}
use Rattle.part_spec.specs.ConnectionState.{ConnectionState, step_connection, is_there, is_bind, is_stopped}
use Rattle.part_spec.specs.ConnectionTurn.{where_so, with_drained}
use Rattle.part_spec.specs.RegularTurn.{regular_act}
use Rattle.part_spec.specs.BindTurn.{bind_act, link_up, message, forwards, leaves, holds, ticks}
use Rattle.part_spec.specs.Turn.{connection_act}
use Rattle.part_spec.specs.Fit.{ConnectionLedger, empty_connection_ledger, step_connection_ledger, fits_connection, is_unfit, is_forward_of, is_of_its_kind, is_free_for, is_held_for, ledger_behind as behind}
use Rattle.part_spec.specs.Share.{ConnectionShare}
use Rattle.part_laws.specs.Turns.{Event, letter_with, made}
use Rattle.connection_laws.specs.Turns.{connection_event}
use Rattle.bind_laws.specs.Turns.{BindShares}
use Rattle.lload_spec.proofs.Growth.{left, right}
use Rattle.part_laws.proofs.Induction.{through}
use Rattle.part_laws.proofs.ListLaws.{not_true}
use Rattle.connection_laws.proofs.Clauses.{UpKeeps, up_keeps_nothing, keeps_turn}
use Rattle.connection_laws.proofs.Makes.{Makes, turn_of, nothing_made, turn_marks}
use Rattle.connection_laws.proofs.Rules.{gives_some, fit_by, placed_at, so, without_letter, with_letter, sever_made, event_after, whole_share}
use Rattle.bind_laws.proofs.Lone.{BindStands, marks_a_bind, bind_through, no_own}
use Rattle.bind_laws.proofs.Rules.{forward_act, leave_act, makes_link, makes_message, makes_forward, makes_leave, makes_tick}

-- What is kept behind each turn.
pub record BindKeeps (s : Settings) (u : ℕ) (before : List Marked) (l : ConnectionLedger) : Type 0 where
  pub keeps : UpKeeps s u before l
  pub stands : BindStands l.state

-- what holds of a bind connection's act holds of its turn's
pub bind_act_is : (P : Act → Type 0) (s : Settings) (p : ConnectionState) (at : ℕ) (input : Input) → p.kind ≡ BindKind → P (bind_act s p at input) → P (connection_act s p at input)
bind_act_is P s p at input kind h = subst (λ k. P (elim k [ Regular ↦ regular_act s p at input | BindKind ↦ bind_act s p at input ])) (sym kind) h

-- a connection of one kind is of no other, and begins with no own Bind
kind_is : (s : Settings) (u : ℕ) → is_of_kind s BindKind u ≡ true → is_of_kind s Regular u ≡ false
kind_is s u h = by (place_at s u) h
  where
    kind : (k : ConnKind) → is_kind BindKind k ≡ true → is_kind Regular k ≡ false
    kind Regular e = absurd (let bad : false ≡ true = e in cc)
    kind BindKind e = refl

    by : (o : Option Place) → (elim o [ None ↦ false | Some q ↦ is_kind BindKind q.kind ]) ≡ true → (elim o [ None ↦ false | Some q ↦ is_kind Regular q.kind ]) ≡ false
    by None e = refl
    by (Some q) e = kind q.kind e

pub begins_alone : (s : Settings) (u : ℕ) → is_of_kind s BindKind u ≡ true → begins_with_bind s u ≡ false
begins_alone s u h = ap (λ b. b && is_some s.own_bind) (kind_is s u h)

-- The rules by input.
module _ (s : Settings) (u : ℕ) (before : List Marked) (l : ConnectionLedger) (h : BindKeeps s u before l) (place : is_of_kind s BindKind u ≡ true) (at : ℕ) (later : nat_le l.state.moment at ≡ true) where
  bind_is : is_bind l.state ≡ true
  bind_is = ap (is_kind BindKind) h.stands.kind

  begins : begins_with_bind s l.state.number ≡ false
  begins = ap (begins_with_bind s) h.keeps.stands.number ∙ begins_alone s u place

  own : l.state.own_bind ≡ None
  own = no_own s u (entries before) l.state (begins_alone s u place) h.keeps.stands.own

  idle_made : Makes s before l at None (with_drained s at None l.state nothing).whats
  idle_made = without_letter s u before l h.keeps.stands at later nothing (nothing_made s before l at None)

  link_made : (now : ℕ) → Makes s before l at None (bind_act s l.state at (LinkUp now)).whats
  link_made now = without_letter s u before l h.keeps.stands at later (where_so (not l.state.linked) (link_up l.state)) (so s u before l h.keeps.stands at later (not l.state.linked) (link_up l.state) None (λ t. makes_link s u before l at later h.keeps.stands (not_true l.state.linked t) begins own (placed_at s BindKind l.state.number (ap (is_of_kind s BindKind) h.keeps.stands.number ∙ place))))

  message_made : (now id : ℕ) (rest : List ℕ) → Makes s before l at None (bind_act s l.state at (MessageIn now id rest)).whats
  message_made now id rest = without_letter s u before l h.keeps.stands at later (where_so (is_there l.state) (message s l.state (record { id = id; rest = rest }))) (so s u before l h.keeps.stands at later (is_there l.state) (message s l.state (record { id = id; rest = rest })) None (λ t. makes_message s before l at later (left l.state.linked _ t) h.stands (not_true l.state.down (right l.state.linked _ t)) begins own (record { id = id; rest = rest })))

  tick_made : (now : ℕ) → Makes s before l at None (bind_act s l.state at (Tick now)).whats
  tick_made now = without_letter s u before l h.keeps.stands at later (where_so (is_there l.state) (ticks s l.state at)) (so s u before l h.keeps.stands at later (is_there l.state) (ticks s l.state at) None (λ t. makes_tick s before l at later (left l.state.linked _ t) h.stands (not_true l.state.down (right l.state.linked _ t))))

  -- a fit Forward, taken apart
  abbrev forward_start : PartName → OpName → OpName → Bool
  forward_start sender op holder = same_part sender (Client op.client) && same_part sender (Client holder.client) && not (list_any (λ t. is_forward_of op t.letter) l.taken)

  abbrev forward_kind : PartName → OpName → OpName → OpKind → List ℕ → Bool → Bool
  forward_kind sender op holder kind rest ask_who = forward_start sender op holder && l.state.up && is_of_its_kind s l.state kind rest ask_who

  free_of : (b : Bool) → b ≡ true → (f g : Bool) → (not b || f && g) ≡ true → f ≡ true
  free_of true e f g k = left f g k
  free_of false e f g k = absurd (let bad : false ≡ true = e in cc)

  forward_made : (now word : ℕ) (sender : PartName) (op holder : OpName) (kind : OpKind) (rest : List ℕ) (ask_who : Bool) → fits_connection s l sender (Forward op kind rest ask_who holder) ≡ true → Makes s before l at (Some (record { sender = sender; letter = Forward op kind rest ask_who holder })) (bind_act s l.state at (LetterFrom now word sender (Forward op kind rest ask_who holder))).whats
  forward_made now word sender op holder kind rest ask_who fit =
      let ups = left (forward_start sender op holder && l.state.up) (is_of_its_kind s l.state kind rest ask_who) (left (forward_kind sender op holder kind rest ask_who) _ fit) in
      let up = right (forward_start sender op holder) l.state.up ups in
      let new = right (same_part sender (Client op.client) && same_part sender (Client holder.client)) (not (list_any (λ t. is_forward_of op t.letter) l.taken)) (left (forward_start sender op holder) l.state.up ups) in
      let free = free_of (is_bind l.state) bind_is (is_free_for l.state holder) (is_held_for l.state op holder) (right (forward_kind sender op holder kind rest ask_who) _ fit) in
      with_letter s u before l h.keeps.stands at later (forwards s l.state op rest holder) (Some (record { sender = sender; letter = Forward op kind rest ask_who holder })) (some (is_stopped l.state)) (λ t. makes_forward s before l at later t h.stands sender op holder kind rest ask_who up (not_true (list_any (λ t. is_forward_of op t.letter) l.taken) new) free)
    where
      some : (b : Bool) → (forward_act s l.state op rest holder b).whats ≡ [] → false ≡ true
      some true e = absurd (let bad : what.Missed op ∷ [] ≡ [] = e in cc)
      some false e = gives_some (id_for l.state.ids == s.id_limit) (what.Sent (id_for l.state.ids) op rest) e

  leave_made : (now word : ℕ) (sender : PartName) (holder : OpName) → Makes s before l at (Some (record { sender = sender; letter = Leave holder })) (bind_act s l.state at (LetterFrom now word sender (Leave holder))).whats
  leave_made now word sender holder = with_letter s u before l h.keeps.stands at later (leaves l.state holder) (Some (record { sender = sender; letter = Leave holder })) (some (holds l.state holder && not l.state.down)) (λ t. makes_leave s before l at later t h.stands sender holder)
    where
      some : (b : Bool) → (leave_act l.state holder b).whats ≡ [] → false ≡ true
      some true e = absurd (let bad : what.Down Unfinished ∷ [] ≡ [] = e in cc)
      some false e = absurd (let bad : what.Idle holder ∷ [] ≡ [] = e in cc)

  -- a letter of a regular connection isn't fit
  unfit : {C : Type 0} (b c : Bool) → b ≡ true → not (not b && c) ≡ false → C
  unfit true c e f = absurd (let bad : true ≡ false = f in cc)
  unfit false c e f = absurd (let bad : false ≡ true = e in cc)

  unfit_twice : {C : Type 0} (b c d : Bool) → b ≡ true → not (not b && c && d) ≡ false → C
  unfit_twice true c d e f = absurd (let bad : true ≡ false = f in cc)
  unfit_twice false c d e f = absurd (let bad : false ≡ true = e in cc)

  -- each input, by what of a letter is fit
  pub input_made : (input : Input) → is_unfit (fits_connection s) l (letter_of input) ≡ false → Makes s before l at (letter_of input) (bind_act s l.state at input).whats
  input_made (Arrive now) f = idle_made
  input_made (LinkUp now) f = link_made now
  input_made (MessageIn now id rest) f = message_made now id rest
  input_made (Stall now) f = idle_made
  input_made (Flow now) f = idle_made
  input_made (Reload now plan base) f = idle_made
  input_made (Tick now) f = tick_made now
  input_made (LinkGone now why) f = idle_made
  input_made (LetterFrom now word sender (Forward op kind rest ask_who holder)) f = forward_made now word sender op holder kind rest ask_who (fit_by (fits_connection s l sender (Forward op kind rest ask_who holder)) f)
  input_made (LetterFrom now word sender (Leave holder)) f = leave_made now word sender holder
  input_made (LetterFrom now word sender (Drop op)) f = unfit (is_bind l.state) _ bind_is f
  input_made (LetterFrom now word sender (Pause c)) f = unfit_twice (is_bind l.state) _ _ bind_is f
  input_made (LetterFrom now word sender (Resume c)) f = unfit_twice (is_bind l.state) _ _ bind_is f
  input_made (LetterFrom now word sender _) f = absurd (let bad : true ≡ false = f in cc)

  -- each mark makes a row of a Bind, if it makes one
  pub input_marks : (input : Input) → is_unfit (fits_connection s) l (letter_of input) ≡ false → marks_a_bind (letter_of input) ≡ true
  input_marks (LetterFrom now word sender (Forward op kind rest ask_who holder)) f =
      let fit = fit_by (fits_connection s l sender (Forward op kind rest ask_who holder)) f in
      let sort = right (forward_start sender op holder && l.state.up) (is_of_its_kind s l.state kind rest ask_who) (left (forward_kind sender op holder kind rest ask_who) _ fit) in
      agreed (same_kind Bind kind) (ap (agrees (same_kind Bind kind)) (sym bind_is) ∙ right (passes (same_kind kind) (kind_of rest)) (agrees (same_kind Bind kind) (is_bind l.state)) (left (passes (same_kind kind) (kind_of rest) && agrees (same_kind Bind kind) (is_bind l.state)) _ sort))
    where
      agreed : (b : Bool) → agrees b true ≡ true → b ≡ true
      agreed true e = refl
      agreed false e = absurd (let bad : false ≡ true = e in cc)
  input_marks (LetterFrom now word sender _) f = refl
  input_marks _ f = refl

-- what is kept behind a turn
pub after_turn : (s : Settings) (u : ℕ) (before : List Marked) (l : ConnectionLedger) (at : ℕ) (mark : Option Taken) (ws : List What) → BindKeeps s u before l → marks_a_bind mark ≡ true → Makes s before l at mark ws → BindKeeps s u (before ++ turn_of l.state.number at mark ws) (behind (step_connection_ledger s) l (turn_of l.state.number at mark ws))
after_turn s u before l at mark ws h n k =
    record {
      keeps = keeps_turn s u before l (turn_of l.state.number at mark ws) h.keeps k.0 k.1;
      stands = bind_through s u (turn_of l.state.number at mark ws) before l h.keeps.stands k.0 (turn_marks marks_a_bind l.state.number at mark ws refl n) h.stands;
    }

-- what each turn keeps beside it
pub event_keeps_by : (s : Settings) (u : ℕ) → is_of_kind s BindKind u ≡ true → (P : List Marked → ConnectionLedger → Type 0) → ((before : List Marked) (l : ConnectionLedger) → P before l → BindKeeps s u before l) → ((before : List Marked) (l : ConnectionLedger) (at : ℕ) (mark : Option Taken) (ws : List What) → P before l → marks_a_bind mark ≡ true → Makes s before l at mark ws → P (before ++ turn_of l.state.number at mark ws) (behind (step_connection_ledger s) l (turn_of l.state.number at mark ws))) → (before : List Marked) (l : ConnectionLedger) → P before l → (x : Event) → is_unfit (fits_connection s) l (letter_with x) ≡ false → P (before ++ made (connection_event s) l.state x) (behind (step_connection_ledger s) l (made (connection_event s) l.state x))
event_keeps_by s u place P keeps after before l p =
    let h : BindKeeps s u before l = keeps before l p in
    event_after s P marks_a_bind after before l p refl (λ at later why r. sever_made s u before l h.keeps.stands at later why r) (λ at later input f. (input_marks s u before l h place at later input f, bind_act_is (λ a. Makes s before l at (letter_of input) a.whats) s l.state at input h.stands.kind (input_made s u before l h place at later input f)))

-- each turn keeps it
pub event_keeps : (s : Settings) (u : ℕ) → is_of_kind s BindKind u ≡ true → (before : List Marked) (l : ConnectionLedger) → BindKeeps s u before l → (x : Event) → is_unfit (fits_connection s) l (letter_with x) ≡ false → BindKeeps s u (before ++ made (connection_event s) l.state x) (behind (step_connection_ledger s) l (made (connection_event s) l.state x))
event_keeps s u place before l h = event_keeps_by s u place (BindKeeps s u) (λ b i k. k) (after_turn s u) before l h

pub nothing_kept : (s : Settings) (u : ℕ) → is_of_kind s BindKind u ≡ true → BindKeeps s u [] (empty_connection_ledger s u)
nothing_kept s u place = record { keeps = up_keeps_nothing s u; stands = record { kind = ap (λ b. if b then BindKind else Regular) place; lone = refl; free = refl; quiet = refl; gone = λ d. refl } }

pub bind_shares : BindShares
bind_shares s u place xs = through (fits_connection s) (step_connection_ledger s) (step_connection s) (λ l. l.state) (λ l m. refl) (connection_event s) (BindKeeps s u) (ConnectionShare s u) (λ before l h. whole_share s u before l h.keeps) (λ before l x h f. event_keeps s u place before l h x f) xs [] (empty_connection_ledger s u) (nothing_kept s u place)
