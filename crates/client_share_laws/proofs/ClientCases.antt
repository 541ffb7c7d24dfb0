-- The turns of a client, a case each: what holds in each case holds of each turn.
use Rattle.std.proofs.Common.{◌≡◌, ℕ, max, Bool, true, false, ◌&&◌, not, List, [], ◌∷◌, refl, ap}
use Rattle.std.specs.Prelude.{Option, Some, None, if◌then◌else◌}
use Rattle.std.specs.List.{list_any}
use Rattle.ldap_spec.specs.Messages.{Message}
use Rattle.lload_names.specs.declared.names.OpName.{OpName}
use Rattle.lload_names.specs.declared.names.Answer.{Answer}
use Rattle.lload_names.specs.declared.names.EndWhy.{EndWhy}
use Rattle.lload_names.specs.declared.names.EndWhy.TheVariants.{ZeroId, IdInUse, Unreadable, Bad, TooBig}
use Rattle.lload_names.specs.declared.names.Refusal.{Refusal}
use Rattle.lload_names.specs.declared.names.PartName.{PartName}
use Rattle.lload_names.specs.declared.names.Letter.{Letter}
use Rattle.lload_names.specs.declared.names.Letter.TheVariants.{Choice, Reply, Failed}
use Rattle.lload_names.specs.declared.names.What.{What}
use Rattle.lload_names.specs.declared.names.What.TheVariants as what
use Rattle.lload_names.specs.declared.inputs.Input.TheVariants.{Arrive, Message as MessageIn, LetterFrom, LinkGone, Stall, Flow}
use Rattle.lload_names.specs.declared.inputs.Effects.{Effects}
use Rattle.lload_spec.specs.Settings.{Settings}
use Rattle.lload_spec.specs.Entries.{is_link_reason, same_why}
use Rattle.lload_spec.specs.Journal.{same_op}
use Rattle.part_spec.specs.Marked.{Marked, Taken}
use Rattle.part_spec.specs.Share.{reply_rest}
use Rattle.part_spec.specs.Inputs.{Act, act, nothing, marked_by}
use Rattle.part_spec.specs.ClientState.{ClientState, ClientRow, check_at, is_present, is_holding, row_named}
use Rattle.part_spec.specs.ClientTurn.{closing, refused, noticed, whats_by, whats_for, by_check, message, letter, link_gone, stalls, flows, where_so, client_sever}
use Rattle.lload_spec.proofs.Growth.{left}
use Rattle.part_laws.proofs.ListLaws.{not_true}
use Rattle.part_laws.specs.Turns.{Event, Comes, Severed, made, no_effects}
use Rattle.client_laws.specs.Turns.{client_event}
use Rattle.client_laws.proofs.ClientTurns.{client_turn_of}

-- the mark of a letter
abbrev pub taken : PartName → Letter → Option Taken
taken sender x = Some (record { sender = sender; letter = x })

-- whether the notice is sent for this end
abbrev pub is_noticed_why : EndWhy → Bool
is_noticed_why why = list_any (same_why why) (ZeroId ∷ IdInUse ∷ Unreadable ∷ Bad ∷ TooBig ∷ [])

-- what each turn of a client in this state is
pub record Cases (s : Settings) (p : ClientState) (P : List Marked → Type 0) : Type 0 where
  pub none : P []
  pub arrives : (at : ℕ) → p.arrived ≡ false → P (client_turn_of p.number at None (what.Arrived ∷ []))
  pub checked : (at : ℕ) (m : Message) → is_present p ≡ true → is_holding s p ≡ false → P (client_turn_of p.number at None (what.In m.id m.rest ∷ whats_by m (check_at s p m)))
  pub chosen : (at : ℕ) (sender : PartName) (op : OpName) (a : Answer) → p.arrived ≡ true → P (client_turn_of p.number at (taken sender (Choice op a)) (what.Chosen op a ∷ whats_for (row_named p op) a))
  pub answered : (at : ℕ) (sender : PartName) (op : OpName) (rest : List ℕ) (is_last : Bool) (who : Option (List ℕ)) (r : ClientRow) → row_named p op ≡ Some r → p.arrived ≡ true → P (client_turn_of p.number at (taken sender (Reply op rest is_last who)) (what.Out r.request.id rest ∷ []))
  pub failed : (at : ℕ) (sender : PartName) (op : OpName) (which : Refusal) (r : ClientRow) → row_named p op ≡ Some r → p.arrived ≡ true → P (client_turn_of p.number at (taken sender (Failed op which)) (refused r.request which))
  pub late : (at : ℕ) (mark : Option Taken) (op : OpName) → row_named p op ≡ None → p.arrived ≡ true → ((n : OpName) → same_op n op ≡ false → reply_rest n mark ≡ []) → P (client_turn_of p.number at mark (what.Late op ∷ []))
  pub breaks : (at : ℕ) (why : EndWhy) → is_present p ≡ true → is_link_reason why ≡ true → is_noticed_why why ≡ true → P (client_turn_of p.number at None (noticed why))
  pub severed : (at : ℕ) (why : EndWhy) → is_present p ≡ true → is_link_reason why ≡ true → P (client_turn_of p.number at None (what.Gone why ∷ []))
  pub stalls : (at : ℕ) → is_present p ≡ true → P (client_turn_of p.number at None (what.Stalled ∷ []))
  pub flows : (at : ℕ) → is_present p ≡ true → P (client_turn_of p.number at None (what.Flowing ∷ []))

-- what holds of all entries that a turn may have
pub any_case : (s : Settings) (p : ClientState) (P : List Marked → Type 0) → ((at : ℕ) (mark : Option Taken) (ws : List What) → P (client_turn_of p.number at mark ws)) → Cases s p P
any_case s p P f =
    record {
      none = f 0 None [];
      arrives = λ at fresh. f at None (what.Arrived ∷ []);
      checked = λ at m e h. f at None (what.In m.id m.rest ∷ whats_by m (check_at s p m));
      chosen = λ at sender op a here. f at (taken sender (Choice op a)) (what.Chosen op a ∷ whats_for (row_named p op) a);
      answered = λ at sender op rest is_last who r e here. f at (taken sender (Reply op rest is_last who)) (what.Out r.request.id rest ∷ []);
      failed = λ at sender op which r e here. f at (taken sender (Failed op which)) (refused r.request which);
      late = λ at mark op e here about. f at mark (what.Late op ∷ []);
      breaks = λ at why h e n. f at None (noticed why);
      severed = λ at why here e. f at None (what.Gone why ∷ []);
      stalls = λ at here. f at None (what.Stalled ∷ []);
      flows = λ at here. f at None (what.Flowing ∷ []);
    }

module _ (s : Settings) (p : ClientState) (P : List Marked → Type 0) (k : Cases s p P) where
  abbrev Of : ℕ → Option Taken → Act → Type 0
  Of at mark a = P (client_turn_of p.number at mark a.whats)

  so : (at : ℕ) (mark : Option Taken) (b : Bool) (a : Act) → (b ≡ true → Of at mark a) → Of at mark (where_so b a)
  so at mark true a h = h refl
  so at mark false a h = k.none

  message_case : (at : ℕ) (m : Message) → Of at None (message s p at m)
  message_case at m = by (is_present p) (is_holding s p) refl refl
    where
      state : Bool → Bool → Act
      state a b = elim (a && not b) [ false ↦ nothing | true ↦ by_check s p at m (check_at s p m) ]

      by : (a b : Bool) → is_present p ≡ a → is_holding s p ≡ b → Of at None (state a b)
      by true false e f = k.checked at m e f
      by true true e f = k.none
      by false b e f = k.none

  letter_case : (at : ℕ) (sender : PartName) (x : Letter) → p.arrived ≡ true → Of at (taken sender x) (letter s p x)
  letter_case at sender (Choice op a) here = k.chosen at sender op a here
  letter_case at sender (Reply op rest is_last who) here = by (row_named p op) refl
    where
      state : Option ClientRow → Act
      state o = elim o [ None ↦ act (what.Late op ∷ []) [] | Some r ↦ act (what.Out r.request.id rest ∷ []) [] ]

      by : (o : Option ClientRow) → row_named p op ≡ o → Of at (taken sender (Reply op rest is_last who)) (state o)
      by None e = k.late at (taken sender (Reply op rest is_last who)) op e here (λ n h. ap (λ b. if b then rest ∷ [] else []) h)
      by (Some r) e = k.answered at sender op rest is_last who r e here
  letter_case at sender (Failed op which) here = by (row_named p op) refl
    where
      state : Option ClientRow → Act
      state o = elim o [ None ↦ act (what.Late op ∷ []) [] | Some r ↦ act (refused r.request which) [] ]

      by : (o : Option ClientRow) → row_named p op ≡ o → Of at (taken sender (Failed op which)) (state o)
      by None e = k.late at (taken sender (Failed op which)) op e here (λ n h. refl)
      by (Some r) e = k.failed at sender op which r e here
  letter_case at sender _ here = k.none

  link_case : (at : ℕ) (why : EndWhy) → Of at None (where_so (is_present p) (link_gone p why))
  link_case at why = by (is_present p) why refl
    where
      by : (b : Bool) (x : EndWhy) → is_present p ≡ b → Of at None (where_so b (link_gone p x))
      by true Bad e = k.breaks at Bad e refl refl
      by true TooBig e = k.breaks at TooBig e refl refl
      by true _ e = k.none
      by false x e = k.none

  pub event_case : (x : Event) → P (made (client_event s) p x)
  event_case (Comes (Arrive now)) = so (max p.moment now) None (not p.arrived) (act (what.Arrived ∷ []) []) (λ e. k.arrives (max p.moment now) (not_true p.arrived e))
  event_case (Comes (MessageIn now id rest)) = message_case (max p.moment now) (record { id = id; rest = rest })
  event_case (Comes (LetterFrom now word sender x)) = so (max p.moment now) (taken sender x) p.arrived (letter s p x) (λ e. letter_case (max p.moment now) sender x e)
  event_case (Comes (LinkGone now why)) = link_case (max p.moment now) why
  event_case (Comes (Stall now)) = so (max p.moment now) None (is_present p && not p.pausing.stalled) (stalls p) (λ e. k.stalls (max p.moment now) (left (is_present p) _ e))
  event_case (Comes (Flow now)) = so (max p.moment now) None (is_present p && p.pausing.stalled) (flows p) (λ e. k.flows (max p.moment now) (left (is_present p) _ e))
  event_case (Comes _) = k.none
  event_case (Severed now why) = by (is_link_reason why) refl
    where
      state : Bool → Effects
      state b = elim b [ true ↦ client_sever p now why | false ↦ no_effects ]

      by : (b : Bool) → is_link_reason why ≡ b → P (marked_by None (state b).entries)
      by true e = so (max p.moment now) None (is_present p) (act (what.Gone why ∷ []) (closing p)) (λ here. k.severed (max p.moment now) why here e)
      by false e = k.none
