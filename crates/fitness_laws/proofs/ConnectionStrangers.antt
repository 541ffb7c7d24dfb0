-- A connection writes to no connection, and the desk to clients alone.
use Rattle.std.proofs.Common.{ℕ, suc, true, false, List, [], ◌∷◌, ◌++◌, ◌==◌, Option, Some, None, refl}
use Rattle.std.specs.Prelude.{◌&&◌, filter, find, flat_map, not}
use Rattle.ldap_spec.specs.Bodies.{simple_bind}
use Rattle.ldap_spec.specs.Kinds.{is_final, is_intermediate}
use Rattle.ldap_spec.specs.Messages.{Message}
use Rattle.ldap_spec.specs.Responses.{has_code, tells_who, who_value}
use Rattle.ldap_spec.specs.Tags.{bind_in_progress, success}
use Rattle.lload_names.specs.declared.inputs.Input.{Input}
use Rattle.lload_names.specs.declared.inputs.Input.TheVariants as input
use Rattle.lload_names.specs.declared.names.EndWhy.{EndWhy}
use Rattle.lload_names.specs.declared.names.EndWhy.TheVariants.{Bad, Drained, OwnBind as OwnBindFailed, TimedOut, Unfinished}
use Rattle.lload_names.specs.declared.names.Letter.{Letter}
use Rattle.lload_names.specs.declared.names.Letter.TheVariants as real
use Rattle.lload_names.specs.declared.names.OpName.{OpName}
use Rattle.lload_names.specs.declared.names.PartName.{PartName}
use Rattle.lload_names.specs.declared.names.PartName.TheVariants.{Desk, Client, Up as Connection}
use Rattle.lload_names.specs.declared.names.Refusal.TheVariants.{C9}
use Rattle.lload_names.specs.declared.names.What.TheVariants as what
use Rattle.lload_names.specs.declared.plans.TierPlan.{TierPlan}
use Rattle.lload_spec.specs.BadMessages.{is_bad}
use Rattle.lload_spec.specs.Identifiers.{id_for}
use Rattle.lload_spec.specs.Journal.{same_op}
use Rattle.lload_spec.specs.Settings.{Settings}
use Rattle.part_spec.specs.BindTurn as bind
use Rattle.part_spec.specs.BindTurn.{bind_act, bind_rule, holds, was_lost}
use Rattle.part_spec.specs.ConnectionState.{ConnectionState, UpRow, is_bind, is_holding, is_stopped, is_there, is_under, is_under_own, is_under_who, keeps_back, message_facts, row_named}
use Rattle.part_spec.specs.ConnectionTurn.{behind_act, comes_up, ended, giving, goes_down, holder_ended, is_drained, is_due, latency, loss, retires, takes_down, with_drained}
use Rattle.part_spec.specs.DeskState.{DeskState}
use Rattle.part_spec.specs.DeskTurn as desk
use Rattle.part_spec.specs.DeskTurn.{desk_act}
use Rattle.part_spec.specs.Inputs.{Act, act, also, failed, letter_of, nothing, reply, to}
use Rattle.part_spec.specs.Marked.{Taken}
use Rattle.part_spec.specs.RegularTurn as regular
use Rattle.part_spec.specs.RegularTurn.{is_own_due, regular_act, regular_rule}
use Rattle.stands_laws.specs.Follows.{connection_end}
use Rattle.fitness_laws.proofs.Strangers.{NoneTo, WritesNone, none_act, none_each, none_either, none_found, none_maybe, none_more, none_so}

module _ (n : ℕ) where
  -- What both kinds write.
  no_holder : (p : ConnectionState) → NoneTo (Connection n) (holder_ended p)
  no_holder p = none_maybe (Connection n) p.holder (λ h. ended p h None) (λ h. refl)

  no_retires : (s : Settings) (p : ConnectionState) (id : ℕ) → NoneTo (Connection n) (retires s p id)
  no_retires s p id = none_either (Connection n) (id == s.id_limit) (to Desk (real.IsRetired p.number)) [] refl refl

  no_loss : (p : ConnectionState) (r : UpRow) → NoneTo (Connection n) (loss p r)
  no_loss p r = none_either (Connection n) (is_bind p) [] (ended p r.op None) refl refl

  no_down : (p : ConnectionState) (why : EndWhy) → WritesNone (Connection n) (goes_down p why)
  no_down p why =
      none_more (Connection n) (flat_map (loss p) p.rows) (holder_ended p ++ to Desk (real.IsDown p.number)) (none_each (Connection n) (loss p) p.rows (no_loss p))
      (none_more (Connection n) (holder_ended p) (to Desk (real.IsDown p.number)) (no_holder p) refl)

  no_takes_down : (p : ConnectionState) (m : Message) (a : Act) → WritesNone (Connection n) a → WritesNone (Connection n) (takes_down p m a)
  no_takes_down p m a e = none_act (Connection n) (is_bad (message_facts p) m) (goes_down p Bad) a (no_down p Bad) e

  no_drained : (s : Settings) (at : ℕ) (mark : Option Taken) (p : ConnectionState) (a : Act) → WritesNone (Connection n) a → WritesNone (Connection n) (with_drained s at mark p a)
  no_drained s at mark p a e =
      none_act (Connection n) (is_drained (behind_act s at mark p a)) (also a (act (what.Down Drained ∷ []) (to Desk (real.IsDown p.number)))) a
      (none_more (Connection n) a.letters (to Desk (real.IsDown p.number)) e refl) e

  pub connection_ends_none : (p : ConnectionState) (why : EndWhy) → WritesNone (Connection n) (connection_end p why)
  connection_ends_none p why = none_so (Connection n) (is_there p) (goes_down p why) (no_down p why)

  -- A regular connection.
  no_link_up : (s : Settings) (p : ConnectionState) → WritesNone (Connection n) (regular.link_up s p)
  no_link_up s p = none_found (Connection n) s.own_bind (comes_up p) (λ own. act (giving s p.ids.next (what.Own p.ids.next (simple_bind own.dn own.credentials))) (retires s p p.ids.next)) refl (λ own. no_retires s p p.ids.next)

  no_row_answer : (p : ConnectionState) (at : ℕ) (m : Message) (r : UpRow) → WritesNone (Connection n) (regular.row_answer p at m r)
  no_row_answer p at m r = none_act (Connection n) (is_final r.kind m.rest) (act [] (reply r.op m.rest true None ++ ended p r.op (latency at r))) (act [] (reply r.op m.rest false None)) refl refl

  no_answered : (p : ConnectionState) (at : ℕ) (m : Message) → WritesNone (Connection n) (regular.answered p at m)
  no_answered p at m =
      none_act (Connection n) (is_under_own p m.id) (regular.own_answer p m) (elim (find (is_under m.id) p.rows) [ None ↦ nothing | Some r ↦ regular.row_answer p at m r ])
      (none_act (Connection n) (has_code success m.rest) (comes_up p) (goes_down p OwnBindFailed) refl (no_down p OwnBindFailed))
      (none_found (Connection n) (find (is_under m.id) p.rows) nothing (regular.row_answer p at m) refl (no_row_answer p at m))

  no_forwards : (s : Settings) (p : ConnectionState) (op : OpName) (rest : List ℕ) → WritesNone (Connection n) (regular.forwards s p op rest)
  no_forwards s p op rest =
      none_act (Connection n) (is_stopped p) (act (what.Missed op ∷ []) (regular.missed_letters p op)) (act (giving s (id_for p.ids) (what.Sent (id_for p.ids) op rest)) (retires s p (id_for p.ids)))
      refl (no_retires s p (id_for p.ids))

  no_regular_letter : (s : Settings) (p : ConnectionState) (l : Letter) → WritesNone (Connection n) (regular.letter s p l)
  no_regular_letter s p (real.Forward op kind rest ask holder) = no_forwards s p op rest
  no_regular_letter s p (real.Drop op) = none_found (Connection n) (row_named p op) (act (what.Idle op ∷ []) []) (regular.abandons s p) refl (λ r. no_retires s p p.ids.next)
  no_regular_letter s p _ = refl

  no_expire : (s : Settings) (p : ConnectionState) (id : ℕ) (rows : List UpRow) → WritesNone (Connection n) (regular.expire s p id rows)
  no_expire s p id [] = refl
  no_expire s p id (r ∷ rs) = none_more (Connection n) (regular.expires s p id r).letters (regular.expire s p (suc id) rs).letters (no_retires s p id) (no_expire s p (suc id) rs)

  no_ticks : (s : Settings) (p : ConnectionState) (at : ℕ) → WritesNone (Connection n) (regular.ticks s p at)
  no_ticks s p at = none_more (Connection n) (regular.expire s p p.ids.next (filter (is_due s at) p.rows)).letters _ (no_expire s p p.ids.next (filter (is_due s at) p.rows)) (none_so (Connection n) (is_own_due s p at) (goes_down p TimedOut) (no_down p TimedOut))

  no_regular_rule : (s : Settings) (p : ConnectionState) (at : ℕ) (i : Input) → WritesNone (Connection n) (regular_rule s p at i)
  no_regular_rule s p at (input.LinkUp now) = none_so (Connection n) (not p.linked) (regular.link_up s p) (no_link_up s p)
  no_regular_rule s p at (input.Message now id rest) = none_so (Connection n) (is_there p && not (is_holding p)) (regular.message p at (record { id = id; rest = rest })) (no_takes_down p (record { id = id; rest = rest }) (regular.answered p at (record { id = id; rest = rest })) (no_answered p at (record { id = id; rest = rest })))
  no_regular_rule s p at (input.LetterFrom now word sender l) = none_so (Connection n) p.linked (regular.letter s p l) (no_regular_letter s p l)
  no_regular_rule s p at (input.Tick now) = none_so (Connection n) (is_there p) (regular.ticks s p at) (no_ticks s p at)
  no_regular_rule s p at _ = refl

  pub regular_writes_none : (s : Settings) (p : ConnectionState) (at : ℕ) (i : Input) → WritesNone (Connection n) (regular_act s p at i)
  regular_writes_none s p at i = no_drained s at (letter_of i) p (regular_rule s p at i) (no_regular_rule s p at i)

  -- A bind connection.
  no_bind_answer : (s : Settings) (p : ConnectionState) (rest : List ℕ) (r : UpRow) → WritesNone (Connection n) (bind.bind_answer s p rest r)
  no_bind_answer s p rest r =
      none_act (Connection n) (has_code bind_in_progress rest) (act [] (reply r.op rest true None)) (elim (keeps_back r rest) [ true ↦ bind.keep_back s p | false ↦ act [] (reply r.op rest true None ++ holder_ended p) ]) refl
      (none_act (Connection n) (keeps_back r rest) (bind.keep_back s p) (act [] (reply r.op rest true None ++ holder_ended p)) (no_retires s p p.ids.next) (no_holder p))

  no_bind_row : (s : Settings) (p : ConnectionState) (rest : List ℕ) (r : UpRow) → WritesNone (Connection n) (bind.row_answer s p rest r)
  no_bind_row s p rest r = none_act (Connection n) (is_intermediate rest) (act [] (reply r.op rest false None)) (bind.bind_answer s p rest r) refl (no_bind_answer s p rest r)

  no_who : (p : ConnectionState) (rest : List ℕ) (r : UpRow) → WritesNone (Connection n) (bind.who_answer p rest r)
  no_who p rest r =
      none_act (Connection n) (is_intermediate rest) nothing (act [] (bind.identity_letters r rest ++ holder_ended p)) refl
      (none_more (Connection n) (bind.identity_letters r rest) (holder_ended p) (none_either (Connection n) (tells_who rest) (reply r.op (bind.kept_rest r) true (who_value rest)) (failed r.op C9) refl refl) (no_holder p))

  no_bind_answered : (s : Settings) (p : ConnectionState) (m : Message) → WritesNone (Connection n) (bind.answered s p m)
  no_bind_answered s p m =
      none_found (Connection n) (find (is_under m.id) p.rows) (elim (find (is_under_who m.id) p.rows) [ Some r ↦ bind.who_answer p m.rest r | None ↦ nothing ]) (bind.row_answer s p m.rest)
      (none_found (Connection n) (find (is_under_who m.id) p.rows) nothing (bind.who_answer p m.rest) refl (no_who p m.rest)) (no_bind_row s p m.rest)

  no_bind_forwards : (s : Settings) (p : ConnectionState) (op : OpName) (rest : List ℕ) (holder : OpName) → WritesNone (Connection n) (bind.forwards s p op rest holder)
  no_bind_forwards s p op rest holder =
      none_act (Connection n) (is_stopped p) (act (what.Missed op ∷ []) (bind.missed_letters p op holder)) (act (giving s (id_for p.ids) (what.Sent (id_for p.ids) op rest)) (retires s p (id_for p.ids)))
      (none_either (Connection n) (was_lost p holder) [] (ended p holder None) refl refl) (no_retires s p (id_for p.ids))

  no_bind_letter : (s : Settings) (p : ConnectionState) (l : Letter) → WritesNone (Connection n) (bind.letter s p l)
  no_bind_letter s p (real.Forward op kind rest ask holder) = no_bind_forwards s p op rest holder
  no_bind_letter s p (real.Leave holder) = none_act (Connection n) (holds p holder && not p.down) (goes_down p Unfinished) (act (what.Idle holder ∷ []) []) (no_down p Unfinished) refl
  no_bind_letter s p _ = refl

  no_bind_ticks : (s : Settings) (p : ConnectionState) (at : ℕ) → WritesNone (Connection n) (bind.ticks s p at)
  no_bind_ticks s p at = none_found (Connection n) (find (is_due s at) p.rows) nothing (bind.expires p) refl (λ r. no_down (record p { rows = filter (λ x. not (same_op r.op x.op)) p.rows }) TimedOut)

  no_bind_rule : (s : Settings) (p : ConnectionState) (at : ℕ) (i : Input) → WritesNone (Connection n) (bind_rule s p at i)
  no_bind_rule s p at (input.LinkUp now) = none_so (Connection n) (not p.linked) (bind.link_up p) refl
  no_bind_rule s p at (input.Message now id rest) = none_so (Connection n) (is_there p) (bind.message s p (record { id = id; rest = rest })) (no_takes_down p (record { id = id; rest = rest }) (bind.answered s p (record { id = id; rest = rest })) (no_bind_answered s p (record { id = id; rest = rest })))
  no_bind_rule s p at (input.LetterFrom now word sender l) = none_so (Connection n) p.linked (bind.letter s p l) (no_bind_letter s p l)
  no_bind_rule s p at (input.Tick now) = none_so (Connection n) (is_there p) (bind.ticks s p at) (no_bind_ticks s p at)
  no_bind_rule s p at _ = refl

  pub bind_writes_none : (s : Settings) (p : ConnectionState) (at : ℕ) (i : Input) → WritesNone (Connection n) (bind_act s p at i)
  bind_writes_none s p at i = no_drained s at (letter_of i) p (bind_rule s p at i) (no_bind_rule s p at i)

-- The desk.

-- another part than a client
abbrev pub NoClient : PartName → Type 0
NoClient Desk = Unit {0}
NoClient (Client c) = ⊥
NoClient (Connection u) = Unit {0}

desk_letter : (q : PartName) → NoClient q → (s : Settings) (p : DeskState) (word : ℕ) (l : Letter) → WritesNone q (desk.letter s p word l)
desk_letter Desk k s p word (real.Ask op want) = refl
desk_letter (Connection u) k s p word (real.Ask op want) = refl
desk_letter (Client c) k s p word (real.Ask op want) = absurd k
desk_letter q k s p word _ = refl

desk_reload : (q : PartName) (s : Settings) (p : DeskState) (plan : List TierPlan) (base : ℕ) → WritesNone q (desk.reloads s p plan base)
desk_reload q s p plan base = none_act q (desk.is_taken s p plan base) (act (what.Replanned (suc p.plan) base ∷ []) []) nothing refl refl

pub desk_writes_none : (q : PartName) → NoClient q → (s : Settings) (p : DeskState) (i : Input) → WritesNone q (desk_act s p i)
desk_writes_none q k s p (input.LetterFrom now word sender l) = desk_letter q k s p word l
desk_writes_none q k s p (input.Reload now plan base) = desk_reload q s p plan base
desk_writes_none q k s p _ = refl
