-- A message is the first entry of its turn: no rule of a connection puts one behind another entry.
use Rattle.std.proofs.Common.{◌≡◌, ℕ, suc, Bool, true, false, ◌==◌, ◌&&◌, not, List, [], ◌∷◌, ◌++◌, refl, ◌∙◌}
use Rattle.std.specs.Prelude.{Option, Some, None, filter, find, is_none}
use Rattle.std.specs.List.{list_all}
use Rattle.std.proofs.lemmas.List.Folds.{list_all-append}
use Rattle.ldap_spec.specs.Bodies.{abandon, simple_bind, who_am_i}
use Rattle.ldap_spec.specs.Kinds.{is_final, is_intermediate}
use Rattle.ldap_spec.specs.Messages.{Message}
use Rattle.ldap_spec.specs.Responses.{has_code}
use Rattle.ldap_spec.specs.Tags.{bind_in_progress, success}
use Rattle.lload_names.specs.declared.inputs.Input.{Input}
use Rattle.lload_names.specs.declared.inputs.Input.TheVariants.{LinkUp, Message as MessageIn, LetterFrom, Tick}
use Rattle.lload_names.specs.declared.names.EndWhy.TheVariants.{Bad, OwnBind as OwnBindFailed, TimedOut, Unfinished}
use Rattle.lload_names.specs.declared.names.Letter.{Letter}
use Rattle.lload_names.specs.declared.names.Letter.TheVariants.{Forward, Drop, Leave, Pause, Resume}
use Rattle.lload_names.specs.declared.names.OpName.{OpName}
use Rattle.lload_names.specs.declared.names.What.{What}
use Rattle.lload_names.specs.declared.names.What.TheVariants as what
use Rattle.lload_spec.specs.BadMessages.{is_bad}
use Rattle.lload_spec.specs.Entries.{got_message}
use Rattle.lload_spec.specs.Identifiers.{id_for}
use Rattle.lload_spec.specs.Settings.{OwnBind, Settings}
use Rattle.lload_spec.proofs.Growth.{right, both}
use Rattle.part_spec.specs.BindTurn as bind
use Rattle.part_spec.specs.ConnectionState.{ConnectionState, UpRow, is_holding, is_stopped, is_there, is_under, is_under_own, is_under_who, keeps_back, message_facts, row_named}
use Rattle.part_spec.specs.ConnectionTurn.{comes_up, ended, giving, goes_down, holder_ended, is_due, latency, retires, takes_down, where_so}
use Rattle.part_spec.specs.Inputs.{Act, act, also, nothing, reply}
use Rattle.part_spec.specs.RegularTurn as regular

-- whether none of these is a message, and whether none but the first is
abbrev pub none_got : List What → Bool
none_got ws = list_all (λ w. is_none (got_message w)) ws

abbrev pub is_quiet : Act → Bool
is_quiet a = list_all (λ w. is_none (got_message w)) a.whats

abbrev pub got_first : List What → Bool
got_first [] = true
got_first (w ∷ ws) = none_got ws

pub none_first : (ws : List What) → none_got ws ≡ true → got_first ws ≡ true
none_first [] h = refl
none_first (w ∷ ws) h = right (is_none (got_message w)) _ h

none_both : (xs ys : List What) → none_got xs ≡ true → none_got ys ≡ true → none_got (xs ++ ys) ≡ true
none_both xs ys h k = list_all-append (λ w. is_none (got_message w)) xs ys ∙ both (none_got xs) _ h k

given : (s : Settings) (id : ℕ) (w : What) → is_none (got_message w) ≡ true → none_got (giving s id w) ≡ true
given s id w h = by (id == s.id_limit)
  where
    by : (b : Bool) → none_got (elim b [ true ↦ w ∷ what.Retired ∷ [] | false ↦ w ∷ [] ]) ≡ true
    by true = both (is_none (got_message w)) _ h refl
    by false = both (is_none (got_message w)) true h refl

so : (b : Bool) (a : Act) → (b ≡ true → got_first a.whats ≡ true) → got_first (where_so b a).whats ≡ true
so true a h = h refl
so false a h = refl

none_so : (b : Bool) (a : Act) → none_got a.whats ≡ true → none_got (where_so b a).whats ≡ true
none_so true a h = h
none_so false a h = refl

module _ (s : Settings) (p : ConnectionState) (at : ℕ) where
  -- A regular connection.

  own_none : (m : Message) → none_got (regular.own_answer p m).whats ≡ true
  own_none m = by (has_code success m.rest)
    where
      by : (b : Bool) → is_quiet (elim b [ true ↦ comes_up p | false ↦ goes_down p OwnBindFailed ]) ≡ true
      by true = refl
      by false = refl

  row_none : (m : Message) (r : UpRow) → none_got (regular.row_answer p at m r).whats ≡ true
  row_none m r = by (is_final r.kind m.rest)
    where
      by : (b : Bool) → is_quiet (elim b [ false ↦ act [] (reply r.op m.rest false None) | true ↦ act [] (reply r.op m.rest true None ++ ended p r.op (latency at r)) ]) ≡ true
      by true = refl
      by false = refl

  answered_none : (m : Message) → none_got (regular.answered p at m).whats ≡ true
  answered_none m = by (is_under_own p m.id) (find (is_under m.id) p.rows)
    where
      by : (b : Bool) (o : Option UpRow) → is_quiet (elim b [ true ↦ regular.own_answer p m | false ↦ elim o [ None ↦ nothing | Some r ↦ regular.row_answer p at m r ] ]) ≡ true
      by true o = own_none m
      by false None = refl
      by false (Some r) = row_none m r

  taken_none : (m : Message) (a : Act) → none_got a.whats ≡ true → none_got (takes_down p m a).whats ≡ true
  taken_none m a h = by (is_bad (message_facts p) m)
    where
      by : (b : Bool) → is_quiet (elim b [ true ↦ goes_down p Bad | false ↦ a ]) ≡ true
      by true = refl
      by false = h

  expire_none : (id : ℕ) (rows : List UpRow) → none_got (regular.expire s p id rows).whats ≡ true
  expire_none id [] = refl
  expire_none id (r ∷ rows) = none_both (what.Expired r.op ∷ giving s id (what.Own id (abandon r.id))) (regular.expire s p (suc id) rows).whats (given s id (what.Own id (abandon r.id)) refl) (expire_none (suc id) rows)

  forwards_none : (op : OpName) (rest : List ℕ) → none_got (regular.forwards s p op rest).whats ≡ true
  forwards_none op rest = by (is_stopped p)
    where
      by : (b : Bool) → is_quiet (elim b [ true ↦ act (what.Missed op ∷ []) (regular.missed_letters p op) | false ↦ act (giving s (id_for p.ids) (what.Sent (id_for p.ids) op rest)) (retires s p (id_for p.ids)) ]) ≡ true
      by true = refl
      by false = given s (id_for p.ids) (what.Sent (id_for p.ids) op rest) refl

  drops_none : (op : OpName) → none_got (regular.drops s p op).whats ≡ true
  drops_none op = by (row_named p op)
    where
      by : (o : Option UpRow) → is_quiet (elim o [ None ↦ act (what.Idle op ∷ []) [] | Some r ↦ regular.abandons s p r ]) ≡ true
      by None = refl
      by (Some r) = given s p.ids.next (what.Own p.ids.next (abandon r.id)) refl

  letter_none : (x : Letter) → none_got (regular.letter s p x).whats ≡ true
  letter_none (Forward op sort rest ask holder) = forwards_none op rest
  letter_none (Drop op) = drops_none op
  letter_none (Pause client) = refl
  letter_none (Resume client) = refl
  letter_none _ = refl

  link_none : none_got (regular.link_up s p).whats ≡ true
  link_none = by s.own_bind
    where
      by : (o : Option OwnBind) → is_quiet (also (act (what.Linked ∷ []) []) (elim o [ None ↦ comes_up p | Some own ↦ act (giving s p.ids.next (what.Own p.ids.next (simple_bind own.dn own.credentials))) (retires s p p.ids.next) ])) ≡ true
      by None = refl
      by (Some own) = given s p.ids.next (what.Own p.ids.next (simple_bind own.dn own.credentials)) refl

  ticks_none : none_got (regular.ticks s p at).whats ≡ true
  ticks_none = none_both (regular.expire s p p.ids.next (filter (is_due s at) p.rows)).whats (where_so (regular.is_own_due s p at) (goes_down p TimedOut)).whats (expire_none p.ids.next (filter (is_due s at) p.rows)) (none_so (regular.is_own_due s p at) (goes_down p TimedOut) refl)

  pub regular_first : (input : Input) → got_first (regular.regular_rule s p at input).whats ≡ true
  regular_first (LinkUp now) = so (not p.linked) (regular.link_up s p) (λ k. none_first (regular.link_up s p).whats link_none)
  regular_first (MessageIn now id rest) = so (is_there p && not (is_holding p)) (regular.message p at (record { id = id; rest = rest })) (λ k. taken_none (record { id = id; rest = rest }) (regular.answered p at (record { id = id; rest = rest })) (answered_none (record { id = id; rest = rest })))
  regular_first (LetterFrom now word sender x) = so p.linked (regular.letter s p x) (λ k. none_first (regular.letter s p x).whats (letter_none x))
  regular_first (Tick now) = so (is_there p) (regular.ticks s p at) (λ k. none_first (regular.ticks s p at).whats ticks_none)
  regular_first _ = refl

  -- A bind connection.

  keep_none : none_got (bind.keep_back s p).whats ≡ true
  keep_none = given s p.ids.next (what.Own p.ids.next who_am_i) refl

  bind_row_none : (rest : List ℕ) (r : UpRow) → none_got (bind.row_answer s p rest r).whats ≡ true
  bind_row_none rest r = by (is_intermediate rest) (has_code bind_in_progress rest) (keeps_back r rest)
    where
      by : (a b k : Bool) → is_quiet (elim a [ true ↦ act [] (reply r.op rest false None) | false ↦ elim b [ true ↦ act [] (reply r.op rest true None) | false ↦ elim k [ true ↦ bind.keep_back s p | false ↦ act [] (reply r.op rest true None ++ holder_ended p) ] ] ]) ≡ true
      by true b k = refl
      by false true k = refl
      by false false true = keep_none
      by false false false = refl

  who_none : (rest : List ℕ) (r : UpRow) → none_got (bind.who_answer p rest r).whats ≡ true
  who_none rest r = by (is_intermediate rest)
    where
      by : (b : Bool) → is_quiet (elim b [ true ↦ nothing | false ↦ act [] (bind.identity_letters r rest ++ holder_ended p) ]) ≡ true
      by true = refl
      by false = refl

  bind_none : (m : Message) → none_got (bind.answered s p m).whats ≡ true
  bind_none m = by (find (is_under m.id) p.rows) (find (is_under_who m.id) p.rows)
    where
      by : (a b : Option UpRow) → is_quiet (elim a [ Some r ↦ bind.row_answer s p m.rest r | None ↦ elim b [ Some r ↦ bind.who_answer p m.rest r | None ↦ nothing ] ]) ≡ true
      by (Some r) b = bind_row_none m.rest r
      by None (Some r) = who_none m.rest r
      by None None = refl

  bind_forwards_none : (op : OpName) (rest : List ℕ) (holder : OpName) → none_got (bind.forwards s p op rest holder).whats ≡ true
  bind_forwards_none op rest holder = by (is_stopped p)
    where
      by : (b : Bool) → is_quiet (elim b [ true ↦ act (what.Missed op ∷ []) (bind.missed_letters p op holder) | false ↦ act (giving s (id_for p.ids) (what.Sent (id_for p.ids) op rest)) (retires s p (id_for p.ids)) ]) ≡ true
      by true = refl
      by false = given s (id_for p.ids) (what.Sent (id_for p.ids) op rest) refl

  leaves_none : (holder : OpName) → none_got (bind.leaves p holder).whats ≡ true
  leaves_none holder = by (bind.holds p holder && not p.down)
    where
      by : (b : Bool) → is_quiet (elim b [ true ↦ goes_down p Unfinished | false ↦ act (what.Idle holder ∷ []) [] ]) ≡ true
      by true = refl
      by false = refl

  bind_letter_none : (x : Letter) → none_got (bind.letter s p x).whats ≡ true
  bind_letter_none (Forward op sort rest ask holder) = bind_forwards_none op rest holder
  bind_letter_none (Drop op) = refl
  bind_letter_none (Leave holder) = leaves_none holder
  bind_letter_none _ = refl

  bind_ticks_none : none_got (bind.ticks s p at).whats ≡ true
  bind_ticks_none = by (find (is_due s at) p.rows)
    where
      by : (o : Option UpRow) → is_quiet (elim o [ None ↦ nothing | Some r ↦ bind.expires p r ]) ≡ true
      by None = refl
      by (Some r) = refl

  pub bind_first : (input : Input) → got_first (bind.bind_rule s p at input).whats ≡ true
  bind_first (LinkUp now) = so (not p.linked) (bind.link_up p) (λ k. refl)
  bind_first (MessageIn now id rest) = so (is_there p) (bind.message s p (record { id = id; rest = rest })) (λ k. taken_none (record { id = id; rest = rest }) (bind.answered s p (record { id = id; rest = rest })) (bind_none (record { id = id; rest = rest })))
  bind_first (LetterFrom now word sender x) = so p.linked (bind.letter s p x) (λ k. none_first (bind.letter s p x).whats (bind_letter_none x))
  bind_first (Tick now) = so (is_there p) (bind.ticks s p at) (λ k. none_first (bind.ticks s p at).whats bind_ticks_none)
  bind_first _ = refl
