-- In each turn of a bind connection a message stands first: none of the entries behind it is one.
use Rattle.std.proofs.Common.{◌≡◌, ℕ, max, Bool, true, false, ◌==◌, ◌&&◌, not, List, [], ◌∷◌, ◌++◌, refl, ◌∙◌}
use Rattle.std.specs.Prelude.{Option, Some, None, find, is_none}
use Rattle.std.specs.List.{list_all}
use Rattle.std.proofs.lemmas.List.Folds.{list_all-append}
use Rattle.ldap_spec.specs.Bodies.{who_am_i}
use Rattle.ldap_spec.specs.Kinds.{is_intermediate}
use Rattle.ldap_spec.specs.Messages.{Message}
use Rattle.ldap_spec.specs.Responses.{has_code}
use Rattle.ldap_spec.specs.Tags.{bind_in_progress}
use Rattle.lload_names.specs.declared.inputs.Effects.{Effects}
use Rattle.lload_names.specs.declared.inputs.Input.{Input}
use Rattle.lload_names.specs.declared.inputs.Input.TheVariants.{LinkUp, Message as MessageIn, LetterFrom, Tick}
use Rattle.lload_names.specs.declared.names.ConnKind.TheVariants.{Bind as BindKind}
use Rattle.lload_names.specs.declared.names.EndWhy.TheVariants.{Bad, Unfinished, Drained}
use Rattle.lload_names.specs.declared.names.Entry.{Entry}
use Rattle.lload_names.specs.declared.names.Letter.{Letter}
use Rattle.lload_names.specs.declared.names.Letter.TheVariants.{Forward, Drop, Leave, IsDown}
use Rattle.lload_names.specs.declared.names.PartName.TheVariants.{Desk, Up as Connection}
use Rattle.lload_names.specs.declared.names.What.{What}
use Rattle.lload_names.specs.declared.names.What.TheVariants as what
use Rattle.lload_names.specs.declared.plans.Place.{Place}
use Rattle.lload_spec.specs.BadMessages.{is_bad}
use Rattle.lload_spec.specs.Entries.{got_message, is_link_reason}
use Rattle.lload_spec.specs.Identifiers.{id_for}
use Rattle.lload_spec.specs.Settings.{Settings, place_at}
use Rattle.lload_spec.proofs.Growth.{right, both}
use Rattle.part_spec.specs.BindTurn.{bind_act, bind_rule, expires, holds, identity_letters, keep_back, letter, message, missed_letters, row_answer, ticks, who_answer, link_up}
use Rattle.part_spec.specs.ConnectionState.{ConnectionState, UpRow, is_stopped, is_there, is_under, is_under_who, keeps_back, message_facts}
use Rattle.part_spec.specs.ConnectionTurn.{behind_act, giving, goes_down, holder_ended, is_drained, is_due, retires}
use Rattle.part_spec.specs.Inputs.{Act, act, also, nothing, entries_of, letter_of, moment_for, where_so, reply, to, effects_of}
use Rattle.part_laws.specs.Turns.{Event, Comes, Severed, no_effects}
use Rattle.connection_laws.specs.Turns.{connection_event}
use Rattle.bind_laws.proofs.BindShare.{bind_act_is}
use Rattle.part_spec.specs.Turn.{connection_act}

abbrev pub is_no_message : What → Bool
is_no_message w = is_none (got_message w)

-- whether none of these but the first is a message
abbrev pub begins_alone : List What → Bool
begins_alone [] = true
begins_alone (w ∷ ws) = list_all is_no_message ws

quiet_alone : (ws : List What) → list_all is_no_message ws ≡ true → begins_alone ws ≡ true
quiet_alone [] h = refl
quiet_alone (w ∷ ws) h = right (is_no_message w) _ h

also_alone : (vs ws : List What) → begins_alone vs ≡ true → list_all is_no_message ws ≡ true → begins_alone (vs ++ ws) ≡ true
also_alone [] ws h k = quiet_alone ws k
also_alone (v ∷ vs) ws h k = list_all-append is_no_message vs ws ∙ both (list_all is_no_message vs) _ h k

abbrev IsAlone : Act → Type 0
IsAlone a = begins_alone a.whats ≡ true

abbrev IsQuiet : Act → Type 0
IsQuiet a = list_all is_no_message a.whats ≡ true

so : (b : Bool) (a : Act) → IsAlone a → IsAlone (where_so b a)
so true a h = h
so false a h = refl

giving_quiet : (s : Settings) (id : ℕ) (w : What) → is_no_message w ≡ true → list_all is_no_message (giving s id w) ≡ true
giving_quiet s id w h = by (id == s.id_limit)
  where
    by : (b : Bool) → list_all is_no_message (elim b [ true ↦ w ∷ what.Retired ∷ [] | false ↦ w ∷ [] ]) ≡ true
    by true = both (is_no_message w) true h refl
    by false = both (is_no_message w) true h refl

module _ (s : Settings) (p : ConnectionState) where
  row_quiet : (rest : List ℕ) (r : UpRow) → IsQuiet (row_answer s p rest r)
  row_quiet rest r = by (is_intermediate rest) (has_code bind_in_progress rest) (keeps_back r rest)
    where
      by : (a b k : Bool) → IsQuiet (elim a [ true ↦ act [] (reply r.op rest false None) | false ↦ elim b [ true ↦ act [] (reply r.op rest true None) | false ↦ elim k [ true ↦ keep_back s p | false ↦ act [] (reply r.op rest true None ++ holder_ended p) ] ] ])
      by true b k = refl
      by false true k = refl
      by false false true = giving_quiet s p.ids.next (what.Own p.ids.next who_am_i) refl
      by false false false = refl

  who_quiet : (rest : List ℕ) (r : UpRow) → IsQuiet (who_answer p rest r)
  who_quiet rest r = by (is_intermediate rest)
    where
      by : (a : Bool) → IsQuiet (elim a [ true ↦ nothing | false ↦ act [] (identity_letters r rest ++ holder_ended p) ])
      by true = refl
      by false = refl

  message_alone : (m : Message) → IsAlone (message s p m)
  message_alone m = by (is_bad (message_facts p) m) (find (is_under m.id) p.rows) (find (is_under_who m.id) p.rows)
    where
      by : (b : Bool) (o q : Option UpRow) → IsQuiet (elim b [ true ↦ goes_down p Bad | false ↦ elim o [ Some r ↦ row_answer s p m.rest r | None ↦ elim q [ Some r ↦ who_answer p m.rest r | None ↦ nothing ] ] ])
      by true o q = refl
      by false (Some r) q = row_quiet m.rest r
      by false None (Some r) = who_quiet m.rest r
      by false None None = refl

  letter_alone : (l : Letter) → IsAlone (letter s p l)
  letter_alone (Forward op kind rest ask holder) = by (is_stopped p)
    where
      by : (b : Bool) → IsAlone (elim b [ true ↦ act (what.Missed op ∷ []) (missed_letters p op holder) | false ↦ act (giving s (id_for p.ids) (what.Sent (id_for p.ids) op rest)) (retires s p (id_for p.ids)) ])
      by true = refl
      by false = quiet_alone (giving s (id_for p.ids) (what.Sent (id_for p.ids) op rest)) (giving_quiet s (id_for p.ids) (what.Sent (id_for p.ids) op rest) refl)
  letter_alone (Drop op) = refl
  letter_alone (Leave holder) = by (holds p holder && not p.down)
    where
      by : (b : Bool) → IsAlone (elim b [ true ↦ goes_down p Unfinished | false ↦ act (what.Idle holder ∷ []) [] ])
      by true = refl
      by false = refl
  letter_alone _ = refl

  tick_alone : (at : ℕ) → IsAlone (ticks s p at)
  tick_alone at = by (find (is_due s at) p.rows)
    where
      by : (o : Option UpRow) → IsAlone (elim o [ None ↦ nothing | Some r ↦ expires p r ])
      by None = refl
      by (Some r) = refl

  rule_alone : (at : ℕ) (input : Input) → IsAlone (bind_rule s p at input)
  rule_alone at (LinkUp now) = so (not p.linked) (link_up p) refl
  rule_alone at (MessageIn now id rest) = so (is_there p) (message s p (record { id = id; rest = rest })) (message_alone (record { id = id; rest = rest }))
  rule_alone at (LetterFrom now word sender l) = so p.linked (letter s p l) (letter_alone l)
  rule_alone at (Tick now) = so (is_there p) (ticks s p at) (tick_alone at)
  rule_alone at _ = refl

  act_alone : (at : ℕ) (input : Input) → IsAlone (bind_act s p at input)
  act_alone at input = by (is_drained (behind_act s at (letter_of input) p (bind_rule s p at input)))
    where
      by : (b : Bool) → IsAlone (elim b [ true ↦ also (bind_rule s p at input) (act (what.Down Drained ∷ []) (to Desk (IsDown p.number))) | false ↦ bind_rule s p at input ])
      by true = also_alone (bind_rule s p at input).whats (what.Down Drained ∷ []) (rule_alone at input) refl
      by false = rule_alone at input

  -- what a turn makes
  pub record Whats (es : List Entry) : Type 0 where
    pub moment : ℕ
    pub whats : List What
    pub same : es ≡ entries_of (Connection p.number) moment whats
    pub alone : begins_alone whats ≡ true

  pub event_whats : p.kind ≡ BindKind → (x : Event) → Whats (connection_event s p x).entries
  event_whats kind (Comes input) = by (place_at s p.number)
    where
      at : ℕ
      at = moment_for p.moment input

      text : Option Place → Act
      text o = elim o [ None ↦ nothing | Some place ↦ connection_act s p (moment_for p.moment input) input ]

      by : (o : Option Place) → Whats (entries_of (Connection p.number) (moment_for p.moment input) (text o).whats)
      by None = record { moment = 0; whats = []; same = refl; alone = refl }
      by (Some q) = record { moment = moment_for p.moment input; whats = (connection_act s p (moment_for p.moment input) input).whats; same = refl; alone = bind_act_is IsAlone s p (moment_for p.moment input) input kind (act_alone (moment_for p.moment input) input) }
  event_whats kind (Severed now why) = by (is_link_reason why) (is_there p)
    where
      state : Bool → Bool → Effects
      state b t = elim b [ true ↦ effects_of (Connection p.number) (max p.moment now) (where_so t (goes_down p why)) | false ↦ no_effects ]

      by : (b t : Bool) → Whats (state b t).entries
      by true true = record { moment = max p.moment now; whats = what.Down why ∷ []; same = refl; alone = refl }
      by true false = record { moment = 0; whats = []; same = refl; alone = refl }
      by false t = record { moment = 0; whats = []; same = refl; alone = refl }
