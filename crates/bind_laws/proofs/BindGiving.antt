-- Where each letter was fit, a bind connection gives what its turns gave.
use Rattle.std.proofs.Common.{◌≡◌, ℕ, Bool, true, false, ◌&&◌, not, List, [], ◌∷◌, ◌++◌, filter, refl, ap, ◌∙◌, sym, subst, ◌==◌}
use Rattle.std.specs.Prelude.{Option, Some, None, find, map}
use Rattle.std.specs.List.{list_any}
use Rattle.std.proofs.lemmas.List.{append-nil}
use Rattle.ldap_spec.specs.Messages.{Message}
use Rattle.ldap_spec.specs.Bodies.{who_am_i}
use Rattle.lload_names.specs.declared.names.OpName.{OpName}
use Rattle.lload_names.specs.declared.names.ConnKind.{ConnKind}
use Rattle.lload_names.specs.declared.names.ConnKind.TheVariants.{Regular, Bind as BindKind}
use Rattle.lload_names.specs.declared.names.EndWhy.TheVariants.{Bad, TimedOut, Unfinished}
use Rattle.lload_names.specs.declared.names.Refusal.TheVariants.{C5}
use Rattle.lload_names.specs.declared.names.PartName.{PartName}
use Rattle.lload_names.specs.declared.names.PartName.TheVariants.{Up as Connection}
use Rattle.lload_names.specs.declared.names.Posted.{Posted}
use Rattle.lload_names.specs.declared.names.Letter.{Letter}
use Rattle.lload_names.specs.declared.names.Letter.TheVariants.{Forward, Drop, Leave}
use Rattle.lload_names.specs.declared.names.What.{What}
use Rattle.lload_names.specs.declared.names.What.TheVariants as what
use Rattle.lload_names.specs.declared.inputs.Input.{Input}
use Rattle.lload_names.specs.declared.inputs.Input.TheVariants.{LinkUp, Message as MessageIn, LetterFrom, Tick}
use Rattle.lload_spec.specs.Settings.{Settings}
use Rattle.lload_spec.specs.Journal.{same_op}
use Rattle.lload_spec.specs.Identifiers.{id_for}
use Rattle.lload_spec.specs.BadMessages.{is_bad}
use Rattle.part_spec.specs.Marked.{Taken, entries}
use Rattle.part_spec.specs.Inputs.{Act, act, entries_of, letters_alone, letter_of, failed}
use Rattle.part_spec.specs.ConnectionState.{ConnectionState, UpRow, step_connection, is_stopped, is_there, message_facts}
use Rattle.part_spec.specs.ConnectionTurn.{giving, retires, goes_down, down_letters, is_due, ended}
use Rattle.part_spec.specs.RegularTurn.{answered as regular_answered, missed_letters as missed_regular_letters}
use Rattle.part_spec.specs.BindTurn.{bind_act, bind_rule, link_up, keep_back, answered, message, forwards, holds, letter, expires, ticks, missed_letters}
use Rattle.part_spec.specs.Gives.{connection_gives, connection_letters}
use Rattle.part_spec.specs.Share.{succeeds}
use Rattle.part_spec.specs.Fit.{empty_connection_ledger, step_connection_ledger, fits_connection}
use Rattle.connection_laws.specs.Turns.{connection_event}
use Rattle.bind_laws.specs.Turns.{BindGives}
use Rattle.part_laws.proofs.FitGiving.{fit_turns_give}
use Rattle.connection_laws.proofs.Pieces.{marked_up}
use Rattle.connection_laws.proofs.Makes.{tail_none}
use Rattle.connection_laws.proofs.Rules.{gives_some}
use Rattle.connection_laws.proofs.RegularRowsGive.{abandoned_none}
use Rattle.connection_laws.proofs.Giving.{GivesTurn, giving_gives, alone_gives, drained_gives, so_gives, event_gives, Quiet, quiet_so, quiet_some, quiet_drained, event_quiet}
use Rattle.bind_laws.proofs.Lone.{BindStands, no_own}
use Rattle.bind_laws.proofs.Meets.{Answers, answers}
use Rattle.bind_laws.proofs.Rules.{message_act, forward_act, leave_act, tick_act, who_names_none}
use Rattle.bind_laws.proofs.BadMessages.{down_behind}
use Rattle.bind_laws.proofs.BindShare.{BindKeeps, bind_act_is, begins_alone, nothing_kept, event_keeps}

module _ (s : Settings) (p : ConnectionState) (h : BindStands p) (own : p.own_bind ≡ None) (at : ℕ) where
  abbrev Gives : Option Taken → Act → Type 0
  Gives mark a = GivesTurn s p p.number at mark a.whats a.letters

  -- A message.
  module _ (id : ℕ) (rest : List ℕ) where
    abbrev m : Message
    m = record { id = id; rest = rest }

    abbrev got : ConnectionState
    got = step_connection s p (marked_up p.number at None (what.Got id rest))

    abbrev letters_by : Bool → ConnKind → List Posted
    letters_by b k = letters_alone (elim b [ true ↦ goes_down p Bad | false ↦ elim k [ Regular ↦ regular_answered p at m | BindKind ↦ answered s p m ] ])

    bad_gives : letters_by (is_bad (message_facts p) m) p.kind ≡ [] → is_bad (message_facts p) m ≡ true → GivesTurn s p p.number at None (what.Got id rest ∷ what.Down Bad ∷ []) (down_letters p)
    bad_gives none e = ap (λ l. l ++ (down_letters got ++ [])) none ∙ append-nil (down_letters got) ∙ down_behind s p own h.lone at m e p.number

    -- Who Am I is asked, and gives nothing by itself
    asks_gives : letters_by (is_bad (message_facts p) m) p.kind ≡ letters_alone (keep_back s p) → GivesTurn s p p.number at None (what.Got id rest ∷ (keep_back s p).whats) (keep_back s p).letters
    asks_gives e = ap (λ l. l ++ connection_gives s got (map (λ x. record { entry = x; mark = None }) (entries_of (Connection p.number) at (giving s p.ids.next (what.Own p.ids.next who_am_i))))) (e ∙ none (p.ids.next == s.id_limit)) ∙ ap (connection_gives s got) (tail_none (entries_of (Connection p.number) at (giving s p.ids.next (what.Own p.ids.next who_am_i)))) ∙ giving_gives s p.number at got None (what.Own p.ids.next who_am_i) p.ids.next [] (abandoned_none got who_am_i got.rows (who_names_none got.rows))
      where
        whats : Bool → List What
        whats b = elim b [ true ↦ what.Own p.ids.next who_am_i ∷ what.Retired ∷ [] | false ↦ what.Own p.ids.next who_am_i ∷ [] ]

        none : (b : Bool) → letters_alone (act (whats b) (retires s p p.ids.next)) ≡ []
        none true = refl
        none false = refl

    message_gives : GivesTurn s p p.number at None (message s p m).whats (message s p m).letters
    message_gives = by (is_bad (message_facts p) m) refl
      where
        good : (b : Bool) → Answers s p b (answered s p m) → letters_by (is_bad (message_facts p) m) p.kind ≡ letters_alone (answered s p m) → GivesTurn s p p.number at None (what.Got id rest ∷ (answered s p m).whats) (answered s p m).letters
        good true a e = subst (λ x. GivesTurn s p p.number at None (what.Got id rest ∷ x.whats) x.letters) (sym a) (asks_gives (e ∙ ap letters_alone a))
        good false a e = alone_gives s p.number at p id rest (answered s p m) e a

        by : (b : Bool) → is_bad (message_facts p) m ≡ b → GivesTurn s p p.number at None (what.Got id rest ∷ (message_act s p m b).whats) (message_act s p m b).letters
        by true e = bad_gives (ap (λ b. letters_by b p.kind) e) e
        by false e = good (list_any (succeeds m) p.rows) (answers s p own h.lone m e) (ap (λ b. letters_by b p.kind) e ∙ ap (letters_by false) h.kind)

  -- The letters.
  letter_gives : (sender : PartName) (x : Letter) → Gives (Some (record { sender = sender; letter = x })) (letter s p x)
  letter_gives sender (Forward op kind rest ask_who holder) = by (is_stopped p)
    where
      by : (b : Bool) → Gives (Some (record { sender = sender; letter = Forward op kind rest ask_who holder })) (forward_act s p op rest holder b)
      by true = ap (λ k. (elim k [ Regular ↦ missed_regular_letters p op | BindKind ↦ missed_letters p op holder ]) ++ []) h.kind ∙ append-nil (missed_letters p op holder)
      by false = giving_gives s p.number at p (Some (record { sender = sender; letter = Forward op kind rest ask_who holder })) (what.Sent (id_for p.ids) op rest) (id_for p.ids) [] refl
  letter_gives sender (Leave holder) = by (holds p holder && not p.down)
    where
      by : (b : Bool) → Gives (Some (record { sender = sender; letter = Leave holder })) (leave_act p holder b)
      by true = append-nil (down_letters p)
      by false = refl
  letter_gives sender (Drop op) = refl
  letter_gives sender _ = refl

  -- a clock step
  tick_gives : Gives None (ticks s p at)
  tick_gives = by (find (is_due s at) p.rows)
    where
      by : (o : Option UpRow) → Gives None (tick_act p o)
      by None = refl
      by (Some r) =
          let end : List Posted = down_letters (record p { rows = filter (λ x. not (same_op r.op x.op)) p.rows }) in
          ap (λ k. (failed r.op C5 ++ elim k [ Regular ↦ ended p r.op None | BindKind ↦ [] ]) ++ (down_letters (step_connection s p (marked_up p.number at None (what.Expired r.op))) ++ [])) h.kind ∙ ap (λ l. failed r.op C5 ++ l) (append-nil (down_letters (record p { rows = filter (λ x. not (same_op r.op x.op)) p.rows })))

  rule_gives : (input : Input) → Gives (letter_of input) (bind_rule s p at input)
  rule_gives (LinkUp now) = so_gives s p at (not p.linked) (link_up p) None (λ e. refl)
  rule_gives (MessageIn now id rest) = so_gives s p at (is_there p) (message s p (record { id = id; rest = rest })) None (λ e. message_gives id rest)
  rule_gives (LetterFrom now word sender x) = so_gives s p at p.linked (letter s p x) (Some (record { sender = sender; letter = x })) (λ e. letter_gives sender x)
  rule_gives (Tick now) = so_gives s p at (is_there p) (ticks s p at) None (λ e. tick_gives)
  rule_gives _ = refl

  pub input_gives : (input : Input) → Gives (letter_of input) (bind_act s p at input)
  input_gives input = drained_gives s p at (letter_of input) (bind_rule s p at input) (rule_gives input)

-- A turn without entries gives nothing.
quiet_forward : (s : Settings) (p : ConnectionState) (op : OpName) (rest : List ℕ) (holder : OpName) → Quiet (forwards s p op rest holder)
quiet_forward s p op rest holder = by (is_stopped p)
  where
    by : (b : Bool) → Quiet (forward_act s p op rest holder b)
    by true = quiet_some (what.Missed op) [] (missed_letters p op holder)
    by false = λ e. absurd (let no : false ≡ true = gives_some (id_for p.ids == s.id_limit) (what.Sent (id_for p.ids) op rest) e in cc)

quiet_letter : (s : Settings) (p : ConnectionState) (x : Letter) → Quiet (letter s p x)
quiet_letter s p (Forward op sort rest ask_who holder) = quiet_forward s p op rest holder
quiet_letter s p (Leave holder) = by (holds p holder && not p.down)
  where
    by : (b : Bool) → Quiet (leave_act p holder b)
    by true = quiet_some (what.Down Unfinished) [] (down_letters p)
    by false = quiet_some (what.Idle holder) [] []
quiet_letter s p (Drop op) = quiet_some (what.Idle op) [] []
quiet_letter s p _ = λ e. refl

quiet_ticks : (s : Settings) (p : ConnectionState) (at : ℕ) → Quiet (ticks s p at)
quiet_ticks s p at = by (find (is_due s at) p.rows)
  where
    by : (o : Option UpRow) → Quiet (tick_act p o)
    by None = λ e. refl
    by (Some r) = quiet_some (what.Expired r.op) (what.Down TimedOut ∷ []) (expires p r).letters

quiet_rule : (s : Settings) (p : ConnectionState) (at : ℕ) (input : Input) → Quiet (bind_rule s p at input)
quiet_rule s p at (LinkUp now) = quiet_so (not p.linked) (link_up p) (quiet_some what.Linked (what.Up ∷ []) (link_up p).letters)
quiet_rule s p at (MessageIn now id rest) = quiet_so (is_there p) (message s p (record { id = id; rest = rest })) (λ e. absurd (let no : (message s p (record { id = id; rest = rest })).whats ≡ [] = e in cc))
quiet_rule s p at (LetterFrom now word sender x) = quiet_so p.linked (letter s p x) (quiet_letter s p x)
quiet_rule s p at (Tick now) = quiet_so (is_there p) (ticks s p at) (quiet_ticks s p at)
quiet_rule s p at _ = λ e. refl

pub bind_gives : BindGives
bind_gives s u place xs fit = fit_turns_give (fits_connection s) (step_connection_ledger s) (step_connection s) (λ l. l.state) (λ l m. refl) (λ q m. connection_letters s q m.entry.at m.mark m.entry.what) (connection_event s) (BindKeeps s u) (λ before l x h. event_quiet s l.state (λ at input. bind_act_is Quiet s l.state at input h.stands.kind (quiet_drained s at (letter_of input) l.state (bind_rule s l.state at input) (quiet_rule s l.state at input))) x) (λ before l x h f. event_keeps s u place before l h x f) (λ before l x h f. event_gives s l.state (λ at later input. bind_act_is (λ a. GivesTurn s l.state l.state.number at (letter_of input) a.whats a.letters) s l.state at input h.stands.kind (input_gives s l.state h.stands (no_own s u (entries before) l.state (begins_alone s u place) h.keeps.stands.own) at input)) x) xs [] (empty_connection_ledger s u) (nothing_kept s u place) fit
