-- What the turns of a connection of either kind give.
use Rattle.std.proofs.Common.{◌≡◌, ℕ, Bool, true, false, ◌==◌, ◌&&◌, not, List, [], ◌∷◌, ◌++◌, flat_map, refl, ap, ◌∙◌, sym, max, length}
use Rattle.std.specs.Prelude.{Option, Some, None, nat_le, is_none, max}
use Rattle.std.proofs.lemmas.List.{append-nil}
use Rattle.lload_names.specs.declared.names.OpName.{OpName}
use Rattle.lload_names.specs.declared.names.EndWhy.TheVariants.{Drained}
use Rattle.lload_names.specs.declared.names.PartName.TheVariants.{Desk, Up as Connection}
use Rattle.lload_names.specs.declared.names.Posted.{Posted}
use Rattle.lload_names.specs.declared.names.Letter.TheVariants.{IsRetired, IsDown}
use Rattle.lload_names.specs.declared.names.What.{What}
use Rattle.lload_names.specs.declared.names.What.TheVariants as what
use Rattle.lload_names.specs.declared.plans.Place.{Place}
use Rattle.lload_names.specs.declared.inputs.Input.{Input}
use Rattle.lload_names.specs.declared.inputs.Effects.{Effects}
use Rattle.lload_spec.specs.Settings.{Settings, place_at}
use Rattle.lload_spec.specs.Entries.{is_link_reason}
use Rattle.part_spec.specs.Marked.{Taken, Marked}
use Rattle.part_spec.specs.Inputs.{Act, act, nothing, also, entries_of, to, marked_by, letter_of, moment_for, moment_of, letters_alone}
use Rattle.part_spec.specs.ConnectionState.{ConnectionState, step_connection, is_there}
use Rattle.part_spec.specs.ConnectionTurn.{ended, giving, retires, goes_down, down_letters, behind_act, is_drained, with_drained, where_so, loss}
use Rattle.part_spec.specs.Gives.{connection_gives, connection_letters, got_letters}
use Rattle.part_spec.specs.Turn.{connection_sever, connection_act}
use Rattle.part_spec.specs.Fit.{ledger_behind as behind}
use Rattle.part_laws.specs.Turns.{Event, Comes, Severed, made, no_effects}
use Rattle.connection_laws.specs.Turns.{connection_event}
use Rattle.lload_spec.proofs.Growth.{left, right}
use Rattle.part_laws.proofs.ListLaws.{le_max}
use Rattle.part_laws.proofs.Giving.{gives_more}
use Rattle.connection_laws.proofs.ConnectionSays.{number_step}
use Rattle.connection_laws.proofs.Pieces.{up_entry, marked_up}
use Rattle.connection_laws.proofs.Makes.{turn_of}
use Rattle.connection_laws.proofs.Through.{steps_are, turn_more, no_rows}

-- What a turn's entries give from a state.
abbrev pub GivesTurn : Settings → ConnectionState → ℕ → ℕ → Option Taken → List What → List Posted → Type 0
GivesTurn s p u at mark ws letters = connection_gives s p (turn_of u at mark ws) ≡ letters

module _ (s : Settings) (u at : ℕ) where
  -- an entry that gives an identifier, with Retired behind it where it is the limit
  pub giving_gives : (p : ConnectionState) (mark : Option Taken) (w : What) (id : ℕ) (given : List Posted) → connection_letters s p at mark w ≡ given → GivesTurn s p u at mark (giving s id w) (given ++ retires s p id)
  giving_gives p mark w id given e = by (id == s.id_limit)
    where
      next : ConnectionState
      next = step_connection s p (marked_up u at mark w)

      whats : Bool → List What
      whats b = elim b [ true ↦ w ∷ what.Retired ∷ [] | false ↦ w ∷ [] ]

      by : (b : Bool) → connection_gives s p (turn_of u at mark (whats b)) ≡ given ++ (elim b [ true ↦ to Desk (IsRetired p.number) | false ↦ [] ])
      by true = ap (λ l. l ++ to Desk (IsRetired (step_connection s p (marked_up u at mark w)).number)) e ∙ ap (λ n. given ++ to Desk (IsRetired n)) (number_step s (up_entry u at w) mark p w)
      by false = ap (λ l. l ++ []) e

  -- a message that brings nothing more
  pub alone_gives : (p : ConnectionState) (id : ℕ) (rest : List ℕ) (a : Act) → got_letters s p at (record { id = id; rest = rest }) ≡ letters_alone a → a.whats ≡ [] → GivesTurn s p u at None (what.Got id rest ∷ a.whats) a.letters
  alone_gives p id rest a e n = by a.whats a.letters e n
    where
      by : (ws : List What) (letters : List Posted) → got_letters s p at (record { id = id; rest = rest }) ≡ letters_alone (act ws letters) → ws ≡ [] → GivesTurn s p u at None (what.Got id rest ∷ ws) letters
      by [] letters k j = ap (λ l. l ++ []) k ∙ append-nil letters
      by (w ∷ ws) letters k j = absurd (let no : w ∷ ws ≡ [] = j in cc)

-- The end of a drained connection.
drained_down : (q : ConnectionState) → is_drained q ≡ true → down_letters q ≡ to Desk (IsDown q.number)
drained_down q d = ap (λ rows. flat_map (loss q) rows ++ ((elim q.holder [ None ↦ [] | Some h ↦ ended q h None ]) ++ to Desk (IsDown q.number))) (no_rows q.rows (right (q.retired && not q.down) _ (left (q.retired && not q.down && length q.rows == 0) _ d))) ∙ ap (λ o. (elim o [ None ↦ [] | Some h ↦ ended q h None ]) ++ to Desk (IsDown q.number)) (no_holder q.holder (right (q.retired && not q.down && length q.rows == 0) _ d))
  where
    no_holder : (o : Option OpName) → is_none o ≡ true → o ≡ None
    no_holder None e = refl
    no_holder (Some h) e = absurd (let bad : false ≡ true = e in cc)

number_behind : (s : Settings) (p : ConnectionState) (ms : List Marked) → (behind (step_connection s) p ms).number ≡ p.number
number_behind s p [] = refl
number_behind s p (m ∷ ms) = number_behind s (step_connection s p m) ms ∙ number_step s m.entry m.mark p m.entry.what

pub drained_gives : (s : Settings) (p : ConnectionState) (at : ℕ) (mark : Option Taken) (a : Act) → GivesTurn s p p.number at mark a.whats a.letters → GivesTurn s p p.number at mark (with_drained s at mark p a).whats (with_drained s at mark p a).letters
drained_gives s p at mark a k = by (is_drained (behind_act s at mark p a)) refl
  where
    drained_act : Bool → Act → Act
    drained_act b x = elim b [ true ↦ also x (act (what.Down Drained ∷ []) (to Desk (IsDown p.number))) | false ↦ x ]

    more : (ws : List What) (letters : List Posted) → is_drained (behind_act s at mark p (act ws letters)) ≡ true → GivesTurn s p p.number at mark ws letters → GivesTurn s p p.number at mark (ws ++ what.Down Drained ∷ []) (letters ++ to Desk (IsDown p.number))
    more [] letters e g = append-nil (down_letters p) ∙ drained_down p e ∙ ap (λ l. l ++ to Desk (IsDown p.number)) g
    more (w ∷ ws) letters e g =
        let turn : List Marked = turn_of p.number at mark (w ∷ ws) in
        let end : ConnectionState = behind (step_connection s) p turn in
        let drained : is_drained end ≡ true = ap is_drained (sym (steps_are s p turn)) ∙ e in
        ap (connection_gives s p) (turn_more p.number at mark w ws (what.Down Drained ∷ [])) ∙ gives_more (step_connection s) (λ q x. connection_letters s q x.entry.at x.mark x.entry.what) p turn (marked_up p.number at None (what.Down Drained) ∷ []) ∙ ap (λ l. l ++ (down_letters end ++ [])) g ∙ ap (λ l. letters ++ l) (append-nil (down_letters end) ∙ drained_down end drained ∙ ap (λ n. to Desk (IsDown n)) (number_behind s p turn))

    by : (b : Bool) → is_drained (behind_act s at mark p a) ≡ b → GivesTurn s p p.number at mark (drained_act b a).whats (drained_act b a).letters
    by true e = more a.whats a.letters e k
    by false e = k

-- A turn.
module _ (s : Settings) (p : ConnectionState) where
  pub so_gives : (at : ℕ) (b : Bool) (a : Act) (mark : Option Taken) → (b ≡ true → GivesTurn s p p.number at mark a.whats a.letters) → GivesTurn s p p.number at mark (where_so b a).whats (where_so b a).letters
  so_gives at true a mark f = f refl
  so_gives at false a mark f = refl

  -- what an event gives, where each input gives what its rule gave
  pub event_gives : ((at : ℕ) → nat_le p.moment at ≡ true → (input : Input) → GivesTurn s p p.number at (letter_of input) (connection_act s p at input).whats (connection_act s p at input).letters) → (x : Event) → connection_gives s p (made (connection_event s) p x) ≡ (connection_event s p x).letters
  event_gives gives (Comes input) = by (place_at s p.number)
    where
      act_by : Option Place → Act
      act_by o = elim o [ None ↦ nothing | Some q ↦ connection_act s p (moment_for p.moment input) input ]

      by : (o : Option Place) → GivesTurn s p p.number (moment_for p.moment input) (letter_of input) (act_by o).whats (act_by o).letters
      by None = refl
      by (Some q) = gives (moment_for p.moment input) (le_max p.moment (moment_of input)) input
  event_gives gives (Severed now why) = by (is_link_reason why)
    where
      effects : Bool → Effects
      effects b = elim b [ true ↦ connection_sever p now why | false ↦ no_effects ]

      by : (b : Bool) → connection_gives s p (marked_by None (effects b).entries) ≡ (effects b).letters
      by true = so_gives (max p.moment now) (is_there p) (goes_down p why) None (λ e. append-nil (down_letters p))
      by false = refl

-- A turn without entries gives nothing.
abbrev pub Quiet : Act → Type 0
Quiet a = a.whats ≡ [] → a.letters ≡ []

pub quiet_so : (b : Bool) (a : Act) → Quiet a → Quiet (where_so b a)
quiet_so true a q = q
quiet_so false a q = λ e. refl

pub quiet_some : (w : What) (ws : List What) (letters : List Posted) → Quiet (act (w ∷ ws) letters)
quiet_some w ws letters e = absurd (let bad : w ∷ ws ≡ [] = e in cc)

pub quiet_drained : (s : Settings) (at : ℕ) (mark : Option Taken) (p : ConnectionState) (a : Act) → Quiet a → Quiet (with_drained s at mark p a)
quiet_drained s at mark p a q = by (is_drained (behind_act s at mark p a))
  where
    drained_act : Bool → Act
    drained_act b = elim b [ true ↦ also a (act (what.Down Drained ∷ []) (to Desk (IsDown p.number))) | false ↦ a ]

    some_more : (ws : List What) → ws ++ what.Down Drained ∷ [] ≡ [] → false ≡ true
    some_more [] e = absurd (let bad : what.Down Drained ∷ [] ≡ [] = e in cc)
    some_more (w ∷ ws) e = absurd (let bad : w ∷ (ws ++ what.Down Drained ∷ []) ≡ [] = e in cc)

    by : (b : Bool) → Quiet (drained_act b)
    by true = λ e. absurd (let bad : false ≡ true = some_more a.whats e in cc)
    by false = q

none_entries : (u at : ℕ) (ws : List What) → entries_of (Connection u) at ws ≡ [] → ws ≡ []
none_entries u at [] e = refl
none_entries u at (w ∷ ws) e = absurd (let bad : entries_of (Connection u) at (w ∷ ws) ≡ [] = e in cc)

pub event_quiet : (s : Settings) (p : ConnectionState) → ((at : ℕ) (input : Input) → Quiet (connection_act s p at input)) → (x : Event) → (connection_event s p x).entries ≡ [] → (connection_event s p x).letters ≡ []
event_quiet s p quiet (Comes input) e = by (place_at s p.number) (none_entries p.number (moment_for p.moment input) (act_by (place_at s p.number)).whats e)
  where
    act_by : Option Place → Act
    act_by o = elim o [ None ↦ nothing | Some q ↦ connection_act s p (moment_for p.moment input) input ]

    by : (o : Option Place) → Quiet (act_by o)
    by None = λ g. refl
    by (Some q) = quiet (moment_for p.moment input) input
event_quiet s p quiet (Severed now why) e = by (is_link_reason why) e
  where
    effects : Bool → Effects
    effects b = elim b [ true ↦ connection_sever p now why | false ↦ no_effects ]

    by : (b : Bool) → (effects b).entries ≡ [] → (effects b).letters ≡ []
    by true f = quiet_so (is_there p) (goes_down p why) (quiet_some (what.Down why) [] (down_letters p)) (none_entries p.number (max p.moment now) (where_so (is_there p) (goes_down p why)).whats f)
    by false f = refl
