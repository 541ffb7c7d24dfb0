-- At a turn's end no connection is retired with nothing left to do, so that none is where a message comes.
use Rattle.std.proofs.Common.{◌≡◌, ℕ, Bool, true, false, ◌==◌, ◌&&◌, not, List, [], ◌∷◌, ◌++◌, length, refl, ap, ◌∙◌}
use Rattle.std.specs.Prelude.{Option, Some, None, is_none, is_some, map, max}
use Rattle.std.proofs.lemmas.List.{map-append}
use Rattle.std.proofs.lemmas.List.Folds.{list_all-append}
use Rattle.ldap_spec.specs.Messages.{Message}
use Rattle.lload_names.specs.declared.inputs.Effects.{Effects}
use Rattle.lload_names.specs.declared.inputs.Input.{Input}
use Rattle.lload_names.specs.declared.names.ConnKind.{ConnKind}
use Rattle.lload_names.specs.declared.names.ConnKind.TheVariants.{Regular, Bind as BindKind}
use Rattle.lload_names.specs.declared.names.EndWhy.{EndWhy}
use Rattle.lload_names.specs.declared.names.EndWhy.TheVariants.{Drained}
use Rattle.lload_names.specs.declared.names.Entry.{Entry}
use Rattle.lload_names.specs.declared.names.PartName.{PartName}
use Rattle.lload_names.specs.declared.names.PartName.TheVariants.{Desk, Up as Connection}
use Rattle.lload_names.specs.declared.names.Letter.TheVariants.{IsDown}
use Rattle.lload_names.specs.declared.names.What.{What}
use Rattle.lload_names.specs.declared.names.What.TheVariants as what
use Rattle.lload_names.specs.declared.plans.Place.{Place}
use Rattle.lload_spec.specs.Entries.{got_message, is_link_reason}
use Rattle.lload_spec.specs.Lists.{implies}
use Rattle.lload_spec.specs.Settings.{Settings, place_at}
use Rattle.lload_spec.proofs.Growth.{left, right, both}
use Rattle.part_laws.specs.Turns.{Event, Comes, Severed, made, list_from, no_effects}
use Rattle.part_laws.proofs.ListLaws.{froms_grow}
use Rattle.part_spec.specs.BindTurn.{bind_act, bind_rule}
use Rattle.part_spec.specs.ConnectionState.{ConnectionState, empty_connection, step_connection, step_connections, connection_behind, is_there}
use Rattle.part_spec.specs.ConnectionTurn.{behind_act, goes_down, is_drained, where_so, with_drained}
use Rattle.part_spec.specs.Fit.{ledger_behind as behind}
use Rattle.part_spec.specs.Inputs.{Act, act, also, effects_of, entries_of, letter_of, marked_by, moment_for, nothing, to}
use Rattle.part_spec.specs.Marked.{Marked, Taken}
use Rattle.part_spec.specs.Marks.{each_from}
use Rattle.part_spec.specs.RegularTurn.{regular_act, regular_rule}
use Rattle.part_spec.specs.Turn.{connection_act}
use Rattle.connection_laws.specs.Turns.{connection_event}
use Rattle.drained_laws.specs.Laws.{is_undrained, NoneComesDrained}
use Rattle.drained_laws.proofs.Firsts.{none_got, got_first, regular_first, bind_first}

-- one fold in two words
steps_are : (s : Settings) (p : ConnectionState) (ms : List Marked) → behind (step_connection s) p ms ≡ step_connections s p ms
steps_are s p [] = refl
steps_are s p (m ∷ ms) = steps_are s (step_connection s p m) ms

down_last : (s : Settings) (p : ConnectionState) (ms : List Marked) (m : Marked) (why : EndWhy) → m.entry.what ≡ what.Down why → (behind (step_connection s) p (ms ++ m ∷ [])).down ≡ true
down_last s p [] m why e = ap (λ w. (connection_behind s m.entry m.mark p w).down) e
down_last s p (x ∷ ms) m why e = down_last s (step_connection s p x) ms m why e

not_drained : (q : ConnectionState) → q.down ≡ true → is_drained q ≡ false
not_drained q h = by q.retired q.down (length q.rows == 0) (is_none q.holder) h
  where
    by : (a b c d : Bool) → b ≡ true → (a && not b && c && d) ≡ false
    by true true c d k = refl
    by false true c d k = refl
    by a false c d k = absurd (let bad : false ≡ true = k in cc)

-- The entries of a turn.

none_there : (s : Settings) (p : ConnectionState) (part : PartName) (at : ℕ) (ws : List What) → none_got ws ≡ true → each_from (step_connection s) is_undrained p (map (λ x. record { entry = x; mark = None }) (entries_of part at ws)) ≡ true
none_there s p part at [] h = refl
none_there s p part at (w ∷ ws) h = both (is_undrained p (record { entry = record { part = part; at = at; what = w }; mark = None })) _ (one (got_message w) (left (is_none (got_message w)) _ h)) (none_there s (step_connection s p (record { entry = record { part = part; at = at; what = w }; mark = None })) part at ws (right (is_none (got_message w)) _ h))
  where
    one : (o : Option Message) → is_none o ≡ true → implies (is_some o) (not (is_drained p)) ≡ true
    one None k = refl
    one (Some m) k = absurd (let bad : false ≡ true = k in cc)

firsts : (s : Settings) (p : ConnectionState) (part : PartName) (at : ℕ) (mark : Option Taken) (ws : List What) → is_drained p ≡ false → got_first ws ≡ true → each_from (step_connection s) is_undrained p (marked_by mark (entries_of part at ws)) ≡ true
firsts s p part at mark [] d h = refl
firsts s p part at mark (w ∷ ws) d h = both (is_undrained p (record { entry = record { part = part; at = at; what = w }; mark = mark })) _ (by (is_some (got_message w))) (none_there s (step_connection s p (record { entry = record { part = part; at = at; what = w }; mark = mark })) part at ws h)
  where
    by : (b : Bool) → implies b (not (is_drained p)) ≡ true
    by true = ap not d
    by false = refl

first_act : (s : Settings) (p : ConnectionState) (part : PartName) (at : ℕ) (mark : Option Taken) (a : Act) → is_drained p ≡ false → got_first a.whats ≡ true → each_from (step_connection s) is_undrained p (marked_by mark (entries_of part at a.whats)) ≡ true
first_act s p part at mark a d h = firsts s p part at mark a.whats d h

-- the end behind other entries is the last one
record Last (mark : Option Taken) (es : List Entry) (e : Entry) : Type 0 where
  before : List Marked
  last : Marked
  entry_is : last.entry ≡ e
  same : marked_by mark (es ++ e ∷ []) ≡ before ++ last ∷ []

last_of : (mark : Option Taken) (es : List Entry) (e : Entry) → Last mark es e
last_of mark [] e = record { before = []; last = record { entry = e; mark = mark }; entry_is = refl; same = refl }
last_of mark (x ∷ es) e = record { before = record { entry = x; mark = mark } ∷ map (λ y. record { entry = y; mark = None }) es; last = record { entry = e; mark = None }; entry_is = refl; same = ap (λ l. record { entry = x; mark = mark } ∷ l) (map-append (λ y. record { entry = y; mark = None }) es (e ∷ [])) }

got_more : (ws : List What) (w : What) → is_none (got_message w) ≡ true → got_first ws ≡ true → got_first (ws ++ w ∷ []) ≡ true
got_more [] w k h = refl
got_more (x ∷ ws) w k h = list_all-append (λ y. is_none (got_message y)) ws (w ∷ []) ∙ both (none_got ws) _ h (both (is_none (got_message w)) true k refl)

-- what holds of a turn: a message is its first entry, and it leaves the connection with something to do, or at its end
record Ends (s : Settings) (p : ConnectionState) (at : ℕ) (mark : Option Taken) (ws : List What) : Type 0 where
  first : got_first ws ≡ true
  left_so : is_drained (behind (step_connection s) p (marked_by mark (entries_of (Connection p.number) at ws))) ≡ false

abbrev EndsBy : Settings → ConnectionState → ℕ → Option Taken → Act → Type 0
EndsBy s p at mark a = Ends s p at mark a.whats

abbrev entries_in : Effects → List Entry
entries_in e = e.entries

module _ (s : Settings) (p : ConnectionState) (at : ℕ) (mark : Option Taken) (d : is_drained p ≡ false) where
  goes_end : (a : Act) → got_first a.whats ≡ true → Ends s p at mark (with_drained s at mark p a).whats
  goes_end a h = by (is_drained (behind_act s at mark p a)) refl
    where
      act_by : Bool → Act
      act_by b = elim b [ true ↦ also a (act (what.Down Drained ∷ []) (to Desk (IsDown p.number))) | false ↦ a ]

      ended : (l : Last mark (entries_of (Connection p.number) at a.whats) (record { part = Connection p.number; at = at; what = what.Down Drained })) → is_drained (behind (step_connection s) p (marked_by mark (entries_of (Connection p.number) at (a.whats ++ what.Down Drained ∷ [])))) ≡ false
      ended l = ap (λ es. is_drained (behind (step_connection s) p (marked_by mark es))) (map-append (λ w. record { part = Connection p.number; at = at; what = w }) a.whats (what.Down Drained ∷ [])) ∙ ap (λ ms. is_drained (behind (step_connection s) p ms)) l.same ∙ not_drained (behind (step_connection s) p (l.before ++ l.last ∷ [])) (down_last s p l.before l.last Drained (ap (λ (e : Entry). e.what) l.entry_is))

      by : (b : Bool) → is_drained (behind_act s at mark p a) ≡ b → Ends s p at mark (act_by b).whats
      by true e = record { first = got_more a.whats (what.Down Drained) refl h; left_so = ended (last_of mark (entries_of (Connection p.number) at a.whats) (record { part = Connection p.number; at = at; what = what.Down Drained })) }
      by false e = record { first = h; left_so = ap is_drained (steps_are s p (marked_by mark (entries_of (Connection p.number) at a.whats))) ∙ e }

  nothing_ends : Ends s p at mark []
  nothing_ends = record { first = refl; left_so = d }

turn_ends : (s : Settings) (p : ConnectionState) (input : Input) → is_drained p ≡ false → EndsBy s p (moment_for p.moment input) (letter_of input) (elim (place_at s p.number) [ None ↦ nothing | Some place ↦ connection_act s p (moment_for p.moment input) input ])
turn_ends s p input d = by (place_at s p.number) p.kind
  where
    by : (o : Option Place) (k : ConnKind) → EndsBy s p (moment_for p.moment input) (letter_of input) (elim o [ None ↦ nothing | Some place ↦ elim k [ Regular ↦ regular_act s p (moment_for p.moment input) input | BindKind ↦ bind_act s p (moment_for p.moment input) input ] ])
    by None k = nothing_ends s p (moment_for p.moment input) (letter_of input) d
    by (Some place) Regular = goes_end s p (moment_for p.moment input) (letter_of input) d (regular_rule s p (moment_for p.moment input) input) (regular_first s p (moment_for p.moment input) input)
    by (Some place) BindKind = goes_end s p (moment_for p.moment input) (letter_of input) d (bind_rule s p (moment_for p.moment input) input) (bind_first s p (moment_for p.moment input) input)

-- what holds of what an event makes
record Keeps (s : Settings) (p : ConnectionState) (ms : List Marked) : Type 0 where
  comes : each_from (step_connection s) is_undrained p ms ≡ true
  left_so : is_drained (behind (step_connection s) p ms) ≡ false

event_keeps : (s : Settings) (p : ConnectionState) (x : Event) → is_drained p ≡ false → Keeps s p (made (connection_event s) p x)
event_keeps s p (Comes input) d =
    let e : EndsBy s p (moment_for p.moment input) (letter_of input) (elim (place_at s p.number) [ None ↦ nothing | Some place ↦ connection_act s p (moment_for p.moment input) input ]) = turn_ends s p input d in
    record {
      comes = first_act s p (Connection p.number) (moment_for p.moment input) (letter_of input) (elim (place_at s p.number) [ None ↦ nothing | Some place ↦ connection_act s p (moment_for p.moment input) input ]) d e.first;
      left_so = e.left_so;
    }
event_keeps s p (Severed now why) d = by (is_link_reason why) (is_there p)
  where
    entries_by : Bool → Bool → List Entry
    entries_by a b = entries_in (elim a [ true ↦ effects_of (Connection p.number) (max p.moment now) (where_so b (goes_down p why)) | false ↦ no_effects ])

    by : (a b : Bool) → Keeps s p (marked_by None (entries_by a b))
    by true true = record { comes = refl; left_so = not_drained (step_connection s p (record { entry = record { part = Connection p.number; at = max p.moment now; what = what.Down why }; mark = None })) refl }
    by true false = record { comes = refl; left_so = d }
    by false b = record { comes = refl; left_so = d }

list_keeps : (s : Settings) (p : ConnectionState) (xs : List Event) → is_drained p ≡ false → each_from (step_connection s) is_undrained p (list_from (step_connection s) (connection_event s) p xs) ≡ true
list_keeps s p [] d = refl
list_keeps s p (x ∷ xs) d =
    let k : Keeps s p (made (connection_event s) p x) = event_keeps s p x d in
    froms_grow (step_connection s) is_undrained p (made (connection_event s) p x) (list_from (step_connection s) (connection_event s) (behind (step_connection s) p (made (connection_event s) p x)) xs) k.comes
    (list_keeps s (behind (step_connection s) p (made (connection_event s) p x)) xs k.left_so)

pub none_drained : NoneComesDrained
none_drained s u xs = list_keeps s (empty_connection s u) xs refl
