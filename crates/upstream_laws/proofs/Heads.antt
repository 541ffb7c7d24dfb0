-- A bind connection's list, entry by entry: where a turn begins, what its state says is what its list says; and no other
-- entry is a message, nor took a letter.
use Rattle.std.proofs.Common.{◌≡◌, ◌⊎◌, inl, inr, ℕ, true, not, List, [], ◌∷◌, ◌++◌, refl, ap, ◌∙◌, sym, subst, append_assoc}
use Rattle.std.specs.Prelude.{Option, None, map}
use Rattle.std.specs.List.{list_all}
use Rattle.std.proofs.lemmas.List.{append-nil}
use Rattle.std.proofs.lemmas.List.Folds.{list_all-append}
use Rattle.lload_names.specs.declared.names.ConnKind.TheVariants.{Bind as BindKind}
use Rattle.lload_names.specs.declared.names.Entry.{Entry}
use Rattle.lload_names.specs.declared.names.PartName.{PartName}
use Rattle.lload_names.specs.declared.names.PartName.TheVariants.{Up as Connection}
use Rattle.lload_names.specs.declared.names.What.{What}
use Rattle.lload_spec.specs.CausedUp.{message_facts as facts_by_list}
use Rattle.lload_spec.specs.Journal.{Family}
use Rattle.lload_spec.specs.Lists.{where_there}
use Rattle.lload_spec.specs.Settings.{Settings, is_of_kind}
use Rattle.lload_spec.proofs.Growth.{left, right, both}
use Rattle.part_laws.specs.Turns.{Event, letter_with, list_from, made}
use Rattle.part_laws.proofs.Induction.{sees_behind}
use Rattle.part_spec.specs.ConnectionState.{ConnectionState, connection_of, empty_connection, message_facts, step_connection}
use Rattle.part_spec.specs.Fit.{ConnectionLedger, are_fit_from, empty_connection_ledger, fit_beginning, fits_connection, is_unfit, step_connection_ledger, ledger_behind as behind}
use Rattle.part_spec.specs.Inputs.{entries_of, marked_by}
use Rattle.part_spec.specs.Laws.{FitIsWhole}
use Rattle.part_spec.specs.Marked.{Marked, Taken, entries}
use Rattle.connection_laws.specs.Turns.{connection_event, connection_list}
use Rattle.connection_laws.proofs.Through.{steps_are}
use Rattle.bind_laws.specs.Turns.{BindMeets, are_told_rightly, is_told_rightly}
use Rattle.bind_laws.proofs.BindSays.{BindTells, nothing_told}
use Rattle.carried_laws.specs.Laws.{Played}
use Rattle.caused_laws.specs.Laws.{BindConnectionsSay}
use Rattle.carried_laws.proofs.BindWalk.{fit_rest, next_tells}
use Rattle.rows_laws.proofs.Known.{behind_more}
use Rattle.carried_laws.proofs.TurnHeads.{Whats, begins_alone, event_whats, is_no_message}

-- where a turn begins
pub record Head (s : Settings) (F : Family) (u : ℕ) (before : List Marked) (l : ConnectionLedger) : Type 0 where
  pub knows : BindTells s F u before l
  pub told : are_told_rightly s F before ≡ true
  pub events : List Event
  pub made_by : connection_list s u events ≡ before
  pub fit : are_fit_from (fits_connection s) (step_connection_ledger s) (empty_connection_ledger s u) before ≡ true
  pub ledger : behind (step_connection_ledger s) (empty_connection_ledger s u) before ≡ l

-- an entry that begins no turn
pub record Tail (m : Marked) : Type 0 where
  pub unmarked : m.mark ≡ None
  pub quiet : is_no_message m.entry.what ≡ true

abbrev pub AtHeads : Settings → Family → ℕ → List Marked → ConnectionLedger → List Marked → Type 0
AtHeads s F u before l [] = Head s F u before l
AtHeads s F u before l (m ∷ ms) = (Head s F u before l ⊎ Tail m) × AtHeads s F u (before ++ m ∷ []) (step_connection_ledger s l m) ms

-- the first entries of a list are fit
fit_first : (s : Settings) (l : ConnectionLedger) (L M : List Marked) → are_fit_from (fits_connection s) (step_connection_ledger s) l (L ++ M) ≡ true → are_fit_from (fits_connection s) (step_connection_ledger s) l L ≡ true
fit_first s l [] M h = refl
fit_first s l (m ∷ L) M h = both (not (is_unfit (fits_connection s) l m.mark)) _ (left (not (is_unfit (fits_connection s) l m.mark)) _ h) (fit_first s (step_connection_ledger s l m) L M (right (not (is_unfit (fits_connection s) l m.mark)) _ h))

-- the list of one event more
list_push : (s : Settings) (p : ConnectionState) (ys : List Event) (x : Event) → list_from (step_connection s) (connection_event s) p (ys ++ x ∷ []) ≡ list_from (step_connection s) (connection_event s) p ys ++ made (connection_event s) (behind (step_connection s) p (list_from (step_connection s) (connection_event s) p ys)) x
list_push s p [] x = append-nil (made (connection_event s) p x)
list_push s p (y ∷ ys) x =
    let turn : List Marked = made (connection_event s) p y in
    let rest : List Marked = list_from (step_connection s) (connection_event s) (behind (step_connection s) p turn) ys in
    ap (λ l. turn ++ l) (list_push s (behind (step_connection s) p turn) ys x) ∙ sym (append_assoc turn rest (made (connection_event s) (behind (step_connection s) (behind (step_connection s) p turn) rest) x)) ∙ ap (λ q. (turn ++ rest) ++ made (connection_event s) q x) (sym (folds p turn rest))
  where
    folds : (q : ConnectionState) (L M : List Marked) → behind (step_connection s) q (L ++ M) ≡ behind (step_connection s) (behind (step_connection s) q L) M
    folds q [] M = refl
    folds q (m ∷ L) M = folds (step_connection s q m) L M

module _ (s : Settings) (F : Family) (u : ℕ) (kind : is_of_kind s BindKind u ≡ true) where
  abbrev unmarked : PartName → ℕ → List What → List Marked
  unmarked part at ws = map (λ x. record { entry = x; mark = None }) (entries_of part at ws)

  tails : (part : PartName) (at : ℕ) (ws : List What) (before : List Marked) (l : ConnectionLedger) (rest : List Marked) → list_all is_no_message ws ≡ true → AtHeads s F u (before ++ unmarked part at ws) (behind (step_connection_ledger s) l (unmarked part at ws)) rest → AtHeads s F u before l (unmarked part at ws ++ rest)
  tails part at [] before l rest q h = subst (λ b. AtHeads s F u b l rest) (append-nil before) h
  tails part at (w ∷ ws) before l rest q h =
      let m : Marked = record { entry = record { part = part; at = at; what = w }; mark = None } in
      (inr (record { unmarked = refl; quiet = left (is_no_message w) _ q }), tails part at ws (before ++ m ∷ []) (step_connection_ledger s l m) rest (right (is_no_message w) _ q) (subst (λ b. AtHeads s F u b (behind (step_connection_ledger s) (step_connection_ledger s l m) (unmarked part at ws)) rest) (sym (append_assoc before (m ∷ []) (unmarked part at ws))) h))

  turn_heads : (part : PartName) (at : ℕ) (ws : List What) (mark : Option Taken) (before : List Marked) (l : ConnectionLedger) (rest : List Marked) → begins_alone ws ≡ true → Head s F u before l → AtHeads s F u (before ++ marked_by mark (entries_of part at ws)) (behind (step_connection_ledger s) l (marked_by mark (entries_of part at ws))) rest → AtHeads s F u before l (marked_by mark (entries_of part at ws) ++ rest)
  turn_heads part at [] mark before l rest alone h k = subst (λ b. AtHeads s F u b l rest) (append-nil before) k
  turn_heads part at (w ∷ ws) mark before l rest alone h k =
      let m : Marked = record { entry = record { part = part; at = at; what = w }; mark = mark } in
      (inl h, tails part at ws (before ++ m ∷ []) (step_connection_ledger s l m) rest alone (subst (λ b. AtHeads s F u b (behind (step_connection_ledger s) (step_connection_ledger s l m) (unmarked part at ws)) rest) (sym (append_assoc before (m ∷ []) (unmarked part at ws))) k))

  abbrev list_of : ConnectionLedger → List Event → List Marked
  list_of l xs = list_from (step_connection s) (connection_event s) l.state xs

  -- what is shown of an event, by what its turn makes
  abbrev Shown : List Marked → ConnectionLedger → Event → List Marked → List Entry → Type 0
  Shown before l x rest es = AtHeads s F u (before ++ marked_by (letter_with x) es) (behind (step_connection_ledger s) l (marked_by (letter_with x) es)) rest → AtHeads s F u before l (marked_by (letter_with x) es ++ rest)

  shown : (before : List Marked) (l : ConnectionLedger) (x : Event) (rest : List Marked) → Head s F u before l → Whats s l.state (connection_event s l.state x).entries → Shown before l x rest (connection_event s l.state x).entries
  shown before l x rest h w = subst (Shown before l x rest) (sym w.same) (turn_heads (Connection l.state.number) w.moment w.whats (letter_with x) before l rest w.alone h)

  heads_from : (xs : List Event) (before : List Marked) (l : ConnectionLedger) → Head s F u before l → are_told_rightly s F (before ++ list_of l xs) ≡ true → are_fit_from (fits_connection s) (step_connection_ledger s) (empty_connection_ledger s u) (before ++ list_of l xs) ≡ true → AtHeads s F u before l (list_of l xs)
  heads_from [] before l h told fit = h
  heads_from (x ∷ xs) before l h told fit =
      let turn : List Marked = made (connection_event s) l.state x in
      let next : ConnectionLedger = behind (step_connection_ledger s) l turn in
      let rest : List Marked = list_from (step_connection s) (connection_event s) (behind (step_connection s) l.state turn) xs in
      let seen : next.state ≡ behind (step_connection s) l.state turn = sees_behind (fits_connection s) (step_connection_ledger s) (step_connection s) (λ k. k.state) (λ k m. refl) l turn in
      let same : list_of next xs ≡ rest = ap (λ q. list_from (step_connection s) (connection_event s) q xs) seen in
      let grown : (before ++ turn) ++ list_of next xs ≡ before ++ (turn ++ rest) = ap (λ r. (before ++ turn) ++ r) same ∙ append_assoc before turn rest in
      let told_next : are_told_rightly s F ((before ++ turn) ++ list_of next xs) ≡ true = ap (are_told_rightly s F) grown ∙ told in
      let fit_next : are_fit_from (fits_connection s) (step_connection_ledger s) (empty_connection_ledger s u) ((before ++ turn) ++ list_of next xs) ≡ true = ap (are_fit_from (fits_connection s) (step_connection_ledger s) (empty_connection_ledger s u)) grown ∙ fit in
      let fit_here : are_fit_from (fits_connection s) (step_connection_ledger s) l (turn ++ rest) ≡ true = subst (λ q. are_fit_from (fits_connection s) (step_connection_ledger s) q (turn ++ rest) ≡ true) h.ledger (fit_rest s (empty_connection_ledger s u) before (turn ++ rest) fit) in
      let is_list : before ++ turn ≡ connection_list s u (h.events ++ x ∷ []) = sym (list_push s (empty_connection s u) h.events x ∙ ap (λ b. b ++ made (connection_event s) (behind (step_connection s) (empty_connection s u) b) x) h.made_by ∙ ap (λ q. before ++ made (connection_event s) q x) (sym h.knows.keeps.keeps.state)) in
      let head : Head s F u (before ++ turn) next =
      record {
        knows = next_tells s F u kind before l x rest h.knows fit_here;
        told = left (are_told_rightly s F (before ++ turn)) _ (sym (list_all-append (λ m. where_there (λ t. is_told_rightly s F t.letter) m.mark) (before ++ turn) (list_of next xs)) ∙ told_next);
        events = h.events ++ x ∷ [];
        made_by = sym is_list;
        fit = fit_first s (empty_connection_ledger s u) (before ++ turn) (list_of next xs) fit_next;
        ledger = behind_more s (empty_connection_ledger s u) before turn ∙ ap (λ q. behind (step_connection_ledger s) q turn) h.ledger;
      } in
      shown before l x rest h (event_whats s l.state h.knows.keeps.stands.kind x) (subst (AtHeads s F u (before ++ turn) next) same (heads_from xs (before ++ turn) next head told_next fit_next))

  pub heads : (xs : List Event) → are_told_rightly s F (connection_list s u xs) ≡ true → are_fit_from (fits_connection s) (step_connection_ledger s) (empty_connection_ledger s u) (connection_list s u xs) ≡ true → AtHeads s F u [] (empty_connection_ledger s u) (connection_list s u xs)
  heads xs told fit = heads_from xs [] (empty_connection_ledger s u) (record { knows = nothing_told s F u kind; told = refl; events = []; made_by = refl; fit = refl; ledger = refl }) told fit

  -- what a message meets where a turn begins
  pub head_meets : FitIsWhole → BindMeets → (before : List Marked) (l : ConnectionLedger) → Head s F u before l → message_facts l.state ≡ facts_by_list s F u (entries before)
  head_meets whole meets before l h =
      let same : fit_beginning s (Connection u) (connection_list s u h.events) ≡ before = ap (fit_beginning s (Connection u)) h.made_by ∙ whole s (Connection u) before h.fit in
      ap message_facts (h.knows.keeps.keeps.state ∙ sym (steps_are s (empty_connection s u) before)) ∙ subst (λ b. message_facts (connection_of s u b) ≡ facts_by_list s F u (entries b)) same (meets s u kind F h.events (subst (λ b. are_told_rightly s F b ≡ true) (sym same) h.told))

-- in lists that turns made
pub bind_heads : BindConnectionsSay → (s : Settings) (F : Family) (marked : PartName → List Marked) → Played s F marked → (u : ℕ) → is_of_kind s BindKind u ≡ true → AtHeads s F u [] (empty_connection_ledger s u) (marked (Connection u))
bind_heads says s F marked h u kind =
    let same : connection_list s u (h.connections u).events ≡ marked (Connection u) = (h.connections u).same in
    subst (AtHeads s F u [] (empty_connection_ledger s u)) same (heads s F u kind (h.connections u).events (subst (λ l. are_told_rightly s F l ≡ true) (sym same) (says s F marked h u kind).told) (subst (λ l. are_fit_from (fits_connection s) (step_connection_ledger s) (empty_connection_ledger s u) l ≡ true) (sym same) (h.joined.fit (Connection u))))
