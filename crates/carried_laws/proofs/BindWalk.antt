-- Each answer that a bind connection gives tells the identity rightly: event by event.
use Rattle.std.proofs.Common.{◌≡◌, ℕ, Bool, true, false, ◌&&◌, not, List, [], ◌∷◌, ◌++◌, refl, ap, ◌∙◌, sym, subst, append_assoc}
use Rattle.std.specs.Prelude.{Option, None, map}
use Rattle.std.specs.List.{list_any, list_all}
use Rattle.std.proofs.lemmas.List.{append-nil, map-append}
use Rattle.std.proofs.lemmas.List.Folds.{list_all-append}
use Rattle.lload_names.specs.declared.names.ConnKind.TheVariants.{Bind as BindKind}
use Rattle.lload_names.specs.declared.names.Entry.{Entry}
use Rattle.lload_names.specs.declared.names.PartName.{PartName}
use Rattle.lload_names.specs.declared.names.PartName.TheVariants.{Up as Connection}
use Rattle.lload_names.specs.declared.names.Posted.{Posted}
use Rattle.lload_names.specs.declared.names.What.{What}
use Rattle.lload_names.specs.declared.names.What.TheVariants as what
use Rattle.lload_spec.specs.Answers.{Sending, sendings}
use Rattle.lload_spec.specs.Entries.{is_down}
use Rattle.lload_spec.specs.Journal.{Family}
use Rattle.lload_spec.specs.Lists.{each_split_from, implies, agrees, where_there}
use Rattle.lload_spec.specs.Settings.{Settings, is_of_kind}
use Rattle.lload_spec.specs.Strict.{lives_as_connection, is_empty}
use Rattle.lload_spec.proofs.Growth.{left, right, both}
use Rattle.part_laws.specs.Turns.{Event, letter_with, list_from, made}
use Rattle.part_laws.proofs.Giving.{gives_more}
use Rattle.part_laws.proofs.Induction.{sees_behind}
use Rattle.part_laws.proofs.ListLaws.{not_true}
use Rattle.part_spec.specs.ConnectionState.{ConnectionState, empty_connection, step_connection}
use Rattle.part_spec.specs.Fit.{ConnectionLedger, empty_connection_ledger, step_connection_ledger, fits_connection, are_fit_from, is_unfit, ledger_behind as behind}
use Rattle.part_spec.specs.Gives.{connection_gives, connection_letters, got_letters}
use Rattle.part_spec.specs.Inputs.{entries_of, marked_by}
use Rattle.part_spec.specs.Marked.{Marked, Taken, entries}
use Rattle.connection_laws.specs.Turns.{connection_event, connection_list}
use Rattle.bind_laws.specs.Turns.{are_told_rightly, is_told_rightly}
use Rattle.bind_laws.proofs.BindSays.{BindTells, tells_turn, nothing_told}
use Rattle.bind_laws.proofs.BindShare.{begins_alone as begins_no_bind, event_keeps_by}
use Rattle.bind_laws.proofs.Lone.{no_own}
use Rattle.bind_laws.proofs.Tells.{SentsAre}
use Rattle.carried_laws.specs.Laws.{is_reply_right}
use Rattle.carried_laws.proofs.BindReplies.{are_replies_right, got_right}
use Rattle.carried_laws.proofs.Replies.{other_right, replies_later}
use Rattle.carried_laws.proofs.TurnHeads.{Whats, begins_alone, event_whats, is_no_message}

-- Tests of the rest of a list.

pub fit_rest : (s : Settings) (l : ConnectionLedger) (L M : List Marked) → are_fit_from (fits_connection s) (step_connection_ledger s) l (L ++ M) ≡ true → are_fit_from (fits_connection s) (step_connection_ledger s) (behind (step_connection_ledger s) l L) M ≡ true
fit_rest s l [] M h = h
fit_rest s l (m ∷ L) M h = fit_rest s (step_connection_ledger s l m) L M (right (not (is_unfit (fits_connection s) l m.mark)) _ h)

pub split_rest : (t : List Entry → Entry → List Entry → Bool) (place L M : List Entry) → each_split_from t place (L ++ M) ≡ true → each_split_from t (place ++ L) M ≡ true
split_rest t place [] M h = subst (λ p. each_split_from t p M ≡ true) (sym (append-nil place)) h
split_rest t place (e ∷ L) M h = subst (λ p. each_split_from t p M ≡ true) (append_assoc place (e ∷ []) L) (split_rest t (place ++ e ∷ []) L M (right (t place e (L ++ M)) _ h))

abbrev pub lives : List Entry → Entry → List Entry → Bool
lives place e behind = lives_as_connection place e

module _ (s : Settings) (F : Family) (u : ℕ) (kind : is_of_kind s BindKind u ≡ true) where
  abbrev list_of : ConnectionLedger → List Event → List Marked
  list_of l xs = list_from (step_connection s) (connection_event s) l.state xs

  abbrev unmarked : PartName → ℕ → List What → List Marked
  unmarked part at ws = map (λ x. record { entry = x; mark = None }) (entries_of part at ws)

  -- entries that are no messages
  tail_right : (sents : List Sending) (part : PartName) (at : ℕ) (ws : List What) (p : ConnectionState) → list_all is_no_message ws ≡ true → are_replies_right s F sents (connection_gives s p (unmarked part at ws)) ≡ true
  tail_right sents part at [] p h = refl
  tail_right sents part at (w ∷ ws) p h =
      list_all-append (λ (x : Posted). is_reply_right s F sents x.letter) (connection_letters s p at None w) (connection_gives s (step_connection s p (record { entry = record { part = part; at = at; what = w }; mark = None })) (unmarked part at ws))
      ∙ both (are_replies_right s F sents (connection_letters s p at None w)) _ (other_right s F sents p at None w (left (is_no_message w) _ h)) (tail_right sents part at ws (step_connection s p (record { entry = record { part = part; at = at; what = w }; mark = None })) (right (is_no_message w) _ h))

  -- the first entry of a turn
  head_right : (before : List Marked) (l : ConnectionLedger) (part : PartName) (at : ℕ) (mark : Option Taken) (w : What) (more : List Entry) → BindTells s F u before l → are_told_rightly s F before ≡ true → lives_as_connection (entries before) (record { part = part; at = at; what = w }) ≡ true → are_replies_right s F (sendings u ((entries before ++ record { part = part; at = at; what = w } ∷ []) ++ more)) (connection_letters s l.state at mark w) ≡ true
  head_right before l part at mark (what.Got id rest) more h told life = replies_later s F u (entries before ++ record { part = part; at = at; what = what.Got id rest } ∷ []) more (got_letters s l.state at (record { id = id; rest = rest })) (got_right s F u (entries before) l.state part at (record { id = id; rest = rest }) h.keeps.stands.kind (no_own s u (entries before) l.state (begins_no_bind s u kind) h.keeps.keeps.stands.own) l.state.ids.next known.done known.live known.split known.are)
    where
      not_down : l.state.down ≡ false
      not_down = h.keeps.keeps.stands.says.down ∙ by (list_any is_down (entries before)) (right (agrees false (is_empty (entries before))) _ (left (agrees false (is_empty (entries before)) && implies (list_any is_down (entries before)) false) _ life))
        where
          by : (b : Bool) → implies b false ≡ true → b ≡ false
          by true k = absurd (let bad : false ≡ true = k in cc)
          by false k = refl

      known : SentsAre s F u (entries before) l.state.ids.next l.state.rows []
      known = (h.tells told).sents not_down refl
  head_right before l part at mark w more h told life = other_right s F (sendings u ((entries before ++ record { part = part; at = at; what = w } ∷ []) ++ more)) l.state at mark w refl

  -- What is shown of the events from a ledger on.
  abbrev Goal : List Marked → ConnectionLedger → List Event → Type 0
  Goal before l xs = BindTells s F u before l → are_told_rightly s F (before ++ list_of l xs) ≡ true → are_fit_from (fits_connection s) (step_connection_ledger s) l (list_of l xs) ≡ true → each_split_from lives (entries before) (entries (list_of l xs)) ≡ true → are_replies_right s F (sendings u (entries before ++ entries (list_of l xs))) (connection_gives s l.state (list_of l xs)) ≡ true

  one_turn : (part : PartName) (at : ℕ) (ws : List What) (mark : Option Taken) (before : List Marked) (l : ConnectionLedger) (rest : List Marked) → begins_alone ws ≡ true → BindTells s F u before l
      → are_told_rightly s F (before ++ (marked_by mark (entries_of part at ws) ++ rest)) ≡ true
      → each_split_from lives (entries before) (entries (marked_by mark (entries_of part at ws) ++ rest)) ≡ true
      → are_replies_right s F (sendings u (entries (before ++ marked_by mark (entries_of part at ws)) ++ entries rest)) (connection_gives s (behind (step_connection s) l.state (marked_by mark (entries_of part at ws))) rest) ≡ true
      → are_replies_right s F (sendings u (entries before ++ entries (marked_by mark (entries_of part at ws) ++ rest))) (connection_gives s l.state (marked_by mark (entries_of part at ws) ++ rest)) ≡ true
  one_turn part at [] mark before l rest alone h told life later = subst (λ b. are_replies_right s F (sendings u (entries b ++ entries rest)) (connection_gives s l.state rest) ≡ true) (append-nil before) later
  one_turn part at (w ∷ ws) mark before l rest alone h told life later =
      let m : Marked = record { entry = record { part = part; at = at; what = w }; mark = mark } in
      let turn : List Marked = m ∷ unmarked part at ws in
      let sents : List Sending = sendings u (entries before ++ entries (turn ++ rest)) in
      let first : List Posted = connection_letters s l.state at mark w in
      let others : List Posted = connection_gives s (step_connection s l.state m) (unmarked part at ws) in
      let rests : List Posted = connection_gives s (behind (step_connection s) l.state turn) rest in
      let grown : entries (before ++ turn) ++ entries rest ≡ entries before ++ entries (turn ++ rest) = ap (λ l. l ++ entries rest) (map-append (λ (x : Marked). x.entry) before turn) ∙ append_assoc (entries before) (entries turn) (entries rest) ∙ ap (λ l. entries before ++ l) (sym (map-append (λ (x : Marked). x.entry) turn rest)) in
      let here : are_replies_right s F sents first ≡ true = subst (λ l. are_replies_right s F (sendings u l) first ≡ true) (append_assoc (entries before) (m.entry ∷ []) (entries (unmarked part at ws ++ rest))) (head_right before l part at mark w (entries (unmarked part at ws ++ rest)) h (left (are_told_rightly s F before) _ (sym (list_all-append (λ x. where_there (λ t. is_told_rightly s F t.letter) x.mark) before (turn ++ rest)) ∙ told)) (left (lives_as_connection (entries before) m.entry) _ life)) in
      let both_of : are_replies_right s F sents (first ++ others) ≡ true = list_all-append (λ (x : Posted). is_reply_right s F sents x.letter) first others ∙ both (are_replies_right s F sents first) _ here (tail_right sents part at ws (step_connection s l.state m) alone) in
      ap (are_replies_right s F sents) (gives_more (step_connection s) (λ q x. connection_letters s q x.entry.at x.mark x.entry.what) l.state turn rest)
      ∙ (list_all-append (λ (x : Posted). is_reply_right s F sents x.letter) (first ++ others) rests
      ∙ both (are_replies_right s F sents (first ++ others)) _ both_of (subst (λ l. are_replies_right s F (sendings u l) rests ≡ true) grown later))

  -- the list has one entry of a turn at least, so that its letter was fit; or none, and it makes no difference
  pub next_tells : (before : List Marked) (l : ConnectionLedger) (x : Event) (rest : List Marked) → BindTells s F u before l → are_fit_from (fits_connection s) (step_connection_ledger s) l (made (connection_event s) l.state x ++ rest) ≡ true → BindTells s F u (before ++ made (connection_event s) l.state x) (behind (step_connection_ledger s) l (made (connection_event s) l.state x))
  next_tells before l x rest h fit = by (connection_event s l.state x).entries fit (λ f. event_keeps_by s u kind (BindTells s F u) (λ b i k. k.keeps) (tells_turn s F u (begins_no_bind s u kind)) before l h x f)
    where
      by : (es : List Entry) → are_fit_from (fits_connection s) (step_connection_ledger s) l (marked_by (letter_with x) es ++ rest) ≡ true → (is_unfit (fits_connection s) l (letter_with x) ≡ false → BindTells s F u (before ++ marked_by (letter_with x) es) (behind (step_connection_ledger s) l (marked_by (letter_with x) es))) → BindTells s F u (before ++ marked_by (letter_with x) es) (behind (step_connection_ledger s) l (marked_by (letter_with x) es))
      by [] f g = subst (λ b. BindTells s F u b l) (sym (append-nil before)) h
      by (e ∷ es) f g = g (not_true (is_unfit (fits_connection s) l (letter_with x)) (left (not (is_unfit (fits_connection s) l (letter_with x))) _ f))

  -- what is shown of an event, by what its turn makes
  abbrev After : ConnectionLedger → Event → List Event → List Entry → List Marked
  After l x xs es = list_from (step_connection s) (connection_event s) (behind (step_connection s) l.state (marked_by (letter_with x) es)) xs

  abbrev Shown : List Marked → ConnectionLedger → Event → List Event → List Entry → Type 0
  Shown before l x xs es =
      are_told_rightly s F (before ++ (marked_by (letter_with x) es ++ After l x xs es)) ≡ true
      → each_split_from lives (entries before) (entries (marked_by (letter_with x) es ++ After l x xs es)) ≡ true
      → are_replies_right s F (sendings u (entries (before ++ marked_by (letter_with x) es) ++ entries (After l x xs es))) (connection_gives s (behind (step_connection s) l.state (marked_by (letter_with x) es)) (After l x xs es)) ≡ true
      → are_replies_right s F (sendings u (entries before ++ entries (marked_by (letter_with x) es ++ After l x xs es))) (connection_gives s l.state (marked_by (letter_with x) es ++ After l x xs es)) ≡ true

  shown : (before : List Marked) (l : ConnectionLedger) (x : Event) (xs : List Event) → BindTells s F u before l → Whats s l.state (connection_event s l.state x).entries → Shown before l x xs (connection_event s l.state x).entries
  shown before l x xs h w = subst (Shown before l x xs) (sym w.same) (λ a b d. one_turn (Connection l.state.number) w.moment w.whats (letter_with x) before l (After l x xs (entries_of (Connection l.state.number) w.moment w.whats)) w.alone h a b d)

  replies_from : (xs : List Event) (before : List Marked) (l : ConnectionLedger) → Goal before l xs
  replies_from [] before l h told fit life = refl
  replies_from (x ∷ xs) before l h told fit life =
      let turn : List Marked = made (connection_event s) l.state x in
      let next : ConnectionLedger = behind (step_connection_ledger s) l turn in
      let rest : List Marked = list_from (step_connection s) (connection_event s) (behind (step_connection s) l.state turn) xs in
      let seen : next.state ≡ behind (step_connection s) l.state turn = sees_behind (fits_connection s) (step_connection_ledger s) (step_connection s) (λ k. k.state) (λ k m. refl) l turn in
      let same : list_of next xs ≡ rest = ap (λ q. list_from (step_connection s) (connection_event s) q xs) seen in
      let tells : BindTells s F u (before ++ turn) next = next_tells before l x rest h fit in
      let told_next : are_told_rightly s F ((before ++ turn) ++ list_of next xs) ≡ true = ap (λ r. are_told_rightly s F ((before ++ turn) ++ r)) same ∙ ap (are_told_rightly s F) (append_assoc before turn rest) ∙ told in
      let fit_next : are_fit_from (fits_connection s) (step_connection_ledger s) next (list_of next xs) ≡ true = ap (are_fit_from (fits_connection s) (step_connection_ledger s) next) same ∙ fit_rest s l turn rest fit in
      let life_next : each_split_from lives (entries (before ++ turn)) (entries (list_of next xs)) ≡ true = ap (λ r. each_split_from lives (entries (before ++ turn)) (entries r)) same ∙ ap (λ b. each_split_from lives b (entries rest)) (map-append (λ (y : Marked). y.entry) before turn) ∙ split_rest lives (entries before) (entries turn) (entries rest) (subst (λ es. each_split_from lives (entries before) es ≡ true) (map-append (λ (y : Marked). y.entry) turn rest) life) in
      let later : are_replies_right s F (sendings u (entries (before ++ turn) ++ entries rest)) (connection_gives s (behind (step_connection s) l.state turn) rest) ≡ true = subst (λ r. are_replies_right s F (sendings u (entries (before ++ turn) ++ entries r)) (connection_gives s (behind (step_connection s) l.state turn) r) ≡ true) same (subst (λ q. are_replies_right s F (sendings u (entries (before ++ turn) ++ entries (list_of next xs))) (connection_gives s q (list_of next xs)) ≡ true) seen (replies_from xs (before ++ turn) next tells told_next fit_next life_next)) in
      shown before l x xs h (event_whats s l.state h.keeps.stands.kind x) told life later

  -- each answer that a list of a bind connection's turns gives
  pub bind_replies_right : (xs : List Event) → are_told_rightly s F (connection_list s u xs) ≡ true → are_fit_from (fits_connection s) (step_connection_ledger s) (empty_connection_ledger s u) (connection_list s u xs) ≡ true → each_split_from lives [] (entries (connection_list s u xs)) ≡ true → are_replies_right s F (sendings u (entries (connection_list s u xs))) (connection_gives s (empty_connection s u) (connection_list s u xs)) ≡ true
  bind_replies_right xs told fit life = replies_from xs [] (empty_connection_ledger s u) (nothing_told s F u kind) told fit life
