-- What a bind connection's state says is what its list says.
use Rattle.std.proofs.Common.{◌≡◌, ℕ, Bool, true, false, ◌&&◌, List, [], ◌∷◌, ◌++◌, flat_map, refl, ap, ◌∙◌, sym, subst, append_assoc}
use Rattle.std.specs.Prelude.{Option, Some, None, is_some, if◌then◌else◌}
use Rattle.std.specs.List.{list_all}
use Rattle.std.proofs.lemmas.List.{append-nil}
use Rattle.std.proofs.lemmas.List.Folds.{list_all-append}
use Rattle.lload_names.specs.declared.names.Entry.{Entry}
use Rattle.lload_names.specs.declared.names.ConnKind.TheVariants.{Bind as BindKind}
use Rattle.lload_names.specs.declared.names.PartName.{PartName}
use Rattle.lload_names.specs.declared.names.What.{What}
use Rattle.lload_names.specs.declared.names.What.TheVariants as what
use Rattle.lload_spec.specs.Lists.{first_passes, implies, where_there}
use Rattle.lload_spec.specs.Settings.{Settings, is_of_kind, is_kind}
use Rattle.lload_spec.specs.Journal.{Family}
use Rattle.lload_spec.specs.Entries.{expired_op, is_down}
use Rattle.lload_spec.specs.Identifiers.{freed_by, ids_with, with_freed}
use Rattle.lload_spec.specs.OneEach.{begins_with_bind}
use Rattle.part_spec.specs.Marked.{Marked, Taken, entries}
use Rattle.part_spec.specs.ConnectionState.{empty_connection, step_connection, connection_behind, freed_id}
use Rattle.part_spec.specs.Fit.{ConnectionLedger, empty_connection_ledger, step_connection_ledger, fits_connection, ledger_behind as behind}
use Rattle.part_spec.specs.Share.{is_free_by}
use Rattle.part_spec.specs.Says.{ConnectionSays}
use Rattle.connection_laws.specs.Turns.{connection_event}
use Rattle.bind_laws.specs.Turns.{is_told_rightly, are_told_rightly, BindSays}
use Rattle.lload_spec.proofs.Growth.{left, right}
use Rattle.part_spec.proofs.Joins.{connection-waits}
use Rattle.part_laws.proofs.Induction.{through}
use Rattle.part_laws.proofs.ListLaws.{false_by, last_push}
use Rattle.connection_laws.proofs.Permits.{Permit, Chain, UpStands, up_stands_more, push_entry}
use Rattle.connection_laws.proofs.Closings.{ids_push}
use Rattle.connection_laws.proofs.Makes.{Makes, turn_of, turn_marks}
use Rattle.connection_laws.proofs.Through.{steps_are}
use Rattle.bind_laws.proofs.Lone.{BindStands, marks_a_bind, stands_step, no_own}
use Rattle.bind_laws.proofs.Meets.{not_own}
use Rattle.bind_laws.proofs.Tells.{Tells, SentsAre, tells_any}
use Rattle.bind_laws.proofs.TellsMore.{got_frees, got_sents, own_sents, sent_sents, expired_down, idle_sents}
use Rattle.bind_laws.proofs.BindShare.{BindKeeps, begins_alone, after_turn, nothing_kept, event_keeps_by}

abbrev marks_rightly : Settings → Family → Option Taken → Bool
marks_rightly s F mark = where_there (λ t. is_told_rightly s F t.letter) mark

-- Behind an entry.
module _ (s : Settings) (F : Family) (u : ℕ) (before : List Marked) (l : ConnectionLedger) (ms : List Marked) (g : UpStands s u before l) (h : BindStands l.state) (begins : begins_with_bind s l.state.number ≡ false) (own : l.state.own_bind ≡ None) (part : PartName) (at : ℕ) where
  abbrev marked : Option Taken → What → Marked
  marked mark w = record { entry = record { part = part; at = at; what = w }; mark = mark }

  abbrev entry : What → Entry
  entry w = record { part = part; at = at; what = w }

  not_ended : implies l.state.down false ≡ true → l.state.down ≡ false
  not_ended a = false_by l.state.down (λ d. sym (ap (λ b. implies b false) d) ∙ a)

  ids_step : (mark : Option Taken) (w : What) → Permit s before l (marked mark w) ms → Tells s F u (entries before) l.state (entry w ∷ entries ms) → (connection_behind s (entry w) mark l.state w).ids ≡ ids_with w (freed_by s F u (entries before) (entry w)) l.state.ids
  ids_step mark (what.Got id rest) k t = ap (λ b. if b then l.state.ids else with_freed (flat_map (freed_id at (record { id = id; rest = rest })) l.state.rows) l.state.ids) (not_own l.state own (record { id = id; rest = rest })) ∙ ap (λ xs. with_freed xs l.state.ids) (got_frees s F u before l ms g h begins own part at mark id rest k (t.sents (not_ended k.alive) refl))
  ids_step mark (what.Sent id op rest) k t = refl
  ids_step mark (what.Own id rest) k t = refl
  ids_step mark what.Linked k t = refl
  ids_step mark _ k t = refl

  sents_step : (mark : Option Taken) (w : What) → Permit s before l (marked mark w) ms → marks_rightly s F mark ≡ true → Tells s F u (entries before) l.state (entry w ∷ entries ms) → (connection_behind s (entry w) mark l.state w).down ≡ false → first_passes is_down (entries ms) ≡ false → SentsAre s F u (entries before ++ entry w ∷ []) (connection_behind s (entry w) mark l.state w).ids.next (connection_behind s (entry w) mark l.state w).rows (entries ms)
  sents_step mark (what.Down why) k told t d f = absurd (let no : true ≡ false = d in cc)
  sents_step mark (what.Expired op) k told t d f = absurd (let no : true ≡ false = sym (expired_down s F u before l ms g h begins own part at mark (what.Expired op) k refl) ∙ f in cc)
  sents_step mark (what.Got id rest) k told t d f = got_sents s F u before l ms g h begins own part at mark id rest k (t.sents (not_ended k.alive) refl) f
  sents_step mark (what.Own id rest) k told t d f = own_sents s F u before l ms g h begins own part at mark id rest k t (t.sents (not_ended k.alive) refl)
  sents_step None (what.Sent id op rest) k told t d f = absurd (let no : false ≡ true = k.fitting in cc)
  sents_step (Some x) (what.Sent id op rest) k told t d f = sent_sents s F u before l ms g h begins own part at id op rest x k.fitting (ap (λ c. true && implies c (is_free_by l.state x.letter)) (sym (ap (is_kind BindKind) h.kind)) ∙ k.free) told (t.sents d refl)
  sents_step mark what.Linked k told t d f = idle_sents s F u before l ms g h begins own part at what.Linked refl refl refl (λ i. refl) (λ op i. refl) (t.sents d refl)
  sents_step mark w k told t d f = idle_sents s F u before l ms g h begins own part at w refl refl refl (λ i. refl) (λ op i. refl) (t.sents d refl)

  tells_step : (mark : Option Taken) (w : What) → Permit s before l (marked mark w) ms → marks_rightly s F mark ≡ true → Tells s F u (entries before) l.state (entry w ∷ entries ms) → Tells s F u (entries before ++ entry w ∷ []) (step_connection s l.state (marked mark w)) (entries ms)
  tells_step mark w k told t =
      record {
        ids = ids_step mark w k t ∙ ap (ids_with w (freed_by s F u (entries before) (entry w))) t.ids ∙ sym (ids_push s F u (entries before) (entry w));
        told = λ j. expired_down s F u before l ms g h begins own part at mark w k (sym (ap (λ o. elim o [ None ↦ false | Some x ↦ is_some (expired_op x.what) ]) (last_push (entries before) (entry w))) ∙ j);
        sents = sents_step mark w k told t;
      }

-- Behind a turn.
tells_through : (s : Settings) (F : Family) (u : ℕ) → begins_with_bind s u ≡ false → (ms : List Marked) (before : List Marked) (l : ConnectionLedger) → UpStands s u before l → BindStands l.state → Chain s before l ms → list_all (λ m. marks_a_bind m.mark) ms ≡ true → are_told_rightly s F ms ≡ true → Tells s F u (entries before) l.state (entries ms) → Tells s F u (entries (before ++ ms)) (behind (step_connection_ledger s) l ms).state []
tells_through s F u begins [] before l g h k b told t = subst (λ x. Tells s F u (entries x) l.state []) (sym (append-nil before)) t
tells_through s F u begins (m ∷ ms) before l g h k b told t =
    let own : l.state.own_bind ≡ None = no_own s u (entries before) l.state begins g.own in
    let here : begins_with_bind s l.state.number ≡ false = ap (begins_with_bind s) g.number ∙ begins in
    let next : Tells s F u (entries before ++ m.entry ∷ []) (step_connection s l.state m) (entries ms) = tells_step s F u before l ms g h here own m.entry.part m.entry.at m.mark m.entry.what k.0 (left (marks_rightly s F m.mark) _ told) t in
    subst (λ x. Tells s F u (entries x) (behind (step_connection_ledger s) (step_connection_ledger s l m) ms).state []) (append_assoc before (m ∷ []) ms) (tells_through s F u begins ms (before ++ m ∷ []) (step_connection_ledger s l m) (up_stands_more s u before l m ms g k.0) (stands_step s u before l ms g h m.entry.part m.entry.at m.mark m.entry.what k.0 (left (marks_a_bind m.mark) _ b)) k.1 (right (marks_a_bind m.mark) _ b) (right (marks_rightly s F m.mark) _ told) (subst (λ place. Tells s F u place (step_connection s l.state m) (entries ms)) (sym (push_entry before m)) next))

-- What is kept behind each turn.
pub record BindTells (s : Settings) (F : Family) (u : ℕ) (before : List Marked) (l : ConnectionLedger) : Type 0 where
  pub keeps : BindKeeps s u before l
  pub tells : are_told_rightly s F before ≡ true → Tells s F u (entries before) l.state []

pub tells_turn : (s : Settings) (F : Family) (u : ℕ) → begins_with_bind s u ≡ false → (before : List Marked) (l : ConnectionLedger) (at : ℕ) (mark : Option Taken) (ws : List What) → BindTells s F u before l → marks_a_bind mark ≡ true → Makes s before l at mark ws → BindTells s F u (before ++ turn_of l.state.number at mark ws) (behind (step_connection_ledger s) l (turn_of l.state.number at mark ws))
tells_turn s F u begins before l at mark ws h n k =
    let turn : List Marked = turn_of l.state.number at mark ws in
    record {
      keeps = after_turn s u before l at mark ws h.keeps n k;
      tells = λ told. tells_through s F u begins turn before l h.keeps.keeps.stands h.keeps.stands k.0 (turn_marks marks_a_bind l.state.number at mark ws refl n) (right (are_told_rightly s F before) _ (parts told)) (tells_any s F u (entries before) l.state (entries turn) (h.tells (left (are_told_rightly s F before) _ (parts told))));
    }
  where
    parts : are_told_rightly s F (before ++ turn_of l.state.number at mark ws) ≡ true → (are_told_rightly s F before && are_told_rightly s F (turn_of l.state.number at mark ws)) ≡ true
    parts told = sym (list_all-append (λ m. where_there (λ t. is_told_rightly s F t.letter) m.mark) before (turn_of l.state.number at mark ws)) ∙ told

pub nothing_told : (s : Settings) (F : Family) (u : ℕ) → is_of_kind s BindKind u ≡ true → BindTells s F u [] (empty_connection_ledger s u)
nothing_told s F u place = record { keeps = nothing_kept s u place; tells = λ told. record { ids = refl; told = λ j. j; sents = λ d f. record { done = []; live = []; split = refl; closed = refl; are = tt } } }

-- the state behind the list
says_so : (s : Settings) (F : Family) (u : ℕ) (before : List Marked) (l : ConnectionLedger) → BindTells s F u before l → are_told_rightly s F before ≡ true → ConnectionSays s F u before
says_so s F u before l h told =
    record {
      ids = ap (λ p. p.ids) (steps_are s (empty_connection s u) before ∙ sym h.keeps.keeps.state) ∙ (h.tells told).ids;
      waiting = connection-waits s (empty_connection s u) before;
    }

pub bind_says : BindSays
bind_says s u place F xs = through (fits_connection s) (step_connection_ledger s) (step_connection s) (λ l. l.state) (λ l m. refl) (connection_event s) (BindTells s F u) (λ before. are_told_rightly s F before ≡ true → ConnectionSays s F u before) (λ before l h. says_so s F u before l h) (λ before l x h f. event_keeps_by s u place (BindTells s F u) (λ b i k. k.keeps) (tells_turn s F u (begins_alone s u place)) before l h x f) xs [] (empty_connection_ledger s u) (nothing_told s F u place)
