-- What a connection took of a client's pauses, by the connection's states: it pauses for the client where the last letter said
-- so, and did so and went on as often as the letters changed.
use Rattle.std.proofs.Common.{◌≡◌, ℕ, ◌+◌, Bool, true, false, ◌==◌, ◌&&◌, ◌||◌, not, List, [], ◌∷◌, ◌++◌, length, refl, ap, ◌∙◌, sym, subst, arith}
use Rattle.std.specs.Prelude.{Option, Some, None, cond, filter}
use Rattle.std.specs.List.{list_any}
use Rattle.lload_names.specs.declared.names.ConnKind.TheVariants.{Regular}
use Rattle.lload_names.specs.declared.names.Entry.{Entry}
use Rattle.lload_names.specs.declared.names.Letter.{Letter}
use Rattle.lload_names.specs.declared.names.Letter.TheVariants.{Pause, Resume}
use Rattle.lload_names.specs.declared.names.PartName.{PartName}
use Rattle.lload_names.specs.declared.names.PartName.TheVariants.{Client}
use Rattle.lload_names.specs.declared.names.What.{What}
use Rattle.lload_names.specs.declared.names.What.TheVariants as what
use Rattle.lload_spec.specs.Entries.{paused_client, resumed_client}
use Rattle.lload_spec.specs.Journal.{same_part}
use Rattle.lload_spec.specs.Lists.{passes}
use Rattle.lload_spec.specs.Owed.{count_of, count_paused, count_resumed}
use Rattle.lload_spec.specs.Pauses.{waiting_behind}
use Rattle.lload_spec.specs.Settings.{Settings, is_kind}
use Rattle.lload_spec.specs.Strict.{may_pass}
use Rattle.lload_spec.proofs.Growth.{left, right}
use Rattle.lload_laws.proofs.ListLaws.{any-filter}
use Rattle.part_laws.proofs.ListLaws.{eqb_sym, not_true, same_number}
use Rattle.part_spec.specs.ConnectionState.{ConnectionState, is_bind, step_connection, step_connections}
use Rattle.part_spec.specs.Fit.{ConnectionLedger, are_fit_from, fits_connection, is_unfit, step_connection_ledger}
use Rattle.part_spec.specs.Marked.{Marked, Taken, entries, letter_from, taken_from}
use Rattle.part_spec.specs.Marks.{each_from, has_connection_mark, marks_connection, must_mark_connection}
use Rattle.part_spec.specs.Share.{each_place}
use Rattle.connection_laws.proofs.ConnectionSays.{waiting_step}
use Rattle.connection_laws.proofs.Pausings.{client_is}
use Rattle.joined_laws.proofs.Taken.{is_fit_there}
use Rattle.client_moves_laws.proofs.Lists.{among_put}
use Rattle.pause_laws.proofs.Signals.{after, begun_both, begun_in, ended_both, ended_in, is_quiet, quiet_after, told, told_both}

-- a number taken out is there no longer, and each other one is
taken_out : (c d : ℕ) (cs : List ℕ) → list_any (λ n. n == c) (filter (λ n. not (n == d)) cs) ≡ (not (d == c) && list_any (λ n. n == c) cs)
taken_out c d cs = any-filter (λ n. n == c) (λ n. not (n == d)) cs ∙ each cs
  where
    none : (a : Bool) → (not a && false) ≡ false
    none true = refl
    none false = refl

    either : (a b e : Bool) → ((not a && b) || (not a && e)) ≡ (not a && (b || e))
    either true b e = refl
    either false b e = refl

    one : (n : ℕ) → (not (n == d) && (n == c)) ≡ (not (d == c) && (n == c))
    one n = by (n == c) refl
      where
        off : (a : Bool) → (a && false) ≡ false
        off true = refl
        off false = refl

        by : (b : Bool) → (n == c) ≡ b → (not (n == d) && b) ≡ (not (d == c) && b)
        by true e = ap (λ x. not x && true) (ap (λ k. k == d) (same_number n c e) ∙ eqb_sym c d)
        by false e = off (not (n == d)) ∙ sym (off (not (d == c)))

    each : (ns : List ℕ) → list_any (λ n. not (n == d) && (n == c)) ns ≡ (not (d == c) && list_any (λ n. n == c) ns)
    each [] = sym (none (d == c))
    each (n ∷ ns) = ap (λ b. b || list_any (λ k. not (k == d) && (k == c)) ns) (one n) ∙ ap (λ b. (not (d == c) && (n == c)) || b) (each ns) ∙ either (d == c) (n == c) (list_any (λ k. k == c) ns)

-- an entry that is the mark of a pause, and of the end of one
pause_marks : (p : ConnectionState) (w : What) (d : ℕ) → marks_connection p w (Pause d) ≡ true → w ≡ what.Paused d
pause_marks p (what.Paused e) d h = ap what.Paused (same_number e d h)
pause_marks p _ d h = absurd (let bad : false ≡ true = h in cc)

resume_marks : (p : ConnectionState) (w : What) (d : ℕ) → marks_connection p w (Resume d) ≡ true → w ≡ what.Resumed d
resume_marks p (what.Resumed e) d h = ap what.Resumed (same_number e d h)
resume_marks p _ d h = absurd (let bad : false ≡ true = h in cc)

-- one that says nothing of pauses
record Quiet (cs : List ℕ) (w : What) : Type 0 where
  waits : waiting_behind cs w ≡ cs
  paused : paused_client w ≡ None
  resumed : resumed_client w ≡ None

unmarked_quiet : (p : ConnectionState) (cs : List ℕ) (w : What) → not (must_mark_connection p w) ≡ true → Quiet cs w
unmarked_quiet p cs (what.Paused c) h = absurd (let bad : false ≡ true = h in cc)
unmarked_quiet p cs (what.Resumed c) h = absurd (let bad : false ≡ true = h in cc)
unmarked_quiet p cs _ h = record { waits = refl; paused = refl; resumed = refl }

marked_quiet : (p : ConnectionState) (cs : List ℕ) (w : What) (x : Letter) → is_quiet x ≡ true → marks_connection p w x ≡ true → Quiet cs w
marked_quiet p cs (what.Paused c) (Pause d) e h = absurd (let bad : false ≡ true = e in cc)
marked_quiet p cs (what.Paused c) _ e h = absurd (let bad : false ≡ true = h in cc)
marked_quiet p cs (what.Resumed c) (Resume d) e h = absurd (let bad : false ≡ true = e in cc)
marked_quiet p cs (what.Resumed c) _ e h = absurd (let bad : false ≡ true = h in cc)
marked_quiet p cs _ x e h = record { waits = refl; paused = refl; resumed = refl }

module _ (c : ℕ) where
  abbrev among : List ℕ → Bool
  among cs = list_any (λ n. n == c) cs

  -- whether an entry pauses for the client, and goes on
  abbrev pauses_for : What → Bool
  pauses_for w = passes (λ d. d == c) (paused_client w)

  abbrev resumes_for : What → Bool
  resumes_for w = passes (λ d. d == c) (resumed_client w)

  -- what an entry makes of the pauses, and the client's letter that it marks
  record Takes (cs : List ℕ) (w : What) (xs : List Letter) : Type 0 where
    last : told (list_any (λ n. n == c) cs) xs ≡ list_any (λ n. n == c) (waiting_behind cs w)
    begun : begun_in (list_any (λ n. n == c) cs) xs ≡ count_of (passes (λ d. d == c) (paused_client w))
    ended : ended_in (list_any (λ n. n == c) cs) xs ≡ count_of (passes (λ d. d == c) (resumed_client w))

  none_taken : (cs : List ℕ) (w : What) → Quiet cs w → Takes cs w []
  none_taken cs w q =
      record {
        last = ap among (sym q.waits);
        begun = ap (λ o. count_of (passes (λ d. d == c) o)) (sym q.paused);
        ended = ap (λ o. count_of (passes (λ d. d == c) o)) (sym q.resumed);
      }

  one_taken : (cs : List ℕ) (w : What) (x : Letter) → is_quiet x ≡ true → Quiet cs w → Takes cs w (x ∷ [])
  one_taken cs w x e q = by (quiet_after x (among cs) e)
    where
      same : (b : Bool) → (count_of (not b && b) + 0 ≡ 0) × (count_of (b && not b) + 0 ≡ 0)
      same true = (refl, refl)
      same false = (refl, refl)

      by : after x (list_any (λ n. n == c) cs) ≡ list_any (λ n. n == c) cs → Takes cs w (x ∷ [])
      by k =
          record {
            last = k ∙ ap among (sym q.waits);
            begun = ap (λ b. count_of (not (among cs) && b) + 0) k ∙ (same (among cs)).0 ∙ ap (λ o. count_of (passes (λ d. d == c) o)) (sym q.paused);
            ended = ap (λ b. count_of (among cs && not b) + 0) k ∙ (same (among cs)).1 ∙ ap (λ o. count_of (passes (λ d. d == c) o)) (sym q.resumed);
          }

  taken_by : (b : Bool) (cs : List ℕ) (w : What) (x : Letter) → is_quiet x ≡ true → Quiet cs w → Takes cs w (elim b [ true ↦ x ∷ [] | false ↦ [] ])
  taken_by true cs w x e q = one_taken cs w x e q
  taken_by false cs w x e q = none_taken cs w q

  -- a pause, where it doesn't pause for that client yet
  pause_taken : (d : ℕ) (cs : List ℕ) → not (list_any (λ n. n == d) cs) ≡ true → Takes cs (what.Paused d) (letter_from (Client c) (Some (record { sender = Client d; letter = Pause d })))
  pause_taken d cs h = by (c == d) (d == c) (eqb_sym c d) refl
    where
      there : list_any (λ n. n == c) (waiting_behind cs (what.Paused d)) ≡ ((d == c) || list_any (λ n. n == c) cs)
      there = among_put d c cs

      fresh : (d == c) ≡ true → list_any (λ n. n == c) cs ≡ false
      fresh e = ap (λ n. list_any (λ k. k == n) cs) (sym (same_number d c e)) ∙ not_true (list_any (λ n. n == d) cs) h

      counts : (b : Bool) → b ≡ false → (count_of (not b && true) + 0 ≡ 1) × (count_of (b && false) + 0 ≡ 0)
      counts false e = (refl, refl)
      counts true e = absurd (let bad : true ≡ false = e in cc)

      by : (x y : Bool) → x ≡ y → (d == c) ≡ y → Takes cs (what.Paused d) (elim x [ true ↦ Pause d ∷ [] | false ↦ [] ])
      by true true e i =
          record {
            last = sym (there ∙ ap (λ b. b || among cs) i);
            begun = (counts (among cs) (fresh i)).0 ∙ ap count_of (sym i);
            ended = (counts (among cs) (fresh i)).1;
          }
      by false false e i = record { last = sym (there ∙ ap (λ b. b || among cs) i); begun = ap count_of (sym i); ended = refl }
      by true false e i = absurd (let bad : true ≡ false = e in cc)
      by false true e i = absurd (let bad : false ≡ true = e in cc)

  -- and its end, where it does
  resume_taken : (d : ℕ) (cs : List ℕ) → list_any (λ n. n == d) cs ≡ true → Takes cs (what.Resumed d) (letter_from (Client c) (Some (record { sender = Client d; letter = Resume d })))
  resume_taken d cs h = by (c == d) (d == c) (eqb_sym c d) refl
    where
      there : list_any (λ n. n == c) (waiting_behind cs (what.Resumed d)) ≡ (not (d == c) && list_any (λ n. n == c) cs)
      there = taken_out c d cs

      held : (d == c) ≡ true → list_any (λ n. n == c) cs ≡ true
      held e = ap (λ n. list_any (λ k. k == n) cs) (sym (same_number d c e)) ∙ h

      counts : (b : Bool) → b ≡ true → (count_of (not b && false) + 0 ≡ 0) × (count_of (b && true) + 0 ≡ 1)
      counts true e = (refl, refl)
      counts false e = absurd (let bad : false ≡ true = e in cc)

      by : (x y : Bool) → x ≡ y → (d == c) ≡ y → Takes cs (what.Resumed d) (elim x [ true ↦ Resume d ∷ [] | false ↦ [] ])
      by true true e i =
          record {
            last = sym (there ∙ ap (λ b. not b && among cs) i);
            begun = (counts (among cs) (held i)).0;
            ended = (counts (among cs) (held i)).1 ∙ ap count_of (sym i);
          }
      by false false e i = record { last = sym (there ∙ ap (λ b. not b && among cs) i); begun = refl; ended = ap count_of (sym i) }
      by true false e i = absurd (let bad : true ≡ false = e in cc)
      by false true e i = absurd (let bad : false ≡ true = e in cc)

  -- an entry with its mark
  takes : (s : Settings) (l : ConnectionLedger) (w : What) (mark : Option Taken) (rest : Bool) → (elim mark [ None ↦ not (must_mark_connection l.state w) | Some t ↦ marks_connection l.state w t.letter ]) ≡ true → (not (is_unfit (fits_connection s) l mark) && rest) ≡ true → may_pass (is_kind Regular l.state.kind) l.state.waiting w ≡ true → Takes l.state.waiting w (letter_from (Client c) mark)
  takes s l w None rest k f g = none_taken l.state.waiting w (unmarked_quiet l.state l.state.waiting w k)
  takes s l w (Some t) rest k f g = by t.sender t.letter k (is_fit_there (fits_connection s) l t rest f)
    where
      cs : List ℕ
      cs = l.state.waiting

      from : (sender : PartName) (d : ℕ) (x : Letter) → same_part sender (Client d) ≡ true → (w ≡ what.Paused d) → Takes l.state.waiting (what.Paused d) (letter_from (Client c) (Some (record { sender = Client d; letter = x }))) → Takes l.state.waiting w (letter_from (Client c) (Some (record { sender = sender; letter = x })))
      from sender d x e i h = subst (λ v. Takes cs v (letter_from (Client c) (Some (record { sender = sender; letter = x })))) (sym i) (subst (λ q. Takes cs (what.Paused d) (letter_from (Client c) (Some (record { sender = q; letter = x })))) (sym (client_is sender d e)) h)

      back : (sender : PartName) (d : ℕ) (x : Letter) → same_part sender (Client d) ≡ true → (w ≡ what.Resumed d) → Takes l.state.waiting (what.Resumed d) (letter_from (Client c) (Some (record { sender = Client d; letter = x }))) → Takes l.state.waiting w (letter_from (Client c) (Some (record { sender = sender; letter = x })))
      back sender d x e i h = subst (λ v. Takes cs v (letter_from (Client c) (Some (record { sender = sender; letter = x })))) (sym i) (subst (λ q. Takes cs (what.Resumed d) (letter_from (Client c) (Some (record { sender = q; letter = x })))) (sym (client_is sender d e)) h)

      other : (sender : PartName) (x : Letter) → is_quiet x ≡ true → marks_connection l.state w x ≡ true → Takes l.state.waiting w (letter_from (Client c) (Some (record { sender = sender; letter = x })))
      other sender x e i = taken_by (same_part (Client c) sender) cs w x e (marked_quiet l.state cs w x e i)

      passed : (v : What) → w ≡ v → may_pass (is_kind Regular l.state.kind) l.state.waiting v ≡ true
      passed v e = subst (λ z. may_pass (is_kind Regular l.state.kind) cs z ≡ true) e g

      by : (sender : PartName) (x : Letter) → marks_connection l.state w x ≡ true → fits_connection s l sender x ≡ true → Takes l.state.waiting w (letter_from (Client c) (Some (record { sender = sender; letter = x })))
      by sender (Pause d) i j =
          from sender d (Pause d) (right (not (is_bind l.state)) _ (left (not (is_bind l.state) && same_part sender (Client d)) _ j)) (pause_marks l.state w d i)
          (pause_taken d cs (right (is_kind Regular l.state.kind) _ (passed (what.Paused d) (pause_marks l.state w d i))))
      by sender (Resume d) i j =
          back sender d (Resume d) (right (not (is_bind l.state)) _ (left (not (is_bind l.state) && same_part sender (Client d)) _ j)) (resume_marks l.state w d i)
          (resume_taken d cs (right (is_kind Regular l.state.kind) _ (passed (what.Resumed d) (resume_marks l.state w d i))))
      by sender _ i j = other sender _ refl i

  -- The walk.
  pub record Took (p : ConnectionState) (q : ConnectionState) (xs : List Letter) (es : List Entry) : Type 0 where
    pub last : told (list_any (λ n. n == c) p.waiting) xs ≡ list_any (λ n. n == c) q.waiting
    pub begun : begun_in (list_any (λ n. n == c) p.waiting) xs ≡ count_paused c es
    pub ended : ended_in (list_any (λ n. n == c) p.waiting) xs ≡ count_resumed c es

  count_more : (t : Entry → Bool) (e : Entry) (es : List Entry) → length (filter t (e ∷ es)) ≡ count_of (t e) + length (filter t es)
  count_more t e es = by (t e)
    where
      by : (b : Bool) → length (cond b (e ∷ filter t es) (filter t es)) ≡ count_of b + length (filter t es)
      by true = omega arith
      by false = omega arith

  took_more : (s : Settings) (p q : ConnectionState) (m : Marked) (es : List Entry) (xs : List Letter) → Takes p.waiting m.entry.what (letter_from (Client c) m.mark) → Took (step_connection s p m) q xs es → Took p q (letter_from (Client c) m.mark ++ xs) (m.entry ∷ es)
  took_more s p q m es xs h k =
      let now : told (list_any (λ n. n == c) p.waiting) (letter_from (Client c) m.mark) ≡ list_any (λ n. n == c) (step_connection s p m).waiting = h.last ∙ ap among (sym (waiting_step s m.entry m.mark p m.entry.what)) in
      record {
        last = told_both (among p.waiting) (letter_from (Client c) m.mark) xs ∙ ap (λ b. told b xs) now ∙ k.last;
        begun = begun_both (among p.waiting) (letter_from (Client c) m.mark) xs ∙ ap (λ b. begun_in (among p.waiting) (letter_from (Client c) m.mark) + begun_in b xs) now ∙ ap (λ n. n + begun_in (among (step_connection s p m).waiting) xs) h.begun ∙ ap (λ n. count_of (pauses_for m.entry.what) + n) k.begun ∙ sym (count_more (λ e. passes (λ d. d == c) (paused_client e.what)) m.entry es);
        ended = ended_both (among p.waiting) (letter_from (Client c) m.mark) xs ∙ ap (λ b. ended_in (among p.waiting) (letter_from (Client c) m.mark) + ended_in b xs) now ∙ ap (λ n. n + ended_in (among (step_connection s p m).waiting) xs) h.ended ∙ ap (λ n. count_of (resumes_for m.entry.what) + n) k.ended ∙ sym (count_more (λ e. passes (λ d. d == c) (resumed_client e.what)) m.entry es);
      }

  pub took : (s : Settings) (l : ConnectionLedger) (b : List Marked) (ms : List Marked) → each_from (step_connection s) has_connection_mark l.state ms ≡ true → are_fit_from (fits_connection s) (step_connection_ledger s) l ms ≡ true
      → each_place (step_connection s) (λ p before m behind. may_pass (is_kind Regular p.kind) p.waiting m.entry.what) l.state b ms ≡ true
      → Took l.state (step_connections s l.state ms) (taken_from (Client c) ms) (entries ms)
  took s l b [] k f g = record { last = refl; begun = refl; ended = refl }
  took s l b (m ∷ ms) k f g =
      took_more s l.state (step_connections s (step_connection s l.state m) ms) m (entries ms) (taken_from (Client c) ms)
      (takes s l m.entry.what m.mark (are_fit_from (fits_connection s) (step_connection_ledger s) (step_connection_ledger s l m) ms) (left (has_connection_mark l.state m) _ k) f (left (may_pass (is_kind Regular l.state.kind) l.state.waiting m.entry.what) _ g))
      (took s (step_connection_ledger s l m) (b ++ m ∷ []) ms (right (has_connection_mark l.state m) _ k) (right (not (is_unfit (fits_connection s) l m.mark)) _ f) (right (may_pass (is_kind Regular l.state.kind) l.state.waiting m.entry.what) _ g))
