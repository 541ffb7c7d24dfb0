-- Of an operation that is over: the turn that ended it. No letter for it came too late up to there; and since then what its client
-- got is the same, and so is the cause of an answer of the proxy's own.
use Rattle.std.proofs.Common.{◌≡◌, ℕ, ◌+◌, ◌≤◌, Bool, true, false, ◌==◌, ◌&&◌, not, List, [], ◌∷◌, ◌++◌, append_assoc, length, arith, refl, ap, ◌∙◌, sym, subst}
use Rattle.std.specs.Prelude.{Option, Some, None, cond, filter, is_some, map}
use Rattle.std.proofs.lemmas.List.{append-nil, length-append, map-append}
use Rattle.lload_names.specs.declared.names.Entry.{Entry}
use Rattle.lload_names.specs.declared.names.OpName.{OpName}
use Rattle.lload_names.specs.declared.names.What.{What}
use Rattle.lload_names.specs.declared.names.What.TheVariants as what
use Rattle.lload_spec.specs.Caused.{is_late_caused}
use Rattle.lload_spec.specs.Entries.{late_op, out_message}
use Rattle.lload_spec.specs.Fifo.{is_out_before_end}
use Rattle.lload_spec.specs.Journal.{same_op}
use Rattle.lload_spec.specs.Lists.{each_split_from, passes, where_there}
use Rattle.lload_spec.specs.Operations.{Operation, is_live, operation_in, operations, outs}
use Rattle.lload_spec.specs.Owed.{is_late_of}
use Rattle.lload_spec.specs.Settings.{Settings}
use Rattle.lload_spec.specs.Strict.{is_late_own}
use Rattle.lload_spec.proofs.Growth.{left, right}
use Rattle.lload_laws.specs.ClientGrowth.{later_operation}
use Rattle.lload_laws.proofs.ClientGrowth.{ending_grows}
use Rattle.lload_laws.proofs.ListLaws.{found, found_passes, implied}
use Rattle.part_laws.specs.Turns.{Event, letter_with, list_from, made}
use Rattle.part_laws.proofs.Induction.{sees_behind}
use Rattle.part_laws.proofs.ListLaws.{eqb_sym, false_by, not_true, same_op_eq}
use Rattle.part_spec.specs.ClientState.{ClientState, step_client}
use Rattle.part_spec.specs.Fit.{ClientLedger, are_fit_from, fits_client, is_unfit, step_client_ledger, ledger_behind as behind}
use Rattle.part_spec.specs.Inputs.{marked_by}
use Rattle.part_spec.specs.Marked.{Marked, Taken, entries}
use Rattle.client_laws.specs.Turns.{client_event}
use Rattle.client_laws.proofs.ClientClauses.{Keeps, entries_marked, event_keeps}
use Rattle.client_laws.proofs.ClientOuts.{EndsOnce, has_last}
use Rattle.client_laws.proofs.Matches.{ends_not, is_untaken}
use Rattle.client_answer_laws.proofs.Causes.{Caused, caused_more}
use Rattle.client_answer_laws.proofs.Each.{Each, each_found}
use Rattle.client_answer_laws.proofs.Life.{FirstFits}
use Rattle.client_answer_laws.proofs.Only.{none_added, out_other}
use Rattle.client_answer_laws.proofs.Told.{OpSays}
use Rattle.client_answer_laws.proofs.ToldKept.{ToldKept, told_more}
use Rattle.joined_laws.proofs.Walks.{Begun}
use Rattle.carried_laws.proofs.BindWalk.{split_rest}
use Rattle.identity_laws.proofs.Finals.{Timely, is_timely, timely}
use Rattle.leave_laws.proofs.Manners.{found_later}
use Rattle.owed_laws.proofs.Counts.{in_time, in_time_more, late, late_both, late_marked}

module _ (s : Settings) (c k : ℕ) where
  abbrev n : OpName
  n = record { client = c; k = k }

  -- What is over stays so, and its client gets nothing more for it.
  stays_over : (e : Entry) (o : Operation) → is_live o ≡ false → is_live (later_operation e o) ≡ false
  stays_over e o d = ending_grows o.request o.behind e ∙ ap (λ b. b && ends_not e o) d

  same_outs : (e : Entry) (o : Operation) → is_out_before_end o.request o.behind e ≡ true → is_live o ≡ false → outs (later_operation e o) ≡ outs o
  same_outs e o h d = by e.what refl
    where
      out : (id : ℕ) (rest : List ℕ) → is_out_before_end o.request o.behind (record { part = e.part; at = e.at; what = what.Out id rest }) ≡ true → outs (later_operation (record { part = e.part; at = e.at; what = what.Out id rest }) o) ≡ outs o
      out id rest i = out_other e.part e.at id rest o (false_by (has_last id o) (λ j. sym d ∙ implied ((id == o.request.id) && is_untaken o) (is_live o) i (ap (λ x. x && is_untaken o) (eqb_sym id o.request.id) ∙ j)))

      by : (w : What) → e.what ≡ w → outs (later_operation e o) ≡ outs o
      by (what.Out id rest) z = subst (λ w. outs (later_operation (record { part = e.part; at = e.at; what = w }) o) ≡ outs o) (sym z) (out id rest (subst (λ w. is_out_before_end o.request o.behind (record { part = e.part; at = e.at; what = w }) ≡ true) z h))
      by _ z = none_added e o (ap out_message z)

  -- what is known behind a list of an operation that is over: the list up to the turn that ended it, and what is so since then
  pub record Ended (before : List Marked) (o : Operation) : Type 0 where
    pub at : List Marked
    pub was : Operation
    pub named : was.name ≡ n
    pub says : OpSays s at was
    pub none : late s c k at ≡ 0
    pub same : outs o ≡ outs was
    pub more : in_time s c k at ≤ in_time s c k before
    pub within : length o.before ≤ length before
    pub stays : (rest : List ℕ) → Caused s at was rest → Caused s before o rest

  ended_push : (before : List Marked) (m : Marked) (o : Operation) → is_out_before_end o.request o.behind m.entry ≡ true → is_live o ≡ false → Ended before o → Ended (before ++ m ∷ []) (later_operation m.entry o)
  ended_push before m o once d h =
      let same : outs (later_operation m.entry o) ≡ outs o = same_outs m.entry o once d in
      let longer : length (before ++ m ∷ []) ≡ length before + 1 = length-append before (m ∷ []) in
      let within : length o.before ≤ length before = h.within in
      let few : in_time s c k h.at ≤ in_time s c k before = h.more in
      let more : in_time s c k before ≤ in_time s c k (before ++ m ∷ []) = in_time_more s c k before (m ∷ []) in
      record {
        at = h.at;
        was = h.was;
        named = h.named;
        says = h.says;
        none = h.none;
        same = same ∙ h.same;
        more = omega (arith, few, more);
        within = omega (arith, longer, within);
        stays = λ rest x. caused_more s before m o h.within rest same (h.stays rest x);
      }

  -- behind a turn more
  record Over (before : List Marked) : Type 0 where
    operation : Operation
    found : operation_in c (entries before) n ≡ Some operation
    over : is_live operation ≡ false
    ended : Ended before operation

  over_turn : (before turn : List Marked) → Timely c (entries before) (entries turn) → Over before → Over (before ++ turn)
  over_turn before [] t h = subst Over (sym (append-nil before)) h
  over_turn before (m ∷ turn) t h =
      subst Over (append_assoc before (m ∷ []) turn)
      (over_turn (before ++ m ∷ []) turn (subst (λ l. Timely c l (entries turn)) (sym grown) t.1)
      (record {
        operation = later_operation m.entry h.operation;
        found = ap (λ l. operation_in c l n) grown ∙ found_later c k (entries before) m.entry h.operation h.found;
        over = stays_over m.entry h.operation h.over;
        ended = ended_push before m h.operation (left (is_out_before_end h.operation.request h.operation.behind m.entry) _ (found (is_timely m.entry) (λ x. same_op n x.name) (operations c (entries before)) h.operation h.found t.0)) h.over h.ended;
      }))
    where
      grown : entries (before ++ m ∷ []) ≡ entries before ++ m.entry ∷ []
      grown = map-append (λ (x : Marked). x.entry) before (m ∷ [])

  -- whether the operation is over, and whether an entry's late letter is of an operation of the client's own that is over
  abbrev is_over : List Entry → Bool
  is_over place = passes (λ o. not (is_live o)) (operation_in c place n)

  abbrev pub is_late_so : List Entry → Entry → Bool
  is_late_so place e = is_late_own c place e && is_late_caused c place e

  -- A late letter is of what is over.
  late_over : (place : List Entry) (e : Entry) → is_late_so place e ≡ true → is_late_of n e ≡ true → is_over place ≡ true
  late_over place e h j = by e.what refl j
    where
      over_by : (q : Option Operation) → is_some q ≡ true → not (passes is_live q) ≡ true → passes (λ o. not (is_live o)) q ≡ true
      over_by None x y = absurd (let bad : false ≡ true = x in cc)
      over_by (Some o) x y = y

      by : (w : What) → e.what ≡ w → passes (same_op n) (late_op w) ≡ true → is_over place ≡ true
      by (what.Late op) z i =
          let name : op ≡ n = sym (same_op_eq n op i) in
          let own : is_some (operation_in c place op) ≡ true = ap (λ w. where_there (λ x. is_some (operation_in c place x)) (late_op w)) (sym z) ∙ left (is_late_own c place e) _ h in
          let caused : not (passes is_live (operation_in c place op)) ≡ true = ap (λ w. where_there (λ x. not (passes is_live (operation_in c place x))) (late_op w)) (sym z) ∙ right (is_late_own c place e) _ h in
          subst (λ x. passes (λ o. not (is_live o)) (operation_in c place x) ≡ true) name (over_by (operation_in c place op) own caused)
      by _ z i = absurd (let bad : false ≡ true = i in cc)

  -- so none stands in a turn that begins before the operation is over
  abbrev unmarked : List Entry → List Marked
  unmarked es = map (λ x. record { entry = x; mark = None }) es

  unmarked_none : (place : List Entry) (p : ClientState) (es : List Entry) → Begun s c place p (unmarked es) → late s c k (unmarked es) ≡ 0
  unmarked_none place p [] h = refl
  unmarked_none place p (e ∷ es) h = ap (λ b. length (cond b (e ∷ filter (is_late_of n) (entries (unmarked es))) (filter (is_late_of n) (entries (unmarked es))))) other ∙ unmarked_none (place ++ e ∷ []) (step_client s p (record { entry = e; mark = None })) es h.1
    where
      other : is_late_of n e ≡ false
      other = false_by (is_late_of n e) (λ j. absurd (let bad : 0 ≡ 1 = late_marked s c n p e None (λ i. (h.0 i).marked) j in cc))

  turn_none : (place : List Entry) (p : ClientState) (mark : Option Taken) (es more : List Entry) → Begun s c place p (marked_by mark es) → each_split_from (λ b e r. is_late_so b e) place (es ++ more) ≡ true → is_over place ≡ false → late s c k (marked_by mark es) ≡ 0
  turn_none place p mark [] more h so d = refl
  turn_none place p mark (e ∷ es) more h so d =
      ap (λ b. length (cond b (e ∷ filter (is_late_of n) (entries (unmarked es))) (filter (is_late_of n) (entries (unmarked es))))) (false_by (is_late_of n e) (λ j. sym d ∙ late_over place e (left (is_late_so place e) _ so) j))
      ∙ unmarked_none (place ++ e ∷ []) (step_client s p (record { entry = e; mark = mark })) es h.1

  begun_both : (place : List Entry) (p : ClientState) (xs ys : List Marked) → Begun s c place p (xs ++ ys) → Begun s c place p xs × Begun s c (place ++ entries xs) (behind (step_client s) p xs) ys
  begun_both place p [] ys h = (tt, subst (λ l. Begun s c l p ys) (sym (append-nil place)) h)
  begun_both place p (x ∷ xs) ys h =
      let next : Begun s c (place ++ x.entry ∷ []) (step_client s p x) xs × Begun s c ((place ++ x.entry ∷ []) ++ entries xs) (behind (step_client s) (step_client s p x) xs) ys = begun_both (place ++ x.entry ∷ []) (step_client s p x) xs ys h.1 in
      ((h.0, next.0), subst (λ l. Begun s c l (behind (step_client s) (step_client s p x) xs) ys) (append_assoc place (x.entry ∷ []) (entries xs)) next.1)

  -- What is kept behind each turn.
  pub record Kept (before : List Marked) : Type 0 where
    pub early : is_over (entries before) ≡ false → late s c k before ≡ 0
    pub ended : (o : Operation) → operation_in c (entries before) n ≡ Some o → is_live o ≡ false → Ended before o

  module _ (before turn : List Marked) (timely_turn : Timely c (entries before) (entries turn)) (says : Each (OpSays s (before ++ turn)) (operations c (entries (before ++ turn)))) (quiet : is_over (entries before) ≡ false → late s c k turn ≡ 0) (h : Kept before) where
    none : is_over (entries before) ≡ false → late s c k (before ++ turn) ≡ 0
    none d =
        let sum : late s c k (before ++ turn) ≡ late s c k before + late s c k turn = late_both s c k before turn in
        let a : late s c k before ≡ 0 = h.early d in
        let b : late s c k turn ≡ 0 = quiet d in
        omega (arith, sum, a, b)

    -- this turn ended it
    now : is_over (entries before) ≡ false → (o : Operation) → operation_in c (entries (before ++ turn)) n ≡ Some o → Ended (before ++ turn) o
    now d o z =
        let one : OpSays s (before ++ turn) o = each_found (OpSays s (before ++ turn)) (λ x. same_op n x.name) (operations c (entries (before ++ turn))) o z says in
        record {
          at = before ++ turn;
          was = o;
          named = sym (same_op_eq n o.name (found_passes (λ x. same_op n x.name) (operations c (entries (before ++ turn))) o z));
          says = one;
          none = none d;
          same = refl;
          more = omega arith;
          within = one.within;
          stays = λ rest x. x;
        }

    over_so : (q : Operation) → operation_in c (entries before) n ≡ Some q → is_live q ≡ false → Over (before ++ turn)
    over_so q y d = over_turn before turn timely_turn (record { operation = q; found = y; over = d; ended = h.ended q y d })

    kept_more : Kept (before ++ turn)
    kept_more = by (operation_in c (entries before) n) refl
      where
        fresh : is_over (entries before) ≡ false → Kept (before ++ turn)
        fresh d = record { early = λ i. none d; ended = λ o z i. now d o z }

        old : Over (before ++ turn) → Kept (before ++ turn)
        old x =
            record {
              early = λ i. absurd (let bad : true ≡ false = sym (ap (passes (λ o. not (is_live o))) x.found ∙ ap not x.over) ∙ i in cc);
              ended = λ o z i. (let same : Some x.operation ≡ Some o = sym x.found ∙ z in let one : x.operation ≡ o = cc in subst (Ended (before ++ turn)) one x.ended);
            }

        by : (q : Option Operation) → operation_in c (entries before) n ≡ q → Kept (before ++ turn)
        by None y = fresh (ap (passes (λ o. not (is_live o))) y)
        by (Some q) y = on (is_live q) refl
          where
            on : (b : Bool) → is_live q ≡ b → Kept (before ++ turn)
            on true e = fresh (ap (passes (λ o. not (is_live o))) y ∙ ap not e)
            on false e = old (over_so q y e)

  -- Through all turns.
  rest_fit : (l : ClientLedger) (xs ys : List Marked) → are_fit_from (fits_client s) (step_client_ledger s) l (xs ++ ys) ≡ true → are_fit_from (fits_client s) (step_client_ledger s) (behind (step_client_ledger s) l xs) ys ≡ true
  rest_fit l [] ys f = f
  rest_fit l (x ∷ xs) ys f = rest_fit (step_client_ledger s l x) xs ys (right (not (is_unfit (fits_client s) l x.mark)) _ f)

  first_fits : (l : ClientLedger) (xs ys : List Marked) → are_fit_from (fits_client s) (step_client_ledger s) l (xs ++ ys) ≡ true → FirstFits s l xs
  first_fits l [] ys f = tt
  first_fits l (x ∷ xs) ys f = not_true (is_unfit (fits_client s) l x.mark) (left (not (is_unfit (fits_client s) l x.mark)) _ f)

  abbrev list_of : ClientState → List Event → List Marked
  list_of p xs = list_from (step_client s) (client_event s) p xs

  abbrev AreSo : List Entry → List Entry → Type 0
  AreSo place es = each_split_from (λ b e r. is_late_so b e) place es ≡ true

  pub kept_from : (xs : List Event) (before : List Marked) (l : ClientLedger) → Keeps s c before l.state → ToldKept s c before l → Begun s c (entries before) l.state (list_of l.state xs) → AreSo (entries before) (entries (list_of l.state xs)) → are_fit_from (fits_client s) (step_client_ledger s) l (list_of l.state xs) ≡ true → Kept before → Kept (before ++ list_of l.state xs)
  kept_from [] before l keeps told g so fit h = subst Kept (sym (append-nil before)) h
  kept_from (x ∷ xs) before l keeps told g so fit h =
      let turn : List Marked = made (client_event s) l.state x in
      let next : ClientLedger = behind (step_client_ledger s) l turn in
      let rest : List Marked = list_of (behind (step_client s) l.state turn) xs in
      let seen : next.state ≡ behind (step_client s) l.state turn = sees_behind (fits_client s) (step_client_ledger s) (step_client s) (λ q. q.state) (λ q m. refl) l turn in
      let same : list_of next.state xs ≡ rest = ap (λ q. list_of q xs) seen in
      let grown : entries (before ++ turn) ≡ entries before ++ entries turn = map-append (λ (m : Marked). m.entry) before turn in
      let parts = begun_both (entries before) l.state turn rest g in
      let split : AreSo (entries before) (entries turn ++ entries rest) = subst (AreSo (entries before)) (map-append (λ (m : Marked). m.entry) turn rest) so in
      let told_next : ToldKept s c (before ++ turn) next = told_more s c before l x keeps told (first_fits l turn rest fit) in
      let quiet : is_over (entries before) ≡ false → late s c k turn ≡ 0 = turn_none (entries before) l.state (letter_with x) (client_event s l.state x).entries (entries rest) parts.0 (subst (λ es. AreSo (entries before) (es ++ entries rest)) (entries_marked (letter_with x) (client_event s l.state x).entries) split) in
      let kept : Kept (before ++ turn) = kept_more before turn (timely c (entries before) (entries turn) (subst (EndsOnce c) grown told_next.once)) told_next.ops quiet h in
      let begun_next : Begun s c (entries (before ++ turn)) next.state (list_of next.state xs) = subst (λ q. Begun s c (entries (before ++ turn)) q (list_of q xs)) (sym seen) (subst (λ b. Begun s c b (behind (step_client s) l.state turn) rest) (sym grown) parts.1) in
      let so_next : AreSo (entries (before ++ turn)) (entries (list_of next.state xs)) = subst (λ q. AreSo (entries (before ++ turn)) (entries (list_of q xs))) (sym seen) (subst (λ b. AreSo b (entries rest)) (sym grown) (split_rest (λ b e r. is_late_so b e) (entries before) (entries turn) (entries rest) split)) in
      let fit_next : are_fit_from (fits_client s) (step_client_ledger s) next (list_of next.state xs) ≡ true = ap (are_fit_from (fits_client s) (step_client_ledger s) next) same ∙ rest_fit l turn rest fit in
      subst Kept (append_assoc before turn (list_of next.state xs) ∙ ap (λ r. before ++ (turn ++ r)) same) (kept_from xs (before ++ turn) next (subst (Keeps s c (before ++ turn)) (sym seen) (event_keeps s c before l.state x keeps)) told_next begun_next so_next fit_next kept)
