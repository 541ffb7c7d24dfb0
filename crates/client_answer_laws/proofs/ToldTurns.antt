-- What each operation got, behind each turn of a client.
use Rattle.std.proofs.Common.{◌≡◌, ℕ, suc, inl, Bool, true, false, ◌==◌, ◌&&◌, ◌||◌, not, List, [], ◌∷◌, ◌++◌, length, refl, ap, arith, ◌∙◌, sym, subst, append_assoc}
use Rattle.std.specs.Prelude.{Option, Some, None, find, filter, cond, nat_le, option_map}
use Rattle.std.specs.List.{list_any, list_all}
use Rattle.std.proofs.lemmas.List.{append-nil, map-append}
use Rattle.std.proofs.lemmas.Bool.Decides.{nat_tests}
use Rattle.ldap_spec.specs.Messages.{Message}
use Rattle.ldap_spec.specs.Kinds.{kind_of, same_kind}
use Rattle.ldap_spec.specs.Requests.{is_cancel}
use Rattle.ldap_spec.specs.Bodies.{refusal, cancel_answer}
use Rattle.lload_names.specs.declared.names.Entry.{Entry}
use Rattle.lload_names.specs.declared.names.OpName.{OpName}
use Rattle.lload_names.specs.declared.names.OpKind.{OpKind}
use Rattle.lload_names.specs.declared.names.OpKind.TheVariants.{Bind}
use Rattle.lload_names.specs.declared.names.Answer.{Answer}
use Rattle.lload_names.specs.declared.names.Answer.TheVariants.{Go, Busy, Unavailable}
use Rattle.lload_names.specs.declared.names.Refusal.{Refusal}
use Rattle.lload_names.specs.declared.names.Refusal.TheVariants.{C1, C3, C4, C5, C9}
use Rattle.lload_names.specs.declared.names.CancelAnswer.{CancelAnswer}
use Rattle.lload_names.specs.declared.names.CancelAnswer.TheVariants.{S1, C13, C14, C15, C16}
use Rattle.lload_names.specs.declared.names.EndWhy.TheVariants.{Left}
use Rattle.lload_names.specs.declared.names.PartName.{PartName}
use Rattle.lload_names.specs.declared.names.PartName.TheVariants.{Client, Up as Connection}
use Rattle.lload_names.specs.declared.names.Letter.TheVariants.{Choice, Reply, Failed}
use Rattle.lload_names.specs.declared.names.What.{What}
use Rattle.lload_names.specs.declared.names.What.TheVariants as what
use Rattle.lload_spec.specs.Lists.{passes}
use Rattle.lload_spec.specs.Settings.{Settings}
use Rattle.lload_spec.specs.Journal.{family, same_op, same_part, same_answer}
use Rattle.lload_spec.specs.Entries.{makes_operation}
use Rattle.lload_spec.specs.Operations.{Operation, operations, is_request_of, is_final_for}
use Rattle.lload_spec.specs.Answers.{wants_identity}
use Rattle.lload_spec.specs.Caused.{is_refused_by_choice}
use Rattle.lload_spec.specs.FirstCheck.{Check, Ends, Unbinds, Abandons, Refuses, Answers, Cancels, GoesOn, live_request, may_be_canceled}
use Rattle.part_spec.specs.Marked.{Marked, Taken, entries}
use Rattle.part_spec.specs.Inputs.{entries_of}
use Rattle.part_spec.specs.ClientState.{ClientState, ClientRow, empty_client, facts_of, check_at, row_named, row_under, step_client, new_row}
use Rattle.part_spec.specs.ClientTurn.{refused, canceled, noticed, whats_by, whats_for}
use Rattle.part_spec.specs.Fit.{ClientLedger, Expected, fits_client, is_unfit, is_loss, expected_from, ledger_behind as behind}
use Rattle.part_spec.specs.Share.{has_cause}
use Rattle.lload_spec.proofs.Growth.{left, right, both}
use Rattle.lload_laws.specs.ClientGrowth.{later_operation, is_named_within}
use Rattle.lload_laws.proofs.ListLaws.{found_passes, find-map}
use Rattle.client_laws.proofs.ClientCancels.{Named, cancel_named, ext_tag}
use Rattle.part_laws.proofs.ListLaws.{not_both, not_true, eqb_same, eqb_sym, same_number, same_op_eq, same_op_sym, or_left, or_right}
use Rattle.client_laws.proofs.Matches.{ClientLives, out_rows}
use Rattle.client_laws.proofs.ClientOuts.{EndsOnce}
use Rattle.client_laws.proofs.ClientEnds.{is_zero, zero_through, once_through, kind_makes, checked_id, out_left, ext_makes, ext_no_bind}
use Rattle.client_laws.proofs.ClientGives.{in_state}
use Rattle.client_laws.proofs.ClientTurns.{client_turn_of, tail_none, lives_through, free_by, is_end}
use Rattle.client_laws.proofs.ClientLives.{is_free_id}
use Rattle.client_share_laws.proofs.ClientCases.{Cases, taken}
use Rattle.client_answer_laws.proofs.Each.{Each, each_imply, each_always, each_found}
use Rattle.client_answer_laws.proofs.Waits.{Carries, each_grows, named_each, fresh_number}
use Rattle.client_answer_laws.proofs.Expects.{ExpectKnown}
use Rattle.client_answer_laws.proofs.Life.{FirstFits, not_false}
use Rattle.client_answer_laws.proofs.Only.{TheOne}
use Rattle.client_answer_laws.proofs.Owns.{IsOwn, refusal_own, canceled_own, cancel_own, cancel_among, is_of_cancel, of_cancel, cancel_no_bind}
use Rattle.client_answer_laws.proofs.Tells.{Ops, Tells, is_reply_within, replies_within}
use Rattle.client_answer_laws.proofs.Causes.{Caused}
use Rattle.client_answer_laws.proofs.OwnCauses.{IsNew, row_lives, refused_new, answered_new, succeeds_new, canceled_cause, chosen_cause, failed_cause}
use Rattle.client_answer_laws.proofs.Effects.{NoReply, ops_silent, ops_own, ops_answer, ops_late}

-- a mark of no answer
pub record Silent (mark : Option Taken) : Type 0 where
  pub silent : NoReply mark
  pub within : (c n : ℕ) → is_reply_within c n mark ≡ true

pub unmarked : Silent None
unmarked = record { silent = λ op. refl; within = λ c n. refl }

abbrev Within : ℕ → List Marked → Type 0
Within c ms = list_all (λ m. is_reply_within c (length (operations c (entries ms))) m.mark) ms ≡ true

-- a turn that tells no operation anything
ops_zero : (s : Settings) (c u at : ℕ) (ws : List What) (mark : Option Taken) (ms : List Marked) → Silent mark → EndsOnce c (entries ms) → list_all is_zero ws ≡ true → Within c ms → Ops s c ms → Ops s c (ms ++ client_turn_of u at mark ws)
ops_zero s c u at [] mark ms quiet once z within h = subst (Ops s c) (sym (append-nil ms)) h
ops_zero s c u at (w ∷ ws) mark ms quiet once z within h =
    let m : Marked = record { entry = record { part = Client u; at = at; what = w }; mark = mark } in
    let next : EndsOnce c (entries (ms ++ m ∷ [])) = subst (EndsOnce c) (sym (map-append (λ x. x.entry) ms (m ∷ []))) (zero_through c u at (w ∷ []) mark (entries ms) once (both (is_zero w) true (left (is_zero w) _ z) refl)) in
    let rest : Ops s c ((ms ++ m ∷ []) ++ client_turn_of u at None ws) = ops_zero s c u at ws None (ms ++ m ∷ []) unmarked next (right (is_zero w) _ z) (replies_within c ms m within (quiet.within c (length (operations c (entries ms))))) (ops_silent s c u at mark quiet.silent w ms once (left (is_zero w) _ z) h within) in
    subst (λ xs. Ops s c (ms ++ m ∷ xs)) (sym (tail_none (entries_of (Client u) at ws))) (subst (Ops s c) (append_assoc ms (m ∷ []) (client_turn_of u at None ws)) rest)

-- what is found among some is found first among more, and still where it isn't left out
found_first : (t : ClientRow → Bool) (xs ys : List ClientRow) (r : ClientRow) → find t xs ≡ Some r → find t (xs ++ ys) ≡ Some r
found_first t [] ys r e = absurd (let bad : None ≡ Some r = e in cc)
found_first t (x ∷ xs) ys r e = by (t x) e (found_first t xs ys r)
  where
    by : (b : Bool) → cond b (Some x) (find t xs) ≡ Some r → (find t xs ≡ Some r → find t (xs ++ ys) ≡ Some r) → cond b (Some x) (find t (xs ++ ys)) ≡ Some r
    by true k ih = k
    by false k ih = ih k

found_kept : (t q : ClientRow → Bool) (xs : List ClientRow) (r : ClientRow) → find t xs ≡ Some r → q r ≡ true → find t (filter q xs) ≡ Some r
found_kept t q [] r e k = absurd (let bad : None ≡ Some r = e in cc)
found_kept t q (x ∷ xs) r e k = by (t x) (q x) refl refl e (λ f. found_kept t q xs r f k)
  where
    by : (a b : Bool) → t x ≡ a → q x ≡ b → cond a (Some x) (find t xs) ≡ Some r → (find t xs ≡ Some r → find t (filter q xs) ≡ Some r) → find t (cond b (x ∷ filter q xs) (filter q xs)) ≡ Some r
    by true true f g j ih = ap (λ b. cond b (Some x) (find t (filter q xs))) f ∙ j
    by true false f g j ih = not_both (q r) k (let same : x ≡ r = cc in ap q (sym same) ∙ g)
    by false true f g j ih = ap (λ b. cond b (Some x) (find t (filter q xs))) f ∙ ih j
    by false false f g j ih = ih j

-- its identifier is one of a row
id_there : (t : ClientRow → Bool) (xs : List ClientRow) (r : ClientRow) → find t xs ≡ Some r → list_any (λ x. x.request.id == r.request.id) xs ≡ true
id_there t [] r e = absurd (let bad : None ≡ Some r = e in cc)
id_there t (x ∷ xs) r e = by (t x) e (id_there t xs r)
  where
    by : (b : Bool) → cond b (Some x) (find t xs) ≡ Some r → (find t xs ≡ Some r → list_any (λ y. y.request.id == r.request.id) xs ≡ true) → (x.request.id == r.request.id || list_any (λ y. y.request.id == r.request.id) xs) ≡ true
    by true k ih = let same : x ≡ r = cc in or_left (x.request.id == r.request.id) _ (ap (λ (y : ClientRow). y.request.id == r.request.id) same ∙ eqb_same r.request.id)
    by false k ih = or_right (x.request.id == r.request.id) _ (ih k)

module _ (s : Settings) (c : ℕ) (ms : List Marked) (l : ClientLedger) (state : l.state ≡ behind (step_client s) (empty_client c) ms) (lives : ClientLives c (entries ms) l.state) (once : EndsOnce c (entries ms)) (own : list_all (λ e. same_part (Client c) e.part) (entries ms) ≡ true) (h : Tells s c ms l) (ops : Ops s c ms) where
  abbrev p : ClientState
  p = l.state

  abbrev Turn : List Marked → Type 0
  Turn xs = FirstFits s l xs → Ops s c (ms ++ xs)

  zero : (at : ℕ) (mark : Option Taken) (ws : List What) → Silent mark → list_all is_zero ws ≡ true → Turn (client_turn_of l.state.number at mark ws)
  zero at mark ws quiet z u = ops_zero s c l.state.number at ws mark ms quiet once z h.replies ops

  -- the entry of a first, silent one, and what is known behind it
  module _ (at : ℕ) (mark : Option Taken) (quiet : Silent mark) (w : What) (z : is_zero w ≡ true) (free : is_free_id l.state w ≡ true) where
    abbrev first : Marked
    first = record { entry = record { part = Client l.state.number; at = at; what = w }; mark = mark }

    next : ClientState
    next = step_client s l.state (record { entry = record { part = Client l.state.number; at = at; what = w }; mark = mark })

    pub once_behind : EndsOnce c (entries (ms ++ record { entry = record { part = Client l.state.number; at = at; what = w }; mark = mark } ∷ []))
    once_behind = subst (EndsOnce c) (sym (map-append (λ x. x.entry) ms (record { entry = record { part = Client l.state.number; at = at; what = w }; mark = mark } ∷ []))) (zero_through c l.state.number at (w ∷ []) mark (entries ms) once (both (is_zero w) true z refl))

    pub lives_behind : ClientLives c (entries (ms ++ record { entry = record { part = Client l.state.number; at = at; what = w }; mark = mark } ∷ [])) (step_client s l.state (record { entry = record { part = Client l.state.number; at = at; what = w }; mark = mark }))
    lives_behind = subst (λ b. ClientLives c b (step_client s l.state (record { entry = record { part = Client l.state.number; at = at; what = w }; mark = mark }))) (sym (map-append (λ x. x.entry) ms (record { entry = record { part = Client l.state.number; at = at; what = w }; mark = mark } ∷ []))) (lives_through s c l.state.number at (w ∷ []) mark (entries ms) l.state lives (free, tt))

    pub ops_behind : Ops s c (ms ++ record { entry = record { part = Client l.state.number; at = at; what = w }; mark = mark } ∷ [])
    ops_behind = ops_silent s c l.state.number at mark quiet.silent w ms once z ops h.replies

    -- and then an answer of the proxy's own
    pub then_own : (K : Operation → Type 0) → Each K (operations c (entries (ms ++ record { entry = record { part = Client l.state.number; at = at; what = w }; mark = mark } ∷ []))) → (t : ClientRow → Bool) (r : ClientRow) → find t (step_client s l.state (record { entry = record { part = Client l.state.number; at = at; what = w }; mark = mark })).rows ≡ Some r → (rest : List ℕ) → ((o : Operation) → TheOne c r o → K o → IsOwn s o.request rest × Caused s (ms ++ record { entry = record { part = Client l.state.number; at = at; what = w }; mark = mark } ∷ record { entry = record { part = Client l.state.number; at = at; what = what.Out r.request.id rest }; mark = None } ∷ []) (later_operation (record { part = Client l.state.number; at = at; what = what.Out r.request.id rest }) o) rest) → Ops s c (ms ++ client_turn_of l.state.number at mark (w ∷ what.Out r.request.id rest ∷ []))
    then_own K known t r there rest owns = subst (Ops s c) (append_assoc ms (record { entry = record { part = Client l.state.number; at = at; what = w }; mark = mark } ∷ []) (client_turn_of l.state.number at None (what.Out r.request.id rest ∷ []))) (ops_own s c l.state.number at None (ms ++ record { entry = record { part = Client l.state.number; at = at; what = w }; mark = mark } ∷ []) (step_client s l.state (record { entry = record { part = Client l.state.number; at = at; what = w }; mark = mark })) lives_behind once_behind t r there rest K known (λ op. refl) (λ o one k. ((owns o one k).0, subst (λ b. Caused s b (later_operation (record { part = Client l.state.number; at = at; what = what.Out r.request.id rest }) o) rest) (sym (append_assoc ms (record { entry = record { part = Client l.state.number; at = at; what = w }; mark = mark } ∷ []) (record { entry = record { part = Client l.state.number; at = at; what = what.Out r.request.id rest }; mark = None } ∷ []))) (owns o one k).1)) ops_behind)

  -- a refusal of a live operation, by its row
  row_owns : (r : ClientRow) (kind : OpKind) (which : Refusal) → kind_of r.request.rest ≡ Some kind → (o : Operation) → TheOne c r o → IsOwn s o.request (refusal kind which)
  row_owns r kind which k o one = refusal_own s o.request kind which (sym one.match.kind ∙ k)

  nothing : (ns : List Operation) → Each (λ o. Unit {0}) ns
  nothing ns = each_always (λ o. Unit {0}) ns (λ o. tt)

  -- the name of a row that is named
  row_name : (op : OpName) (r : ClientRow) → row_named l.state op ≡ Some r → record { client = c; k = r.k } ≡ op
  row_name op r e =
      let named : (l.state.number == op.client && r.k == op.k) ≡ true = found_passes (λ x. l.state.number == op.client && x.k == op.k) l.state.rows r e in
      λ i. record { client = (sym h.known.says.number ∙ same_number l.state.number op.client (left (l.state.number == op.client) _ named)) i; k = same_number r.k op.k (right (l.state.number == op.client) _ named) i }

  chosen_refused : (at : ℕ) (sender : PartName) (op : OpName) (a : Answer) (r : ClientRow) (which : Refusal) → same_answer a a ≡ true → ((list : List Marked) (o : Operation) → has_cause s list o which ≡ is_refused_by_choice (family (entries list)) a which o) → row_named l.state op ≡ Some r → (step_client s l.state (record { entry = record { part = Client l.state.number; at = at; what = what.Chosen op a }; mark = taken sender (Choice op a) })).rows ≡ l.state.rows → Turn (client_turn_of l.state.number at (taken sender (Choice op a)) (what.Chosen op a ∷ refused r.request which))
  chosen_refused at sender op a r which same cause e rows u = by (kind_of r.request.rest) refl
    where
      causes : (kind : OpKind) → kind_of r.request.rest ≡ Some kind → (o : Operation) → TheOne c r o → (n : OpName) → record { client = c; k = r.k } ≡ n → is_refused_by_choice (family (entries (ms ++ record { entry = record { part = Client l.state.number; at = at; what = what.Chosen n a }; mark = taken sender (Choice n a) } ∷ record { entry = record { part = Client l.state.number; at = at; what = what.Out r.request.id (refusal kind which) }; mark = None } ∷ []))) a which (later_operation (record { part = Client l.state.number; at = at; what = what.Out r.request.id (refusal kind which) }) o) ≡ true
      causes kind k o one n name = subst (λ (x : OpName). is_refused_by_choice (family (entries (ms ++ record { entry = record { part = Client l.state.number; at = at; what = what.Chosen x a }; mark = taken sender (Choice x a) } ∷ record { entry = record { part = Client l.state.number; at = at; what = what.Out r.request.id (refusal kind which) }; mark = None } ∷ []))) a which (later_operation (record { part = Client l.state.number; at = at; what = what.Out r.request.id (refusal kind which) }) o) ≡ true) name (chosen_cause s c ms l.state state l.state.number at r o one (row_lives s c (entries ms) l.state lives once h.known.rows (λ x. l.state.number == op.client && x.k == op.k) r e) kind k own h.known.says.number a which (taken sender (Choice (record { client = c; k = r.k }) a)) None same)

      quiet : Silent (taken sender (Choice op a))
      quiet = record { silent = λ n. refl; within = λ d n. refl }

      by : (o : Option OpKind) → kind_of r.request.rest ≡ o → Ops s c (ms ++ client_turn_of l.state.number at (taken sender (Choice op a)) (what.Chosen op a ∷ (elim o [ None ↦ [] | Some kind ↦ what.Out r.request.id (refusal kind which) ∷ [] ])))
      by None k = zero at (taken sender (Choice op a)) (what.Chosen op a ∷ []) quiet refl u
      by (Some kind) k = then_own at (taken sender (Choice op a)) quiet (what.Chosen op a) refl refl (λ o. Unit {0}) (nothing _) (λ x. l.state.number == op.client && x.k == op.k) r (ap (find (λ x. l.state.number == op.client && x.k == op.k)) rows ∙ e) (refusal kind which) (λ o one u. (row_owns r kind which k o one, inl (record { kind = kind; which = which; is_it = refl; cause = cause (ms ++ record { entry = record { part = Client l.state.number; at = at; what = what.Chosen op a }; mark = taken sender (Choice op a) } ∷ record { entry = record { part = Client l.state.number; at = at; what = what.Out r.request.id (refusal kind which) }; mark = None } ∷ []) (later_operation (record { part = Client l.state.number; at = at; what = what.Out r.request.id (refusal kind which) }) o) ∙ causes kind k o one op (row_name op r e) })))

  chosen_turn : (at : ℕ) (sender : PartName) (op : OpName) (a : Answer) → Turn (client_turn_of l.state.number at (taken sender (Choice op a)) (what.Chosen op a ∷ whats_for (row_named l.state op) a))
  chosen_turn at sender op a = by (row_named l.state op) a refl
    where
      quiet : (x : Answer) → Silent (taken sender (Choice op x))
      quiet x = record { silent = λ n. refl; within = λ d n. refl }

      by : (o : Option ClientRow) (x : Answer) → row_named l.state op ≡ o → Turn (client_turn_of l.state.number at (taken sender (Choice op x)) (what.Chosen op x ∷ whats_for o x))
      by None (Go n b) e = zero at (taken sender (Choice op (Go n b))) (what.Chosen op (Go n b) ∷ []) (quiet (Go n b)) refl
      by None Busy e = zero at (taken sender (Choice op Busy)) (what.Chosen op Busy ∷ []) (quiet Busy) refl
      by None Unavailable e = zero at (taken sender (Choice op Unavailable)) (what.Chosen op Unavailable ∷ []) (quiet Unavailable) refl
      by (Some r) (Go n b) e = zero at (taken sender (Choice op (Go n b))) (what.Chosen op (Go n b) ∷ []) (quiet (Go n b)) refl
      by (Some r) Busy e = chosen_refused at sender op Busy r C1 refl (λ list o. refl) e refl
      by (Some r) Unavailable e = chosen_refused at sender op Unavailable r C3 refl (λ list o. refl) e refl

  failed_turn : (at : ℕ) (sender : PartName) (op : OpName) (which : Refusal) (r : ClientRow) → row_named l.state op ≡ Some r → Turn (client_turn_of l.state.number at (taken sender (Failed op which)) (refused r.request which))
  failed_turn at sender op which r e u = by (kind_of r.request.rest) refl u
    where
      -- it is one that may be told for the operation's request
      loss_of : (x : Refusal) (a b : Message) → wants_identity s a ≡ wants_identity s b → is_loss s a x ≡ true → is_loss s b x ≡ true
      loss_of C4 a b same k = refl
      loss_of C5 a b same k = refl
      loss_of C9 a b same k = sym same ∙ k
      loss_of _ a b same k = absurd (let bad : false ≡ true = k in cc)

      losses : (x : Option Expected) → expected_from l sender op ≡ x → passes (λ y. is_loss s y.request which) x ≡ true → Each (λ o. same_op op o.name ≡ true → is_loss s o.request which ≡ true) (operations c (entries ms))
      losses None f k = absurd (let bad : false ≡ true = k in cc)
      losses (Some x) f k =
          let named : op ≡ x.op = same_op_eq op x.op (left (same_op op x.op) _ (found_passes (λ y. same_op op y.op && same_part sender (Connection y.connection)) l.expected x f)) in
          each_imply (λ o. same_op x.op o.name ≡ true → Carries s x.request o) (λ o. same_op op o.name ≡ true → is_loss s o.request which ≡ true) (operations c (entries ms)) (λ o g j. loss_of which x.request o.request (g (ap (λ n. same_op n o.name) (sym named) ∙ j)).wants k) (each_found (ExpectKnown s c (entries ms)) (λ y. same_op op y.op && same_part sender (Connection y.connection)) l.expected x f h.expected).same

      known : is_unfit (fits_client s) l (taken sender (Failed op which)) ≡ false → Each (λ o. same_op op o.name ≡ true → is_loss s o.request which ≡ true) (operations c (entries ms))
      known f = losses (expected_from l sender op) refl (not_false (fits_client s l sender (Failed op which)) f)

      named_by : (o : Operation) → TheOne c r o → same_op op o.name ≡ true
      named_by o one = ap (λ n. same_op n o.name) (sym (row_name op r e)) ∙ one.named

      by : (o : Option OpKind) → kind_of r.request.rest ≡ o → Turn (client_turn_of l.state.number at (taken sender (Failed op which)) (elim o [ None ↦ [] | Some kind ↦ what.Out r.request.id (refusal kind which) ∷ [] ]))
      by None k f = subst (Ops s c) (sym (append-nil ms)) ops
      by (Some kind) k f = ops_own s c l.state.number at (taken sender (Failed op which)) ms l.state lives once (λ x. l.state.number == op.client && x.k == op.k) r e (refusal kind which) (λ o. same_op op o.name ≡ true → is_loss s o.request which ≡ true) (known f) (λ n. refl) (λ o one g. (row_owns r kind which k o one, inl (record { kind = kind; which = which; is_it = refl; cause = failed_cause s ms (record { part = Client l.state.number; at = at; what = what.Out r.request.id (refusal kind which) }) sender op which o (same_op_sym o.name op ∙ named_by o one) (g (named_by o one)) }))) ops

  -- A message, and what its check puts behind it.
  module _ (at : ℕ) (m : Message) where
    abbrev came : Marked
    came = record { entry = record { part = Client l.state.number; at = at; what = what.In m.id m.rest }; mark = None }

    abbrev state_in : ClientState
    state_in = step_client s l.state (record { entry = record { part = Client l.state.number; at = at; what = what.In m.id m.rest }; mark = None })

    -- the row of a request that makes an operation
    new_there : makes_operation m ≡ true → find (λ x. x.k == suc l.state.count) state_in.rows ≡ Some (new_row s l.state m)
    new_there makes = ap (λ b. find (λ x. x.k == suc l.state.count) (in_state s at l.state m b (is_request_of Bind m)).rows) makes ∙ by (is_request_of Bind m)
      where
        alone : find (λ x. x.k == suc l.state.count) (new_row s l.state m ∷ []) ≡ Some (new_row s l.state m)
        alone = ap (λ b. cond b (Some (new_row s l.state m)) None) (eqb_same (suc l.state.count))

        behind_all : (rows : List ClientRow) → list_all (λ r. nat_le r.k l.state.count) rows ≡ true → find (λ x. x.k == suc l.state.count) (rows ++ new_row s l.state m ∷ []) ≡ Some (new_row s l.state m)
        behind_all [] k = alone
        behind_all (r ∷ rows) k = ap (λ b. cond b (Some r) (find (λ x. x.k == suc l.state.count) (rows ++ new_row s l.state m ∷ []))) (by_number (r.k == suc l.state.count) refl (left (nat_le r.k l.state.count) _ k)) ∙ behind_all rows (right (nat_le r.k l.state.count) _ k)
          where
            by_number : (b : Bool) → (r.k == suc l.state.count) ≡ b → nat_le r.k l.state.count ≡ true → b ≡ false
            by_number true e low = absurd (grind (arith, nat_tests, e, low))
            by_number false e low = refl

        by : (d : Bool) → find (λ x. x.k == suc l.state.count) (in_state s at l.state m true d).rows ≡ Some (new_row s l.state m)
        by true = alone
        by false = behind_all l.state.rows lives.within

    -- its operation is new
    abbrev NewOf : List Entry → Operation → Type 0
    NewOf since o = same_op (record { client = c; k = suc l.state.count }) o.name ≡ true → IsNew c m (entries ms) since o

    requests : makes_operation m ≡ true → Each (NewOf []) (operations c (entries (ms ++ came ∷ [])))
    requests makes = subst (λ b. Each (NewOf []) (operations c b)) (sym (map-append (λ x. x.entry) ms (came ∷ []))) (each_grows (NewOf []) c (entries ms) came.entry (each_imply (λ o. is_named_within c (length (operations c (entries ms))) o ≡ true) (λ o. NewOf [] (later_operation came.entry o)) (operations c (entries ms)) (λ o k j. not_both (suc (length (operations c (entries ms))) == o.name.k) (ap (λ n. suc n == o.name.k) (sym lives.count) ∙ right (c == o.name.client) _ j) (fresh_number c (entries ms) o k)) (named_each c (entries ms))) (λ x e j. let same : Some m ≡ Some x = sym (ap put makes) ∙ e in (let equal : m ≡ x = cc in record { client = refl; request = equal; before = refl; since = refl })))
      where
        put : Bool → Option Message
        put b = elim b [ true ↦ Some (record { id = m.id; rest = m.rest }) | false ↦ None ]

    abbrev answer_out : List ℕ → Marked
    answer_out rest = record { entry = record { part = Client l.state.number; at = at; what = what.Out m.id rest }; mark = None }

    -- it is answered by the proxy itself
    own_turn : (kind : OpKind) → kind_of m.rest ≡ Some kind → is_end (check_at s l.state m) ≡ false → (rest : List ℕ) → IsOwn s m rest → ((o : Operation) → IsNew c m (entries ms) [] o → Caused s (ms ++ came ∷ answer_out rest ∷ []) (later_operation (answer_out rest).entry o) rest) → Ops s c (ms ++ client_turn_of l.state.number at None (what.In m.id m.rest ∷ what.Out m.id rest ∷ []))
    own_turn kind k e rest own cause = then_own at None unmarked (what.In m.id m.rest) refl (free_by s l.state m e) (NewOf []) (requests makes) (λ x. x.k == suc l.state.count) (new_row s l.state m) (new_there makes) rest (λ o one f. (subst (λ (x : Message). IsOwn s x rest) (f one.named).request own, cause o (f one.named)))
      where
        makes : makes_operation m ≡ true
        makes = kind_makes m kind k (checked_id s l.state m e)

    refused_turn : (which : Refusal) → check_at s l.state m ≡ Refuses which → Turn (client_turn_of l.state.number at None (what.In m.id m.rest ∷ refused m which))
    refused_turn which e u = by (kind_of m.rest) refl
      where
        by : (o : Option OpKind) → kind_of m.rest ≡ o → Ops s c (ms ++ client_turn_of l.state.number at None (what.In m.id m.rest ∷ (elim o [ None ↦ [] | Some kind ↦ what.Out m.id (refusal kind which) ∷ [] ])))
        by None k = zero at None (what.In m.id m.rest ∷ []) unmarked refl u
        by (Some kind) k = own_turn kind k (ap is_end e) (refusal kind which) (refusal_own s m kind which k) (λ o new. refused_new s c ms l.state state l.state.number at m kind which (came ∷ answer_out (refusal kind which) ∷ []) o k e new)

    -- an answer to a Cancel
    cancel_is_own : (kind : OpKind) (which : CancelAnswer) → kind_of m.rest ≡ Some kind → is_cancel m.rest ≡ true → IsOwn s m (cancel_answer kind which)
    cancel_is_own kind which k e = by which
      where
        no_bind : same_kind Bind kind ≡ false
        no_bind = sym (ap (passes (same_kind Bind)) k) ∙ cancel_no_bind m e

        by : (w : CancelAnswer) → IsOwn s m (cancel_answer kind w)
        by S1 = cancel_own s m kind S1 k no_bind e (cancel_among kind).0
        by C13 = canceled_own s m kind k no_bind
        by C14 = cancel_own s m kind C14 k no_bind e (cancel_among kind).1.0
        by C15 = cancel_own s m kind C15 k no_bind e (cancel_among kind).1.1.0
        by C16 = cancel_own s m kind C16 k no_bind e (cancel_among kind).1.1.1

    answered_turn : (which : CancelAnswer) → check_at s l.state m ≡ Answers which → Turn (client_turn_of l.state.number at None (what.In m.id m.rest ∷ canceled m.id (kind_of m.rest) which))
    answered_turn which e u = by (kind_of m.rest) refl
      where
        by : (o : Option OpKind) → kind_of m.rest ≡ o → Ops s c (ms ++ client_turn_of l.state.number at None (what.In m.id m.rest ∷ canceled m.id o which))
        by None k = zero at None (what.In m.id m.rest ∷ []) unmarked refl u
        by (Some kind) k = own_turn kind k (ap is_end e) (cancel_answer kind which) (cancel_is_own kind which k (of_cancel s (facts_of l.state) m (ap is_of_cancel e))) (λ o new. answered_new s c ms l.state state l.state.number at m kind which (came ∷ answer_out (cancel_answer kind which) ∷ []) o k e new)

    -- a Cancel of a live operation: that is told, and then the Cancel is answered
    module _ (id : ℕ) (kind : OpKind) (e : check_at s l.state m ≡ Cancels id kind) where
      it : Named (facts_of l.state) m id kind × ((m.id == 0) ≡ false)
      it = cancel_named s (facts_of l.state) m id kind e

      is_it : ClientRow → Bool
      is_it r = may_be_canceled id (live_request r.request)

      record TheRow : Type 0 where
        row : ClientRow
        found : find (λ r. may_be_canceled id (live_request r.request)) l.state.rows ≡ Some row
        kind_is : kind_of row.request.rest ≡ Some kind

      the_row : TheRow
      the_row = by (find (λ r. may_be_canceled id (live_request r.request)) l.state.rows) refl (sym (find-map (may_be_canceled id) (λ r. live_request r.request) l.state.rows) ∙ it.0.one.found)
        where
          by : (o : Option ClientRow) → find (λ r. may_be_canceled id (live_request r.request)) l.state.rows ≡ o → option_map (λ r. live_request r.request) o ≡ Some it.0.one.request → TheRow
          by None f g = absurd (let bad : None ≡ Some it.0.one.request = g in cc)
          by (Some r) f g = record { row = r; found = f; kind_is = (let same : live_request r.request ≡ it.0.one.request = cc in ap (λ x. x.kind) same ∙ it.0.one.kind_is) }

      passes_it : may_be_canceled id (live_request the_row.row.request) ≡ true
      passes_it = found_passes (λ r. may_be_canceled id (live_request r.request)) l.state.rows the_row.row the_row.found

      its_id : the_row.row.request.id ≡ id
      its_id = same_number the_row.row.request.id id (left (the_row.row.request.id == id) _ passes_it)

      no_bind : same_kind Bind kind ≡ false
      no_bind = sym (ap (passes (same_kind Bind)) the_row.kind_is) ∙ not_true (passes (same_kind Bind) (kind_of the_row.row.request.rest)) (right (the_row.row.request.id == id) _ passes_it)

      makes : makes_operation m ≡ true
      makes = ext_makes m it.1 (ext_tag m.rest it.0.ext)

      rows_in : state_in.rows ≡ l.state.rows ++ new_row s l.state m ∷ []
      rows_in = ap (λ b. (in_state s at l.state m b (is_request_of Bind m)).rows) makes ∙ ap (λ d. (in_state s at l.state m true d).rows) (ext_no_bind m (ext_tag m.rest it.0.ext))

      there_in : find (λ r. may_be_canceled id (live_request r.request)) state_in.rows ≡ Some the_row.row
      there_in = ap (find (λ r. may_be_canceled id (live_request r.request))) rows_in ∙ found_first (λ r. may_be_canceled id (live_request r.request)) l.state.rows (new_row s l.state m ∷ []) the_row.row the_row.found

      free : is_free_id l.state (what.In m.id m.rest) ≡ true
      free = free_by s l.state m (ap is_end e)

      abbrev canceled_out : Marked
      canceled_out = record { entry = record { part = Client l.state.number; at = at; what = what.Out the_row.row.request.id (cancel_answer kind C13) }; mark = None }

      abbrev state_out : ClientState
      state_out = step_client s state_in canceled_out

      abbrev told : List Marked
      told = (ms ++ came ∷ []) ++ canceled_out ∷ []

      ops_told : Ops s c told
      ops_told = ops_own s c l.state.number at None (ms ++ came ∷ []) state_in (lives_behind at None unmarked (what.In m.id m.rest) refl free) (once_behind at None unmarked (what.In m.id m.rest) refl free) (λ r. may_be_canceled id (live_request r.request)) the_row.row there_in (cancel_answer kind C13) (λ o. Unit {0}) (nothing _) (λ op. refl) (λ o one u. (canceled_own s o.request kind (sym one.match.kind ∙ the_row.kind_is) no_bind, subst (λ b. Caused s b (later_operation canceled_out.entry o) (cancel_answer kind C13)) (sym (append_assoc ms (came ∷ []) (canceled_out ∷ []))) (canceled_cause s c ms l.state state l.state.number at the_row.row o one (row_lives s c (entries ms) l.state lives once h.known.rows (λ r. may_be_canceled id (live_request r.request)) the_row.row the_row.found) kind the_row.kind_is m None id None its_id e))) (ops_behind at None unmarked (what.In m.id m.rest) refl free)

      lives_told : ClientLives c (entries told) state_out
      lives_told = subst (λ b. ClientLives c b state_out) (sym (map-append (λ x. x.entry) (ms ++ came ∷ []) (canceled_out ∷ []))) (lives_through s c l.state.number at (what.Out the_row.row.request.id (cancel_answer kind C13) ∷ []) None (entries (ms ++ came ∷ [])) state_in (lives_behind at None unmarked (what.In m.id m.rest) refl free) (refl, tt))

      once_told : EndsOnce c (entries told)
      once_told = subst (EndsOnce c) (sym (map-append (λ x. x.entry) (ms ++ came ∷ []) (canceled_out ∷ []))) (once_through s c l.state.number at (what.Out the_row.row.request.id (cancel_answer kind C13) ∷ []) None (entries (ms ++ came ∷ [])) state_in (lives_behind at None unmarked (what.In m.id m.rest) refl free) (once_behind at None unmarked (what.In m.id m.rest) refl free) (refl, tt) (or_right (the_row.row.request.id == 0) _ (id_there (λ r. may_be_canceled id (live_request r.request)) state_in.rows the_row.row there_in), tt))

      rows_told : state_out.rows ≡ filter (λ x. not (x.request.id == the_row.row.request.id && is_final_for x.request (cancel_answer kind C13))) state_in.rows
      rows_told = out_left s at None state_in (cancel_answer kind C13) the_row.row.request.id (row_under state_in the_row.row.request.id) ∙ out_rows the_row.row.request.id (λ x. is_final_for x.request (cancel_answer kind C13)) state_in.rows (lives_behind at None unmarked (what.In m.id m.rest) refl free).apart

      other : (m.id == the_row.row.request.id) ≡ false
      other = ap (λ n. m.id == n) its_id ∙ eqb_sym m.id id ∙ it.0.other

      still_there : find (λ x. x.k == suc l.state.count) state_out.rows ≡ Some (new_row s l.state m)
      still_there = ap (find (λ x. x.k == suc l.state.count)) rows_told ∙ found_kept (λ x. x.k == suc l.state.count) (λ x. not (x.request.id == the_row.row.request.id && is_final_for x.request (cancel_answer kind C13))) state_in.rows (new_row s l.state m) (new_there makes) (ap (λ b. not (b && is_final_for (new_row s l.state m).request (cancel_answer kind C13))) other)

      requests_told : Each (NewOf (canceled_out.entry ∷ [])) (operations c (entries told))
      requests_told = subst (λ b. Each (NewOf (canceled_out.entry ∷ [])) (operations c b)) (sym (map-append (λ x. x.entry) (ms ++ came ∷ []) (canceled_out ∷ []))) (each_grows (NewOf (canceled_out.entry ∷ [])) c (entries (ms ++ came ∷ [])) canceled_out.entry (each_imply (NewOf []) (λ o. NewOf (canceled_out.entry ∷ []) (later_operation canceled_out.entry o)) (operations c (entries (ms ++ came ∷ []))) (λ o f j. let new : IsNew c m (entries ms) [] o = f j in record { client = new.client; request = new.request; before = new.before; since = ap (λ b. b ++ canceled_out.entry ∷ []) new.since }) (requests makes)) (λ x k j. absurd (let bad : None ≡ Some x = k in cc)))

      canceled_all_of : (o : Option OpKind) → kind_of m.rest ≡ o → Ops s c (ms ++ client_turn_of l.state.number at None (what.In m.id m.rest ∷ what.Out the_row.row.request.id (cancel_answer kind C13) ∷ canceled m.id o S1))
      canceled_all_of None k = subst (Ops s c) (append_assoc ms (came ∷ []) (canceled_out ∷ [])) ops_told
      canceled_all_of (Some sort) k = subst (Ops s c) (append_assoc (ms ++ came ∷ []) (canceled_out ∷ []) (last ∷ []) ∙ append_assoc ms (came ∷ []) (canceled_out ∷ last ∷ [])) (ops_own s c l.state.number at None told state_out lives_told once_told (λ x. x.k == suc l.state.count) (new_row s l.state m) still_there (cancel_answer sort S1) (NewOf (canceled_out.entry ∷ [])) requests_told (λ op. refl) (λ o one f. (subst (λ (x : Message). IsOwn s x (cancel_answer sort S1)) (f one.named).request (cancel_is_own sort S1 k (of_cancel s (facts_of l.state) m (ap is_of_cancel e))), subst (λ b. Caused s b (later_operation last.entry o) (cancel_answer sort S1)) (sym (append_assoc (ms ++ came ∷ []) (canceled_out ∷ []) (last ∷ []) ∙ append_assoc ms (came ∷ []) (canceled_out ∷ last ∷ []))) (succeeds_new s c ms l.state state l.state.number at the_row.row.request.id m sort kind (came ∷ canceled_out ∷ last ∷ []) o k (e ∙ ap (λ n. Cancels n kind) (sym its_id)) (eqb_sym the_row.row.request.id m.id ∙ other) (f one.named)))) ops_told)
        where
          last : Marked
          last = record { entry = record { part = Client l.state.number; at = at; what = what.Out m.id (cancel_answer sort S1) }; mark = None }

      pub cancels_turn : Turn (client_turn_of l.state.number at None (what.In m.id m.rest ∷ what.Out id (cancel_answer kind C13) ∷ canceled m.id (kind_of m.rest) S1))
      cancels_turn u = subst (λ n. Ops s c (ms ++ client_turn_of l.state.number at None (what.In m.id m.rest ∷ what.Out n (cancel_answer kind C13) ∷ canceled m.id (kind_of m.rest) S1))) its_id (canceled_all_of (kind_of m.rest) refl)

    checked_turn : (k : Check) → check_at s l.state m ≡ k → Turn (client_turn_of l.state.number at None (what.In m.id m.rest ∷ whats_by m k))
    checked_turn (Ends why) e = zero at None (what.In m.id m.rest ∷ noticed why) unmarked refl
    checked_turn Unbinds e = zero at None (what.In m.id m.rest ∷ what.Gone Left ∷ []) unmarked refl
    checked_turn (Abandons id) e = zero at None (what.In m.id m.rest ∷ []) unmarked refl
    checked_turn (Refuses which) e = refused_turn which e
    checked_turn (Answers which) e = answered_turn which e
    checked_turn (Cancels id kind) e = cancels_turn id kind e
    checked_turn GoesOn e = zero at None (what.In m.id m.rest ∷ []) unmarked refl

  pub told_cases : Cases s l.state Turn
  told_cases =
      record {
        none = λ u. subst (Ops s c) (sym (append-nil ms)) ops;
        arrives = λ at fresh. zero at None (what.Arrived ∷ []) unmarked refl;
        checked = λ at m e f. checked_turn at m (check_at s l.state m) refl;
        chosen = λ at sender op a here. chosen_turn at sender op a;
        answered = λ at sender op rest is_last who r e here u. ops_answer s c at ms l h.known.says.number lives once h.expected sender op rest is_last who r e (not_false (fits_client s l sender (Reply op rest is_last who)) u) ops;
        failed = λ at sender op which r e here. failed_turn at sender op which r e;
        late = λ at mark op e here about u. ops_late s c at ms l.state h.known.says.number lives once op e mark about ops;
        breaks = λ at why there e n. zero at None (noticed why) unmarked refl;
        severed = λ at why here e. zero at None (what.Gone why ∷ []) unmarked refl;
        stalls = λ at here. zero at None (what.Stalled ∷ []) unmarked refl;
        flows = λ at here. zero at None (what.Flowing ∷ []) unmarked refl;
      }
