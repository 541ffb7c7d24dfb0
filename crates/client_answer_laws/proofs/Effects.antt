-- What one entry is for each operation: nothing, an answer, an answer of the proxy's own, or one that comes too late.
use Rattle.std.proofs.Common.{◌≡◌, ℕ, suc, ◌+◌, ◌≤◌, inl, inr, Bool, true, false, ◌==◌, ◌&&◌, not, List, [], ◌∷◌, ◌++◌, length, refl, ap, arith, ◌∙◌, sym}
use Rattle.std.specs.Prelude.{Option, Some, None, is_none, find, cond, if◌then◌else◌}
use Rattle.std.proofs.lemmas.List.{length-append}
use Rattle.std.specs.List.{list_any, list_all}
use Rattle.ldap_spec.specs.Messages.{Message}
use Rattle.ldap_spec.specs.Kinds.{is_final}
use Rattle.ldap_spec.specs.Tags.{success}
use Rattle.ldap_spec.specs.Responses.{has_code, is_readable_who}
use Rattle.lload_names.specs.declared.names.Entry.{Entry}
use Rattle.lload_names.specs.declared.names.OpName.{OpName}
use Rattle.lload_names.specs.declared.names.PartName.{PartName}
use Rattle.lload_names.specs.declared.names.PartName.TheVariants.{Client, Up as Connection}
use Rattle.lload_names.specs.declared.names.Letter.TheVariants.{Reply}
use Rattle.lload_names.specs.declared.names.What.{What}
use Rattle.lload_names.specs.declared.names.What.TheVariants as what
use Rattle.lload_spec.specs.Lists.{passes, implies}
use Rattle.lload_spec.specs.Settings.{Settings}
use Rattle.lload_spec.specs.Journal.{same_op, same_part}
use Rattle.lload_spec.specs.Operations.{Operation, Manner, Answered as Answers, Cancelled, Abandoned, Rebound, operations, live_operations, is_live, is_final_to, is_final_for, outs, is_abandon_of, is_bind_in, is_cancellation}
use Rattle.lload_spec.specs.Answers.{wants_identity, asks_who}
use Rattle.part_spec.specs.Marked.{Marked, Taken, entries}
use Rattle.part_spec.specs.ClientState.{ClientState, ClientRow, row_named}
use Rattle.part_spec.specs.Fit.{ClientLedger, Expected, fits_client, expected_from, answers, is_known}
use Rattle.part_spec.specs.Share.{replies, reply_rest, has_letter, tells_identity}
use Rattle.lload_spec.proofs.Growth.{left, right, both}
use Rattle.lload_laws.specs.ClientGrowth.{later_operation, new_operation, is_named_within}
use Rattle.lload_laws.proofs.ClientGrowth.{ending_grows}
use Rattle.lload_laws.proofs.ListLaws.{found_passes, implied, implies_by}
use Rattle.part_laws.proofs.ListLaws.{not_both, not_true, false_by, same_number, eqb_sym, eq_eqb, same_op_eq, same_op_sym}
use Rattle.client_laws.proofs.Matches.{Matches, ClientLives, is_untaken, ends_not}
use Rattle.client_laws.proofs.ClientOuts.{EndsOnce, has_last}
use Rattle.client_laws.proofs.ClientEnds.{is_zero}
use Rattle.client_laws.proofs.ClientLives.{entry_of}
use Rattle.client_share_laws.proofs.ClientCases.{taken}
use Rattle.client_answer_laws.proofs.Each.{Each, each_imply, each_both, each_found, each_filter, each_unfilter}
use Rattle.client_answer_laws.proofs.Waits.{Carries, named_each}
use Rattle.client_answer_laws.proofs.Expects.{ExpectKnown}
use Rattle.client_answer_laws.proofs.Causes.{Caused, entries_count}
use Rattle.client_answer_laws.proofs.Told.{OpSays, Effect, replies_push}
use Rattle.client_answer_laws.proofs.Owns.{IsOwn}
use Rattle.client_answer_laws.proofs.Only.{OneOrOther, TheOne, each_one_or_other, none_added, out_added, out_other}
use Rattle.client_answer_laws.proofs.Tells.{Ops, ops_more, none_replied, is_reply_within}

-- a mark that is no answer
abbrev pub NoReply : Option Taken → Type 0
NoReply mark = (op : OpName) → reply_rest op mark ≡ []

-- the operation that an entry makes got nothing
pub new_says : (s : Settings) (c : ℕ) (place : List Entry) (e : Entry) (x : Message) (ms : List Marked) → length place ≤ length ms → replies ms (record { client = c; k = suc (length (operations c place)) }) ≡ [] → OpSays s ms (new_operation c place e x)
new_says s c place e x ms l h =
    record {
      answered = refl;
      known = by (wants_identity s x);
      live = λ k. record { same = sym h; none_final = ap (list_all (λ r. not (is_final_to x.rest r))) h };
      within = l;
      ends = inl refl;
    }
  where
    by : (b : Bool) → implies (b && false) (list_any (has_letter (tells_identity (record { client = c; k = suc (length (operations c place)) }))) ms) ≡ true
    by true = refl
    by false = refl

-- An entry that tells no operation anything.
module _ (s : Settings) (c u at : ℕ) (mark : Option Taken) (silent : NoReply mark) (w : What) (ms : List Marked) where
  e : Entry
  e = record { part = Client u; at = at; what = w }

  zero_same : EndsOnce c (entries ms) → is_zero w ≡ true → Each (λ o. outs (later_operation (record { part = Client u; at = at; what = w }) o) ≡ outs o) (operations c (entries ms))
  zero_same once z = go (operations c (entries ms)) once.no_zero
    where
      one : (v : What) → is_zero v ≡ true → (o : Operation) → not (o.request.id == 0) ≡ true → outs (later_operation (record { part = Client u; at = at; what = v }) o) ≡ outs o
      one (what.Out id rest) k o n = out_other (Client u) at id rest o (ap (λ b. b && is_untaken o) (ap (λ i. o.request.id == i) (same_number id 0 k) ∙ not_true (o.request.id == 0) n))
      one _ k o n = none_added _ o refl

      go : (os : List Operation) → list_all (λ o. not (o.request.id == 0)) os ≡ true → Each (λ o. outs (later_operation (record { part = Client u; at = at; what = w }) o) ≡ outs o) os
      go [] n = tt
      go (o ∷ os) n = (one w z o (left (not (o.request.id == 0)) _ n), go os (right (not (o.request.id == 0)) _ n))

  longer : length (entries ms) ≤ length (ms ++ record { entry = record { part = Client u; at = at; what = w }; mark = mark } ∷ [])
  longer =
      let one : length (ms ++ record { entry = record { part = Client u; at = at; what = w }; mark = mark } ∷ []) ≡ length ms + 1 = length-append ms (record { entry = record { part = Client u; at = at; what = w }; mark = mark } ∷ []) in
      let same : length (entries ms) ≡ length ms = entries_count ms in
      omega (arith, one, same)

  pub ops_silent : EndsOnce c (entries ms) → is_zero w ≡ true → Ops s c ms → list_all (λ m. is_reply_within c (length (operations c (entries ms))) m.mark) ms ≡ true → Ops s c (ms ++ record { entry = record { part = Client u; at = at; what = w }; mark = mark } ∷ [])
  ops_silent once z h within = ops_more s c ms (record { entry = record { part = Client u; at = at; what = w }; mark = mark }) h (each_imply (λ o. outs (later_operation (record { part = Client u; at = at; what = w }) o) ≡ outs o) (Effect s ms (record { entry = record { part = Client u; at = at; what = w }; mark = mark })) (operations c (entries ms)) (λ o k. inl (record { outs_same = k; no_reply = silent o.name })) (zero_same once z)) (λ x j. new_says s c (entries ms) (record { part = Client u; at = at; what = w }) x (ms ++ record { entry = record { part = Client u; at = at; what = w }; mark = mark } ∷ []) longer (replies_push ms (record { entry = record { part = Client u; at = at; what = w }; mark = mark }) (record { client = c; k = suc (length (operations c (entries ms))) }) ∙ ap (λ l. l ++ reply_rest (record { client = c; k = suc (length (operations c (entries ms))) }) mark) (none_replied c (length (operations c (entries ms))) ms within) ∙ silent (record { client = c; k = suc (length (operations c (entries ms))) })))

-- An Out that is final for an operation ends it.
final_ends : (part : PartName) (at id : ℕ) (rest : List ℕ) (o : Operation) → has_last id o ≡ true → is_final_to o.request.rest rest ≡ true → is_live (later_operation (entry_of part at (what.Out id rest)) o) ≡ false
final_ends part at id rest o h f = ending_grows o.request o.behind (entry_of part at (what.Out id rest)) ∙ ap (λ b. is_live o && b) ended ∙ none (is_live o)
  where
    none : (b : Bool) → (b && false) ≡ false
    none true = refl
    none false = refl

    manner : Bool → Bool → Option Manner
    manner a b = if a && b then Some Cancelled else if a then Some Answers else if is_abandon_of o.request (entry_of part at (what.Out id rest)) then Some Abandoned else if is_bind_in (entry_of part at (what.Out id rest)) then Some Rebound else None

    by : (b : Bool) → is_none (manner true b) ≡ false
    by true = refl
    by false = refl

    final : ((id == o.request.id && is_untaken o) && is_final_for o.request rest) ≡ true
    final = both (id == o.request.id && is_untaken o) _ (both (id == o.request.id) _ (eqb_sym id o.request.id ∙ left (o.request.id == id) _ h) (right (o.request.id == id) _ h)) f

    ended : ends_not (entry_of part at (what.Out id rest)) o ≡ false
    ended = ap (λ a. is_none (manner a (is_cancellation o.request o.behind (entry_of part at (what.Out id rest))))) final ∙ by (is_cancellation o.request o.behind (entry_of part at (what.Out id rest)))

-- An Out under the identifier of a row.
module _ (s : Settings) (c u at : ℕ) (mark : Option Taken) (ms : List Marked) (p : ClientState) (lives : ClientLives c (entries ms) p) (once : EndsOnce c (entries ms)) (t : ClientRow → Bool) (r : ClientRow) (there : find t p.rows ≡ Some r) (rest : List ℕ) where
  abbrev told : Marked
  told = record { entry = record { part = Client u; at = at; what = what.Out r.request.id rest }; mark = mark }

  pub ops_out : (K : Operation → Type 0) → Each K (operations c (entries ms)) → ((o : Operation) → TheOne c r o → K o → Effect s ms (record { entry = record { part = Client u; at = at; what = what.Out r.request.id rest }; mark = mark }) o) → ((o : Operation) → same_op (record { client = c; k = r.k }) o.name ≡ false → reply_rest o.name mark ≡ []) → Ops s c ms → Ops s c (ms ++ record { entry = record { part = Client u; at = at; what = what.Out r.request.id rest }; mark = mark } ∷ [])
  ops_out K known f g h = ops_more s c ms (record { entry = record { part = Client u; at = at; what = what.Out r.request.id rest }; mark = mark }) h (each_imply (λ o. OneOrOther c r o × K o) (Effect s ms (record { entry = record { part = Client u; at = at; what = what.Out r.request.id rest }; mark = mark })) (operations c (entries ms)) (λ o k. by o k.0 k.1) (each_both (OneOrOther c r) K (operations c (entries ms)) (each_one_or_other c (entries ms) p lives once t r there) known)) (λ x j. absurd (let bad : None ≡ Some x = j in cc))
    where
      by : (o : Operation) → OneOrOther c r o → K o → Effect s ms (record { entry = record { part = Client u; at = at; what = what.Out r.request.id rest }; mark = mark }) o
      by o (inl one) k = f o one k
      by o (inr other) k = inl (record { outs_same = out_other (Client u) at r.request.id rest o other.last; no_reply = g o other.unnamed })

  -- an answer of the proxy's own, with its cause
  pub ops_own : (K : Operation → Type 0) → Each K (operations c (entries ms)) → NoReply mark → ((o : Operation) → TheOne c r o → K o → IsOwn s o.request rest × Caused s (ms ++ record { entry = record { part = Client u; at = at; what = what.Out r.request.id rest }; mark = mark } ∷ []) (later_operation (record { part = Client u; at = at; what = what.Out r.request.id rest }) o) rest) → Ops s c ms → Ops s c (ms ++ record { entry = record { part = Client u; at = at; what = what.Out r.request.id rest }; mark = mark } ∷ [])
  ops_own K known silent owns h = ops_out K known (λ o one k.
      let own : IsOwn s o.request rest = (owns o one k).0 in
      inr (inr (inr (record {
        rest = rest;
        told = out_added (Client u) at r.request.id rest o one.last;
        no_reply = silent o.name;
        live = one.live;
        over = final_ends (Client u) at r.request.id rest o one.last own.final;
        own = own.own;
        unknown = ap (λ b. asks_who s o && (b && has_code success rest)) own.final ∙ own.unknown;
        caused = (owns o one k).1;
      })))) (λ o k. silent o.name) h

-- a fit answer is expected, of the operation's own request
fit_expected : (s : Settings) (l : ClientLedger) (sender : PartName) (op : OpName) (rest : List ℕ) (is_last : Bool) (who : Option (List ℕ)) → fits_client s l sender (Reply op rest is_last who) ≡ true → (x : Expected) × ((expected_from l sender op ≡ Some x) × (is_known s x.request rest who ≡ true))
fit_expected s l sender op rest is_last who h = by (expected_from l sender op) refl h
  where
    by : (o : Option Expected) → expected_from l sender op ≡ o → passes (λ x. answers x.request rest is_last && is_known s x.request rest who) o ≡ true → (x : Expected) × ((expected_from l sender op ≡ Some x) × (is_known s x.request rest who ≡ true))
    by None e k = absurd (let bad : false ≡ true = k in cc)
    by (Some x) e k = (x, (e, right (answers x.request rest is_last) _ k))

-- an answer that comes for a live operation
module _ (s : Settings) (c at : ℕ) (ms : List Marked) (l : ClientLedger) (number : l.state.number ≡ c) (lives : ClientLives c (entries ms) l.state) (once : EndsOnce c (entries ms)) (expected : Each (ExpectKnown s c (entries ms)) l.expected) (sender : PartName) (op : OpName) (rest : List ℕ) (is_last : Bool) (who : Option (List ℕ)) (r : ClientRow) (there : row_named l.state op ≡ Some r) (fit : fits_client s l sender (Reply op rest is_last who) ≡ true) where
  named : (l.state.number == op.client && r.k == op.k) ≡ true
  named = found_passes (λ x. l.state.number == op.client && x.k == op.k) l.state.rows r there

  own_name : record { client = c; k = r.k } ≡ op
  own_name = λ i. record { client = (sym number ∙ same_number l.state.number op.client (left (l.state.number == op.client) _ named)) i; k = same_number r.k op.k (right (l.state.number == op.client) _ named) i }

  -- the operation of this name is that of the request that was carried
  requests : (x : Expected) → expected_from l sender op ≡ Some x → is_known s x.request rest who ≡ true → Each (λ o. same_op op o.name ≡ true → implies (asks_who s o && (is_final_for o.request rest && has_code success rest)) (is_readable_who who) ≡ true) (operations c (entries ms))
  requests x e known =
      let named_x : op ≡ x.op = same_op_eq op x.op (left (same_op op x.op) _ (found_passes (λ y. same_op op y.op && same_part sender (Connection y.connection)) l.expected x e)) in
      let expects : ExpectKnown s c (entries ms) x = each_found (ExpectKnown s c (entries ms)) (λ y. same_op op y.op && same_part sender (Connection y.connection)) l.expected x e expected in
      each_imply (λ o. same_op x.op o.name ≡ true → Carries s x.request o) (λ o. same_op op o.name ≡ true → implies (asks_who s o && (is_final_for o.request rest && has_code success rest)) (is_readable_who who) ≡ true) (operations c (entries ms)) (λ o f k.
      let g : Carries s x.request o = f (ap (λ n. same_op n o.name) (sym named_x) ∙ k) in
      ap (λ w. implies (w && (is_final_for o.request rest && has_code success rest)) (is_readable_who who)) (sym g.wants) ∙ ap (λ n. implies (wants_identity s x.request && (passes (λ kind. is_final kind rest) n && has_code success rest)) (is_readable_who who)) (sym g.kind) ∙ turned (wants_identity s x.request) (is_final_for x.request rest) (has_code success rest) (is_readable_who who) known) expects.same
    where
      turned : (a b d r : Bool) → implies (a && d && b) r ≡ true → implies (a && (b && d)) r ≡ true
      turned true true true r k = k
      turned true true false r k = refl
      turned true false d r k = refl
      turned false b d r k = refl

  pub ops_answer : Ops s c ms → Ops s c (ms ++ record { entry = record { part = Client l.state.number; at = at; what = what.Out r.request.id rest }; mark = taken sender (Reply op rest is_last who) } ∷ [])
  ops_answer h =
      let x : (x : Expected) × ((expected_from l sender op ≡ Some x) × (is_known s x.request rest who ≡ true)) = fit_expected s l sender op rest is_last who fit in
      ops_out s c l.state.number at (taken sender (Reply op rest is_last who)) ms l.state lives once (λ y. l.state.number == op.client && y.k == op.k) r there rest (λ o. same_op op o.name ≡ true → implies (asks_who s o && (is_final_for o.request rest && has_code success rest)) (is_readable_who who) ≡ true) (requests x.0 x.1.0 x.1.1) (λ o one known.
      let same : same_op op o.name ≡ true = ap (λ n. same_op n o.name) (sym own_name) ∙ one.named in
      inr (inr (inl (record {
        rest = rest;
        told = out_added (Client l.state.number) at r.request.id rest o one.last;
        reply = ap (λ b. if b then rest ∷ [] else []) (same_op_sym o.name op ∙ same);
        live = one.live;
        goes_on = λ k. false_by (is_final_to o.request.rest rest) (λ j. not_both (is_live (later_operation (entry_of (Client l.state.number) at (what.Out r.request.id rest)) o)) k (final_ends (Client l.state.number) at r.request.id rest o one.last j));
        known = implies_by (asks_who s o && (is_final_for o.request rest && has_code success rest)) _ (λ k. both (same_op o.name op) _ (same_op_sym o.name op ∙ same) (both (has_code success rest) _ (right (is_final_for o.request rest) _ (right (asks_who s o) _ k)) (implied (asks_who s o && (is_final_for o.request rest && has_code success rest)) _ (known same) k)));
      })))) (λ o k. ap (λ b. if b then rest ∷ [] else []) (same_op_sym o.name op ∙ ap (λ n. same_op n o.name) (sym own_name) ∙ k)) h

-- An answer, or a refusal, that comes too late.
module _ (s : Settings) (c at : ℕ) (ms : List Marked) (p : ClientState) (number : p.number ≡ c) (lives : ClientLives c (entries ms) p) (once : EndsOnce c (entries ms)) (op : OpName) (none : row_named p op ≡ None) (mark : Option Taken) (quiet : (n : OpName) → same_op n op ≡ false → reply_rest n mark ≡ []) where
  none_row : (rows : List ClientRow) (os : List Operation) → Matches rows os → Each (λ o. o.name.client ≡ c) os → find (λ x. p.number == op.client && x.k == op.k) rows ≡ None → Each (λ o. same_op o.name op ≡ false) os
  none_row [] [] m n e = tt
  none_row (r ∷ rows) (o ∷ os) m n e = by (p.number == op.client && r.k == op.k) refl e (λ f. none_row rows os m.1 n.1 f)
    where
      by : (b : Bool) → (p.number == op.client && r.k == op.k) ≡ b → cond b (Some r) (find (λ x. p.number == op.client && x.k == op.k) rows) ≡ None → (find (λ x. p.number == op.client && x.k == op.k) rows ≡ None → Each (λ o. same_op o.name op ≡ false) os) → Each (λ o. same_op o.name op ≡ false) (o ∷ os)
      by true k f ih = absurd (let bad : Some r ≡ None = f in cc)
      by false k f ih = (false_by (same_op o.name op) (λ j. sym k ∙ both (p.number == op.client) _ (eq_eqb p.number op.client (number ∙ sym n.0 ∙ same_number o.name.client op.client (left (o.name.client == op.client) _ j))) (eq_eqb r.k op.k (m.0.k ∙ same_number o.name.k op.k (right (o.name.client == op.client) _ j)))), ih f)
  none_row [] (o ∷ os) m n e = absurd m
  none_row (r ∷ rows) [] m n e = absurd m

  clients : Each (λ o. o.name.client ≡ c) (live_operations c (entries ms))
  clients = each_filter (λ o. is_named_within c (length (operations c (entries ms))) o ≡ true) (λ o. o.name.client ≡ c) is_live (operations c (entries ms)) (λ o k h. same_number o.name.client c (left (o.name.client == c) _ (left _ _ h))) (named_each c (entries ms))

  unnamed : Each (λ o. is_live o ≡ true → same_op o.name op ≡ false) (operations c (entries ms))
  unnamed = each_unfilter (λ o. same_op o.name op ≡ false) is_live (operations c (entries ms)) (none_row p.rows (live_operations c (entries ms)) lives.rows clients none)

  pub ops_late : Ops s c ms → Ops s c (ms ++ record { entry = record { part = Client p.number; at = at; what = what.Late op }; mark = mark } ∷ [])
  ops_late h = ops_more s c ms (record { entry = record { part = Client p.number; at = at; what = what.Late op }; mark = mark }) h (each_imply (λ o. is_live o ≡ true → same_op o.name op ≡ false) (Effect s ms (record { entry = record { part = Client p.number; at = at; what = what.Late op }; mark = mark })) (operations c (entries ms)) (λ o f. by o (is_live o) refl f) unnamed) (λ x j. absurd (let bad : None ≡ Some x = j in cc))
    where
      same : (o : Operation) → outs (later_operation (record { part = Client p.number; at = at; what = what.Late op }) o) ≡ outs o
      same o = none_added (record { part = Client p.number; at = at; what = what.Late op }) o refl

      by : (o : Operation) (b : Bool) → is_live o ≡ b → (is_live o ≡ true → same_op o.name op ≡ false) → Effect s ms (record { entry = record { part = Client p.number; at = at; what = what.Late op }; mark = mark }) o
      by o true k f = inl (record { outs_same = same o; no_reply = quiet o.name (f k) })
      by o false k f = inr (inl (record { outs_same = same o; over = k }))
