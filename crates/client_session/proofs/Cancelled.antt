-- What a Cancel makes that ends another operation.
use Rattle.std.proofs.Common.{◌≡◌, ◌≤◌, ◌<◌, ◌+◌, ℕ, suc, max, Bool, true, false, not, ◌==◌, ◌&&◌, ◌||◌, cond, if◌then◌else◌, List, [], ◌∷◌, ◌++◌, filter, find, map, Option, Some, None, arith, refl, ap, subst, sym, ◌∙◌}
use Rattle.std.proofs.lemmas.Bool.Decides.{nat_tests}
use Rattle.std.specs.List.{list_any}
use Rattle.ldap_spec.specs.Bodies.{cancel_answer}
use Rattle.ldap_spec.specs.Kinds.{kind_of, tag_of, is_final, kind_of_tag}
use Rattle.ldap_spec.specs.Messages.{Message}
use Rattle.lload_names.specs.Same.{same_kind}
use Rattle.lload_names.specs.declared.names.CancelAnswer.TheVariants.{S1, C13, C14}
use Rattle.lload_names.specs.declared.names.Entry.{Entry}
use Rattle.lload_names.specs.declared.names.OpKind.{OpKind}
use Rattle.lload_names.specs.declared.names.OpKind.TheVariants.{Bind, Extended}
use Rattle.lload_names.specs.declared.names.Posted.{Posted}
use Rattle.lload_names.specs.declared.names.What.{What}
use Rattle.lload_names.specs.declared.names.What.TheVariants as what
use Rattle.lload_spec.specs.FirstCheck.{Check, Cancels, Answers, LiveRequest, live_request, may_be_canceled, cancels, lets_go_on}
use Rattle.lload_spec.specs.Lists.{passes, last}
use Rattle.lload_spec.specs.Operations.{is_final_for}
use Rattle.lload_spec.specs.Settings.{Settings}
use Rattle.part_spec.specs.Inputs.{act, entries_of}
use Rattle.part_spec.specs.ClientState.{ClientRow, ClientState, facts_of, check_at, is_written, new_row, row_under, is_bind_row, with_answer, with_bind_answer, without, step_client}
use Rattle.part_spec.specs.ClientTurn as turn
use Rattle.part_spec.specs.ClientTurn.{by_check, canceled}
use Rattle.outbox.specs.declared.outbox.Outbox.{Outbox}
use Rattle.client_laws.proofs.ClientCancels.{cancel_named, ext_tag}
use Rattle.client_laws.proofs.KindsKept.{carried_kind}
use Rattle.client_rows.specs.Rows.{Counted, has_number, has_id, is_bind, IsNumbered, Rises}
use Rattle.client_rows.specs.declared.row.Row.{Row}
use Rattle.client_session.specs.Checks.{facts, live_row}
use Rattle.client_session.specs.Closing.{drop_of}
use Rattle.client_session.specs.Did.{Did}
use Rattle.client_session.specs.Under.{names, named_drop}
use Rattle.client_session.specs.declared.part.ClientPart.{ClientPart}
use Rattle.client_session.specs.Stands.{seen, shown, Stands}
use Rattle.client_session.proofs.Answered.{one-shown}
use Rattle.client_session.proofs.Answering.{cancel-final}
use Rattle.client_session.proofs.Chosen.{moved}
use Rattle.client_session.proofs.Counted.{stands-passed}
use Rattle.client_session.proofs.Facts.{cancels-one, cancels-bind, cancels-none}
use Rattle.client_session.proofs.Leaves.{three-entries}
use Rattle.client_session.proofs.Passed.{with_row, request-came, last-answered, new-unwritten, none-next, filter-end, any-end, rises-le}
use Rattle.client_session.proofs.Rules.{entry, did-same}
use Rattle.client_session.proofs.Through.{filter-through}
use Rattle.client_session.proofs.Under.{drop-one}
use Rattle.client_session.proofs.Views.{facts-shown}

-- a Cancel is an Extended request
extended : (s : Settings) (p : ClientState) (m : Message) (id : ℕ) (kind : OpKind) → check_at s p m ≡ Cancels id kind → kind_of m.rest ≡ Some Extended
extended s p m id kind e =
    let h = ext_tag m.rest (cancel_named s (facts_of p) m id kind e).0.ext in
    let t : tag_of m.rest ≡ 0x77 = grind (arith, nat_tests, h) in
    ap kind_of_tag t

-- what the check found is what the part keeps under the identifier

cancels-kind : (x : LiveRequest) (kind : OpKind) → x.kind ≡ Some kind → cancels (Some x) ≡ Cancels x.id kind
cancels-kind x kind e = ap (λ o. elim o [ None ↦ Answers C14 | Some k ↦ Cancels x.id k ]) e

pub named-row : (s : Settings) (p : ClientState) (d : ClientPart) (m : Message) (id : ℕ) (kind : OpKind) (row : Row) → check_at s p m ≡ Cancels id kind → Stands s p d → filter (has_id id) d.operations.rows ≡ row ∷ [] → (is_bind row ≡ false) × (row.kind ≡ kind)
named-row s p d m id kind row e h one =
    let named = (cancel_named s (facts_of p) m id kind e).0.one in
    let found : find (may_be_canceled id) (map live_row d.operations.rows) ≡ Some named.request = ap (λ f. find (may_be_canceled id) f.live) (sym (facts-shown s p d h)) ∙ named.found in
    let is : cancels (find (may_be_canceled id) (map live_row d.operations.rows)) ≡ Cancels named.request.id kind = ap cancels found ∙ cancels-kind named.request kind named.kind_is in
    by (is_bind row) refl named.request.id is
  where
    by : (b : Bool) → is_bind row ≡ b → (n : ℕ) → cancels (find (may_be_canceled id) (map live_row d.operations.rows)) ≡ Cancels n kind → (is_bind row ≡ false) × (row.kind ≡ kind)
    by true b n k = absurd (let bad : ◌≡◌ {A = Check} (Answers C14) (Cancels n kind) = sym (cancels-bind id d.operations.rows row one b) ∙ k in cc)
    by false b n k = (b, let same : ◌≡◌ {A = Check} (Cancels row.id row.kind) (Cancels n kind) = sym (cancels-one id d.operations.rows row one b) ∙ k in cc)

pub none-named-none : {C : Type 0} (s : Settings) (p : ClientState) (d : ClientPart) (m : Message) (id : ℕ) (kind : OpKind) → check_at s p m ≡ Cancels id kind → Stands s p d → filter (has_id id) d.operations.rows ≡ [] → C
none-named-none s p d m id kind e h none =
    let named = (cancel_named s (facts_of p) m id kind e).0.one in
    let found : find (may_be_canceled id) (map live_row d.operations.rows) ≡ Some named.request = ap (λ f. find (may_be_canceled id) f.live) (sym (facts-shown s p d h)) ∙ named.found in
    let is : cancels (find (may_be_canceled id) (map live_row d.operations.rows)) ≡ Cancels named.request.id kind = ap cancels found ∙ cancels-kind named.request kind named.kind_is in
    absurd (let bad : ◌≡◌ {A = Check} (Answers C14) (Cancels named.request.id kind) = sym (cancels-none id d.operations.rows none) ∙ is in cc)

-- it came before
before : (id low : ℕ) (rs : List Row) (next : ℕ) (row : Row) → Rises low rs next → filter (has_id id) rs ≡ row ∷ [] → row.k < next
before id low [] next row h e = absurd (let bad : ◌≡◌ {A = List Row} [] (row ∷ []) = e in cc)
before id low (r ∷ rs) next row h e = by (r.id == id) e (before id (r.k + 1) rs next row h.1)
  where
    by : (b : Bool) → cond b (r ∷ filter (has_id id) rs) (filter (has_id id) rs) ≡ row ∷ [] → (filter (has_id id) rs ≡ row ∷ [] → row.k < next) → row.k < next
    by true g ih = let same : r ≡ row = cc in let k : r.k ≡ row.k = ap (λ x. x.k) same in let le = rises-le (r.k + 1) rs next h.1 in omega (arith, k, le)
    by false g ih = ih g

-- a final answer under the identifier of one that came before ends it, and leaves the last row
module _ (s : Settings) (p : ClientState) (at : ℕ) (new r : ClientRow) (id : ℕ) (kind : OpKind) (rest : List ℕ) (one : filter (λ x. x.request.id == id) p.rows ≡ r ∷ []) (other : (new.request.id == id) ≡ false) (number : (new.k == r.k) ≡ false) (its : kind_of r.request.rest ≡ Some kind) (plain : same_kind Bind kind ≡ false) (final : is_final kind rest ≡ true) where
  pub other-answered : step_client s (with_row at new p) (record { entry = entry p at (what.Out id rest); mark = None }) ≡ with_row at new (without (λ x. x.k == r.k) at p)
  other-answered =
      let q = with_row at new p in
      let t : ClientRow → Bool = λ x. x.k == r.k in
      let under : row_under q id ≡ Some r = ap last (filter-end (λ x. x.request.id == id) p.rows new ∙ ap (λ b. filter (λ x. x.request.id == id) p.rows ++ cond b (new ∷ []) []) other ∙ ap (λ l. l ++ []) one) in
      let is_last : is_final_for r.request rest ≡ true = ap (passes (λ x. is_final x rest)) its ∙ final in
      let no_bind : is_bind_row r ≡ false = ap (passes (same_kind Bind)) its ∙ plain in
      let by : Bool → Bool → ClientState = λ f b. record (elim f [ false ↦ q | true ↦ elim b [ true ↦ with_bind_answer s None r.request rest (without t at q) | false ↦ without t at q ] ]) { moment = at; asked = p.asked } in
      let make : List ClientRow → Bool → ClientState = λ rows ends. record p { count = suc p.count; moment = at; rows = rows; window = record p.window { write_ended = if ends then max at p.window.write_ended else p.window.write_ended } } in
      let rows : filter (λ x. not (t x)) (p.rows ++ new ∷ []) ≡ filter (λ x. not (t x)) p.rows ++ new ∷ [] = filter-end (λ x. not (t x)) p.rows new ∙ ap (λ b. filter (λ x. not (t x)) p.rows ++ cond (not b) (new ∷ []) []) number in
      let ends : list_any (λ x. t x && is_written x) (p.rows ++ new ∷ []) ≡ list_any (λ x. t x && is_written x) p.rows = any-end (λ x. t x && is_written x) p.rows new ∙ ap (λ b. list_any (λ x. t x && is_written x) p.rows || (b && is_written new || false)) number ∙ or-false (list_any (λ x. t x && is_written x) p.rows) in
      ap (λ o. record (elim o [ None ↦ q | Some x ↦ with_answer s at None rest q x ]) { moment = at; asked = p.asked }) under
      ∙ ap (λ f. by f (is_bind_row r)) is_last
      ∙ ap (by true) no_bind
      ∙ ap (λ l. make l (list_any (λ x. t x && is_written x) (p.rows ++ new ∷ []))) rows
      ∙ ap (make (filter (λ x. not (t x)) p.rows ++ new ∷ [])) ends
    where
      or-false : (b : Bool) → (b || false) ≡ b
      or-false true = refl
      or-false false = refl

-- the whole of it
pub did-cancel : (s : Settings) (p : ClientState) (d e : ClientPart) (o : Counted) (at : ℕ) (m : Message) (id : ℕ) (kind : OpKind) (row : Row) (last_words answer : List ℕ) (old new : Outbox) (xs ys : List Entry) → check_at s p m ≡ Cancels id kind → filter (has_id id) d.operations.rows ≡ row ∷ [] → last_words ≡ cancel_answer kind C13 → answer ≡ cancel_answer Extended S1 → IsNumbered d.operations → IsNumbered e.operations → o ≡ record { count = e.operations.count + 1; rows = e.operations.rows } → Stands s p d → Stands s (without (λ x. x.k == row.k) at p) e → xs ≡ old.entries.items ++ entry p at (what.In m.id m.rest) ∷ [] → ys ≡ xs ++ entry p at (what.Out id last_words) ∷ [] → new.entries.items ≡ ys ++ entry p at (what.Out m.id answer) ∷ [] → new.letters.items ≡ old.letters.items ++ drop_of d.number row → Did s p at None (by_check s p at m (Cancels id kind)) old new (record e { operations = o; moment = at })
did-cancel s p d e o at m id kind row last_words answer old new xs ys found one said told n k is h left first second third letters =
    let its = extended s p m id kind found in
    let named = cancel_named s (facts_of p) m id kind found in
    let kept = named-row s p d m id kind row found h one in
    let r = one-shown s _ (shown row) (filter-through (seen s) shown (λ v. v.id == id) p.rows d.operations.rows h.live.rows_are ∙ ap (map shown) one) in
    let k_is : r.0.k ≡ row.k = ap (λ v. v.k) r.2 in
    let low = before id 0 d.operations.rows (d.operations.count + 1) row n one in
    let number : (suc p.count == r.0.k) ≡ false = grind (arith, nat_tests, k_is, low, h.live.count_is) in
    let row_kind : kind_of r.0.request.rest ≡ Some kind = ap (λ v. v.kind) r.2 ∙ ap (λ x. Some x) kept.1 in
    let plain : same_kind Bind kind ≡ false = ap (same_kind Bind) (sym kept.1) ∙ kept.0 in
    let fresh : (m.id == id) ≡ false = let f = named.0.other in grind (arith, nat_tests, f) in
    let fate : without (λ x. x.k == r.0.k) at p ≡ without (λ x. x.k == row.k) at p = ap (λ j. without (λ x. x.k == j) at p) k_is in
    let row_new = new_row s p m in
    let stays = ap lets_go_on found in
    let q = without (λ x. x.k == row.k) at p in
    let out : ClientState → ℕ → List ℕ → ClientState = λ x i rest. step_client s x (record { entry = entry p at (what.Out i rest); mark = None }) in
    let whats : ◌≡◌ {A = List What} (what.In m.id m.rest ∷ what.Out id last_words ∷ what.Out m.id answer ∷ []) (what.In m.id m.rest ∷ (canceled id (Some kind) C13 ++ canceled m.id (kind_of m.rest) S1)) =
    ap (λ b. what.In m.id m.rest ∷ what.Out id b ∷ what.Out m.id answer ∷ []) said
    ∙ ap (λ b. what.In m.id m.rest ∷ what.Out id (cancel_answer kind C13) ∷ what.Out m.id b ∷ []) told
    ∙ ap (λ x. what.In m.id m.rest ∷ what.Out id (cancel_answer kind C13) ∷ canceled m.id x S1) (sym its) in
    did-same s p at None _ _ _ _ old new (record e { operations = o; moment = at }) whats refl
    (record {
      entries = three-entries _ _ _ _ _ _ _ first second third;
      letters = letters ∙ ap (λ l. old.letters.items ++ l) (sym (canceled-drop s p d id row h one kept.0));
      stands =
          subst (λ (x : ClientState). Stands s x (record e { operations = o; moment = at }))
          (sym (ap (λ x. out (out x id last_words) m.id answer) (request-came s p at m Extended its refl named.1 stays)
          ∙ ap (λ b. out (out (with_row at row_new p) id b) m.id answer) said
          ∙ ap (λ x. out x m.id answer) (other-answered s p at row_new r.0 id kind (cancel_answer kind C13) r.1 fresh number row_kind plain (cancel-final kind C13))
          ∙ ap (λ x. out (with_row at row_new x) m.id answer) fate
          ∙ ap (out (with_row at row_new q) m.id) told
          ∙ last-answered s q at row_new Extended (cancel_answer Extended S1) refl (carried_kind s m p.identity ∙ its) refl (cancel-final Extended S1) (none-next s q e k left) (new-unwritten s p m stays)))
          (moved s at (record q { count = suc q.count }) (record e { operations = o }) (stands-passed s q e o is left));
    })
  where
    swapped : (id : ℕ) (r : ClientRow) → (r.request.id == id && not (is_bind_row r)) ≡ names id r
    swapped id r = by (is_bind_row r) (r.request.id == id) refl
      where
        by : (b c : Bool) → (r.request.id == id) ≡ c → (c && not b) ≡ (not b && id == r.request.id)
        by true true f = refl
        by true false f = refl
        by false true f = let t : (id == r.request.id) ≡ true = grind (arith, nat_tests, f) in sym t
        by false false f = let t : (id == r.request.id) ≡ false = grind (arith, nat_tests, f) in sym t

    find-same : (t u : ClientRow → Bool) (xs : List ClientRow) → ((x : ClientRow) → t x ≡ u x) → find t xs ≡ find u xs
    find-same t u [] e = refl
    find-same t u (x ∷ xs) e = ap (λ b. cond b (Some x) (find t xs)) (e x) ∙ ap (λ l. cond (u x) (Some x) l) (find-same t u xs e)

    canceled-drop : (s : Settings) (p : ClientState) (d : ClientPart) (id : ℕ) (row : Row) → Stands s p d → filter (has_id id) d.operations.rows ≡ row ∷ [] → is_bind row ≡ false → turn.canceled_drop p id ≡ drop_of d.number row
    canceled-drop s p d id row h one plain = ap (λ l. elim l [ None ↦ [] | Some r ↦ turn.drop_of p r ]) (find-same (λ r. may_be_canceled id (live_request r.request)) (names id) p.rows (swapped id)) ∙ drop-one s p d id h row one plain
