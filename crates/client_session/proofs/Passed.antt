-- A request that is answered at once, and is over then.
use Rattle.std.proofs.Common.{◌≡◌, ◌≤◌, ◌<◌, ◌+◌, ℕ, suc, max, Bool, true, false, not, ◌==◌, ◌&&◌, ◌||◌, cond, if◌then◌else◌, List, [], ◌∷◌, ◌++◌, filter, find, length, map, Option, Some, None, arith, refl, ap, subst, sym, ◌∙◌, append-nil}
use Rattle.std.proofs.lemmas.Bool.Decides.{nat_tests}
use Rattle.std.specs.Prelude.{is_some}
use Rattle.std.specs.List.{list_any}
use Rattle.ldap_spec.specs.Kinds.{kind_of, kind_of_tag, tag_of, is_final, is_unbind, is_abandon}
use Rattle.ldap_spec.specs.Messages.{Message}
use Rattle.ldap_spec.specs.Requests.{Request, request}
use Rattle.lload_names.specs.Same.{same_kind}
use Rattle.lload_names.specs.declared.names.EndWhy.TheVariants.{ZeroId, IdInUse}
use Rattle.lload_names.specs.declared.names.Entry.{Entry}
use Rattle.lload_names.specs.declared.names.OpKind.{OpKind}
use Rattle.lload_names.specs.declared.names.OpKind.TheVariants.{Bind}
use Rattle.lload_names.specs.declared.names.What.TheVariants as what
use Rattle.lload_spec.specs.Binding.{is_action, kind_wanted}
use Rattle.lload_spec.specs.Entries.{makes_operation}
use Rattle.lload_spec.specs.FirstCheck.{Check, Ends, check_request, is_in_use, lets_go_on}
use Rattle.lload_spec.specs.Lists.{passes, last}
use Rattle.lload_spec.specs.Operations.{is_final_for, is_request_of}
use Rattle.lload_spec.specs.Settings.{Settings, Write}
use Rattle.part_spec.specs.Marked.{Taken}
use Rattle.part_spec.specs.Inputs.{act, entries_of}
use Rattle.part_spec.specs.ClientState.{ClientRow, ClientState, Window as WindowBy, AskedFor, facts_of, check_at, is_pinned, is_asked_for, is_written, new_row, step_client, with_message, with_request, with_bind, with_answer, with_bind_answer, without, row_under, is_bind_row, held_connection, abandons, next_name}
use Rattle.client_laws.proofs.ClientKinds.{has_its_kind}
use Rattle.client_laws.proofs.KindsKept.{carried_kind}
use Rattle.client_rows.specs.Rows.{Counted, has_number, IsNumbered, Rises}
use Rattle.client_rows.specs.declared.row.Row.{Row}
use Rattle.outbox.specs.declared.outbox.Outbox.{Outbox}
use Rattle.client_session.specs.Did.{Did}
use Rattle.client_session.specs.declared.part.ClientPart.{ClientPart}
use Rattle.client_session.specs.Stands.{Seen, seen, shown, Stands}
use Rattle.client_session.proofs.Chosen.{moved}
use Rattle.client_session.proofs.Counted.{stands-passed}
use Rattle.client_session.proofs.Leaves.{two-entries}
use Rattle.client_session.proofs.Rules.{entry}
use Rattle.client_session.proofs.Through.{any-through}

-- numbers above all that came

pub rises-le : (low : ℕ) (rs : List Row) (next : ℕ) → Rises low rs next → low ≤ next
rises-le low [] next h = h
rises-le low (r ∷ rs) next h = let b = rises-le (r.k + 1) rs next h.1 in omega (arith, h.0, b)

none-above : (k low : ℕ) (rs : List Row) (next : ℕ) → next ≤ k → Rises low rs next → list_any (has_number k) rs ≡ false
none-above k low [] next l h = refl
none-above k low (r ∷ rs) next l h =
    let le = rises-le (r.k + 1) rs next h.1 in
    let other : (r.k == k) ≡ false = grind (arith, nat_tests, l, le) in
    rw other (none-above k (r.k + 1) rs next l h.1)

-- no live operation has the next number
pub none-next : (s : Settings) (p : ClientState) (d : ClientPart) → IsNumbered d.operations → Stands s p d → list_any (λ r. r.k == suc p.count) p.rows ≡ false
none-next s p d n h =
    any-through (seen s) shown (λ v. v.k == suc p.count) p.rows d.operations.rows h.live.rows_are
    ∙ none-above (suc p.count) 0 d.operations.rows (d.operations.count + 1) (omega (arith, h.live.count_is)) n

module _ {A : Type 0} (t : A → Bool) where
  pub filter-none : (xs : List A) → list_any t xs ≡ false → filter (λ x. not (t x)) xs ≡ xs
  filter-none [] e = refl
  filter-none (x ∷ xs) e = by (t x) e (filter-none xs)
    where
      by : (b : Bool) → (b || list_any t xs) ≡ false → (list_any t xs ≡ false → filter (λ x. not (t x)) xs ≡ xs) → cond (not b) (x ∷ filter (λ x. not (t x)) xs) (filter (λ x. not (t x)) xs) ≡ x ∷ xs
      by true f ih = absurd (let bad : true ≡ false = f in cc)
      by false f ih = ap (λ l. x ∷ l) (ih f)

  pub any-none : (q : A → Bool) (xs : List A) → list_any t xs ≡ false → list_any (λ x. t x && q x) xs ≡ false
  any-none q [] e = refl
  any-none q (x ∷ xs) e = by (t x) e (any-none q xs)
    where
      by : (b : Bool) → (b || list_any t xs) ≡ false → (list_any t xs ≡ false → list_any (λ x. t x && q x) xs ≡ false) → (b && q x || list_any (λ x. t x && q x) xs) ≡ false
      by true f ih = absurd (let bad : true ≡ false = f in cc)
      by false f ih = ih f

  pub filter-end : (xs : List A) (x : A) → filter t (xs ++ x ∷ []) ≡ filter t xs ++ filter t (x ∷ [])
  filter-end [] x = refl
  filter-end (y ∷ xs) x = by (t y) (filter-end xs x)
    where
      by : (b : Bool) → filter t (xs ++ x ∷ []) ≡ filter t xs ++ filter t (x ∷ []) → cond b (y ∷ filter t (xs ++ x ∷ [])) (filter t (xs ++ x ∷ [])) ≡ cond b (y ∷ filter t xs) (filter t xs) ++ filter t (x ∷ [])
      by true e = ap (λ l. y ∷ l) e
      by false e = e

  pub any-end : (xs : List A) (x : A) → list_any t (xs ++ x ∷ []) ≡ (list_any t xs || (t x || false))
  any-end [] x = refl
  any-end (y ∷ xs) x = by (t y) (any-end xs x)
    where
      by : (b : Bool) → list_any t (xs ++ x ∷ []) ≡ (list_any t xs || (t x || false)) → (b || list_any t (xs ++ x ∷ [])) ≡ ((b || list_any t xs) || (t x || false))
      by true e = refl
      by false e = e

last-end : {A : Type 0} (xs : List A) (x : A) → last (xs ++ x ∷ []) ≡ Some x
last-end [] x = refl
last-end (y ∷ []) x = refl
last-end (y ∷ z ∷ xs) x = last-end (z ∷ xs) x

pub last-passes : {A : Type 0} (t : A → Bool) (xs : List A) (x : A) → t x ≡ true → last (filter t (xs ++ x ∷ [])) ≡ Some x
last-passes t xs x e = ap last (filter-end t xs x ∙ ap (λ b. filter t xs ++ cond b (x ∷ []) []) e) ∙ last-end (filter t xs) x

pub nat-same : (n : ℕ) → (n == n) ≡ true
nat-same n = grind (arith, nat_tests)

-- what makes an operation

pub kind-makes : (m : Message) (kind : OpKind) → kind_of m.rest ≡ Some kind → (m.id == 0) ≡ false → makes_operation m ≡ true
kind-makes m kind k z = by (is_unbind m.rest) refl (is_abandon m.rest) refl
  where
    bad : {C : Type 0} (t : ℕ) → tag_of m.rest ≡ t → kind_of_tag t ≡ None → C
    bad t e n = absurd (let no : ◌≡◌ {A = Option OpKind} None (Some kind) = sym n ∙ ap kind_of_tag (sym e) ∙ k in cc)

    by : (u : Bool) → is_unbind m.rest ≡ u → (a : Bool) → is_abandon m.rest ≡ a → (not (m.id == 0) && not (is_unbind m.rest) && not (is_abandon m.rest)) ≡ true
    by true e a f = bad 0x42 (grind (arith, nat_tests, e)) refl
    by false e true f = bad 0x50 (grind (arith, nat_tests, f)) refl
    by false e false f = rw (z, e, f) refl

pub id-not-zero : (s : Settings) (p : ClientState) (m : Message) → has_its_kind (check_at s p m) ≡ true → (m.id == 0) ≡ false
id-not-zero s p m h = by (m.id == 0) h
  where
    by : (z : Bool) → has_its_kind (if z then Ends ZeroId else if makes_operation m && is_in_use (facts_of p) m.id then Ends IdInUse else check_request s (facts_of p) m (request m.rest)) ≡ true → z ≡ false
    by true e = absurd (let bad : false ≡ true = e in cc)
    by false e = refl

-- behind its In: a row stands behind the others

abbrev pub with_row : ℕ → ClientRow → ClientState → ClientState
with_row at new p = record p { count = suc p.count; rows = p.rows ++ new ∷ []; moment = at }

pub request-came : (s : Settings) (p : ClientState) (at : ℕ) (m : Message) (kind : OpKind) → kind_of m.rest ≡ Some kind → same_kind Bind kind ≡ false → (m.id == 0) ≡ false → lets_go_on (check_at s p m) ≡ false → step_client s p (record { entry = entry p at (what.In m.id m.rest); mark = None }) ≡ with_row at (new_row s p m) p
request-came s p at m kind k b zero stays =
    let make : Bool → Bool → Bool → ClientState = λ makes binds asks. record (elim makes [ false ↦ without (abandons m) at p | true ↦ elim binds [ true ↦ with_bind s m p | false ↦ with_request s m p ] ]) { moment = at; asked = if asks then p.asked ++ record { op = next_name p; kind = kind_wanted m } ∷ [] else p.asked } in
    ap (λ x. make x (is_request_of Bind m) (is_asked_for s p m)) (kind-makes m kind k zero)
    ∙ ap (λ x. make true x (is_asked_for s p m)) (ap (passes (same_kind Bind)) k ∙ b)
    ∙ ap (λ x. make true false x) (ap (λ x. x && not (is_pinned s p m)) stays)

and-false : (b : Bool) → (b && false) ≡ false
and-false true = refl
and-false false = refl

-- nothing that is answered at once was written
pub new-unwritten : (s : Settings) (p : ClientState) (m : Message) → lets_go_on (check_at s p m) ≡ false → is_written (new_row s p m) ≡ false
new-unwritten s p m e =
    let unpinned : is_pinned s p m ≡ false = ap (λ b. is_request_of Bind m && p.in_exchange && b) e ∙ and-false (is_request_of Bind m && p.in_exchange) in
    ap (λ b. is_action Write (new_row s p m).action && is_some (elim b [ true ↦ held_connection p | false ↦ None ])) unpinned ∙ and-false (is_action Write (new_row s p m).action)

-- the last row ends by a final answer: what was live before goes on
module _ (s : Settings) (p : ClientState) (at : ℕ) (new : ClientRow) (kind : OpKind) (rest : List ℕ) (number : new.k ≡ suc p.count) (its : kind_of new.request.rest ≡ Some kind) (plain : same_kind Bind kind ≡ false) (final : is_final kind rest ≡ true) (none : list_any (λ r. r.k == suc p.count) p.rows ≡ false) (unwritten : is_written new ≡ false) where
  last-ended : without (λ r. r.k == suc p.count) at (with_row at new p) ≡ record p { count = suc p.count; moment = at }
  last-ended =
      let t : ClientRow → Bool = λ r. r.k == suc p.count in
      let here : t new ≡ true = grind (arith, nat_tests, number) in
      let rows : filter (λ r. not (t r)) (p.rows ++ new ∷ []) ≡ p.rows =
      filter-end (λ r. not (t r)) p.rows new ∙ ap (λ b. filter (λ r. not (t r)) p.rows ++ cond (not b) (new ∷ []) []) here ∙ append-nil (filter (λ r. not (t r)) p.rows) ∙ filter-none t p.rows none in
      let ends : list_any (λ r. t r && is_written r) (p.rows ++ new ∷ []) ≡ false =
      any-end (λ r. t r && is_written r) p.rows new ∙ ap (λ b. b || (t new && is_written new || false)) (any-none t is_written p.rows none) ∙ ap (λ b. t new && b || false) unwritten ∙ ap (λ b. b || false) (and-false (t new)) in
      let make : List ClientRow → Bool → ClientState = λ rows ends. record p { count = suc p.count; moment = at; rows = rows; window = record p.window { write_ended = if ends then max at p.window.write_ended else p.window.write_ended } } in
      ap (λ l. make l (list_any (λ r. t r && is_written r) (p.rows ++ new ∷ []))) rows ∙ ap (make p.rows) ends

  pub last-answered : step_client s (with_row at new p) (record { entry = entry p at (what.Out new.request.id rest); mark = None }) ≡ record p { count = suc p.count; moment = at }
  last-answered =
      let q = with_row at new p in
      let under : row_under q new.request.id ≡ Some new = last-passes (λ r. r.request.id == new.request.id) p.rows new (nat-same new.request.id) in
      let is_last : is_final_for new.request rest ≡ true = ap (passes (λ x. is_final x rest)) its ∙ final in
      let no_bind : is_bind_row new ≡ false = ap (passes (same_kind Bind)) its ∙ plain in
      let by : Bool → Bool → ClientState = λ f b. record (elim f [ false ↦ q | true ↦ elim b [ true ↦ with_bind_answer s None new.request rest (without (λ x. x.k == new.k) at q) | false ↦ without (λ x. x.k == new.k) at q ] ]) { moment = at; asked = p.asked } in
      ap (λ o. record (elim o [ None ↦ q | Some r ↦ with_answer s at None rest q r ]) { moment = at; asked = p.asked }) under
      ∙ ap (λ f. by f (is_bind_row new)) is_last
      ∙ ap (by true) no_bind
      ∙ ap (λ n. record (without (λ x. x.k == n) at q) { moment = at; asked = p.asked }) number
      ∙ ap (λ (x : ClientState). record x { moment = at; asked = p.asked }) last-ended

-- a request other than a Bind that is answered at once
pub did-at-once : (s : Settings) (p : ClientState) (d : ClientPart) (o : Counted) (at : ℕ) (m : Message) (kind : OpKind) (rest : List ℕ) (old new : Outbox) (xs : List Entry) → kind_of m.rest ≡ Some kind → same_kind Bind kind ≡ false → is_final kind rest ≡ true → (m.id == 0) ≡ false → lets_go_on (check_at s p m) ≡ false → IsNumbered d.operations → o ≡ record { count = d.operations.count + 1; rows = d.operations.rows } → Stands s p d → xs ≡ old.entries.items ++ entry p at (what.In m.id m.rest) ∷ [] → new.entries.items ≡ xs ++ entry p at (what.Out m.id rest) ∷ [] → new.letters.items ≡ old.letters.items → Did s p at None (act (what.In m.id m.rest ∷ what.Out m.id rest ∷ []) []) old new (record d { operations = o; moment = at })
did-at-once s p d o at m kind rest old new xs k plain final zero stays n is h first second letters = record {
  entries = two-entries _ _ _ _ _ first second;
  letters = letters ∙ sym (append-nil old.letters.items);
  stands =
      subst (λ (q : ClientState). Stands s q (record d { operations = o; moment = at }))
      (sym (ap (λ (q : ClientState). step_client s q (record { entry = entry p at (what.Out m.id rest); mark = None })) (request-came s p at m kind k plain zero stays)
      ∙ last-answered s p at (new_row s p m) kind rest refl (carried_kind s m p.identity ∙ k) plain final (none-next s p d n h) (new-unwritten s p m stays)))
      (moved s at (record p { count = suc p.count }) (record d { operations = o }) (stands-passed s p d o is h));
}
