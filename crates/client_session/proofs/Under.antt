-- The live operation under an identifier, where it ends.
use Rattle.std.proofs.Common.{◌≡◌, ◌≤◌, ◌<◌, ◌+◌, ℕ, max, Bool, true, false, not, ◌==◌, ◌&&◌, ◌||◌, cond, if◌then◌else◌, List, [], ◌∷◌, ◌++◌, filter, find, length, map, Option, Some, None, arith, refl, ap, subst, sym, ◌∙◌}
use Rattle.std.proofs.lemmas.Bool.Decides.{nat_tests}
use Rattle.std.specs.List.{list_any}
use Rattle.std.specs.Option.{option_map, OnSome}
use Rattle.lload_names.specs.Same.{same_kind}
use Rattle.lload_names.specs.declared.names.OpKind.TheVariants.{Bind}
use Rattle.lload_spec.specs.Lists.{passes}
use Rattle.lload_spec.specs.Settings.{Settings, Reject}
use Rattle.part_spec.specs.ClientState.{ClientRow, ClientState, is_written, without, facts_of, check_at, is_asked_for, abandons, with_bind, with_request, next_name, is_bind_row, step_client}
use Rattle.std.specs.Prelude.{is_none}
use Rattle.std.specs.Str.{bytes_eq}
use Rattle.ldap_spec.specs.Tags.{bind_version}
use Rattle.ldap_spec.specs.Kinds.{is_abandon, is_unbind}
use Rattle.ldap_spec.specs.Messages.{Message}
use Rattle.ldap_spec.specs.Requests.{Request, BindRequest, UnbindRequest, AbandonRequest, ExtendedRequest, PlainRequest, request, cancel_id}
use Rattle.ldap_spec.specs.Controls.{controls, start_tls, cancel_name}
use Rattle.lload_names.specs.declared.names.CancelAnswer.TheVariants.{C14, C15, C16}
use Rattle.lload_names.specs.declared.names.EndWhy.TheVariants.{ZeroId, IdInUse, Unreadable}
use Rattle.lload_names.specs.declared.names.OpKind.{OpKind}
use Rattle.lload_names.specs.declared.names.Posted.{Posted}
use Rattle.lload_names.specs.declared.names.Refusal.TheVariants.{C2, C6, C7, C8, C10, C11}
use Rattle.lload_names.specs.declared.names.What.TheVariants as what
use Rattle.lload_spec.specs.Binding.{action, is_action, kind_wanted}
use Rattle.lload_spec.specs.Entries.{makes_operation}
use Rattle.lload_spec.specs.FirstCheck.{Check, Ends, Unbinds, Abandons, Refuses, Answers, Cancels, GoesOn, ClientFacts, LiveRequest, is_in_use, is_proxied_already, is_full, may_be_canceled, cancels, check_cancel, check_restrictions, check_named, check_request}
use Rattle.lload_spec.specs.Operations.{is_request_of, abandons_id}
use Rattle.part_spec.specs.Inputs.{act, entries_of}
use Rattle.part_spec.specs.ClientTurn as turn
use Rattle.part_spec.specs.ClientTurn.{by_check}
use Rattle.outbox.specs.declared.outbox.Outbox.{Outbox}
use Rattle.client_laws.proofs.NamesNone.{request_names_none}
use Rattle.client_rows.specs.Rows.{has_number, has_id, is_bind, IsNumbered, Rises}
use Rattle.client_rows.specs.declared.row.Row.{Row}
use Rattle.client_session.specs.declared.part.ClientPart.{ClientPart}
use Rattle.client_session.specs.Closing.{drop_of}
use Rattle.client_session.specs.Did.{Did}
use Rattle.client_session.specs.Under.{names, named_drop}
use Rattle.client_session.specs.Stands.{Seen, seen, shown, Stands}
use Rattle.client_session.proofs.Chosen.{moved}
use Rattle.client_session.proofs.Closings.{drop-shown}
use Rattle.client_session.proofs.Leaves.{stopped}
use Rattle.client_session.proofs.Rules.{entry}
use Rattle.client_session.proofs.Through.{find-through}

-- two tests that say the same of each element

module _ {A : Type 0} (t u : A → Bool) where
  same-tests : (xs : List A) → map t xs ≡ map u xs → (filter (λ x. not (t x)) xs ≡ filter (λ x. not (u x)) xs) × ((q : A → Bool) → list_any (λ x. t x && q x) xs ≡ list_any (λ x. u x && q x) xs)
  same-tests [] e = (refl, λ q. refl)
  same-tests (x ∷ xs) e =
      let first : t x ≡ u x = cc in
      let rest : map t xs ≡ map u xs = cc in
      let ih = same-tests xs rest in (
        ap (λ b. cond (not b) (x ∷ filter (λ y. not (t y)) xs) (filter (λ y. not (t y)) xs)) first ∙ ap (λ l. cond (not (u x)) (x ∷ l) l) ih.0,
        λ q. ap (λ b. b && q x || list_any (λ y. t y && q y) xs) first ∙ ap (λ b. u x && q x || b) (ih.1 q),
      )

pub without-tests : (t u : ClientRow → Bool) (at : ℕ) (p : ClientState) → map t p.rows ≡ map u p.rows → without t at p ≡ without u at p
without-tests t u at p e =
    let same = same-tests t u p.rows e in
    let make : List ClientRow → Bool → ClientState = λ rows ends. record p { rows = rows; window = record p.window { write_ended = if ends then max at p.window.write_ended else p.window.write_ended } } in
    ap (λ rows. make rows (list_any (λ r. t r && is_written r) p.rows)) same.0 ∙ ap (make (filter (λ r. not (u r)) p.rows)) (same.1 is_written)

map-map : {A B C : Type 0} (f : A → B) (g : B → C) (xs : List A) → map g (map f xs) ≡ map (λ x. g (f x)) xs
map-map f g [] = refl
map-map f g (x ∷ xs) = ap (λ l. g (f x) ∷ l) (map-map f g xs)

pub tests-through : (s : Settings) (t u : Seen → Bool) (xs : List ClientRow) (ys : List Row) → map (seen s) xs ≡ map shown ys → map (λ y. t (shown y)) ys ≡ map (λ y. u (shown y)) ys → map (λ x. t (seen s x)) xs ≡ map (λ x. u (seen s x)) xs
tests-through s t u xs ys e k =
    sym (map-map (seen s) t xs) ∙ ap (map t) e ∙ map-map shown t ys ∙ k ∙ sym (map-map shown u ys) ∙ ap (map u) (sym e) ∙ map-map (seen s) u xs

-- what is kept under an identifier

abbrev pub named_seen : ℕ → Seen → Bool
named_seen id v = not (passes (same_kind Bind) v.kind) && id == v.id

none-number : (k low : ℕ) (rs : List Row) (next : ℕ) → k < low → Rises low rs next → map (has_number k) rs ≡ map (λ r. false) rs
none-number k low [] next l h = refl
none-number k low (r ∷ rs) next l h =
    let other : has_number k r ≡ false = grind (arith, nat_tests, l, h.0) in
    rw (other, none-number k (r.k + 1) rs next (omega (arith, l, h.0)) h.1) refl

turned : (id n : ℕ) → (id == n) ≡ (n == id)
turned id n = grind (arith, nat_tests)

none-named : (id : ℕ) (rs : List Row) → filter (has_id id) rs ≡ [] → map (λ r. named_seen id (shown r)) rs ≡ map (λ r. false) rs
none-named id [] e = refl
none-named id (r ∷ rs) e = by (r.id == id) refl e (none-named id rs)
  where
    by : (b : Bool) → (r.id == id) ≡ b → cond b (r ∷ filter (has_id id) rs) (filter (has_id id) rs) ≡ [] → (filter (has_id id) rs ≡ [] → map (λ r. named_seen id (shown r)) rs ≡ map (λ r. false) rs) → (not (is_bind r) && id == r.id) ∷ map (λ r. named_seen id (shown r)) rs ≡ false ∷ map (λ r. false) rs
    by true f g ih = absurd (let bad : ◌≡◌ {A = List Row} (r ∷ filter (has_id id) rs) [] = g in cc)
    by false f g ih = rw (turned id r.id, f, and-false (not (is_bind r)), ih g) refl
      where
        and-false : (b : Bool) → (b && false) ≡ false
        and-false true = refl
        and-false false = refl

in-filter : (id low : ℕ) (rs : List Row) (next : ℕ) (row : Row) → Rises low rs next → filter (has_id id) rs ≡ row ∷ [] → low ≤ row.k
in-filter id low [] next row h e = absurd (let bad : ◌≡◌ {A = List Row} [] (row ∷ []) = e in cc)
in-filter id low (r ∷ rs) next row h e = by (r.id == id) e (in-filter id (r.k + 1) rs next row h.1)
  where
    by : (b : Bool) → cond b (r ∷ filter (has_id id) rs) (filter (has_id id) rs) ≡ row ∷ [] → (filter (has_id id) rs ≡ row ∷ [] → r.k + 1 ≤ row.k) → low ≤ row.k
    by true g ih = let same : r ≡ row = cc in let k : r.k ≡ row.k = ap (λ x. x.k) same in omega (arith, h.0, k)
    by false g ih = let i = ih g in omega (arith, i, h.0)

pub one-named : (id low : ℕ) (rs : List Row) (next : ℕ) (row : Row) → Rises low rs next → filter (has_id id) rs ≡ row ∷ [] → is_bind row ≡ false → map (λ r. named_seen id (shown r)) rs ≡ map (has_number row.k) rs
one-named id low [] next row h e b = refl
one-named id low (r ∷ rs) next row h e b = by (r.id == id) refl e (λ g. one-named id (r.k + 1) rs next row h.1 g b)
  where
    by : (c : Bool) → (r.id == id) ≡ c → cond c (r ∷ filter (has_id id) rs) (filter (has_id id) rs) ≡ row ∷ [] → (filter (has_id id) rs ≡ row ∷ [] → map (λ r. named_seen id (shown r)) rs ≡ map (has_number row.k) rs) → (not (is_bind r) && id == r.id) ∷ map (λ r. named_seen id (shown r)) rs ≡ has_number row.k r ∷ map (has_number row.k) rs
    by true f g ih =
        let same : r ≡ row = cc in
        let rest : filter (has_id id) rs ≡ [] = cc in
        let here : has_number row.k r ≡ true = let k : r.k ≡ row.k = ap (λ x. x.k) same in grind (arith, nat_tests, k) in
        let plain : is_bind r ≡ false = ap is_bind same ∙ b in
        let low_k : row.k < r.k + 1 = let k : r.k ≡ row.k = ap (λ x. x.k) same in omega (arith, k) in
        rw (turned id r.id, f, plain, here, none-named id rs rest, none-number row.k (r.k + 1) rs next low_k h.1) refl
    by false f g ih =
        let above = in-filter id (r.k + 1) rs next row h.1 g in
        let other : has_number row.k r ≡ false = grind (arith, nat_tests, above) in
        rw (turned id r.id, f, and-false (not (is_bind r)), other, ih g) refl
      where
        and-false : (x : Bool) → (x && false) ≡ false
        and-false true = refl
        and-false false = refl

pub bind-named : (id : ℕ) (rs : List Row) (row : Row) → filter (has_id id) rs ≡ row ∷ [] → is_bind row ≡ true → map (λ r. named_seen id (shown r)) rs ≡ map (λ r. false) rs
bind-named id [] row e b = refl
bind-named id (r ∷ rs) row e b = by (r.id == id) refl e (λ g. bind-named id rs row g b)
  where
    by : (c : Bool) → (r.id == id) ≡ c → cond c (r ∷ filter (has_id id) rs) (filter (has_id id) rs) ≡ row ∷ [] → (filter (has_id id) rs ≡ row ∷ [] → map (λ r. named_seen id (shown r)) rs ≡ map (λ r. false) rs) → (not (is_bind r) && id == r.id) ∷ map (λ r. named_seen id (shown r)) rs ≡ false ∷ map (λ r. false) rs
    by true f g ih =
        let same : r ≡ row = cc in
        let rest : filter (has_id id) rs ≡ [] = cc in
        let binds : is_bind r ≡ true = ap is_bind same ∙ b in
        rw (binds, none-named id rs rest) refl
    by false f g ih = rw (turned id r.id, f, and-false (not (is_bind r)), ih g) refl
      where
        and-false : (x : Bool) → (x && false) ≡ false
        and-false true = refl
        and-false false = refl

-- of the state

pub names-one : (s : Settings) (p : ClientState) (d : ClientPart) (id : ℕ) (row : Row) → IsNumbered d.operations → Stands s p d → filter (has_id id) d.operations.rows ≡ row ∷ [] → is_bind row ≡ false → map (names id) p.rows ≡ map (λ r. r.k == row.k) p.rows
names-one s p d id row n h e b = tests-through s (named_seen id) (λ v. v.k == row.k) p.rows d.operations.rows h.live.rows_are (one-named id 0 d.operations.rows (d.operations.count + 1) row n e b)

pub names-none : (s : Settings) (p : ClientState) (d : ClientPart) (id : ℕ) → Stands s p d → map (λ r. named_seen id (shown r)) d.operations.rows ≡ map (λ r. false) d.operations.rows → map (names id) p.rows ≡ map (λ r. false) p.rows
names-none s p d id h e = tests-through s (named_seen id) (λ v. false) p.rows d.operations.rows h.live.rows_are e

keeps-all : {A : Type 0} (xs : List A) → filter (λ x. not false) xs ≡ xs
keeps-all [] = refl
keeps-all (x ∷ xs) = ap (λ l. x ∷ l) (keeps-all xs)

any-never : {A : Type 0} (q : A → Bool) (xs : List A) → list_any (λ x. false && q x) xs ≡ false
any-never q [] = refl
any-never q (x ∷ xs) = any-never q xs

-- nothing ends where none is named
pub without-none : (s : Settings) (p : ClientState) (d : ClientPart) (id at : ℕ) → Stands s p d → map (λ r. named_seen id (shown r)) d.operations.rows ≡ map (λ r. false) d.operations.rows → without (names id) at p ≡ p
without-none s p d id at h e =
    let make : List ClientRow → Bool → ClientState = λ rows ends. record p { rows = rows; window = record p.window { write_ended = if ends then max at p.window.write_ended else p.window.write_ended } } in
    without-tests (names id) (λ r. false) at p (names-none s p d id h e)
    ∙ ap (λ rows. make rows (list_any (λ r. false && is_written r) p.rows)) (keeps-all p.rows) ∙ ap (make p.rows) (any-never is_written p.rows)

-- the tests find the same
same-found : {A : Type 0} (t u : A → Bool) (xs : List A) → map t xs ≡ map u xs → find t xs ≡ find u xs
same-found t u [] e = refl
same-found t u (x ∷ xs) e =
    let first : t x ≡ u x = cc in
    let rest : map t xs ≡ map u xs = cc in
    ap (λ b. cond b (Some x) (find t xs)) first ∙ ap (λ o. cond (u x) (Some x) o) (same-found t u xs rest)

-- and its Drop

found-named : (id : ℕ) (rs : List Row) (row : Row) → filter (has_id id) rs ≡ row ∷ [] → is_bind row ≡ false → find (λ r. named_seen id (shown r)) rs ≡ Some row
found-named id [] row e b = absurd (let bad : ◌≡◌ {A = List Row} [] (row ∷ []) = e in cc)
found-named id (r ∷ rs) row e b = by (r.id == id) refl e (λ g. found-named id rs row g b)
  where
    by : (c : Bool) → (r.id == id) ≡ c → cond c (r ∷ filter (has_id id) rs) (filter (has_id id) rs) ≡ row ∷ [] → (filter (has_id id) rs ≡ row ∷ [] → find (λ r. named_seen id (shown r)) rs ≡ Some row) → cond (not (is_bind r) && id == r.id) (Some r) (find (λ r. named_seen id (shown r)) rs) ≡ Some row
    by true f g ih =
        let same : r ≡ row = cc in
        let plain : is_bind r ≡ false = ap is_bind same ∙ b in
        rw (turned id r.id, f, plain) (ap (λ x. Some x) same)
    by false f g ih = rw (turned id r.id, f, and-false (not (is_bind r))) (ih g)
      where
        and-false : (x : Bool) → (x && false) ≡ false
        and-false true = refl
        and-false false = refl

none-found : {A : Type 0} (t : A → Bool) (xs : List A) → map t xs ≡ map (λ x. false) xs → find t xs ≡ None
none-found t [] e = refl
none-found t (x ∷ xs) e =
    let first : t x ≡ false = cc in
    let rest : map t xs ≡ map (λ y. false) xs = cc in
    ap (λ b. cond b (Some x) (find t xs)) first ∙ none-found t xs rest

drop-by : (s : Settings) (p : ClientState) (o : Option ClientRow) (x : Option Row) → option_map (seen s) o ≡ option_map shown x → ◌≡◌ {A = List Posted} (elim o [ None ↦ [] | Some r ↦ turn.drop_of p r ]) (elim x [ None ↦ [] | Some row ↦ drop_of p.number row ])
drop-by s p None None e = refl
drop-by s p (Some r) (Some row) e = drop-shown s p r row (let same : shown row ≡ seen s r = cc in same)
drop-by s p None (Some row) e = absurd (let bad : ◌≡◌ {A = Option Seen} None (Some (shown row)) = e in cc)
drop-by s p (Some r) None e = absurd (let bad : ◌≡◌ {A = Option Seen} (Some (seen s r)) None = e in cc)

module _ (s : Settings) (p : ClientState) (d : ClientPart) (id : ℕ) (h : Stands s p d) where
  drop-through : (x : Option Row) → find (λ r. named_seen id (shown r)) d.operations.rows ≡ x → named_drop p id ≡ elim x [ None ↦ [] | Some row ↦ drop_of d.number row ]
  drop-through x e =
      drop-by s p (find (names id) p.rows) x (find-through (seen s) shown (named_seen id) p.rows d.operations.rows h.live.rows_are ∙ ap (option_map shown) e)
      ∙ ap (λ n. elim x [ None ↦ [] | Some row ↦ drop_of n row ]) h.number

  pub drop-one : (row : Row) → filter (has_id id) d.operations.rows ≡ row ∷ [] → is_bind row ≡ false → named_drop p id ≡ drop_of d.number row
  drop-one row e b = drop-through (Some row) (found-named id d.operations.rows row e b)

  pub drop-none : map (λ r. named_seen id (shown r)) d.operations.rows ≡ map (λ r. false) d.operations.rows → named_drop p id ≡ []
  drop-none e = drop-through None (none-found (λ r. named_seen id (shown r)) d.operations.rows e)

pub none-under : (id : ℕ) (rs : List Row) → filter (has_id id) rs ≡ [] → map (λ r. named_seen id (shown r)) rs ≡ map (λ r. false) rs
none-under id rs e = none-named id rs e

-- it is the one of its number
pub one-number : (id : ℕ) (d : ClientPart) (row : Row) → IsNumbered d.operations → filter (has_id id) d.operations.rows ≡ row ∷ [] → is_bind row ≡ false → find (has_number row.k) d.operations.rows ≡ Some row
one-number id d row n e b = sym (same-found (λ r. named_seen id (shown r)) (has_number row.k) d.operations.rows (one-named id 0 d.operations.rows (d.operations.count + 1) row n e b)) ∙ found-named id d.operations.rows row e b

pub on-some : {X : Type 0} (o : Option Row) (x : Row) → o ≡ Some x → OnSome o X → X
on-some None x e h = absurd (let bad : ◌≡◌ {A = Option Row} None (Some x) = e in cc)
on-some (Some y) x e h = h

-- what an Abandon names

abbrev is_abandon_check : Check → Bool
is_abandon_check (Abandons id) = true
is_abandon_check _ = false

abbrev named_by : ClientFacts → Message → Bool → Bool → Bool → Bool → Bool → Bool → Bool → Check
named_by f m a b c d x y z =
    if a then Ends Unreadable else if b then Refuses C7 else if c then Refuses C10 else if d then check_cancel f m.id (cancel_id m.rest) else if x then Refuses C8 else if y then Refuses C6 else if z then Refuses C2 else GoesOn

cancels-no-abandon : (f : ClientFacts) (i : ℕ) (o : Option ℕ) → is_abandon_check (check_cancel f i o) ≡ false
cancels-no-abandon f i None = refl
cancels-no-abandon f i (Some named) = by (named == i)
  where
    kinds : (x : LiveRequest) (o : Option OpKind) → is_abandon_check (elim o [ None ↦ Answers C14 | Some kind ↦ Cancels x.id kind ]) ≡ false
    kinds x None = refl
    kinds x (Some kind) = refl

    found : (o : Option LiveRequest) → is_abandon_check (cancels o) ≡ false
    found None = refl
    found (Some x) = kinds x x.kind

    by : (b : Bool) → is_abandon_check (elim b [ true ↦ Answers C15 | false ↦ cancels (find (may_be_canceled named) f.live) ]) ≡ false
    by true = refl
    by false = found (find (may_be_canceled named) f.live)

named-no-abandon : (s : Settings) (f : ClientFacts) (m : Message) (name : List ℕ) → is_abandon_check (check_named s f m name) ≡ false
named-no-abandon s f m name = by (is_none (controls m.rest)) f.in_exchange (bytes_eq name start_tls) (bytes_eq name cancel_name) (is_proxied_already s f m.rest) (is_action Reject (action s m.rest)) (is_full s f)
  where
    by : (a b c d x y z : Bool) → is_abandon_check (named_by f m a b c d x y z) ≡ false
    by true b c d x y z = refl
    by false true c d x y z = refl
    by false false true d x y z = refl
    by false false false true x y z = cancels-no-abandon f m.id (cancel_id m.rest)
    by false false false false true y z = refl
    by false false false false false true z = refl
    by false false false false false false true = refl
    by false false false false false false false = refl

pub abandoned : (s : Settings) (p : ClientState) (m : Message) (id : ℕ) → check_at s p m ≡ Abandons id → ((m.id == 0) ≡ false) × (request m.rest ≡ Some (AbandonRequest id))
abandoned s p m id e = by (m.id == 0) refl (makes_operation m && is_in_use (facts_of p) m.id) (request m.rest) refl e
  where
    version : (b : Bool) → (if b then GoesOn else Refuses C11) ≡ Abandons id → ((m.id == 0) ≡ false) × (request m.rest ≡ Some (AbandonRequest id))
    version true k = absurd (let bad : ◌≡◌ {A = Check} GoesOn (Abandons id) = k in cc)
    version false k = absurd (let bad : ◌≡◌ {A = Check} (Refuses C11) (Abandons id) = k in cc)

    by : (z : Bool) → (m.id == 0) ≡ z → (b : Bool) (o : Option Request) → request m.rest ≡ o → (if z then Ends ZeroId else if b then Ends IdInUse else check_request s (facts_of p) m o) ≡ Abandons id → ((m.id == 0) ≡ false) × (request m.rest ≡ Some (AbandonRequest id))
    by true z b o r k = absurd (let bad : ◌≡◌ {A = Check} (Ends ZeroId) (Abandons id) = k in cc)
    by false z true o r k = absurd (let bad : ◌≡◌ {A = Check} (Ends IdInUse) (Abandons id) = k in cc)
    by false z false None r k = absurd (let bad : ◌≡◌ {A = Check} (Ends Unreadable) (Abandons id) = k in cc)
    by false z false (Some UnbindRequest) r k = absurd (let bad : ◌≡◌ {A = Check} Unbinds (Abandons id) = k in cc)
    by false z false (Some (AbandonRequest i)) r k = let same : i ≡ id = cc in (z, r ∙ ap (λ n. Some (AbandonRequest n)) same)
    by false z false (Some (BindRequest v name method)) r k = version (v == bind_version) k
    by false z false (Some (ExtendedRequest name)) r k = absurd (let bad : true ≡ false = ap is_abandon_check (sym k) ∙ named-no-abandon s (facts_of p) m name in cc)
    by false z false (Some (PlainRequest kind)) r k = absurd (let bad : true ≡ false = ap is_abandon_check (sym k) ∙ named-no-abandon s (facts_of p) m [] in cc)

abandon-makes-none : (m : Message) (id : ℕ) → request m.rest ≡ Some (AbandonRequest id) → makes_operation m ≡ false
abandon-makes-none m id e = by (is_abandon m.rest) refl
  where
    named : (id == id) ≡ true
    named = grind (arith, nat_tests)

    and-false : (b : Bool) → (b && false) ≡ false
    and-false true = refl
    and-false false = refl

    by : (b : Bool) → is_abandon m.rest ≡ b → makes_operation m ≡ false
    by true f = ap (λ b. not (m.id == 0) && not (is_unbind m.rest) && not b) f ∙ and-false (not (m.id == 0) && not (is_unbind m.rest))
    by false f = absurd (let bad : true ≡ false = sym named ∙ sym (ap (abandons_id id) e) ∙ request_names_none id m.rest f in cc)

abandons-is : (m : Message) (id : ℕ) → (m.id == 0) ≡ false → request m.rest ≡ Some (AbandonRequest id) → abandons m ≡ names id
abandons-is m id z e =
    let by : Bool → Option Request → ClientRow → Bool = λ zero o r. not zero && not (is_bind_row r) && abandons_id r.request.id o in
    ap (λ zero. by zero (request m.rest)) z ∙ ap (by false) e

pub did-abandon : (s : Settings) (p : ClientState) (d e : ClientPart) (at : ℕ) (m : Message) (id : ℕ) (old new : Outbox) → check_at s p m ≡ Abandons id → Stands s p d → Stands s (without (names id) at p) e → new.entries.items ≡ old.entries.items ++ entry p at (what.In m.id m.rest) ∷ [] → new.letters.items ≡ old.letters.items ++ named_drop p id → Did s p at None (by_check s p at m (Abandons id)) old new (record e { moment = at })
did-abandon s p d e at m id old new found h k entries letters =
    let known = abandoned s p m id found in
    let test = abandons-is m id known.0 known.1 in
    let make : Bool → Bool → ClientState = λ makes asks. record (elim makes [ false ↦ without (abandons m) at p | true ↦ elim (is_request_of Bind m) [ true ↦ with_bind s m p | false ↦ with_request s m p ] ]) { moment = at; asked = if asks then p.asked ++ record { op = next_name p; kind = kind_wanted m } ∷ [] else p.asked } in
    record {
      entries = entries;
      letters = letters ∙ ap (λ t. old.letters.items ++ elim (find t p.rows) [ None ↦ [] | Some r ↦ turn.drop_of p r ]) (sym test);
      stands =
          subst (λ (q : ClientState). Stands s q (record e { moment = at }))
          (sym (ap (λ b. make b (is_asked_for s p m)) (abandon-makes-none m id known.1) ∙ ap (make false) (stopped s p m (Abandons id) found refl) ∙ ap (λ t. record (without t at p) { moment = at }) test))
          (moved s at (without (names id) at p) e k);
    }
