-- What a message meets at a connection with one live Bind, and what becomes of this.
use Rattle.std.proofs.Common.{◌≡◌, ℕ, arith, Bool, true, false, ◌==◌, ◌&&◌, ◌||◌, not, if◌then◌else◌, List, [], ◌∷◌, ◌++◌, map, Option, Some, None, refl, ap, ◌∙◌, sym, subst}
use Rattle.std.proofs.lemmas.Bool.Decides.{nat_tests}
use Rattle.std.proofs.lemmas.List.{append-nil}
use Rattle.std.specs.Prelude.{flat_map, is_some, is_none}
use Rattle.std.specs.List.{list_any}
use Rattle.ldap_spec.specs.Messages.{Message}
use Rattle.ldap_spec.specs.Kinds.{is_final, is_intermediate, same_kind, fits, tag_of}
use Rattle.ldap_spec.specs.Responses.{result_code}
use Rattle.lload_names.specs.declared.names.OpName.{OpName}
use Rattle.lload_names.specs.declared.names.OpKind.{OpKind}
use Rattle.lload_names.specs.declared.names.OpKind.TheVariants.{Bind}
use Rattle.lload_spec.specs.BadMessages as bad
use Rattle.lload_spec.specs.BadMessages.{OpenRequest, MessageFacts}
use Rattle.id_table.specs.declared.row.Row.{Row}
use Rattle.id_table.specs.Rows.{row_of, answered as answered_row}
use Rattle.part_spec.specs.ConnectionState.{ConnectionState, UpRow, is_under, is_under_who, behind_message, behind_answer, behind_who, freed_id, lets_go, with_got, message_facts, open_request}
use Rattle.conn_core.specs.Conn.{Conn, state_of}
use Rattle.conn_core.specs.Kept.{up_row}
use Rattle.conn_core.proofs.Plain.{under-is, who-is}
use Rattle.bind_conn.specs.Part.{IsOneBind}
use Rattle.bind_conn.specs.Told.{told_of}
use Rattle.bind_conn.specs.declared.told.Told.TheVariants.{Unfit, More, Going, Success, Done}
use Rattle.bind_conn.proofs.Tells.{has, IsRead, more-is, unfit-is, going-is, success-is, done-is}

-- the one live Bind
pub alone : (id : ℕ) (rows : List Row) (r : Row) → IsOneBind rows → row_of id rows ≡ Some r → (rows ≡ r ∷ []) × (r.kind ≡ Bind) × ((r.id == id) ≡ true)
alone id [] r one h = absurd (let bad : ◌≡◌ {A = Option Row} None (Some r) = h in cc)
alone id (x ∷ xs) r one h = by (x.id == id) refl (subst (λ (l : List Row). (if x.id == id then Some x else row_of id l) ≡ Some r) one.1 h)
  where
    by : (b : Bool) → (x.id == id) ≡ b → (if b then Some x else None) ≡ Some r → (x ∷ xs ≡ r ∷ []) × (r.kind ≡ Bind) × ((r.id == id) ≡ true)
    by true t k = let same : x ≡ r = cc in (ap (λ (y : Row). y ∷ xs) same ∙ ap (λ (l : List Row). r ∷ l) one.1, ap (λ (y : Row). y.kind) (sym same) ∙ one.0, ap (λ (y : Row). y.id == id) (sym same) ∙ t)
    by false t k = absurd (let bad : ◌≡◌ {A = Option Row} None (Some r) = k in cc)

freed-none : (l xs : List UpRow) (x : UpRow) (id : ℕ) → l ≡ x ∷ xs → (let k : List ℕ = elim l [ [] ↦ id ∷ [] | y ∷ ys ↦ [] ] in k) ≡ []
freed-none [] xs x id h = absurd (cc)
freed-none (y ∷ ys) xs x id h = refl

freed-one : (l : List UpRow) (id : ℕ) → l ≡ [] → (let k : List ℕ = elim l [ [] ↦ id ∷ [] | y ∷ ys ↦ [] ] in k) ≡ id ∷ []
freed-one [] id h = refl
freed-one (y ∷ ys) id h = absurd (cc)

module _ (c : Conn) (h l : Option OpName) (at : ℕ) (m : Message) (r : Row) (rows : c.table.rows ≡ r ∷ []) where
  abbrev p : ConnectionState
  p = state_of c None h l []

  -- the state behind a message
  pub got-by : (xs : List UpRow) (ns : List ℕ) (f : Bool) → behind_message at m (up_row r) ≡ xs → freed_id at m (up_row r) ≡ ns → lets_go m (up_row r) ≡ f → with_got at m p ≡ record p { rows = xs ++ []; ids = record c.table.ids { free = c.table.ids.free ++ (ns ++ []) }; holder = if f || false then None else h }
  got-by xs ns f e g k =
      ap (λ (ys : List Row). record p { rows = flat_map (behind_message at m) (map up_row ys); ids = record c.table.ids { free = c.table.ids.free ++ flat_map (freed_id at m) (map up_row ys) }; holder = if list_any (lets_go m) (map up_row ys) then None else h }) rows
      ∙ ap (λ ys. record p { rows = ys ++ []; ids = record c.table.ids { free = c.table.ids.free ++ (freed_id at m (up_row r) ++ []) }; holder = if lets_go m (up_row r) || false then None else h }) e
      ∙ ap (λ ys. record p { rows = xs ++ []; ids = record c.table.ids { free = c.table.ids.free ++ (ys ++ []) }; holder = if lets_go m (up_row r) || false then None else h }) g
      ∙ ap (λ (b : Bool). record p { rows = xs ++ []; ids = record c.table.ids { free = c.table.ids.free ++ (ns ++ []) }; holder = if b || false then None else h }) k

  -- where a row stays
  pub got-stays : (x : UpRow) → behind_message at m (up_row r) ≡ x ∷ [] → lets_go m (up_row r) ≡ false → with_got at m p ≡ record p { rows = x ∷ [] }
  got-stays x e k = got-by (x ∷ []) [] false e (freed-none (behind_message at m (up_row r)) [] x r.id e) k ∙ ap (λ ns. record p { rows = x ∷ []; ids = record c.table.ids { free = ns } }) (append-nil c.table.ids.free)

  -- where it goes
  pub got-goes : (f : Bool) → behind_message at m (up_row r) ≡ [] → lets_go m (up_row r) ≡ f → with_got at m p ≡ record p { rows = []; ids = record c.table.ids { free = c.table.ids.free ++ r.id ∷ [] }; holder = if f || false then None else h }
  got-goes f e k = got-by [] (r.id ∷ []) f e (freed-one (behind_message at m (up_row r)) r.id e) k

  -- whether it is bad
  pub bad-is : bad.is_bad (message_facts p) m ≡ (if bad.is_ignored m then false else bad.is_bad_for (message_facts (record p { rows = up_row r ∷ [] })) m (if is_under m.id (up_row r) then Some (open_request (up_row r)) else None))
  bad-is = ap (λ (ys : List Row). bad.is_bad (message_facts (record p { rows = map up_row ys })) m) rows

-- A Bind that waits for its answer.
both : (a : Bool) → (a || false) ≡ a
both true = refl
both false = refl

under-go : (b u w f s n k e : Bool) → b ≡ true → u ≡ true → w ≡ false → (b && (u && (f && s && n && k) || w && e)) ≡ (f && s && n && k)
under-go true true false f s n k e g i j = both (f && s && n && k)
under-go false u w f s n k e g i j = absurd (let bad : false ≡ true = g in cc)
under-go true false w f s n k e g i j = absurd (let bad : false ≡ true = i in cc)
under-go true true true f s n k e g i j = absurd (let bad : true ≡ false = j in cc)

stay-first : (f s n k : Bool) → f ≡ false → (f && s && n && k) ≡ false
stay-first false s n k h = refl
stay-first true s n k h = absurd (let bad : true ≡ false = h in cc)

stay-third : (f s n k : Bool) → n ≡ false → (f && s && n && k) ≡ false
stay-third f s n k h = grind (arith, nat_tests, h)

stay-last : (f s n k : Bool) → k ≡ false → (f && s && n && k) ≡ false
stay-last f s n k h = grind (arith, nat_tests, h)

stay-two : (f s n k : Bool) → (f && s) ≡ false → (f && s && n && k) ≡ false
stay-two false s n k h = refl
stay-two true false n k h = refl
stay-two true true n k h = absurd (let bad : true ≡ false = h in cc)

go-all : (f s n k : Bool) → f ≡ true → s ≡ true → n ≡ true → k ≡ true → (f && s && n && k) ≡ true
go-all true true true true h i j g = refl
go-all false s n k h i j g = absurd (let bad : false ≡ true = h in cc)
go-all true false n k h i j g = absurd (let bad : false ≡ true = i in cc)
go-all true true false k h i j g = absurd (let bad : false ≡ true = j in cc)
go-all true true true false h i j g = absurd (let bad : false ≡ true = g in cc)

some-is : (c : Option ℕ) → is_none c ≡ false → is_some c ≡ true
some-is (Some n) h = refl
some-is None h = absurd (let bad : true ≡ false = h in cc)

module _ (at : ℕ) (m : Message) (r : Row) (bind : r.kind ≡ Bind) (waits : r.kept ≡ None) (here : (r.id == m.id) ≡ true) where
  abbrev rest : List ℕ
  rest = m.rest

  abbrev i : Bool
  i = is_intermediate rest

  abbrev f : Bool
  f = is_final Bind rest

  abbrev code : Option ℕ
  code = result_code rest

  abbrev keeps : Bool
  keeps = r.ask_who && has 0 code

  pub under : is_under m.id (up_row r) ≡ true
  under = under-is m.id r waits ∙ here

  pub not-who : is_under_who m.id (up_row r) ≡ false
  not-who = who-is m.id r waits

  -- the row behind it, by its parts
  abbrev final_by : Bool → Bool → List UpRow
  final_by k n =
      elim k [
        | true ↦ record (up_row r) { answered = at; kept = Some (record { rest = rest; who = None }) } ∷ []
        | false ↦ elim n [ true ↦ record (up_row r) { answered = at } ∷ [] | false ↦ [] ]
      ]

  abbrev answer_by : Bool → Bool → Bool → Bool → List UpRow
  answer_by g e k n =
      elim g [
        | false ↦ up_row r ∷ []
        | true ↦ elim e [ true ↦ final_by k n | false ↦ record (up_row r) { answered = at } ∷ [] ]
      ]

  behind-is : behind_message at m (up_row r) ≡ answer_by (f || i || false) f keeps (is_none code)
  behind-is =
      ap (λ (b : Bool). let x : List UpRow = elim b [ true ↦ behind_answer at rest (up_row r) | false ↦ elim (is_under_who m.id (up_row r)) [ true ↦ behind_who at rest (up_row r) | false ↦ up_row r ∷ [] ] ] in x) under
      ∙ ap (λ (k : OpKind). let x : List UpRow = elim (fits k rest) [ false ↦ up_row r ∷ [] | true ↦ elim (is_final k rest) [ true ↦ elim (same_kind Bind k) [ false ↦ [] | true ↦ final_by keeps (is_none code) ] | false ↦ record (up_row r) { answered = at } ∷ [] ] ] in x) bind

  go-is : lets_go m (up_row r) ≡ (f && is_some code && not (has 14 code) && not keeps)
  go-is = under-go (same_kind Bind r.kind) (is_under m.id (up_row r)) (is_under_who m.id (up_row r)) f (is_some code) (not (has 14 code)) (not keeps) (tag_of rest == 0x78) (ap (same_kind Bind) bind) under not-who

  answer-more : (g e k n : Bool) → g ≡ true → e ≡ false → answer_by g e k n ≡ record (up_row r) { answered = at } ∷ []
  answer-more true false k n a b = refl
  answer-more false e k n a b = absurd (let bad : false ≡ true = a in cc)
  answer-more true true k n a b = absurd (let bad : true ≡ false = b in cc)

  answer-goes : (g e k n : Bool) → g ≡ true → e ≡ true → k ≡ false → n ≡ false → answer_by g e k n ≡ []
  answer-goes true true false false a b c d = refl
  answer-goes false e k n a b c d = absurd (let bad : false ≡ true = a in cc)
  answer-goes true false k n a b c d = absurd (let bad : false ≡ true = b in cc)
  answer-goes true true true n a b c d = absurd (let bad : true ≡ false = c in cc)
  answer-goes true true false true a b c d = absurd (let bad : true ≡ false = d in cc)

  answer-kept : (g e k n : Bool) → g ≡ true → e ≡ true → k ≡ true → answer_by g e k n ≡ record (up_row r) { answered = at; kept = Some (record { rest = rest; who = None }) } ∷ []
  answer-kept true true true n a b c = refl
  answer-kept false e k n a b c = absurd (let bad : false ≡ true = a in cc)
  answer-kept true false k n a b c = absurd (let bad : false ≡ true = b in cc)
  answer-kept true true false n a b c = absurd (let bad : false ≡ true = c in cc)

  fit-by : (a b : Bool) → a ≡ true → (a || b || false) ≡ true
  fit-by true b h = refl
  fit-by false b h = absurd (let bad : false ≡ true = h in cc)

  part-by : (a b : Bool) → b ≡ true → (a || b || false) ≡ true
  part-by true true h = refl
  part-by false true h = refl
  part-by a false h = absurd (let bad : false ≡ true = h in cc)

  pub part-apart : is_intermediate rest ≡ true → is_final Bind rest ≡ false
  part-apart h = grind (arith, nat_tests, h)

  no-keeps : (a n : Bool) (o : Option ℕ) → has 14 o ≡ true → (a && has 0 o) ≡ false
  no-keeps a n None h = absurd (let bad : false ≡ true = h in cc)
  no-keeps a n (Some x) h = grind (arith, nat_tests, h)

  -- an intermediate response
  module _ (told : told_of r.ask_who rest ≡ More) where
    pub is-part : i ≡ true
    is-part = more-is r.ask_who i f code told

    pub more-row : behind_message at m (up_row r) ≡ up_row (answered_row at r) ∷ []
    more-row = behind-is ∙ answer-more (f || i || false) f keeps (is_none code) (part-by f i is-part) (part-apart is-part)

    pub more-stays : lets_go m (up_row r) ≡ false
    more-stays = go-is ∙ stay-first f (is_some code) (not (has 14 code)) (not keeps) (part-apart is-part)

  -- the exchange goes on
  module _ (told : told_of r.ask_who rest ≡ Going) where
    pub going : IsRead i f code × (has 14 code ≡ true)
    going = going-is r.ask_who i f code told

    pub going-row : behind_message at m (up_row r) ≡ []
    going-row = behind-is ∙ answer-goes (f || i || false) f keeps (is_none code) (fit-by f i going.0.final) going.0.final (no-keeps r.ask_who true code going.1) going.0.coded

    pub going-stays : lets_go m (up_row r) ≡ false
    going-stays = go-is ∙ stay-third f (is_some code) (not (has 14 code)) (not keeps) (ap not going.1)

  -- a success whose identity is asked for
  module _ (told : told_of r.ask_who rest ≡ Success) where
    pub success : IsRead i f code × (has 14 code ≡ false) × (keeps ≡ true)
    success = success-is r.ask_who i f code told

    pub success-row : behind_message at m (up_row r) ≡ record (up_row r) { answered = at; kept = Some (record { rest = rest; who = None }) } ∷ []
    success-row = behind-is ∙ answer-kept (f || i || false) f keeps (is_none code) (fit-by f i success.0.final) success.0.final success.2

    pub success-stays : lets_go m (up_row r) ≡ false
    success-stays = go-is ∙ stay-last f (is_some code) (not (has 14 code)) (not keeps) (ap not success.2)

  -- the last answer
  module _ (told : told_of r.ask_who rest ≡ Done) where
    pub done : IsRead i f code × (has 14 code ≡ false) × (keeps ≡ false)
    done = done-is r.ask_who i f code told

    pub done-row : behind_message at m (up_row r) ≡ []
    done-row = behind-is ∙ answer-goes (f || i || false) f keeps (is_none code) (fit-by f i done.0.final) done.0.final done.2 done.0.coded

    pub done-goes : lets_go m (up_row r) ≡ true
    done-goes = go-is ∙ go-all f (is_some code) (not (has 14 code)) (not keeps) done.0.final (some-is code done.0.coded) (ap not done.1) (ap not done.2)

  -- one that can't answer it
  answer-some : (g e k n : Bool) → (e && not n) ≡ false → (x : UpRow) × (answer_by g e k n ≡ x ∷ [])
  answer-some false e k n h = (up_row r, refl)
  answer-some true false k n h = (record (up_row r) { answered = at }, refl)
  answer-some true true true n h = (record (up_row r) { answered = at; kept = Some (record { rest = rest; who = None }) }, refl)
  answer-some true true false true h = (record (up_row r) { answered = at }, refl)
  answer-some true true false false h = absurd (let bad : true ≡ false = h in cc)

  unread : (e : Bool) (o : Option ℕ) → (e && not (is_none o)) ≡ false → (e && is_some o) ≡ false
  unread e None h = h
  unread e (Some n) h = h

  module _ (told : told_of r.ask_who rest ≡ Unfit) where
    pub unfit-row : (x : UpRow) × (behind_message at m (up_row r) ≡ x ∷ [])
    unfit-row =
        let y = answer-some (f || i || false) f keeps (is_none code) (unfit-is r.ask_who i f code told).1 in
        (y.0, behind-is ∙ y.1)

    pub unfit-stays : lets_go m (up_row r) ≡ false
    unfit-stays = go-is ∙ stay-two f (is_some code) (not (has 14 code)) (not keeps) (unread f code (unfit-is r.ask_who i f code told).1)
