-- A message at a regular connection: what it meets, and the state behind it.
use Rattle.std.proofs.Common.{◌≡◌, ℕ, Bool, true, false, ◌==◌, if◌then◌else◌, List, [], ◌∷◌, ◌++◌, map, Option, Some, None, refl, ap, ◌∙◌, sym, subst}
use Rattle.std.specs.Prelude.{flat_map}
use Rattle.ldap_spec.specs.Messages.{Message}
use Rattle.ldap_spec.specs.Kinds.{fits, is_final, same_kind}
use Rattle.lload_names.specs.declared.names.OpName.{OpName}
use Rattle.lload_names.specs.declared.names.OpKind.TheVariants.{Bind}
use Rattle.lload_spec.specs.BadMessages as bad
use Rattle.lload_spec.specs.BadMessages.{OpenRequest, MessageFacts}
use Rattle.id_table.specs.declared.row.Row.{Row}
use Rattle.id_table.specs.Rows.{row_of, answered}
use Rattle.part_spec.specs.ConnectionState.{ConnectionState, UpRow, OwnWait as UpWait, is_under, is_under_who, is_under_own, behind_message, freed_id, frees_holder, with_got, message_facts}
use Rattle.conn_core.specs.Conn.{Conn, state_of}
use Rattle.conn_core.specs.Kept.{up_row, IsPlain, ArePlain}
use Rattle.conn_core.proofs.Plain.{Leaves, Skips, under-is, who-is}
use Rattle.upstream_conn.specs.Part.{up_wait, under_own}
use Rattle.upstream_conn.specs.Told.{told_of}
use Rattle.upstream_conn.specs.declared.part.OwnWait.{OwnWait}
use Rattle.upstream_conn.specs.declared.told.Told.{Told}
use Rattle.upstream_conn.specs.declared.told.Told.TheVariants.{Unfit, More, Last}

-- The own Bind.

pub under-own-is : (id : ℕ) (o : Option OwnWait) (c : Conn) (waiting : List ℕ) → is_under_own (state_of c (up_wait o) None None waiting) id ≡ under_own id o
under-own-is id None c waiting = refl
under-own-is id (Some w) c waiting = refl

pub for-own-is : (m : Message) (o : Option OwnWait) (c : Conn) (waiting : List ℕ) → bad.is_for_own (message_facts (state_of c (up_wait o) None None waiting)) m ≡ under_own m.id o
for-own-is m None c waiting = refl
for-own-is m (Some w) c waiting = refl

-- What a message tells of an operation.

abbrev pub told_by : Bool → Bool → Told
told_by f l = elim f [ false ↦ Unfit | true ↦ elim l [ true ↦ Last | false ↦ More ] ]

pub told-more : (f l : Bool) → told_by f l ≡ More → (f ≡ true) × (l ≡ false)
told-more false l h = absurd (let bad : Unfit ≡ More = h in cc)
told-more true true h = absurd (let bad : Last ≡ More = h in cc)
told-more true false h = (refl, refl)

pub told-last : (f l : Bool) → told_by f l ≡ Last → (f ≡ true) × (l ≡ true)
told-last false l h = absurd (let bad : Unfit ≡ Last = h in cc)
told-last true false h = absurd (let bad : More ≡ Last = h in cc)
told-last true true h = (refl, refl)

pub told-unfit : (f l : Bool) → told_by f l ≡ Unfit → f ≡ false
told-unfit false l h = refl
told-unfit true true h = absurd (let bad : Last ≡ Unfit = h in cc)
told-unfit true false h = absurd (let bad : More ≡ Unfit = h in cc)

-- A row under a message.

pub id-is : (id : ℕ) (rows : List Row) (r : Row) → row_of id rows ≡ Some r → (r.id == id) ≡ true
id-is id [] r h = absurd (let bad : ◌≡◌ {A = Option Row} None (Some r) = h in cc)
id-is id (x ∷ xs) r h = by (x.id == id) refl h (id-is id xs r)
  where
    by : (b : Bool) → (x.id == id) ≡ b → (if b then Some x else row_of id xs) ≡ Some r → (row_of id xs ≡ Some r → (r.id == id) ≡ true) → (r.id == id) ≡ true
    by true t k ih = let same : x ≡ r = cc in ap (λ (y : Row). y.id == id) (sym same) ∙ t
    by false t k ih = ih k

pub plain-at : (id : ℕ) (rows : List Row) (r : Row) → ArePlain rows → row_of id rows ≡ Some r → IsPlain r
plain-at id [] r p h = absurd (let bad : ◌≡◌ {A = Option Row} None (Some r) = h in cc)
plain-at id (x ∷ xs) r p h = by (x.id == id) h (plain-at id xs r p.1)
  where
    by : (b : Bool) → (if b then Some x else row_of id xs) ≡ Some r → (row_of id xs ≡ Some r → IsPlain r) → IsPlain r
    by true k ih = let same : x ≡ r = cc in subst IsPlain same p.0
    by false k ih = ih k

module _ (at : ℕ) (m : Message) where
  under-pick : (a b : Bool) (x y z : List UpRow) → a ≡ true → (elim a [ true ↦ x | false ↦ elim b [ true ↦ y | false ↦ z ] ]) ≡ x
  under-pick true b x y z h = refl
  under-pick false b x y z h = absurd (let bad : false ≡ true = h in cc)

  apart-pick : (a b : Bool) (x y z : List UpRow) → a ≡ false → b ≡ false → (elim a [ true ↦ x | false ↦ elim b [ true ↦ y | false ↦ z ] ]) ≡ z
  apart-pick false false x y z h k = refl
  apart-pick true b x y z h k = absurd (let bad : true ≡ false = h in cc)
  apart-pick false true x y z h k = absurd (let bad : true ≡ false = k in cc)

  pub leaves : Leaves (behind_message at m) m.id
  leaves r p e = apart-pick (is_under m.id (up_row r)) (is_under_who m.id (up_row r)) _ _ _ (under-is m.id r p.kept ∙ e) (who-is m.id r p.kept)

  freed-none : (l : List UpRow) (x : UpRow) (id : ℕ) → l ≡ x ∷ [] → (let k : List ℕ = elim l [ [] ↦ id ∷ [] | y ∷ ys ↦ [] ] in k) ≡ []
  freed-none [] x id h = absurd (cc)
  freed-none (y ∷ ys) x id h = refl

  freed-one : (l : List UpRow) (id : ℕ) → l ≡ [] → (let k : List ℕ = elim l [ [] ↦ id ∷ [] | y ∷ ys ↦ [] ] in k) ≡ id ∷ []
  freed-one [] id h = refl
  freed-one (y ∷ ys) id h = absurd (cc)

  pub skips : Skips (freed_id at m) m.id
  skips r p e = freed-none (behind_message at m (up_row r)) (up_row r) r.id (leaves r p e)

  answer-pick : (f l b : Bool) (x y z : List UpRow) → f ≡ true → l ≡ true → (elim f [ false ↦ z | true ↦ elim l [ true ↦ x | false ↦ y ] ]) ≡ x
  answer-pick true true b x y z h k = refl
  answer-pick false l b x y z h k = absurd (let bad : false ≡ true = h in cc)
  answer-pick true false b x y z h k = absurd (let bad : false ≡ true = k in cc)

  more-pick : (f l : Bool) (x y z : List UpRow) → f ≡ true → l ≡ false → (elim f [ false ↦ z | true ↦ elim l [ true ↦ x | false ↦ y ] ]) ≡ y
  more-pick true false x y z h k = refl
  more-pick false l x y z h k = absurd (let bad : false ≡ true = h in cc)
  more-pick true true x y z h k = absurd (let bad : true ≡ false = k in cc)

  unfit-pick : (f l : Bool) (x y z : List UpRow) → f ≡ false → (elim f [ false ↦ z | true ↦ elim l [ true ↦ x | false ↦ y ] ]) ≡ z
  unfit-pick false l x y z h = refl
  unfit-pick true l x y z h = absurd (let bad : true ≡ false = h in cc)

  bind-pick : (b : Bool) (y : List UpRow) → b ≡ false → ◌≡◌ {A = List UpRow} (elim b [ false ↦ [] | true ↦ y ]) []
  bind-pick false y h = refl
  bind-pick true y h = absurd (let bad : true ≡ false = h in cc)

  module _ (rows : List Row) (r : Row) (plain : ArePlain rows) (found : row_of m.id rows ≡ Some r) where
    under : is_under m.id (up_row r) ≡ true
    under = under-is m.id r (plain-at m.id rows r plain found).kept ∙ id-is m.id rows r found

    pub more-row : told_of r.kind m.rest ≡ More → behind_message at m (up_row r) ≡ up_row (answered at r) ∷ []
    more-row h = let t = told-more (fits r.kind m.rest) (is_final r.kind m.rest) h in under-pick (is_under m.id (up_row r)) (is_under_who m.id (up_row r)) _ _ _ under ∙ more-pick (fits r.kind m.rest) (is_final r.kind m.rest) _ _ _ t.0 t.1

    pub last-row : told_of r.kind m.rest ≡ Last → behind_message at m (up_row r) ≡ []
    last-row h = let t = told-last (fits r.kind m.rest) (is_final r.kind m.rest) h in under-pick (is_under m.id (up_row r)) (is_under_who m.id (up_row r)) _ _ _ under ∙ answer-pick (fits r.kind m.rest) (is_final r.kind m.rest) true _ _ _ t.0 t.1 ∙ bind-pick (same_kind Bind r.kind) _ (plain-at m.id rows r plain found).kind

    pub unfit-row : told_of r.kind m.rest ≡ Unfit → behind_message at m (up_row r) ≡ up_row r ∷ []
    unfit-row h = under-pick (is_under m.id (up_row r)) (is_under_who m.id (up_row r)) _ _ _ under ∙ unfit-pick (fits r.kind m.rest) (is_final r.kind m.rest) _ _ _ (told-unfit (fits r.kind m.rest) (is_final r.kind m.rest) h)

    pub more-frees : told_of r.kind m.rest ≡ More → freed_id at m (up_row r) ≡ []
    more-frees h = freed-none (behind_message at m (up_row r)) (up_row (answered at r)) r.id (more-row h)

    pub last-frees : told_of r.kind m.rest ≡ Last → freed_id at m (up_row r) ≡ r.id ∷ []
    last-frees h = freed-one (behind_message at m (up_row r)) r.id (last-row h)

    pub unfit-frees : told_of r.kind m.rest ≡ Unfit → freed_id at m (up_row r) ≡ []
    unfit-frees h = freed-none (behind_message at m (up_row r)) (up_row r) r.id (unfit-row h)

-- The state behind a message.

gap : (t : Bool) → ◌≡◌ {A = Option OpName} (if t then None else None) None
gap true = refl
gap false = refl

pub got-other : (c : Conn) (own : Option UpWait) (waiting : List ℕ) (at : ℕ) (m : Message) → is_under_own (state_of c own None None waiting) m.id ≡ false → with_got at m (state_of c own None None waiting) ≡ record (state_of c own None None waiting) { rows = flat_map (behind_message at m) (map up_row c.table.rows); ids = record c.table.ids { free = c.table.ids.free ++ flat_map (freed_id at m) (map up_row c.table.rows) } }
got-other c own waiting at m h =
    let p : ConnectionState = state_of c own None None waiting in
    let xs : List UpRow = flat_map (behind_message at m) (map up_row c.table.rows) in
    let ns : List ℕ = flat_map (freed_id at m) (map up_row c.table.rows) in
    ap (λ (b : Bool). record p { own_bind = if b then None else own; rows = if b then map up_row c.table.rows else xs; ids = if b then c.table.ids else record c.table.ids { free = c.table.ids.free ++ ns }; holder = if frees_holder p m then None else None }) h
    ∙ ap (λ (o : Option OpName). record p { rows = xs; ids = record c.table.ids { free = c.table.ids.free ++ ns }; holder = o }) (gap (frees_holder p m))

pub got-own : (c : Conn) (own : Option UpWait) (waiting : List ℕ) (at : ℕ) (m : Message) → is_under_own (state_of c own None None waiting) m.id ≡ true → with_got at m (state_of c own None None waiting) ≡ state_of c None None None waiting
got-own c own waiting at m h =
    let p : ConnectionState = state_of c own None None waiting in
    let xs : List UpRow = flat_map (behind_message at m) (map up_row c.table.rows) in
    let ns : List ℕ = flat_map (freed_id at m) (map up_row c.table.rows) in
    ap (λ (b : Bool). record p { own_bind = if b then None else own; rows = if b then map up_row c.table.rows else xs; ids = if b then c.table.ids else record c.table.ids { free = c.table.ids.free ++ ns }; holder = if frees_holder p m then None else None }) h
    ∙ ap (λ (o : Option OpName). record p { own_bind = None; holder = o }) (gap (frees_holder p m))
