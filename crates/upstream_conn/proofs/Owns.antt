-- Messages of the proxy's own at a regular connection, and the rows behind an Abandon.
use Rattle.std.proofs.Common.{◌≡◌, ℕ, suc, ◌+◌, ◌*◌, ◌≤◌, arith, max, Bool, true, false, ◌==◌, ◌&&◌, not, if◌then◌else◌, List, [], ◌∷◌, ◌++◌, length, map, Option, Some, None, refl, ap, ◌∙◌, sym}
use Rattle.std.proofs.lemmas.Bool.Decides.{nat_tests}
use Rattle.std.proofs.lemmas.Slice.Eq.{bytes_eq-Decides}
use Rattle.std.specs.Prelude.{flat_map, find, is_none}
use Rattle.std.specs.Str.{bytes_eq}
use Rattle.ldap_spec.specs.Elements.{shortest_integer}
use Rattle.ldap_spec.proofs.Numbers.{length-shortest_integer, short_length}
use Rattle.ldap_spec.specs.Messages.{Message}
use Rattle.ldap_spec.specs.Kinds.{same_kind}
use Rattle.ldap_spec.specs.Bodies.{abandon, who_am_i}
use Rattle.lload_names.specs.declared.names.OpName.{OpName}
use Rattle.lload_names.specs.declared.names.OpKind.TheVariants.{Bind}
use Rattle.lload_names.specs.declared.names.PartName.TheVariants.{Desk, Up as Connection}
use Rattle.lload_names.specs.declared.names.Letter.TheVariants.{Ended}
use Rattle.lload_names.specs.declared.names.What.TheVariants as what
use Rattle.lload_names.specs.Same.{same_op}
use Rattle.lload_spec.specs.Lists.{passes}
use Rattle.lload_spec.specs.Settings.{Settings}
use Rattle.id_table.specs.declared.row.Row.{Row}
use Rattle.id_table.specs.declared.row.Kept.{Kept}
use Rattle.id_table.specs.Rows.{row_of, id_of, without, Rises}
use Rattle.id_table.specs.Table.{IsTable, ended_at, used_up, may_own, passes_limit}
use Rattle.part_spec.specs.Marked.{Taken}
use Rattle.part_spec.specs.Inputs.{Act, act, to, entries_of, marked_by}
use Rattle.part_spec.specs.ConnectionState.{ConnectionState, UpRow, behind_own, is_abandoned_by, step_connections}
use Rattle.part_spec.specs.ConnectionTurn.{retires}
use Rattle.part_spec.specs.RegularTurn.{drops, abandons}
use Rattle.outbox.specs.declared.outbox.Outbox.{Outbox}
use Rattle.conn_core.specs.Conn.{Conn}
use Rattle.conn_core.specs.Did.{Did}
use Rattle.conn_core.specs.Kept.{up_row, up_kept, open_rows, IsPlain, ArePlain}
use Rattle.conn_core.specs.Closing.{given_whats, retired_letters}
use Rattle.conn_core.proofs.Giving.{giving-is, retires-is, used-passes}
use Rattle.conn_core.proofs.Owns.{next-above, not-first, own-step}
use Rattle.conn_core.proofs.Plain.{Leaves, flat-gone, same-sym}
use Rattle.upstream_conn.specs.Part.{Knows, state}
use Rattle.upstream_conn.specs.declared.part.UpstreamPart.{UpstreamPart}
use Rattle.upstream_conn.proofs.Sound.{open-plain}
use Rattle.upstream_conn.proofs.Messages.{plain-at}
use Rattle.upstream_conn.proofs.Lasts.{row-id, row-gone}

-- Abandons of two identifiers are two.
abandon-digits : (i : ℕ) → abandon i ≡ 0x50 ∷ (length (shortest_integer i) ∷ []) ++ shortest_integer i
abandon-digits i = ap (λ l. 0x50 ∷ (l ++ shortest_integer i)) (short_length (length (shortest_integer i)) (let four = length-shortest_integer i in omega arith))

digits-apart : (m n : ℕ) → shortest_integer m ≡ shortest_integer n → m ≡ n
digits-apart m n h = grind (arith, nat_tests, h)

abandon-same : (i j : ℕ) → bytes_eq (abandon i) (abandon j) ≡ true → i ≡ j
abandon-same i j h =
    let same : abandon i ≡ abandon j = (bytes_eq-Decides (abandon i) (abandon j)).0 h in
    let whole : 0x50 ∷ length (shortest_integer i) ∷ shortest_integer i ≡ 0x50 ∷ length (shortest_integer j) ∷ shortest_integer j = sym (abandon-digits i) ∙ same ∙ abandon-digits j in
    digits-apart i j (cc)

-- A row behind an own message that abandons an identifier.
module _ (own id : ℕ) where
  abbrev m : Message
  m = record { id = own; rest = abandon id }

  asks-none : (b : Bool) (k : Option Kept) → k ≡ None → (b && passes (λ x. is_none x.who) (up_kept k)) ≡ false
  asks-none true k h = ap (λ (x : Option Kept). passes (λ y. is_none y.who) (up_kept x)) h
  asks-none false k h = refl

  own-pick : (a b : Bool) (x y z : List UpRow) → a ≡ false → ◌≡◌ {A = List UpRow} (elim a [ true ↦ x | false ↦ elim b [ true ↦ y | false ↦ z ] ]) (elim b [ true ↦ y | false ↦ z ])
  own-pick false b x y z h = refl
  own-pick true b x y z h = absurd (let bad : true ≡ false = h in cc)

  behind-is : (r : Row) → IsPlain r → ◌≡◌ {A = List UpRow} (behind_own m (up_row r)) (elim (is_abandoned_by (abandon id) (up_row r)) [ true ↦ [] | false ↦ up_row r ∷ [] ])
  behind-is r p = own-pick (bytes_eq (abandon id) who_am_i && passes (λ k. is_none k.who) (up_kept r.kept)) (is_abandoned_by (abandon id) (up_row r)) (record (up_row r) { kept = elim (up_kept r.kept) [ None ↦ None | Some k ↦ Some (record k { who = Some own }) ] } ∷ []) [] (up_row r ∷ []) (asks-none (bytes_eq (abandon id) who_am_i) r.kept p.kept)

  not-abandoned : (r : Row) → (r.id == id) ≡ false → (k b : Bool) → bytes_eq (abandon id) (abandon r.id) ≡ b → (not k && b) ≡ false
  not-abandoned r e k false h = grind (arith, nat_tests)
  not-abandoned r e k true h = absurd (let same : id ≡ r.id = abandon-same id r.id h in grind (arith, nat_tests, e, same))

  pub own-leaves : Leaves (behind_own m) id
  own-leaves r p e = behind-is r p ∙ ap (λ (b : Bool). let l : List UpRow = elim b [ true ↦ [] | false ↦ up_row r ∷ [] ] in l) (not-abandoned r e (same_kind Bind r.kind) (bytes_eq (abandon id) (abandon r.id)) refl)

  pub own-ends : (rows : List Row) (r : Row) → ArePlain rows → row_of id rows ≡ Some r → behind_own m (up_row r) ≡ []
  own-ends rows r plain found =
      let p = plain-at id rows r plain found in
      let same : bytes_eq (abandon id) (abandon r.id) ≡ true = (bytes_eq-Decides (abandon id) (abandon r.id)).1 (ap abandon (sym (row-id id rows r found))) in
      behind-is r p ∙ ap (λ (b : Bool). let l : List UpRow = elim (not b && bytes_eq (abandon id) (abandon r.id)) [ true ↦ [] | false ↦ up_row r ∷ [] ] in l) p.kind ∙ ap (λ (b : Bool). let l : List UpRow = elim b [ true ↦ [] | false ↦ up_row r ∷ [] ] in l) same

  pub own-rows : (next : ℕ) (rows : List Row) (r : Row) → Rises 1 rows next → ArePlain rows → row_of id rows ≡ Some r → flat_map (behind_own m) (map up_row rows) ≡ map up_row (without id rows)
  own-rows next rows r rises plain found = flat-gone (behind_own m) id own-leaves 1 next rows r rises plain found (own-ends rows r plain found)

pub gone-length : (id : ℕ) (rows : List Row) (r : Row) → row_of id rows ≡ Some r → length (without id rows) + 1 ≡ length rows
gone-length id [] r h = absurd (let bad : ◌≡◌ {A = Option Row} None (Some r) = h in cc)
gone-length id (x ∷ xs) r h = by (x.id == id) h (gone-length id xs r)
  where
    by : (b : Bool) → (if b then Some x else row_of id xs) ≡ Some r → (row_of id xs ≡ Some r → length (without id xs) + 1 ≡ length xs) → length (if b then xs else x ∷ without id xs) + 1 ≡ length (x ∷ xs)
    by true k ih = omega arith
    by false k ih = omega (arith, ih k)

-- where an operation is live, an identifier is left for its Abandon
pub left-one : (s : Settings) (u : UpstreamPart) (id : ℕ) (r : Row) → Knows s u → row_of id u.core.table.rows ≡ Some r → u.core.table.ids.next ≤ 2 * u.core.table.limit
left-one s u id r k found =
    let was : length (open_rows u.core.table.rows) ≡ length u.core.table.rows = ap (length {A = Row}) (open-plain u.core.table.rows k.steady.plain) in
    let some = gone-length id u.core.table.rows r found in
    let within = k.steady.sound.within in
    omega (arith, was, some, within)

pub may-own : (s : Settings) (u : UpstreamPart) (id : ℕ) (r : Row) → Knows s u → row_of id u.core.table.rows ≡ Some r → may_own u.core.table ≡ true
may-own s u id r k found = let l = left-one s u id r k found in grind (arith, nat_tests, l)

same-op : (o p : OpName) → same_op o p ≡ true → o ≡ p
same-op o p h = grind (arith, nat_tests, h)

-- a live operation by its name
pub named-some : (op : OpName) (id low next : ℕ) (rows : List Row) → Rises low rows next → id_of op rows ≡ Some id → (r : Row) × (row_of id rows ≡ Some r) × (r.op ≡ op) × (find (λ x. same_op op x.op) (map up_row rows) ≡ Some (up_row r)) × (low ≤ id)
named-some op id low next [] h e = absurd (let bad : ◌≡◌ {A = Option ℕ} None (Some id) = e in cc)
named-some op id low next (x ∷ xs) h e = by (same_op x.op op) refl e (named-some op id (x.id + 1) next xs h.1)
  where
    by : (b : Bool) → same_op x.op op ≡ b → (if b then Some x.id else id_of op xs) ≡ Some id → (id_of op xs ≡ Some id → (r : Row) × (row_of id xs ≡ Some r) × (r.op ≡ op) × (find (λ y. same_op op y.op) (map up_row xs) ≡ Some (up_row r)) × (x.id + 1 ≤ id)) → (r : Row) × (row_of id (x ∷ xs) ≡ Some r) × (r.op ≡ op) × (find (λ y. same_op op y.op) (map up_row (x ∷ xs)) ≡ Some (up_row r)) × (low ≤ id)
    by true t k ih =
        let same : x.id ≡ id = cc in
        let here : (x.id == id) ≡ true = grind (arith, nat_tests, same) in (
          x,
          ap (λ (b : Bool). if b then Some x else row_of id xs) here,
          same-op x.op op t,
          ap (λ (b : Bool). if b then Some (up_row x) else find (λ y. same_op op y.op) (map up_row xs)) (same-sym op x.op ∙ t),
          omega (arith, h.0, same),
        )
    by false t k ih =
        let f = ih k in
        let above = f.4 in
        let apart : (x.id == id) ≡ false = grind (arith, nat_tests, above) in (
          f.0,
          ap (λ (b : Bool). if b then Some x else row_of id xs) apart ∙ f.1,
          f.2,
          ap (λ (b : Bool). if b then Some (up_row x) else find (λ y. same_op op y.op) (map up_row xs)) (same-sym op x.op ∙ t) ∙ f.3,
          omega (arith, h.0, above),
        )

-- A live operation that is abandoned.
pub abandon-did : (s : Settings) (u : UpstreamPart) (o q : Outbox) (at id own : ℕ) (op : OpName) (mark : Option Taken) → Knows s u → id_of op u.core.table.rows ≡ Some id → own ≡ u.core.table.ids.next → q.entries.items ≡ o.entries.items ++ entries_of (Connection u.core.number) at (given_whats (own == u.core.table.limit) (what.Own own (abandon id))) → q.letters.items ≡ o.letters.items ++ (to Desk (Ended op u.core.number None) ++ retired_letters u.core.number (own == u.core.table.limit)) → Did s (state u) at mark (drops s (state u) op) o q (state (record u { core = record u.core { moment = at; table = ended_at id (used_up u.core.table) } }))
abandon-did s u o q at id own op mark k named given entries letters =
    let p : ConnectionState = state u in
    let next : ℕ = u.core.table.ids.next in
    let limit : ℕ = u.core.table.limit in
    let f = named-some op id 1 next u.core.table.rows k.steady.sound.table.rises named in
    let r : Row = f.0 in
    let is : drops s p op ≡ abandons s p (up_row r) = ap (λ (x : Option UpRow). let a : Act = elim x [ None ↦ act (what.Idle op ∷ []) [] | Some y ↦ abandons s p y ] in a) f.3 in
    let whats : (drops s p op).whats ≡ given_whats (next == limit) (what.Own next (abandon id)) = ap (λ (x : Act). x.whats) is ∙ giving-is s next limit (what.Own next (abandon r.id)) k.fits.agrees.limit ∙ ap (λ n. given_whats (next == limit) (what.Own next (abandon n))) (row-id id u.core.table.rows r f.1) in
    let told : (drops s p op).letters ≡ to Desk (Ended op u.core.number None) ++ retired_letters u.core.number (next == limit) = ap (λ (x : Act). x.letters) is ∙ ap (λ (n : OpName). to Desk (Ended n u.core.number None) ++ retires s p next) f.2 ∙ ap (λ l. to Desk (Ended op u.core.number None) ++ l) (retires-is s p next limit k.fits.agrees.limit) in
    record {
      entries = entries ∙ ap (λ n. o.entries.items ++ entries_of (Connection u.core.number) at (given_whats (n == limit) (what.Own n (abandon id)))) given ∙ sym (ap (λ ws. o.entries.items ++ entries_of (Connection u.core.number) at ws) whats);
      letters = letters ∙ ap (λ n. o.letters.items ++ (to Desk (Ended op u.core.number None) ++ retired_letters u.core.number (n == limit))) given ∙ sym (ap (λ l. o.letters.items ++ l) told);
      behind =
          own-step s p at mark (abandon id) (map up_row (without id u.core.table.rows)) (passes_limit (used_up u.core.table)) (next == limit)
          (not-first s p (record { part = Connection u.core.number; at = at; what = what.Own next (abandon id) }) (next-above id 1 next u.core.table.rows r k.steady.sound.table.rises (omega arith) f.1))
          (own-rows next id next u.core.table.rows r k.steady.sound.table.rises k.steady.plain f.1)
          (used-passes u.core.table)
          ∙ sym (ap (λ ws. step_connections s p (marked_by mark (entries_of (Connection u.core.number) at ws))) whats);
    }

-- what is known behind it
pub abandon-knows : (s : Settings) (u : UpstreamPart) (w : Conn) (at id : ℕ) (r : Row) → row_of id u.core.table.rows ≡ Some r → w ≡ record u.core { moment = at; table = ended_at id (used_up u.core.table) } → IsTable w.table → Knows s u → Knows s (record u { core = w })
abandon-knows s u w at id r found new table k =
    let was : length (open_rows u.core.table.rows) ≡ length u.core.table.rows = ap (length {A = Row}) (open-plain u.core.table.rows k.steady.plain) in
    let some = gone-length id u.core.table.rows r found in
    let within = k.steady.sound.within in
    let more : max u.core.table.ids.next (suc u.core.table.ids.next) ≡ u.core.table.ids.next + 1 = omega arith in
    row-gone s u w at id (ended_at id (used_up u.core.table)) new table refl refl
    (λ h. absurd (let one = k.steady.sound.begun h in let no = next-above id 1 u.core.table.ids.next u.core.table.rows r k.steady.sound.table.rises (omega arith) found in omega (arith, one, no)))
    (omega (arith, some, was, within, more)) k
