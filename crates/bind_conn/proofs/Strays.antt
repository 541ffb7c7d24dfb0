-- Messages that have no effect, and messages that take the connection down.
use Rattle.std.proofs.Common.{◌≡◌, ℕ, Bool, true, false, ◌&&◌, ◌||◌, not, if◌then◌else◌, List, [], ◌∷◌, ◌++◌, map, Option, Some, None, refl, ap, ◌∙◌, sym, subst}
use Rattle.std.proofs.lemmas.List.{append-nil}
use Rattle.std.specs.Prelude.{flat_map, find, nat_lt}
use Rattle.std.specs.List.{list_any}
use Rattle.ldap_spec.specs.Messages.{Message}
use Rattle.ldap_spec.specs.Kinds.{is_response}
use Rattle.lload_names.specs.declared.names.OpName.{OpName}
use Rattle.lload_names.specs.declared.names.EndWhy.TheVariants.{Bad as BadEnd}
use Rattle.lload_names.specs.declared.names.PartName.TheVariants.{Up as Connection}
use Rattle.lload_names.specs.declared.names.What.TheVariants as what
use Rattle.lload_spec.specs.Settings.{Settings}
use Rattle.lload_spec.specs.BadMessages as bad
use Rattle.lload_spec.specs.BadMessages.{OpenRequest}
use Rattle.id_table.specs.declared.row.Row.{Row}
use Rattle.part_spec.specs.Marked.{Taken}
use Rattle.part_spec.specs.Inputs.{Act, act, nothing, also, entries_of}
use Rattle.part_spec.specs.ConnectionState.{ConnectionState, UpRow, is_under, is_under_who, behind_message, behind_answer, behind_who, freed_id, lets_go, with_got, message_facts, open_request}
use Rattle.part_spec.specs.ConnectionTurn.{goes_down}
use Rattle.part_spec.specs.BindTurn.{message, answered, row_answer, who_answer}
use Rattle.outbox.specs.declared.outbox.Outbox.{Outbox}
use Rattle.conn_core.specs.Conn.{Conn, state_of}
use Rattle.conn_core.specs.Kept.{up_row}
use Rattle.conn_core.specs.Did.{Did}
use Rattle.bind_conn.specs.Part.{is_met, state}
use Rattle.conn_core.specs.Dropped.{is_dropped}
use Rattle.bind_conn.specs.declared.part.BindPart.{BindPart}

-- a row that a message doesn't meet
neither : (a b : Bool) → (a || b) ≡ false → (a ≡ false) × (b ≡ false)
neither false false h = (refl, refl)
neither true b h = absurd (let bad : true ≡ false = h in cc)
neither false true h = absurd (let bad : true ≡ false = h in cc)

no-go : (b u w f e : Bool) → u ≡ false → w ≡ false → (b && (u && f || w && e)) ≡ false
no-go true false false f e g h = refl
no-go false u w f e g h = refl
no-go true true w f e g h = absurd (let bad : true ≡ false = g in cc)
no-go true false true f e g h = absurd (let bad : true ≡ false = h in cc)

module _ (at : ℕ) (m : Message) where
  row-stays : (r : Row) → is_under m.id (up_row r) ≡ false → is_under_who m.id (up_row r) ≡ false → behind_message at m (up_row r) ≡ up_row r ∷ []
  row-stays r u w =
      ap (λ (t : Bool). let l : List UpRow = elim t [ true ↦ behind_answer at m.rest (up_row r) | false ↦ elim (is_under_who m.id (up_row r)) [ true ↦ behind_who at m.rest (up_row r) | false ↦ up_row r ∷ [] ] ] in l) u
      ∙ ap (λ (t : Bool). let l : List UpRow = elim t [ true ↦ behind_who at m.rest (up_row r) | false ↦ up_row r ∷ [] ] in l) w

  all-stay : (rows : List Row) → is_met m.id rows ≡ false → flat_map (behind_message at m) (map up_row rows) ≡ map up_row rows
  all-stay [] h = refl
  all-stay (r ∷ rs) h =
      let e = neither (is_under m.id (up_row r) || is_under_who m.id (up_row r)) (is_met m.id rs) h in
      let f = neither (is_under m.id (up_row r)) (is_under_who m.id (up_row r)) e.0 in
      ap (λ l. l ++ flat_map (behind_message at m) (map up_row rs)) (row-stays r f.0 f.1) ∙ ap (λ l. up_row r ∷ l) (all-stay rs e.1)

  none-freed : (rows : List Row) → is_met m.id rows ≡ false → flat_map (freed_id at m) (map up_row rows) ≡ []
  none-freed [] h = refl
  none-freed (r ∷ rs) h =
      let e = neither (is_under m.id (up_row r) || is_under_who m.id (up_row r)) (is_met m.id rs) h in
      let f = neither (is_under m.id (up_row r)) (is_under_who m.id (up_row r)) e.0 in
      ap (λ (l : List UpRow). (let k : List ℕ = elim l [ [] ↦ r.id ∷ [] | y ∷ ys ↦ [] ] in k) ++ flat_map (freed_id at m) (map up_row rs)) (row-stays r f.0 f.1) ∙ none-freed rs e.1

none-goes : (m : Message) (rows : List Row) → is_met m.id rows ≡ false → list_any (lets_go m) (map up_row rows) ≡ false
none-goes m [] h = refl
none-goes m (r ∷ rs) h =
    let e = neither (is_under m.id (up_row r) || is_under_who m.id (up_row r)) (is_met m.id rs) h in
    let f = neither (is_under m.id (up_row r)) (is_under_who m.id (up_row r)) e.0 in
    ap (λ b. b || list_any (lets_go m) (map up_row rs)) (no-go _ (is_under m.id (up_row r)) (is_under_who m.id (up_row r)) _ _ f.0 f.1) ∙ none-goes m rs e.1

none-under : (m : Message) (rows : List Row) → is_met m.id rows ≡ false → find (is_under m.id) (map up_row rows) ≡ None
none-under m [] h = refl
none-under m (r ∷ rs) h =
    let e = neither (is_under m.id (up_row r) || is_under_who m.id (up_row r)) (is_met m.id rs) h in
    let f = neither (is_under m.id (up_row r)) (is_under_who m.id (up_row r)) e.0 in
    ap (λ (b : Bool). if b then Some (up_row r) else find (is_under m.id) (map up_row rs)) f.0 ∙ none-under m rs e.1

none-under-who : (m : Message) (rows : List Row) → is_met m.id rows ≡ false → find (is_under_who m.id) (map up_row rows) ≡ None
none-under-who m [] h = refl
none-under-who m (r ∷ rs) h =
    let e = neither (is_under m.id (up_row r) || is_under_who m.id (up_row r)) (is_met m.id rs) h in
    let f = neither (is_under m.id (up_row r)) (is_under_who m.id (up_row r)) e.0 in
    ap (λ (b : Bool). if b then Some (up_row r) else find (is_under_who m.id) (map up_row rs)) f.1 ∙ none-under-who m rs e.1

none-asked : (m : Message) (rows : List Row) → is_met m.id rows ≡ false → find (bad.is_under m.id) (map open_request (map up_row rows)) ≡ None
none-asked m [] h = refl
none-asked m (r ∷ rs) h =
    let e = neither (is_under m.id (up_row r) || is_under_who m.id (up_row r)) (is_met m.id rs) h in
    let f = neither (is_under m.id (up_row r)) (is_under_who m.id (up_row r)) e.0 in
    ap (λ (b : Bool). if b then Some (open_request (up_row r)) else find (bad.is_under m.id) (map open_request (map up_row rs))) f.0 ∙ none-asked m rs e.1

none-whos : (m : Message) (rows : List Row) → is_met m.id rows ≡ false → list_any (bad.is_under_who m.id) (map open_request (map up_row rows)) ≡ false
none-whos m [] h = refl
none-whos m (r ∷ rs) h =
    let e = neither (is_under m.id (up_row r) || is_under_who m.id (up_row r)) (is_met m.id rs) h in
    let f = neither (is_under m.id (up_row r)) (is_under_who m.id (up_row r)) e.0 in
    ap (λ b. b || list_any (bad.is_under_who m.id) (map open_request (map up_row rs))) f.1 ∙ none-whos m rs e.1

stray-by : (ign y : Bool) → (if ign then false else not y) ≡ not (ign || y)
stray-by true y = refl
stray-by false y = refl

module _ (s : Settings) (c : Conn) (h l : Option OpName) (at : ℕ) (m : Message) (stray : is_met m.id c.table.rows ≡ false) where
  abbrev p : ConnectionState
  p = state_of c None h l []

  pub got-stray : with_got at m p ≡ p
  got-stray =
      ap (λ (xs : List UpRow). record p { rows = xs; ids = record c.table.ids { free = c.table.ids.free ++ flat_map (freed_id at m) (map up_row c.table.rows) }; holder = if list_any (lets_go m) (map up_row c.table.rows) then None else h }) (all-stay at m c.table.rows stray)
      ∙ ap (λ ns. record p { ids = record c.table.ids { free = c.table.ids.free ++ ns }; holder = if list_any (lets_go m) (map up_row c.table.rows) then None else h }) (none-freed at m c.table.rows stray)
      ∙ ap (λ (b : Bool). record p { ids = record c.table.ids { free = c.table.ids.free ++ [] }; holder = if b then None else h }) (none-goes m c.table.rows stray)
      ∙ ap (λ ns. record p { ids = record c.table.ids { free = ns } }) (append-nil c.table.ids.free)

  pub bad-stray : bad.is_bad (message_facts p) m ≡ not (is_dropped c.table.ids.next m.id m.rest)
  bad-stray =
      ap (λ (o : Option OpenRequest). if bad.is_ignored m then false else bad.is_bad_for (message_facts p) m o) (none-asked m c.table.rows stray)
      ∙ ap (λ (b : Bool). if bad.is_ignored m then false else if b then bad.is_bad_who m else bad.is_bad_stray (message_facts p) m) (none-whos m c.table.rows stray)
      ∙ stray-by (bad.is_ignored m) ((nat_lt 0 m.id && nat_lt m.id c.table.ids.next) && is_response m.rest)

  none-answered : answered s p m ≡ nothing
  none-answered =
      ap (λ (o : Option UpRow). let a : Act = elim o [ Some x ↦ row_answer s p m.rest x | None ↦ elim (find (is_under_who m.id) p.rows) [ Some x ↦ who_answer p m.rest x | None ↦ nothing ] ] in a) (none-under m c.table.rows stray)
      ∙ ap (λ (o : Option UpRow). let a : Act = elim o [ Some x ↦ who_answer p m.rest x | None ↦ nothing ] in a) (none-under-who m c.table.rows stray)

  pub stray-act : (b : Bool) → is_dropped c.table.ids.next m.id m.rest ≡ b → message s p m ≡ also (act (what.Got m.id m.rest ∷ []) []) (let a : Act = elim b [ true ↦ nothing | false ↦ goes_down p BadEnd ] in a)
  stray-act true e =
      ap (λ (b : Bool). let x : Act = elim b [ true ↦ goes_down p BadEnd | false ↦ answered s p m ] in also (act (what.Got m.id m.rest ∷ []) []) x) (bad-stray ∙ ap not e)
      ∙ ap (λ (x : Act). also (act (what.Got m.id m.rest ∷ []) []) x) none-answered
  stray-act false e = ap (λ (b : Bool). let x : Act = elim b [ true ↦ goes_down p BadEnd | false ↦ answered s p m ] in also (act (what.Got m.id m.rest ∷ []) []) x) (bad-stray ∙ ap not e)

-- a message that has no effect
pub ignore-did : (s : Settings) (b : BindPart) (o q : Outbox) (at id : ℕ) (rest : List ℕ) (mark : Option Taken) → is_met id b.core.table.rows ≡ false → is_dropped b.core.table.ids.next id rest ≡ true → q.entries.items ≡ o.entries.items ++ entries_of (Connection b.core.number) at (what.Got id rest ∷ []) → q.letters.items ≡ o.letters.items → Did s (state b) at mark (message s (state b) (record { id = id; rest = rest })) o q (state (record b { core = record b.core { moment = at } }))
ignore-did s b o q at id rest mark stray drop entries letters =
    let m : Message = record { id = id; rest = rest } in
    subst (λ (a : Act). Did s (state b) at mark a o q (state (record b { core = record b.core { moment = at } }))) (sym (stray-act s b.core b.holder b.lost at m stray true drop)) (record {
      entries = entries;
      letters = letters ∙ sym (append-nil o.letters.items);
      behind = sym (ap (λ (x : ConnectionState). record x { moment = at }) (got-stray s b.core b.holder b.lost at m stray));
    })
