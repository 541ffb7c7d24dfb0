-- A clock step: an operation that expires, and those that are due behind it.
use Rattle.std.proofs.Common.{◌≡◌, ℕ, suc, ◌+◌, ◌≤◌, arith, max, Bool, true, false, ◌==◌, not, cond, if◌then◌else◌, List, [], ◌∷◌, ◌++◌, length, map, filter, Option, Some, None, refl, ap, ◌∙◌, sym, subst}
use Rattle.std.proofs.lemmas.Bool.Decides.{nat_tests}
use Rattle.std.specs.List.{AllByRecursion}
use Rattle.ldap_spec.specs.Bodies.{abandon}
use Rattle.lload_names.specs.declared.names.OpName.{OpName}
use Rattle.lload_names.specs.declared.names.EndWhy.{EndWhy}
use Rattle.lload_names.specs.declared.names.EndWhy.TheVariants.{TimedOut}
use Rattle.lload_names.specs.declared.names.Refusal.TheVariants.{C5}
use Rattle.lload_names.specs.declared.names.ConnKind.TheVariants.{Regular}
use Rattle.lload_names.specs.declared.names.PartName.TheVariants.{Desk, Up as Connection}
use Rattle.lload_names.specs.declared.names.Letter.TheVariants.{Ended, IsDown}
use Rattle.lload_names.specs.declared.names.What.{What}
use Rattle.lload_names.specs.declared.names.What.TheVariants as what
use Rattle.lload_names.specs.Same.{same_op}
use Rattle.lload_spec.specs.Lists.{passes}
use Rattle.lload_spec.specs.Settings.{Settings}
use Rattle.lload_spec.specs.CausedUp.{is_past}
use Rattle.op_deadlines.specs.Due.{is_due as is_late}
use Rattle.id_table.specs.declared.row.Row.{Row}
use Rattle.id_table.specs.Rows.{row_of, without, Rises}
use Rattle.id_table.specs.Table.{ended_at, used_up, passes_limit}
use Rattle.part_spec.specs.Marked.{Taken}
use Rattle.part_spec.specs.Inputs.{Act, act, nothing, also, to, failed, entries_of, marked_by, where_so}
use Rattle.part_spec.specs.ConnectionState.{ConnectionState, UpRow, behind_own, step_connections}
use Rattle.part_spec.specs.ConnectionTurn.{goes_down, giving, is_due}
use Rattle.part_spec.specs.RegularTurn.{expires, expire, ticks, is_own_due}
use Rattle.outbox.specs.declared.outbox.Outbox.{Outbox}
use Rattle.conn_core.specs.Conn.{Conn}
use Rattle.conn_core.specs.Did.{Did}
use Rattle.conn_core.specs.Kept.{up_row, has_op, EachOnce}
use Rattle.conn_core.specs.Closing.{given_whats, retired_letters, closing_letters}
use Rattle.conn_core.proofs.Plain.{flat-none, none-below, same-sym}
use Rattle.conn_core.proofs.Giving.{giving-is, retires-is, used-passes}
use Rattle.conn_core.proofs.Owns.{next-above, not-first, own-step}
use Rattle.conn_core.proofs.Joined.{did-also, did-nothing}
use Rattle.conn_core.proofs.Ends.{closing-is}
use Rattle.upstream_conn.specs.Part.{Knows, OwnIsGiven, state, up_wait}
use Rattle.upstream_conn.specs.Ticks.{abandon_of, rest_act, due_ids}
use Rattle.upstream_conn.specs.declared.clock.Abandon.{Abandon}
use Rattle.upstream_conn.specs.declared.part.OwnWait.{OwnWait}
use Rattle.upstream_conn.specs.declared.part.UpstreamPart.{UpstreamPart}
use Rattle.upstream_conn.proofs.Sound.{not-head, plain-without}
use Rattle.upstream_conn.proofs.Lasts.{row-id}
use Rattle.upstream_conn.proofs.Owns.{own-leaves}

-- The connection ends by itself.
pub goes-did : (s : Settings) (u : UpstreamPart) (w : Conn) (o q : Outbox) (at : ℕ) (why : EndWhy) (mark : Option Taken) → q.entries.items ≡ o.entries.items ++ entries_of (Connection u.core.number) at (what.Down why ∷ []) → q.letters.items ≡ o.letters.items ++ closing_letters u.core.number u.core.kind u.core.table.rows None → w ≡ record u.core { moment = at; down = true; table = record u.core.table { rows = [] } } → Did s (state u) at mark (goes_down (state u) why) o q (state (record u { core = w }))
goes-did s u w o q at why mark entries letters new = record {
  entries = entries;
  letters = letters ∙ ap (λ l. o.letters.items ++ l) (closing-is u.core (up_wait u.own) None u.waiting None);
  behind = ap (λ (x : Conn). state (record u { core = x })) new;
}

-- The own Bind.
own-due-by : (s : Settings) (u : UpstreamPart) (at : ℕ) (o : Option OwnWait) → (u.core.up ≡ false → u.core.table.rows ≡ []) → OwnIsGiven u.core o → passes (λ own. is_past s.timeout own.at at) (up_wait o) ≡ true → u.core.table.rows ≡ []
own-due-by s u at None idle g h = absurd (let bad : false ≡ true = h in cc)
own-due-by s u at (Some w) idle g h = idle g.1

pub own-alone : (s : Settings) (u : UpstreamPart) (at : ℕ) → Knows s u → is_own_due s (state u) at ≡ true → u.core.table.rows ≡ []
own-alone s u at k h = own-due-by s u at u.own k.steady.idle k.steady.own h

pub time-out-is : (s : Settings) (u : UpstreamPart) (at : ℕ) → Knows s u → is_own_due s (state u) at ≡ true → ticks s (state u) at ≡ goes_down (state u) TimedOut
time-out-is s u at k h =
    ap (λ (rows : List Row). also (expire s (state u) u.core.table.ids.next (filter (is_due s at) (map up_row rows))) (where_so (is_own_due s (state u) at) (goes_down (state u) TimedOut))) (own-alone s u at k h)
    ∙ ap (λ b. also nothing (where_so b (goes_down (state u) TimedOut))) h

pub due-is : (s : Settings) (u : UpstreamPart) (at : ℕ) → Knows s u → is_own_due s (state u) at ≡ false → ticks s (state u) at ≡ also (rest_act s at (state u)) nothing
due-is s u at k h = ap (λ b. also (rest_act s at (state u)) (where_so b (goes_down (state u) TimedOut))) h

-- Rows that go.
filter-none : (op : OpName) (rows : List Row) → has_op op rows ≡ false → filter (λ r. not (same_op op r.op)) (map up_row rows) ≡ map up_row rows
filter-none op [] h = refl
filter-none op (x ∷ xs) h =
    let k = not-head op x xs h in
    ap (λ b. cond (not b) (up_row x ∷ filter (λ r. not (same_op op r.op)) (map up_row xs)) (filter (λ r. not (same_op op r.op)) (map up_row xs))) k.0
    ∙ ap (λ l. up_row x ∷ l) (filter-none op xs k.1)

has-member : (op : OpName) (id : ℕ) (rows : List Row) (r : Row) → has_op op rows ≡ false → row_of id rows ≡ Some r → same_op op r.op ≡ false
has-member op id [] r h e = absurd (let bad : ◌≡◌ {A = Option Row} None (Some r) = e in cc)
has-member op id (x ∷ xs) r h e = let k = not-head op x xs h in by (x.id == id) k.0 e (has-member op id xs r k.1)
  where
    by : (b : Bool) → same_op op x.op ≡ false → (if b then Some x else row_of id xs) ≡ Some r → (row_of id xs ≡ Some r → same_op op r.op ≡ false) → same_op op r.op ≡ false
    by true n f ih = let same : x ≡ r = cc in ap (λ (y : Row). same_op op y.op) (sym same) ∙ n
    by false n f ih = ih f

same-self : (op : OpName) → same_op op op ≡ true
same-self op = grind (arith, nat_tests)

filter-gone : (id low next : ℕ) (rows : List Row) (r : Row) → Rises low rows next → EachOnce rows → row_of id rows ≡ Some r → filter (λ x. not (same_op r.op x.op)) (map up_row rows) ≡ map up_row (without id rows)
filter-gone id low next [] r h o e = absurd (let bad : ◌≡◌ {A = Option Row} None (Some r) = e in cc)
filter-gone id low next (x ∷ xs) r h o e = by (x.id == id) e (filter-gone id (x.id + 1) next xs r h.1 o.1)
  where
    by : (b : Bool) → (if b then Some x else row_of id xs) ≡ Some r → (row_of id xs ≡ Some r → filter (λ y. not (same_op r.op y.op)) (map up_row xs) ≡ map up_row (without id xs)) → filter (λ y. not (same_op r.op y.op)) (map up_row (x ∷ xs)) ≡ map up_row (if b then xs else x ∷ without id xs)
    by true f ih =
        let same : x ≡ r = cc in
        ap (λ b. cond (not b) (up_row x ∷ filter (λ y. not (same_op r.op y.op)) (map up_row xs)) (filter (λ y. not (same_op r.op y.op)) (map up_row xs))) (ap (λ (y : Row). same_op r.op y.op) same ∙ same-self r.op)
        ∙ filter-none r.op xs (ap (λ (y : Row). has_op y.op xs) (sym same) ∙ o.0)
    by false f ih =
        ap (λ b. cond (not b) (up_row x ∷ filter (λ y. not (same_op r.op y.op)) (map up_row xs)) (filter (λ y. not (same_op r.op y.op)) (map up_row xs))) (same-sym r.op x.op ∙ has-member x.op id xs r o.0 f)
        ∙ ap (λ l. up_row x ∷ l) (ih f)

gone-none : (id low next : ℕ) (rows : List Row) → Rises low rows next → row_of id (without id rows) ≡ None
gone-none id low next [] h = refl
gone-none id low next (x ∷ xs) h = by (x.id == id) refl (gone-none id (x.id + 1) next xs h.1)
  where
    by : (b : Bool) → (x.id == id) ≡ b → row_of id (without id xs) ≡ None → row_of id (if b then xs else x ∷ without id xs) ≡ None
    by true e ih = none-below id (x.id + 1) next xs h.1 (grind (arith, nat_tests, e))
    by false e ih = ap (λ (b : Bool). if b then Some x else row_of id (without id xs)) e ∙ ih

-- An operation that expires.
first-step : (s : Settings) (p : ConnectionState) (at : ℕ) (op : OpName) (w : What) (b : Bool) → step_connections s p (marked_by None (entries_of (Connection p.number) at (what.Expired op ∷ given_whats b w))) ≡ step_connections s (record p { moment = at; rows = filter (λ r. not (same_op op r.op)) p.rows }) (marked_by None (entries_of (Connection p.number) at (given_whats b w)))
first-step s p at op w true = refl
first-step s p at op w false = refl

pub expire-did : (s : Settings) (u : UpstreamPart) (o q : Outbox) (at id own : ℕ) (r : Row) → Knows s u → row_of id u.core.table.rows ≡ Some r → own ≡ u.core.table.ids.next → q.entries.items ≡ o.entries.items ++ entries_of (Connection u.core.number) at (what.Expired r.op ∷ given_whats (own == u.core.table.limit) (what.Own own (abandon id))) → q.letters.items ≡ o.letters.items ++ ((failed r.op C5 ++ to Desk (Ended r.op u.core.number None)) ++ retired_letters u.core.number (own == u.core.table.limit)) → Did s (state u) at None (expires s (state u) u.core.table.ids.next (up_row r)) o q (state (record u { core = record u.core { moment = at; table = ended_at id (used_up u.core.table) } }))
expire-did s u o q at id own r k found given entries letters =
    let p : ConnectionState = state u in
    let next : ℕ = u.core.table.ids.next in
    let limit : ℕ = u.core.table.limit in
    let rows : List Row = u.core.table.rows in
    let gone : ConnectionState = record p { moment = at; rows = map up_row (without id rows) } in
    let whats : (expires s p next (up_row r)).whats ≡ what.Expired r.op ∷ given_whats (next == limit) (what.Own next (abandon id)) = ap (λ l. what.Expired r.op ∷ l) (giving-is s next limit (what.Own next (abandon r.id)) k.fits.agrees.limit ∙ ap (λ n. given_whats (next == limit) (what.Own next (abandon n))) (row-id id rows r found)) in
    let told : (expires s p next (up_row r)).letters ≡ (failed r.op C5 ++ to Desk (Ended r.op u.core.number None)) ++ retired_letters u.core.number (next == limit) = ap (λ l. (failed r.op C5 ++ to Desk (Ended r.op u.core.number None)) ++ l) (retires-is s p next limit k.fits.agrees.limit) in
    record {
      entries = entries ∙ ap (λ n. o.entries.items ++ entries_of (Connection u.core.number) at (what.Expired r.op ∷ given_whats (n == limit) (what.Own n (abandon id)))) given ∙ sym (ap (λ ws. o.entries.items ++ entries_of (Connection u.core.number) at ws) whats);
      letters = letters ∙ ap (λ n. o.letters.items ++ ((failed r.op C5 ++ to Desk (Ended r.op u.core.number None)) ++ retired_letters u.core.number (n == limit))) given ∙ sym (ap (λ l. o.letters.items ++ l) told);
      behind =
          own-step s gone at None (abandon id) (map up_row (without id rows)) (passes_limit (used_up u.core.table)) (next == limit)
          (not-first s gone (record { part = Connection u.core.number; at = at; what = what.Own next (abandon id) }) (next-above id 1 next rows r k.steady.sound.table.rises (omega arith) found))
          (flat-none (behind_own (record { id = next; rest = abandon id })) id (own-leaves next id) (without id rows) (plain-without id rows k.steady.plain) (gone-none id 1 next rows k.steady.sound.table.rises))
          (used-passes u.core.table)
          ∙ sym (ap (λ (l : List UpRow). step_connections s (record p { moment = at; rows = l }) (marked_by None (entries_of (Connection u.core.number) at (given_whats (next == limit) (what.Own next (abandon id)))))) (filter-gone id 1 next rows r k.steady.sound.table.rises k.steady.sound.once found))
          ∙ sym (first-step s p at r.op (what.Own next (abandon id)) (next == limit))
          ∙ sym (ap (λ ws. step_connections s p (marked_by None (entries_of (Connection u.core.number) at ws))) whats);
    }

-- Those that are due.
late-step : (b : Bool) (r : Row) (xs : List UpRow) (rs : List Row) → xs ≡ map up_row rs → cond b (up_row r ∷ xs) xs ≡ map up_row (cond b (r ∷ rs) rs)
late-step true r xs rs h = ap (λ l. up_row r ∷ l) h
late-step false r xs rs h = h

due-rows : (s : Settings) (timeout at : ℕ) (rows : List Row) → s.timeout ≡ timeout → filter (is_due s at) (map up_row rows) ≡ map up_row (filter (λ r. is_late timeout at r.last) rows)
due-rows s timeout at [] e = refl
due-rows s timeout at (r ∷ rs) e =
    ap (λ t. cond (is_past t r.last at) (up_row r ∷ filter (is_due s at) (map up_row rs)) (filter (is_due s at) (map up_row rs))) e
    ∙ late-step (is_late timeout at r.last) r _ _ (due-rows s timeout at rs e)

-- the first that is due is a row, and behind it the others are due
pub due-first : (P : Row → Bool) (low next : ℕ) (rows : List Row) (r : Row) (rs : List Row) → Rises low rows next → filter P rows ≡ r ∷ rs → (row_of r.id rows ≡ Some r) × (filter P (without r.id rows) ≡ rs)
due-first P low next [] r rs h e = absurd (let bad : ◌≡◌ {A = List Row} [] (r ∷ rs) = e in cc)
due-first P low next (x ∷ xs) r rs h e = by (P x) refl e (due-first P (x.id + 1) next xs r rs h.1)
  where
    self : (n : ℕ) → (n == n) ≡ true
    self n = grind (arith, nat_tests)

    by : (b : Bool) → P x ≡ b → cond b (x ∷ filter P xs) (filter P xs) ≡ r ∷ rs → (filter P xs ≡ r ∷ rs → (row_of r.id xs ≡ Some r) × (filter P (without r.id xs) ≡ rs)) → (row_of r.id (x ∷ xs) ≡ Some r) × (filter P (without r.id (x ∷ xs)) ≡ rs)
    by true t f ih =
        let same : x ≡ r = cc in
        let tail : filter P xs ≡ rs = cc in
        let here : (x.id == r.id) ≡ true = ap (λ (y : Row). x.id == y.id) (sym same) ∙ self x.id in (
          ap (λ (b : Bool). if b then Some x else row_of r.id xs) here ∙ ap Some same,
          ap (λ (b : Bool). filter P (if b then xs else x ∷ without r.id xs)) here ∙ tail,
        )
    by false t f ih = let k = ih f in apart (x.id == r.id) refl k.0 k.1
      where
        apart : (b : Bool) → (x.id == r.id) ≡ b → row_of r.id xs ≡ Some r → filter P (without r.id xs) ≡ rs → ((if b then Some x else row_of r.id xs) ≡ Some r) × (filter P (if b then xs else x ∷ without r.id xs) ≡ rs)
        apart true c g l = absurd (let none = none-below r.id (x.id + 1) next xs h.1 (grind (arith, nat_tests, c)) in let bad : ◌≡◌ {A = Option Row} None (Some r) = sym none ∙ g in cc)
        apart false c g l = (g, ap (λ b. cond b (x ∷ filter P (without r.id xs)) (filter P (without r.id xs))) t ∙ l)

-- what becomes of rows goes by the connection's number alone
expire-same : (s : Settings) (p q : ConnectionState) (id : ℕ) (rs : List UpRow) → q.number ≡ p.number → expire s q id rs ≡ expire s p id rs
expire-same s p q id [] e = refl
expire-same s p q id (r ∷ rs) e =
    ap (λ n. let a : Act = act (expires s p id r).whats (expires s (record p { number = n }) id r).letters in also a (expire s q (suc id) rs)) e
    ∙ ap (λ a. also (expires s p id r) a) (expire-same s p q (suc id) rs e)

-- the rest, where some are due and where none are
pub rest-some : (s : Settings) (u v : UpstreamPart) (at : ℕ) (r : Row) (rs : List Row) → Knows s u → filter (λ x. is_late u.core.timeout at x.last) u.core.table.rows ≡ r ∷ rs → v.core ≡ record u.core { moment = at; table = ended_at r.id (used_up u.core.table) } → rest_act s at (state u) ≡ also (expires s (state u) u.core.table.ids.next (up_row r)) (rest_act s at (state v))
rest-some s u v at r rs k due new =
    let p : ConnectionState = state u in
    let next : ℕ = u.core.table.ids.next in
    let f = due-first (λ x. is_late u.core.timeout at x.last) 1 next u.core.table.rows r rs k.steady.sound.table.rises due in
    let more : max next (suc next) ≡ suc next = omega arith in
    let late : filter (is_due s at) (map up_row (without r.id u.core.table.rows)) ≡ map up_row rs = due-rows s u.core.timeout at (without r.id u.core.table.rows) k.fits.agrees.timeout ∙ ap (map up_row) f.1 in
    ap (expire s p next) (due-rows s u.core.timeout at u.core.table.rows k.fits.agrees.timeout ∙ ap (map up_row) due)
    ∙ ap (λ a. also (expires s p next (up_row r)) a) (sym (
    ap (λ (w : Conn). expire s (state v) w.table.ids.next (filter (is_due s at) (map up_row w.table.rows))) new
    ∙ ap (λ n. expire s (state v) n (filter (is_due s at) (map up_row (without r.id u.core.table.rows)))) more
    ∙ ap (expire s (state v) (suc next)) late
    ∙ expire-same s p (state v) (suc next) (map up_row rs) (ap (λ (w : Conn). w.number) new)
    ))

pub rest-none : (s : Settings) (u : UpstreamPart) (at : ℕ) → Knows s u → filter (λ x. is_late u.core.timeout at x.last) u.core.table.rows ≡ [] → rest_act s at (state u) ≡ nothing
rest-none s u at k due = ap (expire s (state u) u.core.table.ids.next) (due-rows s u.core.timeout at u.core.table.rows k.fits.agrees.timeout ∙ ap (map up_row) due)

pub due-length : (P : Row → Bool) (rows : List Row) → length (map (λ (r : Row). r.id) (filter P rows)) ≤ length rows
due-length P [] = omega arith
due-length P (x ∷ xs) = by (P x) (due-length P xs)
  where
    by : (b : Bool) → length (map (λ (r : Row). r.id) (filter P xs)) ≤ length xs → length (map (λ (r : Row). r.id) (cond b (x ∷ filter P xs) (filter P xs))) ≤ length (x ∷ xs)
    by true h = omega (arith, h)
    by false h = omega (arith, h)

-- The list of Abandons.
pub all-written : (ids : List ℕ) → AllByRecursion (λ (a : Abandon). a.rest ≡ abandon a.id) (map abandon_of ids)
all-written [] = tt
all-written (id ∷ ids) = (refl, all-written ids)

pub some-same : (x r : Row) → ◌≡◌ {A = Option Row} (Some x) (Some r) → x ≡ r
some-same x r h = cc

-- the next of them is of a row, and the others are of what is due behind it
pub record Next (u : UpstreamPart) (at : ℕ) (a : Abandon) (others : List Abandon) : Type 0 where
  pub row : Row
  pub rows : List Row
  pub due : filter (λ x. is_late u.core.timeout at x.last) u.core.table.rows ≡ row ∷ rows
  pub id : a.id ≡ row.id
  pub found : row_of a.id u.core.table.rows ≡ Some row
  pub left : others ≡ map abandon_of (map (λ (r : Row). r.id) rows)

head-id : (a b : Abandon) (l m : List Abandon) → ◌≡◌ {A = List Abandon} (a ∷ l) (b ∷ m) → (a ≡ b) × (l ≡ m)
head-id a b l m h = (cc, cc)

pub next-due : (s : Settings) (u : UpstreamPart) (at : ℕ) (a : Abandon) (others : List Abandon) → Knows s u → a ∷ others ≡ map abandon_of (due_ids u.core at) → Next u at a others
next-due s u at a others k e = by (filter (λ x. is_late u.core.timeout at x.last) u.core.table.rows) refl
  where
    by : (l : List Row) → filter (λ x. is_late u.core.timeout at x.last) u.core.table.rows ≡ l → Next u at a others
    by [] f = absurd (let bad : ◌≡◌ {A = List Abandon} (a ∷ others) [] = e ∙ ap (λ (l : List Row). map abandon_of (map (λ (r : Row). r.id) l)) f in cc)
    by (r ∷ rs) f =
        let both = head-id a (abandon_of r.id) others (map abandon_of (map (λ (x : Row). x.id) rs)) (e ∙ ap (λ (l : List Row). map abandon_of (map (λ (x : Row). x.id) l)) f) in
        let same : a.id ≡ r.id = ap (λ (x : Abandon). x.id) both.0 in
        record {
          row = r;
          rows = rs;
          due = f;
          id = same;
          found = ap (λ n. row_of n u.core.table.rows) same ∙ (due-first (λ x. is_late u.core.timeout at x.last) 1 u.core.table.ids.next u.core.table.rows r rs k.steady.sound.table.rises f).0;
          left = both.1;
        }

pub then-due : (s : Settings) (u : UpstreamPart) (w : Conn) (at : ℕ) (a : Abandon) (others : List Abandon) → Knows s u → Next u at a others → w ≡ record u.core { moment = at; table = ended_at a.id (used_up u.core.table) } → others ≡ map abandon_of (due_ids w at)
then-due s u w at a others k n new =
    n.left
    ∙ sym (
    ap (λ (x : Conn). map abandon_of (due_ids x at)) new
    ∙ ap (λ i. map abandon_of (map (λ (r : Row). r.id) (filter (λ x. is_late u.core.timeout at x.last) (without i u.core.table.rows)))) n.id
    ∙ ap (λ (l : List Row). map abandon_of (map (λ (r : Row). r.id) l)) (due-first (λ x. is_late u.core.timeout at x.last) 1 u.core.table.ids.next u.core.table.rows n.row n.rows k.steady.sound.table.rises n.due).1
    )

pub then-leads : (s : Settings) (u v : UpstreamPart) (at : ℕ) (a : Abandon) (others : List Abandon) (x y z : Outbox) (q : ConnectionState) → Knows s u → (n : Next u at a others) → v.core ≡ record u.core { moment = at; table = ended_at a.id (used_up u.core.table) } → Did s (state u) at None (expires s (state u) u.core.table.ids.next (up_row n.row)) x y (state v) → Did s (state v) at None (rest_act s at (state v)) y z q → Did s (state u) at None (rest_act s at (state u)) x z q
then-leads s u v at a others x y z q k n new d e =
    let r : Row = n.row in
    let now : v.core ≡ record u.core { moment = at; table = ended_at r.id (used_up u.core.table) } = new ∙ ap (λ i. record u.core { moment = at; table = ended_at i (used_up u.core.table) }) n.id in
    subst (λ (b : Act). Did s (state u) at None b x z q) (sym (rest-some s u v at r n.rows k n.due now))
    (did-also s (state u) (state v) q at None (what.Expired r.op) (giving s u.core.table.ids.next (what.Own u.core.table.ids.next (abandon r.id))) (expires s (state u) u.core.table.ids.next (up_row r)) (rest_act s at (state v)) x y z refl (ap (λ (w : Conn). w.number) new) d e)

none-left : (ids : List ℕ) → ◌≡◌ {A = List Abandon} [] (map abandon_of ids) → ids ≡ []
none-left [] h = refl
none-left (id ∷ ids) h = absurd (cc)

no-ids : (l : List Row) → map (λ (r : Row). r.id) l ≡ [] → l ≡ []
no-ids [] h = refl
no-ids (r ∷ rs) h = absurd (cc)

-- none are left
pub last-leads : (s : Settings) (u : UpstreamPart) (at : ℕ) (list : List Abandon) (x : Outbox) → Knows s u → list ≡ [] → list ≡ map abandon_of (due_ids u.core at) → Did s (state u) at None (rest_act s at (state u)) x x (state u)
last-leads s u at list x k none e =
    subst (λ (b : Act). Did s (state u) at None b x x (state u)) (sym (rest-none s u at k (no-ids (filter (λ y. is_late u.core.timeout at y.last) u.core.table.rows) (none-left (due_ids u.core at) (sym none ∙ e)))))
    (did-nothing s (state u) at None x)

pub list-length : (c : Conn) (at : ℕ) (list : List Abandon) → list ≡ map abandon_of (due_ids c at) → length list ≤ length c.table.rows
list-length c at list e =
    let same : length list ≡ length (map abandon_of (due_ids c at)) = ap (length {A = Abandon}) e in
    let many : length (map abandon_of (due_ids c at)) ≡ length (due_ids c at) = many-of (due_ids c at) in
    let few = due-length (λ x. is_late c.timeout at x.last) c.table.rows in
    omega (arith, same, many, few)
  where
    many-of : (ids : List ℕ) → length (map abandon_of ids) ≡ length ids
    many-of [] = refl
    many-of (id ∷ ids) = omega (arith, many-of ids)
