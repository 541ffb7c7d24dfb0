-- A success that is kept back, whose identity is asked for by a message of the proxy's own.
use Rattle.std.proofs.Common.{◌≡◌, ℕ, suc, max, ◌+◌, ◌≤◌, arith, Bool, true, false, ◌==◌, ◌&&◌, cond, if◌then◌else◌, List, [], ◌∷◌, ◌++◌, map, length, Option, Some, None, refl, ap, ◌∙◌, sym, subst}
use Rattle.std.proofs.lemmas.Bool.Decides.{nat_tests}
use Rattle.std.proofs.lemmas.Slice.Eq.{bytes_eq-Decides}
use Rattle.std.specs.Prelude.{flat_map, is_none}
use Rattle.std.specs.Str.{bytes_eq}
use Rattle.ldap_spec.specs.Messages.{Message}
use Rattle.ldap_spec.specs.Bodies.{who_am_i}
use Rattle.ldap_spec.specs.Kinds.{is_final, is_intermediate}
use Rattle.ldap_spec.specs.Responses.{result_code}
use Rattle.lload_names.specs.declared.names.OpKind.TheVariants.{Bind}
use Rattle.lload_names.specs.declared.names.PartName.TheVariants.{Up as Connection}
use Rattle.lload_names.specs.declared.names.What.TheVariants as what
use Rattle.lload_spec.specs.Settings.{Settings}
use Rattle.lload_spec.specs.Identifiers.{with_own_id}
use Rattle.id_table.specs.declared.row.Row.{Row}
use Rattle.id_table.specs.declared.row.Kept.{Kept}
use Rattle.id_table.specs.Rows.{row_of, changed, kept_back}
use Rattle.id_table.specs.Table.{IsTable, kept_at, used_up, may_own, passes_limit}
use Rattle.part_spec.specs.Marked.{Taken}
use Rattle.part_spec.specs.Inputs.{Act, act, also, entries_of, marked_by}
use Rattle.part_spec.specs.ConnectionState.{ConnectionState, UpRow, behind_own, is_first_bind, with_got, step_connections}
use Rattle.part_spec.specs.BindTurn.{message, keep_back}
use Rattle.outbox.specs.declared.outbox.Outbox.{Outbox}
use Rattle.conn_core.specs.Conn.{Conn}
use Rattle.conn_core.specs.Kept.{up_row, open_rows}
use Rattle.conn_core.specs.Closing.{given_whats, retired_letters}
use Rattle.conn_core.specs.Did.{Did}
use Rattle.conn_core.proofs.Giving.{giving-is, retires-is, used-passes}
use Rattle.conn_core.proofs.Owns.{next-above, not-first, own-step}
use Rattle.bind_conn.specs.Part.{Knows, IsOneBind, state}
use Rattle.bind_conn.specs.Told.{told_of}
use Rattle.bind_conn.specs.declared.part.BindPart.{BindPart}
use Rattle.bind_conn.specs.declared.told.Told.TheVariants.{Success}
use Rattle.bind_conn.proofs.Known.{knows-from}
use Rattle.bind_conn.proofs.Meets.{alone, got-stays, success, success-row, success-stays}
use Rattle.bind_conn.proofs.Gots.{message-good, row-good}
use Rattle.bind_conn.proofs.Settles.{changed-is, final-fits, coded, picked}

-- where a Bind waits, an identifier is left for its Who Am I
pub may-own : (s : Settings) (b : BindPart) (id : ℕ) (r : Row) → Knows s b → row_of id b.core.table.rows ≡ Some r → r.kept ≡ None → may_own b.core.table ≡ true
may-own s b id r k found waits =
    let a = alone id b.core.table.rows r k.steady.one found in
    let size : length (open_rows b.core.table.rows) ≡ 1 = ap (λ (l : List Row). length (open_rows l)) a.0 ∙ ap (λ (o : Option Kept). length (cond (is_none o) (r ∷ []) [])) waits in
    let within = k.steady.sound.within in
    grind (arith, nat_tests, size, within)

module _ (s : Settings) (b : BindPart) (at id : ℕ) (rest : List ℕ) (r : Row) (mark : Option Taken) (k : Knows s b) (found : row_of id b.core.table.rows ≡ Some r) (waits : r.kept ≡ None) (told : told_of r.ask_who rest ≡ Success) where
  abbrev p : ConnectionState
  p = state b

  abbrev m : Message
  m = record { id = id; rest = rest }

  abbrev next : ℕ
  next = b.core.table.ids.next

  abbrev kept : Kept
  kept = record { rest = rest; who = next }

  -- the row behind the message, and behind the Who Am I
  abbrev x : UpRow
  x = record (up_row r) { answered = at; kept = Some (record { rest = rest; who = None }) }

  abbrev y : UpRow
  y = record (up_row r) { answered = at; kept = Some (record { rest = rest; who = Some next }) }

  abbrev w : Conn
  w = record b.core { moment = at; table = kept_at id at kept (used_up b.core.table) }

  only : (b.core.table.rows ≡ r ∷ []) × (r.kind ≡ Bind) × ((r.id == id) ≡ true)
  only = alone id b.core.table.rows r k.steady.one found

  got : with_got at m p ≡ record p { rows = x ∷ [] }
  got = got-stays b.core b.holder b.lost at m r only.0 x (success-row at m r only.1 waits only.2 told) (success-stays at m r only.1 waits only.2 told)

  asked : flat_map (behind_own (record { id = next; rest = who_am_i })) (x ∷ []) ≡ y ∷ []
  asked = by (bytes_eq who_am_i who_am_i) ((bytes_eq-Decides who_am_i who_am_i).1 refl)
    where
      by : (t : Bool) → t ≡ true → ◌≡◌ {A = List UpRow} ((let l : List UpRow = elim (t && true) [ true ↦ y ∷ [] | false ↦ x ∷ [] ] in l) ++ []) (y ∷ [])
      by true h = refl
      by false h = absurd (let bad : false ≡ true = h in cc)

  first : is_first_bind s (record p { moment = at; rows = x ∷ [] }) (record { part = Connection b.core.number; at = at; what = what.Own next who_am_i }) ≡ false
  first = not-first s (record p { moment = at; rows = x ∷ [] }) (record { part = Connection b.core.number; at = at; what = what.Own next who_am_i }) (next-above id 1 next b.core.table.rows r k.steady.sound.table.rises (omega arith) found)

  rows-are : changed (kept_back at kept) id b.core.table.rows ≡ kept_back at kept r ∷ []
  rows-are = changed-is (kept_back at kept) id b.core.table.rows r only.0 only.2

  own-part : (t : Bool) → passes_limit (used_up b.core.table) ≡ (if t then true else passes_limit b.core.table) → state (record b { core = w }) ≡ step_connections s (record p { moment = at; rows = x ∷ [] }) (marked_by None (entries_of (Connection b.core.number) at (given_whats t (what.Own next who_am_i))))
  own-part t e =
      ap (λ (l : List Row). record p { moment = at; retired = passes_limit (used_up b.core.table); ids = with_own_id next b.core.table.ids; rows = map up_row l }) rows-are
      ∙ own-step s (record p { moment = at; rows = x ∷ [] }) at None who_am_i (y ∷ []) (passes_limit (used_up b.core.table)) t first asked e

  pub keep-step : (t : Bool) → passes_limit (used_up b.core.table) ≡ (if t then true else passes_limit b.core.table) → state (record b { core = w }) ≡ step_connections s p (marked_by mark (entries_of (Connection b.core.number) at (what.Got id rest ∷ given_whats t (what.Own next who_am_i))))
  keep-step true e = own-part true e ∙ sym (ap (λ (g : ConnectionState). step_connections s (record g { moment = at }) (marked_by None (entries_of (Connection b.core.number) at (given_whats true (what.Own next who_am_i))))) got)
  keep-step false e = own-part false e ∙ sym (ap (λ (g : ConnectionState). step_connections s (record g { moment = at }) (marked_by None (entries_of (Connection b.core.number) at (given_whats false (what.Own next who_am_i))))) got)

  -- what is appended, and the state behind it
  pub keep-did : (o q : Outbox) (own : ℕ) → own ≡ next → q.entries.items ≡ o.entries.items ++ entries_of (Connection b.core.number) at (what.Got id rest ∷ given_whats (own == b.core.table.limit) (what.Own own who_am_i)) → q.letters.items ≡ o.letters.items ++ retired_letters b.core.number (own == b.core.table.limit) → Did s p at mark (message s p m) o q (state (record b { core = record b.core { moment = at; table = kept_at id at (record { rest = rest; who = own }) (used_up b.core.table) } }))
  keep-did o q own is entries letters =
      let limit : ℕ = b.core.table.limit in
      let g = success at m r only.1 waits only.2 told in
      let a : message s p m ≡ also (act (what.Got id rest ∷ []) []) (keep_back s p) = message-good s b.core b.holder b.lost m r only.0 (keep_back s p) (row-good s b.core b.holder b.lost m r only.0 at only.1 waits only.2 (final-fits (is_final Bind rest) (is_intermediate rest) g.0.final) (coded (is_final Bind rest) (is_none (result_code rest)) g.0.coded)) (picked s b o q at id rest r r.op mark k found refl waits false false true g.0.part g.1 g.2) in
      let whats : (message s p m).whats ≡ what.Got id rest ∷ given_whats (next == limit) (what.Own next who_am_i) = ap (λ (z : Act). z.whats) a ∙ ap (λ ws. what.Got id rest ∷ ws) (giving-is s next limit (what.Own next who_am_i) k.agrees.limit) in
      let told_letters : (message s p m).letters ≡ retired_letters b.core.number (next == limit) = ap (λ (z : Act). z.letters) a ∙ retires-is s p next limit k.agrees.limit in
      record {
        entries = entries ∙ ap (λ n. o.entries.items ++ entries_of (Connection b.core.number) at (what.Got id rest ∷ given_whats (n == limit) (what.Own n who_am_i))) is ∙ sym (ap (λ ws. o.entries.items ++ entries_of (Connection b.core.number) at ws) whats);
        letters = letters ∙ ap (λ n. o.letters.items ++ retired_letters b.core.number (n == limit)) is ∙ sym (ap (λ ls. o.letters.items ++ ls) told_letters);
        behind =
            ap (λ n. state (record b { core = record b.core { moment = at; table = kept_at id at (record { rest = rest; who = n }) (used_up b.core.table) } })) is
            ∙ keep-step (next == limit) (used-passes b.core.table)
            ∙ sym (ap (λ ws. step_connections s p (marked_by mark (entries_of (Connection b.core.number) at ws))) whats);
      }

-- and what is known behind it
pub keep-knows : (s : Settings) (b : BindPart) (w : Conn) (at id own : ℕ) (rest : List ℕ) (r : Row) → row_of id b.core.table.rows ≡ Some r → r.kept ≡ None → w ≡ record b.core { moment = at; table = kept_at id at (record { rest = rest; who = own }) (used_up b.core.table) } → IsTable w.table → Knows s b → Knows s (record b { core = w })
keep-knows s b w at id own rest r found waits new table k =
    let kept : Kept = record { rest = rest; who = own } in
    let a = alone id b.core.table.rows r k.steady.one found in
    let is : changed (kept_back at kept) id b.core.table.rows ≡ kept_back at kept r ∷ [] = changed-is (kept_back at kept) id b.core.table.rows r a.0 a.2 in
    let one : IsOneBind (changed (kept_back at kept) id b.core.table.rows) = subst IsOneBind (sym is) (a.1, refl) in
    let size : length (open_rows (changed (kept_back at kept) id b.core.table.rows)) ≡ 0 = ap (λ (l : List Row). length (open_rows l)) is in
    let was : length (open_rows b.core.table.rows) ≡ 1 = ap (λ (l : List Row). length (open_rows l)) a.0 ∙ ap (λ (o : Option Kept). length (cond (is_none o) (r ∷ []) [])) waits in
    let within = k.steady.sound.within in
    let above = next-above id 1 b.core.table.ids.next b.core.table.rows r k.steady.sound.table.rises (omega arith) found in
    let more : max b.core.table.ids.next (suc b.core.table.ids.next) ≡ b.core.table.ids.next + 1 = omega arith in
    knows-from s b w at b.core.linked b.core.up b.core.down (kept_at id at kept (used_up b.core.table)) b.holder b.lost new table refl
    (λ h. absurd (let begun = k.steady.sound.begun h in omega (arith, begun, above))) one (omega (arith, size, was, within, more)) k
