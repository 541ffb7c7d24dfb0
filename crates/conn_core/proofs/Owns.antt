-- Messages of the proxy's own that aren't the own Bind.
use Rattle.std.proofs.Common.{◌≡◌, ℕ, ◌+◌, ◌≤◌, arith, Bool, true, false, ◌==◌, ◌&&◌, if◌then◌else◌, List, [], ◌∷◌, Option, Some, None, ap, ◌∙◌, sym}
use Rattle.std.proofs.lemmas.Bool.Decides.{nat_tests}
use Rattle.std.specs.Prelude.{flat_map}
use Rattle.lload_names.specs.declared.names.Entry.{Entry}
use Rattle.lload_names.specs.declared.names.PartName.TheVariants.{Up as Connection}
use Rattle.lload_names.specs.declared.names.What.TheVariants as what
use Rattle.lload_spec.specs.Settings.{Settings}
use Rattle.lload_spec.specs.Identifiers.{with_own_id}
use Rattle.lload_spec.specs.OneEach.{begins_with_bind, is_own_bind}
use Rattle.id_table.specs.declared.row.Row.{Row}
use Rattle.id_table.specs.Rows.{row_of, Rises}
use Rattle.part_spec.specs.Marked.{Taken}
use Rattle.part_spec.specs.Inputs.{entries_of, marked_by}
use Rattle.part_spec.specs.ConnectionState.{ConnectionState, UpRow, behind_own, is_first_bind, step_connections}
use Rattle.conn_core.specs.Closing.{given_whats}
use Rattle.conn_core.proofs.Moments.{rises-length}

-- a live row was given its identifier
pub next-above : (id low next : ℕ) (rows : List Row) (r : Row) → Rises low rows next → 1 ≤ low → row_of id rows ≡ Some r → 2 ≤ next
next-above id low next [] r h l e = absurd (let bad : ◌≡◌ {A = Option Row} None (Some r) = e in cc)
next-above id low next (x ∷ xs) r h l e = let few = rises-length (x.id + 1) next xs h.1 in omega (arith, few, h.0, l)

second : (a b : Bool) (n : ℕ) → 2 ≤ n → (a && n == 1 && b) ≡ false
second a b n h = grind (arith, nat_tests, h)

-- the own Bind is the first message
pub not-first : (s : Settings) (p : ConnectionState) (e : Entry) → 2 ≤ p.ids.next → is_first_bind s p e ≡ false
not-first s p e h = second (begins_with_bind s p.number) (is_own_bind s e) p.ids.next h

-- the state behind another one
pub own-step : (s : Settings) (p : ConnectionState) (at : ℕ) (mark : Option Taken) (rest : List ℕ) (xs : List UpRow) (r b : Bool) → is_first_bind s p (record { part = Connection p.number; at = at; what = what.Own p.ids.next rest }) ≡ false → flat_map (behind_own (record { id = p.ids.next; rest = rest })) p.rows ≡ xs → r ≡ (if b then true else p.retired) → record p { moment = at; retired = r; ids = with_own_id p.ids.next p.ids; rows = xs } ≡ step_connections s p (marked_by mark (entries_of (Connection p.number) at (given_whats b (what.Own p.ids.next rest))))
own-step s p at mark rest xs r true first rows e =
    ap (λ t. record p { moment = at; retired = t; ids = with_own_id p.ids.next p.ids; rows = xs }) e
    ∙ ap (λ l. record p { moment = at; retired = true; ids = with_own_id p.ids.next p.ids; rows = l }) (sym rows)
    ∙ ap (λ (t : Bool). record p { moment = at; retired = true; ids = with_own_id p.ids.next p.ids; rows = flat_map (behind_own (record { id = p.ids.next; rest = rest })) p.rows; own_bind = if t then Some (record { id = p.ids.next; at = at }) else p.own_bind }) (sym first)
own-step s p at mark rest xs r false first rows e =
    ap (λ t. record p { moment = at; retired = t; ids = with_own_id p.ids.next p.ids; rows = xs }) e
    ∙ ap (λ l. record p { moment = at; ids = with_own_id p.ids.next p.ids; rows = l }) (sym rows)
    ∙ ap (λ (t : Bool). record p { moment = at; ids = with_own_id p.ids.next p.ids; rows = flat_map (behind_own (record { id = p.ids.next; rest = rest })) p.rows; own_bind = if t then Some (record { id = p.ids.next; at = at }) else p.own_bind }) (sym first)
