-- What stands of a part, behind a change of its connection.
use Rattle.std.proofs.Common.{◌≡◌, ℕ, ◌+◌, ◌*◌, ◌≤◌, Bool, false, List, [], ◌∷◌, length, Option, refl, ◌∙◌, sym, subst}
use Rattle.lload_names.specs.declared.names.OpName.{OpName}
use Rattle.lload_spec.specs.Settings.{Settings}
use Rattle.id_table.specs.declared.row.Row.{Row}
use Rattle.id_table.specs.Table.{Table, IsTable}
use Rattle.conn_core.specs.Conn.{Conn}
use Rattle.conn_core.specs.Kept.{EachOnce, open_rows}
use Rattle.bind_conn.specs.Part.{Knows, IsOneBind}
use Rattle.bind_conn.specs.declared.part.BindPart.{BindPart}

once-one : (rows : List Row) → IsOneBind rows → EachOnce rows
once-one [] h = tt
once-one (r ∷ rs) h = subst (λ (l : List Row). EachOnce (r ∷ l)) (sym h.1) (refl, tt)

pub knows-from : (s : Settings) (b : BindPart) (w : Conn) (at : ℕ) (linked up down : Bool) (t : Table) (h l : Option OpName) → w ≡ record b.core { moment = at; linked = linked; up = up; down = down; table = t } → IsTable w.table → t.limit ≡ b.core.table.limit → (linked ≡ false → t.ids.next ≡ 1) → IsOneBind t.rows → length (open_rows t.rows) + t.ids.next ≤ 2 * t.limit + 1 → Knows s b → Knows s (record b { core = w; holder = h; lost = l })
knows-from s b w at linked up down t h l new table limit begun one within k =
    subst (λ (x : Conn). Knows s (record b { core = x; holder = h; lost = l })) (sym new) (record {
      agrees = record { limit = k.agrees.limit ∙ sym limit; timeout = k.agrees.timeout };
      placed = k.placed;
      steady = record {
        kind = k.steady.kind;
        sound = record {
          table = subst (λ (x : Conn). IsTable x.table) new table;
          begun = begun;
          once = once-one t.rows one;
          within = within;
        };
        one = one;
      };
    })
