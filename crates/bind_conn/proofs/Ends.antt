-- What is known behind the end of a connection.
use Rattle.std.proofs.Common.{◌≡◌, ℕ, arith, true, [], Option, refl}
use Rattle.lload_names.specs.declared.names.OpName.{OpName}
use Rattle.lload_spec.specs.Settings.{Settings}
use Rattle.id_table.specs.Table.{IsTable}
use Rattle.conn_core.specs.Conn.{Conn}
use Rattle.bind_conn.specs.Part.{Knows}
use Rattle.bind_conn.specs.declared.part.BindPart.{BindPart}
use Rattle.bind_conn.proofs.Known.{knows-from}

pub end-knows : (s : Settings) (b : BindPart) (w : Conn) (at : ℕ) (h l : Option OpName) → w ≡ record b.core { moment = at; down = true; table = record b.core.table { rows = [] } } → IsTable w.table → Knows s b → Knows s (record b { core = w; holder = h; lost = l })
end-knows s b w at h l new table k =
    let fits = k.steady.sound.table.fits in
    knows-from s b w at b.core.linked b.core.up true (record b.core.table { rows = [] }) h l new table refl k.steady.sound.begun tt (omega (arith, fits)) k
