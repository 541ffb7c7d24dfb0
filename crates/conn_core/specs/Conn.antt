-- What the parts of both kinds of upstream connection keep.
use Rattle.std.specs.Prelude.{◌≡◌, ◌≤◌, ℕ, ◌+◌, ◌*◌, Bool, false, List, [], length, map, Option}
use Rattle.lload_names.specs.declared.names.OpName.{OpName}
use Rattle.lload_names.specs.declared.names.ConnKind.{ConnKind}
use Rattle.lload_names.specs.declared.names.Entry.{Entry}
use Rattle.lload_names.specs.declared.names.Posted.{Posted}
use Rattle.lload_spec.specs.Settings.{Settings}
use Rattle.id_table.specs.Table.{Table, IsTable, empty, passes_limit}
use Rattle.part_spec.specs.ConnectionState.{ConnectionState, OwnWait}
use Rattle.conn_core.specs.Kept.{up_row, moments_of, EachOnce, open_rows}
use Rattle.outbox.specs.Room.{Room}

-- the connection's number and kind, the moment of its last entry, whether it is linked, up and down, its live
-- operations and identifiers, and after how many seconds an operation is due
pub record Conn : Type 0 where
  pub number : ℕ
  pub kind : ConnKind
  pub moment : ℕ
  pub linked : Bool
  pub up : Bool
  pub down : Bool
  pub table : Table
  pub timeout : ℕ

-- one that isn't linked yet
abbrev pub new_conn : ℕ → ConnKind → ℕ → ℕ → Conn
new_conn number kind limit timeout =
    record {
      number = number;
      kind = kind;
      moment = 0;
      linked = false;
      up = false;
      down = false;
      table = empty limit;
      timeout = timeout;
    }

-- the state of its list, with the own Bind that waits, the holder, the one that was lost, and the clients for which it
-- pauses
abbrev pub state_of : Conn → Option OwnWait → Option OpName → Option OpName → List ℕ → ConnectionState
state_of c own holder lost waiting =
    record {
      number = c.number;
      kind = c.kind;
      moment = c.moment;
      linked = c.linked;
      up = c.up;
      retired = passes_limit c.table;
      down = c.down;
      ids = c.table.ids;
      rows = map up_row c.table.rows;
      own_bind = own;
      holder = holder;
      lost = lost;
      waiting = waiting;
    }

-- the settings by which it was made
pub record Agrees (s : Settings) (c : Conn) : Type 0 where
  pub limit : s.id_limit ≡ c.table.limit
  pub timeout : s.timeout ≡ c.timeout

-- what stands of it whatever it took: nothing was given before it was linked, each operation has one row, and there are
-- identifiers for the messages of the proxy's own that its rows may want
pub record IsSound (c : Conn) : Type 0 where
  pub table : IsTable c.table
  pub begun : c.linked ≡ false → c.table.ids.next ≡ 1
  pub once : EachOnce c.table.rows
  pub within : length (open_rows c.table.rows) + c.table.ids.next ≤ 2 * c.table.limit + 1

-- what is kept beside the view: the moments of the rows, and, until it ends, room for the letters of its end
pub record IsKept (down : Bool) (table : Table) (moments : List (ℕ × ℕ)) (entries : Room Entry) (letters : Room Posted) : Type 0 where
  pub sound : IsTable table
  pub counted : moments ≡ moments_of table.rows
  pub no_entries : entries.items ≡ []
  pub no_letters : letters.items ≡ []
  pub entry_room : down ≡ false → 1 ≤ entries.spare
  pub letter_room : down ≡ false → 2 * length table.rows + 2 ≤ letters.spare
