-- What a client expects of connections.
use Rattle.std.specs.Prelude.{ℕ, Bool, ◌==◌, ◌&&◌, ◌||◌, not, List, IsTrue}
use Rattle.std.specs.List.{list_all, list_any}
use Rattle.lload_names.specs.declared.names.OpKind.TheVariants.{Bind}
use Rattle.lload_names.specs.declared.names.PartName.{PartName}
use Rattle.lload_names.specs.declared.names.PartName.TheVariants.{Client, Up as Connection}
use Rattle.lload_names.specs.declared.names.Posted.{Posted}
use Rattle.lload_spec.specs.Journal.{Family}
use Rattle.lload_spec.specs.Lists.{passes}
use Rattle.lload_spec.specs.Operations.{is_request_of}
use Rattle.lload_spec.specs.Settings.{Settings}
use Rattle.part_spec.specs.ClientState.{ClientRow, is_bind_row}
use Rattle.part_spec.specs.Fit.{Expected, client_ledger, is_drop_of}
use Rattle.part_spec.specs.Gives.{gives}
use Rattle.part_spec.specs.Marked.{Marked, letters_to}
use Rattle.carried_laws.specs.Laws.{Played}

-- whether a row is of an operation other than a Bind that is expected from a connection, and went there
abbrev pub went_as : Expected → ClientRow → Bool
went_as x r = r.k == x.op.k && (not (is_bind_row r) && passes (λ v. v == x.connection) r.connection)

abbrev pub has_row : Expected → List ClientRow → Bool
has_row x rows = list_any (went_as x) rows

-- whether its Drop is among these letters to the connection
abbrev pub is_dropped : Expected → List Posted → Bool
is_dropped x given = list_any (is_drop_of x.op) (letters_to (Connection x.connection) given)

-- each operation other than a Bind that a client expects of a connection has a row that went there, or its Drop was given
abbrev pub EachRowedOrDropped : Type 0
EachRowedOrDropped =
    (s : Settings) (F : Family) (marked : PartName → List Marked) → Played s F marked → (c : ℕ)
    → IsTrue
    (list_all
    (λ x.
    is_request_of Bind x.request || has_row x (client_ledger s c (marked (Client c))).state.rows
    || is_dropped x (gives s (Client c) (marked (Client c))))
    (client_ledger s c (marked (Client c))).expected)
