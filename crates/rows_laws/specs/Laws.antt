-- What the rows of a regular connection are, by its list and the family.
use Rattle.std.specs.Prelude.{◌≡◌, ℕ, Bool, true, ◌==◌, ◌&&◌, List, IsTrue}
use Rattle.std.specs.List.{list_all, list_any}
use Rattle.ldap_spec.specs.Kinds.{kind_of, same_kind}
use Rattle.lload_names.specs.declared.names.ConnKind.TheVariants.{Regular}
use Rattle.lload_names.specs.declared.names.Entry.{Entry}
use Rattle.lload_names.specs.declared.names.PartName.{PartName}
use Rattle.lload_names.specs.declared.names.PartName.TheVariants.{Up as Connection}
use Rattle.lload_spec.specs.Answers.{Sending, asks_who, is_open, of_operation, sendings}
use Rattle.lload_spec.specs.CausedUp.{last_answer}
use Rattle.lload_spec.specs.Journal.{Family, same_op}
use Rattle.lload_spec.specs.Lists.{agrees, implies, passes}
use Rattle.lload_spec.specs.Operations.{Operation}
use Rattle.lload_spec.specs.Settings.{Settings, is_of_kind}
use Rattle.part_spec.specs.ConnectionState.{UpRow, connection_of}
use Rattle.part_spec.specs.Marked.{Marked, entries}
use Rattle.part_spec.specs.Share.{each_by_state}
use Rattle.carried_laws.specs.Laws.{Played}

-- whether a row says of an operation and its Sent what the lists say: the kind, whether the identity is asked for, the
-- moment of the last answer, and that it is open
abbrev pub says_of : Settings → UpRow → Operation → Sending → Bool
says_of s r o x =
    passes (same_kind r.kind) (kind_of o.request.rest) && agrees r.ask_who (asks_who s o)
    && last_answer o x.id x.at x.behind == r.answered && is_open s o x

-- whether a row is that of a Sent, which is open
abbrev pub is_row_of : Settings → Family → UpRow → Sending → Bool
is_row_of s F r x = same_op r.op x.op && x.id == r.id && x.at == r.sent && of_operation F (says_of s r) x

-- whether each of these rows is that of an open Sent of this list, and each open Sent of it has one of these rows
abbrev pub are_open_sents : Settings → Family → ℕ → List Entry → List UpRow → Bool
are_open_sents s F u place rows =
    list_all (λ r. list_any (is_row_of s F r) (sendings u place)) rows
    && list_all
    (λ x. implies (of_operation F (is_open s) x) (list_any (λ r. is_row_of s F r x) rows))
    (sendings u place)

-- whether the rows are the open Sents, before each entry of a list and behind them all
pub record RowsAreOpen (s : Settings) (F : Family) (u : ℕ) (list : List Marked) : Type 0 where
  pub before_each : IsTrue (each_by_state s u (λ p place m behind. are_open_sents s F u place p.rows) list)
  pub behind_all : IsTrue (are_open_sents s F u (entries list) (connection_of s u list).rows)

abbrev pub RegularRowsAreOpen : Type 0
RegularRowsAreOpen =
    (s : Settings) (F : Family) (marked : PartName → List Marked) → Played s F marked
    → (u : ℕ) → is_of_kind s Regular u ≡ true → RowsAreOpen s F u (marked (Connection u))
