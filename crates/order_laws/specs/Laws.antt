-- In what order a connection's states stand in its list.
use Rattle.std.specs.Prelude.{ℕ, Bool, not, List, IsTrue}
use Rattle.std.specs.List.{list_any}
use Rattle.lload_names.specs.declared.names.Entry.{Entry}
use Rattle.lload_names.specs.declared.names.PartName.TheVariants.{Up as Connection}
use Rattle.lload_spec.specs.Entries.{is_retired, is_up}
use Rattle.lload_spec.specs.Lists.{each_entry, implies}
use Rattle.lload_spec.specs.Settings.{Settings}
use Rattle.part_spec.specs.Fit.{is_all_fit}
use Rattle.part_spec.specs.Marked.{Marked, entries}
use Rattle.part_spec.specs.Share.{ConnectionShare}
use Rattle.drained_laws.specs.Laws.{none_comes_drained}

-- whether an entry, where it is Up, stands before each Retired
abbrev pub is_up_in_time : List Entry → Entry → Bool
is_up_in_time place e = implies (is_up e.what) (not (list_any (λ x. is_retired x.what) place))

-- in a list that keeps a connection's share, whose letters were fit, and where no message comes to a connection that has
-- nothing left to do, no Up stands behind Retired
abbrev pub UpsInTime : Type 0
UpsInTime =
    (s : Settings) (u : ℕ) (list : List Marked) → ConnectionShare s u list → IsTrue (is_all_fit s (Connection u) list)
    → IsTrue (none_comes_drained s u list) → IsTrue (each_entry is_up_in_time (entries list))
