-- What a family of a journal's parts gains from later entries.
use Rattle.std.specs.Prelude.{◌≡◌, ℕ, List, ◌++◌}
use Rattle.lload_names.specs.declared.names.Entry.{Entry}
use Rattle.lload_names.specs.declared.names.PartName.{PartName}
use Rattle.small_spec.specs.Journal.{of_part, clients_from, connections_from}

-- the entries of a part of a journal and of later entries are those of the one, and then those of the other
abbrev pub PartsAppend : Type 0
PartsAppend = (p : PartName) (J K : List Entry) → of_part p (J ++ K) ≡ of_part p J ++ of_part p K

-- later entries add their clients behind those of the journal
abbrev pub ClientsAppend : Type 0
ClientsAppend = (seen : List ℕ) (J K : List Entry) → clients_from seen (J ++ K) ≡ clients_from (clients_from seen J) K

-- later entries add their connections behind those of the journal
abbrev pub ConnectionsAppend : Type 0
ConnectionsAppend = (seen : List ℕ) (J K : List Entry) → connections_from seen (J ++ K) ≡ connections_from (connections_from seen J) K
