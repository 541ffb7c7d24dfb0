-- The identifiers of each upstream connection rise from 1, each used once.
use Rattle.std.specs.Prelude.{ℕ, suc, Bool, true, ◌==◌, List, length, filter, Some, None, IsTrue, is_some}
use Rattle.std.specs.List.{list_all}
use Rattle.lload_names.specs.declared.names.Entry.{Entry}
use Rattle.small_spec.specs.Lists.{each_entry}
use Rattle.small_spec.specs.Journal.{Family}
use Rattle.small_spec.specs.Entries.{given_id}

-- how many identifiers these entries gave
abbrev pub given_count : List Entry → ℕ
given_count place = length (filter (λ e. is_some (given_id e.what)) place)

-- whether an entry that gives an identifier gives the next one: the k-th gives k
abbrev pub has_next_id : List Entry → Entry → Bool
has_next_id place e = elim (given_id e.what) [ None ↦ true | Some id ↦ id == suc (given_count place) ]

-- whether the identifiers of a connection rise from 1, each used once
abbrev pub has_ids_in_order : Family → ℕ → Bool
has_ids_in_order F u = each_entry has_next_id (F.connection u)

-- whether those of each connection do
abbrev pub each_id_next : Family → Bool
each_id_next F = list_all (has_ids_in_order F) F.connections

-- the identifiers of each connection rise from 1, each used once
abbrev pub IdsRise : Family → Type 0
IdsRise F = IsTrue (each_id_next F)
