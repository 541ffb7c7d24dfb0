-- Journals, the lists of their parts, and tests of single entries.
use Rattle.std.specs.Prelude.{ℕ, ◌==◌, if◌then◌else◌, List, [], ◌∷◌, ◌++◌, filter}
use Rattle.std.specs.List.{list_any}
use Rattle.lload_names.specs.declared.names.Entry.{Entry}
pub use Rattle.lload_names.specs.Same.{same_op, same_part}
use Rattle.lload_names.specs.declared.names.PartName.{PartName}
use Rattle.lload_names.specs.declared.names.PartName.TheVariants.{Desk, Client, Up as Connection}

-- the entries of a part, in order
abbrev pub of_part : PartName → List Entry → List Entry
of_part p journal = filter (λ e. same_part p e.part) journal

-- these numbers, and one more where it isn't among them
abbrev pub with_number : ℕ → List ℕ → List ℕ
with_number n ns = if list_any (λ m. m == n) ns then ns else ns ++ n ∷ []

-- these numbers of clients, and the entry's
abbrev pub with_client : PartName → List ℕ → List ℕ
with_client (Client c) cs = with_number c cs
with_client _ cs = cs

-- these numbers of connections, and the entry's
abbrev pub with_connection : PartName → List ℕ → List ℕ
with_connection (Connection u) us = with_number u us
with_connection _ us = us

-- the numbers of the clients of a journal, behind those seen before
abbrev pub clients_from : List ℕ → List Entry → List ℕ
clients_from seen [] = seen
clients_from seen (e ∷ es) = clients_from (with_client e.part seen) es

-- the numbers of the connections of a journal, behind those seen before
abbrev pub connections_from : List ℕ → List Entry → List ℕ
connections_from seen [] = seen
connections_from seen (e ∷ es) = connections_from (with_connection e.part seen) es

-- the list of each part, and which clients and connections have one; there is no order between parts
pub record Family : Type 0 where
  pub desk : List Entry
  pub client : ℕ → List Entry
  pub connection : ℕ → List Entry
  pub clients : List ℕ
  pub connections : List ℕ

-- the family of a journal
abbrev pub family : List Entry → Family
family journal = record { desk = of_part Desk journal; client = λ c. of_part (Client c) journal; connection = λ u. of_part (Connection u) journal; clients = clients_from [] journal; connections = connections_from [] journal }
