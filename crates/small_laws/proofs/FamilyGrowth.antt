-- What a family of a journal's parts gains from later entries.
use Rattle.std.proofs.Common.{[], ◌∷◌, refl}
use Rattle.std.proofs.lemmas.List.Elements.{filter-append}
use Rattle.small_spec.specs.Journal.{same_part, with_client, with_connection}
use Rattle.small_laws.specs.FamilyGrowth.{PartsAppend, ClientsAppend, ConnectionsAppend}

pub parts_append : PartsAppend
parts_append p J K = filter-append (λ e. same_part p e.part) J K

pub clients_append : ClientsAppend
clients_append seen [] K = refl
clients_append seen (e ∷ J) K = clients_append (with_client e.part seen) J K

pub connections_append : ConnectionsAppend
connections_append seen [] K = refl
connections_append seen (e ∷ J) K = connections_append (with_connection e.part seen) J K
