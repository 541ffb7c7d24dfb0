-- What binds a client, and what the desk is asked for its requests.
use Rattle.std.specs.Prelude.{◌≡◌, ℕ, false, List, IsTrue}
use Rattle.std.specs.List.{list_all}
use Rattle.lload_names.specs.declared.names.PartName.{PartName}
use Rattle.lload_names.specs.declared.names.PartName.TheVariants.{Client}
use Rattle.lload_spec.specs.Binding.{BoundOk, choices, standing_by}
use Rattle.lload_spec.specs.Journal.{Family}
use Rattle.lload_spec.specs.Settings.{Settings}
use Rattle.lload_spec.specs.Strict.{is_ask_due}
use Rattle.part_spec.specs.ClientState.{client_of, standing_of}
use Rattle.part_spec.specs.Marked.{Marked}
use Rattle.carried_laws.specs.Laws.{Played}

-- what binds a client that isn't gone is by its state what it is by its list: the first choices that bind it since its
-- last Bind, the last write, how many writes are live, and when the last of them ended
abbrev pub ClientsAreBound : Type 0
ClientsAreBound =
    (s : Settings) (F : Family) (marked : PartName → List Marked) → Played s F marked
    → (c : ℕ) → (client_of s c (marked (Client c))).gone ≡ false
    → standing_of s (client_of s c (marked (Client c))) ≡ standing_by s (choices c (F.client c))

-- the desk is asked for what its client is bound to, and only for what its first check lets go on and no exchange takes
pub record OfAsks (s : Settings) (F : Family) : Type 0 where
  pub rightly : BoundOk s F
  pub due : IsTrue (list_all (is_ask_due s F) F.desk)

abbrev pub AsksRightly : Type 0
AsksRightly = (s : Settings) (F : Family) (marked : PartName → List Marked) → Played s F marked → OfAsks s F
