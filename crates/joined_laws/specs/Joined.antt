-- What the promises say of several lists, and of what a list's letters were: it comes of the shares of the parts, where
-- each letter was fit and was given by its sender.
use Rattle.std.specs.Prelude.{Bool, true, false, List, IsTrue}
use Rattle.lload_names.specs.declared.names.Entry.{Entry}
use Rattle.lload_names.specs.declared.names.Letter.{Letter}
use Rattle.lload_names.specs.declared.names.Letter.TheVariants.{IsUp, IsRetired, IsDown}
use Rattle.lload_names.specs.declared.names.PartName.{PartName}
use Rattle.lload_spec.specs.Lists.{each_entry, implies, where_there}
use Rattle.lload_spec.specs.Settings.{Settings}
use Rattle.lload_spec.specs.Entries.{heard}
use Rattle.lload_spec.specs.Journal.{Family}
use Rattle.lload_spec.specs.Fifo.{has_outs_and_sents_in_place}
use Rattle.lload_spec.specs.Strict.{each_client_lives, each_missed_once, is_told}
use Rattle.part_spec.specs.Fit.{is_all_fit}
use Rattle.part_spec.specs.Linked.{Linked}
use Rattle.part_spec.specs.Marked.{Marked}
use Rattle.promise_laws.specs.OneList.{Shared}

-- the lists of a family with the letters that they took: each keeps its part's share, its letters were fit, and what it
-- took of another is a beginning of what this one gave
pub record Joined (s : Settings) (F : Family) (marked : PartName → List Marked) : Type 0 where
  pub shared : Shared s F marked
  pub linked : Linked s F marked
  pub fit : (p : PartName) → IsTrue (is_all_fit s p (marked p))

-- whether a letter tells a state of a connection
abbrev pub tells_state : Letter → Bool
tells_state (IsUp u) = true
tells_state (IsRetired u) = true
tells_state (IsDown u) = true
tells_state _ = false

-- each state of a connection that the desk heard stands in the connection's list: of what the desk hears, the part that
-- looks at no operation
abbrev pub is_state_told : Settings → Family → List Entry → Entry → Bool
is_state_told s F place e =
    where_there (λ letter. implies (tells_state letter) (is_told s F place letter)) (heard e.what)

-- what the promises say of several lists
pub record OfSeveralLists (s : Settings) (F : Family) : Type 0 where
  pub in_place : IsTrue (has_outs_and_sents_in_place F)
  pub clients_live : IsTrue (each_client_lives s F)
  pub missed_once : IsTrue (each_missed_once F)
  pub states_told : IsTrue (each_entry (is_state_told s F) F.desk)

abbrev pub JoinedLaw : Type 0
JoinedLaw =
    (s : Settings) (F : Family) (marked : PartName → List Marked) → Joined s F marked → OfSeveralLists s F
