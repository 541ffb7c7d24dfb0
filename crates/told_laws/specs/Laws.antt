-- What a client is told.
use Rattle.std.specs.Prelude.{Bool, true, false, ◌&&◌, not, List, IsTrue}
use Rattle.std.specs.List.{list_all}
use Rattle.lload_names.specs.declared.names.PartName.{PartName}
use Rattle.lload_names.specs.declared.names.Refusal.{Refusal}
use Rattle.lload_names.specs.declared.names.Refusal.TheVariants.{C4, C5, C9}
use Rattle.lload_spec.specs.Caused.{each_refusal_caused, has_cancel_cause, has_cause, have_causes, is_canceled_with}
use Rattle.lload_spec.specs.Fifo.{is_refused_with}
use Rattle.lload_spec.specs.Journal.{Family}
use Rattle.lload_spec.specs.Operations.{Operation, all_operations}
use Rattle.lload_spec.specs.Settings.{Settings}
use Rattle.lload_spec.specs.Strict.{each_out_chosen, is_unknown_rightly}
use Rattle.part_spec.specs.Marked.{Marked}
use Rattle.carried_laws.specs.Laws.{Played}

-- no client is told anything for an operation before its choice
abbrev pub OutsAreChosen : Type 0
OutsAreChosen =
    (s : Settings) (F : Family) (marked : PartName → List Marked) → Played s F marked → IsTrue (each_out_chosen s F)

-- whether a refusal tells what came of an operation at its connection
abbrev pub tells_of_upstream : Refusal → Bool
tells_of_upstream C4 = true
tells_of_upstream C5 = true
tells_of_upstream C9 = true
tells_of_upstream _ = false

-- whether each answer of the proxy's own has its cause, but for refusals that tell what came of an operation at its
-- connection
abbrev pub has_own_causes : Settings → Family → Operation → Bool
has_own_causes s F o =
    have_causes (λ which. not (tells_of_upstream which) && is_refused_with F which o) (has_cause s F o)
    (λ which. is_canceled_with F which o) (has_cancel_cause s F o)

-- each refusal by a choice or by a first check, and each answer to a Cancel, has its cause; and only a Bind whose identity
-- is asked for is refused for want of one
pub record OfOwnAnswers (s : Settings) (F : Family) : Type 0 where
  pub caused : IsTrue (list_all (has_own_causes s F) (all_operations F))
  pub asked : IsTrue (list_all (is_unknown_rightly s F) (all_operations F))

abbrev pub OwnAnswersAreCaused : Type 0
OwnAnswersAreCaused =
    (s : Settings) (F : Family) (marked : PartName → List Marked) → Played s F marked → OfOwnAnswers s F

-- each refusal has its cause, and each answer to a Cancel
abbrev pub RefusalsAreCaused : Type 0
RefusalsAreCaused =
    (s : Settings) (F : Family) (marked : PartName → List Marked) → Played s F marked → IsTrue (each_refusal_caused s F)
