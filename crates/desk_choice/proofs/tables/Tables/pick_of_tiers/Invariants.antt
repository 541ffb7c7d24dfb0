use Rattle.std.proofs.Common.{◌≡◌, drop}
use Rattle.lload_spec.specs.Settings.{Settings}
use Rattle.lload_spec.specs.Choice.{DeskFacts, pick_of_tiers}
use Rattle.desk_choice.specs.Tells.{Tells}
use Rattle.desk_choice.proofs.tables.Tables.pick_of_tiers.Given as goal

abbrev pub invariant-loop-round : goal.invariant-loop-round
invariant-loop-round l = (s : Settings) (f : DeskFacts) → Tells s f l.self → pick_of_tiers s f l.kind l.word (drop l.round-index f.tiers) ≡ pick_of_tiers s f l.kind l.word f.tiers
