-- What advice says of a faulty line.
use Rattle.std.specs.Prelude.{◌≡◌, ℕ, List, Option, Some, None}
use Rattle.lload_conf.specs.Configuration.{Fault}
use Rattle.lload_conf.specs.declared.table.Takes.{Takes}
use Rattle.lload_conf.specs.declared.table.Takes.TheVariants.{Number}
use Rattle.lload_advice.specs.declared.advice.Advice.{Advice}
use Rattle.lload_advice.specs.declared.reason.Remedy.{Remedy}
use Rattle.lload_advice.specs.declared.reason.Remedy.TheVariants as remedy

-- the fault that an advice is on, by its line and its kind
abbrev pub fault_of : Advice → Fault
fault_of a = record { line = a.line; kind = a.kind }

-- where a number is wanted, a number of just its range is asked for
abbrev pub AsksFor : Takes → Remedy → Type 0
AsksFor (Number range) asked = asked ≡ remedy.Number range
AsksFor _ asked = Unit {0}

-- the same of an argument that may be known
abbrev pub AsksForRange : Option (Takes × List ℕ) → Remedy → Type 0
AsksForRange None asked = Unit {0}
AsksForRange (Some read) asked = AsksFor read.0 asked
