use Rattle.std.proofs.Common.{◌≡◌, map, take}
use Rattle.lload_conf.specs.AllFaults.{fault_of as fault_of_line}
use Rattle.lload_advice.specs.Advice.{fault_of}
use Rattle.lload_advice.proofs.advice.advise_all.Given as goal

abbrev pub invariant-loop-fault : goal.invariant-loop-fault
invariant-loop-fault l = map fault_of l.advices ≡ map fault_of_line (take l.fault-index l.found)
