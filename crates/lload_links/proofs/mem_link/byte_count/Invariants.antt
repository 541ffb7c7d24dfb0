use Rattle.std.proofs.Common.{◌≡◌, take, length}
use Rattle.lload_links.specs.Plans.{bytes_of}
use Rattle.lload_links.proofs.mem_link.byte_count.Given as goal

abbrev pub invariant-loop-step : goal.invariant-loop-step
invariant-loop-step l = l.count ≡ length (bytes_of (take l.step-index l.reads))
