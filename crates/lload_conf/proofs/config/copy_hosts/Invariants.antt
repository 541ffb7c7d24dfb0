use Rattle.std.proofs.Common.{◌≡◌, take}
use Rattle.lload_conf.proofs.config.copy_hosts.Given as goal

abbrev pub invariant-loop-host : goal.invariant-loop-host
invariant-loop-host l = l.copy ≡ take l.host-index l.host-items
