use Rattle.std.proofs.Common.{◌≡◌, length}
use Rattle.lload_conf.specs.Values.{is_oid, is_oid_behind}
use Rattle.lload_conf.proofs.values.is_oid.Given as goal

abbrev pub invariant-loop-byte : goal.invariant-loop-byte
invariant-loop-byte l = is_oid_behind l.behind_digit l.left ≡ is_oid l.text

abbrev pub decreases-loop-byte : goal.decreases-loop-byte
decreases-loop-byte l = length l.left
