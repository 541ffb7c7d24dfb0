-- Each side of a fork has fewer identifiers than the fork.
use Rattle.std.specs.Prelude.{◌≤◌, max, length}
use Rattle.std.proofs.Common.{arith, length-append}
use Rattle.op_deadlines.specs.declared.tree.Node.{Node}
use Rattle.op_deadlines.specs.declared.tree.Node.TheVariants.{Empty, Leaf, Fork}
use Rattle.op_deadlines.specs.declared.tree.Tree.TheDeep.{deep-Node}
use Rattle.op_deadlines.specs.Tree.{entries, IsNode}

-- no side is deeper than the node has identifiers
abbrev pub depth_le-length-entries : (n : Node) → IsNode n → max (deep-Node n) 0 ≤ length (entries n)
depth_le-length-entries Empty h = omega arith
depth_le-length-entries (Leaf id moment) h = omega arith
depth_le-length-entries (Fork first split last low high least) h =
    omega (arith, h.0, h.1, length-append low.value high.value)
