-- Each side of a fork has fewer places than the fork.
use Rattle.std.specs.Prelude.{◌≤◌, max, length}
use Rattle.std.proofs.Common.{arith, length-append}
use Rattle.io_workers.specs.declared.tree.Node.{Node}
use Rattle.io_workers.specs.declared.tree.Node.TheVariants.{Empty, Leaf, Fork}
use Rattle.io_workers.specs.declared.tree.Tree.TheDeep.{deep-Node}
use Rattle.io_workers.specs.Tree.{rows_of, IsNode}

-- no side is deeper than the node has places
abbrev pub depth_le-length-rows : (n : Node) → IsNode n → max (deep-Node n) 0 ≤ length (rows_of n)
depth_le-length-rows Empty h = omega arith
depth_le-length-rows (Leaf row) h = omega arith
depth_le-length-rows (Fork count low high least) h =
    omega (arith, h.0, h.1, length-append low.value high.value)
