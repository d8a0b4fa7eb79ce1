-- `tree::put_product_tree` meets its contract. The invariant: writing the tree over the factors that are left gives the whole.
-- Assumes nothing.
use Rattle.std.proofs.Common.{◌≡◌, ◌+◌, ◌-◌, ◌≤◌, length, map}
use Rattle.tree.specs.Factors.{Shallow}
use Rattle.writer.specs.Nodes.{node_is}
use Rattle.writer.specs.Writing.{HasRoom}
use Rattle.tree.proofs.Factors.{first}
use Rattle.tree.proofs.ProductTree.{Gives}
use Rattle.tree.proofs.put_product_tree.Given as goal

abbrev pub invariant-loop-left : goal.invariant-loop-left
invariant-loop-left l =
    (1 ≤ l.left)
    × HasRoom l.out (l.left - 1)
    × (l.out.pen.next + l.left ≡ l.initial.out.pen.next + length l.initial.nodes)
    × Shallow l.left (first l.left l.nodes)
    × Gives l.initial.out (map node_is l.initial.nodes) l.out (first l.left l.nodes)
