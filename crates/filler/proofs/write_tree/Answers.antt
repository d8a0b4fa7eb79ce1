use Rattle.std.proofs.Common.{◌≡◌, ◌+◌, ◌-◌, sym, arith, length, take}
use Rattle.std.proofs.Math.ListN.{length-map}
use Rattle.writer.specs.Nodes.{node_is}
use Rattle.state.specs.State.{state_is}
use Rattle.state.proofs.Deep.{shallow}
use Rattle.state.proofs.Open.{open_facts}
use Rattle.filler.proofs.Finishing.{tree_leaves, tree_counts}
use Rattle.filler.proofs.write_tree.Goals as goal

pub put_product_tree-node-requires-clause-shallow : goal.put_product_tree-node-requires-clause-shallow
put_product_tree-node-requires-clause-shallow c =
    let s = c.args.state.now in
    let f = c.requires in
    let outputs = take s.count s.outputs in
    rw c.from-count.ensures
    (shallow (length outputs) (state_is s).outputs (omega (arith, f.few, f.counted, length-map outputs node_is)) (open_facts (state_is s) f.is_open).shallow)

pub report_of-requires : goal.report_of-requires
report_of-requires c =
    let wrote = rw c.from-count.ensures at c.put_product_tree-node.ensures.wrote.wrote in
    tree_counts c.requires c.pen.ensures wrote

pub returns-clause-leaves : goal.returns-clause-leaves
returns-clause-leaves c =
    let wrote = rw c.from-count.ensures at c.put_product_tree-node.ensures.wrote.wrote in
    let last : c.args.state.now.gates + c.from.result - 1 ≡ c.args.state.now.gates + c.args.state.now.count - 1 = omega (arith, c.from.ensures) in
    let left = tree_leaves c.requires c.pen.ensures wrote last c.put_head.ensures in
    let lent = sym c.put_product_tree-node.ensures.wrote.lent in
    grind (arith, left, lent)
