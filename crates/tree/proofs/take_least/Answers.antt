use Rattle.std.proofs.Common.{ap, sym, ◌∙◌, map}
use Rattle.circuit.specs.ProductTree.{Choice}
use Rattle.writer.specs.declared.Node.{Node}
use Rattle.writer.specs.Nodes.{node_is}
use Rattle.tree.proofs.Factors.{chosen_is}
use Rattle.tree.proofs.take_least.Goals as goal

pub returns-clause-chosen : goal.returns-clause-chosen
returns-clause-chosen c = ap (λ (t : Choice). t.chosen) (sym (chosen_is c.args.nodes.now _ _ c.first_least-place.ensures))

pub returns-clause-others : goal.returns-clause-others
returns-clause-others c =
    let nodes = c.args.nodes.now in
    let place = c.first_least-place.result in
    let none : Node = record { gate = 0; depth = 0 } in
    ap (map node_is) c.close_gap.ensures ∙ ap (λ (t : Choice). t.others) (sym (chosen_is nodes none place c.first_least-place.ensures))
