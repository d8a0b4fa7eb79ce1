-- A gate with its depth, as the code holds it.
use Rattle.circuit.specs.Segment as segment
use Rattle.writer.specs.declared.Node.{Node}

-- the node that the code's struct stands for
abbrev pub node_is : Node → segment.Node
node_is node = record { gate = node.gate; depth = node.depth }
