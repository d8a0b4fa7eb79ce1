-- The node that holds a sum.
-- Assumes nothing.
use Rattle.std.proofs.Common.{◌≡◌, sym, ap, subst, Option, None, Some, unwrap_or}
use Rattle.circuit.specs.Segment as segment
use Rattle.step.specs.Pieces.{Sum, none, held}
use Rattle.step.proofs.PieceSome as step
use Rattle.writer.specs.declared.Node.{Node}
use Rattle.writer.specs.Nodes.{node_is}
use Rattle.pieces.specs.Sums.{sum_is}

abbrev node_in : segment.Node → Sum → segment.Node
node_in other none = other
node_in other (held node) = node

-- where a sum is held, the node of it
pub unwrap_held : (sum : Option Node) (other : Node) {node : segment.Node} → sum_is sum ≡ held node → node_is (unwrap_or sum other) ≡ node
unwrap_held None other e = absurd (subst step.Some (sym e) tt)
unwrap_held (Some s) other e = ap (node_in (node_is s)) e
