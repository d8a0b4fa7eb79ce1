-- Sums of terms as the code holds them.
use Rattle.std.specs.Prelude.{ℕ, ◌<◌, eqb, Option, None, Some}
use Rattle.circuit.specs.Constant.{signed}
use Rattle.circuit.specs.Gate.{Scale}
use Rattle.step.specs.Pieces as step
use Rattle.writer.specs.declared.Node.{Node}
use Rattle.writer.specs.Nodes.{node_is}

-- the sum that an optional node stands for
abbrev pub sum_is : Option Node → step.Sum
sum_is None = step.none
sum_is (Some node) = step.held (node_is node)

-- the next term, from gate number k on: of a power, by the bits of its constant
abbrev pub next_of : ℕ → Option Node → Node → ℕ → step.Piece
next_of k sum power bits = step.next_term (eqb bits 0) k (Scale power.gate (signed bits)) power.depth (sum_is sum)

-- a sum that is less deep than a bound, so that a product with it can be counted
abbrev pub Shallow : ℕ → step.Sum → Type 0
Shallow d step.none = Unit {0}
Shallow d (step.held s) = s.depth < d
