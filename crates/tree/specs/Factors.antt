-- The factors of a product tree, as the code holds them: nodes in gate order.
use Rattle.std.specs.Prelude.{ℕ, ◌+◌, ◌≤◌, ◌<◌, List, get_or, map}
use Rattle.circuit.specs.Every.{Every}
use Rattle.circuit.specs.Segment as segment
use Rattle.circuit.specs.Table.{most_gates}
use Rattle.writer.specs.declared.Node.{Node}

-- the depths of nodes
abbrev pub depths : List Node → List ℕ
depths nodes = map (λ node. node.depth) nodes

-- of the first count depths, the first of the least stands at a place
-- ("the two of least depth, equal depths by lower gate number", document 01, "Writing one condition")
pub record FirstLeast (depths : List ℕ) (count place : ℕ) : Type 0 where
  pub within : place < count
  -- those before it are deeper
  pub before : (k : ℕ) → k < place → get_or depths place 0 < get_or depths k 0
  -- none is less deep
  pub lowest : (k : ℕ) → k < count → get_or depths place 0 ≤ get_or depths k 0

-- n products later the depths are still no more than the most gates: a product is one level deeper than its deeper factor
abbrev pub Shallow : ℕ → List segment.Node → Type 0
Shallow n factors = Every (λ (f : segment.Node). f.depth + n ≤ most_gates) factors
