-- The gates that end the table of a score card (document 02, E1): they add up the weights of the conditions that hold.
use Rattle.std.specs.Prelude.{ℕ, List, [], ◌∷◌, map, length}
use Rattle.circuit.specs.Constant.{code}
use Rattle.circuit.specs.Gate.{Gate, Scale}
use Rattle.circuit.specs.Segment.{Node, Segment}
use Rattle.circuit.specs.Sums.{sum_from, sum_gate, largest}
use Rattle.comparison.specs.Condition.{Condition}

-- the weights, in card order
abbrev pub weights_of : List Condition → List ℕ
weights_of conditions = map (λ (c : Condition). c.weight) conditions

-- "each condition's output is scaled by its weight, in card order"
unfoldable pub scaled_outputs : ℕ → List ℕ → List Node → List Gate
scaled_outputs p [] outputs = []
scaled_outputs p (w ∷ ws) [] = []
scaled_outputs p (w ∷ ws) (f ∷ fs) = Scale f.gate (code p w) ∷ scaled_outputs p ws fs

-- "and every term after the first is followed by ADD(sum, it)": from gate number k on.
-- The depth that the output node tells, which is that of the deepest term, is that of its gate (`CardOutput`)
abbrev pub score_sum : ℕ → List Condition → ℕ → List Node → Segment
score_sum p conditions k outputs = record {
  gates = sum_from k (scaled_outputs p (weights_of conditions) outputs);
  output = record { gate = sum_gate k (length outputs); depth = largest (map (λ (f : Node). f.depth) outputs) };
}
