-- The build's state, as the code holds it, and what a condition more makes of it.
use Rattle.std.specs.Prelude.{true, not, ◌&&◌, [], ◌∷◌, ◌++◌, map, ℕ, ◌+◌, ◌≤◌, ◌<◌, ltb, take}
use Rattle.digits.specs.Number.{most_digits}
use Rattle.circuit.specs.Segment.{Node}
use Rattle.circuit.specs.Table.{most_gates}
use Rattle.filling.specs.State as filling
use Rattle.query.specs.Card.{most_conditions}
use Rattle.writer.specs.Nodes.{node_is}
use Rattle.writer.specs.declared.Pen.{Pen}
use Rattle.state.specs.declared.build.BuildState.{BuildState}

-- the state that the code's struct stands for: the outputs are the first count entries; a count that the array has no room for
-- is left by no accepted calls, so no build was begun
abbrev pub state_is : BuildState → filling.BuildState
state_is state = record {
  begun = state.begun && not (ltb most_conditions state.count);
  prime = state.prime;
  weight = state.weight;
  slots = state.slots;
  gates = state.gates;
  products = state.products;
  squares = state.squares;
  outputs = map node_is (take state.count state.outputs);
}

-- a pen after the gates so far, which has counted their products and squares
abbrev pub pen_of : filling.BuildState → Pen
pen_of state = record { next = state.gates; products = state.products; squares = state.squares }

-- a state with digits more, after the pen that wrote their condition, whose output is the node
abbrev pub grown : filling.BuildState → ℕ → Pen → Node → filling.BuildState
grown state digits pen output = record {
  begun = true;
  prime = state.prime;
  weight = state.weight;
  slots = state.slots + digits;
  gates = pen.next;
  products = pen.products;
  squares = pen.squares;
  outputs = state.outputs ++ (output ∷ []);
}

-- a state that has room for a condition of so many digits more, and a pen whose counts it can hold
pub record Growable (state : BuildState) (digits : ℕ) (pen : Pen) : Type 0 where
  pub few : state.count < most_conditions
  pub slots : state.slots + digits ≤ most_digits
  pub counts : (pen.products ≤ most_gates) × (pen.squares ≤ most_gates)
