-- Only serves contracts of functions inside: the outputs of conditions as the code holds them, and the parts of words that tell them.
use Rattle.std.specs.Prelude.{List, ℕ, ◌+◌, map, get_or}
use Rattle.std.specs.List.{range_with_len}
use Rattle.query.specs.Card.{most_conditions}
use Rattle.writer.specs.declared.Node.{Node}

-- the gate of each output, and the depth of each
abbrev pub gates_of : List Node → List ℕ
gates_of outputs = map (λ (f : Node). f.gate) outputs

abbrev pub depths_of : List Node → List ℕ
depths_of outputs = map (λ (f : Node). f.depth) outputs

-- the output whose gate and depth stand at the same place of the two parts of eight words
abbrev pub output_at : List ℕ → ℕ → Node
output_at words k = record { gate = get_or words (8 + k) 0; depth = get_or words (16 + k) 0 }

abbrev pub outputs_in : List ℕ → List Node
outputs_in words = map (output_at words) (range_with_len 0 most_conditions)
