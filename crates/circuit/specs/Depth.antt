-- The depth of each gate (document 01, "Gate table"): "LEFT and RIGHT have depth 0; MUL adds 1 to the deeper operand, other kinds add none".
use Rattle.std.specs.Prelude.{ℕ, suc, max, List}
use Rattle.circuit.specs.Gate.{Gate}
use Rattle.circuit.specs.Meaning.{Algebra, output}

abbrev pub depths : Algebra ℕ
depths = record {
  none = 0;
  left = λ a. 0;
  right = λ a. 0;
  add = max;
  sub = max;
  scale = λ a c. a;
  flip = λ a. a;
  mul = λ a b. suc (max a b);
}

-- "the table's depth is the last gate's"
abbrev pub depth : List Gate → ℕ
depth gates = output depths gates
