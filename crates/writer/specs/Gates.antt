-- A gate, as the code holds it.
use Rattle.circuit.specs.Constant.{signed}
use Rattle.circuit.specs.Gate as circuit
use Rattle.writer.specs.declared.Gate.{Gate}
use Rattle.writer.specs.declared.Gate.TheVariants.{Left, Right, Add, Sub, Scale, Flip, Mul}

-- the gate that the code's enum stands for: a SCALE's second number is the sixteen bits of its constant
abbrev pub gate_is : Gate → circuit.Gate
gate_is (Left slot) = circuit.Left slot
gate_is (Right slot) = circuit.Right slot
gate_is (Add a b) = circuit.Add a b
gate_is (Sub a b) = circuit.Sub a b
gate_is (Scale a b) = circuit.Scale a (signed b)
gate_is (Flip a) = circuit.Flip a
gate_is (Mul a b) = circuit.Mul a b
