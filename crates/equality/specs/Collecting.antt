-- One bit of the collected power (document 01, "Writing one condition"):
-- "At a set bit it becomes the collected power, or MUL (collected, running) if one exists."
use Rattle.std.specs.Prelude.{Bool, true, false, List, [], ◌∷◌, ℕ}
use Rattle.circuit.specs.Gate.{Gate, Mul}
use Rattle.circuit.specs.Segment.{Node, times}
use Rattle.comparison.specs.Bits.{bits}
use Rattle.comparison.specs.EqualityDigit.{power, chain}
use Rattle.writer.specs.declared.Node as node

-- the gate written where a collected power exists: one at a set bit
abbrev pub product_at : Bool → ℕ → ℕ → List Gate
product_at true collected running = Mul collected running ∷ []
product_at false collected running = []

-- the collected power after it, where gate number k is the next
abbrev pub collected_by : Bool → ℕ → Node → Node → Node
collected_by true k collected running = times k collected running
collected_by false k collected running = collected

-- what follows the first set bit from gate number k on, where the running power becomes the collected one: the bits above it as a number
abbrev pub later_bits : ℕ → node.Node → ℕ → List Gate
later_bits k first later = chain (bits later) k first.gate (power first.gate)
