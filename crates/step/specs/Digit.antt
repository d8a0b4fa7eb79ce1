-- The order digit for a step size (document 02, E7), as tests of a digit's difference z.
use Rattle.std.specs.Prelude.{ℕ, zero, suc, ◌+◌, ◌-◌, ◌≤◌, List, ◌++◌, length}
use Rattle.field.specs.Half.{half}
use Rattle.field.specs.Logarithm.{clog}
use Rattle.circuit.specs.Gate.{Gate}
use Rattle.comparison.specs.Bits.{bits}
use Rattle.comparison.specs.Difference.{z_gate}
use Rattle.comparison.specs.EqualityDigit.{zero_chain}
use Rattle.comparison.specs.Tests.{Test, Tests, base_tests, equality_test}
use Rattle.step.specs.Coefficient.{coefficient}
use Rattle.step.specs.Pieces.{Piece, piece}
use Rattle.step.specs.Powers.{top_level, step_powers}

-- the sum of the whole polynomial, over z at gate z: it follows z and the powers
abbrev pub step_sum : ℕ → ℕ → ℕ → Piece
step_sum p step z = piece p step z (coefficient p) (top_level p step) 0 (suc z + length (step_powers p step z))

-- L: the powers and the sum
abbrev pub step_gates : ℕ → ℕ → ℕ → List Gate
step_gates p step z = step_powers p step z ++ (step_sum p step z).gates

-- as many wherever they are written (`StepLawful`), and as deep as z^k and a level more for each split on the way to z^(p-1)
abbrev pub step_less : ℕ → ℕ → Test
step_less p step = record {
  gates = λ k. step_gates p step (z_gate k);
  count = length (step_gates p step 0);
  depth = clog step + top_level p step;
}

-- "z^(p-1) for E, use the binary chain, written after the sum", from z on, and its FLIP: the gates of an equality digit's test, after those of L
abbrev pub step_equal : ℕ → ℕ → Test
step_equal p step = record {
  gates = λ k. zero_chain (bits (p - 1)) (suc (z_gate k + (step_less p step).count)) (z_gate k);
  count = (equality_test p).count;
  depth = (equality_test p).depth;
}

abbrev pub step_tests : ℕ → ℕ → Tests
step_tests p step = record { less = step_less p step; equal = step_equal p step }

-- "a step size k from 1 to (p-1)/2"
abbrev pub IsStep : ℕ → ℕ → Type 0
IsStep p step = (1 ≤ step) × (step ≤ half p)

-- the tests of a table's order digits: those of a step size, or document 01's where there is none, which 0 stands for
abbrev pub tests_by : ℕ → ℕ → Tests
tests_by p zero = base_tests p
tests_by p (suc k) = step_tests p (suc k)

-- a step size of p, or none
pub record Suits (p step : ℕ) : Type 0 where
  pub low : step ≤ half p
