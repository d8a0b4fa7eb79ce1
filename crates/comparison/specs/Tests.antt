-- The tests of a digit, over its difference z, however they are written.
-- Document 01's order digits have the tests `base_tests`, its equality digits the test `equality_test`.
use Rattle.std.specs.Prelude.{ℕ, ◌+◌, ◌-◌, List, []}
use Rattle.field.specs.Logarithm.{flog, clog}
use Rattle.circuit.specs.Gate.{Gate}
use Rattle.circuit.specs.Segment.{Node}
use Rattle.comparison.specs.Bits.{ones}
use Rattle.comparison.specs.Difference.{z_gate}
use Rattle.comparison.specs.EqualityDigit.{zero_gates}
use Rattle.comparison.specs.OrderDigit.{less_count, less_gates, equal_gates}

-- the gates over the difference whose first gate is number k, of which the last holds the test; how many they are, and how deep it is
pub record Test : Type 0 where
  pub gates : ℕ → List Gate
  pub count : ℕ
  pub depth : ℕ

-- no gates: what stands before a test that follows z at once
abbrev pub no_test : Test
no_test = record { gates = λ k. []; count = 0; depth = 0 }

-- the node of a test whose gates follow those of another, which follow z
abbrev pub test_node : Test → Test → ℕ → Node
test_node before test k = record { gate = z_gate k + before.count + test.count; depth = test.depth }

-- an order digit's L, from the gate after z on, and its E, from the gate after L on
pub record Tests : Type 0 where
  pub less : Test
  pub equal : Test

abbrev pub less_node : Tests → ℕ → Node
less_node t k = test_node no_test t.less k

abbrev pub equal_node : Tests → ℕ → Node
equal_node t k = test_node t.less t.equal k

-- "D = ceil(log2(p-1))": the depth of document 01's tests
abbrev pub digit_depth : ℕ → ℕ
digit_depth p = clog (p - 1)

-- document 01's order digit: the powers of z and the sum of their terms; E flips z^(p-1)
abbrev pub base_tests : ℕ → Tests
base_tests p = record {
  less = record { gates = less_gates p; count = less_count p; depth = digit_depth p };
  equal = record { gates = equal_gates p; count = 1; depth = digit_depth p };
}

-- document 01's equality digit: 1 - z^(p-1)
abbrev pub equality_test : ℕ → Test
equality_test p = record { gates = zero_gates p; count = flog (p - 1) + ones (p - 1); depth = digit_depth p }
