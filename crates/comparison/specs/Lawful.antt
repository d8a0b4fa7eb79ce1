-- What a condition asks of the tests of its order digits.
use Rattle.std.specs.Prelude.{◌≡◌, true, List, ◌++◌, ℕ, suc, ◌+◌, ◌%◌, ◌≤◌, length}
use Rattle.field.specs.Polynomials.{order_polynomial, zero_test}
use Rattle.circuit.specs.Depth.{depths}
use Rattle.circuit.specs.Meaning.{Solves}
use Rattle.circuit.specs.Table.{Head, all_fit}
use Rattle.circuit.specs.Value.{values}
use Rattle.comparison.specs.Difference.{z_gate}
use Rattle.comparison.specs.Tests.{Test, no_test, test_node, Tests, base_tests, equality_test}

-- a test whose gates follow those of another, which follow z, computes a function of z modulo p
pub record Computes (p : ℕ) (before test : Test) (function : ℕ → ℕ) : Type 0 where
  -- its gates are as many as it tells, one at least
  pub size : (k : ℕ) → length (test.gates k) ≡ test.count
  pub some : 1 ≤ test.count
  -- they keep the rules of gates
  pub fits : (head : Head) (k : ℕ) → head.prime ≡ p → all_fit head (suc (z_gate k + before.count)) (test.gates k) ≡ true
  -- the last has the function's value
  pub value : (left right : List ℕ) (entry : ℕ → ℕ) (k : ℕ)
      → Solves (values p left right) entry (suc (z_gate k)) (before.gates k ++ test.gates k)
      → entry (test_node before test k).gate ≡ function (entry (z_gate k))
  -- and is as deep as the test tells, where z has depth 0
  pub tells : (entry : ℕ → ℕ) (k : ℕ) → Solves depths entry (suc (z_gate k)) (before.gates k ++ test.gates k) → entry (z_gate k) ≡ 0
      → entry (test_node before test k).gate ≡ test.depth

-- L is the order polynomial of z, E the zero test
pub record Lawful (p : ℕ) (t : Tests) : Type 0 where
  pub less : Computes p no_test t.less (λ z. order_polynomial p z % p)
  pub equal : Computes p t.less t.equal (zero_test p)

-- document 01's tests are lawful, for every odd p from 3 on. Proved in `proofs/Lawful.antt`
abbrev pub BaseLawful : Type 0
BaseLawful = (p : ℕ) → 3 ≤ p → p % 2 ≡ 1 → Lawful p (base_tests p)

-- and the test of its equality digit is the zero test
abbrev pub EqualityLawful : Type 0
EqualityLawful = (p : ℕ) → 2 ≤ p → Computes p no_test (equality_test p) (zero_test p)
