-- L and E of each digit, or run of digits, as they are lent: one pair of tests for each, by number.
use Rattle.std.specs.Prelude.{List, ℕ, ◌-◌, ◌≤◌, ◌<◌, length, get_or}
use Rattle.circuit.specs.Segment as segment
use Rattle.circuit.specs.Table.{most_gates}
use Rattle.comparison.specs.Joining.{JoinedRun, run_from, whole_run}
use Rattle.writer.specs.declared.Tests.{Tests}
use Rattle.writer.specs.Nodes.{node_is}

-- up to so many digits, or runs of digits, are joined
abbrev pub most_joined : ℕ
most_joined = 64

-- so deep may their tests be: joining adds fewer levels than it joins digits, so every factor is less deep than the most gates
abbrev pub most_test_depth : ℕ
most_test_depth = most_gates - most_joined

-- the tests of number j
abbrev pub tests_at : List Tests → ℕ → Tests
tests_at tests j = get_or tests j (record { less = record { gate = 0; depth = 0 }; equal = record { gate = 0; depth = 0 } })

-- their L and their E
abbrev pub less_at : List Tests → ℕ → segment.Node
less_at tests j = node_is (tests_at tests j).less

abbrev pub equal_at : List Tests → ℕ → segment.Node
equal_at tests j = node_is (tests_at tests j).equal

-- the run of all of them, joined from gate number k on; and that of the lowest digits, without E of the first
abbrev pub listed_run : List Tests → ℕ → JoinedRun
listed_run tests k = run_from (less_at tests) (equal_at tests) 0 (length tests) k

abbrev pub listed_whole : List Tests → ℕ → segment.Segment
listed_whole tests k = whole_run (less_at tests) (equal_at tests) (length tests) k

-- few enough, and with tests no deeper than may be; the lowest digit has no E
pub record Joinable (tests : List Tests) : Type 0 where
  pub some : 1 ≤ length tests
  pub few : length tests ≤ most_joined
  pub shallow_less : (j : ℕ) → j < length tests → (less_at tests j).depth ≤ most_test_depth
  pub shallow_equal : (j : ℕ) → 0 < j → j < length tests → (equal_at tests j).depth ≤ most_test_depth

-- the same of digits that all have E
pub record UpperJoinable (tests : List Tests) : Type 0 where
  pub some : 1 ≤ length tests
  pub few : length tests ≤ most_joined
  pub shallow : (j : ℕ) → j < length tests → ((less_at tests j).depth ≤ most_test_depth) × ((equal_at tests j).depth ≤ most_test_depth)

-- tests that are not too deep for another product
abbrev pub ShallowTests : Tests → Type 0
ShallowTests tests = (tests.less.depth < most_gates) × (tests.equal.depth < most_gates)
