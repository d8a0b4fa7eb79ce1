-- The tests of a condition's digits in a list, by the digit's number.
use Rattle.std.specs.Prelude.{◌≡◌, List, ℕ, ◌<◌}
use Rattle.comparison.specs.Tests.{Tests}
use Rattle.comparison.specs.Writing.{less_of, equal_of}
use Rattle.joining.specs.Listed.{less_at, equal_at}
use Rattle.writer.specs.declared.Tests as writer

-- it holds L of each of the first n digits, which are written from gate number k on with the tests t, and E of each but the lowest
pub record TestsListed (t : Tests) (k n : ℕ) (list : List writer.Tests) : Type 0 where
  pub less : (j : ℕ) → j < n → less_at list j ≡ less_of t k j
  pub equal : (j : ℕ) → 0 < j → j < n → equal_at list j ≡ equal_of t k j
