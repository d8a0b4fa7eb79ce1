-- An order condition but for its last FLIP: its digits, and then their joining over the list that holds their tests.
-- Joining goes by the nodes of L and of E that it is given (`lowest_same`), and those are the list's.
-- Assumes nothing.
use Rattle.std.proofs.Common.{◌≡◌, sym, ap, ◌∙◌, List, ◌++◌, ℕ, ◌+◌, ◌≤◌, arith, length, length-append}
use Rattle.circuit.specs.Segment.{Node, Segment}
use Rattle.comparison.specs.Condition.{Condition}
use Rattle.comparison.specs.Digits.{order_digits}
use Rattle.comparison.specs.Joining.{halves, whole_run}
use Rattle.comparison.specs.Tests.{Tests}
use Rattle.comparison.specs.Writing.{less_of, equal_of, order_segment}
use Rattle.comparison.proofs.Halves.{halves_each, halves_upper}
use Rattle.comparison.proofs.Joining.{lowest_same}
use Rattle.joining.specs.Listed.{most_joined, most_test_depth, less_at, equal_at, listed_whole, Joinable}
use Rattle.writer.specs.declared.Tests as writer
use Rattle.order.specs.TestsListed.{TestsListed}

-- the digits are a part of it
pub digits_within : (t : Tests) (c : Condition) (k : ℕ) → length (order_digits t c k c.digits 0) ≤ length (order_segment t c k).gates
unfolding order_segment
digits_within t c k = simp length-append (omega arith)

module _ (t : Tests) (c : Condition) (k : ℕ) (some : 1 ≤ c.digits) {list : List writer.Tests} (one_each : length list ≡ c.digits)
    (listed : TestsListed t k c.digits list) where
  -- the joining of what the list holds is that of the digits
  listed_same : (next : ℕ) → whole_run (less_of t k) (equal_of t k) c.digits next ≡ listed_whole list next
  listed_same next =
      rw one_each (sym (lowest_same (less_at list) (equal_at list) (less_of t k) (equal_of t k) (halves c.digits 0 c.digits) next
      (halves_each _ c.digits some listed.less) (halves_upper _ c.digits some listed.equal)))

  pub segment_is : (next : ℕ) → next ≡ k + length (order_digits t c k c.digits 0)
      → let joined = listed_whole list next in
      ((order_segment t c k).gates ≡ order_digits t c k c.digits 0 ++ joined.gates) × ((order_segment t c k).output ≡ joined.output)
  unfolding order_segment
  segment_is next e =
      let same = ap (whole_run (less_of t k) (equal_of t k) c.digits) (sym e) ∙ listed_same next in
      (ap (λ (s : Segment). order_digits t c k c.digits 0 ++ s.gates) same, ap (λ (s : Segment). s.output) same)

  -- tests that are not too deep can be joined
  pub listed_joinable : c.digits ≤ most_joined → t.less.depth ≤ most_test_depth → t.equal.depth ≤ most_test_depth → Joinable list
  listed_joinable few l e = record {
    some = omega arith;
    few = omega arith;
    shallow_less = λ j to. omega (arith, ap (λ (n : Node). n.depth) (listed.less j (omega arith)));
    shallow_equal = λ j low to. omega (arith, ap (λ (n : Node). n.depth) (listed.equal j low (omega arith)));
  }
