-- A condition by deeper tests is at least as deep: joining adds and multiplies, and neither is less deep over deeper nodes.
-- By induction on the runs.
-- Assumes nothing.
use mathlib.Core.Bool.{Bool, true, false}
use Prim.Native.Nat.{ℕ, ◌+◌, ◌≤◌}
use native.Mathlib.Omega.{arith}
use lib.ListN.{length}
use Rattle.circuit.specs.Segment.{Node, Segment, followed_by}
use Rattle.circuit.specs.Tree.{Tree, leaf, join}
use Rattle.comparison.specs.Condition.{Condition}
use Rattle.comparison.specs.Joining.{halves, join_run, join_lowest}
use Rattle.comparison.specs.Promises.{DeeperTests}
use Rattle.comparison.specs.Relation.{is_order, is_flipped}
use Rattle.comparison.specs.Tests.{Tests}
use Rattle.comparison.specs.Writing.{less_of, equal_of, order_segment, equality_segment, segment_of, ending, condition_by}
use Rattle.comparison.proofs.EqualityCondition.{equality_node}

module _ (less equal less' equal' : ℕ → Node) (l : (j : ℕ) → (less j).depth ≤ (less' j).depth) (e : (j : ℕ) → (equal j).depth ≤ (equal' j).depth) where
  run_deeper : (tree : Tree ℕ) (k k' : ℕ)
      → ((join_run less equal tree k).less.depth ≤ (join_run less' equal' tree k').less.depth)
      × ((join_run less equal tree k).equal.depth ≤ (join_run less' equal' tree k').equal.depth)
  unfolding join_run
  run_deeper (leaf j) k k' = (l j, e j)
  run_deeper (join low high) k k' =
      let a = run_deeper low k k' in
      let b = run_deeper high (k + length (join_run less equal low k).gates) (k' + length (join_run less' equal' low k').gates) in
      (omega (arith, a, b), omega (arith, a, b))

  lowest_deeper : (tree : Tree ℕ) (k k' : ℕ) → (join_lowest less equal tree k).output.depth ≤ (join_lowest less' equal' tree k').output.depth
  unfolding join_lowest
  lowest_deeper (leaf j) k k' = l j
  lowest_deeper (join low high) k k' =
      let a = lowest_deeper low k k' in
      let b = run_deeper high (k + length (join_lowest less equal low k).gates) (k' + length (join_lowest less' equal' low k').gates) in
      omega (arith, a, b)

body_deeper : (p k j : ℕ) (t u : Tests) (c : Condition) → 2 ≤ p → 1 ≤ c.digits → t.less.depth ≤ u.less.depth → t.equal.depth ≤ u.equal.depth
    → (order : Bool) → (segment_of order t p c k).output.depth ≤ (segment_of order u p c j).output.depth
unfolding order_segment equality_segment
body_deeper p k j t u c two some l e true =
    lowest_deeper (less_of t k) (equal_of t k) (less_of u j) (equal_of u j) (λ i. l) (λ i. e) (halves c.digits 0 c.digits) _ _
body_deeper p k j t u c two some l e false = omega (arith, equality_node p two c some k, equality_node p two c some j)

pub deeper_tests : DeeperTests
unfolding condition_by
deeper_tests p k j t u c two some l e =
    go (is_flipped c.relation) (segment_of (is_order c.relation) t p c k) (segment_of (is_order c.relation) u p c j)
    (body_deeper p k j t u c two some l e (is_order c.relation))
  where
    go : (b : Bool) (s r : Segment) → s.output.depth ≤ r.output.depth
        → (followed_by k s.gates (ending b s.output)).output.depth ≤ (followed_by j r.gates (ending b r.output)).output.depth
    go true s r h = h
    go false s r h = h
