-- `tree::first_least` meets its contract. The invariant: of the first i depths, `least` is the place of the first of the least.
-- Assumes nothing.
use Rattle.tree.specs.Factors.{depths, FirstLeast}
use Rattle.tree.proofs.first_least.Given as goal

abbrev pub invariant-loop-i : goal.invariant-loop-i
invariant-loop-i l = FirstLeast (depths l.nodes) l.i l.least
