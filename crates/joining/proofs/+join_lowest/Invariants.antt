-- The number of digits is the measure.
use Rattle.std.proofs.Common.{length}
use Rattle.joining.proofs.+join_lowest.Given as goal

abbrev pub decreases-join_lowest : goal.decreases-join_lowest
decreases-join_lowest l = length l.tests.now
