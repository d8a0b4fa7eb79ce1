-- The number of digits is the measure.
use Rattle.std.proofs.Common.{length}
use Rattle.joining.proofs.+join_run.Given as goal

abbrev pub decreases-join_run : goal.decreases-join_run
decreases-join_run l = length l.tests.now
