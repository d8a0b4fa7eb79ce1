-- The invariant: the first k constants are still to be written, and the powers are those that the last of them sums.
use Rattle.constants.proofs.Constants.{Descending}
use Rattle.constants.proofs.put_odd_constants.Given as goal

abbrev pub invariant-loop-k : goal.invariant-loop-k
invariant-loop-k l = Descending l.reducer.p l.initial.constants l.constants l.powers l.k
