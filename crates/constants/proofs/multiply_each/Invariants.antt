-- The invariant: the entries before i are multiplied, and the others are as they were.
use Rattle.constants.proofs.Constants.{Multiplied}
use Rattle.constants.proofs.multiply_each.Given as goal

abbrev pub invariant-loop-i : goal.invariant-loop-i
invariant-loop-i l = Multiplied l.reducer.p l.factors l.initial.list l.list l.i
