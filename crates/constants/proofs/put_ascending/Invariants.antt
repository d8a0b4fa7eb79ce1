-- The invariant: the entries before i are filled in, and the others are as they were.
use Rattle.std.proofs.Common.{suc}
use Rattle.constants.proofs.Constants.{Filled}
use Rattle.constants.proofs.put_ascending.Given as goal

abbrev pub invariant-loop-i : goal.invariant-loop-i
invariant-loop-i l = Filled (λ i. suc i) l.initial.list l.list l.i
