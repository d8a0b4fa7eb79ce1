use Rattle.std.proofs.Common.{arith, eq-eqb}
use Rattle.writer.proofs.Writing.{idle}
use Rattle.pieces.proofs.next_term.Goals as goal

pub returns-then-bits-eq0-clause-wrote : goal.returns-then-bits-eq0-clause-wrote
returns-then-bits-eq0-clause-wrote c = rw (eq-eqb _ 0 c.if-bits-eq0.true) (idle (omega arith) (omega arith))
