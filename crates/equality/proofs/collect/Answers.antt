use Rattle.std.proofs.Common.{arith}
use Rattle.writer.proofs.Writing.{idle}
use Rattle.equality.proofs.collect.Goals as goal

pub returns-clause-wrote : goal.returns-clause-wrote
returns-clause-wrote c = rw c.if-set.false (idle (omega arith) (omega arith))
