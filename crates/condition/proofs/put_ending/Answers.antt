use Rattle.std.proofs.Common.{arith}
use Rattle.writer.proofs.Writing.{idle}
use Rattle.condition.proofs.put_ending.Goals as goal

pub returns-clause-wrote : goal.returns-clause-wrote
returns-clause-wrote c = rw c.if-flipped.false (idle (omega arith) (omega arith))
