use Rattle.std.proofs.Common.{[], ◌∷◌, arith}
use Rattle.circuit.specs.Gate.{Flip}
use Rattle.writer.proofs.Writing.{idle}
use Rattle.comparison.proofs.Digits.{lowest_none}
use Rattle.order.proofs.put_equal.Goals as goal

pub returns-then-lowest-clause-wrote : goal.returns-then-lowest-clause-wrote
returns-then-lowest-clause-wrote c =
    let a = c.args in rw (lowest_none a.j (Flip a.top.gate ∷ []) c.if-lowest.true) (idle (omega arith) (omega arith))
