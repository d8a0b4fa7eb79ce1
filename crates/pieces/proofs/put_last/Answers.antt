use Rattle.std.proofs.Common.{◌≡◌, ap, arith}
use Rattle.circuit.specs.Segment.{Node}
use Rattle.writer.proofs.Writing.{idle, follows}
use Rattle.pieces.proofs.put_last.Goals as goal

pub returns-in_default-clause-wrote : goal.returns-in_default-clause-wrote
returns-in_default-clause-wrote c = rw c.in_default.is (idle (omega arith) (omega arith))

pub returns-clause-wrote : goal.returns-clause-wrote
returns-clause-wrote c =
    let product = c.multiply-product in
    let gate : product.result.gate ≡ c.args.out.now.pen.next = ap (λ (n : Node). n.gate) product.ensures.deepens in
    rw (c.in-Some.is, c.in-Some-low.is) (follows product.ensures.wrote (rw gate at c.put.ensures))
