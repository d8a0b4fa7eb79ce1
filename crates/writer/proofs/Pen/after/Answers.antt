use Rattle.std.proofs.Common.{arith}
use Rattle.writer.proofs.Gates.{square_counts, product_counts, other_counts}
use Rattle.writer.proofs.Pen.after.Goals as goal

pub returns-then-a-b-clause-products : goal.returns-then-a-b-clause-products
returns-then-a-b-clause-products c = omega (arith, (square_counts c.in-Mul.is c.if-a-b.true).0)

pub returns-then-a-b-clause-squares : goal.returns-then-a-b-clause-squares
returns-then-a-b-clause-squares c = omega (arith, (square_counts c.in-Mul.is c.if-a-b.true).1)

pub returns-else-a-b-clause-products : goal.returns-else-a-b-clause-products
returns-else-a-b-clause-products c = omega (arith, (product_counts c.in-Mul.is c.if-a-b.false).0)

pub returns-else-a-b-clause-squares : goal.returns-else-a-b-clause-squares
returns-else-a-b-clause-squares c = omega (arith, (product_counts c.in-Mul.is c.if-a-b.false).1)

pub returns-in_default : goal.returns-in_default
returns-in_default c =
    let counts = other_counts c.args.gate c.in_default.not-Mul in
    record { number = omega arith; products = omega (arith, counts.0); squares = omega (arith, counts.1) }
