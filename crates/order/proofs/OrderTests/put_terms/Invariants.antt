-- `OrderTests::put_terms` meets its contract. The invariant: the terms that are left to write give all of them, and the sum so far is as deep as
-- the power before. The next exponent is 2 i + 1.
-- Assumes nothing.
use Rattle.std.proofs.Common.{◌≡◌, ◌+◌, ◌-◌, ◌*◌}
use Rattle.field.specs.Logarithm.{clog}
use Rattle.writer.specs.Leaves.{Leaves}
use Rattle.order.proofs.Terms.{terms_from}
use Rattle.order.proofs.OrderTests.put_terms.Given as goal

abbrev pub invariant-loop-i : goal.invariant-loop-i
invariant-loop-i l =
    let first = l.initial.out.pen.next in
    (l.out.pen.next + 2 ≡ first + 2 * l.i) × (l.sum.gate + 1 ≡ l.out.pen.next) × (l.sum.depth ≡ clog (2 * l.i - 1))
    × Leaves l.initial.out (terms_from l.p l.z first l.initial.sum.gate 3) l.out (terms_from l.p l.z l.out.pen.next l.sum.gate (2 * l.i + 1))
