-- `OrderTests::put_digits` meets its contract. The invariant: the digits that are left to write give all of them, and begin at the next free gate,
-- and the slice holds the tests of the others.
-- Assumes nothing.
use Rattle.std.proofs.Common.{◌≡◌, ◌-◌}
use Rattle.comparison.specs.Digits.{order_start, order_digits}
use Rattle.step.specs.Digit.{tests_by}
use Rattle.writer.specs.Leaves.{Leaves}
use Rattle.order.specs.TestsListed.{TestsListed}
use Rattle.order.specs.Slots.{order_condition}
use Rattle.order.proofs.OrderTests.put_digits.Given as goal

abbrev pub invariant-loop-j : goal.invariant-loop-j
invariant-loop-j l =
    let t = tests_by l.self.m.p l.self.step in
    let c = order_condition l.backward l.slots in
    let k = l.initial.out.pen.next in
    let n = l.slots.count in
    (l.out.pen.next ≡ order_start t k l.j) × Leaves l.initial.out (order_digits t c k n 0) l.out (order_digits t c k (n - l.j) l.j)
    × TestsListed t k l.j l.tests
