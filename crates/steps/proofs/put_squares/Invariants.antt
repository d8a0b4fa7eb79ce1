-- `steps::put_squares` meets its contract. The invariant: the squares that are left to write give all of them.
-- Assumes nothing.
use Rattle.std.proofs.Common.{◌≡◌, ◌+◌, ◌-◌}
use Rattle.step.specs.Powers.{squares_from}
use Rattle.writer.specs.Leaves.{Leaves}
use Rattle.steps.proofs.put_squares.Given as goal

abbrev pub invariant-loop : goal.invariant-loop
invariant-loop l =
    let first = l.initial.out.pen.next - 1 in
    (l.out.pen.next ≡ l.initial.out.pen.next + l.counter) × Leaves l.initial.out (squares_from l.n first) l.out (squares_from (l.n - l.counter) (first + l.counter))
