-- `equality::put_equality_digits` meets its contract. The invariant: the later digits remain to be written, and the outputs so far with those of the later digits
-- are all outputs.
-- Assumes nothing.
use Rattle.std.proofs.Common.{◌≡◌, ◌++◌, ◌-◌}
use Rattle.comparison.specs.Digits.{equality_start, equality_digits}
use Rattle.comparison.specs.Writing.{equality_factors}
use Rattle.tree.proofs.Factors.{first}
use Rattle.writer.specs.Leaves.{Leaves}
use Rattle.equality.specs.Slots.{equality_condition}
use Rattle.equality.proofs.put_equality_digits.Given as goal

abbrev pub invariant-loop-j : goal.invariant-loop-j
invariant-loop-j l =
    let c = equality_condition l.slots in
    let p = l.modulus.p in
    let k = l.initial.out.pen.next in
    let n = l.slots.count in
    (l.out.pen.next ≡ equality_start p k l.j)
    × Leaves l.initial.out (equality_digits p c k n 0) l.out (equality_digits p c k (n - l.j) l.j)
    × (first l.j l.nodes ++ equality_factors p k (n - l.j) l.j ≡ equality_factors p k n 0)
