-- `powers::put_low_powers` meets its contract. The invariant: the powers that are left to write give all of them.
-- Assumes nothing.
use Rattle.std.proofs.Common.{◌≡◌, map, ◌+◌, ◌-◌}
use Rattle.comparison.specs.OrderDigit.{ascending, power_of}
use Rattle.writer.specs.Leaves.{Leaves}
use Rattle.powers.proofs.put_low_powers.Given as goal

abbrev pub invariant-loop-i : goal.invariant-loop-i
invariant-loop-i l =
    (l.out.pen.next + 1 ≡ l.z + l.i)
    × Leaves l.initial.out (map (power_of l.z) (ascending (l.h - 1) 2)) l.out (map (power_of l.z) (ascending (l.h + 1 - l.i) l.i))
