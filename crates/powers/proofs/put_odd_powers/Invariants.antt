-- `powers::put_odd_powers` meets its contract. The invariant: the powers that are left to write give all of them.
-- Assumes nothing.
use Rattle.std.proofs.Common.{◌≡◌, map, ◌+◌, ◌/◌}
use Rattle.field.specs.Half.{half}
use Rattle.comparison.specs.OrderDigit.{odd_exponents, power_of}
use Rattle.writer.specs.Leaves.{Leaves}
use Rattle.powers.proofs.Powers.{odds}
use Rattle.powers.proofs.put_odd_powers.Given as goal

abbrev pub invariant-loop-k : goal.invariant-loop-k
invariant-loop-k l =
    (l.out.pen.next + (half l.fn.m.p + 1) / 2 ≡ l.z + half l.fn.m.p + l.k)
    × Leaves l.initial.out (map (power_of l.z) (odd_exponents l.fn.m.p)) l.out (map (power_of l.z) (odds (half l.fn.m.p) l.k))
