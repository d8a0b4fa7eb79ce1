-- `equality::put_collected` meets its contract. The invariant: the chain over the bits that are left remains to be written, and the collected power's exponent
-- and these bits make the whole exponent. The measure is the rest.
-- Assumes nothing.
use Rattle.std.proofs.Common.{◌+◌, ◌*◌, ◌^◌}
use Rattle.comparison.specs.Bits.{bits}
use Rattle.comparison.specs.EqualityDigit.{power, chain}
use Rattle.equality.specs.Collecting.{later_bits}
use Rattle.writer.specs.Leaves.{Leaves}
use Rattle.equality.proofs.Depth.{Collects}
use Rattle.equality.proofs.put_collected.Given as goal

abbrev pub invariant-loop-rest : goal.invariant-loop-rest
invariant-loop-rest l =
    Collects (2 ^ l.initial.collected.depth * (2 * l.later + 1)) l.rest l.running.depth l.collected.depth
    × Leaves l.initial.out (later_bits l.initial.out.pen.next l.initial.collected l.later) l.out
    (chain (bits l.rest) l.out.pen.next l.running.gate (power l.collected.gate))

abbrev pub decreases-loop-rest : goal.decreases-loop-rest
decreases-loop-rest l = l.rest
