-- `equality::put_squares` meets its contract. The invariant: the chain over the bits that are left remains to be written, and the running power's exponent times
-- twice the rest is t. The measure is the rest.
-- Assumes nothing.
use Rattle.std.proofs.Common.{◌≡◌, suc, ◌*◌, ◌^◌, ◌≤◌}
use Rattle.comparison.specs.Bits.{bits}
use Rattle.comparison.specs.EqualityDigit.{nothing, chain, zero_chain}
use Rattle.writer.specs.Leaves.{Leaves}
use Rattle.equality.proofs.put_squares.Given as goal

abbrev pub invariant-loop-rest : goal.invariant-loop-rest
invariant-loop-rest l =
    (1 ≤ l.rest)
    × (2 ^ suc l.running.depth * l.rest ≡ l.t)
    × Leaves l.initial.out (zero_chain (bits l.t) l.initial.out.pen.next l.z) l.out (chain (bits l.rest) l.out.pen.next l.running.gate nothing)

abbrev pub decreases-loop-rest : goal.decreases-loop-rest
decreases-loop-rest l = l.rest
