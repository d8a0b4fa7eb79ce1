use Rattle.std.proofs.Common.{◌-◌, arith}
use Rattle.comparison.specs.Bits.{bits}
use Rattle.comparison.specs.EqualityDigit.{zero_chain}
use Rattle.writer.proofs.Writing.{idle}
use Rattle.equality.proofs.Chain.{chain_size}
use Rattle.comparison.proofs.Digits.{lowest_none, upper_all}
use Rattle.steps.proofs.put_step_equal.Goals as goal

pub returns-then-j-eq0-clause-wrote : goal.returns-then-j-eq0-clause-wrote
returns-then-j-eq0-clause-wrote c =
    let a = c.args in rw (lowest_none a.j (zero_chain (bits (a.m.p - 1)) a.out.now.pen.next a.z) c.if-j-eq0.true) (idle (omega arith) (omega arith))

pub put_zero_test-requires : goal.put_zero_test-requires
put_zero_test-requires c =
    let a = c.args in
    let room = rw (upper_all a.j (zero_chain (bits (a.m.p - 1)) a.out.now.pen.next a.z) (omega arith)) at c.requires in
    omega (arith, room, chain_size (a.m.p - 1) a.out.now.pen.next a.z (omega arith))
