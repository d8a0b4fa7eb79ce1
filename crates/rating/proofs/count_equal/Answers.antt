use Rattle.std.proofs.Common.{ℕ, ◌-◌, ◌≤◌, arith}
use Rattle.comparison.specs.Tests.{equality_test}
use Rattle.comparison.proofs.Bits.{ones_below, flog_below}
use Rattle.writer.specs.Modulus.{Modulus}
use Rattle.rating.proofs.count_equal.Goals as goal

-- the chain is short
few : (p : ℕ) → Modulus p → (equality_test p).count ≤ p
few p odd = omega (arith, odd, ones_below (p - 1) (omega (arith, odd)) (omega (arith, odd)), flog_below (p - 1) (omega (arith, odd)))

pub put_zero_test-requires : goal.put_zero_test-requires
put_zero_test-requires c =
    let m = c.args.m in
    let f = few m.p (m.least, m.odd, m.byte) in
    (omega (arith, f, c.requires, c.second_gate.ensures), omega (arith, f, c.second_gate.ensures), omega (arith, c.second_gate.ensures), omega (arith, c.second_gate.ensures))

pub returns : goal.returns
returns c =
    let m = c.args.m in
    let moved = c.put_zero_test.ensures.moves.0 in
    (omega (arith, moved, c.second_gate.ensures), omega (arith, moved, c.second_gate.ensures, few m.p (m.least, m.odd, m.byte)))
