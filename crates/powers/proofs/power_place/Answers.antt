use Rattle.std.proofs.Common.{arith}
use Rattle.comparison.proofs.Powers.{gate_low, gate_high}
use Rattle.powers.proofs.power_place.Goals as goal

pub returns-then-i-half : goal.returns-then-i-half
returns-then-i-half c = omega (arith, gate_low c.args.p 0 c.args.i c.if-i-half.true)

pub returns : goal.returns
returns c = omega (arith, gate_high c.args.p 0 c.args.i (omega arith))
