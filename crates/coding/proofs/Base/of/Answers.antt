use Rattle.std.proofs.Common.{arith}
use Rattle.digits.proofs.Number.{base_pos}
use Rattle.coding.proofs.Base.of.Goals as goal

pub invariant_of-result : goal.invariant_of-result
invariant_of-result c = record { some = omega (arith, base_pos c.args.p c.requires); byte = omega arith }
