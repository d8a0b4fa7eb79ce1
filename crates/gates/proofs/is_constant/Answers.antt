use Rattle.std.proofs.Common.{arith}
use Rattle.gates.proofs.Constant.{constant_moved}
use Rattle.gates.proofs.is_constant.Goals as goal

pub returns : goal.returns
returns c =
    rw (c.from-half.ensures, c.from.ensures) (constant_moved c.args.prime c.args.b c.requires.1 (omega arith) c.requires.0)
