use Rattle.std.proofs.Common.{arith}
use Rattle.constants.proofs.Bits.{bits_moved}
use Rattle.constants.proofs.bits_of.Goals as goal

pub returns : goal.returns
returns c =
    rw (c.from-moved.ensures, c.remainder.ensures, c.from.ensures, c.from-half.ensures) (bits_moved c.args.p c.requires.1 (omega arith) c.args.x)
