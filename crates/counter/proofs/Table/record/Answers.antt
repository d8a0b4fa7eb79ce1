use Rattle.std.proofs.Common.{arith}
use Rattle.counter.proofs.Gates.{placed}
use Rattle.counter.proofs.Table.record.Goals as goal

pub returns : goal.returns
returns c = omega (arith, placed c.args.self.bytes.now c.args.k (omega arith))
