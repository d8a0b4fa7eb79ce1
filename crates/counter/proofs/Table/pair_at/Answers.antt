use Rattle.std.proofs.Common.{arith}
use Rattle.counter.proofs.Gates.{pair_is}
use Rattle.counter.proofs.Table.pair_at.Goals as goal

pub returns : goal.returns
returns c =
    let pair = rw (← c.record-at.ensures.0) at (pair_is c.args.self.bytes.now c.args.k (omega arith)) in omega arith
