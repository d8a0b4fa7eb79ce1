use Rattle.std.proofs.Common.{eq-eqb, arith}
use Rattle.counter.proofs.Gates.{kind_is}
use Rattle.counter.proofs.Table.is_linked.Goals as goal

pub returns-then-used : goal.returns-then-used
returns-then-used c =
    rw (eq-eqb _ _ c.if-used.true, c.record-at.ensures.0, c.from.ensures, kind_is c.args.self.bytes.now c.args.k (omega arith))
