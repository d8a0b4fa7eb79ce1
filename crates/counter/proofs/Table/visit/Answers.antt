use Rattle.std.proofs.Common.{eq-eqb, arith}
use Rattle.circuit.proofs.Records.{lent_whole}
use Rattle.counter.proofs.Gates.{operands_are, operands_within}
use Rattle.counter.proofs.Table.visit.Goals as goal

pub enter_operands-requires : goal.enter_operands-requires
enter_operands-requires c =
    rw c.record-at.ensures.0
    (lent_whole c.args.self.bytes.now _ 8 (omega arith), operands_within c.args.self.bytes.now c.args.k (omega arith) _ (omega arith))

pub returns : goal.returns
returns c =
    rw (eq-eqb _ _ c.if-marks-k-ne-USED.false, ← operands_are c.args.self.bytes.now c.args.k (omega arith), ← c.record-at.ensures.0) c.enter_operands.ensures
