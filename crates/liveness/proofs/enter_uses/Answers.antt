use Rattle.liveness.proofs.Entering.{begin, within, turn, ended}
use Rattle.liveness.proofs.enter_uses.Goals as goal

pub loop-number-init : goal.loop-number-init
loop-number-init c = begin c.args.table.bytes.now c.args.table.outline.gates c.args.list.now c.args.table.counted

pub enter_operands-requires : goal.enter_operands-requires
enter_operands-requires c =
    (c.record.ensures.1, within c.loop-number.invariant c.loop-number-test.true c.requires _ (rw c.from-k.ensures at c.record.ensures.0))

pub loop-number-preserved : goal.loop-number-preserved
loop-number-preserved c =
    rw c.from-k.ensures
    (turn c.loop-number.invariant c.loop-number-test.true c.requires _ _ (rw c.from-k.ensures at c.record.ensures.0) c.enter_operands.ensures)

pub returns : goal.returns
returns c = ended c.loop-number.invariant c.args.table.counted c.requires c.loop-number-test.false
