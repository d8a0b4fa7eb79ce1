use Rattle.std.proofs.Common.{rules, arith}
use Rattle.card.specs.Parts.{record_is}
use Rattle.card.proofs.Records.{finishes, refuses, left_few, adds}
use Rattle.card.proofs.read_conditions.Goals as goal

pub returns-in_err-condition : goal.returns-in_err-condition
returns-in_err-condition c =
    let told = refuses _ _ _ _ _ _ _ _ c.record_size-size.ensures c.loop-k-test.true c.loop-k.invariant _ c.in_err-condition.ensures in
    search rules

pub overflow_add-end : goal.overflow_add-end
overflow_add-end c =
    omega (arith, left_few _ _ _ _ _ _ _ _ c.record_size-size.ensures c.loop-k-test.true c.loop-k.invariant (record_is c.in_ok-condition.condition) c.in_ok-condition.ensures c.requires.0)

pub overflow_add-sums : goal.overflow_add-sums
overflow_add-sums c =
    let after = adds _ _ _ _ _ _ _ _ c.record_size-size.ensures c.loop-k-test.true c.loop-k.invariant (record_is c.in_ok-condition.condition) c.in_ok-condition.ensures (omega arith) in
    omega (arith, after.few, c.loop-k-test.true, c.requires.0)

pub loop-k-preserved : goal.loop-k-preserved
loop-k-preserved c =
    rw (c.from.ensures, c.max.ensures)
    (adds _ _ _ _ _ _ _ _ c.record_size-size.ensures c.loop-k-test.true c.loop-k.invariant (record_is c.in_ok-condition.condition) c.in_ok-condition.ensures (omega arith))

pub returns : goal.returns
returns c = finishes _ _ _ _ _ _ _ c.loop-k-test.false c.loop-k.invariant
