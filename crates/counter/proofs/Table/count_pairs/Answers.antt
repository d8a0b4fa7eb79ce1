use Rattle.std.proofs.Common.{arith}
use Rattle.counter.proofs.Counting.{counting_starts, counting_again, counting_ends}
use Rattle.counter.proofs.Table.count_pairs.Goals as goal

pub loop-h-init : goal.loop-h-init
loop-h-init c = counting_starts c.requires

pub loop-h-preserved : goal.loop-h-preserved
loop-h-preserved c =
    let few = rw c.from.ensures at c.walk-pairs.ensures.value.1 in
    rw c.from-squares.ensures
    (counting_again c.requires c.loop-h.invariant c.loop-h-test.true _ c.walk-pairs.result (omega arith) c.walk-pairs.ensures.value.0 few c.walk-pairs.ensures.walked)

pub returns : goal.returns
returns c = counting_ends c.requires c.loop-h.invariant c.loop-h-test.false
