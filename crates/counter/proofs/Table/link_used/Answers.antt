use Rattle.counter.proofs.Linking.{linking_starts, linking_again, linking_ends}
use Rattle.counter.proofs.Table.link_used.Goals as goal

pub loop-k-init : goal.loop-k-init
loop-k-init c = linking_starts c.requires

pub loop-k-preserved : goal.loop-k-preserved
loop-k-preserved c =
    rw (c.link.ensures.starts_after, c.link.ensures.next_after) (linking_again c.requires c.loop-k.invariant c.loop-k-test.true)

pub returns : goal.returns
returns c = linking_ends c.requires c.loop-k.invariant c.loop-k-test.false
