use Rattle.tree.proofs.Factors.{depth_at, next_least, same_least}
use Rattle.tree.proofs.first_least.Goals.{then-nodes-i, else-nodes-i}
use Rattle.tree.proofs.first_least.Goals as goal

pub loop-i-preserved : goal.loop-i-preserved
loop-i-preserved c =
    let l = c.loop-i in
    let nodes = c.args.nodes.now in
    elim c.if-nodes-i.branch [
      | then-nodes-i w ↦ rw w.least-is (next_least l.invariant (rw (depth_at nodes l.i, depth_at nodes l.least) w.if-nodes-i.true))
      | else-nodes-i w ↦ rw w.least-is (same_least l.invariant (rw (depth_at nodes l.i, depth_at nodes l.least) w.if-nodes-i.false))
    ]
