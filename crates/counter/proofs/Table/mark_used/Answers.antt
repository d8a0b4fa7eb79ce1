use Rattle.std.proofs.Common.{◌≡◌, ◌∙◌, arith, length, length-set}
use Rattle.counter.proofs.Marking.{marking_starts, marking_again}
use Rattle.counter.proofs.Table.mark_used.Goals as goal

pub loop-k-init : goal.loop-k-init
loop-k-init c =
    rw length-set (marking_starts c.requires.records c.args.marks.now c.requires.clear)

pub loop-k-preserved : goal.loop-k-preserved
loop-k-preserved c =
    let size : length c.loop-k.marks ≡ length c.args.marks.now = c.loop-k.invariant.long ∙ simp length-set in
    rw c.visit.ensures
    (marking_again c.requires.records c.loop-k.invariant (omega (arith, c.requires.room, size, c.loop-k.invariant.long)) c.loop-k-test.true)
