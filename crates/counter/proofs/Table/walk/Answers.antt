use Rattle.std.proofs.Common.{arith}
use Rattle.counter.proofs.Walking.{walking_starts, walk_below, walk_falls, walking_again, walking_ends}
use Rattle.counter.proofs.Table.walk.Goals as goal

pub loop-i-init : goal.loop-i-init
loop-i-init c = walking_starts c.requires

pub bounds-marks-low : goal.bounds-marks-low
bounds-marks-low c =
    let w = c.loop-i.invariant in
    omega (arith, walk_below w c.loop-i-test.true, w.few, w.long, c.requires.begins, c.requires.room_marks)

pub loop-i-smaller : goal.loop-i-smaller
loop-i-smaller c = rw c.from-i.ensures (walk_falls c.loop-i.invariant c.loop-i-test.true)

pub loop-i-preserved : goal.loop-i-preserved
loop-i-preserved c =
    rw (c.from-i.ensures, c.from-n.ensures, c.pair_at-low.ensures.0)
    (walking_again c.loop-i.invariant c.loop-i-test.true (omega (arith, c.requires.begins, c.requires.room_marks)))

pub returns-clause-value : goal.returns-clause-value
returns-clause-value c = (walking_ends c.args.h c.loop-i.invariant c.loop-i-test.false).0

pub returns-clause-walked : goal.returns-clause-walked
returns-clause-walked c = (walking_ends c.args.h c.loop-i.invariant c.loop-i-test.false).1
