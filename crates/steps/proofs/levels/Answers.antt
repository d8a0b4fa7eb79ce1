use Rattle.std.proofs.Common.{◌+◌, ◌-◌, arith}
use Rattle.steps.proofs.Doublings.{doublings_none, doublings_more, doubled_next}
use Rattle.steps.proofs.levels.Goals as goal

pub loop-span-preserved : goal.loop-span-preserved
loop-span-preserved c =
    let l = c.loop-span in
    let a = c.args in
    let t = a.m.p - 1 in
    let more = doublings_more (t - l.count) (t - (l.count + 1)) l.span t (omega arith) (omega arith) in
    (omega arith, omega arith, doubled_next a.step l.span l.count l.invariant.2, omega (arith, l.invariant.3, more))

pub returns : goal.returns
returns c =
    let l = c.loop-span in
    let t = c.args.m.p - 1 in
    (omega (arith, l.invariant.3, doublings_none (t - l.count) l.span t (omega arith)), l.invariant.2, l.invariant.1)
