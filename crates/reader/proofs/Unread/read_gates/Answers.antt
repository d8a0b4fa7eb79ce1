use Rattle.std.proofs.Common.{◌<◌, arith}
use Rattle.std.proofs.lemmas.Grind.{common_steps}
use Rattle.reader.proofs.ReadGates.{finishes, refuses, adds}
use Rattle.reader.proofs.Unread.read_gates.Goals as goal

pub returns-in_err-depths : goal.returns-in_err-depths
returns-in_err-depths c =
    let less : c.loop-k.k < c.args.self.count = omega arith in
    grind (arith, common_steps, refuses _ _ _ _ _ _ less c.args.self.readable.1 c.loop-k.invariant _ c.in_err-depths.ensures)

pub loop-k-preserved : goal.loop-k-preserved
loop-k-preserved c =
    let less : c.loop-k.k < c.args.self.count = omega arith in
    adds _ _ _ _ _ _ less c.args.self.readable.1 c.loop-k.invariant _ c.in_ok-depths.ensures

pub returns : goal.returns
returns c = finishes _ _ _ _ _ _ c.args.self.readable.0 c.loop-k-test.false c.loop-k.invariant
