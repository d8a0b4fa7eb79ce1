use Rattle.std.proofs.Common.{arith, add-one}
use Rattle.constants.proofs.Constants.{filled_none, filled_length, fill}
use Rattle.constants.proofs.put_ascending.Goals as goal

pub loop-i-init : goal.loop-i-init
loop-i-init c = filled_none _ _

pub loop-i-preserved : goal.loop-i-preserved
loop-i-preserved c =
    let l = c.loop-i in
    fill _ _ _ _ l.invariant _ (omega (arith, filled_length _ _ _ _ l.invariant)) (add-one _)
