use Rattle.std.proofs.Common.{arith, get_or-set_same}
use Rattle.powers.proofs.Powers.{deep_start}
use Rattle.powers.proofs.put_power_depths.Goals as goal

pub loop-i-init : goal.loop-i-init
loop-i-init c = deep_start c.args.m.p _ (omega arith) (get_or-set_same c.args.depths.now 0 0 0 (omega arith))
