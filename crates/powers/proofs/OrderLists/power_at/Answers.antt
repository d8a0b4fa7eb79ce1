use Rattle.std.proofs.Common.{arith}
use Rattle.powers.proofs.Powers.{place_within}
use Rattle.powers.proofs.OrderLists.power_at.Goals as goal

pub overflow_add-result : goal.overflow_add-result
overflow_add-result c =
    let a = c.args in
    omega (arith, place_within a.p a.i (omega arith))
