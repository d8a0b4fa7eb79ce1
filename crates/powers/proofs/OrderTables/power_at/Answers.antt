use Rattle.std.proofs.Common.{ap, length, arith}
use Rattle.powers.proofs.Powers.{place_within}
use Rattle.powers.proofs.OrderTables.power_at.Goals as goal

pub power_at-requires : goal.power_at-requires
power_at-requires c =
    let a = c.args in
    omega (arith, place_within a.m.p a.i (omega arith), ap length c.lists.ensures.1)
