use Rattle.std.proofs.Common.{◌≡◌, [], ◌∷◌, ◌+◌, ◌-◌, arith}
use Rattle.comparison.specs.OrderDigit.{ascending, power_of}
use Rattle.writer.proofs.Leaves.{leaves_as, leaves_then, leaves_none}
use Rattle.powers.proofs.Powers.{low_cons}
use Rattle.powers.proofs.put_low_powers.Goals as goal

pub loop-i-preserved : goal.loop-i-preserved
loop-i-preserved c =
    let a = c.args in (
      omega arith,
      leaves_then {gs = power_of a.z c.loop-i.i ∷ []} (leaves_as (low_cons a.z a.h c.loop-i.i (omega arith)) c.loop-i.invariant.1)
          c.put_power.ensures,
    )

pub returns-clause-wrote : goal.returns-clause-wrote
unfolding ascending
returns-clause-wrote c = let e : c.args.h + 1 - c.loop-i.i ≡ 0 = omega arith in leaves_none (rw e at c.loop-i.invariant.1)
