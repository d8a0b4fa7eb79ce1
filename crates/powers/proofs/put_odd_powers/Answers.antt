use Rattle.std.proofs.Common.{◌≡◌, [], ◌∷◌, ◌+◌, ◌-◌, ◌*◌, arith}
use Rattle.field.specs.Half.{half}
use Rattle.field.specs.Polynomials.{every_second}
use Rattle.comparison.specs.OrderDigit.{power_of}
use Rattle.writer.proofs.Leaves.{leaves_as, leaves_then, leaves_none}
use Rattle.powers.proofs.Powers.{odd_cons}
use Rattle.powers.proofs.put_odd_powers.Goals as goal

pub loop-k-preserved : goal.loop-k-preserved
loop-k-preserved c =
    let a = c.args in
    let k = c.loop-k.k in (
      omega arith,
      leaves_then {gs = power_of a.z (2 * k + 1) ∷ []} (leaves_as (odd_cons a.z (half a.m.p) k (omega arith)) c.loop-k.invariant.1)
          c.put_power.ensures,
    )

pub returns-clause-wrote : goal.returns-clause-wrote
unfolding every_second
returns-clause-wrote c = let e : half c.args.m.p - c.loop-k.k ≡ 0 = omega arith in leaves_none (rw e at c.loop-k.invariant.1)
