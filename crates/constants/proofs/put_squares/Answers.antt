use Rattle.std.proofs.Common.{◌≡◌, ap, ◌∙◌, ℕ, suc, ◌+◌, ◌^◌, arith, add-one}
use Rattle.field.specs.Modular.{residue, mul_mod}
use Rattle.constants.proofs.Constants.{filled_none, filled_length, fill, power_two}
use Rattle.constants.proofs.put_squares.Goals as goal

square : (p i x : ℕ) → x ≡ mul_mod p (i + 1) (i + 1) → x ≡ residue p (suc i ^ 2)
square p i x e = e ∙ ap (residue p) (rw add-one (power_two (suc i)))

pub loop-i-init : goal.loop-i-init
loop-i-init c = filled_none _ _

pub loop-i-preserved : goal.loop-i-preserved
loop-i-preserved c =
    let l = c.loop-i in
    fill _ _ _ _ l.invariant _ (omega (arith, filled_length _ _ _ _ l.invariant)) (square _ l.i _ c.mul_mod.ensures)
