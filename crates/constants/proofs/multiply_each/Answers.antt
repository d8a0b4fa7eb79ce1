use Rattle.std.proofs.Common.{◌≡◌, ap, ◌∙◌, List, ℕ, ◌+◌, ◌<◌, arith, length, set, get_or}
use Rattle.field.specs.Modular.{mul_mod}
use Rattle.constants.proofs.Constants.{Multiplied, filled_none, filled_length, filled_next, fill}
use Rattle.constants.proofs.multiply_each.Goals as goal

turn : (p : ℕ) (factors before list : List ℕ) (i x : ℕ) → Multiplied p factors before list i → i < length list
    → x ≡ mul_mod p (get_or list i 0) (get_or factors i 0) → Multiplied p factors before (set list i x) (i + 1)
turn p factors before list i x h l e =
    let inside : i < length before = omega (arith, filled_length _ _ _ _ h) in
    fill _ _ _ _ h x inside
    (e ∙ ap (λ (y : ℕ). mul_mod p y (get_or factors i 0)) (filled_next _ _ _ _ h inside))

pub loop-i-init : goal.loop-i-init
loop-i-init c = filled_none _ _

pub loop-i-preserved : goal.loop-i-preserved
loop-i-preserved c =
    let l = c.loop-i in
    turn _ c.args.factors.now _ _ l.i _ l.invariant (omega arith) c.mul.ensures
