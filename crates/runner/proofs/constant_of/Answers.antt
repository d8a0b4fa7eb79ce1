use Rattle.std.proofs.Common.{◌≡◌, sym, ap, ◌∙◌, ◌+◌, ◌-◌, arith}
use Rattle.circuit.specs.Constant.{constant}
use Rattle.circuit.proofs.Constant.{signed_plus, signed_minus}
use Rattle.runner.proofs.Signed.{above, below}
use Rattle.runner.proofs.constant_of.Goals as goal

pub overflow_cast-result : goal.overflow_cast-result
overflow_cast-result c = omega (arith, above c.args.prime c.args.b c.requires c.if-b-lt32768.true)

pub returns-then-b-lt32768 : goal.returns-then-b-lt32768
returns-then-b-lt32768 c = sym (ap (constant c.args.prime) (signed_plus c.args.b c.if-b-lt32768.true))

pub overflow_add-result : goal.overflow_add-result
overflow_add-result c = omega (arith, below c.args.prime c.args.b c.requires c.if-b-lt32768.false)

pub overflow_sub-result : goal.overflow_sub-result
overflow_sub-result c = omega (arith, below c.args.prime c.args.b c.requires c.if-b-lt32768.false)

pub overflow_cast-result-2 : goal.overflow_cast-result-2
overflow_cast-result-2 c = omega (arith, below c.args.prime c.args.b c.requires c.if-b-lt32768.false)

pub returns : goal.returns
returns c =
    let down = below c.args.prime c.args.b c.requires c.if-b-lt32768.false in
    let same : c.args.b + c.from-p.result - 0x10000 ≡ c.args.prime - (0x10000 - c.args.b) = omega arith in
    same ∙ sym (ap (constant c.args.prime) (signed_minus c.args.b c.if-b-lt32768.false))
