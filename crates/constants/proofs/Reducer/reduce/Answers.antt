use Rattle.std.proofs.Common.{◌≡◌, ℕ, ◌+◌, ◌-◌, ◌*◌, ◌/◌, ◌<◌, ◌≤◌, refl, arith}
use Rattle.field.specs.Modular.{residue}
use Rattle.constants.proofs.Reciprocal.{quotient_low, quotient_near, rest_is}
use Rattle.constants.proofs.Reducer.reduce.Goals as goal

module _ (p m x : ℕ) (some : 0 < p) (small : x < 65536) (e : m ≡ 65536 / p) where
  abbrev rest : ℕ
  rest = x - x * m / 65536 * p

  low : x * m / 65536 * p ≤ x
  low = quotient_low p m x _ e refl

  near : rest - p < p
  near = omega (arith, low, quotient_near p m x _ some small e refl)

  right : rest < p → rest ≡ residue p x
  right l = rest_is p x (x * m / 65536) rest l (omega (arith, low))

  one_less : p ≤ rest → rest - p ≡ residue p x
  one_less l = rest_is p x (x * m / 65536 + 1) (rest - p) near (omega (arith, low))

pub overflow_sub-rest : goal.overflow_sub-rest
overflow_sub-rest c =
    rw (c.from.ensures, c.from-2.ensures, c.from-p.ensures) (low c.args.self.p _ c.args.x (omega arith) (omega arith) c.args.self.quotient)

pub returns-then-rest-p : goal.returns-then-rest-p
returns-then-rest-p c =
    let below = rw (c.from.ensures, c.from-2.ensures, c.from-p.ensures) at c.if-rest-p.true in
    rw (c.from.ensures, c.from-2.ensures, c.from-p.ensures) (right c.args.self.p _ c.args.x (omega arith) (omega arith) c.args.self.quotient below)

pub overflow_cast-result-2 : goal.overflow_cast-result-2
overflow_cast-result-2 c =
    rw (c.from.ensures, c.from-2.ensures, c.from-p.ensures) (omega (arith, near c.args.self.p c.args.self.reciprocal c.args.x (omega arith) (omega arith) c.args.self.quotient))

pub returns : goal.returns
returns c =
    let above = rw (c.from.ensures, c.from-2.ensures, c.from-p.ensures) at c.if-rest-p.false in
    rw (c.from.ensures, c.from-2.ensures, c.from-p.ensures) (one_less c.args.self.p _ c.args.x (omega arith) (omega arith) c.args.self.quotient above)
