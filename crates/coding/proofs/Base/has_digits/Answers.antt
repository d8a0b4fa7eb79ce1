use Rattle.std.proofs.Common.{◌≡◌, ℕ, suc, ◌-◌, ◌*◌, ◌/◌, ◌^◌, ◌<◌, sym, ap, pow-suc, div-lt_iff_lt-mul, lt-ltb, arith}
use Rattle.std.proofs.Math.Nat.{pow-le-pow_right}
use Rattle.coding.proofs.Base.has_digits.Goals as goal

-- base^(i+1) is above every u64, and base^n no smaller
past : (x base n i power : ℕ) → 0 < base → x < 2 ^ 64 → i < n → power ≡ base ^ i → (2 ^ 64 - 1) / base < power → x < base ^ n
past x base n i power p fits l e above =
    let more : 2 ^ 64 - 1 < power * base = (div-lt_iff_lt-mul p).0 above in
    omega (arith, more, pow-suc base i, ap (λ (t : ℕ). t * base) e, pow-le-pow_right p {i = suc i} {j = n} l)

pub returns-then-most-power : goal.returns-then-most-power
returns-then-most-power c =
    let l = c.loop in
    sym (lt-ltb _ _ (past _ _ _ l.counter l.power c.args.self.some (omega arith) c.loop-test.true l.invariant c.if-most-power.true))
