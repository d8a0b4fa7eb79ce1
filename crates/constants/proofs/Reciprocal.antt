-- A remainder by two products: with m the floor of 65536 / p, the floor of x m / 65536 is the quotient of x by p or one less, for every x below 65536.
-- Assumes nothing.
use Rattle.std.proofs.Common.{◌≡◌, sym, ◌∙◌, ℕ, ◌+◌, ◌*◌, ◌/◌, ◌≤◌, ◌<◌, arith, mod-lt, mod-eq_of_lt, mul-le-mul_left, mul-le-mul_right, lit<}
use native.Mathlib.Nat.{mod-add-div'}
use Rattle.field.specs.Modular.{residue}
use Rattle.field.proofs.Modular.{mod_of, residue_is}

-- the quotient is not too large
pub quotient_low : (p m x q : ℕ) → m ≡ 65536 / p → q ≡ x * m / 65536 → q * p ≤ x
quotient_low p m x q e f =
    let whole : m * p ≤ 65536 = rw e (omega (arith, mod-add-div' 65536 p)) in
    let part : q * 65536 ≤ x * m = rw f (omega (arith, mod-add-div' (x * m) 65536)) in
    omega (arith, mul-le-mul_right p part, mul-le-mul_left x whole)

-- and too small by one at most
pub quotient_near : (p m x q : ℕ) → 0 < p → x < 65536 → m ≡ 65536 / p → q ≡ x * m / 65536 → x < (q + 2) * p
quotient_near p m x q some small e f =
    let whole : 65536 + 1 ≤ (m + 1) * p = rw e (omega (arith, mod-add-div' 65536 p, mod-lt 65536 some)) in
    let part : x * m + 1 ≤ (q + 1) * 65536 = rw f (omega (arith, mod-add-div' (x * m) 65536, mod-lt (x * m) {m = 65536} (lit< tt))) in
    let little : x + 1 ≤ 65536 = omega arith in
    omega (arith, mul-le-mul_right p part, mul-le-mul_left x whole, mul-le-mul_right p little)

-- what a multiple of p leaves, below p, is the remainder
pub rest_is : (p x k r : ℕ) → r < p → x ≡ r + k * p → r ≡ residue p x
rest_is p x k r h e =
    sym (residue_is p x (omega arith) ∙ mod_of p 0 k x r (omega (arith, e)) ∙ mod-eq_of_lt h)
