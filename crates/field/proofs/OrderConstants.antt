-- The exponents of the order polynomial and its constants, one by one.
-- Assumes nothing.
use mathlib.Core.Path.{◌≡◌, refl, ap, ◌∙◌}
use Prim.Native.Nat.{ℕ, zero, suc, ◌+◌, ◌-◌, ◌*◌, ◌/◌, ◌%◌, ◌^◌, ◌<◌}
use native.Mathlib.Omega.{arith}
use borrow.Author.Tests.{ne_eqb, eq-eqb}
use lib.ListN.{length, get_or}
use Rattle.field.specs.Sum.{sum}
use Rattle.field.specs.Polynomials.{every_second, order_constant}
use Rattle.field.proofs.Modular.{mod_same}
use Rattle.field.proofs.Sum.{sum_same}

-- ---- i, i + 2, ..

pub length_second : (n i : ℕ) → length (every_second n i) ≡ n
unfolding every_second
length_second zero i = refl
length_second (suc n) i = ap suc (length_second n (suc (suc i)))

pub second_at : (n i m : ℕ) → m < n → get_or (every_second n i) m 0 ≡ i + 2 * m
unfolding every_second
second_at zero i m l = absurd (omega arith)
second_at (suc n) i zero l = omega arith
second_at (suc n) i (suc m) l = second_at n (suc (suc i)) m (omega arith) ∙ omega arith

-- ---- the constants

-- for p = 2h + 1
module _ (p h : ℕ) (whole : p ≡ suc (2 * h)) where
  pub constant_odd : (k : ℕ) → k < h → order_constant p (1 + 2 * k) ≡ sum h (λ b. suc b ^ (2 * h - (1 + 2 * k))) % p
  unfolding order_constant
  constant_odd k l =
      let half : (p - 1) / 2 ≡ h = omega arith in
      rw (ne_eqb (1 + 2 * k) (p - 1) (λ q. omega arith), order_constant, half)
      (mod_same p (sum_same h _ _ (λ b m. ap (λ (t : ℕ). suc b ^ t) (omega arith))))

  pub constant_last : order_constant p (p - 1) ≡ suc h
  unfolding order_constant
  constant_last = rw (eq-eqb (p - 1) (p - 1) refl, order_constant) (omega arith)
