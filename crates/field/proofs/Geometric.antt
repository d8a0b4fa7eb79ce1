-- The geometric sum of z and w, of n terms z^i w^(n-1-i): (z - w) times it is z^n - w^n, and for z = w it is n equal terms. For any numbers.
-- Assumes nothing.
use mathlib.Core.Path.{◌≡◌, refl, sym, ap, ◌∙◌}
use Prim.Native.Nat.{ℕ, suc, ◌+◌, ◌-◌, ◌*◌, ◌%◌, ◌^◌}
use native.Mathlib.Omega.{arith}
use native.Mathlib.Nat.{sub_self, sub-zero, pow-zero, pow-succ', mul-one, one-mul}
use lib.Pow.{pow-add}
use Rattle.field.specs.Sum.{sum}
use Rattle.field.proofs.Modular.{mul_cong, pow_cong}
use Rattle.field.proofs.Sum.{sum_shift, sum_mul, sum_same, sum_const, sum_cong}

abbrev pub geometric : ℕ → ℕ → ℕ → ℕ
geometric z w n = sum n (λ i. z ^ i * w ^ (n - suc i))

-- z and w times it, term by term
times_first : (z w n : ℕ) → z * geometric z w n ≡ sum n (λ i. z ^ suc i * w ^ (n - suc i))
times_first z w n = sym (sum_mul n z _) ∙ sum_same n _ _ (λ i l. rw (pow-succ' z i) (omega arith))

times_second : (z w n : ℕ) → w * geometric z w n ≡ sum n (λ i. z ^ i * w ^ (n - i))
times_second z w n =
    sym (sum_mul n w _)
    ∙ sum_same n _ _ (λ i l. let e : n - i ≡ suc (n - suc i) = omega arith in rw (e, pow-succ' w (n - suc i)) (omega arith))

-- both sides are the sum of z^i w^(n-i) over i ≤ n
pub telescope : (z w n : ℕ) → z * geometric z w n + w ^ n ≡ z ^ n + w * geometric z w n
unfolding sum
telescope z w n =
    let first : z ^ 0 * w ^ (n - 0) ≡ w ^ n = simp (pow-zero, sub-zero, one-mul) in
    let last : z ^ n * w ^ (n - n) ≡ z ^ n = simp (sub_self, pow-zero, mul-one) in
    omega (arith, times_first z w n, times_second z w n, sum_shift n (λ i. z ^ i * w ^ (n - i)))

pub geometric_same : (w n : ℕ) → w * geometric w w n ≡ n * w ^ n
geometric_same w n =
    times_first w w n
    ∙ sum_same n _ _ (λ i l. let e : suc i + (n - suc i) ≡ n = omega arith in sym (pow-add w (suc i) (n - suc i)) ∙ ap (λ (t : ℕ). w ^ t) e)
    ∙ sum_const n (w ^ n)

pub geometric_cong : (p z v w n : ℕ) → v % p ≡ w % p → geometric z v n % p ≡ geometric z w n % p
geometric_cong p z v w n h =
    sum_cong p n _ _ (λ i l. mul_cong p (z ^ i) (z ^ i) _ _ refl (pow_cong p v w (n - suc i) h))
