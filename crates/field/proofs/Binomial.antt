-- Binomial coefficients by Pascal's rule, and the binomial theorem for a + 1.
-- Assumes nothing.
use mathlib.Core.Path.{◌≡◌, refl, sym, ap, ◌∙◌}
use Prim.Native.Nat.{ℕ, zero, suc, ◌+◌, ◌*◌, ◌^◌, ◌<◌}
use native.Mathlib.Omega.{arith}
use native.Mathlib.Nat.{pow-zero, pow-succ'}
use Rattle.field.specs.Sum.{sum}
use Rattle.field.proofs.Sum.{sum_shift, sum_add, sum_mul, sum_same}

unfoldable pub choose : ℕ → ℕ → ℕ
choose n zero = 1
choose zero (suc k) = 0
choose (suc n) (suc k) = choose n k + choose n (suc k)

choose_over : (n k : ℕ) → n < k → choose n k ≡ 0
unfolding choose
choose_over n zero h = absurd (omega arith)
choose_over zero (suc k) h = refl
choose_over (suc n) (suc k) h = omega (arith, choose_over n k (omega arith), choose_over n (suc k) (omega arith))

pub choose_self : (n : ℕ) → choose n n ≡ 1
unfolding choose
choose_self zero = refl
choose_self (suc n) = omega (arith, choose_self n, choose_over n (suc n) (omega arith))

-- all but one
pub choose_but_one : (n : ℕ) → choose (suc n) n ≡ suc n
unfolding choose
choose_but_one zero = refl
choose_but_one (suc n) = omega (arith, choose_but_one n, choose_self (suc n))

-- the coefficient at n + 1, k + 1 from that at n, k
pub absorb : (n k : ℕ) → suc k * choose (suc n) (suc k) ≡ suc n * choose n k
unfolding choose
absorb zero zero = refl
absorb zero (suc k) = omega arith
absorb (suc n) zero = omega (arith, absorb n zero)
absorb (suc n) (suc k) = omega (arith, absorb n k, absorb n (suc k))

-- ---- the binomial theorem

abbrev row : ℕ → ℕ → ℕ
row n a = sum (suc n) (λ k. choose n k * a ^ k)

-- the first term apart; one past the end is 0
row_tail : (n a : ℕ) → row n a ≡ 1 + sum (suc n) (λ k. choose n (suc k) * a ^ suc k)
unfolding sum choose
row_tail n a =
    let past : choose n (suc n) * a ^ suc n ≡ 0 * a ^ suc n = ap (λ (t : ℕ). t * a ^ suc n) (choose_over n (suc n) (omega arith)) in
    omega (arith, sum_shift (suc n) (λ k. choose n k * a ^ k), pow-zero a)

-- Pascal's rule: each term after the first is a times a term of the row before, and the term after that
term_next : (n a k : ℕ) → choose (suc n) (suc k) * a ^ suc k ≡ a * (choose n k * a ^ k) + choose n (suc k) * a ^ suc k
unfolding choose
term_next n a k = omega (arith, ap (λ (t : ℕ). choose n k * t) (pow-succ' a k))

row_next : (n a : ℕ) → row (suc n) a ≡ suc a * row n a
unfolding choose
row_next n a =
    omega (
      arith,
      sum_shift (suc n) (λ k. choose (suc n) k * a ^ k),
      sum_same (suc n) _ _ (λ k l. term_next n a k),
      sum_add (suc n) (λ k. a * (choose n k * a ^ k)) (λ k. choose n (suc k) * a ^ suc k),
      sum_mul (suc n) a (λ k. choose n k * a ^ k),
      row_tail n a,
      pow-zero a,
    )

binomial : (n a : ℕ) → suc a ^ n ≡ row n a
unfolding sum choose
binomial zero a = simp pow-zero
binomial (suc n) a = pow-succ' (suc a) n ∙ ap (λ (t : ℕ). suc a * t) (binomial n a) ∙ sym (row_next n a)

-- the last term apart
pub binomial_last : (n a : ℕ) → suc a ^ n ≡ sum n (λ k. choose n k * a ^ k) + a ^ n
unfolding sum
binomial_last n a = omega (arith, binomial n a, ap (λ (t : ℕ). t * a ^ n) (choose_self n))

-- the first and the last term apart
pub binomial_ends : (n a : ℕ) → suc a ^ suc n ≡ suc (a ^ suc n) + sum n (λ k. choose (suc n) (suc k) * a ^ suc k)
unfolding choose
binomial_ends n a =
    omega (arith, binomial_last (suc n) a, sum_shift n (λ k. choose (suc n) k * a ^ k), pow-zero a)
