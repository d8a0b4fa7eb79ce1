-- The sum of x^k over x < p is 0 modulo p for every k < p - 1.
-- For any n, n^(k+1) is the sum over x < n of (x+1)^(k+1) - x^(k+1), so by the binomial theorem the sum over j ≤ k of C(k+1, j) times the sum of x^j.
-- At n = p the left side is 0, and so are the sums with j < k by induction. What is left is (k+1) times the sum of x^k, and k + 1 is not 0.
-- Assumes nothing.
use mathlib.Core.Path.{◌≡◌, sym, ◌∙◌}
use Prim.Native.Nat.{ℕ, zero, suc, ◌*◌, ◌%◌, ◌^◌, ◌≤◌, ◌<◌}
use native.Mathlib.Omega.{arith}
use native.Mathlib.Nat.{mod-eq_of_lt, mul-mod_right, pow-succ', zero-mul}
use native.Mathlib.Decide.{ℕ_discrete}
use Rattle.field.specs.Sum.{sum}
use Rattle.field.specs.Primes.{Prime}
use Rattle.field.specs.PowerSum.{PowerSum}
use Rattle.field.proofs.Modular.{mod_same, mul_none, none_add}
use Rattle.field.proofs.Sum.{sum_same, sum_mul, sum_swap, sum_none}
use Rattle.field.proofs.Binomial.{choose, choose_but_one, binomial_last}
use Rattle.field.proofs.Euclid.{other_factor}

abbrev powers : ℕ → ℕ → ℕ
powers n k = sum n (λ x. x ^ k)

steps : (n k : ℕ) → n ^ suc k ≡ sum n (λ x. sum (suc k) (λ j. choose (suc k) j * x ^ j))
unfolding sum
steps zero k = simp (pow-succ', zero-mul)
steps (suc n) k = omega (arith, steps n k, binomial_last (suc k) n)

by_powers : (n k : ℕ) → n ^ suc k ≡ sum (suc k) (λ j. choose (suc k) j * powers n j)
by_powers n k =
    steps n k ∙ sum_swap n (suc k) (λ x j. choose (suc k) j * x ^ j)
    ∙ sum_same (suc k) _ _ (λ j l. sum_mul n (choose (suc k) j) (λ x. x ^ j))

-- from the sums of lower powers
next : (p k : ℕ) → Prime p → suc k < p → ((j : ℕ) → j < k → powers p j % p ≡ 0) → powers p k % p ≡ 0
unfolding sum
next p k prime h lower =
    let small : suc k % p ≡ suc k = mod-eq_of_lt h in
    other_factor p (suc k) (powers p k) prime (omega arith)
    (rw (← choose_but_one k)
    (sym (none_add p (sum k term) (term k) (sum_none p k term (λ j l. mul_none p (choose (suc k) j) (powers p j) (lower j l))))
    ∙ mod_same p (sym (by_powers p k) ∙ pow-succ' p k)
    ∙ mul-mod_right p (p ^ k)))
  where
    term : ℕ → ℕ
    term j = choose (suc k) j * powers p j

below : (n p : ℕ) → Prime p → suc n ≤ p → (k : ℕ) → k < n → powers p k % p ≡ 0
below zero p prime h k l = absurd (omega arith)
below (suc n) p prime h k l = go (ℕ_discrete k n) (below n p prime (omega arith))
  where
    go : Dec (k ≡ n) → ((j : ℕ) → j < n → powers p j % p ≡ 0) → powers p k % p ≡ 0
    go (yes e) lower = next p k prime (omega arith) (λ j b. lower j (omega arith))
    go (no e) lower = lower k (omega arith)

pub power_sum : PowerSum
power_sum p k prime h = below (suc k) p prime h k (omega arith)
