-- The level of the whole polynomial: the least j for which step·2^j reaches its degree.
-- By induction on the doublings.
-- Assumes nothing.
use mathlib.Core.Path.{◌≡◌, refl, ap}
use mathlib.Core.Bool.{Bool, true, false}
use Prim.Native.Nat.{ℕ, zero, suc, ◌-◌, ◌*◌, ◌^◌, ◌≤◌, ◌<◌}
use native.Mathlib.Omega.{arith}
use native.Mathlib.Nat.{pow-succ', mul-le-mul_right}
use borrow.Author.Tests.{leb-true, leb-false}
use lib.Dec.{leb}
use Rattle.step.specs.Powers.{doublings, top_level}
use Rattle.step.specs.Promises.{LeastLevel}

pub less_power : (n : ℕ) → n < 2 ^ n
less_power zero = omega arith
less_power (suc n) = omega (arith, less_power n)

doubled : (m d : ℕ) → 2 * m * 2 ^ d ≡ m * 2 ^ suc d
doubled m d = omega (arith, ap (λ (t : ℕ). m * t) (pow-succ' 2 d))

-- one test: it reaches
reach_step : (m t d : ℕ) (b : Bool) → (b ≡ true → t ≤ m) → t ≤ m * 2 ^ suc d
    → t ≤ m * 2 ^ (elim b as (λ _. ℕ) [ true ↦ 0 | false ↦ suc d ])
reach_step m t d true low h = omega (arith, low refl)
reach_step m t d false low h = h

reaches : (most m t : ℕ) → t ≤ m * 2 ^ most → t ≤ m * 2 ^ doublings most m t
unfolding doublings
reaches zero m t h = h
reaches (suc most) m t h =
    reach_step m t (doublings most (2 * m) t) (leb t m) (leb-true t m)
    (omega (arith, reaches most (2 * m) t (omega (arith, doubled m most)), doubled m (doublings most (2 * m) t)))

-- and half of it does not
least_step : (m t d i : ℕ) (b : Bool) → (b ≡ false → m < t) → ((j : ℕ) → d ≡ suc j → m * 2 ^ suc j < t)
    → (elim b as (λ _. ℕ) [ true ↦ 0 | false ↦ suc d ]) ≡ suc i → m * 2 ^ i < t
least_step m t d i true high h e = absurd (omega arith)
least_step m t zero i false high h e = let first : i ≡ 0 = omega arith in rw first (omega (arith, high refl))
least_step m t (suc j) i false high h e = let same : i ≡ suc j = omega arith in rw same (h j refl)

least : (most m t i : ℕ) → doublings most m t ≡ suc i → m * 2 ^ i < t
unfolding doublings
least zero m t i e = absurd (omega arith)
least (suc most) m t i e =
    least_step m t (doublings most (2 * m) t) i (leb t m) (leb-false t m)
    (λ j f. omega (arith, least most (2 * m) t j f, doubled m j)) e

module _ (p step : ℕ) (one : 1 ≤ step) where
  pub top_reaches : p - 1 ≤ step * 2 ^ top_level p step
  top_reaches =
      reaches (p - 1) step (p - 1) (omega (arith, less_power (p - 1), mul-le-mul_right (2 ^ (p - 1)) one))

  pub top_least : (i : ℕ) → top_level p step ≡ suc i → step * 2 ^ i < p - 1
  top_least i e = least (p - 1) step (p - 1) i e

  pub top_some : step < p - 1 → 1 ≤ top_level p step
  top_some l = go (top_level p step) top_reaches
    where
      go : (d : ℕ) → p - 1 ≤ step * 2 ^ d → 1 ≤ d
      go zero r = absurd (omega arith)
      go (suc d) r = omega arith

pub least_level : LeastLevel
least_level p step three is =
    (top_some p step is.0 (omega (arith, is.1)), top_reaches p step is.0, top_least p step is.0)
