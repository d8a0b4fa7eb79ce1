-- The tests of order digits by a step size, or by none: which they are, and how deep.
-- Assumes nothing.
use mathlib.Core.Path.{◌≡◌, refl}
use Prim.Native.Nat.{ℕ, zero, suc, ◌≤◌}
use native.Mathlib.Omega.{arith}
use Rattle.field.specs.Half.{half}
use Rattle.comparison.specs.Tests.{digit_depth, base_tests}
use Rattle.step.specs.Digit.{step_tests, tests_by}
use Rattle.step.proofs.Promises.{step_depths}

pub by_none : (p step : ℕ) → step ≡ 0 → tests_by p step ≡ base_tests p
by_none p step e = rw e

pub by_step : (p step : ℕ) → 1 ≤ step → tests_by p step ≡ step_tests p step
by_step p zero l = absurd (omega arith)
by_step p (suc k) l = refl

-- L is at most a level deeper than document 01's
pub by_depths : (p step : ℕ) → 3 ≤ p → step ≤ half p
    → ((tests_by p step).less.depth ≤ suc (digit_depth p)) × ((tests_by p step).equal.depth ≡ digit_depth p)
by_depths p zero three low = (omega arith, refl)
by_depths p (suc k) three low =
    let deep = step_depths p (suc k) three (omega arith, low) in (deep.2, deep.3)
