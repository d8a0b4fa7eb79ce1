-- The squares that are left to write.
-- Assumes nothing.
use Rattle.std.proofs.Common.{◌≡◌, [], ◌∷◌, ℕ, suc, ◌+◌, ◌-◌, ◌≤◌, ◌<◌, arith}
use Rattle.circuit.specs.Gate.{Mul}
use Rattle.step.specs.Powers.{squares_from}

-- i of n are written, the first of gate g
pub squares_cons : (n i g : ℕ) → i < n → squares_from (n - i) (g + i) ≡ Mul (g + i) (g + i) ∷ squares_from (n - (i + 1)) (g + (i + 1))
unfolding squares_from
squares_cons n i g l =
    let e : n - i ≡ suc (n - (i + 1)) = omega arith in
    let next : g + (i + 1) ≡ suc (g + i) = omega arith in
    rw (e, next)

pub squares_none : (n i g : ℕ) → n ≤ i → squares_from (n - i) g ≡ []
unfolding squares_from
squares_none n i g l = let e : n - i ≡ 0 = omega arith in rw e
