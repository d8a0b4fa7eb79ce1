-- How far from 0 a constant is, from its sixteen bits: from 0 up and below 0.
-- Assumes nothing.
use Rattle.std.proofs.Common.{◌≡◌, true, ℕ, ◌-◌, ◌≤◌, ◌<◌}
use Rattle.field.specs.Half.{half}
use Rattle.circuit.specs.Constant.{is_constant, plus, minus, signed}
use Rattle.circuit.proofs.Constant.{near_zero, signed_plus, signed_minus}

module _ (p b : ℕ) (is : is_constant p (signed b) ≡ true) where
  pub above : b < 0x8000 → b ≤ half p
  above low = near_zero p (plus b) (rw (signed_plus b low) at is)

  pub below : 0x8000 ≤ b → (1 ≤ 0x10000 - b) × (0x10000 - b ≤ half p)
  below high = near_zero p (minus (0x10000 - b)) (rw (signed_minus b high) at is)
