-- The nodes of sums and powers as the code holds them.
-- Assumes nothing.
use Rattle.std.proofs.Common.{◌≡◌, ap, ◌∙◌, inl, List, ℕ, ◌+◌, ◌≤◌, arith, get_or}
use Rattle.field.specs.Half.{half}
use Rattle.field.specs.Logarithm.{clog}
use Rattle.comparison.specs.OrderDigit.{power_gate, low_power}
use Rattle.comparison.proofs.Powers.{gate_low}
use Rattle.powers.specs.Prepared.{Prepared}
use Rattle.writer.specs.declared.Node.{Node}

-- z^e for e up to (p-1)/2: the node that is read for it
module _ (p e : ℕ) (one : 1 ≤ e) (low : e ≤ half p) where
  pub power_read : (z : ℕ) (constants depths : List ℕ) {power : Node} → Prepared p constants depths
      → (power.gate ≡ z + power_gate p 0 e) × (power.depth ≡ get_or depths (power_gate p 0 e) 0)
      → (power.gate ≡ low_power z e) × (power.depth ≡ clog e)
  power_read z constants depths prepared read = (
    read.0 ∙ ap (λ (g : ℕ). z + g) (gate_low p 0 e low) ∙ omega arith,
    read.1 ∙ prepared.deep.known e (one, omega arith, inl low) (omega arith),
  )
