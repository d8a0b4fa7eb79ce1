-- The tests of a step digit as they are written: the powers, the squares, the whole polynomial as one piece, and E.
-- Assumes nothing.
use Rattle.std.proofs.Common.{◌≡◌, sym, ap, ap₂, ◌∙◌, List, map, ℕ, suc, ◌+◌, ◌-◌, arith, length, length-append}
use Rattle.circuit.specs.Gate.{Gate}
use Rattle.comparison.specs.Bits.{bits}
use Rattle.comparison.specs.Difference.{z_gate}
use Rattle.comparison.specs.Digits.{unless_lowest, order_tests}
use Rattle.comparison.specs.EqualityDigit.{zero_chain}
use Rattle.comparison.specs.OrderDigit.{ascending, low_power, power_of}
use Rattle.step.specs.Coefficient.{coefficient}
use Rattle.step.specs.Digit.{step_sum, step_gates, step_less, step_equal, step_tests, IsStep}
use Rattle.step.specs.Pieces.{Piece, piece}
use Rattle.step.specs.Powers.{top_level, squares_from, step_powers}
use Rattle.step.proofs.Digit.{powers_length, less_size}
use Rattle.writer.specs.declared.Writer.{Writer}
use Rattle.writer.specs.Modulus.{Modulus}
use Rattle.writer.specs.Writing.{Writes}
use Rattle.writer.proofs.Writing.{same_writes, follows}

-- ---- L

module _ (p step : ℕ) (modulus : Modulus p) (is : IsStep p step) (z : ℕ) where
  raised : length (step_powers p step z) ≡ (step - 1) + (top_level p step - 1)
  raised = powers_length p step modulus.0 modulus.1 is.0 is.1 z

  pub less_length : length (step_gates p step z) ≡ (step - 1) + (top_level p step - 1) + length (step_sum p step z).gates
  less_length = omega (arith, raised, length-append (step_powers p step z) (step_sum p step z).gates)

  -- the whole polynomial, from the gate after the powers on
  pub whole_is : (count k : ℕ) → count ≡ top_level p step → k ≡ z + 1 + (step - 1) + (count - 1)
      → piece p step z (coefficient p) count 0 k ≡ step_sum p step z
  whole_is count k e here =
      let start : k ≡ suc z + length (step_powers p step z) = omega (arith, raised) in
      ap₂ (λ (n m : ℕ). piece p step z (coefficient p) n 0 m) e start

  -- powers, squares and the sum, one after the other
  pub less_wrote : {w w₁ w₂ w₃ : Writer} (count : ℕ) → count ≡ top_level p step → w.pen.next ≡ z + 1
      → Writes w (map (power_of z) (ascending (step - 1) 2)) w₁ → w₁.pen.next ≡ w.pen.next + (step - 1)
      → Writes w₁ (squares_from (count - 1) (w₁.pen.next - 1)) w₂ → w₂.pen.next ≡ w₁.pen.next + (count - 1)
      → Writes w₂ (piece p step z (coefficient p) count 0 w₂.pen.next).gates w₃ → Writes w (step_gates p step z) w₃
  less_wrote {w₁ = w₁} {w₂ = w₂} count e next low after squares more whole =
      let one = is.0 in
      let gate : w₁.pen.next - 1 ≡ low_power z step = omega arith in
      let above = same_writes (ap₂ squares_from (ap (λ (n : ℕ). n - 1) e) gate) squares in
      follows (follows low above) (same_writes (ap (λ (x : Piece). x.gates) (whole_is count w₂.pen.next e (omega arith))) whole)

-- ---- both, over the difference whose first gate is number k

module _ (p step : ℕ) (modulus : Modulus p) (is : IsStep p step) (k next : ℕ) (here : next ≡ k + 3) where
  less_here : step_gates p step (next - 1) ≡ (step_less p step).gates k
  less_here = let e : next - 1 ≡ z_gate k = omega arith in ap (step_gates p step) e

  pub less_size_here : length (step_gates p step (next - 1)) ≡ (step_less p step).count
  less_size_here = less_size p step modulus.0 modulus.1 is.0 is.1 (next - 1) 0

  -- E follows L
  pub equal_here : (end : ℕ) → end ≡ next + length (step_gates p step (next - 1)) → zero_chain (bits (p - 1)) end (k + 2) ≡ (step_equal p step).gates k
  equal_here end e =
      let after : end ≡ suc (z_gate k + (step_less p step).count) = omega (arith, less_size_here) in
      let z : k + 2 ≡ z_gate k = omega arith in
      ap₂ (zero_chain (bits (p - 1))) after z

  module _ (j : ℕ) where
    pub tests_length : length (order_tests (step_tests p step) j k)
        ≡ length (step_gates p step (next - 1)) + length (unless_lowest j ((step_equal p step).gates k))
    tests_length =
        length-append ((step_less p step).gates k) (unless_lowest j ((step_equal p step).gates k))
        ∙ ap (λ (gates : List Gate). length gates + length (unless_lowest j ((step_equal p step).gates k))) (sym less_here)

    pub tests_wrote : {w w₁ w₂ : Writer} → Writes w (step_gates p step (next - 1)) w₁
        → Writes w₁ (unless_lowest j ((step_equal p step).gates k)) w₂ → Writes w (order_tests (step_tests p step) j k) w₂
    tests_wrote less equal = follows (same_writes less_here less) equal
