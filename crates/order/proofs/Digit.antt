-- One order digit: its gates are the difference and its tests, and document 01's tests are the powers, the terms and E, and how many they are.
-- Assumes nothing.
use Rattle.std.proofs.Common.{◌≡◌, refl, sym, ap, Bool, true, false, [], ◌∷◌, ◌++◌, ℕ, ◌+◌, ◌-◌, arith, length, length-append}
use Rattle.field.specs.Polynomials.{order_exponents}
use Rattle.circuit.specs.Gate.{Left, Right, Flip}
use Rattle.comparison.specs.Difference.{minus, z_gate}
use Rattle.comparison.specs.Digits.{unless_lowest, order_tests, order_digit}
use Rattle.comparison.specs.OrderDigit.{power_gate, powers, less_count, power_count, terms, term_start, less_gates, equal_gates}
use Rattle.comparison.specs.Relation.{is_backward}
use Rattle.comparison.specs.Tests.{Tests, base_tests}
use Rattle.comparison.proofs.OrderDigit.{less_length}
use Rattle.writer.specs.declared.Slots.{Slots}
use Rattle.writer.specs.declared.Writer.{Writer}
use Rattle.writer.specs.Modulus.{Modulus}
use Rattle.writer.specs.Writing.{Writes}
use Rattle.writer.proofs.Writing.{same_writes, follows}
use Rattle.order.specs.Slots.{order_relation, order_condition}
use Rattle.order.proofs.Terms.{place_from}

-- ---- E

-- the FLIP of z^(p-1), which stands at its place after z
pub flip_is : (p k : ℕ) {g : ℕ} → g ≡ k + 2 + power_gate p 0 (p - 1) → Flip g ∷ [] ≡ equal_gates p k
flip_is p k e =
    let z : k + 2 ≡ z_gate k = omega arith in
    rw (e, z, place_from p (z_gate k) (p - 1))

-- ---- document 01's tests

module _ (p j k : ℕ) where
  pub tests_length : Modulus p → length (order_tests (base_tests p) j k) ≡ less_count p + length (unless_lowest j (equal_gates p k))
  tests_length odd =
      omega (arith, length-append (less_gates p k) (unless_lowest j (equal_gates p k)), less_length p odd.0 odd.1 k)

  -- powers, terms and E, one after the other
  pub tests_wrote : {w w₁ w₂ w₃ : Writer} → w.pen.next ≡ k + 3 → Writes w (powers p (k + 2)) w₁ → w₁.pen.next ≡ w.pen.next + power_count p
      → Writes w₁ (terms p (k + 2) w₁.pen.next (order_exponents p)) w₂ → Writes w₂ (unless_lowest j (equal_gates p k)) w₃
      → Writes w (order_tests (base_tests p) j k) w₃
  tests_wrote {w₁ = w₁} here raised more summed ended =
      let z : k + 2 ≡ z_gate k = omega arith in
      let start : w₁.pen.next ≡ term_start p k = omega arith in
      let sum = same_writes (ap (λ (next : ℕ). terms p (z_gate k) next (order_exponents p)) start) (rw z at summed) in
      follows (follows (rw z at raised) sum) ended

-- ---- the digit

-- the relation subtracts so
backward_is : (backward : Bool) → is_backward (order_relation backward) ≡ backward
backward_is true = refl
backward_is false = refl

module _ (t : Tests) (backward : Bool) (slots : Slots) (j : ℕ) where
  digit_is : (k : ℕ)
      → order_digit t (order_condition backward slots) j k
      ≡ (Left (slots.left + j) ∷ Right (slots.right + j) ∷ minus backward k ∷ []) ++ order_tests t j k
  digit_is k = rw (backward_is backward)

  -- difference and tests, one after the other
  pub digit_wrote : {w w₁ w₂ : Writer}
      → Writes w (Left (slots.left + j) ∷ Right (slots.right + j) ∷ minus backward w.pen.next ∷ []) w₁
      → Writes w₁ (order_tests t j w.pen.next) w₂ → Writes w (order_digit t (order_condition backward slots) j w.pen.next) w₂
  digit_wrote {w = w} differed tested = same_writes (sym (digit_is w.pen.next)) (follows differed tested)
