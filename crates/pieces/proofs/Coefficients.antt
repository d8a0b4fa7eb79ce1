-- The bits of a coefficient: where they stand among the constants, that they are 0 where it is, and that a SCALE reads them as its constant.
-- Assumes nothing.
use Rattle.std.proofs.Common.{◌≡◌, sym, ap, ◌∙◌, List, ℕ, ◌+◌, ◌-◌, ◌*◌, ◌/◌, ◌%◌, ◌≤◌, ◌<◌, arith, lt_of_not-le, ne_eqb, eqb, get_or}
use Rattle.std.proofs.Math.Decide.{dec_le}
use Rattle.field.specs.Half.{half}
use Rattle.field.specs.Polynomials.{order_constant}
use Rattle.circuit.specs.Constant.{code, sixteen_bits, signed, bits_of}
use Rattle.circuit.proofs.Constant.{code_plus, code_minus, bits_code}
use Rattle.step.specs.Coefficient.{coefficient}
use Rattle.step.proofs.OrderParts.{at_odd, at_last, at_even, at_above, coefficient_below}
use Rattle.writer.specs.Modulus.{Modulus}
use Rattle.powers.specs.Prepared.{Constants}
use Rattle.powers.proofs.Constants.{bits_odd, bits_top}

-- of a number up to (p-1)/2 they are itself, of another one they are above 0
bits_low : (p c : ℕ) → c ≤ half p → bits_of p c ≡ c
bits_low p c l = ap sixteen_bits (code_plus p c l)

bits_high : (p c : ℕ) → half p < c → bits_of p c ≡ 0x10000 - (p - c)
bits_high p c l = ap sixteen_bits (code_minus p c l)

same_test : (p c : ℕ) → p < 0x10000 → eqb (bits_of p c) 0 ≡ eqb c 0
same_test p c small = go (dec_le c (half p))
  where
    go : Dec (c ≤ half p) → eqb (bits_of p c) 0 ≡ eqb c 0
    go (yes low) = ap (λ (b : ℕ). eqb b 0) (bits_low p c low)
    go (no high) =
        let l = lt_of_not-le high in
        ne_eqb (bits_of p c) 0 (λ e. absurd (omega (arith, bits_high p c l))) ∙ sym (ne_eqb c 0 (λ e. absurd (omega arith)))

module _ (p : ℕ) (modulus : Modulus p) (e : ℕ) where
  -- ---- where they stand

  none : coefficient p e ≡ 0 → 0 ≡ bits_of p (coefficient p e)
  none zero = sym (ap (bits_of p) zero ∙ bits_low p 0 (omega arith))

  pub bits_even : e % 2 ≡ 0 → e < p - 1 → 0 ≡ bits_of p (coefficient p e)
  bits_even even l = none (at_even p modulus.0 modulus.1 e even l)

  pub bits_above : p - 1 < e → 0 ≡ bits_of p (coefficient p e)
  bits_above l = none (at_above p modulus.0 modulus.1 e (omega arith))

  module _ (list : List ℕ) (c : Constants p list) where
    pub bits_last : e ≡ p - 1 → get_or list (e / 2) 0 ≡ bits_of p (coefficient p e)
    bits_last last = rw last (bits_top p list c ∙ ap (bits_of p) (sym (at_last p modulus.0 modulus.1)))

    pub bits_below : e % 2 ≡ 1 → e < p - 1 → get_or list (e / 2) 0 ≡ bits_of p (coefficient p e)
    bits_below odd l =
        let same : 2 * (e / 2) + 1 ≡ e = omega arith in
        bits_odd p list c (e / 2) (omega arith)
        ∙ ap (λ (i : ℕ). bits_of p (order_constant p i)) same
        ∙ ap (bits_of p) (sym (at_odd p modulus.0 modulus.1 e odd l))

  -- ---- the two ways in which a term reads them

  pub bits_test : eqb (bits_of p (coefficient p e)) 0 ≡ eqb (coefficient p e) 0
  bits_test = same_test p (coefficient p e) (omega (arith, modulus))

  pub bits_read : signed (bits_of p (coefficient p e)) ≡ code p (coefficient p e)
  bits_read =
      (bits_code p (coefficient p e) modulus.1 (omega (arith, modulus)) (coefficient_below p modulus.0 modulus.1 e)).1
