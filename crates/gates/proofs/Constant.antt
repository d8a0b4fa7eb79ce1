-- Sixteen bits are a constant exactly where, moved up by p / 2 and cut to sixteen bits again, they are below p.
-- Assumes nothing.
use Rattle.std.proofs.Common.{◌≡◌, sym, ap, ◌∙◌, ℕ, ◌+◌, ◌-◌, ◌/◌, ◌%◌, ◌≤◌, ◌<◌, arith, lt_of_not-le, lt-ltb, le-ltb, le-leb, ltb, leb}
use mathlib.Core.Bool.{and-false}
use native.Mathlib.Decide.{dec_le}
use borrow.Author.Tests.{lt-leb}
use Rattle.field.specs.Half.{half}
use Rattle.circuit.specs.Constant.{plus, minus, is_constant, signed}
use Rattle.circuit.proofs.Constant.{is_near_zero, signed_plus, signed_minus}

module _ (p b : ℕ) (odd : p % 2 ≡ 1) (small : p ≤ 0x10000) (bits : b < 0x10000) where
  abbrev moved : ℕ
  moved = (b + p / 2) % 0x10000

  uncut : b + p / 2 < 0x10000 → moved ≡ b + p / 2
  uncut l = omega arith

  cut : 0x10000 ≤ b + p / 2 → moved + 0x10000 ≡ b + p / 2
  cut l = omega arith

  -- from 0 up nothing is cut off, and what is above (p-1)/2 comes to p or more
  plus_moved : b < 0x8000 → Dec (b ≤ half p) → ltb moved p ≡ is_constant p (plus b)
  plus_moved low (yes near) = lt-ltb moved p (omega (arith, uncut (omega arith))) ∙ sym (le-leb b (half p) near)
  plus_moved low (no far) =
      let above = lt_of_not-le far in le-ltb moved p (omega (arith, uncut (omega arith))) ∙ sym (lt-leb b (half p) above)

  -- below 0 the constants pass 0x10000, and what is left is how far they are above -(p-1)/2; what is below that is not cut, and is p or more
  minus_moved : 0x8000 ≤ b → Dec (0x10000 - b ≤ half p) → ltb moved p ≡ is_constant p (minus (0x10000 - b))
  minus_moved high (yes near) = lt-ltb moved p (omega (arith, cut (omega arith))) ∙ sym (is_near_zero p (minus (0x10000 - b)) (omega arith, near))
  minus_moved high (no far) =
      let below = lt_of_not-le far in le-ltb moved p (omega (arith, uncut (omega arith))) ∙ sym (rw (lt-leb (0x10000 - b) (half p) below) (and-false (leb 1 (0x10000 - b))))

  pub constant_moved : ltb moved p ≡ is_constant p (signed b)
  constant_moved = go (dec_le 0x8000 b)
    where
      go : Dec (0x8000 ≤ b) → ltb moved p ≡ is_constant p (signed b)
      go (yes high) = minus_moved high (dec_le (0x10000 - b) (half p)) ∙ ap (is_constant p) (sym (signed_minus b high))
      go (no low) =
          let up = lt_of_not-le low in plus_moved up (dec_le b (half p)) ∙ ap (is_constant p) (sym (signed_plus b up))
