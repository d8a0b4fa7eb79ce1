-- The b of a SCALE by x modulo p: the remainder of x moved up by p / 2, moved down again within sixteen bits.
-- Assumes nothing.
use Rattle.std.proofs.Common.{◌≡◌, refl, sym, ap, ◌∙◌, ℕ, ◌+◌, ◌-◌, ◌/◌, ◌%◌, ◌≤◌, ◌<◌, arith, mod-lt, mod-eq_of_lt, lt_of_not-le}
use native.Mathlib.Decide.{dec_le}
use native.Mathlib.Nat.{mod-mod}
use Rattle.field.specs.Half.{half}
use Rattle.field.specs.Modular.{residue}
use Rattle.field.proofs.Modular.{mod_of, add_cong, residue_is}
use Rattle.circuit.specs.Constant.{sixteen_bits, bits_of}
use Rattle.circuit.proofs.Constant.{code_plus, code_minus}

module _ (p : ℕ) (odd : p % 2 ≡ 1) (small : p ≤ 0x10000) where
  -- of a number below p: up to (p-1)/2 nothing is taken away, and above it p
  below : (c : ℕ) → c < p → Dec (c ≤ half p) → ((c + p / 2) % p + 0x10000 - p / 2) % 0x10000 ≡ bits_of p c
  below c l (yes low) =
      let moved : (c + p / 2) % p ≡ c + p / 2 = mod-eq_of_lt (omega arith) in
      let down : c + p / 2 + 0x10000 - p / 2 ≡ c + 0x10000 = omega arith in
      let cut : (c + 0x10000) % 0x10000 ≡ c = omega arith in
      rw (moved, down, cut) (sym (ap sixteen_bits (code_plus p c low)))
  below c l (no above) =
      let high = lt_of_not-le above in
      let around : (c + p / 2) % p ≡ (c + p / 2 - p) % p = mod_of p 0 1 _ _ (omega arith) in
      let moved : (c + p / 2) % p ≡ c + p / 2 - p = around ∙ mod-eq_of_lt (omega arith) in
      let down : c + p / 2 - p + 0x10000 - p / 2 ≡ 0x10000 - (p - c) = omega arith in
      let whole : (0x10000 - (p - c)) % 0x10000 ≡ 0x10000 - (p - c) = mod-eq_of_lt (omega arith) in
      rw (moved, down, whole) (sym (ap sixteen_bits (code_minus p c high)))

  pub bits_moved : (x : ℕ) → (residue p (x + p / 2) + 0x10000 - p / 2) % 0x10000 ≡ bits_of p (residue p x)
  bits_moved x =
      let some : 0 < p = omega arith in
      let same : (x + p / 2) % p ≡ (x % p + p / 2) % p = add_cong p x (x % p) (p / 2) (p / 2) (sym (mod-mod x p)) refl in
      rw (residue_is p (x + p / 2) some, residue_is p x some, same) (below (x % p) (mod-lt x some) (dec_le (x % p) (half p)))
